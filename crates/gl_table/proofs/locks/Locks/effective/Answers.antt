use Rattle.gl_table.proofs.Words.{◌≡◌, IfOk, subst}
use Rattle.gl_table.proofs.inside.Says.{effect-said}
use Rattle.gl_model.specs.declared.answers.Effect.{Effect}
use Rattle.gl_table.proofs.locks.Locks.effective.Goals as goal

pub returns : goal.returns
returns c = subst (λ (e : Effect). IfOk c.effective.result (λ effect. effect ≡ e)) (effect-said c.args.self.now c.args.slot c.args.node) c.effective.ensures
