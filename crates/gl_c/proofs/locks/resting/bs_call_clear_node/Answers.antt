use Rattle.std.proofs.Common.{subst, sym, ◌∙◌}
use Rattle.gl_modes.specs.declared.node.NodeId.{NodeId}
use Rattle.gl_waiting.specs.declared.resting.Number.{Number}
use Rattle.gl_waiting.specs.declared.resting.Whom.TheVariants as whom
use Rattle.gl_c.specs.locks.Resting.{end_call, number_of_ends}
use Rattle.gl_c.specs.managers.Carries.{Carries}
use Rattle.gl_c.specs.managers.Handle.{guarded_in}
use Rattle.gl_c.specs.Numbers.{mode_at}
use Rattle.gl_c.proofs.Carrying.{where_some}
use Rattle.gl_c.proofs.locks.resting.bs_call_clear_node.Goals as goal

pub returns : goal.returns
returns c =
    where_some (mode_at c.args.mode) c.in-Some.mode _ _ (sym c.mode_at.ensures ∙ c.in-Some.is)
    (subst (λ (n : NodeId). Carries (guarded_in c.args.manager.now) (end_call (whom.Holding n c.in-Some.mode) (number_of_ends c.args.one))
    c.end_resting.result c.end_resting.new.told (guarded_in c.end_resting.new.self)) c.id-node.ensures
    (subst (λ (x : Number). Carries (guarded_in c.args.manager.now) (end_call (whom.Holding c.id-node.result c.in-Some.mode) x)
    c.end_resting.result c.end_resting.new.told (guarded_in c.end_resting.new.self)) c.number_of_ends.ensures c.end_resting.ensures))
