use Rattle.std.proofs.Common.{refl, subst, sym, ◌∙◌}
use Rattle.gl_modes.proofs.Words.{and_both}
use Rattle.gl_catalog.specs.Manager.{state_of}
use Rattle.gl_waiting.specs.Owned.{resting_of}
use Rattle.gl_waiting.specs.Resting.{RestingView, RestsWell}
use Rattle.gl_waiting.proofs.Rests.{fewer_rest}
use Rattle.gl_waiting.proofs.resting.Resting.wake.Goals as goal

pub returns-clause-keeps : goal.returns-clause-keeps
returns-clause-keeps c = λ well.
    let s = state_of c.args.waiting.now.manager in
    fewer_rest s (resting_of c.self.inside) (record { resting = c.remove.new.self; crossed = c.self.inside.crossed })
    (λ u is. (and_both _ _ (sym (c.remove.ensures.left u) ∙ is)).0) refl (subst (λ (v : RestingView). RestsWell s v) (sym c.self.view_is) well)
