use Rattle.std.proofs.Common.{rules, subst, sym, ◌∙◌}
use Rattle.gl_modes.proofs.Words.{both, clash, not_true}
use Rattle.gl_slots.specs.Slots.{HasNoSlot}
use Rattle.gl_catalog.specs.Manager.{state_of}
use Rattle.gl_waiting.specs.Owned.{resting_of}
use Rattle.gl_waiting.specs.Resting.{RestingView, RestsWell}
use Rattle.gl_waiting.proofs.Rests.{fewer_crossed}
use Rattle.gl_waiting.proofs.resting.Resting.in_the_way.Goals as goal

pub returns-clause-keeps : goal.returns-clause-keeps
returns-clause-keeps c =
    let s = state_of c.args.manager.now in
    let none : HasNoSlot c.intersection-found.result = search rules in
    fewer_crossed s (resting_of c.self.inside) c.empty-self-inside.result
    (λ t was gone u rests. not_true _ (λ waits. clash (c.intersection-found.ensures.both u ∙ both _ _ (c.waited_for_by.ensures.all t u was waits) rests)
    (none u)))
    (subst (λ (v : RestingView). RestsWell s v) (sym c.self.view_is) c.requires.rest)
