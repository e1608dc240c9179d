use Rattle.gl_table.proofs.Words.{◌==◌, ◌∙◌, ◌≡◌, age_in, ap, ap₂, Condemned, if◌then◌else◌, is_wait, is_waiting_at, IsBetween, Mode, rules, Some, State}
use Rattle.gl_table.proofs.Words.{state_at, status_of, subst, sym, told_to, Waiting, waiting_is, ℕ}
use Rattle.gl_model.specs.declared.answers.Notice.TheVariants as notice
use Rattle.gl_model.proofs.telling.GivenUp.{between_withdrawn, TellsVictim, victim_absent, victim_told, victim_untold}
use Rattle.gl_table.proofs.locks.Locks.condemn.Goals.{After-tell, After-withdraw}
use Rattle.gl_table.proofs.locks.Locks.condemn.Goals as goal

abbrev before : After-withdraw → State
before c = state_at c.args.self.now

waits : (c : After-withdraw) → (m : Mode) × (status_of (before c) c.args.slot ≡ Some (Waiting c.in-Some-Waiting.node m))
waits c = waiting_is (status_of (before c) c.args.slot) c.in-Some-Waiting.node (search rules)

pub tell-requires-clause-absent : goal.tell-requires-clause-absent
tell-requires-clause-absent c = let w = waits (goal.at.tell-requires-clause-absent c).After-withdraw in
    victim_absent (before (goal.at.tell-requires-clause-absent c).After-withdraw) c.args.self.now.orderly c.args.slot c.in-Some-Waiting.node w.0 w.1
    c.args.told.now.items c.withdraw.new.told.items c.withdraw.ensures.tells (c.requires.tell.untold c.args.slot c.requires.waits)

tells : (c : After-tell) → TellsVictim (state_at c.args.self.now) c.args.slot c.in-Some-Waiting.node c.args.told.now.items
    c.tell.new.told.items
tells c = λ u. c.tell.ensures.notices u
    ∙ ap₂ (λ (a : ℕ) x. if u == c.args.slot then Some (record { slot = c.args.slot; age = a }, notice.Victim) else x) (ap age_in c.in-Some-Waiting.ensures)
    (c.withdraw.ensures.tells.notices u)

pub returns-in-Some-Waiting-clause-untold : goal.returns-in-Some-Waiting-clause-untold
returns-in-Some-Waiting-clause-untold c = let at = goal.at.returns-in-Some-Waiting-clause-untold c in let w = waits at.After-withdraw in
    λ u h. victim_untold (before at.After-withdraw) c.args.self.now.orderly c.args.slot c.in-Some-Waiting.node w.0 w.1 c.args.told.now.items
    c.tell.new.told.items
    (tells at.After-tell) c.requires.tell.untold u (ap (λ (x : State). is_wait (status_of x u)) (sym c.withdraw.ensures.state) ∙ h)

pub returns-in-Some-Waiting-clause-keeps_between : goal.returns-in-Some-Waiting-clause-keeps_between
returns-in-Some-Waiting-clause-keeps_between c = let s = state_at c.args.self.now in
    λ start between. subst (IsBetween start) (sym c.withdraw.ensures.state)
    (between_withdrawn start s c.args.slot Condemned (is_waiting_at s c.args.slot) (λ q m e. cc) between)

pub returns-in-Some-Waiting-clause-tells : goal.returns-in-Some-Waiting-clause-tells
returns-in-Some-Waiting-clause-tells c = let at = goal.at.returns-in-Some-Waiting-clause-tells c in let w = waits at.After-withdraw in record {
  by_slot = c.tell.ensures.by_slot;
  all = λ start between same u. victim_told (before at.After-withdraw) c.args.self.now.orderly c.args.slot c.in-Some-Waiting.node w.0 w.1 c.args.told.now.items
      c.tell.new.told.items (tells at.After-tell) start between same u ∙ ap (λ x. told_to start x u) (sym c.withdraw.ensures.state);
}
