use Rattle.std.specs.Prelude.{Bool, true, false, not, ◌&&◌, ◌||◌, ◌==◌, Option, Some, None, Result, Ok, Err}
use Rattle.std.proofs.Common.{◌≡◌, ap, arith, refl, rules, subst, sym, ◌∙◌}
use Rattle.gl_modes.proofs.Words.{no}
use Rattle.gl_modes.specs.declared.refusal.Refusal.{Refusal}
use Rattle.gl_slots.specs.Limit.{most_slots}
use Rattle.gl_slots.specs.Slots.{has_slot}
use Rattle.gl_model.specs.State.{State}
use Rattle.gl_model.specs.declared.txn.TxnId.{TxnId}
use Rattle.gl_steps.specs.declared.command.Command.TheVariants as command
use Rattle.gl_catalog.specs.Manager.{state_of}
use Rattle.gl_waiting.specs.Asking.{InTurn, KeepsLocks}
use Rattle.gl_waiting.specs.Owned.{resting_of}
use Rattle.gl_waiting.specs.Resting.{RestingView, RestsWell, has_begun}
use Rattle.gl_waiting.proofs.Renewed.{begins_to_rest, may_below}
use Rattle.gl_waiting.proofs.Rests.{more_rests, same_slot}
use Rattle.gl_waiting.proofs.Runs.{run_idle}
use Rattle.gl_waiting.proofs.TurnRuns.{turn_run}
use Rattle.gl_waiting.proofs.resting.Resting.commit_keeping.Goals as goal

-- no command was counted

pub returns-then-accepted-before-clause-keeps : goal.returns-then-accepted-before-clause-keeps
returns-then-accepted-before-clause-keeps c =
    let run = (turn_run c.args.waiting.now _ c.commit_keeping-next.result.1 c.commit_keeping-next.new.self c.commit_keeping-next.ensures
    (command.Commit c.args.txn) (λ own mid h. h.run)).0 in
    let low : c.commit_keeping-next.new.self.manager.accepted ≡ c.args.waiting.now.manager.accepted = search rules in
    subst (λ (s : State). RestsWell s c.args.self.now)
    (sym (run_idle run.0 (state_of c.args.waiting.now.manager) (state_of c.commit_keeping-next.new.self.manager) run.1 (omega (arith, low)))) c.requires.law

-- some were

begun_is : (x : Result (Option TxnId) Refusal) → has_begun x ≡ true → (t : TxnId) × (x ≡ Ok (Some t))
begun_is (Ok (Some t)) h = (t, refl)
begun_is (Ok None) h = absurd (no h)
begun_is (Err e) h = absurd (no h)

pub insert-requires : goal.insert-requires
insert-requires c =
    let v = c.args.waiting.now in
    let next = begun_is c.commit_keeping-next.result.0 (sym c.has_begun.ensures ∙ c.if-has_begun.true) in
    may_below (state_of c.commit_keeping-next.new.self.manager) c.args.txn.slot most_slots c.law-2.ensures.manager.lawful
    (begins_to_rest v c.law.ensures.manager.lawful c.args.txn c.args.keep c.args.since next.0 c.commit_keeping-next.new.told.items
    c.commit_keeping-next.result.1 c.commit_keeping-next.new.self
    (subst (λ (x : Result (Option TxnId) Refusal). InTurn v (λ ended mid. KeepsLocks v c.args.txn c.args.keep c.args.since x
    c.commit_keeping-next.new.told.items ended mid) c.commit_keeping-next.result.1 c.commit_keeping-next.new.self) next.1 c.commit_keeping-next.ensures))
    c.law-2.ensures.manager.few

pub returns-then-has_begun-clause-rest : goal.returns-then-has_begun-clause-rest
returns-then-has_begun-clause-rest c =
    let begun : has_begun c.commit_keeping-next.result.0 ≡ true = sym c.has_begun.ensures ∙ c.if-has_begun.true in
    record {
      counted = λ _ u.
          c.insert.ensures u ∙ ap (λ (r : RestingView). has_slot r.resting u || (u == c.args.txn.slot)) c.self.view_is
          ∙ ap (λ b. b || (u == c.args.txn.slot)) (c.rouse.ensures.rest u)
          ∙ ap (λ b. (has_slot c.args.self.now.resting u && not (u == c.args.txn.slot)) || (b && (u == c.args.txn.slot))) (sym begun);
      uncounted = search rules;
    }

pub returns-then-has_begun-clause-keeps : goal.returns-then-has_begun-clause-keeps
returns-then-has_begun-clause-keeps c =
    let v = c.args.waiting.now in
    let next = begun_is c.commit_keeping-next.result.0 (sym c.has_begun.ensures ∙ c.if-has_begun.true) in
    let may = begins_to_rest v c.law.ensures.manager.lawful c.args.txn c.args.keep c.args.since next.0 c.commit_keeping-next.new.told.items
    c.commit_keeping-next.result.1 c.commit_keeping-next.new.self
    (subst (λ (x : Result (Option TxnId) Refusal). InTurn v (λ ended mid. KeepsLocks v c.args.txn c.args.keep c.args.since x
    c.commit_keeping-next.new.told.items ended mid) c.commit_keeping-next.result.1 c.commit_keeping-next.new.self) next.1 c.commit_keeping-next.ensures) in
    let s = state_of c.commit_keeping-next.new.self.manager in
    more_rests s (resting_of c.self.inside) c.insert.new.self c.args.txn.slot c.insert.ensures may.active may.intends may.alone
    (subst (λ (r : RestingView). RestsWell s r) (sym c.self.view_is)
    (c.rouse.ensures.keeps (state_of v.manager) (command.Commit c.args.txn) c.law.ensures.manager.lawful
    (turn_run v _ c.commit_keeping-next.result.1 c.commit_keeping-next.new.self c.commit_keeping-next.ensures (command.Commit c.args.txn)
    (λ own mid h. h.run)) (λ u e. same_slot u c.args.txn e) c.requires.law))

-- none began

or_none : (a b : Bool) → b ≡ false → (w : Bool) → a ≡ (a || (b && w))
or_none a b h w = search rules

pub returns-else-has_begun-clause-rest : goal.returns-else-has_begun-clause-rest
returns-else-has_begun-clause-rest c =
    let none : has_begun c.commit_keeping-next.result.0 ≡ false = sym c.has_begun.ensures ∙ c.if-has_begun.false in
    record {
      counted = λ _ u. c.rouse.ensures.rest u ∙ or_none _ (has_begun c.commit_keeping-next.result.0) none (u == c.args.txn.slot);
      uncounted = search rules;
    }

pub returns-else-has_begun-clause-keeps : goal.returns-else-has_begun-clause-keeps
returns-else-has_begun-clause-keeps c =
    let v = c.args.waiting.now in
    c.rouse.ensures.keeps (state_of v.manager) (command.Commit c.args.txn) c.law.ensures.manager.lawful
    (turn_run v _ c.commit_keeping-next.result.1 c.commit_keeping-next.new.self c.commit_keeping-next.ensures (command.Commit c.args.txn)
    (λ own mid h. h.run)) (λ u e. same_slot u c.args.txn e) c.requires.law
