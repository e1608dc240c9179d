use Rattle.std.specs.Prelude.{◌==◌, ◌&&◌, ◌||◌, Bool, false, not, true}
use Rattle.std.proofs.Common.{◌≡◌, ap, arith, rules, subst, sym, ◌∙◌}
use Rattle.std.proofs.Math.Bool.{or-false}
use Rattle.gl_modes.proofs.Words.{number_same, same_number, split}
use Rattle.gl_slots.specs.Slots.{has_slot}
use Rattle.gl_model.specs.State.{State}
use Rattle.gl_steps.specs.declared.command.Command.TheVariants as command
use Rattle.gl_table.specs.Table.{living_in}
use Rattle.gl_catalog.specs.Manager.{ManagerView, state_of}
use Rattle.gl_waiting.specs.Resting.{RestsWell, is_counted}
use Rattle.gl_waiting.proofs.Rests.{named_is, same_slot}
use Rattle.gl_waiting.proofs.Runs.{run_idle}
use Rattle.gl_waiting.proofs.TurnRuns.{turn_run}
use Rattle.gl_waiting.proofs.resting.Resting.end_one.Goals as goal

-- it is counted

pub returns-then-accepted-count-clause-commits : goal.returns-then-accepted-count-clause-commits
returns-then-accepted-count-clause-commits c = record {
  alive = (named_is (state_of c.args.waiting.now.manager) c.args.slot c.in-Some.txn c.in-Some.field-0-1
      (ap (λ (m : ManagerView). living_in (state_of m) c.args.slot) (sym c.manager.ensures) ∙ sym c.living.ensures ∙ c.in-Some.is)).1;
  serves = c.serve-answer.ensures;
}

pub returns-then-accepted-count-clause-slots : goal.returns-then-accepted-count-clause-slots
returns-then-accepted-count-clause-slots c =
    let counted : is_counted c.args.waiting.now c.serve-answer.new.self ≡ true =
    split (c.serve-answer.new.self.manager.accepted == c.args.waiting.now.manager.accepted)
    (λ e. let same : c.serve-answer.new.self.manager.accepted ≡ c.args.waiting.now.manager.accepted = same_number _ _ e in
    let counts : c.accepted.result ≡ c.accepted-count.result = search (rules, same) in absurd (c.if-accepted-count.true counts))
    (λ e. ap not e) in
    λ u. c.insert.ensures u ∙ ap (λ (b : Bool). has_slot c.args.before u || (b && (u == c.args.slot))) (sym counted)

pub returns-then-accepted-count-clause-keeps : goal.returns-then-accepted-count-clause-keeps
returns-then-accepted-count-clause-keeps c =
    let same : c.in-Some.txn.slot ≡ c.args.slot = search rules in
    c.rouse.ensures.keeps (state_of c.args.waiting.now.manager) (command.Commit c.in-Some.txn) c.law.ensures.manager.lawful
    (turn_run c.args.waiting.now _ c.serve-answer.result.1 c.serve-answer.new.self c.serve-answer.ensures (command.Commit c.in-Some.txn)
    (λ own mid h. h.run)) (λ u e. subst (λ x. (u.slot == x) ≡ true) same (same_slot u c.in-Some.txn e)) c.requires.law

-- or not

pub returns-else-accepted-count-clause-commits : goal.returns-else-accepted-count-clause-commits
returns-else-accepted-count-clause-commits c = record {
  alive = (named_is (state_of c.args.waiting.now.manager) c.args.slot c.in-Some.txn c.in-Some.field-0-1
      (ap (λ (m : ManagerView). living_in (state_of m) c.args.slot) (sym c.manager.ensures) ∙ sym c.living.ensures ∙ c.in-Some.is)).1;
  serves = c.serve-answer.ensures;
}

pub returns-else-accepted-count-clause-slots : goal.returns-else-accepted-count-clause-slots
returns-else-accepted-count-clause-slots c =
    let low : c.serve-answer.new.self.manager.accepted ≡ c.args.waiting.now.manager.accepted = search rules in
    let none : is_counted c.args.waiting.now c.serve-answer.new.self ≡ false = ap not (number_same _ _ low) in
    λ u. sym (ap (λ b. has_slot c.args.before u || (b && (u == c.args.slot))) none ∙ or-false (has_slot c.args.before u))

pub returns-else-accepted-count-clause-keeps : goal.returns-else-accepted-count-clause-keeps
returns-else-accepted-count-clause-keeps c =
    let run = (turn_run c.args.waiting.now _ c.serve-answer.result.1 c.serve-answer.new.self c.serve-answer.ensures
    (command.Commit c.in-Some.txn) (λ own mid h. h.run)).0 in
    let low : c.serve-answer.new.self.manager.accepted ≡ c.args.waiting.now.manager.accepted = search rules in
    subst (λ (s : State). RestsWell s c.args.self.now)
    (sym (run_idle run.0 (state_of c.args.waiting.now.manager) (state_of c.serve-answer.new.self.manager) run.1 (omega (arith, low))))
    c.requires.law
