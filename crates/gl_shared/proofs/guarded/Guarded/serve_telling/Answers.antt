use Rattle.std.proofs.Common.{rules, arith, ◌≡◌, ◌<◌, ◌^◌, ◌∙◌, true, false, ap, subst, sym, List}
use Rattle.gl_steps.specs.Served.{accepts}
use Rattle.gl_model.specs.State.{State}
use Rattle.gl_steps.proofs.Detection.{steps_keep_detect}
use Rattle.gl_catalog.specs.Manager.{state_of}
use Rattle.gl_wakes.specs.Boxes.{Delivers, Slot, cleared}
use Rattle.gl_wakes.specs.Wakes.{HasEnded}
use Rattle.gl_shared.specs.State.{GuardedView}
use Rattle.gl_modes.proofs.Words.{clash}
use Rattle.gl_shared.proofs.Batches.{none_accepted, one_accepted, serves_still}
use Rattle.gl_shared.proofs.Idle.{quiet_on}
use Rattle.gl_wakes.proofs.Clearing.{cleared_yes}
use Rattle.gl_wakes.proofs.Rising.{step_rises}
use Rattle.gl_wakes.proofs.Waking.{ended_none}
use Rattle.gl_steps.proofs.Serving.{step_counts}
use Rattle.gl_shared.proofs.guarded.Guarded.serve_telling.Goals as goal

pub overflow_add-self : goal.overflow_add-self
overflow_add-self g c =
    let counts = step_counts _ _ _ _ _ c.apply_telling-answer.ensures.step in
    let yes : accepts c.args.command c.apply_telling-answer.result ≡ true = search rules in
    let more = counts.accepted yes in
    let top : c.accepted-counted.result < 2 ^ 64 = search rules in
    let is = c.accepted-counted.ensures in
    let a = c.self.invariant.1 in
    let b = c.self.invariant.2 in
    omega (arith, more, top, is, a, b)

pub deliver-ended-requires : goal.deliver-ended-requires
deliver-ended-requires g c = step_rises _ _ _ _ _ c.law.ensures.few c.apply_telling-answer.ensures.step

pub invariant_of-self : goal.invariant_of-self
invariant_of-self g c =
    let no : accepts c.args.command c.apply_telling-answer.result ≡ false = search rules in
    let same = c.apply_telling-answer.ensures.same (ap (λ (s : State). s.accepted)
    ((step_counts _ _ _ _ _ c.apply_telling-answer.ensures.step).not_accepted no).0) in
    rw same c.self.invariant

pub returns-then-not-is_accepted-clause-serves : goal.returns-then-not-is_accepted-clause-serves
returns-then-not-is_accepted-clause-serves g c =
    let no : accepts c.args.command c.apply_telling-answer.result ≡ false = search rules in
    let still = (step_counts _ _ _ _ _ c.apply_telling-answer.ensures.step).not_accepted no in
    let same = c.apply_telling-answer.ensures.same (ap (λ (s : State). s.accepted) still.0) in
    serves_still _ _ _ _ _ (search rules) no (rw same c.self.view_is) still.1

pub returns-then-not-is_accepted-clause-share : goal.returns-then-not-is_accepted-clause-share
returns-then-not-is_accepted-clause-share g c =
    let no : accepts c.args.command c.apply_telling-answer.result ≡ false = search rules in
    omega (arith, none_accepted no)

pub returns-clause-serves : goal.returns-clause-serves
returns-clause-serves g c =
    let yes : accepts c.args.command c.apply_telling-answer.result ≡ true = search rules in
    let told = c.apply_telling-answer.new.told.items in
    let same = ap (λ (v : GuardedView). v.boxes) c.self.view_is in
    let one_more = one_accepted yes in
    let total = c.add.ensures.total in
    record {
      step = search rules;
      boxes = subst (λ (b : List Slot). (mid : List Slot) × Delivers b told mid
          × (c.deliver-ended.new.self ≡ cleared c.args.command c.apply_telling-answer.result mid)) same
          (cleared_yes c.args.command c.apply_telling-answer.result told c.self.inside.boxes c.deliver-ended.new.self yes c.deliver-ended.ensures.puts);
      not_accepted = λ no. clash yes no;
      book = omega (arith, ap (λ (v : GuardedView). v.book) c.self.view_is, total, one_more);
      waited = λ _. search rules;
      list = search rules;
    }

pub returns-clause-share : goal.returns-clause-share
returns-clause-share g c =
    let yes : accepts c.args.command c.apply_telling-answer.result ≡ true = search rules in
    omega (arith, one_accepted yes)

pub invariant_of-self-2 : goal.invariant_of-self-2
invariant_of-self-2 g c =
    let yes : accepts c.args.command c.apply_telling-answer.result ≡ true = search rules in
    let more = (step_counts _ _ _ _ _ c.apply_telling-answer.ensures.step).accepted yes in
    let total = c.add.ensures.total in
    let a = c.self.invariant.1 in
    let b = c.self.invariant.2 in
    let low = c.self.invariant.4 in (
      c.self.invariant.0,
      omega (arith, total, a),
      omega (arith, total, b, more),
      steps_keep_detect _ _ _ _ _ c.apply_telling-answer.ensures.step ∙ c.self.invariant.3,
      omega (arith, low, more),
      quiet_on _ _ _ _ c.leaves_waiting.result _ _ _ c.leaves_waiting.ensures c.self.invariant.5 c.apply_telling-answer.ensures.step,
    )

pub returns-then-not-is_accepted-clause-rising : goal.returns-then-not-is_accepted-clause-rising
returns-then-not-is_accepted-clause-rising g c = step_rises _ _ _ _ _ c.law.ensures.few c.apply_telling-answer.ensures.step

pub returns-clause-rising : goal.returns-clause-rising
returns-clause-rising g c = step_rises _ _ _ _ _ c.law.ensures.few c.apply_telling-answer.ensures.step

pub returns-then-not-is_accepted-clause-ended : goal.returns-then-not-is_accepted-clause-ended
returns-then-not-is_accepted-clause-ended g c =
    let no : accepts c.args.command c.apply_telling-answer.result ≡ false = search rules in
    let still = (step_counts _ _ _ _ _ c.apply_telling-answer.ensures.step).not_accepted no in
    let before = state_of c.self.inside.manager in
    subst (λ (v : GuardedView). HasEnded (state_of v.manager) (state_of c.apply_telling-answer.new.self) c.empty.result) c.self.view_is
    (subst (λ (s : State). HasEnded before s c.empty.result) (sym still.0) (ended_none before c.empty.result))

pub returns-then-not-is_accepted-clause-woken : goal.returns-then-not-is_accepted-clause-woken
returns-then-not-is_accepted-clause-woken g c =
    let no : accepts c.args.command c.apply_telling-answer.result ≡ false = search rules in
    λ yes. clash yes no

pub returns-clause-ended : goal.returns-clause-ended
returns-clause-ended g c =
    subst (λ (v : GuardedView). HasEnded (state_of v.manager) (state_of c.apply_telling-answer.new.self) c.deliver-ended.result) c.self.view_is
    (c.deliver-ended.ensures.ended _ _ _ c.apply_telling-answer.ensures.step)
