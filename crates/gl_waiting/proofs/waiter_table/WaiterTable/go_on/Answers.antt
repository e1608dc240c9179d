use Rattle.std.proofs.Common.{◌≡◌, ◌<◌, List, refl, subst, sym, ap, ◌∙◌}
use Rattle.std.specs.Prelude.{true, None, Some, slice_set}
use Rattle.gl_slots.specs.Limit.{most_slots}
use Rattle.gl_slots.specs.Slots.{has_slot}
use Rattle.gl_slots.specs.declared.slots.Slots.{Slots}
use Rattle.gl_catalog.specs.Manager.{state_of}
use Rattle.gl_wakes.specs.Wakes.{HasEnded}
use Rattle.gl_waiting.specs.Asking.{GoesOnBy}
use Rattle.gl_waiting.specs.Ends.{IsNext}
use Rattle.gl_waiting.specs.Waiters.{KnowsDue, goes_on, place_at, place_of}
use Rattle.gl_waiting.specs.Waiting.{WaitingView}
use Rattle.gl_waiting.specs.declared.waiter.Place.{Place}
use Rattle.gl_waiting.proofs.Awaiting.{carries_ended, due_put, next_due, next_waiter, none_due, others_due, placed_still, placed_txn, stays_due, waiting_with}
use Rattle.gl_waiting.proofs.waiter_table.WaiterTable.go_on.Goals as goal

pub invariant_of-self : goal.invariant_of-self
invariant_of-self c =
    none_due (state_of c.self.inside.delivery.manager) c.self.inside.delivery.boxes c.self.inside.places (has_slot c.self.inside.due)
    (has_slot c.empty-self-inside.result) c.self.invariant
    (subst (λ (v : WaitingView). IsNext v None) (sym c.self.view_is) c.in_default.ensures)

pub put-requires : goal.put-requires
put-requires c =
    let next = subst (λ (v : WaitingView). IsNext v (Some (c.in-Some.waiter, c.in-Some.next))) (sym c.self.view_is) c.in-Some.ensures in
    let is = next_waiter (state_of c.self.inside.delivery.manager) c.self.inside.delivery.boxes (place_at c.self.inside.places next.0) c.in-Some.waiter
    c.in-Some.next next.1 in
    let own = c.self.invariant.own next.0 c.in-Some.waiter is in
    subst (λ k. k < most_slots) (sym own.0) own.1

pub invariant_of-self-2 : goal.invariant_of-self-2
invariant_of-self-2 c =
    let d = c.self.inside.delivery in
    let d' = c.continue_by-came.new.delivery in
    let w = c.in-Some.waiter in
    let came = c.continue_by-came.result.0 in
    let ended = c.continue_by-came.result.1 in
    let due = c.self.inside.due in
    let due' = c.due_after-self-inside.result in
    let call = c.continue_by-came.ensures.call in
    let next = subst (λ (v : WaitingView). IsNext v (Some (w, c.in-Some.next))) (sym c.self.view_is) c.in-Some.ensures in
    let is = next_waiter (state_of d.manager) d.boxes (place_at c.self.inside.places next.0) w c.in-Some.next next.1 in
    let own = c.self.invariant.own next.0 w is in
    let below = subst (λ k. k < most_slots) (sym own.0) own.1 in
    let was : has_slot due w.txn.slot ≡ true =
    ap (has_slot due) own.0
    ∙ next_due (has_slot due) (state_of d.manager) d.boxes c.self.inside.places next.0 (w, c.in-Some.next) c.self.invariant next.1 in
    let ends = subst (λ (e : Slots). HasEnded (state_of d.manager) (state_of d'.manager) e) call.2
    (carries_ended d d' call.0.command call.0.told call.0.ended call.0.carries) in
    subst (λ (places : List Place). KnowsDue (has_slot due') (state_of d'.manager) places) (sym c.put.ensures.put)
    (subst (λ (p : Place). KnowsDue (has_slot due') (state_of d'.manager) (slice_set c.self.inside.places w.txn.slot p)) (sym c.place.ensures)
    (due_put (state_of d.manager) (state_of d'.manager) ended c.law.ensures.lawful ends due due' c.self.inside.places w.txn (place_of w came)
    (placed_txn w came) below c.put.ensures.slots
    (λ out. placed_still (state_of d'.manager) w came
    (stays_due due ended due' w.txn.slot (goes_on came) c.due_after-self-inside.ensures was out) c.continue_by-came.ensures.waits)
    (others_due due ended due' w.txn.slot (goes_on came) c.due_after-self-inside.ensures) c.self.invariant))

pub returns : goal.returns
returns c =
    subst
    (λ (v : WaitingView). GoesOnBy v c.in-Some.waiter.txn c.continue_by-came.result.0 c.continue_by-came.new.told.items c.continue_by-came.result.1
    (waiting_with c.continue_by-came.new.delivery c.put.new.self c.self.inside.begins)) c.self.view_is
    (record {
      waiter = c.in-Some.waiter;
      next = c.in-Some.next;
      is_next = subst (λ (v : WaitingView). IsNext v (Some (c.in-Some.waiter, c.in-Some.next))) (sym c.self.view_is) c.in-Some.ensures;
      txn = refl;
      continues = c.continue_by-came.ensures.continues;
      call = c.continue_by-came.ensures.call;
      places = c.put.ensures.put ∙ ap (λ (p : Place). slice_set c.self.inside.places c.in-Some.waiter.txn.slot p) c.place.ensures;
      queue = refl;
      begun = refl;
    })
