use Rattle.std.proofs.Common.{List, subst, sym, ◌∙◌}
use Rattle.gl_slots.specs.Slots.{has_slot}
use Rattle.gl_catalog.specs.Manager.{state_of}
use Rattle.gl_waiting.specs.Waiters.{KnowsDue}
use Rattle.gl_waiting.specs.declared.waiter.Place.{Place}
use Rattle.gl_waiting.proofs.Awaiting.{due_registered, verdict_still, waits_below}
use Rattle.gl_waiting.proofs.waiter_table.WaiterTable.await_request.Goals as goal

pub invariant_of-self : goal.invariant_of-self
invariant_of-self c =
    let w = c.args.waiter in
    let s = state_of c.self.inside.delivery.manager in
    let waits = verdict_still s w.txn w.at w.wanted c.self.inside.delivery.boxes (sym c.verdict.ensures ∙ c.in-None.is) in
    subst (λ (places : List Place). KnowsDue (has_slot c.self.inside.due) s places) (sym c.put.ensures.put)
    (due_registered c.self.inside.due s c.self.inside.places w c.law.ensures.lawful (waits_below s w.txn c.law.ensures.lawful c.law.ensures.few w.at waits)
    c.put.ensures.slots waits c.self.invariant)
