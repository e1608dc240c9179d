use Rattle.std.proofs.Common.{◌<◌, List, rules, subst, sym}
use Rattle.gl_slots.specs.Limit.{most_slots}
use Rattle.gl_slots.specs.Slots.{has_slot}
use Rattle.gl_catalog.specs.Manager.{state_of}
use Rattle.gl_waiting.specs.Waiters.{KnowsDue}
use Rattle.gl_waiting.specs.declared.waiter.Place.{Place}
use Rattle.gl_waiting.proofs.Awaiting.{due_climbing}
use Rattle.gl_waiting.proofs.waiter_table.WaiterTable.climb.Goals as goal

pub invariant_of-self : goal.invariant_of-self
invariant_of-self c =
    let s = state_of c.self.inside.delivery.manager in
    let below : c.args.waiter.txn.slot < most_slots = search rules in
    subst (λ (places : List Place). KnowsDue (has_slot c.insert.new.self) s places) (sym c.put.ensures.put)
    (due_climbing c.self.inside.due c.insert.new.self s c.self.inside.places c.args.waiter c.law.ensures.lawful below
    c.put.ensures.slots c.insert.ensures c.self.invariant)
