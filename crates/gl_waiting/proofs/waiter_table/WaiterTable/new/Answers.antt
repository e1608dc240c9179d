use Rattle.std.proofs.Common.{subst, sym, List}
use Rattle.gl_slots.specs.Limit.{most_slots}
use Rattle.gl_slots.specs.Slots.{has_slot}
use Rattle.gl_catalog.specs.Manager.{state_of}
use Rattle.gl_waiting.specs.Waiters.{KnowsDue}
use Rattle.gl_waiting.specs.declared.waiter.Place.{Place}
use Rattle.gl_waiting.proofs.Awaiting.{due_none}
use Rattle.gl_waiting.proofs.waiter_table.WaiterTable.new.Goals as goal

pub invariant_of-result : goal.invariant_of-result
invariant_of-result c =
    subst (λ (ps : List Place). KnowsDue (has_slot c.empty.result) (state_of c.args.delivery.manager) ps) (sym c.new.ensures)
    (due_none (state_of c.args.delivery.manager) c.empty.result most_slots)
