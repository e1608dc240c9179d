use Rattle.gl_header.proofs.Words.{◌++◌, ◌≡◌, drop, front, held_by, IsGroup, IsOrderly, length, pumped_members, slot_limit}
use Rattle.gl_header.proofs.changes.grant_front.Given as goal

-- granting on from the current members and the waiters after those granted is the rest of granting from the start
abbrev pub invariant-loop-slot : goal.invariant-loop-slot
invariant-loop-slot l = record {
  counted : length l.granted.items ≡ l.slot-index;
  waiters : l.slot-items ≡ l.fn.queue.items;
  group : IsGroup l.group;
  orderly : IsOrderly (held_by l.group) (drop l.slot-index l.slot-items);
  granted : l.granted.items ++ front slot_limit (held_by l.group) (drop l.slot-index l.slot-items) ≡ front slot_limit (held_by l.fn.group) l.fn.queue.items;
  members : pumped_members slot_limit (held_by l.group) (drop l.slot-index l.slot-items) ≡ pumped_members slot_limit (held_by l.fn.group) l.fn.queue.items;
}
