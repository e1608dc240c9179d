-- The last deadlock, in C's memory.
use Rattle.std.specs.Prelude.{◌≡◌, ◌≢◌, ◌⊎◌, [], Option, Some, None, length, map, take}
use Rattle.gl_slots.specs.Slots.{bits_of, has_slot}
use Rattle.gl_model.specs.declared.deadlock.Deadlock.{Deadlock as TheDeadlock}
use Rattle.gl_model.specs.declared.deadlock.Stuck.{Stuck as TheStuck}
use Rattle.gl_c.specs.declared.questions.deadlock.Deadlock.{Deadlock}
use Rattle.gl_c.specs.declared.questions.deadlock.Stuck.{Stuck}
use Rattle.gl_c.specs.declared.answers.reply.Reply.{Reply}
use Rattle.gl_c.specs.Boards.{slots_of}
use Rattle.gl_c.specs.managers.Carries.{Declines}
use Rattle.gl_c.specs.managers.Guarded.{GuardedView}
use Rattle.gl_c.specs.Names.{node_of, txn_of}
use Rattle.gl_c.specs.Numbers.{done, mode_number, no_manager, no_place}
use Rattle.gl_c.specs.answers.Replies.{status_reply}

-- a transaction that waits on a cycle
abbrev pub stuck_of : TheStuck → Stuck
stuck_of s = record { txn = txn_of s.txn; node = node_of s.node; mode = mode_number s.wanted; waits_for = slots_of (bits_of (has_slot s.waits_for)) }

-- the victim, and in the places up to the count all on the cycle, in their order
pub record Says (d : Deadlock) (e : TheDeadlock) : Type 0 where
  pub victim : d.victim ≡ txn_of e.victim
  pub counted : d.count ≡ length e.cycle.items
  pub listed : take d.count d.at ≡ map stuck_of e.cycle.items

-- what is written of the last deadlock: nothing if there was none
abbrev pub RecallsLast : TheDeadlock → Reply → Deadlock → Deadlock → Type 0
RecallsLast e r d d' = ((e.cycle.items ≡ []) × (r ≡ status_reply no_place) × (d' ≡ d)) ⊎ ((e.cycle.items ≢ []) × (r ≡ status_reply done) × Says d' e)

-- a call that asks for the last deadlock: nothing changes
abbrev pub Recalls : Option GuardedView → Reply → Deadlock → Deadlock → Option GuardedView → Type 0
Recalls None r d d' s' = Declines None no_manager r s' × (d' ≡ d)
Recalls (Some g) r d d' s' = RecallsLast g.manager.table.deadlock r d d' × (s' ≡ Some g)
