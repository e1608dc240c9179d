-- A place may move to another thread: its watcher may, and its allocator.
use base.Fraction.{full_share}
use base.Shift.{Keyless}
use denote.Builtin.{RawPtr}
use denote.Memory.{lone}
use denote.Param.Send.{IsSend, owning_send, part_keyless, sendable}
use denote.RawPtr.{Ptr, block_ptr, null_ptr, lies_at}
use mir.Raw.{raw}
use Rattle.std.specs.Prelude.{Option, None, Some}
use Rattle.std.specs.Box.Ownership.{box_owns}
use Rattle.std.specs.contracts.impls.GlobalAllocator.TheImpl.{ghosts}
use Rattle.std.specs.declared.alloc.Global.{Global}
use Rattle.std.proofs.Crossing.{frees}
use Rattle.std.proofs.alloc.Global.TheSendSync as heap_crosses
use Rattle.gl_window.specs.Strip.{Strip}
use Rattle.gl_c.specs.watchers.Posted.{owns_watcher}
use Rattle.gl_c.specs.contracts.watchers.lookout.posted.Posted.{the_row, the_type}
use Rattle.gl_c.specs.contracts.watchers.watcher.Watcher as session
use Rattle.gl_c.proofs.watchers.watcher.Watcher.TheSendSync as session_crosses

-- a watcher in memory; at null there is none
lying : (m : Strip) (p : Ptr) → Keyless (lies_at session.the_row full_share p m)
lying m null_ptr = tt
lying m (block_ptr b o) =
    part_keyless session.the_row session_crosses.the_send full_share m b o

-- and the right to free its block
boxed : (a : Global) (m : Strip) (p : Ptr)
    → Keyless (box_owns (ghosts.dealloc_token a) session.the_row p m)
boxed a m p = (lying m p, frees.frees a (raw (lone (session.the_row).mir)) p)

-- what a place owns, with a watcher or without
owned : (a : Global) (p : Ptr) (o : Option Strip) → Keyless (owns_watcher a p o)
owned a p None = tt
owned a p (Some m) = boxed a m p

pointer : IsSend RawPtr
pointer = search sendable

pub send : IsSend the_row
send =
    owning_send the_type
    (pointer, (heap_crosses.the_field_send, tt))
    (λ d. owned d.alloc d.at d.known)
    (λ kept d words. tt)
