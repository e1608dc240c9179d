-- When watchers are told.
use Rattle.std.specs.Prelude.{Bool, true, false, not, ◌&&◌, Option, Some, None, if◌then◌else◌}
use Rattle.gl_slots.specs.Slots.{has_none, has_slot}
use Rattle.gl_slots.specs.declared.slots.Slots.{Slots}
use Rattle.gl_header.specs.Header.{is_empty}
use Rattle.gl_model.specs.Tellings.{Told}
use Rattle.gl_catalog.specs.Counters.{grants}
use Rattle.gl_steps.specs.Served.{leaves_waiting}
use Rattle.gl_steps.specs.declared.command.Answer.{Answer}
use Rattle.gl_steps.specs.declared.command.Command.{Command}
use Rattle.gl_steps.specs.declared.command.Command.TheVariants as command
use Rattle.gl_window.specs.declared.telling.Telling.{Telling}
use Rattle.gl_window.specs.declared.telling.Telling.TheVariants.{Always, WhileWaiting}

-- whether watchers are told of an accepted command
abbrev pub is_due : Telling → Bool → Bool
is_due Always waited = true
is_due WhileWaiting waited = waited

-- whether a command changes no wait if it tells nobody, and none of these parties to waits gives it: it locks at once, tries or releases; makes a node or a
-- transaction; or forgets a record
abbrev pub spares_waits : Slots → Command → Answer → Bool
spares_waits parties (command.Inner ps) a = true
spares_waits parties (command.File ps) a = true
spares_waits parties (command.Index ps f bs) a = true
spares_waits parties command.Begin a = true
spares_waits parties (command.BeginAgain since) a = true
spares_waits parties (command.Join t since) a = true
spares_waits parties (command.Lock t n m) a = grants a && not (has_slot parties t.slot)
spares_waits parties (command.Try t n m) a = not (has_slot parties t.slot)
spares_waits parties (command.Unlock t n) a = not (has_slot parties t.slot)
spares_waits parties (command.Commit t) a = not (has_slot parties t.slot)
spares_waits parties (command.Renew t since) a = not (has_slot parties t.slot)
spares_waits parties (command.Abort t) a = not (has_slot parties t.slot)
spares_waits parties (command.Insert t f keys) a = true
spares_waits parties (command.Adopt f keys) a = true
spares_waits parties (command.Forget r) a = true
spares_waits parties (command.IndexBy t ps f bs rs ks) a = true
spares_waits parties c a = false

-- whether an accepted command is known to have changed no wait, by the parties to waits before it; if there were none, it leaves nobody waiting
abbrev pub leaves_waits : Slots → Command → Answer → Told → Bool
leaves_waits parties c a told = if has_none parties then not (leaves_waiting a) else is_empty told && spares_waits parties c a

-- the parties to waits, if the snapshot shown last is known to show the waits; it still is after a command that is known to have changed no wait
abbrev pub still_known : Option Slots → (Slots → Bool) → Option Slots
still_known None leaves = None
still_known (Some parties) leaves = if leaves parties then Some parties else None
