-- The numbers that C uses for modes, ways of detection and choices of victims, and for the statuses that are no refusals.
use Rattle.gl_slots.specs.Limit.{most_slots}
use Rattle.std.specs.Prelude.{ℕ, Option, Some, None, ◌==◌, if◌then◌else◌, nat_lt}
use Rattle.gl_modes.specs.declared.mode.Mode.{Mode}
use Rattle.gl_modes.specs.declared.mode.Mode.TheVariants.{NL, IS, IX, S, SIX, X}
use Rattle.gl_model.specs.declared.answers.Detect.{Detect}
use Rattle.gl_model.specs.declared.answers.Detect.TheVariants.{AtBlock, ByWatcher}
use Rattle.gl_waits.specs.declared.victims.Victims.{Victims}
use Rattle.gl_waits.specs.declared.victims.Victims.TheVariants.{Youngest, Fewest}
use Rattle.gl_model.specs.declared.answers.Effect.{Effect}
use Rattle.gl_model.specs.declared.answers.Effect.TheVariants as effect
use Rattle.gl_waiting.specs.declared.tries.Keep.{Keep}
use Rattle.gl_waiting.specs.declared.tries.Keep.TheVariants as keep

-- the number of a mode
abbrev pub mode_number : Mode → ℕ
mode_number NL = 0
mode_number IS = 1
mode_number IX = 2
mode_number S = 3
mode_number SIX = 4
mode_number X = 5

-- the mode with this number, if there is one
abbrev pub mode_at : ℕ → Option Mode
mode_at n =
    if n == 0 then Some NL else
    if n == 1 then Some IS else
    if n == 2 then Some IX else
    if n == 3 then Some S else
    if n == 4 then Some SIX else
    if n == 5 then Some X else None

-- the number of an effective mode, which is that of the mode with its name
abbrev pub effect_number : Effect → ℕ
effect_number effect.None = 0
effect_number effect.S = 3
effect_number effect.X = 5

-- the way of detection with this number, if there is one
abbrev pub detect_at : ℕ → Option Detect
detect_at n = if n == 0 then Some AtBlock else if n == 1 then Some ByWatcher else None

-- the choice of victims with this number, if there is one
abbrev pub victims_at : ℕ → Option Victims
victims_at n = if n == 0 then Some Youngest else if n == 1 then Some Fewest else None

-- what a path that is refused keeps, by this number, if it says so
abbrev pub keep_at : ℕ → Option Keep
keep_at n = if n == 0 then Some keep.Nothing else if n == 1 then Some keep.Path else None

-- the slot with this number, if there is one
abbrev pub slot_at : ℕ → Option ℕ
slot_at n = if nat_lt n most_slots then Some n else None

-- the greatest number of 64 bits
abbrev pub greatest : ℕ
greatest = 18446744073709551615

-- a number that C gives; the greatest says that there is none
abbrev pub given_at : ℕ → Option ℕ
given_at n = if n == greatest then None else Some n

-- the call was done; refusals have their own numbers, 1 to 23
abbrev pub done : ℕ
done = 0

-- the transaction waits for the lock
abbrev pub waiting : ℕ
waiting = 32

-- the requester was condemned to end a deadlock
abbrev pub victim : ℕ
victim = 33

-- the node moved, and the wait is over
abbrev pub moved : ℕ
moved = 34

-- the node is gone, and the wait is over
abbrev pub gone : ℕ
gone = 35

-- the time of the wait is over
abbrev pub timed_out : ℕ
timed_out = 36

-- the path is locked as far as a node above, and others were notified
abbrev pub on_the_way : ℕ
on_the_way = 37

-- the row is held, but its node's keys are not those that the caller named
abbrev pub other_keys : ℕ
other_keys = 38

-- no manager was made at this place, or it was ended; 64 is the null pointer of the header's functions
abbrev pub no_manager : ℕ
no_manager = 65

-- the status of a call that lacks memory
abbrev pub no_memory : ℕ
no_memory = 1

-- a number names nothing, or a count is out of range
abbrev pub bad_number : ℕ
bad_number = 66

-- this place has a manager or a watcher already
abbrev pub in_use : ℕ
in_use = 67

-- there are fewer than that
abbrev pub no_place : ℕ
no_place = 68

-- no watcher was made at this place, or it was ended
abbrev pub no_watcher : ℕ
no_watcher = 69

-- the manager has as many watchers as it may
abbrev pub too_many_watchers : ℕ
too_many_watchers = 70

-- a file of rows: its records are inserted, deleted and changed by calls about rows alone
abbrev pub rows_by_number : ℕ
rows_by_number = 71

-- the file is not a file of rows
abbrev pub not_rows : ℕ
not_rows = 72
