-- What `ask` and `try_ask` answer and change.
use Rattle.std.specs.Prelude.{◌≡◌, ◌≢◌, ◌<◌, ℕ, List, false, if◌then◌else◌}
use Rattle.gl_modes.specs.declared.mode.Mode.{Mode}
use Rattle.gl_modes.specs.declared.mode.Mode.TheVariants.{NL}
use Rattle.gl_slots.specs.Limit.{most_slots}
use Rattle.gl_header.specs.Header.{Members, Waiter, is_among_waiters, with_mode, placed}
use Rattle.gl_header.specs.State.{HeaderState, members_of, wanted, is_granted}
use Rattle.gl_header.specs.declared.header.Asked.{Asked}
use Rattle.gl_header.specs.declared.header.Asked.TheVariants.{Granted, Waiting}
use Rattle.gl_header.specs.declared.header.Try.{Try}
use Rattle.gl_header.specs.declared.header.Try.TheVariants.{Granted as Tried, WouldBlock}

-- a slot that does not wait here may request a lock
pub record MayAsk (q : List Waiter) (t : ℕ) (m : Mode) : Type 0 where
  pub below : t < most_slots
  pub not_waiting : is_among_waiters t q ≡ false
  pub lock : m ≢ NL

-- what `ask` answers
abbrev pub asked : HeaderState → ℕ → Mode → Asked
asked h t m = if is_granted h t m then Granted (wanted h t m) else Waiting

-- what `try_ask` answers
abbrev pub tried : HeaderState → ℕ → Mode → Try
tried h t m = if is_granted h t m then Tried (wanted h t m) else WouldBlock

-- the members after `ask` and after `try_ask`
abbrev pub asked_members : HeaderState → ℕ → Mode → Members
asked_members h t m = if is_granted h t m then with_mode (members_of h) t (wanted h t m) else members_of h

-- the queue after `ask`
abbrev pub asked_queue : HeaderState → ℕ → Mode → List Waiter
asked_queue h t m = if is_granted h t m then h.queue else placed (members_of h) h.queue t (wanted h t m)
