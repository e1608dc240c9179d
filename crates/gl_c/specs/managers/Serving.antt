-- What a call does to all that C's mutex protects.
use Rattle.std.specs.Prelude.{◌≡◌, ◌⊎◌, Bool, true, [], ◌∷◌, ◌++◌, Option, Some, None, IfSome, is_none, if◌then◌else◌}
use Rattle.gl_waits.specs.declared.board.Board.{Board}
use Rattle.gl_slots.specs.declared.slots.Slots.{Slots}
use Rattle.gl_table.specs.Table.{board_of}
use Rattle.gl_catalog.specs.Manager.{state_of}
use Rattle.gl_model.specs.State.{State}
use Rattle.gl_window.specs.Boards.{EndsWithWaits, HasParties}
use Rattle.gl_window.specs.Tellings.{still_known}
use Rattle.gl_window.specs.Strip.{Strip}
use Rattle.gl_waiting.specs.Waiting.{WaitingView}
use Rattle.gl_waiting.specs.declared.set_off.SetOff.{SetOff}
use Rattle.gl_c.specs.managers.Guarded.{GuardedView, waiting_in, with_waiting}

-- if the parties to waits are known, these are all, and the last snapshot that was shown, if one was, has every wait
abbrev pub KnowsWaits : State → Option Strip → Option Slots → Type 0
KnowsWaits s shown parties = IfSome parties (λ set. HasParties s set × IfSome shown (λ p. EndsWithWaits s p.list))

-- a list of the same book and way of detection: what was shown, or that and then this snapshot, which is shown only if it is due
pub record GoesOnBy (due : Bool) (board : Board) (before after : Strip) : Type 0 where
  pub book : after.book ≡ before.book
  pub detect : after.detect ≡ before.detect
  pub list : (after.list ≡ before.list) ⊎ ((due ≡ true) × (after.list ≡ before.list ++ board ∷ []))

-- the same, if there ever was a watcher
abbrev pub ShowsOn : Bool → Board → Option Strip → Option Strip → Type 0
ShowsOn due board None after = after ≡ None
ShowsOn due board (Some before) after = (s : Strip) × (after ≡ Some s) × GoesOnBy due board before s

-- what is known of the parties to waits after a call: nothing if somebody went on by it
abbrev pub known_after : Bool → Option Slots → (Slots → Bool) → Option Slots
known_after went_on parties spares = if went_on then None else still_known parties spares

-- a call does this to the table of waiters; if it counted a command, the waits that it ended are noted; watchers are shown the snapshot after it or nothing,
-- and nothing if it is known to leave all waits; else nothing changes beside the table. Those who rest are left so
pub record Leaves (IsCalled : SetOff → WaitingView → Type 0) (spares : Slots → Bool) (Rests : WaitingView → Slots → Slots → Type 0) (g g' : GuardedView)
    : Type 0 where
  pub off : SetOff
  pub called : IsCalled off (waiting_in g')
  pub noted : (g'.manager.accepted ≡ g.manager.accepted → ⊥) → g'.ended ≡ off.ended
  pub rests : Rests (waiting_in g') g.resting g'.resting
  pub uncounted : g'.manager.accepted ≡ g.manager.accepted → g' ≡ with_waiting g (waiting_in g')
  pub shown : ShowsOn (is_none (known_after off.went_on g.parties spares)) (board_of (state_of g'.manager)) g.shown g'.shown
  pub known : KnowsWaits (state_of g'.manager) g'.shown g'.parties
