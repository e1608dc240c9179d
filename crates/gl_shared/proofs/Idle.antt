-- A table without waiters, and the snapshots that it published.
use Rattle.std.specs.Prelude.{◌≡◌, ◌||◌, Bool, false, List, ◌∷◌, [], ◌++◌}
use Rattle.std.proofs.Common.{subst}
use Rattle.gl_waits.specs.declared.board.Board.{Board}
use Rattle.gl_table.specs.Table.{board_of}
use Rattle.gl_model.specs.State.{State}
use Rattle.gl_model.specs.Tellings.{Told}
use Rattle.gl_steps.specs.declared.command.Answer.{Answer}
use Rattle.gl_steps.specs.declared.command.Command.{Command}
use Rattle.gl_catalog.specs.Manager.{IsLawfulManager, ManagerView, state_of}
use Rattle.gl_steps.specs.Promises.{NobodyWaits}
use Rattle.gl_steps.specs.Step.{Step}
use Rattle.gl_window.specs.Boards.{EndsIdle}
use Rattle.gl_waits.specs.Boards.{ShowsNobody}
use Rattle.gl_steps.specs.Served.{leaves_waiting}
use Rattle.gl_window.proofs.Idle.{neither, nobody_on, nobody_shown}

-- what is known if nobody waited when watchers were last told, or a lock was left waiting since
abbrev pub IsQuiet : State → List Board → Bool → Type 0
IsQuiet s list waited = waited ≡ false → NobodyWaits s × EndsIdle list

-- a step keeps it, if a lock that is left waiting is noted
pub quiet_on : (s s' : State) (list : List Board) (waited waits : Bool) (c : Command) (a : Answer) (told : Told) → waits ≡ leaves_waiting a
    → IsQuiet s list waited → Step s c a told s' → IsQuiet s' list (waited || waits)
quiet_on s s' list waited waits c a told is_so quiet step e =
    (nobody_on s s' waited waits c a told is_so (λ is. (quiet is).0) step e, (quiet (neither waited waits e).0).1)

-- and a telling makes it anew
pub quiet_told : (m : ManagerView) (list after : List Board) (board : Board) (shown : Bool) → IsLawfulManager m → board ≡ board_of (state_of m)
    → after ≡ list ++ board ∷ [] → (shown ≡ false → ShowsNobody board) → IsQuiet (state_of m) after shown
quiet_told m list after board shown law is ends none e = (nobody_shown m law (subst ShowsNobody is (none e)), (board, (list, ends), none e))
