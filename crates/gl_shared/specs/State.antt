-- What the latch protects.
use Rattle.std.specs.Prelude.{◌≡◌, ℕ, Bool, false, List, [], ◌∷◌, ◌++◌, MatchBool}
use Rattle.gl_waits.specs.declared.board.Board.{Board}
use Rattle.gl_model.specs.State.{State}
use Rattle.gl_catalog.specs.Manager.{ManagerView}
use Rattle.gl_steps.specs.Promises.{NobodyWaits}
use Rattle.gl_window.specs.Boards.{EndsIdle}
use Rattle.gl_waits.specs.Boards.{ShowsNobody}
use Rattle.gl_wakes.specs.Boxes.{Slot}
use Rattle.gl_window.specs.declared.telling.Telling.{Telling}
use Rattle.gl_window.specs.declared.telling.Telling.TheVariants.{WhileWaiting}
use Rattle.gl_shared.specs.declared.guarded.Tell.{Tell}
use Rattle.gl_shared.specs.declared.guarded.Tell.TheVariants.{Published, NoMemory}

-- the manager, the count of accepted commands that were served, a box for each slot, the published snapshots, when they are told, and whether somebody waited
-- when they last were or a lock was left waiting since
pub record GuardedView : Type 0 where
  pub manager : ManagerView
  pub book : ℕ
  pub boxes : List Slot
  pub list : List Board
  pub telling : Telling
  pub waited : Bool

-- the list with the snapshot added, if it was published; else the list unchanged
abbrev pub GainsIf : Bool → List Board → Board → List Board → Type 0
GainsIf is_published list board after = MatchBool is_published (after ≡ list ++ board ∷ []) (after ≡ list)

-- the snapshot is added to the list, whole, with its epoch as the answer; or nothing was published
abbrev pub Told : List Board → Board → Tell → List Board → Type 0
Told list board (Published e) after = (after ≡ list ++ board ∷ []) × (e ≡ board.epoch)
Told list board NoMemory after = after ≡ list

-- what is remembered after a publication: that nobody waited only if the snapshot shows no waiter, and then always if telling is WhileWaiting
abbrev pub Remembers : Telling → Board → Tell → Bool → Bool → Type 0
Remembers telling board (Published e) before after = (after ≡ false → ShowsNobody board) × (telling ≡ WhileWaiting → ShowsNobody board → after ≡ false)
Remembers telling board NoMemory before after = after ≡ before

-- nothing was told: telling is WhileWaiting, nobody waits, and nobody waited when watchers were last told
pub record StaysUntold (telling : Telling) (s : State) (list after : List Board) : Type 0 where
  pub by_choice : telling ≡ WhileWaiting
  pub nobody_waits : NobodyWaits s
  pub nobody_waited : EndsIdle list
  pub same : after ≡ list
