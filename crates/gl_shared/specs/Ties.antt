-- The rule of what is published.
use Rattle.std.specs.Prelude.{◌≡◌, ◌⊎◌, ℕ, List, Option, Some, None}
use Rattle.std.specs.Option.{option_map}
use Rattle.std.specs.Arc.{arc_value}
use mathlib.Core.Option.{some}
use lib.ListN.{get_elem?}
use Rattle.gl_window.specs.Strip.{Strip}
use Rattle.gl_shared.specs.declared.shown.Shown.{Shown}
use Rattle.gl_shared.specs.declared.shown.Tie.{Tie}
use Rattle.gl_shared.specs.declared.shown.Turn.{Turn}
use Rattle.gl_shared.specs.declared.shown.Next.{Next}
use Rattle.gl_window.specs.Rules.{head_of}
use Rattle.gl_window.specs.Boards.{IsLawful}
use Rattle.gl_waits.specs.declared.board.Board.{Board}
use Rattle.gl_model.specs.declared.answers.Detect.{Detect}
use Rattle.logbook.specs.Pages.{Book}

-- the book and the way of detection of a list
abbrev pub tie_of : Strip → Tie
tie_of l = record { head = head_of l.book; detect = l.detect }

-- that and the snapshot that was last to be added to the list
abbrev pub turn_of : Shown → Turn
turn_of s = record { tie = tie_of s.line; board = option_map arc_value s.board }

-- the same after a snapshot is published
abbrev pub turned : Next → Turn
turned n = record { tie = tie_of n.line; board = Some (arc_value n.board) }

abbrev pub Fits : Shown → Option Tie → Type 0
Fits x v = (v ≡ None) ⊎ (v ≡ Some (tie_of x.line))

-- what is published is of the book to which each view is tied
abbrev pub Kept : Shown → List (Option Tie) → Type 0
Kept x views = (by : ℕ) (v : Option Tie) → get_elem? views by ≡ some v → Fits x v

abbrev pub Publishes : Option Tie → Shown → Shown → Option Tie → Type 0
Publishes v x y w = w ≡ Some (tie_of y.line)

-- a reader finds what is of its book, and is tied to that book
abbrev pub Looks : Option Tie → Shown → Shown → Option Tie → Type 0
Looks v x y w = (w ≡ Some (tie_of x.line)) × Fits x v

-- the list is lawful, and of this book and way of detection
abbrev pub IsOf : Book → Detect → Board → Strip → Type 0
IsOf book detect first l = (l.book ≡ book) × (l.detect ≡ detect) × IsLawful detect first l.list
