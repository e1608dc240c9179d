-- The rule of the book, and what its step does.
use Rattle.std.specs.Prelude.{ℕ, ◌≡◌, ◌-◌, ◌<◌, ◌==◌, true, List, [], ◌∷◌, ◌++◌, length, MatchBool}
use Rattle.logbook.specs.Pages.{Cell, Step, View, Book, Named}
use Rattle.gl_waits.specs.declared.board.Board.{Board}

-- the word is the number of snapshots after the first
pub record IsKept (cells : List Cell) (log : List Board) : Type 0 where
  pub words : cells ≡ (length log - 1, true) ∷ []
  pub some : 0 < length log

abbrev pub head_of : Book → Named
head_of b = record { tracked = true; key = 0; book = b }

-- the snapshot was added to all that had been seen, or others had been added
abbrev pub Adds : Step Board → View Board ℕ → ℕ → View Board ℕ → Type 0
Adds s v found w = MatchBool (found == s.old) (w.0 ≡ v.0 ++ s.ask ∷ []) (Unit {0})
