-- Text that is buffered for a writer.
use Rattle.std.specs.Prelude.{◌≡◌, ℕ, List, ◌++◌, Bool, true, false, Option}
use Rattle.std.specs.Io.KnownBytes.{Appends}
use Rattle.gl_interpreter.specs.declared.sink.Sink.{Sink}

-- all of the text was written, or a prefix of it
abbrev pub Sends : Option (List ℕ) → Option (List ℕ) → List ℕ → Bool → Type 0
Sends old new text true = Appends old new text
Sends old new text false = (front : List ℕ) × (rest : List ℕ) × Appends old new front × (text ≡ front ++ rest)

-- of the text since old a prefix was written, and the rest is buffered; after a failed write the rest is lost
abbrev pub Handed : Option (List ℕ) → Option (List ℕ) → List ℕ → Bool → List ℕ → Type 0
Handed old new held false text = (sent : List ℕ) × Appends old new sent × (text ≡ sent ++ held)
Handed old new held true text = (sent : List ℕ) × Appends old new sent × ((rest : List ℕ) × (text ≡ sent ++ rest))

-- the same of a sink
abbrev pub Holds : Option (List ℕ) → Option (List ℕ) → Sink → List ℕ → Type 0
Holds old new sink text = Handed old new sink.held.items sink.broken text

-- the text was written or buffered, after all text before
unfoldable pub Hands : Option (List ℕ) → Sink → Option (List ℕ) → Sink → List ℕ → Type 0
Hands w s w' s' text = (first : Option (List ℕ)) (before : List ℕ) → Holds first w s before → Holds first w' s' (before ++ text)
