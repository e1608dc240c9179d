-- How the drawing of a picture ends.
use Rattle.std.specs.Prelude.{◌≡◌, ◌≤◌, ℕ, Bool, ◌||◌, List, [], ◌∷◌, codes, length, Option, if◌then◌else◌}
use Rattle.std.specs.Io.KnownBytes.{Consumes}
use Rattle.std.specs.Str.{bytes_eq}
use Rattle.gl_script.specs.Grammar.{Text}
use Rattle.gl_options.specs.declared.requests.Asked.TheVariants.{Script}
use Rattle.gl_options.specs.declared.requests.Choices.{Choices}
use Rattle.gl_options.specs.Planned.{AsksFor}
use Rattle.gl_interpreter.specs.declared.drawing.PictureFault.{PictureFault}
use Rattle.gl_interpreter.specs.declared.drawing.PictureFault.TheVariants.{Run, Words}

-- the word asks for a part of the picture
abbrev pub is_part : Text → Bool
is_part word = bytes_eq word (codes "--graph") || bytes_eq word (codes "--waits")

-- the words after such a first word, or all
abbrev pub behind_part : List Text → List Text
behind_part [] = []
behind_part (word ∷ rest) = if is_part word then rest else word ∷ rest

-- the words after a first word that leaves out idle nodes, or all
abbrev pub behind_held : List Text → List Text
behind_held [] = []
behind_held (word ∷ rest) = if bytes_eq word (codes "--held") then rest else word ∷ rest

-- the words after those that say what is shown
abbrev pub behind_shown : List Text → List Text
behind_shown words = behind_held (behind_part words)

-- the words ask for a picture: those of a script, after an optional word for a part and one that leaves out idle nodes
abbrev pub AsksForPicture : List Text → Type 0
AsksForPicture words = (choices : Choices) × AsksFor (behind_shown words) (Script choices)

-- how much was read: at most one byte more than a script's limit, and with status 0 no more than the limit
abbrev pub DrawsWithin : Option Text → Option Text → ℕ → Type 0
DrawsWithin had has status = (read : Text) × Consumes had has read × (length read ≤ 16777217) × (status ≡ 0 → length read ≤ 16777216)

-- the exit status after a fault
abbrev pub status_of : PictureFault → ℕ
status_of (Run fault) = 1
status_of Words = 2
