-- The output for a script, from all bytes read to all bytes written.
use Rattle.std.specs.Prelude.{◌≡◌, ◌≢◌, ◌<◌, ◌≤◌, ◌⊎◌, List, [], ◌∷◌, ◌++◌, length, slice_index, All, codes, flat_map, Option, Some, None}
use Rattle.std.specs.Prelude.{if◌then◌else◌, Result, MatchResult, OnOk}
use Rattle.std.specs.Io.KnownBytes.{Consumes, Appends}
use Rattle.std.specs.Str.{bytes_eq}
use Rattle.gl_options.specs.declared.requests.Choices.{Choices}
use Rattle.gl_model.specs.Tellings.{Told}
use Rattle.gl_script.specs.declared.form.Version.{Version}
use Rattle.gl_script.specs.declared.form.Version.TheVariants as version
use Rattle.gl_script.specs.Grammar.{Text, Command, Line, Lists, Listing, Orders, Says}
use Rattle.gl_interpreter.specs.declared.request.Said.{Said}
use Rattle.gl_interpreter.specs.Printed.{printed}
use Rattle.gl_interpreter.specs.Rows.{Shows}
use Rattle.gl_interpreter.specs.Script.{Script, Does, begun}
use Rattle.gl_interpreter.specs.declared.script.RunFault.{RunFault}
use Rattle.gl_interpreter.specs.declared.script.RunFault.TheVariants.{Read, Write, TooMuch, Memory}

-- an empty line, or one that begins with `#`
abbrev pub IsSilent : Text → Type 0
IsSilent line = (length line ≡ 0) ⊎ (slice_index line 0 ≡ 35)

-- the output for a line that is no command
abbrev pub bad_line : Text
bad_line = codes "no 20 BadLine\n"

-- a command, and its output
pub record Carries (s : Script) (line text : Text) (s' : Script) : Type 0 where
  pub command : Command
  pub says : Says s.language line (Orders command)
  pub said : Said
  pub told : Told
  pub does : Does s command said told s'
  pub text_is : text ≡ printed s' command said told

-- a listing, and its output; the script is unchanged
pub record Tells (s : Script) (line text : Text) (s' : Script) : Type 0 where
  pub listing : Listing
  pub says : Says s.language line (Lists listing)
  pub shows : Shows s listing text
  pub same : s' ≡ s

-- the output for a line, and the script after it; a line of more than 256 bytes is a bad line, whatever it contains
abbrev pub Answers : Script → Text → Text → Script → Type 0
Answers s line text s' =
    ((256 < length line) × (text ≡ bad_line) × (s' ≡ s))
    ⊎ ((length line ≤ 256) × IsSilent line × (text ≡ []) × (s' ≡ s))
    ⊎ ((length line ≤ 256) × ¬ (IsSilent line) × ((l : Line) → ¬ (Says s.language line l)) × (text ≡ bad_line) × (s' ≡ s))
    ⊎ ((length line ≤ 256) × ¬ (IsSilent line) × Tells s line text s')
    ⊎ ((length line ≤ 256) × ¬ (IsSilent line) × Carries s line text s')

-- the stage of a script: before its first line, or after a line
pub data Stage : Type 0 where
  Opening : (choices : Choices) → Stage
  Going : (script : Script) → Stage

-- the version that a first line chooses, which is no command; if it chooses none, the version is 1
abbrev pub version_of : Text → Option Version
version_of line = if bytes_eq line (codes "granular 2") then Some version.Two else None

-- the first line chooses the version; in version 1 it is a line like any other
abbrev pub Opens : Choices → Option Version → Text → Text → Stage → Type 0
Opens c (Some v) line text stage = (text ≡ codes "ok\n") × (stage ≡ Going (begun c v))
Opens c None line text stage = (s : Script) × Answers (begun c version.One) line text s × (stage ≡ Going s)

-- the output for a line, at any stage
abbrev pub PrintsAt : Stage → Text → Text → Stage → Type 0
PrintsAt (Opening c) line text stage = Opens c (version_of line) line text stage
PrintsAt (Going s) line text stage = (s' : Script) × Answers s line text s' × (stage ≡ Going s')

-- the same, not unfolded
unfoldable pub Prints : Stage → Text → Text → Stage → Type 0
Prints stage line text stage' = PrintsAt stage line text stage'

-- the output for these lines, in order
abbrev pub Run : Stage → List Text → Text → Stage → Type 0
Run s [] text t = (text ≡ []) × (t ≡ s)
Run s (line ∷ lines) text t =
    (mid : Stage) × (first : Text) × (more : Text) × Prints s line first mid × Run mid lines more t × (text ≡ first ++ more)

-- the line has no newline
abbrev pub IsOpen : Text → Type 0
IsOpen line = All (λ b. b ≢ 10) line

-- a line with its newline
abbrev pub ended : Text → Text
ended line = line ++ 10 ∷ []

-- the bytes are whole lines, each before its newline, and a rest without one
pub record Splits (bytes : Text) (lines : List Text) (rest : Text) : Type 0 where
  pub whole : bytes ≡ flat_map ended lines ++ rest
  pub each : All IsOpen lines
  pub tail : IsOpen rest

-- the rest is a line if it has a byte
abbrev pub last_line : Text → List Text
last_line [] = []
last_line (b ∷ bs) = (b ∷ bs) ∷ []

-- the text is the output for the lines of the bytes, the last one included
abbrev pub Report : Choices → Text → Text → Type 0
Report c bytes text =
    (lines : List Text) × (rest : Text) × (t : Stage) × Splits bytes lines rest × Run (Opening c) (lines ++ last_line rest) text t

-- the text is the output for the lines of the bytes that end with a newline
abbrev pub ReportOfWhole : Choices → Text → Text → Type 0
ReportOfWhole c bytes text =
    (lines : List Text) × (rest : Text) × (t : Stage) × Splits bytes lines rest × Run (Opening c) lines text t

-- what holds of the bytes read and written when a fault ends the run
abbrev pub Left : Choices → RunFault → Text → Text → Type 0
Left c Read read written = ReportOfWhole c read written
Left c TooMuch read written = (length read ≡ 16777217) × ReportOfWhole c read written
Left c Write read written = (rest : Text) × Report c read (written ++ rest)
Left c Memory read written = (read ≡ []) × (written ≡ [])

-- what a run read, what it wrote, and the relation of both
abbrev pub Ran : Choices → Option Text → Option Text → Option Text → Option Text → Result Unit RunFault → Type 0
Ran c had has held holds result =
    (read : Text) × (written : Text) × Consumes had has read × Appends held holds written
    × MatchResult result (λ _. Report c read written) (λ fault. Left c fault read written)

-- how much was read: at most one byte more than the limit, and with Ok no more than the limit
abbrev pub ReadsWithin : Option Text → Option Text → Result Unit RunFault → Type 0
ReadsWithin had has result = (read : Text) × Consumes had has read × (length read ≤ 16777217) × OnOk result (length read ≤ 16777216)
