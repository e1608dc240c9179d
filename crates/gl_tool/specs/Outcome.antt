-- How the program ends.
use Rattle.std.specs.Prelude.{◌≡◌, ◌⊎◌, ℕ, List, [], ◌∷◌, ◌++◌, codes, decimal, Option, Result, Ok, Err}
use Rattle.std.specs.Io.KnownBytes.{Consumes, Appends, IsAtEnd}
use Rattle.gl_script.specs.Grammar.{Text}
use Rattle.gl_waits.specs.declared.victims.Victims.{Victims}
use Rattle.gl_model.specs.declared.answers.Detect.{Detect}
use Rattle.gl_options.specs.declared.requests.Asked.TheVariants as asked
use Rattle.gl_options.specs.declared.requests.Choices.{Choices}
use Rattle.gl_options.specs.Planned.{AsksFor}
use Rattle.gl_crew.specs.Crews.{IsCount}
use Rattle.gl_interpreter.specs.declared.script.RunFault.{RunFault}
use Rattle.gl_interpreter.specs.declared.script.RunFault.TheVariants.{Write}
use Rattle.gl_tool.specs.declared.entry.ToolFault.{ToolFault}
use Rattle.gl_tool.specs.declared.entry.ToolFault.TheVariants.{Run, Crew, Words}
use Rattle.gl_interpreter.specs.Report.{Report, Left}

-- all of the reader was read, and the report on it was written
abbrev pub HasRun : Choices → Option (List ℕ) → Option (List ℕ) → Option (List ℕ) → Option (List ℕ) → Type 0
HasRun choices had has held holds =
    (read : List ℕ) × (written : List ℕ) × Consumes had has read × IsAtEnd has × Appends held holds written × Report choices read written

-- the run met this fault, and left what `Left` says
abbrev pub HasFaulted : Choices → RunFault → Option (List ℕ) → Option (List ℕ) → Option (List ℕ) → Option (List ℕ) → Type 0
HasFaulted choices fault had has held holds =
    (read : List ℕ) × (written : List ℕ) × Consumes had has read × Appends held holds written × Left choices fault read written

-- the words ask for a script, and it ran to its end with the choices that they make
abbrev pub RunsAsAsked : List Text → Option (List ℕ) → Option (List ℕ) → Option (List ℕ) → Option (List ℕ) → Type 0
RunsAsAsked words had has held holds =
    (choices : Choices) × AsksFor words (asked.Script choices) × HasRun choices had has held holds

-- the words ask for a script, and its run met this fault
abbrev pub FaultsAsAsked : List Text → RunFault → Option (List ℕ) → Option (List ℕ) → Option (List ℕ) → Option (List ℕ) → Type 0
FaultsAsAsked words fault had has held holds =
    (choices : Choices) × AsksFor words (asked.Script choices) × HasFaulted choices fault had has held holds

-- the line with the number of accepted commands of a crew
abbrev pub count_line : ℕ → Text
count_line count = codes "accepted " ++ decimal count ++ 10 ∷ []

-- a crew counted this many, and its line was written
abbrev pub HasCounted : ℕ → Option (List ℕ) → Option (List ℕ) → Type 0
HasCounted count held holds = Appends held holds (count_line count)

-- a crew counted this many, and a prefix of its line was written
abbrev pub HasBegunCount : ℕ → Option (List ℕ) → Option (List ℕ) → Type 0
HasBegunCount count held holds = (front : List ℕ) × (rest : List ℕ) × Appends held holds front × (count_line count ≡ front ++ rest)

-- the line was written, or a write failed
abbrev pub PutsCount : ℕ → Option (List ℕ) → Option (List ℕ) → Result Unit ToolFault → Type 0
PutsCount count held holds (Ok _) = HasCounted count held holds
PutsCount count held holds (Err fault) = (fault ≡ Run Write) × HasBegunCount count held holds

-- the words ask for a crew; it did all its rounds, and its count was written as far as this says; nothing was read
abbrev pub CountsAsAsked : (ℕ → Option (List ℕ) → Option (List ℕ) → Type 0) → List Text → Option (List ℕ) → Option (List ℕ) → Option (List ℕ)
    → Option (List ℕ) → Type 0
CountsAsAsked Puts words had has held holds =
    (sessions : ℕ) × (rounds : ℕ) × (detect : Detect) × (victims : Victims) × AsksFor words (asked.Crew sessions rounds detect victims) × (has ≡ had)
    × ((count : ℕ) × IsCount detect sessions rounds count × Puts count held holds)

-- the words ask for a crew, and it stopped; nothing was read or written
abbrev pub CrewStops : List Text → Option (List ℕ) → Option (List ℕ) → Option (List ℕ) → Option (List ℕ) → Type 0
CrewStops words had has held holds =
    (sessions : ℕ) × (rounds : ℕ) × (detect : Detect) × (victims : Victims) × AsksFor words (asked.Crew sessions rounds detect victims) × (has ≡ had)
    × (holds ≡ held)

-- what the words ask for was done
abbrev pub Ends : List Text → Option (List ℕ) → Option (List ℕ) → Option (List ℕ) → Option (List ℕ) → Type 0
Ends words had has held holds = RunsAsAsked words had has held holds ⊎ CountsAsAsked HasCounted words had has held holds

-- what the words ask for met this fault
abbrev pub StopsBy : ToolFault → List Text → Option (List ℕ) → Option (List ℕ) → Option (List ℕ) → Option (List ℕ) → Type 0
StopsBy (Run fault) words had has held holds =
    FaultsAsAsked words fault had has held holds ⊎ ((fault ≡ Write) × CountsAsAsked HasBegunCount words had has held holds)
StopsBy (Crew fault) words had has held holds = CrewStops words had has held holds
StopsBy Words words had has held holds = ⊥

-- what the words ask for met some fault
abbrev pub Stops : List Text → Option (List ℕ) → Option (List ℕ) → Option (List ℕ) → Option (List ℕ) → Type 0
Stops words had has held holds = (fault : ToolFault) × StopsBy fault words had has held holds

-- what the words ask for is done; if they could not be read, nothing is done
abbrev pub Works : List Text → Option (List ℕ) → Option (List ℕ) → Option (List ℕ) → Option (List ℕ) → Result Unit ToolFault → Type 0
Works words had has held holds (Ok _) = Ends words had has held holds
Works words had has held holds (Err Words) = (has ≡ had) × (holds ≡ held)
Works words had has held holds (Err fault) = StopsBy fault words had has held holds

-- the exit status after a fault
abbrev pub status_of : ToolFault → ℕ
status_of (Run fault) = 1
status_of (Crew fault) = 1
status_of Words = 2
