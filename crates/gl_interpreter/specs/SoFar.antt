-- A script that the tool has read in part.
use Rattle.std.specs.Prelude.{◌≡◌, ℕ, List, [], ◌++◌, false, take, Option, None, Some, Result, MatchResult}
use Rattle.std.specs.Io.KnownBytes.{Appends}
use Rattle.gl_options.specs.declared.requests.Choices.{Choices}
use Rattle.gl_model.specs.Deadlocks.{no_deadlock}
use Rattle.gl_model.specs.State.{choosing, empty_state}
use Rattle.gl_model.specs.Tellings.{Told}
use Rattle.gl_catalog.specs.Manager.{ManagerView, state_of}
use Rattle.gl_table.specs.Table.{nodes_of}
use Rattle.gl_script.specs.Grammar.{Command, Listing}
use Rattle.gl_script.specs.declared.form.Version.TheVariants as version
use Rattle.gl_interpreter.specs.declared.interpreter.Interpreter.{Interpreter}
use Rattle.gl_interpreter.specs.declared.request.Said.{Said}
use Rattle.gl_interpreter.specs.declared.script.Tool.{Tool}
use Rattle.gl_interpreter.specs.declared.script.RunFault.{RunFault}
use Rattle.gl_interpreter.specs.declared.script.RunFault.TheVariants.{Write}
use Rattle.gl_interpreter.specs.declared.sink.Sink.{Sink}
use Rattle.gl_interpreter.specs.Report.{Answers, Opening, Going, Prints, Report, Run, Splits, Stage}
use Rattle.gl_interpreter.specs.Held.{Hands, Holds}
use Rattle.gl_interpreter.specs.Printed.{printed}
use Rattle.gl_interpreter.specs.Rows.{Shows}
use Rattle.gl_interpreter.specs.Script.{Does, Script, begun, no_orders}
use Rattle.gl_interpreter.specs.Views.{script_of}

-- the choices for the script
abbrev pub choices_of : Script → Choices
choices_of s =
    record {
      detect = s.locks.detect;
      victims = s.locks.victims;
      listings = s.language.listings;
      schema = s.language.schema;
      savepoints = s.language.savepoints;
      trace = s.language.trace;
    }

-- the script has not begun if there still is a manager for version 2
abbrev pub stage_with : Option ManagerView → Script → Stage
stage_with None s = Going s
stage_with (Some two) s = Opening (choices_of s)

-- the stage of the script
abbrev pub stage_of : Interpreter → Stage
stage_of i = stage_with i.two (script_of i.desk)

-- until a version is chosen, both managers are as they were made
abbrev pub IsReadyWith : Option ManagerView → Script → Type 0
IsReadyWith None s = Unit
IsReadyWith (Some two) s = let c = choices_of s in (state_of two ≡ choosing c.victims (empty_state c.detect 128))
    × (two.table.deadlock ≡ no_deadlock) × (nodes_of two.table ≡ no_orders) × (s ≡ begun c version.One)

abbrev pub IsReady : Interpreter → Type 0
IsReady i = IsReadyWith i.two (script_of i.desk)

-- no line was answered
pub record IsFresh (choices : Choices) (i : Interpreter) : Type 0 where
  pub stage : stage_of i ≡ Opening choices
  pub ready : IsReady i

-- a command was carried out, and its output written or buffered
unfoldable pub Obeys : Option (List ℕ) → Sink → Interpreter → Command → Option (List ℕ) → Sink → Interpreter → Type 0
Obeys w sink i command w' sink' i' =
    (said : Said) × (told : Told) × Does (script_of i.desk) command said told (script_of i'.desk) × (i'.two ≡ i.two)
    × Hands w sink w' sink' (printed (script_of i'.desk) command said told)

-- the output of a listing was written or buffered
unfoldable pub IsShown : Option (List ℕ) → Sink → Script → Listing → Option (List ℕ) → Sink → Type 0
IsShown w sink s listing w' sink' = (text : List ℕ) × Shows s listing text × Hands w sink w' sink' text

-- a line of a script whose version is known was answered, as it was given
unfoldable pub CarriesOut : Option (List ℕ) → Sink → Interpreter → List ℕ → Option (List ℕ) → Sink → Interpreter → Type 0
CarriesOut w sink i line w' sink' i' = (text : List ℕ) × Answers (script_of i.desk) line text (script_of i'.desk) × (i'.two ≡ i.two)
    × Hands w sink w' sink' text

-- a line was answered, as it was given
unfoldable pub Answered : Option (List ℕ) → Sink → Interpreter → List ℕ → Option (List ℕ) → Sink → Interpreter → Type 0
Answered w sink i line w' sink' i' = IsReady i → (text : List ℕ) × Prints (stage_of i) line text (stage_of i') × IsReady i' × Hands w sink w' sink' text

-- the tool has read nothing
pub record IsNew (choices : Choices) (tool : Tool) : Type 0 where
  pub fresh : IsFresh choices tool.interpreter
  pub line : tool.line.items ≡ []
  pub held : tool.sink.held.items ≡ []
  pub whole : tool.sink.broken ≡ false

-- the whole lines of the bytes read are answered; the answers are written or buffered; the tool has the first bytes of the rest
pub record IsSoFar (c : Choices) (first : Option (List ℕ)) (read : List ℕ) (w : Option (List ℕ)) (tool : Tool) (lines : List (List ℕ))
    (rest text : List ℕ) : Type 0 where
  pub splits : Splits read lines rest
  pub run : Run (Opening c) lines text (stage_of tool.interpreter)
  pub ready : IsReady tool.interpreter
  pub line : tool.line.items ≡ take 257 rest
  pub handed : Holds first w tool.sink text

-- the same, for some lines, rest and text
abbrev pub SoFar : Choices → Option (List ℕ) → List ℕ → Option (List ℕ) → Tool → Type 0
SoFar c first read w tool = (lines : List (List ℕ)) × (rest : List ℕ) × (text : List ℕ) × IsSoFar c first read w tool lines rest text

-- the tool has also processed the bytes
unfoldable pub Takes : Option (List ℕ) → Tool → Option (List ℕ) → Tool → List ℕ → Type 0
Takes w tool w' tool' bytes = (c : Choices) (first : Option (List ℕ)) (read : List ℕ) → SoFar c first read w tool → SoFar c first (read ++ bytes) w' tool'

-- the line was answered, whatever follows its first 257 bytes
unfoldable pub HasReported : Option (List ℕ) → Tool → Option (List ℕ) → Tool → Type 0
HasReported w tool w' tool' =
    (line : List ℕ) → tool.line.items ≡ take 257 line → IsReady tool.interpreter
    → (text : List ℕ) × Prints (stage_of tool.interpreter) line text (stage_of tool'.interpreter) × IsReady tool'.interpreter
    × ((first : Option (List ℕ)) (before : List ℕ) → Holds first w tool.sink before → Holds first w' tool'.sink (before ++ text))

-- the script has ended
unfoldable pub Finishes : Option (List ℕ) → Tool → Option (List ℕ) → Result Unit RunFault → Type 0
Finishes w tool w' result =
    (c : Choices) (first : Option (List ℕ)) (read : List ℕ) → SoFar c first read w tool
    → (written : List ℕ) × Appends first w' written
    × MatchResult result (λ _. Report c read written) (λ fault. (fault ≡ Write) × ((more : List ℕ) × Report c read (written ++ more)))

-- the choices for a script, at any stage
abbrev pub choices_in : Stage → Choices
choices_in (Opening c) = c
choices_in (Going s) = choices_of s

-- the choices for the tool's script
abbrev pub choices_now : Tool → Choices
choices_now tool = choices_in (stage_of tool.interpreter)
