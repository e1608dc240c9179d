-- What the words of the program ask for.
use Rattle.std.specs.Prelude.{◌≡◌, ◌≤◌, ℕ, Bool, true, false, List, [], Option, None, Some, option_map, Result, Ok, Err, codes}
use Rattle.std.specs.Str.{bytes_eq}
use Rattle.std.specs.Str.Parse.{IsNumeral, digits_value, without_leading_plus}
use denote.Ref.{Bor}
use Rattle.clap.specs.Words.{App, Row, Rule, Text, first_of, matches_of, new_app, new_rule, with_rule}
use Rattle.clap.specs.Kinds.{Kinds}
use Rattle.clap.specs.Faults.{fault_of}
use Rattle.clap.specs.declared.builder.action.ArgAction.TheVariants.{SetTrue}
use Rattle.gl_options.specs.declared.requests.Asked.{Asked}
use Rattle.gl_options.specs.declared.requests.Asked.TheVariants.{Script, Crew}
use Rattle.gl_options.specs.declared.requests.Choices.{Choices}
use Rattle.gl_options.specs.declared.requests.Plan.{Plan}
use Rattle.gl_options.specs.declared.requests.Plan.TheVariants as plan
use Rattle.gl_options.specs.declared.words.Unread.{Unread}
use Rattle.gl_options.specs.declared.words.Unread.TheVariants.{Memory, Words}
use Rattle.gl_model.specs.declared.answers.Detect.{Detect}
use Rattle.gl_model.specs.declared.answers.Detect.TheVariants.{AtBlock, ByWatcher}
use Rattle.gl_waits.specs.declared.victims.Victims.{Victims}
use Rattle.gl_waits.specs.declared.victims.Victims.TheVariants.{Youngest, Fewest}

-- an option with a value
abbrev pub option_rule : Text → Rule
option_rule name = record (new_rule name) { long = Some name }

-- a flag
abbrev pub flag_rule : Text → Rule
flag_rule name = record (option_rule name) { action = Some SetTrue }

-- the words begin after the program's name
abbrev pub bare_app : App
bare_app = let app = new_app (codes "gltool") in record app { top = record app.top { no_binary_name = true } }

-- the command line
abbrev pub tool_app : App
tool_app =
    with_rule (with_rule (with_rule (with_rule (with_rule (with_rule (with_rule (with_rule bare_app
    (option_rule (codes "detect"))) (option_rule (codes "victims"))) (flag_rule (codes "listings"))) (flag_rule (codes "schema")))
    (flag_rule (codes "savepoints"))) (flag_rule (codes "trace"))) (option_rule (codes "crew"))) (option_rule (codes "rounds"))

-- the values that clap finds in the words
unfoldable pub rows_in : List Text → List Row
rows_in words = matches_of tool_app words

-- clap's faults in the words: none if it accepts them
unfoldable pub faults_in : List Text → Kinds
faults_in words = fault_of tool_app words

-- the way of detection that the value of `--detect` names
abbrev pub IsDetection : Option Text → Detect → Type 0
IsDetection None AtBlock = Unit {0}
IsDetection None ByWatcher = ⊥
IsDetection (Some word) AtBlock = word ≡ codes "at-block"
IsDetection (Some word) ByWatcher = word ≡ codes "by-watcher"

-- the choice of victims that the value of `--victims` names
abbrev pub IsChoice : Option Text → Victims → Type 0
IsChoice None Youngest = Unit {0}
IsChoice None Fewest = ⊥
IsChoice (Some word) Youngest = word ≡ codes "youngest"
IsChoice (Some word) Fewest = word ≡ codes "fewest"

-- whether a flag is among the words, by the value that clap gives it
abbrev pub is_set : Option Text → Bool
is_set None = false
is_set (Some word) = bytes_eq word (codes "true")

-- the word is the number in decimal, as Rust reads numbers, from 1 to most
abbrev pub IsNumberTo : ℕ → Text → ℕ → Type 0
IsNumberTo most word n = IsNumeral 10 (without_leading_plus word) × (digits_value 10 (without_leading_plus word) ≡ n) × (1 ≤ n) × (n ≤ most)

-- what the values of the options ask for: neither number, or both and none of the optional lines
abbrev pub IsAsked : Option Text → Option Text → Bool → Bool → Bool → Bool → Option Text → Option Text → Asked → Type 0
IsAsked detection choice listings schema savepoints trace None None (Script choices) =
    IsDetection detection choices.detect × IsChoice choice choices.victims × (choices.listings ≡ listings) × (choices.schema ≡ schema)
    × (choices.savepoints ≡ savepoints) × (choices.trace ≡ trace)
IsAsked detection choice false false false false (Some crew) (Some rounds) (Crew s r detect victims) =
    IsNumberTo 128 crew s × IsNumberTo 100000 rounds r × IsDetection detection detect × IsChoice choice victims
IsAsked detection choice listings schema savepoints trace crew rounds asked = ⊥

-- what the values that clap found ask for
abbrev pub IsAskedIn : List Row → Asked → Type 0
IsAskedIn rows asked =
    IsAsked (first_of (codes "detect") rows) (first_of (codes "victims") rows) (is_set (first_of (codes "listings") rows))
    (is_set (first_of (codes "schema") rows)) (is_set (first_of (codes "savepoints") rows)) (is_set (first_of (codes "trace") rows))
    (first_of (codes "crew") rows) (first_of (codes "rounds") rows) asked

-- clap accepts the words, and by what it finds in them they ask for this
abbrev pub AsksFor : List Text → Asked → Type 0
AsksFor words asked = (faults_in words ≡ []) × IsAskedIn (rows_in words) asked

-- the choices if only the way of detection is given: the victim is the youngest, and there are no optional lines
abbrev pub plain : Detect → Choices
plain detect = record { detect = detect; victims = Youngest; listings = false; schema = false; savepoints = false; trace = false }

-- the plan of what is asked
abbrev pub plan_of : Asked → Plan
plan_of (Script choices) = plan.Script choices.detect
plan_of (Crew s r detect victims) = plan.Crew s r detect

-- the plan of what the words ask for
abbrev pub IsPlanFor : List Text → Plan → Type 0
IsPlanFor words p = (asked : Asked) × AsksFor words asked × (p ≡ plan_of asked)

-- the words ask for nothing that the program does
abbrev pub HasNoPlan : List Text → Type 0
HasNoPlan words = (asked : Asked) → ¬ (AsksFor words asked)

-- what the words ask for; a fault of the words only if that is nothing
abbrev pub Reads : List Text → Result Asked Unread → Type 0
Reads words (Ok asked) = AsksFor words asked
Reads words (Err Memory) = Unit {0}
Reads words (Err Words) = HasNoPlan words

-- what the reference points to
abbrev pub text : Option (Bor Text) → Option Text
text word = option_map (λ w. w.now) word
