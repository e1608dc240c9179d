use Rattle.std.proofs.Common.{rules, refl, ap, sym, codes, true, inl, inr, ◌≡◌, ◌∙◌, ◌↔◌, Bool, List, [], ◌∷◌, map, Option, Err}
use Rattle.std.proofs.Math.Path.{transport}
use Rattle.clap.specs.Words.{App, Text, first_of, first_value, found_of, is_simple, matches_of, rows_of}
use Rattle.clap.specs.Simple.{HasMatchesOf}
use Rattle.clap.specs.Kinds.{HasKind, Kinds}
use Rattle.clap.specs.Faults.{fault_of, is_simple_and_free}
use Rattle.clap.specs.Values.{kind_of}
use Rattle.clap.specs.declared.error.Error.{Error}
use Rattle.clap.specs.declared.error.kind.ErrorKind.TheVariants.{OutOfMemory}
use Rattle.clap.specs.declared.parser.matches.ArgMatches.{ArgMatches}
use Rattle.clap.proofs.OnLiterals.{clap_on_literals}
use Rattle.clap.proofs.WalkLemmas.{first_value-rows}
use Rattle.gl_options.specs.declared.requests.Asked.{Asked}
use Rattle.gl_options.specs.declared.words.Unread.{Unread}
use Rattle.gl_options.specs.declared.words.Unread.TheVariants.{Memory, Words}
use Rattle.gl_options.specs.Planned.{HasNoPlan, IsAsked, IsAskedIn, Reads, faults_in, is_set, rows_in, tool_app}
use Rattle.gl_options.proofs.words.read_words.Goals as goal

is_simple_tool : is_simple tool_app ≡ true
unfolding clap_on_literals
is_simple_tool = refl

is_free_tool : is_simple_and_free tool_app ≡ true
unfolding clap_on_literals
is_free_tool = refl

-- what clap found is in the words
rows_are : (app : App) (words : List Text) (m : ArgMatches) → app ≡ tool_app → HasMatchesOf app words m → rows_of (found_of m) ≡ rows_in words
unfolding rows_in
rows_are app words m is h = (h (ap is_simple is ∙ is_simple_tool)).0 ∙ ap (λ a. matches_of a words) is

faults_are : (app : App) (words : List Text) → app ≡ tool_app → fault_of app words ≡ faults_in words
unfolding faults_in
faults_are app words is = ap (λ a. fault_of a words) is

-- if clap refuses the words, and not for lack of memory, they ask for nothing
refused : (kinds : Kinds) (words : List Text) (e : Error) (u : Unread) → (u ≡ Memory) ↔ (kind_of e ≡ OutOfMemory) → kinds ≡ faults_in words
    → HasKind kinds e → Reads words (Err u)
refused kinds words e Memory why are h = tt
refused kinds words e Words why are (inl wanting) = let bad : Words ≡ Memory = why.1 wanting in absurd (cc)
refused [] words e Words why are (inr among) = absurd among
refused (k ∷ ks) words e Words why are (inr among) = λ asked p. let bad : k ∷ ks ≡ [] = are ∙ p.0 in absurd (cc)

pub returns-in-Err : goal.returns-in-Err
returns-in-Err g c =
    let app_is = c.in-Ok.ensures in
    let words = map g.S.AsStr.text c.args.words.now in
    refused _ words c.in-Err.error c.cause.result (search rules) (faults_are _ words app_is)
    (c.in-Err.ensures.kinds (ap is_simple_and_free app_is ∙ is_free_tool))

-- the values of the options in the words
module _ (words : List Text) (detection choice : Option Text) (listings schema savepoints trace : Bool) (crew rounds : Option Text)
    (detection_is : detection ≡ first_of (codes "detect") (rows_in words))
    (choice_is : choice ≡ first_of (codes "victims") (rows_in words)) (listings_is : listings ≡ is_set (first_of (codes "listings") (rows_in words)))
    (schema_is : schema ≡ is_set (first_of (codes "schema") (rows_in words)))
    (savepoints_is : savepoints ≡ is_set (first_of (codes "savepoints") (rows_in words)))
    (trace_is : trace ≡ is_set (first_of (codes "trace") (rows_in words)))
    (crew_is : crew ≡ first_of (codes "crew") (rows_in words)) (rounds_is : rounds ≡ first_of (codes "rounds") (rows_in words)) where
  asked_is : (asked : Asked) → IsAsked detection choice listings schema savepoints trace crew rounds asked ≡ IsAskedIn (rows_in words) asked
  asked_is asked = λ z. IsAsked (detection_is z) (choice_is z) (listings_is z) (schema_is z) (savepoints_is z) (trace_is z) (crew_is z) (rounds_is z) asked

  -- if they ask for nothing, so do the words
  nothing : ((asked : Asked) → ¬ (IsAsked detection choice listings schema savepoints trace crew rounds asked)) → HasNoPlan words
  nothing none asked p = none asked (transport (sym (asked_is asked)) p.1)

  -- what they ask for is what the words ask for
  something : (asked : Asked) → IsAsked detection choice listings schema savepoints trace crew rounds asked → IsAskedIn (rows_in words) asked
  something asked p = transport (asked_is asked) p

-- what clap gives for an option
value : (app : App) (words : List Text) (m : ArgMatches) (id : Text) (o : Option Text) → app ≡ tool_app → HasMatchesOf app words m
    → o ≡ first_value (found_of m) id → o ≡ first_of id (rows_in words)
value app words m id o is h e = e ∙ first_value-rows (found_of m) id ∙ ap (first_of id) (rows_are app words m is h)

pub returns-in-Some : goal.returns-in-Some
returns-in-Some g c =
    let app_is = c.in-Ok.ensures in
    let words = map g.S.AsStr.text c.args.words.now in
    let taken = c.in-Ok-try_get_matches_from in (
      sym (faults_are _ words app_is) ∙ taken.ensures.kinds (ap is_simple_and_free app_is ∙ is_free_tool),
      something words _ _ _ _ _ _ _ _
          (value _ words taken.matches _ _ app_is taken.ensures.matches c.get_str-detect.ensures)
          (value _ words taken.matches _ _ app_is taken.ensures.matches c.get_str-victims.ensures)
          (c.is_set-listings.ensures ∙ ap is_set (value _ words taken.matches _ _ app_is taken.ensures.matches c.get_str.ensures))
          (c.is_set-schema.ensures ∙ ap is_set (value _ words taken.matches _ _ app_is taken.ensures.matches c.get_str-2.ensures))
          (c.is_set-savepoints.ensures ∙ ap is_set (value _ words taken.matches _ _ app_is taken.ensures.matches c.get_str-3.ensures))
          (c.is_set-trace.ensures ∙ ap is_set (value _ words taken.matches _ _ app_is taken.ensures.matches c.get_str-4.ensures))
          (value _ words taken.matches _ _ app_is taken.ensures.matches c.get_str-5.ensures)
          (value _ words taken.matches _ _ app_is taken.ensures.matches c.get_str-6.ensures)
          c.in-Some.asked c.in-Some.ensures.some,
    )

pub returns : goal.returns
returns g c =
    let app_is = c.in-Ok.ensures in
    let words = map g.S.AsStr.text c.args.words.now in
    let taken = c.in-Ok-try_get_matches_from in
    nothing words _ _ _ _ _ _ _ _
    (value _ words taken.matches _ _ app_is taken.ensures.matches c.get_str-detect.ensures)
    (value _ words taken.matches _ _ app_is taken.ensures.matches c.get_str-victims.ensures)
    (c.is_set-listings.ensures ∙ ap is_set (value _ words taken.matches _ _ app_is taken.ensures.matches c.get_str.ensures))
    (c.is_set-schema.ensures ∙ ap is_set (value _ words taken.matches _ _ app_is taken.ensures.matches c.get_str-2.ensures))
    (c.is_set-savepoints.ensures ∙ ap is_set (value _ words taken.matches _ _ app_is taken.ensures.matches c.get_str-3.ensures))
    (c.is_set-trace.ensures ∙ ap is_set (value _ words taken.matches _ _ app_is taken.ensures.matches c.get_str-4.ensures))
    (value _ words taken.matches _ _ app_is taken.ensures.matches c.get_str-5.ensures)
    (value _ words taken.matches _ _ app_is taken.ensures.matches c.get_str-6.ensures)
    c.in-None.ensures.none
