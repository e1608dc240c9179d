-- Runs of commands, one after the other.
use Rattle.std.specs.Prelude.{◌≡◌, ◌≤◌, ◌+◌, ◌||◌, Bool, false, List, [], ◌∷◌, ◌++◌, map}
use Rattle.std.specs.List.{list_any}
use Rattle.std.proofs.Common.{refl, sym, ap, subst, ◌∙◌, inr, arith}
use Rattle.gl_modes.proofs.Words.{split}
use Rattle.gl_graph.proofs.Unrefused.{or_no}
use Rattle.gl_slots.specs.Slots.{HasNoSlot}
use Rattle.gl_slots.specs.declared.slots.Slots.{Slots}
use Rattle.gl_catalog.specs.Manager.{state_of}
use Rattle.gl_model.specs.State.{State}
use Rattle.gl_model.specs.Tellings.{Told}
use Rattle.gl_model.specs.declared.txn.TxnId.{TxnId}
use Rattle.gl_catalog.specs.Replies.{Says}
use Rattle.gl_steps.specs.declared.command.Answer.{Answer}
use Rattle.gl_steps.specs.declared.command.Command.{Command}
use Rattle.gl_steps.specs.declared.command.Command.TheVariants as command
use Rattle.gl_steps.specs.Promises.{names}
use Rattle.gl_steps.specs.Served.{accepts}
use Rattle.gl_steps.specs.Step.{Run, Step}
use Rattle.gl_steps.proofs.Serving.{step_counts}
use Rattle.gl_rows.specs.Applying.{Upkeep}
use Rattle.gl_rows.proofs.Served.{none_all, unnamed_one}
use Rattle.gl_rows.specs.Locking.{Line, Runs}
use Rattle.gl_waiting.specs.Delivering.{Carries, DeliveryView}
use Rattle.gl_waiting.specs.Ends.{CallWith}
use Rattle.gl_waiting.specs.Going.{Call, IsRunOf}

pub lines_then : (s mid s' : State) (xs ys : List Line) → Runs s xs mid → Runs mid ys s' → Runs s (xs ++ ys) s'
lines_then s mid s' [] ys run next = subst (λ (x : State). Runs x ys s') run next
lines_then s mid s' (x ∷ xs) ys run next = (run.0, run.1, lines_then run.0 mid s' xs ys run.2 next)

-- a run counts no fewer commands than were counted before it
pub run_low : (lines : List Line) (s s' : State) → Runs s lines s' → s.accepted ≤ s'.accepted
run_low [] s s' run = let same : s'.accepted ≡ s.accepted = ap (λ (x : State). x.accepted) run in omega (arith, same)
run_low (l ∷ lines) s s' run =
    let counts = step_counts s l.0 l.1.0 l.1.1 run.0 run.1 in
    let more = run_low lines run.0 s' run.2 in
    split (accepts l.0 l.1.0) (λ e. let one : run.0.accepted ≡ s.accepted + 1 = counts.accepted e in omega (arith, one, more))
    (λ e. let same : run.0.accepted ≡ s.accepted = ap (λ (x : State). x.accepted) (counts.not_accepted e).0 in omega (arith, same, more))

-- and one that counts nothing changes nothing
pub run_idle : (lines : List Line) (s s' : State) → Runs s lines s' → s'.accepted ≤ s.accepted → s' ≡ s
run_idle [] s s' run low = run
run_idle (l ∷ lines) s s' run low =
    let counts = step_counts s l.0 l.1.0 l.1.1 run.0 run.1 in
    let rest = run_low lines run.0 s' run.2 in
    split (accepts l.0 l.1.0) (λ e. let one : run.0.accepted ≡ s.accepted + 1 = counts.accepted e in absurd (omega (arith, one, rest, low)))
    (λ e. let same : run.0 ≡ s = (counts.not_accepted e).0 in
    run_idle lines run.0 s' run.2 (subst (λ (x : State). s'.accepted ≤ x.accepted) (sym same) low) ∙ same)

-- Runs of commands that name no transaction but that which one command names.

abbrev pub commands : List Line → List Command
commands lines = map (λ (l : Line). l.0) lines

-- the commands name no other transaction
abbrev pub AreOf : Command → List Command → Type 0
AreOf c cs = (t : TxnId) → names t c ≡ false → list_any (names t) cs ≡ false

none_in_both : (test : Command → Bool) (xs ys : List Line) → list_any test (commands xs) ≡ false → list_any test (commands ys) ≡ false
    → list_any test (commands (xs ++ ys)) ≡ false
none_in_both test [] ys none none' = none'
none_in_both test (x ∷ xs) ys none none' =
    let b = or_no (test x.0) (list_any test (commands xs)) none in
    ap (λ k. k || list_any test (commands (xs ++ ys))) b.0 ∙ none_in_both test xs ys b.1 none'

-- no command, between equal states
pub own_same : (c : Command) (s s' : State) → s' ≡ s → IsRunOf c s s'
own_same c s s' same = (([], same), λ t apart. refl)

-- one command
pub own_one : (c d : Command) (s s' : State) (a : Answer) (told : Told) → ((t : TxnId) → names t c ≡ false → names t d ≡ false) → Step s d a told s'
    → IsRunOf c s s'
own_one c d s s' a told is step = (((d, (a, told)) ∷ [], (s', step, refl)), λ t apart. ap (λ b. b || false) (is t apart))

-- one run after the other
pub own_then : (c : Command) (s mid s' : State) → IsRunOf c s mid → IsRunOf c mid s' → IsRunOf c s s'
own_then c s mid s' first next = (
  (first.0.0 ++ next.0.0, lines_then s mid s' first.0.0 next.0.0 first.0.1 next.0.1),
  λ t apart. none_in_both (names t) first.0.0 next.0.0
      (first.1 t apart) (next.1 t apart),
)

-- a run given as its commands and their replies
pub own_of : (c : Command) (s s' : State) (cs : List Command) (rs : List Says) → AreOf c cs → Run s cs rs s' → IsRunOf c s s'
own_of c s s' [] [] are run = (([], run), λ t apart. refl)
own_of c s s' [] (r ∷ rs) are run = absurd run
own_of c s s' (d ∷ cs) [] are run = absurd run
own_of c s s' (d ∷ cs) (r ∷ rs) are run =
    let each : (t : TxnId) → names t c ≡ false → (names t d ≡ false) × (list_any (names t) cs ≡ false) =
    λ t apart. or_no (names t d) (list_any (names t) cs) (are t apart) in
    let rest = own_of c run.0 s' cs rs (λ t apart. (each t apart).1) run.2 in (
      ((d, r) ∷ rest.0.0, (run.0, run.1, rest.0.1)),
      λ t apart. ap (λ k. k || list_any (names t) (commands rest.0.0)) (each t apart).0 ∙ rest.1 t apart,
    )

-- records that are adopted and forgotten
pub own_upkeep : (c : Command) (s s' : State) → Upkeep s s' → IsRunOf c s s'
own_upkeep c s s' kept = ((kept.lines, kept.run), λ t apart. none_all (names t) (unnamed_one t) kept.lines kept.kept)

-- another command that names the same
pub own_as : (c d : Command) (s s' : State) → ((t : TxnId) → names t d ≡ false → names t c ≡ false) → IsRunOf c s s' → IsRunOf d s s'
own_as c d s s' is run = (run.0, λ t apart. run.1 t (is t apart))

-- Calls.

abbrev pub call_made : (d d' : DeliveryView) (c : Command) (told : Told) (ended : Slots) → Carries d c told ended d'
    → IsRunOf c (state_of d.manager) (state_of d'.manager) → Call d d'
call_made d d' c told ended carries run = record { command = c; told = told; ended = ended; carries = carries; run = run }

-- no call
abbrev pub call_none : (t : TxnId) (d : DeliveryView) (ended : Slots) → HasNoSlot ended → CallWith t [] ended d d
call_none t d ended none = (
  call_made d d command.Begin [] ended (inr (record { same = refl; untold = refl; none = none })) (own_same command.Begin (state_of d.manager)
      (state_of d.manager) refl),
  refl,
  refl,
  λ u apart. refl,
)
