-- Each slot that must be woken is named, or told.
use Rattle.gl_slots.specs.Limit.{most_slots}
use Rattle.std.specs.Prelude.{◌≡◌, ℕ, ◌<◌, Bool, true, false, ◌||◌, ◌==◌}
use Rattle.std.specs.List.{list_any}
use Rattle.std.proofs.Common.{refl, ap, arith, subst, ◌∙◌}
use Rattle.std.proofs.Math.Bool.{or-true}
use Rattle.std.proofs.lemmas.Bool.Decides.{nat_tests}
use Rattle.gl_modes.proofs.Words.{and_both, or_elim}
use Rattle.gl_slots.specs.declared.slots.Slots.{Slots}
use Rattle.gl_slots.specs.Slots.{has_slot}
use Rattle.gl_model.specs.declared.txn.TxnId.{TxnId}
use Rattle.gl_model.specs.Lawful.{IsLawful}
use Rattle.gl_model.specs.State.{State}
use Rattle.gl_model.specs.Tellings.{Told}
use Rattle.gl_steps.specs.declared.command.Answer.{Answer}
use Rattle.gl_steps.specs.declared.command.Command.{Command}
use Rattle.gl_steps.specs.declared.command.Command.TheVariants as command
use Rattle.gl_steps.specs.Promises.{ends_wait_of, is_told, same_txn, waits_on}
use Rattle.gl_steps.specs.Step.{Step}
use Rattle.gl_steps.proofs.ToldGrants.{any_weaker}
use Rattle.gl_steps.proofs.WaitsEnd.{ends_waits}
use Rattle.gl_wakes.specs.Wakes.{names_slot}
use Rattle.gl_wakes.specs.Wakes.{HasEnded, WakesEnded}

-- two names of one transaction have one slot
slot_of : (t u : TxnId) → same_txn t u ≡ true → (t.slot == u.slot) ≡ true
slot_of t u h = (and_both (t.slot == u.slot) (t.age == u.age) h).0

turned : (a b : ℕ) → (a == b) ≡ true → (b == a) ≡ true
turned a b h = grind (arith, nat_tests)

names_its_slot : (c : Command) (t : TxnId) → ends_wait_of t c ≡ true → names_slot c t.slot ≡ true
names_its_slot (command.Cancel u) t h = turned t.slot u.slot (slot_of t u h)
names_its_slot (command.Abort u) t h = turned t.slot u.slot (slot_of t u h)
names_its_slot c t h = h

-- a set of the slots that are told, and of the one that is named, has each slot whose wait ended
pub wakes_ended : (c : Command) (told : Told) (slots : Slots)
    → ((u : ℕ) → u < most_slots → has_slot slots u ≡ (names_slot c u || list_any (λ x. x.0.slot == u) told))
    → WakesEnded c told slots
wakes_ended c told slots is s s' a step law t n below was gone =
    is t.slot below
    ∙ or_elim (is_told t told) (ends_wait_of t c) (ends_waits s s' c a told t n law step was gone)
    (λ so. ap (λ b. names_slot c t.slot || b) (any_weaker (λ x. same_txn t x.0) (λ x. x.0.slot == t.slot) told
    (λ x h. turned t.slot x.0.slot (slot_of t x.0 h)) so) ∙ or-true (names_slot c t.slot))
    (λ so. ap (λ b. b || list_any (λ x. x.0.slot == t.slot) told) (names_its_slot c t so))

-- a told transaction has its slot in the set
pub told_wakes : (list : Told) (slots : Slots) (t : TxnId) → ((u : ℕ) → u < most_slots → has_slot slots u ≡ (false || list_any (λ x. x.0.slot == u) list))
    → t.slot < most_slots → is_told t list ≡ true → has_slot slots t.slot ≡ true
told_wakes list slots t is below so =
    is t.slot below ∙ any_weaker (λ x. same_txn t x.0) (λ x. x.0.slot == t.slot) list (λ x h. turned t.slot x.0.slot (slot_of t x.0 h)) so

-- from a state to itself no wait ends
pub ended_none : (s : State) (slots : Slots) → HasEnded s s slots
ended_none s slots law t n below was gone = absurd (cc (was, gone))

-- with one more step: a wait that either one ended
pub ended_more : (s mid s' : State) (before more both : Slots) → ((u : ℕ) → has_slot both u ≡ (has_slot before u || has_slot more u))
    → (IsLawful s → IsLawful mid) → HasEnded s mid before → HasEnded mid s' more → HasEnded s s' both
ended_more s mid s' before more both joined keeps so_far later law t n below was gone = joined t.slot ∙ by (waits_on mid t n) refl
  where
    by : (b : Bool) → waits_on mid t n ≡ b → (has_slot before t.slot || has_slot more t.slot) ≡ true
    by true e = ap (λ b. has_slot before t.slot || b) (later (keeps law) t n below e gone) ∙ or-true (has_slot before t.slot)
    by false e = ap (λ b. b || has_slot more t.slot) (so_far law t n below was e)
