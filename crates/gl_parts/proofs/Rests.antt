-- What rests: who has none in the main manager has nothing where a part is marked; and from when on it counts.
use Rattle.std.specs.Prelude.{◌≡◌, ◌⊎◌, ◌≤◌, ◌<◌, ◌+◌, ℕ, true, ◌==◌, min, List, [], ◌∷◌, ◌++◌, Option, Some, None, is_none, is_some}
use Rattle.std.specs.Prelude.{if◌then◌else◌}
use Rattle.std.proofs.Common.{refl, sym, ap, arith, subst, ◌∙◌, inl, inr, ⊎_elim}
use Rattle.gl_modes.specs.declared.mode.Mode.{Mode}
use Rattle.gl_modes.specs.declared.mode.Mode.TheVariants.{NL}
use Rattle.gl_modes.specs.declared.node.NodeId.{NodeId}
use Rattle.gl_modes.specs.declared.refusal.Refusal.{Refusal}
use Rattle.gl_modes.specs.Modes.{is_at_least}
use Rattle.gl_modes.proofs.Words.{and_both, clash, no, number_same, same_number, split}
use Rattle.gl_header.specs.Header.{holds}
use Rattle.gl_model.specs.Calls.{accepted_once, begun_again}
use Rattle.gl_model.specs.Lawful.{IsLawful}
use Rattle.gl_model.specs.State.{State, Txn, age_in, age_of, members, since_in, since_of}
use Rattle.gl_model.specs.declared.txn.Status.TheVariants.{Active}
use Rattle.gl_model.specs.declared.txn.TxnId.{TxnId}
use Rattle.gl_model.proofs.law.Keeps.{nl_is}
use Rattle.gl_steps.specs.declared.command.Answer.TheVariants as answer
use Rattle.gl_steps.specs.declared.command.Command.TheVariants as command
use Rattle.gl_steps.specs.Promises.{names}
use Rattle.gl_steps.specs.Step.{Goes}
use Rattle.gl_steps.specs.Tests.{refusal_of}
use Rattle.gl_parts.specs.Whole.{Part, held_at, held_by_name, is_intention}
use Rattle.gl_parts.specs.Leading.{Follower, covers}
use Rattle.gl_parts.specs.Actions.{AreKept, AreVisited, releases, requests_at, txn_at}
use Rattle.gl_parts.specs.declared.passing.Mark.{Mark}
use Rattle.gl_parts.specs.Resting.{AbsentAreUncovered, AbsentHaveNoneMarked, CountsFrom, EndsBesideRest, HasNoneMarked, RestCountsFrom, UnmarkedMayRest}
use Rattle.gl_parts.proofs.Lists.{each_all, each_map}
use Rattle.gl_parts.proofs.Plain.{plain_main_steps}

-- who has nothing is covered by nothing
nothing_below : (m : Mode) → is_at_least NL m ≡ true → m ≡ NL
nothing_below NL h = refl
nothing_below m h = cc

-- a slot without a transaction holds nothing
absent_holds : (p : Part) (t : ℕ) (n : NodeId) → IsLawful p.state → is_none (p.state.txns t) ≡ true → held_at p t n ≡ NL
absent_holds p t n law absent = by (p.name n)
  where
    gone : (o : Option Txn) → is_none o ≡ true → is_some o ≡ true → ⊥
    gone None h k = no k
    gone (Some x) h k = no h

    none : (k : NodeId) → p.state.held t k ≡ NL
    none k =
        split (holds (members p.state k) t) (λ h. absurd (gone (p.state.txns t) absent (law.grants_live t k h).0)) (λ h. nl_is (p.state.held t k) h)

    by : (o : Option NodeId) → held_by_name (p.state.held t) o ≡ NL
    by None = refl
    by (Some k) = none k

pub absent_are_uncovered : AbsentAreUncovered
absent_are_uncovered main p t n law absent has =
    split (covers main p t n)
    (λ e. absurd (has (nothing_below (held_at p t n) (ap (λ m. is_at_least m (held_at p t n)) (sym (absent_holds main t n law absent)) ∙ e))))
    (λ e. e)

pub absent_have_none_marked : AbsentHaveNoneMarked
absent_have_none_marked w t work absent = each_map (λ f obeys n here marked. none f n ((obeys n here).led marked t)) w.followers work.leads.obey
  where
    none : (f : Follower) (n : NodeId) → covers w.main f.part t n ≡ true → held_at f.part t n ≡ NL
    none f n led =
        nothing_below (held_at f.part t n)
        (ap (λ m. is_at_least m (held_at f.part t n)) (sym (absent_holds w.main t n work.lawful.0 absent)) ∙ led)

above_nothing : (m : Mode) → is_at_least m NL ≡ true
above_nothing m = refl

pub ends_beside_rest : EndsBesideRest
ends_beside_rest w t c main' work ends takes graph same none =
    plain_main_steps w c main' work takes graph same (each_all (AreVisited w.main c) visited w.followers) (each_map kept w.followers none)
  where
    nothing : (o : Option NodeId) → is_intention (held_by_name (λ q. NL) o) ≡ true
    nothing None = refl
    nothing (Some k) = refl

    asks_nothing : (u : ℕ) (n : NodeId) → ((c ≡ command.Commit t) ⊎ (c ≡ command.Abort t)) → is_intention (requests_at w.main c u n) ≡ true
    asks_nothing u n (inl e) = ap (λ d. is_intention (requests_at w.main d u n)) e ∙ nothing (w.main.name n)
    asks_nothing u n (inr e) = ap (λ d. is_intention (requests_at w.main d u n)) e ∙ nothing (w.main.name n)

    visited : (f : Follower) → AreVisited w.main c f
    visited f n here u more = clash (asks_nothing u n ends) more

    its : (u : ℕ) → ((c ≡ command.Commit t) ⊎ (c ≡ command.Abort t)) → names (txn_at w.main u) c ≡ true → u ≡ t.slot
    its u (inl e) h = same_number u t.slot (and_both (u == t.slot) _ (ap (names (txn_at w.main u)) (sym e) ∙ h)).0
    its u (inr e) h = same_number u t.slot (and_both (u == t.slot) _ (ap (names (txn_at w.main u)) (sym e) ∙ h)).0

    kept : (f : Follower) → HasNoneMarked w.main f t.slot → AreKept w.main c main' f
    kept f has n u here marked lowers =
        let slot = its u ends (and_both (names (txn_at w.main u) c) (releases c) lowers).0 in
        ap (is_at_least (held_at main' u n)) (ap (λ v. held_at f.part v n) slot ∙ has n here marked) ∙ above_nothing (held_at main' u n)

pub unmarked_may_rest : UnmarkedMayRest
unmarked_may_rest main f is_commit most marks t lists may n here marked = by (main.name n) refl (f.part.name n) refl
  where
    unlisted : (before after : List Mark) (m : Mark) → [] ≡ before ++ m ∷ after → ⊥
    unlisted [] after m e = cc
    unlisted (b ∷ before) after m e = cc

    by : (a : Option NodeId) → main.name n ≡ a → (o : Option NodeId) → f.part.name n ≡ o → held_at f.part t n ≡ NL
    by None at o there = absurd (no (sym (ap is_some at) ∙ here))
    by (Some k) at None there = ap (held_by_name (f.part.state.held t)) there
    by (Some k) at (Some j) there =
        let it = lists n k j at there marked in
        absurd (unlisted it.0 it.1 (record { in_main = k; in_part = j }) (sym may.unmarked ∙ it.2))

-- From when on what rests counts.

module _ (s : State) (law : IsLawful s) (t : TxnId) (next : ℕ) where
  abbrev renewed : State
  renewed = accepted_once (begun_again s t.slot next)

  abbrev own : Txn
  own = record { age = s.begins + 1; since = min next (s.begins + 1); status = Active }

  since_is : since_of renewed t.slot ≡ min next (s.begins + 1)
  since_is = ap (λ b. since_in (if b then Some own else s.txns t.slot)) (number_same t.slot t.slot refl)

  age_is : age_of renewed t.slot ≡ s.begins + 1
  age_is = ap (λ b. age_in (if b then Some own else s.txns t.slot)) (number_same t.slot t.slot refl)

  low : since_of renewed t.slot ≤ next
  low = grind (arith, since_is)

  high : (u : ℕ) → is_some (s.txns u) ≡ true → since_of s u < next → since_of s u < since_of renewed t.slot
  high u live before =
      let known = law.known u live in
      let aged = (law.ages u live).1 in
      grind (arith, since_is, known, aged)

  counts : CountsFrom s t.slot next renewed
  counts = record {
    since = since_is ∙ ap (min next) (sym age_is);
    taken = λ age since later new. grind (arith, low);
    above = high;
    spared = λ c later v u live before same_u same_slot candidate victim.
        let least = victim.is_member.greatest t.slot candidate in
        let less = high u live before in
        omega arith;
  }

pub rest_counts_from : RestCountsFrom
rest_counts_from s t next u told s' law step =
    ⊎_elim (goes (refusal_of s (command.Renew t next)))
    (λ lack. absurd (refused (lack.1.answer_is))) step
  where
    refused : {r : Refusal} → answer.Begun u ≡ answer.Refused r → ⊥
    refused e = cc

    goes : (o : Option Refusal) → Goes s (command.Renew t next) o (answer.Begun u) told s' → CountsFrom s t.slot next s'
    goes (Some r) h = absurd (refused h.answer_is)
    goes None (mid, accepts, is) =
        subst (CountsFrom s t.slot next) (sym (is ∙ ap accepted_once accepts.2)) (counts s law t next)
