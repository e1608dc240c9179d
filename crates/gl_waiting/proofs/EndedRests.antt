-- Those who rest are ended one after the other.
use Rattle.std.specs.Prelude.{◌≡◌, ◌≤◌, ℕ, Bool, true, false, not, ◌&&◌, ◌||◌, ◌==◌, List, [], ◌∷◌, ◌++◌, Option, Some, None}
use Rattle.std.specs.List.{list_any}
use Rattle.std.proofs.Common.{refl, sym, ap, subst, arith, ◌∙◌}
use Rattle.std.proofs.lemmas.List.Folds.{list_any-append}
use Rattle.gl_modes.proofs.Words.{and_both, both, clash, number_same, or_elim, same_number, split}
use Rattle.gl_slots.specs.Slots.{has_slot}
use Rattle.gl_slots.specs.declared.slots.Slots.{Slots}
use Rattle.gl_model.specs.State.{State}
use Rattle.gl_model.specs.Tellings.{Told}
use Rattle.gl_model.specs.declared.txn.TxnId.{TxnId}
use Rattle.gl_steps.specs.declared.command.Answer.{Answer}
use Rattle.gl_steps.specs.declared.command.Command.TheVariants as command
use Rattle.gl_catalog.specs.Manager.{state_of}
use Rattle.gl_waiting.specs.Going.{IsRun}
use Rattle.gl_waiting.specs.Resting.{ChoosesEach, ChoosesSome, Commits, CommitsQuietly, EachCommitsQuietly, EndsEach, EndsSome, IsChosen, IsQuiet}
use Rattle.gl_waiting.specs.Resting.{Rouses, is_counted}
use Rattle.gl_waiting.specs.Waiting.{WaitingView}
use Rattle.gl_waiting.specs.declared.resting.Ended.{Ended}
use Rattle.gl_waiting.specs.declared.resting.Number.{Number}
use Rattle.gl_waiting.specs.declared.resting.Number.TheVariants as number
use Rattle.gl_waiting.specs.declared.resting.Whom.{Whom}
use Rattle.gl_waiting.specs.declared.set_off.SetOff.{SetOff}
use Rattle.gl_waiting.proofs.Rests.{and_true}
use Rattle.gl_waiting.proofs.Runs.{lines_then, run_low}
use Rattle.gl_waiting.proofs.TurnRuns.{TurnRun, same_run, turn_run}

-- one commits by its own commands
pub commits_run : (v : WaitingView) (t : TxnId) (a : Option Answer) (told : Told) (off : SetOff) (v' : WaitingView) → Commits v t a told off v'
    → TurnRun (command.Commit t) v v'
commits_run v t a told off v' h = turn_run v _ off v' h.serves (command.Commit t) (λ own mid k. k.run)

-- one run after the other
then : (s mid s' : State) → IsRun s mid → IsRun mid s' → IsRun s s'
then s mid s' first next = (first.0 ++ next.0, lines_then s mid s' first.0 next.0 first.1 next.1)

quietly_run : (v : WaitingView) (ts : List TxnId) (v' : WaitingView) → EachCommitsQuietly v ts v' → IsRun (state_of v.manager) (state_of v'.manager)
quietly_run v [] v' same = (same_run command.Begin v v' same).0
quietly_run v (t ∷ ts) v' (mid, one, rest) =
    then (state_of v.manager) (state_of mid.manager) (state_of v'.manager) (commits_run v t one.answer [] one.off mid one.commits).0
    (quietly_run mid ts v' rest)

-- those who rest are ended by commands
pub ends_run : (n : Number) (v : WaitingView) (o : Option Ended) (told : Told) (off : SetOff) (v' : WaitingView) → EndsSome n v o told off v'
    → IsRun (state_of v.manager) (state_of v'.manager)
ends_run n v (Some e) told off v' h =
    then (state_of v.manager) (state_of h.mid.manager) (state_of v'.manager) (quietly_run v h.before h.mid h.quietly)
    (commits_run h.mid e.last e.answer told off v' h.last).0
ends_run n v None told off v' h = (same_run command.Begin v v' h.2).0

-- nobody stops resting if nothing was counted
pub chosen_idle : (w : Whom) (v : WaitingView) (o : Option Ended) (v' : WaitingView) (r r' : Slots) → ChoosesSome w v o v' r r'
    → v'.manager.accepted ≡ v.manager.accepted → r' ≡ r
chosen_idle w v (Some e) v' r r' h same = h.uncounted same
chosen_idle w v None v' r r' h same = h.1

-- one more commits quietly
quietly_more : (v : WaitingView) (ts : List TxnId) (mid : WaitingView) (t : TxnId) (v' : WaitingView) → EachCommitsQuietly v ts mid
    → CommitsQuietly mid t v' → EachCommitsQuietly v (ts ++ t ∷ []) v'
quietly_more v [] mid t v' same quiet = (v', subst (λ (x : WaitingView). CommitsQuietly x t v') same quiet, refl)
quietly_more v (u ∷ us) mid t v' (w, first, rest) quiet = (w, first, quietly_more w us mid t v' rest quiet)

-- a count that is another, or the same
pub counts : (v v' : WaitingView) → is_counted v v' ≡ true → v'.manager.accepted ≡ v.manager.accepted → ⊥
counts v v' counted same = clash counted (ap not (number_same v'.manager.accepted v.manager.accepted same))

pub counts_not : (v v' : WaitingView) → is_counted v v' ≡ false → v'.manager.accepted ≡ v.manager.accepted
counts_not v v' none =
    split (v'.manager.accepted == v.manager.accepted) (λ e. same_number v'.manager.accepted v.manager.accepted e) (λ e. clash (ap not e) none)

or_none : (b : Bool) → (b || false) ≡ b
or_none true = refl
or_none false = refl

none_of_both : (a b c : Bool) → (a && not b && not c) ≡ (a && not (b || c))
none_of_both true true c = refl
none_of_both true false c = refl
none_of_both false b c = refl

none_of_one : (a b : Bool) → (a && not b) ≡ (a && not (b || false))
none_of_one a b = ap (λ x. a && not x) (sym (or_none b))

-- One more is ended, after some whose last commit was quiet.
module _ (n : Number) (v0 v v' : WaitingView) (e e' : Ended) (told told' : Told) (off off' : SetOff) (h : EndsEach n v0 e told off v)
    (quiet : IsQuiet e told off) (commits : Commits v e'.last e'.answer told' off' v')
    (slots : (u : ℕ) → has_slot e'.slots u ≡ (has_slot e.slots u || (is_counted v v' && (u == e'.last.slot)))) where
  was_counted : is_counted h.mid v ≡ true
  was_counted = sym h.counted ∙ quiet.counted

  -- more was counted than at the beginning
  more : v'.manager.accepted ≡ v0.manager.accepted → ⊥
  more same =
      let first = quietly_run v0 h.before h.mid h.quietly in
      let mid = (commits_run h.mid e.last e.answer told off v h.last).0 in
      let last = (commits_run v e'.last e'.answer told' off' v' commits).0 in
      let low : v0.manager.accepted ≤ h.mid.manager.accepted = run_low first.0 (state_of v0.manager) (state_of h.mid.manager) first.1 in
      let low_too : h.mid.manager.accepted ≤ v.manager.accepted = run_low mid.0 (state_of h.mid.manager) (state_of v.manager) mid.1 in
      let lowest : v.manager.accepted ≤ v'.manager.accepted = run_low last.0 (state_of v.manager) (state_of v'.manager) last.1 in
      counts h.mid v was_counted (omega (arith, low, low_too, lowest, same))

  pub ends_more : has_slot e.slots e'.last.slot ≡ false → (n ≡ number.One → ⊥) → EndsEach n v0 e' told' off' v'
  ends_more fresh many = record {
    before = h.before ++ e.last ∷ [];
    mid = v;
    quietly = quietly_more v0 h.before h.mid e.last v h.quietly (record {
      answer = e.answer;
      off = off;
      commits = subst (λ (x : Told). Commits h.mid e.last e.answer x off v) quiet.untold h.last;
      nothing = quiet.nothing;
      counted = was_counted;
    });
    alone = λ one. absurd (many one);
    last = commits;
    slots = λ u. slots u ∙ ap (λ b. b || (is_counted v v' && (u == e'.last.slot)))
        (h.slots u ∙ ap (λ b. list_any (λ (t : TxnId). u == t.slot) h.before || (b && (u == e.last.slot))) was_counted
        ∙ ap (λ b. list_any (λ (t : TxnId). u == t.slot) h.before || b) (sym (or_none (u == e.last.slot)))
        ∙ sym (list_any-append (λ (t : TxnId). u == t.slot) h.before (e.last ∷ [])));
    counted = slots e'.last.slot ∙ ap (λ b. b || (is_counted v v' && (e'.last.slot == e'.last.slot))) fresh
        ∙ ap (λ b. is_counted v v' && b) (number_same e'.last.slot e'.last.slot refl) ∙ and_true (is_counted v v');
  }

  pub chooses_more : (w : Whom) (r0 r r' : Slots) → ChoosesEach w v0 e v r0 r → Rouses (Some e'.last.slot) v r v' r'
      → (has_slot r0 e'.last.slot ≡ true) × IsChosen w (state_of v0.manager) r0 e'.last.slot → ChoosesEach w v0 e' v' r0 r'
  chooses_more w r0 r r' c rouses last = record {
    chosen = λ u is.
        or_elim (has_slot e.slots u) (is_counted v v' && (u == e'.last.slot)) (sym (slots u) ∙ is) (c.chosen u)
        (λ now. subst (λ x. (has_slot r0 x ≡ true) × IsChosen w (state_of v0.manager) r0 x)
        (sym (same_number u e'.last.slot (and_both (is_counted v v') (u == e'.last.slot) now).1)) last);
    last = last;
    rests = λ u.
        split (is_counted v v')
        (λ yes. rouses.counted (counts v v' yes) u ∙ ap (λ b. b && not (u == e'.last.slot)) (c.rests u)
        ∙ none_of_both (has_slot r0 u) (has_slot e.slots u) (u == e'.last.slot)
        ∙ ap (λ b. has_slot r0 u && not b) (sym (slots u ∙ ap (λ b. has_slot e.slots u || (b && (u == e'.last.slot))) yes)))
        (λ no. ap (λ (x : Slots). has_slot x u) (rouses.uncounted (counts_not v v' no)) ∙ c.rests u ∙ none_of_one (has_slot r0 u) (has_slot e.slots u)
        ∙ ap (λ b. has_slot r0 u && not b) (sym (slots u ∙ ap (λ b. has_slot e.slots u || (b && (u == e'.last.slot))) no)));
    uncounted = λ same. absurd (more same);
  }

-- The first of them is ended.
pub ends_first : (n : Number) (v v' : WaitingView) (e : Ended) (told : Told) (off : SetOff) → Commits v e.last e.answer told off v'
    → ((u : ℕ) → has_slot e.slots u ≡ (is_counted v v' && (u == e.last.slot))) → EndsEach n v e told off v'
ends_first n v v' e told off commits slots = record {
  before = [];
  mid = v;
  quietly = refl;
  alone = λ one. refl;
  last = commits;
  slots = slots;
  counted = slots e.last.slot ∙ ap (λ b. is_counted v v' && b) (number_same e.last.slot e.last.slot refl) ∙ and_true (is_counted v v');
}

pub chooses_first : (w : Whom) (v v' : WaitingView) (e : Ended) → ((u : ℕ) → has_slot e.slots u ≡ (is_counted v v' && (u == e.last.slot)))
    → (r r' : Slots) → Rouses (Some e.last.slot) v r v' r' → (has_slot r e.last.slot ≡ true) × IsChosen w (state_of v.manager) r e.last.slot
    → ChoosesEach w v e v' r r'
chooses_first w v v' e slots r r' rouses last = record {
  chosen = λ u is.
      subst (λ x. (has_slot r x ≡ true) × IsChosen w (state_of v.manager) r x)
      (sym (same_number u e.last.slot (and_both (is_counted v v') (u == e.last.slot) (sym (slots u) ∙ is)).1)) last;
  last = last;
  rests = λ u.
      split (is_counted v v')
      (λ yes. rouses.counted (counts v v' yes) u ∙ ap (λ b. has_slot r u && not b) (sym (slots u ∙ ap (λ b. b && (u == e.last.slot)) yes)))
      (λ no. ap (λ (x : Slots). has_slot x u) (rouses.uncounted (counts_not v v' no)) ∙ sym (and_true (has_slot r u))
      ∙ ap (λ b. has_slot r u && not b) (sym (slots u ∙ ap (λ b. b && (u == e.last.slot)) no)));
  uncounted = rouses.uncounted;
}

-- others rest on
pub rests_still : (slot : ℕ) (v : WaitingView) (r : Slots) (v' : WaitingView) (r' : Slots) → Rouses (Some slot) v r v' r' → (u : ℕ)
    → not (u == slot) ≡ true → has_slot r u ≡ true → has_slot r' u ≡ true
rests_still slot v r v' r' rouses u apart is =
    split (is_counted v v') (λ yes. rouses.counted (counts v v' yes) u ∙ both (has_slot r u) (not (u == slot)) is apart)
    (λ no. ap (λ (x : Slots). has_slot x u) (rouses.uncounted (counts_not v v' no)) ∙ is)
