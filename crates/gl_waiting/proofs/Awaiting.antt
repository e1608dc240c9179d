-- Waiters: which of them wait on, and which slots are due.
use Rattle.gl_slots.specs.declared.slots.Slots.{Slots}
use Rattle.gl_slots.specs.Limit.{most_slots}
use Rattle.std.specs.Prelude.{is_some, ◌≡◌, ◌≢◌, ◌⊎◌, ℕ, zero, suc, ◌∷◌, length, replicate, slice_set, ◌<◌, ◌≤◌, ◌==◌, ◌||◌, ◌&&◌, not, Bool, true, false}
use Rattle.std.specs.Prelude.{List, []}
use Rattle.std.specs.Prelude.{if◌then◌else◌, Option, Some, None, Result, Ok, Err}
use Rattle.std.proofs.Common.{refl, sym, ap, subst, ◌∙◌, inl, inr, arith}
use Rattle.std.proofs.lemmas.Bool.Decides.{nat_tests}
use mathlib.Core.Bool.{true≢false}
use Rattle.gl_modes.proofs.NodeLemmas.{same_node-refl}
use Rattle.gl_modes.proofs.Words.{and_both}
use Rattle.gl_modes.specs.declared.mode.Mode.{Mode}
use Rattle.gl_modes.specs.declared.node.NodeId.{NodeId}
use Rattle.gl_modes.specs.declared.refusal.Refusal.{Refusal}
use Rattle.gl_slots.specs.Slots.{HasNoSlot, has_slot}
use Rattle.gl_model.specs.declared.answers.Locked.{Locked}
use Rattle.gl_model.specs.declared.answers.Locked.TheVariants as locked
use Rattle.gl_model.specs.declared.txn.TxnId.{TxnId}
use Rattle.gl_model.specs.Lawful.{IsLawful}
use Rattle.gl_model.specs.State.{State}
use Rattle.gl_model.specs.Tellings.{Told}
use Rattle.gl_graph.specs.Refusals.{first_refusal, max_count, where_true}
use Rattle.gl_model.specs.Calls.{cancel_tests, condemned_test, idle_test}
use Rattle.gl_steps.specs.Step.{Goes, Step}
use Rattle.gl_steps.specs.Tests.{refusal_of, worn}
use Rattle.gl_steps.specs.declared.command.Answer.{Answer}
use Rattle.gl_steps.specs.declared.command.Answer.TheVariants as answer
use Rattle.gl_steps.specs.declared.command.Command.{Command}
use Rattle.gl_steps.specs.declared.command.Command.TheVariants as command
use Rattle.gl_steps.specs.Promises.{waits_on}
use Rattle.gl_catalog.specs.declared.manager.paths.Reached.{Reached}
use Rattle.gl_catalog.specs.Manager.{state_of}
use Rattle.gl_model.specs.declared.answers.Notice.{Notice}
use Rattle.gl_model.specs.declared.answers.Notice.TheVariants as notice
use Rattle.gl_modes.specs.Modes.{is_at_least}
use Rattle.gl_modes.specs.Nodes.{same_node}
use Rattle.gl_modes.specs.declared.refusal.Refusal.TheVariants as no
use Rattle.gl_model.specs.State.{Txn, is_waiting_at, live_by, lives, status_of, waits_at}
use Rattle.gl_model.specs.declared.txn.Status.{Status}
use Rattle.gl_model.specs.declared.txn.Status.TheVariants.{Active, Condemned, Waiting}
use Rattle.gl_catalog.specs.Replies.{wait_of}
use Rattle.gl_rows.specs.declared.answer.RowLocked.{RowLocked}
use Rattle.gl_rows.specs.declared.answer.RowRefusal.{RowRefusal}
use Rattle.gl_rows.specs.declared.answer.RowRefusal.TheVariants as row_no
use Rattle.gl_wakes.specs.Boxes.{Slot, box_at, by_notice, named, stopped, verdict_of}
use Rattle.gl_wakes.specs.Wakes.{HasEnded}
use Rattle.gl_wakes.proofs.Waking.{ended_none}
use Rattle.gl_wakes.specs.declared.grant.Grant.{Grant}
use Rattle.gl_wakes.specs.declared.grant.Stop.{Stop}
use Rattle.gl_waiting.specs.Delivering.{Carries, DeliveryView}
use Rattle.gl_waiting.specs.Waiters.{KnowsDue, WaitsStill, by_verdict, came_as, came_of, goes_on, goes_on_with, holds_or_ends, next_in, next_of}
use Rattle.gl_waiting.specs.Waiters.{place_at, place_of, waiter_in, waits_as, waits_for_node}
use Rattle.gl_waiting.specs.RowLocks.{row_came_as, row_came_of, row_lacks}
use Rattle.gl_waiting.specs.Waiting.{WaitingView}
use Rattle.gl_waiting.specs.Begins.{BeginsView}
use Rattle.gl_waiting.specs.declared.waiter.Came.{Came}
use Rattle.gl_waiting.specs.declared.waiter.Came.TheVariants as came
use Rattle.gl_waiting.specs.declared.waiter.Next.{Next}
use Rattle.gl_waiting.specs.declared.waiter.Place.{Place}
use Rattle.gl_waiting.specs.declared.waiter.Place.TheVariants as place
use Rattle.gl_waiting.specs.declared.waiter.Waiter.{Waiter}

-- this set has the slots of both
abbrev pub Joins : Slots → Slots → Slots → Type 0
Joins both one other = (u : ℕ) → has_slot both u ≡ (has_slot one u || has_slot other u)

-- nobody's wait ended, or a command was counted
abbrev Counted : Slots → ℕ → ℕ → Type 0
Counted slots k m = HasNoSlot slots ⊎ (k < m)

module _ (d d' : DeliveryView) (c : Command) (told : Told) (ended : Slots) where
  pub carries_ended : Carries d c told ended d' → HasEnded (state_of d.manager) (state_of d'.manager) ended
  carries_ended (inl so) = so.1.wakes.all
  carries_ended (inr same) = subst (λ (x : DeliveryView). HasEnded (state_of d.manager) (state_of x.manager) ended) (sym same.same)
      (ended_none (state_of d.manager) ended)

  pub carries_counted : Carries d c told ended d' → Counted ended d.manager.accepted d'.manager.accepted
  carries_counted (inl so) = inr so.0
  carries_counted (inr same) = inl same.none

  pub carries_low : Carries d c told ended d' → d.manager.accepted ≤ d'.manager.accepted
  carries_low (inl so) = let more = so.0 in omega (arith, more)
  carries_low (inr idle) = let same : d'.manager.accepted ≡ d.manager.accepted = ap (λ (x : DeliveryView). x.manager.accepted) idle.same in omega (arith, same)

-- Places.

pub set_there : (places : List Place) (i : ℕ) (p : Place) → i < length places → place_at (slice_set places i p) i ≡ p
set_there [] i p less = absurd (omega arith)
set_there (b ∷ places) zero p less = refl
set_there (b ∷ places) (suc i) p less = set_there places i p (omega (arith, less))

pub set_apart : (places : List Place) (i k : ℕ) (p : Place) → k ≢ i → place_at (slice_set places i p) k ≡ place_at places k
set_apart [] zero k p apart = refl
set_apart [] (suc i) k p apart = refl
set_apart (b ∷ places) zero zero p apart = absurd (apart refl)
set_apart (b ∷ places) zero (suc k) p apart = refl
set_apart (b ∷ places) (suc i) zero p apart = refl
set_apart (b ∷ places) (suc i) (suc k) p apart = set_apart places i k p (λ is. apart (ap suc is))

pub set_beyond : (places : List Place) (i : ℕ) (p : Place) → length places ≤ i → slice_set places i p ≡ places
set_beyond [] i p less = refl
set_beyond (b ∷ places) zero p less = absurd (omega (arith, less))
set_beyond (b ∷ places) (suc i) p less = ap (λ (x : List Place). b ∷ x) (set_beyond places i p (omega (arith, less)))

pub same_slot : (u k : ℕ) → (u == k) ≡ true → u ≡ k
same_slot u k e = grind (arith, nat_tests)

pub apart_slot : (u k : ℕ) → (u == k) ≡ false → u ≢ k
apart_slot u k e is = absurd (grind (arith, nat_tests))

or_false : (a b : Bool) → (a || b) ≡ false → (a ≡ false) × (b ≡ false)
or_false false false e = (refl, refl)
or_false false true e = absurd (true≢false e)
or_false true b e = absurd (true≢false e)

pub first_false : (a b : Bool) → (a || b) ≡ false → a ≡ false
first_false a b e = (or_false a b e).0

false_or : (a b : Bool) → a ≡ false → b ≡ false → (a || b) ≡ false
false_or a b one other = cc

pub set_here : (places : List Place) (i : ℕ) (p : Place) → length places ≡ most_slots → i < most_slots → place_at (slice_set places i p) i ≡ p
set_here places i p long below = set_there places i p (omega (arith, long, below))

-- What became of a wait is known unless it goes on.
module _ (s : State) (t : TxnId) (n : NodeId) (k : Mode) where
  answered : (o : Option Notice) → by_notice s t n k o ≡ None → ⊥
  answered None is = cc
  answered (Some notice.Victim) is = cc
  answered (Some notice.Moved) is = cc
  answered (Some notice.Gone) is = cc
  answered (Some (notice.Granted at m)) is = by (same_node at n && is_at_least (s.held t.slot n) k) is
    where
      by : (b : Bool) → (if b then Some (Ok (record { txn = t; node = n; mode = s.held t.slot n })) else stopped no.NotWaiting) ≡ None → ⊥
      by true e = cc
      by false e = cc

  pub verdict_still : (boxes : List Slot) → verdict_of s boxes t n k ≡ None → waits_on s t n ≡ true
  verdict_still boxes is = by (lives s t) (is_waiting_at s t.slot n) is
    where
      by : (a b : Bool) → (if a then (if b then None else by_notice s t n k (named t (box_at boxes t.slot))) else stopped no.NoSuchTxn) ≡ None → (a && b) ≡ true
      by true true e = refl
      by true false e = absurd (answered (named t (box_at boxes t.slot)) e)
      by false b e = absurd (cc e)

-- a waiter that waits has nothing to do next
pub still_none : (s : State) (boxes : List Slot) (p : Place) → WaitsStill s p → next_in s boxes p ≡ None
still_none s boxes place.Empty waits = refl
still_none s boxes (place.GoesOn w granted) waits = absurd waits
still_none s boxes (place.Waits w) waits =
    ap (by_verdict w)
    (ap (λ b. if b then (if is_waiting_at s w.txn.slot w.at then None else by_notice s w.txn w.at w.wanted (named w.txn (box_at boxes w.txn.slot)))
    else stopped no.NoSuchTxn) (and_both (lives s w.txn) _ waits).0
    ∙ ap (λ b. if b then None else by_notice s w.txn w.at w.wanted (named w.txn (box_at boxes w.txn.slot))) (and_both (lives s w.txn) _ waits).1)

first_same : (x y : Waiter × Next) → Some x ≡ Some y → Some x.0 ≡ Some y.0
first_same x y e = let so : x ≡ y = cc e in ap (λ (z : Waiter × Next). Some z.0) so

-- the waiter that goes on is that of its place
pub next_waiter : (s : State) (boxes : List Slot) (p : Place) (w : Waiter) (x : Next) → next_in s boxes p ≡ Some (w, x) → waiter_in p ≡ Some w
next_waiter s boxes place.Empty w x is = absurd (cc is)
next_waiter s boxes (place.GoesOn v granted) w x is = first_same (v, goes_on_with v granted) (w, x) is
next_waiter s boxes (place.Waits v) w x is = by (verdict_of s boxes v.txn v.at v.wanted) is
  where
    by : (o : Option (Result Grant Stop)) → by_verdict v o ≡ Some (w, x) → Some v ≡ Some w
    by None is = absurd (cc is)
    by (Some verdict) is = first_same (v, next_of v verdict) (w, x) is

-- its slot is due
pub next_due : (due : ℕ → Bool) (s : State) (boxes : List Slot) (places : List Place) (u : ℕ) (x : Waiter × Next) → KnowsDue due s places
    → next_in s boxes (place_at places u) ≡ Some x → due u ≡ true
next_due due s boxes places u x h is = by (due u) refl
  where
    by : (b : Bool) → due u ≡ b → b ≡ true
    by true e = refl
    by false e = absurd (cc (still_none s boxes (place_at places u) (h.still u e), is))

-- no slot is due that has a waiter
pub none_due : (s : State) (boxes : List Slot) (places : List Place) (due none : ℕ → Bool) → KnowsDue due s places
    → ((u : ℕ) → next_in s boxes (place_at places u) ≡ None) → KnowsDue none s places
none_due s boxes places due none h idle = record { own = h.own; still = λ u out. by (place_at places u) (idle u) }
  where
    by : (p : Place) → next_in s boxes p ≡ None → WaitsStill s p
    by place.Empty is = tt
    by (place.GoesOn w granted) is = cc is
    by (place.Waits w) is = verdict_still s w.txn w.at w.wanted boxes (waits_on_by (verdict_of s boxes w.txn w.at w.wanted) is)
      where
        waits_on_by : (o : Option (Result Grant Stop)) → by_verdict w o ≡ None → o ≡ None
        waits_on_by None is = refl
        waits_on_by (Some verdict) is = absurd (cc is)

module _ (s s' : State) (ended : Slots) (law : IsLawful s) (ends : HasEnded s s' ended) where
  -- who waited waits on, if its wait has not ended
  still_on : (u : ℕ) (p : Place) → ((w : Waiter) → waiter_in p ≡ Some w → (w.txn.slot ≡ u) × (u < most_slots)) → has_slot ended u ≡ false → WaitsStill s p
      → WaitsStill s' p
  still_on u place.Empty own out waits = tt
  still_on u (place.GoesOn w granted) own out waits = waits
  still_on u (place.Waits w) own out waits = by (waits_on s' w.txn w.at) refl
    where
      by : (b : Bool) → waits_on s' w.txn w.at ≡ b → b ≡ true
      by true now = refl
      by false now =
          let mine = own w refl in
          let so = ends law w.txn w.at (subst (λ k. k < most_slots) (sym mine.0) mine.1) waits now in
          absurd (true≢false (sym so ∙ ap (has_slot ended) mine.0 ∙ out))

  -- the slots are due whose waits have ended, and those that were due before
  pub due_on : (due due' : Slots) (places : List Place) → Joins due' due ended → KnowsDue (has_slot due) s places → KnowsDue (has_slot due') s' places
  due_on due due' places joins h = record {
    own = h.own;
    still = λ u out.
        let both = or_false (has_slot due u) (has_slot ended u) (sym (joins u) ∙ out) in still_on u (place_at places u) (h.own u) both.1 (h.still u both.0);
  }

  -- something else belongs to one slot, with a waiter of this transaction that waits unless the slot is due
  pub due_put : (due due' : Slots) (places : List Place) (t : TxnId) (p : Place) → ((w : Waiter) → waiter_in p ≡ Some w → w.txn ≡ t)
      → t.slot < most_slots → length places ≡ most_slots → (has_slot due' t.slot ≡ false → WaitsStill s' p)
      → ((u : ℕ) → u ≢ t.slot → has_slot due' u ≡ false → (has_slot due u ≡ false) × (has_slot ended u ≡ false)) → KnowsDue (has_slot due) s places
      → KnowsDue (has_slot due') s' (slice_set places t.slot p)
  due_put due due' places t p same below long here there h = record {
    own = λ u w. owns u w (u == t.slot) refl;
    still = λ u. waits u (u == t.slot) refl;
  }
    where
      at_slot : (u : ℕ) → u ≡ t.slot → place_at (slice_set places t.slot p) u ≡ p
      at_slot u is = ap (place_at (slice_set places t.slot p)) is ∙ set_here places t.slot p long below

      owns : (u : ℕ) (w : Waiter) (b : Bool) → (u == t.slot) ≡ b → waiter_in (place_at (slice_set places t.slot p) u) ≡ Some w
          → (w.txn.slot ≡ u) × (u < most_slots)
      owns u w true e is =
          let so = same_slot u t.slot e in (
            ap (λ (x : TxnId). x.slot) (same w (sym (ap waiter_in (at_slot u so)) ∙ is)) ∙ sym so,
            subst (λ k. k < most_slots) (sym so) below,
          )
      owns u w false e is = h.own u w (sym (ap waiter_in (set_apart places t.slot u p (apart_slot u t.slot e))) ∙ is)

      waits : (u : ℕ) (b : Bool) → (u == t.slot) ≡ b → has_slot due' u ≡ false → WaitsStill s' (place_at (slice_set places t.slot p) u)
      waits u true e out =
          let so = same_slot u t.slot e in
          subst (WaitsStill s') (sym (at_slot u so)) (here (sym (ap (has_slot due') so) ∙ out))
      waits u false e out =
          let apart = apart_slot u t.slot e in
          let before = there u apart out in
          subst (WaitsStill s') (sym (set_apart places t.slot u p apart)) (still_on u (place_at places u) (h.own u) before.1 (h.still u before.0))

-- what belongs to the slot of a waiter that went on is of its transaction, and waits unless it goes on
pub placed_txn : (v : Waiter) (c : Came) (w : Waiter) → waiter_in (place_of v c) ≡ Some w → w.txn ≡ v.txn
placed_txn v (came.Ended o) w is = absurd (cc is)
placed_txn v (came.Waits at wanted) w is = let so : record v { at = at; wanted = wanted } ≡ w = cc is in sym (ap (λ (x : Waiter). x.txn) so)
placed_txn v (came.Holds at mode) w is = let so : record v { at = at } ≡ w = cc is in sym (ap (λ (x : Waiter). x.txn) so)
placed_txn v (came.Lacks at wanted) w is = let so : record v { at = at; wanted = wanted } ≡ w = cc is in sym (ap (λ (x : Waiter). x.txn) so)

pub placed_still : (s : State) (v : Waiter) (c : Came) → (goes_on c ≡ true → ⊥)
    → ((at : NodeId) (wanted : Mode) → c ≡ came.Waits at wanted → waits_on s v.txn at ≡ true) → WaitsStill s (place_of v c)
placed_still s v (came.Ended o) held waits = tt
placed_still s v (came.Waits at wanted) held waits = waits at wanted refl
placed_still s v (came.Holds at mode) held waits = absurd (held refl)
placed_still s v (came.Lacks at wanted) held waits = absurd (held refl)

-- the slots that are due after a waiter went on
module _ (due ended due' : Slots) (slot : ℕ) (held : Bool)
    (is : (u : ℕ) → has_slot due' u ≡ (has_slot due u && not (u == slot && not held) || has_slot ended u)) where
  -- the slot of a waiter that goes on with the next call stays due
  pub stays_due : has_slot due slot ≡ true → has_slot due' slot ≡ false → held ≡ true → ⊥
  stays_due was out on = by held (slot == slot) (has_slot due slot) (has_slot ended slot) was on (sym (is slot) ∙ out)
    where
      by : (h b d e : Bool) → d ≡ true → h ≡ true → (d && not (b && not h) || e) ≡ false → ⊥
      by true true true e was on out = true≢false out
      by true false true e was on out = true≢false out
      by false b d e was on out = true≢false (sym on)
      by true b false e was on out = true≢false (sym was)

  -- and any other is due if it was before, or if its wait has ended
  pub others_due : (u : ℕ) → u ≢ slot → has_slot due' u ≡ false → (has_slot due u ≡ false) × (has_slot ended u ≡ false)
  others_due u apart out = by (u == slot) refl
    where
      both : (d e h : Bool) → (d && not (false && not h) || e) ≡ false → (d ≡ false) × (e ≡ false)
      both false false h out = (refl, refl)
      both true e h out = absurd (true≢false out)
      both false true h out = absurd (true≢false out)

      by : (b : Bool) → (u == slot) ≡ b → (has_slot due u ≡ false) × (has_slot ended u ≡ false)
      by true e = absurd (apart (same_slot u slot e))
      by false e =
          both (has_slot due u) (has_slot ended u) held
          (subst (λ (b : Bool). (has_slot due u && not (b && not held) || has_slot ended u) ≡ false) e (sym (is u) ∙ out))

-- a place is empty now, or as it was
empty_or : (places : List Place) (slot u : ℕ) → (place_at (slice_set places slot place.Empty) u ≡ place.Empty)
    ⊎ (place_at (slice_set places slot place.Empty) u ≡ place_at places u)
empty_or [] slot u = inr refl
empty_or (p ∷ places) zero zero = inl refl
empty_or (p ∷ places) zero (suc u) = inr refl
empty_or (p ∷ places) (suc slot) zero = inr refl
empty_or (p ∷ places) (suc slot) (suc u) = empty_or places slot u

-- a waiter was removed
pub due_without : (due : ℕ → Bool) (s : State) (places : List Place) (slot : ℕ) → KnowsDue due s places → KnowsDue due s (slice_set places slot place.Empty)
due_without due s places slot h = record { own = λ u w is. owns u w is (empty_or places slot u); still = λ u out. stills u out (empty_or places slot u) }
  where
    owns : (u : ℕ) (w : Waiter) → waiter_in (place_at (slice_set places slot place.Empty) u) ≡ Some w
        → (place_at (slice_set places slot place.Empty) u ≡ place.Empty) ⊎ (place_at (slice_set places slot place.Empty) u ≡ place_at places u)
        → (w.txn.slot ≡ u) × (u < most_slots)
    owns u w is (inl none) = absurd (cc (ap waiter_in none, is))
    owns u w is (inr same) = h.own u w (sym (ap waiter_in same) ∙ is)

    stills : (u : ℕ) → due u ≡ false
        → (place_at (slice_set places slot place.Empty) u ≡ place.Empty) ⊎ (place_at (slice_set places slot place.Empty) u ≡ place_at places u)
        → WaitsStill s (place_at (slice_set places slot place.Empty) u)
    stills u out (inl none) = subst (WaitsStill s) (sym none) tt
    stills u out (inr same) = subst (WaitsStill s) (sym same) (h.still u out)

-- a waiter was registered that waits
pub due_registered : (due : Slots) (s : State) (places : List Place) (w : Waiter) → IsLawful s → w.txn.slot < most_slots → length places ≡ most_slots
    → waits_on s w.txn w.at ≡ true → KnowsDue (has_slot due) s places → KnowsDue (has_slot due) s (slice_set places w.txn.slot (place.Waits w))
due_registered due s places w law below long waits h =
    due_put s s due law (ended_none s due) due due places w.txn (place.Waits w) (λ v is. same v is) below long (λ out. waits) (λ u apart out. (out, out)) h
  where
    same : (v : Waiter) → Some w ≡ Some v → v.txn ≡ w.txn
    same v is = let so : w ≡ v = cc is in sym (ap (λ (x : Waiter). x.txn) so)

-- a waiter was registered that goes on with the next call
pub due_climbing : (due due' : Slots) (s : State) (places : List Place) (w : Waiter) → IsLawful s → w.txn.slot < most_slots → length places ≡ most_slots
    → ((u : ℕ) → has_slot due' u ≡ (has_slot due u || (u == w.txn.slot))) → KnowsDue (has_slot due) s places
    → KnowsDue (has_slot due') s (slice_set places w.txn.slot (place.GoesOn w None))
due_climbing due due' s places w law below long is h =
    due_put s s due law (ended_none s due) due due' places w.txn (place.GoesOn w None) (λ v is. same v is) below long here (λ u apart out. there u out) h
  where
    same : (v : Waiter) → Some w ≡ Some v → v.txn ≡ w.txn
    same v is = let so : w ≡ v = cc is in sym (ap (λ (x : Waiter). x.txn) so)

    both : (a b : Bool) → (a || b) ≡ false → (a ≡ false) × (b ≡ false)
    both false false out = (refl, refl)
    both false true out = absurd (true≢false out)
    both true b out = absurd (true≢false out)

    there : (u : ℕ) → has_slot due' u ≡ false → (has_slot due u ≡ false) × (has_slot due u ≡ false)
    there u out = let so = both (has_slot due u) (u == w.txn.slot) (sym (is u) ∙ out) in (so.0, so.0)

    itself : (u : ℕ) → (u == u) ≡ true
    itself u = grind (arith, nat_tests)

    here : has_slot due' w.txn.slot ≡ false → WaitsStill s (place.GoesOn w None)
    here out =
        let so = both (has_slot due w.txn.slot) (w.txn.slot == w.txn.slot) (sym (is w.txn.slot) ∙ out) in
        absurd (true≢false (sym (itself w.txn.slot) ∙ so.1))

-- nothing belongs to any slot
pub all_empty : (k u : ℕ) → place_at (replicate k place.Empty) u ≡ place.Empty
all_empty zero u = refl
all_empty (suc k) zero = refl
all_empty (suc k) (suc u) = all_empty k u

pub due_none : (s : State) (due : Slots) (k : ℕ) → KnowsDue (has_slot due) s (replicate k place.Empty)
due_none s due k = record {
  own = λ u w is. absurd (cc (ap waiter_in (all_empty k u), is));
  still = λ u out. subst (WaitsStill s) (sym (all_empty k u)) tt;
}

-- A request that waits.
module _ (s : State) (t : TxnId) where
  wait_is : (o : Option (NodeId × Mode)) (at : NodeId) (wanted : Mode) → came.Waits at wanted ≡ waits_for_node o → o ≡ Some (at, wanted)
  wait_is None at wanted e = absurd (cc e)
  wait_is (Some (n, m)) at wanted e = cc e

  same_first : (x y : NodeId × Mode) → Some x ≡ Some y → x.0 ≡ y.0
  same_first x y e = cc e

  waits_by : (b : Bool) (o : Option Status) (at : NodeId) (wanted : Mode) → (if b then wait_of o else None) ≡ Some (at, wanted)
      → (b && waits_at o at) ≡ true
  waits_by true (Some (Waiting n m)) at wanted e = ap (λ k. same_node k at) (same_first (n, m) (at, wanted) e) ∙ same_node-refl at
  waits_by true (Some Active) at wanted e = absurd (cc e)
  waits_by true (Some Condemned) at wanted e = absurd (cc e)
  waits_by true None at wanted e = absurd (cc e)
  waits_by false o at wanted e = absurd (cc e)

  as_waits : (at : NodeId) (wanted : Mode) → came.Waits at wanted ≡ waits_as s t → waits_on s t at ≡ true
  as_waits at wanted e = waits_by (lives s t) (status_of s t.slot) at wanted (wait_is _ at wanted e)

  pub came_waits : (node : NodeId) (instant : Bool) (reached : Result Reached Refusal) (at : NodeId) (wanted : Mode)
      → came.Waits at wanted ≡ came_of s t node instant reached → waits_on s t at ≡ true
  came_waits node instant (Err r) at wanted e = absurd (cc e)
  came_waits node instant (Ok x) at wanted e = by x.locked e
    where
      held : (b : Bool) (m : Mode) → came.Waits at wanted ≡ holds_or_ends b x.node m → ⊥
      held true m e = cc e
      held false m e = cc e

      by : (y : Locked) → came.Waits at wanted ≡ came_as s t node instant x.node y → waits_on s t at ≡ true
      by (locked.Granted m) e = absurd (held (same_node x.node node && not instant) m e)
      by locked.Victim e = absurd (cc e)
      by locked.Waiting e = as_waits at wanted e

  -- the same of a row
  lacks_no_wait : (mode : Mode) (r : Refusal) (at : NodeId) (wanted : Mode) → came.Waits at wanted ≡ row_lacks mode r → ⊥
  lacks_no_wait mode (no.NeedParents parent) at wanted e = cc e
  lacks_no_wait mode r at wanted e = cc e

  pub row_came_waits : (mode : Mode) (locked : Result RowLocked RowRefusal) (at : NodeId) (wanted : Mode)
      → came.Waits at wanted ≡ row_came_of s t mode locked → waits_on s t at ≡ true
  row_came_waits mode (Err (row_no.Refused r)) at wanted e = absurd (lacks_no_wait mode r at wanted e)
  row_came_waits mode (Err row_no.NotRows) at wanted e = absurd (cc e)
  row_came_waits mode (Ok x) at wanted e = by x.locked e
    where
      by : (y : Locked) → came.Waits at wanted ≡ row_came_as s t x.node x.own_keys y → waits_on s t at ≡ true
      by (locked.Granted m) e = absurd (cc e)
      by locked.Victim e = absurd (cc e)
      by locked.Waiting e = as_waits at wanted e

  live_some : (o : Option Txn) → live_by t.age o ≡ true → is_some o ≡ true
  live_some None e = absurd (true≢false (sym e))
  live_some (Some x) e = refl

  pub waits_below : IsLawful s → s.most ≤ most_slots → (n : NodeId) → waits_on s t n ≡ true → t.slot < most_slots
  waits_below law few n waits =
      let low : t.slot < s.most = law.slots_below t.slot (live_some (s.txns t.slot) (and_both (lives s t) _ waits).0) in omega (arith, low, few)

-- a table of waiters of this delivery
abbrev pub waiting_with : DeliveryView → List Place → BeginsView → WaitingView
waiting_with d places begins =
    record { manager = d.manager; rows = d.rows; boxes = d.boxes; places = places; queue = begins.waiting; begun = begins.begun }

-- A cancel of a wait is done, if a command can still be counted.
module _ (s : State) (t : TxnId) (n : NodeId) (waits : waits_on s t n ≡ true) (low : s.accepted < max_count) where
  unworn : worn s ≡ None
  unworn = ap (λ b. where_true b no.WornOut) (apart (s.accepted) max_count low)
    where
      apart : (a b : ℕ) → a < b → (a == b) ≡ false
      apart a b less = grind (arith, nat_tests, less)

  may_cancel : (b : Bool) (o : Option Status) → (b && waits_at o n) ≡ true
      → first_refusal (None ∷ where_true (not b) no.NoSuchTxn ∷ condemned_test o ∷ idle_test o ∷ []) ≡ None
  may_cancel true (Some (Waiting q m)) e = refl
  may_cancel true (Some Active) e = absurd (true≢false (sym e))
  may_cancel true (Some Condemned) e = absurd (true≢false (sym e))
  may_cancel true None e = absurd (true≢false (sym e))
  may_cancel false o e = absurd (true≢false (sym e))

  pub cancel_done : (a : Answer) (told : Told) (s' : State) → Step s (command.Cancel t) a told s' → a ≡ answer.Done
  cancel_done a told s' (inl goes) = by (refusal_of s (command.Cancel t)) unrefused goes
    where
      unrefused : refusal_of s (command.Cancel t) ≡ None
      unrefused = ap (λ o. first_refusal (o ∷ cancel_tests s t)) unworn ∙ may_cancel (lives s t) (status_of s t.slot) waits

      by : (o : Option Refusal) → o ≡ None → Goes s (command.Cancel t) o a told s' → a ≡ answer.Done
      by (Some r) is g = absurd (cc is)
      by None is g = g.1.0
  cancel_done a told s' (inr lacks) = absurd (true≢false (sym lacks.0))
