-- If each slot in a queue waits there, once: the front that its node grants, and that order is kept. For wakes.
use Rattle.gl_model.proofs.Words.{◌++◌, ◌==◌, [], ◌∙◌, ◌∷◌, ◌≡◌, ◌≤◌, Active, ap, AreBelow, arith, Bool, both, clash, enters, enters-limit, false}
use Rattle.gl_model.proofs.Words.{filter-append, front-and_rest, front-waited, front_at, granted, granted_at, holds, if◌then◌else◌, is_among_waiters}
use Rattle.gl_model.proofs.Words.{is_distinct, is_wait, is_waiter, is_waiting_at, IsBetween, IsOrderly, IsWithin, List, members, Mode, most_slots, nat_tests}
use Rattle.gl_model.proofs.Words.{NL, NodeId, not, not_true, number_other, number_same, Option, or_left, or_right, pumped, pumped_queue, refl, restatus}
use Rattle.gl_model.proofs.Words.{same_mode, same_node, same_node-equal, same_node-refl, same_number, slot_limit, Some, split, State, Status, status_in}
use Rattle.gl_model.proofs.Words.{status_of, sym, true, Txn, unlocked, Waiter, Waiting, waits_at, WaitWell, with_grant, without_wait, woken, ℕ}
use Rattle.gl_model.proofs.law.Keeps.{holders-within, txn_there, waiting_is, woken_some}
use Rattle.gl_model.proofs.queues.Edits.{out_of_without, without_filter}
use Rattle.gl_model.proofs.queues.Waiters.{among_by_filter, grants_other, if-false, if-true, none_filtered, one_in_first, waits_of}
use Rattle.gl_model.proofs.telling.Between.{between_pumped, granted_stands, is_by_test, left_stands, without_wait_other, woken_same}

-- If each slot in a queue waits there, once: what follows for the front that its node grants.

-- if each slot is there once, no slot is there twice
pub distinct_once : (q : List Waiter) → ((u : ℕ) → is_among_waiters u q ≡ true → (w : Waiter) × (waits_of u q ≡ w ∷ [])) → is_distinct q ≡ true
distinct_once [] one = refl
distinct_once (w ∷ q) one = both (not (is_among_waiters w.0 q)) (is_distinct q) (ap not alone) (distinct_once q later)
  where
    alone : is_among_waiters w.0 q ≡ false
    alone = grind (arith, nat_tests, none_filtered w.0 q, one w.0 (or_left _ _ (number_same w.0 w.0 refl)))

    later : (u : ℕ) → is_among_waiters u q ≡ true → (v : Waiter) × (waits_of u q ≡ v ∷ [])
    later u h = let was = one u (or_right (is_waiter u w) _ h) in (was.0, grind (arith, nat_tests, is_waiter u w, none_filtered u q, was.1))

module _ (s : State) (o : IsOrderly s) where
  pub waits_there : (u : ℕ) (q : NodeId) → is_among_waiters u (s.queue q) ≡ true → (m : Mode) × (status_of s u ≡ Some (Waiting q m))
  waits_there u q h = waiting_is (status_of s u) q (o.waits_are u q h)

  -- waiters and members are below the limit
  pub waiters_below : (q : NodeId) → AreBelow s.most (s.queue q)
  waiters_below q u h = o.below u (txn_there (s.txns u) _ (waits_there u q h).1)

  pub members_within : (q : NodeId) → IsWithin s.most (members s q)
  members_within q = holders-within s q (λ u h. o.below u (o.holders u q h))

  -- a changed grant changes no queue
  pub well_granted : (t : ℕ) (p : NodeId) (m : Mode) (q : NodeId) → WaitWell (with_grant s t p m) q
  well_granted t p m q = record {
    waits_are = λ u h. o.waits_are u q h;
    one_wait = λ u h. let st = waits_there u q h in let one = o.one_wait u q st.0 st.1 in (st.0, one.0, one.1);
  }

  -- with one wait removed, all others stay as they were
  pub well_without : (t : ℕ) (st : Status) (q : NodeId) → WaitWell (without_wait s t st) q
  well_without t st q = record {
    waits_are = λ u h. let was = out_of_without t u (s.queue q) h in ap (λ x. waits_at (status_in x) q) (without_wait_other s t st u (number_other u t was.1))
        ∙ o.waits_are u q was.0;
    one_wait = λ u h. let was = out_of_without t u (s.queue q) h in let w = waits_there u q was.0 in let one = o.one_wait u q w.0 w.1 in
        (w.0, without_filter t u (s.queue q) was.1 ∙ one.0, one.1);
  }

  pub below_without : (t : ℕ) (st : Status) (q : NodeId) → AreBelow s.most ((without_wait s t st).queue q)
  below_without t st q u h = waiters_below q u (out_of_without t u (s.queue q) h).0

-- a waiter at a node waits at no other
pub waits_only : (s : State) (t : ℕ) (n : NodeId) → is_waiting_at s t n ≡ true → is_waiting_at s t ≡ same_node n
waits_only s t n h = ap waits_at (waiting_is (status_of s t) n h).1

-- and it is there, and in no other queue

pub stands_there : (s : State) → IsOrderly s → (t : ℕ) (n : NodeId) → is_waiting_at s t n ≡ true → is_among_waiters t (s.queue n) ≡ true
stands_there s o t n h = let wait = waiting_is (status_of s t) n h in among_by_filter t (t, wait.0) [] (s.queue n) (o.one_wait t n wait.0 wait.1).0

pub stands_only : (s : State) → IsOrderly s → (t : ℕ) (n : NodeId) → is_waiting_at s t n ≡ true → (q : NodeId) → same_node n q ≡ false
    → is_among_waiters t (s.queue q) ≡ false
stands_only s o t n h q e = not_true _ (λ k. clash (o.waits_are t q k) (ap (λ f. f q) (waits_only s t n h) ∙ e))

-- what is granted on each node, if only n grants

pub granted_here : (b : State) (n : NodeId) → granted_at b (same_node n) n ≡ front_at b n
granted_here b n = if-true _ (same_node-refl n)

pub granted_apart : (b : State) (n q : NodeId) → same_node n q ≡ false → granted_at b (same_node n) q ≡ []
granted_apart b n q e = if-false _ e

module _ (b : State) (n : NodeId) (well : WaitWell b n) where
  pub front_stands : (u : ℕ) → is_among_waiters u (front_at b n) ≡ true → is_among_waiters u (b.queue n) ≡ true
  front_stands u h = front-waited b.most (members b n) (b.queue n) u h

  -- those that stay in the queue
  abbrev rest : List Waiter
  rest = pumped_queue b.most (members b n) (b.queue n)

  pub front_distinct : is_distinct (front_at b n) ≡ true
  front_distinct = distinct_once (front_at b n) (λ u h. let one = well.one_wait u (front_stands u h) in (
    (u, one.0),
    (one_in_first (waits_of u (front_at b n)) (waits_of u rest) (u, one.0) (parts u ∙ one.1) (λ e. clash h (none_filtered u (front_at b n) e))).0,
  ))
    where
      parts : (u : ℕ) → waits_of u (front_at b n) ++ waits_of u rest ≡ waits_of u (b.queue n)
      parts u = sym (filter-append (is_waiter u) (front_at b n) rest) ∙ ap (waits_of u) (front-and_rest b.most (members b n) (b.queue n))

  -- one in the front waited there and is active, and all others are as they were
  pub woken_front : (u : ℕ) → woken (granted_at b (same_node n)) u (b.txns u)
      ≡ (if is_among_waiters u (front_at b n) then restatus Active (b.txns u) else b.txns u)
  woken_front u = is_by_test (is_among_waiters u (front_at b n)) (λ h. let wait = waiting_is (status_of b u) n (well.waits_are u (front_stands u h)) in
      active wait.0 (b.txns u) wait.1 (ap (is_among_waiters u) (granted_here b n) ∙ h))
      (λ h. woken_same (granted_at b (same_node n)) u (λ q. split (same_node n q)
      (λ e. ap (λ p. is_among_waiters u (granted_at b (same_node n) p)) (sym (same_node-equal n q e)) ∙ ap (is_among_waiters u) (granted_here b n) ∙ h)
      (λ e. ap (is_among_waiters u) (granted_apart b n q e))) (b.txns u))
    where
      active : (m : Mode) (x : Option Txn) → status_in x ≡ Some (Waiting n m) → is_among_waiters u (granted_at b (same_node n) n) ≡ true
          → woken (granted_at b (same_node n)) u x ≡ restatus Active x
      active m x st k = grind (arith, nat_tests, x)

-- Slots with a transaction are below the limit of the state, and so are all holders: the limit of slots serves as well.

pub enters-most : (s : State) → IsOrderly s → s.most ≤ most_slots → (t : ℕ) (n : NodeId) (m : Mode)
    → enters s.most (members s n) (s.queue n) t m ≡ enters slot_limit (members s n) (s.queue n) t m
enters-most s orderly few t n m = enters-limit s.most (members s n) (s.queue n) t m few (members_within s orderly n)

-- What is in order stays so once nodes grant from their fronts.

-- one that does not wait is in no queue
pub in_no_queue : (s : State) → IsOrderly s → (t : ℕ) → is_wait (status_of s t) ≡ false → (q : NodeId) → is_among_waiters t (s.queue q) ≡ false
in_no_queue s o t quiet q = not_true _ (λ h. clash (ap is_wait (waits_there s o t q h).1) quiet)

-- one in a queue is another
pub stands_other : (s : State) → IsOrderly s → (t : ℕ) → is_wait (status_of s t) ≡ false → (u : ℕ) (q : NodeId) → is_among_waiters u (s.queue q) ≡ true
    → (u == t) ≡ false
stands_other s o t quiet u q h = not_true _ (λ e. clash (ap (λ v. is_among_waiters v (s.queue q)) (sym (same_number u t e)) ∙ h) (in_no_queue s o t quiet q))

-- what is told since a state begins at it
pub between_here : (s : State) → IsOrderly s → IsBetween s s
between_here s o = record {
  graph = refl;
  ages = λ u. refl;
  waited = λ u q m h. h;
  waits_are = o.waits_are;
  one_wait = λ u q m h. (o.one_wait u q m h).0;
  live = λ u q m h. o.waiters_live u q (among_by_filter u (u, m) [] (s.queue q) (o.one_wait u q m h).0);
}

pub orderly_pumped : (s : State) → IsOrderly s → (chosen : NodeId → Bool) → IsOrderly (pumped s chosen)
orderly_pumped s o chosen =
    let between = between_pumped s s (between_here s o) chosen in
    record {
      holders = λ u q h. woken_some (granted_at s chosen) u (s.txns u) ∙ granted_or_held u q h
          (λ g. txn_there (s.txns u) _ (waits_there s o u q (granted_stands s chosen u q g)).1) (λ k. o.holders u q k);
      holders_live = λ u q h. granted_or_held u q h (λ g. o.waiters_live u q (granted_stands s chosen u q g)) (λ k. o.holders_live u q k);
      waiters_live = λ u q h. o.waiters_live u q (left_stands s chosen u q h);
      waits_are = between.waits_are;
      one_wait = λ u q m h. (between.one_wait u q m h, (o.one_wait u q m (between.waited u q m h)).1);
      below = λ u h. o.below u (sym (woken_some (granted_at s chosen) u (s.txns u)) ∙ h);
    }
  where
    -- a holder of a node was granted it, or held it before
    granted_or_held : {C : Type 0} (u : ℕ) (q : NodeId) → holds (members (pumped s chosen) q) u ≡ true → (is_among_waiters u (granted_at s chosen q) ≡ true → C)
        → (holds (members s q) u ≡ true → C) → C
    granted_or_held u q h granted held =
        split (is_among_waiters u (granted_at s chosen q)) granted
        (λ e. held (sym (ap (λ m. not (same_mode m NL)) (grants_other (granted_at s chosen q) (members s q) u e)) ∙ h))

-- a grant that is gone
orderly_dropped : (s : State) → IsOrderly s → (t : ℕ) (n : NodeId) → IsOrderly (with_grant s t n NL)
orderly_dropped s o t n = record {
  holders = λ u q h. o.holders u q (held u q h);
  holders_live = λ u q h. o.holders_live u q (held u q h);
  waiters_live = o.waiters_live;
  waits_are = o.waits_are;
  one_wait = o.one_wait;
  below = o.below;
}
  where
    held : (u : ℕ) (q : NodeId) → holds (members (with_grant s t n NL) q) u ≡ true → holds (members s q) u ≡ true
    held u q h = grind (arith, nat_tests)

pub orderly_unlocked : (s : State) → IsOrderly s → (t : ℕ) (n : NodeId) → IsOrderly (unlocked s t n)
orderly_unlocked s o t n = orderly_pumped (with_grant s t n NL) (orderly_dropped s o t n) (same_node n)
