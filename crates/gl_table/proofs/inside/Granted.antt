-- Headers, transaction entries and lists after a node's waiters were granted from the front. For releases and ended waits.
use Rattle.gl_table.proofs.Words.{◌&&◌, ◌+◌, ◌<◌, ◌==◌, [], ◌||◌, ◌∙◌, ◌≡◌, ◌≢◌, ◌≤◌, Active, after_grants, Agrees, and-false, and_both, ap, ap₂, AreExactFor}
use Rattle.gl_table.proofs.Words.{arith, books_of, Bool, CanEnd, CanHold, children_few, children_that, clash, count_by, count_by-le-length, CountsHeld, drop}
use Rattle.gl_table.proofs.Words.{false, front, front-limit, front_at, front_stands, fun_ext, granted_at, grants_other, graph_of, held_by, held_children, holds}
use Rattle.gl_table.proofs.Words.{if-true, if◌then◌else◌, is_among_waiters, is_distinct, is_listed, is_live, is_wait, IsBySlot, IsLawfulGraph, IsOrderly}
use Rattle.gl_table.proofs.Words.{IsWithin, Ledger, length, List, LockList, Members, members, Mode, mode_given, most_slots, nat_tests, NL, NodeId, None, not}
use Rattle.gl_table.proofs.Words.{not_true, notices_in, Option, option_map_or, or_left, or_right, parents_of, pumped, refl, restatus, same_mode}
use Rattle.gl_table.proofs.Words.{same_mode-equal, same_node, same_node-equal, same_node-refl, same_node-sym, same_number, slice_get, slot_limit, Some, split}
use Rattle.gl_table.proofs.Words.{State, state_in, Status, status_of, subst, sym, Told, true, Txn, unlisted, unlisted_by, View, wait_is, Waiter, waiters_below}
use Rattle.gl_table.proofs.Words.{Waiting, waiting_is, waits_there, WaitWell, WakesLists, with_grant, with_members, with_mode, with_waiters, without_wait}
use Rattle.gl_table.proofs.Words.{without_waiter, woken, woken_waits, ℕ}
use Rattle.gl_table.proofs.inside.Slots.{none_more}
use Rattle.gl_table.proofs.inside.Woken.{given_or_held}
use Rattle.gl_model.proofs.queues.Counts.{children_up, few_parents}
use Rattle.gl_model.proofs.queues.Waiters.{among_append, grants_one, none_filtered, one_in_first, waits_of}
use Rattle.gl_model.proofs.telling.Fronts.{below_without, front_distinct, granted_here, members_within}
use Rattle.gl_model.proofs.telling.Between.{granted_and_left, granted_stands, left_at, waits_granted_and_left}

-- Lists that agree with a state still do once a node has granted from its front.

module _ (b : State) (n : NodeId) (well : WaitWell b n) where
  abbrev after : State
  after = pumped b (same_node n)

  abbrev granted : NodeId → List Waiter
  granted = granted_at b (same_node n)

  granted_now : granted n ≡ front_at b n
  granted_now = if-true _ (same_node-refl n)

  granted_there : (q : NodeId) → same_node q n ≡ false → granted q ≡ []
  granted_there q e = ap (λ k. if k then front_at b q else []) (same_node-sym n q ∙ e)

  -- a granted waiter is granted at n
  only_here : (u : ℕ) (q : NodeId) → is_among_waiters u (granted q) ≡ true → q ≡ n
  only_here u q h = split (same_node q n) (λ e. same_node-equal q n e) (λ e. clash (ap (is_among_waiters u) (sym (granted_there q e)) ∙ h) refl)

  -- in a mode that is a lock
  granted_mode : (u : ℕ) → is_among_waiters u (granted n) ≡ true → (m : Mode) × (after.held u n ≡ m) × (m ≢ NL)
  granted_mode u h =
      let stands = well.one_wait u (granted_stands b (same_node n) u n h) in
      let once = one_in_first (waits_of u (granted n)) (waits_of u (left_at b (same_node n) n)) (u, stands.0) (waits_granted_and_left b (same_node n) u n
      ∙ stands.1) (λ e. clash h (none_filtered u (granted n) e)) in
      (stands.0, grants_one (granted n) (members b n) u stands.0 once.0, stands.2)

  now_holds : (u : ℕ) → is_among_waiters u (granted n) ≡ true → holds (members after n) u ≡ true
  now_holds u h = let g = granted_mode u h in
      split (same_mode (after.held u n) NL) (λ e. absurd (g.2 (sym g.1 ∙ same_mode-equal (after.held u n) NL e))) (λ e. ap not e)

  same_held : (u : ℕ) (q : NodeId) → is_among_waiters u (granted q) ≡ false → after.held u q ≡ b.held u q
  same_held u q e = grants_other (granted q) (members b q) u e

  -- a holder or waiter still is one
  concerned : (u : ℕ) (q : NodeId) → (holds (members b q) u || is_among_waiters u (b.queue q))
      ≡ (holds (members after q) u || is_among_waiters u (after.queue q))
  concerned u q = split (is_among_waiters u (granted q)) (λ h. let is = only_here u q h in
      or_right (holds (members b q) u) (is_among_waiters u (b.queue q)) (granted_stands b (same_node n) u q h)
      ∙ sym (or_left (holds (members after q) u) (is_among_waiters u (after.queue q)) (ap (λ x. holds (members after x) u) is
      ∙ now_holds u (ap (λ x. is_among_waiters u (granted x)) (sym is) ∙ h)))) (λ h. ap₂ (λ x y. not (same_mode x NL) || y) (sym (same_held u q h))
      (ap (is_among_waiters u) (sym (granted_and_left b (same_node n) q)) ∙ among_append u (granted q) (left_at b (same_node n) q)
      ∙ ap (λ k. k || is_among_waiters u (left_at b (same_node n) q)) h))

  module _ (ls ls' : List LockList) (wakes : WakesLists ls n (parents_of b.graph n) (front_at b n) ls') where
    pub agrees_pumped : (u : ℕ) → Agrees b ls u → Agrees after ls' u
    agrees_pumped u agrees = record {
      modes = λ q. wakes.modes u q ∙ split (same_node q n)
          (λ e. by (is_among_waiters u (front_at b n)) (same_node q n) e (mode_given (front_at b n) u) (held_by ls u q)
          ∙ ap (λ m. if is_among_waiters u (front_at b n) then mode_given (front_at b n) u else m)
          (ap (held_by ls u) (same_node-equal q n e) ∙ agrees.modes n) ∙ sym (given_or_held (front_at b n) (members b n) u)
          ∙ ap (λ ws. after_grants (members b n) ws u) (sym granted_now) ∙ ap (λ x. after.held u x) (sym (same_node-equal q n e)))
          (λ e. ap (λ k. if k then mode_given (front_at b n) u else held_by ls u q) (ap (λ k. is_among_waiters u (front_at b n) && k) e ∙ and-false _)
          ∙ agrees.modes q ∙ ap (λ ws. after_grants (members b q) ws u) (sym (granted_there q e)));
      listed = λ q. wakes.listed u q ∙ agrees.listed q ∙ concerned u q;
      room = λ h. let st = wait_is (status_of after u) h in let was = woken_waits granted u st.0 st.1 (b.txns u) st.2 in
          subst (λ (k : ℕ). 9 ≤ k) (sym (wakes.rooms u (not_true _ (λ g. clash (ap (is_among_waiters u) granted_now ∙ g) (asleep u st.0 st.1 was)))))
          (agrees.room (ap is_wait was.0));
    }
      where
        by : (a k : Bool) → k ≡ true → (x y : Mode) → (if a && k then x else y) ≡ (if a then x else y)
        by a k h1 h2 h3 = grind (arith, nat_tests)

        -- a slot that still waits was not granted
        asleep : (u : ℕ) (q : NodeId) (m : Mode) → (status_of b u ≡ Some (Waiting q m)) × (is_among_waiters u (granted q) ≡ false)
            → is_among_waiters u (granted n) ≡ false
        asleep u q m was = split (is_among_waiters u (granted n))
            (λ h. let here = waiting_is (status_of b u) n (well.waits_are u (granted_stands b (same_node n) u n h)) in
            clash h (ap (λ x. is_among_waiters u (granted x)) (waiting_there (sym here.1 ∙ was.0)) ∙ was.1)) (λ h. h)
          where
            waiting_there : {x y : NodeId} {v w : Mode} → Some (Waiting x v) ≡ Some (Waiting y w) → x ≡ y
            waiting_there e = cc

    pub counts_pumped : IsLawfulGraph b.graph → is_live b.graph n ≡ true → (u : ℕ) → held_by ls u n ≡ b.held u n → CountsHeld b ls u → CountsHeld after ls' u
    counts_pumped law live u same counts p = wakes.counts u p
        ∙ ap₂ (λ k m. k + (if is_among_waiters u (front_at b n) then (if same_mode m NL then count_by (same_node p) (parents_of b.graph n) else 0) else 0))
        (counts p) same ∙ ap (λ (k : ℕ). held_children b u p + k) (nested (is_among_waiters u (front_at b n)) (same_mode (b.held u n) NL) _)
        ∙ split (is_among_waiters u (front_at b n) && same_mode (b.held u n) NL)
        (λ e. let both = and_both (is_among_waiters u (front_at b n)) (same_mode (b.held u n) NL) e in
        ap (λ k. held_children b u p + (if k then count_by (same_node p) (parents_of b.graph n) else 0)) e
        ∙ sym (children_up b.graph law (holding b) (holding after) n live (ap not both.1) (now_holds u (ap (is_among_waiters u) granted_now ∙ both.0))
        (λ q e. ap (λ m. not (same_mode m NL)) (same_held u q (ap (is_among_waiters u) (granted_there q e)))) p))
        (λ e. ap (λ k. held_children b u p + (if k then count_by (same_node p) (parents_of b.graph n) else 0)) e ∙ sym (none_more (held_children b u p))
        ∙ ap (λ f. children_that b.graph f p) (fun_ext (λ q. sym (same_holding q e))))
      where
        holding : State → NodeId → Bool
        holding s c = holds (members s c) u

        nested : (a c : Bool) (k : ℕ) → (if a then (if c then k else 0) else 0) ≡ (if a && c then k else 0)
        nested a c k = grind (arith, nat_tests)

        -- a slot that is not new holds what it held
        same_holding : (q : NodeId) → (is_among_waiters u (front_at b n) && same_mode (b.held u n) NL) ≡ false → holding after q ≡ holding b q
        same_holding q e = split (is_among_waiters u (granted q))
            (λ h. let is = only_here u q h in let here = ap (λ x. is_among_waiters u (granted x)) (sym is) ∙ h in
            ap (holding after) is ∙ now_holds u here
            ∙ sym (ap (holding b) is ∙ ap not (sym (ap (λ k. k && same_mode (b.held u n) NL) (ap (is_among_waiters u) (sym granted_now) ∙ here)) ∙ e)))
            (λ h. ap (λ m. not (same_mode m NL)) (same_held u q h))

-- After a node's waiters were granted from the front, headers, entries and lists are those of the state of the model.

-- the members of a node, with one grant changed
pub members-with_grant : (s : State) (t : ℕ) (n : NodeId) (m : Mode) → with_mode (members s n) t m ≡ members (with_grant s t n m) n
members-with_grant s t n m = fun_ext (λ u. by u (u == t))
  where
    by : (u : ℕ) (b : Bool) → (if b then m else s.held u n) ≡ (if b && same_node n n then m else s.held u n)
    by u b = grind (arith, nat_tests)

module _ (s : State) (o : IsOrderly s) (few : s.most ≤ most_slots) (t : ℕ) (n : NodeId) where
  -- the front by the limit of slots, once a grant is gone, is that by the number of entries
  pub released_front : front slot_limit (with_mode (members s n) t NL) (s.queue n) ≡ front_at (with_grant s t n NL) n
  released_front =
      sym (front-limit s.most (with_mode (members s n) t NL) (s.queue n) few within (waiters_below s o n))
      ∙ ap (λ g. front s.most g (s.queue n)) (members-with_grant s t n NL)
    where
      within : IsWithin s.most (with_mode (members s n) t NL)
      within u le = grind (arith, nat_tests)

  -- and the same once a wait is gone
  pub withdrawn_front : (st : Status) → front slot_limit (members s n) (without_waiter t (s.queue n)) ≡ front_at (without_wait s t st) n
  withdrawn_front st = sym (front-limit s.most (members s n) (without_waiter t (s.queue n)) few (members_within s o n) (below_without s o t st n))

-- other grants and queues of one node, once it granted, are those of the model
module _ (b : State) (n : NodeId) where
  pub held-pumped : (held : ℕ → NodeId → Mode) (ms : Members) (ws : List Waiter) → ms ≡ members b n → ws ≡ front_at b n
      → ((u : ℕ) (q : NodeId) → same_node q n ≡ false → held u q ≡ b.held u q) → with_members held n (after_grants ms ws) ≡ (pumped b (same_node n)).held
  held-pumped held ms ws is granted apart = grind (arith, nat_tests, granted_here b n, same_node n, same_node-equal)

  pub queue-pumped : (queue : NodeId → List Waiter) (ws : List Waiter) → ws ≡ front_at b n
      → ((q : NodeId) → same_node q n ≡ false → queue q ≡ b.queue q) → with_waiters queue n (drop (length ws) (b.queue n)) ≡ (pumped b (same_node n)).queue
  queue-pumped queue ws granted apart = grind (arith, nat_tests, granted_here b n, same_node n, same_node-equal)

-- a status written after others were woken is the same as one written before
pub status_last : (s : State) (t : ℕ) (st : Status) (ws : List Waiter) (txns txns' : ℕ → Option Txn) → is_among_waiters t ws ≡ false
    → ((u : ℕ) → txns u ≡ (if is_among_waiters u ws then restatus Active (s.txns u) else s.txns u))
    → ((u : ℕ) → txns' u ≡ (if u == t then restatus st (txns t) else txns u))
    → (u : ℕ) → txns' u ≡ (if is_among_waiters u ws then restatus Active ((without_wait s t st).txns u) else (without_wait s t st).txns u)
status_last s t st ws txns txns' out woken written u = grind (arith, nat_tests, without_wait s t st, same_number)

-- a state of these grants, queues, transactions and entries
pub pumped_by_fields : (b : State) (chosen : NodeId → Bool) (held : ℕ → NodeId → Mode) (queue : NodeId → List Waiter) (txns : ℕ → Option Txn) (most : ℕ)
    → held ≡ (pumped b chosen).held → queue ≡ (pumped b chosen).queue → ((u : ℕ) → txns u ≡ (pumped b chosen).txns u) → most ≡ b.most
    → record b { held = held; queue = queue; txns = txns; most = most } ≡ pumped b chosen
pumped_by_fields b chosen held queue txns most held_is queue_is txns_is most_is = λ i.
    record b { held = held_is i; queue = queue_is i; txns = λ u. txns_is u i; most = most_is i }

-- The front of a node's queue may be woken.

-- no more are not listed than there are
unlisted_by-few : (ls : List LockList) (t : ℕ) (ps : List NodeId) → unlisted_by ls t ps ≤ length ps
unlisted_by-few ls t ps = by (slice_get ls t)
  where
    by : (o : Option LockList) → option_map_or (λ l. unlisted l ps) o 0 ≤ length ps
    by None = omega arith
    by (Some l) = count_by-le-length (λ p. not (is_listed l p)) ps

-- a waiter of a node can become its holder: its list has the node, and room for the counts of the parents
pub can_hold_there : (s : State) → IsOrderly s → IsLawfulGraph s.graph → (n : NodeId) (ls : List LockList) (u : ℕ) → is_among_waiters u (s.queue n) ≡ true
    → u < length ls → Agrees s ls u → CountsHeld s ls u → CanHold ls u n (parents_of s.graph n)
can_hold_there s o law n ls u h lt agree count =
    let parents = few_parents s.graph law n in
    record {
      slot = lt;
      listed = agree.listed n ∙ or_right (holds (members s n) u) _ h;
      room = λ _. let few = unlisted_by-few ls u (parents_of s.graph n) in let room = agree.room (ap is_wait (waits_there s o u n h).1) in omega arith;
      few = λ q _.
          let few = count_by-le-length (same_node q) (parents_of s.graph n) in
          let held = children_few s.graph law (λ c. holds (members s c) u) q in
          let is = count q in
          omega arith;
    }

-- the front of a node may be woken, in a state b whose waiters there are among those of the locks
pub can_wake_front : (g : View) (l : Ledger) (n : NodeId) → AreExactFor g l (λ u. is_among_waiters u ((state_in g l).queue n) ≡ true)
    → IsLawfulGraph (graph_of g) → (b : State) → WaitWell b n
    → ((u : ℕ) → is_among_waiters u (b.queue n) ≡ true → is_among_waiters u ((state_in g l).queue n) ≡ true)
    → (told : Told) → IsBySlot told → ((u : ℕ) → is_among_waiters u (b.queue n) ≡ true → notices_in told u ≡ None)
    → (ws : List Waiter) → ws ≡ front_at b n → CanEnd (books_of l.txn_entries l.lists.items told) ws
    × ((u : ℕ) → is_among_waiters u ws ≡ true → CanHold l.lists.items u n (parents_of (graph_of g) n))
can_wake_front g l n are law b well stand told by_slot untold ws front = (
  record {
    kept = record { few = are.sound.few; len = are.sound.lists; by_slot = by_slot };
    distinct = ap is_distinct front ∙ front_distinct b n well;
    below = λ u h. below u (stand u (stands u h));
    untold = λ u h. untold u (stands u h);
  },
  λ u h.
      let there = stand u (stands u h) in
      can_hold_there (state_in g l) are.orderly law n l.lists.items u there (subst (λ (k : ℕ). u < k) (sym are.sound.lists) (below u there))
      (are.agree u there) (are.count u there),
)
  where
    stands : (u : ℕ) → is_among_waiters u ws ≡ true → is_among_waiters u (b.queue n) ≡ true
    stands u h = front_stands b n well u (ap (is_among_waiters u) (sym front) ∙ h)

    below : (u : ℕ) → is_among_waiters u ((state_in g l).queue n) ≡ true → u < length l.txn_entries.items
    below u h = waiters_below (state_in g l) are.orderly n u h
