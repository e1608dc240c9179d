-- Waits on a node that end one after the other, by a grant or without one. For `wake`, `free` and `turn_away`.
use Rattle.gl_table.proofs.Words.{◌&&◌, ◌+◌, ◌<◌, ◌==◌, [], ◌^◌, ◌||◌, ◌∙◌, ◌∷◌, ◌≡◌, ◌≤◌, Active, after_grants, age_in, Agrees, and-false, and_both, ap, ap₂}
use Rattle.gl_table.proofs.Words.{AreKept, arith, as_held, as_left, Books, Bool, CanHold, clash, count_by, counted_by, false, fun_ext, grants_other, held_by}
use Rattle.gl_table.proofs.Words.{if-false, if-true, if◌then◌else◌, is_among_waiters, is_distinct, is_wait, is_waiter, IsBySlot, IsWritten, length, List}
use Rattle.gl_table.proofs.Words.{list_any_at, list_any_more, listed_by, LockList, Members, Mode, mode_given, most_slots, nat_tests, NL, NodeId, None, not}
use Rattle.gl_table.proofs.Words.{not-true, not_true, Notice, notices_in, number_same, Option, or-false, or_elim, or_no, or_right, refl, restatus, room_by}
use Rattle.gl_table.proofs.Words.{same_mode, same_node, same_node-equal, same_number, slice_index_or, Some, split, State, status_in, status_of, subst, suc, sym}
use Rattle.gl_table.proofs.Words.{take, true, Txn, TxnId, txns_of, unlisted_by, Waiter, WaitsEnd, with_mode, Writing, zero, ℕ}
use Rattle.gl_table.proofs.inside.Places.{lists_here, lose_then}
use Rattle.gl_table.proofs.inside.Slots.{none_more}

-- Waiters of different slots, granted from the front.

-- one more waiter is granted
pub among_more : (u : ℕ) (ws : List Waiter) (i : ℕ) (d : Waiter) → i < length ws
    → is_among_waiters u (take (i + 1) ws) ≡ (is_among_waiters u (take i ws) || (u == (slice_index_or ws i d).0))
among_more u ws i d lt = list_any_more (is_waiter u) ws i d lt ∙ ap (λ b. is_among_waiters u (take i ws) || b) (turned (slice_index_or ws i d).0)
  where
    turned : (k : ℕ) → (k == u) ≡ (u == k)
    turned k = grind (arith, nat_tests)

-- it is one of all
pub is_among_all : (ws : List Waiter) (i : ℕ) (d : Waiter) → i < length ws → is_among_waiters (slice_index_or ws i d).0 ws ≡ true
is_among_all ws i d lt = list_any_at (is_waiter (slice_index_or ws i d).0) ws i d lt (number_same _ _ refl)

-- a slot that is among some and not among others is another
apart_by : (ws : List Waiter) (u v : ℕ) → is_among_waiters u ws ≡ true → is_among_waiters v ws ≡ false → (v == u) ≡ false
apart_by ws u v here off = not_true (v == u) (λ e. clash (ap (λ x. is_among_waiters x ws) (same_number v u e) ∙ here) off)

-- it is none of those before it
pub none_before : (ws : List Waiter) (i : ℕ) (d : Waiter) → is_distinct ws ≡ true → i < length ws
    → is_among_waiters (slice_index_or ws i d).0 (take i ws) ≡ false
none_before [] i d h lt = absurd (omega arith)
none_before (w ∷ ws) zero d h lt = refl
none_before (w ∷ ws) (suc i) d h lt =
    let both = and_both (not (is_among_waiters w.0 ws)) (is_distinct ws) h in
    ap₂ (λ a b. a || b) (apart_by ws _ w.0 (is_among_all ws i d (omega arith)) (not-true _ both.0)) (none_before ws i d both.1 (omega arith))

-- and is given its own mode
pub given_at : (g : Members) (ws : List Waiter) (i : ℕ) (d : Waiter) → is_distinct ws ≡ true → i < length ws
    → (slice_index_or ws i d).1 ≡ after_grants g ws (slice_index_or ws i d).0
given_at g [] i d h lt = absurd (omega arith)
given_at g (w ∷ ws) zero d h lt =
    let both = and_both (not (is_among_waiters w.0 ws)) (is_distinct ws) h in
    sym (grants_other ws (with_mode g w.0 w.1) w.0 (not-true _ both.0) ∙ if-true _ (number_same w.0 w.0 refl))
given_at g (w ∷ ws) (suc i) d h lt = given_at (with_mode g w.0 w.1) ws i d (and_both (not (is_among_waiters w.0 ws)) (is_distinct ws) h).1 (omega arith)

-- a slot among them holds what it is given, and all others what they held
pub given_or_held : (ws : List Waiter) (g : Members) (u : ℕ) → after_grants g ws u ≡ (if is_among_waiters u ws then mode_given ws u else g u)
given_or_held ws g u = split (is_among_waiters u ws) (λ e. same ws g (λ _. NL) e ∙ sym (if-true _ e)) (λ e. grants_other ws g u e ∙ sym (if-false _ e))
  where
    same : (ws : List Waiter) (g h : Members) → is_among_waiters u ws ≡ true → after_grants g ws u ≡ after_grants h ws u
    same [] g h e = clash e refl
    same (w ∷ ws) g h e = split (is_among_waiters u ws) (λ k. same ws _ _ k)
        (λ k. grants_other ws _ u k ∙ ap (λ b. if b then w.1 else g u) (own k) ∙ sym (grants_other ws _ u k ∙ ap (λ b. if b then w.1 else h u) (own k)))
      where
        own : is_among_waiters u ws ≡ false → (u == w.0) ≡ true
        own k = let is : (w.0 == u) ≡ true = or_elim (w.0 == u) _ e (λ x. x) (λ x. clash x k) in grind (arith, nat_tests)

-- What is written at the slots of one test and then at those of another is written at both.

module _ {A : Type 0} (who one all : ℕ → Bool) (both : (u : ℕ) → all u ≡ (who u || one u)) (old mid now new new' : ℕ → A)
    (same : (u : ℕ) → one u ≡ true → new' u ≡ new u) (so_far : (u : ℕ) → mid u ≡ (if who u then new u else old u))
    (step : (u : ℕ) → now u ≡ (if one u then new' u else mid u)) where
  one_more : (u : ℕ) → now u ≡ (if all u then new u else old u)
  one_more u = grind (arith, nat_tests, step u, or-false, or_right)

-- tests under a third
or_and : (a b k : Bool) → ((a || b) && k) ≡ ((a && k) || (b && k))
or_and a b k = grind (arith, nat_tests)

under : (g a b c : Bool) → c ≡ (a || b) → (g && c) ≡ ((g && a) || (g && b))
under g a b c h1 = grind (arith, nat_tests)

-- what is counted more
either_more : (a b : Bool) (k x y : ℕ) → (b ≡ true → (a ≡ false) × (y ≡ x)) → k + (if a then x else 0) + (if b then y else 0) ≡ k + (if a || b then x else 0)
either_more a b k x y h1 = grind (arith, nat_tests)

-- Some waits on a node are over, and one more ends.

-- what is kept in order still is
pub kept_still : {b mid : Books} {n : NodeId} {who : ℕ → Bool} {is : Writing} {says : ℕ → Notice} → WaitsEnd b n who is says mid → AreKept b → AreKept mid
kept_still over kept = record {
  few = subst (λ (k : ℕ). k ≤ most_slots) (sym over.len) kept.few;
  len = over.lists.len ∙ kept.len ∙ sym over.len;
  by_slot = over.tells.by_slot;
}

module _ {b mid : Books} {n : NodeId} {who : ℕ → Bool} {is : Writing} {says : ℕ → Notice} (over : WaitsEnd b n who is says mid) (t : ℕ)
    (fresh : who t ≡ false) where
  -- its slot is as it was
  pub txn_entry_still : t < length b.txn_entries → t < length mid.txn_entries
  txn_entry_still lt = subst (λ (k : ℕ). t < k) (sym over.len) lt

  pub untold_still : notices_in b.told t ≡ None → notices_in mid.told t ≡ None
  untold_still none = over.tells.notices t ∙ if-false _ fresh ∙ none

  txn_still : txns_of mid.txn_entries t ≡ txns_of b.txn_entries t
  txn_still = over.txns t ∙ if-false _ fresh

  mode_still : (q : NodeId) → held_by mid.lists t q ≡ held_by b.lists t q
  mode_still q = over.lists.modes t q ∙ ap (λ c. if c && same_node q n then is.mode t else held_by b.lists t q) fresh

  pub count_still : (q : NodeId) → counted_by mid.lists t q ≡ counted_by b.lists t q
  count_still q = over.lists.counts t q ∙ ap (λ c. counted_by b.lists t q + (if c then is.more t q else 0)) fresh ∙ sym (none_more (counted_by b.lists t q))

  module _ {b' : Books} {is' : Writing} {says' : ℕ → Notice} (ends : WaitsEnd mid n (λ u. u == t) is' says' b')
      (all : ℕ → Bool) (both : (u : ℕ) → all u ≡ (who u || (u == t))) (mode : is'.mode t ≡ is.mode t) (gone : is'.gone ≡ is.gone)
      (more : (q : NodeId) → is'.more t q ≡ is.more t q) (says_is : says' t ≡ says t) where
    -- so its wait is over too
    pub ends_more : WaitsEnd b n all is says b'
    ends_more = record {
      len = ends.len ∙ over.len;
      txns = one_more who (λ u. u == t) all both (txns_of b.txn_entries) (txns_of mid.txn_entries) (txns_of b'.txn_entries)
          (λ u. restatus Active (txns_of b.txn_entries u)) _
          (λ u e. ap (restatus Active) (own (λ v. txns_of mid.txn_entries v ≡ txns_of b.txn_entries v) txn_still u e)) over.txns ends.txns;
      lists = record {
        len = ends.lists.len ∙ over.lists.len;
        modes = λ u q. one_more (λ v. who v && same_node q n) (λ v. (v == t) && same_node q n) (λ v. all v && same_node q n)
            (λ v. ap (λ c. c && same_node q n) (both v) ∙ or_and (who v) (v == t) (same_node q n))
            (λ v. held_by b.lists v q) (λ v. held_by mid.lists v q) (λ v. held_by b'.lists v q) is.mode is'.mode
            (λ v e. own (λ x. is'.mode x ≡ is.mode x) mode v (and_both (v == t) _ e).0) (λ v. over.lists.modes v q) (λ v. ends.lists.modes v q) u;
        listed = λ u q. one_more (λ v. is.gone && (who v && same_node q n)) (λ v. is.gone && ((v == t) && same_node q n))
            (λ v. is.gone && (all v && same_node q n))
            (λ v. under is.gone _ _ _ (ap (λ c. c && same_node q n) (both v) ∙ or_and (who v) (v == t) (same_node q n)))
            (λ v. listed_by b.lists v q) (λ v. listed_by mid.lists v q) (λ v. listed_by b'.lists v q) (λ v. false) (λ v. false) (λ v e. refl)
            (λ v. over.lists.listed v q)
            (λ v. ends.lists.listed v q ∙ ap (λ c. if c && ((v == t) && same_node q n) then false else listed_by mid.lists v q) gone) u;
        counts = λ u q. ends.lists.counts u q ∙ ap (λ (k : ℕ). k + (if u == t then is'.more u q else 0)) (over.lists.counts u q)
            ∙ either_more (who u) (u == t) (counted_by b.lists u q) (is.more u q) (is'.more u q)
            (λ e. (own (λ v. who v ≡ false) fresh u e, own (λ v. is'.more v q ≡ is.more v q) (more q) u e))
            ∙ ap (λ c. counted_by b.lists u q + (if c then is.more u q else 0)) (sym (both u));
        rooms = λ u off. let out = or_no (who u) (u == t) (sym (both u) ∙ off) in ends.lists.rooms u out.1 ∙ over.lists.rooms u out.0;
        orders = λ u off. let out = or_no (who u) (u == t) (sym (both u) ∙ off) in ends.lists.orders u out.1 ∙ over.lists.orders u out.0;
        loses = lose_then over.lists.loses ends.lists.loses;
      };
      tells = record {
        by_slot = ends.tells.by_slot;
        notices = one_more who (λ u. u == t) all both (notices_in b.told) (notices_in mid.told) (notices_in b'.told)
            (λ u. Some (record { slot = u; age = age_in (txns_of b.txn_entries u) }, says u)) _
            (λ u e. ap₂ (λ (x : Option Txn) (y : Notice). let name : TxnId = record { slot = u; age = age_in x } in Some (name, y))
            (own (λ v. txns_of mid.txn_entries v ≡ txns_of b.txn_entries v) txn_still u e)
            (own (λ v. says' v ≡ says v) says_is u e)) over.tells.notices ends.tells.notices;
      };
    }
      where
        own : (P : ℕ → Type 0) → P t → (u : ℕ) → (u == t) ≡ true → P u
        own P p u e = subst P (sym (same_number u t e)) p

-- one wait ends: its status is written, its list, and what it is told
pub ends_one : {b b' : Books} {n : NodeId} {is : Writing} (t age : ℕ) (x : Notice) → age ≡ age_in (txns_of b.txn_entries t)
    → length b'.txn_entries ≡ length b.txn_entries
    → ((u : ℕ) → txns_of b'.txn_entries u ≡ (if u == t then restatus Active (txns_of b.txn_entries t) else txns_of b.txn_entries u))
    → IsWritten b.lists n (λ u. u == t) is b'.lists → IsBySlot b'.told
    → ((u : ℕ) → notices_in b'.told u ≡ (if u == t then Some (record { slot = t; age = age }, x) else notices_in b.told u))
    → WaitsEnd b n (λ u. u == t) is (λ u. x) b'
ends_one {b} t age x age_is len txns lists by_slot notices = record {
  len = len;
  txns = λ u. txns u ∙ at_own u (λ v. restatus Active (txns_of b.txn_entries v)) _;
  lists = lists;
  tells = record {
    by_slot = by_slot;
    notices = λ u. notices u ∙ ap (λ (a : ℕ). if u == t then Some (record { slot = t; age = a }, x) else notices_in b.told u) age_is
        ∙ at_own u (λ v. Some (record { slot = v; age = age_in (txns_of b.txn_entries v) }, x)) _;
  };
}
  where
    at_own : {A : Type 0} (u : ℕ) (f : ℕ → A) (y : A) → (if u == t then f t else y) ≡ (if u == t then f u else y)
    at_own u f y = grind (arith, nat_tests, same_number u t)

-- Waits end on a node that their transactions do not hold: the lists agree with the state that is left.
module _ (s after : State) (n : NodeId) (who : ℕ → Bool) (bare : (u : ℕ) → who u ≡ true → s.held u n ≡ NL)
    (held : (u : ℕ) (q : NodeId) → after.held u q ≡ s.held u q)
    (queue : (u : ℕ) (q : NodeId) → is_among_waiters u (after.queue q) ≡ (if who u && same_node q n then false else is_among_waiters u (s.queue q)))
    (txns : (u : ℕ) → after.txns u ≡ (if who u then restatus Active (s.txns u) else s.txns u)) where
  -- a slot that still waits did not end its wait
  waits_on : (u : ℕ) → is_wait (status_of after u) ≡ true → (who u ≡ false) × (is_wait (status_of s u) ≡ true)
  waits_on u h = split (who u) (λ e. clash h (ap (λ x. is_wait (status_in x)) (txns u ∙ if-true _ e) ∙ at_rest (s.txns u)))
      (λ e. (e, ap (λ x. is_wait (status_in x)) (sym (txns u ∙ if-false _ e)) ∙ h))
    where
      at_rest : (x : Option Txn) → is_wait (status_in (restatus Active x)) ≡ false
      at_rest None = refl
      at_rest (Some x) = refl

  pub agrees_given_up : {ls ls' : List LockList} → IsWritten ls n who as_left ls' → (u : ℕ) → Agrees s ls u → Agrees after ls' u
  agrees_given_up is u agree = record {
    modes = λ q. grind (arith, nat_tests, is.modes u q, agree.modes q, bare_mode (who u && same_node q n) _ (none q), held u q);
    listed = λ q. grind (arith, nat_tests, is.listed u q, agree.listed q, bare_listed (who u && same_node q n) _ _ _ (none q) (queue u q), held u q);
    room = λ h. let on = waits_on u h in subst (λ (k : ℕ). 9 ≤ k) (sym (is.rooms u on.0)) (agree.room on.1);
  }
    where
      none : (q : NodeId) → (who u && same_node q n) ≡ true → s.held u q ≡ NL
      none q h = let both = and_both (who u) (same_node q n) h in ap (s.held u) (same_node-equal q n both.1) ∙ bare u both.0

      bare_mode : (k : Bool) (m : Mode) → (k ≡ true → m ≡ NL) → (if k then NL else m) ≡ m
      bare_mode k m h1 = grind (arith, nat_tests)

      bare_listed : (k : Bool) (m : Mode) (a b : Bool) → (k ≡ true → m ≡ NL) → b ≡ (if k then false else a)
          → (if k then false else (not (same_mode m NL) || a)) ≡ (not (same_mode m NL) || b)
      bare_listed k m a b h1 h2 = grind (arith, nat_tests)

-- nothing is over yet
pub ends_none : {b : Books} {n : NodeId} {is : Writing} {says : ℕ → Notice} (who : ℕ → Bool) → ((u : ℕ) → who u ≡ false) → AreKept b
    → WaitsEnd b n who is says b
ends_none {b} {n} {is} {says} who none kept =
    subst (λ (f : ℕ → Bool). WaitsEnd b n f is says b) (sym (fun_ext none)) (record {
      len = refl;
      txns = λ u. refl;
      lists = record {
        len = refl;
        modes = λ u q. refl;
        listed = λ u q. sym (ap (λ c. if c then false else listed_by b.lists u q) (and-false is.gone));
        counts = λ u q. none_more (counted_by b.lists u q);
        rooms = λ u e. refl;
        orders = λ u e. refl;
        loses = lists_here b.lists;
      };
      tells = record { by_slot = kept.by_slot; notices = λ u. refl };
    })

-- One waiter of several is woken: its list may hold the node.

-- what is not listed, by what is
unlisted_by-listed : (ls ls' : List LockList) (t : ℕ) (ps : List NodeId) → t < length ls → t < length ls'
    → ((q : NodeId) → listed_by ls' t q ≡ listed_by ls t q) → unlisted_by ls' t ps ≡ unlisted_by ls t ps
unlisted_by-listed ls ls' t ps lt lt' same = is ls' t lt' ∙ ap (λ (f : NodeId → Bool). count_by (λ p. not (f p)) ps) (fun_ext same) ∙ sym (is ls t lt)
  where
    is : (ls : List LockList) (t : ℕ) → t < length ls → unlisted_by ls t ps ≡ count_by (λ p. not (listed_by ls t p)) ps
    is [] t lt = absurd (omega arith)
    is (l ∷ ls) zero lt = refl
    is (l ∷ ls) (suc t) lt = is ls t (omega arith)

module _ {b mid : Books} {n : NodeId} (ps : List NodeId) {who : ℕ → Bool} {mode : ℕ → Mode} {says : ℕ → Notice}
    (over : WaitsEnd b n who (as_held b.lists n ps mode) says mid) (t : ℕ) (fresh : who t ≡ false) where
  pub may_hold : CanHold b.lists t n ps → CanHold mid.lists t n ps
  may_hold can =
      let below : t < length mid.lists = subst (λ (k : ℕ). t < k) (sym over.lists.len) can.slot in
      record {
        slot = below;
        listed = over.lists.listed t n ∙ can.listed;
        room = λ e. subst (λ (k : ℕ). k ≤ room_by mid.lists t) (sym (unlisted_by-listed b.lists mid.lists t ps can.slot below (λ q. over.lists.listed t q)))
            (subst (λ (k : ℕ). unlisted_by b.lists t ps ≤ k) (sym (over.lists.rooms t fresh)) (can.room (sym (mode_still over t fresh n) ∙ e)));
        few = λ q h. subst (λ (k : ℕ). k + count_by (same_node q) ps < 2 ^ 32) (sym (count_still over t fresh q)) (can.few q h);
      }

  -- and its wait ends by the grant
  pub woken_more : {b' : Books} (m : Mode) (x : Notice) → WaitsEnd mid n (λ u. u == t) (as_held mid.lists n ps (λ u. m)) (λ u. x) b'
      → (all : ℕ → Bool) → ((u : ℕ) → all u ≡ (who u || (u == t))) → m ≡ mode t → x ≡ says t → WaitsEnd b n all (as_held b.lists n ps mode) says b'
  woken_more m x ends all both is says_is = ends_more over t fresh ends all both is refl
      (λ q. ap (λ k. if same_mode k NL then count_by (same_node q) ps else 0) (mode_still over t fresh n)) says_is
