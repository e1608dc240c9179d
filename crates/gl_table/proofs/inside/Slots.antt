-- One list of many is written, gets room, a node or a mode. For all that writes lists.
use Rattle.gl_table.proofs.Words.{◌&&◌, ◌+◌, ◌<◌, ◌==◌, [], ◌^◌, ◌||◌, ◌∙◌, ◌∷◌, ◌≡◌, ◌≢◌, ◌≤◌, Agrees, and-false, ap, ap₂, arith, as_left, Bool, by_list}
use Rattle.gl_table.proofs.Words.{CanHold, count_by, count_in, count_of, counted_by, CountsHeld, Entry, false, fun_ext, HasRoom, HasRoomAt, held_by, if-false}
use Rattle.gl_table.proofs.Words.{if-true, if◌then◌else◌, is_listed, is_some, IsWritten, KeepsLists, KeepsPlaces, keys, keys_of, LeavesPlace, length}
use Rattle.gl_table.proofs.Words.{length-set, List, list_any, listed_by, ListsKeepPlaces, ListsLose, LockList, lookup, map-set_same, Mode, mode_in, mode_of}
use Rattle.gl_table.proofs.Words.{nat_tests, NL, NodeId, nodes_by, not, number_same, OnlyLoses, option_map_or, refl, room_by, same_mode, same_mode-equal}
use Rattle.gl_table.proofs.Words.{same_node, same_node-equal, same_number, slice_get, slice_get-get_or, slice_index_or, slice_set, Some, spare, split, State}
use Rattle.gl_table.proofs.Words.{Strikes, subst, suc, swap_remove_entry, sym, true, unlisted, unlisted_by, Writing, zero, ℕ}
use Rattle.gl_table.proofs.inside.Places.{lost_one, same_order}

-- One list of many is written.

pub slice_get-set_same : {X : Type 0} (xs : List X) (i : ℕ) (x : X) → i < length xs → slice_get (slice_set xs i x) i ≡ Some x
slice_get-set_same [] i x h = absurd (omega arith)
slice_get-set_same (y ∷ ys) zero x h = refl
slice_get-set_same (y ∷ ys) (suc i) x h = slice_get-set_same ys i x (omega arith)

pub slice_get-set_other : {X : Type 0} (xs : List X) (i j : ℕ) (x : X) → j ≢ i → slice_get (slice_set xs i x) j ≡ slice_get xs j
slice_get-set_other [] i j x ne = refl
slice_get-set_other (y ∷ ys) zero zero x ne = absurd (ne refl)
slice_get-set_other (y ∷ ys) zero (suc j) x ne = refl
slice_get-set_other (y ∷ ys) (suc i) zero x ne = refl
slice_get-set_other (y ∷ ys) (suc i) (suc j) x ne = slice_get-set_other ys i j x (λ e. ne (ap suc e))

pub slice_get-at : {X : Type 0} (xs : List X) (i : ℕ) (x : X) → i < length xs → x ≡ slice_index_or xs i x → slice_get xs i ≡ Some x
slice_get-at xs i x h e = slice_get-get_or xs i x h ∙ ap Some (sym e)

module _ (ls : List LockList) (t : ℕ) (new : LockList) (lt : t < length ls) where
  set_here : (u : ℕ) → (u == t) ≡ true → slice_get (slice_set ls t new) u ≡ Some new
  set_here u e = ap (slice_get (slice_set ls t new)) (same_number u t e) ∙ slice_get-set_same ls t new lt

  set_apart : (u : ℕ) → (u == t) ≡ false → slice_get (slice_set ls t new) u ≡ slice_get ls u
  set_apart u e = slice_get-set_other ls t u new (λ is. let yes : (u == t) ≡ true = grind (arith, nat_tests) in no_both e yes)
    where
      no_both : {C : Type 0} {b : Bool} → b ≡ false → b ≡ true → C
      no_both p q = absurd (cc)

  -- what the lists say, once one is written
  pub by_list-set : {A : Type 0} (f : LockList → A) (none : A) (u : ℕ) → by_list f none (slice_set ls t new) u ≡ (if u == t then f new else by_list f none ls u)
  by_list-set f none u = split (u == t) (λ e. ap (λ o. option_map_or f o none) (set_here u e) ∙ sym (if-true _ e))
      (λ e. ap (λ o. option_map_or f o none) (set_apart u e) ∙ sym (if-false _ e))

-- what a list says that was looked up
pub by_list-at : {A : Type 0} (f : LockList → A) (none : A) (ls : List LockList) (t : ℕ) (l : LockList) → t < length ls → l ≡ slice_index_or ls t l
    → by_list f none ls t ≡ f l
by_list-at f none ls t l lt at = ap (λ o. option_map_or f o none) (slice_get-at ls t l lt at)

module _ (ls : List LockList) (t : ℕ) (l : LockList) (lt : t < length ls) (at : l ≡ slice_index_or ls t l) where
  pub by_list-here : {A : Type 0} (u : ℕ) → (u == t) ≡ true → (f : LockList → A) (none : A) → by_list f none ls u ≡ f l
  by_list-here u e f none = ap (by_list f none ls) (same_number u t e) ∙ by_list-at f none ls t l lt at

  -- if the written list says what the old one said, all say what they said
  pub by_list-kept : (l' : LockList) {A : Type 0} (f : LockList → A) (none : A) → f l' ≡ f l → (u : ℕ)
      → by_list f none (slice_set ls t l') u ≡ by_list f none ls u
  by_list-kept l' f none same u = by_list-set ls t l' lt f none u ∙ split (u == t) (λ e. if-true _ e ∙ same ∙ sym (by_list-here u e f none)) (λ e. if-false _ e)

-- The orders of lists of which one is written.
module _ (ls : List LockList) (t : ℕ) (l l' : LockList) (lt : t < length ls) (at : l ≡ slice_index_or ls t l) where
  by_order : (R : List NodeId → List NodeId → Type 0) → R (keys l.entries) (keys l'.entries) → ((order : List NodeId) → R order order) → (u : ℕ)
      → R (nodes_by ls u) (nodes_by (slice_set ls t l') u)
  by_order R here same u = split (u == t)
      (λ e. subst (λ (order : List NodeId). R order (nodes_by (slice_set ls t l') u)) (sym (by_list-here ls t l lt at u e (λ x. keys x.entries) []))
      (subst (R (keys l.entries)) (sym (by_list-set ls t l' lt (λ x. keys x.entries) [] u ∙ if-true _ e)) here))
      (λ e. subst (R (nodes_by ls u)) (sym (by_list-set ls t l' lt (λ x. keys x.entries) [] u ∙ if-false _ e)) (same (nodes_by ls u)))

  pub set_loses : OnlyLoses (keys l.entries) (keys l'.entries) → ListsLose ls (slice_set ls t l')
  set_loses here = record { each = by_order OnlyLoses here (λ order. same_order order order refl) }

  pub set_keeps : KeepsPlaces (keys l.entries) (keys l'.entries) → ListsKeepPlaces ls (slice_set ls t l')
  set_keeps here = record { each = by_order KeepsPlaces here (λ order. (same_order order order refl).places) }

-- a list that was taken out of its place is put back, with fewer nodes
pub lists_back : (ls mid : List LockList) (t : ℕ) (l e l' : LockList) → t < length ls → l ≡ slice_index_or ls t l → ListsLose (slice_set ls t e) mid
    → t < length mid → OnlyLoses (keys l.entries) (keys l'.entries) → ListsLose ls (slice_set mid t l')
lists_back ls mid t l e l' lt at others there own = record {
  each = λ u. split (u == t)
      (λ k. subst (λ (order : List NodeId). OnlyLoses order (nodes_by (slice_set mid t l') u)) (sym (by_list-here ls t l lt at u k (λ x. keys x.entries) []))
      (subst (OnlyLoses (keys l.entries)) (sym (by_list-set mid t l' there (λ x. keys x.entries) [] u ∙ if-true _ k)) own))
      (λ k. subst (λ (order : List NodeId). OnlyLoses order (nodes_by (slice_set mid t l') u))
      (by_list-set ls t e lt (λ x. keys x.entries) [] u ∙ if-false _ k)
      (subst (OnlyLoses (nodes_by (slice_set ls t e) u)) (sym (by_list-set mid t l' there (λ x. keys x.entries) [] u ∙ if-false _ k)) (others.each u)));
}

-- of what passes a test and fails another
but_not : (a b : Bool) → (a && not b) ≡ (if b then false else a)
but_not a b = grind (arith, nat_tests)

pub none_more : (k : ℕ) → k ≡ k + 0
none_more k = omega arith

-- neither is more if nothing is
pub none_if : (b : Bool) (k : ℕ) → k + (if b then 0 else 0) ≡ k
none_if b k = grind (arith, nat_tests)

-- What a list says by slot once it is written, if each slot has what is needed of it.
module _ (ls : List LockList) (t : ℕ) (l l' : LockList) (lt : t < length ls) (at : l ≡ slice_index_or ls t l) where
  by_slot : {A : Type 0} (f : LockList → A) (none : A) (u : ℕ) (want : Bool → A) → ((u == t) ≡ true → f l ≡ by_list f none ls u → f l' ≡ want true)
      → by_list f none ls u ≡ want false → by_list f none (slice_set ls t l') u ≡ want (u == t)
  by_slot f none u want here there = by_list-set ls t l' lt f none u ∙ split (u == t)
      (λ e. if-true _ e ∙ here e (sym (by_list-here ls t l lt at u e f none)) ∙ ap want (sym e)) (λ e. if-false _ e ∙ there ∙ ap want (sym e))

  -- one list is written at one node
  pub written : (n : NodeId) (is : Writing) → ((q : NodeId) → mode_of l' q ≡ (if same_node q n then is.mode t else mode_of l q))
      → ((q : NodeId) → is_listed l' q ≡ (if is.gone && same_node q n then false else is_listed l q))
      → ((q : NodeId) → count_of l' q ≡ count_of l q + is.more t q) → OnlyLoses (keys l.entries) (keys l'.entries)
      → IsWritten ls n (λ u. u == t) is (slice_set ls t l')
  written n is modes listed counts loses = record {
    len = length-set ls t l';
    modes = λ u q. by_slot (λ x. mode_of x q) NL u (λ k. if k && same_node q n then is.mode u else held_by ls u q)
        (λ e was. modes q ∙ ap₂ (λ v x. if same_node q n then is.mode v else x) (sym (same_number u t e)) was) refl;
    listed = λ u q. by_slot (λ x. is_listed x q) false u (λ k. if is.gone && (k && same_node q n) then false else listed_by ls u q)
        (λ e was. listed q ∙ ap (λ x. if is.gone && same_node q n then false else x) was)
        (ap (λ b. if b then false else listed_by ls u q) (sym (and-false is.gone)));
    counts = λ u q. by_slot (λ x. count_of x q) 0 u (λ k. counted_by ls u q + (if k then is.more u q else 0))
        (λ e was. counts q ∙ ap₂ (λ v (k : ℕ). k + is.more v q) (sym (same_number u t e)) was) (none_more (counted_by ls u q));
    rooms = λ u e. by_list-set ls t l' lt (λ x. spare x.loose) 0 u ∙ ap (λ b. if b then spare l'.loose else room_by ls u) e;
    orders = λ u e. by_list-set ls t l' lt (λ x. keys x.entries) [] u ∙ ap (λ b. if b then keys l'.entries else nodes_by ls u) e;
    loses = set_loses ls t l l' lt at loses;
  }

  -- a node is removed from one list, in which no child of it is counted
  pub written-left : (n : NodeId) → ((q : NodeId) → mode_of l' q ≡ (if same_node q n then NL else mode_of l q))
      → ((q : NodeId) → is_listed l' q ≡ (is_listed l q && not (same_node q n))) → ((q : NodeId) → count_of l' q ≡ count_of l q)
      → keys l'.entries ≡ keys_of (swap_remove_entry (same_node n) l.entries.entries) → IsWritten ls n (λ u. u == t) as_left (slice_set ls t l')
  written-left n modes listed counts order = written n as_left modes (λ q. listed q ∙ but_not (is_listed l q) (same_node q n))
      (λ q. counts q ∙ none_more (count_of l q)) (lost_one l l' n order listed)

-- lists that have the same nodes lack the same of these
unlisted-same : (l l' : LockList) (ps : List NodeId) → ((q : NodeId) → is_listed l' q ≡ is_listed l q) → unlisted l' ps ≡ unlisted l ps
unlisted-same l l' ps same = ap (λ (f : NodeId → Bool). count_by (λ p. not (f p)) ps) (fun_ext same)

-- a list whose modes alone were written

module _ (ls : List LockList) (t : ℕ) (n : NodeId) (ps : List NodeId) (l l' : LockList) (at : l ≡ slice_index_or ls t l) (can : CanHold ls t n ps) where
  pub few-kept : ((q : NodeId) → count_of l' q ≡ count_of l q) → (q : NodeId) → list_any (same_node q) ps ≡ true
      → count_of l' q + count_by (same_node q) ps < 2 ^ 32
  few-kept same q among =
      subst (λ (k : ℕ). k + count_by (same_node q) ps < 2 ^ 32) (by_list-at (λ x. count_of x q) 0 ls t l can.slot at ∙ sym (same q)) (can.few q among)

  pub room-kept : ((q : NodeId) → is_listed l' q ≡ is_listed l q) → l'.loose ≡ l.loose → same_mode (mode_of l n) NL ≡ true → unlisted l' ps ≤ spare l'.loose
  room-kept listed same new =
      subst (λ (k : ℕ). k ≤ spare l'.loose) (by_list-at (λ x. unlisted x ps) 0 ls t l can.slot at ∙ sym (unlisted-same l l' ps listed))
      (subst (λ (k : ℕ). unlisted_by ls t ps ≤ k) (by_list-at (λ x. spare x.loose) 0 ls t l can.slot at ∙ ap spare (sym same))
      (can.room (by_list-at (λ x. mode_of x n) NL ls t l can.slot at ∙ same_mode-equal (mode_of l n) NL new)))

-- a list is written whole, with these modes, nodes, counts and room
pub struck-written : (ls : List LockList) (t : ℕ) (l l' : LockList) (n : NodeId) (ps : List NodeId) → t < length ls → l ≡ slice_index_or ls t l
    → ((q : NodeId) → mode_of l' q ≡ (if same_node q n then NL else mode_of l q)) → ((q : NodeId) → is_listed l' q ≡ (is_listed l q && not (same_node q n)))
    → ((q : NodeId) → count_of l' q + count_by (same_node q) ps ≡ count_of l q) → (is_listed l n ≡ true → LeavesPlace n (keys l.entries) (keys l'.entries))
    → OnlyLoses (keys l.entries) (keys l'.entries) → Strikes ls (slice_set ls t l') t n ps
struck-written ls t l l' n ps lt at modes listed counts leaves loses = record {
  len = length-set ls t l';
  modes = λ u q. by_slot ls t l l' lt at (λ x. mode_of x q) NL u (λ k. if k && same_node q n then NL else held_by ls u q)
      (λ e was. modes q ∙ ap (λ x. if same_node q n then NL else x) was) refl;
  listed = λ u q. by_slot ls t l l' lt at (λ x. is_listed x q) false u (λ k. if k && same_node q n then false else listed_by ls u q)
      (λ e was. listed q ∙ but_not (is_listed l q) (same_node q n) ∙ ap (λ x. if same_node q n then false else x) was) refl;
  counts = λ u q. ap (λ k. k + (if u == t then count_by (same_node q) ps else 0)) (by_list-set ls t l' lt (λ x. count_of x q) 0 u) ∙ split (u == t)
      (λ e. ap (λ b. (if b then count_of l' q else counted_by ls u q) + (if b then count_by (same_node q) ps else 0)) e ∙ counts q
      ∙ sym (by_list-here ls t l lt at u e (λ x. count_of x q) 0))
      (λ e. ap (λ b. (if b then count_of l' q else counted_by ls u q) + (if b then count_by (same_node q) ps else 0)) e ∙ sym (none_more (counted_by ls u q)));
  rooms = λ u e. by_list-set ls t l' lt (λ x. spare x.loose) 0 u ∙ ap (λ b. if b then spare l'.loose else room_by ls u) e;
  place = λ h. subst (λ (order : List NodeId). LeavesPlace n order (nodes_by (slice_set ls t l') t)) (sym (by_list-at (λ x. keys x.entries) [] ls t l lt at))
      (subst (λ (order : List NodeId). LeavesPlace n (keys l.entries) order)
      (sym (by_list-set ls t l' lt (λ x. keys x.entries) [] t ∙ if-true _ (number_same t t refl)))
      (leaves (sym (by_list-at (λ x. is_listed x n) false ls t l lt at) ∙ h)));
  loses = set_loses ls t l l' lt at loses;
}

-- One list is written: all others agree as they did.

module _ (ls : List LockList) (t : ℕ) (new : LockList) (lt : t < length ls) where
  pub own_list : {A : Type 0} (f : LockList → A) (none : A) → by_list f none (slice_set ls t new) t ≡ f new
  own_list f none = by_list-set ls t new lt f none t ∙ if-true _ (number_same t t refl)

  module _ (u : ℕ) (e : (u == t) ≡ false) where
    other_list : {A : Type 0} (f : LockList → A) (none : A) → by_list f none (slice_set ls t new) u ≡ by_list f none ls u
    other_list f none = by_list-set ls t new lt f none u ∙ ap (λ b. if b then f new else by_list f none ls u) e

    pub agrees-set : (s : State) → Agrees s ls u → Agrees s (slice_set ls t new) u
    agrees-set s agree = record {
      modes = λ q. other_list (λ l. mode_of l q) NL ∙ agree.modes q;
      listed = λ q. other_list (λ l. is_listed l q) false ∙ agree.listed q;
      room = λ h. subst (λ (k : ℕ). 9 ≤ k) (sym (other_list (λ l. spare l.loose) 0)) (agree.room h);
    }

    pub counts-set : (s : State) → CountsHeld s ls u → CountsHeld s (slice_set ls t new) u
    counts-set s count p = other_list (λ l. count_of l p) 0 ∙ count p

-- The counts of one list of many are written, and neither its nodes nor their modes.

module _ (ls : List LockList) (t : ℕ) (l l' : LockList) (lt : t < length ls) (at : l ≡ slice_index_or ls t l) where
  module _ (modes : (q : NodeId) → mode_of l' q ≡ mode_of l q) (listed : (q : NodeId) → is_listed l' q ≡ is_listed l q)
      (room : spare l.loose ≤ spare l'.loose) where
    room_kept : (u : ℕ) → room_by ls u ≤ room_by (slice_set ls t l') u
    room_kept u = split (u == t) (λ e. subst (λ (k : ℕ). k ≤ room_by (slice_set ls t l') u) (sym (by_list-here ls t l lt at u e (λ x. spare x.loose) 0))
        (subst (λ (k : ℕ). spare l.loose ≤ k) (sym (by_list-set ls t l' lt (λ x. spare x.loose) 0 u ∙ if-true _ e)) room))
        (λ e. let same = by_list-set ls t l' lt (λ x. spare x.loose) 0 u ∙ if-false _ e in omega arith)

    pub agrees_recounted : (s : State) (u : ℕ) → Agrees s ls u → Agrees s (slice_set ls t l') u
    agrees_recounted s u agree = record {
      modes = λ q. by_list-kept ls t l lt at l' (λ x. mode_of x q) NL (modes q) u ∙ agree.modes q;
      listed = λ q. by_list-kept ls t l lt at l' (λ x. is_listed x q) false (listed q) u ∙ agree.listed q;
      room = λ h. let old = agree.room h in let kept = room_kept u in omega arith;
    }

  pub counts_recounted : (b : Bool) (less more : NodeId → ℕ)
      → ((q : NodeId) → count_of l' q + (if b then less q else 0) ≡ count_of l q + (if b then more q else 0))
      → (u : ℕ) (q : NodeId) → counted_by (slice_set ls t l') u q + (if (u == t) && b then less q else 0)
      ≡ counted_by ls u q + (if (u == t) && b then more q else 0)
  counts_recounted b less more counts u q = ap (λ (k : ℕ). k + (if (u == t) && b then less q else 0)) (by_list-set ls t l' lt (λ x. count_of x q) 0 u)
      ∙ split (u == t) (λ e. ap (λ k. (if k then count_of l' q else counted_by ls u q) + (if k && b then less q else 0)) e ∙ counts q
      ∙ ap₂ (λ (k : ℕ) a. k + (if a && b then more q else 0)) (sym (by_list-here ls t l lt at u e (λ x. count_of x q) 0)) (sym e))
      (λ e. ap (λ k. (if k then count_of l' q else counted_by ls u q) + (if k && b then less q else 0)) e
      ∙ ap (λ k. counted_by ls u q + (if k && b then more q else 0)) (sym e))

-- Lists with more room say what they said.

module _ (ls : List LockList) (t : ℕ) (l l' : LockList) (lt : t < length ls) (at : l ≡ slice_index_or ls t l) where
  pub keeps-set : l'.entries.entries ≡ l.entries.entries → l'.loose.entries ≡ l.loose.entries → spare l.loose ≤ spare l'.loose
      → KeepsLists ls (slice_set ls t l')
  keeps-set entries loose more = record {
    len = length-set ls t l';
    entries = map-set_same (λ x. x.entries.entries) ls t l' l (entries ∙ ap (λ x. x.entries.entries) at);
    modes = λ u q. by_list-kept ls t l lt at l' (λ x. mode_of x q) NL (ap (λ (es : List (NodeId × Entry)). mode_in (lookup (same_node q) es)) entries) u;
    listed = λ u q. by_list-kept ls t l lt at l' (λ x. is_listed x q) false (listed q) u;
    counts = λ u q. by_list-kept ls t l lt at l' (λ x. count_of x q) 0
        (ap₂ (λ (es : List (NodeId × Entry)) (ks : List (NodeId × ℕ)). count_in (lookup (same_node q) es) (lookup (same_node q) ks)) entries loose) u;
    rooms = λ u. subst (λ (k : ℕ). room_by ls u ≤ k) (sym (by_list-set ls t l' lt (λ x. spare x.loose) 0 u)) (split (u == t)
        (λ k. subst (λ b. room_by ls u ≤ (if b then spare l'.loose else room_by ls u)) (sym k)
        (subst (λ (r : ℕ). r ≤ spare l'.loose) (sym (by_list-here ls t l lt at u k (λ x. spare x.loose) 0)) more))
        (λ k. subst (λ b. room_by ls u ≤ (if b then spare l'.loose else room_by ls u)) (sym k) (omega arith)));
  }
    where
      listed : (n : NodeId) → is_listed l' n ≡ is_listed l n
      listed n = ap (λ (es : List (NodeId × Entry)). is_some (lookup (same_node n) es)) entries

  pub has_room-set : HasRoom l' → HasRoomAt (slice_set ls t l') t
  has_room-set room = record {
    entry = subst (λ (k : ℕ). 0 < k) (sym (here (λ x. spare x.entries))) room.0;
    counts = subst (λ (k : ℕ). 9 ≤ k) (sym (here (λ x. spare x.loose))) room.1;
  }
    where
      here : (f : LockList → ℕ) → by_list f 0 (slice_set ls t l') t ≡ f l'
      here f = by_list-set ls t l' lt f 0 t ∙ if-true _ (number_same t t refl)

pub keeps-agrees : (s : State) (ls ls' : List LockList) (u : ℕ) → KeepsLists ls ls' → Agrees s ls u → Agrees s ls' u
keeps-agrees s ls ls' u keeps agrees = record {
  modes = λ q. keeps.modes u q ∙ agrees.modes q;
  listed = λ q. keeps.listed u q ∙ agrees.listed q;
  room = λ w. let room = agrees.room w in let more = keeps.rooms u in omega arith;
}

pub keeps-counts : (s : State) (ls ls' : List LockList) (u : ℕ) → KeepsLists ls ls' → CountsHeld s ls u → CountsHeld s ls' u
keeps-counts s ls ls' u keeps counts p = keeps.counts u p ∙ counts p

-- The list of one slot gets a node, or another mode of one.

-- the list of t has n, in this mode; what is said of other slots and nodes is as it was
pub record HasNode (ls ls' : List LockList) (t : ℕ) (n : NodeId) (m : Mode) : Type 0 where
  pub len : length ls' ≡ length ls
  pub modes : (u : ℕ) (q : NodeId) → held_by ls' u q ≡ (if (u == t) && same_node q n then m else held_by ls u q)
  pub listed : (u : ℕ) (q : NodeId) → listed_by ls' u q ≡ (((u == t) && same_node q n) || listed_by ls u q)
  pub rooms : (u : ℕ) → (u == t) ≡ false → room_by ls' u ≡ room_by ls u

module _ (ls : List LockList) (t : ℕ) (l l' : LockList) (lt : t < length ls) (at : l ≡ slice_index_or ls t l) where
  pub has_node-set : (n : NodeId) (m : Mode) → ((q : NodeId) → mode_of l' q ≡ (if same_node q n then m else mode_of l q))
      → ((q : NodeId) → is_listed l' q ≡ (same_node q n || is_listed l q)) → HasNode ls (slice_set ls t l') t n m
  has_node-set n m modes listed = record {
    len = length-set ls t l';
    modes = λ u q. by_slot ls t l l' lt at (λ x. mode_of x q) NL u (λ k. if k && same_node q n then m else held_by ls u q)
        (λ e was. modes q ∙ ap (λ x. if same_node q n then m else x) was) refl;
    listed = λ u q. by_slot ls t l l' lt at (λ x. is_listed x q) false u (λ k. (k && same_node q n) || listed_by ls u q)
        (λ e was. listed q ∙ ap (λ b. same_node q n || b) was) refl;
    rooms = λ u e. by_list-set ls t l' lt (λ x. spare x.loose) 0 u ∙ ap (λ b. if b then spare l'.loose else room_by ls u) e;
  }

  pub counts-entered : (more : NodeId → ℕ) → ((q : NodeId) → count_of l' q ≡ count_of l q + more q) → (u : ℕ) (q : NodeId)
      → counted_by (slice_set ls t l') u q ≡ counted_by ls u q + (if u == t then more q else 0)
  counts-entered more counts u q = by_slot ls t l l' lt at (λ x. count_of x q) 0 u (λ k. counted_by ls u q + (if k then more q else 0))
      (λ e was. counts q ∙ ap (λ (k : ℕ). k + more q) was) (none_more (counted_by ls u q))

-- a list that has the node already, and holds it in this mode
pub also_held : (l : LockList) (n : NodeId) (m : Mode) → mode_of l n ≡ m → (q : NodeId) → mode_of l q ≡ (if same_node q n then m else mode_of l q)
also_held l n m h q = grind (arith, nat_tests, same_node-equal)

pub also_listed : (l : LockList) (n : NodeId) → is_listed l n ≡ true → (q : NodeId) → is_listed l q ≡ (same_node q n || is_listed l q)
also_listed l n h q = grind (arith, nat_tests, same_node-equal)
