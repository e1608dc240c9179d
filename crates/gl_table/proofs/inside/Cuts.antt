-- What is done to one list after the other, and counts that go over from one node to another. For splits and merges.
use Rattle.gl_table.proofs.Words.{◌+◌, ◌<◌, ◌==◌, [], ◌∙◌, ◌≡◌, ◌≤◌, ⊤, ap, arith, by_list, count_of, counted_by, false, if◌then◌else◌, is_listed}
use Rattle.gl_table.proofs.Words.{keys, length, length-set, List, LockList, mode_of, nat_tests, NL, NodeId, None, option_map_or, Option}
use Rattle.gl_table.proofs.Words.{refl, room_by, same_node, slice_get, slice_index_or, slice_set, Some, spare, split, subst, sym, true, ℕ}
use Rattle.gl_table.proofs.Words.{◌^◌, ◌∷◌, Agrees, ap₂, AreAgreed, AreSound, Bool, count_by, count_in, CountsHeld, Entry, graph_of, held_children}
use Rattle.gl_table.proofs.Words.{holds, if-false}
use Rattle.gl_table.proofs.Words.{if-true, IsLawfulGraph, IsOrderly, KeepsLists, Ledger, lookup, members, most_slots, nat_lt, other_number}
use Rattle.gl_table.proofs.Words.{parents_of, same_node-equal}
use Rattle.gl_table.proofs.Words.{same_node-refl, same_node-sym, same_number, state_in, suc, View, zero}
use Rattle.gl_model.proofs.queues.Counts.{parents_counted}
use Rattle.gl_lock_lists.specs.Lists.{CountsOver}
use Rattle.gl_table.specs.inside.Cuts.{CanJoin, CountOver, HaveRoomBeside}
use Rattle.gl_table.specs.inside.Steps.{CanEvict, IsLeftAloneTo}
use Rattle.gl_table.proofs.inside.Slots.{by_list-set, keeps-set, slice_get-at, slice_get-set_other, slice_get-set_same}

-- two lists that are both there are so related, and else neither is
abbrev pub Relates : (LockList → LockList → Type 0) → Option LockList → Option LockList → Type 0
Relates R None None = ⊤
Relates R (Some l) (Some l') = R l l'
Relates R o o' = ⊥

pub by_relation : (R : LockList → LockList → Type 0) (C : Option LockList → Option LockList → Type 0) → C None None
    → ((l l' : LockList) → R l l' → C (Some l) (Some l')) → (o o' : Option LockList) → Relates R o o' → C o o'
by_relation R C none some None None r = none
by_relation R C none some (Some l) (Some l') r = some l l' r
by_relation R C none some None (Some l') r = absurd r
by_relation R C none some (Some l) None r = absurd r

-- so much was done to the lists before this place, and the others are as they were
pub record AreDone (R : LockList → LockList → Type 0) (ls ls' : List LockList) (at : ℕ) : Type 0 where
  pub len : length ls' ≡ length ls
  pub done : (u : ℕ) → u < at → Relates R (slice_get ls u) (slice_get ls' u)
  pub left : (u : ℕ) → at ≤ u → slice_get ls' u ≡ slice_get ls u

pub done_begin : (R : LockList → LockList → Type 0) (ls : List LockList) → AreDone R ls ls 0
done_begin R ls = record { len = refl; done = λ u h. absurd (omega arith); left = λ u h. refl }

module _ {R : LockList → LockList → Type 0} {ls mid : List LockList} {at : ℕ} (is : AreDone R ls mid at) (l : LockList) (lt : at < length mid)
    (here : l ≡ slice_index_or mid at l) where
  -- the list at the place is still as it was
  pub still_here : slice_get ls at ≡ Some l
  still_here = sym (is.left at (omega arith)) ∙ slice_get-at mid at l lt here

  pub done_more : (l' : LockList) → R l l' → AreDone R ls (slice_set mid at l') (at + 1)
  done_more l' r = record {
    len = length-set mid at l' ∙ is.len;
    done = λ u h. split (u == at)
        (λ e. let same : u ≡ at = same_number u at e in
        subst (λ (k : ℕ). Relates R (slice_get ls k) (slice_get (slice_set mid at l') k)) (sym same)
        (subst (λ o. Relates R o (slice_get (slice_set mid at l') at)) (sym still_here)
        (subst (Relates R (Some l)) (sym (slice_get-set_same mid at l' lt)) r)))
        (λ e. let ne = other_number u at e in
        subst (Relates R (slice_get ls u)) (sym (slice_get-set_other mid at u l' ne)) (is.done u (grind (arith, nat_tests))));
    left = λ u h. slice_get-set_other mid at u l' (λ e. absurd (omega arith)) ∙ is.left u (omega arith);
  }

-- beyond the last place there is no list
beyond : {A : Type 0} (xs : List A) (i : ℕ) → length xs ≤ i → slice_get xs i ≡ None
beyond [] i h = refl
beyond (x ∷ xs) zero h = absurd (omega arith)
beyond (x ∷ xs) (suc i) h = beyond xs i (omega arith)

-- all are done
pub done_all : (R : LockList → LockList → Type 0) (ls ls' : List LockList) (at : ℕ) → AreDone R ls ls' at → length ls ≤ at → (u : ℕ)
    → Relates R (slice_get ls u) (slice_get ls' u)
done_all R ls ls' at is all u = by (nat_lt u at) refl
  where
    by : (b : Bool) → nat_lt u at ≡ b → Relates R (slice_get ls u) (slice_get ls' u)
    by true e = is.done u (grind (arith, nat_tests))
    by false e =
        let le : at ≤ u = grind (arith, nat_tests) in
        let none : slice_get ls u ≡ None = beyond ls u (omega arith) in
        subst (λ o. Relates R o (slice_get ls' u)) (sym none) (subst (Relates R None) (sym (is.left u le ∙ none)) tt)

-- so many held children of one node are counted for another
pub record IsCountedOver (from to : NodeId) (children : LockList → ℕ) (l l' : LockList) : Type 0 where
  pub listed : (q : NodeId) → is_listed l' q ≡ is_listed l q
  pub modes : (q : NodeId) → mode_of l' q ≡ mode_of l q
  pub counts : CountsOver l from to (children l) l'
  pub room : spare l.loose ≤ spare l'.loose + (if count_of l from == 0 then 0 else 1)
  pub keys : keys l'.entries ≡ keys l.entries
  pub spares : spare l.entries ≤ spare l'.entries

-- so in all lists
pub counted_over : (ls ls' : List LockList) (from to : NodeId) (children : LockList → ℕ) → length ls' ≡ length ls
    → ((u : ℕ) → Relates (IsCountedOver from to children) (slice_get ls u) (slice_get ls' u)) → CountOver ls from to (by_list children 0 ls) ls'
counted_over ls ls' from to children len all = record {
  len = len;
  modes = λ u q. each u (λ o o'. option_map_or (λ l. mode_of l q) o' NL ≡ option_map_or (λ l. mode_of l q) o NL) refl (λ l l' r. r.modes q);
  listed = λ u q. each u (λ o o'. option_map_or (λ l. is_listed l q) o' false ≡ option_map_or (λ l. is_listed l q) o false) refl (λ l l' r. r.listed q);
  counts = λ u q. each u (λ o o'. option_map_or (λ l. count_of l q) o' 0 + (if same_node q from then option_map_or children o 0 else 0)
      ≡ option_map_or (λ l. count_of l q) o 0 + (if same_node q to then option_map_or children o 0 else 0))
      (none (same_node q from) (same_node q to)) (λ l l' r. r.counts q);
  rooms = λ u. each u (λ o o'. option_map_or (λ l. spare l.loose) o 0
      ≤ option_map_or (λ l. spare l.loose) o' 0 + (if option_map_or (λ l. count_of l from) o 0 == 0 then 0 else 1)) (omega arith) (λ l l' r. r.room);
  orders = λ u. each u (λ o o'. option_map_or (λ l. keys l.entries) o' [] ≡ option_map_or (λ l. keys l.entries) o []) refl (λ l l' r. r.keys);
  spares = λ u. each u (λ o o'. option_map_or (λ l. spare l.entries) o 0 ≤ option_map_or (λ l. spare l.entries) o' 0) (omega arith) (λ l l' r. r.spares);
}
  where
    each : (u : ℕ) (C : Option LockList → Option LockList → Type 0) → C None None
        → ((l l' : LockList) → IsCountedOver from to children l l' → C (Some l) (Some l')) → C (slice_get ls u) (slice_get ls' u)
    each u C nothing some = by_relation (IsCountedOver from to children) C nothing some (slice_get ls u) (slice_get ls' u) (all u)

    none : (a b : Bool) → 0 + (if a then 0 else 0) ≡ 0 + (if b then 0 else 0)
    none true true = refl
    none true false = refl
    none false true = refl
    none false false = refl

-- Room is made in one list after the other.

module _ (ls mid : List LockList) (at : ℕ) (l l' : LockList) (kept : KeepsLists ls mid) (lt : at < length mid) (here : l ≡ slice_index_or mid at l) where
  pub kept_more : l'.entries.entries ≡ l.entries.entries → l'.loose.entries ≡ l.loose.entries → spare l.loose ≤ spare l'.loose
      → KeepsLists ls (slice_set mid at l')
  kept_more entries loose more =
      let next = keeps-set mid at l l' lt here entries loose more in
      record {
        len = next.len ∙ kept.len;
        entries = next.entries ∙ kept.entries;
        modes = λ u q. next.modes u q ∙ kept.modes u q;
        listed = λ u q. next.listed u q ∙ kept.listed u q;
        counts = λ u q. next.counts u q ∙ kept.counts u q;
        rooms = λ u. let a = kept.rooms u in let b = next.rooms u in omega arith;
      }

module _ (ls : List LockList) (at : ℕ) (l l' : LockList) (n : NodeId) (lt : at < length ls) (here : l ≡ slice_index_or ls at l) where
  pub beside_more : l'.loose.entries ≡ l.loose.entries → l'.entries ≡ l.entries → (0 < count_of l n → 10 ≤ spare l'.loose)
      → ((u : ℕ) → u < at → 0 < counted_by ls u n → 10 ≤ room_by ls u) → (u : ℕ) → u < at + 1 → 0 < counted_by (slice_set ls at l') u n
      → 10 ≤ room_by (slice_set ls at l') u
  beside_more loose entries room before u low some = split (u == at)
      (λ e.
      let count : counted_by (slice_set ls at l') u n ≡ count_of l' n = by_list-set ls at l' lt (λ x. count_of x n) 0 u ∙ if-true _ e in
      let same : count_of l' n ≡ count_of l n =
      ap₂ (λ (es : List (NodeId × Entry)) (ks : List (NodeId × ℕ)). count_in (lookup (same_node n) es) (lookup (same_node n) ks)) (ap (λ x. x.entries) entries)
      loose in
      let enough : 10 ≤ spare l'.loose = room (omega arith) in
      subst (λ (k : ℕ). 10 ≤ k) (sym (by_list-set ls at l' lt (λ x. spare x.loose) 0 u ∙ if-true _ e)) enough)
      (λ e.
      let ne = other_number u at e in
      let count : counted_by (slice_set ls at l') u n ≡ counted_by ls u n = by_list-set ls at l' lt (λ x. count_of x n) 0 u ∙ if-false _ e in
      let under : u < at = grind (arith, nat_tests) in
      let enough : 10 ≤ room_by ls u = before u under (omega arith) in
      subst (λ (k : ℕ). 10 ≤ k) (sym (by_list-set ls at l' lt (λ x. spare x.loose) 0 u ∙ if-false _ e)) enough)

-- all lists have it
pub beside_all : (ls : List LockList) (n : NodeId) (at : ℕ) → length ls ≤ at → ((u : ℕ) → u < at → 0 < counted_by ls u n → 10 ≤ room_by ls u)
    → HaveRoomBeside ls n
beside_all ls n at all before u some = by (nat_lt u at) refl
  where
    by : (b : Bool) → nat_lt u at ≡ b → 10 ≤ room_by ls u
    by true e = before u (grind (arith, nat_tests)) some
    by false e =
        let le : at ≤ u = grind (arith, nat_tests) in
        let none : counted_by ls u n ≡ 0 = ap (λ o. option_map_or (λ l. count_of l n) o 0) (beyond ls u (omega arith)) in
        absurd (omega arith)

-- Counts go over from one node to another: the lists agree as they did.

pub room_over : (ls ls' : List LockList) (from to : NodeId) (children : ℕ → ℕ) → HaveRoomBeside ls from → CountOver ls from to children ls'
    → (u : ℕ) → 9 ≤ room_by ls u → 9 ≤ room_by ls' u
room_over ls ls' from to children room over u nine = let left = over.rooms u in split (counted_by ls u from == 0)
    (λ e.
    let none : if◌then◌else◌ {A = ℕ} (counted_by ls u from == 0) 0 1 ≡ 0 = if-true _ e in
    omega arith)
    (λ e.
    let ne = other_number (counted_by ls u from) 0 e in
    let one : if◌then◌else◌ {A = ℕ} (counted_by ls u from == 0) 0 1 ≡ 1 = if-false _ e in
    let ten = room u (omega arith) in
    omega arith)

module _ (g : View) (l l' : Ledger) (same : state_in g l' ≡ state_in g l) (many : length l'.txn_entries.items ≡ length l.txn_entries.items)
    (from to : NodeId) (children : ℕ → ℕ) (room : HaveRoomBeside l.lists.items from) (over : CountOver l.lists.items from to children l'.lists.items) where
  pub agreed_over : AreSound l → IsOrderly (state_in g l) → ((u : ℕ) → Agrees (state_in g l) l.lists.items u) → AreAgreed g l'
  agreed_over sound orderly agree = record {
    sound = record { few = subst (λ (k : ℕ). k ≤ most_slots) (sym many) sound.few; lists = over.len ∙ sound.lists ∙ sym many };
    orderly = subst IsOrderly (sym same) orderly;
    agree = λ u. subst (λ x. Agrees x l'.lists.items u) (sym same) (record {
      modes = λ q. over.modes u q ∙ (agree u).modes q;
      listed = λ q. over.listed u q ∙ (agree u).listed q;
      room = λ w. room_over l.lists.items l'.lists.items from to children room over u ((agree u).room w);
    });
  }

-- All children of a node are counted for another one, and then its locks are removed.

module _ (g : View) (l : Ledger) (act : (u : ℕ) → CountsHeld (state_in g l) l.lists.items u) (from to : NodeId) where
  pub can_join : ((u : ℕ) → held_children (state_in g l) u to + held_children (state_in g l) u from < 2 ^ 32) → HaveRoomBeside l.lists.items from
      → (u : ℕ) (x : LockList) → slice_get l.lists.items u ≡ Some x → CanJoin from to x
  can_join few room u x is =
      let here : (n : NodeId) → counted_by l.lists.items u n ≡ count_of x n = λ n. ap (λ o. option_map_or (λ y. count_of y n) o 0) is in
      let spares : room_by l.lists.items u ≡ spare x.loose = ap (λ o. option_map_or (λ y. spare y.loose) o 0) is in
      let a = here to in
      let b = here from in
      let c = act u to in
      let d = act u from in
      record {
        few = let low = few u in omega arith;
        room = λ some. let ten = room u (omega arith) in omega arith;
      }

  pub joined_counts : IsLawfulGraph (graph_of g) → (t : ℕ) → IsLeftAloneTo (state_in g l) t from → same_node to from ≡ false
      → count_by (same_node from) (parents_of (graph_of g) from) ≡ 0 → (ls : List LockList)
      → CountOver l.lists.items from to (λ u. counted_by l.lists.items u from) ls → CanEvict ls t from (parents_of (graph_of g) from)
  joined_counts law t left differ apart ls over = record { childless = none; some = some }
    where
      ps : List NodeId
      ps = parents_of (graph_of g) from

      none : (u : ℕ) → counted_by ls u from ≡ 0
      none u =
          let all = over.counts u from in
          let yes : (if same_node from from then counted_by l.lists.items u from else 0) ≡ counted_by l.lists.items u from = if-true _ (same_node-refl from) in
          let no : (if same_node from to then counted_by l.lists.items u from else 0) ≡ 0 = if-false _ (same_node-sym from to ∙ differ) in
          omega arith

      some : (q : NodeId) → count_by (same_node q) ps ≤ counted_by ls t q
      some q = split (same_node q from)
          (λ e.
          let nothing : count_by (same_node q) ps ≡ 0 = ap (λ n. count_by (same_node n) ps) (same_node-equal q from e) ∙ apart in
          omega arith)
          (λ e.
          let all = over.counts t q in
          let off : (if same_node q from then counted_by l.lists.items t from else 0) ≡ 0 = if-false _ e in
          let exact = act t q in
          let counted = parents_counted from (λ c. holds (members (state_in g l) c) t) (graph_of g) law left.live left.holding q in
          omega arith)
