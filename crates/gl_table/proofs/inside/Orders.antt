-- In which order a list has its nodes, and what it says of the node at a place. For a rollback to a mark.
use Rattle.gl_table.proofs.Words.{◌&&◌, ◌+◌, ◌==◌, [], ◌||◌, ◌∙◌, ◌∷◌, ◌≡◌, and-false, and-true, ap, Bool, by_list, childless_in, count_in, count_of}
use Rattle.gl_table.proofs.Words.{counted_by, Entry, false, get_or, get_or_from_slice_get, if-false, if-true, is_listed, is_some, is_some-lookup, IsApart}
use Rattle.gl_table.proofs.Words.{IsDistinct, IsUnique, keys, keys_of, LeavesPlace, length, List, list_any, list_any_more, listed_by, LockList}
use Rattle.gl_table.proofs.Words.{lookup_from_place, loose_of, map, node_equivalence, NodeId, nodes_by, None, none_some, not, Option, option_map, or-false}
use Rattle.gl_table.proofs.Words.{or-true, refl, same_node, same_node-equal, same_node-refl, same_number, slice_get, slice_get-map, slice_get_within, Some}
use Rattle.gl_table.proofs.Words.{some_is, split, subst, suc, swap_remove_entry, sym, take, true, zero, ℕ}
use Rattle.indexmap.proofs.SetLemmas.{keys_swap_remove_entry}
use Rattle.gl_lock_lists.proofs.Lists.{none_before, one_fewer, stay_before}

-- no list has a node twice
pub unique_in : (l : LockList) → IsUnique same_node l.entries
unfolding IsApart
unique_in l = l.apart.0

-- how many nodes a list has
pub rows_are : (ls : List LockList) (t : ℕ) → by_list (λ l. length (keys l.entries)) 0 ls t ≡ length (nodes_by ls t)
rows_are [] t = refl
rows_are (l ∷ ls) zero = refl
rows_are (l ∷ ls) (suc t) = rows_are ls t

-- no list has a node twice, by slot
pub unique_at : (ls : List LockList) (t : ℕ) → IsDistinct same_node (nodes_by ls t)
unfolding IsDistinct
unique_at [] t = tt
unique_at (l ∷ ls) zero = unique_in l
unique_at (l ∷ ls) (suc t) = unique_at ls t

-- what a list has is in its order
pub listed_as : (ls : List LockList) (t : ℕ) (q : NodeId) → list_any (same_node q) (nodes_by ls t) ≡ listed_by ls t q
listed_as [] t q = refl
listed_as (l ∷ ls) zero q = sym (is_some-lookup (same_node q) l.entries.entries)
listed_as (l ∷ ls) (suc t) q = listed_as ls t q

-- the node at a place of it
pub node_there : (ls : List LockList) (t i : ℕ) → by_list (λ l. option_map (λ x. x.0) (slice_get l.entries.entries i)) None ls t ≡ slice_get (nodes_by ls t) i
node_there [] t i = refl
node_there (l ∷ ls) zero i = sym (slice_get-map (λ x. x.0) l.entries.entries i)
node_there (l ∷ ls) (suc t) i = node_there ls t i

-- what is before a place, and before the next
module _ (ks : List NodeId) (i m : ℕ) (n : NodeId) (next : m ≡ i + 1) (at : slice_get ks i ≡ Some n) where
  abbrev before : NodeId → Bool
  before q = list_any (same_node q) (take i ks)

  one_more : (q : NodeId) → list_any (same_node q) (take m ks) ≡ (before q || same_node q n)
  one_more q = ap (λ k. list_any (same_node q) (take k ks)) next ∙ list_any_more (same_node q) ks i n (slice_get_within ks i n at)
      ∙ ap (λ k. before q || same_node q k) (get_or_from_slice_get ks i n n at)

  pub among_these : list_any (same_node n) (take m ks) ≡ true
  among_these = one_more n ∙ ap (λ b. before n || b) (same_node-refl n) ∙ or-true (before n)

  pub all_but_this : IsDistinct same_node ks → (q : NodeId)
      → list_any (same_node q) (take i ks) ≡ (list_any (same_node q) (take m ks) && not (same_node q n))
  all_but_this once q = split (same_node q n)
      (λ e. ap (λ k. list_any (same_node k) (take i ks)) (same_node-equal q n e) ∙ none_before ks i n once at
      ∙ sym (ap (λ b. list_any (same_node q) (take m ks) && not b) e ∙ and-false (list_any (same_node q) (take m ks))))
      (λ e. sym (ap (λ b. list_any (same_node q) (take m ks) && not b) e ∙ and-true (list_any (same_node q) (take m ks)) ∙ one_more q
      ∙ ap (λ b. before q || b) e ∙ or-false (before q)))

-- as a contract sees them
pub order_seen : (ls : List LockList) (t : ℕ) → nodes_by ls t ≡ keys_of (get_or (map (λ l. l.entries.entries) ls) t [])
order_seen [] t = refl
order_seen (l ∷ ls) zero = refl
order_seen (l ∷ ls) (suc t) = order_seen ls t

-- a node was removed from a list that has it
pub leaves_place : (l l' : LockList) (n : NodeId) → keys l'.entries ≡ keys_of (swap_remove_entry (same_node n) l.entries.entries) → is_listed l n ≡ true
    → LeavesPlace n (keys l.entries) (keys l'.entries)
leaves_place l l' n is listed =
    let removed = is ∙ keys_swap_remove_entry (same_node n) l.entries.entries in
    record {
      before = stay_before (keys l.entries) (keys l'.entries) n removed (unique_in l);
      fewer = one_fewer (keys l.entries) (keys l'.entries) n removed (sym (is_some-lookup (same_node n) l.entries.entries) ∙ listed);
    }

-- What a list says of the node at a place.

-- the node is at this place of an order, it is listed, and no child of it is counted
abbrev pub IsChildless : List NodeId → ℕ → NodeId → ℕ → Bool → Type 0
IsChildless order i n count listed = (slice_get order i ≡ Some n) × (count ≡ 0) × (listed ≡ true)

module _ (l : LockList) (i : ℕ) where
  -- what is said at the place is said of the node
  said_at : (q : NodeId) (e : Entry) → slice_get l.entries.entries i ≡ Some (q, e) → (slice_get (keys l.entries) i ≡ Some q) × (count_of l q ≡ e.children)
      × (is_listed l q ≡ true)
  said_at q e at =
      let found = lookup_from_place node_equivalence l.entries.entries i q e (unique_in l) at in
      (slice_get-map (λ x. x.0) l.entries.entries i ∙ ap (option_map (λ x. x.0)) at, ap (λ o. count_in o (loose_of l q)) found, ap is_some found)

  -- no child of it is counted
  found_childless : (n : NodeId) → childless_in (slice_get l.entries.entries i) ≡ Some n → IsChildless (keys l.entries) i n (count_of l n) (is_listed l n)
  found_childless n h = by (slice_get l.entries.entries i) refl h
    where
      by : (o : Option (NodeId × Entry)) → slice_get l.entries.entries i ≡ o → childless_in o ≡ Some n
          → IsChildless (keys l.entries) i n (count_of l n) (is_listed l n)
      by None at k = absurd (none_some k)
      by (Some (q, e)) at k = split (e.children == 0)
          (λ z. let said = said_at q e at in
          subst (λ (x : NodeId). IsChildless (keys l.entries) i x (count_of l x) (is_listed l x)) (some_is (sym (if-true _ z) ∙ k))
          (said.0, said.1 ∙ same_number e.children 0 z, said.2))
          (λ z. absurd (none_some (sym (if-false _ z) ∙ k)))

  -- or some child is
  found_parent : (n : NodeId) → childless_in (slice_get l.entries.entries i) ≡ None → slice_get (keys l.entries) i ≡ Some n → (count_of l n == 0) ≡ false
  found_parent n h there = by (slice_get l.entries.entries i) refl h
    where
      by : (o : Option (NodeId × Entry)) → slice_get l.entries.entries i ≡ o → childless_in o ≡ None → (count_of l n == 0) ≡ false
      by None at k = absurd (none_some (sym (slice_get-map (λ x. x.0) l.entries.entries i ∙ ap (option_map (λ x. x.0)) at) ∙ there))
      by (Some (q, e)) at k = let said = said_at q e at in split (e.children == 0)
          (λ z. absurd (none_some (sym k ∙ if-true _ z)))
          (λ z. subst (λ (x : NodeId). (count_of l x == 0) ≡ false) (some_is (sym said.0 ∙ there)) (ap (λ c. c == 0) said.1 ∙ z))

-- the same by slot
pub childless_there : (ls : List LockList) (t i : ℕ) (n : NodeId) → by_list (λ l. childless_in (slice_get l.entries.entries i)) None ls t ≡ Some n
    → IsChildless (nodes_by ls t) i n (counted_by ls t n) (listed_by ls t n)
childless_there [] t i n h = absurd (none_some h)
childless_there (l ∷ ls) zero i n h = found_childless l i n h
childless_there (l ∷ ls) (suc t) i n h = childless_there ls t i n h

pub parent_there : (ls : List LockList) (t i : ℕ) (n : NodeId) → by_list (λ l. childless_in (slice_get l.entries.entries i)) None ls t ≡ None
    → slice_get (nodes_by ls t) i ≡ Some n → (counted_by ls t n == 0) ≡ false
parent_there [] t i n h at = absurd (none_some at)
parent_there (l ∷ ls) zero i n h at = found_parent l i n h at
parent_there (l ∷ ls) (suc t) i n h at = parent_there ls t i n h at
