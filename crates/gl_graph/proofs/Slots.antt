-- The graph of a slab of nodes, and how one changed slot changes it.
use Rattle.gl_graph.proofs.Words.{[], ap, AreBornApart, AreBornWithin, arith, born_at, born_node, cases_of, fun_ext, get, Graph, graph_of, if◌then◌else◌}
use Rattle.gl_graph.proofs.Words.{is_live, Limits, List, map, named, Node, node_at, node_of, NodeId, None, none_some, Option, other_number, refl, same_number}
use Rattle.gl_graph.proofs.Words.{see, seen, Slab, slice_index_or, Some, some_is, split, Stored, suc, sym, true, Updates, vertex_of, with_key, with_node}
use Rattle.gl_graph.proofs.Words.{without_node, zero, ℕ, ◌+◌, ◌==◌, ◌∙◌, ◌∷◌, ◌≡◌, ◌≢◌}
use Rattle.gl_graph.proofs.Look.{finds, misses, found_at, live_node}

-- slots of a list, as those of a slab
abbrev at_place : List (Option Stored) → ℕ → Option Stored
at_place xs k = slice_index_or xs k None

born_found : (from : ℕ) (xs : List (Option Stored))
    → ((j k : ℕ) (x y : Stored) → at_place xs j ≡ Some x → at_place xs k ≡ Some y → x.birth ≡ y.birth → j ≡ k) → (k c : ℕ) (x : Stored)
    → from + k ≡ c → at_place xs k ≡ Some x → born_at from (map see xs) x.birth ≡ Some (node_of c (vertex_of x))
born_found from [] apart k c x f e = absurd (none_some e)
born_found from (None ∷ xs) apart zero c x f e = absurd (none_some e)
born_found from (None ∷ xs) apart (suc k) c x f e =
    born_found (from + 1) xs (λ i j a b p q r. let t = apart (suc i) (suc j) a b p q r in omega arith) k c x (omega arith) e
born_found from (Some y ∷ xs) apart zero c x f e = grind arith
born_found from (Some y ∷ xs) apart (suc k) c x f e =
    split (y.birth == x.birth) (λ t. let same = apart zero (suc k) y x refl e (same_number y.birth x.birth t) in absurd (omega arith))
    (λ t. ap (λ b. if b then Some (node_of from (vertex_of y)) else born_at (from + 1) (map see xs) x.birth) t
    ∙ born_found (from + 1) xs (λ i j a b p q r. let t = apart (suc i) (suc j) a b p q r in omega arith) k c x (omega arith) e)

-- the place where a node was found
record IsFound (from : ℕ) (xs : List (Option Stored)) (birth : ℕ) (node : Node) : Type 0 where
  pub place : ℕ
  pub stored : Stored
  pub there : at_place xs place ≡ Some stored
  pub born : stored.birth ≡ birth
  pub is : node ≡ node_of (from + place) (vertex_of stored)

one_later : (from : ℕ) (o : Option Stored) (xs : List (Option Stored)) (birth : ℕ) (node : Node) → IsFound (from + 1) xs birth node
    → IsFound from (o ∷ xs) birth node
one_later from o xs birth node f =
    let key : from + 1 + f.place ≡ from + suc f.place = omega arith in
    record { place = suc f.place; stored = f.stored; there = f.there; born = f.born; is = f.is ∙ (λ i. node_of (key i) (vertex_of f.stored)) }

born_from : (from : ℕ) (xs : List (Option Stored)) (birth : ℕ) (node : Node) → born_at from (map see xs) birth ≡ Some node → IsFound from xs birth node
born_from from [] birth node e = absurd (none_some e)
born_from from (None ∷ xs) birth node e = one_later from None xs birth node (born_from (from + 1) xs birth node e)
born_from from (Some y ∷ xs) birth node e =
    split (y.birth == birth) (λ t.
    let key : from ≡ from + 0 = omega arith in
    record {
      place = 0;
      stored = y;
      there = refl;
      born = same_number y.birth birth t;
      is = grind arith;
    }) (λ t. one_later from (Some y) xs birth node
    (born_from (from + 1) xs birth node (sym (ap (λ b. if b then Some (node_of from (vertex_of y)) else born_at (from + 1) (map see xs) birth) t) ∙ e)))

-- the node of each birth
abbrev pub at_birth : Slab Stored → ℕ → Option Node
at_birth s birth = born_at 0 (map see s.slots) birth

pub at_slot : (s : Slab Stored) → AreBornApart s → (k : ℕ) (x : Stored) → get s k ≡ Some x → at_birth s x.birth ≡ Some (node_of k (vertex_of x))
at_slot s apart k x e = born_found 0 s.slots apart k k x (omega arith) e

pub record IsSlot (s : Slab Stored) (birth : ℕ) (node : Node) : Type 0 where
  pub key : ℕ
  pub stored : Stored
  pub there : get s key ≡ Some stored
  pub born : stored.birth ≡ birth
  pub is : node ≡ node_of key (vertex_of stored)

pub slot_at : (s : Slab Stored) (birth : ℕ) (node : Node) → at_birth s birth ≡ Some node → IsSlot s birth node
slot_at s birth node e =
    let f = born_from 0 s.slots birth node e in
    let key : 0 + f.place ≡ f.place = omega arith in
    record { key = f.place; stored = f.stored; there = f.there; born = f.born; is = f.is ∙ (λ i. node_of (key i) (vertex_of f.stored)) }

abbrev pub seen_in : ℕ → Option Stored → Option Node
seen_in key None = None
seen_in key (Some x) = Some (node_of key (vertex_of x))

module _ (limits : Limits) (s : Slab Stored) (births : ℕ) (apart : AreBornApart s) where
  abbrev graph : Graph
  graph = graph_of (seen limits s births)

  not_named : (n : NodeId) → ((x : Stored) → get s n.key ≡ Some x → x.birth ≢ n.birth) → node_at graph n ≡ None
  not_named n other =
      cases_of (at_birth s n.birth) (λ e. ap (with_key n.key) e) (λ node e.
      let f = slot_at s n.birth node e in
      misses n.key (at_birth s n.birth) node e (λ k. other f.stored (ap (get s) (sym k ∙ ap (λ x. x.key) f.is) ∙ f.there) f.born))

  -- a look-up by the key finds the node that the id names
  pub node_named : (n : NodeId) → node_at graph n ≡ seen_in n.key (named s n)
  node_named n = grind (arith, not_named, none_some, finds, same_number, at_slot, other_number, some_is)

  pub node_there : (k : ℕ) (x : Stored) → get s k ≡ Some x → node_at graph (record { key = k; birth = x.birth }) ≡ Some (node_of k (vertex_of x))
  node_there k x e = finds k (at_birth s x.birth) (node_of k (vertex_of x)) (at_slot s apart k x e) refl

  -- a living node is stored under its key
  pub stored_of : (n : NodeId) → is_live graph n ≡ true → (x : Stored) × (get s n.key ≡ Some x) × (x.birth ≡ n.birth)
  stored_of n h =
      let node = live_node (node_at graph n) h in
      let found = found_at graph n node.0 node.1 in
      let f = slot_at s n.birth node.0 found.0 in
      (f.stored, ap (get s) (sym found.1 ∙ ap (λ x. x.key) f.is) ∙ f.there, f.born)

-- the slab shows these nodes, if each slot is one of them, and each of them has a slot
pub shown : (s : Slab Stored) (at : ℕ → Option Node) → ((k : ℕ) (x : Stored) → get s k ≡ Some x → at x.birth ≡ Some (node_of k (vertex_of x)))
    → ((b : ℕ) (node : Node) → at b ≡ Some node → IsSlot s b node) → AreBornApart s × (at_birth s ≡ at)
shown s at there slots = (
  apart,
  fun_ext (λ b. cases_of (at b)
      (λ none. cases_of (at_birth s b) (λ e. e ∙ sym none)
      (λ node e. let f = slot_at s b node e in absurd (none_some (sym none ∙ ap at (sym f.born) ∙ there f.key f.stored f.there))))
      (λ node e. let f = slots b node e in
      ap (at_birth s) (sym f.born) ∙ at_slot s apart f.key f.stored f.there ∙ ap Some (sym f.is) ∙ sym e)),
)
  where
    apart : AreBornApart s
    apart j k x y e f same = ap (λ (n : Node). n.key) (some_is (sym (there j x e) ∙ ap at same ∙ there k y f))

-- one slot changes, which had and has a node of this birth, if any
module _ (old new : Slab Stored) (key : ℕ) (slot : Option Stored) (apart : AreBornApart old) (u : Updates old new key slot) (birth : ℕ)
    (now : (x : Stored) → slot ≡ Some x → x.birth ≡ birth) (was : (x : Stored) → get old key ≡ Some x → x.birth ≡ birth)
    (alone : (k : ℕ) (x : Stored) → k ≢ key → get old k ≡ Some x → x.birth ≢ birth) where
  pub slot_changed : AreBornApart new × (at_birth new ≡ (λ (b : ℕ). if b == birth then seen_in key slot else at_birth old b))
  slot_changed =
      shown new (λ b. if b == birth then seen_in key slot else at_birth old b) (λ k x e. grind (arith, at_slot))
      (λ b node e. split (b == birth) (λ t. here b t node slot refl (sym (ap (λ z. if z then seen_in key slot else at_birth old b) t) ∙ e)) (λ t.
      let f = slot_at old b node (sym (ap (λ z. if z then seen_in key slot else at_birth old b) t) ∙ e) in
      let ne : f.key ≢ key = λ k. other_number b birth t (sym f.born ∙ was f.stored (ap (get old) (sym k) ∙ f.there)) in
      record { key = f.key; stored = f.stored; there = u.others f.key ne ∙ f.there; born = f.born; is = f.is }))
    where
      here : (b : ℕ) → (b == birth) ≡ true → (node : Node) → (o : Option Stored) → slot ≡ o → seen_in key o ≡ Some node → IsSlot new b node
      here b t node None e h = absurd (none_some h)
      here b t node (Some x) e h = grind arith

-- a node is added under a free key
module _ (limits : Limits) (old new : Slab Stored) (births key : ℕ) (x : Stored) (apart : AreBornApart old) (within : AreBornWithin old births)
    (free : get old key ≡ None) (u : Updates old new key (Some x)) (next : x.birth ≡ births + 1) where
  added : AreBornApart new × (at_birth new ≡ (λ (b : ℕ). if b == births + 1 then Some (node_of key (vertex_of x)) else at_birth old b))
  added =
      slot_changed old new key (Some x) apart u (births + 1) (λ y e. ap (λ w. w.birth) (sym (some_is e)) ∙ next) (λ y e. absurd (none_some (sym free ∙ e)))
      (λ k y ne e same. let low = within k y e in absurd (omega arith))

  pub inserted_apart : AreBornApart new
  inserted_apart = added.0

  pub inserted_within : AreBornWithin new (births + 1)
  inserted_within k y e = grind arith

  pub inserted : graph_of (seen limits new (births + 1)) ≡ born_node (graph_of (seen limits old births)) (node_of key (vertex_of x))
  inserted = let same = added.1 in λ i. record { at = same i; births = births + 1; most = limits.most; most_bounds = limits.most_bounds }

-- a node is written, and keeps its birth
module _ (limits : Limits) (old new : Slab Stored) (births key : ℕ) (was x : Stored) (apart : AreBornApart old) (there : get old key ≡ Some was)
    (u : Updates old new key (Some x)) (birth : x.birth ≡ was.birth) where
  rewritten : AreBornApart new × (at_birth new ≡ (λ (b : ℕ). if b == was.birth then Some (node_of key (vertex_of x)) else at_birth old b))
  rewritten =
      slot_changed old new key (Some x) apart u was.birth (λ y e. ap (λ w. w.birth) (sym (some_is e)) ∙ birth)
      (λ y e. ap (λ w. w.birth) (some_is (sym e ∙ there))) (λ k y ne e same. ne (apart k key y was e there same))

  pub written_apart : AreBornApart new
  written_apart = rewritten.0

  pub written : graph_of (seen limits new births) ≡ with_node (graph_of (seen limits old births)) was.birth (node_of key (vertex_of x))
  written = let same = rewritten.1 in λ i. record { at = same i; births = births; most = limits.most; most_bounds = limits.most_bounds }

  -- what is written is not seen in the graph
  pub unseen : node_of key (vertex_of x) ≡ node_of key (vertex_of was) → graph_of (seen limits new births) ≡ graph_of (seen limits old births)
  unseen alike = grind (arith, at_slot, written)

-- a node is removed
module _ (limits : Limits) (old new : Slab Stored) (births : ℕ) (n : NodeId) (was : Stored) (apart : AreBornApart old)
    (there : get old n.key ≡ Some was) (birth : was.birth ≡ n.birth) (u : Updates old new n.key None) where
  emptied : AreBornApart new × (at_birth new ≡ (λ (b : ℕ). if b == n.birth then None else at_birth old b))
  emptied =
      slot_changed old new n.key None apart u n.birth (λ x e. absurd (none_some e)) (λ x e. ap (λ w. w.birth) (some_is (sym e ∙ there)) ∙ birth)
      (λ k x ne e same. ne (apart k n.key x was e there (same ∙ sym birth)))

  pub removed_apart : AreBornApart new
  removed_apart = emptied.0

  pub removed : graph_of (seen limits new births) ≡ without_node (graph_of (seen limits old births)) n
  removed = let same = emptied.1 in λ i. record { at = same i; births = births; most = limits.most; most_bounds = limits.most_bounds }
