-- The list of one transaction: the nodes that it holds or waits for, each with its mode and the count of its held children.
use Rattle.std.specs.Prelude.{◌≡◌, ℕ, ◌+◌, ◌≤◌, ◌<◌, Bool, not, List, Option, Some, None, is_some, false, true, ◌&&◌, ◌||◌, ◌==◌, slice_get, if◌then◌else◌}
use Rattle.std.specs.List.{count_by, list_all}
use Rattle.std.specs.Map.{keys_of, lookup}
use Rattle.indexmap.specs.IndexMap.{spare, keys, swap_remove_entry}
use Rattle.gl_modes.specs.declared.mode.Mode.{Mode}
use Rattle.gl_modes.specs.declared.mode.Mode.TheVariants.{NL, X}
use Rattle.gl_modes.specs.declared.node.NodeId.{NodeId}
use Rattle.gl_modes.specs.Nodes.{same_node}
use Rattle.gl_modes.specs.Modes.{same_mode}
use Rattle.gl_graph.specs.Graph.{Graph, is_child, nodes, parents_of}
use Rattle.gl_lock_lists.specs.declared.list.Entry.{Entry}
use Rattle.gl_lock_lists.specs.declared.list.LockList.{LockList}

-- the node's entry, if it is listed
abbrev pub entry_of : LockList → NodeId → Option Entry
entry_of l n = lookup (same_node n) l.entries.entries

-- the separate count of a node that is not listed
abbrev pub loose_of : LockList → NodeId → Option ℕ
loose_of l n = lookup (same_node n) l.loose.entries

-- the node is listed
abbrev pub is_listed : LockList → NodeId → Bool
is_listed l n = is_some (entry_of l n)

-- the mode of an entry; NL if there is none
abbrev pub mode_in : Option Entry → Mode
mode_in None = NL
mode_in (Some e) = e.mode

-- the mode in which the node is held
abbrev pub mode_of : LockList → NodeId → Mode
mode_of l n = mode_in (entry_of l n)

-- the count of an entry, or the separate one, or 0
abbrev pub count_in : Option Entry → Option ℕ → ℕ
count_in (Some e) o = e.children
count_in None (Some k) = k
count_in None None = 0

-- how many children of the node are held
abbrev pub count_of : LockList → NodeId → ℕ
count_of l n = count_in (entry_of l n) (loose_of l n)

-- how many of these are not listed
abbrev pub unlisted : LockList → List NodeId → ℕ
unlisted l ps = count_by (λ p. not (is_listed l p)) ps

-- how many children of the node are held
abbrev pub held_below : Graph → LockList → NodeId → ℕ
held_below g l n = count_by (λ c. is_child g n c && not (same_mode (mode_of l c) NL)) (nodes g)

-- one node has so many held children less, and another as many more
abbrev pub CountsOver : LockList → NodeId → NodeId → ℕ → LockList → Type 0
CountsOver l from to children l' =
    (q : NodeId) → count_of l' q + (if same_node q from then children else 0) ≡ count_of l q + (if same_node q to then children else 0)

-- room for one more node, and for the counts of nine nodes that are not listed
abbrev pub HasRoom : LockList → Type 0
HasRoom l = (0 < spare l.entries) × (9 ≤ spare l.loose)

-- Covered children, and the marks that are set on them while they are released: a marked node is listed with mode NL.

-- a held child of n without held children, and not in X, or with X on every parent
abbrev pub covered_in : Graph → LockList → NodeId → NodeId → Bool
covered_in g l n c =
    is_child g n c && not (same_mode (mode_of l c) NL) && (count_of l c == 0)
    && (not (same_mode (mode_of l c) X) || list_all (λ p. same_mode (mode_of l p) X) (parents_of g c))

-- no node listed at this place or after it is marked
abbrev pub NoneMarkedFrom : LockList → ℕ → Type 0
NoneMarkedFrom l at = (i : ℕ) (n : NodeId) → at ≤ i → slice_get (keys l.entries) i ≡ Some n → same_mode (mode_of l n) NL ≡ false

-- no child of a marked node is held, and each is counted with its parents
pub record AreMarkedLast (g : Graph) (l : LockList) : Type 0 where
  pub childless : (c : NodeId) → is_listed l c ≡ true → mode_of l c ≡ NL → count_of l c ≡ 0
  pub counted : (c q : NodeId) → is_listed l c ≡ true → mode_of l c ≡ NL → count_by (same_node q) (parents_of g c) ≤ count_of l q

-- the marked node n is removed, and each of its parents has one held child less
pub record IsTakenOut (g : Graph) (l : LockList) (n : NodeId) (l' : LockList) : Type 0 where
  pub was : is_listed l n ≡ true
  pub was_marked : mode_of l n ≡ NL
  pub listed : (q : NodeId) → is_listed l' q ≡ (is_listed l q && not (same_node q n))
  pub modes : (q : NodeId) → mode_of l' q ≡ mode_of l q
  pub counts : (q : NodeId) → count_of l' q + count_by (same_node q) (parents_of g n) ≡ count_of l q
  pub keys : keys l'.entries ≡ keys_of (swap_remove_entry (same_node n) l.entries.entries)
