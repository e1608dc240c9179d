-- Looking up nodes: what a test means, and a node's place in the graph.
use Rattle.gl_graph.proofs.Words.{[], ap, arith, Bool, filter, Graph, if◌then◌else◌, is_child, is_live, is_some, List, list_all, list_any, no, Node, node_at}
use Rattle.gl_graph.proofs.Words.{NodeId, None, none_some, number_other, number_same, Option, or_elim, or_left, or_right, refl, same_node, same_node-equal}
use Rattle.gl_graph.proofs.Words.{same_node-from_equal, Shape, shape_of, slice_get, Some, some_is, suc, sym, true, with_key, zero, ℕ, ◌∙◌, ◌∷◌, ◌≡◌, ◌≢◌}

pub all_at : (q : NodeId → Bool) (ps : List NodeId) (p : NodeId) → list_any (same_node p) ps ≡ true → list_all q ps ≡ true → q p ≡ true
all_at q [] p h k = absurd (no h)
all_at q (x ∷ xs) p h k = grind (arith, all_at q xs p)

pub all_filter : (q : NodeId → Bool) (ps : List NodeId) → list_all q (filter q ps) ≡ true
all_filter q [] = refl
all_filter q (x ∷ xs) = grind (arith, all_filter q xs)

-- a look-up that finds a node
pub found : (key : ℕ) (o : Option Node) (node : Node) → with_key key o ≡ Some node → (o ≡ Some node) × (node.key ≡ key)
found key None node e = absurd (none_some e)
found key (Some x) node e = grind arith

pub finds : (key : ℕ) (o : Option Node) (node : Node) → o ≡ Some node → node.key ≡ key → with_key key o ≡ Some node
finds key o node e k = ap (with_key key) e ∙ ap (λ b. if b then Some node else None) (number_same node.key key k)

pub live_node : {A : Type 0} (o : Option A) → is_some o ≡ true → (x : A) × (o ≡ Some x)
live_node None h = absurd (no h)
live_node (Some x) h = (x, refl)

pub there_is : {A : Type 0} (o : Option A) (x : A) → o ≡ Some x → is_some o ≡ true
there_is o x e = ap is_some e

pub child_node : (g : Graph) (n p : NodeId) → is_child g p n ≡ true → (node : Node) × (node_at g n ≡ Some node) × (list_any (same_node p) node.parents ≡ true)
child_node g n p h = grind arith

pub child_live : (g : Graph) (n p : NodeId) → is_child g p n ≡ true → is_live g n ≡ true
child_live g n p h = ap is_some (child_node g n p h).1

pub shaped_node : (g : Graph) (n : NodeId) (shape : Shape) → shape_of g n ≡ Some shape → (node : Node) × (node_at g n ≡ Some node) × (node.shape ≡ shape)
shaped_node g n shape h = grind arith

pub found_at : (g : Graph) (q : NodeId) (node : Node) → node_at g q ≡ Some node → (g.at q.birth ≡ Some node) × (node.key ≡ q.key)
found_at g q node e = found q.key (g.at q.birth) node e

-- two living nodes with the same birth are the same
pub one_birth : (g : Graph) (m n : NodeId) → is_live g m ≡ true → is_live g n ≡ true → m.birth ≡ n.birth → m ≡ n
one_birth g m n h k e = grind arith

pub misses : (key : ℕ) (o : Option Node) (node : Node) → o ≡ Some node → node.key ≢ key → with_key key o ≡ None
misses key o node e ne = ap (with_key key) e ∙ ap (λ b. if b then Some node else None) (number_other node.key key ne)

-- a node is among those of a list exactly if it is at a place
pub listed_at : (ids : List NodeId) (place : ℕ) (n : NodeId) → slice_get ids place ≡ Some n → list_any (same_node n) ids ≡ true
listed_at [] place n e = absurd (none_some e)
listed_at (m ∷ ids) zero n e = or_left (same_node n m) _ (same_node-from_equal n m (sym (some_is e)))
listed_at (m ∷ ids) (suc place) n e = or_right (same_node n m) _ (listed_at ids place n e)

pub place_listed : (ids : List NodeId) (n : NodeId) → list_any (same_node n) ids ≡ true → (place : ℕ) × (slice_get ids place ≡ Some n)
place_listed [] n h = absurd (no h)
place_listed (m ∷ ids) n h =
    or_elim (same_node n m) (list_any (same_node n) ids) h (λ here. (0, ap Some (sym (same_node-equal n m here))))
    (λ there. let f = place_listed ids n there in (suc f.0, f.1))
