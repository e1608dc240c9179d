-- An index has another shape, and the records of its file have the parents of their keys: each node, and the lists of nodes.
use Rattle.std.proofs.Common.{◌∙◌, ap, ap₂, arith, refl, sym}
use Rattle.std.proofs.Math.Path.{fun_ext}
use Rattle.std.specs.List.{filter, filter_map, range_with_len}
use Rattle.std.specs.Prelude.{◌≡◌, ◌≢◌, ℕ, Bool, true, false, ◌==◌, List, [], ◌∷◌, Option, Some, None, if◌then◌else◌, is_some, slice_index_or}
use Rattle.gl_modes.proofs.NodeLemmas.{same_node-equal, same_node-other}
use Rattle.gl_modes.proofs.Words.{split}
use Rattle.gl_modes.specs.Nodes.{same_node}
use Rattle.gl_modes.specs.declared.node.NodeId.{NodeId}
use Rattle.gl_graph.proofs.Changed.{at_here, at_other, live_same, nodes_same}
use Rattle.gl_graph.proofs.Look.{found_at}
use Rattle.gl_graph.specs.Changes.{with_node}
use Rattle.gl_graph.specs.Graph.{first_in, Graph, id_of, indexes_of, interval_of, interval_place}
use Rattle.gl_graph.specs.Graph.{intervals_of, is_live, no_node, Node, node_at, nodes, record_parents}
use Rattle.gl_graph.specs.Graph.{shape_in, shape_of, with_key}
use Rattle.gl_graph.specs.Shapes.{bounds_in, Index, intervals_in, is_index_of_shape, Rec, Shape}
use Rattle.gl_graph.specs.Splits.{reshaped, reshaped_node, settled, settled_node, settled_parents}

-- two graphs with the same shapes have the same intervals of keys
pub interval_same : (g g' : Graph) (x : NodeId) (key : ℕ) → shape_of g' x ≡ shape_of g x → interval_of g' x key ≡ interval_of g x key
interval_same g g' x key e = ap (λ o. slice_index_or (intervals_in o) (interval_place (bounds_in o) key) no_node) e

intervals_same : (g g' : Graph) → ((q : NodeId) → shape_of g' q ≡ shape_of g q) → (is : List NodeId) (keys : List ℕ)
    → intervals_of g' is keys ≡ intervals_of g is keys
intervals_same g g' same [] keys = refl
intervals_same g g' same (i ∷ is) [] = refl
intervals_same g g' same (i ∷ is) (k ∷ ks) = ap₂ (λ x xs. x ∷ xs) (interval_same g g' i k (same i)) (intervals_same g g' same is ks)

-- the same nodes of which the same are indexes of the file
pub indexes_by : (g g' : Graph) (h : NodeId) → nodes g' ≡ nodes g → ((q : NodeId) → is_index_of_shape h (shape_of g' q) ≡ is_index_of_shape h (shape_of g q))
    → indexes_of g' h ≡ indexes_of g h
indexes_by g g' h same each = ap₂ (λ (p : NodeId → Bool) xs. filter p xs) (fun_ext each) same

parents_same : (g g' : Graph) (h : NodeId) (keys : List ℕ) → ((q : NodeId) → shape_of g' q ≡ shape_of g q) → nodes g' ≡ nodes g
    → record_parents g' h keys ≡ record_parents g h keys
parents_same g g' h keys same all =
    ap (λ xs. h ∷ xs) (ap (λ is. intervals_of g' is keys) (indexes_by g g' h all (λ q. ap (is_index_of_shape h) (same q)))
    ∙ intervals_same g g' same (indexes_of g h) keys)

module _ (g : Graph) (f : NodeId) where
  settled_at : (q : NodeId) → node_at (settled g f) q ≡ settled_node g f (node_at g q)
  settled_at q = by (g.at q.birth)
    where
      pick : (b : Bool) (x : Node) → (if b then settled_node g f (Some x) else None) ≡ settled_node g f (if b then Some x else None)
      pick true x = refl
      pick false x = refl

      by : (o : Option Node) → with_key q.key (settled_node g f o) ≡ settled_node g f (with_key q.key o)
      by None = refl
      by (Some x) = pick (x.key == q.key) x

  settled_shape : (q : NodeId) → shape_of (settled g f) q ≡ shape_of g q
  settled_shape q = ap shape_in (settled_at q) ∙ by (node_at g q)
    where
      by : (o : Option Node) → shape_in (settled_node g f o) ≡ shape_in o
      by None = refl
      by (Some x) = refl

  settled_live : (q : NodeId) → is_live (settled g f) q ≡ is_live g q
  settled_live q = ap is_some (settled_at q) ∙ by (node_at g q)
    where
      by : (o : Option Node) → is_some (settled_node g f o) ≡ is_some o
      by None = refl
      by (Some x) = refl

  pub settled_nodes : nodes (settled g f) ≡ nodes g
  settled_nodes = ap (λ (h : ℕ → Option NodeId). filter_map h (range_with_len 1 g.births)) (fun_ext (λ b. by b (g.at b)))
    where
      by : (b : ℕ) (o : Option Node) → id_of b (settled_node g f o) ≡ id_of b o
      by b None = refl
      by b (Some x) = refl

  -- the records' parents are read from the graph that is left
  pub settled_parents_same : (sh : Shape) (ps : List NodeId) → settled_parents (settled g f) f sh ps ≡ settled_parents g f sh ps
  settled_parents_same (Rec keys) ps = ap (λ xs. if same_node (first_in ps) f then xs else ps) (parents_same g (settled g f) f keys settled_shape settled_nodes)
  settled_parents_same _ ps = refl

  settled_again : (o : Option Node) → settled_node (settled g f) f o ≡ settled_node g f o
  settled_again None = refl
  settled_again (Some x) = ap (λ ps. Some (record x { parents = ps })) (settled_parents_same x.shape x.parents)

pub reshaped_is : (g : Graph) (x : NodeId) (change : Shape → Shape) (was : Node) → node_at g x ≡ Some was
    → with_node g x.birth (record was { shape = change was.shape }) ≡ reshaped g x change
reshaped_is g x change was e = grind arith

-- an index gets other bounds and intervals
module _ (g : Graph) (x f : NodeId) (was : Node) (there : node_at g x ≡ Some was) (change : Shape → Shape) (bs bs' : List ℕ) (is is' : List NodeId)
    (shape : was.shape ≡ Index f bs is) (changed : change (Index f bs is) ≡ Index f bs' is') where
  abbrev cut : Graph
  cut = reshaped g x change

  abbrev pub recut : Graph
  recut = settled cut f

  abbrev now : Node
  now = record was { shape = change was.shape }

  cut_is : with_node g x.birth now ≡ cut
  cut_is = reshaped_is g x change was there

  pub cut_here : node_at cut x ≡ Some now
  cut_here = ap (λ (g' : Graph). node_at g' x) (sym cut_is) ∙ at_here g x was now there refl

  pub cut_other : (q : NodeId) → q ≢ x → node_at cut q ≡ node_at g q
  cut_other q ne = ap (λ (g' : Graph). node_at g' q) (sym cut_is) ∙ at_other g x was now there refl q ne

  new_shape : change was.shape ≡ Index f bs' is'
  new_shape = ap change shape ∙ changed

  pub recut_here : node_at recut x ≡ Some (record { key = x.key; shape = Index f bs' is'; parents = was.parents })
  recut_here =
      settled_at cut f x ∙ ap (settled_node cut f) cut_here
      ∙ (λ j. Some (record { key = (found_at g x was there).1 j; shape = new_shape j; parents = settled_parents cut f (new_shape j) was.parents }))

  pub recut_other : (q : NodeId) → q ≢ x → node_at recut q ≡ settled_node recut f (node_at g q)
  recut_other q ne = settled_at cut f q ∙ ap (settled_node cut f) (cut_other q ne) ∙ sym (settled_again cut f (node_at g q))

  pub recut_nodes : nodes recut ≡ nodes g
  recut_nodes = settled_nodes cut f ∙ ap nodes (sym cut_is) ∙ nodes_same g x was now there refl

  pub recut_live : (q : NodeId) → is_live recut q ≡ is_live g q
  recut_live q = settled_live cut f q ∙ ap (λ (g' : Graph). is_live g' q) (sym cut_is) ∙ live_same g x was now there refl q

  pub recut_shape : (q : NodeId) → q ≢ x → shape_of recut q ≡ shape_of g q
  recut_shape q ne = settled_shape cut f q ∙ ap shape_in (cut_other q ne)

  pub recut_indexes : (h : NodeId) → indexes_of recut h ≡ indexes_of g h
  recut_indexes h = indexes_by g recut h recut_nodes (λ q.
      split (same_node q x)
      (λ e.
      let is_x = same_node-equal q x e in
      ap (λ y. is_index_of_shape h (shape_of recut y)) is_x
      ∙ ap (λ o. is_index_of_shape h (shape_in o)) recut_here
      ∙ sym (ap (λ y. is_index_of_shape h (shape_of g y)) is_x ∙ ap (λ o. is_index_of_shape h (shape_in o)) there
      ∙ ap (λ s. is_index_of_shape h (Some s)) shape))
      (λ e. ap (is_index_of_shape h) (recut_shape q (same_node-other q x e))))

  -- and the same births
  pub recut_some : (b : ℕ) → is_some (recut.at b) ≡ is_some (g.at b)
  recut_some b = by (b == x.birth) (g.at b)
    where
      settles : (o : Option Node) → is_some (settled_node cut f o) ≡ is_some o
      settles None = refl
      settles (Some y) = refl

      by : (t : Bool) (o : Option Node) → is_some (settled_node cut f (if t then reshaped_node change o else o)) ≡ is_some o
      by true None = refl
      by true (Some y) = refl
      by false o = settles o
