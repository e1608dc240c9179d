-- The indexes of a file stay, with their intervals: changes of the graph keep them, and a new index is added after those of the file.
use Rattle.std.specs.Prelude.{◌≡◌, ℕ, ◌+◌, ◌||◌, true, List, [], ◌∷◌, ◌++◌, length, Some, slice_index_or}
use Rattle.std.specs.List.{list_all, list_any}
use Rattle.std.proofs.Common.{refl, sym, ap, ap₂, ◌∙◌, arith, subst}
use Rattle.std.proofs.lemmas.List.{append-nil, append_assoc, length-append, nil_from_length}
use Rattle.std.proofs.lemmas.List.Folds.{list_any-append}
use Rattle.gl_modes.proofs.Words.{and_both}
use Rattle.gl_modes.specs.Nodes.{same_node}
use Rattle.gl_modes.specs.declared.node.NodeId.{NodeId}
use Rattle.gl_graph.specs.Changes.{born_nodes, interval_nodes, marked, new_index, with_node, without_node}
use Rattle.gl_graph.specs.Graph.{Graph, Node, indexes_of, interval_of, interval_place, intervals_of, no_node, node_at, nodes, record_parents}
use Rattle.gl_graph.specs.Graph.{shape_in, shape_of}
use Rattle.gl_graph.specs.Lawful.{IsLawfulGraph}
use Rattle.gl_graph.specs.Over.{IsIndexOver, keyed}
use Rattle.gl_graph.specs.Shapes.{is_index_of_shape, is_record_shape}
use Rattle.gl_graph.proofs.Born.{indexes_grown, new_indexes, old_same}
use Rattle.gl_graph.proofs.Changed.{IsAlike, changed_frames, indexes_same}
use Rattle.gl_graph.proofs.Distinct.{index_listed}
use Rattle.gl_graph.proofs.KindRules.{AreAlike, index_plain, is_plain, one_shape, plain_live}
use Rattle.gl_graph.proofs.Look.{all_at, all_filter}
use Rattle.gl_graph.proofs.Marked.{marked_indexes, marked_interval_of}
use Rattle.gl_graph.proofs.OverGraph.{indexes_after, interval_after}
use Rattle.gl_graph.proofs.RecordParents.{index_of_index}
use Rattle.gl_graph.proofs.Removed.{indexes_left, removed_frames}
use Rattle.gl_rows.specs.Promises.{IsRow}

-- the file keeps its indexes, first among those that it has, and each key keeps its interval
pub record KeepsIndexes (g g' : Graph) (f : NodeId) : Type 0 where
  pub indexes : (more : List NodeId) × (indexes_of g' f ≡ indexes_of g f ++ more)
  pub intervals : (i : NodeId) (key : ℕ) → is_index_of_shape f (shape_of g i) ≡ true → interval_of g' i key ≡ interval_of g i key

pub keeps_itself : (g : Graph) (f : NodeId) → KeepsIndexes g g f
keeps_itself g f = record { indexes = ([], sym (append-nil (indexes_of g f))); intervals = λ i key h. refl }

-- the file keeps its indexes, first among those that it has
abbrev pub KeepsList : Graph → Graph → NodeId → Type 0
KeepsList g g' f = (more : List NodeId) × (indexes_of g' f ≡ indexes_of g f ++ more)

pub list_itself : (g g' : Graph) (f : NodeId) → indexes_of g' f ≡ indexes_of g f → KeepsList g g' f
list_itself g g' f same = ([], same ∙ sym (append-nil (indexes_of g f)))

pub list_trans : (g m g' : Graph) (f : NodeId) → KeepsList g m f → KeepsList m g' f → KeepsList g g' f
list_trans g m g' f a b = (a.0 ++ b.0, b.1 ∙ ap (λ xs. xs ++ b.0) a.1 ∙ append_assoc (indexes_of g f) a.0 b.0)

-- each of these is still an index
pub index_listed_still : (g m : Graph) (f : NodeId) → IsLawfulGraph g → KeepsList g m f → (i : NodeId) → is_index_of_shape f (shape_of g i) ≡ true
    → is_index_of_shape f (shape_of m i) ≡ true
index_listed_still g m f law kept i h =
    let live = plain_live g i (index_plain (shape_of g i) (index_of_index f (shape_of g i) h)) in
    all_at (λ q. is_index_of_shape f (shape_of m q)) (indexes_of m f) i
    (ap (list_any (same_node i)) kept.1 ∙ list_any-append (same_node i) (indexes_of g f) kept.0
    ∙ ap (λ b. b || list_any (same_node i) kept.0) (index_listed g law f i live h))
    (all_filter (λ q. is_index_of_shape f (shape_of m q)) (nodes m))

pub index_still : (g m : Graph) (f : NodeId) → IsLawfulGraph g → KeepsIndexes g m f → (i : NodeId) → is_index_of_shape f (shape_of g i) ≡ true
    → is_index_of_shape f (shape_of m i) ≡ true
index_still g m f law kept i h = index_listed_still g m f law kept.indexes i h

pub keeps_trans : (g m g' : Graph) (f : NodeId) → IsLawfulGraph g → KeepsIndexes g m f → KeepsIndexes m g' f → KeepsIndexes g g' f
keeps_trans g m g' f law a b = record {
  indexes = list_trans g m g' f a.indexes b.indexes;
  intervals = λ i key h. b.intervals i key (index_still g m f law a i h) ∙ a.intervals i key h;
}

-- a node that is no record keeps its shape
abbrev pub LooksSame : Graph → Graph → Type 0
LooksSame g g' = (q : NodeId) → is_plain (shape_of g q) ≡ true → AreAlike (shape_of g' q) (shape_of g q)

module _ (g g' : Graph) (same : LooksSame g g') (f : NodeId) where
  interval_stays : (i : NodeId) (key : ℕ) → is_index_of_shape f (shape_of g i) ≡ true → interval_of g' i key ≡ interval_of g i key
  interval_stays i key h =
      let alike = same i (index_plain _ (index_of_index f _ h)) in
      ap₂ (λ bs is. slice_index_or is (interval_place bs key) no_node) alike.bounds alike.intervals

  looks_keeps : (more : List NodeId) → indexes_of g' f ≡ indexes_of g f ++ more → KeepsIndexes g g' f
  looks_keeps more indexes = record { indexes = (more, indexes); intervals = interval_stays }

  -- no index is new
  stays_keeps : indexes_of g' f ≡ indexes_of g f → KeepsIndexes g g' f
  stays_keeps indexes = looks_keeps [] (indexes ∙ sym (append-nil (indexes_of g f)))

-- nodes are born
pub born_keeps : (g : Graph) → IsLawfulGraph g → (ns : List Node) (f : NodeId) → KeepsIndexes g (born_nodes g ns) f
born_keeps g law ns f =
    looks_keeps g (born_nodes g ns) (λ q h. one_shape _ _ (ap shape_in (old_same g law ns q (plain_live g q h)))) f (new_indexes g law ns f)
    (indexes_grown g law ns f)

-- a file is marked as one of which rows were adopted
pub marked_keeps : (g : Graph) (x f : NodeId) → KeepsIndexes g (marked g x) f
marked_keeps g x f = record {
  indexes = ([], marked_indexes g x f ∙ sym (append-nil (indexes_of g f)));
  intervals = λ i key h. marked_interval_of g x i key;
}

-- a record is removed
pub removed_keeps : (g : Graph) → IsLawfulGraph g → (r : NodeId) → is_record_shape (shape_of g r) ≡ true → (f : NodeId) → KeepsIndexes g (without_node g r) f
removed_keeps g law r rec f =
    stays_keeps g (without_node g r) (removed_frames g law r rec).shapes f (indexes_left g law r rec f)

-- a node has other parents, a record other keys
pub changed_keeps : (g : Graph) → IsLawfulGraph g → (n : NodeId) (was is : Node) → node_at g n ≡ Some was → is.key ≡ was.key → IsAlike was.shape is.shape
    → (f : NodeId) → KeepsIndexes g (with_node g n.birth is) f
changed_keeps g law n was is there key alike f =
    stays_keeps g (with_node g n.birth is) (changed_frames g n was is there key alike).shapes f (indexes_same g n was is there key alike f)

-- an index is made over records
pub over_keeps : (g g' : Graph) → IsLawfulGraph g → (n : NodeId) (ps : List NodeId) (f : NodeId) (bs : List ℕ) (rs : List NodeId) (ks : List ℕ)
    → IsIndexOver g g' n ps f bs rs ks → (h : NodeId) → KeepsIndexes g g' h
over_keeps g g' law n ps f bs rs ks made h =
    let born = made.born in
    let keys = made.index.interval_keys in
    let id : NodeId = record { key = n.key; birth = g.births + 1 } in
    keeps_trans g born g' h law
    (subst (λ x. KeepsIndexes g x h) (sym made.index.after) (born_keeps g law (new_index id ps f bs keys ∷ interval_nodes id keys) h))
    (subst (λ x. KeepsIndexes born x h) (sym made.after) (record {
      indexes = list_itself born (keyed born n rs ks) h (indexes_after born n rs ks h);
      intervals = λ i key of. interval_after born n rs ks i key;
    }))

-- the file has the same indexes if it has a row with these keys before and after
pub indexes_of_row : (g g' : Graph) (f : NodeId) → KeepsList g g' f → (keys : List ℕ) → IsRow g f keys → IsRow g' f keys → indexes_of g' f ≡ indexes_of g f
indexes_of_row g g' f grown keys row row' =
    let size : length (indexes_of g' f) ≡ length (indexes_of g f) + length grown.0 = ap length grown.1 ∙ length-append (indexes_of g f) grown.0 in
    let was = row.a_key_each in
    let is = row'.a_key_each in
    grown.1 ∙ ap (λ xs. indexes_of g f ++ xs) (nil_from_length grown.0 (omega arith)) ∙ append-nil (indexes_of g f)

-- a file and its keys that are a row before and after have the same parents
module _ (g g' : Graph) (f : NodeId) (kept : KeepsIndexes g g' f) where
  same_intervals : (is : List NodeId) (keys : List ℕ) → list_all (λ i. is_index_of_shape f (shape_of g i)) is ≡ true
      → intervals_of g' is keys ≡ intervals_of g is keys
  same_intervals [] keys h = refl
  same_intervals (i ∷ is) [] h = refl
  same_intervals (i ∷ is) (key ∷ keys) h =
      let t = and_both _ _ h in ap₂ (λ x xs. x ∷ xs) (kept.intervals i key t.0) (same_intervals is keys t.1)

  same_indexes : (keys : List ℕ) → IsRow g f keys → IsRow g' f keys → indexes_of g' f ≡ indexes_of g f
  same_indexes = indexes_of_row g g' f kept.indexes

  pub same_parents : (keys : List ℕ) → IsRow g f keys → IsRow g' f keys → record_parents g' f keys ≡ record_parents g f keys
  same_parents keys row row' =
      ap (λ is. f ∷ intervals_of g' is keys) (same_indexes keys row row')
      ∙ ap (λ is. f ∷ is) (same_intervals (indexes_of g f) keys (all_filter (λ i. is_index_of_shape f (shape_of g i)) (nodes g)))
