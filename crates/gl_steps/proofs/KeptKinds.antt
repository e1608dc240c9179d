-- A node that lives on keeps its kind: a record its file, and a file the mark that rows of it were adopted.
use Rattle.gl_steps.proofs.Words.{◌++◌, ◌==◌, [], ◌∙◌, ◌∷◌, ◌≡◌, ⊎_elim, and_both, ap, Bool, born_node, clash, false, File, first_in, Graph, if◌then◌else◌}
use Rattle.gl_steps.proofs.Words.{is_adopted, is_live, is_movable_shape, is_record_shape, is_some, IsLawfulGraph, keys_in, List, marked, no, no_parents, Node}
use Rattle.gl_steps.proofs.Words.{node_at, NodeId, None, not, Option, parents_in, Rec, refl, rekeyed_node, reparented, Shape, shape_in, shape_of, Some, split}
use Rattle.gl_steps.proofs.Words.{subst, sym, true, with_key, without_node, ℕ}
use Rattle.gl_steps.proofs.NotRefused.{record_has_parents}
use Rattle.gl_graph.specs.Changes.{marked_node, marked_shape}
use Rattle.gl_graph.specs.Graph.{interval_of, is_record_of}
use Rattle.gl_graph.specs.Over.{IsIndexOver, over_refusal}
use Rattle.gl_graph.proofs.Born.{old_same}
use Rattle.gl_graph.proofs.Marked.{marked_record}
use Rattle.gl_graph.proofs.OverGraph.{over_index, over_new, over_record, over_stays}
use Rattle.gl_model.proofs.law.Rows.{left_was, row_parents, with_row}

-- of one node
pub record KeepsKind (o o' : Option Node) : Type 0 where
  pub record_same : is_record_shape (shape_in o') ≡ is_record_shape (shape_in o)
  pub file : is_record_shape (shape_in o) ≡ true → first_in (parents_in o') ≡ first_in (parents_in o)
  pub mark : is_adopted (shape_in o) ≡ true → is_adopted (shape_in o') ≡ true

-- of all nodes that live before and after
abbrev pub KeepsKinds : Graph → Graph → Type 0
KeepsKinds g g' = (n : NodeId) → is_live g n ≡ true → is_live g' n ≡ true → KeepsKind (node_at g n) (node_at g' n)

pub kind_same : (o o' : Option Node) → o' ≡ o → KeepsKind o o'
kind_same o o' e = record {
  record_same = ap (λ x. is_record_shape (shape_in x)) e;
  file = λ _. ap (λ x. first_in (parents_in x)) e;
  mark = λ h. ap (λ x. is_adopted (shape_in x)) e ∙ h;
}

pub kind_trans : (o m o' : Option Node) → KeepsKind o m → KeepsKind m o' → KeepsKind o o'
kind_trans o m o' a b = record {
  record_same = b.record_same ∙ a.record_same;
  file = λ h. b.file (a.record_same ∙ h) ∙ a.file h;
  mark = λ h. b.mark (a.mark h);
}

pub kinds_same : (g g' : Graph) → g' ≡ g → KeepsKinds g g'
kinds_same g g' e n _ _ = kind_same (node_at g n) (node_at g' n) (ap (λ x. node_at x n) e)

-- a record has no mark
unmarked : (o : Option Shape) → is_record_shape o ≡ true → is_adopted o ≡ false
unmarked (Some (File adopted)) h = absurd (no h)
unmarked o h = refl

movable_unrecorded : (o : Option Shape) → is_movable_shape o ≡ true → is_record_shape o ≡ false
movable_unrecorded (Some (Rec keys)) h = absurd (no h)
movable_unrecorded o h = refl

-- a record has other keys, and parents of which its file is the first
pub kind_rekeyed : (keys : List ℕ) (ps : List NodeId) (key : ℕ) (o : Option Node) → is_record_shape (shape_in (with_key key o)) ≡ true
    → first_in ps ≡ first_in (parents_in (with_key key o)) → KeepsKind (with_key key o) (with_key key (rekeyed_node keys ps o))
kind_rekeyed keys ps key None rec first = absurd (no rec)
kind_rekeyed keys ps key (Some n) rec first = by (n.key == key) rec first
  where
    by : (b : Bool) → is_record_shape (shape_in (if b then Some n else None)) ≡ true → first_in ps ≡ first_in (parents_in (if b then Some n else None))
        → KeepsKind (if b then Some n else None) (if b then Some (record { key = n.key; shape = Rec keys; parents = ps }) else None)
    by true r e = record { record_same = sym r; file = λ _. e; mark = λ h. clash h (unmarked (Some n.shape) r) }
    by false r e = absurd (no r)

-- a record has other keys, and one more parent after those that it had
pub kind_keyed : (key : ℕ) (keys : List ℕ) (p : NodeId) (o : Option Node) → is_record_shape (shape_in o) ≡ true → not (no_parents (parents_in o)) ≡ true
    → KeepsKind o (Some (record { key = key; shape = Rec keys; parents = parents_in o ++ p ∷ [] }))
kind_keyed key keys p o rec some = record {
  record_same = sym rec;
  file = λ _. first (parents_in o) some;
  mark = λ h. clash h (unmarked (shape_in o) rec);
}
  where
    first : (ps : List NodeId) → not (no_parents ps) ≡ true → first_in (ps ++ p ∷ []) ≡ first_in ps
    first [] h = absurd (no h)
    first (q ∷ qs) h = refl

-- what is no record has other parents
pub kind_reparented : (ps : List NodeId) (key : ℕ) (o : Option Node) → is_movable_shape (shape_in (with_key key o)) ≡ true
    → KeepsKind (with_key key o) (with_key key (reparented ps o))
kind_reparented ps key None movable = absurd (no movable)
kind_reparented ps key (Some n) movable = by (n.key == key) movable
  where
    by : (b : Bool) → is_movable_shape (shape_in (if b then Some n else None)) ≡ true
        → KeepsKind (if b then Some n else None) (if b then Some (record n { parents = ps }) else None)
    by true m = record { record_same = refl; file = λ h. clash h (movable_unrecorded (Some n.shape) m); mark = λ h. h }
    by false m = absurd (no m)

-- a file that has the mark keeps it if one is marked
mark_stays : (g : Graph) (f n : NodeId) → is_adopted (shape_of g n) ≡ true → is_adopted (shape_of (marked g f) n) ≡ true
mark_stays g f n h = by (n.birth == f.birth)
  where
    shaped : (sh : Shape) → is_adopted (Some sh) ≡ true → is_adopted (Some (marked_shape sh)) ≡ true
    shaped (File adopted) k = refl
    shaped sh k = k

    keyed : (x : Node) (b : Bool) → is_adopted (shape_in (if b then Some x else None)) ≡ true
        → is_adopted (shape_in (if b then Some (record x { shape = marked_shape x.shape }) else None)) ≡ true
    keyed x true k = shaped x.shape k
    keyed x false k = k

    noted : (o : Option Node) → is_adopted (shape_in (with_key n.key o)) ≡ true → is_adopted (shape_in (with_key n.key (marked_node o))) ≡ true
    noted None k = k
    noted (Some x) k = keyed x (x.key == n.key) k

    by : (b : Bool) → is_adopted (shape_in (with_key n.key (if b then marked_node (g.at n.birth) else g.at n.birth))) ≡ true
    by true = noted (g.at n.birth) h
    by false = h

-- a record is adopted, or forgotten
module _ (g : Graph) (law : IsLawfulGraph g) where
  pub row_kinds : (f : NodeId) (node : Node) → KeepsKinds g (with_row g law f node)
  row_kinds f node n live _ =
      let same = old_same g law (node ∷ []) n live in
      record {
        record_same = marked_record (born_node g node) f n ∙ ap (λ o. is_record_shape (shape_in o)) same;
        file = λ _. ap first_in (row_parents g law f node n live);
        mark = λ h. mark_stays (born_node g node) f n (ap (λ o. is_adopted (shape_in o)) same ∙ h);
      }

  pub forgotten_kinds : (r : NodeId) → is_record_shape (shape_of g r) ≡ true → KeepsKinds g (without_node g r)
  forgotten_kinds r rec n _ live' = kind_same (node_at g n) (node_at (without_node g r) n) (left_was g law r rec n live')

-- an index is made over records
module _ (g g' : Graph) (law : IsLawfulGraph g) (n : NodeId) (ps : List NodeId) (f : NodeId) (bs : List ℕ) (rs : List NodeId) (ks : List ℕ)
    (free : over_refusal g ps f bs rs ks ≡ None) (made : IsIndexOver g g' n ps f bs rs ks) where
  pub over_kinds : KeepsKinds g g'
  over_kinds c on _ =
      split (is_record_of g f c)
      (λ rec.
      let shape = (and_both _ _ rec).0 in
      let now = over_record g g' law n ps f bs rs ks free made c rec in
      subst (KeepsKind (node_at g c)) (sym now.1)
      (kind_keyed c.key (keys_in (shape_of g c) ++ now.0 ∷ []) (interval_of g' n now.0) (node_at g c) shape (record_has_parents g law c shape)))
      (λ e. kind_same (node_at g c) (node_at g' c) (over_stays g g' law n ps f bs rs ks free made c on e))

  -- no new node is a record
  pub over_plain : (c : NodeId) → is_live g c ≡ false → is_record_shape (shape_of g' c) ≡ true → ⊥
  over_plain c dead rec =
      ⊎_elim
      (λ e. no (sym (ap (λ o. is_record_shape (shape_in o)) (ap (node_at g') e ∙ over_index g g' law n ps f bs rs ks free made)) ∙ rec))
      (λ it. no (sym (ap (λ o. is_record_shape (shape_in o)) it) ∙ rec))
      (over_new g g' law n ps f bs rs ks free made c (record_lives (node_at g' c) rec) dead)
    where
      record_lives : (o : Option Node) → is_record_shape (shape_in o) ≡ true → is_some o ≡ true
      record_lives None h = h
      record_lives (Some x) h = refl
