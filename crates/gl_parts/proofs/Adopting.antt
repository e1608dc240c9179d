-- The node of a row that is made: no path to a row passes more by it.
use Rattle.std.specs.Prelude.{◌≡◌, ℕ, zero, suc, true, ◌&&◌, List, [], ◌∷◌, Option, Some, None, if◌then◌else◌, take}
use Rattle.std.specs.List.{list_any}
use Rattle.std.proofs.Common.{refl, sym, ap, arith, subst, ◌∙◌}
use Rattle.gl_modes.specs.declared.node.NodeId.{NodeId}
use Rattle.gl_modes.specs.Nodes.{same_node}
use Rattle.gl_modes.proofs.Words.{and_both, both, no, none_some, some_is, split}
use Rattle.gl_graph.specs.Changes.{born_node, marked}
use Rattle.gl_graph.specs.Graph.{Graph, Node, indexes_of, is_live, node_at, parents_in, parents_of, record_parents, shape_in, shape_of}
use Rattle.gl_graph.specs.Lawful.{IsLawfulGraph}
use Rattle.gl_graph.specs.Shapes.{Rec, is_file_shape}
use Rattle.gl_graph.proofs.Born.{old_or_new, old_same, place_in}
use Rattle.gl_graph.proofs.KindRules.{file_plain, plain_live}
use Rattle.gl_graph.proofs.Marked.{marked_indexes, marked_parents}
use Rattle.gl_graph.proofs.NewNodes.{one_indexes}
use Rattle.gl_model.specs.State.{is_write}
use Rattle.gl_parts.specs.declared.passing.Target.{Target}
use Rattle.gl_parts.specs.Passing.{Passes, can_have, is_mode_of, starts}
use Rattle.gl_parts.specs.Promises.{AdoptsPassNoMore}
use Rattle.gl_parts.proofs.OldWays.{next_live, start_live, way_was}
use Rattle.gl_parts.proofs.Paths.{begins, row_has}

-- a file with the mark is a file
file_marked : (g : Graph) (f q : NodeId) → is_file_shape (shape_of (marked g f) q) ≡ is_file_shape (shape_of g q)
file_marked g f q = grind arith

module _ (g : Graph) (law : IsLawfulGraph g) (key : ℕ) (keys : List ℕ) (file : NodeId) where
  abbrev record_node : Node
  record_node = record { key = key; shape = Rec keys; parents = record_parents g file keys }

  abbrev after : Graph
  after = marked (born_node g record_node) file

  parents_stay : (q : NodeId) → is_live g q ≡ true → parents_of after q ≡ parents_of g q
  parents_stay q live = marked_parents (born_node g record_node) file q ∙ ap parents_in (old_same g law (record_node ∷ []) q live)

  indexes_stay : (q : NodeId) → indexes_of after q ≡ indexes_of g q
  indexes_stay q = marked_indexes (born_node g record_node) file q ∙ one_indexes g law record_node (λ f. refl) q

  file_was : (q : NodeId) → is_file_shape (shape_of after q) ≡ true → is_file_shape (shape_of g q) ≡ true
  file_was q h = by (node_at (born_node g record_node) q) refl (sym (file_marked (born_node g record_node) file q) ∙ h)
    where
      by : (o : Option Node) → node_at (born_node g record_node) q ≡ o → is_file_shape (shape_in o) ≡ true → is_file_shape (shape_of g q) ≡ true
      by None e k = absurd (no k)
      by (Some x) e k =
          old_or_new g law (record_node ∷ []) q x e (λ was. ap (λ o. is_file_shape (shape_in o)) was ∙ k)
          (λ place at is. absurd (new_is place at))
        where
          new_is : (place : ℕ) → place_in (record_node ∷ []) place ≡ Some x → ⊥
          new_is zero at = no (ap (λ (y : Node). is_file_shape (Some y.shape)) (some_is at) ∙ k)
          new_is (suc place) at = none_some at

  -- a path to a row begins where it began
  module _ (x : Target) (row : x.is_row ≡ true) where
    could_have : can_have after x ≡ true → can_have g x ≡ true
    could_have h =
        let was = and_both (is_file_shape (shape_of after x.node)) (is_mode_of true x.mode) (sym (row_has after x row) ∙ h) in
        row_has g x row ∙ both _ _ (file_was x.node was.0) was.1

    begins_same : can_have after x ≡ true → (start : NodeId) → list_any (same_node start) (starts after x) ≡ true
        → list_any (same_node start) (x.node ∷ (if x.is_row && is_write x.mode then indexes_of g x.node else [])) ≡ true
    begins_same h start one =
        sym (ap (list_any (same_node start)) (begins after x h ∙ ap (λ is. x.node ∷ (if x.is_row && is_write x.mode then is else [])) (indexes_stay x.node)))
        ∙ one

    file_live : can_have g x ≡ true → is_live g x.node ≡ true
    file_live h =
        plain_live g x.node (file_plain (shape_of g x.node)
        (and_both (is_file_shape (shape_of g x.node)) (is_mode_of true x.mode) (sym (row_has g x row) ∙ h)).0)

    passed : (n : NodeId) → Passes after x n → Passes g x n
    passed n pass =
        split (can_have after x)
        (λ h. let one = ap (list_any (same_node pass.start)) (begins g x (could_have h)) ∙ begins_same h pass.start pass.is_one in
        let live = start_live g x (file_live (could_have h)) pass.start one in
        record {
          start = pass.start;
          is_one = one;
          leads = (
            pass.leads.0,
            way_was g after (is_write x.mode) (λ q. is_live g q ≡ true)
                (λ q alive. ap (λ ps. if is_write x.mode then ps else take 1 ps) (parents_stay q alive)) (λ q p alive. next_live g law (is_write x.mode) q p)
                pass.start n pass.leads.0 live pass.leads.1,
          );
        })
        (λ e. absurd (no (sym (ap (λ b. list_any (same_node pass.start)
        (if b then x.node ∷ (if x.is_row && is_write x.mode then indexes_of after x.node else []) else [])) e) ∙ pass.is_one)))

pub adopts_pass_no_more : AdoptsPassNoMore
adopts_pass_no_more g g' r file keys x n law adopted row pass =
    passed g law r.key keys file x row n (subst (λ (h : Graph). Passes h x n) adopted.after pass)
