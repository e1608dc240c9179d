-- Ways in a graph that has changed: from nodes above which a path asks for what it asked for they are those that there were.
use Rattle.std.specs.Prelude.{◌≡◌, ◌⊎◌, Bool, true, false, ◌&&◌, List, [], ◌∷◌, ◌++◌, if◌then◌else◌, take}
use Rattle.std.specs.List.{list_any}
use Rattle.std.proofs.Common.{refl, sym, ap, inl, inr, ⊎_elim, ◌∙◌}
use Rattle.gl_modes.specs.declared.node.NodeId.{NodeId}
use Rattle.gl_modes.specs.Nodes.{same_node}
use Rattle.gl_modes.proofs.NodeLemmas.{same_node-equal}
use Rattle.gl_modes.proofs.Words.{no, or_elim, or_left, split}
use Rattle.gl_graph.specs.Graph.{Graph, indexes_of, is_child, is_live, nodes, parents_of, shape_of}
use Rattle.gl_graph.specs.Lawful.{IsLawfulGraph}
use Rattle.gl_graph.specs.Shapes.{is_index_of_shape, is_index_shape}
use Rattle.gl_graph.proofs.KindRules.{index_plain, plain_live}
use Rattle.gl_graph.proofs.Look.{all_at, all_filter}
use Rattle.gl_graph.proofs.RecordParents.{index_of_index}
use Rattle.gl_model.specs.State.{is_write}
use Rattle.gl_parts.specs.declared.passing.Target.{Target}
use Rattle.gl_parts.specs.Passing.{IsWay, asked_above, can_have, starts}

one_of_some : (ps : List NodeId) (p : NodeId) → list_any (same_node p) (take 1 ps) ≡ true → list_any (same_node p) ps ≡ true
one_of_some [] p h = h
one_of_some (q ∷ ps) p h = or_elim (same_node p q) false h (λ e. or_left (same_node p q) _ e) (λ e. absurd (no e))

-- on whom a path requests an intention next is a parent
pub next_child : (g : Graph) (writes : Bool) (q p : NodeId) → list_any (same_node p) (asked_above writes g q) ≡ true → is_child g p q ≡ true
next_child g true q p asked = asked
next_child g false q p asked = one_of_some (parents_of g q) p asked

module _ (g : Graph) (law : IsLawfulGraph g) (writes : Bool) where
  -- and lives
  pub next_live : (q p : NodeId) → list_any (same_node p) (asked_above writes g q) ≡ true → is_live g p ≡ true
  next_live q p asked = law.parents_live q p (next_child g writes q p asked)

  pub way_live : (q n : NodeId) (way : List NodeId) → is_live g q ≡ true → IsWay writes g q way n → is_live g n ≡ true
  way_live q n [] live h = ap (is_live g) (sym h) ∙ live
  way_live q n (p ∷ way) live h = way_live p n way (next_live q p h.0) h.1

-- a way with one step more
pub way_more : (writes : Bool) (g : Graph) (q n p : NodeId) (way : List NodeId) → IsWay writes g q way n
    → list_any (same_node p) (asked_above writes g n) ≡ true → IsWay writes g q (way ++ p ∷ []) p
way_more writes g q n p [] h asked = (ap (λ y. list_any (same_node p) (asked_above writes g y)) h ∙ asked, refl)
way_more writes g q n p (s ∷ way) h asked = (h.0, way_more writes g s n p way h.1 asked)

-- nodes above which a path asks for what it asked for, and for nodes alone that are so too
module _ (g g' : Graph) (writes : Bool) (Stays : NodeId → Type 0)
    (same : (q : NodeId) → Stays q → asked_above writes g' q ≡ asked_above writes g q)
    (up : (q p : NodeId) → Stays q → list_any (same_node p) (asked_above writes g q) ≡ true → Stays p) where
  pub way_was : (q n : NodeId) (way : List NodeId) → Stays q → IsWay writes g' q way n → IsWay writes g q way n
  way_was q n [] stays h = h
  way_was q n (p ∷ way) stays h =
      let asked = ap (list_any (same_node p)) (sym (same q stays)) ∙ h.0 in (asked, way_was p n way (up q p stays asked) h.1)

  pub way_is : (q n : NodeId) (way : List NodeId) → Stays q → IsWay writes g q way n → IsWay writes g' q way n
  way_is q n [] stays h = h
  way_is q n (p ∷ way) stays h = (ap (list_any (same_node p)) (same q stays) ∙ h.0, way_is p n way (up q p stays h.0) h.1)

-- a path begins at the node of its target, which can have the mode, or at an index
pub start_is : (g : Graph) (x : Target) (start : NodeId) → list_any (same_node start) (starts g x) ≡ true
    → (can_have g x ≡ true) × ((start ≡ x.node) ⊎ (is_index_shape (shape_of g start) ≡ true))
start_is g x start one =
    split (can_have g x) (λ h. (
      h,
      from (ap (λ b. list_any (same_node start)
          (if b then x.node ∷ (if x.is_row && is_write x.mode then indexes_of g x.node else []) else [])) (sym h) ∙ one),
    ))
    (λ h. absurd (no (ap (λ b. list_any (same_node start)
    (if b then x.node ∷ (if x.is_row && is_write x.mode then indexes_of g x.node else []) else [])) (sym h) ∙ one)))
  where
    index : (b : Bool) → list_any (same_node start) (if b then indexes_of g x.node else []) ≡ true → is_index_shape (shape_of g start) ≡ true
    index true l =
        index_of_index x.node (shape_of g start) (all_at (λ q. is_index_of_shape x.node (shape_of g q)) (indexes_of g x.node) start l
        (all_filter (λ q. is_index_of_shape x.node (shape_of g q)) (nodes g)))
    index false l = absurd (no l)

    from : list_any (same_node start) (x.node ∷ (if x.is_row && is_write x.mode then indexes_of g x.node else [])) ≡ true
        → (start ≡ x.node) ⊎ (is_index_shape (shape_of g start) ≡ true)
    from h = or_elim (same_node start x.node) _ h (λ e. inl (same_node-equal start x.node e)) (λ l. inr (index (x.is_row && is_write x.mode) l))

-- if its node lives, so does the node at which it begins
pub start_live : (g : Graph) (x : Target) → is_live g x.node ≡ true → (start : NodeId) → list_any (same_node start) (starts g x) ≡ true → is_live g start ≡ true
start_live g x live start one =
    ⊎_elim (λ (e : start ≡ x.node). ap (is_live g) e ∙ live) (λ h. plain_live g start (index_plain (shape_of g start) h)) (start_is g x start one).1
