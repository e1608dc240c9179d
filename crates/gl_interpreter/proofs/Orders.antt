-- The order in which the nodes of a slot are stored.
use Rattle.gl_interpreter.proofs.Words.{[], ◌||◌, ◌∙◌, ◌∷◌, ◌≡◌, ap, ap₂, choosing, empty_state, fun_ext, get_or, holds, List, LockRow, ManagerView, map}
use Rattle.gl_interpreter.proofs.Words.{members, NodeId, nodes_of, None, refl, rows_of, slice_get, State, state_of, suc, sym, zero, ℕ}
use Rattle.std.specs.Map.{keys_of, lookup}
use Rattle.std.specs.Option.{option_map_or}
use Rattle.std.proofs.lemmas.Map.Made.{nil_from_lookup}
use Rattle.gl_modes.specs.Nodes.{same_node}
use Rattle.gl_graph.proofs.RouteLengths.{node_equivalence}
use Rattle.gl_waits.specs.declared.victims.Victims.{Victims}
use Rattle.gl_model.specs.declared.answers.Detect.{Detect}
use Rattle.gl_model.specs.State.{is_waiting_at}
use Rattle.gl_table.specs.Table.{ListsAgree, row_of, TableView}
use Rattle.gl_interpreter.specs.Script.{no_orders}
use Rattle.gl_interpreter.proofs.Openings.{nothing}

module _ {A : Type 0} where
  -- the nodes of rows are those of their list
  row_nodes : (row : NodeId × A → LockRow) → ((x : NodeId × A) → (row x).node ≡ x.0) → (es : List (NodeId × A))
      → map (λ (r : LockRow). r.node) (map row es) ≡ keys_of es
  row_nodes row same [] = refl
  row_nodes row same (x ∷ es) = ap₂ (λ (n : NodeId) (ns : List NodeId). n ∷ ns) (same x) (row_nodes row same es)

  -- a node is found in the list of its slot
  found_in : (ls : List (List (NodeId × A))) (t : ℕ) (n : NodeId)
      → option_map_or (λ es. lookup (same_node n) es) (slice_get ls t) None ≡ lookup (same_node n) (get_or ls t [])
  found_in [] t n = refl
  found_in (es ∷ ls) zero n = refl
  found_in (es ∷ ls) (suc t) n = found_in ls t n

-- the rows of a slot are in its order
pub nodes_in_order : (v : TableView) (t : ℕ) → map (λ (r : LockRow). r.node) (rows_of v t) ≡ nodes_of v t
nodes_in_order v t = row_nodes row_of (λ x. refl) (get_or v.lists t [])

-- in a new manager no list has a node
pub none_kept : (m : ManagerView) (c : Victims) (d : Detect) (most : ℕ) → state_of m ≡ choosing c (empty_state d most) → ListsAgree m.table
    → nodes_of m.table ≡ no_orders
none_kept m c d most made agree = fun_ext (λ t.
    let nobody : (n : NodeId) → lookup (same_node n) (get_or m.table.lists t []) ≡ None =
    λ n. sym (found_in m.table.lists t n)
    ∙ nothing _ (agree.listed t n ∙ ap (λ (s : State). holds (members s n) t || is_waiting_at s t n) made) in
    ap keys_of (nil_from_lookup node_equivalence (get_or m.table.lists t []) nobody))
