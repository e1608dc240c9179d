use Rattle.std.specs.Prelude.{◌≡◌, ◌&&◌, List, Some, get_or, length, true}
use Rattle.std.specs.List.{list_any}
use Rattle.std.proofs.Common.{ap, ◌∙◌, subst, sym, arith, rules, tests}
use Rattle.std.proofs.lemmas.Iterator.{YieldsList-from_slice}
use Rattle.std.proofs.lemmas.Iterator.Search.{any_from_yields_List}
use mathlib.Core.Bool.{true≢false}
use Rattle.gl_modes.specs.declared.node.NodeId.{NodeId}
use Rattle.gl_modes.specs.Nodes.{same_node}
use Rattle.gl_graph.specs.Graph.{first_parent, indexes_of, shape_of}
use Rattle.gl_graph.specs.Lawful.{IsLawfulGraph}
use Rattle.gl_graph.specs.Shapes.{is_file_shape, is_index_of_shape, is_record_shape}
use Rattle.gl_graph.specs.View.{View, graph_of}
use Rattle.gl_graph.proofs.KindsOf.{record_kind}
use Rattle.gl_graph.proofs.RecordParents.{its_file}
use Rattle.gl_catalog.specs.Manager.{ManagerView}
use Rattle.gl_catalog.proofs.KeyedBy.{first_is_file, has_parents, keyed_by}
use Rattle.gl_catalog.proofs.manager.Manager.is_keyed_by.Goals.{After-parents, in-Some-Rec, in_default, in_default-2}
use Rattle.gl_catalog.proofs.manager.Manager.is_keyed_by.Goals as goal

law : (c : After-parents) → IsLawfulGraph (graph_of c.graph-graph.result.now)
law c = subst (λ (g : View). IsLawfulGraph (graph_of g)) (sym c.graph-graph.ensures) c.self.invariant.lawful.graph

-- the first node is a record
rec : (c : After-parents) → is_record_shape (shape_of (graph_of c.graph-graph.result.now) c.args.rec) ≡ true
rec c =
    elim c.match-matches.branch [
      | in-Some-Rec w ↦ record_kind _ (sym c.kind.ensures ∙ w.in-Some-Rec.is ∙ ap Some w.in-Some-Rec.field-0-is)
      | in_default w ↦ absurd (true≢false (sym c.if-matches.true ∙ w.matches-is))
      | in_default-2 w ↦ absurd (true≢false (sym c.if-matches.true ∙ w.matches-is))
    ]

-- its first parent is its file
first : (c : After-parents) (d : NodeId) → get_or c.parents.result.now 0 d ≡ first_parent (graph_of c.graph-graph.result.now) c.args.rec
first c d = ap (λ (ps : List NodeId). get_or ps 0 d) c.parents.ensures ∙ first_is_file (graph_of c.graph-graph.result.now) (law c) c.args.rec (rec c) d

pub bounds-parents-0 : goal.bounds-parents-0
bounds-parents-0 c = let some = has_parents (graph_of c.graph-graph.result.now) (law c) c.args.rec
    (rec c) in let same = ap length c.parents.ensures in omega arith

pub indexes-requires : goal.indexes-requires
indexes-requires c =
    let at = (goal.at.indexes-requires c).After-parents in
    ap (λ n. is_file_shape (shape_of (graph_of c.graph-graph.result.now) n)) (first at _)
    ∙ its_file (graph_of c.graph-graph.result.now) (law at) c.args.rec (rec at)

pub returns-then-matches : goal.returns-then-matches
returns-then-matches c =
    let at = (goal.at.returns-then-matches c).After-parents in
    any_from_yields_List (same_node c.args.index) _ _ c.any.result c.any.ensures.ran (YieldsList-from_slice c.indexes.result.now cc) (λ x b q k. search
    (rules, tests))
    ∙ ap (list_any (same_node c.args.index)) (c.indexes.ensures ∙ ap (indexes_of (graph_of c.graph-graph.result.now)) (first at _))
    ∙ keyed_by (graph_of c.graph-graph.result.now) (law at) c.args.rec (rec at) c.args.index
    ∙ ap (λ (g : View). is_record_shape (shape_of (graph_of g) c.args.rec) && is_index_of_shape (first_parent (graph_of g) c.args.rec) (shape_of
    (graph_of g) c.args.index))
    (c.graph-graph.ensures ∙ ap (λ (v : ManagerView). v.table.graph) c.self.view_is)
