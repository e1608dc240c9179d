use Rattle.std.specs.Prelude.{◌≡◌, ◌+◌, ◌<◌, ◌≤◌, ◌∷◌, ◌++◌, [], ℕ, List, get_or, length, take, true, false}
use Rattle.std.proofs.Common.{ap, ap₂, ◌∙◌, subst, sym, arith}
use Rattle.std.proofs.lemmas.List.{take_all}
use Rattle.gl_modes.specs.declared.node.NodeId.{NodeId}
use Rattle.gl_modes.specs.Nodes.{same_node}
use Rattle.gl_graph.specs.Changes.{rekeyed_parents}
use Rattle.gl_graph.specs.Graph.{Graph, first_parent, indexes_of, interval_of, parents_of, shape_of}
use Rattle.gl_graph.specs.Lawful.{IsLawfulGraph}
use Rattle.gl_graph.specs.Shapes.{is_file_shape}
use Rattle.gl_graph.specs.View.{View, graph_of}
use Rattle.gl_graph.proofs.RecordParents.{its_file}
use Rattle.gl_catalog.specs.Manager.{ManagerView, state_of}
use Rattle.gl_catalog.proofs.KeyedBy.{first_is_file, has_parents}
use Rattle.gl_catalog.proofs.Rekeyings.{parents_counted, rekeyed_counted, rekeyed_more}
use Rattle.gl_catalog.proofs.manager.Manager.parents_with.Goals.{After-parents-old, then-eq, else-eq}
use Rattle.gl_catalog.proofs.manager.Manager.parents_with.Goals as goal

abbrev nobody : NodeId
nobody = record { key = 0; birth = 0 }

abbrev graph : After-parents-old → Graph
graph c = (state_of c.args.self.now).graph

abbrev so_far : After-parents-old → ℕ → List NodeId
so_far c place = take (place + 1) (rekeyed_parents (graph c) c.args.rec c.args.index c.args.key)

-- the graph is the manager's
same : (c : After-parents-old) → c.graph-graph.result.now ≡ c.args.self.now.table.graph
same c = c.graph-graph.ensures ∙ ap (λ (v : ManagerView). v.table.graph) c.self.view_is

law : (c : After-parents-old) → IsLawfulGraph (graph c)
law c = subst (λ (v : ManagerView). IsLawfulGraph (state_of v).graph) c.self.view_is c.self.invariant.lawful.graph

old : (c : After-parents-old) → c.parents-old.result.now ≡ parents_of (graph c) c.args.rec
old c = c.parents-old.ensures ∙ ap (λ (g : View). parents_of (graph_of g) c.args.rec) (same c)

-- the first parent is the file
first : (c : After-parents-old) → get_or c.parents-old.result.now 0 nobody ≡ first_parent (graph c) c.args.rec
first c = ap (λ (ps : List NodeId). get_or ps 0 nobody) (old c) ∙ first_is_file (graph c) (law c) c.args.rec c.requires.record nobody

-- the indexes are the file's
listed : (c : After-parents-old) (is : List NodeId) → is ≡ indexes_of (graph_of c.graph-graph.result.now) (get_or c.parents-old.result.now 0 nobody)
    → is ≡ indexes_of (graph c) (first_parent (graph c) c.args.rec)
listed c is e = e ∙ ap₂ (λ (g : View) (f : NodeId). indexes_of (graph_of g) f) (same c) (first c)

pub bounds-old-0 : goal.bounds-old-0
bounds-old-0 c = let some = has_parents (graph c) (law c) c.args.rec c.requires.record in let count = ap length (old c) in omega arith

pub indexes-other-items-requires : goal.indexes-other-items-requires
indexes-other-items-requires c =
    let at = (goal.at.indexes-other-items-requires c).After-parents-old in
    ap₂ (λ (g : View) (f : NodeId). is_file_shape (shape_of (graph_of g) f)) (same at) (first at) ∙ its_file (graph at) (law at) c.args.rec c.requires.record

pub bounds-old-place : goal.bounds-old-place
bounds-old-place c =
    let at = (goal.at.bounds-old-place c).After-parents-old in
    let low : c.loop-place.place < length c.indexes-other-items.result.now = c.loop-place-test.true in
    let many = ap length (listed at _ c.indexes-other-items.ensures) in
    let count = ap length (old at) in
    let each = parents_counted (graph at) (law at) c.args.rec c.requires.record in
    omega arith

pub loop-place-preserved : goal.loop-place-preserved
loop-place-preserved c =
    let at = (goal.at.loop-place-preserved c).After-parents-old in
    let low : c.loop-place.place < length c.indexes-other-items.result.now = c.loop-place-test.true in
    let is = listed at _ c.indexes-other-items.ensures in
    let many = ap length is in
    let test = ap (λ (xs : List NodeId). same_node (get_or xs c.loop-place.place nobody) c.args.index) (sym is) ∙ sym c.eq.ensures in
    let more = rekeyed_more (graph at) (law at) c.args.rec c.requires.record c.args.index c.args.key c.loop-place.place nobody in
    c.push-in-loop-place.ensures.items ∙ ap (λ (ps : List NodeId). ps ++ c.if-eq.interval ∷ []) c.loop-place.invariant
    ∙ elim c.if-eq.branch [
      | then-eq w ↦ ap (λ n. so_far at c.loop-place.place ++ n ∷ []) (w.interval-is ∙ w.interval_of-interval.ensures
          ∙ ap (λ (g : View). interval_of (graph_of g) c.args.index c.args.key) (same at)) ∙ sym (more true (omega arith) (test ∙ w.if-eq.true))
      | else-eq w ↦ ap (λ n. so_far at c.loop-place.place ++ n ∷ []) (w.interval-is
          ∙ ap (λ (ps : List NodeId). get_or ps (c.loop-place.place + 1) nobody) (old at)) ∙ sym (more false (omega arith) (test ∙ w.if-eq.false))
    ]

pub returns : goal.returns
returns c =
    let at = (goal.at.returns c).After-parents-old in
    let all : length c.indexes-other-items.result.now ≤ c.loop-place.place = c.loop-place-test.false in
    let many = ap length (listed at _ c.indexes-other-items.ensures) in
    let each = rekeyed_counted (graph at) (law at) c.args.rec c.requires.record c.args.index c.args.key in
    c.loop-place.invariant ∙ take_all (c.loop-place.place + 1) (rekeyed_parents (graph at) c.args.rec c.args.index c.args.key) (omega arith)
