use Rattle.std.specs.Prelude.{◌≡◌, ◌↔◌, List, map, true}
use Rattle.std.specs.List.{list_any}
use Rattle.std.proofs.Common.{subst}
use Rattle.std.specs.Option.{option_map}
use Rattle.gl_modes.specs.declared.mode.Mode.{Mode}
use Rattle.gl_modes.specs.declared.node.NodeId.{NodeId}
use Rattle.gl_modes.specs.Nodes.{same_node}
use Rattle.gl_graph.specs.View.{View, graph_of}
use Rattle.gl_catalog.specs.Manager.{state_of}
use Rattle.gl_parts.specs.Passing.{IsFirst, Passes, is_unheld_at}
use Rattle.gl_parts.proofs.Ways.{first_lacked}
use Rattle.gl_parts.proofs.passing.first_lack.Goals as goal

pub returns-in-Some : goal.returns-in-Some
returns-in-Some g c =
    let main = option_map (λ m. state_of m.now) c.args.main in
    let part = state_of c.args.part.now in
    let marks = map g.M.Marked.names c.args.marks.now in
    let few = c.in-Some.few.items in
    let passed = subst (λ (v : View). (n : NodeId) → (list_any (same_node n) few ≡ true) ↔ Passes (graph_of v) c.args.target n) c.graph.ensures
    c.in-Some.ensures in
    let among = subst (λ (ps : List NodeId). IsFirst (λ mark. is_unheld_at main part c.args.slot c.intention-intention.result ps mark ≡ true) marks
    c.first_unheld.result) c.as_slice.ensures.value c.first_unheld.ensures in
    first_lacked main part c.args.slot c.args.target few passed marks c.first_unheld.result
    (subst (λ (m : Mode). IsFirst (λ mark. is_unheld_at main part c.args.slot m few mark ≡ true) marks c.first_unheld.result)
    c.intention-intention.ensures among)

pub returns : goal.returns
returns g c =
    let main = option_map (λ m. state_of m.now) c.args.main in
    let part = state_of c.args.part.now in
    let marks = map g.M.Marked.names c.args.marks.now in
    let found = c.in_ok-passed.passed.keys in
    let passed = subst (λ (v : View). (n : NodeId) → (list_any (same_node n) found ≡ true) ↔ Passes (graph_of v) c.args.target n) c.graph-2.ensures
    c.in_ok-passed.ensures in
    let among = subst (λ (ps : List NodeId). IsFirst (λ mark. is_unheld_at main part c.args.slot c.intention-intention.result ps mark ≡ true) marks
    c.first_unheld-2.result) c.as_slice-2.ensures.keys c.first_unheld-2.ensures in
    first_lacked main part c.args.slot c.args.target found passed marks c.first_unheld-2.result
    (subst (λ (m : Mode). IsFirst (λ mark. is_unheld_at main part c.args.slot m found mark ≡ true) marks c.first_unheld-2.result)
    c.intention-intention.ensures among)
