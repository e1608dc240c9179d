-- A node that is moved to other parents: which paths pass the same.
use Rattle.std.specs.Prelude.{◌≡◌, ◌≢◌, ◌↔◌, ℕ, Bool, true, ◌&&◌, List, [], ◌∷◌, ◌++◌, Option, Some, if◌then◌else◌, take}
use Rattle.std.specs.List.{filter, filter_map, list_any, range_with_len}
use Rattle.std.proofs.Common.{refl, sym, ap, ap₂, arith, subst, ◌∙◌}
use Rattle.std.proofs.Math.Path.{fun_ext}
use Rattle.gl_modes.specs.declared.node.NodeId.{NodeId}
use Rattle.gl_modes.specs.Nodes.{same_node}
use Rattle.gl_modes.proofs.NodeLemmas.{same_node-equal, same_node-other}
use Rattle.gl_modes.proofs.Words.{split}
use Rattle.gl_graph.specs.Changes.{with_parents}
use Rattle.gl_graph.specs.Graph.{Graph, Node, id_of, indexes_of, is_live, node_at, nodes, parents_in, parents_of, shape_of}
use Rattle.gl_graph.specs.Shapes.{Shape, is_file_shape, is_index_of_shape, is_record_shape}
use Rattle.gl_graph.proofs.Changed.{at_here, at_other}
use Rattle.gl_graph.proofs.Look.{live_node}
use Rattle.gl_graph.proofs.Moved.{with_parents_is}
use Rattle.gl_model.specs.State.{is_write}
use Rattle.gl_parts.specs.declared.passing.Target.{Target}
use Rattle.gl_parts.specs.Passing.{IsWay, LeadsTo, Passes, asked_above, is_mode_of, starts}
use Rattle.gl_parts.specs.Promises.{MovesPassTheNode, MovesPassTheSame}
use Rattle.gl_parts.proofs.OldWays.{way_is, way_more, way_was}

-- a way as far as the first n, if a path asks for what it asked for above each other node
way_to_first : (writes : Bool) (g h : Graph) (n : NodeId) → ((q : NodeId) → q ≢ n → asked_above writes h q ≡ asked_above writes g q) → (q : NodeId)
    (way : List NodeId) → IsWay writes g q way n → LeadsTo writes h q n
way_to_first writes g h n same q [] e = ([], e)
way_to_first writes g h n same q (p ∷ way) w =
    split (same_node q n) (λ e. ([], same_node-equal q n e))
    (λ ne. let rest = way_to_first writes g h n same p way w.1 in
    (p ∷ rest.0, (ap (list_any (same_node p)) (same q (same_node-other q n ne)) ∙ w.0, rest.1)))

module _ (g : Graph) (n : NodeId) (ps : List NodeId) where
  abbrev after : Graph
  after = with_parents g n ps

  pub lives_stay : (q : NodeId) → is_live after q ≡ is_live g q
  lives_stay q = grind arith

  shapes_stay : (q : NodeId) → shape_of after q ≡ shape_of g q
  shapes_stay q = grind arith

  id_stays : (b : ℕ) → id_of b (after.at b) ≡ id_of b (g.at b)
  id_stays b = grind arith

  nodes_stay : nodes after ≡ nodes g
  nodes_stay = ap (λ (f : ℕ → Option NodeId). filter_map f (range_with_len 1 g.births)) (fun_ext id_stays)

  indexes_stay : (f : NodeId) → indexes_of after f ≡ indexes_of g f
  indexes_stay f = ap₂ (λ (is_it : NodeId → Bool) (ns : List NodeId). filter is_it ns) (fun_ext (λ q. ap (is_index_of_shape f) (shapes_stay q))) nodes_stay

  starts_stay : (x : Target) → starts after x ≡ starts g x
  starts_stay x =
      ap₂ (λ (o : Option Shape) (is : List NodeId).
      if (if x.is_row then is_file_shape o && is_mode_of true x.mode else is_mode_of (is_record_shape o) x.mode)
      then x.node ∷ (if x.is_row && is_write x.mode then is else []) else []) (shapes_stay x.node) (indexes_stay x.node)

  module _ (live : is_live g n ≡ true) where
    was : (node : Node) × (node_at g n ≡ Some node)
    was = live_node (node_at g n) live

    pub parents_here : parents_of after n ≡ ps
    parents_here =
        ap (λ h. parents_of h n) (sym (with_parents_is g n ps was.0 was.1))
        ∙ ap parents_in (at_here g n was.0 (record was.0 { parents = ps }) was.1 refl)

    pub parents_elsewhere : (q : NodeId) → q ≢ n → parents_of after q ≡ parents_of g q
    parents_elsewhere q ne =
        ap (λ h. parents_of h q) (sym (with_parents_is g n ps was.0 was.1))
        ∙ ap parents_in (at_other g n was.0 (record was.0 { parents = ps }) was.1 refl q ne)

    module _ (x : Target) where
      abbrev writes : Bool
      writes = is_write x.mode

      asked_elsewhere : (q : NodeId) → q ≢ n → asked_above writes after q ≡ asked_above writes g q
      asked_elsewhere q ne = ap (λ qs. if writes then qs else take 1 qs) (parents_elsewhere q ne)

      pub pass_the_node : Passes after x n ↔ Passes g x n
      pass_the_node = (
        λ pass. record {
          start = pass.start;
          is_one = ap (list_any (same_node pass.start)) (sym (starts_stay x)) ∙ pass.is_one;
          leads = way_to_first writes after g n (λ q ne. sym (asked_elsewhere q ne)) pass.start pass.leads.0 pass.leads.1;
        },
        λ pass. record {
          start = pass.start;
          is_one = ap (list_any (same_node pass.start)) (starts_stay x) ∙ pass.is_one;
          leads = way_to_first writes g after n asked_elsewhere pass.start pass.leads.0 pass.leads.1;
        },
      )

      module _ (beside : Passes g x n → ⊥) where
        same_asked : (q : NodeId) → Passes g x q → asked_above writes after q ≡ asked_above writes g q
        same_asked q pass = asked_elsewhere q (λ e. beside (subst (Passes g x) e pass))

        passes_next : (q p : NodeId) → Passes g x q → list_any (same_node p) (asked_above writes g q) ≡ true → Passes g x p
        passes_next q p pass asked = record {
          start = pass.start;
          is_one = pass.is_one;
          leads = (pass.leads.0 ++ p ∷ [], way_more writes g pass.start q p pass.leads.0 pass.leads.1 asked);
        }

        pub pass_the_same : (m : NodeId) → Passes after x m ↔ Passes g x m
        pass_the_same m = (
          λ pass.
              let one = ap (list_any (same_node pass.start)) (sym (starts_stay x)) ∙ pass.is_one in
              record {
                start = pass.start;
                is_one = one;
                leads = (
                  pass.leads.0,
                  way_was g after writes (Passes g x) same_asked passes_next pass.start m pass.leads.0
                      (record { start = pass.start; is_one = one; leads = ([], refl) }) pass.leads.1,
                );
              },
          λ pass. record {
            start = pass.start;
            is_one = ap (list_any (same_node pass.start)) (starts_stay x) ∙ pass.is_one;
            leads = (
              pass.leads.0,
              way_is g after writes (Passes g x) same_asked passes_next pass.start m pass.leads.0
                  (record { start = pass.start; is_one = pass.is_one; leads = ([], refl) }) pass.leads.1,
            );
          },
        )

pub moves_pass_the_node : MovesPassTheNode
moves_pass_the_node g n ps x live = pass_the_node g n ps live x

pub moves_pass_the_same : MovesPassTheSame
moves_pass_the_same g n ps x live beside m = pass_the_same g n ps live x beside m
