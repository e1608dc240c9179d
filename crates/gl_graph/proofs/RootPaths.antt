-- Paths to the root: each node has one, and they grow and shrink by a step.
use Rattle.gl_graph.proofs.Words.{[], ap, arith, Graph, inl, inr, IsRoute, length, List, list_any, node_count, NodeId, NodesHaveRootPaths, or_left, parents_of}
use Rattle.gl_graph.proofs.Words.{refl, RootPathsGrow, RootPathsShrink, same_node, same_node-refl, suc, zero, ℕ, ⊎_elim, ◌∙◌, ◌∷◌, ◌≡◌, ◌⊎◌}
use Rattle.gl_graph.proofs.RouteLengths.{live_end, route_short}

-- a route up to a node without parents, or of k steps
record GoesUp (g : Graph) (k : ℕ) (n : NodeId) : Type 0 where
  pub end : NodeId
  pub walk : List NodeId
  pub route : IsRoute g n walk end
  pub done : (parents_of g end ≡ []) ⊎ (length walk ≡ k)

goes_up : (g : Graph) (k : ℕ) (n : NodeId) → GoesUp g k n
goes_up g zero n = record { end = n; walk = []; route = refl; done = inr refl }
goes_up g (suc k) n = by (parents_of g n) refl (goes_up g k)
  where
    by : (ps : List NodeId) → parents_of g n ≡ ps → ((p : NodeId) → GoesUp g k p) → GoesUp g (suc k) n
    by [] e rest = record { end = n; walk = []; route = refl; done = inl e }
    by (p ∷ ps) e rest =
        let up = rest p in
        record {
          end = up.end;
          walk = p ∷ up.walk;
          route = (ap (list_any (same_node p)) e ∙ or_left _ _ (same_node-refl p), up.route);
          done = grind arith;
        }

pub root_path_there : NodesHaveRootPaths
root_path_there g law n live =
    let up = goes_up g (node_count g) n in (
      up.walk,
      (
        up.end,
        up.route,
        (
          live_end g law n up.end up.walk live up.route,
          ⊎_elim (λ (r : parents_of g up.end ≡ []). r)
              (λ (l : length up.walk ≡ node_count g). absurd (let short = route_short g law n up.end up.walk live up.route in omega arith)) up.done,
        ),
      ),
    )

pub root_path_grows : RootPathsGrow
root_path_grows g n p route child path = (path.0, (child, path.1), path.2)

pub root_path_shrinks : RootPathsShrink
root_path_shrinks g n p route path = (path.1.0, (path.0, path.1.1, path.2))
