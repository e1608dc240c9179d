-- A route has fewer steps than the graph has nodes, since it meets no node twice.
use Rattle.gl_graph.proofs.Words.{[], AllByRecursion, ap, arith, Bool, cases_eq, cons_option, false, filter_map, Graph, id_of, is_live, is_some, IsLawfulGraph}
use Rattle.gl_graph.proofs.Words.{IsRoute, length, List, list_any, nat_tests, no, Node, node_count, NodeId, nodes, None, Option, or_elim, or_right, parents_of}
use Rattle.gl_graph.proofs.Words.{range_with_len, refl, same_node, same_node-equal, same_node-refl, Some, subst, suc, sym, true, with_key, zero, ℕ, ⊎_elim}
use Rattle.gl_graph.proofs.Words.{◌++◌, ◌+◌, ◌<◌, ◌∙◌, ◌∷◌, ◌≡◌, ◌≤◌}
use Rattle.std.specs.List.{IsDistinct}
use Rattle.std.specs.Cmp.{IsEquivalence}
use Rattle.std.proofs.lemmas.Map.Made.{length-le_from_is_member}
use Rattle.gl_graph.proofs.Look.{found, live_node}

pub node_equivalence : IsEquivalence same_node
node_equivalence = record { refl = same_node-refl; symm = λ a b. grind (arith, nat_tests); congr = λ a b c h. ap (λ x. same_node x c) (same_node-equal a b h) }

there_id : (p : NodeId → Bool) (o : Option NodeId) (xs : List NodeId) → list_any p xs ≡ true → list_any p (cons_option o xs) ≡ true
there_id p None xs h = h
there_id p (Some x) xs h = or_right (p x) _ h

here_id : (q : NodeId) (k : ℕ) (o : Option Node) (xs : List NodeId) → is_some (with_key q.key o) ≡ true → q.birth ≡ k
    → list_any (same_node q) (cons_option (id_of k o) xs) ≡ true
here_id q k None xs h e = absurd (no h)
here_id q k (Some n) xs h e = grind arith

found_is : (key : ℕ) (o : Option Node) → is_some (with_key key o) ≡ true → is_some o ≡ true
found_is key o h = let x = live_node (with_key key o) h in ap is_some (found key o x.0 x.1).0

module _ (g : Graph) (law : IsLawfulGraph g) where
  -- a route with one step more
  longer : (s m p : NodeId) (pre : List NodeId) → IsRoute g s pre m → list_any (same_node p) (parents_of g m) ≡ true → IsRoute g s (pre ++ p ∷ []) p
  longer s m p [] route step = (ap (λ x. list_any (same_node p) (parents_of g x)) route ∙ step, refl)
  longer s m p (q ∷ pre) route step = (route.0, longer q m p pre route.1 step)

  no_return : (s p : NodeId) (pre : List NodeId) → IsRoute g s (pre ++ p ∷ []) p → s ≡ p → ⊥
  no_return s p [] route same = law.acyclic s p [] (route.0, sym same)
  no_return s p (q ∷ pre) route same = law.acyclic s q (pre ++ p ∷ []) (route.0, subst (IsRoute g q (pre ++ p ∷ [])) (sym same) route.1)

  apart : (s m r : NodeId) (pre path : List NodeId) → IsRoute g s pre m → IsRoute g m path r → AllByRecursion (λ y. same_node s y ≡ false) path
  apart s m r pre [] before route = tt
  apart s m r pre (p ∷ path) before route = grind (arith, apart s p r (pre ++ p ∷ []) path, longer, no_return, same_node-equal)

  pub distinct : (n r : NodeId) (path : List NodeId) → IsRoute g n path r → IsDistinct same_node (n ∷ path)
  unfolding IsDistinct
  distinct n r [] route = (tt, tt)
  distinct n r (p ∷ path) route = (apart n n r [] (p ∷ path) refl route, distinct p r path route.1)

  pub live_path : (n r q : NodeId) (path : List NodeId) → is_live g n ≡ true → IsRoute g n path r → list_any (same_node q) (n ∷ path) ≡ true
      → is_live g q ≡ true
  live_path n r q [] live route h = or_elim _ _ h (λ here. ap (is_live g) (same_node-equal q n here) ∙ live) (λ none. absurd (no none))
  live_path n r q (p ∷ path) live route h = grind (arith, live_path p r q path)

  listed_from : (q : NodeId) (k n : ℕ) → k ≤ q.birth → q.birth < k + n → is_live g q ≡ true
      → list_any (same_node q) (filter_map (λ b. id_of b (g.at b)) (range_with_len k n)) ≡ true
  listed_from q k zero low high live = absurd (omega arith)
  listed_from q k (suc n) low high live =
      ⊎_elim (λ e. here_id q k (g.at k) _ (sym (ap (λ b. is_some (with_key q.key (g.at b))) e) ∙ live) e)
      (λ ne. there_id (same_node q) (id_of k (g.at k)) _ (listed_from q (k + 1) n (omega arith) (omega arith) live)) (cases_eq q.birth k)

  pub listed : (q : NodeId) → is_live g q ≡ true → list_any (same_node q) (nodes g) ≡ true
  listed q live = grind (arith, found_is, listed_from)

  -- a route has fewer steps than the graph has nodes
  pub route_short : (n r : NodeId) (path : List NodeId) → is_live g n ≡ true → IsRoute g n path r → length path < node_count g
  route_short n r path live route =
      let few = length-le_from_is_member node_equivalence (n ∷ path) (nodes g) (distinct n r path route)
      (λ q h. listed q (live_path n r q path live route h)) in
      omega arith

  pub live_end : (n r : NodeId) (path : List NodeId) → is_live g n ≡ true → IsRoute g n path r → is_live g r ≡ true
  live_end n r [] live route = ap (is_live g) (sym route) ∙ live
  live_end n r (p ∷ path) live route = live_end p r path (law.parents_live n p route.0) route.1
