-- A record is removed: the law of the graph is kept.
use Rattle.gl_graph.proofs.Words.{ap, arith, cases_of, Graph, if◌then◌else◌, indexes_of, is_child, is_index_of_shape, is_live, is_record_shape, is_some}
use Rattle.gl_graph.proofs.Words.{IsLawfulGraph, length, List, no, Node, node_at, NodeId, None, number_other, number_same, other_number, refl, same_number}
use Rattle.gl_graph.proofs.Words.{shape_in, shape_of, Some, subst, sym, true, with_key, without_node, ℕ, ◌∙◌, ◌≡◌, ◌≢◌, ◌≤◌}
use Rattle.gl_graph.proofs.Look.{live_node, one_birth}
use Rattle.gl_graph.proofs.KindRules.{is_plain, Frames, well_formed_kept, parent_plain, plain_live, rec_not_plain, one_shape}
use Rattle.gl_graph.proofs.Listings.{map_fewer}
use Rattle.gl_graph.proofs.Tally.{list_same}
use Rattle.gl_graph.proofs.Routes.{acyclic_fewer}

module _ (g : Graph) (law : IsLawfulGraph g) (r : NodeId) (rec : is_record_shape (shape_of g r) ≡ true) where
  at_gone : (b : ℕ) → b ≡ r.birth → (without_node g r).at b ≡ None
  at_gone b e = ap (λ x. if x then None else g.at b) (number_same b r.birth e)

  at_beside : (b : ℕ) → b ≢ r.birth → (without_node g r).at b ≡ g.at b
  at_beside b ne = ap (λ x. if x then None else g.at b) (number_other b r.birth ne)

  pub left_same : (q : NodeId) → q.birth ≢ r.birth → node_at (without_node g r) q ≡ node_at g q
  left_same q ne = ap (with_key q.key) (at_beside q.birth ne)

  pub rec_live : is_live g r ≡ true
  rec_live = cases_of (node_at g r) (λ e. absurd (no (sym (ap (λ o. is_record_shape (shape_in o)) e) ∙ rec))) (λ x e. ap is_some e)

  -- other living nodes stay
  pub stays_there : (q : NodeId) → is_live g q ≡ true → q ≢ r → node_at (without_node g r) q ≡ node_at g q
  stays_there q h ne = left_same q (λ e. ne (one_birth g q r h rec_live e))

  pub plain_stays : (q : NodeId) → is_plain (shape_of g q) ≡ true → node_at (without_node g r) q ≡ node_at g q
  plain_stays q h = stays_there q (plain_live g q h) (λ e. rec_not_plain (shape_of g r) rec (ap (λ x. is_plain (shape_of g x)) (sym e) ∙ h))

  pub was_there : (q : NodeId) (x : Node) → node_at (without_node g r) q ≡ Some x → node_at g q ≡ Some x
  was_there q x e = grind arith

  pub was_live : (q : NodeId) → is_live (without_node g r) q ≡ true → is_live g q ≡ true
  was_live q h = let n = live_node (node_at (without_node g r) q) h in ap is_some (was_there q n.0 n.1)

  was_child : (p n : NodeId) → is_child (without_node g r) p n ≡ true → is_child g p n ≡ true
  was_child p n h = grind arith

  pub indexes_left : (f : NodeId) → indexes_of (without_node g r) f ≡ indexes_of g f
  indexes_left f =
      list_same (λ n o. is_index_of_shape f (shape_in o)) (λ n o. is_index_of_shape f (shape_in o)) g (without_node g r) refl (λ b. grind arith)

  pub removed_frames : Frames g (without_node g r)
  removed_frames = grind (arith, one_shape, plain_stays, is_plain, indexes_left)

  pub removed_lawful : IsLawfulGraph (without_node g r)
  removed_lawful = record {
    well_formed = λ q node e. well_formed_kept g (without_node g r) law removed_frames q node (was_there q node e);
    parents_live = λ q p h. let c = was_child p q h in ap is_some (plain_stays p (parent_plain g law q p c)) ∙ law.parents_live q p c;
    acyclic = acyclic_fewer g (without_node g r) was_child law.acyclic;
    keys_differ = λ a b h k e. law.keys_differ a b (was_live a h) (was_live b k) e;
    born = grind arith;
    seven_indexes = λ f. subst (λ (is : List NodeId). length is ≤ 7) (sym (indexes_left f)) (law.seven_indexes f);
    limit = law.limit;
    room = grind (arith, map_fewer, at_gone, same_number, at_beside, other_number);
  }
