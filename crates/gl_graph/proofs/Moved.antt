-- The law of the graph is kept when an inner node, a file or an index moves, and when a record gets another key.
use Rattle.gl_graph.proofs.Words.{[], ap, AreInnerParents, arith, Bool, File, first_in, first_parent, Graph, HasShape, Index, indexes_of, Inner, is_at_or_below}
use Rattle.gl_graph.proofs.Words.{is_child, is_file_shape, is_live, is_movable_shape, is_record_shape, IsLawfulGraph, IsRoute, keys_in, keys_with}
use Rattle.gl_graph.proofs.Words.{least_parents, length, List, list_all, list_any, no, Node, node_at, node_count, NodeId, not, or_elim, or_left, or_right}
use Rattle.gl_graph.proofs.Words.{parents_in, parents_of, Rec, record_parents, refl, rekeyed, rekeyed_keys, rekeyed_parents, same_node, same_node-equal}
use Rattle.gl_graph.proofs.Words.{same_node-from_equal, same_node-refl, Shape, shape_in, shape_of, Some, subst, suc, sym, true, with_node, with_parents, zero}
use Rattle.gl_graph.proofs.Words.{ℕ, ◌∙◌, ◌∷◌, ◌≡◌, ◌≤◌}
use Rattle.gl_graph.proofs.Look.{all_at}
use Rattle.gl_graph.proofs.KindRules.{Frames, is_plain, file_plain, plain_live, rec_not_plain, parent_plain, record_parent_plain, parents_kept}
use Rattle.gl_graph.proofs.KindRules.{index_kept, record_parents_kept}
use Rattle.gl_graph.proofs.Changed.{IsAlike, changed_frames, changed_lawful, indexes_same}
use Rattle.gl_graph.proofs.RouteLengths.{route_short}

pub some_at : (q : NodeId → Bool) (ps : List NodeId) (p : NodeId) → list_any (same_node p) ps ≡ true → q p ≡ true → list_any q ps ≡ true
some_at q [] p h k = absurd (no h)
some_at q (x ∷ xs) p h k = grind (arith, some_at q xs p)

-- p is n or has a route to n: by at most k steps, both ways
pub below_found : (g : Graph) (n : NodeId) (k : ℕ) (p : NodeId) (path : List NodeId) → length path ≤ k → IsRoute g p path n → is_at_or_below k g n p ≡ true
below_found g n zero p [] few r = same_node-from_equal n p (sym r)
below_found g n zero p (q ∷ path) few r = absurd (omega arith)
below_found g n (suc k) p [] few r = or_left _ _ (same_node-from_equal n p (sym r))
below_found g n (suc k) p (q ∷ path) few r = grind (arith, below_found g n k q path (omega arith), or_right, some_at)

-- if some pass, one is found
pub any_found : (q : NodeId → Bool) (ps : List NodeId) → list_any q ps ≡ true → (p : NodeId) × (list_any (same_node p) ps ≡ true) × (q p ≡ true)
any_found q [] h = absurd (no h)
any_found q (x ∷ xs) h = grind (arith, any_found q xs)

pub below_route : (g : Graph) (n : NodeId) (k : ℕ) (p : NodeId) → is_at_or_below k g n p ≡ true → (path : List NodeId) × IsRoute g p path n
below_route g n zero p h = ([], sym (same_node-equal n p h))
below_route g n (suc k) p h =
    or_elim _ _ h (λ here. ([], sym (same_node-equal n p here))) (λ up.
    let step = any_found (is_at_or_below k g n) (parents_of g p) up in
    let rest = below_route g n k step.0 step.2 in
    (step.0 ∷ rest.0, (step.1, rest.1)))

-- with as many steps as there are nodes nothing is missed
pub below_complete : (g : Graph) (law : IsLawfulGraph g) (n p : NodeId) (path : List NodeId) → is_live g p ≡ true → IsRoute g p path n
    → is_at_or_below (node_count g) g n p ≡ true
below_complete g law n p path live r = below_found g n (node_count g) p path (let few = route_short g law p n path live r in omega arith) r

pub with_parents_is : (g : Graph) (n : NodeId) (ps : List NodeId) (was : Node) → node_at g n ≡ Some was
    → with_node g n.birth (record was { parents = ps }) ≡ with_parents g n ps
with_parents_is g n ps was e = grind arith

pub rekeyed_is : (g : Graph) (r index : NodeId) (key : ℕ) (was : Node) → node_at g r ≡ Some was
    → with_node g r.birth (record { key = was.key; shape = Rec (rekeyed_keys g r index key); parents = rekeyed_parents g r index key }) ≡ rekeyed g r index key
rekeyed_is g r index key was e = grind arith

pub movable_alike : (sh : Shape) → is_movable_shape (Some sh) ≡ true → IsAlike sh sh
movable_alike sh h = grind arith

pub rec_alike : (was : Shape) (keys keys' : List ℕ) → was ≡ Rec keys → IsAlike was (Rec keys')
rec_alike was keys keys' e = grind arith

module _ (g : Graph) (law : IsLawfulGraph g) (n : NodeId) (was : Node) (there : node_at g n ≡ Some was) where
  -- a move
  move_well : (ps : List NodeId) (g' : Graph) (sh : Shape) → was.shape ≡ sh → is_movable_shape (Some sh) ≡ true → Frames g g'
      → AreInnerParents g (least_parents (Some sh)) ps → HasShape g n sh was.parents → HasShape g' n sh ps
  move_well ps g' Inner e m same inner h = parents_kept g g' law same 0 ps inner
  move_well ps g' (File adopted) e m same inner h = parents_kept g g' law same 1 ps inner
  move_well ps g' (Index f bs is) e m same inner h = (parents_kept g g' law same 1 ps inner, index_kept g g' law same n f bs is h.1)
  move_well ps g' _ e m same inner h = absurd (no m)

  pub move_lawful : (ps : List NodeId) → is_movable_shape (Some was.shape) ≡ true → AreInnerParents g (least_parents (Some was.shape)) ps
      → list_all (is_live g) ps ≡ true
      → list_all (λ p. not (is_at_or_below (node_count g) g n p)) ps ≡ true → IsLawfulGraph (with_parents g n ps)
  move_lawful ps movable inner live clear =
      let alike = movable_alike was.shape movable in
      subst IsLawfulGraph (with_parents_is g n ps was there)
      (changed_lawful g n was (record was { parents = ps }) there refl alike law
      (move_well ps (with_node g n.birth (record was { parents = ps })) was.shape refl movable
      (changed_frames g n was (record was { parents = ps }) there refl alike) inner (law.well_formed n was there))
      (λ p h. all_at (is_live g) ps p h live)
      (λ p path h r. no (grind (arith, below_complete, all_at))))

  -- no route leads to a record from a node that is none
  pub record_end : (p : NodeId) (path : List NodeId) → is_record_shape (shape_of g n) ≡ true → is_plain (shape_of g p) ≡ true → IsRoute g p path n → ⊥
  record_end p [] rec plain r = rec_not_plain (shape_of g n) rec (ap (λ q. is_plain (shape_of g q)) (sym r) ∙ plain)
  record_end p (q ∷ path) rec plain r = record_end q path rec (parent_plain g law p q r.0) r.1

  pub file_of_record : (keys : List ℕ) → was.shape ≡ Rec keys → (is_file_shape (shape_of g (first_parent g n)) ≡ true)
      × (length keys ≡ length (indexes_of g (first_parent g n))) × (is_child g (first_parent g n) n ≡ true)
      × (was.parents ≡ record_parents g (first_parent g n) keys)
  file_of_record keys e =
      let h = subst (λ sh. HasShape g n sh was.parents) e (law.well_formed n was there) in
      let ps : parents_of g n ≡ record_parents g h.0 keys = ap parents_in there ∙ h.1.parents in
      let first : first_parent g n ≡ h.0 = ap first_in ps in
      subst (λ f. (is_file_shape (shape_of g f) ≡ true) × (length keys ≡ length (indexes_of g f)) × (is_child g f n ≡ true)
      × (was.parents ≡ record_parents g f keys)) (sym first)
      (h.1.file_is, h.1.a_key_each, ap (list_any (same_node h.0)) ps ∙ or_left _ _ (same_node-refl h.0), h.1.parents)

  keys_with_length : (is : List NodeId) (keys : List ℕ) (index : NodeId) (key : ℕ) → length keys ≡ length is → length (keys_with is keys index key) ≡ length is
  keys_with_length [] keys index key e = e
  keys_with_length (i ∷ is) [] index key e = e
  keys_with_length (i ∷ is) (k ∷ ks) index key e = ap suc (keys_with_length is ks index key (omega arith))

  pub rekey_lawful : (keys : List ℕ) (index : NodeId) (key : ℕ) → was.shape ≡ Rec keys → IsLawfulGraph (rekeyed g n index key)
  rekey_lawful keys index key e =
      let is : Node = record { key = was.key; shape = Rec (rekeyed_keys g n index key); parents = rekeyed_parents g n index key } in
      let alike = rec_alike was.shape keys (rekeyed_keys g n index key) e in
      let frames = changed_frames g n was is there refl alike in
      let file = file_of_record keys e in
      let rec : is_record_shape (shape_of g n) ≡ true = ap (λ o. is_record_shape (shape_in o)) there ∙ ap (λ x. is_record_shape (Some x)) e in
      let keys_are : keys_in (shape_of g n) ≡ keys = ap (λ o. keys_in (shape_in o)) there ∙ ap (λ x. keys_in (Some x)) e in
      subst IsLawfulGraph (rekeyed_is g n index key was there)
      (changed_lawful g n was is there refl alike law (
        first_parent g n,
        record {
          file_is = (frames.shapes (first_parent g n) (file_plain _ file.0)).file ∙ file.0;
          a_key_each = grind (arith, keys_with_length, indexes_same);
          parents = sym (record_parents_kept g (with_node g n.birth is) law frames (first_parent g n) (rekeyed_keys g n index key)
              (indexes_same g n was is there refl alike (first_parent g n)));
        },
      )
      (λ p h. plain_live g p (record_parent_plain g law (first_parent g n) p (rekeyed_keys g n index key) file.0 h))
      (λ p path h r. record_end p path rec (record_parent_plain g law (first_parent g n) p (rekeyed_keys g n index key) file.0 h) r))
