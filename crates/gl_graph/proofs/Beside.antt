-- What is stored beside the graph, read from the node that an id names.
use Rattle.gl_graph.proofs.Words.{[], ap, arith, beside_in_body, Body, Bool, Bor, bounds_in, cond, count_by, due, get, Graph, graph_of, Holds, IfSome}
use Rattle.gl_graph.proofs.Words.{indexes_in_body, indexes_of, Inside, intervals_in, is_file_shape, is_index_shape, IsIndexNode, IsItemAt, IsLawfulGraph}
use Rattle.gl_graph.proofs.Words.{IsSound, length, limits_of, List, list_any, Lists, named, named_in, nat_lt, nat_tests, node_at, node_of, NodeId, None}
use Rattle.gl_graph.proofs.Words.{none_some, Option, option_copied, option_map, record_count, records_in_body, refl, shape_in, shape_in_body, shape_of, Slab}
use Rattle.gl_graph.proofs.Words.{slice_get, slice_get_past, slice_get_read, Some, split, Stored, subst, sum_by-cons, sym, true, vertex_of, View, view_of}
use Rattle.gl_graph.proofs.Words.{zero-add, ℕ, ◌+◌, ◌||◌, ◌∙◌, ◌∷◌, ◌≡◌}
use Rattle.gl_graph.specs.declared.node.Body.TheVariants as body
use Rattle.gl_graph.proofs.Dues.{file_due}
use Rattle.gl_graph.proofs.Held.{beside_stored}
use Rattle.gl_graph.proofs.KindRules.{its_rules}
use Rattle.gl_graph.proofs.Slots.{node_named, seen_in}

-- the slot of a node that an id names
named_from : (o : Option Stored) (birth : ℕ) (x : Stored) → named_in birth o ≡ Some x → (o ≡ Some x) × (x.birth ≡ birth)
named_from None birth x e = absurd (none_some e)
named_from (Some y) birth x e = grind arith

pub named_slot : (s : Slab Stored) (n : NodeId) (x : Stored) → named s n ≡ Some x → (get s n.key ≡ Some x) × (x.birth ≡ n.birth)
named_slot s n x e = named_from (get s n.key) n.birth x e

-- a sound slab holds what its graph says
module _ (i : Inside) (sound : IsSound i) (v : View) (view : view_of i ≡ v) where
  pub law_of : IsLawfulGraph (graph_of v)
  law_of = subst (λ (w : View). IsLawfulGraph (graph_of w)) view sound.lawful

  pub held : Holds (limits_of i) i.nodes i.births (graph_of v) (due (graph_of v))
  held = subst (λ (w : View). Holds (limits_of i) i.nodes i.births (graph_of w) (due (graph_of w))) view sound.holds

  -- a look-up shows the node that the id names, and what is due beside it
  pub node_shown : (n : NodeId) (r : Option (Bor Stored)) → option_copied r ≡ named i.nodes n
      → option_map (λ (x : Bor Stored). node_of n.key (vertex_of x.now)) r ≡ node_at (graph_of v) n
  node_shown n r e =
      by r ∙ ap (seen_in n.key) e ∙ sym (node_named (limits_of i) i.nodes i.births sound.holds.apart n) ∙ ap (λ w. node_at (graph_of w) n) view
    where
      by : (r : Option (Bor Stored)) → option_map (λ (x : Bor Stored). node_of n.key (vertex_of x.now)) r ≡ seen_in n.key (option_copied r)
      by None = refl
      by (Some x) = refl

  pub beside_shown : (n : NodeId) (r : Option (Bor Stored)) → option_copied r ≡ named i.nodes n
      → IfSome r (λ x. beside_in_body x.now.body ≡ due (graph_of v) n)
  beside_shown n None e = tt
  beside_shown n (Some x) e = let slot = named_slot i.nodes n x.now (sym e) in beside_stored held n x.now slot.0 slot.1

lists_stored : (b : Body) (is : List NodeId) (k : ℕ) → beside_in_body b ≡ Lists is k → (indexes_in_body b ≡ is) × (records_in_body b ≡ k)
lists_stored (body.File kept above) is k e = grind arith
lists_stored _ is k e = cc

-- what is stored beside a file
pub indexes_found : (g : Graph) (f : NodeId) (b : Body) → beside_in_body b ≡ due g f → is_file_shape (shape_of g f) ≡ true → indexes_in_body b ≡ indexes_of g f
indexes_found g f b e h = (lists_stored b _ _ (e ∙ file_due g f h)).0

pub records_found : (g : Graph) (f : NodeId) (b : Body) → beside_in_body b ≡ due g f → is_file_shape (shape_of g f) ≡ true
    → records_in_body b ≡ record_count g f
records_found g f b e h = (lists_stored b _ _ (e ∙ file_due g f h)).1

-- a test passes somewhere exactly if it is not counted 0 times
pub any_counted : {A : Type 0} (p : A → Bool) (xs : List A) → nat_lt 0 (count_by p xs) ≡ list_any p xs
any_counted p [] = refl
any_counted p (x ∷ xs) =
    ap (nat_lt 0) (sum_by-cons (λ y. cond (p y) 1 0) x xs)
    ∙ split (p x) (λ t. ap (λ b. nat_lt 0 (cond b 1 0 + count_by p xs)) t ∙ positive (count_by p xs) ∙ sym (ap (λ b. b || list_any p xs) t))
    (λ t. ap (λ b. nat_lt 0 (cond b 1 0 + count_by p xs)) t ∙ ap (nat_lt 0) (zero-add (count_by p xs)) ∙ any_counted p xs
    ∙ sym (ap (λ b. b || list_any p xs) t))
  where
    positive : (k : ℕ) → nat_lt 0 (1 + k) ≡ true
    positive k = grind (arith, nat_tests)

-- what is required of an index, read from what is stored
pub index_stored : (g : Graph) (law : IsLawfulGraph g) (n : NodeId) (x : Stored) → Some (node_of n.key (vertex_of x)) ≡ node_at g n
    → is_index_shape (shape_of g n) ≡ true
    → (f : NodeId) × IsIndexNode g n f (bounds_in (Some (shape_in_body x.body))) (intervals_in (Some (shape_in_body x.body)))
index_stored g law n x node index =
    subst (λ o. (f : NodeId) × IsIndexNode g n f (bounds_in (shape_in o)) (intervals_in (shape_in o))) (sym node) (its_rules g law n index)

-- what is lent at a place is the element there
pub item_copied : {A : Type 0} (xs : List A) (i : ℕ) (r : Option (Bor A)) → IsItemAt xs i r → option_copied r ≡ slice_get xs i
item_copied xs i None h = sym (slice_get_past xs i (let e = h.0 in grind (arith, nat_tests)))
item_copied xs i (Some x) h = sym (slice_get_read xs (length xs) i x.now refl (let e = h.0 in grind (arith, nat_tests)) h.1)
