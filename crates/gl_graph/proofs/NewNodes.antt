-- A new inner node, file or record, and a new index with its intervals: the law of the graph is kept.
use Rattle.gl_graph.proofs.Words.{[], and_both, ap, are_apart, AreInnerParents, arith, born_node, false, File, Graph, indexes_of, inl, Inner, is_file_shape}
use Rattle.gl_graph.proofs.Words.{is_index_of_shape, is_inner_shape, is_live, IsFreeKey, IsLawfulGraph, IsWellFormed, keys_of, length, List, list_any, no, Node}
use Rattle.gl_graph.proofs.Words.{node_count, NodeId, none_some, not, number_same, or_right, Rec, record_parents, refl, same_node, shape_in, shape_of, Some}
use Rattle.gl_graph.proofs.Words.{some_is, subst, suc, sym, true, zero, ℕ, ◌+◌, ◌<◌, ◌==◌, ◌||◌, ◌∙◌, ◌∷◌, ◌≡◌, ◌≤◌}
use Rattle.gl_graph.proofs.Tally.{list_borns}
use Rattle.gl_graph.proofs.Look.{all_at}
use Rattle.gl_graph.proofs.KindRules.{inner_plain, file_plain, plain_live, record_parent_plain, parents_kept, record_parents_kept}
use Rattle.gl_graph.proofs.Counts.{count_grown}
use Rattle.gl_graph.proofs.Born.{place_in, born_frames, born_lawful}

pub place_there : (ns : List Node) (k : ℕ) → k < length ns → (node : Node) × (place_in ns k ≡ Some node)
place_there [] k low = absurd (omega arith)
place_there (n ∷ ns) zero low = (n, refl)
place_there (n ∷ ns) (suc k) low = place_there ns k (omega arith)

pub key_listed : (ns : List Node) (k : ℕ) (node : Node) → place_in ns k ≡ Some node → list_any (λ x. x == node.key) (keys_of ns) ≡ true
key_listed [] k node e = absurd (none_some e)
key_listed (n ∷ ns) zero node e = ap (λ b. b || list_any (λ x. x == node.key) (keys_of ns)) (number_same n.key node.key (ap (λ x. x.key) (some_is e)))
key_listed (n ∷ ns) (suc k) node e = or_right (n.key == node.key) _ (key_listed ns k node e)

first_apart : (n : Node) (ns : List Node) → are_apart (keys_of (n ∷ ns)) ≡ true → (k : ℕ) (b : Node) → place_in ns k ≡ Some b → n.key ≡ b.key → ⊥
first_apart n ns h k b e same = no (sym (ap not (ap (λ x. list_any (λ y. y == x) (keys_of ns)) same ∙ key_listed ns k b e)) ∙ (and_both _ _ h).0)

pub places_apart : (ns : List Node) → are_apart (keys_of ns) ≡ true → (j k : ℕ) (a b : Node) → place_in ns j ≡ Some a → place_in ns k ≡ Some b
    → a.key ≡ b.key → j ≡ k
places_apart [] h j k a b e f same = absurd (none_some e)
places_apart (n ∷ ns) h zero zero a b e f same = refl
places_apart (n ∷ ns) h zero (suc k) a b e f same = absurd (first_apart n ns h k b f (ap (λ x. x.key) (some_is e) ∙ same))
places_apart (n ∷ ns) h (suc j) zero a b e f same = absurd (first_apart n ns h j a e (ap (λ x. x.key) (some_is f) ∙ sym same))
places_apart (n ∷ ns) h (suc j) (suc k) a b e f same = ap suc (places_apart ns (and_both _ _ h).1 j k a b e f same)

-- one new node, no index
module _ (g : Graph) (law : IsLawfulGraph g) (node : Node) (no_index : (f : NodeId) → is_index_of_shape f (Some node.shape) ≡ false) where
  abbrev one : List Node
  one = node ∷ []

  only : (k : ℕ) (x : Node) → place_in one k ≡ Some x → (k ≡ 0) × (node ≡ x)
  only zero x e = (refl, some_is e)
  only (suc k) x e = absurd (none_some e)

  pub one_indexes : (f : NodeId) → indexes_of (born_node g node) f ≡ indexes_of g f
  one_indexes f = list_borns (λ n o. is_index_of_shape f (shape_in o)) g one
      (λ k x e n. ap (λ y. is_index_of_shape f (Some y.shape)) (sym (only k x e).1) ∙ no_index f)

  pub one_lawful : IsWellFormed (born_node g node) (record { key = node.key; birth = g.births + 1 }) node
      → ((p : NodeId) → list_any (same_node p) node.parents ≡ true → is_live g p ≡ true)
      → IsFreeKey g node.key → node_count g + 1 ≤ g.most → IsLawfulGraph (born_node g node)
  one_lawful well up free room =
      born_lawful g law one (λ f r h k. one_indexes f) (λ k x e. grind arith)
      (λ k x p e h. inl (up p (ap (λ y. list_any (same_node p) y.parents) (only k x e).1 ∙ h))) (λ k x e. subst (λ y. IsFreeKey g y.key) (only k x e).1 free)
      (λ j k a b e f same. (only j a e).0 ∙ sym (only k b f).0) (λ f. subst (λ (is : List NodeId). length is ≤ 7) (sym (one_indexes f)) (law.seven_indexes f))
      (let all = count_grown g law one in omega arith)

pub inner_lawful : (g : Graph) (law : IsLawfulGraph g) (key : ℕ) (ps : List NodeId) → AreInnerParents g 0 ps → IsFreeKey g key
    → node_count g + 1 ≤ g.most → IsLawfulGraph (born_node g (record { key = key; shape = Inner; parents = ps }))
inner_lawful g law key ps inner free room =
    let node : Node = record { key = key; shape = Inner; parents = ps } in
    one_lawful g law node (λ f. refl) (parents_kept g (born_node g node) law
    (born_frames g law (node ∷ []) (λ f r h k. one_indexes g law node (λ f'. refl) f)) 0 ps inner)
    (λ p h. plain_live g p (inner_plain _ (all_at (λ q. is_inner_shape (shape_of g q)) ps p h inner.inner))) free room

pub file_lawful : (g : Graph) (law : IsLawfulGraph g) (key : ℕ) (ps : List NodeId) → AreInnerParents g 1 ps → IsFreeKey g key
    → node_count g + 1 ≤ g.most → IsLawfulGraph (born_node g (record { key = key; shape = File false; parents = ps }))
file_lawful g law key ps inner free room =
    let node : Node = record { key = key; shape = File false; parents = ps } in
    one_lawful g law node (λ f. refl) (grind arith)
    (λ p h. plain_live g p (inner_plain _ (all_at (λ q. is_inner_shape (shape_of g q)) ps p h inner.inner))) free room

pub record_lawful : (g : Graph) (law : IsLawfulGraph g) (key : ℕ) (file : NodeId) (keys : List ℕ) → is_file_shape (shape_of g file) ≡ true
    → length keys ≡ length (indexes_of g file) → IsFreeKey g key → node_count g + 1 ≤ g.most
    → IsLawfulGraph (born_node g (record { key = key; shape = Rec keys; parents = record_parents g file keys }))
record_lawful g law key file keys is_file each free room =
    let node : Node = record { key = key; shape = Rec keys; parents = record_parents g file keys } in
    let frames = born_frames g law (node ∷ []) (λ f r h k. one_indexes g law node (λ f'. refl) f) in
    let same = one_indexes g law node (λ f'. refl) file in
    one_lawful g law node (λ f. refl)
    (grind (arith, file_plain, record_parents_kept)) (λ p h. plain_live g p (record_parent_plain g law file p keys is_file h)) free room
