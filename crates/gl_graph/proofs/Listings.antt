-- The lists of nodes and of indexes, birth by birth.
use Rattle.gl_graph.proofs.Words.{[], ap, ap₂, arith, Bool, cons_option, filter, filter_map, Graph, id_of, if◌then◌else◌, indexes_of, is_index_of_shape, length}
use Rattle.gl_graph.proofs.Words.{List, NodeId, None, Option, range_with_len, refl, shape_of, Some, suc, zero, ℕ, ◌++◌, ◌+◌, ◌<◌, ◌∷◌, ◌≡◌, ◌≤◌, ◌⊎◌}

abbrev pub kept : (NodeId → Bool) → Option NodeId → Option NodeId
kept p None = None
kept p (Some x) = if p x then Some x else None

pub filter_of_map : (p : NodeId → Bool) (h : ℕ → Option NodeId) (bs : List ℕ) → filter p (filter_map h bs) ≡ filter_map (λ b. kept p (h b)) bs
filter_of_map p h [] = refl
filter_of_map p h (b ∷ bs) = grind (arith, filter_of_map p h bs)

pub range_append : (a n m k c : ℕ) → n + m ≡ k → a + n ≡ c → range_with_len a k ≡ range_with_len a n ++ range_with_len c m
range_append a zero m k c e f = let same : k ≡ m = omega arith in let from : a ≡ c = omega arith in ap₂ range_with_len from same
range_append a (suc n) m zero c e f = absurd (omega arith)
range_append a (suc n) m (suc k) c e f = ap (λ xs. a ∷ xs) (range_append (a + 1) n m k c (omega arith) (omega arith))

pub map_same : (h h' : ℕ → Option NodeId) (a n : ℕ) → ((b : ℕ) → a ≤ b → b < a + n → h' b ≡ h b)
    → filter_map h' (range_with_len a n) ≡ filter_map h (range_with_len a n)
map_same h h' a zero same = refl
map_same h h' a (suc n) same = ap₂ cons_option (same a (omega arith) (omega arith)) (map_same h h' (a + 1) n (λ b low high. same b (omega arith) (omega arith)))

cons_fewer : (o o' : Option NodeId) (xs xs' : List NodeId) → (o' ≡ o) ⊎ (o' ≡ None) → length xs' ≤ length xs
    → length (cons_option o' xs') ≤ length (cons_option o xs)
cons_fewer o o' xs xs' e le = grind arith

pub map_fewer : (h h' : ℕ → Option NodeId) → ((b : ℕ) → (h' b ≡ h b) ⊎ (h' b ≡ None)) → (bs : List ℕ) → length (filter_map h' bs) ≤ length (filter_map h bs)
map_fewer h h' fewer [] = omega arith
map_fewer h h' fewer (b ∷ bs) = cons_fewer (h b) (h' b) (filter_map h bs) (filter_map h' bs) (fewer b) (map_fewer h h' fewer bs)

-- the index of a file that was born as the b-th
abbrev pub index_born : Graph → NodeId → ℕ → Option NodeId
index_born g f b = kept (λ q. is_index_of_shape f (shape_of g q)) (id_of b (g.at b))

pub indexes_are : (g : Graph) (f : NodeId) → indexes_of g f ≡ filter_map (index_born g f) (range_with_len 1 g.births)
indexes_are g f = filter_of_map (λ q. is_index_of_shape f (shape_of g q)) (λ b. id_of b (g.at b)) (range_with_len 1 g.births)
