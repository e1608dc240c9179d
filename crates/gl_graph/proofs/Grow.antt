-- One node after the other is born.
use Rattle.gl_graph.proofs.Words.{[], and_both, ap, are_apart, AreIntervalsBorn, arith, born_node, born_nodes, both, false, get, Graph, graph_of, ids_of, inr}
use Rattle.gl_graph.proofs.Words.{Interval, interval_nodes, is_some, IsGrown, keys_of, length, length-append, List, list_any, list_any-append, no, Node}
use Rattle.gl_graph.proofs.Words.{node_of, NodeId, None, none_some, not-true, number_other, or-false, or_elim, other_number, parents_in_body, refl, same_number}
use Rattle.gl_graph.proofs.Words.{seen, shape_in_body, Slab, slab_len, Some, some_is, split, Stored, subst, suc, sym, true, Updates, vertex_of, ℕ, ◌++◌, ◌+◌}
use Rattle.gl_graph.proofs.Words.{◌==◌, ◌||◌, ◌∙◌, ◌∷◌, ◌≡◌, ◌≢◌}
use Rattle.gl_graph.proofs.Unrefused.{or_no}
use Rattle.gl_graph.proofs.Slots.{inserted, inserted_apart, inserted_within}

pub born_more : (g : Graph) (ns : List Node) (n : Node) → born_nodes g (ns ++ n ∷ []) ≡ born_node (born_nodes g ns) n
born_more g [] n = refl
born_more g (m ∷ ns) n = born_more (born_node g m) ns n

keys_more : (ns : List Node) (n : Node) → keys_of (ns ++ n ∷ []) ≡ keys_of ns ++ n.key ∷ []
keys_more [] n = refl
keys_more (m ∷ ns) n = ap (λ xs. m.key ∷ xs) (keys_more ns n)

any_more : (k : ℕ) (xs : List ℕ) (x : ℕ) → list_any (λ y. y == k) (xs ++ x ∷ []) ≡ (list_any (λ y. y == k) xs || (x == k))
any_more k xs x = list_any-append (λ y. y == k) xs (x ∷ []) ∙ ap (λ b. list_any (λ y. y == k) xs || b) (or-false (x == k))

apart_more : (xs : List ℕ) (x : ℕ) → are_apart xs ≡ true → list_any (λ y. y == x) xs ≡ false → are_apart (xs ++ x ∷ []) ≡ true
apart_more [] x h k = refl
apart_more (y ∷ xs) x h k = grind (arith, apart_more xs x, and_both, or_no, both, any_more, not-true, number_other, other_number)

module _ (old now next : Slab Stored) (births : ℕ) (ns : List Node) (grown : IsGrown old births now ns) (key : ℕ) (x : Stored)
    (free : get now key ≡ None) (u : Updates now next key (Some x)) (birth : x.birth ≡ births + length ns + 1)
    (len : slab_len next ≡ slab_len now + 1) (shape : shape_in_body x.body ≡ Interval) where
  abbrev more : List Node
  more = ns ++ node_of key (vertex_of x) ∷ []

  count : births + length ns + 1 ≡ births + length more
  count = let e = length-append ns (node_of key (vertex_of x) ∷ []) in omega arith

  not_key : (k : ℕ) (y : Stored) → get now k ≡ Some y → k ≢ key
  not_key k y e same = none_some (sym free ∙ ap (get now) (sym same) ∙ e)

  unlisted : list_any (λ y. y == key) (keys_of ns) ≡ false
  unlisted = split (list_any (λ y. y == key) (keys_of ns)) (λ e. absurd (no (sym (ap is_some free) ∙ grown.taken key e))) (λ e. e)

  listed : (k : ℕ) → list_any (λ y. y == k) (keys_of more) ≡ (list_any (λ y. y == k) (keys_of ns) || (key == k))
  listed k = ap (list_any (λ y. y == k)) (keys_more ns (node_of key (vertex_of x))) ∙ any_more k (keys_of ns) key

  was_vacant : get old key ≡ None
  was_vacant = grind arith

  pub grown_more : IsGrown old births next more
  grown_more = record {
    graph = λ limits.
        ap (λ b. graph_of (seen limits next b)) (sym count)
        ∙ inserted limits now next (births + length ns) key x grown.apart grown.within free u birth
        ∙ ap (λ g. born_node g (node_of key (vertex_of x))) (grown.graph limits)
        ∙ sym (born_more (graph_of (seen limits old births)) ns (node_of key (vertex_of x)));
    apart = inserted_apart (record { most = 0; most_bounds = 0 }) now next (births + length ns) key x grown.apart grown.within free u birth;
    within = grind (arith, count, inserted_within);
    len = let e = length-append ns (node_of key (vertex_of x) ∷ []) in let was = grown.len in omega arith;
    stays = λ k y e. let now_there = grown.stays k y e in u.others k (not_key k y now_there) ∙ now_there;
    came = λ k y e. split (k == key)
        (λ t. let same : x ≡ y = some_is (sym u.changed ∙ ap (get next) (sym (same_number k key t)) ∙ e) in
        inr (ap (λ z. shape_in_body z.body) (sym same) ∙ shape))
        (λ t. grown.came k y (sym (u.others k (other_number k key t)) ∙ e));
    vacant = λ k h. or_elim _ _ (sym (listed k) ∙ h) (λ was. grown.vacant k was) (λ is. ap (get old) (sym (same_number key k is)) ∙ was_vacant);
    taken = grind (arith, same_number, other_number, or_elim, listed);
    keys_apart = ap are_apart (keys_more ns (node_of key (vertex_of x))) ∙ apart_more (keys_of ns) key grown.keys_apart unlisted;
  }

-- one more interval
pub intervals_more : (index : NodeId) (keys : List ℕ) (key : ℕ)
    → interval_nodes index (keys ++ key ∷ []) ≡ interval_nodes index keys ++ record { key = key; shape = Interval; parents = index ∷ [] } ∷ []
intervals_more index [] key = refl
intervals_more index (k ∷ keys) key = ap (λ xs. record { key = k; shape = Interval; parents = index ∷ [] } ∷ xs) (intervals_more index keys key)

pub ids_more : (birth : ℕ) (keys : List ℕ) (key b : ℕ) → birth + length keys ≡ b → ids_of birth (keys ++ key ∷ []) ≡ ids_of birth keys
    ++ record { key = key; birth = b } ∷ []
ids_more birth [] key b e = let same : birth ≡ b = omega arith in λ i. record { key = key; birth = same i } ∷ []
ids_more birth (k ∷ keys) key b e = ap (λ xs. record { key = k; birth = birth } ∷ xs) (ids_more (birth + 1) keys key b (omega arith))

pub count_intervals : (index : NodeId) (keys : List ℕ) → length (interval_nodes index keys) ≡ length keys
count_intervals index [] = refl
count_intervals index (k ∷ keys) = ap suc (count_intervals index keys)

pub intervals_born : (old now next : Slab Stored) (index : NodeId) (place : ℕ) (ids next_ids : List NodeId)
    (born : AreIntervalsBorn old now index place ids) (key : ℕ) (x : Stored) → get now key ≡ None → Updates now next key (Some x)
    → x.birth ≡ index.birth + 1 + place
    → slab_len next ≡ slab_len now + 1 → shape_in_body x.body ≡ Interval → parents_in_body x.body ≡ index ∷ [] → next_ids ≡ ids
    ++ record { key = key; birth = index.birth + 1 + place } ∷ [] → AreIntervalsBorn old next index (place + 1) next_ids
intervals_born old now next index place ids next_ids born key x free u birth len shape parents listed =
    let many = born.many in
    let nodes = count_intervals index born.keys in
    let node : node_of key (vertex_of x) ≡ record { key = key; shape = Interval; parents = index ∷ [] } = grind arith in
    let more = grown_more old now next index.birth (interval_nodes index born.keys) born.grown key x free u (omega arith) len shape in
    record {
      keys = born.keys ++ key ∷ [];
      many = length-append born.keys (key ∷ []) ∙ ap (λ n. n + 1) many;
      grown = subst (IsGrown old index.birth next) (ap (λ n. interval_nodes index born.keys ++ n ∷ []) node ∙ sym (intervals_more index born.keys key)) more;
      ids_are = grind (arith, listed, ids_more);
    }
