-- The nodes that pass a test, listed and counted: how both change if all stays, if one birth changes, and if nodes are born.
use Rattle.gl_graph.proofs.Words.{[], ap, append-nil, ap₂, arith, Bool, born_node, born_nodes, cond, cons_option, count_by, false, filter, filter_map}
use Rattle.gl_graph.proofs.Words.{filter_map-append, Graph, id_of, if◌then◌else◌, List, Node, node_at, NodeId}
use Rattle.gl_graph.proofs.Words.{nodes, None, number_same, Option, other_number, range_with_len, refl, Some, split, suc, sum_by-append, sym}
use Rattle.gl_graph.proofs.Words.{zero, ℕ, ◌&&◌, ◌++◌, ◌+◌, ◌<◌, ◌==◌, ◌∙◌, ◌∷◌, ◌≡◌, ◌≢◌, ◌≤◌}
use Rattle.gl_graph.proofs.Born.{place_in}
use Rattle.gl_graph.proofs.Look.{finds}
use Rattle.gl_graph.proofs.Listings.{kept, filter_of_map, map_same, range_append}
use Rattle.gl_graph.proofs.Counts.{count_cons}

abbrev pub ones : Bool → ℕ
ones b = cond b 1 0

tally_same : (p p' : ℕ → Bool) (a n : ℕ) → ((b : ℕ) → a ≤ b → b < a + n → p' b ≡ p b)
    → count_by p' (range_with_len a n) ≡ count_by p (range_with_len a n)
tally_same p p' a zero same = refl
tally_same p p' a (suc n) same = grind (arith, tally_same p p' (a + 1) n, count_cons)

-- tests that differ at one birth alone
tally_one : (p p' : ℕ → Bool) (c a n : ℕ) → ((b : ℕ) → b ≢ c → p' b ≡ p b) → a ≤ c → c < a + n
    → count_by p' (range_with_len a n) + ones (p c) ≡ count_by p (range_with_len a n) + ones (p' c)
tally_one p p' c a zero same low high = absurd (omega arith)
tally_one p p' c a (suc n) same low high =
    let head : count_by p (range_with_len a (suc n)) ≡ ones (p a) + count_by p (range_with_len (a + 1) n) = count_cons p a (range_with_len (a + 1) n) in
    let head' : count_by p' (range_with_len a (suc n)) ≡ ones (p' a) + count_by p' (range_with_len (a + 1) n) = count_cons p' a (range_with_len (a + 1) n) in
    split (a == c) (λ t. grind (arith, tally_same)) (λ t.
    let ne = other_number a c t in
    let here : ones (p' a) ≡ ones (p a) = ap ones (same a ne) in
    let rest = tally_one p p' c (a + 1) n same (omega arith) (omega arith) in
    omega arith)

-- a test of nodes that no missing node passes
module _ (t : Option Node → Bool) (none : t None ≡ false) where
  abbrev pub count_where : Graph → ℕ
  count_where g = count_by (λ n. t (node_at g n)) (nodes g)

  pub counted_births : (g : Graph) → count_where g ≡ count_by (λ b. t (g.at b)) (range_with_len 1 g.births)
  counted_births g = all (range_with_len 1 g.births)
    where
      one : (b : ℕ) (bs : List ℕ) (o : Option Node) → g.at b ≡ o
          → count_by (λ n. t (node_at g n)) (filter_map (λ c. id_of c (g.at c)) bs) ≡ count_by (λ c. t (g.at c)) bs
          → count_by (λ n. t (node_at g n)) (cons_option (id_of b o) (filter_map (λ c. id_of c (g.at c)) bs)) ≡ ones (t o) + count_by (λ c. t (g.at c)) bs
      one b bs None e rest = let nothing : ones (t None) ≡ 0 = ap ones none in omega arith
      one b bs (Some x) e rest =
          count_cons (λ n. t (node_at g n)) (record { key = x.key; birth = b }) (filter_map (λ c. id_of c (g.at c)) bs)
          ∙ ap₂ (λ z k. ones z + k) (ap t (finds x.key (g.at b) x e refl)) rest

      all : (bs : List ℕ) → count_by (λ n. t (node_at g n)) (filter_map (λ c. id_of c (g.at c)) bs) ≡ count_by (λ c. t (g.at c)) bs
      all [] = refl
      all (b ∷ bs) = one b bs (g.at b) refl (all bs) ∙ sym (count_cons (λ c. t (g.at c)) b bs)

  -- one birth changes at most
  pub count_changed : (g g' : Graph) (c : ℕ) → g'.births ≡ g.births → ((b : ℕ) → b ≢ c → t (g'.at b) ≡ t (g.at b)) → 1 ≤ c → c ≤ g.births
      → count_where g' + ones (t (g.at c)) ≡ count_where g + ones (t (g'.at c))
  count_changed g g' c births same low high =
      let one = tally_one (λ b. t (g.at b)) (λ b. t (g'.at b)) c 1 g.births same low (omega arith) in
      let was = counted_births g in
      let is : count_where g' ≡ count_by (λ b. t (g'.at b)) (range_with_len 1 g.births) = grind (arith, counted_births) in
      omega arith

  -- no birth changes
  pub count_kept : (g g' : Graph) → g'.births ≡ g.births → ((b : ℕ) → t (g'.at b) ≡ t (g.at b)) → count_where g' ≡ count_where g
  count_kept g g' births same = grind (arith, counted_births, tally_same)

  pub count_born : (g : Graph) (node : Node) → count_where (born_node g node) ≡ count_where g + ones (t (Some node))
  count_born g node =
      let all : count_where (born_node g node) ≡ count_by (λ b. t ((born_node g node).at b)) (range_with_len 1 (g.births + 1)) =
      counted_births (born_node g node) in
      let parts : count_by (λ b. t ((born_node g node).at b)) (range_with_len 1 (g.births + 1))
      ≡ count_by (λ b. t ((born_node g node).at b)) (range_with_len 1 g.births)
      + count_by (λ b. t ((born_node g node).at b)) ((g.births + 1) ∷ []) =
      ap (count_by (λ b. t ((born_node g node).at b))) (range_append 1 g.births 1 (g.births + 1) (g.births + 1) refl (omega arith))
      ∙ sum_by-append (λ b. cond (t ((born_node g node).at b)) 1 0) (range_with_len 1 g.births) ((g.births + 1) ∷ []) in
      let old : count_by (λ b. t ((born_node g node).at b)) (range_with_len 1 g.births) ≡ count_where g = grind (arith, tally_same, counted_births) in
      let new : count_by (λ b. t ((born_node g node).at b)) ((g.births + 1) ∷ []) ≡ ones (t (Some node)) + 0 = grind arith in
      omega arith

  pub count_borns : (g : Graph) (ns : List Node) → count_where (born_nodes g ns) ≡ count_where g + count_by (λ n. t (Some n)) ns
  count_borns g [] = let nothing : count_by (λ n. t (Some n)) [] ≡ 0 = refl in omega arith
  count_borns g (n ∷ ns) =
      let rest = count_borns (born_node g n) ns in
      let one = count_born g n in
      let head = count_cons (λ m. t (Some m)) n ns in
      omega arith

-- a test of ids and nodes
module _ (p : NodeId → Option Node → Bool) where
  abbrev pub picked : ℕ → Option Node → Option NodeId
  picked b None = None
  picked b (Some x) = if p (record { key = x.key; birth = b }) (Some x) then Some (record { key = x.key; birth = b }) else None

  -- the nodes that pass, in order of birth
  abbrev pub nodes_where : Graph → List NodeId
  nodes_where g = filter (λ n. p n (node_at g n)) (nodes g)

  pub listed_births : (g : Graph) → nodes_where g ≡ filter_map (λ b. picked b (g.at b)) (range_with_len 1 g.births)
  listed_births g = grind (arith, filter_of_map, kept, finds)

  -- one more is born
  pub list_born : (g : Graph) (node : Node) → nodes_where (born_node g node) ≡ nodes_where g ++ cons_option (picked (g.births + 1) (Some node)) []
  list_born g node =
      listed_births (born_node g node)
      ∙ ap (filter_map (λ b. picked b ((born_node g node).at b))) (range_append 1 g.births 1 (g.births + 1) (g.births + 1) refl (omega arith))
      ∙ filter_map-append (λ b. picked b ((born_node g node).at b)) (range_with_len 1 g.births) ((g.births + 1) ∷ [])
      ∙ ap₂ (λ xs ys. xs ++ ys)
      (grind (arith, map_same, listed_births)) (ap (λ z. cons_option (picked (g.births + 1) (if z then Some node else g.at (g.births + 1))) [])
      (number_same (g.births + 1) (g.births + 1) refl))

  -- more are born, and none passes
  pub list_borns : (g : Graph) (ns : List Node) → ((k : ℕ) (node : Node) → place_in ns k ≡ Some node → (n : NodeId) → p n (Some node) ≡ false)
      → nodes_where (born_nodes g ns) ≡ nodes_where g
  list_borns g [] none = refl
  list_borns g (n ∷ ns) none =
      list_borns (born_node g n) ns (λ k. none (suc k)) ∙ list_born g n
      ∙ ap (λ b. nodes_where g ++ cons_option (if b then Some (record { key = n.key; birth = g.births + 1 }) else None) [])
      (none 0 n refl (record { key = n.key; birth = g.births + 1 }))
      ∙ append-nil (nodes_where g)

-- the lists of two graphs, if each birth is in both or in none
pub list_same : (p p' : NodeId → Option Node → Bool) (g g' : Graph) → g'.births ≡ g.births → ((b : ℕ) → picked p' b (g'.at b) ≡ picked p b (g.at b))
    → nodes_where p' g' ≡ nodes_where p g
list_same p p' g g' births same = grind (arith, listed_births)

-- a list of those that pass, once more sifted
pub sifted : (p q : NodeId → Bool) (xs : List NodeId) → filter q (filter p xs) ≡ filter (λ x. p x && q x) xs
sifted p q [] = refl
sifted p q (x ∷ xs) = grind (arith, sifted p q xs)
