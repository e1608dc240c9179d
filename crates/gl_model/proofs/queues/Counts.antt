-- How many nodes pass a test, and how many of a node's children. For the counts of held children.
use Rattle.gl_model.proofs.Words.{◌&&◌, ◌+◌, [], ◌^◌, ◌∙◌, ◌∷◌, ◌≡◌, ◌≢◌, ◌≤◌, all_filter, and_both, ap, ap₂, are_distinct, arith, Bool, both, cases_of}
use Rattle.gl_model.proofs.Words.{children_that, cond, count_by, count_by-le-length, count_cons, false, File, first_in, first_parent, fun_ext, Graph, HasShape}
use Rattle.gl_model.proofs.Words.{if◌then◌else◌, Index, indexes_distinct, indexes_of, Inner, Interval, interval_is, interval_of, intervals_of, is_child}
use Rattle.gl_model.proofs.Words.{is_file_shape, is_index_of_shape, is_live, IsLawfulGraph, length, List, list_all, list_any, listed, nat_tests, no, node_at}
use Rattle.gl_model.proofs.Words.{NodeId, nodes, nodes_distinct, not, not_true, or_elim, or_left, or_right, parents_in, parents_of, Rec, refl, same_node}
use Rattle.gl_model.proofs.Words.{same_node-equal, same_node-from_equal, same_node-refl, same_node-sym, Shape, shape_in, shape_of, split, subst, sym, true, ℕ}

-- The parents of a node in a lawful graph: no two alike, and at most eight.

short_intervals : (g : Graph) (is : List NodeId) (keys : List ℕ) → length (intervals_of g is keys) ≤ length is
short_intervals g [] keys = omega arith
short_intervals g (i ∷ is) [] = omega arith
short_intervals g (i ∷ is) (k ∷ keys) = let rest = short_intervals g is keys in omega arith

module _ (g : Graph) (law : IsLawfulGraph g) where
  -- all of these are indexes of the file
  abbrev are_of : NodeId → List NodeId → Bool
  are_of f is = list_all (λ i. is_index_of_shape f (shape_of g i)) is

  -- an interval is no file, and its index is its parent
  interval_among : (f p : NodeId) (is : List NodeId) (keys : List ℕ) → are_of f is ≡ true → list_any (same_node p) (intervals_of g is keys) ≡ true
      → (is_file_shape (shape_of g p) ≡ false) × (list_any (same_node (first_parent g p)) is ≡ true)
  interval_among f p [] keys h k = absurd (no k)
  interval_among f p (i ∷ is) [] h k = absurd (no k)
  interval_among f p (i ∷ is) (key ∷ keys) h k =
      let t = and_both _ _ h in
      or_elim (same_node p (interval_of g i key)) _ k (λ here.
      let there = ap (node_at g) (same_node-equal p _ here) ∙ interval_is g law f i key t.0 in
      (ap (λ o. is_file_shape (shape_in o)) there, or_left _ _ (same_node-from_equal (first_parent g p) i (ap (λ o. first_in (parents_in o)) there))))
      (λ rest. let r = interval_among f p is keys t.1 rest in (r.0, or_right (same_node (first_parent g p) i) _ r.1))

  intervals_distinct : (f : NodeId) (is : List NodeId) (keys : List ℕ) → are_of f is ≡ true → are_distinct is ≡ true
      → are_distinct (intervals_of g is keys) ≡ true
  intervals_distinct f [] keys h d = refl
  intervals_distinct f (i ∷ is) [] h d = refl
  intervals_distinct f (i ∷ is) (key ∷ keys) h d =
      let t = and_both _ _ h in
      let u = and_both (not (list_any (same_node i) is)) (are_distinct is) d in
      let own : first_parent g (interval_of g i key) ≡ i = ap (λ o. first_in (parents_in o)) (interval_is g law f i key t.0) in
      both _ _
      (ap not (not_true _ (λ k. no (sym (ap not (ap (λ q. list_any (same_node q) is) (sym own) ∙ (interval_among f (interval_of g i key) is keys t.1 k).1))
      ∙ u.0)))) (intervals_distinct f is keys t.1 u.1)

  distinct_of : (sh : Shape) (ps : List NodeId) (n : NodeId) → HasShape g n sh ps → are_distinct ps ≡ true
  distinct_of Inner ps n h = h.distinct
  distinct_of (File adopted) ps n h = h.distinct
  distinct_of (Index f bs is) ps n h = h.0.distinct
  distinct_of Interval ps n h = ap are_distinct h.1
  distinct_of (Rec keys) ps n h =
      let indexes = all_filter (λ i. is_index_of_shape h.0 (shape_of g i)) (nodes g) in
      ap are_distinct h.1.parents ∙ both _ _ (ap not (not_true _ (λ k. no (sym (interval_among h.0 h.0 (indexes_of g h.0) keys indexes k).0 ∙ h.1.file_is))))
      (intervals_distinct h.0 (indexes_of g h.0) keys indexes (indexes_distinct g h.0))

  few_of : (sh : Shape) (ps : List NodeId) (n : NodeId) → HasShape g n sh ps → length ps ≤ 8
  few_of Inner ps n h = h.few
  few_of (File adopted) ps n h = h.few
  few_of (Index f bs is) ps n h = h.0.few
  few_of Interval ps n h = let one = ap length h.1 in omega arith
  few_of (Rec keys) ps n h =
      let all = ap length h.1.parents in
      let short = short_intervals g (indexes_of g h.0) keys in
      let seven = law.seven_indexes h.0 in
      omega arith

  pub parents_distinct : (n : NodeId) → are_distinct (parents_of g n) ≡ true
  parents_distinct n =
      cases_of (node_at g n) (λ e. ap (λ o. are_distinct (parents_in o)) e)
      (λ x e. ap (λ o. are_distinct (parents_in o)) e ∙ distinct_of x.shape x.parents n (law.well_formed n x e))

  pub parents_few : (n : NodeId) → length (parents_of g n) ≤ 8
  parents_few n =
      cases_of (node_at g n) (λ e. subst (λ o. length (parents_in o) ≤ 8) (sym e) (omega arith))
      (λ x e. subst (λ o. length (parents_in o) ≤ 8) (sym e) (few_of x.shape x.parents n (law.well_formed n x e)))

-- How many children of a node pass a test, once one child more or less passes it.

-- tests that agree on the list count the same
count_alike : (p q : NodeId → Bool) (xs : List NodeId) → ((c : NodeId) → list_any (same_node c) xs ≡ true → q c ≡ p c) → count_by q xs ≡ count_by p xs
count_alike p q [] same = refl
count_alike p q (x ∷ xs) same =
    count_cons q x xs
    ∙ ap₂ (λ b k. cond b 1 0 + k) (same x (or_left _ _ (same_node-refl x))) (count_alike p q xs (λ c h. same c (or_right (same_node c x) _ h)))
    ∙ sym (count_cons p x xs)

-- if only the test of n changes, from no to b, n is counted once more if b
count_one : (p q : NodeId → Bool) (n : NodeId) (b : Bool) (xs : List NodeId) → are_distinct xs ≡ true → list_any (same_node n) xs ≡ true → p n ≡ false → q n ≡ b
    → ((c : NodeId) → same_node c n ≡ false → q c ≡ p c) → count_by q xs ≡ count_by p xs + cond b 1 0
count_one p q n b [] d h absent there same = absurd (no h)
count_one p q n b (x ∷ xs) d h absent there same =
    count_cons q x xs ∙ split (same_node n x) (λ e.
    let is = same_node-equal n x e in
    let was : p x ≡ false = ap p (sym is) ∙ absent in
    let now : q x ≡ b = ap q (sym is) ∙ there in
    ap₂ (λ a k. cond a 1 0 + k) now (count_alike p q xs
    (λ c m. same c (not_true _ (λ k. no (sym (ap not (ap (λ y. list_any (same_node y) xs) (sym (same_node-equal c n k ∙ is)) ∙ m)) ∙ t.0)))))
    ∙ here (cond b 1 0) (count_by p xs) ∙ sym (ap (λ a. cond a 1 0 + count_by p xs + cond b 1 0) was)) (λ e.
    ap₂ (λ a k. cond a 1 0 + k) (same x (same_node-sym x n ∙ e))
    (count_one p q n b xs t.1 (or_elim _ _ h (λ k. absurd (no (sym e ∙ k))) (λ k. k)) absent there same)
    ∙ further (cond (p x) 1 0) (count_by p xs) (cond b 1 0)) ∙ sym (ap (λ k. k + cond b 1 0) (count_cons p x xs))
  where
    t : (not (list_any (same_node x) xs) ≡ true) × (are_distinct xs ≡ true)
    t = and_both _ _ d

    here : (a k : ℕ) → a + k ≡ 0 + k + a
    here a k = omega arith

    further : (a k c : ℕ) → a + (k + c) ≡ a + k + c
    further a k c = omega arith

-- a node is counted once among different nodes
count_self : (p : NodeId) (ps : List NodeId) → are_distinct ps ≡ true → count_by (same_node p) ps ≡ cond (list_any (same_node p) ps) 1 0
count_self p [] d = refl
count_self p (x ∷ xs) d =
    let t = and_both (not (list_any (same_node x) xs)) (are_distinct xs) d in
    grind (arith, nat_tests, count_cons (same_node p) x xs, same_node p x, count_self p xs t.1, t.0, same_node-equal p x)

-- one child more passes the test: each of its parents has one more
pub children_up : (g : Graph) → IsLawfulGraph g → (f f' : NodeId → Bool) (n : NodeId) → is_live g n ≡ true → f n ≡ false → f' n ≡ true
    → ((q : NodeId) → same_node q n ≡ false → f' q ≡ f q) → (p : NodeId) → children_that g f' p ≡ children_that g f p + count_by (same_node p) (parents_of g n)
children_up g law f f' n live was now same p =
    count_one (λ c. is_child g p c && f c) (λ c. is_child g p c && f' c) n (is_child g p n) (nodes g) (nodes_distinct g) (listed g law n live)
    (grind (arith, nat_tests, is_child g p n)) (grind (arith, nat_tests, is_child g p n))
    (λ c e. ap (λ b. is_child g p c && b) (same c e)) ∙ ap (λ k. children_that g f p + k) (sym (count_self p (parents_of g n) (parents_distinct g law n)))

-- one less is one more, conversely
pub children_down : (g : Graph) → IsLawfulGraph g → (f f' : NodeId → Bool) (n : NodeId) → is_live g n ≡ true → f n ≡ true → f' n ≡ false
    → ((q : NodeId) → same_node q n ≡ false → f' q ≡ f q) → (p : NodeId) → children_that g f' p + count_by (same_node p) (parents_of g n) ≡ children_that g f p
children_down g law f f' n live was now same p = sym (children_up g law f' f n live now was (λ q e. sym (same q e)) p)

-- and there are at most as many as nodes
pub children_few : (g : Graph) → IsLawfulGraph g → (f : NodeId → Bool) (p : NodeId) → children_that g f p ≤ 2 ^ 31
children_few g law f p =
    let few = count_by-le-length (λ c. is_child g p c && f c) (nodes g) in
    let room = law.room in
    let limit = law.limit in
    omega arith

-- a node has at most eight parents
pub few_parents : (g : Graph) → IsLawfulGraph g → (n : NodeId) → length (parents_of g n) ≤ 8
few_parents g law n = parents_few g law n

-- A node has other parents: how many children of each node pass a test.

-- a test that fails one node more
module _ (n : NodeId) (f : NodeId → Bool) where
  abbrev rest : NodeId → Bool
  rest c = f c && not (same_node c n)

  rest_here : rest n ≡ false
  rest_here = ap (λ b. f n && not b) (same_node-refl n) ∙ grind (arith, nat_tests, f n)

  rest_there : (q : NodeId) → same_node q n ≡ false → rest q ≡ f q
  rest_there q e = ap (λ b. f q && not b) e ∙ grind (arith, nat_tests, f q)

  -- if the node passes, each of its parents has it as a child that does
  pub parents_counted : (g : Graph) → IsLawfulGraph g → is_live g n ≡ true → f n ≡ true → (p : NodeId)
      → count_by (same_node p) (parents_of g n) ≤ children_that g f p
  parents_counted g law live passes p = let less = children_down g law f rest n live passes rest_here rest_there p in omega arith

module _ (g g' : Graph) (law : IsLawfulGraph g) (law' : IsLawfulGraph g') (n : NodeId) (same : nodes g' ≡ nodes g) (others : (q : NodeId) → q ≢ n
    → parents_of g' q ≡ parents_of g q) (live : is_live g n ≡ true) (live' : is_live g' n ≡ true) (f : NodeId → Bool) where
  rest_same : (p : NodeId) → children_that g' (rest n f) p ≡ children_that g (rest n f) p
  rest_same p = ap₂ (λ (t : NodeId → Bool) xs. count_by t xs) (fun_ext each) same
    where
      each : (c : NodeId) → (is_child g' p c && rest n f c) ≡ (is_child g p c && rest n f c)
      each c = grind (arith, nat_tests, same_node c n, is_child g' p c, is_child g p c, same_node p, same_node-equal)

  -- if the node passes, each old parent has one child less, and each new one more
  pub children_moved : (p : NodeId) → children_that g' f p + (if f n then count_by (same_node p) (parents_of g n) else 0)
      ≡ children_that g f p + (if f n then count_by (same_node p) (parents_of g' n) else 0)
  children_moved p = split (f n) (λ e.
      let old = children_down g law f (rest n f) n live e (rest_here n f) (rest_there n f) p in
      let new = children_down g' law' f (rest n f) n live' e (rest_here n f) (rest_there n f) p in
      let both = rest_same p in
      let all : children_that g' f p + count_by (same_node p) (parents_of g n) ≡ children_that g f p + count_by (same_node p) (parents_of g' n) = omega arith in
      ap (λ b. children_that g' f p + (if b then count_by (same_node p) (parents_of g n) else 0)) e ∙ all
      ∙ sym (ap (λ b. children_that g f p + (if b then count_by (same_node p) (parents_of g' n) else 0)) e)) (λ e.
      let alike : rest n f ≡ f = fun_ext (λ c. split (same_node c n) (λ k. let at = same_node-equal c n k in ap (rest n f) at ∙ rest_here n f
      ∙ sym (ap f at ∙ e)) (rest_there n f c)) in
      let all : children_that g' f p ≡ children_that g f p = ap (λ t. children_that g' t p) (sym alike) ∙ rest_same p ∙ ap (λ t. children_that g t p) alike in
      ap₂ (λ (k : ℕ) b. k + (if b then count_by (same_node p) (parents_of g n) else 0)) all e
      ∙ sym (ap (λ b. children_that g f p + (if b then count_by (same_node p) (parents_of g' n) else 0)) e))
