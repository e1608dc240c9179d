-- An interval has the place of another one in a new graph: how many children of each node pass a test. For splits and merges.
use Rattle.std.proofs.Common.{◌∙◌, ⊎_elim, ap, ap₂, arith, refl, sym}
use Rattle.std.proofs.Math.Path.{fun_ext}
use Rattle.std.proofs.Math.Bool.{and-false, and-true}
use Rattle.std.proofs.lemmas.Bool.Decides.{nat_tests}
use Rattle.std.specs.List.{count_by, list_any}
use Rattle.std.specs.Prelude.{◌≡◌, ◌+◌, ◌&&◌, ◌||◌, ℕ, Bool, true, false, not, cond, List, [], ◌∷◌}
use Rattle.gl_modes.proofs.NodeLemmas.{same_node-equal, same_node-refl, same_node-sym}
use Rattle.gl_modes.proofs.Words.{and_both, split}
use Rattle.gl_modes.specs.Nodes.{same_node}
use Rattle.gl_modes.specs.declared.node.NodeId.{NodeId}
use Rattle.gl_graph.proofs.Counts.{count_cons}
use Rattle.gl_graph.proofs.Distinct.{nodes_distinct}
use Rattle.gl_graph.proofs.RouteLengths.{listed}
use Rattle.gl_graph.specs.Graph.{Graph, is_child, is_live, nodes, parents_of}
use Rattle.gl_graph.specs.Lawful.{are_distinct, IsLawfulGraph}
use Rattle.gl_lock_lists.proofs.Children.{count_both}
use Rattle.gl_model.proofs.queues.Counts.{parents_distinct}
use Rattle.gl_model.proofs.splits.Recuts.{AreRenamed, Recuts}
use Rattle.gl_model.specs.Tellings.{children_that}

-- one for what passes
abbrev ones : Bool → ℕ
ones b = cond b 1 0

-- a node is counted once among different nodes
count_once : (p : NodeId) (ps : List NodeId) → are_distinct ps ≡ true → count_by (same_node p) ps ≡ ones (list_any (same_node p) ps)
count_once p [] d = refl
count_once p (x ∷ xs) d =
    let t = and_both (not (list_any (same_node x) xs)) (are_distinct xs) d in
    grind (arith, nat_tests, count_cons (same_node p) x xs, same_node p x, count_once p xs t.1, t.0, same_node-equal p x)

-- tests of which two count as many as two others, on each node
four_counts : (a b d e : NodeId → Bool) (xs : List NodeId) → ((c : NodeId) → ones (a c) + ones (b c) ≡ ones (d c) + ones (e c))
    → count_by a xs + count_by b xs ≡ count_by d xs + count_by e xs
four_counts a b d e [] same = refl
four_counts a b d e (x ∷ xs) same =
    let rest = four_counts a b d e xs same in
    let ca = count_cons a x xs in
    let cb = count_cons b x xs in
    let cd = count_cons d x xs in
    let ce = count_cons e x xs in
    let one = same x in
    omega arith

module _ (x y : NodeId) where
  -- another node is a parent of whatever it was a parent of
  renamed_other : (q : NodeId) → same_node q x ≡ false → same_node q y ≡ false → (ps ps' : List NodeId) → AreRenamed x y ps ps'
      → list_any (same_node q) ps' ≡ list_any (same_node q) ps
  renamed_other q nx ny [] [] r = refl
  renamed_other q nx ny [] (p' ∷ ps') r = absurd r
  renamed_other q nx ny (p ∷ ps) [] r = absurd r
  renamed_other q nx ny (p ∷ ps) (p' ∷ ps') r =
      ap₂ (λ a b. a || b) (⊎_elim (λ e. ap (same_node q) e) (λ e. ap (same_node q) e.1 ∙ ny ∙ sym (ap (same_node q) e.0 ∙ nx)) r.0)
      (renamed_other q nx ny ps ps' r.1)

  -- and the two are so as often as they were
  renamed_both : (ps ps' : List NodeId) → AreRenamed x y ps ps'
      → count_by (same_node x) ps + count_by (same_node y) ps ≡ count_by (same_node x) ps' + count_by (same_node y) ps'
  renamed_both [] [] r = refl
  renamed_both [] (p' ∷ ps') r = absurd r
  renamed_both (p ∷ ps) [] r = absurd r
  renamed_both (p ∷ ps) (p' ∷ ps') r =
      let rest = renamed_both ps ps' r.1 in
      let a = count_cons (same_node x) p ps in
      let b = count_cons (same_node y) p ps in
      let c = count_cons (same_node x) p' ps' in
      let d = count_cons (same_node y) p' ps' in
      let here : ones (same_node x p) + ones (same_node y p) ≡ ones (same_node x p') + ones (same_node y p') =
      ⊎_elim (λ e. ap (λ z. ones (same_node x z) + ones (same_node y z)) (sym e))
      (λ e. ap (λ z. ones (same_node x z) + ones (same_node y z)) e.0 ∙ swapped
      ∙ sym (ap (λ z. ones (same_node x z) + ones (same_node y z)) e.1)) r.0 in
      omega arith
    where
      swapped : ones (same_node x x) + ones (same_node y x) ≡ ones (same_node x y) + ones (same_node y y)
      swapped =
          let xx : ones (same_node x x) ≡ 1 = ap ones (same_node-refl x) in
          let yy : ones (same_node y y) ≡ 1 = ap ones (same_node-refl y) in
          let xy : ones (same_node y x) ≡ ones (same_node x y) = ap ones (same_node-sym y x) in
          omega arith

both_pass : (a b d e z : Bool) → z ≡ true → ones a + ones b ≡ ones d + ones e → ones (a && z) + ones (b && z) ≡ ones (d && z) + ones (e && z)
both_pass a b d e z h all =
    ap (λ k. ones (a && k) + ones (b && k)) h ∙ ap₂ (λ m n. ones m + ones n) (and-true a) (and-true b) ∙ all
    ∙ sym (ap (λ k. ones (d && k) + ones (e && k)) h ∙ ap₂ (λ m n. ones m + ones n) (and-true d) (and-true e))

none_pass : (a b d e z : Bool) → z ≡ false → ones (a && z) + ones (b && z) ≡ ones (d && z) + ones (e && z)
none_pass a b d e z h =
    ap (λ k. ones (a && k) + ones (b && k)) h ∙ ap₂ (λ m n. ones m + ones n) (and-false a) (and-false b)
    ∙ sym (ap (λ k. ones (d && k) + ones (e && k)) h ∙ ap₂ (λ m n. ones m + ones n) (and-false d) (and-false e))

module _ (g g' : Graph) (law : IsLawfulGraph g) (x y : NodeId) (cut : Recuts g g' x y) (f : NodeId → Bool)
    (there : (c : NodeId) → f c ≡ true → (is_live g c ≡ true) × (is_live g' c ≡ true)) where
  -- what passes is in both graphs
  over_nodes : (k : NodeId → Bool) → count_by (λ c. k c && f c) (nodes g) ≡ count_by (λ c. k c && f c) (nodes g')
  over_nodes k =
      count_both (λ c. k c && f c) (nodes g) (nodes g') (nodes_distinct g) (nodes_distinct g')
      (λ c h. listed g law c (there c (and_both (k c) (f c) h).1).0) (λ c h. listed g' cut.lawful c (there c (and_both (k c) (f c) h).1).1)

  pub recut_other : (q : NodeId) → same_node q x ≡ false → same_node q y ≡ false → children_that g' f q ≡ children_that g f q
  recut_other q nx ny = sym (over_nodes (is_child g' q)) ∙ ap (λ (t : NodeId → Bool). count_by t (nodes g)) (fun_ext each)
    where
      each : (c : NodeId) → (is_child g' q c && f c) ≡ (is_child g q c && f c)
      each c = split (f c)
          (λ e. let live = there c e in
          ap (λ b. b && f c) (renamed_other x y q nx ny (parents_of g c) (parents_of g' c) (cut.parents c live.0 live.1)))
          (λ e. ap (λ b. is_child g' q c && b) e ∙ and-false (is_child g' q c) ∙ sym (ap (λ b. is_child g q c && b) e ∙ and-false (is_child g q c)))

  pub recut_both : children_that g f x + children_that g f y ≡ children_that g' f x + children_that g' f y
  recut_both =
      four_counts (λ c. is_child g x c && f c) (λ c. is_child g y c && f c) (λ c. is_child g' x c && f c) (λ c. is_child g' y c && f c) (nodes g) each
      ∙ ap₂ (λ (a b : ℕ). a + b) (over_nodes (is_child g' x)) (over_nodes (is_child g' y))
    where
      each : (c : NodeId) → ones (is_child g x c && f c) + ones (is_child g y c && f c) ≡ ones (is_child g' x c && f c) + ones (is_child g' y c && f c)
      each c = split (f c)
          (λ e.
          let live = there c e in
          let all = renamed_both x y (parents_of g c) (parents_of g' c) (cut.parents c live.0 live.1) in
          let a = count_once x (parents_of g c) (parents_distinct g law c) in
          let b = count_once y (parents_of g c) (parents_distinct g law c) in
          let d = count_once x (parents_of g' c) (parents_distinct g' cut.lawful c) in
          let k = count_once y (parents_of g' c) (parents_distinct g' cut.lawful c) in
          both_pass (is_child g x c) (is_child g y c) (is_child g' x c) (is_child g' y c) (f c) e (omega arith))
          (λ e. none_pass (is_child g x c) (is_child g y c) (is_child g' x c) (is_child g' y c) (f c) e)
