-- A node is dropped from a table, or an index is made that its maker holds: what it makes of the table. For those calls.
use Rattle.gl_table.proofs.Words.{◌&&◌, ◌+◌, ◌==◌, [], ◌||◌, ◌∙◌, ◌∷◌, ◌≡◌, Active, and_both, ap, ap₂, AreExact, arith, Bool, children_that, clash, cond}
use Rattle.gl_table.proofs.Words.{count_by, count_cons, false, filter, first_not_ix, goes_with, granted-no_cycle, Graph, graph_of, HasNoCycle, IfOk}
use Rattle.gl_table.proofs.Words.{if◌then◌else◌, in_no_queue, Inside, intends_over, IS, is_among_waiters, is_at_least, is_child, is_in_use, is_live}
use Rattle.gl_table.proofs.Words.{is_movable_shape, is_wait, is_write, IsBranchLeftTo, IsFresh, IsLawful, IsLawfulGraph, IsSound, IX}
use Rattle.gl_table.proofs.Words.{lawful_orderly, Ledger, List, list_all, list_any, Mode, nat_tests, NL, no, node_at, NodeId, nodes, nodes_live, None, not}
use Rattle.gl_table.proofs.Words.{not_true, OnErr, or_elim, or_left, parents_in, refl, Refusal, Refuses, Result, rules, same_mode}
use Rattle.gl_table.proofs.Words.{same_mode-equal, same_node, same_node-equal, same_node-refl, same_number, shape_of, Some, split, State, state_in, state_of}
use Rattle.gl_table.proofs.Words.{status_of, subst, sym, true, View, view_of, waits_there, with_grant, with_graph, X, ℕ}
use Rattle.gl_graph.specs.Changes.{without_branch}
use Rattle.gl_graph.proofs.Branch.{left_live, live, nodes_left, stays_left}
use Rattle.gl_graph.specs.Graph.{is_record_of}
use Rattle.gl_graph.specs.Over.{IsIndexOver, over_refusal}
use Rattle.gl_model.specs.State.{intends}
use Rattle.gl_model.proofs.law.Schema.{branch_goes, index-live, index-unawaited, index-unheld, indexed_lawful, only_parent}
use Rattle.gl_table.proofs.calls.Departing.{AreGone}
use Rattle.gl_table.proofs.calls.Law.{over-suits, suited-call}
use Rattle.gl_table.proofs.calls.Records.{held_alone}
use Rattle.gl_table.proofs.calls.Stands.{MayStand, stands, with_locks}

-- what is counted among those that are kept, if none of the others counts
count_kept : (live keep f f' : NodeId → Bool) (xs : List NodeId) → list_all live xs ≡ true
    → ((x : NodeId) → live x ≡ true → keep x ≡ true → f' x ≡ f x) → ((x : NodeId) → keep x ≡ false → f x ≡ false)
    → count_by f' (filter keep xs) ≡ count_by f xs
count_kept live keep f f' [] all same off = refl
count_kept live keep f f' (x ∷ xs) all same off =
    let both = and_both _ _ all in
    let rest = count_kept live keep f f' xs both.1 same off in
    split (keep x)
    (λ e. ap (λ b. count_by f' (if b then x ∷ filter keep xs else filter keep xs)) e ∙ count_cons f' x (filter keep xs)
    ∙ ap₂ (λ b k. cond b 1 0 + k) (same x both.0 e) rest ∙ sym (count_cons f x xs))
    (λ e. ap (λ b. count_by f' (if b then x ∷ filter keep xs else filter keep xs)) e ∙ rest ∙ none (count_by f xs)
    ∙ sym (count_cons f x xs ∙ ap (λ b. cond b 1 0 + count_by f xs) (off x e)))
  where
    none : (k : ℕ) → k ≡ 0 + k
    none k = omega arith

-- as many children of a node pass a test that no removed node passes
branch_children : (g : Graph) (law : IsLawfulGraph g) (n : NodeId) → is_movable_shape (shape_of g n) ≡ true → is_in_use g n ≡ false → (f : NodeId → Bool)
    → ((c : NodeId) → goes_with g n c ≡ true → f c ≡ false) → (p : NodeId) → children_that (without_branch g n) f p ≡ children_that g f p
branch_children g law n movable free f none p =
    ap (count_by (λ c. is_child (without_branch g n) p c && f c)) (nodes_left g n (live g law n movable free))
    ∙ count_kept (is_live g) (λ c. not (goes_with g n c)) (λ c. is_child g p c && f c) (λ c. is_child (without_branch g n) p c && f c) (nodes g)
    (nodes_live g) same off
  where
    stays : (c : NodeId) → is_live g c ≡ true → not (goes_with g n c) ≡ true → node_at (without_branch g n) c ≡ node_at g c
    stays c on kept =
        let e = not_true (goes_with g n c) (λ t. clash kept (ap not t)) in
        stays_left g n (live g law n movable free) c on (first (same_node n c) (is_child g n c) e) (second (same_node n c) (is_child g n c) e)
      where
        first : (a b : Bool) → (a || b) ≡ false → a ≡ false
        first a b h = grind (arith, nat_tests, a)

        second : (a b : Bool) → (a || b) ≡ false → b ≡ false
        second a b h = grind (arith, nat_tests, a)

    same : (c : NodeId) → is_live g c ≡ true → not (goes_with g n c) ≡ true
        → (is_child (without_branch g n) p c && f c) ≡ (is_child g p c && f c)
    same c on kept = ap (λ o. list_any (same_node p) (parents_in o) && f c) (stays c on kept)

    off : (c : NodeId) → not (goes_with g n c) ≡ false → (is_child g p c && f c) ≡ false
    off c gone = ap (λ b. is_child g p c && b) (none c (yes (goes_with g n c) gone)) ∙ nothing (is_child g p c)
      where
        yes : (b : Bool) → not b ≡ false → b ≡ true
        yes true h = refl
        yes false h = absurd (no (sym h))

        nothing : (b : Bool) → (b && false) ≡ false
        nothing true = refl
        nothing false = refl

module _ (s : State) (law : IsLawful s) (t : ℕ) (n : NodeId) (movable : is_movable_shape (shape_of s.graph n) ≡ true)
    (free : is_in_use s.graph n ≡ false) (active : status_of s t ≡ Some Active) (holding : same_mode (s.held t n) X ≡ true) where
  -- a transaction that meets the rule on a child holds the node
  holds_parent : (u : ℕ) (q : NodeId) (m : Mode) → is_child s.graph n q ≡ true → intends s u q m ≡ true → is_at_least (s.held u n) IS ≡ true
  holds_parent u q m c rule = by (is_write m) (sym (ap (λ ps. intends_over (s.held u) ps m) (only_parent s.graph law.graph n movable free q c)) ∙ rule)
    where
      ix_is : (w : Mode) → is_at_least w IX ≡ true → is_at_least w IS ≡ true
      ix_is w h = search rules

      by : (b : Bool) → (if b then (is_at_least (s.held u n) IX && true) else (is_at_least (s.held u n) IS || false)) ≡ true
          → is_at_least (s.held u n) IS ≡ true
      by true h = ix_is (s.held u n) (and_both _ _ h).0
      by false h = or_elim (is_at_least (s.held u n) IS) false h (λ k. k) (λ k. absurd (no k))

  nl_below : (m : Mode) → m ≡ NL → is_at_least m IS ≡ true → ⊥
  nl_below m e h = no (sym (ap (λ x. is_at_least x IS) e) ∙ h)

  held_is : (m : Mode) → not (same_mode m NL) ≡ false → m ≡ NL
  held_is m h = search rules

  -- nobody else holds the node or a child of it
  branch_alone : (u : ℕ) (q : NodeId) → (u == t) ≡ false → goes_with s.graph n q ≡ true → s.held u q ≡ NL
  branch_alone u q other e =
      or_elim (same_node n q) (is_child s.graph n q) e
      (λ here. ap (s.held u) (sym (same_node-equal n q here)) ∙ held_alone s law t n holding u other)
      (λ below. held_is (s.held u q) (not_true _ (λ h.
      nl_below (s.held u n) (held_alone s law t n holding u other) (holds_parent u q (s.held u q) below (law.grants_intend u q h)))))

  -- and nobody waits for a child
  no_waiter : (u : ℕ) (q : NodeId) → is_child s.graph n q ≡ true → is_among_waiters u (s.queue q) ≡ true → ⊥
  no_waiter u q c h =
      let wait = waits_there s (lawful_orderly s law) u q h in
      split (u == t)
      (λ e. no (sym (in_no_queue s (lawful_orderly s law) t (ap is_wait active) q)
      ∙ ap (λ v. is_among_waiters v (s.queue q)) (sym (same_number u t e)) ∙ h))
      (λ e. nl_below (s.held u n) (held_alone s law t n holding u e) (holds_parent u q wait.0 c (law.waits_intend u q wait.0 wait.1).0))

  branch_unawaited : (q : NodeId) → is_child s.graph n q ≡ true → s.queue q ≡ []
  branch_unawaited q c = by (s.queue q) (λ u h. no_waiter u q c h)
    where
      by : (ws : List (ℕ × Mode)) → ((u : ℕ) → is_among_waiters u ws ≡ true → ⊥) → ws ≡ []
      by [] none = refl
      by (w ∷ ws) none = absurd (none w.0 (or_left _ _ (same_slot w.0)))
        where
          same_slot : (k : ℕ) → (k == k) ≡ true
          same_slot k = grind (arith, nat_tests)

  pub branch_left : IsBranchLeftTo s t n
  branch_left = record {
    movable = movable;
    free = free;
    holding = ap (λ m. not (same_mode m NL)) (same_mode-equal (s.held t n) X holding);
    alone = branch_alone;
    unawaited = branch_unawaited;
  }

  -- what is removed
  pub branch_gone : (g' : Graph) → g' ≡ without_branch s.graph n → AreGone s (goes_with s.graph n) g' n
  branch_gone g' is = subst (λ g. AreGone s (goes_with s.graph n) g n) (sym is) (record {
    away = branch_goes s.graph law.graph n movable free;
    itself = or_left _ _ (same_node-refl n);
    off = left_live s.graph n (live s.graph law.graph n movable free) n
        ∙ ap (λ b. is_live s.graph n && not b) (or_left _ _ (same_node-refl n)) ∙ nothing (is_live s.graph n);
    only = λ u q e h. or_elim (same_node n q) (is_child s.graph n q) e (λ here. sym (same_node-equal n q here)) (λ below. absurd (no_waiter u q below h));
    children = λ f none p. branch_children s.graph law.graph n movable free f none p;
  })
    where
      nothing : (b : Bool) → (b && false) ≡ false
      nothing true = refl
      nothing false = refl

-- An index is made, and one transaction holds it in X: what holds of the fields still does.

module _ (i : Inside) (sound : IsSound i) (ps : List NodeId) (f : NodeId) (bs : List ℕ) (rs : List NodeId) (ks : List ℕ)
    (free : over_refusal (graph_of i.locks.graph) ps f bs rs ks ≡ None)
    (unheld : (u : ℕ) (r : NodeId) → is_record_of (graph_of i.locks.graph) f r ≡ true → (state_of (view_of i)).held u r ≡ NL) (v : View) where
  abbrev before : State
  before = state_of (view_of i)

  -- the graph was called for the index
  pub stands_indexed : (r : Result NodeId Refusal) → Refuses (over_refusal (graph_of i.locks.graph) ps f bs rs ks) r
      → IfOk r (λ n. IsIndexOver (graph_of i.locks.graph) (graph_of v) n ps f bs rs ks) → OnErr r (v ≡ i.locks.graph) → MayStand i v i.locks.ledger
  stands_indexed r refuses made same =
      suited-call i sound v (over_refusal (graph_of i.locks.graph) ps f bs rs ks) r (λ n. IsIndexOver (graph_of i.locks.graph) (graph_of v) n ps f bs rs ks)
      refuses made same (λ n free' over. over-suits i sound v n ps f bs rs ks free over unheld)

  module _ (n : NodeId) (over : IsIndexOver (graph_of i.locks.graph) (graph_of v) n ps f bs rs ks) where
    pub index_fresh : IsFresh (state_in v i.locks.ledger) n
    index_fresh = record {
      live = index-live before sound.lawful ps f bs rs ks free (graph_of v) n over;
      unheld = index-unheld before sound.lawful ps f bs rs ks free (graph_of v) n over;
      unawaited = index-unawaited before sound.lawful ps f bs rs ks free (graph_of v) n over;
    }

    -- the slot holds it
    module _ (t : ℕ) (ledger : Ledger) (is : state_in v ledger ≡ with_grant (state_in v i.locks.ledger) t n X) where
      pub state_indexed : with_locks i (state_in v ledger) ≡ with_grant (with_graph before (graph_of v)) t n X
      state_indexed = ap {A = State} (with_locks i) is

      pub stands_placed_index : status_of before t ≡ Some Active → first_not_ix (before.held t) ps ≡ None → AreExact v ledger → MayStand i v ledger
      stands_placed_index active rule exact = stands i v ledger (record {
        lawful = subst IsLawful (sym state_indexed) (indexed_lawful before sound.lawful ps f bs rs ks free (graph_of v) n over unheld t active rule);
        no_cycle = λ at. subst HasNoCycle (sym state_indexed) (granted-no_cycle (with_graph before (graph_of v)) t n X active (sound.no_cycle at));
      }) exact
