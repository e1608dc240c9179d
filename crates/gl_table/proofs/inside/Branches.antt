-- The locks on a node that is not in use are removed, and those on its children, one by one: what is left. For nodes that are dropped.
use Rattle.gl_table.proofs.Words.{◌&&◌, ◌+◌, ◌++◌, ◌<◌, ◌==◌, [], ◌||◌, ◌∙◌, ◌∷◌, ◌≡◌, ◌≤◌, Active, age_in, ap, ap₂, AreExact, arith, Bool, clash, Condemned}
use Rattle.gl_table.proofs.Words.{count_none, departed, false, freed_among, fun_ext, get_or, goes_with, held_children, holds, if-false, if-true, if◌then◌else◌}
use Rattle.gl_table.proofs.Words.{is_among_waiters, is_child, is_live, is_some, IsBranchLeftTo, IsLawfulGraph, IsLeftTo, IsOrderly, Ledger, length, List}
use Rattle.gl_table.proofs.Words.{list_any, MayAct, members, Mode, NL, no, Node, node_at, NodeId, nodes, nodes_live, None, none_among, not, not_true}
use Rattle.gl_table.proofs.Words.{notices_in, Option, or_elim, or_left, or_right, parents_in, refl, same_mode, same_node, same_node-equal, same_node-refl}
use Rattle.gl_table.proofs.Words.{same_node-sym, shape_of, slice_get, slice_index_or, Some, some_is, split, stands_there, State, state_in, Status, status_in}
use Rattle.gl_table.proofs.Words.{status_of, subst, suc, sym, take, TellsGone, Told, true, Txn, View, Waiting, waits_at, zero, ℕ}
use Rattle.std.proofs.lemmas.List.{take_more}
use Rattle.std.proofs.lemmas.List.Folds.{list_any-append}
use Rattle.gl_graph.specs.Shapes.{intervals_in}
use Rattle.gl_graph.proofs.Branch.{apart_from, child_is, children_are, movable_no_interval}
use Rattle.gl_model.specs.declared.answers.Notice.TheVariants as notice
use Rattle.gl_model.proofs.law.Departures.{cleared_orderly, departed_twice}

-- an item of a list is among it
item_among : (xs : List NodeId) (p : ℕ) (x : NodeId) → slice_get xs p ≡ Some x → list_any (same_node x) xs ≡ true
item_among [] p x e = absurd (cc e)
item_among (y ∷ ys) zero x e = or_left _ _ (ap (same_node x) (some_is e) ∙ same_node-refl x)
item_among (y ∷ ys) (suc p) x e = or_right _ _ (item_among ys p x e)

-- if nobody holds a node or waits for it, nothing is removed
pub departed_nothing : (s : State) → IsOrderly s → (x : NodeId) → ((u : ℕ) → s.held u x ≡ NL) → s.queue x ≡ [] → departed s (λ q. same_node q x) s.graph ≡ s
departed_nothing s o x unheld unawaited = λ i. record s {
  held = fun_ext (λ u. fun_ext (λ q. held_is u q)) i;
  queue = fun_ext queue_is i;
  txns = fun_ext (λ u. freed_none u (s.txns u) refl) i;
}
  where
    held_is : (u : ℕ) (q : NodeId) → (if same_node q x then NL else s.held u q) ≡ s.held u q
    held_is u q = split (same_node q x)
        (λ e. ap (λ b. if b then NL else s.held u q) e ∙ sym (ap (s.held u) (same_node-equal q x e) ∙ unheld u))
        (λ e. ap (λ b. if b then NL else s.held u q) e)

    queue_is : (q : NodeId) → (if same_node q x then [] else s.queue q) ≡ s.queue q
    queue_is q = split (same_node q x)
        (λ e. ap (λ b. if b then [] else s.queue q) e ∙ sym (ap s.queue (same_node-equal q x e) ∙ unawaited))
        (λ e. ap (λ b. if b then [] else s.queue q) e)

    waits_there : (u : ℕ) (q : NodeId) (m : Mode) → status_of s u ≡ Some (Waiting q m) → same_node q x ≡ false
    waits_there u q m st = not_true (same_node q x) (λ e.
        let here = stands_there s o u q (ap (λ y. waits_at y q) st ∙ same_node-refl q) in
        no (sym (ap (λ p. is_among_waiters u (s.queue p)) (same_node-equal q x e) ∙ ap (is_among_waiters u) unawaited) ∙ here))

    freed_none : (u : ℕ) (t : Option Txn) → s.txns u ≡ t → freed_among (λ q. same_node q x) t ≡ t
    freed_none u None e = refl
    freed_none u (Some t) e = ap (λ st. Some (record t { status = st })) (by t.status (ap status_in e))
      where
        by : (st : Status) → status_of s u ≡ Some st → none_among (λ q. same_node q x) st ≡ st
        by Active h = refl
        by Condemned h = refl
        by (Waiting q m) h = ap (λ b. if b then Active else Waiting q m) (waits_there u q m h)

-- the slot holds the node, and nobody else the node or a child of it; nobody waits for a child
pub record MayClear (s : State) (t : ℕ) (n : NodeId) (xs : List NodeId) : Type 0 where
  pub law : IsLawfulGraph s.graph
  pub orderly : IsOrderly s
  pub active : status_of s t ≡ Some Active
  pub branch : IsBranchLeftTo s t n
  pub each : xs ≡ intervals_in (shape_of s.graph n)

module _ {s : State} {t : ℕ} {n : NodeId} {xs : List NodeId} (may : MayClear s t n xs) where
  -- the state once those before this place were cleared
  abbrev pub before : ℕ → State
  before k = departed s (λ q. list_any (same_node q) (take k xs)) s.graph

  children_listed : (q : NodeId) → is_child s.graph n q ≡ list_any (same_node q) xs
  children_listed q = child_is s.graph may.law n may.branch.movable may.branch.free q ∙ ap (list_any (same_node q)) (sym may.each)

  listed_child : (q : NodeId) → list_any (same_node q) xs ≡ true → is_child s.graph n q ≡ true
  listed_child q h = children_listed q ∙ h

  is_listed_child : (q : NodeId) → is_child s.graph n q ≡ true → list_any (same_node q) xs ≡ true
  is_listed_child q c = sym (children_listed q) ∙ c

  -- the node is no child of its own
  not_itself : list_any (same_node n) xs ≡ false
  not_itself = not_true _ (λ h. no (sym (movable_no_interval (shape_of s.graph n) may.branch.movable)
      ∙ (children_are s.graph may.law n may.branch.movable may.branch.free n (listed_child n h)).1))

  whole : (q : NodeId) → (same_node q n || list_any (same_node q) xs) ≡ goes_with s.graph n q
  whole q = ap₂ (λ a b. a || b) (same_node-sym q n)
      (split (list_any (same_node q) xs) (λ e. e ∙ sym (listed_child q e))
      (λ e. e ∙ sym (not_true (is_child s.graph n q) (λ c. clash (is_listed_child q c) e))))

  module _ (k : ℕ) where
    taken_among : (q : NodeId) → list_any (same_node q) (take k xs) ≡ true → list_any (same_node q) xs ≡ true
    taken_among q h = by k xs h
      where
        by : (j : ℕ) (ys : List NodeId) → list_any (same_node q) (take j ys) ≡ true → list_any (same_node q) ys ≡ true
        by zero ys h' = absurd (no h')
        by (suc j) [] h' = absurd (no h')
        by (suc j) (y ∷ ys) h' =
            or_elim (same_node q y) (list_any (same_node q) (take j ys)) h' (λ here. or_left _ _ here) (λ there. or_right _ _ (by j ys there))

    before_orderly : IsOrderly (before k)
    before_orderly = cleared_orderly s may.orderly (λ q. list_any (same_node q) (take k xs))

    before_active : status_of (before k) t ≡ Some Active
    before_active = by (s.txns t) may.active
      where
        by : (x : Option Txn) → status_in x ≡ Some Active → status_in (freed_among (λ q. list_any (same_node q) (take k xs)) x) ≡ Some Active
        by None h = absurd (cc h)
        by (Some x) h = let is : x.status ≡ Active = cc in ap (λ st. Some (none_among (λ q. list_any (same_node q) (take k xs)) st)) is

    pub before_act : (g : View) (l : Ledger) → AreExact g l → state_in g l ≡ before k → MayAct g l t
    before_act g l exact is = record {
      exact = exact;
      orderly = subst IsOrderly (sym is) before_orderly;
      active = ap (λ (x : State). status_of x t) is ∙ before_active;
    }

    before_alone : (u : ℕ) (q : NodeId) → (u == t) ≡ false → goes_with s.graph n q ≡ true → (before k).held u q ≡ NL
    before_alone u q e g = split (list_any (same_node q) (take k xs)) (λ h. if-true _ h) (λ h. if-false _ h ∙ may.branch.alone u q e g)

    pub before_unawaited : (q : NodeId) → is_child s.graph n q ≡ true → (before k).queue q ≡ []
    before_unawaited q c = split (list_any (same_node q) (take k xs)) (λ h. if-true _ h) (λ h. if-false _ h ∙ may.branch.unawaited q c)

    -- one of the children
    module _ (x : NodeId) (at : slice_get xs k ≡ Some x) where
      pub child_here : is_child s.graph n x ≡ true
      child_here = listed_child x (item_among xs k x at)

      child_live : is_live s.graph x ≡ true
      child_live = by child_here
        where
          by : is_child s.graph n x ≡ true → is_live s.graph x ≡ true
          by c = there (node_at s.graph x) c
            where
              there : (o : Option Node) → list_any (same_node n) (parents_in o) ≡ true → is_some o ≡ true
              there None h = h
              there (Some y) h = refl

      childless : (u : ℕ) → held_children (before k) u x ≡ 0
      childless u = count_none (is_live s.graph) (λ c. is_child s.graph x c && holds (members (before k) c) u) (nodes s.graph) (nodes_live s.graph)
          (λ c on. ap (λ b. b && holds (members (before k) c) u) (not_true (is_child s.graph x c)
          (λ h. apart_from s.graph may.law n may.branch.movable may.branch.free c x h child_here)))

      pub child_left : (now : State) → now ≡ before k → IsLeftTo now t x
      child_left now is = subst (λ (y : State). IsLeftTo y t x) (sym is) (record {
        live = child_live;
        childless = childless;
        alone = λ u e. before_alone u x e (or_right (same_node n x) _ child_here);
      })

      low : k < length xs
      low = by k xs at
        where
          by : (j : ℕ) (ys : List NodeId) → slice_get ys j ≡ Some x → j < length ys
          by j [] e = absurd (cc e)
          by zero (y ∷ ys) e = omega arith
          by (suc j) (y ∷ ys) e = let rest = by j ys e in omega arith

      item : get_or xs k x ≡ x
      item = by k xs at
        where
          by : (j : ℕ) (ys : List NodeId) → slice_get ys j ≡ Some x → get_or ys j x ≡ x
          by j [] e = refl
          by zero (y ∷ ys) e = some_is e
          by (suc j) (y ∷ ys) e = by j ys e

      more : (q : NodeId) → (same_node q x || list_any (same_node q) (take k xs)) ≡ list_any (same_node q) (take (k + 1) xs)
      more q =
          turn (same_node q x) (list_any (same_node q) (take k xs))
          ∙ sym (ap (list_any (same_node q)) (take_more xs k x low ∙ ap (λ y. take k xs ++ y ∷ []) item)
          ∙ list_any-append (same_node q) (take k xs) (x ∷ []))
        where
          turn : (a b : Bool) → (a || b) ≡ (b || (a || false))
          turn true true = refl
          turn true false = refl
          turn false true = refl
          turn false false = refl

      -- its locks are removed
      pub one_more : departed (before k) (λ q. same_node q x) s.graph ≡ before (k + 1)
      one_more = departed_twice s (λ q. list_any (same_node q) (take k xs)) (λ q. same_node q x)
          ∙ ap (λ (goes : NodeId → Bool). departed s goes s.graph) (fun_ext more)

  -- in the end nobody holds a child
  module _ (k : ℕ) (all : take k xs ≡ xs) where
    pub end_held : (before k).held t n ≡ s.held t n
    end_held = if-false _ (ap (list_any (same_node n)) all ∙ not_itself)

    pub end_queue : (before k).queue n ≡ s.queue n
    end_queue = if-false _ (ap (list_any (same_node n)) all ∙ not_itself)

    end_childless : (u : ℕ) → held_children (before k) u n ≡ 0
    end_childless u = count_none (is_live s.graph) (λ c. is_child s.graph n c && holds (members (before k) c) u) (nodes s.graph) (nodes_live s.graph)
        (λ c on. split (is_child s.graph n c)
        (λ h. ap₂ (λ a b. a && b) h (ap (λ b. not (same_mode (if b then NL else s.held u c) NL)) (ap (list_any (same_node c)) all ∙ is_listed_child c h)))
        (λ h. ap (λ b. b && holds (members (before k) c) u) h))

    -- so the node itself can be vacated
    pub end_left : (now : State) → now ≡ before k → is_live s.graph n ≡ true → IsLeftTo now t n
    end_left now is live = subst (λ (y : State). IsLeftTo y t n) (sym is) (record {
      live = live;
      childless = end_childless;
      alone = λ u e. before_alone k u n e (or_left _ _ (same_node-refl n));
    })

    pub end_whole : departed (before k) (λ q. same_node q n) s.graph ≡ departed s (goes_with s.graph n) s.graph
    end_whole = departed_twice s (λ q. list_any (same_node q) (take k xs)) (λ q. same_node q n)
        ∙ ap (λ (goes : NodeId → Bool). departed s goes s.graph)
        (fun_ext (λ q. ap (λ (ys : List NodeId). same_node q n || list_any (same_node q) ys) all ∙ whole q))

-- at the end the node's waiters are told
pub told_after : (s now : State) (n : NodeId) (first mid list : Told) → now.queue n ≡ s.queue n → ((u : ℕ) → age_in (now.txns u) ≡ age_in (s.txns u))
    → ((u : ℕ) → notices_in mid u ≡ notices_in first u) → TellsGone now n mid list → TellsGone s n first list
told_after s now n first mid list queue ages same tells = record {
  by_slot = tells.by_slot;
  notices = λ u. tells.notices u ∙ ap₂ (λ b x. if b then Some (record { slot = u; age = age_in (now.txns u) }, notice.Gone) else x)
      (ap (is_among_waiters u) queue) (same u)
      ∙ ap (λ a. if is_among_waiters u (s.queue n) then Some (record { slot = u; age = a }, notice.Gone) else notices_in first u) (ages u);
}

-- an item by its place
pub item_at : (xs : List NodeId) (k : ℕ) (d : NodeId) → k < length xs → slice_get xs k ≡ Some (slice_index_or xs k d)
item_at [] k d low = absurd (omega arith)
item_at (x ∷ xs) zero d low = refl
item_at (x ∷ xs) (suc k) d low = item_at xs k d (omega arith)

pub take_all : (xs : List NodeId) (k : ℕ) → length xs ≤ k → take k xs ≡ xs
take_all [] zero h = refl
take_all [] (suc k) h = refl
take_all (x ∷ xs) zero h = absurd (omega arith)
take_all (x ∷ xs) (suc k) h = ap (λ ys. x ∷ ys) (take_all xs k (omega arith))

-- if nothing is removed all stays
pub departed_none : (s : State) → departed s (λ q. false) s.graph ≡ s
departed_none s = λ i. record s { txns = fun_ext (λ u. freed_never (s.txns u)) i }
  where
    freed_never : (x : Option Txn) → freed_among (λ q. false) x ≡ x
    freed_never None = refl
    freed_never (Some x) = ap (λ st. Some (record x { status = st })) (by x.status)
      where
        by : (st : Status) → none_among (λ q. false) st ≡ st
        by Active = refl
        by (Waiting q m) = refl
        by Condemned = refl
