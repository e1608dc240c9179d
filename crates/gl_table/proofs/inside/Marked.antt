-- Marked children are released one after the other. For escalations.
use Rattle.gl_table.proofs.Words.{◌&&◌, ◌+◌, ◌<◌, ◌==◌, [], ◌||◌, ◌∙◌, ◌∷◌, ◌≡◌, ◌≤◌, Active, Agrees, and_both, any_counted, ap, ap₂, AreSound, arith, Bool}
use Rattle.gl_table.proofs.Words.{clash, cond, count_by, count_cons, count_of, CountsHeld, covered_in, false, front_at, fun_ext, Graph, holds, holds_child}
use Rattle.gl_table.proofs.Words.{if-false, if-true, if◌then◌else◌, in_no_queue, is_child, is_covered, is_listed, is_some, is_wait, IsLawfulGraph, IsOrderly}
use Rattle.gl_table.proofs.Words.{IsReleased, IsShedding, Ledger, length, List, list_all, list_any, listed, LockList, lookup, map, members, Mode, mode_of}
use Rattle.gl_table.proofs.Words.{nat_lt, nat_tests, NL, nl_is, NodeId, nodes, NoneMarkedFrom, not, not-true, not_true, or-false, or_no, parents_of, pumped}
use Rattle.gl_table.proofs.Words.{refl, same_mode, same_node, same_node-equal, same_number, shed, slice_get, slice_index_or, slice_set, Some, split, State}
use Rattle.gl_table.proofs.Words.{state_on, status_of, subst, suc, sym, Told, true, txn_there, unlocked, WakesLists, WakesTold, with_grant, woken, X, zero, ℕ}
use Rattle.gl_table.proofs.inside.Departures.{fewer_held, held_after, holds_after, IsLeaving, leaving_one, left_by, taken_from}
use Rattle.gl_table.proofs.inside.Slots.{agrees-set, by_list-at, counts-set, own_list}
use Rattle.gl_lock_lists.proofs.Children.{one_found}

-- Marked children are released, one after the other: what holds after each.

-- t released some of the children of n that were covered in s
pub record IsReleasing (s now : State) (t : ℕ) (n : NodeId) (ls : List LockList) (l : LockList) (was told : Told) : Type 0 where
  pub leaving : IsLeaving s now t ls was told
  pub marked : IsShedding s now t n l
  pub covered : (q : NodeId) → left_by s now t q ≡ true → is_covered s t n q ≡ true

-- nothing is counted if all that passes also passes a test that nothing passes
none_passes : (f g : NodeId → Bool) (xs : List NodeId) → list_any g xs ≡ false → ((x : NodeId) → f x ≡ true → g x ≡ true) → count_by f xs ≡ 0
none_passes f g [] h less = refl
none_passes f g (x ∷ xs) h less =
    let both = or_no (g x) (list_any g xs) h in
    count_cons f x xs ∙ ap₂ (λ b k. cond b 1 0 + k) (not_true (f x) (λ k. clash (less x k) both.0)) (none_passes f g xs both.1 less)

module _ {s now : State} {t : ℕ} {n : NodeId} {ls : List LockList} {l : LockList} {was told : Told} (is : IsReleasing s now t n ls l was told)
    (quiet : is_wait (status_of s t) ≡ false) where
  -- what is marked is held and was covered
  marked_held : (c : NodeId) → is_listed l c ≡ true → holds (members now c) t ≡ true
  marked_held c h = sym (is.marked.listed c) ∙ h

  marked_covered : (c : NodeId) → is_listed l c ≡ true → mode_of l c ≡ NL → is_covered s t n c ≡ true
  marked_covered c h m = grind (arith, nat_tests)

  -- no child of it is held
  pub marked_childless : (c : NodeId) → is_listed l c ≡ true → mode_of l c ≡ NL → count_of l c ≡ 0
  marked_childless c h m =
      is.marked.counts c ∙ ap (λ g. count_by (λ x. is_child g c x && holds (members now x) t) (nodes g)) is.leaving.graph
      ∙ none_passes (λ x. is_child s.graph c x && holds (members now x) t) (λ x. is_child s.graph c x && holds (members s x) t) (nodes s.graph)
      (not-true (holds_child s t c) (and_both _ _ (and_both _ _ (marked_covered c h m)).0).1)
      (λ x k. let both = and_both _ _ k in ap₂ (λ a b. a && b) both.0 (is.leaving.less x both.1))

  module _ (law : IsLawfulGraph now.graph) (c : NodeId) (listed : is_listed l c ≡ true) where
    pub marked_counted : (q : NodeId) → count_by (same_node q) (parents_of now.graph c) ≤ count_of l q
    marked_counted q = subst (λ (k : ℕ). count_by (same_node q) (parents_of now.graph c) ≤ k) (sym (is.marked.counts q))
        (let e = fewer_held is.leaving quiet c (marked_held c listed) law q in omega arith)

    module _ (mark : mode_of l c ≡ NL) {l' : LockList}
        (listed' : (q : NodeId) → is_listed l' q ≡ (is_listed l q && not (same_node q c))) (modes' : (q : NodeId) → mode_of l' q ≡ mode_of l q)
        (counts' : (q : NodeId) → count_of l' q + count_by (same_node q) (parents_of now.graph c) ≡ count_of l q) where
      -- the list has all that is held still, and what is marked still
      marked_after : IsShedding s (unlocked now t c) t n l'
      marked_after = record {
        listed = λ q. listed' q ∙ ap (λ b. b && not (same_node q c)) (is.marked.listed q) ∙ sym (holds_after is.leaving quiet c (marked_held c listed) q);
        modes = λ q. modes' q ∙ is.marked.modes q ∙ split (same_node q c)
            (λ e. let yes = ap (is_covered s t n) (same_node-equal q c e) ∙ marked_covered c listed mark in ap (λ b. if b then NL else now.held t q) yes
            ∙ sym (ap (λ b. if b then NL else (unlocked now t c).held t q) yes)) (λ e. ap (λ m. if is_covered s t n q then NL else m)
            (sym (held_after is.leaving quiet c (marked_held c listed) q ∙ if-false _ e)));
        counts = λ p. let a = counts' p in let b = is.marked.counts p in let d = fewer_held is.leaving quiet c (marked_held c listed) law p in omega arith;
      }

      pub releasing_one : {ls' : List LockList} {told' : Told} → WakesLists ls c (parents_of now.graph c) (front_at (with_grant now t c NL) c) ls'
          → WakesTold now.txns c (front_at (with_grant now t c NL) c) told told' → IsReleasing s (unlocked now t c) t n ls' l' was told'
      releasing_one wakes woken = record {
        leaving = leaving_one is.leaving quiet c (marked_held c listed) law is.leaving.agree is.leaving.count wakes woken;
        marked = marked_after;
        covered = λ q h. grind (arith, nat_tests, same_node-equal);
      }
        where
          back : (a b : Bool) → (a || b) ≡ true → b ≡ false → a ≡ true
          back a b h1 h2 = grind (arith, nat_tests)

-- what is listed is at some place
place_of_listed : {A : Type 0} (q : NodeId) (es : List (NodeId × A)) → is_some (lookup (same_node q) es) ≡ true → (i : ℕ)
    × (slice_get (map (λ e. e.0) es) i ≡ Some q)
place_of_listed q [] h = clash h refl
place_of_listed {A} q (e ∷ es) h = by (same_node q e.0) refl h (place_of_listed q es)
  where
    by : (b : Bool) → same_node q e.0 ≡ b → is_some (cond b (Some e.1) (lookup (same_node q) es)) ≡ true
        → (is_some (lookup (same_node q) es) ≡ true → (i : ℕ) × (slice_get (map (λ x. x.0) es) i ≡ Some q)) → (i : ℕ)
        × (slice_get (map (λ x. x.0) (e ∷ es)) i ≡ Some q)
    by true k h r = (0, ap (λ x. Some x) (sym (same_node-equal q e.0 k)))
    by false k h r = let rest = r h in (suc rest.0, rest.1)

-- what is covered is held
covered_held : (s : State) (t : ℕ) (n q : NodeId) → is_covered s t n q ≡ true → holds (members s q) t ≡ true
covered_held s t n q e =
    let a = and_both (is_child s.graph n q && holds (members s q) t && not (holds_child s t q))
    (not (same_mode (s.held t q) X) || list_all (λ p. same_mode (s.held t p) X) (parents_of s.graph q)) e in
    let b = and_both (is_child s.graph n q && holds (members s q) t) (not (holds_child s t q)) a.0 in
    (and_both (is_child s.graph n q) (holds (members s q) t) b.0).1

module _ {s now : State} {t : ℕ} {n : NodeId} {ls : List LockList} {l : LockList} {was told : Told} (is : IsReleasing s now t n ls l was told)
    (none : NoneMarkedFrom l 0) where
  gone : (q : NodeId) → is_covered s t n q ≡ true → holds (members now q) t ≡ false
  gone q e = not_true _ (λ h.
      let at = place_of_listed q l.entries.entries (is.marked.listed q ∙ h) in
      clash (ap (λ m. same_mode m NL) (is.marked.modes q ∙ ap (λ b. if b then NL else now.held t q) e)) (none at.0 q (omega arith) at.1))

  same_left : (q : NodeId) → left_by s now t q ≡ is_covered s t n q
  same_left q = split (is_covered s t n q) (λ e. ap₂ (λ x y. x && not y) (covered_held s t n q e) (gone q e) ∙ sym e)
      (λ e. not_true _ (λ h. clash (is.covered q h) e) ∙ sym e)

  -- once none is marked all that was covered is released
  pub releasing_ends : now ≡ shed s t n
  releasing_ends = is.leaving.left ∙ ap (λ f. pumped (taken_from s t f) f) (fun_ext same_left)

  -- and the list says what is held
  pub releasing_modes : (q : NodeId) → mode_of l q ≡ now.held t q
  releasing_modes q = is.marked.modes q ∙ split (is_covered s t n q) (λ e. if-true _ e ∙ sym (nl_is (now.held t q) (gone q e))) (λ e. if-false _ e)

-- The list of a slot is moved out of its place, its covered children are marked, and at the end it is put back.

-- an active slot has a list
pub list_there : (l : Ledger) (g : Graph) → AreSound l → IsOrderly (state_on g l) → (t : ℕ) → status_of (state_on g l) t ≡ Some Active
    → t < length l.lists.items
list_there l g sound o t active = subst (λ (k : ℕ). t < k) (sym sound.lists) (o.below t (txn_there ((state_on g l).txns t) Active active))

-- what was moved out of its place
pub taken_out : (ls : List LockList) (t : ℕ) (x l : LockList) → l ≡ x → x ≡ slice_index_or ls t x → l ≡ slice_index_or ls t l
taken_out ls t x l is at = subst (λ (y : LockList). y ≡ slice_index_or ls t y) (sym is) at

module _ (s : State) (o : IsOrderly s) (t : ℕ) (active : status_of s t ≡ Some Active) where
  held_alone : (q : NodeId) → (holds (members s q) t || false) ≡ holds (members s q) t
  held_alone q = or-false (holds (members s q) t)

  module _ (law : IsLawfulGraph s.graph) (ls : List LockList) (l : LockList) (lt : t < length ls) (at : l ≡ slice_index_or ls t l) (agree : Agrees s ls t)
      (count : CountsHeld s ls t) where
    own_mode : (q : NodeId) → mode_of l q ≡ s.held t q
    own_mode q = sym (by_list-at (λ x. mode_of x q) NL ls t l lt at) ∙ agree.modes q

    own_count : (p : NodeId) → nat_lt 0 (count_of l p) ≡ holds_child s t p
    own_count p = ap (λ k. nat_lt 0 k) (sym (by_list-at (λ x. count_of x p) 0 ls t l lt at) ∙ count p)
        ∙ any_counted (λ c. is_child s.graph p c && holds (members s c) t) (nodes s.graph)

    -- what is held is counted at its parents
    pub parents_counted : (c p : NodeId) → not (same_mode (mode_of l c) NL) ≡ true → list_any (same_node p) (parents_of s.graph c) ≡ true → 0 < count_of l p
    parents_counted c p h child =
        let held : holds (members s c) t ≡ true = ap (λ m. not (same_mode m NL)) (sym (own_mode c)) ∙ h in
        let some : nat_lt 0 (count_of l p) ≡ true = own_count p
        ∙ one_found (λ x. is_child s.graph p x && holds (members s x) t) c (nodes s.graph) (ap₂ (λ a b. a && b) child held)
        (listed s.graph law c (o.holders_live t c held)) in
        grind (arith, nat_tests)

    none_is : (k : ℕ) → (k == 0) ≡ not (nat_lt 0 k)
    none_is zero = refl
    none_is (suc k) = grind (arith, nat_tests)

    -- the list tells what is covered
    same_covered : (n c : NodeId) → covered_in s.graph l n c ≡ is_covered s t n c
    same_covered n c =
        ap₂ (λ (h : NodeId → Mode) (b : Bool). is_child s.graph n c && not (same_mode (h c) NL) && b
        && (not (same_mode (h c) X) || list_all (λ p. same_mode (h p) X) (parents_of s.graph c)))
        (fun_ext own_mode) (none_is (count_of l c) ∙ ap not (own_count c))

    pub shedding_begins : (n : NodeId) (l' : LockList) → ((q : NodeId) → is_listed l' q ≡ is_listed l q)
        → ((q : NodeId) → mode_of l' q ≡ (if covered_in s.graph l n q then NL else mode_of l q))
        → ((q : NodeId) → count_of l' q ≡ count_of l q) → IsShedding s s t n l'
    shedding_begins n l' listed' modes' counts' = record {
      listed = λ q. listed' q ∙ sym (by_list-at (λ x. is_listed x q) false ls t l lt at) ∙ agree.listed q
          ∙ ap (λ b. holds (members s q) t || b) (in_no_queue s o t (ap is_wait active) q) ∙ held_alone q;
      modes = λ q. modes' q ∙ ap₂ (λ b m. if b then NL else m) (same_covered n q) (own_mode q);
      counts = λ p. counts' p ∙ sym (by_list-at (λ x. count_of x p) 0 ls t l lt at) ∙ count p;
    }

  -- the list is put back
  module _ (s0 : State) (n : NodeId) (ls : List LockList) (l : LockList) (lt : t < length ls) (is : IsReleased s0 s t n l) where
    back_agrees : Agrees s (slice_set ls t l) t
    back_agrees = record {
      modes = λ q. own_list ls t l lt (λ x. mode_of x q) NL ∙ is.modes q;
      listed = λ q. grind (
        arith,
        nat_tests,
        own_list ls t l lt (λ x. is_listed x q) false,
        is.marked.listed q,
        in_no_queue s o t (ap is_wait active) q,
        held_alone q,
      );
      room = λ h. clash h (ap is_wait active);
    }

    pub agrees-back : ((u : ℕ) → (u == t) ≡ false → Agrees s ls u) → (u : ℕ) → Agrees s (slice_set ls t l) u
    agrees-back agree u = split (u == t) (λ e. subst (Agrees s (slice_set ls t l)) (sym (same_number u t e)) back_agrees)
        (λ e. agrees-set ls t l lt u e s (agree u e))

    back_counts : CountsHeld s (slice_set ls t l) t
    back_counts p = own_list ls t l lt (λ x. count_of x p) 0 ∙ is.marked.counts p

    pub counts-back : ((u : ℕ) → (u == t) ≡ false → CountsHeld s ls u) → (u : ℕ) → CountsHeld s (slice_set ls t l) u
    counts-back count u = split (u == t) (λ e. subst (CountsHeld s (slice_set ls t l)) (sym (same_number u t e)) back_counts)
        (λ e. counts-set ls t l lt u e s (count u e))
