-- What a grant and a loss keep of the law, and how fronts that grant bring the whole law back. For every change.
use Rattle.gl_model.proofs.Words.{◌&&◌, ◌++◌, ◌<◌, ◌==◌, [], ◌||◌, ◌∙◌, ◌∷◌, ◌≡◌, ◌≢◌, ◌≤◌, ◌⊎◌, ⊎_elim, Active, after_grants, age_in, age_of, and_both, ap}
use Rattle.gl_model.proofs.Words.{ap₂, are_compatible, arith, at_least-refl, at_least-transitive, Bool, clash, compatible-symmetric, cond, Condemned, drop}
use Rattle.gl_model.proofs.Words.{false, filter, filter-append, fits, fits-all, front, front-after_front, front_at, granted_at, holds, if◌then◌else◌, intends}
use Rattle.gl_model.proofs.Words.{intends_over, IS, is_ahead, is_among_waiters, is_at_least, is_child, is_live, is_some, is_waiter, is_waiting_at, is_write}
use Rattle.gl_model.proofs.Words.{IsCompatible, IsLawful, IsLawfulGraph, IsWithin, IX, length, List, list_all, list_any, Members, members, Mode, ModeFitsKind}
use Rattle.gl_model.proofs.Words.{nat_tests, NL, NL-compatible, no_parents, NodeId, None, not, Option, or_elim, or_left, or_right, parents_of, pumped}
use Rattle.gl_model.proofs.Words.{pumped-compatible, range_with_len, refl, rules, same_mode, same_node, same_node-equal, same_node-refl, same_number, since_in}
use Rattle.gl_model.proofs.Words.{since_of, Some, split, State, Status, status_in, status_of, subst, sym, true, true≢false, Txn, Waiter, Waiting, waits_at}
use Rattle.gl_model.proofs.Words.{with_grant, woken, ℕ}
use Rattle.gl_model.proofs.queues.Waiters.{ahead, ahead_after, ahead_first, ahead_is, ahead_second, all_weaker, among_append, any_weaker, grants_one}
use Rattle.gl_model.proofs.queues.Waiters.{grants_other, if-false, if-true, no_cons, none_filtered, not_among, one_in_first}
use Rattle.gl_model.proofs.queues.Fronts.{granted_parts}
use Rattle.gl_model.specs.Lawful.{AreKnown}

-- one that does not hold has NL
pub nl_is : (a : Mode) → not (same_mode a NL) ≡ false → a ≡ NL
nl_is a h = search rules

-- A grant at once keeps the law.

-- a greater mode blocks no less
less_compatible : (m a b : Mode) → is_at_least b a ≡ true → are_compatible m b ≡ true → are_compatible m a ≡ true
less_compatible m a b h k = search rules

-- a mode no less than a held one is held
pub more_held : (a b : Mode) → is_at_least b a ≡ true → not (same_mode a NL) ≡ true → not (same_mode b NL) ≡ true
more_held a b h k = search rules

-- if all holders are below the limit, nobody at or above it holds
pub holders-within : (s : State) (n : NodeId) → ((u : ℕ) → holds (members s n) u ≡ true → u < s.most) → IsWithin s.most (members s n)
holders-within s n below u le = split (holds (members s n) u) (λ h. let lt = below u h in absurd (omega arith)) (λ h. nl_is (s.held u n) h)

-- and the same in a lawful state
pub lawful-within : (s : State) → IsLawful s → (n : NodeId) → IsWithin s.most (members s n)
lawful-within s law n = holders-within s n (λ u h. law.slots_below u (law.grants_live u n h).0)

-- a holder of no less meets the rule as before
pub rule_more : (h h' : NodeId → Mode) → ((p : NodeId) → is_at_least (h' p) (h p) ≡ true) → (ps : List NodeId) (m : Mode) → intends_over h ps m ≡ true
    → intends_over h' ps m ≡ true
rule_more h h' more ps m k =
    let all = all_weaker (λ p. is_at_least (h p) IX) (λ p. is_at_least (h' p) IX) ps (λ p. at_least-transitive (h' p) (h p) IX (more p)) in
    let any = any_weaker (λ p. is_at_least (h p) IS) (λ p. is_at_least (h' p) IS) ps (λ p. at_least-transitive (h' p) (h p) IS (more p)) in
    grind (arith, nat_tests, is_write m, no_parents ps, all, any)

-- fewer fit if a mode is greater
pub fits_less : (g g' : Members) → ((u : ℕ) → is_at_least (g' u) (g u) ≡ true) → (t : ℕ) (m : Mode) (us : List ℕ)
    → list_all (λ u. (u == t) || are_compatible m (g' u)) us ≡ true → list_all (λ u. (u == t) || are_compatible m (g u)) us ≡ true
fits_less g g' more t m us k = all_weaker (λ u. (u == t) || are_compatible m (g' u)) (λ u. (u == t) || are_compatible m (g u)) us
    (λ u e. or_elim _ _ e (or_left _ _) (λ c. or_right (u == t) _ (less_compatible m (g u) (g' u) (more u) c))) k

-- with no less held, a front that was empty stays empty
pub front_less : (most : ℕ) (g g' : Members) → ((u : ℕ) → is_at_least (g' u) (g u) ≡ true) → (q : List Waiter) → front most g q ≡ [] → front most g' q ≡ []
front_less most g g' more [] h = refl
front_less most g g' more (w ∷ q) h = split (fits most g' w.0 w.1)
    (λ e. no_cons (sym (if-true _ (fits_less g g' more w.0 w.1 (range_with_len 0 most) e)) ∙ h)) (λ e. if-false _ e)

pub txn_there : (x : Option Txn) (st : Status) → status_in x ≡ Some st → is_some x ≡ true
txn_there None st h = cc
txn_there (Some x) st h = refl

pub apart : {q : NodeId} {w : Mode} → Some Active ≡ Some (Waiting q w) → ⊥
apart e = cc

module _ (s : State) (law : IsLawful s) (t : ℕ) (n : NodeId) (m : Mode) (active : status_of s t ≡ Some Active) (live : is_live s.graph n ≡ true)
    (kind : ModeFitsKind s n m) (rule : intends s t n m ≡ true) (more : is_at_least m (s.held t n) ≡ true) (fit : fits s.most (members s n) t m ≡ true) where
  -- what a slot holds afterwards: the new mode, or what it held
  at_case : {C : Type 0} (u : ℕ) (q : NodeId) → (u ≡ t → q ≡ n → (with_grant s t n m).held u q ≡ m → C) → ((with_grant s t n m).held u q ≡ s.held u q → C) → C
  at_case u q here there = grind (arith, nat_tests, same_number, same_node-equal, and_both)

  grown_held : (u : ℕ) (q : NodeId) → is_at_least ((with_grant s t n m).held u q) (s.held u q) ≡ true
  grown_held u q = at_case u q (λ eu eq eh. ap₂ is_at_least eh (ap₂ s.held eu eq) ∙ more) (λ eh. ap (λ a. is_at_least a (s.held u q)) eh
      ∙ at_least-refl (s.held u q))

  not_waiting : (q : NodeId) → is_waiting_at s t q ≡ true → ⊥
  not_waiting q h = true≢false (sym h ∙ ap (λ o. waits_at o q) active)

  -- the fields of the law, one after the other
  pub with_grant-lawful : IsLawful (with_grant s t n m)
  with_grant-lawful = record {
    graph = law.graph;
    grants_live = λ u q h. at_case u q (λ eu eq eh. (
      ap (λ v. is_some (s.txns v)) eu ∙ txn_there (s.txns t) Active active,
      ap (is_live s.graph) eq ∙ live,
      subst (λ p. ModeFitsKind s p ((with_grant s t n m).held u q)) (sym eq) (subst (ModeFitsKind s n) (sym eh) kind),
    )) (λ eh. let old = law.grants_live u q (sym (ap (λ a. not (same_mode a NL)) eh) ∙ h) in (old.0, old.1, subst (ModeFitsKind s q) (sym eh) old.2));
    waits_live = law.waits_live;
    compatible = λ u v q ne. at_case u q (λ eu eq eh. at_case v q (λ ev _ _. absurd (ne (eu ∙ sym ev)))
        (λ fh. ap₂ are_compatible eh fh ∙ ap (λ p. are_compatible m (s.held v p)) eq
        ∙ fits-all s.most (members s n) t m (lawful-within s law n) fit v (λ ev. ne (eu ∙ sym ev)))) (λ eh. at_case v q
        (λ ev eq fh. ap₂ are_compatible eh fh ∙ compatible-symmetric (s.held u q) m ∙ ap (λ p. are_compatible m (s.held u p)) eq
        ∙ fits-all s.most (members s n) t m (lawful-within s law n) fit u (λ eu. ne (eu ∙ sym ev))) (λ fh. ap₂ are_compatible eh fh ∙ law.compatible u v q ne));
    grants_intend = λ u q h. rule_more (s.held u) ((with_grant s t n m).held u) (grown_held u) (parents_of s.graph q) ((with_grant s t n m).held u q)
        (at_case u q (λ eu eq eh. ap₂ (λ v p. intends s v p ((with_grant s t n m).held u q)) eu eq ∙ ap (intends s t n) eh ∙ rule)
        (λ eh. ap (intends s u q) eh ∙ law.grants_intend u q (sym (ap (λ a. not (same_mode a NL)) eh) ∙ h)));
    waits_intend = λ u q w st. let old = law.waits_intend u q w st in (
      rule_more (s.held u) ((with_grant s t n m).held u) (grown_held u) (parents_of s.graph q) w old.0,
      old.1,
      at_case u q (λ eu _ _. absurd (apart (sym (ap (status_of s) eu ∙ active) ∙ st))) (λ eh. ap (is_at_least w) eh ∙ old.2),
      old.3,
    );
    one_wait = law.one_wait;
    waits_are = law.waits_are;
    holders_first = λ u v q h ahead. at_case u q
        (λ eu eq eh. absurd (not_waiting q (ap (λ x. is_waiting_at s x q) (sym eu) ∙ law.waits_are u q (and_both _ _ ahead).0)))
        (λ eh. more_held (s.held v q) ((with_grant s t n m).held v q) (grown_held v q)
        (law.holders_first u v q (sym (ap (λ a. not (same_mode a NL)) eh) ∙ h) ahead));
    front_waits = λ q. front_less s.most (members s q) (members (with_grant s t n m) q) (λ u. grown_held u q) (s.queue q) (law.front_waits q);
    slots_below = law.slots_below;
    ages = law.ages;
    ages_differ = law.ages_differ;
    known = law.known;
  }

-- The law except the fronts of some nodes: what each command leaves before those nodes grant.

-- `front_waits` is needed of the nodes not chosen
pub record IsLawfulBut (chosen : NodeId → Bool) (s : State) : Type 0 where
  pub graph : IsLawfulGraph s.graph
  pub grants_live : (t : ℕ) (n : NodeId) → holds (members s n) t ≡ true → (is_some (s.txns t) ≡ true) × (is_live s.graph n ≡ true)
      × ModeFitsKind s n (s.held t n)
  pub waits_live : (t : ℕ) (n : NodeId) → is_among_waiters t (s.queue n) ≡ true → is_live s.graph n ≡ true
  pub compatible : (t u : ℕ) (n : NodeId) → t ≢ u → are_compatible (s.held t n) (s.held u n) ≡ true
  pub grants_intend : (t : ℕ) (n : NodeId) → holds (members s n) t ≡ true → intends s t n (s.held t n) ≡ true
  pub waits_intend : (t : ℕ) (n : NodeId) (m : Mode) → status_of s t ≡ Some (Waiting n m) → (intends s t n m ≡ true) × (m ≢ NL)
      × (is_at_least m (s.held t n) ≡ true) × ModeFitsKind s n m
  pub one_wait : (t : ℕ) (n : NodeId) (m : Mode) → status_of s t ≡ Some (Waiting n m) → filter (is_waiter t) (s.queue n) ≡ (t, m) ∷ []
  pub waits_are : (t : ℕ) (n : NodeId) → is_among_waiters t (s.queue n) ≡ true → is_waiting_at s t n ≡ true
  pub holders_first : (t u : ℕ) (n : NodeId) → holds (members s n) t ≡ true → is_ahead (s.queue n) t u ≡ true → holds (members s n) u ≡ true
  pub front_waits : (n : NodeId) → chosen n ≡ false → front_at s n ≡ []
  pub slots_below : (t : ℕ) → is_some (s.txns t) ≡ true → t < s.most
  pub ages : (t : ℕ) → is_some (s.txns t) ≡ true → (1 ≤ age_of s t) × (age_of s t ≤ s.begins)
  pub ages_differ : (t u : ℕ) → is_some (s.txns t) ≡ true → age_of s t ≡ age_of s u → t ≡ u
  pub known : AreKnown s

-- A state with fewer grants, waits and transactions keeps the law, except the fronts of nodes that lost something.

-- a wait on n, with its mode
pub waiting_is : (o : Option Status) (n : NodeId) → waits_at o n ≡ true → (m : Mode) × (o ≡ Some (Waiting n m))
waiting_is None n h = clash h refl
waiting_is (Some Active) n h = clash h refl
waiting_is (Some Condemned) n h = clash h refl
waiting_is (Some (Waiting q m)) n h = (m, ap (λ p. Some (Waiting p m)) (same_node-equal q n h))

pub nl_holds : (a : Mode) → a ≡ NL → not (same_mode a NL) ≡ false
nl_holds a e = ap (λ m. not (same_mode m NL)) e

pub age_none : (x : Option Txn) → is_some x ≡ false → age_in x ≡ 0
age_none None h = refl
age_none (Some x) h = clash refl h

-- two tests that agree on all that is listed
pub any_same : (f g : NodeId → Bool) (ns : List NodeId) → ((n : NodeId) → list_any (same_node n) ns ≡ true → f n ≡ g n) → list_any f ns ≡ list_any g ns
any_same f g [] same = refl
any_same f g (n ∷ ns) same =
    ap₂ (λ a b. a || b) (same n (or_left _ _ (same_node-refl n))) (any_same f g ns (λ p h. same p (or_right (same_node p n) _ h)))

pub all_same : (f g : NodeId → Bool) (ns : List NodeId) → ((n : NodeId) → list_any (same_node n) ns ≡ true → f n ≡ g n) → list_all f ns ≡ list_all g ns
all_same f g [] same = refl
all_same f g (n ∷ ns) same =
    ap₂ (λ a b. a && b) (same n (or_left _ _ (same_node-refl n))) (all_same f g ns (λ p h. same p (or_right (same_node p n) _ h)))

-- the graph rule looks at the parents alone
pub rule_same : (h h' : NodeId → Mode) (m : Mode) (ps : List NodeId) → ((p : NodeId) → list_any (same_node p) ps ≡ true → h' p ≡ h p)
    → intends_over h' ps m ≡ intends_over h ps m
rule_same h h' m ps same = ap₂ (λ a b. cond (is_write m) a (no_parents ps || b))
    (all_same (λ p. is_at_least (h' p) IX) (λ p. is_at_least (h p) IX) ps (λ p k. ap (λ x. is_at_least x IX) (same p k)))
    (any_same (λ p. is_at_least (h' p) IS) (λ p. is_at_least (h p) IS) ps (λ p k. ap (λ x. is_at_least x IS) (same p k)))

-- these grants, queues and transactions are some of the state's: no grant without those that it needs, each wait whole
pub record IsLess (s : State) (held : ℕ → NodeId → Mode) (queue : NodeId → List Waiter) (txns : ℕ → Option Txn) (chosen : NodeId → Bool) : Type 0 where
  pub kept : (u : ℕ) (q : NodeId) → (held u q ≡ NL) ⊎ (held u q ≡ s.held u q)
  pub holders_live : (u : ℕ) (q : NodeId) → not (same_mode (held u q) NL) ≡ true → is_some (s.txns u) ≡ true → is_some (txns u) ≡ true
  pub above : (u : ℕ) (q p : NodeId) → not (same_mode (held u q) NL) ≡ true → is_live s.graph q ≡ true → is_child s.graph p q ≡ true → held u p ≡ s.held u p
  pub waits_same : (u : ℕ) (n : NodeId) (m : Mode) → status_in (txns u) ≡ Some (Waiting n m)
      → (status_of s u ≡ Some (Waiting n m)) × ((p : NodeId) → held u p ≡ s.held u p) × (filter (is_waiter u) (queue n) ≡ filter (is_waiter u) (s.queue n))
  pub waiters_same : (u : ℕ) (n : NodeId) → is_among_waiters u (queue n) ≡ true → (is_among_waiters u (s.queue n) ≡ true) × (status_in (txns u) ≡ status_of s u)
  pub order : (n : NodeId) (a b : ℕ) → is_ahead (queue n) a b ≡ true → is_ahead (s.queue n) a b ≡ true
  pub txns_same : (u : ℕ) → is_some (txns u) ≡ true → (is_some (s.txns u) ≡ true) × (age_in (txns u) ≡ age_of s u)
      × (since_in (txns u) ≡ since_of s u)
  pub fronts : (n : NodeId) → chosen n ≡ false → (queue n ≡ s.queue n) × ((u : ℕ) → held u n ≡ s.held u n)

module _ (s : State) (law : IsLawful s) (held : ℕ → NodeId → Mode) (queue : NodeId → List Waiter) (txns : ℕ → Option Txn) (chosen : NodeId → Bool)
    (less : IsLess s held queue txns chosen) where
  abbrev less_state : State
  less_state = record s { held = held; queue = queue; txns = txns }

  held_same : (u : ℕ) (q : NodeId) → not (same_mode (held u q) NL) ≡ true → held u q ≡ s.held u q
  held_same u q h = ⊎_elim (λ e. clash h (nl_holds (held u q) e)) (λ e. e) (less.kept u q)

  holds_old : (u : ℕ) (q : NodeId) → not (same_mode (held u q) NL) ≡ true → not (same_mode (s.held u q) NL) ≡ true
  holds_old u q h = sym (ap (λ m. not (same_mode m NL)) (held_same u q h)) ∙ h

  -- what stays keeps the law, each field by itself
  pub less-lawful : IsLawfulBut chosen less_state
  less-lawful = record {
    graph = law.graph;
    grants_live = λ u q h. let old = law.grants_live u q (holds_old u q h) in
        (less.holders_live u q h old.0, old.1, subst (ModeFitsKind s q) (sym (held_same u q h)) old.2);
    waits_live = λ u q h. law.waits_live u q (less.waiters_same u q h).0;
    compatible = λ u v q ne. ⊎_elim (λ e. ap (λ m. are_compatible m (held v q)) e)
        (λ e. ⊎_elim (λ f. ap₂ are_compatible refl f ∙ NL-compatible (held u q)) (λ f. ap₂ are_compatible e f ∙ law.compatible u v q ne) (less.kept v q))
        (less.kept u q);
    grants_intend = λ u q h. let old = law.grants_intend u q (holds_old u q h) in let live = (law.grants_live u q (holds_old u q h)).1 in
        rule_same (s.held u) (held u) (held u q) (parents_of s.graph q) (λ p. less.above u q p h live)
        ∙ ap (intends s u q) (held_same u q h) ∙ old;
    waits_intend = λ u q m st. let was = less.waits_same u q m st in let old = law.waits_intend u q m was.0 in (
      rule_same (s.held u) (held u) m (parents_of s.graph q) (λ p k. was.1 p) ∙ old.0,
      old.1,
      ap (is_at_least m) (was.1 q) ∙ old.2,
      old.3,
    );
    one_wait = λ u q m st. let was = less.waits_same u q m st in was.2 ∙ law.one_wait u q m was.0;
    waits_are = λ u q h. let was = less.waiters_same u q h in ap (λ o. waits_at o q) was.1 ∙ law.waits_are u q was.0;
    holders_first = λ a b q ha h.
        let old = law.holders_first a b q (holds_old a q ha) (less.order q a b h) in
        let was = less.waiters_same b q (ahead_second (queue q) a b (sym (ahead_is (queue q) a b) ∙ h)) in
        let st = waiting_is (status_of s b) q (law.waits_are b q was.0) in
        let same = less.waits_same b q st.0 (was.1 ∙ st.1) in
        ap (λ m. not (same_mode m NL)) (same.1 q) ∙ old;
    front_waits = λ q no. let same = less.fronts q no in
        ap (front s.most (λ u. held u q)) same.0
        ∙ front_less s.most (members s q) (λ u. held u q) (λ u. ap (λ m. is_at_least m (s.held u q)) (same.1 u) ∙ at_least-refl (s.held u q)) (s.queue q)
        (law.front_waits q);
    slots_below = λ u h. law.slots_below u (less.txns_same u h).0;
    ages = λ u h. let was = less.txns_same u h in let old = law.ages u was.0 in
        (subst (λ a. 1 ≤ a) (sym was.1) old.0, subst (λ a. a ≤ s.begins) (sym was.1) old.1);
    ages_differ = λ u v h e. let was = less.txns_same u h in
        split (is_some (txns v)) (λ k. law.ages_differ u v was.0 (sym was.1 ∙ e ∙ (less.txns_same v k).1))
        (λ k. let old = law.ages u was.0 in let none : age_in (txns v) ≡ 0 = age_none (txns v) k in let zero_age : age_of s u ≡ 0 = sym was.1 ∙ e ∙ none in
        absurd (omega arith));
    known = λ u h. let was = less.txns_same u h in let old = law.known u was.0 in let a = was.1 in let b = was.2 in omega (arith, old, a, b);
  }

-- Nodes that grant from their fronts bring the whole law back.

-- what the granted lists do to a transaction
module _ (g : NodeId → List Waiter) (u : ℕ) where
  pub woken_some : (x : Option Txn) → is_some (woken g u x) ≡ is_some x
  woken_some x = grind (arith, nat_tests, x)

  pub woken_age : (x : Option Txn) → age_in (woken g u x) ≡ age_in x
  woken_age x = grind (arith, nat_tests, x)

  pub woken_since : (x : Option Txn) → since_in (woken g u x) ≡ since_in x
  woken_since x = grind (arith, nat_tests, x)

  -- a slot that still waits was not granted
  pub woken_waits : (q : NodeId) (m : Mode) (x : Option Txn) → status_in (woken g u x) ≡ Some (Waiting q m) → (status_in x ≡ Some (Waiting q m))
      × (is_among_waiters u (g q) ≡ false)
  woken_waits q m x h = grind (arith, nat_tests, x)

  -- and one that was not granted still waits
  pub woken_sleeps : (q : NodeId) (m : Mode) (x : Option Txn) → status_in x ≡ Some (Waiting q m) → is_among_waiters u (g q) ≡ false
      → status_in (woken g u x) ≡ Some (Waiting q m)
  woken_sleeps q m x h k = grind (arith, nat_tests, x)

module _ (s : State) (chosen : NodeId → Bool) (law : IsLawfulBut chosen s) where
  abbrev got : NodeId → List Waiter
  got q = granted_at s chosen q

  abbrev left : NodeId → List Waiter
  left q = drop (length (got q)) (s.queue q)

  -- a queue is what is granted and what is left
  pub granted_rest : (q : NodeId) → got q ++ left q ≡ s.queue q
  granted_rest q = granted_parts s chosen q

  pub got_waits : (u : ℕ) (q : NodeId) → is_among_waiters u (got q) ≡ true → is_among_waiters u (s.queue q) ≡ true
  got_waits u q h = ap (is_among_waiters u) (sym (granted_rest q)) ∙ among_append u (got q) (left q) ∙ or_left _ _ h

  pub left_waits : (u : ℕ) (q : NodeId) → is_among_waiters u (left q) ≡ true → is_among_waiters u (s.queue q) ≡ true
  left_waits u q h = ap (is_among_waiters u) (sym (granted_rest q)) ∙ among_append u (got q) (left q) ∙ or_right (is_among_waiters u (got q)) _ h

  pub wait_of : (u : ℕ) (q : NodeId) → is_among_waiters u (s.queue q) ≡ true → (m : Mode) × (status_of s u ≡ Some (Waiting q m))
  wait_of u q h = waiting_is (status_of s u) q (law.waits_are u q h)

  -- a granted waiter was once in the queue, so it is not in the rest
  pub one_of : (u : ℕ) (q : NodeId) (m : Mode) → status_of s u ≡ Some (Waiting q m) → is_among_waiters u (got q) ≡ true
      → (filter (is_waiter u) (got q) ≡ (u, m) ∷ []) × (filter (is_waiter u) (left q) ≡ [])
  one_of u q m st h =
      one_in_first (filter (is_waiter u) (got q)) (filter (is_waiter u) (left q)) (u, m)
      (sym (filter-append (is_waiter u) (got q) (left q)) ∙ ap (filter (is_waiter u)) (granted_rest q) ∙ law.one_wait u q m st)
      (λ e. clash h (none_filtered u (got q) e))

  -- granted here, or holding what it held
  pub grant_case : {C : Type 0} (u : ℕ) (q : NodeId)
      → ((m : Mode) → status_of s u ≡ Some (Waiting q m) → is_among_waiters u (got q) ≡ true → (pumped s chosen).held u q ≡ m
      → is_among_waiters u (left q) ≡ false → C) → (is_among_waiters u (got q) ≡ false → (pumped s chosen).held u q ≡ s.held u q → C) → C
  grant_case u q here there =
      split (is_among_waiters u (got q)) (λ h. let st = wait_of u q (got_waits u q h) in let one = one_of u q st.0 st.1 h in
      here st.0 st.1 h (grants_one (got q) (members s q) u st.0 one.0) (none_filtered u (left q) one.1)) (λ h. there h (grants_other (got q) (members s q) u h))

  -- nobody loses by it
  pub grew : (u : ℕ) (q : NodeId) → is_at_least ((pumped s chosen).held u q) (s.held u q) ≡ true
  grew u q = grant_case u q (λ m st h e out. ap (λ a. is_at_least a (s.held u q)) e ∙ (law.waits_intend u q m st).2)
      (λ h e. ap (λ a. is_at_least a (s.held u q)) e ∙ at_least-refl (s.held u q))

  compatible_now : (q : NodeId) → IsCompatible (λ t. (pumped s chosen).held t q)
  compatible_now q = by (chosen q)
    where
      by : (b : Bool) → IsCompatible (after_grants (members s q) (if b then front s.most (members s q) (s.queue q) else []))
      by true = pumped-compatible s.most (members s q) (s.queue q) (λ u h. let st = wait_of u q h in law.slots_below u (txn_there (s.txns u) _ st.1))
          (holders-within s q (λ u h. law.slots_below u (law.grants_live u q h).0)) (λ t u ne. law.compatible t u q ne)
      by false = λ t u ne. law.compatible t u q ne

  front_now : (q : NodeId) → front s.most (λ t. (pumped s chosen).held t q) (left q) ≡ []
  front_now q = by (chosen q) refl
    where
      by : (b : Bool) → chosen q ≡ b → front s.most (after_grants (members s q) (if b then front s.most (members s q) (s.queue q) else []))
          (drop (length (if b then front s.most (members s q) (s.queue q) else [])) (s.queue q)) ≡ []
      by true e = front-after_front s.most (members s q) (s.queue q)
      by false e = law.front_waits q e

  -- the fields of the law: what was granted fits, what is left does not
  pub pumped-lawful : IsLawful (pumped s chosen)
  pumped-lawful = record {
    graph = law.graph;
    grants_live = λ u q h. grant_case u q (λ m st g e out. (
      woken_some got u (s.txns u) ∙ txn_there (s.txns u) _ st,
      law.waits_live u q (got_waits u q g),
      subst (ModeFitsKind s q) (sym e) (law.waits_intend u q m st).3,
    )) (λ g e. let old = law.grants_live u q (sym (ap (λ a. not (same_mode a NL)) e) ∙ h) in
        (woken_some got u (s.txns u) ∙ old.0, old.1, subst (ModeFitsKind s q) (sym e) old.2));
    waits_live = λ u q h. law.waits_live u q (left_waits u q h);
    compatible = λ u v q ne. compatible_now q u v ne;
    grants_intend = λ u q h. rule_more (s.held u) ((pumped s chosen).held u) (grew u) (parents_of s.graph q) ((pumped s chosen).held u q) (grant_case u q
        (λ m st g e out. ap (intends s u q) e ∙ (law.waits_intend u q m st).0)
        (λ g e. ap (intends s u q) e ∙ law.grants_intend u q (sym (ap (λ a. not (same_mode a NL)) e) ∙ h)));
    waits_intend = λ u q m st'. let was = woken_waits got u q m (s.txns u) st' in let old = law.waits_intend u q m was.0 in (
      rule_more (s.held u) ((pumped s chosen).held u) (grew u) (parents_of s.graph q) m old.0,
      old.1,
      ap (is_at_least m) (grants_other (got q) (members s q) u was.1) ∙ old.2,
      old.3,
    );
    one_wait = λ u q m st'. let was = woken_waits got u q m (s.txns u) st' in
        sym (filter-append (is_waiter u) (got q) (left q) ∙ ap (λ l. l ++ filter (is_waiter u) (left q)) (not_among u (got q) was.1))
        ∙ ap (filter (is_waiter u)) (granted_rest q) ∙ law.one_wait u q m was.0;
    waits_are = λ u q h. let st = wait_of u q (left_waits u q h) in
        let out : is_among_waiters u (got q) ≡ false = grant_case u q (λ m _ g e out. clash h out) (λ g e. g) in
        ap (λ o. waits_at o q) (woken_sleeps got u q st.0 (s.txns u) st.1 out) ∙ same_node-refl q;
    holders_first = λ a b q ha h.
        let ah = sym (ahead_is (left q) a b) ∙ h in
        grant_case a q (λ m _ g e out. clash (ahead_first (left q) a b ah) out) (λ g e.
        more_held _ _ (grew b q) (law.holders_first a b q (sym (ap (λ m. not (same_mode m NL)) e) ∙ ha)
        (ahead_is (s.queue q) a b ∙ ap (λ l. ahead l a b) (sym (granted_rest q)) ∙ ahead_after (got q) (left q) a b g ah)));
    front_waits = λ q. front_now q;
    slots_below = λ u h. law.slots_below u (sym (woken_some got u (s.txns u)) ∙ h);
    ages = λ u h. let old = law.ages u (sym (woken_some got u (s.txns u)) ∙ h) in let same = sym (woken_age got u (s.txns u)) in
        (subst (λ a. 1 ≤ a) same old.0, subst (λ a. a ≤ s.begins) same old.1);
    ages_differ = λ u v h e. law.ages_differ u v (sym (woken_some got u (s.txns u)) ∙ h) (sym (woken_age got u (s.txns u)) ∙ e ∙ woken_age got v (s.txns v));
    known = λ u h. let old = law.known u (sym (woken_some got u (s.txns u)) ∙ h) in
        let a = woken_age got u (s.txns u) in let b = woken_since got u (s.txns u) in omega (arith, old, a, b);
  }
