-- Nodes are removed with all their grants and waits, each with all below it: the law of a state is kept, and no wait is added.
use Rattle.gl_model.proofs.Words.{[], ◌||◌, ◌∙◌, ◌≡◌, ◌≤◌, Active, age_in, ap, arith, Bool, Condemned, false, filter, fun_ext, Graph, HasNoCycle, holds}
use Rattle.gl_model.proofs.Words.{if◌then◌else◌, intends, intends_over, is_ahead, is_among_waiters, is_at_least, is_child, is_live, is_record_shape, is_some}
use Rattle.gl_model.proofs.Words.{is_waiter, IsLawful, IsLawfulGraph, IsOrderly, less-no_cycle, members, Mode, ModeFitsKind, nat_tests, NL, node_at, NodeId}
use Rattle.gl_model.proofs.Words.{None, not, Option, or-true, parents_in, parents_of, refl, same_mode, shape_in, since_in, Some, State, Status, status_in}
use Rattle.gl_model.proofs.Words.{status_of, subst, sym, true, Txn, Waiting, waits_at, waits_for, ℕ}
use Rattle.gl_model.specs.Calls.{departed, freed_among, none_among}
use Rattle.gl_model.proofs.law.Edges.{is_step, step_is}
use Rattle.gl_model.proofs.law.Keeps.{rule_same}
use Rattle.gl_model.proofs.queues.Waiters.{among_by_filter}

-- this graph has all nodes that are not removed, and none that stays was below a removed one
pub record GoAway (g : Graph) (goes : NodeId → Bool) (g' : Graph) : Type 0 where
  pub lawful : IsLawfulGraph g'
  pub stays : (q : NodeId) → is_live g q ≡ true → goes q ≡ false → node_at g' q ≡ node_at g q
  pub apart : (q p : NodeId) → is_live g q ≡ true → goes q ≡ false → is_child g p q ≡ true → goes p ≡ false

-- a status after the waits on removed nodes
pub some_freed_among : (goes : NodeId → Bool) (o : Option Txn) → is_some (freed_among goes o) ≡ is_some o
some_freed_among goes o = grind (arith, nat_tests, o)

pub age_freed_among : (goes : NodeId → Bool) (o : Option Txn) → age_in (freed_among goes o) ≡ age_in o
age_freed_among goes o = grind (arith, nat_tests, o)

pub since_freed_among : (goes : NodeId → Bool) (o : Option Txn) → since_in (freed_among goes o) ≡ since_in o
since_freed_among goes o = grind (arith, nat_tests, o)

pub still_waits_among : (goes : NodeId → Bool) (q : NodeId) (m : Mode) (o : Option Txn) → status_in (freed_among goes o) ≡ Some (Waiting q m)
    → (status_in o ≡ Some (Waiting q m)) × (goes q ≡ false)
still_waits_among goes q m o e = grind (arith, nat_tests)

module _ (s : State) (law : IsLawful s) (goes : NodeId → Bool) (g' : Graph) (away : GoAway s.graph goes g') where
  abbrev after : State
  after = departed s goes g'

  held_there : (u : ℕ) (q : NodeId) → goes q ≡ false → after.held u q ≡ s.held u q
  held_there u q e = ap (λ b. if b then NL else s.held u q) e

  queue_there : (q : NodeId) → goes q ≡ false → after.queue q ≡ s.queue q
  queue_there q e = ap (λ b. if b then [] else s.queue q) e

  was_held : (u : ℕ) (q : NodeId) → holds (members after q) u ≡ true → (goes q ≡ false) × (holds (members s q) u ≡ true)
  was_held u q h = grind (arith, nat_tests, goes q)

  was_among : (u : ℕ) (q : NodeId) → is_among_waiters u (after.queue q) ≡ true → (goes q ≡ false) × (is_among_waiters u (s.queue q) ≡ true)
  was_among u q h = grind (arith, nat_tests, goes q)

  stands : (q : NodeId) → is_live s.graph q ≡ true → goes q ≡ false → is_live after.graph q ≡ true
  stands q live e = ap is_some (away.stays q live e) ∙ live

  kind_left : (q : NodeId) (m : Mode) → is_live s.graph q ≡ true → goes q ≡ false → ModeFitsKind s q m → ModeFitsKind after q m
  kind_left q m live e k h = k (sym (ap (λ o. is_record_shape (shape_in o)) (away.stays q live e)) ∙ h)

  rule_left : (u : ℕ) (q : NodeId) (m : Mode) → is_live s.graph q ≡ true → goes q ≡ false → intends s u q m ≡ true → intends after u q m ≡ true
  rule_left u q m live e h =
      ap (λ o. intends_over (after.held u) (parents_in o) m) (away.stays q live e)
      ∙ rule_same (s.held u) (after.held u) m (parents_of s.graph q) (λ p c. held_there u p (away.apart q p live e c)) ∙ h

  waited : (u : ℕ) (q : NodeId) (m : Mode) → status_of after u ≡ Some (Waiting q m) → (status_of s u ≡ Some (Waiting q m)) × (goes q ≡ false)
  waited u q m st = still_waits_among goes q m (s.txns u) st

  waits_on : (q : NodeId) (o : Option Txn) → waits_at (status_in o) q ≡ true → goes q ≡ false → waits_at (status_in (freed_among goes o)) q ≡ true
  waits_on q o h e = grind (arith, nat_tests)

  pub departed_lawful : IsLawful after
  departed_lawful = record {
    graph = away.lawful;
    grants_live = λ u q h.
        let w = was_held u q h in
        let old = law.grants_live u q w.1 in (
          some_freed_among goes (s.txns u) ∙ old.0,
          stands q old.1 w.0,
          subst (ModeFitsKind after q) (sym (held_there u q w.0)) (kind_left q (s.held u q) old.1 w.0 old.2),
        );
    waits_live = λ u q h. let w = was_among u q h in stands q (law.waits_live u q w.1) w.0;
    compatible = λ u v q ne. grind (arith, nat_tests);
    grants_intend = λ u q h.
        let w = was_held u q h in
        ap (intends after u q) (held_there u q w.0) ∙ rule_left u q (s.held u q) (law.grants_live u q w.1).1 w.0 (law.grants_intend u q w.1);
    waits_intend = λ u q m st.
        let w = waited u q m st in
        let old = law.waits_intend u q m w.0 in
        let live = law.waits_live u q (among_by_filter u (u, m) [] (s.queue q) (law.one_wait u q m w.0)) in
        (rule_left u q m live w.1 old.0, old.1, ap (is_at_least m) (held_there u q w.1) ∙ old.2, kind_left q m live w.1 old.3);
    one_wait = λ u q m st. let w = waited u q m st in ap (filter (is_waiter u)) (queue_there q w.1) ∙ law.one_wait u q m w.0;
    waits_are = λ u q h. let w = was_among u q h in waits_on q (s.txns u) (law.waits_are u q w.1) w.0;
    holders_first = λ u v q h ahead.
        let w = was_held u q h in
        ap (λ m. not (same_mode m NL)) (held_there v q w.0) ∙ law.holders_first u v q w.1 (sym (ap (λ ws. is_ahead ws u v) (queue_there q w.0)) ∙ ahead);
    front_waits = λ q. grind (arith, nat_tests);
    slots_below = λ u h. law.slots_below u (sym (some_freed_among goes (s.txns u)) ∙ h);
    ages = λ u h. let old = law.ages u (sym (some_freed_among goes (s.txns u)) ∙ h) in
        subst (λ a. (1 ≤ a) × (a ≤ s.begins)) (sym (age_freed_among goes (s.txns u))) old;
    ages_differ = λ u v h e.
        law.ages_differ u v (sym (some_freed_among goes (s.txns u)) ∙ h)
        (sym (age_freed_among goes (s.txns u)) ∙ e ∙ age_freed_among goes (s.txns v));
    known = λ u h. let old = law.known u (sym (some_freed_among goes (s.txns u)) ∙ h) in
        let a = age_freed_among goes (s.txns u) in let b = since_freed_among goes (s.txns u) in omega (arith, old, a, b);
  }

module _ (s : State) (goes : NodeId → Bool) (g' : Graph) where
  departed_steps : (x y : ℕ) → waits_for (departed s goes g') x y ≡ true → waits_for s x y ≡ true
  departed_steps x y h =
      let st = step_is (departed s goes g') x y h in let n = st.0 in let m = st.1 in
      let was = still_waits_among goes n m (s.txns x) st.2.waits in
      is_step s x y n m (record {
        differ = st.2.differ;
        waits = was.0;
        blocked = grind (arith, nat_tests, was.1, st.2.blocked);
      })

  pub departed-no_cycle : HasNoCycle s → HasNoCycle (departed s goes g')
  departed-no_cycle none = less-no_cycle (waits_for s) (waits_for (departed s goes g')) departed_steps none

-- What holds of a state between the steps of a call holds without these locks too.

module _ (s : State) (o : IsOrderly s) (goes : NodeId → Bool) where
  abbrev cleared : State
  cleared = departed s goes s.graph

  still_held : (u : ℕ) (q : NodeId) → holds (members cleared q) u ≡ true → holds (members s q) u ≡ true
  still_held u q h = grind (arith, nat_tests, goes q)

  still_among : (u : ℕ) (q : NodeId) → is_among_waiters u (cleared.queue q) ≡ true → (goes q ≡ false) × (is_among_waiters u (s.queue q) ≡ true)
  still_among u q h = grind (arith, nat_tests, goes q)

  still_on : (q : NodeId) (x : Option Txn) → waits_at (status_in x) q ≡ true → goes q ≡ false → waits_at (status_in (freed_among goes x)) q ≡ true
  still_on q x h e = grind (arith, nat_tests)

  pub cleared_orderly : IsOrderly cleared
  cleared_orderly = record {
    holders = λ u q h. some_freed_among goes (s.txns u) ∙ o.holders u q (still_held u q h);
    holders_live = λ u q h. o.holders_live u q (still_held u q h);
    waiters_live = λ u q h. o.waiters_live u q (still_among u q h).1;
    waits_are = λ u q h. let w = still_among u q h in still_on q (s.txns u) (o.waits_are u q w.1) w.0;
    one_wait = λ u q m st.
        let w = still_waits_among goes q m (s.txns u) st in
        let one = o.one_wait u q m w.0 in
        (ap (λ b. filter (is_waiter u) (if b then [] else s.queue q)) w.1 ∙ one.0, one.1);
    below = λ u h. o.below u (sym (some_freed_among goes (s.txns u)) ∙ h);
  }

-- the locks on nodes are removed, and then those on others
pub departed_twice : (s : State) (a b : NodeId → Bool) → departed (departed s a s.graph) b s.graph ≡ departed s (λ q. b q || a q) s.graph
departed_twice s a b = λ i. record s {
  held = fun_ext (λ u. fun_ext (λ q. twice (b q) (a q) NL (s.held u q))) i;
  queue = fun_ext (λ q. twice (b q) (a q) [] (s.queue q)) i;
  txns = fun_ext (λ u. freed_twice (s.txns u)) i;
}
  where
    twice : {A : Type 0} (x y : Bool) (none some : A) → (if x then none else (if y then none else some)) ≡ (if x || y then none else some)
    twice true y none some = refl
    twice false y none some = refl

    status_twice : (st : Status) → none_among b (none_among a st) ≡ none_among (λ q. b q || a q) st
    status_twice Active = refl
    status_twice Condemned = refl
    status_twice (Waiting q m) = by (a q) (b q)
      where
        by : (x y : Bool) → none_among b (if x then Active else Waiting q m) ≡ (if b q || x then Active else Waiting q m)
        by true y = sym (ap (λ z. if z then Active else Waiting q m) (or-true (b q)))
        by false y = ap (λ z. if z then Active else Waiting q m) (sym (or_false (b q)))
          where
            or_false : (z : Bool) → (z || false) ≡ z
            or_false true = refl
            or_false false = refl

    freed_twice : (x : Option Txn) → freed_among b (freed_among a x) ≡ freed_among (λ q. b q || a q) x
    freed_twice None = refl
    freed_twice (Some x) = ap (λ st. Some (record x { status = st })) (status_twice x.status)
