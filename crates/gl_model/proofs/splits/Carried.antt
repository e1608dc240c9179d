-- An interval y has the place of x in another graph, and each transaction holds on it what it held on x: the law of a state is kept. For splits and merges.
use Rattle.std.proofs.Common.{◌∙◌, ⊎_elim, ap, ap₂, arith, inl, inr, refl, subst, sym}
use Rattle.std.proofs.lemmas.Bool.Decides.{nat_tests}
use Rattle.std.specs.List.{filter}
use Rattle.std.specs.Prelude.{◌≡◌, ◌≢◌, ◌≤◌, ◌⊎◌, ℕ, Bool, true, false, not, ◌==◌, List, [], ◌∷◌, Option, Some, if◌then◌else◌, is_some}
use Rattle.gl_modes.proofs.ModeLemmas.{at_least-refl}
use Rattle.gl_modes.proofs.Words.{and_both, no, number_same, or_elim, or_left, or_right, split}
use Rattle.gl_modes.specs.Modes.{are_compatible, is_at_least, same_mode}
use Rattle.gl_modes.specs.declared.mode.Mode.{Mode}
use Rattle.gl_modes.specs.declared.mode.Mode.TheVariants.{NL}
use Rattle.gl_modes.specs.declared.node.NodeId.{NodeId}
use Rattle.gl_graph.specs.Graph.{Graph, is_live, shape_of}
use Rattle.gl_graph.specs.Shapes.{is_record_shape}
use Rattle.gl_header.specs.Header.{front, holds, is_ahead, is_among_waiters, is_waiter, Waiter}
use Rattle.gl_model.proofs.law.Departures.{age_freed_among, since_freed_among, some_freed_among, still_waits_among}
use Rattle.gl_model.proofs.law.Edges.{is_step, step_is}
use Rattle.gl_model.proofs.law.Keeps.{front_less, nl_is}
use Rattle.gl_model.proofs.queues.Waiters.{among_by_filter}
use Rattle.gl_model.specs.Calls.{freed_among}
use Rattle.gl_model.specs.Lawful.{IsLawful, ModeFitsKind}
use Rattle.gl_model.specs.State.{intends, members, State, status_in, status_of, Txn, waits_at, waits_for}
use Rattle.gl_model.specs.declared.txn.Status.TheVariants.{Waiting}
use Rattle.gl_model.proofs.splits.Recuts.{Recuts}
use Rattle.gl_model.proofs.splits.Renamed.{IsPair, pair_intends}

-- on a node of both graphs each holds what it held, on y what it held on x, and nothing on any other; a node that loses no waits is in both graphs
pub record IsCarried (s : State) (g' : Graph) (x y : NodeId) (goes : NodeId → Bool) (held : ℕ → NodeId → Mode) : Type 0 where
  pub cut : Recuts s.graph g' x y
  pub left : (u : ℕ) (q : NodeId) → is_live s.graph q ≡ true → is_live g' q ≡ true → held u q ≡ s.held u q
  pub moved : (u : ℕ) → held u y ≡ s.held u x
  pub only : (u : ℕ) (q : NodeId) → not (same_mode (held u q) NL) ≡ true → ((is_live s.graph q ≡ true) × (is_live g' q ≡ true)) ⊎ (q ≡ y)
  pub stays : (q : NodeId) → is_live s.graph q ≡ true → goes q ≡ false → is_live g' q ≡ true

module _ (s : State) (law : IsLawful s) (g' : Graph) (x y : NodeId) (goes : NodeId → Bool) (held : ℕ → NodeId → Mode)
    (carried : IsCarried s g' x y goes held) where
  abbrev pub after : State
  after =
      record s {
        graph = g';
        held = held;
        queue = λ q. if goes q then [] else s.queue q;
        txns = λ u. freed_among goes (s.txns u);
      }

  queue_there : (q : NodeId) → goes q ≡ false → after.queue q ≡ s.queue q
  queue_there q e = ap (λ b. if b then [] else s.queue q) e

  was_among : (u : ℕ) (q : NodeId) → is_among_waiters u (after.queue q) ≡ true → (goes q ≡ false) × (is_among_waiters u (s.queue q) ≡ true)
  was_among u q h = grind (arith, nat_tests, goes q)

  waited : (u : ℕ) (q : NodeId) (m : Mode) → status_of after u ≡ Some (Waiting q m) → (status_of s u ≡ Some (Waiting q m)) × (goes q ≡ false)
  waited u q m st = still_waits_among goes q m (s.txns u) st

  waits_on : (q : NodeId) (o : Option Txn) → waits_at (status_in o) q ≡ true → goes q ≡ false → waits_at (status_in (freed_among goes o)) q ≡ true
  waits_on q o h e = grind (arith, nat_tests)

  -- who holds something held it before, on the node or on x
  was_held : {C : Type 0} (u : ℕ) (q : NodeId) → not (same_mode (held u q) NL) ≡ true
      → ((p : NodeId) → IsPair s.graph g' law.graph x y carried.cut p q → holds (members s p) u ≡ true → held u q ≡ s.held u p → C) → C
  was_held u q h says =
      let Pair : NodeId → Type 0 = λ p. IsPair s.graph g' law.graph x y carried.cut p q in
      ⊎_elim (λ (a : (is_live s.graph q ≡ true) × (is_live g' q ≡ true)).
      let e = carried.left u q a.0 a.1 in
      says q (inl (refl, a.0, a.1)) (sym (ap (λ m. not (same_mode m NL)) e) ∙ h) e)
      (λ (b : q ≡ y).
      let e = ap (held u) b ∙ carried.moved u in
      says x (inr (refl, b)) (sym (ap (λ m. not (same_mode m NL)) e) ∙ h) e)
      (carried.only u q h)

  rule_left : (u : ℕ) (q q' : NodeId) (m : Mode) → IsPair s.graph g' law.graph x y carried.cut q q' → intends s u q m ≡ true → intends after u q' m ≡ true
  rule_left u q q' m pair h =
      pair_intends s.graph g' law.graph x y carried.cut (s.held u) (held u) (carried.left u) (carried.moved u) q q' m pair ∙ h

  kind_left : (q : NodeId) (m : Mode) → is_live s.graph q ≡ true → is_live g' q ≡ true → ModeFitsKind s q m → ModeFitsKind after q m
  kind_left q m live live' k h = k (sym (carried.cut.kinds q live live') ∙ h)

  -- a queue that is left is that of a node of both graphs
  among_live : (u : ℕ) (q : NodeId) → is_among_waiters u (after.queue q) ≡ true → (is_live s.graph q ≡ true) × (is_live g' q ≡ true)
  among_live u q h =
      let w = was_among u q h in
      let live = law.waits_live u q w.1 in
      (live, carried.stays q live w.0)

  granted_live : (u : ℕ) (q : NodeId) → not (same_mode (held u q) NL) ≡ true → (is_some (after.txns u) ≡ true) × (is_live g' q ≡ true)
      × ModeFitsKind after q (held u q)
  granted_live u q h =
      ⊎_elim (λ (a : (is_live s.graph q ≡ true) × (is_live g' q ≡ true)).
      let e = carried.left u q a.0 a.1 in
      let old = law.grants_live u q (sym (ap (λ m. not (same_mode m NL)) e) ∙ h) in (
        some_freed_among goes (s.txns u) ∙ old.0,
        a.1,
        subst (ModeFitsKind after q) (sym e) (kind_left q (s.held u q) a.0 a.1 old.2),
      ))
      (λ (b : q ≡ y).
      let e = ap (held u) b ∙ carried.moved u in
      let old = law.grants_live u x (sym (ap (λ m. not (same_mode m NL)) e) ∙ h) in (
        some_freed_among goes (s.txns u) ∙ old.0,
        ap (is_live g') b ∙ carried.cut.here,
        λ is. absurd (no (sym carried.cut.new_plain ∙ sym (ap (λ z. is_record_shape (shape_of g' z)) b) ∙ is)),
      ))
      (carried.only u q h)

  fits_together : (u v : ℕ) (q : NodeId) → u ≢ v → are_compatible (held u q) (held v q) ≡ true
  fits_together u v q ne =
      split (not (same_mode (held u q) NL)) (λ h.
      ⊎_elim (λ (a : (is_live s.graph q ≡ true) × (is_live g' q ≡ true)).
      ap₂ are_compatible (carried.left u q a.0 a.1) (carried.left v q a.0 a.1) ∙ law.compatible u v q ne)
      (λ (b : q ≡ y). ap₂ are_compatible (ap (held u) b ∙ carried.moved u) (ap (held v) b ∙ carried.moved v) ∙ law.compatible u v x ne)
      (carried.only u q h))
      (λ h. ap (λ m. are_compatible m (held v q)) (nl_is (held u q) h))

  stuck : (q : NodeId) → goes q ≡ false → (ws : List Waiter) → s.queue q ≡ ws → front s.most (members after q) ws ≡ []
  stuck q e [] w = refl
  stuck q e (v ∷ vs) w =
      let live = law.waits_live v.0 q (ap (is_among_waiters v.0) w ∙ or_left (v.0 == v.0) _ (number_same v.0 v.0 refl)) in
      front_less s.most (members s q) (members after q)
      (λ u. ap (λ m. is_at_least m (s.held u q)) (carried.left u q live (carried.stays q live e)) ∙ at_least-refl (s.held u q)) (v ∷ vs)
      (sym (ap (front s.most (members s q)) w) ∙ law.front_waits q)

  pub carried_lawful : IsLawful after
  carried_lawful = record {
    graph = carried.cut.lawful;
    grants_live = granted_live;
    waits_live = λ u q h. (among_live u q h).1;
    compatible = fits_together;
    grants_intend = λ u q h. was_held u q h (λ p pair was e.
        ap (intends after u q) e ∙ rule_left u p q (s.held u p) pair (law.grants_intend u p was));
    waits_intend = λ u q m st.
        let w = waited u q m st in
        let old = law.waits_intend u q m w.0 in
        let live = law.waits_live u q (among_by_filter u (u, m) [] (s.queue q) (law.one_wait u q m w.0)) in
        let live' = carried.stays q live w.1 in (
          rule_left u q q m (inl (refl, live, live')) old.0,
          old.1,
          ap (is_at_least m) (carried.left u q live live') ∙ old.2,
          kind_left q m live live' old.3,
        );
    one_wait = λ u q m st. let w = waited u q m st in ap (filter (is_waiter u)) (queue_there q w.1) ∙ law.one_wait u q m w.0;
    waits_are = λ u q h. let w = was_among u q h in waits_on q (s.txns u) (law.waits_are u q w.1) w.0;
    holders_first = λ u v q h ahead.
        let w = was_among u q (and_both _ _ ahead).0 in
        let live = law.waits_live u q w.1 in
        let live' = carried.stays q live w.0 in
        ap (λ m. not (same_mode m NL)) (carried.left v q live live')
        ∙ law.holders_first u v q (sym (ap (λ m. not (same_mode m NL)) (carried.left u q live live')) ∙ h)
        (sym (ap (λ ws. is_ahead ws u v) (queue_there q w.0)) ∙ ahead);
    front_waits = λ q.
        split (goes q) (λ e. ap (λ b. front s.most (members after q) (if b then [] else s.queue q)) e)
        (λ e. ap (λ b. front s.most (members after q) (if b then [] else s.queue q)) e ∙ stuck q e (s.queue q) refl);
    slots_below = λ u h. law.slots_below u (sym (some_freed_among goes (s.txns u)) ∙ h);
    ages = λ u h. let old = law.ages u (sym (some_freed_among goes (s.txns u)) ∙ h) in
        subst (λ a. (1 ≤ a) × (a ≤ s.begins)) (sym (age_freed_among goes (s.txns u))) old;
    ages_differ = λ u v h e.
        law.ages_differ u v (sym (some_freed_among goes (s.txns u)) ∙ h)
        (sym (age_freed_among goes (s.txns u)) ∙ e ∙ age_freed_among goes (s.txns v));
    known = λ u h. let old = law.known u (sym (some_freed_among goes (s.txns u)) ∙ h) in
        let a = age_freed_among goes (s.txns u) in let b = since_freed_among goes (s.txns u) in omega (arith, old, a, b);
  }

  -- and no wait of one for another is new
  pub carried_steps : (a b : ℕ) → waits_for after a b ≡ true → waits_for s a b ≡ true
  carried_steps a b h =
      let st = step_is after a b h in let n = st.0 in let m = st.1 in
      let was = waited a n m st.2.waits in
      let live = law.waits_live a n (among_by_filter a (a, m) [] (s.queue n) (law.one_wait a n m was.0)) in
      let same = carried.left b n live (carried.stays n live was.1) in
      is_step s a b n m (record {
        differ = st.2.differ;
        waits = was.0;
        blocked = or_elim _ _ st.2.blocked (λ c. or_left _ _ (ap (λ k. not (are_compatible m k)) (sym same) ∙ c))
            (λ c. or_right _ _ (sym (ap (λ ws. is_ahead ws a b) (queue_there n was.1)) ∙ c));
      })
