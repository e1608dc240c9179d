-- Who waits for whom after each change. For cycles and snapshots.
use Rattle.gl_model.proofs.Words.{◌&&◌, ◌++◌, ◌==◌, [], ◌||◌, ◌∙◌, ◌∷◌, ◌≡◌, ◌≢◌, ◌⊎◌, ⊎_elim, Active, and_both, ap, append-nil, ap₂, are_compatible}
use Rattle.gl_model.proofs.Words.{arith, begun_at, blocks, Bool, clash, Condemned, differ-false, drop, enqueued, false, filter, granted_at, holds}
use Rattle.gl_model.proofs.Words.{if◌then◌else◌, inr, is_ahead, is_among_waiters, is_waiter, IsLawful, length, List, Members, members, Mode, nat_tests}
use Rattle.gl_model.proofs.Words.{NL-compatible, NodeId, None, not, not-true, number_other, Option, or_elim, or_left, or_right, placed, pumped, refl, restatus}
use Rattle.gl_model.proofs.Words.{same_node, same_node-equal, Some, split, State, Status, status_in, status_of, sym, true, Txn, Waiter, Waiting, waits_for}
use Rattle.gl_model.proofs.Words.{with_grant, ℕ}
use Rattle.gl_model.proofs.law.Keeps.{grant_case, granted_rest, IsLawfulBut, IsLess, woken_waits}
use Rattle.gl_model.proofs.queues.Edits.{ahead_within, any_left, chosen_is, HoldersFirst, keep_ahead}
use Rattle.gl_model.proofs.queues.Waiters.{ahead, ahead_across, ahead_after, ahead_first, ahead_is, among_append, among_by_filter, placed_case}

-- Who waits for whom after each change.

blocks_is : (s : State) (t u : ℕ) (o : Option Status) → blocks s t u o ≡ true → (n : NodeId) × (m : Mode) × (o ≡ Some (Waiting n m))
    × ((not (are_compatible m (s.held u n)) || is_ahead (s.queue n) t u) ≡ true)
blocks_is s t u None h = clash h refl
blocks_is s t u (Some Active) h = clash h refl
blocks_is s t u (Some Condemned) h = clash h refl
blocks_is s t u (Some (Waiting n m)) h = (n, m, refl, h)

-- the parts of a step
pub record IsStep (s : State) (x y : ℕ) (n : NodeId) (m : Mode) : Type 0 where
  pub differ : not (x == y) ≡ true
  pub waits : status_of s x ≡ Some (Waiting n m)
  pub blocked : (not (are_compatible m (s.held y n)) || is_ahead (s.queue n) x y) ≡ true

-- a step of waits is a wait and its reason
pub step_is : (s : State) (x y : ℕ) → waits_for s x y ≡ true → (n : NodeId) × (m : Mode) × IsStep s x y n m
step_is s x y h =
    let both = and_both _ _ h in let b = blocks_is s x y (status_of s x) both.1 in (b.0, b.1, record { differ = both.0; waits = b.2; blocked = b.3 })

-- and back
pub is_step : (s : State) (x y : ℕ) (n : NodeId) (m : Mode) → IsStep s x y n m → waits_for s x y ≡ true
is_step s x y n m h = ap₂ (λ a b. a && b) h.differ (ap (blocks s x y) h.waits ∙ h.blocked)

-- a slot that does not wait has no step
pub idle_no_step : (s : State) (t : ℕ) → ((n : NodeId) (m : Mode) → status_of s t ≡ Some (Waiting n m) → ⊥) → (u : ℕ) → waits_for s t u ≡ false
idle_no_step s t idle u = split (waits_for s t u) (λ h. let st = step_is s t u h in absurd (idle st.0 st.1 st.2.waits)) (λ h. h)

-- the steps of a state with less
pub less_steps : (s : State) (held : ℕ → NodeId → Mode) (queue : NodeId → List Waiter) (txns : ℕ → Option Txn) (chosen : NodeId → Bool)
    → IsLess s held queue txns chosen → (x y : ℕ) → waits_for (record s { held = held; queue = queue; txns = txns }) x y ≡ true → waits_for s x y ≡ true
less_steps s held queue txns chosen less x y h =
    let now : State = record s { held = held; queue = queue; txns = txns } in
    let st = step_is now x y h in let n = st.0 in let m = st.1 in
    is_step s x y n m (record {
      differ = st.2.differ;
      waits = (less.waits_same x n m st.2.waits).0;
      blocked = or_elim _ _ st.2.blocked (λ b. ⊎_elim (λ e. clash (ap (are_compatible m) e ∙ NL-compatible m) (not-true _ b))
          (λ e. or_left _ _ (ap (λ k. not (are_compatible m k)) (sym e) ∙ b)) (less.kept y n)) (λ b. or_right _ _ (less.order n x y b));
    })

-- granting from fronts adds no step
pub pumped_steps : (s : State) (chosen : NodeId → Bool) → IsLawfulBut chosen s → (x y : ℕ) → waits_for (pumped s chosen) x y ≡ true → waits_for s x y ≡ true
pumped_steps s chosen law x y h =
    let st = step_is (pumped s chosen) x y h in let n = st.0 in let m = st.1 in
    let was = woken_waits (granted_at s chosen) x n m (s.txns x) st.2.waits in
    is_step s x y n m (record {
      differ = st.2.differ;
      waits = was.0;
      blocked = or_elim _ _ st.2.blocked (λ b. grant_case s chosen law y n
          (λ w wy g e out. or_right _ _ (ahead_is (s.queue n) x y ∙ ap (λ l. ahead l x y) (sym (granted_rest s chosen law n))
          ∙ ahead_across (granted_at s chosen n) (drop (length (granted_at s chosen n)) (s.queue n)) x y was.1 (behind n m was.0 was.1) g))
          (λ g e. or_left _ _ (ap (λ k. not (are_compatible m k)) (sym e) ∙ b)))
          (λ b. or_right _ _ (ahead_is (s.queue n) x y ∙ ap (λ l. ahead l x y) (sym (granted_rest s chosen law n))
          ∙ ahead_after (granted_at s chosen n) (drop (length (granted_at s chosen n)) (s.queue n)) x y was.1
          (sym (ahead_is (drop (length (granted_at s chosen n)) (s.queue n)) x y) ∙ b)));
    })
  where
    behind : (n : NodeId) (m : Mode) → status_of s x ≡ Some (Waiting n m) → is_among_waiters x (granted_at s chosen n) ≡ false
        → is_among_waiters x (drop (length (granted_at s chosen n)) (s.queue n)) ≡ true
    behind n m st out =
        or_elim _ _ (sym (among_append x (granted_at s chosen n) (drop (length (granted_at s chosen n)) (s.queue n)))
        ∙ ap (is_among_waiters x) (granted_rest s chosen law n) ∙ among_by_filter x (x, m) [] (s.queue n) (law.one_wait x n m st)) (λ k. clash k out) (λ k. k)

-- Changes at one transaction add no step between others.

-- of two waiters, one is ahead
one_ahead : (x y : ℕ) (q : List Waiter) → x ≢ y → is_among_waiters x q ≡ true → is_among_waiters y q ≡ true → (ahead q x y ≡ true) ⊎ (ahead q y x ≡ true)
one_ahead x y [] ne h k = clash h refl
one_ahead x y (w ∷ q) ne h k = grind (arith, nat_tests, one_ahead x y q ne)

-- one between, which is neither
ahead_skip : (x y t : ℕ) (m : Mode) (b a : List Waiter) → x ≢ t → y ≢ t → ahead (a ++ (t, m) ∷ b) x y ≡ true → ahead (a ++ b) x y ≡ true
ahead_skip x y t m b [] nx ny h = grind (arith, nat_tests, differ-false t x nx, differ-false t y ny, h)
ahead_skip x y t m b (w ∷ a) nx ny h =
    grind (arith, nat_tests, w.0 == x, w.0 == y, ahead_skip x y t m b a nx ny, among_append x a b, among_append x a ((t, m) ∷ b), differ-false t x nx)

-- y is ahead of x in the second part, or somewhere in the first
ahead_parts : (x y : ℕ) (b a : List Waiter) → ahead (a ++ b) x y ≡ true → (is_among_waiters y a ≡ true) ⊎ (ahead b x y ≡ true)
ahead_parts x y b [] h = inr h
ahead_parts x y b (w ∷ a) h = grind (arith, nat_tests, ahead_parts x y b a)

-- holders first and then the others: the same order, if it was so
sorted_ahead : (g : Members) (q : List Waiter) (x y : ℕ) → HoldersFirst g q → x ≢ y
    → ahead (filter (λ w. holds g w.0) q ++ filter (λ w. not (holds g w.0)) q) x y ≡ true → ahead q x y ≡ true
sorted_ahead g q x y sorted ne h = split (holds g x) holder other
  where
    x_waits : is_among_waiters x (filter (λ w. holds g w.0) q ++ filter (λ w. not (holds g w.0)) q) ≡ true
    x_waits = ahead_first (filter (λ w. holds g w.0) q ++ filter (λ w. not (holds g w.0)) q) x y h

    waits : is_among_waiters x q ≡ true
    waits = or_elim (is_among_waiters x (filter (λ w. holds g w.0) q)) (is_among_waiters x (filter (λ w. not (holds g w.0)) q))
        (sym (among_append x (filter (λ w. holds g w.0) q) (filter (λ w. not (holds g w.0)) q)) ∙ x_waits) (λ e. any_left (is_waiter x) (λ w. holds g w.0) q e)
        (λ e. any_left (is_waiter x) (λ w. not (holds g w.0)) q e)

    holder : holds g x ≡ true → ahead q x y ≡ true
    holder hx = keep_ahead (holds g) x y q hx (ahead_within x y (filter (λ w. not (holds g w.0)) q) (filter (λ w. holds g w.0) q)
        (or_elim (is_among_waiters x (filter (λ w. holds g w.0) q)) (is_among_waiters x (filter (λ w. not (holds g w.0)) q))
        (sym (among_append x (filter (λ w. holds g w.0) q) (filter (λ w. not (holds g w.0)) q)) ∙ x_waits) (λ e. e)
        (λ e. clash (chosen_is (λ u. not (holds g u)) x q e) (ap not hx))) h)

    other : holds g x ≡ false → ahead q x y ≡ true
    other hx =
        ⊎_elim (λ e. ⊎_elim (λ k. k) (λ k. clash (sorted y x (chosen_is (holds g) y q e) k) hx) (one_ahead x y q ne waits
        (any_left (is_waiter y) (λ w. holds g w.0) q e)))
        (λ e. keep_ahead (λ u. not (holds g u)) x y q (ap not hx) e) (ahead_parts x y (filter (λ w. not (holds g w.0)) q) (filter (λ w. holds g w.0) q) h)

-- others keep their places
pub placed_ahead : (g : Members) (q : List Waiter) (t : ℕ) (m : Mode) (x y : ℕ) → HoldersFirst g q → x ≢ y → x ≢ t → y ≢ t → ahead (placed g q t m) x y ≡ true
    → ahead q x y ≡ true
placed_ahead g q t m x y sorted ne nx ny = placed_case (λ l. ahead l x y ≡ true → ahead q x y ≡ true) g q t m
    (λ e k. sorted_ahead g q x y sorted ne (ahead_skip x y t m (filter (λ w. not (holds g w.0)) q) (filter (λ w. holds g w.0) q) nx ny k))
    (λ e k. ap (λ l. ahead l x y) (sym (append-nil q)) ∙ ahead_skip x y t m [] q nx ny k)

apart_by : (x y : ℕ) → not (x == y) ≡ true → x ≢ y
apart_by x y h = grind (arith, nat_tests)

-- a wait of t
pub enqueued_steps : (s : State) → IsLawful s → (t : ℕ) (n : NodeId) (m : Mode) (x y : ℕ) → waits_for (enqueued s t n m) x y ≡ true → x ≢ t → y ≢ t
    → waits_for s x y ≡ true
enqueued_steps s law t n m x y h nx ny =
    let st = step_is (enqueued s t n m) x y h in
    is_step s x y st.0 st.1 (record {
      differ = st.2.differ;
      waits = ap (λ b. status_in (if b then restatus (Waiting n m) (s.txns t) else s.txns x)) (sym (number_other x t nx)) ∙ st.2.waits;
      blocked = or_elim _ _ st.2.blocked (λ b. or_left _ _ b) (λ b. or_right _ _ (order st.0 (apart_by x y st.2.differ) b));
    })
  where
    order : (q : NodeId) → x ≢ y → is_ahead ((enqueued s t n m).queue q) x y ≡ true → is_ahead (s.queue q) x y ≡ true
    order q ne k =
        split (same_node q n) (λ e. let at = same_node-equal q n e in
        ap (λ p. is_ahead (s.queue p) x y) at ∙ ahead_is (s.queue n) x y
        ∙ placed_ahead (members s n) (s.queue n) t m x y (λ a b ha l. law.holders_first a b n ha (ahead_is (s.queue n) a b ∙ l)) ne nx ny
        (sym (ahead_is (placed (members s n) (s.queue n) t m) x y)
        ∙ ap (λ b. is_ahead (if b then placed (members s n) (s.queue n) t m else s.queue q) x y) (sym e) ∙ k))
        (λ e. ap (λ b. is_ahead (if b then placed (members s n) (s.queue n) t m else s.queue q) x y) (sym e) ∙ k)

-- a grant of t
pub granted_steps : (s : State) (t : ℕ) (n : NodeId) (m : Mode) (x y : ℕ) → waits_for (with_grant s t n m) x y ≡ true → x ≢ t → y ≢ t → waits_for s x y ≡ true
granted_steps s t n m x y h nx ny =
    let st = step_is (with_grant s t n m) x y h in
    is_step s x y st.0 st.1 (record {
      differ = st.2.differ;
      waits = st.2.waits;
      blocked = or_elim _ _ st.2.blocked (λ b. or_left _ _
          (ap (λ k. not (are_compatible st.1 k)) (ap (λ b. if b && same_node st.0 n then m else s.held y st.0) (sym (number_other y t ny))) ∙ b))
          (λ b. or_right _ _ b);
    })

-- a new transaction t
pub begun_steps : (s : State) (t age since : ℕ) (x y : ℕ) → waits_for (begun_at s t age since) x y ≡ true → x ≢ t → y ≢ t → waits_for s x y ≡ true
begun_steps s t age since x y h nx ny =
    let st = step_is (begun_at s t age since) x y h in
    is_step s x y st.0 st.1 (record {
      differ = st.2.differ;
      waits = ap (λ b. status_in (if b then Some (record { age = age; since = since; status = Active }) else s.txns x))
          (sym (number_other x t nx)) ∙ st.2.waits;
      blocked = st.2.blocked;
    })
