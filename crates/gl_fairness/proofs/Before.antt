-- What each change of a state leaves of those before a wait: nobody new, and nobody that holds less.
use Rattle.gl_fairness.proofs.Words.{◌&&◌, ◌==◌, [], ◌||◌, ◌∙◌, ◌∷◌, ◌≡◌, ◌≢◌, ⊎_elim, ahead_is, ahead_second, and_both, ap, Bool, clash, enqueued, false}
use Rattle.gl_fairness.proofs.Words.{filter, granted_at, holds, if◌then◌else◌, is_ahead, is_among_waiters, is_at_least, is_waiter, IsLawful, List, list_all}
use Rattle.gl_fairness.proofs.Words.{members, Mode, NL, NodeId, not, Option, or_elim, or_left, or_right, refl, same_mode, same_node, same_number, Some, split}
use Rattle.gl_fairness.proofs.Words.{State, status_of, stays, sym, true, Txn, Waiter, Waiting, waiting_is, with_grant, ℕ}
use Rattle.gl_model.proofs.Words.{at_least-refl, at_least-transitive, drop, length, other_number, placed, pumped, same_node-equal}
use Rattle.gl_model.proofs.law.Edges.{placed_ahead}
use Rattle.gl_model.proofs.law.Keeps.{grant_case, granted_rest, grew, IsLawfulBut, IsLess, less-lawful, nl_holds, woken_waits}
use Rattle.gl_model.proofs.law.Strays.{all_of_some}
use Rattle.gl_model.proofs.queues.Edits.{ahead_within, filtered_ahead, one_stays}
use Rattle.gl_model.proofs.queues.Waiters.{ahead, ahead_across, ahead_after, ahead_first, among_append, among_by_filter, placed_case}

-- u holds n or is ahead of t in its queue
abbrev pub before : State → ℕ → NodeId → ℕ → Bool
before s t n u = holds (members s n) u || is_ahead (s.queue n) t u

-- nobody new is before t on n, and each that is holds no less
pub record KeepsBefore (s s' : State) (t : ℕ) (n : NodeId) : Type 0 where
  pub stood : (u : ℕ) → u ≢ t → before s' t n u ≡ true → before s t n u ≡ true
  pub no_less : (u : ℕ) → u ≢ t → before s' t n u ≡ true → is_at_least (s'.held u n) (s.held u n) ≡ true
  pub most : s'.most ≡ s.most

pub before_trans : (a b c : State) (t : ℕ) (n : NodeId) → KeepsBefore a b t n → KeepsBefore b c t n → KeepsBefore a c t n
before_trans a b c t n f g = record {
  stood = λ u ne h. f.stood u ne (g.stood u ne h);
  no_less = λ u ne h. at_least-transitive (c.held u n) (b.held u n) (a.held u n) (g.no_less u ne h) (f.no_less u ne (g.stood u ne h));
  most = g.most ∙ f.most;
}

-- if the grants and the queue of the node are as they were
pub before_same : (s s' : State) (t : ℕ) (n : NodeId) → ((u : ℕ) → s'.held u n ≡ s.held u n) → s'.queue n ≡ s.queue n → s'.most ≡ s.most → KeepsBefore s s' t n
before_same s s' t n held queue most = record {
  stood = λ u ne h. ap (λ m. not (same_mode m NL) || is_ahead (s.queue n) t u) (sym (held u))
      ∙ ap (λ q. not (same_mode (s'.held u n) NL) || is_ahead q t u) (sym queue) ∙ h;
  no_less = λ u ne h. ap (λ m. is_at_least m (s.held u n)) (held u) ∙ at_least-refl (s.held u n);
  most = most;
}

-- fewer grants, waits and transactions
pub before_less : (s : State) → IsLawful s → (held : ℕ → NodeId → Mode) (queue : NodeId → List Waiter) (txns : ℕ → Option Txn) (chosen : NodeId → Bool)
    → IsLess s held queue txns chosen → (t : ℕ) (n : NodeId) → KeepsBefore s (record s { held = held; queue = queue; txns = txns }) t n
before_less s law held queue txns chosen less t n = record {
  stood = λ u ne h. or_elim _ _ h
      (λ k. or_left _ _ (⊎_elim (λ e. clash k (nl_holds _ e)) (λ e. sym (ap (λ m. not (same_mode m NL)) e) ∙ k) (less.kept u n)))
      (λ k. or_right (holds (members s n) u) _ (less.order n t u k));
  no_less = λ u ne h. ⊎_elim (λ e. or_elim _ _ h (λ k. clash k (nl_holds _ e)) (ahead_no_less u))
      (λ e. ap (λ m. is_at_least m (s.held u n)) e ∙ at_least-refl (s.held u n)) (less.kept u n);
  most = refl;
}
  where
    -- one that still waits keeps its grants
    ahead_no_less : (u : ℕ) → is_ahead (queue n) t u ≡ true → is_at_least (held u n) (s.held u n) ≡ true
    ahead_no_less u k =
        let was = less.waiters_same u n (ahead_second (queue n) t u (sym (ahead_is (queue n) t u) ∙ k)) in
        let st = waiting_is (status_of s u) n (law.waits_are u n was.0) in
        let same = less.waits_same u n st.0 (was.1 ∙ st.1) in
        ap (λ m. is_at_least m (s.held u n)) (same.1 n) ∙ at_least-refl (s.held u n)

-- nodes grant from their fronts, and t waits on
pub before_pumped : (s : State) (chosen : NodeId → Bool) → IsLawfulBut chosen s → (t : ℕ) (n : NodeId) (m : Mode)
    → status_of (pumped s chosen) t ≡ Some (Waiting n m) → KeepsBefore s (pumped s chosen) t n
before_pumped s chosen law t n m waits = record {
  stood = λ u ne h. or_elim _ _ h
      (λ k. grant_case s chosen law u n
      (λ w wy g e out. or_right (holds (members s n) u) _ (ahead_is (s.queue n) t u ∙ ap (λ l. ahead l t u) (sym (granted_rest s chosen law n))
      ∙ ahead_across got left t u was.1 behind g))
      (λ g e. or_left _ _ (sym (ap (λ a. not (same_mode a NL)) e) ∙ k)))
      (λ k. or_right (holds (members s n) u) _ (ahead_is (s.queue n) t u ∙ ap (λ l. ahead l t u) (sym (granted_rest s chosen law n))
      ∙ ahead_after got left t u was.1 (sym (ahead_is left t u) ∙ k)));
  no_less = λ u ne h. grew s chosen law u n;
  most = refl;
}
  where
    got : List Waiter
    got = granted_at s chosen n

    left : List Waiter
    left = drop (length (granted_at s chosen n)) (s.queue n)

    was : (status_of s t ≡ Some (Waiting n m)) × (is_among_waiters t (granted_at s chosen n) ≡ false)
    was = woken_waits (granted_at s chosen) t n m (s.txns t) waits

    behind : is_among_waiters t left ≡ true
    behind = or_elim _ _ (sym (among_append t got left) ∙ ap (is_among_waiters t) (granted_rest s chosen law n)
        ∙ among_by_filter t (t, m) [] (s.queue n) (law.one_wait t n m was.0)) (λ k. clash k was.1) (λ k. k)

-- grants or waits are removed, and then nodes grant from their fronts
pub before_taken : (s : State) → IsLawful s → (held : ℕ → NodeId → Mode) (queue : NodeId → List Waiter) (txns : ℕ → Option Txn) (chosen : NodeId → Bool)
    → IsLess s held queue txns chosen → (t : ℕ) (n : NodeId) (m : Mode)
    → status_of (pumped (record s { held = held; queue = queue; txns = txns }) chosen) t ≡ Some (Waiting n m)
    → KeepsBefore s (pumped (record s { held = held; queue = queue; txns = txns }) chosen) t n
before_taken s law held queue txns chosen less t n m waits =
    let taken : State = record s { held = held; queue = queue; txns = txns } in
    before_trans s taken (pumped taken chosen) t n (before_less s law held queue txns chosen less t n)
    (before_pumped taken chosen (less-lawful s law held queue txns chosen less) t n m waits)

-- a waiter is in the queue
pub stands_in : (s : State) → IsLawful s → (t : ℕ) (n : NodeId) (m : Mode) → status_of s t ≡ Some (Waiting n m) → is_among_waiters t (s.queue n) ≡ true
stands_in s law t n m waits = among_by_filter t (t, m) [] (s.queue n) (law.one_wait t n m waits)

-- a holder of the node is granted more, or another node is granted
pub before_granted : (s : State) (u : ℕ) (q : NodeId) (w : Mode) (t : ℕ) (n : NodeId) → (same_node n q ≡ true → holds (members s q) u ≡ true)
    → (same_node n q ≡ true → is_at_least w (s.held u q) ≡ true) → KeepsBefore s (with_grant s u q w) t n
before_granted s u q w t n holder more = record {
  stood = λ v ne h. split ((v == u) && same_node n q)
      (λ e. let at = and_both _ _ e in
      or_left _ _ (ap (λ x. holds (members s n) x) (same_number v u at.0) ∙ ap (λ p. holds (members s p) u) (same_node-equal n q at.1) ∙ holder at.1))
      (λ e. ap (λ b. not (same_mode (if b then w else s.held v n) NL) || is_ahead (s.queue n) t v) (sym e) ∙ h);
  no_less = λ v ne h. split ((v == u) && same_node n q)
      (λ e. let at = and_both _ _ e in
      ap (λ b. is_at_least (if b then w else s.held v n) (s.held v n)) e
      ∙ ap (λ x. is_at_least w (s.held x n)) (same_number v u at.0) ∙ ap (λ p. is_at_least w (s.held u p)) (same_node-equal n q at.1) ∙ more at.1)
      (λ e. ap (λ b. is_at_least (if b then w else s.held v n) (s.held v n)) e ∙ at_least-refl (s.held v n));
  most = refl;
}

-- another begins to wait
pub before_enqueued : (s : State) → IsLawful s → (u : ℕ) (q : NodeId) (w : Mode) (t : ℕ) (n : NodeId) (m : Mode) → u ≢ t → status_of s t ≡ Some (Waiting n m)
    → KeepsBefore s (enqueued s u q w) t n
before_enqueued s law u q w t n m other waits = record {
  stood = λ v ne h. or_elim _ _ h (λ k. or_left _ _ k) (λ k. split (same_node n q)
      (λ e. let at = same_node-equal n q e in
      ap (λ p. before s t p v) at
      ∙ placed_before v ne
      (sym (ahead_is (placed (members s q) (s.queue q) u w) t v)
      ∙ ap (λ b. is_ahead (if b then placed (members s q) (s.queue q) u w else s.queue n) t v) (sym e) ∙ k)
      (ap (λ p. is_among_waiters t (s.queue p)) (sym at) ∙ stands_in s law t n m waits))
      (λ e. or_right (holds (members s n) v) _ (ap (λ b. is_ahead (if b then placed (members s q) (s.queue q) u w else s.queue n) t v) (sym e) ∙ k)));
  no_less = λ v ne h. at_least-refl (s.held v n);
  most = refl;
}
  where
    -- a newcomer is placed last, and a holder is before t in any case
    placed_before : (v : ℕ) → v ≢ t → ahead (placed (members s q) (s.queue q) u w) t v ≡ true → is_among_waiters t (s.queue q) ≡ true
        → before s t q v ≡ true
    placed_before v ne k among = split (v == u)
        (λ e. let is = same_number v u e in
        placed_case (λ l. ahead l t v ≡ true → before s t q v ≡ true) (members s q) (s.queue q) u w
        (λ hu j. or_left _ _ (ap (holds (members s q)) is ∙ hu))
        (λ hu j. or_right (holds (members s q) v) _ (ahead_is (s.queue q) t v ∙ ahead_within t v ((u, w) ∷ []) (s.queue q) among j)) k)
        (λ e. or_right (holds (members s q) v) _ (ahead_is (s.queue q) t v
        ∙ placed_ahead (members s q) (s.queue q) u w t v (λ a b ha l. law.holders_first a b q ha (ahead_is (s.queue q) a b ∙ l)) (λ i. ne (sym i))
        (λ i. other (sym i)) (other_number v u e) k))

-- waits on a node are removed, though not t's
pub before_filtered : (s : State) → IsLawful s → (ps : List NodeId) (t : ℕ) (n : NodeId) (m : Mode) → status_of s t ≡ Some (Waiting n m) → (u : ℕ)
    → is_ahead (filter (stays s ps) (s.queue n)) t u ≡ true → is_ahead (s.queue n) t u ≡ true
before_filtered s law ps t n m waits u k =
    let one = law.one_wait t n m waits in let ah = sym (ahead_is (filter (stays s ps) (s.queue n)) t u) ∙ k in
    let stay = one_stays (is_waiter t) (stays s ps) (s.queue n) (t, m) one (ahead_first (filter (stays s ps) (s.queue n)) t u ah) in
    ahead_is (s.queue n) t u ∙ filtered_ahead (stays s ps) t u (s.queue n)
    (all_of_some (is_waiter t) (stays s ps) (s.queue n) (ap (list_all (stays s ps)) one ∙ ap (λ b. b && true) stay)) ah
