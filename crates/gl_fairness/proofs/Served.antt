-- First come, first served: over a step, and over a run along which the wait lasts.
use Rattle.gl_fairness.proofs.Words.{◌==◌, [], ◌∙◌, ◌∷◌, ◌≡◌, ◌≢◌, ahead_is, ahead_second, and_both, Answer, arith, both, clash, Command, hinders_at}
use Rattle.gl_fairness.proofs.Words.{is_among_waiters, is_at_least, is_empty, is_some, IsLawful, List, nat_tests, NodeId, nodes, not, or_elim, or_right, refl}
use Rattle.gl_fairness.proofs.Words.{SameTxn, State, status_of, steps_keep_law, subst, sym, Told, true, TxnId, Waiter, waiting_is, waits_on, WaitsThrough, ℕ}
use Rattle.gl_modes.proofs.Words.{no}
use Rattle.gl_modes.specs.declared.mode.Mode.TheVariants.{S}
use Rattle.gl_graph.proofs.Moved.{some_at}
use Rattle.gl_graph.proofs.RouteLengths.{listed}
use Rattle.gl_model.proofs.law.Keeps.{apart, txn_there}
use Rattle.gl_fairness.specs.Waiting.{FirstComeFirstServed, NobodyComesBetween, StoodBefore}
use Rattle.gl_fairness.proofs.Before.{before, stands_in}
use Rattle.gl_fairness.proofs.Steps.{step_before}
use Rattle.gl_fairness.proofs.Turns.{IsResting, one_turn}

-- another slot
pub other_slot : (u t : ℕ) → not (u == t) ≡ true → u ≢ t
other_slot u t h = grind (arith, nat_tests)

-- a holder or waiter lives
pub before_lives : (s : State) → IsLawful s → (t : ℕ) (n : NodeId) (u : ℕ) → before s t n u ≡ true → is_some (s.txns u) ≡ true
before_lives s law t n u h = or_elim _ _ h (λ k. (law.grants_live u n k).0)
    (λ k. let st = waiting_is (status_of s u) n (law.waits_are u n (ahead_second (s.queue n) t u (sym (ahead_is (s.queue n) t u) ∙ k))) in
    txn_there (s.txns u) _ st.1)

somebody_in : (t : ℕ) (q : List Waiter) → is_among_waiters t q ≡ true → not (is_empty q) ≡ true
somebody_in t [] h = absurd (no h)
somebody_in t (w ∷ q) h = refl

-- a transaction that is before a waiter does not rest
before_is_busy : (s : State) → IsLawful s → (t : ℕ) (n : NodeId) (u : ℕ) → is_among_waiters t (s.queue n) ≡ true → before s t n u ≡ true
    → IsResting s u → ⊥
before_is_busy s law t n u waits h rest =
    or_elim _ _ h
    (λ k. clash (some_at (hinders_at s u) (nodes s.graph) n (listed s.graph law.graph n (law.grants_live u n k).1)
    (or_right (is_at_least (s.held u n) S) _ (both _ _ k (somebody_in t (s.queue n) waits)))) rest.rests)
    (λ k. apart (sym rest.active ∙ (waiting_is (status_of s u) n (law.waits_are u n (ahead_second (s.queue n) t u (sym (ahead_is (s.queue n) t u) ∙ k)))).1))

pub first_come_first_served : FirstComeFirstServed
first_come_first_served s s' c a told t n law step begin end u h =
    let parts = and_both _ _ h in
    let stood = (step_before s s' c a told t n law step begin end).stood u (other_slot u t.slot parts.0) parts.1 in
    let was = before_lives s law t.slot n u stood in
    let is = before_lives s' (steps_keep_law s s' c a told law step) t.slot n u parts.1 in
    let w = waiting_is (status_of s t.slot) n (and_both _ _ begin).1 in
    let busy = before_is_busy s law t.slot n u (stands_in s law t.slot n w.0 w.1) stood in
    (both _ _ parts.0 stood, record { was = was; is = is; age = (one_turn s s' c a told u step was is busy).age })

-- one transaction in three states
same_txn_trans : (a b c : State) (u : ℕ) → SameTxn a b u → SameTxn b c u → SameTxn a c u
same_txn_trans a b c u f g = record { was = f.was; is = g.is; age = g.age ∙ f.age }

-- a wait that lasts begins with the run
pub waits_first : (t : TxnId) (n : NodeId) (s : State) (cs : List Command) (rs : List (Answer × Told)) (s' : State) → WaitsThrough t n s cs rs s'
    → waits_on s t n ≡ true
waits_first t n s [] [] s' run = run.0
waits_first t n s [] (r ∷ rs) s' run = absurd run
waits_first t n s (c ∷ cs) [] s' run = absurd run
waits_first t n s (c ∷ cs) (r ∷ rs) s' run = run.0

stood_itself : (s : State) → IsLawful s → (t : TxnId) (n : NodeId) → StoodBefore s s t n
stood_itself s law t n u h = let lives = before_lives s law t.slot n u (and_both _ _ h).1 in (h, record { was = lives; is = lives; age = refl })

pub nobody_comes_between : NobodyComesBetween
nobody_comes_between s s' [] [] t n law run = subst (λ x. StoodBefore s x t n) (sym run.1) (stood_itself s law t n)
nobody_comes_between s s' [] (r ∷ rs) t n law run = absurd run
nobody_comes_between s s' (c ∷ cs) [] t n law run = absurd run
nobody_comes_between s s' (c ∷ cs) (r ∷ rs) t n law run = λ u h.
    let mid = run.1 in
    let later = nobody_comes_between mid s' cs rs t n (steps_keep_law s mid c r.0 r.1 law run.2) run.3 u h in
    let first = first_come_first_served s mid c r.0 r.1 t n law run.2 run.0 (waits_first t n mid cs rs s' run.3) u later.0 in
    (first.0, same_txn_trans s mid s' u first.1 later.1)
