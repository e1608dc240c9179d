-- Each waiter waits for one that lives and is before it, so its wait has ended when all of those have.
use Rattle.gl_fairness.proofs.Words.{◌&&◌, ◌==◌, [], ◌||◌, ◌∙◌, ◌∷◌, ◌≡◌, ◌⊎◌, ⊎_elim, Active, age_in, age_of, ahead_is, and_both, Answer, ap, are_compatible}
use Rattle.gl_fairness.proofs.Words.{arith, Bool, both, clash, Command, Condemned, false, filter, holds, if◌then◌else◌, inl, inr, is_among_waiters, is_some}
use Rattle.gl_fairness.proofs.Words.{is_waiter, IsLawful, List, list_all, members, Mode, nat_tests, NL, NodeId, None, not, Option, or_elim, or_left, or_right}
use Rattle.gl_fairness.proofs.Words.{range_with_len, refl, same_mode, Some, split, State, Status, status_of, steps_keep_law, subst, sym, Told, true, Txn, TxnId}
use Rattle.gl_fairness.proofs.Words.{Waiter, Waiting, waiting_is, waits_on, WaitsThrough, ℕ}
use Rattle.gl_modes.proofs.ModeLemmas.{NL-compatible, same_mode-equal}
use Rattle.gl_modes.proofs.Words.{none_some, number_same}
use Rattle.gl_header.specs.Header.{fits, front, with_mode}
use Rattle.gl_model.specs.declared.answers.Notice.TheVariants as notice
use Rattle.gl_model.specs.State.{blocks, live_by}
use Rattle.gl_model.specs.Tellings.{notice_of}
use Rattle.gl_model.proofs.law.Keeps.{nl_is}
use Rattle.gl_model.proofs.queues.Waiters.{ahead, no_cons}
use Rattle.gl_steps.specs.Promises.{ends_wait_of, is_told_that, IsToldEnd, moves_node, SomeStep}
use Rattle.gl_steps.specs.Step.{Run}
use Rattle.gl_steps.proofs.StepsKeepLaw.{runs_keep_law}
use Rattle.gl_steps.proofs.WaitsEnd.{waits_end_so}
use Rattle.gl_fairness.specs.Ends.{EndsSomehow, EndsWait, IsWaitedFor, WaitsEnd, WaitsForOneBefore, WaitsForSomebody}
use Rattle.gl_fairness.proofs.Before.{before, stands_in}
use Rattle.gl_fairness.proofs.Served.{before_lives, nobody_comes_between}
use Rattle.gl_graph.specs.Graph.{is_live}
use Rattle.gl_model.specs.declared.answers.Notice.{Notice}

-- For whom the wait at the front of a queue is, and for whom every other.

-- what does not fit is blocked by some other
blocker : (t : ℕ) (m : Mode) (g : ℕ → Mode) (us : List ℕ) → list_all (λ u. (u == t) || are_compatible m (g u)) us ≡ false → (u : ℕ)
    × (not (u == t) ≡ true) × (are_compatible m (g u) ≡ false)
blocker t m g [] h = clash refl h
blocker t m g (u ∷ us) h = split ((u == t) || are_compatible m (g u))
    (λ e. blocker t m g us (sym (ap (λ b. b && list_all (λ v. (v == t) || are_compatible m (g v)) us) e) ∙ h))
    (λ e. by (u == t) (are_compatible m (g u)) refl refl e)
  where
    by : (a b : Bool) → (u == t) ≡ a → are_compatible m (g u) ≡ b → (a || b) ≡ false → (v : ℕ) × (not (v == t) ≡ true) × (are_compatible m (g v) ≡ false)
    by true b e f k = clash refl k
    by false true e f k = clash refl k
    by false false e f k = (u, ap not e, f)

-- one that blocks holds
blocks_held : (m : Mode) (a : Mode) → are_compatible m a ≡ false → not (same_mode a NL) ≡ true
blocks_held m a h = split (not (same_mode a NL)) (λ e. e) (λ e. clash (ap (are_compatible m) (nl_is a e) ∙ NL-compatible m) h)

-- a front that grants nothing: its first waiter does not fit
first_unfit : (most : ℕ) (g : ℕ → Mode) (w : Waiter) (q : List Waiter) → front most g (w ∷ q) ≡ [] → fits most g w.0 w.1 ≡ false
first_unfit most g w q h = split (fits most g w.0 w.1)
    (λ e. no_cons (sym (ap (λ b. if b then w ∷ front most (with_mode g w.0 w.1) q else []) e) ∙ h)) (λ e. e)

-- the first wait of a slot that waits once is that one
first_own : (t : ℕ) (m : Mode) (w : Waiter) (q : List Waiter) → (w.0 == t) ≡ true → filter (is_waiter t) (w ∷ q) ≡ (t, m) ∷ [] → w ≡ (t, m)
first_own t m w q e one =
    let all : w ∷ filter (is_waiter t) q ≡ (t, m) ∷ [] = sym (ap (λ b. if b then w ∷ filter (is_waiter t) q else filter (is_waiter t) q) e) ∙ one in cc

-- the first waiter is ahead of the others
first_ahead : (t : ℕ) (w : Waiter) (q : List Waiter) → (w.0 == t) ≡ false → is_among_waiters t (w ∷ q) ≡ true → ahead (w ∷ q) t w.0 ≡ true
first_ahead t w q e among =
    let rest : is_among_waiters t q ≡ true = or_elim (w.0 == t) (is_among_waiters t q) among (λ h. clash h e) (λ h. h) in
    let same : (w.0 == w.0) ≡ true = number_same w.0 w.0 refl in
    both _ _ (ap not e) (ap (λ b. if b then is_among_waiters t q else ahead q t w.0) same ∙ rest)

turned : (u t : ℕ) → not (u == t) ≡ true → not (t == u) ≡ true
turned u t h = grind (arith, nat_tests)

module _ (s : State) (law : IsLawful s) (t : TxnId) (n : NodeId) (m : Mode) (waits : status_of s t.slot ≡ Some (Waiting n m)) where
  waited_for : (u : ℕ) → not (u == t.slot) ≡ true → before s t.slot n u ≡ true
      → (not (are_compatible m (s.held u n)) ≡ true) ⊎ (ahead (s.queue n) t.slot u ≡ true) → IsWaitedFor s t n u
  waited_for u other stands why = record {
    waits = both _ _ (turned u t.slot other) (ap (blocks s t.slot u) waits ∙ ⊎_elim (λ h. or_left _ _ h)
        (λ h. or_right (not (are_compatible m (s.held u n))) _ (ahead_is (s.queue n) t.slot u ∙ h)) why);
    lives = before_lives s law t.slot n u stands;
    before = both _ _ other stands;
  }

  by_queue : (q : List Waiter) → s.queue n ≡ q → is_among_waiters t.slot q ≡ true → (u : ℕ) × IsWaitedFor s t n u
  by_queue [] e among = clash among refl
  by_queue (w ∷ q) e among = split (w.0 == t.slot) (λ own.
      let is : w ≡ (t.slot, m) = first_own t.slot m w q own (sym (ap (filter (is_waiter t.slot)) e) ∙ law.one_wait t.slot n m waits) in
      let unfit = first_unfit s.most (members s n) w q (sym (ap (front s.most (members s n)) e) ∙ law.front_waits n) in
      let found = blocker t.slot m (members s n) (range_with_len 0 s.most) (sym (ap (λ (x : Waiter). fits s.most (members s n) x.0 x.1) is) ∙ unfit) in
      (found.0, waited_for found.0 found.1 (or_left _ _ (blocks_held m (s.held found.0 n) found.2)) (inl (ap not found.2))))
      (λ another.
      let at : ahead (s.queue n) t.slot w.0 ≡ true = ap (λ l. ahead l t.slot w.0) e ∙ first_ahead t.slot w q another among in
      (w.0, waited_for w.0 (ap not another) (or_right (holds (members s n) w.0) _ (ahead_is (s.queue n) t.slot w.0 ∙ at)) (inr at)))

  pub somebody : (u : ℕ) × IsWaitedFor s t n u
  somebody = by_queue (s.queue n) refl (stands_in s law t.slot n m waits)

pub waits_for_somebody : WaitsForSomebody
waits_for_somebody s t n law waits = let w = waiting_is (status_of s t.slot) n (and_both _ _ waits).1 in somebody s law t n w.0 w.1

-- Runs along which a wait lasts.

-- a run of this kind is a run, and at its end the wait lasts
through_runs : (t : TxnId) (n : NodeId) (s : State) (cs : List Command) (rs : List (Answer × Told)) (s' : State) → WaitsThrough t n s cs rs s'
    → Run s cs rs s' × (waits_on s' t n ≡ true)
through_runs t n s [] [] s' run = (run.1, ap (λ x. waits_on x t n) run.1 ∙ run.0)
through_runs t n s [] (r ∷ rs) s' run = absurd run
through_runs t n s (c ∷ cs) [] s' run = absurd run
through_runs t n s (c ∷ cs) (r ∷ rs) s' run = let rest = through_runs t n run.1 cs rs s' run.3 in ((run.1, run.2, rest.0), rest.1)

pub waits_for_one_before : WaitsForOneBefore
waits_for_one_before s s' cs rs t n law run =
    let plain = through_runs t n s cs rs s' run in
    let one = waits_for_somebody s' t n (runs_keep_law s s' cs rs law plain.0) plain.1 in
    let stood = nobody_comes_between s s' cs rs t n law run one.0 one.1.before in
    (one.0, one.1, stood.0, stood.1)

-- what a notice says of the end of a wait
module _ (s : State) (t : TxnId) (n : NodeId) (m : Mode) (lived : is_live s.graph n ≡ true) (c : Command) (told : Told) (s' : State) where
  noticed : (o : Option Status) → status_of s' t.slot ≡ o → (x : Notice) → notice_of s' t.slot n m o ≡ Some x → is_told_that t x told ≡ true
      → (x ≡ notice.Moved → moves_node n c ≡ true) → EndsSomehow s t n m c told s'
  noticed None st x is tells moves = absurd (none_some is)
  noticed (Some (Waiting q w)) st x is tells moves = absurd (none_some is)
  noticed (Some Condemned) st x is tells moves =
      let e : notice.Victim ≡ x = cc in inr (inl (record { told_so = subst (λ y. is_told_that t y told ≡ true) (sym e) tells; condemned = st }))
  noticed (Some Active) st x is tells moves = by (is_live s'.graph n) refl (same_mode (s'.held t.slot n) m) refl is
    where
      by : (a : Bool) → is_live s'.graph n ≡ a → (b : Bool) → same_mode (s'.held t.slot n) m ≡ b
          → (if not a then Some notice.Gone else (if b then Some (notice.Granted n m) else Some notice.Moved)) ≡ Some x → EndsSomehow s t n m c told s'
      by false a b h e = let f : notice.Gone ≡ x = cc in
          inr (inr (inr (inl (record { told_so = subst (λ y. is_told_that t y told ≡ true) (sym f) tells; lived = lived; gone = a }))))
      by true a true h e = let f : notice.Granted n m ≡ x = cc in
          inl (record { told_so = subst (λ y. is_told_that t y told ≡ true) (sym f) tells; held = same_mode-equal _ _ h })
      by true a false h e = let f : notice.Moved ≡ x = cc in
          inr (inr (inl (record { told_so = subst (λ y. is_told_that t y told ≡ true) (sym f) tells; moved = moves (sym f) })))

  ended_so : IsToldEnd t n m c told s' ⊎ (ends_wait_of t c ≡ true) → EndsSomehow s t n m c told s'
  ended_so h = ⊎_elim (λ x. noticed (status_of s' t.slot) refl x.said x.is x.told_so x.moved) (λ named. inr (inr (inr (inr named)))) h

-- a run either is one along which the wait lasts, or some step of it ends the wait
lasts_or_ends : (s s' : State) (cs : List Command) (rs : List (Answer × Told)) (t : TxnId) (n : NodeId) → IsLawful s → Run s cs rs s' → waits_on s t n ≡ true
    → WaitsThrough t n s cs rs s' ⊎ SomeStep (EndsWait t n) s cs rs s'
lasts_or_ends s s' [] [] t n law run waits = inl (waits, run)
lasts_or_ends s s' [] (r ∷ rs) t n law run waits = absurd run
lasts_or_ends s s' (c ∷ cs) [] t n law run waits = absurd run
lasts_or_ends s s' (c ∷ cs) (r ∷ rs) t n law run waits =
    let mid = run.0 in
    split (waits_on mid t n)
    (λ e. ⊎_elim (λ lasts. inl (waits, mid, run.1, lasts)) (λ ends. inr (mid, run.1, inr ends))
    (lasts_or_ends mid s' cs rs t n (steps_keep_law s mid c r.0 r.1 law run.1) run.2 e))
    (λ e. let parts = and_both _ _ waits in let w = waiting_is (status_of s t.slot) n parts.1 in
    inr (
      mid,
      run.1,
      inl (
        record {
          wanted = w.0;
          waited = w.1;
          over = e;
          how = ended_so s t n w.0 (law.waits_live t.slot n (stands_in s law t.slot n w.0 w.1)) c r.1 mid
              (waits_end_so s mid c r.0 r.1 t n w.0 law run.1 parts.0 w.1 e);
        },
        run.2,
      ),
    ))

-- one that is there with an age lives by it
there_lives : (age : ℕ) (x : Option Txn) → is_some x ≡ true → age_in x ≡ age → live_by age x ≡ true
there_lives age None h e = clash h refl
there_lives age (Some x) h e = number_same x.age age e

pub waits_end : WaitsEnd
waits_end s s' cs rs t n law run waits ended =
    ⊎_elim (λ lasts. let one = waits_for_one_before s s' cs rs t n law lasts in
    clash (there_lives (age_of s one.0) (s'.txns one.0) one.3.is one.3.age) (ended one.0 one.2)) (λ ends. ends)
    (lasts_or_ends s s' cs rs t n law run waits)
