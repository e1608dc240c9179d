-- Settling ends, in one state; chains of waits end; one victim is enough. For the laws and for deadlocks.
use Rattle.gl_model.proofs.Words.{◌&&◌, ◌<◌, ◌==◌, [], ◌||◌, ◌∙◌, ◌∷◌, ◌≡◌, ◌≤◌, ◌⊎◌, ⊎_elim, Active, age_of, ap, ap₂, are_compatible, arith, AtBlock, Bool}
use Rattle.gl_model.proofs.Words.{ByWatcher, candidate-on_cycle, clash, Condemned, condemned, CondemningFrees, Detect, enqueued, enters_at, false, Fewest}
use Rattle.gl_model.proofs.Words.{filter, fits, freed-fewer, front, granted_at, HasNoCycle, holds, if◌then◌else◌, inl, inr, is_ahead, is_among_waiters}
use Rattle.gl_model.proofs.Words.{is_earlier, is_wait, is_waiter, is_waiting_at, IsCandidate, IsLawful, IsOnNoCycle, IsVictim, IsWalk, latest-none_later}
use Rattle.gl_model.proofs.Words.{length, List, list_all, list_any, Locks, members, Mode, nat_tests, neither_earlier, NL, NodeId, None, not, not_true}
use Rattle.gl_model.proofs.Words.{number_same, OneIsVictim, Option, or_elim, or_left, or_no, or_right, range_with_len, Reaches, refl, rules, same_number}
use Rattle.gl_model.proofs.Words.{Settled, SettledWithin, SettlingEnds, since_of, slots, Some, split, State, Status, status_in, status_of, subst, suc, sym}
use Rattle.gl_model.proofs.Words.{true, TxnId, Victims, Waiter, Waiting, waits_for, WaitSettles, wanted, with_grant, without_wait, zero, ℕ}
use Rattle.gl_model.proofs.law.Edges.{is_step, step_is}
use Rattle.gl_model.proofs.law.Keeps.{nl_is, txn_there, waiting_is, woken_waits}
use Rattle.gl_model.proofs.law.Lock.{condemned_steps, MayLock, waiting-lawful}
use Rattle.gl_model.proofs.law.Takes.{condemned-lawful, restatus_quiet, without_wait-less}
use Rattle.gl_model.proofs.queues.Waiters.{ahead, ahead_is, ahead_second, among_by_filter, if-false, if-true, no_cons}
use Rattle.gl_model.proofs.queues.Walks.{Distinct, in_range, IsAnswer, same, short, victim, victim_is}

-- Settling always ends: each turn leaves fewer waiters.

-- how many pass
abbrev pub tally : (ℕ → Bool) → List ℕ → ℕ
tally p [] = 0
tally p (x ∷ xs) = if p x then suc (tally p xs) else tally p xs

module _ (p q : ℕ → Bool) (sub : (u : ℕ) → q u ≡ true → p u ≡ true) where
  tally_le : (xs : List ℕ) → tally q xs ≤ tally p xs
  tally_le [] = omega arith
  tally_le (x ∷ xs) = grind (arith, nat_tests, p x, q x, tally_le xs)

  -- and one of them passes no more
  tally_lt : (v : ℕ) (xs : List ℕ) → list_any (same v) xs ≡ true → p v ≡ true → q v ≡ false → tally q xs < tally p xs
  tally_lt v [] h pv qv = clash h refl
  tally_lt v (x ∷ xs) h pv qv = grind (arith, nat_tests, p x, q x, same_number v x, tally_le xs, tally_lt v xs)

-- the slot waits
abbrev pub waiting : State → ℕ → Bool
waiting s u = is_wait (status_of s u)

-- a wait has a node and a mode
pub wait_is : (o : Option Status) → is_wait o ≡ true → (n : NodeId) × (m : Mode) × (o ≡ Some (Waiting n m))
wait_is None h = clash h refl
wait_is (Some Active) h = clash h refl
wait_is (Some Condemned) h = clash h refl
wait_is (Some (Waiting n m)) h = (n, m, refl)

no_wait : (o : Option Status) → ((n : NodeId) (m : Mode) → o ≡ Some (Waiting n m) → ⊥) → is_wait o ≡ false
no_wait o none = split (is_wait o) (λ h. let w = wait_is o h in absurd (none w.0 w.1 w.2)) (λ h. h)

module _ (s : State) (law : IsLawful s) where
  still_waits : (v u : ℕ) → waiting (condemned s v) u ≡ true → waiting s u ≡ true
  still_waits v u h =
      let w = wait_is (status_of (condemned s v) u) h in
      let before = woken_waits (granted_at (without_wait s v Condemned) (is_waiting_at s v)) u w.0 w.1 ((without_wait s v Condemned).txns u) w.2 in
      ap is_wait ((without_wait-less s law v Condemned (λ q m e. cc)).waits_same u w.0 w.1 before.0).0

  pub waits_no_more : (v : ℕ) → waiting (condemned s v) v ≡ false
  waits_no_more v = no_wait (status_of (condemned s v) v) (λ n m e.
      let before = woken_waits (granted_at (without_wait s v Condemned) (is_waiting_at s v)) v n m ((without_wait s v Condemned).txns v) e in
      restatus_quiet Condemned (λ q w k. cc) (s.txns v) n m (sym (ap status_in (if-true _ (number_same v v refl))) ∙ before.0))

  -- a slot that is waited for lives
  pub low : (x y : ℕ) → waits_for s x y ≡ true → y < s.most
  low x y h =
      let st = step_is s x y h in let n = st.0 in let m = st.1 in
      or_elim (not (are_compatible m (s.held y n))) (is_ahead (s.queue n) x y) st.2.blocked
      (λ b. split (holds (members s n) y) (λ k. law.slots_below y (law.grants_live y n k).0)
      (λ k. clash b (ap (λ a. not (are_compatible m a)) (nl_is (s.held y n) k) ∙ free m)))
      (λ b. let among = ahead_second (s.queue n) x y (sym (ahead_is (s.queue n) x y) ∙ b) in
      law.slots_below y (txn_there (s.txns y) _ (waiting_is (status_of s y) n (law.waits_are y n among)).1))
    where
      free : (m : Mode) → not (are_compatible m NL) ≡ false
      free m = search rules

  pub cycle_waits : (v t : ℕ) (path : List ℕ) → IsWalk (waits_for s) v path t → waiting s v ≡ true
  cycle_waits v t [] h = ap is_wait (step_is s v t h).2.waits
  cycle_waits v t (u ∷ path) h = ap is_wait (step_is s v u h.0).2.waits

  wait_low : (v : ℕ) → waiting s v ≡ true → v < s.most
  wait_low v h = law.slots_below v (txn_there (s.txns v) _ (wait_is (status_of s v) h).2)

fewer : (s : State) → IsLawful s → (v : ℕ) → waiting s v ≡ true → tally (waiting (condemned s v)) (slots (condemned s v)) < tally (waiting s) (slots s)
fewer s law v w =
    let lt = wait_low s law v w in
    tally_lt (waiting s) (waiting (condemned s v)) (still_waits s law v) v (slots s) (in_range v 0 s.most (omega arith) (omega arith)) w (waits_no_more s law v)

-- a turn condemns the victim, if there is one
abbrev pub by_victim : (ℕ → State) → State → Option ℕ → State
by_victim turn s None = s
by_victim turn s (Some v) = turn v

-- so many turns of settling
abbrev pub settled_by : Victims → ℕ → State → ℕ → State
settled_by c zero s t = s
settled_by c (suc k) s t = by_victim (λ v. settled_by c k (condemned s v) t) s (victim c (waits_for s) s.most (since_of s) (age_of s) t)

module _ (c : Victims) where
  victim_waits : (s : State) → IsLawful s → (t v : ℕ) → IsVictim c s t v → waiting s v ≡ true
  victim_waits s law t v one = let back = (candidate-on_cycle c (waits_for s) t v one.is_member.is_member).back in cycle_waits s law v t back.0 back.1

  settles_within : (k : ℕ) (s : State) → IsLawful s → (t : ℕ) → tally (waiting s) (slots s) ≤ k → Settled c s t (settled_by c k s t)
  settles_within zero s law t le =
      by (victim c (waits_for s) s.most (since_of s) (age_of s) t) (victim_is (waits_for s) s.most (low s law) c (since_of s) (age_of s) t)
    where
      by : (o : Option ℕ) → IsAnswer c (waits_for s) (since_of s) (age_of s) t o → Settled c s t s
      by None none = (zero, (none, refl))
      by (Some v) one = let w = victim_waits s law t v one in let lt = fewer s law v w in absurd (omega arith)
  settles_within (suc k) s law t le =
      by (victim c (waits_for s) s.most (since_of s) (age_of s) t) (victim_is (waits_for s) s.most (low s law) c (since_of s) (age_of s) t)
      (λ v one. let w = victim_waits s law t v one in let lt = fewer s law v w in settles_within k (condemned s v) (condemned-lawful s law v) t (omega arith))
    where
      by : (o : Option ℕ) → IsAnswer c (waits_for s) (since_of s) (age_of s) t o
          → ((v : ℕ) → IsVictim c s t v → Settled c (condemned s v) t (settled_by c k (condemned s v) t))
          → Settled c s t (by_victim (λ v. settled_by c k (condemned s v) t) s o)
      by None none rest = (zero, (none, refl))
      by (Some v) one rest = let r = rest v one in (suc r.0, (v, one, r.1))

-- what settling leaves, by as many turns as there are waiters
abbrev pub settled : Victims → State → ℕ → State
settled c s t = settled_by c (tally (waiting s) (slots s)) s t

-- so many turns are enough
pub settles : (c : Victims) (s : State) → IsLawful s → (t : ℕ) → Settled c s t (settled c s t)
settles c s law t = settles_within c (tally (waiting s) (slots s)) s law t (omega arith)

-- what a lock leaves, granted at once or waiting
abbrev pub waited : Detect → Victims → State → ℕ → State
waited AtBlock c s t = settled c s t
waited ByWatcher c s t = s

-- what a lock leaves
abbrev pub locked : State → ℕ → NodeId → Mode → State
locked s t n m = if enters_at s t n m then with_grant s t n (wanted s t n m) else waited s.detect s.victims (enqueued s t n (wanted s t n m)) t

-- so a lock that passed its tests has an outcome by both ways of detection
pub locks_some : (s : State) → IsLawful s → (t : TxnId) (n : NodeId) (m : Mode) → MayLock s t n m → Locks s t.slot n m (locked s t.slot n m)
locks_some s law t n m may = by (enters_at s t.slot n m) refl
  where
    wait_some : (d : Detect) (c : Victims) (z : State) (u : ℕ) → IsLawful z → WaitSettles d c z u (waited d c z u)
    wait_some AtBlock c z u lawful = settles c z lawful u
    wait_some ByWatcher c z u lawful = refl

    by : (b : Bool) → enters_at s t.slot n m ≡ b → Locks s t.slot n m
        (if b then with_grant s t.slot n (wanted s t.slot n m) else waited s.detect s.victims (enqueued s t.slot n (wanted s t.slot n m)) t.slot)
    by true e = record { at_once = λ _. refl; waits = λ f. clash e f }
    by false e = record {
      at_once = λ f. clash f e;
      waits = λ _. wait_some s.detect s.victims (enqueued s t.slot n (wanted s t.slot n m)) t.slot (waiting-lawful s law t n m may e);
    }

-- Settling ends in one state.

-- the victim is one
victim_one : (c : Victims) (s : State) → IsLawful s → (t v w : ℕ) → IsVictim c s t v → IsVictim c s t w → v ≡ w
victim_one c s law t v w yv yw =
    law.ages_differ v w (txn_there (s.txns v) _ (wait_is (status_of s v) (victim_waits c s law t v yv)).2)
    (neither_earlier (since_of s) (age_of s) v w (none_later v w yv yw) (none_later w v yw yv))
  where
    none_later : (x y : ℕ) → IsVictim c s t x → IsVictim c s t y → is_earlier (since_of s) (age_of s) x y ≡ false
    none_later x y yx yy = latest-none_later (since_of s) (age_of s) (IsCandidate c (waits_for s) t) x yx y yy.is_member.is_member

-- settling leaves one state
settled_within_one : (c : Victims) (j k : ℕ) (s a b : State) (t : ℕ) → IsLawful s → SettledWithin c j s t a → SettledWithin c k s t b → a ≡ b
settled_within_one c zero zero s a b t law h l = h.1 ∙ sym l.1
settled_within_one c zero (suc k) s a b t law h l = absurd (h.0 l.0 (candidate-on_cycle c (waits_for s) t l.0 l.1.is_member.is_member))
settled_within_one c (suc j) zero s a b t law h l = absurd (l.0 h.0 (candidate-on_cycle c (waits_for s) t h.0 h.1.is_member.is_member))
settled_within_one c (suc j) (suc k) s a b t law h l =
    settled_within_one c j k (condemned s h.0) a b t (condemned-lawful s law h.0) h.2
    (subst (λ v. SettledWithin c k (condemned s v) t b) (victim_one c s law t l.0 h.0 l.1 h.1) l.2)

-- ages differ, so each turn has one victim
pub settled_one : (c : Victims) (s a b : State) (t : ℕ) → IsLawful s → Settled c s t a → Settled c s t b → a ≡ b
settled_one c s a b t law h k = settled_within_one c h.0 k.0 s a b t law h.1 k.1

-- settling ends, and in one state
pub settling_ends : SettlingEnds
settling_ends c s law t = (settled c s t, settles c s law t, λ other h. settled_one c s other (settled c s t) t law h (settles c s law t))

-- By `Fewest`, one victim is enough: a condemned transaction waits for nobody any more, and no wait is new.

-- a transaction that waits for another waits
pub condemning_frees : CondemningFrees
condemning_frees s law v x y h = grind (arith, nat_tests, step_is (condemned s v) x y h, waits_no_more s law v, condemned_steps s law v x y h, same_number)

freed : (s : State) → IsLawful s → (t v : ℕ) → IsVictim Fewest s t v → IsOnNoCycle (waits_for (condemned s v)) t
freed s law t v one = freed-fewer (waits_for s) (waits_for (condemned s v)) t v one.is_member.is_member (condemning_frees s law v)

pub one_is_victim : OneIsVictim
one_is_victim zero s s' law t h = omega arith
one_is_victim (suc zero) s s' law t h = omega arith
one_is_victim (suc (suc k)) s s' law t h = absurd (freed s law t h.0 h.1 h.2.0 h.2.1.is_member.is_member.on_cycle)

-- If nobody is on a cycle of waits, each chain of waits ends at one that does not wait.

one_fails : (f : ℕ → Bool) (xs : List ℕ) → list_all f xs ≡ false → (u : ℕ) × (f u ≡ false)
one_fails f [] h = clash refl h
one_fails f (x ∷ xs) h = split (f x) (λ e. one_fails f xs (sym (ap (λ b. b && list_all f xs) e) ∙ h)) (λ e. (x, e))

-- each waiter waits for another
module _ (s : State) (law : IsLawful s) (t : ℕ) (n : NodeId) (m : Mode) (st : status_of s t ≡ Some (Waiting n m)) where
  turned : (x : ℕ) → (x == t) ≡ false → not (t == x) ≡ true
  turned x k = grind (arith, nat_tests)

  for_holder : fits s.most (members s n) t m ≡ false → (u : ℕ) × (waits_for s t u ≡ true)
  for_holder h =
      let found = one_fails (λ u. (u == t) || are_compatible m (s.held u n)) (range_with_len 0 s.most) h in
      let both = or_no (found.0 == t) (are_compatible m (s.held found.0 n)) found.1 in (
        found.0,
        is_step s t found.0 n m (record {
          differ = turned found.0 both.0;
          waits = st;
          blocked = or_left (not (are_compatible m (s.held found.0 n))) (is_ahead (s.queue n) t found.0) (ap not both.1);
        }),
      )

  by_queue : (q : List Waiter) → s.queue n ≡ q → front s.most (members s n) q ≡ [] → filter (is_waiter t) q ≡ (t, m) ∷ [] → (u : ℕ) × (waits_for s t u ≡ true)
  by_queue [] e free one = no_cons (sym one)
  by_queue (w ∷ q) e free one = split (w.0 == t) own behind
    where
      own : (w.0 == t) ≡ true → (u : ℕ) × (waits_for s t u ≡ true)
      own k =
          let first : w ∷ filter (is_waiter t) q ≡ (t, m) ∷ [] = sym (if-true _ k) ∙ one in
          let is : w ≡ (t, m) = cc in
          for_holder (ap (λ v. fits s.most (members s n) v.0 v.1) (sym is) ∙ not_true _ (λ f. no_cons (sym (if-true _ f) ∙ free)))

      behind : (w.0 == t) ≡ false → (u : ℕ) × (waits_for s t u ≡ true)
      behind k =
          let later : filter (is_waiter t) q ≡ (t, m) ∷ [] = sym (if-false _ k) ∙ one in
          let order : ahead (w ∷ q) t w.0 ≡ true = ap₂ (λ a b. not a && (if b then is_among_waiters t q else ahead q t w.0)) k (number_same w.0 w.0 refl)
          ∙ among_by_filter t (t, m) [] q later in (
            w.0,
            is_step s t w.0 n m (record {
              differ = turned w.0 k;
              waits = st;
              blocked = or_right (not (are_compatible m (s.held w.0 n))) (is_ahead (s.queue n) t w.0) (ap (λ l. is_ahead l t w.0) e ∙ ahead_is (w ∷ q) t w.0
                  ∙ order);
            }),
          )

  -- the lawful fronts are empty, so the wait does not fit or is after another
  pub waits_for_one : (u : ℕ) × (waits_for s t u ≡ true)
  waits_for_one = by_queue (s.queue n) refl (law.front_waits n) (law.one_wait t n m st)

module _ (edge : ℕ → ℕ → Bool) where
  -- the part from its start to one of its numbers
  prefix : (x y q : ℕ) (path : List ℕ) → IsWalk edge x path y → list_any (same q) path ≡ true → Reaches edge x q
  prefix x y q [] h k = clash k refl
  prefix x y q (v ∷ path) h k =
      or_elim (same q v) (list_any (same q) path) k (λ e. ([], ap (edge x) (same_number q v e) ∙ h.0))
      (λ there. let r = prefix v y q path h.1 there in (v ∷ r.0, (h.0, r.1)))

  -- a walk without a cycle meets each number once
  once : ((v : ℕ) → Reaches edge v v → ⊥) → (x y : ℕ) (path : List ℕ) → IsWalk edge x path y → Distinct path
  once none x y [] h = tt
  once none x y (v ∷ path) h = (split (list_any (same v) path) (λ k. absurd (none v (prefix v y v path h.1 k))) (λ k. k), once none v y path h.1)

  abbrev Ends : (ℕ → Bool) → ℕ → Type 0
  Ends busy x = (u : ℕ) × Reaches edge x u × (busy u ≡ false)

  -- a chain ends, or continues for k numbers
  goes_on : (busy : ℕ → Bool) → ((x : ℕ) → busy x ≡ true → (u : ℕ) × (edge x u ≡ true)) → (k x : ℕ) → busy x ≡ true
      → Ends busy x ⊎ ((y : ℕ) × (path : List ℕ) × IsWalk edge x path y × (length path ≡ k))
  goes_on busy next zero x b = let u = next x b in inr (u.0, [], u.1, refl)
  goes_on busy next (suc k) x b =
      let u = next x b in
      split (busy u.0) (λ bu. ⊎_elim (λ end. inl (end.0, (u.0 ∷ end.1.0, (u.1, end.1.1)), end.2)) (λ on. inr (on.0, u.0 ∷ on.1, (u.1, on.2), ap suc on.3))
      (goes_on busy next k u.0 bu)) (λ bu. inl (u.0, ([], u.1), bu))

-- each chain of waits ends
pub chain_ends : (s : State) → IsLawful s → HasNoCycle s → (t : ℕ) → is_wait (status_of s t) ≡ true → (u : ℕ) × Reaches (waits_for s) t u
    × (is_wait (status_of s u) ≡ false)
chain_ends s law none t b =
    ⊎_elim (λ end. end)
    (λ on. let few = short (waits_for s) s.most (low s law) on.1 t on.0 on.2 (once (waits_for s) circle t on.0 on.1 on.2) in let long = on.3 in
    absurd (omega arith))
    (goes_on (waits_for s) (λ x. is_wait (status_of s x)) (λ x h. let w = wait_is (status_of s x) h in waits_for_one s law x w.0 w.1 w.2) (suc s.most) t b)
  where
    circle : (v : ℕ) → Reaches (waits_for s) v v → ⊥
    circle v r = none v v (record { there = r; back = r })
