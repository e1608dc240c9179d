-- What a lock that is granted, and one that waits, makes of a table. For the calls that lock.
use Rattle.gl_table.proofs.Words.{◌==◌, [], ◌∙◌, ◌∷◌, ◌≡◌, Active, ap, AreExact, arith, Asked, AtBlock, Bool, ByWatcher, CanAsk, clash, Deadlock, Detect}
use Rattle.gl_table.proofs.Words.{enqueued, enters_at, Err, false, first_refusal, granted, granted-no_cycle, graph_of, HasAsked, HasGrant, HasNoCycle, held_by}
use Rattle.gl_table.proofs.Words.{held_of, IfOk, if◌then◌else◌, Inside, is_granted_at, IsLawful, IsOrderly, IsSound, KeepsLocks, Ledger, length, List}
use Rattle.gl_table.proofs.Words.{lock_tests, locked_as, LocksKeeping, MayAct, MayLock, Mode, nat_tests, NL, NodeId, None, number_same, Ok, OnErr, OnOk, Option}
use Rattle.gl_table.proofs.Words.{parents_of, passed_then, queue_of, refl, Refusal, refused_first, Refuses, Result, same_mode, same_node-refl, Some, split}
use Rattle.gl_table.proofs.Words.{State, state_at, state_in, state_of, status_of, subst, sym, TableView, Told, told_but, true, try_tests, TxnId, txns_of}
use Rattle.gl_table.proofs.Words.{verdict, Victims, view_of, WaitSettles, WaitSettlesKeeping, wanted, would_block, ℕ}
use Rattle.gl_model.proofs.law.Tests.{mode_fits}
use Rattle.gl_model.specs.Calls.{Locks}
use Rattle.gl_modes.specs.declared.refusal.Refusal.TheVariants as no
use Rattle.gl_table.specs.declared.locks.Locks as code
use Rattle.gl_model.specs.declared.answers.Locked.TheVariants as locked
use Rattle.gl_table.proofs.calls.Calls.{keeping_also, over, settled_also}
use Rattle.gl_table.proofs.calls.Stands.{as_it_was, IsLaw, may_act, MayStand, orderly_over, stands, with_locks}
use Rattle.gl_model.proofs.law.Lock.{granted-lawful, locks-lawful, locks-no_cycle, may_lock, waiting-lawful}
use Rattle.gl_model.proofs.telling.Fronts.{enters-most}
use Rattle.gl_model.proofs.telling.Lists.{told_but_same, told_nothing}

-- The tests of a request, and what a grant makes of a table.

module _ (i : Inside) (v : TableView) (view : view_of i ≡ v) (t : TxnId) (n : NodeId) (m : Mode) where
  -- the locks meet the tests of the table
  pub tests-seen : first_refusal (lock_tests (state_at i.locks) t n m) ≡ first_refusal (lock_tests (state_of v) t n m)
  tests-seen = ap (λ w. first_refusal (lock_tests (state_of w) t n m)) view

-- a test that refused
pub test_refused : (o : Option Refusal) (r : Refusal) → Err r ≡ verdict o → o ≡ Some r
test_refused None r h = absurd (cc)
test_refused (Some x) r h = let same : r ≡ x = cc in ap Some (sym same)

-- if no test refuses, a value is no refusal
pub unrefused : {T : Type 0} (o : Option Refusal) (x : T) → o ≡ None → Refuses o (Ok x)
unrefused None x h = tt
unrefused (Some r) x h = absurd (cc)

blocked : (s : State) (t : ℕ) (n : NodeId) (m : Mode) (b : Bool) → enters_at s t n m ≡ b
    → first_refusal (would_block s t n m ∷ []) ≡ (if b then None else Some no.WouldBlock)
blocked s t n m b h1 = grind (arith, nat_tests)

module _ (s : State) (t : TxnId) (n : NodeId) (m : Mode) where
  -- what refuses a lock refuses a try
  pub try_refused : (r : Refusal) → first_refusal (lock_tests s t n m) ≡ Some r → first_refusal (try_tests s t n m) ≡ Some r
  try_refused r h = refused_first (lock_tests s t n m) (would_block s t.slot n m ∷ []) r h

  -- and so does a request that would wait
  pub try_decides : first_refusal (lock_tests s t n m) ≡ None → (b : Bool) → enters_at s t.slot n m ≡ b
      → first_refusal (try_tests s t n m) ≡ (if b then None else Some no.WouldBlock)
  try_decides h b e = passed_then (lock_tests s t n m) (would_block s t.slot n m ∷ []) h ∙ blocked s t.slot n m b e

  pub may_lock_by : first_refusal (lock_tests s t n m) ≡ None → MayLock s t n m
  may_lock_by h = (may_lock s t n m None [] h).0

module _ (i : Inside) (sound : IsSound i) (t : TxnId) (n : NodeId) (m : Mode) where
  abbrev s : State
  s = state_of (view_of i)

  abbrev l : State
  l = state_at i.locks

  -- the header says what the state says
  pub same_enters : is_granted_at i.locks.ledger.headers.entries t.slot n m ≡ enters_at s t.slot n m
  same_enters = sym (enters-most l i.locks.orderly i.locks.sound.few t.slot n (wanted l t.slot n m))

  -- if no test refuses a lock, it can be requested
  pub may_ask : MayLock s t n m → MayAct i.locks.graph i.locks.ledger t.slot
  may_ask may = may_act i.locks.graph i.locks.ledger (as_it_was i sound).law t.slot may.active

  pub can_ask : MayLock s t n m → (held : Mode) (parents : List NodeId) → held ≡ held_by i.locks.ledger.lists.items t.slot n
      → parents ≡ parents_of (graph_of i.locks.graph) n → CanAsk i.locks.graph i.locks.ledger t.slot n m held parents
  can_ask may held parents held_is parents_are = record {
    live = may.live;
    lock = λ e. clash (ap (λ x. same_mode x NL) e) (mode_fits s sound.lawful t.slot n m may.not_bad).0;
    held_is = held_is;
    parents_are = parents_are;
  }

  -- the grant was made
  module _ (may : MayLock s t n m) (fits : enters_at s t.slot n m ≡ true) (ledger : Ledger)
      (is : state_in i.locks.graph ledger ≡ granted l t.slot n m) where
    pub state_granted : with_locks i (state_in i.locks.graph ledger) ≡ granted s t.slot n m
    state_granted = ap {A = State} (with_locks i) is

    pub stands_granted : AreExact i.locks.graph ledger → MayStand i i.locks.graph ledger
    stands_granted exact = stands i i.locks.graph ledger (record {
      lawful = subst IsLawful (sym state_granted) (granted-lawful s sound.lawful t n m may fits);
      no_cycle = λ at. subst HasNoCycle (sym state_granted) (granted-no_cycle s t.slot n (wanted s t.slot n m) may.active (sound.no_cycle at));
    }) exact

  -- nothing but room was made
  pub stands_kept : (ledger : Ledger) → KeepsLocks i.locks.ledger ledger → AreExact i.locks.graph ledger → MayStand i i.locks.graph ledger
  stands_kept ledger kept exact = stands i i.locks.graph ledger (record {
    lawful = subst IsLawful same sound.lawful;
    no_cycle = λ at. subst HasNoCycle same (sound.no_cycle at);
  }) exact
    where
      same : s ≡ with_locks i (state_in i.locks.graph ledger)
      same = λ z. record s {
        txns = txns_of (sym kept.txn_entries z).items;
        held = held_of (sym kept.headers z);
        queue = queue_of (sym kept.headers z);
        most = length (sym kept.txn_entries z).items;
      }

  -- it was granted, or nothing but room was made
  pub stands_tried : (r : Result Mode Refusal) (ledger : Ledger) → MayLock s t n m → enters_at s t.slot n m ≡ true
      → IfOk r (λ given. HasGrant l (state_in i.locks.graph ledger) t.slot n m given) → OnErr r (KeepsLocks i.locks.ledger ledger)
      → AreExact i.locks.graph ledger → MayStand i i.locks.graph ledger
  stands_tried (Ok x) ledger may fits ok err exact = stands_granted may fits ledger ok.state exact
  stands_tried (Err x) ledger may fits ok err exact = stands_kept ledger err exact

  pub state_tried : (r : Result Mode Refusal) (ledger : Ledger) → IfOk r (λ given. HasGrant l (state_in i.locks.graph ledger) t.slot n m given)
      → OnOk r (with_locks i (state_in i.locks.graph ledger) ≡ granted s t.slot n m)
  state_tried (Ok x) ledger ok = ap {A = State} (with_locks i) ok.state
  state_tried (Err x) ledger ok = ok

  pub mode_tried : (r : Result Mode Refusal) (ledger : Ledger) → IfOk r (λ given. HasGrant l (state_in i.locks.graph ledger) t.slot n m given)
      → IfOk r (λ given. given ≡ wanted s t.slot n m)
  mode_tried (Ok x) ledger ok = ok.mode
  mode_tried (Err x) ledger ok = ok

-- what a try answers once the tests of a lock passed, by what the header says
pub decided : (i : Inside) (sound : IsSound i) (v : TableView) → view_of i ≡ v → (t : TxnId) (n : NodeId) (m : Mode)
    → first_refusal (lock_tests (state_of v) t n m) ≡ None → (b : Bool) → b ≡ is_granted_at i.locks.ledger.headers.entries t.slot n m
    → first_refusal (try_tests (state_of v) t n m) ≡ (if b then None else Some no.WouldBlock)
decided i sound v view t n m h b e =
    try_decides (state_of v) t n m h b (ap (λ (w : TableView). enters_at (state_of w) t.slot n m) (sym view) ∙ sym (same_enters i sound t n m) ∙ sym e)

-- A lock that is granted at once, and one that waits: what each makes of a table.

-- so does settling a wait, or not
settles_on : (by : Detect) (c : Victims) (x x' : State) (t : ℕ) (d : Detect) (v : Victims) (b : ℕ) → WaitSettles by c x t x'
    → WaitSettles by c (over c t d v b x) t (over c t d v b x')
settles_on AtBlock c x x' t d v b h = settled_also c t d v b x x' h
settles_on ByWatcher c x x' t d v b h = ap (over c t d v b) h

-- and what is kept of it
keeps_on : (by : Detect) (c : Victims) (x x' : State) (t : ℕ) (e e' : Deadlock) (d : Detect) (v : Victims) (b : ℕ) → WaitSettlesKeeping by c x t e x' e'
    → WaitSettlesKeeping by c (over c t d v b x) t e (over c t d v b x') e'
keeps_on AtBlock c x x' t e e' d v b h = keeping_also c t d v b x x' e e' h
keeps_on ByWatcher c x x' t e e' d v b h = h

-- a lock was granted at once
pub granted_locks : (before s' : State) (t : ℕ) (n : NodeId) (m : Mode) → enters_at before t n m ≡ true → s' ≡ granted before t n m → Locks before t n m s'
granted_locks before s' t n m enters is = record { at_once = λ h. is; waits = λ h. absurd (apart (sym h ∙ enters)) }
  where
    apart : false ≡ true → ⊥
    apart h = cc

-- and keeps what was kept of deadlocks
pub granted_keeps : (before s' : State) (t : ℕ) (n : NodeId) (m : Mode) (d : Deadlock) → enters_at before t n m ≡ true → LocksKeeping before t n m d s' d
granted_keeps before s' t n m d enters = record { at_once = λ h. refl; waits = λ h. clash enters h }

-- and its answer is the granted mode
pub granted_answer : (before s' : State) (t : ℕ) (n : NodeId) (m x : Mode) → status_of before t ≡ Some Active → s' ≡ granted before t n m
    → x ≡ wanted before t n m → locked.Granted x ≡ locked_as (s'.held t n) (status_of s' t)
granted_answer before s' t n m x active is mode = grind (arith, nat_tests, mode, number_same t t refl, same_node-refl n, active, is)

-- and nobody is told
pub granted_told : (before s' : State) (t : ℕ) (n : NodeId) (m : Mode) → IsLawful before → s' ≡ granted before t n m → [] ≡ told_but t before s'
granted_told before s' t n m law is = told_nothing before (granted before t n m) t law.slots_below (λ u. refl) ∙ ap (told_but t before) (sym is)

module _ (i : Inside) (sound : IsSound i) (t : TxnId) (n : NodeId) (m : Mode) (may : MayLock (state_of (view_of i)) t n m)
    (blocks : enters_at (state_of (view_of i)) t.slot n m ≡ false) where
  abbrev before : State
  before = state_of (view_of i)

  abbrev alone : State
  alone = state_at i.locks

  -- the requester waits
  module _ (ledger : Ledger) (is : state_in i.locks.graph ledger ≡ enqueued alone t.slot n (wanted alone t.slot n m)) where
    abbrev waiting : State
    waiting = state_in i.locks.graph ledger

    pub law_waiting : AreExact i.locks.graph ledger → IsLaw i.locks.graph ledger
    law_waiting exact = record {
      orderly = subst IsOrderly (sym is) (orderly_over _ i.detect i.victims i.begins (waiting-lawful before sound.lawful t n m may blocks));
      sound = exact.sound;
      agree = exact.agree;
      count = exact.count;
    }

    -- and was settled, if that is the detection
    module _ (left : code.Locks) (kept : Deadlock) (settles : WaitSettles i.detect i.victims waiting t.slot (state_at left)) where
      abbrev waited : Inside
      waited = record i { locks = left; deadlock = kept }

      pub state_locked : Locks before t.slot n m (state_of (view_of waited))
      state_locked = record {
        at_once = λ h. clash h blocks;
        waits = λ h. settles_on i.detect i.victims (enqueued alone t.slot n (wanted alone t.slot n m)) (state_at left) t.slot i.detect i.victims
            i.begins (subst (λ (x : State). WaitSettles i.detect i.victims x t.slot (state_at left)) is settles);
      }

      -- with what is kept of deadlocks
      pub kept_locked : WaitSettlesKeeping i.detect i.victims waiting t.slot i.deadlock (state_at left) kept
          → LocksKeeping before t.slot n m i.deadlock (state_of (view_of waited)) kept
      kept_locked keeps = record {
        at_once = λ h. clash h blocks;
        waits = λ h. keeps_on i.detect i.victims (enqueued alone t.slot n (wanted alone t.slot n m)) (state_at left) t.slot i.deadlock kept i.detect
            i.victims i.begins (subst (λ (x : State). WaitSettlesKeeping i.detect i.victims x t.slot i.deadlock (state_at left) kept) is keeps);
      }

      pub sound_locked : IsSound waited
      sound_locked = record {
        lawful = locks-lawful before (state_of (view_of waited)) sound.lawful t n m may state_locked;
        no_cycle = λ at. locks-no_cycle before (state_of (view_of waited)) at sound.lawful t n m may state_locked (sound.no_cycle at);
      }

      -- the requester's own wait is told to nobody
      pub told_locked : (list : Told) → list ≡ told_but t.slot waiting (state_at left) → list ≡ told_but t.slot before (state_of (view_of waited))
      told_locked list told =
          told ∙ ap (λ (x : State). told_but t.slot x (state_of (view_of waited))) is
          ∙ told_but_same before (enqueued alone t.slot n (wanted alone t.slot n m)) (state_of (view_of waited)) t.slot refl (λ u e. others (u == t.slot) _ _ e)
        where
          others : {A : Type 0} (b : Bool) (x y : A) → b ≡ false → (if b then x else y) ≡ y
          others b x y h1 = grind (arith, nat_tests)

-- after any outcome of a request, the locks keep their law
pub law_asked : (i : Inside) (sound : IsSound i) (t : TxnId) (n : NodeId) (m : Mode) → MayLock (state_of (view_of i)) t n m → (ledger : Ledger)
    (r : Result Asked Refusal)
    → IfOk r (λ asked. HasAsked (state_at i.locks) (state_in i.locks.graph ledger) t.slot n m asked)
    → OnErr r (KeepsLocks i.locks.ledger ledger) → AreExact i.locks.graph ledger → IsLaw i.locks.graph ledger
law_asked i sound t n m may ledger (Ok a) asked err exact =
    split (enters_at (state_of (view_of i)) t.slot n m) (λ e. (stands_granted i sound t n m may e ledger (asked.enters e) exact).law)
    (λ e. law_waiting i sound t n m may e ledger (asked.waits e) exact)
law_asked i sound t n m may ledger (Err r) asked err exact = (stands_kept i sound t n m ledger err exact).law

-- a refusal is one for any type of answer
pub refuses_err : (A B : Type 0) (o : Option Refusal) (r : Refusal) → Refuses {T = A} o (Err r) → Refuses {T = B} o (Err r)
refuses_err A B None r h = h
refuses_err A B (Some x) r h = let same : r ≡ x = cc in ap Err same

-- and so is what is not
pub refuses_ok : {A B : Type 0} (o : Option Refusal) (x : A) (y : B) → Refuses o (Ok x) → Refuses o (Ok y)
refuses_ok None x y h = tt
refuses_ok (Some r) x y h = absurd (cc)
