-- A lock and an unlock keep the law, and no command on locks leaves a cycle. For the table's law.
use Rattle.gl_model.proofs.Words.{◌&&◌, ◌+◌, ◌++◌, ◌<◌, ◌==◌, [], ◌∙◌, ◌∷◌, ◌≡◌, Active, active_on, and_both, ap, arith, at_one-no_cycle, AtBlock, bad_mode}
use Rattle.gl_model.proofs.Words.{begun_at, Bool, ByWatcher, choosing, Condemned, condemned, Detect, empty_state, EmptyHasNoCycle, enqueued, enters_at}
use Rattle.gl_model.proofs.Words.{false, find, first_refusal, HasNoCycle, held_child, if◌then◌else◌, intends, is_child, is_covered, is_live, is_none, is_some}
use Rattle.gl_model.proofs.Words.{is_waiting_at, IsLawful, IsOnNoCycle, less-no_cycle, List, Locks, Mode, nat_tests, need_parents, NL, no_step-no_cycle, NodeId}
use Rattle.gl_model.proofs.Words.{None, not_refused, not_true, number_same, Option, parents_of, pumped, range_with_len, refl, Refusal, released, restatus}
use Rattle.gl_model.proofs.Words.{same_node, same_node-equal, same_node-sym, Settled, SettledWithin, SettlingFrees, shed, Some, split, State, Status, status_in}
use Rattle.gl_model.proofs.Words.{status_of, subst, suc, supremum-above, sym, true, Txn, TxnId, Victims, Waiter, waits_for, WaitSettles, wanted, with_grant}
use Rattle.gl_model.proofs.Words.{without_wait, without_waiter, zero, ℕ}
use Rattle.gl_modes.specs.declared.refusal.Refusal.TheVariants as no
use Rattle.gl_model.specs.Calls.{taken_slot}
use Rattle.gl_graph.proofs.Unrefused.{not_false, test_fails}
use Rattle.gl_model.proofs.law.Edges.{begun_steps, enqueued_steps, granted_steps, idle_no_step, less_steps, pumped_steps}
use Rattle.gl_model.proofs.law.Keeps.{apart, IsLess, less-lawful, pumped-lawful, with_grant-lawful}
use Rattle.gl_model.proofs.law.Takes.{at_all, condemned-lawful, enqueued-lawful, IsQuiet, released-less, settled-lawful, taken-less, without_wait-less}
use Rattle.gl_model.proofs.law.Tests.{active_after, mode_fits, no_child, rule_met, shed-less, wanted_not_nl}
use Rattle.gl_model.proofs.queues.Waiters.{if-true}

-- A lock that passed its tests, and an unlock: what they leave keeps the law.

-- a lock that passed its tests
pub record MayLock (s : State) (t : TxnId) (n : NodeId) (m : Mode) : Type 0 where
  pub active : status_of s t.slot ≡ Some Active
  pub live : is_live s.graph n ≡ true
  pub not_bad : bad_mode s n m ≡ None
  pub rule : intends s t.slot n (wanted s t.slot n m) ≡ true

-- after any first test
pub may_lock : (s : State) (t : TxnId) (n : NodeId) (m : Mode) (first : Option Refusal) (rest : List (Option Refusal))
    → first_refusal (first ∷ active_on s t (n ∷ []) ++ bad_mode s n m ∷ need_parents s t.slot n (wanted s t.slot n m) ∷ rest) ≡ None → MayLock s t n m
    × (first_refusal rest ≡ None)
may_lock s t n m first rest h =
    let a = active_after s t n first _ h in
    let b = not_refused (bad_mode s n m) _ a.2 in
    let c = not_refused (need_parents s t.slot n (wanted s t.slot n m)) rest b.1 in
    (record { active = a.0; live = a.1; not_bad = b.0; rule = rule_met (s.held t.slot) (parents_of s.graph n) (wanted s t.slot n m) c.0 }, c.1)

-- granted at once
pub granted-lawful : (s : State) → IsLawful s → (t : TxnId) (n : NodeId) (m : Mode) → MayLock s t n m → enters_at s t.slot n m ≡ true
    → IsLawful (with_grant s t.slot n (wanted s t.slot n m))
granted-lawful s law t n m may h =
    with_grant-lawful s law t.slot n (wanted s t.slot n m) may.active may.live (mode_fits s law t.slot n m may.not_bad).1 may.rule
    (supremum-above (s.held t.slot n) m) (and_both _ _ h).0

-- placed in the queue
pub waiting-lawful : (s : State) → IsLawful s → (t : TxnId) (n : NodeId) (m : Mode) → MayLock s t n m → enters_at s t.slot n m ≡ false
    → IsLawful (enqueued s t.slot n (wanted s t.slot n m))
waiting-lawful s law t n m may h =
    let mode = mode_fits s law t.slot n m may.not_bad in
    enqueued-lawful s law t.slot n (wanted s t.slot n m) may.active may.live mode.1 may.rule (wanted_not_nl (s.held t.slot n) m mode.0)
    (supremum-above (s.held t.slot n) m) h

-- and settled, at block
pub wait_settles-lawful : (d : Detect) (c : Victims) (s : State) (t : ℕ) (s' : State) → IsLawful s → WaitSettles d c s t s' → IsLawful s'
wait_settles-lawful AtBlock c s t s' law h = settled-lawful c s s' t law h
wait_settles-lawful ByWatcher c s t s' law h = subst IsLawful (sym h) law

-- in either case
pub locks-lawful : (s s' : State) → IsLawful s → (t : TxnId) (n : NodeId) (m : Mode) → MayLock s t n m → Locks s t.slot n m s' → IsLawful s'
locks-lawful s s' law t n m may h =
    split (enters_at s t.slot n m) (λ e. subst IsLawful (sym (h.at_once e)) (granted-lawful s law t n m may e))
    (λ e. wait_settles-lawful s.detect s.victims (enqueued s t.slot n (wanted s t.slot n m)) t.slot s' (waiting-lawful s law t n m may e) (h.waits e))

-- no child is held, so no lock that stays loses a parent
pub unlocked-less : (s : State) → IsLawful s → (t : ℕ) (n : NodeId) → status_of s t ≡ Some Active → held_child s t n ≡ None
    → IsLess s (λ u q. if (u == t) && same_node q n then NL else s.held u q) s.queue s.txns (same_node n)
unlocked-less s law t n active childless =
    taken-less s law t (λ q. same_node q n) (same_node n) active
    (λ q p off h live child. not_true _ (λ e. no_child s law t n q childless live (ap (λ x. is_child s.graph x q) (sym (same_node-equal p n e)) ∙ child) h))
    (λ q off. same_node-sym q n ∙ off)

-- and then the node grants from its front
pub unlocked-lawful : (s : State) → IsLawful s → (t : ℕ) (n : NodeId) → status_of s t ≡ Some Active → held_child s t n ≡ None
    → IsLawful (pumped (with_grant s t n NL) (same_node n))
unlocked-lawful s law t n active childless =
    pumped-lawful (with_grant s t n NL) (same_node n)
    (less-lawful s law (λ u q. if (u == t) && same_node q n then NL else s.held u q) s.queue s.txns (same_node n) (unlocked-less s law t n active childless))

-- the first free slot
pub free_slot : (s : State) (t : ℕ) (k len : ℕ) → find (λ u. is_none (s.txns u)) (range_with_len k len) ≡ Some t → (is_some (s.txns t) ≡ false) × (t < k + len)
free_slot s t k zero h = absurd (cc)
free_slot s t k (suc len) h = grind (arith, nat_tests, is_none (s.txns k), free_slot s t (k + 1) len)

-- a slot in which a transaction may join
pub joining_slot : (s : State) (t : ℕ) → taken_slot s t ≡ None → (is_some (s.txns t) ≡ false) × (t < s.most)
joining_slot s t h =
    let b = and_both _ _ (not_false _ (test_fails _ no.TooManyTxns h)) in
    let low = b.0 in (vacant (s.txns t) b.1, grind (arith, nat_tests))
  where
    vacant : (o : Option Txn) → is_none o ≡ true → is_some o ≡ false
    vacant None e = refl
    vacant (Some x) e = cc

-- With detection at each block, no command on locks leaves a cycle.

-- taking, and then granting from the fronts, adds no step
pub taken_steps : (s : State) → IsLawful s → (held : ℕ → NodeId → Mode) (queue : NodeId → List Waiter) (txns : ℕ → Option Txn) (chosen : NodeId → Bool)
    → IsLess s held queue txns chosen
    → (x y : ℕ) → waits_for (pumped (record s { held = held; queue = queue; txns = txns }) chosen) x y ≡ true → waits_for s x y ≡ true
taken_steps s law held queue txns chosen less x y h =
    less_steps s held queue txns chosen less x y (pumped_steps (record s { held = held; queue = queue; txns = txns }) chosen
    (less-lawful s law held queue txns chosen less) x y h)

-- a removal adds no wait
pub taken-no_cycle : (s : State) → IsLawful s → (held : ℕ → NodeId → Mode) (queue : NodeId → List Waiter) (txns : ℕ → Option Txn) (chosen : NodeId → Bool)
    → IsLess s held queue txns chosen → HasNoCycle s → HasNoCycle (pumped (record s { held = held; queue = queue; txns = txns }) chosen)
taken-no_cycle s law held queue txns chosen less none =
    less-no_cycle (waits_for s) (waits_for (pumped (record s { held = held; queue = queue; txns = txns }) chosen))
    (taken_steps s law held queue txns chosen less) none

pub given_up-no_cycle : (s : State) → IsLawful s → (t : ℕ) (st : Status) → IsQuiet st → HasNoCycle s
    → HasNoCycle (pumped (without_wait s t st) (is_waiting_at s t))
given_up-no_cycle s law t st quiet none =
    taken-no_cycle s law s.held (λ n. without_waiter t (s.queue n)) (λ u. if u == t then restatus st (s.txns t) else s.txns u) (is_waiting_at s t)
    (without_wait-less s law t st quiet) none

-- a turn of settling adds no wait
pub condemned_steps : (s : State) → IsLawful s → (t x y : ℕ) → waits_for (condemned s t) x y ≡ true → waits_for s x y ≡ true
condemned_steps s law t x y h =
    taken_steps s law s.held (λ n. without_waiter t (s.queue n)) (λ u. if u == t then restatus Condemned (s.txns t) else s.txns u) (is_waiting_at s t)
    (without_wait-less s law t Condemned (λ q m e. cc)) x y h

-- settling: t is on no cycle, and no step was added
pub settled_steps : (c : Victims) (k : ℕ) (s s' : State) (t : ℕ) → IsLawful s → SettledWithin c k s t s' → (x y : ℕ) → waits_for s' x y ≡ true
    → waits_for s x y ≡ true
settled_steps c zero s s' t law h x y e = ap (λ z. waits_for z x y) (sym h.1) ∙ e
settled_steps c (suc k) s s' t law h x y e = condemned_steps s law h.0 x y (settled_steps c k (condemned s h.0) s' t (condemned-lawful s law h.0) h.2 x y e)

-- at the end t is on no cycle
pub settled_free : (c : Victims) (k : ℕ) (s s' : State) (t : ℕ) → SettledWithin c k s t s' → IsOnNoCycle (waits_for s') t
settled_free c zero s s' t h = subst (λ z. IsOnNoCycle (waits_for z) t) (sym h.1) h.0
settled_free c (suc k) s s' t h = settled_free c k (condemned s h.0) s' t h.2

-- both, as a law
pub settling_frees : SettlingFrees
settling_frees c s s' law t h = (settled_free c h.0 s s' t h.1, settled_steps c h.0 s s' t law h.1)

-- and fewer steps make no cycle
pub settled-no_cycle : (c : Victims) (s s' : State) (t : ℕ) → IsLawful s → Settled c s t s' → HasNoCycle s → HasNoCycle s'
settled-no_cycle c s s' t law h none = less-no_cycle (waits_for s) (waits_for s') (settled_steps c h.0 s s' t law h.1) none

active_idle : (s : State) (t : ℕ) → status_of s t ≡ Some Active → (u : ℕ) → waits_for s t u ≡ false
active_idle s t active = idle_no_step s t (λ n m st. apart (sym active ∙ st))

-- a grant at once to one that does not wait
pub granted-no_cycle : (s : State) (t : ℕ) (n : NodeId) (m : Mode) → status_of s t ≡ Some Active → HasNoCycle s → HasNoCycle (with_grant s t n m)
granted-no_cycle s t n m active none =
    at_one-no_cycle (waits_for s) (waits_for (with_grant s t n m)) t (granted_steps s t n m) none
    (no_step-no_cycle (waits_for (with_grant s t n m)) t (active_idle (with_grant s t n m) t active))

-- a transaction that begins waits for nobody
pub begun-no_cycle : (s : State) (t age since : ℕ) → HasNoCycle s → HasNoCycle (begun_at s t age since)
begun-no_cycle s t age since none = at_one-no_cycle (waits_for s) (waits_for (begun_at s t age since)) t (begun_steps s t age since) none
    (no_step-no_cycle (waits_for (begun_at s t age since)) t (active_idle (begun_at s t age since) t (ap status_in (if-true _ (number_same t t refl)))))

-- a lock that waits, once it is settled
pub waiting-no_cycle : (c : Victims) (s s' : State) → IsLawful s → (t : TxnId) (n : NodeId) (m : Mode) → MayLock s t n m → enters_at s t.slot n m ≡ false
    → Settled c (enqueued s t.slot n (wanted s t.slot n m)) t.slot s' → HasNoCycle s → HasNoCycle s'
waiting-no_cycle c s s' law t n m may e settled none =
    at_one-no_cycle (waits_for s) (waits_for s') t.slot (λ x y h nx ny. enqueued_steps s law t.slot n (wanted s t.slot n m) x y
    (settled_steps c settled.0 (enqueued s t.slot n (wanted s t.slot n m)) s' t.slot (waiting-lawful s law t n m may e) settled.1 x y h) nx ny)
    none (settled_free c settled.0 (enqueued s t.slot n (wanted s t.slot n m)) s' t.slot settled.1)

-- a lock adds waits of or for its requester alone, which is settled
pub locks-no_cycle : (s s' : State) → s.detect ≡ AtBlock → IsLawful s → (t : TxnId) (n : NodeId) (m : Mode) → MayLock s t n m → Locks s t.slot n m s'
    → HasNoCycle s → HasNoCycle s'
locks-no_cycle s s' at law t n m may h none =
    split (enters_at s t.slot n m) (λ e. subst HasNoCycle (sym (h.at_once e)) (granted-no_cycle s t.slot n (wanted s t.slot n m) may.active none))
    (λ e. waiting-no_cycle s.victims s s' law t n m may e
    (subst (λ d. WaitSettles d s.victims (enqueued s t.slot n (wanted s t.slot n m)) t.slot s') at (h.waits e)) none)

pub unlocked-no_cycle : (s : State) → IsLawful s → (t : ℕ) (n : NodeId) → status_of s t ≡ Some Active → held_child s t n ≡ None → HasNoCycle s
    → HasNoCycle (pumped (with_grant s t n NL) (same_node n))
unlocked-no_cycle s law t n active childless none = taken-no_cycle s law (λ u q. if (u == t) && same_node q n then NL else s.held u q) s.queue s.txns
    (same_node n) (unlocked-less s law t n active childless) none

pub released-no_cycle : (s : State) → IsLawful s → (t : ℕ) → HasNoCycle s → HasNoCycle (released s t)
released-no_cycle s law t none =
    taken-no_cycle s law (λ u n. if u == t then NL else s.held u n) (λ n. without_waiter t (s.queue n)) (λ u. if u == t then None else s.txns u) (at_all s t)
    (released-less s law t) none

pub shed-no_cycle : (s : State) → IsLawful s → (t : ℕ) (n : NodeId) → status_of s t ≡ Some Active → HasNoCycle s → HasNoCycle (shed s t n)
shed-no_cycle s law t n active none = taken-no_cycle s law (λ u c. if (u == t) && is_covered s t n c then NL else s.held u c) s.queue s.txns (is_covered s t n)
    (shed-less s law t n active) none

-- nobody waits in the empty state
pub empty-no_cycle : EmptyHasNoCycle
empty-no_cycle d c most t = no_step-no_cycle (waits_for (choosing c (empty_state d most))) t (idle_no_step (choosing c (empty_state d most)) t (λ n m st. cc))
