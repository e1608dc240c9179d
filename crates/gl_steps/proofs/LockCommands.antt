-- Each command on locks and transactions keeps the law of a state.
use Rattle.gl_steps.proofs.Words.{◌+◌, [], ◌∷◌, ◌≡◌, ◌≤◌, Active, Answer, ap, arith, false, is_wait, IsLawful, joining_age, list_any, lives, may_lock, min}
use Rattle.gl_steps.proofs.Words.{Mode, NodeId, nodes, None, none_refused, not_false, not_refused, raised, refusal_of, shed, Some, State, status_of, subst, sym}
use Rattle.gl_steps.proofs.Words.{test_fails, tests_of, Told, true, TxnId, worn, ℕ}
use Rattle.gl_steps.specs.declared.command.Command.TheVariants as command
use Rattle.gl_model.specs.Calls.{hinders_at, would_block}
use Rattle.gl_steps.proofs.Beginning.{Begins}
use Rattle.gl_steps.proofs.KeepsLaw.{KeepsLaw}
use Rattle.gl_model.proofs.law.Takes.{begun-lawful, free_quiet, released-lawful, settled-lawful, without_wait-lawful}
use Rattle.gl_model.proofs.law.Tests.{active_after, active_in, raised-lawful, shed-lawful}
use Rattle.gl_model.proofs.law.Lock.{free_slot, granted-lawful, joining_slot, locks-lawful, unlocked-lawful}
use Rattle.gl_model.proofs.law.Keeps.{txn_there}

-- an escalation that is not refused raises the grant of an active transaction
pub escalation_raises : (s : State) → IsLawful s → (t : TxnId) (n : NodeId) → refusal_of s (command.Escalate t n) ≡ None
    → (status_of s t.slot ≡ Some Active) × IsLawful (raised s t.slot n)
escalation_raises s law t n h =
    let a = active_after s t n (worn s) _ h in
    let ok = none_refused (tests_of s (command.Escalate t n)) h in
    (a.0, raised-lawful s law t.slot n a.0 a.1 (test_fails _ _ (ok 5)) (not_false _ (test_fails _ _ (ok 6))) (not_false _ (test_fails _ _ (ok 7))))

-- raised, and then shed
pub escalated-lawful : (s : State) → IsLawful s → (t : TxnId) (n : NodeId) → refusal_of s (command.Escalate t n) ≡ None
    → IsLawful (shed (raised s t.slot n) t.slot n)
escalated-lawful s law t n h = let up = escalation_raises s law t n h in shed-lawful (raised s t.slot n) up.1 t.slot n up.0

begins_lawful : (since : ℕ) (s s' : State) (a : Answer) (told : Told) → since ≤ s.begins + 1 → IsLawful s → Begins since s a told s' → IsLawful s'
begins_lawful since s s' a told low law acc =
    let at = free_slot s acc.0 0 s.most acc.1 in let below = at.1 in
    subst IsLawful (sym acc.4) (begun-lawful s law acc.0 (free_quiet s acc.0 at.0) (omega arith) (s.begins + 1) since (omega arith) low)

pub begin_keeps : KeepsLaw command.Begin
begin_keeps s s' a told law h acc = begins_lawful (s.begins + 1) s s' a told (omega arith) law acc

pub begin_again_keeps : (since : ℕ) → KeepsLaw (command.BeginAgain since)
begin_again_keeps since s s' a told law h acc = begins_lawful (min since (s.begins + 1)) s s' a told (omega arith) law acc

-- its age is above all others, and its `since` is not above its age
pub join_keeps : (t since : ℕ) → KeepsLaw (command.Join t since)
join_keeps t since s s' a told law h acc =
    let slot = joining_slot s t (none_refused (tests_of s (command.Join t since)) h 2) in
    subst IsLawful (sym acc.2) (begun-lawful s law t (free_quiet s t slot.0) slot.1 (joining_age s since) since (omega arith) (omega arith))

pub lock_keeps : (t : TxnId) (n : NodeId) (m : Mode) → KeepsLaw (command.Lock t n m)
lock_keeps t n m s s' a told law h acc = locks-lawful s s' law t n m (may_lock s t n m (worn s) [] h).0 acc.0

pub try_keeps : (t : TxnId) (n : NodeId) (m : Mode) → KeepsLaw (command.Try t n m)
try_keeps t n m s s' a told law h acc =
    let may = may_lock s t n m (worn s) (would_block s t.slot n m ∷ []) h in
    subst IsLawful (sym acc.2) (granted-lawful s law t n m may.0 (not_false _ (test_fails _ _ (not_refused (would_block s t.slot n m) [] may.1).0)))

pub unlock_keeps : (t : TxnId) (n : NodeId) → KeepsLaw (command.Unlock t n)
unlock_keeps t n s s' a told law h acc =
    subst IsLawful (sym acc.2) (unlocked-lawful s law t.slot n (active_after s t n (worn s) _ h).0 (none_refused (tests_of s (command.Unlock t n)) h 6))

pub escalate_keeps : (t : TxnId) (n : NodeId) → KeepsLaw (command.Escalate t n)
escalate_keeps t n s s' a told law h acc = subst IsLawful (sym acc.2) (escalated-lawful s law t n h)

pub cancel_keeps : (t : TxnId) → KeepsLaw (command.Cancel t)
cancel_keeps t s s' a told law h acc = subst IsLawful (sym acc.2) (without_wait-lawful s law t.slot Active (λ q m e. cc))

pub commit_keeps : (t : TxnId) → KeepsLaw (command.Commit t)
commit_keeps t s s' a told law h acc = subst IsLawful (sym acc.2) (released-lawful s law t.slot)

-- a transaction that is active, and holds intentions alone, on nodes for which nobody waits
pub record MayRenew (s : State) (t : TxnId) : Type 0 where
  pub alive : lives s t ≡ true
  pub active : status_of s t.slot ≡ Some Active
  pub rests : list_any (hinders_at s t.slot) (nodes s.graph) ≡ false

pub may_renew : (s : State) (t : TxnId) (since : ℕ) → refusal_of s (command.Renew t since) ≡ None → MayRenew s t
may_renew s t since h =
    let ok = none_refused (tests_of s (command.Renew t since)) h in
    let alive = not_false _ (test_fails _ _ (ok 1)) in
    record { alive = alive; active = active_in t.age (s.txns t.slot) alive (ok 2) (ok 3); rests = test_fails _ _ (ok 4) }

pub renew_keeps : (t : TxnId) (since : ℕ) → KeepsLaw (command.Renew t since)
renew_keeps t since s s' a told law h acc =
    let may = may_renew s t since h in
    subst IsLawful (sym acc.2)
    (begun-lawful s law t.slot (ap is_wait may.active) (law.slots_below t.slot (txn_there (s.txns t.slot) _ may.active)) (s.begins + 1)
    (min since (s.begins + 1)) (omega arith) (omega arith))

pub abort_keeps : (t : TxnId) → KeepsLaw (command.Abort t)
abort_keeps t s s' a told law h acc = subst IsLawful (sym acc.2) (released-lawful s law t.slot)

pub settle_keeps : (t : TxnId) → KeepsLaw (command.Settle t)
settle_keeps t s s' a told law h acc = settled-lawful s.victims s s' t.slot law acc.2
