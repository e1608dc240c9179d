-- What a call that was not refused completes, and what it adds to the counters. For the calls of the manager.
use Rattle.std.specs.Prelude.{◌≡◌, ℕ, ◌+◌, Bool, true, [], Option, Some, None, max, Ok, if◌then◌else◌, length}
use Rattle.std.specs.List.{count_by}
use Rattle.std.proofs.Common.{refl, ap, arith, subst, sym, ◌∙◌}
use Rattle.gl_modes.specs.declared.mode.Mode.{Mode}
use Rattle.gl_modes.specs.declared.node.NodeId.{NodeId}
use Rattle.gl_modes.specs.declared.refusal.Refusal.{Refusal}
use Rattle.gl_graph.specs.Refusals.{Refuses, first_refusal}
use Rattle.gl_graph.proofs.Unrefused.{not_refused}
use Rattle.gl_model.specs.declared.answers.Locked.{Locked}
use Rattle.gl_model.specs.declared.answers.Locked.TheVariants as locked
use Rattle.gl_model.specs.declared.txn.TxnId.{TxnId}
use Rattle.gl_model.specs.Calls.{lock_tests, no_txn}
use Rattle.gl_model.specs.State.{State, lives}
use Rattle.gl_model.specs.Tellings.{Told}
use Rattle.gl_steps.specs.declared.command.Answer.{Answer}
use Rattle.gl_steps.specs.declared.command.Answer.TheVariants as answer
use Rattle.gl_steps.specs.declared.command.Command.{Command}
use Rattle.gl_steps.specs.declared.command.Command.TheVariants as command
use Rattle.gl_steps.specs.declared.command.Escalated.{Escalated}
use Rattle.gl_catalog.specs.declared.counters.Counters.{Counters}
use Rattle.gl_catalog.specs.Completes.{Completes}
use Rattle.gl_catalog.specs.Counters.{condemns, counted, grants, holds_already, is_gone, is_grant, is_moved, is_victim, lock_counted, one_if, passes_at, rises}
use Rattle.gl_catalog.specs.Counters.{waiting_in, waits, with_notices}
use Rattle.gl_catalog.specs.Deadlocks.{KeepsAccepted}
use Rattle.gl_catalog.specs.Manager.{IsLawfulManager, ManagerView, state_of}
use Rattle.gl_catalog.specs.Replies.{Says}
use Rattle.gl_steps.specs.Step.{Step, answer_of_lock}
use Rattle.gl_table.specs.Table.{KeepsOrders}
use Rattle.gl_catalog.proofs.Applied.{keeps_caller}
use Rattle.gl_catalog.proofs.Counts.{max_none, rises_none, rises_twice}
use Rattle.gl_steps.proofs.IdleSettle.{settles_idle}
use Rattle.gl_steps.proofs.NotRefused.{txn_lives}
use Rattle.gl_catalog.proofs.RunsOn.{step_leaves_others}

-- a step that was counted, and recorded deadlocks as it must, completes its command
pub completed : (v v' : ManagerView) → IsLawfulManager v → (c : Command) (r : Says) → Step (state_of v) c r.0 r.1 (state_of v') → KeepsAccepted c v v'
    → v'.accepted ≡ v.accepted + 1
    → v'.counters ≡ counted (state_of v) c r.0 r.1 (state_of v') v.counters → KeepsOrders v.table v'.table → Completes c v r v'
completed v v' law c r step deadlock accepted counters orders = record {
  accepted = accepted;
  counters = counters;
  deadlock = deadlock;
  caller = keeps_caller c (state_of v) (state_of v') r.0 r.1 law.lawful step;
  others = step_leaves_others (state_of v) (state_of v') c r law.lawful step;
  settles = settles_idle c (state_of v) (state_of v') r.0 r.1 law.lawful step;
  orders = orders;
}

-- the manager before a call: as its fields are, and as a contract sees them
module _ (inside v v' : ManagerView) (view_is : inside ≡ v) (law : IsLawfulManager inside) (c : Command) (accepted : v'.accepted ≡ inside.accepted + 1)
    (orders : KeepsOrders inside.table v'.table) where
  orders_after : KeepsOrders v.table v'.table
  orders_after = subst (λ (m : ManagerView). KeepsOrders m.table v'.table) view_is orders

  -- a call that counts nothing
  pub quiet_completed : (r : Says) → Step (state_of v) c r.0 r.1 (state_of v') → KeepsAccepted c v v' → v'.counters ≡ inside.counters → ((k : Counters)
      → counted (state_of v) c r.0 r.1 (state_of v') k ≡ k)
      → Completes c v r v'
  quiet_completed r step deadlock kept counts =
      completed v v' (subst IsLawfulManager view_is law) c r step deadlock (accepted ∙ ap (λ (m : ManagerView). m.accepted + 1) view_is)
      (kept ∙ ap (λ (m : ManagerView). m.counters) view_is ∙ sym (counts v.counters)) orders_after

  -- a call that counts its notices
  pub told_completed : (a : Answer) (told list : Told) → Step (state_of v) c a told (state_of v') → KeepsAccepted c v v' → list ≡ told
      → v'.counters ≡ with_notices list inside.counters
      → ((k : Counters) → counted (state_of v) c a told (state_of v') k ≡ with_notices told k) → Completes c v (a, told) v'
  told_completed a told list step deadlock same noted counts =
      completed v v' (subst IsLawfulManager view_is law) c (a, told) step deadlock (accepted ∙ ap (λ (m : ManagerView). m.accepted + 1) view_is)
      (noted ∙ (λ i. with_notices (same i) (view_is i).counters) ∙ sym (counts v.counters)) orders_after

-- notices alone are counted
pub notices_counted : (told : Told) (k : Counters)
    → record {
      granted = rises k.granted 0;
      waited = rises k.waited 0;
      conversions = rises k.conversions 0;
      passed = rises k.passed 0;
      granted_later = rises k.granted_later (count_by is_grant told);
      victims = rises k.victims (count_by is_victim told + 0);
      moved = rises k.moved (count_by is_moved told);
      gone = rises k.gone (count_by is_gone told);
      escalations = rises k.escalations 0;
      released_children = rises k.released_children 0;
      most_waiting = max k.most_waiting 0;
      longest_queue = max k.longest_queue 0;
    } ≡ with_notices told k
notices_counted told k = λ i. record {
  granted = rises_none k.granted i;
  waited = rises_none k.waited i;
  conversions = rises_none k.conversions i;
  passed = rises_none k.passed i;
  granted_later = rises k.granted_later (count_by is_grant told);
  victims = ap (rises k.victims) (plus_none (count_by is_victim told)) i;
  moved = rises k.moved (count_by is_moved told);
  gone = rises k.gone (count_by is_gone told);
  escalations = rises_none k.escalations i;
  released_children = rises_none k.released_children i;
  most_waiting = max_none k.most_waiting i;
  longest_queue = max_none k.longest_queue i;
}
  where
    plus_none : (n : ℕ) → n + 0 ≡ n
    plus_none n = omega arith

-- an escalation, and then its notices
pub escalation_counted : (s s' : State) (t : TxnId) (n : NodeId) (x : Escalated) (told : Told) (passed : Bool) (k : Counters) → passed ≡ passes_at s t n s'
    → counted s (command.Escalate t n) (answer.Escalated x) told s' k ≡ with_notices told
    (record k { passed = rises k.passed (one_if passed); escalations = rises k.escalations 1; released_children = rises k.released_children x.released })
escalation_counted s s' t n x told passed k is = λ i. record {
  granted = rises_none k.granted i;
  waited = rises_none k.waited i;
  conversions = rises_none k.conversions i;
  passed = rises k.passed (one_if (sym is i));
  granted_later = rises k.granted_later (count_by is_grant told);
  victims = ap (rises k.victims) (plus_none (count_by is_victim told)) i;
  moved = rises k.moved (count_by is_moved told);
  gone = rises k.gone (count_by is_gone told);
  escalations = rises k.escalations 1;
  released_children = rises k.released_children x.released;
  most_waiting = max_none k.most_waiting i;
  longest_queue = max_none k.longest_queue i;
}
  where
    plus_none : (m : ℕ) → m + 0 ≡ m
    plus_none m = omega arith

-- a try that was granted
pub try_counted : (s s' : State) (t : TxnId) (n : NodeId) (m asked : Mode) (converts passed : Bool) (k : Counters) → converts ≡ holds_already s t n
    → passed ≡ passes_at s t n s'
    → counted s (command.Try t n asked) (answer.Granted m) [] s' k ≡ record k {
      granted = rises k.granted 1;
      conversions = rises k.conversions
          (one_if converts);
      passed = rises k.passed (one_if passed);
    }
try_counted s s' t n m asked converts passed k is passes_is = λ i. record {
  granted = rises k.granted 1;
  waited = rises_none k.waited i;
  conversions = rises k.conversions (one_if (sym is i));
  passed = rises k.passed (one_if (sym passes_is i));
  granted_later = rises_none k.granted_later i;
  victims = rises_none k.victims i;
  moved = rises_none k.moved i;
  gone = rises_none k.gone i;
  escalations = rises_none k.escalations i;
  released_children = rises_none k.released_children i;
  most_waiting = max_none k.most_waiting i;
  longest_queue = max_none k.longest_queue i;
}

module _ (s s' : State) (t : TxnId) (n : NodeId) (m : Mode) (told : Told) (converts passed : Bool) (k : Counters)
    (is : converts ≡ holds_already s t n) (passes_is : passed ≡ passes_at s t n s') where
  -- a lock is not refused, by any outcome
  pub lock_counts : (x : Locked) → lock_counted s' n converts passed (answer_of_lock x) told k ≡ counted s (command.Lock t n m) (answer_of_lock x) told s' k
  lock_counts (locked.Granted held) = λ i. record (lock_counted s' n (is i) (passes_is i) (answer.Granted held) told k) {
    escalations = sym
        (rises_none k.escalations) i;
    released_children = sym (rises_none k.released_children) i;
  }
  lock_counts locked.Waiting = λ i. record (lock_counted s' n (is i) (passes_is i) answer.Waiting told k) {
    escalations = sym
        (rises_none k.escalations) i;
    released_children = sym (rises_none k.released_children) i;
  }
  lock_counts locked.Victim = λ i. record (lock_counted s' n (is i) (passes_is i) answer.Victim told k) {
    escalations = sym
        (rises_none k.escalations) i;
    released_children = sym (rises_none k.released_children) i;
  }

-- a transaction that was not refused a lock lives
pub lock_lives : (s : State) (t : TxnId) (n : NodeId) (m : Mode) (x : Mode × Locked) → Refuses (first_refusal (lock_tests s t n m)) (Ok x) → lives s t ≡ true
lock_lives s t n m x refuses = txn_lives s t (not_refused (no_txn s t) _ (goes _ refuses)).0
  where
    goes : (o : Option Refusal) → Refuses o (Ok x) → o ≡ None
    goes None h = refl
    goes (Some r) h = absurd (cc)

-- the counters with a lock's outcome
abbrev pub with_lock : Bool → Bool → Counters → Answer → Counters
with_lock converts passed k a =
    record k {
      granted = rises k.granted (one_if (grants a));
      waited = rises k.waited (one_if (waits a));
      conversions = rises k.conversions (one_if converts);
      passed = rises k.passed (one_if passed);
      victims = rises k.victims (one_if (condemns a));
    }

-- a lock's outcome, and then its notices
module _ (s : State) (n : NodeId) (converts passed : Bool) (told : Told) (k : Counters) where
  noted : (a : Answer) → rises (rises k.victims (one_if (condemns a))) (count_by is_victim told) ≡ rises k.victims (count_by is_victim told + one_if
      (condemns a))
  noted a = rises_twice k.victims (one_if (condemns a)) (count_by is_victim told) ∙ ap (rises k.victims) (omega arith)

  pub lock_noted : (a : Answer) (waiting queued : ℕ) → waiting ≡ (if waits a then waiting_in s else 0) → queued ≡ (if waits a then length (s.queue n) else 0)
      → with_notices told (record (with_lock converts passed k a) { most_waiting = max k.most_waiting waiting; longest_queue = max k.longest_queue queued })
      ≡ lock_counted s n converts passed a told k
  lock_noted a waiting queued w q = λ i. record (lock_counted s n converts passed a told k) {
    victims = noted a i;
    most_waiting = max k.most_waiting (w i);
    longest_queue = max k.longest_queue (q i);
  }
