-- What an answer and its list say of the call that was made.
use denote.Bor.{Bor}
use Rattle.std.specs.Prelude.{◌≡◌, ℕ, ◌+◌, ◌&&◌, ◌||◌, true, List, [], Option, Some, None, is_none, Result, Ok, Err, IfOk, OnErr, OnOk}
use Rattle.std.proofs.Common.{ap, ap₂, arith, inl, refl, subst, sym, ◌∙◌}
use Rattle.gl_modes.specs.declared.refusal.Refusal.{Refusal}
use Rattle.gl_graph.specs.Refusals.{Refuses}
use Rattle.gl_modes.specs.declared.node.NodeId.{NodeId}
use Rattle.gl_model.specs.declared.answers.Locked.{Locked}
use Rattle.gl_model.specs.declared.txn.TxnId.{TxnId}
use Rattle.gl_model.specs.declared.answers.Locked.TheVariants as locked
use Rattle.gl_model.specs.Calls.{answered}
use Rattle.gl_model.specs.Lawful.{IsLawful}
use Rattle.gl_model.specs.State.{State}
use Rattle.gl_model.specs.Tellings.{Told}
use Rattle.gl_steps.specs.declared.command.Answer.{Answer}
use Rattle.gl_steps.specs.declared.command.Command.{Command}
use Rattle.gl_steps.specs.declared.command.Command.TheVariants as command
use Rattle.gl_catalog.specs.declared.counters.Counters.{Counters}
use Rattle.gl_catalog.specs.Completes.{Completes, IsCarriedOut}
use Rattle.gl_catalog.specs.Counters.{counted}
use Rattle.gl_catalog.specs.Deadlocks.{KeepsAccepted, KeepsDeadlock}
use Rattle.gl_catalog.specs.Manager.{ManagerView, state_of}
use Rattle.gl_steps.specs.Promises.{KeepsCaller, StepLeavesOthers}
use Rattle.gl_catalog.specs.Replies.{CallSteps, Notices, Says, made, said}
use Rattle.gl_steps.specs.Step.{Answers, Goes, Step, answer_of_lock, query_answer}
use Rattle.gl_steps.specs.Tests.{is_cycle, lists_memory, refusal_of}
use Rattle.gl_table.specs.Table.{KeepsOrders}
use Rattle.gl_catalog.proofs.Carried.{memory_step, refused_step}
use Rattle.gl_steps.proofs.MoverEffects.{move_keeps_mover, rekey_keeps_mover}
use Rattle.gl_steps.proofs.EscalateEffects.{escalate_lowers_none}
use Rattle.gl_catalog.proofs.Uncounted.{refusal_counted}

-- a call that is a step and tells nobody leaves the list empty
pub quiet : {A : Type 0} (answers : A → Answer) (s s' : State) (c c' : Command) (result : Result A Refusal) (a : Answer) (list : Notices)
    → CallSteps s c (λ x. (answers x, [])) result s' → a ≡ (said (λ x. (answers x, [])) result).0
    → list.items ≡ [] → c' ≡ c → Step s c' a list.items s'
quiet answers s s' c c' (Ok x) a list step same empty is = coe 0 1 (i. Step s (sym is i) (sym same i) (sym empty i) s') step
quiet answers s s' c c' (Err r) a list step same empty is = coe 0 1 (i. Step s (sym is i) (sym same i) (sym empty i) s') step

-- a call that is a step and tells others fills the list, which stays empty if the call is refused
pub fills : {A : Type 0} (answers : A → Answer) (s s' : State) (c c' : Command) (result : Result A Refusal) (a : Answer) (list before : Notices)
    → CallSteps s c (λ x. (answers x, list.items)) result s' → a ≡ (said (λ x. (answers x, [])) result).0
    → OnErr result (list ≡ before) → before.items ≡ [] → c' ≡ c → Step s c' a list.items s'
fills answers s s' c c' (Ok x) a list before step same kept empty is = coe 0 1 (i. Step s (sym is i) (sym same i) list.items s') step
fills answers s s' c c' (Err r) a list before step same kept empty is = coe 0 1 (i. Step s (sym is i) (sym same i) (sym (ap (λ
    (l : Notices). l.items) kept ∙ empty) i) s') step

-- nothing changed, so neither did an order
pub orders_here : (v : ManagerView) → KeepsOrders v.table v.table
orders_here v = record { each = λ t. record { first = λ k n h there. h } }

-- what a call completes, with its answer
module _ {A : Type 0} (answers : A → Answer) (v v' : ManagerView) (c c' : Command) (list : Told) (result : Result A Refusal) (completes : IfOk result
    (λ x. Completes c v (answers x, list) v')) (err : OnErr result (v' ≡ v)) where
  -- if the count stays, the call was refused
  pub uncounted : v'.accepted ≡ v.accepted → v' ≡ v
  uncounted = by result completes err
    where
      by : (r : Result A Refusal) → IfOk r (λ x. Completes c v (answers x, list) v') → OnErr r (v' ≡ v) → v'.accepted ≡ v.accepted → v' ≡ v
      by (Ok x) done was e = let counted' = done.accepted in absurd (grind arith)
      by (Err r) done was e = was

  -- what it keeps of deadlocks
  pub keeps_answered : (a : Answer) → ((x : A) → KeepsAccepted c v v' → KeepsDeadlock c v (answers x) v') → a ≡ (said (λ x. (answers x, [])) result).0
      → c' ≡ c → KeepsDeadlock c' v a v'
  keeps_answered a goes same is = by result completes err same
    where
      by : (r : Result A Refusal) → IfOk r (λ x. Completes c v (answers x, list) v') → OnErr r (v' ≡ v) → a ≡ (said (λ x. (answers x, [])) r).0
          → KeepsDeadlock c' v a v'
      by (Ok x) done was e = coe 0 1 (i. KeepsDeadlock (sym is i) v (sym e i) v') (goes x done.deadlock)
      by (Err r) done was e = coe 0 1 (i. KeepsDeadlock (sym is i) v (sym e i) v') (ap (λ w. w.table.deadlock) was)

  -- and what it counts
  pub counts_answered : (a : Answer) → OnErr result (list ≡ []) → a ≡ (said (λ x. (answers x, [])) result).0 → c' ≡ c
      → v'.counters ≡ counted (state_of v) c' a list (state_of v') v.counters
  counts_answered a quiet same is = by result completes err quiet same
    where
      by : (r : Result A Refusal) → IfOk r (λ x. Completes c v (answers x, list) v') → OnErr r (v' ≡ v) → OnErr r (list ≡ [])
          → a ≡ (said (λ x. (answers x, [])) r).0
          → v'.counters ≡ counted (state_of v) c' a list (state_of v') v.counters
      by (Ok x) done was empty e = coe 0 1 (i. v'.counters ≡ counted (state_of v) (sym is i) (sym e i) list (state_of v') v.counters) done.counters
      by (Err r) done was empty e =
          coe 0 1 (i. v'.counters ≡ counted (state_of v) c' (sym e i) (sym empty i) (state_of v') v.counters)
          (ap (λ w. w.counters) was ∙ sym (refusal_counted (state_of v) (state_of v') c' r v.counters))

  -- by a list that it filled, and that stays empty if it is refused
  pub list_counts : (a : Answer) (before after : Notices) → OnErr result (after ≡ before) → before.items ≡ [] → after.items ≡ list
      → a ≡ (said (λ x. (answers x, [])) result).0 → c' ≡ c
      → v'.counters ≡ counted (state_of v) c' a list (state_of v') v.counters
  list_counts a before after kept empty its same is = counts_answered a (by result kept) same is
    where
      by : (r : Result A Refusal) → OnErr r (after ≡ before) → OnErr r (list ≡ [])
      by (Ok x) h = tt
      by (Err r) h = sym its ∙ ap (λ (l : Notices). l.items) h ∙ empty

  -- and what it leaves of the order of locks
  pub orders_answered : KeepsOrders v.table v'.table
  orders_answered = by result completes err
    where
      by : (r : Result A Refusal) → IfOk r (λ x. Completes c v (answers x, list) v') → OnErr r (v' ≡ v) → KeepsOrders v.table v'.table
      by (Ok x) done was = done.orders
      by (Err r) done was = subst (λ (w : ManagerView). KeepsOrders v.table w.table) (sym was) (orders_here v)

-- a call that tells nobody leaves the list empty
module _ {A : Type 0} (answers : A → Answer) (v v' : ManagerView) (c c' : Command) (list : Told) (result : Result A Refusal) (completes : IfOk result
    (λ x. Completes c v (answers x, []) v')) (err : OnErr result (v' ≡ v)) where
  abbrev nobody : Told
  nobody = []

  pub quiet_counts : (a : Answer) (told : Notices) → told.items ≡ [] → a ≡ (said (λ x. (answers x, [])) result).0 → c' ≡ c
      → v'.counters ≡ counted (state_of v) c' a told.items (state_of v') v.counters
  quiet_counts a told empty same is =
      subst (λ (l : Told). v'.counters ≡ counted (state_of v) c' a l (state_of v') v.counters) (sym empty)
      (counts_answered answers v v' c c' [] result completes err a (by result) same is)
    where
      by : (r : Result A Refusal) → OnErr r (nobody ≡ nobody)
      by (Ok x) = tt
      by (Err r) = refl

-- a query counts nothing
pub asked_counts : {A : Type 0} (answers : A → Answer) (s s' : State) (c c' : Command) (result : Result A Refusal) (a : Answer) (told : Notices) (k : Counters)
    → ((x : A) → counted s c (answers x) [] s' k ≡ k) → told.items ≡ [] → a ≡ (said (λ x. (answers x, [])) result).0 → c' ≡ c
    → k ≡ counted s c' a told.items s' k
asked_counts answers s s' c c' (Ok x) a told k none empty same is = coe 0 1 (i. k ≡ counted s (sym is i) (sym same i) (sym empty i) s' k) (sym (none x))
asked_counts answers s s' c c' (Err r) a told k none empty same is = coe 0 1 (i. k ≡ counted s (sym is i) (sym same i) (sym empty i) s' k) (sym
    (refusal_counted s s' c r k))

-- an insert completes its command
pub insert_completes : (v v' : ManagerView) (t : TxnId) (f : NodeId) (keys : Bor (List ℕ)) (result : Result NodeId Refusal)
    → OnOk result (KeepsAccepted (command.Insert t f keys) v v')
    → StepLeavesOthers (state_of v) (command.Insert t f keys) (said made result) (state_of v') → OnOk result (v'.accepted ≡ v.accepted + 1)
    → v'.counters ≡ counted (state_of v) (command.Insert t f keys) (said made result).0 (said made result).1 (state_of v') v.counters
    → OnOk result (KeepsOrders v.table v'.table) → IfOk result (λ n. Completes (command.Insert t f keys) v (made n) v')
insert_completes v v' t f keys (Ok n) deadlock others accepted counters orders = record {
  accepted = accepted;
  counters = counters;
  deadlock = deadlock;
  caller =
      tt;
  others = others;
  settles = tt;
  orders = orders;
}
insert_completes v v' t f keys (Err r) deadlock others accepted counters orders = tt

-- a query keeps what was kept
pub keeps_asked : {A : Type 0} (answers : A → Answer) (v : ManagerView) (c c' : Command) (result : Result A Refusal) (a : Answer) → ((x : A)
    → KeepsDeadlock c v (answers x) v) → a ≡ (said (λ x. (answers x, [])) result).0 → c' ≡ c → KeepsDeadlock c' v a v
keeps_asked answers v c c' (Ok x) a goes same is = coe 0 1 (i. KeepsDeadlock (sym is i) v (sym same i) v) (goes x)
keeps_asked answers v c c' (Err r) a goes same is = coe 0 1 (i. KeepsDeadlock (sym is i) v (sym same i) v) refl

-- the outcome of a lock is no refusal
pub keeps_locked : (c : Command) (v v' : ManagerView) (x : Locked) → KeepsAccepted c v v' → KeepsDeadlock c v (answer_of_lock x) v'
keeps_locked c v v' (locked.Granted m) h = h
keeps_locked c v v' locked.Waiting h = h
keeps_locked c v v' locked.Victim h = h

-- what a step leaves its caller
pub keeps_caller : (c : Command) (s s' : State) (a : Answer) (told : Told) → IsLawful s → Step s c a told s' → KeepsCaller c s s'
keeps_caller (command.Rekey t r i key) s s' a told law step = rekey_keeps_mover t r i key s s' a told law step
keeps_caller (command.Move t n ps) s s' a told law step = move_keeps_mover t n ps s s' a told law step
keeps_caller (command.Escalate t n) s s' a told law step = escalate_lowers_none t n s s' a told law step
keeps_caller c s s' a told law step = tt

module _ {A : Type 0} (says : A → Says) (c : Command) (s : State) where
  -- a query is answered with its value
  pub answered_step : (x : A) (result : Result A Refusal) → result ≡ answered (refusal_of s c) x → query_answer s c ≡ Some (says x).0 → (says x).1 ≡ []
      → CallSteps s c says result s
  answered_step x result is value quiet = subst (λ (r : Result A Refusal). CallSteps s c says r s) (sym is) (by (refusal_of s c) refl)
    where
      by : (o : Option Refusal) → refusal_of s c ≡ o → CallSteps s c says (answered o x) s
      by (Some r) e = refused_step says c s r e
      by None e =
          inl (subst (λ o. Goes s c o (says x).0 (says x).1 s) (sym e) (subst (λ q. Answers s c q (says x).0 (says x).1 s) (sym value)
          (record { answer_is = refl; nobody_told = quiet; same = refl })))

  -- or is refused, maybe for lack of memory
  pub asked_step : (v : A) (result : Result A Refusal) → Refuses (refusal_of s c) result → IfOk result (λ x. x ≡ v) → query_answer s c ≡ Some (says v).0
      → (says v).1 ≡ [] → lists_memory s c ≡ true → CallSteps s c says result s
  asked_step v result refuses ok value quiet lists = by (refusal_of s c) refl result refuses ok
    where
      by : (o : Option Refusal) → refusal_of s c ≡ o → (r : Result A Refusal) → Refuses o r → IfOk r (λ x. x ≡ v) → CallSteps s c says r s
      by (Some y) e r is ok' = subst (λ (z : Result A Refusal). CallSteps s c says z s) (sym is) (refused_step says c s y e)
      by None e (Ok x) is ok' =
          subst (λ (z : A). CallSteps s c says (Ok z) s) (sym ok')
          (inl (subst (λ o. Goes s c o (says v).0 (says v).1 s) (sym e) (subst (λ q. Answers s c q (says v).0 (says v).1 s) (sym value)
          (record { answer_is = refl; nobody_told = quiet; same = refl }))))
      by None e (Err r) is ok' = memory_step says c s r (ap₂ (λ l o. l && (is_none o || is_cycle o)) lists e) is

-- a call that is a step, and records and counts as its command must, carries it out
module _ {A : Type 0} (answers : A → Answer) (v v' : ManagerView) (c c' : Command) (result : Result A Refusal) (a : Answer)
    (same : a ≡ (said (λ x. (answers x, [])) result).0) (is : c' ≡ c) (err : OnErr result (v' ≡ v))
    (keeps : (x : A) → KeepsAccepted c v v' → KeepsDeadlock c v (answers x) v') where
  -- if it tells nobody
  pub carries_quietly : (told : Notices) → told.items ≡ [] → CallSteps (state_of v) c (λ x. (answers x, [])) result (state_of v')
      → IfOk result (λ x. Completes c v (answers x, []) v') → IsCarriedOut v c' a told.items v'
  carries_quietly told empty step completes = record {
    step = quiet answers (state_of v) (state_of v') c c' result a told step same empty is;
    deadlock = keeps_answered answers v v' c c' [] result completes err a keeps same is;
    counters = quiet_counts answers v v' c c' [] result completes err a told empty same is;
    same = uncounted answers v v' c c' [] result completes err;
    orders = orders_answered answers v v' c c' [] result completes err;
  }

  -- if it fills a list
  pub carries_telling : (told before : Notices) → OnErr result (told ≡ before) → before.items ≡ []
      → CallSteps (state_of v) c (λ x. (answers x, told.items)) result (state_of v') → IfOk result (λ x. Completes c v (answers x, told.items) v')
      → IsCarriedOut v c' a told.items v'
  carries_telling told before kept empty step completes = record {
    step = fills answers (state_of v) (state_of v') c c' result a told before step same kept empty is;
    deadlock = keeps_answered answers v v' c c' told.items result completes err a keeps same is;
    counters = list_counts answers v v' c c' told.items result completes err a before told kept empty refl same is;
    same = uncounted answers v v' c c' told.items result completes err;
    orders = orders_answered answers v v' c c' told.items result completes err;
  }

-- a query that is answered is carried out
pub carries_query : {A : Type 0} (answers : A → Answer) (v : ManagerView) (c c' : Command) (result : Result A Refusal) (a : Answer) (told : Notices)
    → ((x : A) → KeepsDeadlock c v (answers x) v) → ((x : A) → counted (state_of v) c (answers x) [] (state_of v) v.counters ≡ v.counters)
    → CallSteps (state_of v) c (λ x. (answers x, [])) result (state_of v) → a ≡ (said (λ x. (answers x, [])) result).0 → told.items ≡ [] → c' ≡ c
    → IsCarriedOut v c' a told.items v
carries_query answers v c c' result a told keeps none step same empty is = record {
  step = quiet answers (state_of v) (state_of v) c c' result a told step same empty is;
  deadlock = keeps_asked answers v c c' result a keeps same is;
  counters = asked_counts answers (state_of v) (state_of v) c c' result a told v.counters none empty same is;
  same = λ e. refl;
  orders = orders_here v;
}
