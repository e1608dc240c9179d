-- Nodes are removed from a table with all locks on them: what is left of the table. For the calls that remove nodes.
use Rattle.gl_table.proofs.Words.{[], ◌∙◌, ◌≡◌, Active, addressed, age_in, age_of, Agrees, ap, AreExact, Bool, children_that, clash, Condemned, CountsHeld}
use Rattle.gl_table.proofs.Words.{departed, false, freed_among, Graph, graph_of, HasNoCycle, held_children, holds, if-false, if-true, if◌then◌else◌, Inside}
use Rattle.gl_table.proofs.Words.{is_among_waiters, is_live, IsLawful, IsOrderly, IsSound, lawful_orderly, Ledger, members, Mode, NL, nobody_told, NodeId, None}
use Rattle.gl_table.proofs.Words.{none_among, not, not_true, notice_of, Option, refl, same_mode, same_node-refl, Some, split, stands_there, State, state_at}
use Rattle.gl_table.proofs.Words.{state_in, state_of, Status, status_in, subst, sym, TellsGone, Told, told, told_from, told_is, told_to, true, Txn, TxnId, View}
use Rattle.gl_table.proofs.Words.{view_of, Waiting, waits_at, waits_there, ℕ}
use Rattle.gl_model.specs.declared.answers.Notice.TheVariants as notice
use Rattle.gl_model.proofs.law.Departures.{departed-no_cycle, departed_lawful, GoAway}
use Rattle.gl_table.proofs.calls.Stands.{MayStand, stands, with_locks}

-- of the removed nodes only one is waited for, and it is removed
pub record AreGone (s : State) (goes : NodeId → Bool) (g' : Graph) (n : NodeId) : Type 0 where
  pub away : GoAway s.graph goes g'
  pub itself : goes n ≡ true
  pub off : is_live g' n ≡ false
  pub only : (u : ℕ) (q : NodeId) → goes q ≡ true → is_among_waiters u (s.queue q) ≡ true → q ≡ n
  pub children : (f : NodeId → Bool) → ((c : NodeId) → goes c ≡ true → f c ≡ false) → (p : NodeId) → children_that g' f p ≡ children_that s.graph f p

-- its waiters are active
active_again : (goes : NodeId → Bool) (n : NodeId) (m : Mode) (x : Option Txn) → goes n ≡ true → status_in x ≡ Some (Waiting n m)
    → status_in (freed_among goes x) ≡ Some Active
active_again goes n m None e h = absurd (cc)
active_again goes n m (Some x) e h = let is : x.status ≡ Waiting n m = cc in ap (λ st. Some (none_among goes st)) is
    ∙ ap (λ b. Some (if b then Active else Waiting n m)) e

-- a transaction that waits for no removed node is as it was
freed_other : (goes : NodeId → Bool) (x : Option Txn) → ((q : NodeId) (m : Mode) → status_in x ≡ Some (Waiting q m) → goes q ≡ false) → freed_among goes x ≡ x
freed_other goes None none = refl
freed_other goes (Some x) none = ap (λ st. Some (record x { status = st })) (by x.status (λ q m e. none q m (ap Some e)))
  where
    by : (st : Status) → ((q : NodeId) (m : Mode) → st ≡ Waiting q m → goes q ≡ false) → none_among goes st ≡ st
    by Active none' = refl
    by (Waiting q m) none' = ap (λ b. if b then Active else Waiting q m) (none' q m refl)
    by Condemned none' = refl

module _ (s : State) (o : IsOrderly s) (goes : NodeId → Bool) (g' : Graph) (n : NodeId) (are : AreGone s goes g' n) where
  abbrev now : State
  now = departed s goes g'

  -- each waiter is told that the node is gone; all others are as they were, and are told nothing
  pub departed_tells : (u : ℕ)
      → (if is_among_waiters u (s.queue n) then Some (record { slot = u; age = age_in (s.txns u) }, notice.Gone) else None) ≡ told_to s now u
  departed_tells u = split (is_among_waiters u (s.queue n)) (λ e.
      let wait = waits_there s o u n e in
      if-true _ e ∙ ap (λ b. addressed name (if not b then Some notice.Gone
      else (if same_mode (now.held u n) wait.0 then Some (notice.Granted n wait.0) else Some notice.Moved))) (sym are.off)
      ∙ sym (ap (λ x. addressed name (told_from now u x)) wait.1
      ∙ ap (λ x. addressed name (notice_of now u n wait.0 x)) (active_again goes n wait.0 (s.txns u) are.itself wait.1))) (λ e.
      let same = freed_other goes (s.txns u) (λ q m st. not_true (goes q) (λ g.
      let here = stands_there s o u q (ap (λ x. waits_at x q) st ∙ same_node-refl q) in
      clash (ap (λ p. is_among_waiters u (s.queue p)) (sym (are.only u q g here)) ∙ here) e)) in
      if-false _ e ∙ sym (ap (λ x. addressed (record { slot = u; age = age_in x }) (told_from now u (status_in x))) (sym same) ∙ nobody_told now u))
    where
      name : TxnId
      name = record { slot = u; age = age_of s u }

module _ (i : Inside) (sound : IsSound i) (goes : NodeId → Bool) (n : NodeId) (ledger : Ledger) (v : View)
    (are : AreGone (state_of (view_of i)) goes (graph_of v) n)
    (is : state_in i.locks.graph ledger ≡ departed (state_at i.locks) goes (graph_of i.locks.graph)) where
  abbrev s : State
  s = state_of (view_of i)

  abbrev l : State
  l = state_at i.locks

  on_locks : state_in v ledger ≡ departed l goes (graph_of v)
  on_locks = ap {A = State} (λ x. record x { graph = graph_of v }) is

  pub state_departed : with_locks i (state_in v ledger) ≡ departed s goes (graph_of v)
  state_departed = ap {A = State} (with_locks i) on_locks

  pub stands_departed : AreExact i.locks.graph ledger → MayStand i v ledger
  stands_departed exact = stands i v ledger (record {
    lawful = subst IsLawful (sym state_departed) (departed_lawful s sound.lawful goes (graph_of v) are.away);
    no_cycle = λ at. subst HasNoCycle (sym state_departed) (departed-no_cycle s goes (graph_of v) (sound.no_cycle at));
  }) (record {
    sound = exact.sound;
    agree = λ u. subst (λ x. Agrees x ledger.lists.items u) (sym on_locks) (over (subst (λ (x : State). Agrees x ledger.lists.items u) is (exact.agree u)));
    count = λ u. subst (λ x. CountsHeld x ledger.lists.items u) (sym on_locks) (λ p. exact.count u p ∙ ap (λ (x : State). held_children x u p) is
        ∙ sym (are.children (held u) (unheld u) p));
  })
    where
      held : ℕ → NodeId → Bool
      held u c = holds (members (departed l goes (graph_of v)) c) u

      unheld : (u : ℕ) (c : NodeId) → goes c ≡ true → held u c ≡ false
      unheld u c e = ap (λ b. not (same_mode (if b then NL else l.held u c) NL)) e

      over : {u : ℕ} → Agrees (departed l goes (graph_of i.locks.graph)) ledger.lists.items u → Agrees (departed l goes (graph_of v)) ledger.lists.items u
      over a = record { modes = a.modes; listed = a.listed; room = a.room }

  pub told_departed : (list : Told) → TellsGone l n [] list
      → list ≡ told s (with_locks i (state_in v ledger))
  told_departed list tells =
      told_is s (with_locks i (state_in v ledger)) list sound.lawful i.locks.sound.few tells.by_slot
      (λ u. tells.notices u ∙ departed_tells s (lawful_orderly s sound.lawful) goes (graph_of v) n are u
      ∙ sym (ap (λ x. told_to s x u) state_departed))
