-- What a rollback to a savepoint, and a commit that keeps locks, do to notice boxes and waits, and that they are runs. For Delivery.release_since and
-- Delivery.commit_keeping.
use Rattle.gl_slots.specs.declared.slots.Slots.{Slots}
use Rattle.gl_slots.specs.Limit.{most_slots}
use Rattle.std.specs.Prelude.{◌≡◌, ◌≢◌, ◌++◌, ℕ, ◌+◌, ◌<◌, ◌≤◌, ◌==◌, ◌||◌, false, List, [], ◌∷◌, Ok, map, min, None, Option, Some}
use Rattle.std.specs.Prelude.{if◌then◌else◌}
use Rattle.std.specs.List.{list_any}
use Rattle.std.proofs.Common.{refl, sym, ap, subst, ◌∙◌, arith, inl}
use Rattle.gl_modes.proofs.Words.{and_both, clash, split}
use Rattle.gl_modes.specs.declared.mode.Mode.TheVariants.{NL}
use Rattle.gl_modes.specs.declared.node.NodeId.{NodeId}
use Rattle.gl_modes.specs.Nodes.{same_node}
use Rattle.gl_header.specs.Header.{holds}
use Rattle.gl_slots.specs.Slots.{has_slot}
use Rattle.gl_model.specs.declared.txn.TxnId.{TxnId}
use Rattle.gl_model.specs.Calls.{Unlocks, released, unlocked}
use Rattle.gl_model.specs.State.{State, is_wait, is_waiting_at, lives, members, status_of, with_grant}
use Rattle.gl_model.specs.Tellings.{Told, stripped}
use Rattle.gl_model.proofs.law.Keeps.{waiting_is}
use Rattle.gl_table.specs.Keeping.{RenewsOrEnds}
use Rattle.gl_table.specs.Table.{state_of as table_state}
use Rattle.gl_catalog.specs.Keeping.{CompletesKeeping, last_command}
use Rattle.gl_catalog.specs.Manager.{ManagerView, state_of}
use Rattle.gl_catalog.specs.Replies.{Says}
use Rattle.gl_catalog.specs.Savepoints.{TakesBack, count_since}
use Rattle.gl_catalog.proofs.GoingBack.{may_go_back}
use Rattle.gl_steps.specs.declared.command.Answer.{Answer}
use Rattle.gl_steps.specs.declared.command.Command.{Command}
use Rattle.gl_steps.specs.declared.command.Command.TheVariants as command
use Rattle.gl_steps.specs.Promises.{is_told, names, same_txn, waits_on}
use Rattle.gl_steps.specs.Served.{accepts}
use Rattle.gl_steps.specs.Step.{Run, Step}
use Rattle.gl_steps.proofs.LivesOn.{GoesOn, lives_on_same, lives_on_trans, pumped_goes_on}
use Rattle.gl_steps.proofs.OtherChanges.{begun_other, other}
use Rattle.gl_steps.proofs.Serving.{step_counts}
use Rattle.gl_steps.proofs.WaitsEnd.{told_over}
use Rattle.gl_rows.specs.Applying.{Upkeep}
use Rattle.gl_rows.specs.Releasing.{CommitsAndKeeps, GoesBackTo}
use Rattle.gl_rows.specs.Rows.{RegistryView}
use Rattle.gl_rows.proofs.Tidied.{at_end_upkeep, meanwhile_upkeep}
use Rattle.gl_rows.proofs.Upkeep.{LeavesAll, upkeep_leaves}
use Rattle.gl_wakes.specs.Boxes.{Slot, Puts}
use Rattle.gl_wakes.specs.Notices.{RisingTo}
use Rattle.gl_wakes.specs.Wakes.{HasEnded}
use Rattle.gl_wakes.proofs.Rising.{told_rises}
use Rattle.gl_wakes.proofs.Waking.{told_wakes}
use Rattle.gl_waiting.specs.Delivering.{Carries, Delivered, unlocking}
use Rattle.gl_waiting.specs.Going.{IsRunOf}
use Rattle.gl_waiting.proofs.Delivered.{with_boxes}
use Rattle.gl_rows.proofs.Upkeep.{low}
use Rattle.gl_waiting.proofs.Runs.{AreOf, own_of, own_then, own_upkeep}

-- Nodes are unlocked one after the other: every transaction lives on, and none begins to wait.

pub goes_on : (ns : List NodeId) (s s' : State) (t u : ℕ) → Unlocks s t ns s' → GoesOn s s' u
goes_on [] s s' t u h = lives_on_same (s.txns u) (s'.txns u) (ap (λ (x : State). x.txns u) h)
goes_on (n ∷ ns) s s' t u h =
    lives_on_trans (s.txns u) ((unlocked s t n).txns u) (s'.txns u) (pumped_goes_on (with_grant s t n NL) (same_node n) u)
    (goes_on ns (unlocked s t n) s' t u h.2)

-- a step does not lower the count of commands
step_more : (s : State) (c : Command) (a : Answer) (list : Told) (s' : State) → Step s c a list s' → s.accepted ≤ s'.accepted
step_more s c a list s' step =
    split (accepts c a)
    (λ e. let one : s'.accepted ≡ s.accepted + 1 = (step_counts s c a list s' step).accepted e in omega (arith, one))
    (λ e. let same : s'.accepted ≡ s.accepted = ap (λ (x : State). x.accepted) ((step_counts s c a list s' step).not_accepted e).0 in omega (arith, same))

-- nor does a run
run_counts : (cs : List Command) (rs : List Says) (s s' : State) → Run s cs rs s' → s.accepted ≤ s'.accepted
run_counts [] [] s s' run = let same = ap (λ (x : State). x.accepted) run in omega (arith, same)
run_counts [] (r ∷ rs) s s' run = absurd run
run_counts (c ∷ cs) [] s s' run = absurd run
run_counts (c ∷ cs) (r ∷ rs) s s' run =
    let one = step_more s c r.0 r.1 run.0 run.1 in
    let rest = run_counts cs rs run.0 s' run.2 in
    omega (arith, one, rest)

module _ (m mid : ManagerView) (t : TxnId) (mark k : ℕ) (list : Told) (h : TakesBack t mark k m list mid) where
  abbrev s : State
  s = table_state m.table

  abbrev now : State
  now = table_state mid.table

  -- a transaction whose wait has ended is told
  ended : (slots : Slots) → ((u : ℕ) → u < most_slots → has_slot slots u ≡ (false || list_any (λ x. x.0.slot == u) list))
      → HasEnded (state_of m) (state_of mid) slots
  ended slots is law u n below was gone =
      let b = and_both (lives (state_of m) u) _ was in
      let w = waiting_is (status_of (state_of m) u.slot) n b.1 in
      told_wakes list slots u is below
      (ap (is_told u) h.tells
      ∙ told_over (state_of m) law u b.0 n w.0 w.1 (state_of mid) (goes_on h.nodes s now t.slot u.slot h.back.unlocks) gone)

-- all of them name the transaction alone
unlocks_of : (t : TxnId) (nodes : List NodeId) → AreOf (unlocking t) (map (λ n. command.Unlock t n) nodes)
unlocks_of t [] u apart = refl
unlocks_of t (n ∷ nodes) u apart = ap (λ b. b || list_any (names u) (map (λ n. command.Unlock t n) nodes)) apart ∙ unlocks_of t nodes u apart

-- The same, with the rows that are let go after it.
module _ (g v : RegistryView) (t : TxnId) (mark k : ℕ) (list : Told) (h : GoesBackTo t mark g.manager g.rows (Ok k) list v.manager v.rows) where
  lets_go : Upkeep (state_of h.0) (state_of v.manager)
  lets_go = meanwhile_upkeep h.0 v.manager g.rows v.rows t.slot h.2

  left : LeavesAll (state_of h.0) (state_of v.manager)
  left = upkeep_leaves (state_of h.0) (state_of v.manager) lets_go

  -- the count of commands does not fall
  pub back_counts : g.manager.accepted ≤ v.manager.accepted
  back_counts =
      let more = run_counts (map (λ n. command.Unlock t n) h.1.nodes) h.1.replies (state_of g.manager) (state_of h.0) h.1.run in
      let last = low (state_of h.0) (state_of v.manager) left.same_or_later in
      omega (arith, more, last)

  pub back_rises : (state_of g.manager).most ≤ most_slots → RisingTo 0 list most_slots
  back_rises few = subst (λ (l : Told). RisingTo 0 l most_slots) (sym h.1.tells) (told_rises (state_of g.manager) (state_of h.0) few)

  pub back_runs : IsRunOf (unlocking t) (state_of g.manager) (state_of v.manager)
  back_runs =
      own_then (unlocking t) (state_of g.manager) (state_of h.0) (state_of v.manager)
      (own_of (unlocking t) (state_of g.manager) (state_of h.0) (map (λ n. command.Unlock t n) h.1.nodes) h.1.replies (unlocks_of t h.1.nodes) h.1.run)
      (own_upkeep (unlocking t) (state_of h.0) (state_of v.manager) lets_go)

  back_ended : (slots : Slots) → ((u : ℕ) → u < most_slots → has_slot slots u ≡ (false || list_any (λ x. x.0.slot == u) list))
      → HasEnded (state_of g.manager) (state_of v.manager) slots
  back_ended slots is law u n below was gone =
      ended g.manager h.0 t mark k list h.1 slots is law u n below was (sym (ap (λ (x : State). waits_on x u n) left.is) ∙ gone)

  -- the notices are in their boxes
  pub back_delivered : (boxes boxes' : List Slot) (slots : Slots) → Puts boxes (unlocking t) list boxes'
      → ((u : ℕ) → u < most_slots → has_slot slots u ≡ (false || list_any (λ x. x.0.slot == u) list))
      → Delivered (with_boxes g boxes) (unlocking t) list slots (with_boxes v boxes')
  back_delivered boxes boxes' slots puts is = record { puts = puts; wakes = record { all = back_ended slots is; slots = is } }

-- A commit that keeps locks.

-- every other transaction lives on while t is renewed or ends
last_goes_on : (t : TxnId) (since : ℕ) (s s' : State) (u : ℕ) → t.slot ≢ u → (next : Option TxnId) → RenewsOrEnds t since s next s' → GoesOn s s' u
last_goes_on t since s s' u apart (Some x) h =
    lives_on_same (s.txns u) (s'.txns u) (ap (λ (z : State). z.txns u) h.2 ∙ begun_other s t.slot (s.begins + 1) (min since (s.begins + 1)) u apart)
last_goes_on t since s s' u apart None h =
    let gone : State = stripped s t.slot in
    subst (λ z. GoesOn s z u) (sym h.1)
    (lives_on_trans (s.txns u) (gone.txns u) ((released s t.slot).txns u) (lives_on_same (s.txns u) (gone.txns u)
    (ap (λ b. if b then None else s.txns u) (other t.slot u apart)))
    (pumped_goes_on gone (λ n. holds (members s n) t.slot || is_waiting_at s t.slot n) u))

module _ (m mid : ManagerView) (t : TxnId) (keep since : ℕ) (next : Option TxnId) (list : Told) (h : CompletesKeeping t keep since m next list mid) where
  pub keeping_goes_on : (u : ℕ) → t.slot ≢ u → GoesOn (state_of m) (state_of mid) u
  keeping_goes_on u apart =
      lives_on_trans ((state_of m).txns u) (h.keeps.mid.txns u) ((state_of mid).txns u)
      (goes_on h.keeps.nodes (table_state m.table) h.keeps.mid t.slot u h.keeps.back.unlocks)
      (last_goes_on t since h.keeps.mid (table_state mid.table) u apart next h.keeps.renews)

  -- a transaction whose wait has ended is told
  keeping_ended : (slots : Slots) → ((u : ℕ) → u < most_slots → has_slot slots u ≡ (false || list_any (λ x. x.0.slot == u) list))
      → HasEnded (state_of m) (state_of mid) slots
  keeping_ended slots is law u n below was gone =
      let b = and_both (lives (state_of m) u) _ was in
      let w = waiting_is (status_of (state_of m) u.slot) n b.1 in
      let active = (may_go_back m t (count_since m t.slot keep + 1) h.tests).acting.active in
      let on = keeping_goes_on u.slot (λ e. clash (ap (λ x. is_wait (status_of (state_of m) x)) e ∙ ap is_wait w.1) (ap is_wait active)) in
      told_wakes list slots u is below (ap (is_told u) h.tells ∙ told_over (state_of m) law u b.0 n w.0 w.1 (state_of mid) on gone)

-- all commands name the transaction alone
last_of : (t : TxnId) (since : ℕ) (next : Option TxnId) (u : TxnId) → same_txn u t ≡ false → names u (last_command t since next) ≡ false
last_of t since (Some x) u apart = apart
last_of t since None u apart = apart

keeping_of : (t : TxnId) (since : ℕ) (next : Option TxnId) (nodes : List NodeId)
    → AreOf (command.Commit t) (map (λ n. command.Unlock t n) nodes ++ last_command t since next ∷ [])
keeping_of t since next [] u apart = ap (λ b. b || false) (last_of t since next u apart)
keeping_of t since next (n ∷ nodes) u apart =
    ap (λ b. b || list_any (names u) (map (λ n. command.Unlock t n) nodes ++ last_command t since next ∷ [])) apart
    ∙ keeping_of t since next nodes u apart

-- The same, with the rows that are let go after it.
module _ (g v : RegistryView) (t : TxnId) (keep since : ℕ) (next : Option TxnId) (list : Told)
    (h : CommitsAndKeeps t keep since g.manager g.rows (Ok next) list v.manager v.rows) where
  goes_after : Upkeep (state_of h.0) (state_of v.manager)
  goes_after = at_end_upkeep h.0 v.manager g.rows v.rows t.slot h.2

  left_after : LeavesAll (state_of h.0) (state_of v.manager)
  left_after = upkeep_leaves (state_of h.0) (state_of v.manager) goes_after

  pub keeping_rises : (state_of g.manager).most ≤ most_slots → RisingTo 0 list most_slots
  keeping_rises few = subst (λ (l : Told). RisingTo 0 l most_slots) (sym h.1.tells) (told_rises (state_of g.manager) (state_of h.0) few)

  pub keeping_runs : IsRunOf (command.Commit t) (state_of g.manager) (state_of v.manager)
  keeping_runs =
      own_then (command.Commit t) (state_of g.manager) (state_of h.0) (state_of v.manager)
      (own_of (command.Commit t) (state_of g.manager) (state_of h.0) _ _ (keeping_of t since next h.1.keeps.nodes) h.1.run)
      (own_upkeep (command.Commit t) (state_of h.0) (state_of v.manager) goes_after)

  -- it is counted, and the notices are in their boxes
  pub keeping_carries : (boxes boxes' : List Slot) (slots : Slots) → Puts boxes (command.Commit t) list boxes'
      → ((u : ℕ) → u < most_slots → has_slot slots u ≡ (false || list_any (λ x. x.0.slot == u) list))
      → Carries (with_boxes g boxes) (command.Commit t) list slots (with_boxes v boxes')
  keeping_carries boxes boxes' slots puts is =
      let more = h.1.accepted in
      let last = low (state_of h.0) (state_of v.manager) left_after.same_or_later in
      inl (
        omega (arith, more, last),
        record {
          puts = puts;
          wakes = record {
            all = λ law u n below was gone. keeping_ended g.manager h.0 t keep since next list h.1 slots is law u n below was
                (sym (ap (λ (x : State). waits_on x u n) left_after.is) ∙ gone);
            slots = is;
          };
        },
      )
