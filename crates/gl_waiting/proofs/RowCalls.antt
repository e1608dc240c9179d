-- What a call about rows does to notice boxes and waits, and that it is a run. For Delivery.serve_row.
use Rattle.gl_slots.specs.declared.slots.Slots.{Slots}
use Rattle.gl_slots.specs.Limit.{most_slots}
use Rattle.std.specs.Prelude.{◌≡◌, ◌⊎◌, ℕ, ◌<◌, ◌≤◌, ◌==◌, ◌||◌, ◌&&◌, not, Bool, true, false, List, []}
use Rattle.std.specs.Prelude.{Option, Some, None, Result, Ok, Err}
use Rattle.std.specs.List.{list_any}
use Rattle.std.proofs.Common.{refl, sym, ap, subst, ◌∙◌, inl, inr, ⊎_elim, arith}
use Rattle.std.proofs.lemmas.Option.{none-some, same_Some}
use mathlib.Core.Bool.{true≢false}
use denote.Bor.{Bor}
use Rattle.gl_modes.proofs.Words.{split}
use Rattle.gl_modes.specs.declared.node.NodeId.{NodeId}
use Rattle.gl_modes.specs.declared.refusal.Refusal.{Refusal}
use Rattle.gl_slots.specs.Slots.{HasNoSlot, has_slot}
use Rattle.gl_model.specs.declared.answers.Locked.{Locked}
use Rattle.gl_model.specs.declared.answers.Locked.TheVariants as locked
use Rattle.gl_model.specs.declared.txn.TxnId.{TxnId}
use Rattle.gl_model.specs.State.{State}
use Rattle.gl_model.specs.Tellings.{Told}
use Rattle.gl_steps.specs.declared.command.Answer.{Answer}
use Rattle.gl_steps.specs.declared.command.Answer.TheVariants as answer
use Rattle.gl_steps.specs.declared.command.Command.{Command}
use Rattle.gl_steps.specs.Promises.{waits_on}
use Rattle.gl_steps.specs.Served.{is_query, is_refused}
use Rattle.gl_steps.specs.Step.{answer_of_lock}
use Rattle.gl_steps.proofs.Serving.{step_counts}
use Rattle.gl_catalog.specs.Manager.{ManagerView, state_of}
use Rattle.gl_catalog.specs.Replies.{made}
use Rattle.gl_rows.specs.declared.answer.RowAnswer.{RowAnswer}
use Rattle.gl_rows.specs.declared.answer.RowLocked.{RowLocked}
use Rattle.gl_rows.specs.declared.answer.RowRefusal.{RowRefusal}
use Rattle.gl_rows.specs.declared.answer.RowRefusal.TheVariants as row_no
use Rattle.gl_rows.specs.declared.call.RowCall.{RowCall}
use Rattle.gl_rows.specs.declared.call.RowCall.TheVariants as call
use Rattle.gl_rows.specs.declared.row.Row.{Row}
use Rattle.gl_rows.specs.Answers.{done_said, lock_said}
use Rattle.gl_rows.specs.Applying.{AppliesCall, AppliesRow, CarriesOut, StepsAmid, answer_in, naming, own_command, plainly, unnamed}
use Rattle.gl_rows.specs.Files.{MakesFile}
use Rattle.gl_rows.specs.Locking.{LocksBy, LocksRow, Wish}
use Rattle.gl_rows.specs.Releasing.{RekeysBy, UnlocksBy, node_for}
use Rattle.gl_rows.specs.Rows.{RegistryView, RowsView, name_of}
use Rattle.gl_rows.proofs.Tidied.{refuses_is}
use Rattle.gl_rows.proofs.Upkeep.{LeavesAll, low, upkeep_law, upkeep_leaves}
use Rattle.gl_wakes.specs.Boxes.{Slot, emptied, Puts}
use Rattle.gl_wakes.specs.Notices.{RisingTo}
use Rattle.gl_wakes.specs.Wakes.{HasEnded, names_slot}
use Rattle.gl_wakes.proofs.Rising.{step_rises}
use Rattle.gl_wakes.proofs.Waking.{wakes_ended}
use Rattle.gl_waiting.specs.Delivering.{Carries}
use Rattle.gl_waiting.specs.Going.{IsRunOf}
use Rattle.gl_waiting.proofs.Delivered.{with_boxes}
use Rattle.gl_waiting.proofs.Runs.{own_one, own_same, own_then, own_upkeep}

-- the node of a command makes no difference to the boxes, or to the slot that it names
emptied_as : (v u : RowsView) (c : RowCall) (boxes : List Slot) → emptied (own_command v c) boxes ≡ emptied (own_command u c) boxes
emptied_as v u (call.File ps) boxes = refl
emptied_as v u (call.Lock t row keys m) boxes = refl
emptied_as v u (call.Unlock t row) boxes = refl
emptied_as v u (call.Rekey t row index key) boxes = refl

names_as : (v u : RowsView) (c : RowCall) (k : ℕ) → names_slot (own_command v c) k ≡ names_slot (own_command u c) k
names_as v u (call.File ps) k = refl
names_as v u (call.Lock t row keys m) k = refl
names_as v u (call.Unlock t row) k = refl
names_as v u (call.Rekey t row index key) k = refl

-- no call is a query
no_query : (v : RowsView) (c : RowCall) → is_query (own_command v c) ≡ false
no_query v (call.File ps) = refl
no_query v (call.Lock t row keys m) = refl
no_query v (call.Unlock t row) = refl
no_query v (call.Rekey t row index key) = refl

lock_not_refused : (x : Locked) → is_refused (answer_of_lock x) ≡ false
lock_not_refused (locked.Granted m) = refl
lock_not_refused locked.Waiting = refl
lock_not_refused locked.Victim = refl

-- a call comes to nothing if its command is refused, or its file has no rows
abbrev pub comes_to_nothing : Option Answer → Bool
comes_to_nothing None = true
comes_to_nothing (Some a) = is_refused a

-- nobody is told, and nothing changes
abbrev pub StaysAll : RegistryView → Told → RegistryView → Type 0
StaysAll g told v = (told ≡ []) × (v.manager ≡ g.manager) × (v.rows ≡ g.rows)

-- A call that comes to nothing changes nothing.
module _ (m : ManagerView) (v : RowsView) (a : RowAnswer) (told : Told) (m' : ManagerView) (v' : RowsView) (so : comes_to_nothing (answer_in a) ≡ true) where
  abbrev Same : Type 0
  Same = (told ≡ []) × (m' ≡ m) × (v' ≡ v)

  -- any other answer contradicts that
  answered : (b : RowAnswer) → a ≡ b → comes_to_nothing (answer_in b) ≡ false → ⊥
  answered b is none = true≢false (sym so ∙ ap (λ (x : RowAnswer). comes_to_nothing (answer_in x)) is ∙ none)

  file_same : (ps : Bor (List NodeId)) (r : Result NodeId Refusal) → a ≡ plainly made r → MakesFile m v ps r m' v' × (told ≡ []) → Same
  file_same ps (Ok f) is h = absurd (answered (plainly made (Ok f)) is refl)
  file_same ps (Err r) is (inl err, none) = (none, err.same_manager, err.same_rows)
  file_same ps (Err r) is (inr err, none) = (none, err.same_manager, err.same_rows)

  lock_by : (w : Wish) (o : Option NodeId) (r : RowRefusal) → LocksBy o m v w (Err r) told m' v' → Same
  lock_by w (Some n) (row_no.Refused r) (inl (held, err)) = (err.nobody_told, err.same_manager, err.same_rows)
  lock_by w (Some n) (row_no.Refused r) (inr (stale, err)) = (err.nobody_told, err.same_manager, err.same_rows)
  lock_by w (Some n) row_no.NotRows (inl (held, err)) = absurd err
  lock_by w (Some n) row_no.NotRows (inr (stale, err)) = absurd err
  lock_by w None r (inl (has, err)) = (err.nobody_told, err.same_manager, err.same_rows)
  lock_by w None (row_no.Refused r) (inr (has, err)) = (err.nobody_told, err.same_manager, err.same_rows)
  lock_by w None row_no.NotRows (inr (has, err)) = absurd err

  lock_same : (w : Wish) (r : Result RowLocked RowRefusal) → a ≡ lock_said r → LocksRow m v w r told m' v' → Same
  lock_same w (Ok x) is h = absurd (answered (lock_said (Ok x)) is (lock_not_refused x.locked))
  lock_same w (Err r) is (inl err) = (err.nobody_told, err.same_manager, err.same_rows)
  lock_same w (Err r) is (inr by) = lock_by w (name_of v w.row) r by

  unlock_same : (t : TxnId) (row : Row) (o : Result NodeId RowRefusal) (r : Result (Unit {0}) RowRefusal) → a ≡ done_said r
      → UnlocksBy o m v t row r told m' v' → Same
  unlock_same t row o (Ok u) is h = absurd (answered (done_said (Ok u)) is refl)
  unlock_same t row (Err x) (Err r) is err = (err.nobody_told, err.same_manager, err.same_rows)
  unlock_same t row (Ok n) (Err (row_no.Refused r)) is err = (err.nobody_told, err.same_manager, err.same_rows)
  unlock_same t row (Ok n) (Err row_no.NotRows) is err = absurd err

  rekey_same : (t : TxnId) (index : NodeId) (key : ℕ) (o : Result NodeId RowRefusal) (r : Result (Unit {0}) RowRefusal) → a ≡ done_said r
      → RekeysBy o m v t index key r told m' v' → Same
  rekey_same t index key o (Ok u) is h = absurd (answered (done_said (Ok u)) is refl)
  rekey_same t index key (Err x) (Err r) is err = (err.nobody_told, err.same_manager, err.same_rows)
  rekey_same t index key (Ok n) (Err (row_no.Refused r)) is err = (err.nobody_told, err.same_manager, err.same_rows)
  rekey_same t index key (Ok n) (Err row_no.NotRows) is err = absurd err

  pub nothing_done : (c : RowCall) → AppliesRow m v c a told m' v' → Same
  nothing_done (call.File ps) h = file_same ps h.result h.answered h.was_done
  nothing_done (call.Lock t row keys mode) h = lock_same (record { txn = t; row = row; keys = keys; mode = mode }) h.result h.answered h.was_done
  nothing_done (call.Unlock t row) h = unlock_same t row (node_for v row) h.result h.answered h.was_done
  nothing_done (call.Rekey t row index key) h = rekey_same t index key (node_for v row) h.result h.answered h.was_done

-- Any other call is a step of its own command.

module _ (m : ManagerView) (c : Command) (told : Told) (m' : ManagerView) where
  -- one that is not refused is a step
  steps : (o : Option Answer) (x : Answer) → o ≡ Some x → is_refused x ≡ false → CarriesOut m c o told m' → StepsAmid m c x told m'
  steps None x is came h = absurd (none-some x is)
  steps (Some a) x is came (inl amid) = subst (λ y. StepsAmid m c y told m') (same_Some a x is) amid
  steps (Some a) x is came (inr err) = absurd (true≢false (sym err.0 ∙ refuses_is a ∙ ap is_refused (same_Some a x is) ∙ came))

  module _ (x : Answer) (h : StepsAmid m c x told m') where
    left_before : LeavesAll (state_of m) h.ahead
    left_before = upkeep_leaves (state_of m) h.ahead h.before

    left_after : LeavesAll h.behind (state_of m')
    left_after = upkeep_leaves h.behind (state_of m') h.after

    counts_more : is_query c ≡ false → is_refused x ≡ false → m.accepted < m'.accepted
    counts_more asks came =
        let one = (step_counts h.ahead c x told h.behind h.step).accepted (λ i. not (asks i) && not (came i)) in
        let first = low (state_of m) h.ahead left_before.same_or_later in
        let last = low h.behind (state_of m') left_after.same_or_later in
        omega (arith, one, first, last)

    told_rises : (state_of m).most ≤ most_slots → RisingTo 0 told most_slots
    told_rises few =
        step_rises h.ahead c x told h.behind (subst (λ n. n ≤ most_slots) (sym (ap (λ (x : State). x.most) left_before.is)) few) h.step

    ends : (slots : Slots) → ((u : ℕ) → u < most_slots → has_slot slots u ≡ (names_slot c u || list_any (λ x. x.0.slot == u) told))
        → HasEnded (state_of m) (state_of m') slots
    ends slots is law u n below was gone =
        wakes_ended c told slots is h.ahead h.behind x h.step (upkeep_law (state_of m) h.ahead law h.before) u n below
        (ap (λ (x : State). waits_on x u n) left_before.is ∙ was) (sym (ap (λ (x : State). waits_on x u n) left_after.is) ∙ gone)

    amid_runs : IsRunOf c (state_of m) (state_of m')
    amid_runs =
        own_then c (state_of m) h.ahead (state_of m') (own_upkeep c (state_of m) h.ahead h.before)
        (own_then c h.ahead h.behind (state_of m') (own_one c c h.ahead h.behind x told (λ t apart. apart) h.step)
        (own_upkeep c h.behind (state_of m') h.after))

-- A call of the registry: it comes to nothing, or it is counted.
module _ (g : RegistryView) (c : RowCall) (a : RowAnswer) (told : Told) (v : RegistryView) (applies : AppliesCall g c a told v)
    (own : CarriesOut g.manager (own_command (naming c g.rows v.rows) c) (answer_in a) told v.manager) where
  abbrev command : Command
  command = own_command (naming c g.rows v.rows) c

  -- one step of its own command, which is counted
  abbrev Comes : Type 0
  Comes = (x : Answer) × StepsAmid g.manager command x told v.manager × (g.manager.accepted < v.manager.accepted)

  same_or_comes : StaysAll g told v ⊎ Comes
  same_or_comes = by (answer_in a) refl
    where
      by : (o : Option Answer) → answer_in a ≡ o → StaysAll g told v ⊎ Comes
      by None is = inl (nothing_done g.manager g.rows a told v.manager v.rows (ap comes_to_nothing is) c applies)
      by (Some x) is =
          split (is_refused x) (λ no. inl (nothing_done g.manager g.rows a told v.manager v.rows (ap comes_to_nothing is ∙ no) c applies))
          (λ came.
          let amid = steps g.manager command told v.manager (answer_in a) x is came own in
          inr (x, amid, counts_more g.manager command told v.manager x amid (no_query (naming c g.rows v.rows) c) came))

  -- which of the two, by the counts before and after
  pub stays_if : (before now : ℕ) → before ≡ g.manager.accepted → now ≡ v.manager.accepted → now ≡ before → StaysAll g told v
  stays_if before now was is so =
      ⊎_elim (λ (same : StaysAll g told v). same)
      (λ (comes : Comes). let later : g.manager.accepted < v.manager.accepted = comes.2 in absurd (omega (arith, was, is, so, later))) same_or_comes

  pub comes_unless : (before now : ℕ) → before ≡ g.manager.accepted → now ≡ v.manager.accepted → (now ≡ before → ⊥) → Comes
  comes_unless before now was is not_so =
      ⊎_elim (λ (same : StaysAll g told v). absurd (not_so (is ∙ ap (λ (x : ManagerView). x.accepted) same.1 ∙ sym was))) (λ (comes : Comes). comes)
      same_or_comes

  pub row_rises : Comes → (state_of g.manager).most ≤ most_slots → RisingTo 0 told most_slots
  row_rises comes = told_rises g.manager command told v.manager comes.0 comes.1

  pub row_none : (boxes : List Slot) (ended : Slots) → StaysAll g told v → HasNoSlot ended
      → Carries (with_boxes g boxes) command told ended (with_boxes v boxes)
  row_none boxes ended same none =
      inr (record { same = λ i. record { manager = same.1 i; rows = same.2 i; boxes = boxes }; untold = same.0; none = none })

  -- the notices are delivered by the command that names no node
  pub row_some : Comes → (boxes boxes' : List Slot) (ended : Slots) → Puts boxes (own_command unnamed c) told boxes'
      → ((u : ℕ) → u < most_slots → has_slot ended u ≡ (names_slot (own_command unnamed c) u || list_any (λ x. x.0.slot == u) told))
      → Carries (with_boxes g boxes) command told ended (with_boxes v boxes')
  row_some comes boxes boxes' ended puts slots =
      let named : (u : ℕ) → u < most_slots → has_slot ended u ≡ (names_slot command u || list_any (λ x. x.0.slot == u) told) =
      λ u below. slots u below ∙ ap (λ b. b || list_any (λ x. x.0.slot == u) told) (names_as unnamed (naming c g.rows v.rows) c u) in
      inl (
        comes.2,
        record {
          puts = (puts.0, puts.1, puts.2 ∙ emptied_as unnamed (naming c g.rows v.rows) c puts.0);
          wakes = record { all = ends g.manager command told v.manager comes.0 comes.1 ended named; slots = named };
        },
      )

  pub row_runs : IsRunOf command (state_of g.manager) (state_of v.manager)
  row_runs =
      ⊎_elim (λ (same : StaysAll g told v). own_same command (state_of g.manager) (state_of v.manager) (ap state_of same.1))
      (λ (comes : Comes). amid_runs g.manager command told v.manager comes.0 comes.1) same_or_comes
