-- What is known of the waits after each call by which nobody went on.
use Rattle.gl_slots.specs.declared.slots.Slots.{Slots}
use Rattle.gl_slots.specs.Limit.{most_slots}
use Rattle.std.specs.Prelude.{◌≡◌, ◌≤◌, ℕ, Bool, true, false, Option, Some, None, Result, Ok, Err, OnErr}
use Rattle.std.proofs.Common.{refl, sym, ap, subst, ◌∙◌}
use Rattle.gl_modes.specs.declared.refusal.Refusal.{Refusal}
use Rattle.gl_slots.specs.Slots.{has_none}
use Rattle.gl_model.specs.Lawful.{IsLawful}
use Rattle.gl_model.specs.State.{State}
use Rattle.gl_model.specs.Tellings.{Told}
use Rattle.gl_model.specs.declared.txn.TxnId.{TxnId}
use Rattle.gl_steps.specs.Promises.{NobodyWaits}
use Rattle.gl_steps.specs.Served.{is_refused}
use Rattle.gl_steps.specs.Step.{Step}
use Rattle.gl_steps.specs.declared.command.Answer.{Answer}
use Rattle.gl_steps.specs.declared.command.Command.{Command}
use Rattle.gl_catalog.specs.Manager.{ManagerView, state_of}
use Rattle.gl_catalog.specs.Paths.{Ask}
use Rattle.gl_catalog.specs.declared.manager.paths.Reached.{Reached}
use Rattle.gl_rows.specs.Applying.{answer_in, own_command, unnamed}
use Rattle.gl_rows.specs.Locking.{Wish}
use Rattle.gl_rows.specs.Releasing.{CommitsAndKeeps, GoesBackTo}
use Rattle.gl_rows.specs.Rows.{RegistryView}
use Rattle.gl_rows.specs.Serving.{ServesBy, touches_rows}
use Rattle.gl_rows.specs.declared.answer.RowAnswer.{RowAnswer}
use Rattle.gl_rows.specs.declared.call.RowCall.{RowCall}
use Rattle.gl_rows.proofs.Tidied.{served_upkeep}
use Rattle.gl_rows.proofs.Upkeep.{upkeep_leaves}
use Rattle.gl_waiting.specs.Asking.{KeepsLocks, LocksPath, RollsBackTo, Serves, ServesRow, TriesRowThere, TriesThere}
use Rattle.gl_waiting.specs.Delivering.{ComesToNothing, DeliveryView, registry_in}
use Rattle.gl_waiting.specs.Waiting.{WaitingView, delivery_in}
use Rattle.gl_waiting.specs.declared.tries.Keep.{Keep}
use Rattle.gl_waiting.specs.declared.tries.RowTried.{RowTried}
use Rattle.gl_waiting.specs.declared.tries.Tried.{Tried}
use Rattle.gl_waiting.proofs.RowCalls.{comes_to_nothing, nothing_done}
use Rattle.gl_window.specs.Strip.{Strip}
use Rattle.gl_window.specs.Tellings.{leaves_waits, still_known}
use Rattle.gl_c.specs.locks.Paths.{leaves_on_path}
use Rattle.gl_c.specs.managers.Carries.{spared_by}
use Rattle.gl_c.specs.managers.Serving.{KnowsWaits}
use Rattle.gl_c.proofs.serving.Backs.{back_quiet, keeping_quiet}
use Rattle.gl_c.proofs.serving.Paths.{path_known}
use Rattle.gl_c.proofs.serving.RowCalls.{knows_left, row_known}
use Rattle.gl_c.proofs.serving.Showing.{knows_nobody, knows_still}
use Rattle.gl_c.proofs.serving.Tries.{path_idle}

-- everything stays known
known_all : (s : State) (shown : Option Strip) (parties : Option Slots) → KnowsWaits s shown parties → KnowsWaits s shown (still_known parties (λ known. true))
known_all s shown None known = tt
known_all s shown (Some set) known = known

module _ (v : WaitingView) (shown : Option Strip) (parties : Option Slots) (knows : KnowsWaits (state_of v.manager) shown parties) (ended : Slots)
    (v' : WaitingView) where
  -- after any of them this is known
  abbrev Known : (Slots → Bool) → Type 0
  Known spares = KnowsWaits (state_of v'.manager) shown (still_known parties spares)

  module _ (law : IsLawful (state_of v.manager)) (few : (state_of v.manager).most ≤ most_slots) where
    -- a command
    pub command_known : (c : Command) (a : Option Answer) (told : Told) → Serves v c a told ended v' → Known (spared_by c a told)
    command_known c a told h =
        by a (touches_rows (registry_in (delivery_in v)) c) h.serves
      where
        by : (o : Option Answer) (b : Bool) → ServesBy b (registry_in (delivery_in v)) c o told (registry_in (delivery_in v'))
            → KnowsWaits (state_of v'.manager) shown (still_known parties (spared_by c o told))
        by None true same =
            subst (λ (r : RegistryView). KnowsWaits (state_of r.manager) shown (still_known parties (λ known. true))) (sym same.2)
            (known_all (state_of v.manager) shown parties knows)
        by (Some x) true same = absurd (cc same.0)
        by None false some = absurd (cc some.1)
        by (Some x) false (y, is, h) =
            let same : x ≡ y = cc is in
            let served = served_upkeep (registry_in (delivery_in v)) (registry_in (delivery_in v')) c y told h in
            knows_left (state_of h.mid) (state_of v'.manager) (upkeep_leaves (state_of h.mid) (state_of v'.manager) served) shown
            (still_known parties (spared_by c (Some x) told))
            (knows_still (state_of v.manager) (state_of h.mid) shown parties c x told law few
            (subst (λ (z : Answer). Step (state_of v.manager) c z told (state_of h.mid)) (sym same) h.applies.step) knows)

    -- a path
    pub path_knows : (t : TxnId) (ask : Ask) (result : Result Reached Refusal) (told : Told) → LocksPath v t ask result told ended v'
        → Known (λ known. leaves_on_path known t result told)
    path_knows t ask result told h =
        path_known t ask v.manager v'.manager told result h.path.untold h.path.path law few shown parties knows

    -- a call about rows that is counted
    pub row_knows : (c : RowCall) (a : RowAnswer) (told : Told) → ServesRow v c a told ended v' → (v'.manager.accepted ≡ v.manager.accepted → ⊥)
        → Known (spared_by (own_command unnamed c) (answer_in a) told)
    row_knows c a told h more = by (answer_in a) refl
      where
        some : comes_to_nothing (answer_in a) ≡ true → ⊥
        some so =
            let same = nothing_done v.manager v.rows a told v'.manager v'.rows so c h.applies in
            more (ap (λ (m : ManagerView). m.accepted) same.1)

        by : (o : Option Answer) → answer_in a ≡ o → Known (spared_by (own_command unnamed c) o told)
        by None so = absurd (some (ap comes_to_nothing so))
        by (Some x) so = refuses (is_refused x) refl
          where
            refuses : (b : Bool) → is_refused x ≡ b → Known (λ known. leaves_waits known (own_command unnamed c) x told)
            refuses true e = absurd (some (ap comes_to_nothing so ∙ e))
            refuses false e =
                row_known (registry_in (delivery_in v)) c a told (registry_in (delivery_in v')) h.own x so e law few shown parties knows

  -- if nobody waited, nobody waits
  nobody : (NobodyWaits (state_of v.manager) → NobodyWaits (state_of v'.manager)) → Known has_none
  nobody idle = knows_nobody (state_of v.manager) (state_of v'.manager) shown parties idle knows

  -- a rollback to a savepoint
  pub back_knows : (t : TxnId) (mark : ℕ) (result : Result ℕ Refusal) (told : Told) → RollsBackTo v t mark result told ended v' → Known has_none
  back_knows t mark result told h = nobody (by result h.back h.refused)
    where
      by : (x : Result ℕ Refusal) → GoesBackTo t mark v.manager v.rows x told v'.manager v'.rows
          → OnErr x (ComesToNothing (delivery_in v) told ended (delivery_in v')) → NobodyWaits (state_of v.manager) → NobodyWaits (state_of v'.manager)
      by (Ok k) back none idle = back_quiet (registry_in (delivery_in v)) (registry_in (delivery_in v')) t mark k told back idle
      by (Err r) back none idle = subst (λ (d : DeliveryView). NobodyWaits (state_of d.manager)) (sym none.same) idle

  -- a commit that keeps locks
  pub keeping_knows : (t : TxnId) (keep since : ℕ) (result : Result (Option TxnId) Refusal) (told : Told) → KeepsLocks v t keep since result told ended v'
      → Known has_none
  keeping_knows t keep since result told h = nobody (by result h.keeps)
    where
      by : (x : Result (Option TxnId) Refusal) → CommitsAndKeeps t keep since v.manager v.rows x told v'.manager v'.rows
          → NobodyWaits (state_of v.manager) → NobodyWaits (state_of v'.manager)
      by (Ok next) keeps idle = keeping_quiet (registry_in (delivery_in v)) (registry_in (delivery_in v')) t keep since next told keeps idle
      by (Err r) keeps idle = subst (λ (m : ManagerView). NobodyWaits (state_of m)) (sym keeps.1.same_manager) idle

  -- a path that is tried
  pub tried_knows : (k : Keep) (t : TxnId) (ask : Ask) (came : Tried) (told : Told) → TriesThere v t ask k came told ended v' → Known has_none
  tried_knows k t ask came told h = nobody (path_idle k t ask (delivery_in v) came told ended (delivery_in v') h.tries)

  -- a row that is tried
  pub tried_row_knows : (w : Wish) (came : RowTried) (told : Told) → TriesRowThere v w came told ended v' → Known has_none
  tried_row_knows w came told h = nobody (λ idle u. h.waits u (idle u))
