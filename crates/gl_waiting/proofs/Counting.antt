-- A call that counts nothing changes nothing.
use Rattle.gl_slots.specs.declared.slots.Slots.{Slots}
use Rattle.std.specs.Prelude.{◌≡◌, ◌⊎◌, ◌+◌, ◌<◌, ◌≤◌, ℕ, Bool, true, false, [], List, Option, Some, None, Result, Ok, Err, OnErr}
use Rattle.std.proofs.Common.{refl, sym, ap, subst, ◌∙◌, inl, inr, ⊎_elim, arith}
use Rattle.gl_modes.specs.declared.mode.Mode.{Mode}
use Rattle.gl_modes.specs.declared.node.NodeId.{NodeId}
use Rattle.gl_modes.specs.declared.refusal.Refusal.{Refusal}
use Rattle.gl_slots.specs.Slots.{HasNoSlot}
use Rattle.gl_model.specs.declared.txn.TxnId.{TxnId}
use Rattle.gl_model.specs.Tellings.{Told}
use Rattle.gl_steps.proofs.Serving.{step_counts}
use Rattle.gl_steps.specs.declared.command.Command.{Command}
use Rattle.gl_catalog.specs.Manager.{ManagerView, state_of}
use Rattle.gl_catalog.specs.Paths.{Ask}
use Rattle.gl_catalog.specs.Replies.{CallSteps, took}
use Rattle.gl_rows.specs.declared.answer.RowLocked.{RowLocked}
use Rattle.gl_rows.specs.declared.answer.RowRefusal.{RowRefusal}
use Rattle.gl_rows.specs.Locking.{Wish}
use Rattle.gl_rows.specs.Releasing.{GoesBackTo}
use Rattle.gl_rows.specs.Rows.{name_of}
use Rattle.gl_waiting.specs.Begins.{BeginsView}
use Rattle.gl_waiting.specs.Delivering.{Carries, ComesToNothing, DeliveryView, registry_in}
use Rattle.gl_waiting.specs.declared.tries.Keep.{Keep}
use Rattle.gl_waiting.specs.declared.tries.RowTried.{RowTried}
use Rattle.gl_waiting.specs.declared.tries.Tried.{Tried}
use Rattle.gl_waiting.specs.declared.waiter.Place.{Place}
use Rattle.gl_waiting.specs.RowTries.{FollowsLock, FollowsTry, NotesRow, TriesNamed, TriesRow, TriesRowBy, busy_node, was_held}
use Rattle.gl_waiting.specs.Tries.{IsTried, LeavesTries, gives_back, last_answer, lock_count, try_of}
use Rattle.gl_waiting.proofs.Awaiting.{carries_low, waiting_with}
use Rattle.gl_waiting.proofs.Backs.{back_counts}
use Rattle.gl_waiting.proofs.TriedPaths.{up_counts}

-- a call counts a command, or it changes nothing and ends nobody's wait
abbrev pub CountsOrNot : DeliveryView → Slots → DeliveryView → Type 0
CountsOrNot d ended d' = (d' ≡ d) × HasNoSlot ended ⊎ (d.manager.accepted < d'.manager.accepted)

-- if nothing is counted then, nothing changes
pub nothing_counted : (d d' : DeliveryView) (ended : Slots) (places : List Place) (b : BeginsView) → CountsOrNot d ended d'
    → d'.manager.accepted ≡ d.manager.accepted → waiting_with d' places b ≡ waiting_with d places b
nothing_counted d d' ended places b (inl idle) same = ap (λ (x : DeliveryView). waiting_with x places b) idle.0
nothing_counted d d' ended places b (inr more) same = absurd (omega (arith, more, same))

-- a call that carries out a command
pub carries_or_not : (d d' : DeliveryView) (c : Command) (told : Told) (ended : Slots) → Carries d c told ended d' → CountsOrNot d ended d'
carries_or_not d d' c told ended (inl so) = inr so.0
carries_or_not d d' c told ended (inr idle) = inl (idle.same, idle.none)

-- a rollback that is refused
pub back_or_not : (d d' : DeliveryView) (told : Told) (ended : Slots) (b : BeginsView) (places : List Place) (result : Result ℕ Refusal)
    → OnErr result (ComesToNothing d told ended d') → OnErr result (waiting_with d' places b ≡ waiting_with d places b)
back_or_not d d' told ended b places (Ok k) idle = tt
back_or_not d d' told ended b places (Err r) idle = ap (λ (x : DeliveryView). waiting_with x places b) idle.same

-- A path that is tried.
module _ (k : Keep) (t : TxnId) (ask : Ask) (d : DeliveryView) (came : Tried) (told : Told) (ended : Slots) (d' : DeliveryView)
    (h : IsTried k t ask d came told ended d') where
  abbrev between : DeliveryView
  between = record d { manager = h.mid }

  abbrev Leaves : Bool → Type 0
  Leaves b = LeavesTries b t (lock_count d.manager t) d.manager.accepted between told ended d'

  back_low : (mark : ℕ) (x : Result ℕ Refusal) → GoesBackTo t mark h.mid d.rows x told d'.manager d'.rows → h.mid.accepted ≤ d'.manager.accepted
  back_low mark (Ok n) back = back_counts (registry_in between) (registry_in d') t mark n told back
  back_low mark (Err r) back =
      let same : d'.manager.accepted ≡ h.mid.accepted = ap (λ (m : ManagerView). m.accepted) back.1.same_manager in omega (arith, same)

  -- its tries are counted, or there was none
  ups : (h.mid ≡ d.manager) ⊎ (d.manager.accepted < h.mid.accepted)
  ups = up_counts t ask h.path.1 (last_answer came) h.mid h.path.0 d.manager h.path.2

  still : ComesToNothing between told ended d' → CountsOrNot d ended d'
  still none =
      ⊎_elim (λ (is : h.mid ≡ d.manager). inl (none.same ∙ ap (λ (m : ManagerView). record d { manager = m }) is, none.none))
      (λ (more : d.manager.accepted < h.mid.accepted).
      inr (subst (λ (x : DeliveryView). d.manager.accepted < x.manager.accepted) (sym none.same) more)) ups

  pub path_or_not : CountsOrNot d ended d'
  path_or_not = by (gives_back k came) h.leaves
    where
      by : (b : Bool) → Leaves b → CountsOrNot d ended d'
      by false none = still none
      by true (inl left) = still left.1
      by true (inr left) =
          let more = left.0 in let low = back_low (lock_count d.manager t) left.1.released left.1.back in inr (omega (arith, more, low))

-- A row that is tried.

follows_low : (held : Bool) (n : NodeId) (w : Wish) (x : Result RowLocked RowRefusal) (d : DeliveryView) (came : RowTried) (told : Told) (ended : Slots)
    (d' : DeliveryView) → FollowsLock held n w x d came told ended d' → d.manager.accepted ≤ d'.manager.accepted
follows_low held n w (Ok x) d came told ended d' h =
    let same : d'.manager.accepted ≡ d.manager.accepted = ap (λ (x : DeliveryView). x.manager.accepted) h.1 in omega (arith, same)
follows_low true n w (Err why) d came told ended d' h =
    let same : d'.manager.accepted ≡ d.manager.accepted = ap (λ (x : DeliveryView). x.manager.accepted) h.3 in omega (arith, same)
follows_low false n w (Err why) d came told ended d' h = carries_low d d' _ told ended h.carries

notes_low : (held : Bool) (n : NodeId) (w : Wish) (d : DeliveryView) (came : RowTried) (told : Told) (ended : Slots) (d' : DeliveryView)
    → NotesRow held n w d came told ended d' → d.manager.accepted ≤ d'.manager.accepted
notes_low held n w d came told ended d' h =
    let first = carries_low d h.mid _ h.first_told h.first_ended h.locks.carries in
    let last = follows_low held n w h.result h.mid came told ended d' h.follows in
    omega (arith, first, last)

module _ (w : Wish) (d : DeliveryView) (came : RowTried) (told : Told) (ended : Slots) (d' : DeliveryView) where
  named_or_not : (n : NodeId) → TriesNamed n w d came told ended d' → CountsOrNot d ended d'
  named_or_not n h = by h.tried h.step h.unchanged h.follows
    where
      by : (x : Result Mode Refusal) → CallSteps (state_of d.manager) (try_of w.txn (n, w.mode)) took x (state_of h.mid) → OnErr x (h.mid ≡ d.manager)
          → FollowsTry x (was_held (state_of d.manager) w.txn n) n w (record d { manager = h.mid }) came told ended d' → CountsOrNot d ended d'
      by (Err r) step unchanged follows = inl (follows.3 ∙ ap (λ (m : ManagerView). record d { manager = m }) unchanged, follows.2)
      by (Ok m) step unchanged follows =
          let one : h.mid.accepted ≡ d.manager.accepted + 1 =
          (step_counts (state_of d.manager) (try_of w.txn (n, w.mode)) _ [] (state_of h.mid) step).accepted refl in
          let low : h.mid.accepted ≤ d'.manager.accepted =
          notes_low (was_held (state_of d.manager) w.txn n) n (record w { mode = m }) (record d { manager = h.mid }) came told ended d' follows in
          inr (omega (arith, one, low))

  pub row_or_not : TriesRow w d came told ended d' → CountsOrNot d ended d'
  row_or_not = by (busy_node (state_of d.manager) (name_of d.rows w.row))
    where
      by : (o : Option NodeId) → TriesRowBy o w d came told ended d' → CountsOrNot d ended d'
      by None h = carries_or_not d d' _ told ended h.carries
      by (Some n) h = named_or_not n h
