-- What a call of the registry is to notice boxes and waits.
use Rattle.gl_slots.specs.declared.slots.Slots.{Slots}
use Rattle.gl_slots.specs.Limit.{most_slots}
use Rattle.std.specs.Prelude.{◌≡◌, ℕ, ◌<◌, ◌≤◌, ◌==◌, ◌||◌, ◌+◌, Bool, true, false, List, Some}
use Rattle.std.specs.List.{list_any}
use Rattle.std.proofs.Common.{sym, ap, subst, ◌∙◌, inl, inr, arith}
use Rattle.gl_slots.specs.Slots.{HasNoSlot, has_slot}
use Rattle.gl_modes.specs.declared.mode.Mode.{Mode}
use Rattle.gl_modes.specs.declared.node.NodeId.{NodeId}
use Rattle.gl_modes.specs.declared.refusal.Refusal.{Refusal}
use Rattle.gl_modes.specs.declared.refusal.Refusal.TheVariants as no
use Rattle.gl_model.specs.Calls.{locked_as}
use Rattle.gl_model.specs.declared.txn.TxnId.{TxnId}
use Rattle.gl_model.specs.State.{State, status_of}
use Rattle.gl_steps.specs.declared.command.Command.TheVariants as command
use Rattle.gl_steps.specs.Promises.{waits_on}
use Rattle.gl_steps.specs.Step.{Goes, Step}
use Rattle.gl_steps.specs.Tests.{refusal_of}
use Rattle.std.specs.Prelude.{Option, None, Ok, Err}
use Rattle.gl_model.specs.Tellings.{Told}
use Rattle.gl_steps.specs.declared.command.Answer.{Answer}
use Rattle.gl_steps.specs.declared.command.Command.{Command}
use Rattle.gl_steps.specs.Served.{accepts}
use Rattle.gl_steps.proofs.Serving.{step_counts}
use Rattle.gl_catalog.specs.Manager.{state_of}
use Rattle.gl_rows.specs.Rows.{RegistryView}
use Rattle.gl_rows.specs.Serving.{IsServed, ServesBy, touches_rows}
use Rattle.gl_rows.proofs.Tidied.{served_upkeep, unaccepted_alone}
use Rattle.gl_rows.proofs.Upkeep.{LeavesAll, low, upkeep_leaves}
use Rattle.gl_wakes.specs.Boxes.{Slot, Puts}
use Rattle.gl_wakes.specs.Notices.{RisingTo}
use Rattle.gl_wakes.specs.Wakes.{HasEnded, names_slot}
use Rattle.gl_wakes.proofs.Rising.{step_rises}
use Rattle.gl_wakes.proofs.Waking.{wakes_ended}
use Rattle.gl_waiting.specs.Delivering.{IsLockAnswer, Carries, DeliveryView}
use Rattle.gl_waiting.specs.Going.{IsRunOf}
use Rattle.gl_waiting.proofs.Runs.{own_one, own_then, own_upkeep}

-- a registry with these boxes
abbrev pub with_boxes : RegistryView → List Slot → DeliveryView
with_boxes v boxes = record { manager = v.manager; rows = v.rows; boxes = boxes }

some_is : (a b : Answer) → Some a ≡ Some b → a ≡ b
some_is a b e = cc e

-- a command that the registry serves
pub made : (v v' : RegistryView) (c : Command) (a : Answer) (told : Told) → ServesBy (touches_rows v c) v c (Some a) told v' → IsServed v c a told v'
made v v' c a told = by (touches_rows v c)
  where
    by : (b : Bool) → ServesBy b v c (Some a) told v' → IsServed v c a told v'
    by true h = absurd (cc (h.0))
    by false h = subst (λ (x : Answer). IsServed v c x told v') (sym (some_is a h.0 h.1)) h.2

module _ (v v' : RegistryView) (c : Command) (a : Answer) (told : Told) (h : IsServed v c a told v') where
  -- what is done for rows after its step
  after : LeavesAll (state_of h.mid) (state_of v'.manager)
  after = upkeep_leaves (state_of h.mid) (state_of v'.manager) (served_upkeep v v' c a told h)

  -- one that is not accepted comes to nothing
  pub carries_not : (boxes : List Slot) (ended : Slots) → accepts c a ≡ false → HasNoSlot ended
      → Carries (with_boxes v boxes) c told ended (with_boxes v' boxes)
  carries_not boxes ended out none =
      let it = unaccepted_alone v v' c a told out h in
      let still = (step_counts _ _ _ _ _ it.applies.step).not_accepted out in
      let same = it.applies.same (ap (λ (s : State). s.accepted) still.0) in
      inr (record { same = λ i. record { manager = same i; rows = it.rows i; boxes = boxes }; untold = still.1; none = none })

  -- the slots of those whose wait it ended
  ends : (ended : Slots) → ((u : ℕ) → u < most_slots → has_slot ended u ≡ (names_slot c u || list_any (λ x. x.0.slot == u) told))
      → HasEnded (state_of v.manager) (state_of v'.manager) ended
  ends ended slots law u n below was gone =
      wakes_ended c told ended slots _ _ a h.applies.step law u n below was (sym (ap (λ (x : State). waits_on x u n) after.is) ∙ gone)

  -- one that is accepted delivers its notices
  pub carries_so : (boxes boxes' : List Slot) (ended : Slots) → accepts c a ≡ true → Puts boxes c told boxes'
      → ((u : ℕ) → u < most_slots → has_slot ended u ≡ (names_slot c u || list_any (λ x. x.0.slot == u) told))
      → Carries (with_boxes v boxes) c told ended (with_boxes v' boxes')
  carries_so boxes boxes' ended so puts slots =
      let more : h.mid.accepted ≡ v.manager.accepted + 1 = (step_counts _ _ _ _ _ h.applies.step).accepted so in
      let last = low (state_of h.mid) (state_of v'.manager) after.same_or_later in
      inl (
        omega (arith, more, last),
        record {
          puts = puts;
          wakes = record { all = ends ended slots; slots = slots };
        },
      )

  pub made_rises : (state_of v.manager).most ≤ most_slots → RisingTo 0 told most_slots
  made_rises few = step_rises _ _ _ _ _ few h.applies.step

  -- it is a run of commands that name no other transaction
  pub made_runs : IsRunOf c (state_of v.manager) (state_of v'.manager)
  made_runs =
      own_then c (state_of v.manager) (state_of h.mid) (state_of v'.manager)
      (own_one c c (state_of v.manager) (state_of h.mid) a told (λ t apart. apart) h.applies.step)
      (own_upkeep c (state_of h.mid) (state_of v'.manager) (served_upkeep v v' c a told h))

-- What a lock is answered.
module _ (s : State) (t : TxnId) (n : NodeId) (m : Mode) (a : Answer) (told : Told) (s' : State) where
  lock_goes : (o : Option Refusal) → Goes s (command.Lock t n m) o a told s' → IsLockAnswer a
  lock_goes (Some r) same = (Err r, sym same.answer_is)
  lock_goes None (next, accepts, counted) = (Ok (locked_as (next.held t.slot n) (status_of next t.slot)), sym accepts.1)

  pub lock_answered : Step s (command.Lock t n m) a told s' → IsLockAnswer a
  lock_answered (inl goes) = lock_goes (refusal_of s (command.Lock t n m)) goes
  lock_answered (inr (may, same)) = (Err no.NoMemory, sym same.answer_is)
