-- Calls after which begins were handed on, as runs; and one after which nobody went on.
use Rattle.std.specs.Prelude.{◌≡◌, ◌==◌, ℕ, zero, suc, not, false, Option, None, Some, Result, Ok, Err}
use Rattle.std.proofs.Common.{refl, sym, ap, subst, ◌∙◌}
use mathlib.Core.Bool.{true≢false}
use Rattle.gl_modes.specs.declared.refusal.Refusal.{Refusal}
use Rattle.gl_slots.specs.declared.slots.Slots.{Slots}
use Rattle.gl_model.specs.Tellings.{Told}
use Rattle.gl_model.specs.declared.txn.TxnId.{TxnId}
use Rattle.gl_catalog.specs.Manager.{state_of}
use Rattle.gl_waiting.specs.Asking.{Begins, GoesOn, HandsFirst, HandsOn, InTurn, begin_of}
use Rattle.gl_steps.specs.declared.command.Command.{Command}
use Rattle.gl_steps.specs.declared.command.Command.TheVariants as command
use Rattle.gl_steps.specs.Promises.{names}
use Rattle.gl_waiting.specs.Going.{IsRunOf}
use Rattle.gl_waiting.specs.Waiting.{WaitingView}
use Rattle.gl_waiting.specs.declared.set_off.SetOff.{SetOff}
use Rattle.gl_waiting.specs.declared.waiter.Came.{Came}
use Rattle.gl_waiting.proofs.Runs.{own_as, own_same, own_then}
use Rattle.gl_waiting.proofs.Turns.{any_more}

-- the states before and after, with commands that name no transaction but that of this one
abbrev pub TurnRun : Command → WaitingView → WaitingView → Type 0
TurnRun c v v' = IsRunOf c (state_of v.manager) (state_of v'.manager)

-- no command
pub same_run : (c : Command) (v v' : WaitingView) → v' ≡ v → TurnRun c v v'
same_run c v v' same = own_same c (state_of v.manager) (state_of v'.manager) (ap (λ (x : WaitingView). state_of x.manager) same)

-- a begin names nobody
names_nobody : (since : Option ℕ) (t : TxnId) → names t (begin_of since) ≡ false
names_nobody None t = refl
names_nobody (Some since) t = refl

pub begin_run : (c : Command) (v : WaitingView) (since : Option ℕ) (result : Result TxnId Refusal) (ended : Slots) (v' : WaitingView)
    → Begins v since result ended v' → TurnRun c v v'
begin_run c v since (Ok t) ended v' (told, h) =
    own_as (begin_of since) c (state_of v.manager) (state_of v'.manager) (λ u apart. names_nobody since u) h.run
begin_run c v since (Err r) ended v' h = same_run c v v' h.2

-- a command of the waiter that goes on
abbrev pub on_command : Option (TxnId × Came) → Command
on_command (Some x) = command.Cancel x.0
on_command None = command.Begin

-- a waiter that goes on
pub on_run : (v : WaitingView) (o : Option (TxnId × Came)) (told : Told) (ended : Slots) (v' : WaitingView) → GoesOn v o told ended v'
    → TurnRun (on_command o) v v'
on_run v (Some x) told ended v' h =
    own_as h.call.0.command (command.Cancel x.0) (state_of v.manager) (state_of v'.manager) (λ u apart. h.call.3 u apart) h.call.0.run
on_run v None told ended v' h = same_run command.Begin v v' h.3

first_run : (c : Command) (v v' : WaitingView) → HandsFirst v v' → TurnRun c v v'
first_run c v v' h = subst (TurnRun c v) (sym h.handed) (begin_run c v h.first.since h.result h.ended h.mid h.begins)

pub hands_run : (c : Command) (k : ℕ) (v v' : WaitingView) → HandsOn k v v' → TurnRun c v v'
hands_run c zero v v' same = same_run c v v' same
hands_run c (suc k) v v' (mid, first, rest) =
    own_then c (state_of v.manager) (state_of mid.manager) (state_of v'.manager) (first_run c v mid first) (hands_run c k mid v' rest)

module _ (v : WaitingView) (IsCalled : Slots → WaitingView → Type 0) (off : SetOff) (v' : WaitingView) (h : InTurn v IsCalled off v') where
  -- a call after which begins were handed on is a run, if the call is one
  pub turn_run : (c : Command) → ((own : Slots) (mid : WaitingView) → IsCalled own mid → TurnRun c v mid) → TurnRun c v v'
  turn_run c runs =
      own_then c (state_of v.manager) (state_of h.mid.manager) (state_of v'.manager) (runs h.own h.mid h.called)
      (hands_run c h.hands.count h.mid v' h.hands.hands)

  -- and if nobody went on, it is that call alone
  pub turn_alone : off.went_on ≡ false → IsCalled off.ended v'
  turn_alone none = by h.hands.count h.hands.hands h.hands.sets
    where
      by : (k : ℕ) → HandsOn k h.mid v' → off ≡ record { ended = h.own; went_on = not (k == 0) } → IsCalled off.ended v'
      by zero hands sets =
          subst (λ (x : WaitingView). IsCalled off.ended x) (sym hands)
          (subst (λ (x : Slots). IsCalled x h.mid) (sym (ap (λ (x : SetOff). x.ended) sets)) h.called)
      by (suc k) hands sets = absurd (true≢false (any_more k ∙ sym (ap (λ (x : SetOff). x.went_on) sets) ∙ none))
