use Rattle.std.proofs.Common.{ℕ, refl, subst, sym}
use Rattle.std.specs.Prelude.{OnErr, OnOk, Result, Ok, Err}
use Rattle.gl_slots.specs.declared.slots.Slots.{Slots}
use Rattle.gl_modes.specs.declared.refusal.Refusal.{Refusal}
use Rattle.gl_model.specs.Tellings.{Told}
use Rattle.gl_model.specs.declared.txn.TxnId.{TxnId}
use Rattle.gl_catalog.specs.Manager.{state_of}
use Rattle.gl_wakes.specs.Wakes.{HasEnded}
use Rattle.gl_wakes.proofs.Waking.{ended_none}
use Rattle.gl_waiting.specs.Asking.{RollsBackTo}
use Rattle.gl_waiting.specs.Delivering.{ComesToNothing, Delivered, DeliveryView, unlocking}
use Rattle.gl_waiting.specs.Waiting.{WaitingView}
use Rattle.gl_waiting.proofs.Counting.{back_or_not}
use Rattle.gl_waiting.proofs.Awaiting.{due_on, waiting_with}
use Rattle.gl_waiting.proofs.waiter_table.WaiterTable.release_since.Goals as goal

back_ended : (t : TxnId) (d d' : DeliveryView) (told : Told) (ended : Slots) (result : Result ℕ Refusal)
    → OnOk result (Delivered d (unlocking t) told ended d') → OnErr result (ComesToNothing d told ended d')
    → HasEnded (state_of d.manager) (state_of d'.manager) ended
back_ended t d d' told ended (Ok k) done none = done.wakes.all
back_ended t d d' told ended (Err r) done none =
    subst (λ (x : DeliveryView). HasEnded (state_of d.manager) (state_of x.manager) ended) (sym none.same) (ended_none (state_of d.manager) ended)

pub invariant_of-self : goal.invariant_of-self
invariant_of-self c =
    due_on (state_of c.self.inside.delivery.manager) (state_of c.release_since-released.new.self.manager) c.release_since-released.result.1 c.law.ensures.lawful
    (back_ended c.args.txn c.self.inside.delivery c.release_since-released.new.self c.release_since-released.new.told.items
    c.release_since-released.result.1 c.release_since-released.result.0 c.release_since-released.ensures.delivered
    c.release_since-released.ensures.refused) c.self.inside.due c.union-self-inside.result c.self.inside.places
    c.union-self-inside.ensures c.self.invariant

pub returns : goal.returns
returns c =
    let back = c.release_since-released.ensures in
    let told = c.release_since-released.new.told.items in
    let result = c.release_since-released.result in
    subst
    (λ (v : WaitingView). RollsBackTo v c.args.txn c.args.mark result.0 told result.1
    (waiting_with c.release_since-released.new.self c.self.inside.places c.self.inside.begins)) c.self.view_is
    (record {
      back = back.back;
      delivered = back.delivered;
      refused = back.refused;
      run = back.run;
      beside = (refl, refl, refl);
      nothing = back_or_not c.self.inside.delivery c.release_since-released.new.self told result.1 c.self.inside.begins c.self.inside.places result.0
          back.refused;
    })
