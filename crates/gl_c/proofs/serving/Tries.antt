-- A path that is tried leaves nobody waiting if nobody waited. For Guarded.try_path.
use Rattle.gl_slots.specs.declared.slots.Slots.{Slots}
use Rattle.std.specs.Prelude.{ℕ, Bool, true, false, Result, Ok, Err}
use Rattle.std.proofs.Common.{sym, subst, inl, inr}
use Rattle.gl_modes.specs.declared.refusal.Refusal.{Refusal}
use Rattle.gl_model.specs.declared.txn.TxnId.{TxnId}
use Rattle.gl_model.specs.Tellings.{Told}
use Rattle.gl_steps.specs.Promises.{NobodyWaits}
use Rattle.gl_catalog.specs.Manager.{ManagerView, state_of}
use Rattle.gl_catalog.specs.Paths.{Ask}
use Rattle.gl_rows.specs.Releasing.{GoesBackTo}
use Rattle.gl_waiting.specs.Delivering.{ComesToNothing, DeliveryView}
use Rattle.gl_waiting.specs.Delivering.{registry_in as registry_of}
use Rattle.gl_waiting.specs.declared.tries.Keep.{Keep}
use Rattle.gl_waiting.specs.declared.tries.Tried.{Tried}
use Rattle.gl_waiting.specs.Tries.{IsTried, LeavesTries, gives_back, lock_count}
use Rattle.gl_waiting.proofs.RowTrying.{no_wait_txns}
use Rattle.gl_c.proofs.serving.Backs.{back_quiet}

module _ (k : Keep) (t : TxnId) (ask : Ask) (d : DeliveryView) (came : Tried) (told : Told) (ended : Slots) (d' : DeliveryView)
    (h : IsTried k t ask d came told ended d') where
  abbrev between : DeliveryView
  between = record d { manager = h.mid }

  abbrev Leaves : Bool → Type 0
  Leaves b = LeavesTries b t (lock_count d.manager t) d.manager.accepted between told ended d'

  pub path_idle : NobodyWaits (state_of d.manager) → NobodyWaits (state_of d'.manager)
  path_idle idle = by (gives_back k came) h.leaves
    where
      there : NobodyWaits (state_of h.mid)
      there u = no_wait_txns (state_of d.manager) (state_of h.mid) h.grants.txns u (idle u)

      stays : ComesToNothing between told ended d' → NobodyWaits (state_of d'.manager)
      stays none = subst (λ (x : DeliveryView). NobodyWaits (state_of x.manager)) (sym none.same) there

      rolls : (mark : ℕ) (x : Result ℕ Refusal) → GoesBackTo t mark h.mid d.rows x told d'.manager d'.rows → NobodyWaits (state_of d'.manager)
      rolls mark (Ok n) back = back_quiet (registry_of between) (registry_of d') t mark n told back there
      rolls mark (Err r) back = subst (λ (m : ManagerView). NobodyWaits (state_of m)) (sym back.1.same_manager) there

      by : (b : Bool) → Leaves b → NobodyWaits (state_of d'.manager)
      by false none = stays none
      by true (inl left) = stays left.1
      by true (inr left) = rolls (lock_count d.manager t) left.1.released left.1.back
