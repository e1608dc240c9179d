-- Rolling back to a savepoint leaves nobody waiting if nobody waited, and so does a commit that keeps locks. For Guarded.serve_back and
-- Guarded.serve_keeping.
use Rattle.std.specs.Prelude.{◌≡◌, ℕ, ◌+◌, ◌==◌, false, Option, Some, None, Ok, min, if◌then◌else◌}
use Rattle.std.proofs.Common.{refl, sym, ap, ◌∙◌}
use Rattle.gl_modes.proofs.Words.{clash, number_same, same_number, split}
use Rattle.gl_modes.specs.declared.mode.Mode.{Mode}
use Rattle.gl_modes.specs.declared.node.NodeId.{NodeId}
use Rattle.gl_model.specs.declared.txn.Status.{Status}
use Rattle.gl_model.specs.declared.txn.Status.TheVariants.{Active, Condemned, Waiting}
use Rattle.gl_model.specs.declared.txn.TxnId.{TxnId}
use Rattle.gl_model.specs.State.{State, is_wait, status_in, status_of}
use Rattle.gl_model.specs.Tellings.{Told}
use Rattle.gl_table.specs.Keeping.{RenewsOrEnds}
use Rattle.gl_table.specs.Table.{state_of as table_state}
use Rattle.gl_table.proofs.calls.Ends.{released_gone}
use Rattle.gl_catalog.specs.Manager.{ManagerView, state_of}
use Rattle.gl_catalog.specs.Savepoints.{TakesBack}
use Rattle.gl_steps.specs.Promises.{NobodyWaits}
use Rattle.gl_rows.specs.Releasing.{CommitsAndKeeps, GoesBackTo}
use Rattle.gl_rows.specs.Rows.{RegistryView}
use Rattle.gl_rows.proofs.Tidied.{at_end_upkeep, meanwhile_upkeep}
use Rattle.gl_rows.proofs.Upkeep.{LeavesAll, upkeep_leaves}
use Rattle.gl_waiting.proofs.Backs.{goes_on, keeping_goes_on}
use Rattle.gl_c.proofs.serving.RowCalls.{leaves_idle}

-- if whoever waits waited before, and nobody did, nobody waits
idle_from : (s s' : State) → ((u : ℕ) (n : NodeId) (w : Mode) → status_of s' u ≡ Some (Waiting n w) → status_of s u ≡ Some (Waiting n w)) → NobodyWaits s
    → NobodyWaits s'
idle_from s s' waited none u = by (status_of s' u) refl
  where
    by : (o : Option Status) → status_of s' u ≡ o → is_wait o ≡ false
    by None e = refl
    by (Some Active) e = refl
    by (Some Condemned) e = refl
    by (Some (Waiting n w)) e = ap is_wait (sym (waited u n w e)) ∙ none u

module _ (m mid : ManagerView) (t : TxnId) (mark k : ℕ) (list : Told) (h : TakesBack t mark k m list mid) where
  abbrev s : State
  s = table_state m.table

  abbrev now : State
  now = table_state mid.table

  idle : NobodyWaits (state_of m) → NobodyWaits (state_of mid)
  idle = idle_from s now (λ u. (goes_on h.nodes s now t.slot u h.back.unlocks).waits)

-- The same, with the rows that are then let go.
module _ (g : RegistryView) (v : RegistryView) (t : TxnId) (mark k : ℕ) (list : Told)
    (h : GoesBackTo t mark g.manager g.rows (Ok k) list v.manager v.rows) where
  left : LeavesAll (state_of h.0) (state_of v.manager)
  left = upkeep_leaves (state_of h.0) (state_of v.manager) (meanwhile_upkeep h.0 v.manager g.rows v.rows t.slot h.2)

  pub back_quiet : NobodyWaits (state_of g.manager) → NobodyWaits (state_of v.manager)
  back_quiet none = leaves_idle (state_of h.0) (state_of v.manager) left (idle g.manager h.0 t mark k list h.1 none)

-- A commit that keeps locks: its own slot does not wait after it, since it is active or free.

own_quiet : (t : TxnId) (since : ℕ) (s s' : State) (next : Option TxnId) → RenewsOrEnds t since s next s' → is_wait (status_of s' t.slot) ≡ false
own_quiet t since s s' (Some u) h =
    ap (λ x. is_wait (status_of x t.slot)) h.2 ∙ ap (λ b. is_wait (status_in (if b then Some (record {
      age = s.begins + 1;
      since = min since (s.begins + 1);
      status = Active;
    }) else s.txns t.slot))) (number_same t.slot t.slot refl)
own_quiet t since s s' None h = ap (λ x. is_wait (status_of x t.slot)) h.1 ∙ ap is_wait (released_gone s t.slot)

module _ (g v : RegistryView) (t : TxnId) (keep since : ℕ) (next : Option TxnId) (list : Told)
    (h : CommitsAndKeeps t keep since g.manager g.rows (Ok next) list v.manager v.rows) where
  waited : (u : ℕ) (n : NodeId) (w : Mode) → status_of (state_of h.0) u ≡ Some (Waiting n w) → status_of (state_of g.manager) u ≡ Some (Waiting n w)
  waited u n w e = split (t.slot == u)
      (λ same. clash (ap (λ x. is_wait (status_of (state_of h.0) x)) (same_number t.slot u same) ∙ ap is_wait e)
      (own_quiet t since h.1.keeps.mid (table_state h.0.table) next h.1.keeps.renews))
      (λ apart. (keeping_goes_on g.manager h.0 t keep since next list h.1 u (λ same. clash (number_same t.slot u same) apart)).waits n w e)

  pub keeping_quiet : NobodyWaits (state_of g.manager) → NobodyWaits (state_of v.manager)
  keeping_quiet none =
      leaves_idle (state_of h.0) (state_of v.manager) (upkeep_leaves (state_of h.0) (state_of v.manager)
      (at_end_upkeep h.0 v.manager g.rows v.rows t.slot h.2)) (idle_from (state_of g.manager) (state_of h.0) waited none)
