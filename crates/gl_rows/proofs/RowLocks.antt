-- The cases of a row's lock, put together.
use Rattle.std.specs.Prelude.{◌≡◌, ◌↔◌, IsTrue, true, None, Some, Option, Result, Ok, List, []}
use Rattle.std.proofs.Common.{refl, sym, ap, subst, ◌∙◌, inl, inr}
use Rattle.gl_modes.specs.declared.node.NodeId.{NodeId}
use Rattle.gl_slots.specs.declared.slots.Slots.{Slots}
use Rattle.gl_slots.specs.Slots.{no_slots}
use Rattle.gl_model.specs.Tellings.{Told}
use Rattle.gl_catalog.specs.Adopting.{AdoptsLocked}
use Rattle.gl_catalog.specs.Completes.{Completes}
use Rattle.gl_catalog.specs.Manager.{ManagerView, state_of}
use Rattle.gl_catalog.specs.Replies.{CallSteps, asking}
use Rattle.gl_rows.specs.declared.answer.RowLocked.{RowLocked}
use Rattle.gl_rows.specs.declared.answer.RowRefusal.{RowRefusal}
use Rattle.gl_rows.specs.Locking.{HasKeys, IsStale, LocksBy, Names, NamesNew, Renames, Replaces, Wish, first_locked, locks}
use Rattle.gl_rows.specs.Naming.{Asks, LocksName, with_asked}
use Rattle.gl_rows.specs.Rows.{RowsView, has_rows}
use Rattle.gl_rows.specs.declared.row.Row.{Row}
use Rattle.gl_rows.proofs.RowNames.{keeps_name, node_in}

module _ (m : ManagerView) (files : List NodeId) (w : Wish) (told : Told) (m' : ManagerView) (ns ns' : Names) where
  abbrev LocksSo : Result RowLocked RowRefusal → Type 0
  LocksSo result = LocksName m files ns w result told m' ns'

  -- by the node that was found
  by_name : (o : Option NodeId) → node_in ns w.row ≡ o → (result : Result RowLocked RowRefusal) (v v' : RowsView) → LocksBy o m v w result told m' v'
      → LocksBy (node_in ns w.row) m v w result told m' v'
  by_name o e result v v' h = subst (λ x. LocksBy x m v w result told m' v') (sym e) h

  -- the row gets a new node
  module _ (k : NodeId) (none : told ≡ []) (renames : Renames ns ns' w.row (Some k)) where
    named_new : (asked asked' : List (List Row)) (left : Slots)
        → Asks {R = RowRefusal} (Ok (first_locked k w.mode)) w.txn.slot w.row (with_asked files ns asked left) (with_asked files ns' asked' left)
        → NamesNew (with_asked files ns asked left) w (first_locked k w.mode) told (with_asked files ns' asked' left)
    named_new asked asked' left asks =
        record { answer_is = refl; nobody_told = none; registers = record { files = refl; names = renames; asked = asks; left = refl } }

    pub renewed : (n : NodeId) → node_in ns w.row ≡ Some n → IsStale (state_of m) n w.keys → Replaces m w.txn w.row.file w.keys w.mode n k m'
        → LocksSo (Ok (first_locked k w.mode))
    renewed n named stale replaces asked asked' left asks = inr (by_name (Some n) named _ _ _ (inr (stale, (replaces, named_new asked asked' left asks))))

    pub vacant_locked : node_in ns w.row ≡ None → has_rows (with_asked files ns [] no_slots) w.row.file ≡ true
        → AdoptsLocked m w.txn w.row.file w.keys w.mode k m' → LocksSo (Ok (first_locked k w.mode))
    vacant_locked bare of_rows adopts asked asked' left asks = inr (by_name None bare _ _ _ (inr (of_rows, (adopts, named_new asked asked' left asks))))

  -- it keeps the one that it has
  pub stands_locked : (n : NodeId) → node_in ns w.row ≡ Some n → (IsStale (state_of m) n w.keys → ⊥) → (x : RowLocked) → x.node ≡ n
      → (IsTrue x.own_keys ↔ HasKeys (state_of m) n w.keys) → CallSteps (state_of m) (locks w n) (asking told) (Ok x.locked) (state_of m')
      → Completes (locks w n) m (asking told x.locked) m' → ns' ≡ ns → LocksSo (Ok x)
  stands_locked n named fresh x node own step completes same asked asked' left asks =
      inr (by_name (Some n) named (Ok x) _ _ (inl (
        fresh,
        (
          record { step = step; completes = completes },
          node,
          own,
          record { files = refl; names = λ q. ap (λ xs. node_in xs q) same ∙ sym (keeps_name ns w.row n named q); asked = asks; left = refl },
        ),
      )))
