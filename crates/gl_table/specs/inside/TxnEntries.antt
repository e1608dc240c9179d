-- The transaction entries that the code keeps, as transactions by slot.
use Rattle.std.specs.Prelude.{ℕ, Bool, true, false, List, Option, Some, None, is_some, slice_get}
use Rattle.std.specs.Option.{option_map_or}
use Rattle.gl_table.specs.declared.txn_entry.TxnEntry.{TxnEntry}
use Rattle.gl_model.specs.State.{Txn, is_wait, status_in}

-- the transaction of an entry that exists and is taken
abbrev pub txn_in : Option (Option TxnEntry) → Option Txn
txn_in None = None
txn_in (Some None) = None
txn_in (Some (Some x)) = Some (record { age = x.age; since = x.since; status = x.status })

-- the transactions by slot
abbrev pub txns_of : List (Option TxnEntry) → ℕ → Option Txn
txns_of txn_entries t = txn_in (slice_get txn_entries t)

-- the entries by slot, as a contract sees them
pub record TxnEntryList : Type 0 where
  pub items : List (Option TxnEntry)

-- a transaction lives in the slot
abbrev pub lives_at : List (Option TxnEntry) → ℕ → Bool
lives_at txn_entries t = is_some (txns_of txn_entries t)

-- the transaction in the slot waits
abbrev pub waits_at : List (Option TxnEntry) → ℕ → Bool
waits_at txn_entries t = is_wait (status_in (txns_of txn_entries t))

-- the entry is free
abbrev pub is_free : Option TxnEntry → Bool
is_free None = true
is_free (Some x) = false

-- the slot exists and is free
abbrev pub is_free_at : List (Option TxnEntry) → ℕ → Bool
is_free_at txn_entries t = option_map_or is_free (slice_get txn_entries t) false
