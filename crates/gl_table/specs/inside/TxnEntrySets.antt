-- What holds of the fields of the transaction entries.
use Rattle.gl_slots.specs.Limit.{most_slots}
use Rattle.std.specs.Prelude.{◌≡◌, ◌≤◌, ℕ, length}
use Rattle.gl_slots.specs.Slots.{has_slot}
use Rattle.gl_table.specs.declared.txn_entries.TxnEntries.TheInside.{Inside}
use Rattle.gl_table.specs.inside.TxnEntries.{TxnEntryList, is_free_at, lives_at, waits_at}

-- what a contract sees of the fields
abbrev pub txn_entries_of : Inside → TxnEntryList
txn_entries_of s = record { items = s.list.items }

-- the sets are those of the free slots, of those with a transaction, and of those that wait
pub record AreTxnEntries (s : Inside) : Type 0 where
  pub few : length s.list.items ≤ most_slots
  pub free : (u : ℕ) → has_slot s.free u ≡ is_free_at s.list.items u
  pub living : (u : ℕ) → has_slot s.living u ≡ lives_at s.list.items u
  pub waiting : (u : ℕ) → has_slot s.waiting u ≡ waits_at s.list.items u
