use Rattle.gl_table.proofs.Words.{◌≡◌, has_slot, nat_lt, None, replicate, ℕ}
use Rattle.gl_table.proofs.txn_entries.TxnEntries.new.Given as goal

-- so many free entries, whose slots are in the set
abbrev pub invariant-loop-slot : goal.invariant-loop-slot
invariant-loop-slot l = (l.list.items ≡ replicate l.slot None) × ((u : ℕ) → has_slot l.free u ≡ nat_lt u l.slot)
