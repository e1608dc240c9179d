-- The order of a command's notices.
use Rattle.std.specs.Prelude.{ℕ, ◌+◌, ◌≤◌, List, [], ◌∷◌}
use Rattle.gl_model.specs.declared.answers.Notice.{Notice}
use Rattle.gl_model.specs.declared.txn.TxnId.{TxnId}

-- the notices are for slots from k up to below j, by rising slot
abbrev pub RisingTo : ℕ → List (TxnId × Notice) → ℕ → Type 0
RisingTo k [] j = k ≤ j
RisingTo k (x ∷ xs) j = (k ≤ x.0.slot) × RisingTo (x.0.slot + 1) xs j
