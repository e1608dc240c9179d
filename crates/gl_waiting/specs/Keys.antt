-- The keys of a row.
use Rattle.std.specs.Prelude.{ℕ, List, take}
use Rattle.gl_waiting.specs.declared.keys.RowKeys.{RowKeys}

-- the keys, in order
abbrev pub keys_in : RowKeys → List ℕ
keys_in k = take k.count k.keys
