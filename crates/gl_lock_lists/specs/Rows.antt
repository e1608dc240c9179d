-- Values by node, as a contract sees them: the record of an `IndexMap` that hashes by nothing.
use Rattle.std.specs.Prelude.{ℕ, refl}
use Rattle.std.specs.Coded.{Coded, code_by, coded×, coded_ℕ}
use base.Stored.{coded_unit}
use Rattle.indexmap.specs.IndexMap.{IndexMap}
use Rattle.indexmap.specs.Layout.{hash_map_code}
use Rattle.gl_modes.specs.declared.node.NodeId.{NodeId}

-- values by node, in their order, and how many more can be inserted without memory
abbrev pub Listed : Type 0 → Type 0
Listed V = IndexMap NodeId V (Unit {0})

-- a node is stored as the pair of its fields
abbrev pub node_code : Coded NodeId
node_code = code_by (ℕ × ℕ) (coded× coded_ℕ coded_ℕ) (λ n. (n.key, n.birth)) (λ p. record { key = p.0; birth = p.1 }) (λ _. refl)

-- a map of nodes is stored as its entries and its room
abbrev pub listed_code : {V : Type 0} → Coded V → Coded (Listed V)
listed_code v = hash_map_code node_code v coded_unit

-- the most entries that are scanned
abbrev pub short : ℕ
short = 16
