-- What the rounds of a crew lock.
use Rattle.std.specs.Prelude.{◌≡◌, ℕ, ◌%◌, ◌==◌, true, List, [], ◌∷◌, if◌then◌else◌, slice_index_or}
use Rattle.gl_modes.specs.declared.mode.Mode.{Mode}
use Rattle.gl_modes.specs.declared.mode.Mode.TheVariants.{IX, X}
use Rattle.gl_modes.specs.declared.node.NodeId.{NodeId}
use Rattle.gl_modes.specs.Modes.{is_at_least}
use Rattle.gl_model.specs.declared.txn.TxnId.{TxnId}
use Rattle.gl_wakes.specs.declared.grant.Grant.{Grant}

-- the name of no node
abbrev pub no_node : NodeId
no_node = record { key = 0; birth = 0 }

-- the key of the record in a round: in odd rounds the session's number, in even ones 0
abbrev pub key_of : ℕ → ℕ → ℕ
key_of session round = if round % 2 == 1 then session else 0

abbrev pub record_of : List NodeId → ℕ → ℕ → NodeId
record_of records session round = slice_index_or records (key_of session round) no_node

-- t was granted this node, in a mode that covers the requested one
pub record IsGranted (t : TxnId) (n : NodeId) (k : Mode) (g : Grant) : Type 0 where
  pub txn : g.txn ≡ t
  pub node : g.node ≡ n
  pub covers : is_at_least g.mode k ≡ true

-- what t was granted in a round: each node of its path in IX, from the database down, and then its record in X
abbrev pub IsLocked : TxnId → List NodeId → NodeId → List Grant → Type 0
IsLocked t [] n (g ∷ []) = IsGranted t n X g
IsLocked t (m ∷ path) n (g ∷ grants) = IsGranted t m IX g × IsLocked t path n grants
IsLocked t path n grants = ⊥
