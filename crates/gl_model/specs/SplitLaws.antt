-- The laws of states whose intervals split and merge, as statements. A split or a merge is one that no test refuses.
use Rattle.std.specs.Prelude.{◌≡◌, ◌≢◌, ℕ, true, Some, None, if◌then◌else◌}
use Rattle.gl_modes.specs.declared.node.NodeId.{NodeId}
use Rattle.gl_graph.specs.Graph.{Graph, is_live}
use Rattle.gl_graph.specs.Refusals.{first_refusal}
use Rattle.gl_model.specs.Lawful.{effective, EffS, IsLawful, SameBelow}
use Rattle.gl_model.specs.State.{is_waiting_at, State, status_of, waits_for}
use Rattle.gl_model.specs.Tellings.{told_from}
use Rattle.gl_model.specs.declared.answers.Notice.TheVariants as notice
use Rattle.gl_model.specs.declared.txn.TxnId.{TxnId}
use Rattle.gl_graph.specs.Splits.{IsSplit, merge, next_interval}
use Rattle.gl_model.specs.Splits.{merge_tests, merged_by, split_by, split_tests}

-- in a lawful state t may split interval i at the bound, which makes n
pub record SplitsInterval (s : State) (t : TxnId) (i n : NodeId) (bound : ℕ) (g' : Graph) : Type 0 where
  pub lawful : IsLawful s
  pub allowed : first_refusal (split_tests s t i bound) ≡ None
  pub after : IsSplit s.graph g' i n bound

-- in a lawful state t may merge interval i with the next one
pub record MergesIntervals (s : State) (t : TxnId) (i : NodeId) : Type 0 where
  pub lawful : IsLawful s
  pub allowed : first_refusal (merge_tests s t i) ≡ None

-- the state after interval i was merged with the next one
abbrev pub merged : State → NodeId → State
merged s i = merged_by s (next_interval s.graph i) (merge s.graph i)

-- a split leaves the state lawful
abbrev pub SplitsKeepLaw : Type 0
SplitsKeepLaw = (s : State) (t : TxnId) (i n : NodeId) (bound : ℕ) (g' : Graph) → SplitsInterval s t i n bound g' → IsLawful (split_by s t.slot i g' n)

-- and so does a merge
abbrev pub MergesKeepLaw : Type 0
MergesKeepLaw = (s : State) (t : TxnId) (i : NodeId) → MergesIntervals s t i → IsLawful (merged s i)

-- a split changes no effective mode, of whomever on whichever node
abbrev pub SplitsKeepEffects : Type 0
SplitsKeepEffects =
    (s : State) (t : TxnId) (i n : NodeId) (bound : ℕ) (g' : Graph) → SplitsInterval s t i n bound g' → (u : ℕ) (q : NodeId) → is_live s.graph q ≡ true
    → effective (split_by s t.slot i g' n) u q ≡ effective s u q

-- and on the new interval each transaction has the effective mode that it had on the old one
abbrev pub SplitsShareEffects : Type 0
SplitsShareEffects =
    (s : State) (t : TxnId) (i n : NodeId) (bound : ℕ) (g' : Graph) → SplitsInterval s t i n bound g' → (u : ℕ)
    → effective (split_by s t.slot i g' n) u n ≡ effective s u i

-- a merge changes no effective mode on a node that is left
abbrev pub MergesKeepEffects : Type 0
MergesKeepEffects =
    (s : State) (t : TxnId) (i : NodeId) → MergesIntervals s t i → (u : ℕ) (q : NodeId) → is_live (merge s.graph i) q ≡ true
    → effective (merged s i) u q ≡ effective s u q

-- nobody else reads an interval that may be split: it stays as it is for a scan that reads it
abbrev pub SplitsNeedNoReader : Type 0
SplitsNeedNoReader =
    (s : State) (t : TxnId) (i n : NodeId) (bound : ℕ) (g' : Graph) → SplitsInterval s t i n bound g' → (u : ℕ) → u ≢ t.slot → EffS s u i → ⊥

-- nor one of two that may be merged
abbrev pub MergesNeedNoReader : Type 0
MergesNeedNoReader =
    (s : State) (t : TxnId) (i : NodeId) → MergesIntervals s t i → (u : ℕ) → u ≢ t.slot → (EffS s u i → ⊥) × (EffS s u (next_interval s.graph i) → ⊥)

-- below a node that another transaction reads, a split leaves the same records with the same keys
abbrev pub SplitsKeepWhatOthersRead : Type 0
SplitsKeepWhatOthersRead =
    (s : State) (t : TxnId) (i n : NodeId) (bound : ℕ) (g' : Graph) → SplitsInterval s t i n bound g' → (u : ℕ) → u ≢ t.slot → (q : NodeId) → EffS s u q
    → SameBelow s.graph g' q

-- and so does a merge
abbrev pub MergesKeepWhatOthersRead : Type 0
MergesKeepWhatOthersRead =
    (s : State) (t : TxnId) (i : NodeId) → MergesIntervals s t i → (u : ℕ) → u ≢ t.slot → (q : NodeId) → EffS s u q → SameBelow s.graph (merge s.graph i) q

-- after a split nobody waits for whom he did not wait for before
abbrev pub SplitsAddNoWait : Type 0
SplitsAddNoWait =
    (s : State) (t : TxnId) (i n : NodeId) (bound : ℕ) (g' : Graph) → SplitsInterval s t i n bound g' → (a b : ℕ)
    → waits_for (split_by s t.slot i g' n) a b ≡ true → waits_for s a b ≡ true

-- nor after a merge
abbrev pub MergesAddNoWait : Type 0
MergesAddNoWait = (s : State) (t : TxnId) (i : NodeId) → MergesIntervals s t i → (a b : ℕ) → waits_for (merged s i) a b ≡ true → waits_for s a b ≡ true

-- who waited for the interval that is split is told that it moved, and nobody else is told of anything
abbrev pub SplitsTellWaiters : Type 0
SplitsTellWaiters =
    (s : State) (t : TxnId) (i n : NodeId) (bound : ℕ) (g' : Graph) → SplitsInterval s t i n bound g' → (u : ℕ)
    → told_from (split_by s t.slot i g' n) u (status_of s u) ≡ (if is_waiting_at s u i then Some notice.Moved else None)

-- who waited for the interval that a merge removes is told that it is gone, and nobody else is told of anything
abbrev pub MergesTellWaiters : Type 0
MergesTellWaiters =
    (s : State) (t : TxnId) (i : NodeId) → MergesIntervals s t i → (u : ℕ)
    → told_from (merged s i) u (status_of s u) ≡ (if is_waiting_at s u (next_interval s.graph i) then Some notice.Gone else None)
