-- What the commands that make nodes leave, written out.
use Rattle.gl_steps.proofs.Words.{◌+◌, ◌∙◌, ◌≡◌, ap, ap₂, born_index, born_node, IsAdopted, IsIndexBorn, List, marked, Node, NodeId, Rec, record_parents, Shape}
use Rattle.gl_steps.proofs.Words.{State, with_grant, with_graph, X, ℕ}
use Rattle.gl_graph.specs.Changes.{IsBorn}

-- the state with a node more
abbrev pub made : State → Node → State
made s node = with_graph s (born_node s.graph node)

-- the state with a record more, whose file is one of which rows were adopted
abbrev pub adopted : State → ℕ → NodeId → List ℕ → State
adopted s key f keys = with_graph s (marked (born_node s.graph (record { key = key; shape = Rec keys; parents = record_parents s.graph f keys })) f)

-- the name of the next node, under this key
abbrev pub next_id : State → ℕ → NodeId
next_id s key = record { key = key; birth = s.graph.births + 1 }

-- a new node
pub made_is : (s s' : State) {n : NodeId} {shape : Shape} {ps : List NodeId} → IsBorn s.graph s'.graph n shape ps → s' ≡ with_graph s s'.graph
    → s' ≡ made s (record { key = n.key; shape = shape; parents = ps })
made_is s s' born same = same ∙ ap (with_graph s) born.after

-- an adopted record
pub adopted_is : (s s' : State) {n : NodeId} {f : NodeId} {keys : List ℕ} → IsAdopted s.graph s'.graph n f keys → s' ≡ with_graph s s'.graph
    → s' ≡ adopted s n.key f keys
adopted_is s s' born same = same ∙ ap (with_graph s) born.after

-- a new index with its intervals
pub indexed_is : (s s' : State) {n : NodeId} {ps : List NodeId} {f : NodeId} {bs : List ℕ} (born : IsIndexBorn s.graph s'.graph n ps f bs)
    → s' ≡ with_graph s s'.graph → s' ≡ with_graph s (born_index s.graph n.key ps f bs born.interval_keys)
indexed_is s s' born same = same ∙ ap (with_graph s) born.after

-- a new record, held in X
pub inserted_is : (s s' : State) (t : ℕ) {n : NodeId} {shape : Shape} {ps : List NodeId} → IsBorn s.graph s'.graph n shape ps
    → s' ≡ with_grant (with_graph s s'.graph) t n X
    → s' ≡ with_grant (made s (record { key = n.key; shape = shape; parents = ps })) t (next_id s n.key) X
inserted_is s s' t {n = n} born same = same ∙ ap₂ (λ g b. with_grant (with_graph s g) t (record { key = n.key; birth = b }) X) born.after born.birth
