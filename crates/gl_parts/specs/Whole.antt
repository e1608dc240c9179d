-- Several managers that work as one, a main one and parts: what is held of a node in the whole, and who waits for whom.
use Rattle.std.specs.Prelude.{◌≡◌, ℕ, Bool, true, false, List, [], ◌∷◌, Option, Some, None, is_some, map, ⊤}
use Rattle.std.specs.List.{list_any}
use Rattle.gl_modes.specs.declared.mode.Mode.{Mode}
use Rattle.gl_modes.specs.declared.mode.Mode.TheVariants.{NL, IX}
use Rattle.gl_modes.specs.declared.node.NodeId.{NodeId}
use Rattle.gl_modes.specs.Modes.{is_at_least, supremum}
use Rattle.gl_graph.specs.Graph.{Graph, parents_of}
use Rattle.gl_model.specs.declared.answers.Detect.TheVariants.{AtBlock}
use Rattle.gl_model.specs.State.{State, empty_state, waits_for}

-- one of the managers: its state, and the name that a node of the whole has there, if it is there
pub record Part : Type 0 where
  pub state : State
  pub name : NodeId → Option NodeId

-- the property holds of each
abbrev pub Each : {A : Type 0} → (A → Type 0) → List A → Type 0
Each P [] = ⊤
Each P (p ∷ ps) = P p × Each P ps

-- the node is in the part
abbrev pub is_in : NodeId → Part → Bool
is_in n p = is_some (p.name n)

-- what is held of the node with this name, NL if there is none
abbrev pub held_by_name : (NodeId → Mode) → Option NodeId → Mode
held_by_name held None = NL
held_by_name held (Some n) = held n

-- the mode in which slot t holds n in the part, NL if the node is not there
abbrev pub held_at : Part → ℕ → NodeId → Mode
held_at p t n = held_by_name (p.state.held t) (p.name n)

-- what t holds of n in the whole: the supremum of what it holds in each manager
abbrev pub held_in : List Part → ℕ → NodeId → Mode
held_in [] t n = NL
held_in (p ∷ ps) t n = supremum (held_at p t n) (held_in ps t n)

-- an intention, or nothing
abbrev pub is_intention : Mode → Bool
is_intention m = is_at_least IX m

-- the node is in one of the managers at most
abbrev pub IsInOne : NodeId → List Part → Type 0
IsInOne n [] = ⊤
IsInOne n (p ∷ ps) = (is_in n p ≡ true → list_any (is_in n) ps ≡ false) × IsInOne n ps

-- the main manager has each node that is in several. The parts hold intentions alone on such a node; and if anybody holds more on it in the main manager,
-- then everybody holds there what it holds in any part
pub record IsLedBy (main : Part) (ps : List Part) : Type 0 where
  pub apart : (n : NodeId) → is_in n main ≡ false → IsInOne n ps
  pub intentions : (n : NodeId) → is_in n main ≡ true → Each (λ p. (t : ℕ) → is_intention (held_at p t n) ≡ true) ps
  pub copied : (n : NodeId) (u : ℕ) → is_intention (held_at main u n) ≡ false
      → Each (λ p. (t : ℕ) → is_at_least (held_at main t n) (held_at p t n) ≡ true) ps

-- the whole as one state: its graph, and what is held in it; who lives and waits is left to the parts
abbrev pub whole : Graph → List Part → State
whole g ps = record (empty_state AtBlock 0) { graph = g; held = held_in ps }

-- each node that is in the part has the same parents there as in the whole: all of them are in the part too
abbrev pub HasParentsOf : Graph → Part → Type 0
HasParentsOf g p = (n m : NodeId) → p.name n ≡ Some m → map (λ q. Some q) (parents_of p.state.graph m) ≡ map p.name (parents_of g n)

-- t waits for u in some part
abbrev pub waits_in : List Part → ℕ → ℕ → Bool
waits_in ps t u = list_any (λ p. waits_for p.state t u) ps
