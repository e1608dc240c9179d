-- Which nodes a path in a part passes, and on which of them it lacks in the main manager what it needs there.
use Rattle.std.specs.Prelude.{◌≡◌, ℕ, Bool, true, false, not, ◌&&◌, ◌||◌, List, [], ◌∷◌, if◌then◌else◌, take}
use Rattle.std.specs.Prelude.{Option, Some, None, ◌⊎◌}
use Rattle.std.specs.List.{list_any}
use Rattle.gl_modes.specs.declared.mode.Mode.{Mode}
use Rattle.gl_modes.specs.declared.mode.Mode.TheVariants.{NL, S, X}
use Rattle.gl_modes.specs.declared.node.NodeId.{NodeId}
use Rattle.gl_modes.specs.Modes.{is_at_least, same_mode}
use Rattle.gl_modes.specs.Nodes.{same_node}
use Rattle.gl_graph.specs.Graph.{Graph, indexes_of, is_record_of, parents_of, shape_of}
use Rattle.gl_graph.specs.Shapes.{is_file_shape, is_record_shape}
use Rattle.gl_model.specs.State.{State, is_write}
use Rattle.gl_catalog.specs.Paths.{intention}
use Rattle.gl_parts.specs.declared.passing.AfterIndex.{AfterIndex}
use Rattle.gl_parts.specs.declared.passing.AfterIndex.TheVariants.{BeginsAnew, LacksKey, WaitsOn}
use Rattle.gl_parts.specs.declared.passing.Mark.{Mark}
use Rattle.gl_parts.specs.declared.passing.Target.{Target}
use Rattle.gl_parts.specs.Visiting.{IsClear}

-- the parents on which a path requests an intention: to write, all; to read, the first
abbrev pub asked_above : Bool → Graph → NodeId → List NodeId
asked_above writes g n = if writes then parents_of g n else take 1 (parents_of g n)

-- the steps of a way up from n to m: on each an intention is requested for the node before
abbrev pub IsWay : Bool → Graph → NodeId → List NodeId → NodeId → Type 0
IsWay writes g n [] m = n ≡ m
IsWay writes g n (p ∷ way) m = (list_any (same_node p) (asked_above writes g n) ≡ true) × IsWay writes g p way m

-- a way leads from n up to m, in any number of steps
abbrev pub LeadsTo : Bool → Graph → NodeId → NodeId → Type 0
LeadsTo writes g n m = (way : List NodeId) × IsWay writes g n way m

-- a mode that a record can have, or another node
abbrev pub is_mode_of : Bool → Mode → Bool
is_mode_of is_record m = not (same_mode m NL || (is_record && not (same_mode m S || same_mode m X)))

-- the target can have the mode: a row of a file that of a record, whether its node is there or not
abbrev pub can_have : Graph → Target → Bool
can_have g x =
    if x.is_row then is_file_shape (shape_of g x.node) && is_mode_of true x.mode else is_mode_of (is_record_shape (shape_of g x.node)) x.mode

-- where the ways of a target begin: at its node; of a row at its file and, to write, at each index of that, since the row is below an interval of each. What
-- the part refuses has none
abbrev pub starts : Graph → Target → List NodeId
starts g x = if can_have g x then x.node ∷ (if x.is_row && is_write x.mode then indexes_of g x.node else []) else []

-- a way of these leads up to n
pub record LeadFrom (writes : Bool) (g : Graph) (from : List NodeId) (n : NodeId) : Type 0 where
  pub start : NodeId
  pub is_one : list_any (same_node start) from ≡ true
  pub leads : LeadsTo writes g start n

-- a path to the target passes n: it may request an intention there
abbrev pub Passes : Graph → Target → NodeId → Type 0
Passes g x n = LeadFrom (is_write x.mode) g (starts g x) n

-- the target is a row of this file
abbrev pub is_row_of : NodeId → Target → Bool
is_row_of f x = x.is_row && same_node x.node f

-- the indexes for which a call that waits for the target has brought a key: of a row those of its file
abbrev pub keyed_by : Graph → Target → List NodeId
keyed_by g x = if x.is_row then indexes_of g x.node else []

-- a path to the target is one to write a record of this file, by its node
abbrev pub writes_record_of : Graph → NodeId → Target → Bool
writes_record_of g f x = is_write x.mode && not x.is_row && is_record_of g f x.node

-- what becomes of a wait for the target after an index of this file was made: a call for a row lacks a key, and a path to write a record passes more
abbrev pub after_index : Graph → Target → NodeId → AfterIndex
after_index g x f = if is_row_of f x then LacksKey else if writes_record_of g f x then BeginsAnew else WaitsOn

-- what slot t holds on n in a manager that may be unknown: then NL
abbrev pub held_if_known : Option State → ℕ → NodeId → Mode
held_if_known None t n = NL
held_if_known (Some s) t n = s.held t n

-- slot t holds the mode or a greater one on the node of a mark, in the part or, as far as that is known, in the main manager
abbrev pub is_held_at : Option State → State → ℕ → Mode → Mark → Bool
is_held_at main part t m mark = is_at_least (part.held t mark.in_part) m || is_at_least (held_if_known main t mark.in_main) m

-- the node of a mark is among these, and slot t does not hold the mode there
abbrev pub is_unheld_at : Option State → State → ℕ → Mode → List NodeId → Mark → Bool
is_unheld_at main part t m passed mark = list_any (same_node mark.in_part) passed && not (is_held_at main part t m mark)

-- slot t lacks the intention on the node of a mark: a path to its target passes the node, and t holds the intention there neither in the part nor in the main
-- manager
pub record Lacks (main : Option State) (part : State) (t : ℕ) (x : Target) (mark : Mark) : Type 0 where
  pub passes : Passes part.graph x mark.in_part
  pub unheld : is_held_at main part t (intention x.mode) mark ≡ false

-- this is the first of a list with the property, if any has it
abbrev pub IsFirst : {A : Type 0} → (A → Type 0) → List A → Option A → Type 0
IsFirst P [] found = found ≡ None
IsFirst P (x ∷ xs) found = (P x × (found ≡ Some x)) ⊎ ((P x → ⊥) × IsFirst P xs found)

-- the marks for a node may be cleared: nobody has more than an intention on it or waits there for it, and no request for more is in progress, which may wait
-- for a node above it
pub record MayClear (main : State) (n : NodeId) (in_progress : ℕ) : Type 0 where
  pub clear : IsClear main n
  pub none : in_progress ≡ 0
