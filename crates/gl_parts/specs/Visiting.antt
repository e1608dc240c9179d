-- What a visit of a part has left to copy, when a mark is not needed any more, and where a request is made.
use Rattle.std.specs.Prelude.{◌≡◌, ℕ, ◌<◌, Bool, true, false, not, ◌&&◌, ◌||◌, Option, Some, None, if◌then◌else◌}
use Rattle.std.specs.List.{list_any}
use Rattle.gl_modes.specs.declared.mode.Mode.{Mode}
use Rattle.gl_modes.specs.declared.node.NodeId.{NodeId}
use Rattle.gl_modes.specs.Modes.{is_at_least}
use Rattle.gl_header.specs.Header.{is_waiter}
use Rattle.gl_model.specs.State.{State}
use Rattle.gl_parts.specs.declared.visits.ToCopy.{ToCopy}
use Rattle.gl_parts.specs.declared.visits.Way.{Way}
use Rattle.gl_parts.specs.declared.visits.Way.TheVariants.{AfterMain, Here, InMain}
use Rattle.gl_parts.specs.Whole.{is_intention}

-- t does not hold on k in the main manager what it holds on n in the part
abbrev pub lacks : State → NodeId → State → NodeId → ℕ → Bool
lacks main k part n t = not (is_at_least (main.held t k) (part.held t n))

-- the lowest slot that lacks anything, with what it holds in the part
pub record IsNextCopy (main : State) (k : NodeId) (part : State) (n : NodeId) (c : ToCopy) : Type 0 where
  pub lacking : lacks main k part n c.slot ≡ true
  pub mode : c.mode ≡ part.held c.slot n
  pub lowest : (t : ℕ) → t < c.slot → lacks main k part n t ≡ false

-- no slot lacks anything
abbrev pub IsCopied : State → NodeId → State → NodeId → Type 0
IsCopied main k part n = (t : ℕ) → lacks main k part n t ≡ false

-- what t has on n in the part and not, or not as much, on k in the main manager
abbrev pub own_copy : State → NodeId → State → NodeId → ℕ → Option Mode
own_copy main k part n t = if lacks main k part n t then Some (part.held t n) else None

-- t has more than an intention on n, or waits there for it
abbrev pub has_more_on : State → NodeId → ℕ → Bool
has_more_on s n t = not (is_intention (s.held t n)) || list_any (λ w. is_waiter t w && not (is_intention w.1)) (s.queue n)

-- nobody has
abbrev pub IsClear : State → NodeId → Type 0
IsClear s n = (t : ℕ) → has_more_on s n t ≡ false

-- where a mode is requested on a node that is shared or not, in a part that is marked for it or not
abbrev pub way_of : Mode → Bool → Bool → Way
way_of m false marked = Here
way_of m true marked = if is_intention m then (if marked then AfterMain else Here) else InMain
