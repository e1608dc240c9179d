-- The boxes of slots, what a command puts into them, and the outcome of a wait by them.
use Rattle.std.specs.Prelude.{◌≡◌, ◌≢◌, ℕ, Bool, true, false, ◌&&◌, nat_eq, if◌then◌else◌, List, All, slice_set, slice_index_or, Option, Some, None}
use Rattle.std.specs.Prelude.{Result, Ok, Err}
use Rattle.gl_modes.specs.declared.mode.Mode.{Mode}
use Rattle.gl_modes.specs.declared.node.NodeId.{NodeId}
use Rattle.gl_modes.specs.declared.refusal.Refusal.{Refusal}
use Rattle.gl_modes.specs.declared.refusal.Refusal.TheVariants.{NoSuchTxn, NotWaiting}
use Rattle.gl_modes.specs.Modes.{is_at_least}
use Rattle.gl_modes.specs.Nodes.{same_node}
use Rattle.gl_model.specs.declared.txn.TxnId.{TxnId}
use Rattle.gl_model.specs.declared.answers.Notice.{Notice}
use Rattle.gl_model.specs.declared.answers.Notice.TheVariants.{Granted, Victim, Moved, Gone}
use Rattle.gl_model.specs.State.{is_waiting_at, State, lives}
use Rattle.gl_steps.specs.declared.command.Answer.{Answer}
use Rattle.gl_steps.specs.declared.command.Command.{Command}
use Rattle.gl_steps.specs.declared.command.Command.TheVariants as command
use Rattle.gl_steps.specs.Served.{is_refused}
use Rattle.gl_wakes.specs.declared.grant.Grant.{Grant}
use Rattle.gl_wakes.specs.declared.grant.Stop.{Stop}
use Rattle.gl_wakes.specs.declared.grant.Stop.TheVariants as stop

-- a notice with its transaction, or nothing
abbrev pub Slot : Type 0
Slot = Option (TxnId × Notice)

abbrev pub box_at : List Slot → ℕ → Slot
box_at boxes slot = slice_index_or boxes slot None

abbrev pub put_in : List Slot → TxnId × Notice → List Slot
put_in boxes x = slice_set boxes x.0.slot (Some x)

-- each notice is in its slot's box, and no other box changes
pub record Delivers (before : List Slot) (told : List (TxnId × Notice)) (after : List Slot) : Type 0 where
  pub stands : All (λ x. box_at after x.0.slot ≡ Some x) told
  pub others : (slot : ℕ) → All (λ x. x.0.slot ≢ slot) told → box_at after slot ≡ box_at before slot

-- the boxes after an accepted command: a lock empties its own slot's, so that a later notice there is its own verdict
abbrev pub emptied : Command → List Slot → List Slot
emptied (command.Lock t n m) boxes = slice_set boxes t.slot None
emptied c boxes = boxes

-- the notices of an accepted command are in their boxes, except that a lock empties its own slot's
abbrev pub Puts : List Slot → Command → List (TxnId × Notice) → List Slot → Type 0
Puts before c told after = (mid : List Slot) × Delivers before told mid × (after ≡ emptied c mid)

-- the boxes after a command with this answer: a refused one empties none
abbrev pub cleared : Command → Answer → List Slot → List Slot
cleared c a boxes = if is_refused a then boxes else emptied c boxes

-- the notice in the box of t's slot, if it names t and its age
abbrev pub named : TxnId → Slot → Option Notice
named t None = None
named t (Some x) = if nat_eq x.0.slot t.slot && nat_eq x.0.age t.age then Some x.1 else None

abbrev pub stopped : Refusal → Option (Result Grant Stop)
stopped r = Some (Err (stop.Refused r))

abbrev pub is_refusal : Stop → Bool
is_refusal (stop.Refused r) = true
is_refusal _ = false

-- by the notice: a grant only if it is for this node, and t holds there a mode that covers the requested one
abbrev pub by_notice : State → TxnId → NodeId → Mode → Option Notice → Option (Result Grant Stop)
by_notice s t n k None = stopped NotWaiting
by_notice s t n k (Some Victim) = Some (Err stop.Victim)
by_notice s t n k (Some Moved) = Some (Err stop.Moved)
by_notice s t n k (Some Gone) = Some (Err stop.Gone)
by_notice s t n k (Some (Granted at m)) =
    if same_node at n && is_at_least (s.held t.slot n) k then Some (Ok (record { txn = t; node = n; mode = s.held t.slot n })) else stopped NotWaiting

-- the first that applies: t does not live; t waits on the node; then by the notice in its box
abbrev pub verdict_of : State → List Slot → TxnId → NodeId → Mode → Option (Result Grant Stop)
verdict_of s boxes t n k =
    if lives s t then (if is_waiting_at s t.slot n then None else by_notice s t n k (named t (box_at boxes t.slot))) else stopped NoSuchTxn
