-- Calls that make and end managers.
use Rattle.gl_slots.specs.Slots.{HasNoSlot, no_slots}
use Rattle.gl_slots.specs.Limit.{most_slots}
use Rattle.std.specs.Prelude.{◌≡◌, ◌⊎◌, ℕ, ◌+◌, Bool, false, ◌&&◌, Option, Some, None, [], if◌then◌else◌, nat_lt, replicate}
use Rattle.gl_modes.specs.declared.node.NodeId.{NodeId}
use Rattle.gl_modes.specs.declared.refusal.Refusal.TheVariants as no
use Rattle.gl_model.specs.declared.answers.Detect.{Detect}
use Rattle.gl_waits.specs.declared.victims.Victims.{Victims}
use Rattle.gl_model.specs.State.{choosing, empty_state, with_limits}
use Rattle.gl_catalog.specs.Manager.{state_of}
use Rattle.gl_rows.specs.Rows.{has_asked, has_rows, name_of}
use Rattle.gl_rows.specs.declared.row.Row.{Row}
use Rattle.gl_waiting.specs.declared.waiter.Place.TheVariants.{Empty}
use Rattle.gl_c.specs.declared.answers.reply.Reply.{Reply}
use Rattle.gl_c.specs.managers.Carries.{Declines, Where}
use Rattle.gl_c.specs.managers.Guarded.{GuardedView}
use Rattle.gl_c.specs.Numbers.{bad_number, detect_at, done, in_use, no_manager, victims_at}
use Rattle.gl_c.specs.answers.Replies.{refused_reply, status_reply}

-- this can be the limit of nodes, or of an index's bounds
abbrev pub can_be_limit : ℕ → Bool
can_be_limit number = nat_lt 0 number && nat_lt number 2147483649

-- these limits are allowed
abbrev pub can_have : ℕ → ℕ → ℕ → Bool
can_have most nodes bounds = (nat_lt 0 most && nat_lt most (most_slots + 1)) && (can_be_limit nodes && can_be_limit bounds)

-- a manager without nodes, transactions, files of rows and rows, with empty boxes, without waiters and begins that wait, and with no watchers yet
pub record IsNew (detect : Detect) (victims : Victims) (most nodes bounds : ℕ) (g : GuardedView) : Type 0 where
  pub manager : state_of g.manager ≡ with_limits nodes bounds (choosing victims (empty_state detect most))
  pub boxes : g.boxes ≡ replicate most_slots None
  pub places : g.places ≡ replicate most_slots Empty
  pub queue : g.queue ≡ []
  pub begun : g.begun ≡ []
  pub resting : g.resting ≡ no_slots
  pub ended : g.ended ≡ no_slots
  pub shown : g.shown ≡ None
  pub fileless : (file : NodeId) → has_rows g.rows file ≡ false
  pub unnamed : (row : Row) → name_of g.rows row ≡ None
  pub unasked : (slot : ℕ) (row : Row) → has_asked g.rows slot row ≡ false
  pub none_left : HasNoSlot g.rows.left

-- there is a new manager, or none for lack of memory
abbrev pub Begins : Detect → Victims → ℕ → ℕ → ℕ → Reply → Option GuardedView → Type 0
Begins detect victims most nodes bounds r s' =
    ((r ≡ status_reply done) × (g : GuardedView) × (s' ≡ Some g) × IsNew detect victims most nodes bounds g)
    ⊎ ((r ≡ refused_reply no.NoMemory) × (s' ≡ None))

-- the way of detection, if it has this number and the limits are allowed
abbrev pub wanted : ℕ → ℕ → ℕ → ℕ → Option Detect
wanted detect most nodes bounds = if can_have most nodes bounds then detect_at detect else None

-- the outcome of a call that makes a manager
abbrev pub Makes : Option GuardedView → ℕ → ℕ → ℕ → ℕ → ℕ → Reply → Option GuardedView → Type 0
Makes (Some g) detect victims most nodes bounds r s' = Declines (Some g) in_use r s'
Makes None detect victims most nodes bounds r s' =
    Where (wanted detect most nodes bounds)
    (λ detection. Where (victims_at victims) (λ choice. Begins detection choice most nodes bounds r s') (Declines None bad_number r s'))
    (Declines None bad_number r s')

-- the reply for the end of a manager
abbrev pub ended : Option GuardedView → Reply
ended (Some g) = status_reply done
ended None = status_reply no_manager
