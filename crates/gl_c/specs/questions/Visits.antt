-- Replies to what a visit of a part is to copy next, and whether a node is clear.
use Rattle.std.specs.Prelude.{◌≡◌, ◌⊎◌, Option, Some, None}
use Rattle.gl_modes.specs.declared.node.NodeId.{NodeId}
use Rattle.gl_modes.specs.declared.refusal.Refusal.{Refusal}
use Rattle.gl_graph.specs.Refusals.{first_refusal}
use Rattle.gl_model.specs.Calls.{group_tests}
use Rattle.gl_model.specs.State.{State}
use Rattle.gl_catalog.specs.Manager.{state_of}
use Rattle.gl_parts.specs.declared.visits.ToCopy.{ToCopy}
use Rattle.gl_parts.specs.Visiting.{IsClear, IsCopied, IsNextCopy}
use Rattle.gl_c.specs.declared.answers.reply.Reply.{Reply}
use Rattle.gl_c.specs.managers.Carries.{Declines}
use Rattle.gl_c.specs.managers.Guarded.{GuardedView}
use Rattle.gl_c.specs.Numbers.{mode_number, no_manager, no_place}
use Rattle.gl_c.specs.answers.Replies.{count_reply, refused_reply, status_reply}

-- the refusal, or the answer if there is none
abbrev pub Unless : Option Refusal → Reply → Type 0 → Type 0
Unless (Some refusal) r answer = r ≡ refused_reply refusal
Unless None r answer = answer

-- what is next to copy, if anything is left
abbrev pub IsNext : State → NodeId → State → NodeId → Option ToCopy → Type 0
IsNext main k part n (Some copy) = IsNextCopy main k part n copy
IsNext main k part n None = IsCopied main k part n

-- its slot, and its mode
abbrev pub copy_reply : Option ToCopy → Reply
copy_reply (Some copy) = record (count_reply copy.slot) { mode = mode_number copy.mode }
copy_reply None = status_reply no_place

-- the reply tells what is next to copy
pub record TellsNext (main : State) (k : NodeId) (part : State) (n : NodeId) (r : Reply) : Type 0 where
  pub copy : Option ToCopy
  pub next : IsNext main k part n copy
  pub replied : r ≡ copy_reply copy

-- the same, if the node lives in both
abbrev pub AnswersNext : State → NodeId → State → NodeId → Reply → Type 0
AnswersNext main k part n r =
    Unless (first_refusal (group_tests main k)) r (Unless (first_refusal (group_tests part n)) r (TellsNext main k part n r))

-- the same of a part that may be missing: nothing changes
abbrev pub FindsNext : State → NodeId → Option GuardedView → NodeId → Reply → Option GuardedView → Type 0
FindsNext main k None n r s' = Declines None no_manager r s'
FindsNext main k (Some g) n r s' = AnswersNext main k (state_of g.manager) n r × (s' ≡ Some g)

-- a call that asks what is next to copy: nothing changes in either manager
abbrev pub AsksNext : Option GuardedView → NodeId → Option GuardedView → NodeId → Reply → Option GuardedView → Option GuardedView → Type 0
AsksNext None k part n r s' part' = Declines None no_manager r s' × (part' ≡ part)
AsksNext (Some g) k part n r s' part' = FindsNext (state_of g.manager) k part n r part' × (s' ≡ Some g)

-- whether the node is clear: 1 or 0
abbrev pub TellsClear : State → NodeId → Reply → Type 0
TellsClear s n r = ((r ≡ count_reply 1) × IsClear s n) ⊎ ((r ≡ count_reply 0) × (IsClear s n → ⊥))

-- a call that asks whether a node is clear: nothing changes
abbrev pub AsksClear : Option GuardedView → NodeId → Reply → Option GuardedView → Type 0
AsksClear None n r s' = Declines None no_manager r s'
AsksClear (Some g) n r s' =
    Unless (first_refusal (group_tests (state_of g.manager) n)) r (TellsClear (state_of g.manager) n r) × (s' ≡ Some g)
