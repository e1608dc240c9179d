-- Replies to what a path in a part lacks in the main manager, what a transaction has to copy of its own, when marks may be cleared, and what becomes of a wait
-- after an index was made or a node moved.
use Rattle.std.specs.Prelude.{◌≡◌, ◌⊎◌, ℕ, not, ◌==◌, List, map, Option, Some, None}
use Rattle.gl_modes.specs.declared.mode.Mode.{Mode}
use Rattle.gl_modes.specs.declared.node.NodeId.{NodeId}
use Rattle.gl_modes.specs.declared.refusal.Refusal.TheVariants as no
use Rattle.gl_graph.specs.Refusals.{first_refusal}
use Rattle.gl_model.specs.Calls.{group_tests}
use Rattle.gl_model.specs.State.{State}
use Rattle.gl_catalog.specs.Manager.{state_of}
use Rattle.gl_catalog.specs.Paths.{intention}
use Rattle.gl_parts.specs.declared.passing.AfterIndex.{AfterIndex}
use Rattle.gl_parts.specs.declared.passing.AfterIndex.TheVariants.{BeginsAnew, LacksKey, WaitsOn}
use Rattle.gl_parts.specs.declared.passing.Mark.{Mark as TheMark}
use Rattle.gl_parts.specs.declared.passing.Target.{Target as TheTarget}
use Rattle.gl_parts.specs.Passing.{IsFirst, Lacks, MayClear, Passes, after_index}
use Rattle.gl_parts.specs.Visiting.{own_copy}
use Rattle.gl_c.specs.declared.answers.reply.Reply.{Reply}
use Rattle.gl_c.specs.declared.questions.passing.Mark.{Mark}
use Rattle.gl_c.specs.declared.questions.passing.Target.{Target}
use Rattle.gl_c.specs.managers.Carries.{Declines, Where}
use Rattle.gl_c.specs.managers.Guarded.{GuardedView}
use Rattle.gl_c.specs.questions.Visits.{Unless}
use Rattle.gl_c.specs.Names.{node_id, node_of}
use Rattle.gl_c.specs.Numbers.{bad_number, done, mode_at, mode_number, moved, no_manager, no_place, slot_at}
use Rattle.gl_c.specs.answers.Replies.{count_reply, refused_reply, status_reply}

-- the names of a mark
abbrev pub mark_id : Mark → TheMark
mark_id m = record { in_main = node_id m.node; in_part = node_id m.in_part }

-- what a path leads to, in this mode
abbrev pub target_id : Target → Mode → TheTarget
target_id x m = record { node = node_id x.node; is_row = not (x.rows == 0); mode = m }

-- What a path lacks.

-- the node of a lacked mark in the main manager, and the intention
abbrev pub lack_reply : Mode → Option TheMark → Reply
lack_reply m None = status_reply no_place
lack_reply m (Some mark) = record (status_reply done) { node = node_of mark.in_main; mode = mode_number (intention m) }

-- the first of the marks that is lacked, if any is
pub record TellsLack (main : Option State) (part : State) (t : ℕ) (x : TheTarget) (marks : List TheMark) (r : Reply) : Type 0 where
  pub found : Option TheMark
  pub first : IsFirst (Lacks main part t x) marks found
  pub replied : r ≡ lack_reply x.mode found

-- the same, unless the search lacks memory, or a number names no slot or no mode
abbrev pub AnswersLack : Option State → State → ℕ → Target → List Mark → Reply → Type 0
AnswersLack main part slot x marks r =
    Where (slot_at slot)
    (λ t. Where (mode_at x.mode)
    (λ m. TellsLack main part t (target_id x m) (map mark_id marks) r ⊎ (r ≡ refused_reply no.NoMemory)) (r ≡ status_reply bad_number))
    (r ≡ status_reply bad_number)

-- the same of a part that may be missing: nothing changes
abbrev pub FindsLack : Option State → Option GuardedView → ℕ → Target → List Mark → Reply → Option GuardedView → Type 0
FindsLack main None slot x marks r s' = Declines None no_manager r s'
FindsLack main (Some g) slot x marks r s' = AnswersLack main (state_of g.manager) slot x marks r × (s' ≡ Some g)

-- a call that asks what a path lacks in two managers: nothing changes in either
abbrev pub AsksLack : Option GuardedView → Option GuardedView → ℕ → Target → List Mark → Reply → Option GuardedView → Option GuardedView → Type 0
AsksLack None part slot x marks r s' part' = Declines None no_manager r s' × (part' ≡ part)
AsksLack (Some g) part slot x marks r s' part' = FindsLack (Some (state_of g.manager)) part slot x marks r part' × (s' ≡ Some g)

-- What a transaction has to copy of its own.

-- its mode in the part, if there is anything to copy
abbrev pub own_reply : Option Mode → Reply
own_reply None = status_reply no_place
own_reply (Some m) = record (status_reply done) { mode = mode_number m }

-- the same, if the node lives in both managers, and the number names a slot
abbrev pub AnswersOwn : State → NodeId → State → NodeId → ℕ → Reply → Type 0
AnswersOwn main k part n slot r =
    Unless (first_refusal (group_tests main k)) r (Unless (first_refusal (group_tests part n)) r (Where (slot_at slot)
    (λ t. r ≡ own_reply (own_copy main k part n t)) (r ≡ status_reply bad_number)))

-- the same of a part that may be missing: nothing changes
abbrev pub FindsOwn : State → NodeId → Option GuardedView → NodeId → ℕ → Reply → Option GuardedView → Type 0
FindsOwn main k None n slot r s' = Declines None no_manager r s'
FindsOwn main k (Some g) n slot r s' = AnswersOwn main k (state_of g.manager) n slot r × (s' ≡ Some g)

-- a call that asks what a transaction has to copy of its own: nothing changes in either manager
abbrev pub AsksOwn : Option GuardedView → NodeId → Option GuardedView → NodeId → ℕ → Reply → Option GuardedView → Option GuardedView → Type 0
AsksOwn None k part n slot r s' part' = Declines None no_manager r s' × (part' ≡ part)
AsksOwn (Some g) k part n slot r s' part' = FindsOwn (state_of g.manager) k part n slot r part' × (s' ≡ Some g)

-- Whether marks may be cleared.

-- 1 or 0
abbrev pub TellsMayClear : State → NodeId → ℕ → Reply → Type 0
TellsMayClear s n in_progress r = ((r ≡ count_reply 1) × MayClear s n in_progress) ⊎ ((r ≡ count_reply 0) × (MayClear s n in_progress → ⊥))

-- a call that asks whether the marks for a node may be cleared: nothing changes
abbrev pub AsksMayClear : Option GuardedView → NodeId → ℕ → Reply → Option GuardedView → Type 0
AsksMayClear None n in_progress r s' = Declines None no_manager r s'
AsksMayClear (Some g) n in_progress r s' =
    Unless (first_refusal (group_tests (state_of g.manager) n)) r (TellsMayClear (state_of g.manager) n in_progress r) × (s' ≡ Some g)

-- What becomes of a wait after an index was made.

-- its path passes what it passed, or must begin anew, or the call lacks a key
abbrev pub wait_reply : AfterIndex → Reply
wait_reply WaitsOn = status_reply done
wait_reply BeginsAnew = status_reply moved
wait_reply LacksKey = refused_reply no.BadKeys

-- the same, if the number names a mode
abbrev pub TellsAfterIndex : State → Target → NodeId → Reply → Type 0
TellsAfterIndex s x f r = Where (mode_at x.mode) (λ m. r ≡ wait_reply (after_index s.graph (target_id x m) f)) (r ≡ status_reply bad_number)

-- a call that asks what becomes of a wait after an index of a file was made: nothing changes
abbrev pub AsksAfterIndex : Option GuardedView → Target → NodeId → Reply → Option GuardedView → Type 0
AsksAfterIndex None x f r s' = Declines None no_manager r s'
AsksAfterIndex (Some g) x f r s' = TellsAfterIndex (state_of g.manager) x f r × (s' ≡ Some g)

-- What becomes of a wait if a node is moved.

-- moved if a path to the target passes the node, else done; only memory may refuse it
abbrev pub TellsMove : State → TheTarget → NodeId → Reply → Type 0
TellsMove s x n r =
    ((r ≡ status_reply moved) × Passes s.graph x n)
    ⊎ (((r ≡ status_reply done) × (Passes s.graph x n → ⊥)) ⊎ (r ≡ refused_reply no.NoMemory))

-- the same, if the number names a mode
abbrev pub TellsAfterMove : State → Target → NodeId → Reply → Type 0
TellsAfterMove s x n r = Where (mode_at x.mode) (λ m. TellsMove s (target_id x m) n r) (r ≡ status_reply bad_number)

-- a call that asks what becomes of a wait if a node is moved: nothing changes
abbrev pub AsksAfterMove : Option GuardedView → Target → NodeId → Reply → Option GuardedView → Type 0
AsksAfterMove None x n r s' = Declines None no_manager r s'
AsksAfterMove (Some g) x n r s' = TellsAfterMove (state_of g.manager) x n r × (s' ≡ Some g)
