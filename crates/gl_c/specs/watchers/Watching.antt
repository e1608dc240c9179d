-- Calls that make, use and end watchers.
use Rattle.std.specs.Prelude.{◌≡◌, ◌≤◌, ◌⊎◌, Option, Some, None, Result, IfOk}
use Rattle.gl_waits.specs.declared.board.Board.{Board as TheBoard}
use Rattle.gl_modes.specs.declared.refusal.Refusal.TheVariants as no
use Rattle.gl_table.specs.Table.{board_of}
use Rattle.gl_catalog.specs.Manager.{state_of}
use Rattle.gl_window.specs.Boards.{Ends, Fine, last_epoch}
use Rattle.gl_window.specs.Strip.{Strip}
use Rattle.gl_window.specs.Window.{GoesOn}
use Rattle.gl_window.specs.declared.publisher.WatchFault.{WatchFault}
use Rattle.gl_c.specs.declared.boards.board.Board.{Board}
use Rattle.gl_c.specs.declared.answers.reply.Reply.{Reply}
use Rattle.gl_c.specs.Boards.{board_in}
use Rattle.gl_c.specs.managers.Carries.{Declines}
use Rattle.gl_c.specs.managers.Guarded.{GuardedView, waiting_in}
use Rattle.gl_c.specs.Numbers.{done, in_use, no_manager, no_watcher, too_many_watchers}
use Rattle.gl_c.specs.answers.Replies.{refused_reply, status_reply}

-- what was shown is a prefix of what is shown
abbrev pub Continues : Option Strip → Option Strip → Type 0
Continues None after = Unit {0}
Continues (Some before) after = (s : Strip) × (after ≡ Some s) × GoesOn before s

-- everything except what watchers are shown is unchanged
pub record OnlyShows (g g' : GuardedView) : Type 0 where
  pub waiting : waiting_in g' ≡ waiting_in g
  pub resting : g'.resting ≡ g.resting
  pub ended : g'.ended ≡ g.ended
  pub shown : Continues g.shown g'.shown

-- a watcher that knows all that was shown, with the present snapshot last
abbrev pub Knows : GuardedView → GuardedView → Strip → Type 0
Knows g g' w = (g'.shown ≡ Some w) × Ends w.list (board_of (state_of g.manager))

-- a watcher of a manager, if there is one
abbrev pub Attends : Option GuardedView → Option (Result Strip WatchFault) → Option GuardedView → Type 0
Attends None watcher s' = (watcher ≡ None) × (s' ≡ None)
Attends (Some g) watcher s' = (x : Result Strip WatchFault) × (watcher ≡ Some x) × (g' : GuardedView) × (s' ≡ Some g') × OnlyShows g g' × IfOk x (Knows g g')

-- there is a new watcher; or none, for lack of memory or because the manager has as many as it may
abbrev pub Opens : GuardedView → GuardedView → Reply → Option Strip → Type 0
Opens g g' r w' =
    ((r ≡ status_reply done) × (w : Strip) × (w' ≡ Some w) × Knows g g' w)
    ⊎ (((r ≡ status_reply too_many_watchers) ⊎ (r ≡ refused_reply no.NoMemory)) × (w' ≡ None))

-- the outcome of a call that makes a watcher
abbrev pub Watches : Option GuardedView → Option Strip → Reply → Option GuardedView → Option Strip → Type 0
Watches None w r s' w' = Declines None no_manager r s' × (w' ≡ w)
Watches (Some g) (Some w) r s' w' = Declines (Some g) in_use r s' × (w' ≡ Some w)
Watches (Some g) None r s' w' = (g' : GuardedView) × (s' ≡ Some g') × OnlyShows g g' × Opens g g' r w'

-- the snapshot is the last of a list that continues what the watcher knew: one that was shown, no older, and fine
pub record IsLook (w : Strip) (b : TheBoard) (w' : Strip) : Type 0 where
  pub goes_on : GoesOn w w'
  pub board : Ends w'.list b
  pub later : last_epoch 0 w.list ≤ b.epoch
  pub fine : Fine w'.detect b

-- a look, if there is a watcher
abbrev pub Sees : Option Strip → Reply → Board → Board → Option Strip → Type 0
Sees None r board board' w' = (r ≡ status_reply no_watcher) × (board' ≡ board) × (w' ≡ None)
Sees (Some w) r board board' s' = (r ≡ status_reply done) × (w' : Strip) × (s' ≡ Some w') × IsLook w (board_in board') w'

-- the reply for the end of a watcher
abbrev pub left : Option Strip → Reply
left (Some w) = status_reply done
left None = status_reply no_watcher
