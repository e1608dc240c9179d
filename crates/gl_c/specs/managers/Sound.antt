-- What a contract sees of the fields that C's mutex protects, and their invariant.
use Rattle.std.specs.Prelude.{◌≡◌, ◌≤◌, IfSome}
use Rattle.gl_catalog.specs.Manager.{state_of}
use Rattle.gl_waiting.specs.Resting.{RestsWell}
use Rattle.gl_window.specs.Boards.{last_epoch}
use Rattle.gl_c.specs.declared.managers.guarded.Guarded.TheInside.{Inside}
use Rattle.gl_c.specs.managers.Guarded.{GuardedView}
use Rattle.gl_c.specs.managers.Serving.{KnowsWaits}
use Rattle.gl_c.specs.managers.Showing.{parties_in, shown_in}

-- the contract's view of the fields
abbrev pub view_of : Inside → GuardedView
view_of g = record {
  manager = g.waiting.manager;
  rows = g.waiting.rows;
  boxes = g.waiting.boxes;
  places = g.waiting.places;
  queue = g.waiting.queue;
  begun = g.waiting.begun;
  resting = g.resting.resting;
  ended = g.ended;
  shown = shown_in g.showing;
  parties = parties_in g.showing;
}

-- what is shown is no newer than the manager, and has its way of detection; if the parties to waits are known, the last snapshot that was shown has every
-- wait; those who rest hold intentions alone, and it is known who may wait for them
pub record IsSound (g : Inside) : Type 0 where
  pub epoch : IfSome (shown_in g.showing) (λ p. last_epoch 0 p.list ≤ g.waiting.manager.accepted)
  pub detect : IfSome (shown_in g.showing) (λ p. p.detect ≡ g.waiting.manager.table.detect)
  pub known : KnowsWaits (state_of g.waiting.manager) (shown_in g.showing) (parties_in g.showing)
  pub rests : RestsWell (state_of g.waiting.manager) g.resting
