-- The side that publishes.
use Rattle.std.specs.Prelude.{◌≡◌, [], drop}
use Rattle.gl_shared.specs.declared.boards.Side.{Side}
use Rattle.gl_shared.specs.declared.boards.Side.TheVariants.{Open, Closed}
use Rattle.gl_window.specs.Strip.{Strip}

-- the list that is shown, with its book and its way of detection
abbrev pub shown_by : Side → Strip
shown_by (Open w) = w.desk.shown.value.line
shown_by (Closed line) = line

-- nothing is left to publish
abbrev pub IsIdle : Side → Type 0
IsIdle (Open w) = drop w.behind w.log.items ≡ []
IsIdle (Closed line) = Unit {0}
