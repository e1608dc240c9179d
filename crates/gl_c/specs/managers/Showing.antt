-- What a contract sees of what watchers are shown.
use Rattle.std.specs.Prelude.{Option, option_and_then, option_map}
use Rattle.gl_slots.specs.declared.slots.Slots.{Slots}
use Rattle.gl_window.specs.Strip.{Strip}
use Rattle.gl_c.specs.declared.managers.showing.Showing.{Showing}

-- the snapshots that watchers were shown, if there ever was one
abbrev pub shown_in : Option Showing → Option Strip
shown_in showing = option_map (λ x. x.publisher) showing

-- all parties to waits, if it is known that the last snapshot has every wait; without a first watcher none are known
abbrev pub parties_in : Option Showing → Option Slots
parties_in showing = option_and_then (λ x. x.parties) showing
