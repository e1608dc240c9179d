-- What a contract sees of the place of a watcher.
use Rattle.std.specs.Prelude.{Option}
use Rattle.gl_window.specs.Strip.{Strip}
use Rattle.gl_c.specs.declared.watchers.lookout.Lookout.{Lookout}

-- the list of snapshots that the watcher knows, if there is a watcher
abbrev pub watcher_in : Lookout → Option Strip
watcher_in l = l.posted.known
