-- What a contract sees of the place of a manager.
use Rattle.std.specs.Prelude.{Option}
use Rattle.gl_c.specs.declared.managers.handle.Handle.{Handle}
use Rattle.gl_c.specs.managers.Guarded.{GuardedView}

-- the manager with all that is protected with it, if there is one
abbrev pub guarded_in : Handle → Option GuardedView
guarded_in h = h.held.guarded
