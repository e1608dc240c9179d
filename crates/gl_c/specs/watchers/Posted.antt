-- What the place of a watcher owns.
use Rattle.std.specs.Prelude.{Option, Some, None}
use Rattle.std.specs.Box.Ownership.{box_owns}
use Rattle.std.specs.contracts.impls.GlobalAllocator.TheImpl.{ghosts}
use Rattle.std.specs.declared.alloc.Global.{Global}
use base.Fml.{Fml, ftrue}
use denote.RawPtr.{Ptr}
use Rattle.gl_window.specs.Strip.{Strip}
use Rattle.gl_c.specs.contracts.watchers.watcher.Watcher.{the_row}

-- the place of a watcher owns its box, a place without one nothing
abbrev pub owns_watcher : Global → Ptr → Option Strip → Fml
owns_watcher a p None = ftrue
owns_watcher a p (Some w) = box_owns (ghosts.dealloc_token a) the_row p w
