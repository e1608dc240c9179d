-- What the place of a session owns.
use Rattle.std.specs.Prelude.{Option, Some, None}
use Rattle.std.specs.Box.Ownership.{box_owns}
use Rattle.std.specs.contracts.impls.GlobalAllocator.TheImpl.{ghosts}
use Rattle.std.specs.declared.alloc.Global.{Global}
use base.Fml.{Fml, ftrue}
use denote.RawPtr.{Ptr}
use Rattle.gl_c.specs.contracts.managers.session.Session.{the_row}
use Rattle.gl_c.specs.managers.Guarded.{GuardedView}

-- the place of a session owns its box, a place without one nothing
abbrev pub owns_session : Global → Ptr → Option GuardedView → Fml
owns_session a p None = ftrue
owns_session a p (Some g) = box_owns (ghosts.dealloc_token a) the_row p g
