-- What a contract sees of a session, and what every session guarantees.
use Rattle.std.specs.Prelude.{◌≡◌, []}
use Rattle.gl_c.specs.declared.managers.session.Session.TheInside.{Inside}
use Rattle.gl_c.specs.managers.Guarded.{GuardedView}

-- what C's mutex protects
abbrev pub guarded_of : Inside → GuardedView
guarded_of s = s.guarded

-- between commands the list of notices is empty
abbrev pub IsIdle : Inside → Type 0
IsIdle s = s.told.items ≡ []
