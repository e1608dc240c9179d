-- What a contract sees of a manager's fields, and what always holds of them.
use Rattle.gl_catalog.specs.declared.manager.Manager.TheInside.{Inside}
use Rattle.gl_catalog.specs.Manager.{IsLawfulManager, ManagerView}

-- what a contract sees
abbrev pub view_of : Inside → ManagerView
view_of m = record { table = m.table; accepted = m.accepted; counters = m.counters }

-- what holds of the fields
abbrev pub IsSound : Inside → Type 0
IsSound m = IsLawfulManager (view_of m)
