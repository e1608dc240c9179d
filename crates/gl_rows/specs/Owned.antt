-- What a contract sees of a registry's fields, and what holds of every registry. For the crate.
use Rattle.gl_catalog.specs.Manager.{state_of}
use Rattle.gl_rows.specs.declared.registry.Registry.TheInside.{Inside}
use Rattle.gl_rows.specs.Names.{NamesHold}
use Rattle.gl_rows.specs.Rows.{RegistryView}

-- what a contract sees
abbrev pub registry_of : Inside → RegistryView
registry_of r = record { manager = r.manager; rows = r.rows }

-- the law of names, over the manager's graph
abbrev pub IsNamedWell : Inside → Type 0
IsNamedWell r = NamesHold r.rows (state_of r.manager).graph
