-- What a contract sees of a graph's fields, and what always holds of them.
use Rattle.gl_graph.specs.declared.graph.Graph.TheInside.{Inside}
use Rattle.gl_graph.specs.View.{View}
use Rattle.gl_graph.specs.Seen.{Limits, seen, AreSound}

-- the limits of a graph
abbrev pub limits_of : Inside → Limits
limits_of g = record { most = g.most; most_bounds = g.most_bounds }

-- what a contract sees of the fields
abbrev pub view_of : Inside → View
view_of g = seen (limits_of g) g.nodes g.births

-- what holds of the fields
abbrev pub IsSound : Inside → Type 0
IsSound g = AreSound (limits_of g) g.nodes g.births
