use Rattle.std.specs.Prelude.{◌≡◌, drop}
use Rattle.gl_graph.specs.Seen.{with_all}
use Rattle.gl_parts.proofs.passing.add_few.Given as goal

-- with those that are left it is what it will be
abbrev pub invariant-more : goal.invariant-more
invariant-more l = with_all l.found.items (drop l.node-index l.more) ≡ with_all l.initial.found.items l.more
