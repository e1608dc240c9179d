use Rattle.std.proofs.Common.{subst, sym}
use Rattle.gl_rows.specs.Names.{NamesHold}
use Rattle.gl_rows.proofs.Served.{path_graph}
use Rattle.gl_rows.proofs.registry.Registry.lock_path.Goals as goal

pub invariant_of-self : goal.invariant_of-self
invariant_of-self c =
    let path = c.lock_path_telling.ensures.path in
    subst (NamesHold c.self.inside.rows)
    (sym (path_graph path.0 c.args.t (c.args.node, c.args.mode) c.self.inside.manager path.1 _ c.lock_path_telling.new.self path.2)) c.self.invariant
