use Rattle.gl_rows.proofs.GoingBack.{keeping_changes}
use Rattle.gl_rows.proofs.NameChanges.{changed_hold}
use Rattle.gl_rows.proofs.registry.Registry.commit_keeping.Goals as goal

pub invariant_of-self : goal.invariant_of-self
invariant_of-self c =
    changed_hold c.self.inside.rows c.commit_keeping.new.self _ _
    (keeping_changes c.self.inside.manager c.commit_keeping.new.manager c.self.inside.rows c.commit_keeping.new.self c.args.t c.args.keep c.args.since
    c.commit_keeping.result
    c.commit_keeping.new.told.items c.law.ensures.lawful c.self.invariant c.commit_keeping.ensures) c.self.invariant
