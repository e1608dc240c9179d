use Rattle.gl_rows.proofs.GoingBack.{back_changes}
use Rattle.gl_rows.proofs.NameChanges.{changed_hold}
use Rattle.gl_rows.proofs.registry.Registry.release_since.Goals as goal

pub invariant_of-self : goal.invariant_of-self
invariant_of-self c =
    changed_hold c.self.inside.rows c.release_since.new.self _ _
    (back_changes c.self.inside.manager c.release_since.new.manager c.self.inside.rows c.release_since.new.self c.args.t c.args.mark c.release_since.result
    c.release_since.new.told.items c.law.ensures.lawful c.self.invariant c.release_since.ensures) c.self.invariant
