use Rattle.gl_parts.proofs.Grants.{parts_go_together, parts_have_no_conflict, parts_intend}
use Rattle.gl_parts.proofs.laws.no_conflict.Goals as goal

pub returns : goal.returns
returns c = record { compatible = parts_go_together; rule = parts_intend; lawful = parts_have_no_conflict }
