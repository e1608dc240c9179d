use Rattle.gl_table.proofs.inside.Asks.{answer-granted}
use Rattle.gl_table.proofs.ledger.Ledger.grant.Goals as goal

pub returns-clause-granted : goal.returns-clause-granted
returns-clause-granted c = let is = c.in_ok-wanted.ensures.asked in record {
  mode = answer-granted _ _ _ _ c.requires.enters is.answered c.in-Granted.is;
  state = is.enters c.requires.enters;
}
