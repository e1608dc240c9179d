use Rattle.gl_rows.proofs.NodeRows.{no_row_of_two_law}
use Rattle.gl_rows.proofs.RowEffects.{no_row_conflict}
use Rattle.gl_rows.proofs.laws.no_row_conflict.Goals as goal

pub returns-clause-above : goal.returns-clause-above
returns-clause-above c = no_row_conflict

pub returns-clause-all : goal.returns-clause-all
returns-clause-all c = no_row_of_two_law
