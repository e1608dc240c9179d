use Rattle.gl_rows.proofs.GoingBack.{backs_keep_on_rows, keepings_keep_on_rows}
use Rattle.gl_rows.proofs.KeptRows.{others_keep_row_effects}
use Rattle.gl_rows.proofs.Served.{calls_keep_on_rows, commands_keep_on_rows, paths_keep_on_rows}
use Rattle.gl_rows.proofs.StandingIndexes.{others_keep_by_indexes}
use Rattle.gl_rows.proofs.laws.others_keep_row_effects.Goals as goal

pub returns-clause-above : goal.returns-clause-above
returns-clause-above c = others_keep_row_effects

pub returns-clause-standing : goal.returns-clause-standing
returns-clause-standing c = others_keep_by_indexes

pub returns-clause-by_command : goal.returns-clause-by_command
returns-clause-by_command c = commands_keep_on_rows

pub returns-clause-by_path : goal.returns-clause-by_path
returns-clause-by_path c = paths_keep_on_rows

pub returns-clause-by_back : goal.returns-clause-by_back
returns-clause-by_back c = backs_keep_on_rows

pub returns-clause-by_keeping : goal.returns-clause-by_keeping
returns-clause-by_keeping c = keepings_keep_on_rows

pub returns-clause-by_call : goal.returns-clause-by_call
returns-clause-by_call c = calls_keep_on_rows
