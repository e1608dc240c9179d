use Rattle.gl_table.specs.Table.{board_of}
use Rattle.gl_catalog.specs.Manager.{state_of}
use Rattle.test_threads.proofs.stage.try_on.Given as goal

-- the name that the parts get
abbrev pub ghosts-enact_under_name-N-Naming : goal.ghosts-enact_under_name-N-Naming
ghosts-enact_under_name-N-Naming g a = record {
  opening = a.parts.manager.accepted;
  shares = a.parts.shares;
  detect = a.parts.manager.table.detect;
  first = board_of (state_of a.parts.manager);
  book = a.parts.line.book;
}

abbrev pub ghosts-enact_under_name-N-Ledger : goal.ghosts-enact_under_name-N-Ledger
ghosts-enact_under_name-N-Ledger g a = record { name = a.parts.blank.name; parts = a.parts.blank.parts }
