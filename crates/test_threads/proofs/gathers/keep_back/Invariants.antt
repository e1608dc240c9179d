use Rattle.gl_table.specs.Table.{board_of}
use Rattle.gl_catalog.specs.Manager.{state_of}
use Rattle.test_threads.proofs.gathers.keep_back.Given as goal

abbrev pub ghosts-keeps_one_back-N-Naming : goal.ghosts-keeps_one_back-N-Naming
ghosts-keeps_one_back-N-Naming g a = record {
  opening = a.parts.manager.accepted;
  shares = a.parts.shares;
  detect = a.parts.manager.table.detect;
  first = board_of (state_of a.parts.manager);
  book = a.parts.line.book;
}

abbrev pub ghosts-keeps_one_back-N-Ledger : goal.ghosts-keeps_one_back-N-Ledger
ghosts-keeps_one_back-N-Ledger g a = record { name = a.parts.blank.name; parts = a.parts.blank.parts }
