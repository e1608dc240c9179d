use Rattle.gl_table.specs.Table.{board_of}
use Rattle.gl_catalog.specs.Manager.{state_of}
use Rattle.test_allocations.proofs.shares.share_table.Given as goal

-- the name that the parts get
abbrev pub ghosts-share_under_name-N-Naming : goal.ghosts-share_under_name-N-Naming
ghosts-share_under_name-N-Naming g a = record {
  opening = a.parts.manager.accepted;
  shares = a.parts.shares;
  detect = a.parts.manager.table.detect;
  first = board_of (state_of a.parts.manager);
  book = a.parts.line.book;
}

abbrev pub ghosts-share_under_name-N-Ledger : goal.ghosts-share_under_name-N-Ledger
ghosts-share_under_name-N-Ledger g a = record { name = a.parts.blank.name; parts = a.parts.blank.parts }
