use Rattle.gl_table.proofs.Words.{◌≡◌, length}
use Rattle.gl_table.proofs.inside.Lists.{AreBare}
use Rattle.gl_table.proofs.ledger.Ledger.new.Given as goal

-- so many bare lists
abbrev pub invariant-loop : goal.invariant-loop
invariant-loop l = (length l.lists.items ≡ l.counter) × AreBare l.lists.items
