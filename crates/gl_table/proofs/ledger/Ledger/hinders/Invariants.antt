use Rattle.gl_table.proofs.Words.{◌≡◌, false, hinders_by, list_any, nodes_by, take}
use Rattle.gl_table.proofs.ledger.Ledger.hinders.Given as goal

-- none of the nodes seen so far is such a one
abbrev pub invariant-loop-place : goal.invariant-loop-place
invariant-loop-place l = list_any (hinders_by l.fn.self.headers.entries l.fn.slot) (take l.place (nodes_by l.fn.self.lists.items l.fn.slot)) ≡ false
