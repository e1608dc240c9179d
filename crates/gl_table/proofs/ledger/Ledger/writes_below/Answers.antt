use Rattle.gl_table.proofs.Words.{◌≤◌, graph_of, length, List, LockList, subst}
use Rattle.gl_table.proofs.calls.Queries.{no_writes, past_end}
use Rattle.gl_table.proofs.ledger.Ledger.writes_below.Goals as goal

pub returns-in-None : goal.returns-in-None
returns-in-None c =
    no_writes c.args.self.now.lists.items (graph_of c.args.graph.now) c.args.slot c.args.node
    (past_end c.args.self.now.lists.items c.args.slot (subst (λ (ls : List LockList). length ls ≤ c.args.slot) c.deref.ensures.value
    c.in-None.ensures.lookup.3))
