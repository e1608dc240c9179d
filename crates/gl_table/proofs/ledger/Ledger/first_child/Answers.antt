use Rattle.gl_table.proofs.Words.{◌≤◌, graph_of, length, List, LockList, subst}
use Rattle.gl_table.proofs.calls.Queries.{no_list, past_end}
use Rattle.gl_table.proofs.ledger.Ledger.first_child.Goals as goal

pub returns-in-None : goal.returns-in-None
returns-in-None c = no_list c.args.self.now.lists.items (graph_of c.args.graph.now) c.args.slot c.args.node
    (past_end c.args.self.now.lists.items c.args.slot (subst (λ (ls : List LockList). length ls ≤ c.args.slot) c.deref.ensures.value
    c.in-None.ensures.lookup.3))
