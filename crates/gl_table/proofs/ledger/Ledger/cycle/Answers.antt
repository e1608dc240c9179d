use Rattle.gl_table.proofs.Words.{◌↔◌, has_slot, IsOnCycleOf, IsTrue, List, Option, shown, subst, TxnEntry, waits_for}
use Rattle.gl_table.proofs.ledger.Ledger.cycle.Goals as goal

pub returns : goal.returns
returns c = λ g u.
    subst (λ (txn_entries : List (Option TxnEntry)). IsTrue (has_slot c.on_cycle_in.result u)
    ↔ IsOnCycleOf (waits_for (shown c.args.self.now.headers.entries txn_entries 0)) c.args.slot u)
    c.as_slice.ensures (c.on_cycle_in.ensures u)
