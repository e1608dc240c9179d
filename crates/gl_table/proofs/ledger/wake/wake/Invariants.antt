use Rattle.gl_table.proofs.Words.{as_held, books_of, is_among_waiters, mode_given, take, WaitsEnd}
use Rattle.gl_model.specs.declared.answers.Notice.TheVariants as notice
use Rattle.gl_table.proofs.ledger.wake.wake.Given as goal

-- those before this place are woken
abbrev pub invariant-loop-waiter : goal.invariant-loop-waiter
invariant-loop-waiter l = WaitsEnd (books_of l.initial.txn_entries l.initial.lists.items l.initial.told.items) l.node
    (λ u. is_among_waiters u (take l.waiter-index l.granted)) (as_held l.initial.lists.items l.node l.parents (mode_given l.granted))
    (λ u. notice.Granted l.node (mode_given l.granted u)) (books_of l.txn_entries l.lists.items l.told.items)
