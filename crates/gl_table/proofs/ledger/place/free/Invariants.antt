use Rattle.gl_table.proofs.Words.{as_left, books_of, is_among_waiters, take, WaitsEnd}
use Rattle.gl_model.specs.declared.answers.Notice.TheVariants as notice
use Rattle.gl_table.proofs.ledger.place.free.Given as goal

-- those before this place are freed
abbrev pub invariant-loop-waiter : goal.invariant-loop-waiter
invariant-loop-waiter l = WaitsEnd (books_of l.initial.txn_entries l.initial.lists.items l.initial.told.items) l.node
    (λ u. is_among_waiters u (take l.waiter-index l.waiters)) as_left (λ u. notice.Gone) (books_of l.txn_entries l.lists.items l.told.items)
