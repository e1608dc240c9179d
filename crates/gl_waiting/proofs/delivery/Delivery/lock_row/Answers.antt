use Rattle.gl_rows.specs.Locking.{Wish}
use Rattle.gl_waiting.proofs.RowLocking.{locks_as, row_answered}
use Rattle.gl_waiting.proofs.delivery.Delivery.lock_row.Goals as goal

pub row_locked_in-requires : goal.row_locked_in-requires
row_locked_in-requires c =
    let wish : Wish = record { txn = c.args.txn; row = c.args.row; keys = c.args.keys; mode = c.args.mode } in
    row_answered c.args.self.now c.serve_row-answer.new.self wish c.serve_row-answer.result.0 c.serve_row-answer.new.told.items
    c.serve_row-answer.ensures.applies

pub returns-clause-locks : goal.returns-clause-locks
returns-clause-locks c =
    let wish : Wish = record { txn = c.args.txn; row = c.args.row; keys = c.args.keys; mode = c.args.mode } in
    locks_as c.args.self.now c.serve_row-answer.new.self wish c.serve_row-answer.result.0 c.row_locked_in.result c.serve_row-answer.new.told.items
    c.row_locked_in.ensures c.serve_row-answer.ensures.applies c.serve_row-answer.ensures.own
