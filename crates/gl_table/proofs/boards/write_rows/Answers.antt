use Rattle.gl_table.proofs.Words.{◌∙◌, refl, shown, waits_for}
use Rattle.gl_table.proofs.inside.Boards.{rows-begin, rows-next, rows-read, rows-there, rows-unwritten}
use Rattle.gl_table.proofs.boards.write_rows.Goals as goal

pub loop-slot-init : goal.loop-slot-init
loop-slot-init c = (
  refl,
  rows-begin (shown c.args.headers.now.entries c.args.txn_entries.now.items 0) c.waiting-left.result c.args.rows.now c.waiting-left.ensures
      c.requires.none,
)

pub loop-slot-preserved-then-is_unwritten : goal.loop-slot-preserved-then-is_unwritten
loop-slot-preserved-then-is_unwritten c = (
  c.show_waiter.ensures.len ∙ c.loop-slot.invariant.0,
  rows-next (waits_for (shown c.args.headers.now.entries c.args.txn_entries.now.items 0)) c.loop-slot.left c.take_lowest.new.self c.in-Some.slot
      c.loop-slot.rows
      c.show_waiter.new.rows c.in-Some.ensures.left c.show_waiter.ensures.own c.show_waiter.ensures.rows c.loop-slot.invariant.1,
)

pub show_waiter-requires-clause-none : goal.show_waiter-requires-clause-none
show_waiter-requires-clause-none c = rows-unwritten
    (waits_for (shown c.args.headers.now.entries c.args.txn_entries.now.items 0)) c.loop-slot.left c.in-Some.slot c.loop-slot.rows
    (c.is_unwritten.ensures.0 c.if-is_unwritten.true) c.loop-slot.invariant.1

pub loop-slot-preserved : goal.loop-slot-preserved
loop-slot-preserved c = (
  c.loop-slot.invariant.0,
  rows-there (waits_for (shown c.args.headers.now.entries c.args.txn_entries.now.items 0)) c.loop-slot.left c.take_lowest.new.self c.in-Some.slot
      c.loop-slot.rows
      c.in-Some.ensures.left (λ none. cc (c.is_unwritten.ensures.1 none, c.if-is_unwritten.false)) c.loop-slot.invariant.1,
)

pub returns-clause-rows : goal.returns-clause-rows
returns-clause-rows c = rows-read (waits_for (shown c.args.headers.now.entries c.args.txn_entries.now.items 0)) c.loop-slot.left c.loop-slot.rows
    c.in_default.ensures.none c.loop-slot.invariant.1
