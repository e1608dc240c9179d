use Rattle.gl_table.proofs.Words.{arith, graph_of, LockList, ℕ}
use Rattle.gl_lock_lists.specs.Lists.{held_below}
use Rattle.gl_table.specs.inside.Cuts.{CanPart}
use Rattle.gl_table.proofs.inside.Cuts.{counted_over, done_all, done_more, IsCountedOver, still_here}
use Rattle.gl_table.proofs.ledger.cuts.part_all.Goals.{After-index_mut}
use Rattle.gl_table.proofs.ledger.cuts.part_all.Goals as goal

may : (c : After-index_mut) → CanPart (graph_of c.args.graph.now) c.args.from c.args.to c.index_mut.result.now
may c = c.requires.can c.loop-slot.slot c.index_mut.result.now
    (still_here c.loop-slot.invariant c.index_mut.result.now (let lt = c.loop-slot-test.true in let same = c.loop-slot.invariant.len in omega arith)
    c.index_mut.ensures.value)

pub part-requires-clause-live : goal.part-requires-clause-live
part-requires-clause-live c = (may (goal.at.part-requires-clause-live c).After-index_mut).live

pub part-requires-clause-some : goal.part-requires-clause-some
part-requires-clause-some c = (may (goal.at.part-requires-clause-some c).After-index_mut).some

pub part-requires-clause-none : goal.part-requires-clause-none
part-requires-clause-none c = (may (goal.at.part-requires-clause-none c).After-index_mut).none

pub part-requires-clause-room : goal.part-requires-clause-room
part-requires-clause-room c = (may (goal.at.part-requires-clause-room c).After-index_mut).room

pub loop-slot-preserved : goal.loop-slot-preserved
loop-slot-preserved c = done_more c.loop-slot.invariant c.index_mut.result.now
    (let lt = c.loop-slot-test.true in let same = c.loop-slot.invariant.len in omega arith) c.index_mut.ensures.value c.part.new.self (record {
      listed = c.part.ensures.listed;
      modes = c.part.ensures.modes;
      counts = c.part.ensures.counts;
      room = c.part.ensures.room;
      keys = c.part.ensures.keys;
      spares = c.part.ensures.entries_room;
    })

pub returns : goal.returns
returns c =
    let below : LockList → ℕ = λ x. held_below (graph_of c.args.graph.now) x c.args.to in
    counted_over c.args.lists.now.items c.loop-slot.lists.items c.args.from c.args.to below c.loop-slot.invariant.len
    (done_all (IsCountedOver c.args.from c.args.to below) c.args.lists.now.items c.loop-slot.lists.items c.loop-slot.slot c.loop-slot.invariant
    (let end = c.loop-slot-test.false in omega arith))
