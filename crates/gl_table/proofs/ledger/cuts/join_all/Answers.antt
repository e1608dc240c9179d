use Rattle.gl_table.proofs.Words.{arith, count_of}
use Rattle.gl_table.specs.inside.Cuts.{CanJoin}
use Rattle.gl_table.proofs.inside.Cuts.{counted_over, done_all, done_more, IsCountedOver, still_here}
use Rattle.gl_table.proofs.ledger.cuts.join_all.Goals.{After-index_mut}
use Rattle.gl_table.proofs.ledger.cuts.join_all.Goals as goal

may : (c : After-index_mut) → CanJoin c.args.from c.args.to c.index_mut.result.now
may c = c.requires.can c.loop-slot.slot c.index_mut.result.now
    (still_here c.loop-slot.invariant c.index_mut.result.now (let lt = c.loop-slot-test.true in let same = c.loop-slot.invariant.len in omega arith)
    c.index_mut.ensures.value)

pub join_counts-requires-clause-few : goal.join_counts-requires-clause-few
join_counts-requires-clause-few c = (may (goal.at.join_counts-requires-clause-few c).After-index_mut).few

pub join_counts-requires-clause-room : goal.join_counts-requires-clause-room
join_counts-requires-clause-room c = (may (goal.at.join_counts-requires-clause-room c).After-index_mut).room

pub loop-slot-preserved : goal.loop-slot-preserved
loop-slot-preserved c = done_more c.loop-slot.invariant c.index_mut.result.now
    (let lt = c.loop-slot-test.true in let same = c.loop-slot.invariant.len in omega arith) c.index_mut.ensures.value c.join_counts.new.self (record {
      listed = c.join_counts.ensures.listed;
      modes = c.join_counts.ensures.modes;
      counts = c.join_counts.ensures.counts;
      room = c.join_counts.ensures.room;
      keys = c.join_counts.ensures.keys;
      spares = c.join_counts.ensures.entries_room;
    })

pub returns : goal.returns
returns c =
    let over = IsCountedOver c.args.from c.args.to (λ x. count_of x c.args.from) in
    counted_over c.args.lists.now.items c.loop-slot.lists.items c.args.from c.args.to (λ x. count_of x c.args.from) c.loop-slot.invariant.len
    (done_all over c.args.lists.now.items c.loop-slot.lists.items c.loop-slot.slot c.loop-slot.invariant
    (let end = c.loop-slot-test.false in omega arith))
