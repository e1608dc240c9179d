use Rattle.gl_table.proofs.Words.{ap, arith, KeepsLists, slice_set}
use Rattle.gl_table.proofs.inside.Cuts.{beside_all, beside_more, kept_more}
use Rattle.gl_table.proofs.ledger.cuts.make_room_beside.Goals.{After-make_room_beside}
use Rattle.gl_table.proofs.ledger.cuts.make_room_beside.Goals as goal

kept : (c : After-make_room_beside) → KeepsLists c.args.lists.now.items (slice_set c.loop-slot.lists.items c.loop-slot.slot c.make_room_beside.new.self)
kept c = kept_more c.args.lists.now.items c.loop-slot.lists.items c.loop-slot.slot c.index_mut.result.now c.make_room_beside.new.self
    c.loop-slot.invariant.kept (let lt = c.loop-slot-test.true in let same = c.loop-slot.invariant.kept.len in omega arith) c.index_mut.ensures.value
    (ap (λ x. x.entries) c.make_room_beside.ensures.entries) c.make_room_beside.ensures.loose c.make_room_beside.ensures.kept

pub returns-in_err-make_room_beside-clause-kept : goal.returns-in_err-make_room_beside-clause-kept
returns-in_err-make_room_beside-clause-kept c = kept (goal.at.returns-in_err-make_room_beside-clause-kept c).After-make_room_beside

pub loop-slot-preserved : goal.loop-slot-preserved
loop-slot-preserved c = record {
  kept = kept (goal.at.loop-slot-preserved c).After-make_room_beside;
  ready = beside_more c.loop-slot.lists.items c.loop-slot.slot c.index_mut.result.now c.make_room_beside.new.self c.args.node
      (let lt = c.loop-slot-test.true in let same = c.loop-slot.invariant.kept.len in omega arith) c.index_mut.ensures.value
      c.make_room_beside.ensures.loose c.make_room_beside.ensures.entries c.in_ok-make_room_beside.ensures.ok c.loop-slot.invariant.ready;
}

pub returns-clause-ok : goal.returns-clause-ok
returns-clause-ok c = beside_all c.loop-slot.lists.items c.args.node c.loop-slot.slot
    (let end = c.loop-slot-test.false in let same = c.loop-slot.invariant.kept.len in omega arith) c.loop-slot.invariant.ready
