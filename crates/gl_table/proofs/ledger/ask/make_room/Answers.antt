use Rattle.std.proofs.lemmas.Result.{on_ok_weaker}
use Rattle.gl_table.proofs.inside.Slots.{has_room-set, keeps-set}
use Rattle.gl_table.proofs.ledger.ask.make_room.Goals as goal

pub returns-clause-kept : goal.returns-clause-kept
returns-clause-kept c =
    keeps-set c.args.lists.now.items c.args.slot c.index_mut.result.now c.make_room.new.self c.requires c.index_mut.ensures.value c.make_room.ensures.entries
    c.make_room.ensures.loose c.make_room.ensures.kept

pub returns-clause-ok : goal.returns-clause-ok
returns-clause-ok c =
    on_ok_weaker c.make_room.result
    (has_room-set c.args.lists.now.items c.args.slot c.index_mut.result.now c.make_room.new.self c.requires c.index_mut.ensures.value)
    c.make_room.ensures.ok
