use Rattle.std.proofs.Common.{ap, ◌∙◌}
use Rattle.std.proofs.Math.Seq.{map-set_same}
use Rattle.gl_rows.proofs.SlotSets.{room_at}
use Rattle.gl_rows.proofs.sets.make_room.Goals as goal

pub returns-in-Ok-clause-same : goal.returns-in-Ok-clause-same
returns-in-Ok-clause-same c = map-set_same (λ s. s.keys) c.args.sets.now.items c.args.slot c.reserve.new.self c.index_mut.result.now
    (c.reserve.ensures.keys ∙ ap (λ x. x.keys) c.index_mut.ensures.value)

pub returns-in-Ok-clause-room : goal.returns-in-Ok-clause-room
returns-in-Ok-clause-room c = room_at c.args.sets.now.items c.args.slot c.reserve.new.self c.in-Ok.ensures.ok

pub returns-in-Err-clause-same : goal.returns-in-Err-clause-same
returns-in-Err-clause-same c = map-set_same (λ s. s.keys) c.args.sets.now.items c.args.slot c.reserve.new.self c.index_mut.result.now
    (c.reserve.ensures.keys ∙ ap (λ x. x.keys) c.index_mut.ensures.value)
