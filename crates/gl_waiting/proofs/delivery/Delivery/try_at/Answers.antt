use Rattle.std.proofs.Common.{subst}
use Rattle.gl_waiting.specs.Delivering.{DeliveryView}
use Rattle.gl_waiting.proofs.Delivered.{with_boxes}
use Rattle.gl_waiting.proofs.TriedPaths.{TriesAt, answers_try, served, tries_at}
use Rattle.gl_waiting.proofs.delivery.Delivery.try_at.Goals as goal

pub taken-requires : goal.taken-requires
taken-requires c =
    answers_try _ _ _ _ _ _
    (served c.self.inside.registry c.serve.new.self c.args.txn (c.args.node, c.args.mode) c.serve.new.told.items c.serve.result c.serve.ensures)

pub returns : goal.returns
returns c =
    let it : TriesAt c.args.self.now c.args.txn (c.args.node, c.args.mode) c.taken.result c.serve.new.told.items
    (with_boxes c.serve.new.self c.self.inside.boxes) =
    subst (λ (d : DeliveryView). TriesAt d c.args.txn (c.args.node, c.args.mode) c.taken.result c.serve.new.told.items
    (with_boxes c.serve.new.self c.self.inside.boxes)) c.self.view_is
    (tries_at c.self.inside.registry c.serve.new.self c.self.inside.boxes c.args.txn (c.args.node, c.args.mode) c.serve.result
    c.serve.new.told.items c.taken.result
    (served c.self.inside.registry c.serve.new.self c.args.txn (c.args.node, c.args.mode) c.serve.new.told.items c.serve.result c.serve.ensures)
    c.taken.ensures) in
    record { step = it.step; refused = it.refused; manager = it.manager; untold = it.untold }
