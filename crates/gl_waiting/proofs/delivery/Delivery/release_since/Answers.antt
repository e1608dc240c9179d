use Rattle.gl_waiting.proofs.Runs.{own_same}
use Rattle.std.proofs.Common.{◌≤◌, subst, rules}
use Rattle.gl_catalog.specs.Manager.{state_of}
use Rattle.gl_waiting.specs.Delivering.{Delivered, DeliveryView, unlocking}
use Rattle.gl_waiting.specs.Going.{IsRunOf}
use Rattle.gl_waiting.proofs.Backs.{back_counts, back_delivered, back_rises, back_runs}
use Rattle.gl_waiting.proofs.Delivered.{with_boxes}
use Rattle.gl_waiting.proofs.delivery.Delivery.release_since.Goals as goal

pub deliver-ended-requires : goal.deliver-ended-requires
deliver-ended-requires c =
    back_rises c.self.inside.registry c.release_since.new.self c.args.txn c.args.mark c.in-Ok.released c.release_since.new.told.items c.in-Ok.ensures
    c.law.ensures.manager.few

pub returns-clause-delivered : goal.returns-clause-delivered
returns-clause-delivered c =
    let told = c.release_since.new.told.items in
    subst (λ (d : DeliveryView). Delivered d (unlocking c.args.txn) told c.deliver-ended.result
    (with_boxes c.release_since.new.self c.deliver-ended.new.self)) c.self.view_is
    (back_delivered c.self.inside.registry c.release_since.new.self c.args.txn c.args.mark c.in-Ok.released told c.in-Ok.ensures
    c.self.inside.boxes c.deliver-ended.new.self c.deliver-ended.result c.deliver-ended.ensures.puts c.deliver-ended.ensures.slots)

pub returns-clause-counted : goal.returns-clause-counted
returns-clause-counted c =
    subst (λ (d : DeliveryView). d.manager.accepted ≤ c.release_since.new.self.manager.accepted) c.self.view_is
    (back_counts c.self.inside.registry c.release_since.new.self c.args.txn c.args.mark c.in-Ok.released c.release_since.new.told.items c.in-Ok.ensures)

pub returns-clause-run : goal.returns-clause-run
returns-clause-run c =
    subst (λ (d : DeliveryView). IsRunOf (unlocking c.args.txn) (state_of d.manager) (state_of c.release_since.new.self.manager)) c.self.view_is
    (back_runs c.self.inside.registry c.release_since.new.self c.args.txn c.args.mark c.in-Ok.released c.release_since.new.told.items c.in-Ok.ensures)

pub returns-in-Err-clause-run : goal.returns-in-Err-clause-run
returns-in-Err-clause-run c =
    own_same (unlocking c.args.txn) (state_of c.args.self.now.manager) (state_of c.release_since.new.self.manager) (search rules)
