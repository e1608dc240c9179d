use Rattle.gl_waiting.proofs.Runs.{own_same}
use Rattle.std.proofs.Common.{subst, rules}
use Rattle.std.specs.Prelude.{Ok}
use Rattle.gl_catalog.specs.Manager.{state_of}
use Rattle.gl_rows.specs.Releasing.{CommitsAndKeeps}
use Rattle.gl_steps.specs.declared.command.Command.TheVariants as command
use Rattle.gl_waiting.specs.Delivering.{Carries, DeliveryView}
use Rattle.gl_waiting.specs.Going.{IsRunOf}
use Rattle.gl_waiting.proofs.Delivered.{with_boxes}
use Rattle.gl_waiting.proofs.Backs.{keeping_carries, keeping_rises, keeping_runs}
use Rattle.gl_waiting.proofs.delivery.Delivery.commit_keeping.Goals as goal

pub deliver-ended-requires : goal.deliver-ended-requires
deliver-ended-requires c =
    keeping_rises c.self.inside.registry c.commit_keeping.new.self c.args.txn c.args.keep c.args.since c.in-Ok.next c.commit_keeping.new.told.items
    c.in-Ok.ensures c.law.ensures.manager.few

pub returns-clause-keeps : goal.returns-clause-keeps
returns-clause-keeps c =
    let v = c.commit_keeping.new.self in
    subst (λ (d : DeliveryView). CommitsAndKeeps c.args.txn c.args.keep c.args.since d.manager d.rows (Ok c.in-Ok.next) c.commit_keeping.new.told.items
    v.manager v.rows) c.self.view_is c.in-Ok.ensures

pub returns-clause-carries : goal.returns-clause-carries
returns-clause-carries c =
    let told = c.commit_keeping.new.told.items in
    subst (λ (d : DeliveryView). Carries d (command.Commit c.args.txn) told c.deliver-ended.result
    (with_boxes c.commit_keeping.new.self c.deliver-ended.new.self)) c.self.view_is
    (keeping_carries c.self.inside.registry c.commit_keeping.new.self c.args.txn c.args.keep c.args.since c.in-Ok.next told c.in-Ok.ensures
    c.self.inside.boxes c.deliver-ended.new.self c.deliver-ended.result c.deliver-ended.ensures.puts c.deliver-ended.ensures.slots)

pub returns-clause-run : goal.returns-clause-run
returns-clause-run c =
    subst (λ (d : DeliveryView). IsRunOf (command.Commit c.args.txn) (state_of d.manager) (state_of c.commit_keeping.new.self.manager)) c.self.view_is
    (keeping_runs c.self.inside.registry c.commit_keeping.new.self c.args.txn c.args.keep c.args.since c.in-Ok.next c.commit_keeping.new.told.items
    c.in-Ok.ensures)

pub returns-in-Err-clause-run : goal.returns-in-Err-clause-run
returns-in-Err-clause-run c =
    own_same (command.Commit c.args.txn) (state_of c.args.self.now.manager) (state_of c.commit_keeping.new.self.manager) (search rules)
