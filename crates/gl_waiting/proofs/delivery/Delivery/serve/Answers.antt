use Rattle.std.proofs.Common.{subst, sym, ◌∙◌, rules}
use Rattle.std.specs.Prelude.{Some}
use Rattle.gl_catalog.specs.Manager.{state_of}
use Rattle.gl_rows.specs.Serving.{ServesBy, touches_rows}
use Rattle.gl_waiting.specs.Delivering.{Carries, DeliveryView, registry_in}
use Rattle.gl_waiting.specs.Going.{IsRunOf}
use Rattle.gl_waiting.proofs.Delivered.{carries_not, carries_so, made, made_rises, made_runs, with_boxes}
use Rattle.gl_waiting.proofs.Runs.{own_same}
use Rattle.gl_waiting.proofs.delivery.Delivery.serve.Goals as goal

pub returns-then-not-is_accepted-clause-serves : goal.returns-then-not-is_accepted-clause-serves
returns-then-not-is_accepted-clause-serves c =
    subst (λ (d : DeliveryView). ServesBy (touches_rows (registry_in d) c.args.command) (registry_in d) c.args.command (Some c.in-Some.answer)
    c.serve.new.told.items c.serve.new.self) c.self.view_is c.in-Some.ensures

pub returns-then-not-is_accepted-clause-carries : goal.returns-then-not-is_accepted-clause-carries
returns-then-not-is_accepted-clause-carries c =
    let told = c.serve.new.told.items in
    subst (λ (d : DeliveryView). Carries d c.args.command told c.empty-then-not-is_accepted.result (with_boxes c.serve.new.self c.self.inside.boxes))
    c.self.view_is
    (carries_not c.self.inside.registry c.serve.new.self c.args.command c.in-Some.answer told
    (made c.self.inside.registry c.serve.new.self c.args.command c.in-Some.answer told c.in-Some.ensures)
    c.self.inside.boxes c.empty-then-not-is_accepted.result (sym c.is_accepted.ensures ∙ c.if-not-is_accepted.true) c.empty-then-not-is_accepted.ensures.none)

pub deliver-ended-requires : goal.deliver-ended-requires
deliver-ended-requires c =
    made_rises c.self.inside.registry c.serve.new.self c.args.command c.in-Some.answer c.serve.new.told.items
    (made c.self.inside.registry c.serve.new.self c.args.command c.in-Some.answer c.serve.new.told.items c.in-Some.ensures) c.law.ensures.manager.few

pub returns-clause-serves : goal.returns-clause-serves
returns-clause-serves c =
    subst (λ (d : DeliveryView). ServesBy (touches_rows (registry_in d) c.args.command) (registry_in d) c.args.command (Some c.in-Some.answer)
    c.serve.new.told.items c.serve.new.self) c.self.view_is c.in-Some.ensures

pub returns-clause-carries : goal.returns-clause-carries
returns-clause-carries c =
    let told = c.serve.new.told.items in
    subst (λ (d : DeliveryView). Carries d c.args.command told c.deliver-ended.result (with_boxes c.serve.new.self c.deliver-ended.new.self))
    c.self.view_is
    (carries_so c.self.inside.registry c.serve.new.self c.args.command c.in-Some.answer told
    (made c.self.inside.registry c.serve.new.self c.args.command c.in-Some.answer told c.in-Some.ensures)
    c.self.inside.boxes c.deliver-ended.new.self c.deliver-ended.result (sym c.is_accepted.ensures ∙ c.if-not-is_accepted.false)
    c.deliver-ended.ensures.puts c.deliver-ended.ensures.slots)

pub returns-then-not-is_accepted-clause-run : goal.returns-then-not-is_accepted-clause-run
returns-then-not-is_accepted-clause-run c =
    subst (λ (d : DeliveryView). IsRunOf c.args.command (state_of d.manager) (state_of c.serve.new.self.manager)) c.self.view_is
    (made_runs c.self.inside.registry c.serve.new.self c.args.command c.in-Some.answer c.serve.new.told.items
    (made c.self.inside.registry c.serve.new.self c.args.command c.in-Some.answer c.serve.new.told.items c.in-Some.ensures))

pub returns-clause-run : goal.returns-clause-run
returns-clause-run c =
    subst (λ (d : DeliveryView). IsRunOf c.args.command (state_of d.manager) (state_of c.serve.new.self.manager)) c.self.view_is
    (made_runs c.self.inside.registry c.serve.new.self c.args.command c.in-Some.answer c.serve.new.told.items
    (made c.self.inside.registry c.serve.new.self c.args.command c.in-Some.answer c.serve.new.told.items c.in-Some.ensures))

pub returns-in_default-clause-run : goal.returns-in_default-clause-run
returns-in_default-clause-run c =
    own_same c.args.command (state_of c.args.self.now.manager) (state_of c.serve.new.self.manager) (search rules)
