use Rattle.std.proofs.Common.{◌≡◌, ◌<◌, ◌||◌, ◌==◌, ℕ, ap, subst, ◌∙◌}
use Rattle.std.specs.List.{list_any}
use Rattle.gl_slots.specs.Limit.{most_slots}
use Rattle.gl_slots.specs.Slots.{has_slot}
use Rattle.gl_steps.specs.declared.command.Command.{Command}
use Rattle.gl_catalog.specs.Manager.{ManagerView, state_of}
use Rattle.gl_rows.specs.Applying.{AppliesCall, CarriesOut, answer_in, naming, own_command}
use Rattle.gl_wakes.specs.Boxes.{Puts}
use Rattle.gl_wakes.specs.Wakes.{names_slot}
use Rattle.gl_waiting.specs.Delivering.{Carries, DeliveryView, registry_in}
use Rattle.gl_waiting.specs.Going.{IsRunOf}
use Rattle.gl_waiting.proofs.Delivered.{with_boxes}
use Rattle.gl_waiting.proofs.RowCalls.{comes_unless, row_none, row_rises, row_runs, row_some, stays_if}
use Rattle.gl_waiting.proofs.delivery.Delivery.serve_row.Goals as goal

-- no command was counted

pub returns-then-accepted-before-clause-carries : goal.returns-then-accepted-before-clause-carries
returns-then-accepted-before-clause-carries c =
    let g = c.self.inside.registry in
    let v = c.apply-answer.new.self in
    let told = c.apply-answer.new.told.items in
    let call = c.args.call in
    let applies = c.apply-answer.ensures.applies in
    let own = c.apply-answer.ensures.own in
    subst (λ (d : DeliveryView). Carries d (own_command (naming call d.rows v.rows) call) told c.empty.result (with_boxes v c.self.inside.boxes)) c.self.view_is
    (row_none g call c.apply-answer.result told v applies own c.self.inside.boxes c.empty.result
    (stays_if g call c.apply-answer.result told v applies own c.accepted-before.result c.accepted.result
    (c.accepted-before.ensures ∙ ap (λ (x : ManagerView). x.accepted) c.manager.ensures)
    (c.accepted.ensures ∙ ap (λ (x : ManagerView). x.accepted) c.manager-2.ensures) c.if-accepted-before.true)
    c.empty.ensures.none)

pub returns-then-accepted-before-clause-run : goal.returns-then-accepted-before-clause-run
returns-then-accepted-before-clause-run c =
    subst (λ (d : DeliveryView). IsRunOf (own_command (naming c.args.call d.rows c.apply-answer.new.self.rows) c.args.call) (state_of d.manager)
    (state_of c.apply-answer.new.self.manager)) c.self.view_is
    (row_runs c.self.inside.registry c.args.call c.apply-answer.result c.apply-answer.new.told.items c.apply-answer.new.self
    c.apply-answer.ensures.applies c.apply-answer.ensures.own)

-- more commands were

pub deliver-ended-requires : goal.deliver-ended-requires
deliver-ended-requires c =
    let g = c.self.inside.registry in
    let v = c.apply-answer.new.self in
    let told = c.apply-answer.new.told.items in
    let applies = c.apply-answer.ensures.applies in
    let own = c.apply-answer.ensures.own in
    row_rises g c.args.call c.apply-answer.result told v applies own
    (comes_unless g c.args.call c.apply-answer.result told v applies own c.accepted-before.result c.accepted.result
    (c.accepted-before.ensures ∙ ap (λ (x : ManagerView). x.accepted) c.manager.ensures)
    (c.accepted.ensures ∙ ap (λ (x : ManagerView). x.accepted) c.manager-2.ensures) c.if-accepted-before.false)
    c.law.ensures.manager.few

pub returns-clause-applies : goal.returns-clause-applies
returns-clause-applies c =
    subst (λ (d : DeliveryView). AppliesCall (registry_in d) c.args.call c.apply-answer.result c.apply-answer.new.told.items c.apply-answer.new.self)
    c.self.view_is c.apply-answer.ensures.applies

pub returns-clause-own : goal.returns-clause-own
returns-clause-own c =
    let v = c.apply-answer.new.self in
    subst (λ (d : DeliveryView). CarriesOut d.manager (own_command (naming c.args.call d.rows v.rows) c.args.call) (answer_in c.apply-answer.result)
    c.apply-answer.new.told.items v.manager) c.self.view_is c.apply-answer.ensures.own

pub returns-clause-carries : goal.returns-clause-carries
returns-clause-carries c =
    let g = c.self.inside.registry in
    let v = c.apply-answer.new.self in
    let told = c.apply-answer.new.told.items in
    let call = c.args.call in
    let applies = c.apply-answer.ensures.applies in
    let own = c.apply-answer.ensures.own in
    let ended = c.deliver-ended.result in
    let comes = comes_unless g call c.apply-answer.result told v applies own c.accepted-before.result c.accepted.result
    (c.accepted-before.ensures ∙ ap (λ (x : ManagerView). x.accepted) c.manager.ensures)
    (c.accepted.ensures ∙ ap (λ (x : ManagerView). x.accepted) c.manager-2.ensures) c.if-accepted-before.false in
    subst (λ (d : DeliveryView). Carries d (own_command (naming call d.rows v.rows) call) told ended (with_boxes v c.deliver-ended.new.self)) c.self.view_is
    (row_some g call c.apply-answer.result told v applies own comes c.self.inside.boxes c.deliver-ended.new.self ended
    (subst (λ (x : Command). Puts c.self.inside.boxes x told c.deliver-ended.new.self) c.command-own.ensures c.deliver-ended.ensures.puts)
    (subst (λ (x : Command). (u : ℕ) → u < most_slots → has_slot ended u ≡ (names_slot x u || list_any (λ x. x.0.slot == u) told))
    c.command-own.ensures c.deliver-ended.ensures.slots))

pub returns-clause-run : goal.returns-clause-run
returns-clause-run c =
    subst (λ (d : DeliveryView). IsRunOf (own_command (naming c.args.call d.rows c.apply-answer.new.self.rows) c.args.call) (state_of d.manager)
    (state_of c.apply-answer.new.self.manager)) c.self.view_is
    (row_runs c.self.inside.registry c.args.call c.apply-answer.result c.apply-answer.new.told.items c.apply-answer.new.self
    c.apply-answer.ensures.applies c.apply-answer.ensures.own)
