use Rattle.gl_waiting.specs.Going.{IsRunOf}
use Rattle.std.proofs.Common.{◌≡◌, refl, subst, sym, ap, ◌∙◌}
use Rattle.std.specs.Prelude.{Some, Err}
use Rattle.gl_slots.specs.Slots.{has_slot}
use Rattle.gl_steps.specs.declared.command.Answer.{Answer}
use Rattle.gl_steps.specs.declared.command.Answer.TheVariants as answer
use Rattle.gl_catalog.specs.Manager.{state_of}
use Rattle.gl_rows.specs.Serving.{Applies}
use Rattle.gl_waiting.specs.Asking.{Begins, Serves, begin_of, begin_said}
use Rattle.gl_steps.specs.declared.command.Command.{Command}
use Rattle.gl_waiting.specs.Delivering.{Carries, DeliveryView, registry_in}
use Rattle.gl_waiting.specs.Waiters.{KnowsDue}
use Rattle.gl_waiting.specs.Waiting.{WaitingView}
use Rattle.gl_waiting.proofs.Counting.{carries_or_not, nothing_counted}
use Rattle.gl_waiting.proofs.Awaiting.{carries_ended, due_on, waiting_with}
use Rattle.gl_waiting.proofs.Beginning.{begin_answered, command_made, refused_same, refused_step, served_so}
use Rattle.gl_waiting.proofs.waiter_table.WaiterTable.begin.Goals as goal

pub begun_in-requires : goal.begun_in-requires
begun_in-requires c =
    begin_answered (state_of c.self.inside.delivery.manager) c.in-Some.answer c.serve-answer.new.told.items (state_of c.serve-answer.new.self.manager)
    c.args.since
    (command_made c.args.since c.begin_command.result (registry_in c.self.inside.delivery) (registry_in c.serve-answer.new.self) c.serve-answer.result.0
    c.in-Some.answer c.serve-answer.new.told.items c.begin_command.ensures c.in-Some.is c.serve-answer.ensures.serves).step

pub invariant_of-self : goal.invariant_of-self
invariant_of-self c =
    due_on (state_of c.self.inside.delivery.manager) (state_of c.serve-answer.new.self.manager) c.serve-answer.result.1 c.law.ensures.lawful
    (carries_ended c.self.inside.delivery c.serve-answer.new.self c.begin_command.result c.serve-answer.new.told.items c.serve-answer.result.1
    c.serve-answer.ensures.carries) c.self.inside.due c.union-self-inside.result c.self.inside.places c.union-self-inside.ensures c.self.invariant

pub returns-in-Ok : goal.returns-in-Ok
returns-in-Ok c =
    let is = sym c.begun_in.ensures ∙ ap begin_said c.in-Ok.is in
    let answered = c.in-Some.is ∙ ap (λ (a : Answer). Some a) is in
    let served = c.serve-answer.ensures in (
      c.serve-answer.new.told.items,
      subst
          (λ (v : WaitingView). Serves v (begin_of c.args.since) (Some (answer.Begun c.in-Ok.txn)) c.serve-answer.new.told.items c.serve-answer.result.1
          (waiting_with c.serve-answer.new.self c.self.inside.places c.self.inside.begins)) c.self.view_is
          (record {
            serves = served_so c.args.since c.begin_command.result (registry_in c.self.inside.delivery) (registry_in c.serve-answer.new.self)
                c.serve-answer.result.0 (answer.Begun c.in-Ok.txn) c.serve-answer.new.told.items c.begin_command.ensures answered served.serves;
            delivers = subst (λ (x : Command). Carries c.self.inside.delivery x c.serve-answer.new.told.items c.serve-answer.result.1 c.serve-answer.new.self)
                c.begin_command.ensures served.carries;
            run = subst (λ (x : Command). IsRunOf x (state_of c.self.inside.delivery.manager) (state_of c.serve-answer.new.self.manager))
                c.begin_command.ensures served.run;
            beside = (refl, refl, refl);
            nothing = nothing_counted c.self.inside.delivery c.serve-answer.new.self c.serve-answer.result.1 c.self.inside.places c.self.inside.begins
                (carries_or_not c.self.inside.delivery c.serve-answer.new.self c.begin_command.result c.serve-answer.new.told.items c.serve-answer.result.1
                served.carries);
          }),
    )

applies : (c : goal.After-empty)
    → Applies c.self.inside.delivery.manager (begin_of c.args.since) (answer.Refused c.in-Err.refusal) c.serve-answer.new.told.items
    c.serve-answer.new.self.manager
applies c =
    let is = sym c.begun_in.ensures ∙ ap begin_said c.in-Err.is in
    command_made c.args.since c.begin_command.result (registry_in c.self.inside.delivery) (registry_in c.serve-answer.new.self) c.serve-answer.result.0
    (answer.Refused c.in-Err.refusal) c.serve-answer.new.told.items c.begin_command.ensures (c.in-Some.is ∙ ap (λ (a : Answer). Some a) is)
    c.serve-answer.ensures.serves

carries : (c : goal.After-empty)
    → Carries c.self.inside.delivery (begin_of c.args.since) c.serve-answer.new.told.items c.serve-answer.result.1 c.serve-answer.new.self
carries c =
    subst (λ (x : Command). Carries c.self.inside.delivery x c.serve-answer.new.told.items c.serve-answer.result.1 c.serve-answer.new.self)
    c.begin_command.ensures c.serve-answer.ensures.carries

refused : (c : goal.After-empty) → c.serve-answer.new.self ≡ c.self.inside.delivery
refused c =
    refused_same c.args.since c.self.inside.delivery c.serve-answer.new.self c.in-Err.refusal c.serve-answer.new.told.items c.serve-answer.result.1
    (applies c) (carries c)

pub invariant_of-self-in-Err : goal.invariant_of-self-in-Err
invariant_of-self-in-Err c =
    subst (λ (d : DeliveryView). KnowsDue (has_slot c.self.inside.due) (state_of d.manager) c.self.inside.places) (sym (refused c)) c.self.invariant

pub returns-in-Err : goal.returns-in-Err
returns-in-Err c =
    subst (λ (v : WaitingView). Begins v c.args.since (Err c.in-Err.refusal) c.empty.result
    (waiting_with c.serve-answer.new.self c.self.inside.places c.self.inside.begins)) c.self.view_is (
      refused_step c.args.since c.self.inside.delivery c.serve-answer.new.self c.in-Err.refusal c.serve-answer.new.told.items c.serve-answer.result.1
          (applies c) (carries c),
      c.empty.ensures.none,
      ap (λ (d : DeliveryView). waiting_with d c.self.inside.places c.self.inside.begins) (refused c),
    )
