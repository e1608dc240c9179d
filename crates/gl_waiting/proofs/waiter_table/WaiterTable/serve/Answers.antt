use Rattle.std.proofs.Common.{refl, subst}
use Rattle.gl_catalog.specs.Manager.{state_of}
use Rattle.gl_waiting.specs.Asking.{Serves}
use Rattle.gl_waiting.specs.Waiting.{WaitingView}
use Rattle.gl_waiting.proofs.Counting.{carries_or_not, nothing_counted}
use Rattle.gl_waiting.proofs.Awaiting.{carries_ended, due_on, waiting_with}
use Rattle.gl_waiting.proofs.waiter_table.WaiterTable.serve.Goals as goal

pub invariant_of-self : goal.invariant_of-self
invariant_of-self c =
    due_on (state_of c.self.inside.delivery.manager) (state_of c.serve-answer.new.self.manager) c.serve-answer.result.1 c.law.ensures.lawful
    (carries_ended c.self.inside.delivery c.serve-answer.new.self _ c.serve-answer.new.told.items c.serve-answer.result.1 c.serve-answer.ensures.carries)
    c.self.inside.due c.union-self-inside.result c.self.inside.places
    c.union-self-inside.ensures c.self.invariant

pub returns : goal.returns
returns c =
    subst
    (λ (v : WaitingView). Serves v c.args.command c.serve-answer.result.0 c.serve-answer.new.told.items c.serve-answer.result.1
    (waiting_with c.serve-answer.new.self c.self.inside.places c.self.inside.begins)) c.self.view_is
    (record {
      serves = c.serve-answer.ensures.serves;
      delivers = c.serve-answer.ensures.carries;
      run = c.serve-answer.ensures.run;
      beside = (refl, refl, refl);
      nothing = nothing_counted c.self.inside.delivery c.serve-answer.new.self c.serve-answer.result.1 c.self.inside.places c.self.inside.begins
          (carries_or_not c.self.inside.delivery c.serve-answer.new.self _ c.serve-answer.new.told.items c.serve-answer.result.1
          c.serve-answer.ensures.carries);
    })
