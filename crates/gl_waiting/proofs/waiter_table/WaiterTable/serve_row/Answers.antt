use Rattle.std.proofs.Common.{refl, subst}
use Rattle.gl_catalog.specs.Manager.{state_of}
use Rattle.gl_waiting.specs.Asking.{ServesRow}
use Rattle.gl_waiting.specs.Waiting.{WaitingView}
use Rattle.gl_waiting.proofs.Counting.{carries_or_not, nothing_counted}
use Rattle.gl_waiting.proofs.Awaiting.{carries_ended, due_on, waiting_with}
use Rattle.gl_waiting.proofs.waiter_table.WaiterTable.serve_row.Goals as goal

pub invariant_of-self : goal.invariant_of-self
invariant_of-self c =
    due_on (state_of c.self.inside.delivery.manager) (state_of c.serve_row-answer.new.self.manager) c.serve_row-answer.result.1 c.law.ensures.lawful
    (carries_ended c.self.inside.delivery c.serve_row-answer.new.self _ c.serve_row-answer.new.told.items c.serve_row-answer.result.1
    c.serve_row-answer.ensures.carries) c.self.inside.due c.union-self-inside.result c.self.inside.places
    c.union-self-inside.ensures c.self.invariant

pub returns : goal.returns
returns c =
    subst
    (λ (v : WaitingView). ServesRow v c.args.call c.serve_row-answer.result.0 c.serve_row-answer.new.told.items c.serve_row-answer.result.1
    (waiting_with c.serve_row-answer.new.self c.self.inside.places c.self.inside.begins)) c.self.view_is
    (record {
      applies = c.serve_row-answer.ensures.applies;
      own = c.serve_row-answer.ensures.own;
      delivers = c.serve_row-answer.ensures.carries;
      run = c.serve_row-answer.ensures.run;
      beside = (refl, refl, refl);
      nothing = nothing_counted c.self.inside.delivery c.serve_row-answer.new.self c.serve_row-answer.result.1 c.self.inside.places c.self.inside.begins
          (carries_or_not c.self.inside.delivery c.serve_row-answer.new.self _ c.serve_row-answer.new.told.items c.serve_row-answer.result.1
          c.serve_row-answer.ensures.carries);
    })
