use Rattle.std.proofs.Common.{refl, subst}
use Rattle.gl_catalog.specs.Manager.{state_of}
use Rattle.gl_waiting.specs.Asking.{KeepsLocks}
use Rattle.gl_waiting.specs.Waiting.{WaitingView}
use Rattle.gl_waiting.proofs.Counting.{carries_or_not, nothing_counted}
use Rattle.gl_waiting.proofs.Awaiting.{carries_ended, due_on, waiting_with}
use Rattle.gl_waiting.proofs.waiter_table.WaiterTable.commit_keeping.Goals as goal

pub invariant_of-self : goal.invariant_of-self
invariant_of-self c =
    due_on (state_of c.self.inside.delivery.manager) (state_of c.commit_keeping-next.new.self.manager) c.commit_keeping-next.result.1 c.law.ensures.lawful
    (carries_ended c.self.inside.delivery c.commit_keeping-next.new.self _ c.commit_keeping-next.new.told.items c.commit_keeping-next.result.1
    c.commit_keeping-next.ensures.carries)
    c.self.inside.due c.union-self-inside.result c.self.inside.places
    c.union-self-inside.ensures c.self.invariant

pub returns : goal.returns
returns c =
    subst
    (λ (v : WaitingView). KeepsLocks v c.args.txn c.args.keep c.args.since c.commit_keeping-next.result.0 c.commit_keeping-next.new.told.items
    c.commit_keeping-next.result.1
    (waiting_with c.commit_keeping-next.new.self c.self.inside.places c.self.inside.begins)) c.self.view_is
    (record {
      keeps = c.commit_keeping-next.ensures.keeps;
      delivers = c.commit_keeping-next.ensures.carries;
      run = c.commit_keeping-next.ensures.run;
      beside = (refl, refl, refl);
      nothing = nothing_counted c.self.inside.delivery c.commit_keeping-next.new.self c.commit_keeping-next.result.1 c.self.inside.places c.self.inside.begins
          (carries_or_not c.self.inside.delivery c.commit_keeping-next.new.self _ c.commit_keeping-next.new.told.items c.commit_keeping-next.result.1
          c.commit_keeping-next.ensures.carries);
    })
