use Rattle.std.proofs.Common.{refl, subst}
use Rattle.gl_catalog.specs.Manager.{state_of}
use Rattle.gl_waiting.specs.Asking.{LocksPath}
use Rattle.gl_waiting.specs.Waiting.{WaitingView}
use Rattle.gl_waiting.proofs.Counting.{carries_or_not, nothing_counted}
use Rattle.gl_waiting.proofs.Awaiting.{carries_ended, due_on, waiting_with}
use Rattle.gl_waiting.proofs.waiter_table.WaiterTable.lock_path.Goals as goal

pub invariant_of-self : goal.invariant_of-self
invariant_of-self c =
    due_on (state_of c.self.inside.delivery.manager) (state_of c.lock_path-reached.new.self.manager) c.lock_path-reached.result.1 c.law.ensures.lawful
    (carries_ended c.self.inside.delivery c.lock_path-reached.new.self _ c.lock_path-reached.new.told.items c.lock_path-reached.result.1
    c.lock_path-reached.ensures.carries) c.self.inside.due c.union-self-inside.result c.self.inside.places
    c.union-self-inside.ensures c.self.invariant

pub returns : goal.returns
returns c =
    subst
    (λ (v : WaitingView). LocksPath v c.args.txn (c.args.node, c.args.mode) c.lock_path-reached.result.0 c.lock_path-reached.new.told.items
    c.lock_path-reached.result.1 (waiting_with c.lock_path-reached.new.self c.self.inside.places c.self.inside.begins)) c.self.view_is
    (record {
      path = c.lock_path-reached.ensures.path;
      delivers = c.lock_path-reached.ensures.carries;
      run = c.lock_path-reached.ensures.run;
      beside = (refl, refl, refl);
      nothing = nothing_counted c.self.inside.delivery c.lock_path-reached.new.self c.lock_path-reached.result.1 c.self.inside.places c.self.inside.begins
          (carries_or_not c.self.inside.delivery c.lock_path-reached.new.self _ c.lock_path-reached.new.told.items c.lock_path-reached.result.1
          c.lock_path-reached.ensures.carries);
    })
