use Rattle.std.proofs.Common.{refl, subst}
use Rattle.gl_catalog.specs.Manager.{state_of}
use Rattle.gl_waiting.specs.Asking.{TriesThere}
use Rattle.gl_waiting.specs.Waiting.{WaitingView}
use Rattle.gl_waiting.proofs.Counting.{nothing_counted, path_or_not}
use Rattle.gl_waiting.proofs.Awaiting.{due_on, waiting_with}
use Rattle.gl_waiting.proofs.waiter_table.WaiterTable.try_path.Goals as goal

pub invariant_of-self : goal.invariant_of-self
invariant_of-self c =
    due_on (state_of c.self.inside.delivery.manager) (state_of c.try_path-tried.new.self.manager) c.try_path-tried.result.1 c.law.ensures.lawful
    (c.try_path-tried.ensures.ended) c.self.inside.due c.union-self-inside.result c.self.inside.places
    c.union-self-inside.ensures c.self.invariant

pub returns : goal.returns
returns c =
    let tried = c.try_path-tried.ensures in
    subst
    (λ (v : WaitingView). TriesThere v c.args.txn (c.args.node, c.args.mode) c.args.keep c.try_path-tried.result.0 c.try_path-tried.new.told.items
    c.try_path-tried.result.1 (waiting_with c.try_path-tried.new.self c.self.inside.places c.self.inside.begins)) c.self.view_is
    (record {
      tries = tried.tries;
      held = tried.held;
      tests = tried.tests;
      run = tried.run;
      beside = (refl, refl, refl);
      nothing = nothing_counted c.self.inside.delivery c.try_path-tried.new.self c.try_path-tried.result.1 c.self.inside.places c.self.inside.begins
          (path_or_not c.args.keep c.args.txn (c.args.node, c.args.mode) c.self.inside.delivery c.try_path-tried.result.0
          c.try_path-tried.new.told.items c.try_path-tried.result.1 c.try_path-tried.new.self tried.tries);
    })
