use Rattle.std.proofs.Common.{refl, subst}
use Rattle.gl_catalog.specs.Manager.{state_of}
use Rattle.gl_rows.specs.Locking.{Wish}
use Rattle.gl_waiting.specs.Asking.{TriesRowThere}
use Rattle.gl_waiting.specs.Waiting.{WaitingView}
use Rattle.gl_waiting.proofs.Counting.{nothing_counted, row_or_not}
use Rattle.gl_waiting.proofs.Awaiting.{due_on, waiting_with}
use Rattle.gl_waiting.proofs.waiter_table.WaiterTable.try_row.Goals as goal

pub invariant_of-self : goal.invariant_of-self
invariant_of-self c =
    due_on (state_of c.self.inside.delivery.manager) (state_of c.try_row-tried.new.self.manager) c.try_row-tried.result.1 c.law.ensures.lawful
    (c.try_row-tried.ensures.ended) c.self.inside.due c.union-self-inside.result c.self.inside.places
    c.union-self-inside.ensures c.self.invariant

pub returns : goal.returns
returns c =
    let tried = c.try_row-tried.ensures in
    let wish : Wish = record { txn = c.args.txn; row = c.args.row; keys = c.args.keys; mode = c.args.mode } in
    subst
    (λ (v : WaitingView). TriesRowThere v wish c.try_row-tried.result.0 c.try_row-tried.new.told.items c.try_row-tried.result.1
    (waiting_with c.try_row-tried.new.self c.self.inside.places c.self.inside.begins)) c.self.view_is
    (record {
      tries = tried.tries;
      holds = tried.holds;
      waits = tried.waits;
      queues = tried.queues;
      run = tried.run;
      beside = (refl, refl, refl);
      nothing = nothing_counted c.self.inside.delivery c.try_row-tried.new.self c.try_row-tried.result.1 c.self.inside.places c.self.inside.begins
          (row_or_not wish c.self.inside.delivery c.try_row-tried.result.0 c.try_row-tried.new.told.items c.try_row-tried.result.1
          c.try_row-tried.new.self tried.tries);
    })
