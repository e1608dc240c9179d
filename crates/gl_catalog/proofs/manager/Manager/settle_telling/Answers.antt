use Rattle.std.proofs.Common.{◌+◌, refl, subst}
use Rattle.gl_model.specs.Deadlocks.{SettlesKeeping}
use Rattle.gl_model.specs.Calls.{living_tests}
use Rattle.gl_table.specs.Table.{state_of as table_state}
use Rattle.gl_steps.specs.declared.command.Command.TheVariants as command
use Rattle.gl_model.specs.State.{counting}
use Rattle.gl_catalog.specs.Manager.{ManagerView, state_of}
use Rattle.gl_catalog.specs.Replies.{doing}
use Rattle.gl_steps.proofs.Counting.{keeping_counting, settled_counting}
use Rattle.gl_catalog.proofs.Managed.{managed_ok_only}
use Rattle.gl_steps.specs.declared.command.Answer.TheVariants as answer
use Rattle.gl_catalog.specs.Sound.{view_of}
use Rattle.gl_catalog.proofs.Completed.{notices_counted, told_completed}
use Rattle.gl_catalog.proofs.manager.Manager.settle_telling.Goals as goal

pub returns-clause-step : goal.returns-clause-step
returns-clause-step c =
    managed_ok_only (doing c.settle_telling.new.notices.items)
    (command.Settle c.args.t) c.self.inside.table c.self.inside.accepted c.args.self.now c.self.view_is (living_tests
    (table_state c.self.inside.table) c.args.t) refl
    tt c.settle_telling.new.self c.in_ok-check_count.ensures c.in_ok-settle_telling.ensures.refuses refl (
      refl,
      c.in_ok-settle_telling.ensures.told,
      settled_counting c.self.inside.accepted (table_state c.self.inside.table).victims
          (table_state c.self.inside.table) c.args.t.slot (table_state c.settle_telling.new.self) c.in_ok-settle_telling.ensures.state,
    )

pub returns-clause-completes : goal.returns-clause-completes
returns-clause-completes c =
    told_completed (view_of c.self.inside) c.args.self.now
    (record { table = c.settle_telling.new.self; accepted = c.self.inside.accepted + 1; counters = c.add_notices.new.self }) c.self.view_is c.self.invariant
    (command.Settle c.args.t) refl c.in_ok-settle_telling.ensures.orders
    answer.Done c.settle_telling.new.notices.items c.as_slice.result.now (returns-clause-step c)
    (subst (λ (v : ManagerView). SettlesKeeping (state_of v).victims (state_of v) c.args.t.slot v.table.deadlock (counting v.accepted
    (table_state c.settle_telling.new.self)) c.settle_telling.new.self.deadlock) c.self.view_is
    (keeping_counting c.self.inside.accepted (table_state c.self.inside.table).victims
    (table_state c.self.inside.table) c.args.t.slot c.self.inside.table.deadlock
    (table_state c.settle_telling.new.self) c.settle_telling.new.self.deadlock c.in_ok-settle_telling.ensures.deadlock)) c.as_slice.ensures.value
    c.add_notices.ensures (notices_counted c.settle_telling.new.notices.items)
