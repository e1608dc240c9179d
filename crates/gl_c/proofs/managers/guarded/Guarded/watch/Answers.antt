use Rattle.std.proofs.Common.{◌≡◌, ◌≤◌, ◌∙◌, ap, refl, subst, sym}
use Rattle.std.specs.Prelude.{IfOk, IfSome, Option, Some}
use Rattle.gl_slots.specs.declared.slots.Slots.{Slots}
use Rattle.gl_table.specs.Table.{board_of}
use Rattle.gl_catalog.specs.Manager.{ManagerView, state_of}
use Rattle.gl_window.specs.Boards.{Ends, last_epoch}
use Rattle.gl_window.specs.Strip.{Strip}
use Rattle.gl_c.specs.managers.Guarded.{GuardedView}
use Rattle.gl_c.specs.managers.Serving.{KnowsWaits}
use Rattle.gl_c.specs.managers.Showing.{shown_in}
use Rattle.gl_c.specs.managers.Sound.{view_of}
use Rattle.gl_c.specs.watchers.Watching.{OnlyShows}
use Rattle.gl_c.proofs.managers.guarded.Guarded.watch.Goals as goal

pub watch-requires-clause-rises : goal.watch-requires-clause-rises
watch-requires-clause-rises c =
    subst (λ (m : ManagerView). IfSome (shown_in c.self.inside.showing) (λ (p : Strip). last_epoch 0 p.list ≤ m.accepted)) (sym c.manager.ensures)
    c.self.invariant.epoch

pub watch-requires-clause-detect : goal.watch-requires-clause-detect
watch-requires-clause-detect c =
    subst (λ (m : ManagerView). IfSome (shown_in c.self.inside.showing) (λ (p : Strip). p.detect ≡ m.table.detect)) (sym c.manager.ensures)
    c.self.invariant.detect

pub invariant_of-self : goal.invariant_of-self
invariant_of-self c = record {
  epoch = subst (λ (m : ManagerView). IfSome (shown_in c.watch.new.showing) (λ (p : Strip). last_epoch 0 p.list ≤ m.accepted)) c.manager.ensures
      c.watch.ensures.epoch;
  detect = subst (λ (m : ManagerView). IfSome (shown_in c.watch.new.showing) (λ (p : Strip). p.detect ≡ m.table.detect)) c.manager.ensures
      c.watch.ensures.detect;
  known = subst (λ (o : Option Slots). KnowsWaits (state_of c.self.inside.waiting.manager) (shown_in c.watch.new.showing) o)
      (sym c.watch.ensures.unknown) tt;
  rests = c.self.invariant.rests;
}

pub returns-clause-kept : goal.returns-clause-kept
returns-clause-kept c =
    subst (λ (v : GuardedView). OnlyShows v (view_of (record c.self.inside { showing = c.watch.new.showing }))) c.self.view_is
    (record { waiting = refl; resting = refl; ended = refl; shown = c.watch.ensures.goes_on })

pub returns-clause-watcher : goal.returns-clause-watcher
returns-clause-watcher c =
    subst (λ (m : ManagerView). IfOk c.watch.result (λ (w : Strip). (shown_in c.watch.new.showing ≡ Some w) × Ends w.list (board_of (state_of m))))
    (c.manager.ensures ∙ ap (λ (v : GuardedView). v.manager) c.self.view_is) c.watch.ensures.watcher
