use Rattle.std.proofs.Common.{subst, sym}
use Rattle.std.specs.Prelude.{Option, Some, is_none}
use Rattle.gl_table.specs.Table.{board_of}
use Rattle.gl_catalog.specs.Manager.{ManagerView, state_of}
use Rattle.gl_c.specs.declared.managers.guarded.Guarded.TheInside.{Inside}
use Rattle.gl_c.specs.declared.managers.showing.Showing.{Showing}
use Rattle.gl_c.specs.managers.Guarded.{GuardedView}
use Rattle.gl_c.specs.managers.Serving.{ShowsOn}
use Rattle.gl_c.specs.managers.Showing.{parties_in, shown_in}
use Rattle.gl_c.proofs.serving.Serving.{shows_same}
use Rattle.gl_c.proofs.managers.guarded.Guarded.show_if_due.Goals.{in-Some, in_default}
use Rattle.gl_c.proofs.managers.guarded.Guarded.show_if_due.Goals as goal

pub returns-clause-shown : goal.returns-clause-shown
returns-clause-shown c =
    let m = c.self.inside.waiting.manager in
    let before = c.self.inside.showing in
    subst (λ (v : GuardedView). ShowsOn (is_none v.parties) (board_of (state_of v.manager)) v.shown (shown_in c.match-self.self-inside.showing)) c.self.view_is
    (elim c.match-self.branch [
      | in-Some w ↦
          let new = Some w.show_if_due.new.self.publisher in
          subst (λ (g : Inside). ShowsOn (is_none (parties_in before)) (board_of (state_of m)) (shown_in before) (shown_in g.showing)) (sym w.self-inside-is)
          (subst (λ (o : Option Showing). ShowsOn (is_none (parties_in o)) (board_of (state_of m)) (shown_in o) new) (sym w.in-Some.is)
          (subst (λ (x : ManagerView). ShowsOn (is_none w.in-Some.showing.parties) (board_of (state_of x)) (Some w.in-Some.showing.publisher) new)
          w.manager.ensures w.show_if_due.ensures.shown))
      | in_default w ↦
          subst (λ (g : Inside). ShowsOn (is_none (parties_in before)) (board_of (state_of m)) (shown_in before) (shown_in g.showing)) (sym w.self-inside-is)
          (shows_same (is_none (parties_in before)) (board_of (state_of m)) (shown_in before))
    ])
