use Rattle.std.specs.Prelude.{Option, Some, IfOk}
use Rattle.std.proofs.Common.{rules, ◌≡◌, refl, subst}
use Rattle.gl_c.specs.managers.Guarded.{GuardedView}
use Rattle.gl_c.specs.managers.Handle.{guarded_in}
use Rattle.gl_c.specs.watchers.Watching.{Attends, Knows, OnlyShows}
use Rattle.gl_c.proofs.managers.handle.Handle.watch.Goals as goal

pub returns : goal.returns
returns c =
    let from : c.deref_mut.result.now ≡ c.in-Some.session.value = search rules in
    let to : guarded_in c.of.result ≡ Some c.watch-watcher.new.self = search rules in
    let x = c.watch-watcher.result in
    subst (λ (s : Option GuardedView). Attends s (Some x) (guarded_in c.of.result)) c.in-Some.ensures.taken (
      x,
      refl,
      c.watch-watcher.new.self,
      to,
      subst (λ (g : GuardedView). OnlyShows g c.watch-watcher.new.self) from c.watch-watcher.ensures.kept,
      subst (λ (g : GuardedView). IfOk x (Knows g c.watch-watcher.new.self)) from c.watch-watcher.ensures.watcher,
    )
