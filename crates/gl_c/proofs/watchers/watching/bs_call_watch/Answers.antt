use Rattle.std.specs.Prelude.{Option, Some, Ok, Result}
use Rattle.std.proofs.Common.{rules, ◌≡◌, inr, subst, sym}
use Rattle.gl_window.specs.Strip.{Strip}
use Rattle.gl_window.specs.declared.publisher.WatchFault.{WatchFault}
use Rattle.gl_c.specs.managers.Handle.{guarded_in}
use Rattle.gl_c.specs.watchers.Lookout.{watcher_in}
use Rattle.gl_c.specs.watchers.Watching.{Attends, Watches}
use Rattle.gl_c.proofs.Opening.{none_of, watches_made, watches_not}
use Rattle.gl_c.proofs.watchers.watching.bs_call_watch.Goals as goal

pub returns-in_default : goal.returns-in_default
returns-in_default c =
    let is : c.watch.result ≡ Some (Ok c.in-Some-Ok.eye) = search rules in
    watches_not (guarded_in c.args.manager.now) (guarded_in c.watch.new.self) (watcher_in c.args.watcher.now) (Ok c.in-Some-Ok.eye) c.refused-in_default.result
    (subst (λ (x : Option (Result Strip WatchFault)). Attends (guarded_in c.args.manager.now) x (guarded_in c.watch.new.self)) is c.watch.ensures)
    (none_of (watcher_in c.args.watcher.now) c.has_watcher.result c.has_watcher.ensures c.if-has_watcher.false) (inr c.refused-in_default.ensures)

pub returns : goal.returns
returns c =
    let is : c.watch.result ≡ Some (Ok c.in-Some-Ok.eye) = search rules in
    let to : watcher_in c.of-2.result ≡ Some c.in-Some-Ok.eye = search rules in
    subst (λ (o : Option Strip). Watches (guarded_in c.args.manager.now) (watcher_in c.args.watcher.now) c.with_status-2.result
    (guarded_in c.watch.new.self) o) (sym to)
    (watches_made (guarded_in c.args.manager.now) (guarded_in c.watch.new.self) (watcher_in c.args.watcher.now) c.in-Some-Ok.eye c.with_status-2.result
    (subst (λ (x : Option (Result Strip WatchFault)). Attends (guarded_in c.args.manager.now) x (guarded_in c.watch.new.self)) is c.watch.ensures)
    (none_of (watcher_in c.args.watcher.now) c.has_watcher.result c.has_watcher.ensures c.if-has_watcher.false) c.with_status-2.ensures)
