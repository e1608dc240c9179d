use Rattle.std.proofs.Common.{rules, arith, ◌≡◌, ◌∙◌, ap, subst, sym}
use Rattle.std.specs.Prelude.{Option, None, Ok}
use Rattle.gl_model.specs.declared.answers.Detect.{Detect}
use Rattle.gl_table.specs.Table.{board_of}
use Rattle.gl_catalog.specs.Manager.{state_of}
use Rattle.gl_window.specs.Boards.{Fine}
use Rattle.gl_window.specs.Strip.{Strip}
use Rattle.gl_c.specs.managers.Showing.{shown_in}
use Rattle.gl_c.specs.watchers.Watching.{Continues}
use Rattle.gl_c.proofs.Opening.{IsOpened, opened_by, was_none}
use Rattle.gl_c.proofs.serving.Showing.{continues_on, either_epoch, either_goes_on, knows_last}
use Rattle.gl_c.proofs.managers.showing.watch.Goals.{After-publisher-2-1, Joined-showing}
use Rattle.gl_c.proofs.managers.showing.watch.Goals as goal

pub publisher_of-requires : goal.publisher_of-requires
publisher_of-requires c = record { fine = subst (λ (d : Detect). Fine d c.board_now-now.result) (sym c.detect.ensures) c.board_now-now.ensures.fine }

-- there was no publisher, and none could be made

pub returns-in_default-clause-goes_on : goal.returns-in_default-clause-goes_on
returns-in_default-clause-goes_on c =
    let none : shown_in c.args.showing.now ≡ None = sym (ap shown_in c.take.ensures.value) ∙
    was_none (shown_in c.take.result) c.publisher_of.result c.in_default.field-0 c.publisher_of.ensures.same c.in_default.is in
    subst (λ (o : Option Strip). Continues o (shown_in c.take.new.self)) (sym none) tt

-- there is one

found : (c : After-publisher-2-1) → IsOpened (shown_in c.args.showing.now) c.board_now-now.result c.args.manager.now.table.detect c.in-Ok.publisher
found c =
    let is : c.publisher_of.result ≡ Ok c.in-Ok.publisher = search rules in
    opened_by (shown_in c.take.result) (shown_in c.args.showing.now) c.publisher_of.result c.in-Ok.publisher c.board_now-now.result
    c.args.manager.now.accepted c.args.manager.now.table.detect c.detect.result
    (ap shown_in c.take.ensures.value) is c.publisher_of.ensures.same c.publisher_of.ensures.first c.requires.rises c.requires.detect
    c.board_now-now.ensures.epoch c.detect.ensures

pub watch-watcher-requires-clause-rises : goal.watch-watcher-requires-clause-rises
watch-watcher-requires-clause-rises c = (found c).epoch

pub watch-watcher-requires-clause-fine : goal.watch-watcher-requires-clause-fine
watch-watcher-requires-clause-fine c = subst (λ (d : Detect). Fine d c.board_now-now.result) (sym (found c).detection) c.board_now-now.ensures.fine

is_found : (c : Joined-showing) → IsOpened (shown_in c.args.showing.now) c.board_now-now.result c.args.manager.now.table.detect c.in-Ok.publisher
is_found c =
    let is : c.publisher_of.result ≡ Ok c.in-Ok.publisher = search rules in
    opened_by (shown_in c.take.result) (shown_in c.args.showing.now) c.publisher_of.result c.in-Ok.publisher c.board_now-now.result
    c.args.manager.now.accepted c.args.manager.now.table.detect c.detect.result
    (ap shown_in c.take.ensures.value) is c.publisher_of.ensures.same c.publisher_of.ensures.first c.requires.rises c.requires.detect
    c.board_now-now.ensures.epoch c.detect.ensures

pub returns-clause-goes_on : goal.returns-clause-goes_on
returns-clause-goes_on c =
    continues_on (shown_in c.args.showing.now) c.in-Ok.publisher c.watch-watcher.new.self (is_found c).goes_on
    (either_goes_on c.in-Ok.publisher c.watch-watcher.new.self c.board_now-now.result c.watch-watcher.ensures.list c.watch-watcher.ensures.of.0
    c.watch-watcher.ensures.of.1)

pub returns-clause-watcher : goal.returns-clause-watcher
returns-clause-watcher c =
    knows_last c.watch-watcher.result c.in-Ok.publisher c.watch-watcher.new.self c.board_now-now.result (board_of (state_of c.args.manager.now))
    c.watch-watcher.ensures.watcher c.board_now-now.ensures.board

pub returns-clause-epoch : goal.returns-clause-epoch
returns-clause-epoch c =
    let below = (is_found c).epoch in let at = c.board_now-now.ensures.epoch in
    either_epoch c.in-Ok.publisher.list c.watch-watcher.new.self.list c.board_now-now.result c.args.manager.now.accepted
    c.watch-watcher.ensures.list (omega (arith, below, at)) at

pub returns-clause-detect : goal.returns-clause-detect
returns-clause-detect c = c.watch-watcher.ensures.of.1 ∙ (is_found c).detection
