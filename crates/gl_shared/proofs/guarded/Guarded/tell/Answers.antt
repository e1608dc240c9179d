use Rattle.std.proofs.Common.{rules, ◌≡◌, ◌∙◌, true, false, ap, refl, subst, sym, List}
use Rattle.gl_waits.specs.declared.board.Board.{Board}
use Rattle.gl_model.specs.declared.answers.Detect.{Detect}
use Rattle.gl_table.specs.Table.{board_of}
use Rattle.gl_catalog.specs.Manager.{state_of}
use Rattle.gl_window.specs.Boards.{Fine}
use Rattle.gl_waits.specs.Boards.{ShowsNobody}
use Rattle.gl_shared.specs.State.{GuardedView}
use Rattle.gl_shared.proofs.Idle.{IsQuiet, quiet_told}
use Rattle.gl_window.proofs.Lists.{told_epoch}
use Rattle.gl_shared.proofs.Tellings.{published, unpublished}
use Rattle.gl_shared.proofs.guarded.Guarded.tell.Goals as goal

pub publish-requires-clause-fine : goal.publish-requires-clause-fine
publish-requires-clause-fine g c = subst (λ (d : Detect). Fine d c.board_now-board.result) c.self.invariant.3 c.board_now-board.ensures.fine

pub invariant_of-self : goal.invariant_of-self
invariant_of-self g c =
    let no : c.publish.result ≡ false = search rules in (
      c.self.invariant.0,
      c.self.invariant.1,
      c.self.invariant.2,
      c.self.invariant.3,
      told_epoch c.publish.result c.self.inside.publisher c.publish.new.self c.board_now-board.result c.self.inside.manager.accepted
          c.publish.ensures c.self.invariant.4 c.board_now-board.ensures.epoch,
      subst (λ (list : List Board). IsQuiet (state_of c.self.inside.manager) list c.self.inside.waited)
          (sym (unpublished c.publish.result c.self.inside.publisher c.publish.new.self c.self.inside.publisher c.board_now-board.result no
          c.publish.ensures refl)) c.self.invariant.5,
    )

pub returns-clause-kept : goal.returns-clause-kept
returns-clause-kept g c = (
  ap (λ (v : GuardedView). v.manager) c.self.view_is,
  ap (λ (v : GuardedView). v.book) c.self.view_is,
  ap
      (λ (v : GuardedView). v.boxes) c.self.view_is,
  ap (λ (v : GuardedView). v.telling) c.self.view_is,
)

pub returns-then-not-publish-clause-kept : goal.returns-then-not-publish-clause-kept
returns-then-not-publish-clause-kept g c = (
  ap (λ (v : GuardedView). v.manager) c.self.view_is,
  ap (λ (v : GuardedView). v.book) c.self.view_is,
  ap
      (λ (v : GuardedView). v.boxes) c.self.view_is,
  ap (λ (v : GuardedView). v.telling) c.self.view_is,
)

pub returns-then-not-publish-clause-told : goal.returns-then-not-publish-clause-told
returns-then-not-publish-clause-told g c =
    let no : c.publish.result ≡ false = search rules in
    unpublished c.publish.result c.self.inside.publisher c.publish.new.self c.args.self.now.list c.board_now-board.result no c.publish.ensures
    (ap (λ (v : GuardedView). v.list) c.self.view_is)

pub invariant_of-self-2 : goal.invariant_of-self-2
invariant_of-self-2 g c =
    let yes : c.publish.result ≡ true = search rules in (
      c.self.invariant.0,
      c.self.invariant.1,
      c.self.invariant.2,
      c.self.invariant.3,
      told_epoch c.publish.result c.self.inside.publisher c.publish.new.self c.board_now-board.result c.self.inside.manager.accepted
          c.publish.ensures c.self.invariant.4 c.board_now-board.ensures.epoch,
      quiet_told c.self.inside.manager c.self.inside.publisher c.publish.new.self c.board_now-board.result c.may_show_waits-self-inside.result
          c.board_now-board.ensures.law c.board_now-board.ensures.board
          (published c.publish.result c.self.inside.publisher c.publish.new.self c.self.inside.publisher c.board_now-board.result
          c.board_now-board.result yes c.publish.ensures refl refl) c.may_show_waits-self-inside.ensures.none,
    )

pub returns-clause-told : goal.returns-clause-told
returns-clause-told g c =
    let yes : c.publish.result ≡ true = search rules in (
      published c.publish.result c.self.inside.publisher c.publish.new.self c.args.self.now.list c.board_now-board.result
          (board_of (state_of c.args.self.now.manager)) yes c.publish.ensures (ap (λ (v : GuardedView). v.list) c.self.view_is)
          (c.board_now-board.ensures.board ∙ ap (λ (v : GuardedView). board_of (state_of v.manager)) c.self.view_is),
      c.board_now-board.ensures.epoch ∙ ap (λ (v : GuardedView). v.manager.accepted) c.self.view_is,
    )

pub returns-then-not-publish-clause-waited : goal.returns-then-not-publish-clause-waited
returns-then-not-publish-clause-waited g c = ap (λ (v : GuardedView). v.waited) c.self.view_is

pub returns-clause-waited : goal.returns-clause-waited
returns-clause-waited g c =
    let same = c.board_now-board.ensures.board ∙ ap (λ (v : GuardedView). board_of (state_of v.manager)) c.self.view_is in
    let shown = c.may_show_waits-self-inside.ensures in (
      (λ e. subst ShowsNobody same (shown.none e)),
      (λ is nobody. shown.some (ap (λ (v : GuardedView). v.telling) c.self.view_is ∙ is) (subst ShowsNobody (sym same) nobody)),
    )
