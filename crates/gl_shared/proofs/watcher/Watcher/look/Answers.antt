use Rattle.std.proofs.Common.{rules, ◌≡◌, ◌≤◌, subst, sym, ℕ}
use mathlib.Core.List.{IsPrefix}
use Rattle.gl_window.specs.Boards.{Rising, last_epoch}
use Rattle.gl_window.proofs.Lists.{prefix_up}
use Rattle.gl_shared.proofs.Steps.{looks}
use Rattle.gl_shared.proofs.watcher.Watcher.look.Goals as goal

pub enter_as-requires : goal.enter_as-requires
enter_as-requires g c = looks _ _

pub returns-in-Ok-found-clause-later : goal.returns-in-Ok-found-clause-later
returns-in-Ok-found-clause-later g c =
    let last = c.learn.new.self.list in
    let old = c.args.self.now in
    let pre : IsPrefix old last = search rules in
    let rising : Rising 0 last = search rules in
    let epoch : c.board.result.now.epoch ≡ last_epoch 0 last = search rules in
    subst (λ (n : ℕ). last_epoch 0 old ≤ n) (sym epoch) (prefix_up 0 old last pre rising)
