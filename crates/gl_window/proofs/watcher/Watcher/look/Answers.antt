use Rattle.gl_window.proofs.Words.{◌≡◌, ◌≤◌, AllFine, Ends, IsPrefix, last_epoch, Rising, rules, subst, sym, ℕ}
use Rattle.gl_window.proofs.Lists.{fine_last, prefix_up}
use Rattle.gl_window.proofs.watcher.Watcher.look.Goals as goal

pub returns-clause-epoch : goal.returns-clause-epoch
returns-clause-epoch c =
    let last = c.match-look.self-inside.last.list in
    let old = c.args.self.now.list in
    let pre : IsPrefix old last = search rules in
    let rising : Rising 0 last = search rules in
    let epoch : c.board.result.now.epoch ≡ last_epoch 0 last = search rules in
    subst (λ (n : ℕ). last_epoch 0 old ≤ n) (sym epoch) (prefix_up 0 old last pre rising)

pub returns-clause-fine : goal.returns-clause-fine
returns-clause-fine c =
    let last = c.match-look.self-inside.last in
    let ends : Ends last.list c.board.result.now = search rules in
    let all : AllFine last.detect last.list = search rules in
    fine_last last.detect last.list c.board.result.now ends all
