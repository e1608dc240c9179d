use Rattle.gl_window.proofs.Words.{◌≡◌, ◌≤◌, ap, arith, Board, IsPrefix, length, List, Strip, subst, sym}
use Rattle.gl_window.proofs.Fronts.{prefix_shorter}
use Rattle.gl_window.proofs.history.Line.learn.Goals as goal

pub returns-then-self-other-clause-this : goal.returns-then-self-other-clause-this
returns-then-self-other-clause-this c =
    let me : c.self.inside.seen.log ≡ c.args.self.now.list = ap (λ (v : Strip). v.list) c.self.view_is in
    let it : c.other.inside.seen.log ≡ c.args.other.list = ap (λ (v : Strip). v.list) c.other.view_is in
    let less : length c.args.self.now.list ≤ length c.args.other.list = omega (arith, c.self.invariant.0, c.other.invariant.0, ap length me, ap length it) in
    subst (λ (l : List Board). IsPrefix c.args.self.now.list l) (sym it)
    (prefix_shorter c.args.self.now.list c.args.other.list c.beside.ensures.0 c.beside.ensures.1 c.beside.ensures.2 less)

pub returns-else-self-other-clause-that : goal.returns-else-self-other-clause-that
returns-else-self-other-clause-that c =
    let me : c.self.inside.seen.log ≡ c.args.self.now.list = ap (λ (v : Strip). v.list) c.self.view_is in
    let it : c.other.inside.seen.log ≡ c.args.other.list = ap (λ (v : Strip). v.list) c.other.view_is in
    let less : length c.args.other.list ≤ length c.args.self.now.list = omega (arith, c.self.invariant.0, c.other.invariant.0, ap length me, ap length it) in
    prefix_shorter c.args.other.list c.args.self.now.list c.beside.ensures.0 c.beside.ensures.2 c.beside.ensures.1 less
