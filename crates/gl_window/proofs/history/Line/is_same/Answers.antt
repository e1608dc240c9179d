use Rattle.gl_window.proofs.Words.{◌∙◌, ◌≡◌, ap, arith, length, Strip, sym}
use Rattle.gl_window.proofs.Lists.{same_length}
use Rattle.gl_window.proofs.history.Line.is_same.Goals as goal

pub returns : goal.returns
returns c =
    let len : length c.other.inside.seen.log ≡ length c.self.inside.seen.log = omega (arith, c.self.invariant.0, c.other.invariant.0) in
    let me : c.self.inside.seen.log ≡ c.args.self.now.list = ap (λ (v : Strip). v.list) c.self.view_is in
    let it : c.other.inside.seen.log ≡ c.args.other.now.list = ap (λ (v : Strip). v.list) c.other.view_is in
    let len' : length c.args.other.now.list ≡ length c.args.self.now.list = sym (ap length it) ∙ (len ∙ ap length me) in
    λ _. same_length c.args.self.now.list c.args.other.now.list c.beside.ensures.0 c.beside.ensures.1 c.beside.ensures.2 len'
