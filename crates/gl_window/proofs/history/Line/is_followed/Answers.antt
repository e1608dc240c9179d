use Rattle.gl_window.proofs.Words.{◌+◌, ◌∙◌, ◌≡◌, ap, arith, Board, IsPrefix, length, List, Strip, sym}
use Rattle.gl_window.proofs.Fronts.{prefix_shorter}
use Rattle.gl_window.proofs.Lists.{follows}
use Rattle.gl_window.proofs.history.Line.is_followed.Goals as goal

pub returns : goal.returns
returns c =
    let mine = c.args.self.now.list in
    let theirs = c.args.other.now.list in
    let len : length c.other.inside.seen.log ≡ length c.self.inside.seen.log + 1 = omega (arith, c.self.invariant.0, c.other.invariant.0) in
    let me : c.self.inside.seen.log ≡ mine = ap (λ (v : Strip). v.list) c.self.view_is in
    let it : c.other.inside.seen.log ≡ theirs = ap (λ (v : Strip). v.list) c.other.view_is in
    let len' : length theirs ≡ length mine + 1 = sym (ap length it) ∙ (len ∙ ap (λ (l : List Board). length l + 1) me) in
    let pre : IsPrefix mine theirs = prefix_shorter mine theirs c.beside.ensures.0 c.beside.ensures.1 c.beside.ensures.2 (omega (arith, len')) in
    λ _ last ends. follows mine theirs last pre len' ends
