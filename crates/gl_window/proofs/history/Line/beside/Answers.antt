use Rattle.gl_window.proofs.Words.{ap, Board, IsPrefix, List, Strip, subst}
use Rattle.gl_window.proofs.history.Line.beside.Goals as goal

pub returns : goal.returns
returns c =
    let both = c.learn.new.self.log in
    let this : IsPrefix c.self.inside.seen.log both = subst (λ (l : List Board). IsPrefix l both) (ap (λ s. s.log) c.again-both.ensures) c.learn.ensures.2 in (
      both,
      subst (λ (l : List Board). IsPrefix l both) (ap (λ (v : Strip). v.list) c.self.view_is) this,
      subst (λ (l : List Board). IsPrefix l both) (ap (λ (v : Strip). v.list) c.other.view_is) c.learn.ensures.3,
    )
