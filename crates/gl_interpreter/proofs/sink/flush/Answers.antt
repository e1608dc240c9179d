use Rattle.gl_interpreter.proofs.Words.{◌∙◌, ap, Sink}
use Rattle.gl_interpreter.proofs.Writing.{Hands-broken, Hands-sent}
use Rattle.gl_interpreter.proofs.sink.flush.Goals.{else-not-sink, then-not-sink}
use Rattle.gl_interpreter.proofs.sink.flush.Goals as goal

pub returns-clause-text : goal.returns-clause-text
returns-clause-text g c =
    elim c.if-not-sink.branch [
      | then-not-sink w ↦ rw w.writer-is
          (Hands-sent _ _ _ _ w.send.result w.if-not-sink.true (rw w.as_slice.ensures.value at w.send.ensures) c.clear.ensures
          (ap (λ (s : Sink). s.broken) w.sink-is))
      | else-not-sink w ↦ rw w.writer-is (Hands-broken _ _ _ w.if-not-sink.false (ap (λ (s : Sink). s.broken) w.sink-is ∙ w.if-not-sink.false))
    ]
