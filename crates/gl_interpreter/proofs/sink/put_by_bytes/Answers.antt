use Rattle.gl_interpreter.proofs.Words.{◌+◌, ◌++◌, [], ◌∷◌, ◌≡◌, append-nil, get_or, Hands, refl, subst, take, take_more}
use Rattle.gl_interpreter.proofs.Writing.{Hands-none, Hands-push, Hands-then}
use Rattle.gl_interpreter.proofs.sink.put_by_bytes.Goals.{else-is_full, then-is_full}
use Rattle.gl_interpreter.proofs.sink.put_by_bytes.Goals as goal

pub loop-byte-init : goal.loop-byte-init
loop-byte-init g c = Hands-none _ _

pub loop-byte-preserved : goal.loop-byte-preserved
loop-byte-preserved g c =
    let i = c.loop-byte.byte-index in
    let text = c.args.text.now in
    let pushed = Hands-push (g.W.Write.contents c.if-is_full.writer) c.if-is_full.sink
    (record { held = c.push.new.self; broken = c.if-is_full.sink.broken }) (get_or text i 0 ∷ []) c.push.ensures.items refl in
    let more : take (i + 1) text ≡ take i text ++ get_or text i 0 ∷ [] = take_more text i 0 c.loop-byte-test.true in
    let before : Hands (g.W.Write.contents c.args.writer.now) c.args.sink.now (g.W.Write.contents c.if-is_full.writer) c.if-is_full.sink (take i text) =
    elim c.if-is_full.branch [
      | then-is_full w ↦ rw (w.writer-is, w.sink-is)
          (subst (Hands (g.W.Write.contents c.args.writer.now) c.args.sink.now (g.W.Write.contents w.flush.new.writer) w.flush.new.sink)
          (append-nil (take i text)) (Hands-then _ _ _ _ _ _ _ _ c.loop-byte.invariant w.flush.ensures.text))
      | else-is_full w ↦ rw (w.writer-is, w.sink-is) c.loop-byte.invariant
    ] in
    rw more (Hands-then _ _ _ _ _ _ _ _ before pushed)
