use Rattle.gl_interpreter.proofs.Words.{Hands, take}
use Rattle.gl_interpreter.proofs.sink.put_by_bytes.Given as goal

abbrev pub invariant-loop-byte : goal.invariant-loop-byte
invariant-loop-byte g l = Hands (g.W.Write.contents l.fn.writer) l.fn.sink (g.W.Write.contents l.writer) l.sink (take l.byte-index l.text)
