use Rattle.gl_interpreter.proofs.Words.{◌++◌, [], ◌∷◌, append_assoc, nil_from_length, refl, same_test, sym}
use Rattle.gl_interpreter.specs.SoFar.{Takes}
use Rattle.gl_interpreter.proofs.Reading.{SoFar-newline, Takes-line}
use Rattle.gl_interpreter.proofs.script.take_line.Goals as goal

pub returns-then-is_empty : goal.returns-then-is_empty
returns-then-is_empty g c =
    let none = nil_from_length c.args.tool.now.line.items (same_test _ _ _ c.is_empty.ensures c.if-is_empty.true) in
    Takes-line _ c.args.tool.now _ _ c.args.bytes.now none none c.requires c.answer.ensures

pub returns-else-is_empty : goal.returns-else-is_empty
unfolding Takes
returns-else-is_empty g c d first read so =
    let bytes = c.args.bytes.now in
    let kept = c.keep.ensures (g.W.Write.contents c.args.writer.now) d first read so in
    let done = SoFar-newline d first (read ++ bytes) _ _ c.keep.new.tool c.answer_line.new.tool c.answer_line.ensures.answers
    (record {
      interpreter = c.answer_line.new.tool.interpreter;
      line = c.clear.new.self;
      sink =
          c.answer_line.new.tool.sink;
    }) refl refl c.clear.ensures kept in
    rw (sym (append_assoc read bytes (10 ∷ []))) done
