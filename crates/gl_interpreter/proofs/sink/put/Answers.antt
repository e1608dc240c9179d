use Rattle.gl_interpreter.proofs.Words.{refl}
use Rattle.gl_interpreter.proofs.Registers.{on_ok}
use Rattle.gl_interpreter.proofs.Writing.{Hands-push}
use Rattle.gl_interpreter.proofs.sink.put.Goals as goal

pub returns-else-is_err : goal.returns-else-is_err
returns-else-is_err g c = Hands-push _ _ _ c.args.text.now
    (on_ok c.try_extend_from_slice.result c.if-is_err.ensures.negation c.try_extend_from_slice.ensures.ok) refl
