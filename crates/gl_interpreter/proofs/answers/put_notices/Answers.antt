use Rattle.gl_interpreter.proofs.Words.{◌++◌, ◌<◌, [], ◌∙◌, ap, arith, flat_map, flat_map_more, get_or, get_or_default, Hands, length, script_of, subst, sym}
use Rattle.gl_interpreter.proofs.Words.{take, take_more, told_line, TxnId}
use Rattle.gl_model.specs.declared.answers.Notice.{Notice}
use Rattle.gl_model.specs.declared.answers.Notice.TheVariants as notice
use Rattle.gl_interpreter.proofs.Writing.{Hands-none, Hands-then}
use Rattle.gl_interpreter.proofs.answers.put_notices.Goals as goal

pub loop-txn-init : goal.loop-txn-init
loop-txn-init g c = Hands-none _ _

pub loop-txn-preserved : goal.loop-txn-preserved
loop-txn-preserved g c =
    let line = told_line (script_of c.args.desk.now) in
    let told = c.args.told.now in
    let i = c.loop-txn.txn-index in
    let low : i < length told = omega (arith, c.loop-txn-test.true) in
    let d : TxnId × Notice = (record { slot = 0; age = 0 }, notice.Victim) in
    let all = Hands-then _ _ _ _ _ _ _ _ c.loop-txn.invariant c.put_told.ensures in
    subst (Hands (g.W.Write.contents c.args.writer.now) c.args.sink.now (g.W.Write.contents c.put_told.new.writer) c.put_told.new.sink)
    (ap (λ x. flat_map line (take i told) ++ line x) (get_or_default told i _ d low) ∙ flat_map_more line [] (take i told) (get_or told i d)
    ∙ ap (flat_map line) (sym (take_more told i d low))) all
