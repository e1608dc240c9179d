use Rattle.gl_interpreter.proofs.Words.{[], ◌∙◌, ◌∷◌, node_of, Plain, script_of, sym}
use Rattle.gl_script.specs.Views.{nodes_of}
use Rattle.gl_interpreter.proofs.Printing.{head_used, none_unused}
use Rattle.gl_interpreter.proofs.Writing.{Hands-none, Hands-then}
use Rattle.gl_interpreter.proofs.answers.put_first_unused.Goals as goal

pub returns-then-not-put_unused : goal.returns-then-not-put_unused
returns-then-not-put_unused g c =
    let s = script_of c.args.desk.now in
    let nodes = nodes_of c.args.lists.now in
    let node = node_of c.in-Move.node in
    let in_use = sym c.put_unused.ensures.is ∙ c.if-not-put_unused.true in
    let nothing = rw (none_unused s (node ∷ []) (head_used s node [] in_use).1) at c.put_unused.ensures.text in
    rw c.in-Move.is (rw (head_used s node nodes in_use).0 (Hands-then _ _ _ _ _ _ _ _ nothing c.put_unused_listed.ensures.text))

pub returns-then-not-put_unused_name : goal.returns-then-not-put_unused_name
returns-then-not-put_unused_name g c =
    let s = script_of c.args.desk.now in
    let rec = Plain c.in-Rekey.rec.items in
    let index = Plain c.in-Rekey.index.items in
    let in_use = sym c.put_unused_name.ensures.is ∙ c.if-not-put_unused_name.true in
    let nothing = rw (none_unused s (rec ∷ []) (head_used s rec [] in_use).1) at c.put_unused_name.ensures.text in
    rw c.in-Rekey.is (rw (head_used s rec (index ∷ []) in_use).0 (Hands-then _ _ _ _ _ _ _ _ nothing c.put_unused_name-then-not-put_unused_name.ensures.text))

pub returns-in-Begin : goal.returns-in-Begin
returns-in-Begin g c = rw c.in-Begin.is (Hands-none _ _)

pub returns-in-BeginAgain : goal.returns-in-BeginAgain
returns-in-BeginAgain g c = rw c.in-BeginAgain.is (Hands-none _ _)

pub returns-in-Join : goal.returns-in-Join
returns-in-Join g c = rw c.in-Join.is (Hands-none _ _)

pub returns-in-OfTxn : goal.returns-in-OfTxn
returns-in-OfTxn g c = rw c.in-OfTxn.is (Hands-none _ _)

pub returns-in-OfNumber : goal.returns-in-OfNumber
returns-in-OfNumber g c = rw c.in-OfNumber.is (Hands-none _ _)
