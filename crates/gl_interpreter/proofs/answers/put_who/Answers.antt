use Rattle.gl_interpreter.proofs.Words.{command_of, script_of}
use Rattle.gl_interpreter.proofs.Printing.{names_nobody}
use Rattle.gl_interpreter.proofs.Writing.{Hands-none}
use Rattle.gl_interpreter.proofs.answers.put_who.Goals as goal

pub returns-in_default : goal.returns-in_default
returns-in_default g c =
    let d = c.in_default in
    rw (names_nobody (script_of c.args.desk.now)
    (command_of c.args.form.now c.args.lists.now) c.args.refusal d.not-NoSuchNode d.not-NoSuchTxn d.not-NameTaken d.not-NeedParents
    d.not-HeldChild d.not-Cycle) (Hands-none _ _)
