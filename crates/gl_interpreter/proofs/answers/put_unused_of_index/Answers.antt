use Rattle.gl_interpreter.proofs.Words.{[], ◌∙◌, ◌∷◌, ◌≡◌, false, Plain, script_of, some_unused, sym, true}
use Rattle.gl_script.specs.Views.{nodes_of}
use Rattle.gl_interpreter.proofs.Printing.{none_unused, unused_in_first, unused_in_second}
use Rattle.gl_interpreter.proofs.Writing.{Hands-then}
use Rattle.gl_interpreter.proofs.answers.put_unused_of_index.Goals as goal

pub returns-then-not-put_unused_listed : goal.returns-then-not-put_unused_listed
returns-then-not-put_unused_listed g c =
    let s = script_of c.args.desk.now in
    let nodes = nodes_of c.args.lists.now in
    let none : some_unused s nodes ≡ false = sym c.put_unused_listed.ensures.is ∙ c.if-not-put_unused_listed.true in
    let nothing = rw (none_unused s nodes none) at c.put_unused_listed.ensures.text in
    rw (unused_in_second s nodes (Plain c.args.file.now.items ∷ []) none) (Hands-then _ _ _ _ _ _ _ _ nothing c.put_unused_name.ensures.text)

pub returns-else-not-put_unused_listed : goal.returns-else-not-put_unused_listed
returns-else-not-put_unused_listed g c =
    let s = script_of c.args.desk.now in
    let nodes = nodes_of c.args.lists.now in
    let some : some_unused s nodes ≡ true = sym c.put_unused_listed.ensures.is ∙ c.if-not-put_unused_listed.false in
    rw (unused_in_first s nodes (Plain c.args.file.now.items ∷ []) some) c.put_unused_listed.ensures.text
