use Rattle.gl_interpreter.proofs.Words.{◌∙◌, ◌≡◌, ap, choices_of, IsReadyWith, ManagerView, nodes_of, Opening, refl, Script, script_of, Some, state_of, subst}
use Rattle.gl_interpreter.proofs.Words.{sym}
use Rattle.gl_script.specs.declared.form.Version.TheVariants as version
use Rattle.gl_interpreter.specs.Script.{begun}
use Rattle.gl_interpreter.proofs.Orders.{none_kept}
use Rattle.gl_interpreter.proofs.interpreter.Interpreter.new.Goals as goal

pub returns : goal.returns
returns c =
    let desk = c.new.ensures in
    let one = c.in-Ok.ensures in
    let two = c.in-Ok-choosing.ensures in
    let locks = ap state_of desk.manager ∙ one.made in
    let deadlock = ap (λ (m : ManagerView). m.table.deadlock) desk.manager ∙ one.deadlock in
    let orders = ap (λ (m : ManagerView). nodes_of m.table) desk.manager ∙ none_kept c.in-Ok.one _ _ _ one.made c.law.ensures.lists in
    let has_begun : script_of c.new.result ≡ begun c.args.choices version.One =
    λ i. record { language = desk.language i; names = desk.names i; locks = locks i; deadlock = deadlock i; orders = orders i } in
    record {
      stage = ap (λ (s : Script). Opening (choices_of s)) has_begun;
      ready = subst (IsReadyWith (Some c.in-Ok-choosing.two)) (sym has_begun)
          (two.made, two.deadlock, none_kept c.in-Ok-choosing.two _ _ _ two.made c.law-2.ensures.lists, refl);
    }
