use Rattle.std.proofs.Common.{map, decimal, ap, ◌++◌, ◌∙◌, sym}
use Rattle.gl_script.specs.Grammar.{IsNumber}
use Rattle.gl_script.proofs.ListTexts.{none_at}
use Rattle.gl_script.proofs.series.read_numbers.Goals as goal

pub returns-in_err-read_number-clause-none : goal.returns-in_err-read_number-clause-none
returns-in_err-read_number-clause-none c = rw c.from_residual.ensures (λ ks are e.
    none_at decimal IsNumber (map decimal c.loop-field.numbers.items) c.in-Some.field.now _ ks c.in_err-read_number.ensures.none are
    (sym (c.loop-field.invariant.split ∙ ap (λ fs. map decimal c.loop-field.numbers.items ++ fs) c.in-Some.ensures.some) ∙ e))
