use Rattle.std.proofs.Common.{map, codes, decimal, ap, ◌++◌, ◌∙◌, sym, true≢false}
use Rattle.gl_script.specs.Grammar.{IsNumber}
use Rattle.gl_script.proofs.ListTexts.{none_before, none_without, with_is_no_number}
use Rattle.gl_script.proofs.series.read_numbers_with.Goals as goal

pub returns-in_err-read_number-clause-none : goal.returns-in_err-read_number-clause-none
returns-in_err-read_number-clause-none c =
    let inv = c.loop-field.invariant in
    rw c.from_residual.ensures (λ ks more are e.
    none_before decimal IsNumber (codes "with") with_is_no_number c.loop-field.numbers.items c.in-Some.field.now _ ks more
    (λ w. true≢false (sym (c.is_with.ensures.1 w) ∙ c.if-is_with.false)) c.in_err-read_number.ensures.none inv.each are
    (sym (inv.split ∙ ap (λ fs. map decimal c.loop-field.numbers.items ++ fs) c.in-Some.ensures.some) ∙ e))

pub returns-clause-none : goal.returns-clause-none
returns-clause-none c ks more are e =
    let inv = c.loop-field.invariant in
    none_without decimal IsNumber (codes "with") with_is_no_number c.loop-field.numbers.items _ ks more c.in_default.ensures.none inv.each
    (sym inv.split ∙ e)
