use Rattle.std.proofs.Common.{subst, ◌∙◌, sym, true≢false}
use Rattle.std.specs.Str.Parse.{ParsesUnsigned}
use Rattle.gl_script.proofs.Numbers.{plain_read, not_plain, not_utf8}
use Rattle.gl_script.proofs.reads.read_number.Goals as goal

pub returns-then-not-is_plain-clause-none : goal.returns-then-not-is_plain-clause-none
returns-then-not-is_plain-clause-none c = not_plain c.args.text.now (λ p. true≢false (sym (c.is_plain.ensures.1 p) ∙ c.if-not-is_plain.true))

pub returns-in_default-clause-none : goal.returns-in_default-clause-none
returns-in_default-clause-none c = not_utf8 c.args.text.now c.in_default.ensures.cases.0

pub returns-in-Ok-parse-clause-found : goal.returns-in-Ok-parse-clause-found
returns-in-Ok-parse-clause-found c =
    plain_read c.args.text.now c.in-Ok-parse.number c.parse.result (c.is_plain.ensures.0 c.if-not-is_plain.false) c.in-Ok-parse.is
    (subst (λ t. ParsesUnsigned 64 10 t c.parse.result) c.in-Ok.ensures.cases.0 c.parse.ensures.value.0)
