use Rattle.std.proofs.Common.{◌==◌, ap, arith, length, ◌∙◌, sym}
use Rattle.std.proofs.lemmas.List.Splits.{length-slice_split}
use Rattle.std.proofs.lemmas.List.Sums.{count_by-le-length}
use Rattle.gl_script.proofs.Verbs.{no_command, no_line}
use Rattle.gl_script.proofs.line.parse.Goals as goal

pub returns-in_err-topic-in-None-clause-none : goal.returns-in_err-topic-in-None-clause-none
returns-in_err-topic-in-None-clause-none c = rw c.from_residual-in_err-topic-in-None.ensures
    (no_line c.args.language _ _ _ (sym c.of-fields.ensures ∙ c.in_ok-first.ensures.some) c.in-None.ensures.none c.in_err-topic-in-None.ensures.none)

pub returns-in_err-read_command-in-Some-clause-none : goal.returns-in_err-read_command-in-Some-clause-none
returns-in_err-read_command-in-Some-clause-none c = rw c.from_residual-in_err-read_command-in-Some.ensures
    (no_command c.args.language _ _ _ c.in-Some.verb (sym c.of-fields.ensures ∙ c.in_ok-first.ensures.some) c.in-Some.ensures.says
    c.in_err-read_command-in-Some.ensures.none)

pub read_command-requires : goal.read_command-requires
read_command-requires c = record {
  room = omega (
    arith,
    c.requires.short,
    ap length (sym c.of-fields.ensures ∙ c.in_ok-first.ensures.some),
    length-slice_split (λ b. b == 32) c.args.line.now,
    count_by-le-length (λ b. b == 32) c.args.line.now,
  );
}
