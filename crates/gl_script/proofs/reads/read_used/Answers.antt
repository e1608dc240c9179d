use Rattle.gl_script.proofs.NodeTexts.{none_plain, none_front, none_back}
use Rattle.gl_script.proofs.reads.read_used.Goals as goal

pub returns-in_err-read_name-in-None-clause-none : goal.returns-in_err-read_name-in-None-clause-none
returns-in_err-read_name-in-None-clause-none c =
    rw c.from_residual.ensures (none_plain c.args.text.now c.in-None.ensures.none c.in_err-read_name-in-None.ensures.none)

pub returns-in_err-name-in-Some-clause-none : goal.returns-in_err-name-in-Some-clause-none
returns-in_err-name-in-Some-clause-none c = rw c.from_residual-in_err-name-in-Some.ensures
    (none_front c.args.text.now _ _ c.in-Some.ensures.found.0 c.in-Some.ensures.found.1 c.in_err-name-in-Some.ensures.none)

pub returns-in_err-interval-in-Some-clause-none : goal.returns-in_err-interval-in-Some-clause-none
returns-in_err-interval-in-Some-clause-none c = rw c.from_residual-in_err-interval-in-Some.ensures
    (none_back c.args.text.now _ _ c.in-Some.ensures.found.0 c.in-Some.ensures.found.1 c.in_err-interval-in-Some.ensures.none)
