-- A record is removed with its grants and waits: the law of a state is kept.
use Rattle.gl_steps.proofs.Words.{IsLawful, NodeId, none_refused, not_false, subst, sym, test_fails, tests_of, TxnId}
use Rattle.gl_steps.specs.declared.command.Command.TheVariants as command
use Rattle.gl_steps.proofs.KeepsLaw.{KeepsLaw}
use Rattle.gl_model.proofs.law.Records.{deleted_lawful}

pub delete_keeps : (t : TxnId) (r : NodeId) → KeepsLaw (command.Delete t r)
delete_keeps t r s s' a told law free acc =
    let ok = none_refused (tests_of s (command.Delete t r)) free in
    subst IsLawful (sym acc.2) (deleted_lawful s law r (not_false _ (test_fails _ _ (ok 5))))
