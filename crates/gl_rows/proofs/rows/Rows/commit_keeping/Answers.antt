use Rattle.std.specs.Prelude.{Option}
use Rattle.std.proofs.Common.{ap, refl, ◌∙◌}
use Rattle.std.proofs.lemmas.Result.{err_from_is_err_and}
use Rattle.gl_model.specs.declared.txn.TxnId.{TxnId}
use Rattle.gl_catalog.proofs.Insertions.{refused_so}
use Rattle.gl_rows.proofs.rows.Rows.commit_keeping.Goals as goal

pub returns-in_err-next : goal.returns-in_err-next
returns-in_err-next c =
    let e = c.in_err-next.ensures in
    let exit = err_from_is_err_and c.from_residual.result c.from_residual.ensures.1 in
    rw (exit.1, exit.2) (
      refused_so (Option TxnId) _ _ e.refuses,
      record {
        answer_is = refl;
        nobody_told = ap (λ told. told.items) e.untold ∙ c.requires.empty;
        same_manager = e.err;
        same_rows = refl;
      },
    )
