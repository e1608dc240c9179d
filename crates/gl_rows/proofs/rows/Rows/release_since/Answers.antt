use Rattle.std.specs.Prelude.{ℕ}
use Rattle.std.proofs.Common.{ap, refl, ◌∙◌}
use Rattle.std.proofs.lemmas.Result.{err_from_is_err_and}
use Rattle.gl_catalog.proofs.Insertions.{refused_so}
use Rattle.gl_rows.proofs.rows.Rows.release_since.Goals as goal

pub returns-in_err-released : goal.returns-in_err-released
returns-in_err-released c =
    let e = c.in_err-released.ensures in
    let exit = err_from_is_err_and c.from_residual.result c.from_residual.ensures.1 in
    rw (exit.1, exit.2) (
      refused_so ℕ _ _ e.refuses,
      record {
        answer_is = refl;
        nobody_told = ap (λ told. told.items) e.untold ∙ c.requires.empty;
        same_manager = e.err;
        same_rows = refl;
      },
    )
