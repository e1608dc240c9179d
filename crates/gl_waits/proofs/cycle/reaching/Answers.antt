use Rattle.gl_waits.proofs.Words.{◌∙◌, Bool, has_slot, refl, row_edge, sym, true, waits_of, ℕ}
use Rattle.gl_waits.proofs.WalkLemmas.{reaches_back}
use Rattle.gl_waits.proofs.cycle.reaching.Goals as goal

pub returns : goal.returns
returns g c =
    let edge : ℕ → ℕ → Bool = waits_of (has_slot c.args.within) (g.T.WaitsFor.edge c.args.waits.now) in
    let back : ℕ → ℕ → Bool = row_edge c.columns.result in
    λ u. (
      (λ h. reaches_back back edge (λ _. true) (λ x y m e. refl) (λ x y m e. sym (c.columns.ensures y x) ∙ e) c.args.slot u refl
          ((c.reached_from.ensures u).0 h)),
      (λ r. (c.reached_from.ensures u).1 (reaches_back edge back (λ _. true) (λ x y m e. refl) (λ x y m e. c.columns.ensures x y ∙ e) u c.args.slot refl r)),
    )
