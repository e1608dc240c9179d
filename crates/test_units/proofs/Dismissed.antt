-- Waits that can be dismissed.
use Rattle.std.proofs.Common.{◌≡◌, ℕ, Bool, true, false, not, List, [], ◌∷◌, refl, ap, ◌∙◌, arith}
use Rattle.std.specs.Prelude.{◌==◌, if◌then◌else◌}
use Rattle.std.proofs.lemmas.Bool.Decides.{nat_tests}
use Rattle.gl_modes.proofs.Words.{split}
use Rattle.gl_header.specs.Header.{Members, Waiter, fits, with_mode, front, is_ahead, without_waiter}

-- nobody is granted from a queue whose first waiter stays and did not fit

stays-first : (most : ℕ) (g : Members) (w : Waiter) (q r : List Waiter) → front most g (w ∷ q) ≡ [] → front most g (w ∷ r) ≡ []
stays-first most g w q r h =
    split (fits most g w.0 w.1)
    (λ e. absurd (taken (w ∷ front most (with_mode g w.0 w.1) q) (fits most g w.0 w.1) e h))
    (λ e. ap (λ b. if b then w ∷ front most (with_mode g w.0 w.1) r else []) e)
  where
    taken : (ws : List Waiter) (b : Bool) → b ≡ true → (if b then w ∷ front most (with_mode g w.0 w.1) q else []) ≡ [] → ⊥
    taken ws true h e = cc
    taken ws false h e = cc

-- a waiter after another one can be dismissed
pub dismissed-behind : (most : ℕ) (g : Members) (q : List Waiter) (t u : ℕ) → is_ahead q t u ≡ true → front most g q ≡ []
    → front most g (without_waiter t q) ≡ []
dismissed-behind most g [] t u a h = refl
dismissed-behind most g (w ∷ q) t u a h =
    split (w.0 == t)
    (λ e. let none : is_ahead (w ∷ q) t u ≡ false = grind (arith, nat_tests) in cc)
    (λ e. ap (λ b. front most g (if not b then w ∷ without_waiter t q else without_waiter t q)) e ∙ stays-first most g w q (without_waiter t q) h)
