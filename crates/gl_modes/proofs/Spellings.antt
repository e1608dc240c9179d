-- No two modes have the same spelling.
use Rattle.std.proofs.Common.{◌≡◌, ℕ, List, true, refl, subst}
use Rattle.std.specs.Str.{bytes_eq}
use Rattle.std.proofs.lemmas.Cmp.{nat_list_eq_equiv}
use Rattle.gl_modes.specs.Modes.{mode_text, same_mode}
use Rattle.gl_modes.specs.Laws.{SpellingsDiffer}
use Rattle.gl_modes.proofs.Each.{every2-true, implies, implied}
use Rattle.gl_modes.proofs.ModeLemmas.{same_mode-equal}

equal_bytes : (xs ys : List ℕ) → xs ≡ ys → bytes_eq xs ys ≡ true
equal_bytes xs ys e = subst (λ (zs : List ℕ). bytes_eq xs zs ≡ true) e (nat_list_eq_equiv.refl xs)

pub mode_text-injective : SpellingsDiffer
mode_text-injective a b e =
    same_mode-equal a b (implied _ _ (every2-true (λ x y. implies (bytes_eq (mode_text x) (mode_text y)) (same_mode x y)) refl a b) (equal_bytes _ _ e))
