use Rattle.gl_header.proofs.Words.{◌==◌, ◌∙◌, ◌≡◌, ap, arith, Bool, false, fun_ext, held_by, holds, if◌then◌else◌, IS, IX, Members, Mode, nat_tests, NL, not}
use Rattle.gl_header.proofs.Words.{refl, S, same_mode, same_mode-equal, sameb, SIX, sym, the_type, true, with_mode, X, ℕ}
use Rattle.std.proofs.lemmas.Bool.{not-false}
use Rattle.gl_header.proofs.group.Group.leave.Goals as goal

-- a slot that holds nothing leaves all as they are
unheld-without : (g : Members) (t : ℕ) → holds g t ≡ false → g ≡ with_mode g t NL
unheld-without g t none = fun_ext (λ u. by u (u == t) refl)
  where
    equal : (u : ℕ) → (u == t) ≡ true → u ≡ t
    equal u e = grind (arith, nat_tests)

    by : (u : ℕ) (b : Bool) → (u == t) ≡ b → g u ≡ (if u == t then NL else g u)
    by u true e = ap g (equal u e) ∙ (same_mode-equal (g t) NL (not-false _ none) ∙ sym (ap (λ x. if x then NL else g u) e))
    by u false e = sym (ap (λ x. if x then NL else g u) e)

-- a mode that equals NL is NL by `same_mode`
none-held : (m : Mode) → not (sameb the_type m NL) ≡ false → not (same_mode m NL) ≡ false
none-held NL h = refl
none-held m h = cc

pub returns-else-ne-clause-held : goal.returns-else-ne-clause-held
returns-else-ne-clause-held c =
    unheld-without (held_by c.args.self.now) c.args.slot
    (ap (λ m. not (same_mode m NL)) (sym c.requires.held) ∙ none-held c.args.held (sym c.ne.ensures ∙ c.if-ne.false))
