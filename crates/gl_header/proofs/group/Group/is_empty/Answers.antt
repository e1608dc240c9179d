use Rattle.gl_header.proofs.Words.{◌∙◌, ◌≡◌, ap, clash, IS, IX, Mode, NL, not_true, refl, S, sameb, SIX, sym, the_type, true, X}
use Rattle.gl_header.proofs.Ranges.{equal_tests}
use Rattle.gl_header.proofs.Groups.{nobody-from_both, nobody-intents, nobody-mode}
use Rattle.gl_header.proofs.group.Group.is_empty.Goals as goal

is-NL : (m : Mode) → sameb the_type m NL ≡ true → m ≡ NL
is-NL NL h = refl
is-NL m h = cc

pub returns-then-eq : goal.returns-then-eq
returns-then-eq c =
    equal_tests _ _
    (λ h. nobody-from_both c.args.self.now c.requires (is-NL c.args.self.now.mode (sym c.eq.ensures ∙ c.if-eq.true)) (c.is_empty.ensures.0 h))
    (λ h. c.is_empty.ensures.1 (nobody-intents c.args.self.now c.requires h))

pub returns-else-eq : goal.returns-else-eq
returns-else-eq c =
    c.if-eq.false ∙ sym (not_true _ (λ h. clash (ap (λ m. sameb the_type m NL) (nobody-mode c.args.self.now c.requires h)) (sym c.eq.ensures ∙ c.if-eq.false)))
