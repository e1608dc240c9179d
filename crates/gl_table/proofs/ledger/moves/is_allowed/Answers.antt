use Rattle.gl_table.proofs.Words.{◌∙◌, ◌≡◌, ap, is_none, is_ok, mode_of, None, Option, refl, Refusal, Some, verdict}
use Rattle.gl_model.proofs.law.Strays.{rule_allows}
use Rattle.gl_table.proofs.ledger.moves.is_allowed.Goals as goal

-- no reason to refuse
passes : (o : Option Refusal) → is_ok (verdict o) ≡ is_none o
passes None = refl
passes (Some r) = refl

pub returns : goal.returns
returns c = c.is_ok.ensures.value ∙ ap is_ok c.check_rule.ensures ∙ passes _ ∙ rule_allows (mode_of c.args.list.now) c.args.parents.now c.args.mode
