use Rattle.gl_header.proofs.Words.{◌∙◌, ap, cond, has_none, IS, not_true, supremum, sym}
use Rattle.gl_slots.proofs.SlotLemmas.{none-test, test-none}
use Rattle.gl_header.proofs.group.Group.supremum.Goals as goal

pub returns-then-is_empty : goal.returns-then-is_empty
returns-then-is_empty c =
    sym (ap (λ b. cond b c.args.self.now.mode (supremum c.args.self.now.mode IS)) (none-test c.args.self.now.intents (c.is_empty.ensures.0 c.if-is_empty.true)))

pub returns-else-is_empty : goal.returns-else-is_empty
returns-else-is_empty c =
    c.sup.ensures
    ∙ sym (ap (λ b. cond b c.args.self.now.mode (supremum c.args.self.now.mode IS))
    (not_true (has_none c.args.self.now.intents) (λ e. cc (c.is_empty.ensures.1 (test-none c.args.self.now.intents e)))))
