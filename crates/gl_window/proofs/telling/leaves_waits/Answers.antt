use Rattle.gl_window.proofs.Words.{◌&&◌, ◌∙◌, ◌≡◌, Answer, ap, Bool, Command, false, has_none, if◌then◌else◌, is_empty, leaves_waiting, leaves_waits, not}
use Rattle.gl_window.proofs.Words.{Slots, spares_waits, sym, Told}
use Rattle.gl_slots.proofs.SlotLemmas.{none-test}
use Rattle.gl_window.proofs.Emptiness.{tests_empty, tests_none}
use Rattle.gl_window.proofs.telling.leaves_waits.Goals as goal

-- what is asked if there are parties
with_parties : (parties : Slots) (command : Command) (answer : Answer) (told : Told) → has_none parties ≡ false
    → leaves_waits parties command answer told ≡ (is_empty told && spares_waits parties command answer)
with_parties parties command answer told some =
    ap (λ (b : Bool). if b then not (leaves_waiting answer) else is_empty told && spares_waits parties command answer) some

pub returns-then-is_empty : goal.returns-then-is_empty
returns-then-is_empty c =
    ap not c.leaves_waiting.ensures
    ∙ ap
    (λ (b : Bool). if b then not (leaves_waiting c.args.answer.now)
    else is_empty c.args.told.now && spares_waits c.args.parties c.args.command.now c.args.answer.now)
    (sym (none-test c.args.parties (c.is_empty.ensures.0 c.if-is_empty.true)))

pub returns-then-is_empty-2 : goal.returns-then-is_empty-2
returns-then-is_empty-2 c =
    c.spares_waits.ensures
    ∙ ap (λ (b : Bool). b && spares_waits c.args.parties c.args.command.now c.args.answer.now)
    (sym (sym (c.is_empty-else-is_empty.ensures ∙ tests_empty c.args.told.now) ∙ c.if-is_empty-2.true))
    ∙ sym (with_parties c.args.parties c.args.command.now c.args.answer.now c.args.told.now
    (sym (tests_none c.args.parties _ c.is_empty.ensures) ∙ c.if-is_empty.false))

pub returns-else-is_empty-2 : goal.returns-else-is_empty-2
returns-else-is_empty-2 c =
    c.if-is_empty-2.false
    ∙ ap (λ (b : Bool). b && spares_waits c.args.parties c.args.command.now c.args.answer.now)
    (sym (sym (c.is_empty-else-is_empty.ensures ∙ tests_empty c.args.told.now) ∙ c.if-is_empty-2.false))
    ∙ sym (with_parties c.args.parties c.args.command.now c.args.answer.now c.args.told.now
    (sym (tests_none c.args.parties _ c.is_empty.ensures) ∙ c.if-is_empty.false))
