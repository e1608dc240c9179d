use Rattle.gl_header.proofs.Words.{[], ◌∙◌, ap, enters, header_or_new, held_by_one, is_granted, Members, number_same, slot_limit, supremum, sym}
use Rattle.gl_header.proofs.Alone.{alone-below, other-granted, own-granted}
use Rattle.gl_header.proofs.Changed.{nobody-enters}
use Rattle.gl_header.proofs.Unused.{unused-nobody}
use Rattle.gl_header.proofs.headers.Headers.would_grant.Goals as goal

pub returns-in-Nobody : goal.returns-in-Nobody
returns-in-Nobody c =
    sym (nobody-enters slot_limit c.args.slot c.args.mode)
    ∙ ap (λ (g : Members). enters slot_limit g [] c.args.slot (supremum (g c.args.slot) c.args.mode)) (sym unused-nobody)
    ∙ ap (λ o. is_granted (header_or_new o) c.args.slot c.args.mode) c.in-Nobody.ensures.is

pub returns-then-holder-slot : goal.returns-then-holder-slot
returns-then-holder-slot c =
    number_same c.in-One.holder c.args.slot c.if-holder-slot.true
    ∙ sym (own-granted c.args.slot c.in-One.other c.args.mode)
    ∙ ap (λ t. is_granted (held_by_one t c.in-One.other) c.args.slot c.args.mode) (sym c.if-holder-slot.true)
    ∙ ap (λ o. is_granted (header_or_new o) c.args.slot c.args.mode) c.in-One.ensures.is

pub returns-else-holder-slot : goal.returns-else-holder-slot
returns-else-holder-slot c =
    c.compatible.ensures
    ∙ other-granted c.in-One.holder c.in-One.other c.args.slot c.args.mode
    (alone-below _ _ (c.in-One.ensures.lawful _ (sym c.in-One.ensures.is))) (λ e. c.if-holder-slot.false (sym e))
    ∙ ap (λ o. is_granted (header_or_new o) c.args.slot c.args.mode) c.in-One.ensures.is
