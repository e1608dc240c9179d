use Rattle.gl_header.proofs.Words.{◌∙◌, ap, group_of, header_or_new, members_of, slot_limit, sym}
use Rattle.gl_header.proofs.Changed.{nobody-group}
use Rattle.gl_header.proofs.Unused.{unused-nobody}
use Rattle.gl_header.proofs.headers.Headers.group.Goals as goal

pub returns-in-Nobody : goal.returns-in-Nobody
returns-in-Nobody c =
    nobody-group slot_limit ∙ ap (group_of slot_limit) (sym unused-nobody)
    ∙ ap (λ o. group_of slot_limit (members_of (header_or_new o))) c.in-Nobody.ensures.is

pub returns-in-One : goal.returns-in-One
returns-in-One c =
    (c.in-One.ensures.lawful _ (sym c.in-One.ensures.is)).group_is ∙ ap (λ o. group_of slot_limit (members_of (header_or_new o))) c.in-One.ensures.is
