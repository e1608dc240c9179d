use Rattle.gl_header.proofs.Words.{◌∙◌, ap, header_or_new, holds, members_of, sym}
use Rattle.gl_header.proofs.Alone.{alone-below}
use Rattle.gl_header.proofs.headers.Headers.holders.Goals as goal

pub only-requires : goal.only-requires
only-requires c = alone-below _ _ (c.in-One.ensures.lawful _ (sym c.in-One.ensures.is))

pub returns-in-One : goal.returns-in-One
returns-in-One c = λ u.
    c.only.ensures u ∙ (c.in-One.ensures.lawful _ (sym c.in-One.ensures.is)).listed u
    ∙ ap (λ o. holds (members_of (header_or_new o)) u) c.in-One.ensures.is
