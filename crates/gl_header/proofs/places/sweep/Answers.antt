use Rattle.gl_header.proofs.Words.{◌∙◌, ap, is_unused, IsLawfulHeader, members_by, Shared, subst, sym}
use Rattle.gl_header.proofs.AtPlace.{idle-is}
use Rattle.gl_header.proofs.places.sweep.Goals as goal

-- an unused header has no members, as a free place has none

pub returns-then-is_empty-clause-members : goal.returns-then-is_empty-clause-members
returns-then-is_empty-clause-members c =
    ap members_by c.set_aside.ensures.free
    ∙ (sym (idle-is c.in-Shared.here.value.header
    (subst (λ (x : Shared). IsLawfulHeader x.header) c.deref.ensures c.law.ensures.lawful)
    (sym (ap (λ (x : Shared). is_unused x.header) c.deref-2.ensures) ∙ (sym c.is_empty.ensures ∙ c.if-is_empty.true))).0
    ∙ sym (ap members_by c.in-Shared.is))
