use Rattle.gl_header.proofs.Words.{◌∙◌, ◌≡◌, group_of, HeaderState, members_of, slot_limit, subst}
use Rattle.gl_header.proofs.Groups.{group_mode-is}
use Rattle.gl_header.proofs.header.Header.group.Goals as goal

pub returns-clause-supremum : goal.returns-clause-supremum
returns-clause-supremum c =
    subst (λ (x : HeaderState). c.supremum.result ≡ group_of slot_limit (members_of x)) c.self.view_is
    (c.supremum.ensures ∙ group_mode-is c.self.inside.granted c.self.invariant.group)
