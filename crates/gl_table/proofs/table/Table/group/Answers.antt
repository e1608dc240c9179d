use Rattle.gl_table.proofs.Words.{[], ◌∙◌, ◌∷◌, ap, first_refusal, verdict_ok}
use Rattle.gl_table.proofs.calls.Queries.{answers, group-seen}
use Rattle.gl_table.proofs.table.Table.group.Goals as goal

pub returns : goal.returns
returns c =
    answers _ _ _ (ap (λ o. first_refusal (o ∷ [])) (verdict_ok _ _ c.in_ok-check_node.ensures))
    (c.group.ensures ∙ group-seen c.self.inside c.self.invariant c.args.self.now c.self.view_is c.args.n)
