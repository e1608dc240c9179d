use Rattle.std.specs.Prelude.{None}
use Rattle.std.proofs.Common.{rules, ◌∙◌}
use Rattle.std.proofs.lemmas.Option.{MatchOption-at_some}
use Rattle.indexmap.specs.IndexMap.{Updates}
use Rattle.gl_catalog.specs.Manager.{state_of}
use Rattle.gl_rows.specs.Rows.{same_row}
use Rattle.gl_rows.proofs.LettingGo.{gone_at}
use Rattle.gl_rows.proofs.names.let_go.Goals as goal

pub returns-clause-goes : goal.returns-clause-goes
returns-clause-goes c =
    let key = c.in-Some.field-0-1.now in
    let out =
    MatchOption-at_some _ (λ p. Updates same_row c.args.names.now c.swap_remove_index.new.self p.0 None) (key, c.in-Some.node.now)
    (c.swap_remove_index.ensures.entry ∙ c.in-Some.ensures.entry) c.swap_remove_index.ensures.updates in
    gone_at (state_of c.args.manager.now)
    (state_of c.forget_living.new.manager) c.args.names.now.entries c.swap_remove_index.new.self.entries c.args.row key c.in-Some.node.now
    (search rules) (search rules) (search rules) out.0
