use Rattle.gl_table.proofs.Words.{graph_of, Inner, inner_refusal, IsBorn}
use Rattle.gl_table.proofs.calls.Law.{called}
use Rattle.gl_model.proofs.law.Records.{inner-grows}
use Rattle.gl_table.proofs.calls.Stands.{MayStand}
use Rattle.gl_table.proofs.table.Table.add_inner.Goals.{After-add_inner}
use Rattle.gl_table.proofs.table.Table.add_inner.Goals as goal

stand : (c : After-add_inner) → MayStand c.self.inside c.add_inner.new.self c.self.inside.locks.ledger
stand c =
    let g = graph_of c.self.inside.locks.graph in
    let g' = graph_of c.add_inner.new.self in
    let ps = c.args.parents.now in
    called c.self.inside c.self.invariant c.add_inner.new.self (inner_refusal g ps) c.add_inner.result (λ n. IsBorn g g' n Inner ps)
    c.add_inner.ensures.refuses c.add_inner.ensures.made c.add_inner.ensures.err (inner-grows g g' c.self.invariant.lawful.graph ps)

pub invariant_of-self : goal.invariant_of-self
invariant_of-self c = (stand (goal.at.invariant_of-self c).After-add_inner).safe

pub invariant_of-self-inside : goal.invariant_of-self-inside
invariant_of-self-inside c = (stand c).law
