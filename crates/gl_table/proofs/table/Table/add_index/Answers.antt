use Rattle.gl_table.proofs.Words.{graph_of, index_refusal, IsIndexBorn}
use Rattle.gl_table.proofs.calls.Law.{called}
use Rattle.gl_model.proofs.law.Records.{index-grows}
use Rattle.gl_table.proofs.calls.Stands.{MayStand}
use Rattle.gl_table.proofs.table.Table.add_index.Goals.{After-add_index}
use Rattle.gl_table.proofs.table.Table.add_index.Goals as goal

stand : (c : After-add_index) → MayStand c.self.inside c.add_index.new.self c.self.inside.locks.ledger
stand c =
    let g = graph_of c.self.inside.locks.graph in
    let g' = graph_of c.add_index.new.self in
    let ps = c.args.parents.now in
    let f = c.args.file in
    let bs = c.args.bounds.now in
    called c.self.inside c.self.invariant c.add_index.new.self (index_refusal g ps f bs) c.add_index.result (λ n. IsIndexBorn g g' n ps f bs)
    c.add_index.ensures.refuses c.add_index.ensures.made c.add_index.ensures.err (λ n. index-grows g g' c.self.invariant.lawful.graph ps n f bs)

pub invariant_of-self : goal.invariant_of-self
invariant_of-self c = (stand (goal.at.invariant_of-self c).After-add_index).safe

pub invariant_of-self-inside : goal.invariant_of-self-inside
invariant_of-self-inside c = (stand c).law
