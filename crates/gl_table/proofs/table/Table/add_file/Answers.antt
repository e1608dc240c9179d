use Rattle.gl_table.proofs.Words.{false, File, file_refusal, graph_of, IsBorn}
use Rattle.gl_table.proofs.calls.Law.{called}
use Rattle.gl_model.proofs.law.Records.{file-grows}
use Rattle.gl_table.proofs.calls.Stands.{MayStand}
use Rattle.gl_table.proofs.table.Table.add_file.Goals.{After-add_file}
use Rattle.gl_table.proofs.table.Table.add_file.Goals as goal

stand : (c : After-add_file) → MayStand c.self.inside c.add_file.new.self c.self.inside.locks.ledger
stand c =
    let g = graph_of c.self.inside.locks.graph in
    let g' = graph_of c.add_file.new.self in
    let ps = c.args.parents.now in
    called c.self.inside c.self.invariant c.add_file.new.self (file_refusal g ps) c.add_file.result (λ n. IsBorn g g' n (File false) ps)
    c.add_file.ensures.refuses c.add_file.ensures.made c.add_file.ensures.err (file-grows g g' c.self.invariant.lawful.graph ps)

pub invariant_of-self : goal.invariant_of-self
invariant_of-self c = (stand (goal.at.invariant_of-self c).After-add_file).safe

pub invariant_of-self-inside : goal.invariant_of-self-inside
invariant_of-self-inside c = (stand c).law
