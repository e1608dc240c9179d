use Rattle.gl_table.proofs.Words.{graph_of, IsAdopted, record_refusal}
use Rattle.gl_table.proofs.calls.Law.{suited-call}
use Rattle.gl_table.proofs.calls.Records.{adopted-suits}
use Rattle.gl_table.proofs.calls.Stands.{MayStand}
use Rattle.gl_table.proofs.table.Table.adopt.Goals.{After-adopt_record}
use Rattle.gl_table.proofs.table.Table.adopt.Goals as goal

stand : (c : After-adopt_record) → MayStand c.self.inside c.adopt_record.new.self c.self.inside.locks.ledger
stand c =
    let g = graph_of c.self.inside.locks.graph in
    let g' = graph_of c.adopt_record.new.self in
    suited-call c.self.inside c.self.invariant c.adopt_record.new.self (record_refusal g c.args.file c.args.keys.now) c.adopt_record.result
    (λ n. IsAdopted g g' n c.args.file c.args.keys.now) c.adopt_record.ensures.refuses c.adopt_record.ensures.made c.adopt_record.ensures.err
    (λ n free born. adopted-suits c.self.inside c.self.invariant c.adopt_record.new.self n c.args.file c.args.keys.now free born)

pub invariant_of-self : goal.invariant_of-self
invariant_of-self c = (stand (goal.at.invariant_of-self c).After-adopt_record).safe

pub invariant_of-self-inside : goal.invariant_of-self-inside
invariant_of-self-inside c = (stand c).law
