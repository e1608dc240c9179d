use Rattle.gl_table.proofs.calls.Law.{new_law, new_safe, new_state}
use Rattle.gl_table.proofs.table.Table.over.Goals as goal

pub invariant_of-result-in-Ok : goal.invariant_of-result-in-Ok
invariant_of-result-in-Ok c =
    new_safe c.args.graph c.in-Ok.ledger c.args.detect c.args.victims c.args.most c.requires.few c.requires.low c.requires.empty c.requires.births
    c.in-Ok.ensures

pub returns-in-Ok-clause-made : goal.returns-in-Ok-clause-made
returns-in-Ok-clause-made c =
    new_state c.args.graph c.in-Ok.ledger c.args.detect c.args.victims c.args.most c.requires.few c.requires.low c.requires.empty c.requires.births
    c.in-Ok.ensures

pub invariant_of-result : goal.invariant_of-result
invariant_of-result c =
    new_law c.args.graph c.in-Ok.ledger c.args.detect c.args.victims c.args.most c.requires.few c.requires.low c.requires.empty c.requires.births
    c.in-Ok.ensures
