use Rattle.gl_table.proofs.Words.{counted_by, refl}
use Rattle.gl_table.proofs.inside.Cuts.{agreed_over, can_join, joined_counts}
use Rattle.gl_table.proofs.ledger.Ledger.merge.Goals as goal

pub join_all-requires : goal.join_all-requires
join_all-requires c = record {
  can = can_join c.args.graph.now c.args.self.now c.requires.act.exact.count c.args.from c.args.to c.requires.few c.requires.room;
}

pub evict-requires-clause-agreed : goal.evict-requires-clause-agreed
evict-requires-clause-agreed c =
    agreed_over c.args.graph.now c.args.self.now (record c.args.self.now { lists = c.join_all.new.lists }) refl refl c.args.from c.args.to
    (λ u. counted_by c.args.self.now.lists.items u c.args.from) c.requires.room c.join_all.ensures c.requires.act.exact.sound c.requires.act.orderly
    c.requires.act.exact.agree

pub evict-requires-clause-counts : goal.evict-requires-clause-counts
evict-requires-clause-counts c =
    joined_counts c.args.graph.now c.args.self.now c.requires.act.exact.count c.args.from c.args.to c.law.ensures.lawful c.args.slot c.requires.left
    c.requires.differ c.requires.apart c.join_all.new.lists.items c.join_all.ensures
