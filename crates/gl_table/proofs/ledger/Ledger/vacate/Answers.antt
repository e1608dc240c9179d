use Rattle.gl_table.proofs.Words.{CountsHeld, State, subst, sym}
use Rattle.gl_table.proofs.inside.Vacated.{counts_vacated, evicted_counts, MayVacate}
use Rattle.gl_table.proofs.ledger.Ledger.vacate.Goals.{After-law}
use Rattle.gl_table.proofs.ledger.Ledger.vacate.Goals as goal

may : (c : After-law) → MayVacate c.args.graph.now c.args.self.now c.args.slot c.args.node
may c = record { law = c.law.ensures.lawful; act = c.requires.act; left = c.requires.left; holding = c.requires.holds }

pub evict-requires-clause-agreed : goal.evict-requires-clause-agreed
evict-requires-clause-agreed c = record {
  sound = c.requires.act.exact.sound;
  orderly = c.requires.act.orderly;
  agree = c.requires.act.exact.agree;
}

pub evict-requires-clause-left : goal.evict-requires-clause-left
evict-requires-clause-left c = record { live = c.requires.left.live; holding = c.requires.holds; alone = c.requires.left.alone }

pub evict-requires-clause-counts : goal.evict-requires-clause-counts
evict-requires-clause-counts c = evicted_counts (may (goal.at.evict-requires-clause-counts c).After-law)

pub returns-clause-exact : goal.returns-clause-exact
returns-clause-exact c = record {
  sound = c.evict.ensures.sound;
  agree = c.evict.ensures.agree;
  count = λ u. subst (λ (x : State). CountsHeld x c.evict.new.self.lists.items u) (sym c.evict.ensures.state)
      (counts_vacated (may (goal.at.returns-clause-exact c).After-law) c.evict.new.self.lists.items c.evict.ensures.counts u);
}
