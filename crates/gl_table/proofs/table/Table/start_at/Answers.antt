use Rattle.gl_table.proofs.Words.{◌<◌, ◌∙◌, ◌≡◌, ap, begun_at, false, is_wait, length, state_of, status_of, subst, sym}
use Rattle.gl_table.proofs.Words.{TableView, view_of}
use Rattle.gl_table.proofs.calls.Law.{begun-law, begun-safe, begun-state}
use Rattle.gl_table.proofs.table.Table.start_at.Goals.{After-take}
use Rattle.gl_table.proofs.table.Table.start_at.Goals as goal

-- the slot is there, nobody waits in it, and the age is above all others
there : (c : After-take) → c.args.slot < length c.self.inside.locks.ledger.txn_entries.items
there c = subst (λ (v : TableView). c.args.slot < (state_of v).most) (sym c.self.view_is) c.requires.slot

quiet : (c : After-take) → is_wait (status_of (state_of (view_of c.self.inside)) c.args.slot) ≡ false
quiet c = ap (λ (v : TableView). is_wait (status_of (state_of v) c.args.slot)) c.self.view_is ∙ c.requires.quiet

later : (c : After-take) → c.self.inside.begins < c.args.age
later c = subst (λ (v : TableView). (state_of v).begins < c.args.age) (sym c.self.view_is) c.requires.later

pub invariant_of-self : goal.invariant_of-self
invariant_of-self c = let at = (goal.at.invariant_of-self c).After-take in
    begun-safe c.self.inside c.self.invariant c.args.slot c.args.age c.args.since (there at) (quiet at) c.take.new.self c.take.ensures (later at)
    c.requires.low

pub invariant_of-self-inside : goal.invariant_of-self-inside
invariant_of-self-inside c =
    begun-law c.self.inside c.self.invariant c.args.slot c.args.age c.args.since (there c) (quiet c) c.take.new.self c.take.ensures (later c) c.requires.low

pub returns-clause-state : goal.returns-clause-state
returns-clause-state c = let at = (goal.at.returns-clause-state c).After-take in
    begun-state c.self.inside c.self.invariant c.args.slot c.args.age c.args.since (there at) (quiet at) c.take.new.self c.take.ensures (later at)
    c.requires.low
    ∙ ap (λ (v : TableView). begun_at (state_of v) c.args.slot c.args.age c.args.since) c.self.view_is
