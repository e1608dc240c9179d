use Rattle.gl_table.proofs.Words.{◌<◌, ◌∙◌, Agrees, CanStrike, CountsHeld, IsOrderly, List, NodeId, State, state_at, Strikes, subst, sym, txn_there, ℕ}
use Rattle.gl_table.proofs.inside.Back.{place_left}
use Rattle.gl_table.proofs.inside.Released.{agrees_released, can_strike, counts_released}
use Rattle.gl_model.proofs.telling.Fronts.{orderly_unlocked}
use Rattle.gl_table.proofs.locks.Locks.release.Goals as goal
use Rattle.gl_table.proofs.inside.Places.{lose_then}

pub strike-requires : goal.strike-requires
strike-requires c =
    record {
      can =
          let s : State = state_at c.args.self.now in
          let lt = c.args.self.now.orderly.below c.args.slot (txn_there (s.txns c.args.slot) _ c.requires.active) in
          subst (λ (ps : List NodeId). CanStrike c.drop_and_wake.new.self.lists.items c.args.slot c.args.node ps) (sym c.parents.ensures)
          (can_strike s c.args.self.now.orderly c.law.ensures.lawful c.args.slot c.args.node c.requires.active
          (c.args.self.now.orderly.holders_live c.args.slot c.args.node c.requires.holds) c.requires.holds
          c.args.self.now.ledger.lists.items c.drop_and_wake.new.self.lists.items c.args.self.now.agree c.args.self.now.count
          c.drop_and_wake.ensures.woken.lists
          (subst (λ (k : ℕ). c.args.slot < k) (sym (c.drop_and_wake.ensures.woken.lists.len ∙ c.args.self.now.sound.lists)) lt) c.requires.childless);
    }

pub invariant_of-self : goal.invariant_of-self
invariant_of-self c =
    let l = c.args.self.now in
    let s : State = state_at l in
    let woken = c.drop_and_wake.ensures.woken in
    let live = l.orderly.holders_live c.args.slot c.args.node c.requires.holds in
    let struck = subst (λ (ps : List NodeId). Strikes c.drop_and_wake.new.self.lists.items c.strike.new.lists.items c.args.slot c.args.node ps)
    c.parents.ensures c.strike.ensures in
    record {
      orderly = subst IsOrderly (sym c.drop_and_wake.ensures.state) (orderly_unlocked s l.orderly c.args.slot c.args.node);
      sound = record { few = woken.sound.few; lists = struck.len ∙ woken.sound.lists };
      agree = λ u. subst (λ (x : State). Agrees x c.strike.new.lists.items u) (sym c.drop_and_wake.ensures.state)
          (agrees_released s l.orderly c.law.ensures.lawful c.args.slot c.args.node c.requires.active live c.requires.holds l.ledger.lists.items
          c.drop_and_wake.new.self.lists.items l.agree l.count woken.lists c.strike.new.lists.items struck u);
      count = λ u. subst (λ (x : State). CountsHeld x c.strike.new.lists.items u) (sym c.drop_and_wake.ensures.state)
          (counts_released s l.orderly c.law.ensures.lawful c.args.slot c.args.node c.requires.active live c.requires.holds l.ledger.lists.items
          c.drop_and_wake.new.self.lists.items l.agree l.count woken.lists c.strike.new.lists.items struck u);
    }

pub returns-clause-place : goal.returns-clause-place
returns-clause-place c =
    let l = c.args.self.now in
    place_left (state_at l) l.orderly c.args.slot c.requires.active c.args.node c.requires.holds (l.agree c.args.slot) c.drop_and_wake.ensures.woken.lists
    c.strike.ensures.place

pub returns-clause-orders : goal.returns-clause-orders
returns-clause-orders c = lose_then c.drop_and_wake.ensures.woken.lists.loses c.strike.ensures.loses
