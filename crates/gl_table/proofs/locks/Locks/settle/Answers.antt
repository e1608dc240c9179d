use Rattle.gl_table.proofs.Words.{◌<◌, ap, graph_of, refl, State, state_at, subst, sym, ℕ}
use Rattle.gl_model.proofs.law.KeptRows.{keeping_turn, settles-keeping}
use Rattle.gl_table.proofs.inside.Withdrawn.{fewer_wait, how_many_wait}
use Rattle.gl_table.proofs.inside.Places.{lose_then}
use Rattle.gl_table.proofs.locks.Locks.settle.Goals as goal

pub loop-victim-smaller : goal.loop-victim-smaller
loop-victim-smaller c =
    let s = state_at c.loop-victim.self in
    let orderly = c.loop-victim.self.orderly in
    subst (λ (x : State). how_many_wait x < how_many_wait s) (sym c.condemn.ensures.state)
    (fewer_wait s orderly c.in-Some.victim (c.in-Some.ensures.waits (graph_of c.loop-victim.self.graph) orderly))

pub loop-victim-preserved : goal.loop-victim-preserved
loop-victim-preserved c =
    let g = graph_of c.loop-victim.self.graph in
    let before = c.loop-victim.invariant in
    let now = c.condemn.ensures in
    record {
      has_entry = subst (λ (k : ℕ). c.args.slot < k) (sym (ap (λ x. x.most) now.state)) before.has_entry;
      untold = now.untold;
      settled = λ s' d' rest. before.settled s' d' (keeping_turn c.args.victims (state_at c.loop-victim.self) (state_at c.condemn.new.self) s' c.args.slot
          c.in-Some.victim c.loop-victim.deadlock c.keep_deadlock.new.deadlock d' (c.in-Some.ensures.some g c.loop-victim.self.orderly)
          (c.keep_deadlock.ensures g)
          now.state rest);
      keeps_between = λ s between. now.keeps_between s (before.keeps_between s between);
      tells = record {
        by_slot = now.tells.by_slot;
        all = λ s between same. now.tells.all s (before.keeps_between s between)
            (before.tells.all s between same);
      };
      orders = lose_then before.orders now.orders;
    }

pub returns-clause-deadlock : goal.returns-clause-deadlock
returns-clause-deadlock c = let now = c.loop-victim.invariant in
    now.settled (state_at c.loop-victim.self) c.loop-victim.deadlock
    (0, (c.in_default.ensures.none (graph_of c.loop-victim.self.graph) c.loop-victim.self.orderly, refl, refl))

pub returns-clause-state : goal.returns-clause-state
returns-clause-state c =
    settles-keeping c.args.victims (state_at c.args.self.now) c.args.slot c.args.deadlock.now (state_at c.loop-victim.self) c.loop-victim.deadlock
    (returns-clause-deadlock c)
