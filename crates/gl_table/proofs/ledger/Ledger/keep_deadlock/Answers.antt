use Rattle.gl_table.proofs.Words.{arith, ByWatcher, empty_state, Graph, refl, state_on}
use Rattle.gl_table.proofs.inside.Boards.{cycle_waits}
use Rattle.gl_model.proofs.law.KeptRows.{kept-all, kept-more, kept-none, left-on_cycle}
use Rattle.gl_table.proofs.ledger.Ledger.keep_deadlock.Goals as goal

-- some graph: who waits for whom is the same over each
some_graph : Graph
some_graph = (empty_state ByWatcher 0).graph

pub loop-waiter-init : goal.loop-waiter-init
loop-waiter-init c = λ g. kept-none (state_on g c.args.self.now) c.args.slot c.args.victim c.cycle-cycle.result (c.cycle-cycle.ensures g)
    (record { victim = c.name-deadlock.result; cycle = c.clear.new.self }) (c.name-deadlock.ensures g) c.clear.ensures

pub stuck-stuck-requires-clause-waits : goal.stuck-stuck-requires-clause-waits
stuck-stuck-requires-clause-waits c =
    let s = state_on some_graph c.args.self.now in
    cycle_waits s c.args.slot c.in-Some.waiter
    (left-on_cycle s c.args.slot c.args.victim c.cycle-cycle.result (c.cycle-cycle.ensures some_graph) c.loop-waiter.left c.in-Some.waiter
    c.loop-waiter.deadlock c.in-Some.ensures.some.member (c.loop-waiter.invariant some_graph))

pub push-requires : goal.push-requires
push-requires c =
    let size = (c.loop-waiter.invariant some_graph).few c.in-Some.waiter c.in-Some.ensures.some.member in
    let low = c.in-Some.ensures.some.within in
    omega arith

pub loop-waiter-preserved : goal.loop-waiter-preserved
loop-waiter-preserved c = λ g.
    let stuck = c.stuck-stuck.ensures in
    kept-more (state_on g c.args.self.now) c.args.slot c.args.victim c.cycle-cycle.result (c.cycle-cycle.ensures g) c.loop-waiter.left c.take_lowest.new.self
    c.in-Some.waiter c.in-Some.ensures.some c.in-Some.ensures.left
    c.loop-waiter.deadlock (record { victim = c.loop-waiter.deadlock.victim; cycle = c.push.new.self }) c.stuck-stuck.result (c.loop-waiter.invariant g)
    (stuck.name g) (stuck.waits g) (stuck.waits_for g) refl c.push.ensures.items

pub returns : goal.returns
returns c = λ g. kept-all (state_on g c.args.self.now) c.args.slot c.args.victim c.cycle-cycle.result c.loop-waiter.left c.loop-waiter.deadlock
    (c.cycle-cycle.ensures g) c.in_default.ensures.none (c.loop-waiter.invariant g)
