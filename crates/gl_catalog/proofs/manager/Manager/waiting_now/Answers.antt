use Rattle.std.specs.Prelude.{length}
use Rattle.std.proofs.Common.{ap, arith, ◌∙◌}
use Rattle.gl_slots.proofs.SlotLemmas.{slots_of-lowest, slots_of-none}
use Rattle.gl_catalog.specs.Manager.{ManagerView, state_of}
use Rattle.gl_model.specs.State.{is_wait, status_of}
use Rattle.gl_catalog.proofs.Counts.{few_wait, waiting_slots}
use Rattle.gl_catalog.proofs.manager.Manager.waiting_now.Goals as goal

pub loop-waiter-init : goal.loop-waiter-init
loop-waiter-init c =
    let all = waiting_slots (state_of c.args.self.now) c.waiting_slots-left.result c.law.ensures.lawful c.law.ensures.few
    (λ u. c.waiting_slots-left.ensures u ∙ ap (λ (v : ManagerView). is_wait (status_of (state_of v) u)) c.self.view_is) in
    omega (arith, all)

pub overflow_add-waiting : goal.overflow_add-waiting
overflow_add-waiting c =
    let few = few_wait (state_of c.args.self.now) c.law.ensures.few in
    let all = c.loop-waiter.invariant in
    omega (arith, few, all)

pub loop-waiter-preserved : goal.loop-waiter-preserved
loop-waiter-preserved c =
    let one = ap length (slots_of-lowest c.loop-waiter.left c.take_lowest.new.self c.in-Some._waiter c.in-Some.ensures.some c.in-Some.ensures.left) in
    let all = c.loop-waiter.invariant in
    omega (arith, one, all)

pub returns : goal.returns
returns c =
    let none = ap length (slots_of-none c.loop-waiter.left c.in_default.ensures.none) in
    let all = c.loop-waiter.invariant in
    omega (arith, none, all)
