use Rattle.gl_table.proofs.Words.{◌≡◌, ap, false, is_among_waiters, NL, refl, slice_index_or, take, true, ℕ}
use Rattle.gl_model.specs.declared.answers.Notice.TheVariants as notice
use Rattle.gl_table.proofs.inside.Woken.{among_more, ends_none, ends_one, given_at, is_among_all, may_hold, none_before, txn_entry_still, untold_still}
use Rattle.gl_table.proofs.inside.Woken.{woken_more}
use Rattle.gl_table.proofs.ledger.wake.wake.Goals.{In-loop-waiter}
use Rattle.gl_table.proofs.ledger.wake.wake.Goals as goal

pub loop-waiter-init : goal.loop-waiter-init
loop-waiter-init c = ends_none _ (λ u. refl) c.requires.can.kept

-- the slot of the next waiter, which is none of those before
abbrev slot : In-loop-waiter → ℕ
slot c = (slice_index_or c.args.granted.now c.loop-waiter.waiter-index (0, NL)).0

among : (c : In-loop-waiter) → is_among_waiters (slot c) c.args.granted.now ≡ true
among c = is_among_all c.args.granted.now c.loop-waiter.waiter-index (0, NL) c.loop-waiter-test.true

fresh : (c : In-loop-waiter) → is_among_waiters (slot c) (take c.loop-waiter.waiter-index c.args.granted.now) ≡ false
fresh c = none_before c.args.granted.now c.loop-waiter.waiter-index (0, NL) c.requires.can.distinct c.loop-waiter-test.true

pub set_status-age-requires : goal.set_status-age-requires
set_status-age-requires c = let p = (goal.at.set_status-age-requires c).In-loop-waiter in
    txn_entry_still c.loop-waiter.invariant _ (fresh p) (c.requires.can.below _ (among p))

pub hold-requires : goal.hold-requires
hold-requires c = record {
  can = let p = (goal.at.hold-requires c).In-loop-waiter in
      may_hold c.args.parents.now c.loop-waiter.invariant _ (fresh p) (c.requires.hold _ (among p));
}

pub tell-requires-clause-absent : goal.tell-requires-clause-absent
tell-requires-clause-absent c = let p = (goal.at.tell-requires-clause-absent c).In-loop-waiter in
    untold_still c.loop-waiter.invariant _ (fresh p) (c.requires.can.untold _ (among p))

pub loop-waiter-preserved : goal.loop-waiter-preserved
loop-waiter-preserved c = let p = (goal.at.loop-waiter-preserved c).In-loop-waiter in let i = c.loop-waiter.waiter-index in
    let given = given_at (λ u. NL) c.args.granted.now i (0, NL) c.requires.can.distinct c.loop-waiter-test.true in
    woken_more c.args.parents.now c.loop-waiter.invariant _ (fresh p) _ _
    (ends_one _ c.set_status-age.result _ c.set_status-age.ensures.age c.set_status-age.ensures.len c.set_status-age.ensures.txns c.hold.ensures
    c.tell.ensures.by_slot c.tell.ensures.notices)
    _ (λ u. among_more u c.args.granted.now i (0, NL) c.loop-waiter-test.true) given (ap (notice.Granted c.args.node) given)
