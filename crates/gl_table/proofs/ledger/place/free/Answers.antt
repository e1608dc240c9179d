use Rattle.gl_table.proofs.Words.{◌∙◌, ◌≡◌, arith, false, is_among_waiters, NL, refl, slice_index_or, take, true, ℕ}
use Rattle.gl_table.proofs.inside.Woken.{among_more, count_still, ends_more, ends_none, is_among_all, kept_still, none_before, txn_entry_still, untold_still}
use Rattle.gl_table.proofs.ledger.place.free.Goals.{In-loop-waiter}
use Rattle.gl_table.proofs.ledger.place.free.Goals as goal

pub loop-waiter-init : goal.loop-waiter-init
loop-waiter-init c = ends_none _ (λ u. refl) c.requires.can.kept

-- the slot of the next waiter, which is none of those before
abbrev slot : In-loop-waiter → ℕ
slot c = (slice_index_or c.args.waiters.now c.loop-waiter.waiter-index (0, NL)).0

among : (c : In-loop-waiter) → is_among_waiters (slot c) c.args.waiters.now ≡ true
among c = is_among_all c.args.waiters.now c.loop-waiter.waiter-index (0, NL) c.loop-waiter-test.true

fresh : (c : In-loop-waiter) → is_among_waiters (slot c) (take c.loop-waiter.waiter-index c.args.waiters.now) ≡ false
fresh c = none_before c.args.waiters.now c.loop-waiter.waiter-index (0, NL) c.requires.can.distinct c.loop-waiter-test.true

pub end_wait-requires-clause-can : goal.end_wait-requires-clause-can
end_wait-requires-clause-can c = let p = (goal.at.end_wait-requires-clause-can c).In-loop-waiter in record {
  kept = kept_still c.loop-waiter.invariant c.requires.can.kept;
  has_entry = txn_entry_still c.loop-waiter.invariant _ (fresh p) (c.requires.can.below _ (among p));
  untold = untold_still c.loop-waiter.invariant _ (fresh p) (c.requires.can.untold _ (among p));
}

pub end_wait-requires-clause-room : goal.end_wait-requires-clause-room
end_wait-requires-clause-room c = let p = (goal.at.end_wait-requires-clause-room c).In-loop-waiter in
    let none = count_still c.loop-waiter.invariant _ (fresh p) c.args.node ∙ c.requires.childless _ (among p) in λ some. absurd (omega arith)

pub loop-waiter-preserved : goal.loop-waiter-preserved
loop-waiter-preserved c = let p = (goal.at.loop-waiter-preserved c).In-loop-waiter in
    ends_more c.loop-waiter.invariant _ (fresh p) c.end_wait.ensures _
    (λ u. among_more u c.args.waiters.now c.loop-waiter.waiter-index (0, NL) c.loop-waiter-test.true) refl refl (λ q. refl) refl
