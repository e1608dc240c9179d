use Rattle.gl_table.proofs.Words.{◌<◌, ◌∙◌, ◌≡◌, Active, ap, enters_at, false, first_refusal, holds, lock_tests, LocksKeeping, MayLock, members, no, None}
use Rattle.gl_table.proofs.Words.{none_some, Option, refl, Refusal, Refuses, rules, state_in, state_of, subst, sym, TableView, told_but, true, txn_there}
use Rattle.gl_table.proofs.Words.{view_of, ℕ}
use Rattle.gl_model.specs.Calls.{Locks}
use Rattle.gl_table.proofs.calls.Locking.{can_ask, granted_answer, granted_keeps, granted_locks, granted_told, kept_locked, law_asked, may_ask, may_lock_by}
use Rattle.gl_table.proofs.calls.Locking.{sound_locked, stands_granted, stands_kept, state_granted, state_locked, tests-seen, told_locked, unrefused}
use Rattle.gl_table.proofs.calls.Stands.{MayStand, with_locks}
use Rattle.gl_table.proofs.inside.Asks.{answer-enters, answer-granted, answer-waits}
use Rattle.gl_table.proofs.calls.Orders.{orders_of}
use Rattle.gl_table.proofs.inside.Places.{keep_then}
use Rattle.gl_table.proofs.table.Table.lock_from.Goals.{In-Granted, In-Waiting, In_err-granted, In_ok-held}
use Rattle.gl_table.proofs.table.Table.lock_from.Goals as goal

-- the tests of the request passed, and this is the mode held
checked : (c : In_ok-held) → (first_refusal (lock_tests (state_of c.args.self.now) c.args.t c.args.n c.args.mode) ≡ None)
    × (c.in_ok-held.held ≡ (state_of c.args.self.now).held c.args.t.slot c.args.n)
checked c = (
  sym (tests-seen c.self.inside c.args.self.now c.self.view_is c.args.t c.args.n c.args.mode) ∙ c.in_ok-held.ensures.passed,
  c.in_ok-held.ensures.held ∙ (c.self.inside.locks.agree c.args.t.slot).modes c.args.n
      ∙ ap (λ (v : TableView). (state_of v).held c.args.t.slot c.args.n) c.self.view_is,
)

may : (c : In_ok-held) → MayLock (state_of (view_of c.self.inside)) c.args.t c.args.n c.args.mode
may c =
    subst (λ (v : TableView). MayLock (state_of v) c.args.t c.args.n c.args.mode) (sym c.self.view_is)
    (may_lock_by (state_of c.args.self.now) c.args.t c.args.n c.args.mode (checked c).0)

-- if it was granted at once
fits : (c : In-Granted) → enters_at (state_of (view_of c.self.inside)) c.args.t.slot c.args.n c.args.mode ≡ true
fits c = answer-enters _ _ _ _ c.in_ok-granted.ensures.asked.answered c.in-Granted.is

-- and if it waits
blocks : (c : In-Waiting) → enters_at (state_of (view_of c.self.inside)) c.args.t.slot c.args.n c.args.mode ≡ false
blocks c = answer-waits _ _ _ c.in_ok-granted.ensures.asked.answered c.in-Waiting.is

pub returns-in_err-held-clause-refuses : goal.returns-in_err-held-clause-refuses
returns-in_err-held-clause-refuses c =
    let is = sym (tests-seen c.self.inside c.args.self.now c.self.view_is c.args.t c.args.n c.args.mode) ∙ c.in_err-held.ensures.refused in
    record {
      refuses = subst (λ (o : Option Refusal). Refuses o c.from_residual.result) (sym is) (search rules);
      held = λ passes enters member. absurd (none_some (sym passes ∙ is));
    }

pub ask-requires-clause-act : goal.ask-requires-clause-act
ask-requires-clause-act c = may_ask c.self.inside c.self.invariant c.args.t c.args.n c.args.mode (may (goal.at.ask-requires-clause-act c).In_ok-held)

pub ask-requires-clause-can : goal.ask-requires-clause-can
ask-requires-clause-can c = can_ask c.self.inside c.self.invariant c.args.t c.args.n c.args.mode (may (goal.at.ask-requires-clause-can c).In_ok-held)
    c.in_ok-held.held _ c.in_ok-held.ensures.held c.in_ok-held.ensures.parents

-- what the request leaves of the table if memory was lacking
kept : (c : In_err-granted) → MayStand c.self.inside c.self.inside.locks.graph c.ask.new.self
kept c = stands_kept c.self.inside c.self.invariant c.args.t c.args.n c.args.mode c.ask.new.self c.in_err-granted.ensures.err c.ask.ensures.exact

pub invariant_of-self-in_err-granted : goal.invariant_of-self-in_err-granted
invariant_of-self-in_err-granted c = (kept (goal.at.invariant_of-self-in_err-granted c).In_err-granted).safe

pub invariant_of-locks-2 : goal.invariant_of-locks-2
invariant_of-locks-2 c =
    law_asked c.self.inside c.self.invariant c.args.t c.args.n c.args.mode (may (goal.at.invariant_of-locks-2 c).In_ok-held) c.ask.new.self c.ask.result
    c.ask.ensures.asked c.ask.ensures.err c.ask.ensures.exact

pub returns-in_err-granted-clause-refuses : goal.returns-in_err-granted-clause-refuses
returns-in_err-granted-clause-refuses c =
    let is = (checked (goal.at.returns-in_err-granted-clause-refuses c).In_ok-held).0 in
    record {
      refuses = subst (λ (o : Option Refusal). Refuses o c.from_residual-in_err-granted.result) (sym is) (search rules);
      held = λ passes enters member. absurd (no (c.in_err-granted.ensures.held
          (subst (λ (v : TableView). holds (members (state_of v) c.args.n) c.args.t.slot ≡ true) (sym c.self.view_is) member)
          (subst (λ (v : TableView). enters_at (state_of v) c.args.t.slot c.args.n c.args.mode ≡ true) (sym c.self.view_is) enters)));
    }

-- what the grant makes of the table
stand : (c : In-Granted) → MayLock (state_of (view_of c.self.inside)) c.args.t c.args.n c.args.mode
    → MayStand c.self.inside c.self.inside.locks.graph c.ask.new.self
stand c may = stands_granted c.self.inside c.self.invariant c.args.t c.args.n c.args.mode may (fits c) c.ask.new.self
    (c.in_ok-granted.ensures.asked.enters (fits c)) c.ask.ensures.exact

pub invariant_of-self-in-Granted : goal.invariant_of-self-in-Granted
invariant_of-self-in-Granted c = let at = goal.at.invariant_of-self-in-Granted c in (stand at.In-Granted (may at.In_ok-held)).safe

pub returns-in-Granted-clause-answer : goal.returns-in-Granted-clause-answer
returns-in-Granted-clause-answer c =
    let at = goal.at.returns-in-Granted-clause-answer c in let m = may at.In_ok-held in let f = fits at.In-Granted in
    granted_answer (state_of (view_of c.self.inside)) (with_locks c.self.inside (state_in c.self.inside.locks.graph c.ask.new.self)) c.args.t.slot c.args.n
    c.args.mode
    c.in-Granted.granted m.active
    (state_granted c.self.inside c.self.invariant c.args.t c.args.n c.args.mode m f c.ask.new.self (c.in_ok-granted.ensures.asked.enters f))
    (answer-granted _ _ _ _ f c.in_ok-granted.ensures.asked.answered c.in-Granted.is)

pub returns-in-Granted-clause-told : goal.returns-in-Granted-clause-told
returns-in-Granted-clause-told c =
    let at = goal.at.returns-in-Granted-clause-told c in let f = fits at.In-Granted in
    let after = with_locks c.self.inside (state_in c.self.inside.locks.graph c.ask.new.self) in
    c.requires.empty ∙ granted_told (state_of (view_of c.self.inside)) after c.args.t.slot c.args.n c.args.mode c.self.invariant.lawful
    (state_granted c.self.inside c.self.invariant c.args.t c.args.n c.args.mode (may at.In_ok-held) f c.ask.new.self (c.in_ok-granted.ensures.asked.enters f))
    ∙ ap (λ (v : TableView). told_but c.args.t.slot (state_of v) after) c.self.view_is

pub returns-in-Granted-clause-state : goal.returns-in-Granted-clause-state
returns-in-Granted-clause-state c =
    let at = goal.at.returns-in-Granted-clause-state c in let f = fits at.In-Granted in
    let after = with_locks c.self.inside (state_in c.self.inside.locks.graph c.ask.new.self) in
    subst (λ (v : TableView). Locks (state_of v) c.args.t.slot c.args.n c.args.mode after) c.self.view_is
    (granted_locks (state_of (view_of c.self.inside)) after c.args.t.slot c.args.n c.args.mode f
    (state_granted c.self.inside c.self.invariant c.args.t c.args.n c.args.mode (may at.In_ok-held) f c.ask.new.self (c.in_ok-granted.ensures.asked.enters f)))

pub returns-in-Granted-clause-deadlock : goal.returns-in-Granted-clause-deadlock
returns-in-Granted-clause-deadlock c =
    let at = goal.at.returns-in-Granted-clause-deadlock c in let f = fits at.In-Granted in
    let after = with_locks c.self.inside (state_in c.self.inside.locks.graph c.ask.new.self) in
    subst (λ (v : TableView). LocksKeeping (state_of v) c.args.t.slot c.args.n c.args.mode v.deadlock after c.self.inside.deadlock) c.self.view_is
    (granted_keeps (state_of (view_of c.self.inside)) after c.args.t.slot c.args.n c.args.mode c.self.inside.deadlock f)

pub returns-in-Granted-clause-refuses : goal.returns-in-Granted-clause-refuses
returns-in-Granted-clause-refuses c =
    record { refuses = unrefused _ _ (checked (goal.at.returns-in-Granted-clause-refuses c).In_ok-held).0; held = λ passes enters member. refl }

pub settle_requester-requires-clause-has_entry : goal.settle_requester-requires-clause-has_entry
settle_requester-requires-clause-has_entry c =
    let at = goal.at.settle_requester-requires-clause-has_entry c in let m = may at.In_ok-held in
    subst (λ (k : ℕ). c.args.t.slot < k) (sym (ap (λ s. s.most) (c.in_ok-granted.ensures.asked.waits (blocks at.In-Waiting))))
    (c.self.inside.locks.orderly.below c.args.t.slot (txn_there ((state_of (view_of c.self.inside)).txns c.args.t.slot) Active m.active))

pub invariant_of-self-in-Waiting : goal.invariant_of-self-in-Waiting
invariant_of-self-in-Waiting c =
    let at = goal.at.invariant_of-self-in-Waiting c in let b = blocks at.In-Waiting in
    let settled = c.settle_requester.ensures in
    sound_locked c.self.inside c.self.invariant c.args.t c.args.n c.args.mode (may at.In_ok-held) b c.ask.new.self (c.in_ok-granted.ensures.asked.waits b)
    c.settle_requester.new.self c.settle_requester.new.deadlock settled.state

pub returns-in-Waiting-clause-told : goal.returns-in-Waiting-clause-told
returns-in-Waiting-clause-told c =
    let at = goal.at.returns-in-Waiting-clause-told c in let b = blocks at.In-Waiting in
    let after = state_of (view_of (record c.self.inside { locks = c.settle_requester.new.self; deadlock = c.settle_requester.new.deadlock })) in
    told_locked c.self.inside c.self.invariant c.args.t c.args.n c.args.mode (may at.In_ok-held) b c.ask.new.self (c.in_ok-granted.ensures.asked.waits b)
    c.settle_requester.new.self c.settle_requester.new.deadlock c.settle_requester.ensures.state c.settle_requester.new.told.items
    c.settle_requester.ensures.told
    ∙ ap (λ (v : TableView). told_but c.args.t.slot (state_of v) after) c.self.view_is

pub returns-in-Waiting-clause-state : goal.returns-in-Waiting-clause-state
returns-in-Waiting-clause-state c =
    let at = goal.at.returns-in-Waiting-clause-state c in let b = blocks at.In-Waiting in
    subst (λ (v : TableView). Locks (state_of v) c.args.t.slot c.args.n c.args.mode
    (state_of (view_of (record c.self.inside { locks = c.settle_requester.new.self; deadlock = c.settle_requester.new.deadlock })))) c.self.view_is
    (state_locked c.self.inside c.self.invariant c.args.t c.args.n c.args.mode (may at.In_ok-held) b c.ask.new.self (c.in_ok-granted.ensures.asked.waits b)
    c.settle_requester.new.self c.settle_requester.new.deadlock c.settle_requester.ensures.state)

pub returns-in-Waiting-clause-deadlock : goal.returns-in-Waiting-clause-deadlock
returns-in-Waiting-clause-deadlock c =
    let at = goal.at.returns-in-Waiting-clause-deadlock c in let b = blocks at.In-Waiting in
    let after = state_of (view_of (record c.self.inside { locks = c.settle_requester.new.self; deadlock = c.settle_requester.new.deadlock })) in
    subst (λ (v : TableView). LocksKeeping (state_of v) c.args.t.slot c.args.n c.args.mode v.deadlock after c.settle_requester.new.deadlock) c.self.view_is
    (kept_locked c.self.inside c.self.invariant c.args.t c.args.n c.args.mode (may at.In_ok-held) b c.ask.new.self (c.in_ok-granted.ensures.asked.waits b)
    c.settle_requester.new.self c.settle_requester.new.deadlock c.settle_requester.ensures.state c.settle_requester.ensures.deadlock)

pub returns-in-Waiting-clause-refuses : goal.returns-in-Waiting-clause-refuses
returns-in-Waiting-clause-refuses c =
    record { refuses = unrefused _ _ (checked (goal.at.returns-in-Waiting-clause-refuses c).In_ok-held).0; held = λ passes enters member. refl }

pub returns-in-Granted-clause-before : goal.returns-in-Granted-clause-before
returns-in-Granted-clause-before c = (checked (goal.at.returns-in-Granted-clause-before c).In_ok-held).1

pub returns-in-Waiting-clause-before : goal.returns-in-Waiting-clause-before
returns-in-Waiting-clause-before c = (checked (goal.at.returns-in-Waiting-clause-before c).In_ok-held).1

pub returns-in-Granted-clause-orders : goal.returns-in-Granted-clause-orders
returns-in-Granted-clause-orders c = orders_of c.self.inside c.self.view_is c.ask.ensures.orders refl

pub returns-in-Waiting-clause-orders : goal.returns-in-Waiting-clause-orders
returns-in-Waiting-clause-orders c =
    orders_of c.self.inside c.self.view_is (keep_then c.ask.ensures.orders c.settle_requester.ensures.orders) refl
