use Rattle.gl_table.proofs.Words.{◌∙◌, ◌≡◌, Err, false, first_refusal, granted, IfOk, lock_tests, MayLock, Mode, None, none_some, OnOk, Option, refl, Refusal}
use Rattle.gl_table.proofs.Words.{Refuses, rules, Some, state_in, state_of, subst, sym, TableView, true, try_tests, view_of, wanted}
use Rattle.gl_modes.specs.declared.refusal.Refusal.TheVariants as no
use Rattle.gl_table.proofs.calls.Locking.{can_ask, decided, may_ask, may_lock_by, mode_tried, same_enters, stands_tried, state_tried, tests-seen, try_refused}
use Rattle.gl_table.proofs.calls.Stands.{MayStand, with_locks}
use Rattle.gl_table.proofs.calls.Orders.{if_accepted, orders_of}
use Rattle.gl_table.proofs.table.Table.try_lock.Goals.{After-grant, In_err-held, In_ok-held}
use Rattle.gl_table.proofs.table.Table.try_lock.Goals as goal

passed : (c : In_ok-held) → first_refusal (lock_tests (state_of c.args.self.now) c.args.t c.args.n c.args.mode) ≡ None
passed c = sym (tests-seen c.self.inside c.args.self.now c.self.view_is c.args.t c.args.n c.args.mode) ∙ c.in_ok-held.ensures.passed

refused : (c : In_err-held) → first_refusal (try_tests (state_of c.args.self.now) c.args.t c.args.n c.args.mode) ≡ Some c.in_err-held.field-0.0
refused c =
    try_refused (state_of c.args.self.now) c.args.t c.args.n c.args.mode c.in_err-held.field-0.0
    (sym (tests-seen c.self.inside c.args.self.now c.self.view_is c.args.t c.args.n c.args.mode) ∙ c.in_err-held.ensures.refused)

pub returns-in_err-held-clause-refuses : goal.returns-in_err-held-clause-refuses
returns-in_err-held-clause-refuses c =
    subst (λ (o : Option Refusal). Refuses o c.from_residual.result) (sym (refused (goal.at.returns-in_err-held-clause-refuses c).In_err-held)) (search rules)

pub returns-in_err-held-clause-held : goal.returns-in_err-held-clause-held
returns-in_err-held-clause-held c = λ passes. absurd (none_some (sym passes ∙ refused (goal.at.returns-in_err-held-clause-held c).In_err-held))

pub returns-then-not-would_grant-clause-refuses : goal.returns-then-not-would_grant-clause-refuses
returns-then-not-would_grant-clause-refuses c =
    let is = decided c.self.inside c.self.invariant c.args.self.now c.self.view_is c.args.t c.args.n c.args.mode
    (passed (goal.at.returns-then-not-would_grant-clause-refuses c).In_ok-held) false c.if-not-would_grant.ensures in
    subst (λ (o : Option Refusal). Refuses {T = Mode} o (Err no.WouldBlock)) (sym is) refl

pub returns-then-not-would_grant-clause-held : goal.returns-then-not-would_grant-clause-held
returns-then-not-would_grant-clause-held c =
    let is = decided c.self.inside c.self.invariant c.args.self.now c.self.view_is c.args.t c.args.n c.args.mode
    (passed (goal.at.returns-then-not-would_grant-clause-held c).In_ok-held) false c.if-not-would_grant.ensures in
    λ passes. absurd (none_some (sym passes ∙ is))

may : (c : In_ok-held) → MayLock (state_of (view_of c.self.inside)) c.args.t c.args.n c.args.mode
may c = subst (λ (v : TableView). MayLock (state_of v) c.args.t c.args.n c.args.mode) (sym c.self.view_is)
    (may_lock_by (state_of c.args.self.now) c.args.t c.args.n c.args.mode (passed c))

pub would_grant-requires : goal.would_grant-requires
would_grant-requires c =
    let act = may_ask c.self.inside c.self.invariant c.args.t c.args.n c.args.mode (may (goal.at.would_grant-requires c).In_ok-held) in
    record { held = c.in_ok-held.ensures.held ∙ (act.exact.agree c.args.t.slot).modes c.args.n }

pub grant-requires-clause-act : goal.grant-requires-clause-act
grant-requires-clause-act c = may_ask c.self.inside c.self.invariant c.args.t c.args.n c.args.mode (may (goal.at.grant-requires-clause-act c).In_ok-held)

pub grant-requires-clause-can : goal.grant-requires-clause-can
grant-requires-clause-can c = can_ask c.self.inside c.self.invariant c.args.t c.args.n c.args.mode (may (goal.at.grant-requires-clause-can c).In_ok-held)
    c.in_ok-held.held _ c.in_ok-held.ensures.held c.in_ok-held.ensures.parents

pub grant-requires-clause-enters : goal.grant-requires-clause-enters
grant-requires-clause-enters c = sym (same_enters c.self.inside c.self.invariant c.args.t c.args.n c.args.mode) ∙ sym c.if-not-would_grant.ensures

stand : (c : After-grant) → MayLock (state_of (view_of c.self.inside)) c.args.t c.args.n c.args.mode
    → MayStand c.self.inside c.self.inside.locks.graph c.grant.new.self
stand c may =
    stands_tried c.self.inside c.self.invariant c.args.t c.args.n c.args.mode c.grant.result c.grant.new.self may
    (sym (same_enters c.self.inside c.self.invariant c.args.t c.args.n c.args.mode) ∙ sym c.if-not-would_grant.ensures)
    c.grant.ensures.granted c.grant.ensures.err c.grant.ensures.exact

pub invariant_of-self-2 : goal.invariant_of-self-2
invariant_of-self-2 c = let at = goal.at.invariant_of-self-2 c in (stand at.After-grant (may at.In_ok-held)).safe

pub invariant_of-locks-2 : goal.invariant_of-locks-2
invariant_of-locks-2 c = let at = goal.at.invariant_of-locks-2 c in (stand at.After-grant (may at.In_ok-held)).law

pub returns-clause-state : goal.returns-clause-state
returns-clause-state c =
    subst (λ (v : TableView). OnOk c.grant.result (with_locks c.self.inside (state_in c.self.inside.locks.graph c.grant.new.self)
    ≡ granted (state_of v) c.args.t.slot c.args.n c.args.mode)) c.self.view_is
    (state_tried c.self.inside c.self.invariant c.args.t c.args.n c.args.mode c.grant.result c.grant.new.self c.grant.ensures.granted)

pub returns-clause-mode : goal.returns-clause-mode
returns-clause-mode c =
    subst (λ (v : TableView). IfOk c.grant.result (λ m. m ≡ wanted (state_of v) c.args.t.slot c.args.n c.args.mode)) c.self.view_is
    (mode_tried c.self.inside c.self.invariant c.args.t c.args.n c.args.mode c.grant.result c.grant.new.self c.grant.ensures.granted)

pub returns-clause-refuses : goal.returns-clause-refuses
returns-clause-refuses c =
    let is = decided c.self.inside c.self.invariant c.args.self.now c.self.view_is c.args.t c.args.n c.args.mode
    (passed (goal.at.returns-clause-refuses c).In_ok-held) true c.if-not-would_grant.ensures in
    subst (λ (o : Option Refusal). Refuses {T = Mode} o c.grant.result) (sym is) c.grant.ensures.no_memory

pub returns-clause-orders : goal.returns-clause-orders
returns-clause-orders c =
    if_accepted c.grant.result (orders_of c.self.inside c.self.view_is c.grant.ensures.orders refl)
