use Rattle.std.specs.Prelude.{◌≡◌, ◌⊎◌, ◌<◌, false, true, if◌then◌else◌, OnErr, OnOk, ℕ, None, Some, Result}
use Rattle.std.proofs.Common.{ap, arith, inl, inr, subst, sym, ◌∙◌}
use Rattle.gl_slots.specs.declared.slots.Slots.{Slots}
use Rattle.gl_modes.specs.declared.refusal.Refusal.{Refusal}
use Rattle.gl_model.specs.State.{lives}
use Rattle.gl_model.specs.Tellings.{Told}
use Rattle.gl_catalog.specs.Manager.{ManagerView, state_of}
use Rattle.gl_catalog.specs.Paths.{Ask}
use Rattle.gl_rows.specs.Releasing.{GoesBackTo}
use Rattle.gl_wakes.specs.Wakes.{HasEnded}
use Rattle.gl_waiting.specs.Delivering.{ComesToNothing, Delivered, DeliveryView, unlocking}
use Rattle.gl_waiting.specs.Tries.{IsTried, gives_back, lock_count, try_of}
use Rattle.gl_waiting.proofs.Runs.{own_as, own_then}
use Rattle.gl_waiting.proofs.TriedPaths.{decided, mark_is, none_held, path_ended, path_held, path_low, path_runs, rolled, rolled_ended, stays}
use Rattle.gl_waiting.proofs.delivery.Delivery.try_path.Goals.{then-after-before-via-else-after-before+then-not-gives_back}
use Rattle.gl_waiting.proofs.delivery.Delivery.try_path.Goals.{then-after-before-via-then-after-before}
use Rattle.gl_waiting.proofs.delivery.Delivery.try_path.Goals as goal

-- the count of a manager that is lent
counted_as : (k : ℕ) (n m : ManagerView) → k ≡ n.accepted → n ≡ m → k ≡ m.accepted
counted_as k n m is same = is ∙ ap (λ (x : ManagerView). x.accepted) same

pub returns-then-after-before-clause-tries : goal.returns-then-after-before-clause-tries
returns-then-after-before-clause-tries c =
    let ask : Ask = (c.args.node, c.args.mode) in
    let mid = c.try_up-tried.new.self.manager in
    let before = counted_as _ _ _ c.accepted-before.ensures c.manager-2.ensures in
    let after = counted_as _ _ _ c.accepted-after.ensures c.manager-3.ensures in
    let why : (mid.accepted ≡ c.args.self.now.manager.accepted) ⊎ (gives_back c.args.keep c.try_up-tried.result ≡ false) =
    elim c.then-after-before.branch [
      | then-after-before-via-then-after-before w ↦ inl (sym after ∙ w.if-after-before.true ∙ before)
      | then-after-before-via-else-after-before+then-not-gives_back w ↦ inr (sym w.gives_back.ensures ∙ w.if-not-gives_back.true)
    ] in
    subst (λ (d : DeliveryView). IsTried c.args.keep c.args.txn ask c.args.self.now c.try_up-tried.result c.try_up-tried.new.told.items c.empty.result d)
    (sym c.try_up-tried.ensures.manager)
    (stays c.args.keep c.args.txn ask c.args.self.now c.try_up-tried.result mid c.try_up-tried.ensures.path c.try_up-tried.new.told.items c.empty.result
    c.try_up-tried.ensures.untold c.empty.ensures.none why)

pub returns-then-after-before-clause-held : goal.returns-then-after-before-clause-held
returns-then-after-before-clause-held c =
    path_held c.args.txn (c.args.node, c.args.mode) c.try_up-tried.result c.args.self.now.manager c.try_up-tried.new.self.manager c.law.ensures.lawful
    c.try_up-tried.ensures.path

pub returns-then-after-before-clause-tests : goal.returns-then-after-before-clause-tests
returns-then-after-before-clause-tests c = λ r found.
    let is = decided c.args.txn (c.args.node, c.args.mode) c.args.self.now.manager r found c.try_up-tried.result c.try_up-tried.new.self.manager
    c.try_up-tried.ensures.path in
    (is.0, c.try_up-tried.ensures.manager ∙ ap (λ (m : ManagerView). record c.args.self.now { manager = m }) is.1)

pub returns-then-after-before-clause-run : goal.returns-then-after-before-clause-run
returns-then-after-before-clause-run c =
    path_runs c.args.keep c.args.txn (c.args.node, c.args.mode) c.args.self.now c.try_up-tried.result c.try_up-tried.new.self.manager
    c.try_up-tried.ensures.path

pub returns-then-after-before-clause-ended : goal.returns-then-after-before-clause-ended
returns-then-after-before-clause-ended c =
    path_ended c.args.keep c.args.txn (c.args.node, c.args.mode) c.args.self.now c.try_up-tried.result c.try_up-tried.new.self.manager
    c.try_up-tried.ensures.path c.empty.result

pub returns-then-after-before-clause-low : goal.returns-then-after-before-clause-low
returns-then-after-before-clause-low c =
    path_low c.args.keep c.args.txn (c.args.node, c.args.mode) c.args.self.now c.try_up-tried.result c.try_up-tried.new.self.manager
    c.try_up-tried.ensures.path

-- something was granted
more : (c : goal.After-ended-1) → c.args.self.now.manager.accepted < c.try_up-tried.new.self.manager.accepted
more c =
    let low = path_low c.args.keep c.args.txn (c.args.node, c.args.mode) c.args.self.now c.try_up-tried.result c.try_up-tried.new.self.manager
    c.try_up-tried.ensures.path in
    let before = counted_as _ _ _ c.accepted-before.ensures c.manager-2.ensures in
    let after = counted_as _ _ _ c.accepted-after.ensures c.manager-3.ensures in
    let apart = c.if-after-before.false in
    omega (arith, low, before, after, apart)

module _ (c : goal.After-ended-1) where
  abbrev between : DeliveryView
  between = record c.args.self.now { manager = c.try_up-tried.new.self.manager }

  abbrev released : Result ℕ Refusal
  released = c.release_since-released.result.0

  abbrev told : Told
  told = c.release_since-released.new.told.items

  abbrev ended : Slots
  ended = c.release_since-released.result.1

  abbrev after : DeliveryView
  after = c.release_since-released.new.self

  back : GoesBackTo c.args.txn c.unwrap_or-mark.result between.manager between.rows released told after.manager after.rows
  back = subst (λ (x : DeliveryView). GoesBackTo c.args.txn c.unwrap_or-mark.result x.manager x.rows released told after.manager after.rows)
      c.try_up-tried.ensures.manager c.release_since-released.ensures.back

  delivered : OnOk released (Delivered between (unlocking c.args.txn) told ended after)
  delivered = subst (λ (x : DeliveryView). OnOk released (Delivered x (unlocking c.args.txn) told ended after)) c.try_up-tried.ensures.manager
      c.release_since-released.ensures.delivered

  refused : OnErr released (ComesToNothing between told ended after)
  refused = subst (λ (x : DeliveryView). OnErr released (ComesToNothing x told ended after)) c.try_up-tried.ensures.manager
      c.release_since-released.ensures.refused

  gives : gives_back c.args.keep c.try_up-tried.result ≡ true
  gives = sym c.gives_back.ensures ∙ c.if-not-gives_back.false

  mark : c.unwrap_or-mark.result ≡ lock_count c.args.self.now.manager c.args.txn
  mark =
      c.unwrap_or-mark.ensures
      ∙ mark_is c.args.keep c.args.txn (c.args.node, c.args.mode) c.args.self.now c.try_up-tried.result c.try_up-tried.new.self.manager
      c.try_up-tried.ensures.path c.lock_count.result
      (c.lock_count.ensures
      ∙ ap (λ (m : ManagerView). if lives (state_of m) c.args.txn then Some (lock_count m c.args.txn) else None) c.manager.ensures) (more c)

  tries : IsTried c.args.keep c.args.txn (c.args.node, c.args.mode) c.args.self.now c.try_up-tried.result told ended after
  tries =
      rolled c.args.keep c.args.txn (c.args.node, c.args.mode) c.args.self.now c.try_up-tried.result c.try_up-tried.new.self.manager
      c.try_up-tried.ensures.path c.unwrap_or-mark.result released told ended after back delivered refused (more c) mark gives

  no_wait : HasEnded (state_of c.args.self.now.manager) (state_of after.manager) ended
  no_wait =
      rolled_ended c.args.keep c.args.txn (c.args.node, c.args.mode) c.args.self.now c.try_up-tried.result c.try_up-tried.new.self.manager
      c.try_up-tried.ensures.path c.unwrap_or-mark.result released told ended after back delivered refused (more c) c.law-2.ensures.lawful

pub returns-clause-tries : goal.returns-clause-tries
returns-clause-tries c = tries c

pub returns-clause-held : goal.returns-clause-held
returns-clause-held c =
    none_held c.args.keep c.args.txn (c.args.node, c.args.mode) c.try_up-tried.result (state_of c.release_since-released.new.self.manager) (gives c)

pub returns-clause-tests : goal.returns-clause-tests
returns-clause-tests c = λ r found.
    let is = decided c.args.txn (c.args.node, c.args.mode) c.args.self.now.manager r found c.try_up-tried.result c.try_up-tried.new.self.manager
    c.try_up-tried.ensures.path in
    let same : c.try_up-tried.new.self.manager.accepted ≡ c.args.self.now.manager.accepted = ap (λ (m : ManagerView). m.accepted) is.1 in
    let less = more c in
    absurd (omega (arith, same, less))

pub returns-clause-run : goal.returns-clause-run
returns-clause-run c =
    own_then (try_of c.args.txn (c.args.node, c.args.mode)) (state_of c.args.self.now.manager) (state_of c.try_up-tried.new.self.manager)
    (state_of c.release_since-released.new.self.manager)
    (path_runs c.args.keep c.args.txn (c.args.node, c.args.mode) c.args.self.now c.try_up-tried.result c.try_up-tried.new.self.manager
    c.try_up-tried.ensures.path)
    (own_as (unlocking c.args.txn) (try_of c.args.txn (c.args.node, c.args.mode)) (state_of c.try_up-tried.new.self.manager)
    (state_of c.release_since-released.new.self.manager) (λ u apart. apart) c.release_since-released.ensures.run)

pub returns-clause-ended : goal.returns-clause-ended
returns-clause-ended c = no_wait c

pub returns-clause-counted : goal.returns-clause-counted
returns-clause-counted c =
    let less = more c in
    let low = c.release_since-released.ensures.counted in
    inr (omega (arith, less, low))

pub returns-clause-low : goal.returns-clause-low
returns-clause-low c =
    let less = more c in
    let low = c.release_since-released.ensures.counted in
    omega (arith, less, low)
