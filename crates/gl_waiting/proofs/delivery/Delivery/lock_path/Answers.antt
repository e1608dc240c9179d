use Rattle.std.proofs.Common.{◌≡◌, ap, subst, ◌∙◌, inl, inr, ℕ}
use Rattle.gl_catalog.specs.Manager.{ManagerView, state_of}
use Rattle.gl_catalog.specs.Paths.{lock_of}
use Rattle.gl_rows.specs.Serving.{PathLeavesRows}
use Rattle.gl_waiting.specs.Delivering.{Carries, DeliveryView, registry_in}
use Rattle.gl_waiting.specs.Going.{IsRunOf}
use Rattle.gl_waiting.proofs.Delivered.{with_boxes}
use Rattle.gl_waiting.proofs.Paths.{ended_told, later_unless, same_if, told_rises, way_runs}
use Rattle.gl_waiting.proofs.delivery.Delivery.lock_path.Goals as goal

-- the count of a manager that is lent
counted_as : (k : ℕ) (n m : ManagerView) → k ≡ n.accepted → n ≡ m → k ≡ m.accepted
counted_as k n m is same = is ∙ ap (λ (x : ManagerView). x.accepted) same

pub returns-then-accepted-before-clause-path : goal.returns-then-accepted-before-clause-path
returns-then-accepted-before-clause-path c =
    subst (λ (d : DeliveryView). PathLeavesRows c.args.txn (c.args.node, c.args.mode) (registry_in d) c.lock_path-reached.result
    c.lock_path-reached.new.told.items c.lock_path-reached.new.self) c.self.view_is c.lock_path-reached.ensures

pub returns-then-accepted-before-clause-carries : goal.returns-then-accepted-before-clause-carries
returns-then-accepted-before-clause-carries c =
    let same = same_if c.args.txn (c.args.node, c.args.mode) c.self.inside.registry.manager c.lock_path-reached.new.self.manager
    c.lock_path-reached.new.told.items c.lock_path-reached.result c.lock_path-reached.ensures.untold c.lock_path-reached.ensures.path
    c.accepted-before.result c.accepted.result (counted_as _ _ _ c.accepted-before.ensures c.manager.ensures)
    (counted_as _ _ _ c.accepted.ensures c.manager-2.ensures) c.if-accepted-before.true in
    subst (λ (d : DeliveryView). Carries d (lock_of c.args.txn (c.args.node, c.args.mode)) c.lock_path-reached.new.told.items
    c.empty.result (with_boxes c.lock_path-reached.new.self c.self.inside.boxes)) c.self.view_is
    (inr (record {
      same = λ i. record { manager = same.0 i; rows = c.lock_path-reached.ensures.rows i; boxes = c.self.inside.boxes };
      untold = same.1;
      none = c.empty.ensures.none;
    }))

pub deliver-ended-requires : goal.deliver-ended-requires
deliver-ended-requires c =
    told_rises c.args.txn (c.args.node, c.args.mode) c.self.inside.registry.manager c.lock_path-reached.new.self.manager c.lock_path-reached.new.told.items
    c.lock_path-reached.result c.lock_path-reached.ensures.untold c.lock_path-reached.ensures.path c.law.ensures.manager.few

pub returns-clause-path : goal.returns-clause-path
returns-clause-path c =
    subst (λ (d : DeliveryView). PathLeavesRows c.args.txn (c.args.node, c.args.mode) (registry_in d) c.lock_path-reached.result
    c.lock_path-reached.new.told.items c.lock_path-reached.new.self) c.self.view_is c.lock_path-reached.ensures

pub returns-clause-carries : goal.returns-clause-carries
returns-clause-carries c =
    let told = c.lock_path-reached.new.told.items in
    let later = later_unless c.args.txn (c.args.node, c.args.mode) c.self.inside.registry.manager c.lock_path-reached.new.self.manager
    told c.lock_path-reached.result c.lock_path-reached.ensures.untold
    c.lock_path-reached.ensures.path c.accepted-before.result c.accepted.result (counted_as _ _ _ c.accepted-before.ensures c.manager.ensures)
    (counted_as _ _ _ c.accepted.ensures c.manager-2.ensures) c.if-accepted-before.false in
    subst (λ (d : DeliveryView). Carries d (lock_of c.args.txn (c.args.node, c.args.mode)) told c.deliver-ended.result
    (with_boxes c.lock_path-reached.new.self c.deliver-ended.new.self)) c.self.view_is
    (inl (
      later,
      record {
        puts = c.deliver-ended.ensures.puts;
        wakes = record {
          all = ended_told c.args.txn (c.args.node, c.args.mode) c.self.inside.registry.manager c.lock_path-reached.new.self.manager told
              c.lock_path-reached.result c.lock_path-reached.ensures.untold c.lock_path-reached.ensures.path c.deliver-ended.result
              c.deliver-ended.ensures.slots;
          slots = c.deliver-ended.ensures.slots;
        };
      },
    ))

pub returns-then-accepted-before-clause-run : goal.returns-then-accepted-before-clause-run
returns-then-accepted-before-clause-run c =
    subst (λ (d : DeliveryView). IsRunOf (lock_of c.args.txn (c.args.node, c.args.mode)) (state_of d.manager)
    (state_of c.lock_path-reached.new.self.manager)) c.self.view_is
    (way_runs c.args.txn (c.args.node, c.args.mode) c.self.inside.registry.manager c.lock_path-reached.new.self.manager c.lock_path-reached.new.told.items
    c.lock_path-reached.result c.lock_path-reached.ensures.untold c.lock_path-reached.ensures.path)

pub returns-clause-run : goal.returns-clause-run
returns-clause-run c =
    subst (λ (d : DeliveryView). IsRunOf (lock_of c.args.txn (c.args.node, c.args.mode)) (state_of d.manager)
    (state_of c.lock_path-reached.new.self.manager)) c.self.view_is
    (way_runs c.args.txn (c.args.node, c.args.mode) c.self.inside.registry.manager c.lock_path-reached.new.self.manager c.lock_path-reached.new.told.items
    c.lock_path-reached.result c.lock_path-reached.ensures.untold c.lock_path-reached.ensures.path)
