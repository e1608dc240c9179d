use Rattle.std.proofs.Common.{◌≡◌, ◌∙◌, Bool, Some, false, ap, subst, sym, refl}
use Rattle.gl_rows.specs.Owned.{registry_of}
use Rattle.gl_rows.specs.Rows.{RegistryView}
use Rattle.gl_rows.specs.Serving.{IsServed, ServesBy, touches_rows}
use Rattle.gl_rows.proofs.Dropped.{served_changes}
use Rattle.gl_rows.proofs.NameChanges.{changed_hold}
use Rattle.gl_rows.proofs.registry.Registry.serve.Goals as goal

-- it touches no row
off : (c : goal.After-tidy_up) → touches_rows (registry_of c.self.inside) c.args.command ≡ false
off c = ap (λ (v : RegistryView). touches_rows v c.args.command) c.self.view_is ∙ sym c.touches_rows.ensures ∙ c.if-touches_rows.false

-- the registry after it
abbrev after : goal.After-tidy_up → RegistryView
after c = record { manager = c.tidy_up.new.manager; rows = c.tidy_up.new.self }

served : (c : goal.After-tidy_up)
    → IsServed (registry_of c.self.inside) c.args.command c.apply_telling-answer.result c.apply_telling-answer.new.told.items (after c)
served c =
    let e = c.apply_telling-answer.ensures in
    record {
      mid = c.apply_telling-answer.new.self;
      applies = record {
        step = e.step;
        caller = e.caller;
        others = e.others;
        settles = e.settles;
        deadlock = e.deadlock;
        counters = e.counters;
        same = e.same;
        orders = e.orders;
      };
      tidies = c.tidy_up.ensures;
    }

pub invariant_of-self : goal.invariant_of-self
invariant_of-self c =
    changed_hold c.self.inside.rows c.tidy_up.new.self _ _
    (served_changes (registry_of c.self.inside) (after c) c.law.ensures.lawful c.self.invariant c.args.command c.apply_telling-answer.result
    c.apply_telling-answer.new.told.items (off c) (served c)) c.self.invariant

pub returns : goal.returns
returns c =
    let told = c.apply_telling-answer.new.told.items in
    subst (λ (v : RegistryView). ServesBy (touches_rows v c.args.command) v c.args.command (Some c.apply_telling-answer.result) told (after c)) c.self.view_is
    (subst (λ (b : Bool). ServesBy b (registry_of c.self.inside) c.args.command (Some c.apply_telling-answer.result) told (after c)) (sym (off c))
    (c.apply_telling-answer.result, refl, served c))
