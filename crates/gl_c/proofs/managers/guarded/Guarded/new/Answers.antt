use Rattle.std.proofs.Common.{◌≡◌, ap, refl, subst, sym, ◌∙◌}
use Rattle.gl_slots.specs.Slots.{HasNoSlot}
use Rattle.gl_catalog.specs.Manager.{state_of}
use Rattle.gl_rows.specs.Rows.{RegistryView, RowsView, has_asked, has_rows, name_of}
use Rattle.gl_waiting.specs.Delivering.{DeliveryView}
use Rattle.gl_waiting.proofs.Rests.{nobody_rests}
use Rattle.gl_c.proofs.managers.guarded.Guarded.new.Goals as goal

pub invariant_of-result : goal.invariant_of-result
invariant_of-result c = record {
  epoch = tt;
  detect = tt;
  known = tt;
  rests = nobody_rests (state_of c.new-3.result.manager) (state_of c.new-3.result.manager) c.nobody.result
      (subst HasNoSlot (sym c.nobody.ensures) (subst HasNoSlot c.empty.ensures.is c.empty.ensures.none));
}

-- the rows of the new manager are the registry's
rows_are : (c : goal.After-empty) → c.new-3.result.rows ≡ c.in_ok-registry.registry.rows
rows_are c = ap (λ (d : DeliveryView). d.rows) c.new-3.ensures.delivery ∙ ap (λ (r : RegistryView). r.rows) c.new-2.ensures.registry

pub returns-clause-made : goal.returns-clause-made
returns-clause-made c = record {
  manager = ap (λ (d : DeliveryView). state_of d.manager) c.new-3.ensures.delivery
      ∙ ap (λ (r : RegistryView). state_of r.manager) c.new-2.ensures.registry
      ∙ ap state_of c.in_ok-registry.ensures.manager ∙ c.in_ok-manager.ensures.made;
  boxes = ap (λ (d : DeliveryView). d.boxes) c.new-3.ensures.delivery ∙ c.new-2.ensures.boxes;
  places = c.new-3.ensures.places;
  queue = c.new-3.ensures.queue;
  begun = c.new-3.ensures.begun;
  resting = c.nobody.ensures;
  ended = c.empty.ensures.is;
  shown = refl;
  fileless = λ file. ap (λ (rows : RowsView). has_rows rows file) (rows_are c) ∙ c.in_ok-registry.ensures.fileless file;
  unnamed = λ row. ap (λ (rows : RowsView). name_of rows row) (rows_are c) ∙ c.in_ok-registry.ensures.unnamed row;
  unasked = λ slot row. ap (λ (rows : RowsView). has_asked rows slot row) (rows_are c) ∙ c.in_ok-registry.ensures.unasked slot row;
  none_left = subst HasNoSlot (sym (ap (λ (rows : RowsView). rows.left) (rows_are c))) c.in_ok-registry.ensures.none_left;
}
