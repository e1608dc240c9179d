use Rattle.std.proofs.Common.{ap, subst, sym}
use Rattle.gl_slots.specs.declared.slots.Slots.{Slots}
use Rattle.gl_rows.specs.Rows.{RowsView}
use Rattle.gl_rows.proofs.LeftRows.{IsOnWay, way_begins, way_ends, way_goes_on}
use Rattle.gl_rows.proofs.rows.Rows.let_each_left_go.Goals as goal

pub loop-slot-init : goal.loop-slot-init
loop-slot-init c =
    subst (λ (l : Slots). IsOnWay c.args.manager.now c.args.self.now l c.args.manager.now c.args.self.now)
    (sym (ap (λ (v : RowsView). v.left) c.self.view_is)) (way_begins c.args.manager.now c.args.self.now)

pub loop-slot-preserved : goal.loop-slot-preserved
loop-slot-preserved c =
    way_goes_on c.args.manager.now c.loop-slot.manager c.let_go_in.new.manager c.args.self.now c.loop-slot.self c.let_go_in.new.self c.loop-slot.slots
    c.take_lowest.new.self c.in-Some.slot c.law.ensures.lawful c.in-Some.ensures.some c.in-Some.ensures.left c.loop-slot.invariant c.let_go_in.ensures

pub returns : goal.returns
returns c =
    way_ends c.args.manager.now c.loop-slot.manager c.args.self.now c.loop-slot.self c.loop-slot.slots c.in_default.ensures.none c.loop-slot.invariant
