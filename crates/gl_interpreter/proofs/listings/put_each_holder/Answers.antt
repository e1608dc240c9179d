use Rattle.gl_interpreter.proofs.Words.{◌∙◌, ap, flat_map, Hands, holder_row, Iter, script_of, slots_of, subst}
use Rattle.gl_interpreter.proofs.RowByRow.{all_yielded, one_more, yielded_more}
use Rattle.gl_interpreter.proofs.Writing.{Hands-none, Hands-then}
use Rattle.gl_interpreter.proofs.listings.put_each_holder.Goals as goal

pub loop-slot-init : goal.loop-slot-init
loop-slot-init g c = (Hands-none _ _, ap (λ (i : Iter). slots_of i.left) c.into_iter-slot-iterator.ensures.into_iter_gives ∙ c.iter-slot-items.ensures)

pub loop-slot-preserved : goal.loop-slot-preserved
loop-slot-preserved g c =
    let so_far = c.loop-slot.yielded in
    let slot = c.in-Some.slot in (
      subst (Hands (g.W.Write.contents c.args.writer.now) c.args.sink.now (g.W.Write.contents c.put_holder.new.writer) c.put_holder.new.sink)
          (one_more (holder_row (script_of c.args.desk.now) c.args.node) so_far slot)
          (Hands-then _ _ _ _ _ _ _ _ c.loop-slot.invariant.0 c.put_holder.ensures),
      yielded_more so_far slot _ _ _ c.loop-slot.invariant.1 c.in-Some.ensures.steps,
    )

pub returns : goal.returns
returns g c =
    subst (λ slots. Hands (g.W.Write.contents c.args.writer.now) c.args.sink.now (g.W.Write.contents c.loop-slot.writer) c.loop-slot.sink
    (flat_map (holder_row (script_of c.args.desk.now) c.args.node) slots))
    (all_yielded c.loop-slot.yielded _ _ c.loop-slot.invariant.1 c.in-None.ensures.steps.0) c.loop-slot.invariant.0
