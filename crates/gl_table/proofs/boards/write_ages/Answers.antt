use Rattle.gl_table.proofs.Words.{◌<◌, ◌∙◌, age_in, ap, arith, length, length-set, Option, refl, Some, sym, txn_in, TxnEntry}
use Rattle.gl_table.proofs.inside.Boards.{age_at, ages-begin, ages-passed, ages-read, ages-written}
use Rattle.gl_table.proofs.boards.write_ages.Goals as goal

pub loop-slot-init : goal.loop-slot-init
loop-slot-init c = (refl, ages-begin c.args.txn_entries.now.items c.living-left.result c.args.ages.now c.living-left.ensures c.requires.none)

pub loop-slot-preserved-in-Some-get : goal.loop-slot-preserved-in-Some-get
loop-slot-preserved-in-Some-get c =
    let size = c.loop-slot.invariant.0 in
    let within = c.in-Some.ensures.some.within in
    let low : c.in-Some.slot < length c.loop-slot.ages = omega (arith, size, within, c.told-ages) in (
      length-set c.loop-slot.ages c.in-Some.slot c.in-Some-get.field-0.age ∙ size,
      ages-written (age_at c.args.txn_entries.now.items) c.loop-slot.left c.take_lowest.new.self c.in-Some.slot c.in-Some-get.field-0.age c.loop-slot.ages low
          (ap (λ (o : Option TxnEntry). age_in (txn_in (Some o))) (sym c.in-Some-get.is)
          ∙ ap age_in c.get.ensures) c.in-Some.ensures.left c.loop-slot.invariant.1,
    )

pub loop-slot-preserved : goal.loop-slot-preserved
loop-slot-preserved c = (
  c.loop-slot.invariant.0,
  ages-passed (age_at c.args.txn_entries.now.items) c.loop-slot.left c.take_lowest.new.self c.in-Some.slot c.loop-slot.ages
      (sym (ap age_in c.get.ensures) ∙ ap (λ (o : Option TxnEntry). age_in (txn_in (Some o))) c.in_default-get.is) c.in-Some.ensures.left
      c.loop-slot.invariant.1,
)

pub returns-clause-ages : goal.returns-clause-ages
returns-clause-ages c = ages-read (age_at c.args.txn_entries.now.items) c.loop-slot.left c.loop-slot.ages c.in_default.ensures.none c.loop-slot.invariant.1
