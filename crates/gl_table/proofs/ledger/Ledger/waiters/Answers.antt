use Rattle.gl_table.proofs.Words.{◌∙◌, ap, is_among_waiters, NL, queue_of, arith, filter, take_all, true}
use Rattle.gl_model.proofs.law.Strays.{among_at, filter_all}
use Rattle.gl_table.proofs.inside.Splits.{all_kept}
use Rattle.gl_table.proofs.ledger.Ledger.waiters.Goals as goal

pub insert-requires : goal.insert-requires
insert-requires c = c.requires.below _
    (among_at _ (queue_of c.args.self.now.headers.entries c.args.node) c.loop-slot.slot-index (0, NL) c.queue-slot-items.ensures c.loop-slot-test.true)

pub returns : goal.returns
returns c = λ u.
    let q = c.queue-slot-items.result.now in
    c.loop-slot.invariant u
    ∙ ap (λ ws. is_among_waiters u (filter (λ w. true) ws)) (take_all c.loop-slot.slot-index q (let end = c.loop-slot-test.false in omega arith))
    ∙ ap (is_among_waiters u) (filter_all (λ w. true) q (all_kept q)) ∙ ap (is_among_waiters u) c.queue-slot-items.ensures
