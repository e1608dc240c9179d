use Rattle.gl_table.proofs.Words.{◌<◌, ◌==◌, ◌||◌, ◌∙◌, ◌≡◌, ap, arith, Bool, get_or, header_or_new, length, length-set, most_slots, NL, refl, shown, subst}
use Rattle.gl_table.proofs.Words.{sym, waits_for, ℕ}
use Rattle.gl_slots.proofs.SlotLemmas.{bits_of-same}
use Rattle.gl_table.proofs.inside.Boards.{AreRowsShown, reached-row, rows-shown}
use Rattle.gl_model.proofs.queues.Waiters.{among-next, queue-below}
use Rattle.gl_table.proofs.boards.show_queue.Goals as goal
use Rattle.gl_table.proofs.boards.show_queue.Goals.{in-Some-wanted_on+else-not-contains, in-Some-wanted_on+then-not-contains, in_default-wanted_on}

pub bounds-rows-slot : goal.bounds-rows-slot
bounds-rows-slot c = queue-below c.in-Some.header.now c.queue-slot-items.result.now c.loop-slot.slot-index (0, NL) c.law.ensures.lawful
    c.queue-slot-items.ensures c.loop-slot-test.true

pub insert-requires : goal.insert-requires
insert-requires c = queue-below c.in-Some.header.now c.queue-slot-items.result.now c.loop-slot.slot-index (0, NL) c.law.ensures.lawful
    c.queue-slot-items.ensures c.loop-slot-test.true

pub loop-slot-preserved : goal.loop-slot-preserved
loop-slot-preserved c =
    let h = c.in-Some.header.now in
    let q = c.queue-slot-items.result.now in
    let i = c.loop-slot.slot-index in
    let so = c.loop-slot.invariant in
    let t = (get_or q i (0, NL)).0 in
    let low : t < most_slots = queue-below h q i (0, NL) c.law.ensures.lawful c.queue-slot-items.ensures c.loop-slot-test.true in
    let edge : ℕ → ℕ → Bool = waits_for (shown c.args.headers.now.entries c.args.txn_entries.now 0) in
    let both : (length c.match-wanted_on.rows ≡ length c.args.rows.now)
    × AreRowsShown edge c.args.rows.now c.match-wanted_on.rows = elim c.match-wanted_on.branch [
      | in-Some-wanted_on+then-not-contains w ↦ (
        ap length w.rows-is ∙ length-set c.loop-slot.rows t w.bits.result ∙ so.len,
        subst (AreRowsShown edge c.args.rows.now) (sym w.rows-is) (rows-shown edge t w.bits.result c.args.rows.now c.loop-slot.rows
            (omega (arith, low, so.len, c.told-rows))
            (w.bits.ensures.is ∙ bits_of-same _ _
            (λ u low. reached-row c.args.headers.now.entries c.args.txn_entries.now c.args.node h q t i w.in-Some-wanted_on.wanted c.loop-slot.passed
            w.row_behind.result
            (0, NL) (ap header_or_new (sym c.in-Some.ensures.some)) c.queue-slot-items.ensures w.in-Some-wanted_on.ensures c.loop-slot-test.true refl so.passed
            (sym w.contains.ensures ∙ w.if-not-contains.true) w.row_behind.ensures u)) so.rows),
      )
      | in-Some-wanted_on+else-not-contains w ↦ (ap length w.rows-is ∙ so.len, subst (AreRowsShown edge c.args.rows.now) (sym w.rows-is) so.rows)
      | in_default-wanted_on w ↦ (ap length w.rows-is ∙ so.len, subst (AreRowsShown edge c.args.rows.now) (sym w.rows-is) so.rows)
    ] in
    record {
      len = both.0;
      passed = λ u. c.insert.ensures u ∙ ap (λ b. b || (u == t)) (so.passed u) ∙ sym (among-next q i u (0, NL) c.loop-slot-test.true);
      rows = both.1;
    }
