use Rattle.gl_table.proofs.Words.{◌&&◌, ◌==◌, ◌∙◌, ◌≡◌, ⊎_elim, ap, arith, Bits, bits_of, blocks, Entries, false, get_or-set_same, has_bit, has_slot, inl, List}
use Rattle.gl_table.proofs.Words.{Mode, no_bits, NodeId, not, Option, refl, shown, Slots, Some, status_in, subst, sym, TxnEntry, txns_of, Waiting, waits_for, ℕ}
use Rattle.gl_slots.proofs.SlotLemmas.{bits_of-same, no_bits-none}
use Rattle.gl_table.proofs.inside.Boards.{AreRowsShown, rows-idle, rows-shown}
use Rattle.gl_table.proofs.boards.show_waiter.Goals as goal

pub returns-in_default : goal.returns-in_default
returns-in_default c = record {
  len = refl;
  own = rows-idle (shown c.args.headers.now.entries c.args.txn_entries.now.items 0) c.args.slot c.args.rows.now c.in_default.ensures c.requires.none;
  rows = λ t. inl refl;
}

-- the row of a slot that waits, as it is shown
own-row : (hs : Entries) (txn_entries : List (Option TxnEntry)) (t : ℕ) (n : NodeId) (w : Mode) (row : Slots) (shows : Bits)
    → status_in (txns_of txn_entries t) ≡ Some (Waiting n w)
    → ((u : ℕ) → has_slot row u ≡ (not (t == u) && blocks (shown hs txn_entries 0) t u (Some (Waiting n w)))) → shows ≡ bits_of (has_slot row)
    → shows ≡ bits_of (waits_for (shown hs txn_entries 0) t)
own-row hs txn_entries t n w row shows st is so = so
    ∙ bits_of-same _ _ (λ u low. is u ∙ sym (ap (λ o. not (t == u) && blocks (shown hs txn_entries 0) t u o) st))

pub returns-then-is_unwritten-clause-rows : goal.returns-then-is_unwritten-clause-rows
returns-then-is_unwritten-clause-rows c =
    rows-shown (waits_for (shown c.args.headers.now.entries c.args.txn_entries.now.items 0)) c.args.slot c.bits.result c.args.rows.now c.show_queue.new.rows
    (omega (arith, c.requires.below, c.show_queue.ensures.len, c.told-rows))
    (own-row c.args.headers.now.entries c.args.txn_entries.now.items c.args.slot _ _ c.row.result c.bits.result c.in-Some.ensures c.row.ensures
    c.bits.ensures.is)
    (subst (λ (xs : List (Option TxnEntry)). AreRowsShown
    (waits_for (shown c.args.headers.now.entries xs 0)) c.args.rows.now c.show_queue.new.rows) c.as_slice.ensures c.show_queue.ensures.rows)

pub returns-then-is_unwritten-clause-own : goal.returns-then-is_unwritten-clause-own
returns-then-is_unwritten-clause-own c =
    get_or-set_same c.show_queue.new.rows c.args.slot c.bits.result no_bits (omega (arith, c.requires.below, c.show_queue.ensures.len, c.told-rows))
    ∙ own-row c.args.headers.now.entries c.args.txn_entries.now.items c.args.slot _ _ c.row.result c.bits.result c.in-Some.ensures c.row.ensures
    c.bits.ensures.is

-- a row that is not empty by now was written, and is right
pub returns-else-is_unwritten-clause-own : goal.returns-else-is_unwritten-clause-own
returns-else-is_unwritten-clause-own c = ⊎_elim
    (λ same. absurd (cc (
      c.is_unwritten.ensures.1 (λ u. subst (λ (b : Bits). has_bit b u ≡ false) (sym (same ∙ c.requires.none)) (no_bits-none u)),
      c.if-is_unwritten.false,
    )))
    (λ right. right)
    (shown-rows c.args.slot)
  where
    shown-rows : AreRowsShown (waits_for (shown c.args.headers.now.entries c.args.txn_entries.now.items 0)) c.args.rows.now c.show_queue.new.rows
    shown-rows = subst (λ (xs : List (Option TxnEntry)). AreRowsShown (waits_for (shown c.args.headers.now.entries xs 0)) c.args.rows.now c.show_queue.new.rows)
        c.as_slice.ensures c.show_queue.ensures.rows
