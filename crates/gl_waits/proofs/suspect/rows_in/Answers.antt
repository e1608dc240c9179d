use Rattle.gl_waits.proofs.Words.{◌&&◌, ◌+◌, ◌<◌, ◌∙◌, ◌≡◌, ◌≢◌, ⊎_elim, ap, arith, board_edge, Bool, cases_eq, false, length, length-replicate, length-set}
use Rattle.gl_waits.proofs.Words.{most_slots, nat_lt, nat_tests, no_slots, row_edge, set, subst, sym, ℕ}
use Rattle.gl_waits.proofs.BoardLemmas.{bit_edge-read, row_edge-replicate, row_edge-set_other, row_edge-set_same}
use Rattle.gl_waits.proofs.suspect.rows_in.Goals as goal

none-below : (s : ℕ) (b : Bool) → (nat_lt s 0 && b) ≡ false
none-below s b = grind (arith, nat_tests)

this : (i : ℕ) (b : Bool) → b ≡ (nat_lt i (i + 1) && b)
this i b = grind (arith, nat_tests)

others : (s i : ℕ) (a b : Bool) → s ≢ i → a ≡ (nat_lt s i && b) → a ≡ (nat_lt s (i + 1) && b)
others s i a b ne h = grind (arith, nat_tests)

pub loop-slot-init : goal.loop-slot-init
loop-slot-init c = (
  ap length c.empty_rows-rows.ensures ∙ length-replicate most_slots no_slots,
  λ s u. ap (λ rows. row_edge rows s u) c.empty_rows-rows.ensures ∙ row_edge-replicate most_slots s u ∙ sym (none-below s (board_edge c.args.board.now s u)),
)

pub loop-slot-preserved : goal.loop-slot-preserved
loop-slot-preserved c = (
  length-set c.loop-slot.rows c.loop-slot.slot c.from_bits.result ∙ c.loop-slot.invariant.0,
  λ s u. ⊎_elim (λ is. at s u is) (λ ne. row_edge-set_other c.loop-slot.rows c.loop-slot.slot s u c.from_bits.result ne
      ∙ others s c.loop-slot.slot _ _ ne (c.loop-slot.invariant.1 s u)) (cases_eq s c.loop-slot.slot),
)
  where
    inside : c.loop-slot.slot < length c.loop-slot.rows
    inside = let h = c.loop-slot-test.true in let many = c.loop-slot.invariant.0 in omega arith

    at : (s u : ℕ) → s ≡ c.loop-slot.slot
        → row_edge (set c.loop-slot.rows c.loop-slot.slot c.from_bits.result) s u ≡ (nat_lt s (c.loop-slot.slot + 1) && board_edge c.args.board.now s u)
    at s u is = subst (λ x. row_edge (set c.loop-slot.rows c.loop-slot.slot c.from_bits.result) x u ≡ (nat_lt x (c.loop-slot.slot + 1)
        && board_edge c.args.board.now x u)) (sym is)
        (row_edge-set_same c.loop-slot.rows c.loop-slot.slot u c.from_bits.result inside
        ∙ c.from_bits.ensures u
        ∙ bit_edge-read c.args.board.now.rows c.loop-slot.slot u _ (omega arith)
        ∙ this c.loop-slot.slot (board_edge c.args.board.now c.loop-slot.slot u))
