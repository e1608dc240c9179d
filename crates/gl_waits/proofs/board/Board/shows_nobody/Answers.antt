use Rattle.gl_waits.proofs.Words.{◌∙◌, ◌≡◌, arith, board_edge, Bool, false, has_slot, true, ℕ}
use Rattle.gl_waits.proofs.BoardLemmas.{bit_edge-read}
use Rattle.gl_waits.proofs.board.Board.shows_nobody.Goals as goal

clash : (b : Bool) → b ≡ false → b ≡ true → ⊥
clash b h k = grind arith

pub returns-then-not-is_empty : goal.returns-then-not-is_empty
returns-then-not-is_empty c = (
  λ h. cc h,
  λ none. absurd (clash c.is_empty.result c.if-not-is_empty.true (c.is_empty.ensures.1 (λ u. here u (none c.loop-row.row-index u)))),
)
  where
    here : (u : ℕ) → board_edge c.args.self.now c.loop-row.row-index u ≡ false → has_slot c.from_bits.result u ≡ false
    here u e = c.from_bits.ensures u ∙ bit_edge-read c.args.self.now.rows c.loop-row.row-index u _ (omega arith) ∙ e
