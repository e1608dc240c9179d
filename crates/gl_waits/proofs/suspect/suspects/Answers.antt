use Rattle.gl_waits.proofs.Words.{◌∙◌, board_edge, sym}
use Rattle.gl_waits.proofs.WalkLemmas.{no_step-no_cycle, on_cycle-reaches, reaches-on_cycle, reaches_more}
use Rattle.gl_waits.proofs.suspect.suspects.Goals as goal

pub returns-then-shows_nobody : goal.returns-then-shows_nobody
returns-then-shows_nobody c = λ s. (
  (λ h. cc (c.empty.ensures.none s, c.bits.ensures.shows s)),
  (λ on. absurd (no_step-no_cycle (board_edge c.args.board.now) s (λ u. c.shows_nobody.ensures.0 c.if-shows_nobody.true s u) on.0 on.1)),
)

pub returns-else-shows_nobody : goal.returns-else-shows_nobody
returns-else-shows_nobody c = λ s. (
  (λ h. reaches-on_cycle (board_edge c.args.board.now) s
      (reaches_more _ _ (λ x y e. sym (c.rows_in.ensures x y) ∙ e) s s
      ((c.reaches_of_all.ensures s s).0 (sym (c.diagonal.ensures s) ∙ sym (c.bits-else-shows_nobody.ensures.shows s) ∙ h)))),
  (λ on. c.bits-else-shows_nobody.ensures.shows s ∙ c.diagonal.ensures s
      ∙ (c.reaches_of_all.ensures s s).1 (reaches_more _ _ (λ x y e. c.rows_in.ensures x y ∙ e) s s (on_cycle-reaches (board_edge c.args.board.now) s on))),
)
