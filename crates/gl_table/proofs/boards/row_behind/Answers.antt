use Rattle.gl_table.proofs.Words.{◌&&◌, ◌==◌, ◌||◌, ◌∙◌, ◌≡◌, ap, arith, Bool, has_slot, nat_tests, not, ℕ}
use Rattle.gl_table.proofs.boards.row_behind.Goals as goal

turned : (b : Bool) (u s : ℕ) → (b && not (u == s)) ≡ (not (s == u) && b)
turned b u s = grind (arith, nat_tests)

pub returns : goal.returns
returns c u =
    c.without.ensures.left u
    ∙ ap (λ b. b && not (u == c.args.slot)) (c.union.ensures u ∙ ap (λ b. b || has_slot c.args.ahead u) (c.opposed.ensures u))
    ∙ turned _ u c.args.slot
