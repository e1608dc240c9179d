use Rattle.gl_header.proofs.Words.{◌&&◌, ◌==◌, ◌||◌, ◌∙◌, ◌≡◌, ap, ap₂, are_compatible, arith, Bool, has_slot, HeaderState, is_ahead, members_of, nat_tests}
use Rattle.gl_header.proofs.Words.{not, subst, ℕ}
use Rattle.gl_header.proofs.header.Header.waits_for.Goals as goal

turned : (b : Bool) (u s : ℕ) → (b && not (u == s)) ≡ (not (s == u) && b)
turned b u s = grind (arith, nat_tests)

pub returns : goal.returns
returns c u =
    subst
    (λ (x : HeaderState).
    has_slot c.without.result u
    ≡ (not (c.args.slot == u) && (not (are_compatible c.args.wanted (members_of x u)) || is_ahead x.queue c.args.slot u)))
    c.self.view_is
    (c.without.ensures.left u
    ∙ ap (λ b. b && not (u == c.args.slot))
    (c.union.ensures u
    ∙ ap₂ (λ a b. a || b) (c.opposed-opposed.ensures u) (c.ahead_of.ensures u ∙ ap (λ q. is_ahead q c.args.slot u) c.deref.ensures))
    ∙ turned _ u c.args.slot)
