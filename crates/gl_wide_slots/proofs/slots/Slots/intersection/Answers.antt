use Rattle.std.proofs.Common.{◌≡◌, ℕ, Bool, true, ◌&&◌, ◌∙◌, sym, arith}
use Rattle.gl_wide_slots.specs.Words.{in_words}
use Rattle.gl_wide_slots.proofs.WordLemmas.{in_words-and}
use Rattle.gl_wide_slots.proofs.SlotLemmas.{no_more}
use Rattle.gl_wide_slots.proofs.slots.Slots.intersection.Goals as goal

pub returns-clause-both : goal.returns-clause-both
returns-clause-both c = in_words-and c.args.self.words c.args.other.words c.keep.new.words c.keep.ensures

pub returns-clause-no_more : goal.returns-clause-no_more
returns-clause-no_more c =
    no_more c.args.self (record { words = c.keep.new.words }) (λ u has. left _ (in_words c.args.other.words u) (sym (both u) ∙ has))
  where
    both : (u : ℕ) → in_words c.keep.new.words u ≡ (in_words c.args.self.words u && in_words c.args.other.words u)
    both = in_words-and c.args.self.words c.args.other.words c.keep.new.words c.keep.ensures

    left : (a b : Bool) → (a && b) ≡ true → a ≡ true
    left a b e = grind arith
