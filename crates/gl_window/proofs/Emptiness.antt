-- What calls that test for emptiness answer: by their contracts alone, whatever a set is made of.
use Rattle.gl_window.proofs.Words.{◌==◌, [], ◌∷◌, ◌≡◌, arith, Bool, false, has_none, is_empty, length, List, refl, Slots, sym, true}
use Rattle.std.specs.Prelude.{◌↔◌, IsTrue}
use Rattle.gl_slots.proofs.SlotLemmas.{none-test, test-none}
use Rattle.gl_slots.specs.Slots.{HasNoSlot}

-- the test whether a set has no slot
pub tests_none : (set : Slots) (b : Bool) → IsTrue b ↔ HasNoSlot set → b ≡ has_none set
tests_none set true is = sym (none-test set (is.0 refl))
tests_none set false is = by (has_none set) refl
  where
    by : (d : Bool) → has_none set ≡ d → false ≡ d
    by true e = is.1 (test-none set e)
    by false e = refl

-- the test whether a list has no item
pub tests_empty : {A : Type 0} (xs : List A) → (length xs == 0) ≡ is_empty xs
tests_empty [] = refl
tests_empty (x ∷ xs) = grind arith
