-- The first refusal of one test, and of two lists of tests, one after the other.
use Rattle.gl_graph.proofs.Words.{[], first_refusal, List, None, Option, refl, Refusal, Some, ◌++◌, ◌∷◌, ◌≡◌}

-- if the first list passes, the second decides
pub passed_then : (xs ys : List (Option Refusal)) → first_refusal xs ≡ None → first_refusal (xs ++ ys) ≡ first_refusal ys
passed_then [] ys h = refl
passed_then (None ∷ xs) ys h = passed_then xs ys h
passed_then (Some r ∷ xs) ys h = absurd (cc)

-- what the first list refuses is refused
pub refused_first : (xs ys : List (Option Refusal)) (r : Refusal) → first_refusal xs ≡ Some r → first_refusal (xs ++ ys) ≡ Some r
refused_first [] ys r h = absurd (cc)
refused_first (None ∷ xs) ys r h = refused_first xs ys r h
refused_first (Some x ∷ xs) ys r h = h

-- if all pass, the first list does
pub passes_first : (xs ys : List (Option Refusal)) → first_refusal (xs ++ ys) ≡ None → first_refusal xs ≡ None
passes_first [] ys h = refl
passes_first (None ∷ xs) ys h = passes_first xs ys h
passes_first (Some r ∷ xs) ys h = absurd (cc)

-- one test alone
pub alone : (o : Option Refusal) → first_refusal (o ∷ []) ≡ o
alone None = refl
alone (Some r) = refl
