-- What holds of each of a list, and of a list in which one is replaced.
use Rattle.std.specs.Prelude.{List, [], ◌∷◌, ◌++◌}
use Rattle.gl_parts.specs.Whole.{Each}

pub each_map : {A : Type 0} {P Q : A → Type 0} → ((x : A) → P x → Q x) → (xs : List A) → Each P xs → Each Q xs
each_map f [] h = h
each_map f (x ∷ xs) h = (f x h.0, each_map f xs h.1)

pub each_all : {A : Type 0} (P : A → Type 0) → ((x : A) → P x) → (xs : List A) → Each P xs
each_all P f [] = tt
each_all P f (x ∷ xs) = (f x, each_all P f xs)

pub each_both : {A : Type 0} (P Q : A → Type 0) (xs : List A) → Each P xs → Each Q xs → Each (λ x. P x × Q x) xs
each_both P Q [] h k = tt
each_both P Q (x ∷ xs) h k = ((h.0, k.0), each_both P Q xs h.1 k.1)

-- another in the place of one
pub each_with : {A : Type 0} (P : A → Type 0) (before after : List A) (x x' : A) → (P x → P x') → Each P (before ++ x ∷ after) → Each P (before ++ x' ∷ after)
each_with P [] after x x' f h = (f h.0, h.1)
each_with P (b ∷ before) after x x' f h = (h.0, each_with P before after x x' f h.1)

-- one of them
pub each_at : {A : Type 0} (P : A → Type 0) (before after : List A) (x : A) → Each P (before ++ x ∷ after) → P x
each_at P [] after x h = h.0
each_at P (b ∷ before) after x h = each_at P before after x h.1
