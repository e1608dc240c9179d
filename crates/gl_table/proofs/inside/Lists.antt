-- Empty lists. For new locks.
use Rattle.gl_table.proofs.Words.{◌+◌, ◌++◌, [], ◌∷◌, ◌≡◌, ⊤, arith, by_list, count_of, counted_by, Entry, entry_of, false, held_by, is_listed, is_some, length}
use Rattle.gl_table.proofs.Words.{List, listed_by, LockList, mode_in, mode_of, NL, NodeId, None, Option, refl, Some, suc, zero, ℕ}

-- Empty lists.

-- nothing is listed and nothing is counted
pub record IsBare (l : LockList) : Type 0 where
  pub listed : (n : NodeId) → is_listed l n ≡ false
  pub counts : (n : NodeId) → count_of l n ≡ 0

abbrev pub AreBare : List LockList → Type 0
AreBare [] = ⊤
AreBare (l ∷ ls) = IsBare l × AreBare ls

pub bare-more : (ls : List LockList) (l : LockList) → AreBare ls → IsBare l → AreBare (ls ++ l ∷ [])
bare-more [] l h k = (k, tt)
bare-more (x ∷ ls) l h k = (h.0, bare-more ls l h.1 k)

-- what such lists say by slot
bare_by : {A : Type 0} (f : LockList → A) (none : A) → ((l : LockList) → IsBare l → f l ≡ none) → (ls : List LockList) → AreBare ls → (t : ℕ)
    → by_list f none ls t ≡ none
bare_by f none is [] h t = refl
bare_by f none is (l ∷ ls) h zero = is l h.0
bare_by f none is (l ∷ ls) h (suc t) = bare_by f none is ls h.1 t

no_mode : (e : Option Entry) → is_some e ≡ false → mode_in e ≡ NL
no_mode None h = refl
no_mode (Some e) h = absurd (cc)

pub bare-listed : (ls : List LockList) → AreBare ls → (t : ℕ) (n : NodeId) → listed_by ls t n ≡ false
bare-listed ls h t n = bare_by (λ l. is_listed l n) false (λ l b. b.listed n) ls h t

pub bare-modes : (ls : List LockList) → AreBare ls → (t : ℕ) (n : NodeId) → held_by ls t n ≡ NL
bare-modes ls h t n = bare_by (λ l. mode_of l n) NL (λ l b. no_mode (entry_of l n) (b.listed n)) ls h t

pub bare-counts : (ls : List LockList) → AreBare ls → (t : ℕ) (n : NodeId) → counted_by ls t n ≡ 0
bare-counts ls h t n = bare_by (λ l. count_of l n) 0 (λ l b. b.counts n) ls h t

pub length-more : {A : Type 0} (xs : List A) (x : A) → length (xs ++ x ∷ []) ≡ length xs + 1
length-more [] x = refl
length-more (y ∷ xs) x = let rest = length-more xs x in omega arith
