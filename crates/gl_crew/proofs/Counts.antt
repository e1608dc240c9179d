-- The sum of the shares, and what faults say of it.
use Rattle.std.proofs.Common.{◌≡◌, ap, sym, subst, ℕ, suc, ◌+◌, ◌-◌, ◌*◌, ◌≤◌, List, [], ◌∷◌, ◌++◌, Option, Some, None, Result, Ok, Err, All, IfOk}
use Rattle.std.proofs.Common.{MatchOption, sum, fold, length, arith, refl}
use Rattle.std.proofs.lemmas.List.Elements.{All-cons, All-nil}
use Rattle.gl_model.specs.declared.answers.Detect.{Detect}
use Rattle.gl_model.specs.declared.answers.Detect.TheVariants.{AtBlock, ByWatcher}
use Rattle.gl_crew.specs.Crews.{IsCountOf, IsFaultless, IsSumOf, first_fault, shares_of}
use Rattle.gl_crew.specs.declared.fault.CrewFault.{CrewFault}

more : (a n m k x : ℕ) → m ≡ (a + x) + n * k → x ≡ k → m ≡ a + suc n * k
more a n m k x is one = grind (arith, is, one)

fold_equal : (k a : ℕ) (xs : List ℕ) → All (λ n. n ≡ k) xs → fold ◌+◌ a xs ≡ a + length xs * k
fold_equal k a [] h = omega arith
fold_equal k a (x ∷ xs) h =
    let one : x ≡ k = h 0 x (omega arith) in
    let rest = fold_equal k (a + x) xs (λ i d less. h (suc i) d (omega (arith, less))) in
    more a (length xs) (fold ◌+◌ (a + x) xs) k x rest one

-- equal shares
pub sum_equal : (k : ℕ) (xs : List ℕ) → All (λ n. n ≡ k) xs → sum xs ≡ length xs * k
sum_equal k xs h = let is = fold_equal k 0 xs h in omega (arith, is)

fold_pushed : (k a y : ℕ) (xs : List ℕ) → All (λ n. n ≡ k) xs → fold ◌+◌ a (xs ++ y ∷ []) ≡ (a + y) + length xs * k
fold_pushed k a y [] h = omega arith
fold_pushed k a y (x ∷ xs) h =
    let one : x ≡ k = h 0 x (omega arith) in
    let rest = fold_pushed k (a + x) y xs (λ i d less. h (suc i) d (omega (arith, less))) in
    more (a + y) (length xs) (fold ◌+◌ (a + x) (xs ++ y ∷ [])) k x (grind (arith, rest)) one

-- equal shares, and one that is a watcher's
pub sum_watched : (k n y : ℕ) (xs : List ℕ) → n ≡ length xs + 1 → All (λ n. n ≡ k) xs → (n - 1) * k ≤ sum (xs ++ y ∷ [])
sum_watched k n y xs is h =
    let all = fold_pushed k 0 y xs h in
    let front : n - 1 ≡ length xs = omega (arith, is) in
    let same : (n - 1) * k ≡ length xs * k = ap (λ m. m * k) front in
    omega (arith, all, same)

-- from shares to sessions
pub sessions_count : (d : Detect) (sessions rounds commands count : ℕ) → IsSumOf d (shares_of sessions d) (rounds * commands) count
    → IsCountOf d commands sessions rounds count
sessions_count AtBlock s r k c h = grind (arith, h)
sessions_count ByWatcher s r k c h =
    let front : (s + 1) - 1 ≡ s = omega arith in
    let same : ((s + 1) - 1) * (r * k) ≡ s * (r * k) = ap (λ m. m * (r * k)) front in
    let turned : k * (s * r) ≡ s * (r * k) = grind arith in
    omega (arith, h, same, turned)

pub same_sessions : (d : Detect) (n m : ℕ) → shares_of n d ≡ shares_of m d → n ≡ m
same_sessions AtBlock n m h = h
same_sessions ByWatcher n m h = omega (arith, h)

not_none : (f : CrewFault) → Some f ≡ None → ⊥
not_none f e = cc

-- if there is no first fault there is none
pub faultless : (faults : List (Option CrewFault)) → first_fault faults ≡ None → IsFaultless faults
faultless [] h = All-nil (λ f. f ≡ None)
faultless (None ∷ faults) h = All-cons (λ f. f ≡ None) None faults refl (faultless faults h)
faultless (Some f ∷ faults) h = absurd (not_none f h)

-- an answer is a count only if there is no first fault
pub answer_count : (first : Option CrewFault) (answer : Result ℕ CrewFault) (count : ℕ) (P : ℕ → Type 0)
    → MatchOption first (answer ≡ Ok count) (λ fault. answer ≡ Err fault) → (first ≡ None → P count) → IfOk answer P
answer_count None answer count P is holds = subst (λ a. IfOk a P) (sym is) (holds refl)
answer_count (Some f) answer count P is holds = subst (λ a. IfOk a P) (sym is) tt
