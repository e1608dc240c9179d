-- The exchange that adds a snapshot keeps the rule.
use Rattle.gl_window.proofs.Words.{◌+◌, ◌++◌, ◌<◌, ◌==◌, [], ◌∷◌, ◌≡◌, ap, arith, Board, Bool, false, inl, IsPrefix, length, length-append, List, nat_tests}
use Rattle.gl_window.proofs.Words.{None, refl, subst, sym, true, ℕ}
use Rattle.std.proofs.Common.{◌-◌}
use Rattle.std.proofs.lemmas.List.{append-nil}
use prog.Atomic.{either}
use Rattle.logbook.specs.Pages.{Cell, cell, Goes, keeps, Moves, no_nib, step}
use Rattle.gl_window.specs.Rules.{Adds, IsKept}
use Rattle.gl_window.proofs.Fronts.{prefix_whole}

abbrev pub shown : List Board → List Board
shown log = []

abbrev pub moved : List Board → List Board → ℕ → Type 0
moved xs ys n = Unit {0}

pub adds_goes : (log v : List Board) (e : Board) (old : ℕ) → old + 1 ≡ length v → 0 < length log → IsPrefix v log
    → (b : Bool) → ((length log - 1) == old) ≡ b
    → Goes IsKept shown moved 0 (v, (no_nib, None)) (λ n. either (n == old) (old + 1) n) (Adds (step 0 old (old + 1) e) (v, (no_nib, None)))
    ((length log - 1, true) ∷ []) log
adds_goes log v e old len some pre true is =
    let here : length log - 1 ≡ old = grind (arith, nat_tests) in
    let same : v ≡ log = prefix_whole v log pre (omega arith) in
    let more : length (log ++ e ∷ []) ≡ length log + 1 = length-append log (e ∷ []) in
    let n : either ((length log - 1) == old) (old + 1) (length log - 1) ≡ length (log ++ e ∷ []) - 1 = rw is (omega (arith, more)) in (
      keeps,
      e ∷ [],
      None,
      tt,
      record { words = ap (λ (k : ℕ). (k, true) ∷ []) n; some = omega (arith, more) },
      inl (refl, refl),
      rw is (ap (λ w. w ++ e ∷ []) (sym same)),
    )
adds_goes log v e old len some pre false is =
    let all : log ++ [] ≡ log = append-nil log in
    let n : either ((length log - 1) == old) (old + 1) (length log - 1) ≡ length (log ++ []) - 1 = rw is (ap (λ (l : List Board). length l - 1) (sym all)) in (
      keeps,
      [],
      None,
      tt,
      record { words = ap (λ (k : ℕ). (k, true) ∷ []) n; some = subst (λ (l : List Board). 0 < length l) (sym all) some },
      inl (refl, refl),
      rw is tt,
    )

-- whatever the book is, the exchange adds the snapshot to all that was seen, or finds that there are others
pub adds_moves : (v : List Board) (e : Board) (old : ℕ) → old + 1 ≡ length v
    → Moves IsKept shown moved 0 (v, (no_nib, None)) (λ n. either (n == old) (old + 1) n) (Adds (step 0 old (old + 1) e) (v, (no_nib, None)))
adds_moves v e old len cs log kept pre away =
    let P : List Cell → Type 0 = λ c. (0 < length c) × ((cell c 0).1 ≡ true) × Goes IsKept shown moved 0 (v, (no_nib, None))
    (λ n. either (n == old) (old + 1) n) (Adds (step 0 old (old + 1) e) (v, (no_nib, None))) c log in
    subst P (sym kept.words) (omega arith, refl, adds_goes log v e old len kept.some pre ((length log - 1) == old) refl)
