-- Waiters, by the queue and by the wanted mode.
use Rattle.gl_header.proofs.Words.{◌==◌, [], ◌∷◌, ◌≡◌, arith, false, is_among_waiters, List, Mode, None, refl, Some, split, true, Waiter, wanted_by, ℕ}

-- a slot waits exactly if it wants a mode

pub wanted-none : (q : List Waiter) (t : ℕ) → wanted_by q t ≡ None → is_among_waiters t q ≡ false
wanted-none [] t h = refl
wanted-none (w ∷ q) t h = grind (arith, wanted-none q t)

pub wanted-some : (q : List Waiter) (t : ℕ) (m : Mode) → wanted_by q t ≡ Some m → is_among_waiters t q ≡ true
wanted-some [] t m h = cc
wanted-some (w ∷ q) t m h = grind (arith, wanted-some q t m)
