-- The members and the queue after granting from the front.
use Rattle.gl_header.proofs.Words.{◌++◌, ◌<◌, [], ◌∷◌, ◌≡◌, ◌≤◌, after_grants, ap, ap₂, AreBelow, arith, Bool, drop, false, fits, front, if◌then◌else◌}
use Rattle.gl_header.proofs.Words.{is_among_waiters, IsCompatible, IsWithin, length, List, Members, most_slots, nat_tests, pumped_members, pumped_queue, refl}
use Rattle.gl_header.proofs.Words.{slot_limit, split, true, Waiter, with_mode, ℕ}
use Rattle.gl_header.proofs.Fits.{compatible-with_mode, fits-all, fits-limits, slot_limit-is, within-limit, within-with_mode}

-- the first waiter, and the others, are below the limit

pub below-first : (most : ℕ) (w : Waiter) (q : List Waiter) → AreBelow most (w ∷ q) → w.0 < most
below-first most w q b = b w.0 (grind (arith, nat_tests))

pub below-rest : (most : ℕ) (w : Waiter) (q : List Waiter) → AreBelow most (w ∷ q) → AreBelow most q
below-rest most w q b t h = b t (grind arith)

-- the queue is its front and the rest, in the same order
pub front-and_rest : (most : ℕ) (g : Members) (q : List Waiter) → front most g q ++ pumped_queue most g q ≡ q
front-and_rest most g [] = refl
front-and_rest most g (w ∷ q) = by (fits most g w.0 w.1) (front-and_rest most (with_mode g w.0 w.1) q)
  where
    by : (b : Bool) → front most (with_mode g w.0 w.1) q ++ drop (length (front most (with_mode g w.0 w.1) q)) q ≡ q
        → (if b then w ∷ front most (with_mode g w.0 w.1) q else []) ++ drop (length (if b then w ∷ front most (with_mode g w.0 w.1) q else [])) (w ∷ q) ≡ w ∷ q
    by true e = ap (λ r. w ∷ r) e
    by false e = refl

-- after the front is granted, the first remaining waiter does not fit
pub front-after_front : (most : ℕ) (g : Members) (q : List Waiter) → front most (pumped_members most g q) (pumped_queue most g q) ≡ []
front-after_front most g [] = refl
front-after_front most g (w ∷ q) = by (fits most g w.0 w.1) refl (front-after_front most (with_mode g w.0 w.1) q)
  where
    by : (b : Bool) → fits most g w.0 w.1 ≡ b
        → front most (after_grants (with_mode g w.0 w.1) (front most (with_mode g w.0 w.1) q)) (drop (length (front most (with_mode g w.0 w.1) q)) q) ≡ []
        → front most (after_grants g (if b then w ∷ front most (with_mode g w.0 w.1) q else []))
        (drop (length (if b then w ∷ front most (with_mode g w.0 w.1) q else [])) (w ∷ q)) ≡ []
    by true e h = h
    by false e h = ap (λ b. if b then w ∷ front most (with_mode g w.0 w.1) q else []) e

-- the grants stay compatible
pub pumped-compatible : (most : ℕ) (g : Members) (q : List Waiter) → AreBelow most q → IsWithin most g → IsCompatible g → IsCompatible (pumped_members most g q)
pumped-compatible most g [] b w all = all
pumped-compatible most g (v ∷ q) b w all =
    by (fits most g v.0 v.1) refl (λ e. pumped-compatible most (with_mode g v.0 v.1) q (below-rest most v q b)
    (within-with_mode most g v.0 v.1 (below-first most v q b) w) (compatible-with_mode g v.0 v.1 all (fits-all most g v.0 v.1 w e)))
  where
    by : (b : Bool) → fits most g v.0 v.1 ≡ b
        → (fits most g v.0 v.1 ≡ true → IsCompatible (after_grants (with_mode g v.0 v.1) (front most (with_mode g v.0 v.1) q)))
        → IsCompatible (after_grants g (if b then v ∷ front most (with_mode g v.0 v.1) q else []))
    by true e rest = rest e
    by false e rest = all

-- a granted slot waited
pub front-waited : (most : ℕ) (g : Members) (q : List Waiter) (t : ℕ) → is_among_waiters t (front most g q) ≡ true → is_among_waiters t q ≡ true
front-waited most g [] t h = h
front-waited most g (w ∷ q) t h =
    split (fits most g w.0 w.1)
    (λ e. let f = front-waited most (with_mode g w.0 w.1) q t in grind arith)
    (λ e. grind arith)

-- two limits above all members and waiters give the same front
pub front-limits : (a b : ℕ) (g : Members) (q : List Waiter) → IsWithin a g → IsWithin b g → AreBelow a q → AreBelow b q → front a g q ≡ front b g q
front-limits a b g [] w v x y = refl
front-limits a b g (e ∷ q) w v x y =
    ap₂ (λ t ws. if t then e ∷ ws else []) (fits-limits a b g e.0 e.1 w v)
    (front-limits a b (with_mode g e.0 e.1) q
    (within-with_mode a g e.0 e.1 (below-first a e q x) w)
    (within-with_mode b g e.0 e.1 (below-first b e q y) v)
    (below-rest a e q x)
    (below-rest b e q y))

pub below-limit : (most : ℕ) (q : List Waiter) → most ≤ most_slots → AreBelow most q → AreBelow slot_limit q
below-limit most q le b t h = let lt = b t h in rw slot_limit-is (omega arith)

pub front-limit : (most : ℕ) (g : Members) (q : List Waiter) → most ≤ most_slots → IsWithin most g → AreBelow most q → front most g q ≡ front slot_limit g q
front-limit most g q le w b =
    front-limits most slot_limit g q w (within-limit most g le w) b (below-limit most q le b)
