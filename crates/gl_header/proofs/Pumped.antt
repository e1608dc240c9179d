-- Granting from the front, one waiter after the other.
use Rattle.gl_header.proofs.Words.{[], ◌∷◌, ◌≡◌, ◌≤◌, after_grants, ap, arith, Bool, drop, false, fits, front, if◌then◌else◌, is_stuck, IsLawful, IsOrderly}
use Rattle.gl_header.proofs.Words.{length, List, Members, not, pumped_members, pumped_queue, refl, slot_limit, split, true, Waiter, with_mode}
use Rattle.gl_header.proofs.Orderly.{orderly-front}

-- members and queue after a front was granted are lawful
pub lawful-pumped : (g : Members) (q : List Waiter) → IsOrderly g q → IsLawful (pumped_members slot_limit g q) (pumped_queue slot_limit g q)
lawful-pumped g [] o = record { orderly = o; stuck = refl }
lawful-pumped g (w ∷ ws) o =
    elim (fits slot_limit g w.0 w.1) as
    (λ b. fits slot_limit g w.0 w.1 ≡ b
    → IsLawful (after_grants g (if b then w ∷ front slot_limit (with_mode g w.0 w.1) ws else []))
    (drop (length (if b then w ∷ front slot_limit (with_mode g w.0 w.1) ws else [])) (w ∷ ws))) [
      | true ↦ λ f. lawful-pumped (with_mode g w.0 w.1) ws (orderly-front g w ws o f)
      | false ↦ λ f. record { orderly = o; stuck = ap not f }
    ] refl

-- the front waiter is granted
pub front-granted : (g : Members) (w : Waiter) (ws : List Waiter) → fits slot_limit g w.0 w.1 ≡ true → front slot_limit g (w ∷ ws) ≡ w
    ∷ front slot_limit (with_mode g w.0 w.1) ws
front-granted g w ws f = ap (λ b. if b then w ∷ front slot_limit (with_mode g w.0 w.1) ws else []) f

-- nobody is granted if the first waiter does not fit
pub front-refused : (g : Members) (w : Waiter) (ws : List Waiter) → fits slot_limit g w.0 w.1 ≡ false → front slot_limit g (w ∷ ws) ≡ []
front-refused g w ws f = ap (λ b. if b then w ∷ front slot_limit (with_mode g w.0 w.1) ws else []) f

pub stuck-front : (g : Members) (q : List Waiter) → is_stuck g q ≡ true → front slot_limit g q ≡ []
stuck-front g [] k = refl
stuck-front g (w ∷ q) k = front-refused g w q (grind arith)

pub front-stuck : (g : Members) (q : List Waiter) → front slot_limit g q ≡ [] → is_stuck g q ≡ true
front-stuck g [] k = refl
front-stuck g (w ∷ q) k =
    split (fits slot_limit g w.0 w.1)
    (λ e. absurd (taken (w ∷ front slot_limit (with_mode g w.0 w.1) q) (fits slot_limit g w.0 w.1) e k))
    (λ e. ap not e)
  where
    taken : (ws : List Waiter) (b : Bool) → b ≡ true → (if b then w ∷ front slot_limit (with_mode g w.0 w.1) q else []) ≡ [] → ⊥
    taken ws true h e = cc
    taken ws false h e = cc

-- the grants in the end, with the front waiter granted first
pub pumped-step : (g : Members) (w : Waiter) (ws : List Waiter) → fits slot_limit g w.0 w.1 ≡ true
    → pumped_members slot_limit g (w ∷ ws) ≡ pumped_members slot_limit (with_mode g w.0 w.1) ws
pumped-step g w ws f = ap (after_grants g) (front-granted g w ws f)
