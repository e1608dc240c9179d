-- The law of a header, from what holds of its fields.
use Rattle.gl_header.proofs.Words.{◌&&◌, ◌==◌, [], ◌||◌, ◌∙◌, ◌∷◌, ◌≡◌, ◌≢◌, all_new, all_rise, and_both, ap, AreBelow, arith, false, filter, Group, group_of}
use Rattle.gl_header.proofs.Words.{Grouped, HeaderState, held_by, holds, HoldsTwoModes, is_ahead, is_among_waiters, is_at_least, is_distinct, is_entry}
use Rattle.gl_header.proofs.Words.{is_ordered, is_waiter, IsGroup, IsLawful, IsLawfulHeader, IsWithin, List, list_all, Members, members_of, Mode, most_slots}
use Rattle.gl_header.proofs.Words.{nat_tests, NL, not, refl, same_mode, slot_limit, Some, split, sym, true, Waiter, wanted_by, ℕ}
use Rattle.std.specs.List.{before_first}
use Rattle.gl_header.specs.Groups.{Grants, is_listed, members_in, mode_of_all}
use Rattle.gl_header.proofs.Fits.{slot_limit-is}
use Rattle.gl_header.proofs.Groups.{group_mode-is, listed, two-modes}
use Rattle.gl_header.proofs.Pumped.{stuck-front}

waiters-below : (q : List Waiter) → list_all is_entry q ≡ true → AreBelow most_slots q
waiters-below [] v t h = cc
waiters-below (w ∷ q) v t h =
    split (w.0 == t)
    (λ e. grind (arith, nat_tests))
    (λ e. waiters-below q (and_both (is_entry w) _ v).1 t (grind arith))

none-filtered : (q : List Waiter) (t : ℕ) → is_among_waiters t q ≡ false → filter (is_waiter t) q ≡ []
none-filtered [] t h = refl
none-filtered (w ∷ q) t h = grind (arith, none-filtered q t)

one-wait : (q : List Waiter) (t : ℕ) (m : Mode) → is_distinct q ≡ true → wanted_by q t ≡ Some m → filter (is_waiter t) q ≡ (t, m) ∷ []
one-wait [] t m d h = cc
one-wait (w ∷ q) t m d h =
    split (w.0 == t)
    (λ e.
    let none : is_among_waiters t q ≡ false = grind (arith, nat_tests) in
    let r : filter (is_waiter t) q ≡ [] = none-filtered q t none in
    let k : w.0 ≡ t = grind (arith, nat_tests) in
    let l : w.1 ≡ m = grind arith in
    let p : w ≡ (t, m) = λ i. (k i, l i) in
    grind arith)
    (λ e.
    let r : wanted_by q t ≡ Some m → filter (is_waiter t) q ≡ (t, m) ∷ [] = one-wait q t m (and_both (not (is_among_waiters w.0 q)) _ d).1 in
    grind arith)

not-NL : (m : Mode) → same_mode m NL ≡ false → m ≢ NL
not-NL m h e = cc

wanted-rises : (g : Members) (q : List Waiter) (t : ℕ) (m : Mode) → list_all is_entry q ≡ true → all_rise g q ≡ true → wanted_by q t ≡ Some m
    → (same_mode m NL ≡ false) × (is_at_least m (g t) ≡ true)
wanted-rises g [] t m v r h = cc
wanted-rises g (w ∷ q) t m v r h =
    split (w.0 == t)
    (λ e.
    let k : w.0 ≡ t = grind (arith, nat_tests) in
    let l : w.1 ≡ m = grind arith in
    (grind (arith, nat_tests), grind arith))
    (λ e. wanted-rises g q t m (and_both (is_entry w) _ v).1 (and_both _ _ r).1 (grind arith))

new-not_held : (g : Members) (q : List Waiter) (t : ℕ) → all_new g q ≡ true → is_among_waiters t q ≡ true → holds g t ≡ false
new-not_held g [] t n h = cc
new-not_held g (w ∷ q) t n h = grind (arith, nat_tests, new-not_held g q t)

-- the waiters ahead of t in a queue that begins with w
record IsAheadIn (w : Waiter) (q : List Waiter) (t u : ℕ) : Type 0 where
  other : (w.0 == t) ≡ false
  waits : is_among_waiters t q ≡ true
  ahead : ((w.0 == u) || is_ahead q t u) ≡ true

ahead-step : (w : Waiter) (q : List Waiter) (t u : ℕ) → is_ahead (w ∷ q) t u ≡ true → IsAheadIn w q t u
ahead-step w q t u h =
    split (w.0 == t)
    (λ e. let none : is_ahead (w ∷ q) t u ≡ false = grind (arith, nat_tests) in cc)
    (λ e.
    let step : is_ahead (w ∷ q) t u ≡ (is_among_waiters t q && ((w.0 == u) || is_among_waiters u (before_first (is_waiter t) q))) = grind (arith, nat_tests) in
    let p = and_both (is_among_waiters t q) ((w.0 == u) || is_among_waiters u (before_first (is_waiter t) q)) (sym step ∙ h) in
    record {
      other = e;
      waits = p.0;
      ahead = ap (λ b. (w.0 == u) || (b && is_among_waiters u (before_first (is_waiter t) q))) p.0 ∙ p.1;
    })

holders-first : (g : Members) (q : List Waiter) (t u : ℕ) → is_ordered g q ≡ true → holds g t ≡ true → is_ahead q t u ≡ true → holds g u ≡ true
holders-first g [] t u o h a = cc
holders-first g (w ∷ q) t u o h a =
    let s = ahead-step w q t u a in
    split (holds g w.0)
    (λ e. split (w.0 == u)
    (λ k. grind (arith, nat_tests))
    (λ k. let b = s.ahead in holders-first g q t u (grind arith) h (grind arith)))
    (λ e. let n : holds g t ≡ false = new-not_held g q t (grind arith) s.waits in cc)

limit-within : (g : Members) → IsWithin slot_limit g → IsWithin most_slots g
limit-within g w u le = w u (rw slot_limit-is le)

-- what holds of all grants
pub record AreGrants (g : Grants) : Type 0 where
  pub two_modes : HoldsTwoModes (members_in g)
  pub listed : (t : ℕ) → is_listed g t ≡ holds (members_in g) t
  pub group_is : mode_of_all g ≡ group_of slot_limit (members_in g)

pub lawful-of : (h : HeaderState) → AreGrants h.granted → IsLawful (members_of h) h.queue → IsLawfulHeader h
lawful-of h k l =
    let o = l.orderly in
    record {
      compatible = o.compatible;
      two_modes = k.two_modes;
      listed = k.listed;
      members_below = limit-within (members_of h) o.within;
      waiters_below = waiters-below h.queue o.valid;
      one_wait = λ t m e. one-wait h.queue t m o.distinct e;
      wanted_rises = λ t m e. let r = wanted-rises (members_of h) h.queue t m o.valid o.rise e in (not-NL m r.0, r.1);
      holders_first = λ t u e a. holders-first (members_of h) h.queue t u o.ordered e a;
      front_waits = stuck-front (members_of h) h.queue l.stuck;
      group_is = k.group_is;
    }

-- a group, and a queue
pub lawful : (g : Group) (q : List Waiter) → IsGroup g → IsLawful (held_by g) q → IsLawfulHeader (record { granted = Grouped g; queue = q })
lawful g q k l = lawful-of _ (record { two_modes = two-modes g; listed = listed g k; group_is = group_mode-is g k }) l
