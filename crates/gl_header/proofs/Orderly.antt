-- Members and queue stay orderly under each change.
use Rattle.gl_header.proofs.Words.{◌&&◌, ◌<◌, ◌==◌, [], ◌||◌, ◌∙◌, ◌∷◌, ◌≡◌, all_new, all_rise, ap, are_compatible, arith, Bool, false, Fits, fits, holds}
use Rattle.gl_header.proofs.Words.{is_among_waiters, is_at_least, is_empty, is_entry, is_ordered, is_stuck, IsOrderly, IsWithin, List, ltb, Members, Mode}
use Rattle.gl_header.proofs.Words.{most_slots, nat_tests, NL, NL-compatible, not, not_true, placed_in, refl, same_mode, slot_limit, split, sym, true, Waiter}
use Rattle.gl_header.proofs.Words.{with_mode, without, ℕ}
use Rattle.gl_modes.proofs.ModeLemmas.{compatible-symmetric, lesser-compatible}
use Rattle.gl_header.proofs.Fits.{compatible-with_mode, fits-all, fits-from_all, slot_limit-is, within-with_mode}
use Rattle.gl_header.proofs.Queues.{all-without, distinct-without}
use Rattle.gl_header.proofs.Placing.{all-placed_in, distinct-placed_in, ordered-placed_in}

-- a change of a slot that does not wait moves no border between members and newcomers

pub ordered-with_mode : (g : Members) (q : List Waiter) (s : ℕ) (m : Mode) → is_among_waiters s q ≡ false
    → (is_ordered (with_mode g s m) q ≡ is_ordered g q) × (all_new (with_mode g s m) q ≡ all_new g q)
ordered-with_mode g [] s m h = (refl, refl)
ordered-with_mode g (w ∷ ws) s m h = grind (arith, nat_tests, ordered-with_mode g ws s m)

rise-with_mode : (g : Members) (q : List Waiter) (s : ℕ) (m : Mode) → is_among_waiters s q ≡ false → all_rise (with_mode g s m) q ≡ all_rise g q
rise-with_mode g [] s m h = refl
rise-with_mode g (w ∷ ws) s m h = grind (arith, nat_tests, rise-with_mode g ws s m)

below-limit : (s : ℕ) → s < most_slots → s < slot_limit
below-limit s b = rw slot_limit-is b

-- a mode that fits is granted to a slot that does not wait
pub orderly-with_mode : (g : Members) (q : List Waiter) (s : ℕ) (m : Mode) → IsOrderly g q → is_among_waiters s q ≡ false
    → fits slot_limit g s m ≡ true → s < most_slots → IsOrderly (with_mode g s m) q
orderly-with_mode g q s m o h f b = record {
  within = within-with_mode slot_limit g s m (below-limit s b) o.within;
  compatible = compatible-with_mode g s m o.compatible (fits-all slot_limit g s m o.within f);
  distinct = o.distinct;
  valid = o.valid;
  ordered = (ordered-with_mode g q s m h).0 ∙ o.ordered;
  rise = rise-with_mode g q s m h ∙ o.rise;
}

-- a member is removed
pub orderly-member_gone : (g : Members) (q : List Waiter) (s : ℕ) → IsOrderly g q → is_among_waiters s q ≡ false → s < most_slots
    → IsOrderly (with_mode g s NL) q
orderly-member_gone g q s o h b =
    orderly-with_mode g q s NL o h (fits-from_all slot_limit g s NL (λ u ne. compatible-symmetric NL (g u) ∙ NL-compatible (g u))) b

-- a member's slot is below the limit
pub member-below : (g : Members) (s : ℕ) → IsWithin slot_limit g → holds g s ≡ true → s < most_slots
member-below g s w h =
    split (ltb s most_slots)
    (λ e. grind (arith, nat_tests))
    (λ e. absurd (clash (same_mode (g s) NL) (ap (λ m. same_mode m NL) (w s (rw slot_limit-is (grind (arith, nat_tests))))) h))
  where
    clash : (b : Bool) → b ≡ true → not b ≡ true → ⊥
    clash true h k = cc
    clash false h k = cc

ordered-new : (g : Members) (q : List Waiter) → all_new g q ≡ true → is_ordered g q ≡ true
ordered-new g [] h = refl
ordered-new g (w ∷ ws) h = grind (arith, ordered-new g ws)

-- the front waiter is granted
pub orderly-front : (g : Members) (w : Waiter) (ws : List Waiter) → IsOrderly g (w ∷ ws) → fits slot_limit g w.0 w.1 ≡ true → IsOrderly (with_mode g w.0 w.1) ws
orderly-front g w ws o f =
    let d = o.distinct in
    let v = o.valid in
    let r = o.rise in
    let p = o.ordered in
    let rest : IsOrderly g ws = record {
      within = o.within;
      compatible = o.compatible;
      distinct = grind arith;
      valid = grind arith;
      ordered = grind (arith, ordered-new g ws);
      rise = grind arith;
    } in
    orderly-with_mode g ws w.0 w.1 rest (grind arith) f (grind (arith, nat_tests))

-- a member with a greater mode makes no waiter fit

lesser-fits : (x m a : Mode) → is_at_least m a ≡ true → are_compatible x m ≡ true → are_compatible x a ≡ true
lesser-fits x m a h f = compatible-symmetric x a ∙ lesser-compatible m a x h (compatible-symmetric m x ∙ f)

fits-weaker : (g : Members) (s : ℕ) (m : Mode) (t : ℕ) (x : Mode) → IsWithin slot_limit g → s < most_slots → is_at_least m (g s) ≡ true
    → fits slot_limit (with_mode g s m) t x ≡ true → fits slot_limit g t x ≡ true
fits-weaker g s m t x w b h f =
    let all : Fits (with_mode g s m) t x = fits-all slot_limit (with_mode g s m) t x (within-with_mode slot_limit g s m (below-limit s b) w) f in
    fits-from_all slot_limit g t x (λ u ne.
    split (u == s)
    (λ e. let is : u ≡ s = grind (arith, nat_tests) in ap (λ v. are_compatible x (g v)) is
    ∙ lesser-fits x m (g s) h (sym (ap (are_compatible x) (here g s m u e)) ∙ all u ne))
    (λ e. sym (ap (are_compatible x) (there g s m u e)) ∙ all u ne))
  where
    here : (g : Members) (s : ℕ) (m : Mode) (u : ℕ) → (u == s) ≡ true → with_mode g s m u ≡ m
    here g s m u e = grind arith

    there : (g : Members) (s : ℕ) (m : Mode) (u : ℕ) → (u == s) ≡ false → with_mode g s m u ≡ g u
    there g s m u e = grind arith

pub stuck-with_mode : (g : Members) (q : List Waiter) (s : ℕ) (m : Mode) → IsWithin slot_limit g → s < most_slots → is_stuck g q ≡ true
    → is_at_least m (g s) ≡ true → is_stuck (with_mode g s m) q ≡ true
stuck-with_mode g [] s m i b k r = refl
stuck-with_mode g (w ∷ ws) s m i b k r =
    ap not (not_true (fits slot_limit (with_mode g s m) w.0 w.1) (λ f. clash (fits slot_limit g w.0 w.1) (fits-weaker g s m w.0 w.1 i b r f) k))
  where
    clash : (b : Bool) → b ≡ true → not b ≡ true → ⊥
    clash true h k = cc
    clash false h k = cc

-- a wait is put into its place

pub orderly-placed_in : (g : Members) (q : List Waiter) (e : Waiter) → IsOrderly g q → is_among_waiters e.0 q ≡ false → is_entry e ≡ true
    → is_at_least e.1 (g e.0) ≡ true → IsOrderly g (placed_in g q e)
orderly-placed_in g q e o h v r = record {
  within = o.within;
  compatible = o.compatible;
  distinct = distinct-placed_in g q e o.distinct h;
  valid = all-placed_in is_entry g q e o.valid v;
  ordered = ordered-placed_in g q e o.ordered;
  rise = all-placed_in (λ w. is_at_least w.1 (g w.0)) g q e o.rise r;
}

pub stuck-placed_in : (g : Members) (q : List Waiter) (e : Waiter) → is_stuck g q ≡ true
    → (fits slot_limit g e.0 e.1 && (holds g e.0 || is_empty q)) ≡ false → is_stuck g (placed_in g q e) ≡ true
stuck-placed_in g [] e k f = grind arith
stuck-placed_in g (w ∷ ws) e k f = grind arith

-- a waiter is removed

ordered-waiter_gone : (g : Members) (q : List Waiter) (s : ℕ) → is_ordered g q ≡ true → is_ordered g (without q s) ≡ true
ordered-waiter_gone g [] s o = refl
ordered-waiter_gone g (w ∷ ws) s o =
    grind (arith, ordered-waiter_gone g ws s, ordered-new g ws, all-without (λ x. not (holds g x.0)) ws s)

pub orderly-waiter_gone : (g : Members) (q : List Waiter) (s : ℕ) → IsOrderly g q → IsOrderly g (without q s)
orderly-waiter_gone g q s o = record {
  within = o.within;
  compatible = o.compatible;
  distinct = distinct-without q s o.distinct;
  valid = all-without is_entry q s o.valid;
  ordered = ordered-waiter_gone g q s o.ordered;
  rise = all-without (λ w. is_at_least w.1 (g w.0)) q s o.rise;
}
