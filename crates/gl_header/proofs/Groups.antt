-- A granted group, in terms of members: its parts, what fits beside it, its supremum, and the result of a grant.
use Rattle.gl_header.proofs.Words.{◌&&◌, ◌<◌, ◌==◌, ◌||◌, ◌∙◌, ◌≡◌, ◌≢◌, ◌≤◌, ap, ap₂, are_compatible, arith, Bool, clash, cond, false, fits, fun_ext, Group}
use Rattle.gl_header.proofs.Words.{group_of, has_none, has_slot, held_by, holds, HoldsTwoModes, inl, inr, IS, is_at_least, IsGroup, IsWithin, Members, Mode}
use Rattle.gl_header.proofs.Words.{most_slots, nat_tests, NL, NL-compatible, nobody_holds, not, not_NL, not_true, refl, same_mode, same_mode-equal, slot_limit}
use Rattle.gl_header.proofs.Words.{split, supremum, supremum-above, sym, true, with_mode, ℕ}
use Rattle.gl_modes.proofs.Each.{every-true, every2-true, implied, implies}
use Rattle.gl_modes.proofs.ModeLemmas.{supremum-above_right, supremum-least}
use Rattle.gl_slots.specs.declared.slots.Slots.{Slots}
use Rattle.gl_slots.specs.Slots.{HasNoSlot}
use Rattle.gl_slots.proofs.SlotLemmas.{none-test, test-none}
use Rattle.gl_header.specs.Groups.{GoesBeside, group_mode}
use Rattle.gl_header.proofs.Ranges.{range-from_each}
use Rattle.gl_header.proofs.Fits.{fits-all, fits-from_all, slot_limit-is, within-more}
use Rattle.gl_header.proofs.GroupOf.{at_least-NL, group_of-unique}
use Rattle.gl_header.proofs.Unused.{nobody_holds-all}

-- what a slot of each part holds

pub holder-mode : (g : Group) (u : ℕ) → has_slot g.holders u ≡ true → held_by g u ≡ g.mode
holder-mode g u h = ap (λ b. cond b g.mode (cond (has_slot g.intents u) IS NL)) h

pub intent-mode : (g : Group) (u : ℕ) → has_slot g.holders u ≡ false → has_slot g.intents u ≡ true → held_by g u ≡ IS
intent-mode g u h k =
    ap₂ (λ a b. cond a g.mode (cond b IS NL)) h k

pub other-mode : (g : Group) (u : ℕ) → has_slot g.holders u ≡ false → has_slot g.intents u ≡ false → held_by g u ≡ NL
other-mode g u h k =
    ap₂ (λ a b. cond a g.mode (cond b IS NL)) h k

-- a holder of IS is no holder of the group's mode
pub apart-other : (g : Group) (u : ℕ) → IsGroup g → has_slot g.intents u ≡ true → has_slot g.holders u ≡ false
apart-other g u k h = not_true (has_slot g.holders u) (λ e. clash h (k.apart u e))

-- a slot in one of three ways
pub by_part : {C : Type 0} (g : Group) (u : ℕ) → (has_slot g.holders u ≡ true → held_by g u ≡ g.mode → C)
    → (has_slot g.intents u ≡ true → held_by g u ≡ IS → C) → (held_by g u ≡ NL → C) → C
by_part g u a b c =
    split (has_slot g.holders u)
    (λ h. a h (holder-mode g u h))
    (λ h. split (has_slot g.intents u) (λ k. b k (intent-mode g u h k)) (λ k. c (other-mode g u h k)))

-- a slot that holds nothing is in neither set
pub no-holder : (g : Group) (u : ℕ) → IsGroup g → held_by g u ≡ NL → has_slot g.holders u ≡ false
no-holder g u k n =
    not_true (has_slot g.holders u) (λ h. clash h (k.free (sym (holder-mode g u h) ∙ n) u))

pub no-intent : (g : Group) (u : ℕ) → IsGroup g → held_by g u ≡ NL → has_slot g.intents u ≡ false
no-intent g u k n =
    not_true (has_slot g.intents u) (λ h. differ (sym (intent-mode g u (apart-other g u k h) h) ∙ n))
  where
    differ : IS ≡ NL → ⊥
    differ e = cc

pub within-group : (g : Group) → IsGroup g → IsWithin slot_limit (held_by g)
within-group g k = within-more most_slots slot_limit (held_by g) (rw slot_limit-is (omega arith))
    (λ u le. other-mode g u (k.holders_below u le) (k.intents_below u le))

-- besides IS at most one mode is held
pub two-modes : (g : Group) → HoldsTwoModes (held_by g)
two-modes g = (g.mode, λ t. by_part g t (λ h e. inr (inr e)) (λ h e. inr (inl e)) (λ e. inl e))

-- the two sets have exactly the members
pub listed : (g : Group) → IsGroup g → (t : ℕ) → (has_slot g.holders t || has_slot g.intents t) ≡ holds (held_by g) t
listed g k t =
    split (has_slot g.holders t)
    (λ h. ap (λ b. b || has_slot g.intents t) h ∙ sym (ap (λ m. not (same_mode m NL)) (holder-mode g t h) ∙ ap not (not_NL g.mode (λ n. clash h (k.free n t)))))
    (λ h. split (has_slot g.intents t)
    (λ i. ap₂ (λ a b. a || b) h i ∙ sym (ap (λ m. not (same_mode m NL)) (intent-mode g t h i)))
    (λ i. ap₂ (λ a b. a || b) h i ∙ sym (ap (λ m. not (same_mode m NL)) (other-mode g t h i))))

-- what fits beside all others

pub fits-holders : (g : Group) (s : ℕ) (m : Mode) → IsGroup g → fits slot_limit (held_by g) s m ≡ true → GoesBeside g.holders g.mode s m
fits-holders g s m k f =
    λ u ne h. ap (are_compatible m) (sym (holder-mode g u h)) ∙ fits-all slot_limit (held_by g) s m (within-group g k) f u ne

pub fits-intents : (g : Group) (s : ℕ) (m : Mode) → IsGroup g → fits slot_limit (held_by g) s m ≡ true → GoesBeside g.intents IS s m
fits-intents g s m k f =
    λ u ne h. ap (are_compatible m) (sym (intent-mode g u (apart-other g u k h) h)) ∙ fits-all slot_limit (held_by g) s m (within-group g k) f u ne

pub fits-both : (g : Group) (s : ℕ) (m : Mode) → GoesBeside g.holders g.mode s m → GoesBeside g.intents IS s m → fits slot_limit (held_by g) s m ≡ true
fits-both g s m a b =
    fits-from_all slot_limit (held_by g) s m
    (λ u ne. by_part g u (λ h e. ap (are_compatible m) e ∙ a u ne h) (λ h e. ap (are_compatible m) e ∙ b u ne h)
    (λ e. ap (are_compatible m) e ∙ NL-compatible m))

-- nobody holds

pub nobody-mode : (g : Group) → IsGroup g → nobody_holds slot_limit (held_by g) ≡ true → g.mode ≡ NL
nobody-mode g k n = k.idle (λ u. no-holder g u k (nobody_holds-all slot_limit (held_by g) (within-group g k) n u))

pub nobody-intents : (g : Group) → IsGroup g → nobody_holds slot_limit (held_by g) ≡ true → HasNoSlot g.intents
nobody-intents g k n u = no-intent g u k (nobody_holds-all slot_limit (held_by g) (within-group g k) n u)

pub nobody-from_both : (g : Group) → IsGroup g → g.mode ≡ NL → HasNoSlot g.intents → nobody_holds slot_limit (held_by g) ≡ true
nobody-from_both g k is none =
    range-from_each (λ t. not (holds (held_by g) t)) 0 slot_limit
    (λ u l m. ap (λ x. not (not (same_mode x NL))) (other-mode g u (k.free is u) (none u)))

-- the supremum of the held modes

-- a mode that is the group's mode or greater, if anybody holds it
least-main : (g : Group) (x : Mode) → IsGroup g → ((u : ℕ) → is_at_least x (held_by g u) ≡ true) → is_at_least x g.mode ≡ true
least-main g x k h =
    split (is_at_least x g.mode) (λ e. e)
    (λ e.
    let none : HasNoSlot g.holders = (λ u. not_true (has_slot g.holders u) (λ i. clash (ap (is_at_least x) (sym (holder-mode g u i)) ∙ h u) e)) in
    ap (is_at_least x) (k.idle none) ∙ at_least-NL x)

least-IS : (g : Group) (x : Mode) → IsGroup g → (HasNoSlot g.intents → ⊥) → ((u : ℕ) → is_at_least x (held_by g u) ≡ true) → is_at_least x IS ≡ true
least-IS g x k some h =
    split (is_at_least x IS) (λ e. e)
    (λ e. absurd (some (λ u. not_true (has_slot g.intents u) (λ i. clash (ap (is_at_least x) (sym (intent-mode g u (apart-other g u k i) i)) ∙ h u) e))))

refl-at_least : (m : Mode) → is_at_least m m ≡ true
refl-at_least m = every-true (λ x. is_at_least x x) refl m

pub supremum-main : (g : Group) → IsGroup g → HasNoSlot g.intents → g.mode ≡ group_of slot_limit (held_by g)
supremum-main g k none =
    group_of-unique slot_limit (held_by g) g.mode (within-group g k)
    (λ u. by_part g u (λ h e. ap (is_at_least g.mode) e ∙ refl-at_least g.mode) (λ h e. absurd (clash h (none u)))
    (λ e. ap (is_at_least g.mode) e ∙ at_least-NL g.mode))
    (λ x h. least-main g x k h)

pub supremum-both : (g : Group) → IsGroup g → (HasNoSlot g.intents → ⊥) → supremum g.mode IS ≡ group_of slot_limit (held_by g)
supremum-both g k some =
    group_of-unique slot_limit (held_by g) (supremum g.mode IS) (within-group g k)
    (λ u. by_part g u (λ h e. ap (is_at_least (supremum g.mode IS)) e ∙ supremum-above g.mode IS)
    (λ h e. ap (is_at_least (supremum g.mode IS)) e ∙ supremum-above_right g.mode IS)
    (λ e. ap (is_at_least (supremum g.mode IS)) e ∙ at_least-NL (supremum g.mode IS)))
    (λ x h. supremum-least x g.mode IS ∙ ap₂ (λ a b. a && b) (least-main g x k h) (least-IS g x k some h))

-- the group mode is the supremum
pub group_mode-is : (g : Group) → IsGroup g → group_mode g ≡ group_of slot_limit (held_by g)
group_mode-is g k =
    split (has_none g.intents)
    (λ e. ap (λ b. cond b g.mode (supremum g.mode IS)) e ∙ supremum-main g k (test-none g.intents e))
    (λ e. ap (λ b. cond b g.mode (supremum g.mode IS)) e ∙ supremum-both g k (λ none. clash (none-test g.intents none) e))

-- a grant to a slot that holds nothing: r is the group before it, old the grants before that slot's release

-- j is the set i with s
abbrev pub IsWithSlot : Slots → ℕ → Slots → Type 0
IsWithSlot i s j = (u : ℕ) → has_slot j u ≡ (has_slot i u || (u == s))

at-slot : (a b : Bool) (u s : ℕ) → b ≡ (a || (u == s)) → u ≡ s → b ≡ true
at-slot a b u s h e = grind (arith, nat_tests)

at-other : (a b : Bool) (u s : ℕ) → b ≡ (a || (u == s)) → (u == s) ≡ false → b ≡ a
at-other a b u s h e = grind (arith, nat_tests)

same-slot : (u s : ℕ) → (u == s) ≡ true → u ≡ s
same-slot u s e = grind (arith, nat_tests)

above-slot : (u s : ℕ) → most_slots ≤ u → s < most_slots → (u == s) ≡ false
above-slot u s h b = grind (arith, nat_tests)

here : (g : Members) (s : ℕ) (m : Mode) (u : ℕ) → (u == s) ≡ true → with_mode g s m u ≡ m
here g s m u e = grind arith

there : (g : Members) (s : ℕ) (m : Mode) (u : ℕ) → (u == s) ≡ false → with_mode g s m u ≡ g u
there g s m u e = grind arith

module _ (old : Members) (r : Group) (s : ℕ) (k : IsGroup r) (e : held_by r ≡ with_mode old s NL) (below : s < most_slots) where
  free-slot : held_by r s ≡ NL
  free-slot = ap (λ (g : Members). g s) e ∙ here old s NL s (grind (arith, nat_tests))

  -- IS is granted
  pub intent-group : (i : Slots) → IsWithSlot r.intents s i → IsGroup (record { mode = r.mode; holders = r.holders; intents = i })
  intent-group i w = record {
    apart = λ u h. split (u == s)
        (λ t. absurd (clash h (ap (has_slot r.holders) (same-slot u s t) ∙ no-holder r s k free-slot)))
        (λ t. at-other _ _ u s (w u) t ∙ k.apart u h);
    not_IS = k.not_IS;
    idle = k.idle;
    free = k.free;
    holders_below = k.holders_below;
    intents_below = λ u le. at-other _ _ u s (w u) (above-slot u s le below) ∙ k.intents_below u le;
  }

  pub intent-held : (i : Slots) → IsWithSlot r.intents s i → held_by (record { mode = r.mode; holders = r.holders; intents = i }) ≡ with_mode old s IS
  intent-held i w = fun_ext (λ u.
      split (u == s)
      (λ t. intent-mode (record { mode = r.mode; holders = r.holders; intents = i }) u
      (ap (has_slot r.holders) (same-slot u s t) ∙ no-holder r s k free-slot) (at-slot _ _ u s (w u) (same-slot u s t)) ∙ sym (here old s IS u t))
      (λ t. ap (λ b. cond (has_slot r.holders u) r.mode (cond b IS NL)) (at-other _ _ u s (w u) t)
      ∙ (ap (λ (g : Members). g u) e ∙ (there old s NL u t ∙ sym (there old s IS u t)))))

  -- another mode is granted, which is that of all grants other than IS

  pub main-group : (m : Mode) (j : Slots) → same_mode m IS ≡ false → m ≢ NL → IsWithSlot r.holders s j
      → IsGroup (record { mode = m; holders = j; intents = r.intents })
  main-group m j other lock w = record {
    apart = λ u h. split (u == s)
        (λ t. ap (has_slot r.intents) (same-slot u s t) ∙ no-intent r s k free-slot)
        (λ t. k.apart u (sym (at-other _ _ u s (w u) t) ∙ h));
    not_IS = other;
    idle = λ none. absurd (clash (at-slot _ _ s s (w s) refl) (none s));
    free = λ n. absurd (lock n);
    holders_below = λ u le. at-other _ _ u s (w u) (above-slot u s le below) ∙ k.holders_below u le;
    intents_below = k.intents_below;
  }

  one-mode : (m : Mode) → same_mode m IS ≡ false → m ≢ NL → fits slot_limit old s m ≡ true → IsWithin slot_limit old → (u : ℕ)
      → has_slot r.holders u ≡ true → r.mode ≡ m
  one-mode m other lock f w u h =
      let ne : u ≢ s = (λ t. clash h (ap (has_slot r.holders) t ∙ no-holder r s k free-slot)) in
      let is : old u ≡ r.mode = sym (there old s NL u (off u s ne)) ∙ (sym (ap (λ (g : Members). g u) e) ∙ holder-mode r u h) in
      let c : are_compatible m r.mode ≡ true = ap (are_compatible m) (sym is) ∙ fits-all slot_limit old s m w f u ne in
      let lock' : same_mode r.mode NL ≡ false = not_NL r.mode (λ n. clash h (k.free n u)) in
      sym (same_mode-equal m r.mode (alike m r.mode other (not_NL m lock) k.not_IS lock' c))
    where
      off : (u s : ℕ) → u ≢ s → (u == s) ≡ false
      off u s ne = grind (arith, nat_tests)

      alike : (a b : Mode) → same_mode a IS ≡ false → same_mode a NL ≡ false → same_mode b IS ≡ false → same_mode b NL ≡ false
          → are_compatible a b ≡ true → same_mode a b ≡ true
      alike a b p q s t c =
          implied _ _ (implied _ _ (implied _ _
          (implied _ _ (implied _ _ (every2-true
          (λ x y. implies (not (same_mode x IS))
          (implies (not (same_mode x NL))
          (implies (not (same_mode y IS)) (implies (not (same_mode y NL)) (implies (are_compatible x y) (same_mode x y)))))) refl a b)
          (ap not p)) (ap not q)) (ap not s)) (ap not t)) c

  pub main-held : (m : Mode) (j : Slots) → same_mode m IS ≡ false → m ≢ NL → fits slot_limit old s m ≡ true → IsWithin slot_limit old
      → IsWithSlot r.holders s j → held_by (record { mode = m; holders = j; intents = r.intents }) ≡ with_mode old s m
  main-held m j other lock f in_range w = fun_ext (λ u.
      split (u == s)
      (λ t. holder-mode (record { mode = m; holders = j; intents = r.intents }) u (at-slot _ _ u s (w u) (same-slot u s t)) ∙ sym (here old s m u t))
      (λ t. split (has_slot r.holders u)
      (λ h. holder-mode (record { mode = m; holders = j; intents = r.intents }) u (at-other _ _ u s (w u) t ∙ h)
      ∙ (sym (one-mode m other lock f in_range u h)
      ∙ (sym (holder-mode r u h) ∙ (ap (λ (g : Members). g u) e ∙ (there old s NL u t ∙ sym (there old s m u t))))))
      (λ h. ap (λ b. cond b m (cond (has_slot r.intents u) IS NL)) (at-other _ _ u s (w u) t ∙ h)
      ∙ (sym (ap (λ b. cond b r.mode (cond (has_slot r.intents u) IS NL)) h)
      ∙ (ap (λ (g : Members). g u) e ∙ (there old s NL u t ∙ sym (there old s m u t)))))))

-- a release: g is the group before it

-- j is the set i without s
abbrev pub IsWithoutSlot : Slots → ℕ → Slots → Type 0
IsWithoutSlot i s j = (u : ℕ) → has_slot j u ≡ (has_slot i u && not (u == s))

left-at : (a b t : Bool) → b ≡ (a && not t) → t ≡ true → b ≡ false
left-at a b t h e = grind arith

left-other : (a b t : Bool) → b ≡ (a && not t) → t ≡ false → b ≡ a
left-other a b t h e = grind arith

left-none : (a b t : Bool) → b ≡ (a && not t) → a ≡ false → b ≡ false
left-none a b t h e = grind arith

-- a remaining holder of the group's mode holds what it held
pub released-held : (g : Group) (s : ℕ) (m : Mode) (h i : Slots) → IsWithoutSlot g.holders s h → IsWithoutSlot g.intents s i
    → ((u : ℕ) → has_slot h u ≡ true → m ≡ g.mode) → held_by (record { mode = m; holders = h; intents = i }) ≡ with_mode (held_by g) s NL
released-held g s m h i wh wi same = fun_ext (λ u.
    split (u == s)
    (λ t. ap₂ (λ a b. cond a m (cond b IS NL)) (left-at _ _ _ (wh u) t) (left-at _ _ _ (wi u) t) ∙ sym (here (held_by g) s NL u t))
    (λ t. split (has_slot g.holders u)
    (λ a. ap (λ b. cond b m (cond (has_slot i u) IS NL)) (left-other _ _ _ (wh u) t ∙ a)
    ∙ same u (left-other _ _ _ (wh u) t ∙ a)
    ∙ sym (holder-mode g u a)
    ∙ sym (there (held_by g) s NL u t))
    (λ a. ap₂ (λ x y. cond x m (cond y IS NL)) (left-other _ _ _ (wh u) t ∙ a) (left-other _ _ _ (wi u) t)
    ∙ sym (ap (λ b. cond b g.mode (cond (has_slot g.intents u) IS NL)) a)
    ∙ sym (there (held_by g) s NL u t))))

-- a set without s is what it is

pub absent-without : (i : Slots) (s : ℕ) → has_slot i s ≡ false → IsWithoutSlot i s i
absent-without i s none u = split (u == s)
    (λ t. let out : has_slot i u ≡ false = ap (has_slot i) (same-slot u s t) ∙ none in out ∙ sym (ap (λ b. b && not (u == s)) out))
    (λ t. stays (has_slot i u) (u == s) t)
  where
    stays : (a t : Bool) → t ≡ false → a ≡ (a && not t)
    stays a t h = grind arith

-- IS is released: holders of the group's mode stay
pub released-intent : (g : Group) (s : ℕ) (i : Slots) → IsGroup g → IsWithoutSlot g.intents s i
    → IsGroup (record { mode = g.mode; holders = g.holders; intents = i })
released-intent g s i k w = record {
  apart = λ u x. left-none _ _ _ (w u) (k.apart u x);
  not_IS = k.not_IS;
  idle = k.idle;
  free = k.free;
  holders_below = k.holders_below;
  intents_below = λ u le. left-none _ _ _ (w u) (k.intents_below u le);
}
