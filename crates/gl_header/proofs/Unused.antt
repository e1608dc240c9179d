-- An unused header, both ways.
use Rattle.gl_header.proofs.Words.{◌&&◌, [], ◌∙◌, ◌∷◌, ◌≡◌, ◌⊎◌, ⊎_elim, and_both, ap, ap₂, arith, Bool, clash, cond, false, fun_ext, HeaderState, held_by}
use Rattle.gl_header.proofs.Words.{holds, inl, inr, IS, is_empty, is_unused, IsLawfulHeader, IsWithin, List, Members, members_of, Mode, most_slots, NL, nobody}
use Rattle.gl_header.proofs.Words.{nobody_holds, not, refl, same_mode, same_mode-equal, slot_limit, split, true, unused_header, Waiter, ℕ}
use Rattle.gl_slots.proofs.SlotLemmas.{no_slots-none}
use Rattle.gl_header.specs.Groups.{no_group}
use Rattle.gl_header.proofs.Ranges.{below_or_not, range-each, range-fails, range-from_each}
use Rattle.gl_header.proofs.Fits.{within-limit}

not-held : (m : Mode) → not (not (same_mode m NL)) ≡ true → m ≡ NL
not-held m h = same_mode-equal m NL (twice (same_mode m NL) h)
  where
    twice : (b : Bool) → not (not b) ≡ true → b ≡ true
    twice true h = refl
    twice false h = h

pub empty-list : (q : List Waiter) → is_empty q ≡ true → q ≡ []
empty-list [] h = refl
empty-list (w ∷ q) h = cc

-- no slot below the limit holds, so none does
pub nobody_holds-all : (most : ℕ) (g : Members) → IsWithin most g → nobody_holds most g ≡ true → (t : ℕ) → g t ≡ NL
nobody_holds-all most g w h t =
    ⊎_elim (λ lt. not-held (g t) (range-each _ 0 most h t (omega arith) (omega arith))) (w t) (below_or_not t most)

-- nobody holds, and nobody waits
pub unused-true : (h : HeaderState) → IsLawfulHeader h → is_unused h ≡ true → ((t : ℕ) → members_of h t ≡ NL) × (h.queue ≡ [])
unused-true h l u =
    let b = and_both (nobody_holds slot_limit (members_of h)) (is_empty h.queue) u in
    (nobody_holds-all slot_limit (members_of h) (within-limit most_slots (members_of h) (omega arith) l.members_below) b.0, empty-list h.queue b.1)

held-by : (b : Bool) → not b ≡ false → b ≡ true
held-by true h = refl
held-by false h = cc

-- somebody holds, or somebody waits
pub unused-false : (h : HeaderState) → is_unused h ≡ false → ((t : ℕ) × (holds (members_of h) t ≡ true)) ⊎ (is_empty h.queue ≡ false)
unused-false h u =
    split (is_empty h.queue)
    (λ e.
    let n : nobody_holds slot_limit (members_of h) ≡ false = first (nobody_holds slot_limit (members_of h)) (is_empty h.queue) e u in
    let f = range-fails (λ t. not (holds (members_of h) t)) 0 slot_limit n in
    inl (f.0, held-by (holds (members_of h) f.0) f.1))
    (λ e. inr e)
  where
    first : (a b : Bool) → b ≡ true → (a && b) ≡ false → a ≡ false
    first true b h k = absurd (clash h k)
    first false b h k = refl

-- nobody holds in the group without members
pub no_group-nobody : held_by no_group ≡ nobody
no_group-nobody = fun_ext (λ t. ap₂ (λ a b. cond a NL (cond b IS NL)) (no_slots-none t) (no_slots-none t))

-- an unused header has no holder
pub unused-nobody : members_of unused_header ≡ (λ _. NL)
unused-nobody = no_group-nobody

-- an unused header is not needed
pub unused-unused : is_unused unused_header ≡ true
unused-unused =
    ap (λ g. nobody_holds slot_limit g && true) unused-nobody
    ∙ ap (λ b. b && true) (range-from_each (λ t. not (holds (λ _. NL) t)) 0 slot_limit (λ u low high. refl))
