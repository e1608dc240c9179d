-- The order in which transactions keep their turn: by since, and then by age.
use Rattle.gl_waits.proofs.Words.{◌≡◌, ◌≢◌, ◌≤◌, arith, Bool, false, is_earlier, IsYoungest, nat_lt, nat_tests, refl, true, ℕ}
use Rattle.gl_waits.specs.Waits.{IsLatest}

module _ (since age : ℕ → ℕ) where
  -- no slot is earlier than itself
  pub earlier-itself : (u : ℕ) → is_earlier since age u u ≡ false
  earlier-itself u = grind (arith, nat_tests)

  -- an earlier slot is not later
  pub earlier-not_back : (u v : ℕ) → is_earlier since age u v ≡ true → is_earlier since age v u ≡ false
  earlier-not_back u v h = grind (arith, nat_tests)

  -- a slot that is not later than one that is earlier than w is earlier than w
  pub earlier-over : (u v w : ℕ) → is_earlier since age v u ≡ false → is_earlier since age v w ≡ true → is_earlier since age u w ≡ true
  earlier-over u v w h k = grind (arith, nat_tests)

  -- if neither is earlier, the ages are equal
  pub neither_earlier : (u v : ℕ) → is_earlier since age u v ≡ false → is_earlier since age v u ≡ false → age u ≡ age v
  neither_earlier u v h k = grind (arith, nat_tests)

  -- a slot that is not later has no greater since, and with no less a since no greater age
  pub not_later-since : (u v : ℕ) → is_earlier since age v u ≡ false → since u ≤ since v
  not_later-since u v h = grind (arith, nat_tests)

  pub not_later-age : (u v : ℕ) → is_earlier since age v u ≡ false → since v ≤ since u → age u ≤ age v
  not_later-age u v h le = grind (arith, nat_tests)

  -- with no greater since and age a slot is not later
  pub not_later : (u v : ℕ) → since u ≤ since v → age u ≤ age v → is_earlier since age v u ≡ false
  not_later u v le few = grind (arith, nat_tests)

  module _ (member : ℕ → Type 0) where
    -- the latest is a member, and no member is later than it
    pub latest-from : (v : ℕ) → member v → ((u : ℕ) → member u → is_earlier since age v u ≡ false) → IsLatest member since age v
    latest-from v is none = record {
      is_member = record { is_member = is; greatest = λ u m. not_later-since u v (none u m) };
      greatest = λ u h. not_later-age u v (none u h.is_member) (h.greatest v is);
    }

    pub latest-none_later : (v : ℕ) → IsLatest member since age v → (u : ℕ) → member u → is_earlier since age v u ≡ false
    latest-none_later v best u m = by (nat_lt (since u) (since v)) refl
      where
        by : (b : Bool) → nat_lt (since u) (since v) ≡ b → is_earlier since age v u ≡ false
        by true h = let most = best.is_member.greatest u m in grind (arith, nat_tests)
        by false h =
            let more : since v ≤ since u = grind (arith, nat_tests) in
            let most : (w : ℕ) → member w → since w ≤ since u = λ w k. let most = best.is_member.greatest w k in omega (arith, most, more) in
            let also : IsYoungest member since u = record { is_member = m; greatest = most } in
            not_later u v (best.is_member.greatest u m) (best.greatest u also)

    -- so each other member is earlier, if ages differ
    pub latest-others_earlier : (v : ℕ) → IsLatest member since age v → (u : ℕ) → member u → age u ≢ age v → is_earlier since age u v ≡ true
    latest-others_earlier v best u m ne = by (is_earlier since age u v) refl
      where
        by : (b : Bool) → is_earlier since age u v ≡ b → is_earlier since age u v ≡ true
        by true h = h
        by false h = absurd (ne (neither_earlier u v h (latest-none_later v best u m)))
