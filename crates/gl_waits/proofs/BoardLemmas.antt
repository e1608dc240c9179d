-- Rows of a snapshot.
use Rattle.gl_waits.proofs.Words.{◌<◌, ◌∙◌, ◌≡◌, ◌≢◌, ◌≤◌, ⊎_elim, ap, arith, Bool, cases_lt, false, false_from_ne_true, get_or, get_or-set_other}
use Rattle.gl_waits.proofs.Words.{get_or-set_same, has_bit, has_slot, length, length-replicate, List, most_slots, no_slots, row_edge, set, Slots, sym, true, ℕ}
use Rattle.std.proofs.Common.{map, replicate}
use Rattle.std.specs.List.{range_with_len}
use Rattle.std.proofs.lemmas.List.FromFn.{get_or-map-range_with_len, length-map-range_with_len}
use Rattle.std.proofs.lemmas.List.{get_or-replicate, get_or_default, get_or_past}
use Rattle.gl_slots.specs.Slots.{Bits, bits_of, no_bits}
use Rattle.gl_slots.proofs.SlotLemmas.{bits_of-above, has_bit-bits_of, no_bits-none, no_slots-none}

empty_row : (rows : List Slots) (s u : ℕ) → get_or rows s no_slots ≡ no_slots → row_edge rows s u ≡ false
empty_row rows s u e = ap (λ set. has_slot set u) e ∙ no_slots-none u

-- a slot that has a row with a slot in it is below the number of rows
pub row_edge-inside : (rows : List Slots) (s u : ℕ) → row_edge rows s u ≡ true → s < length rows
row_edge-inside rows s u h = ⊎_elim (λ low. low) (λ past. cc (empty_row rows s u (get_or_past rows s no_slots past))) (cases_lt s (length rows))

-- empty rows have no slot
pub empty_rows : (rows : List Slots) → ((s u : ℕ) → s < length rows → row_edge rows s u ≡ false) → (s u : ℕ) → row_edge rows s u ≡ false
empty_rows rows empty s u = false_from_ne_true (row_edge rows s u) (λ h. cc (empty s u (row_edge-inside rows s u h)))

pub row_edge-replicate : (n s u : ℕ) → row_edge (replicate n no_slots) s u ≡ false
row_edge-replicate n = empty_rows (replicate n no_slots)
    (λ s u low. let e = length-replicate {A = Slots} n no_slots in let inside : s < n = omega arith in
    empty_row (replicate n no_slots) s u (get_or-replicate n s no_slots no_slots inside))

-- a row that is read, whatever a read beyond the end would give
pub row_edge-read : (rows : List Slots) (i u : ℕ) (d : Slots) → i < length rows → has_slot (get_or rows i d) u ≡ row_edge rows i u
row_edge-read rows i u d inside = ap (λ set. has_slot set u) (get_or_default rows i d no_slots inside)

pub bit_edge-read : (rows : List Bits) (i u : ℕ) (d : Bits) → i < length rows → has_bit (get_or rows i d) u ≡ has_bit (get_or rows i no_bits) u
bit_edge-read rows i u d inside = ap (λ bits. has_bit bits u) (get_or_default rows i d no_bits inside)

-- a row that is written, and the others
pub row_edge-set_same : (rows : List Slots) (i u : ℕ) (row : Slots) → i < length rows → row_edge (set rows i row) i u ≡ has_slot row u
row_edge-set_same rows i u row inside = ap (λ n. has_slot n u) (get_or-set_same rows i row no_slots inside)

pub row_edge-set_other : (rows : List Slots) (i s u : ℕ) (row : Slots) → s ≢ i → row_edge (set rows i row) s u ≡ row_edge rows s u
row_edge-set_other rows i s u row ne = ap (λ n. has_slot n u) (get_or-set_other rows i s row no_slots ne)

-- the rows that a relation of slots makes, for each slot below n, have its waits
module _ (n : ℕ) (edge : ℕ → ℕ → Bool) (low : (s u : ℕ) → edge s u ≡ true → (s < n) × (u < most_slots)) where
  rows : List Bits
  rows = map (λ t. bits_of (edge t)) (range_with_len 0 n)

  row : ℕ → ℕ → Bool
  row s u = has_bit (get_or rows s no_bits) u

  inside : (s u : ℕ) → s < n → row s u ≡ has_bit (bits_of (edge s)) u
  unfolding row rows
  inside s u h = ap (λ set. has_bit set u) (get_or-map-range_with_len (λ t. bits_of (edge t)) 0 n s s no_bits h (omega arith))

  outside : (s u : ℕ) → row s u ≡ false → ((s < n) × (u < most_slots) → ⊥) → row s u ≡ edge s u
  outside s u e far = e ∙ sym (false_from_ne_true (edge s u) (λ h. far (low s u h)))

  past : (s u : ℕ) → n ≤ s → row s u ≡ false
  unfolding row rows
  past s u far = ap (λ set. has_bit set u)
      (get_or_past rows s no_bits (let e = length-map-range_with_len (λ t. bits_of (edge t)) 0 n in omega arith)) ∙ no_bits-none u

  pub shown_rows-edge : (s u : ℕ) → has_bit (get_or (map (λ t. bits_of (edge t)) (range_with_len 0 n)) s no_bits) u ≡ edge s u
  unfolding row rows
  shown_rows-edge s u =
      ⊎_elim
      (λ h. ⊎_elim (λ k. inside s u h ∙ has_bit-bits_of (edge s) u k)
      (λ far. outside s u (inside s u h ∙ bits_of-above (edge s) u far) (λ near. let k = near.1 in omega arith)) (cases_lt u most_slots))
      (λ far. outside s u (past s u far) (λ near. let k = near.0 in omega arith))
      (cases_lt s n)
