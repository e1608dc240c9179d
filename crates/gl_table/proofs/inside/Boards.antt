-- The waits-for snapshot of a moment, written slot by slot, and which slot is a victim. For snapshots and detection.
use Rattle.gl_table.proofs.Words.{◌&&◌, ◌<◌, ◌==◌, [], ◌||◌, ◌∙◌, ◌∷◌, ◌≡◌, ◌≢◌, ◌⊎◌, ⊎_elim, age_in, and-false, and-true, ap, are_compatible, arith, Bits}
use Rattle.gl_table.proofs.Words.{bits_of, blocks, Board, board_of, Bool, candidate-on_cycle, cases_eq, cases_lt, clash, cond, Entries, false, fill_by_all}
use Rattle.gl_table.proofs.Words.{front, get_or, get_or-replicate, get_or-set_other, get_or-set_same, get_or_past, has_bit, has_slot, HasNoSlot, header_at}
use Rattle.gl_table.proofs.Words.{header_or_new, HeaderState, inl, inr, is_ahead, is_among_waiters, is_wait, IsOnCycleOf, IsVictim, IsWalk, length}
use Rattle.gl_table.proofs.Words.{length-replicate, List, lives_at, map, members_of, Mode, most_slots, nat_tests, no_bits, NodeId, not, number_other}
use Rattle.gl_table.proofs.Words.{number_same, Option, range_with_len, Reaches, refl, replicate, set, shown, Slots, Some, split, State, status_in, status_of}
use Rattle.gl_table.proofs.Words.{subst, sym, take, true, TxnEntry, txns_of, Victims, Waiter, Waiting, waits_for, ℕ}
use Rattle.gl_slots.specs.Slots.{HasNoBit}
use Rattle.gl_slots.proofs.SlotLemmas.{bits_of-none, has_bit-bits_of, no_bits-none}
use Rattle.gl_model.proofs.law.Edges.{idle_no_step, step_is}
use Rattle.gl_model.proofs.queues.Waiters.{ahead-first}

-- The snapshot of a moment, written slot by slot.

-- the slots of a set without the lowest

-- the set is the other one without slot k
abbrev pub IsWithout : Slots → ℕ → Slots → Type 0
IsWithout left k after = (u : ℕ) → has_slot after u ≡ (has_slot left u && not (u == k))

-- slot k is not in it
taken_out : (left after : Slots) (k : ℕ) → IsWithout left k after → has_slot after k ≡ false
taken_out left after k less = less k ∙ ap (λ b. has_slot left k && not b) (number_same k k refl) ∙ and-false (has_slot left k)

-- of the others nothing changes
still_in : (left after : Slots) (k t : ℕ) → t ≢ k → IsWithout left k after → has_slot after t ≡ has_slot left t
still_in left after k t ne less = less t ∙ ap (λ b. has_slot left t && not b) (number_other t k ne) ∙ and-true (has_slot left t)

-- nothing is written yet
pub zeros : (n u : ℕ) → ◌≡◌ {A = ℕ} (get_or (replicate n 0) u 0) 0
zeros n u =
    ⊎_elim (λ low. get_or-replicate {A = ℕ} n u 0 0 low) (λ past. get_or_past (replicate n 0) u 0 (let e = length-replicate {A = ℕ} n 0 in omega arith))
    (cases_lt u n)

pub empty_row : (n t : ℕ) → get_or (replicate n no_bits) t no_bits ≡ no_bits
empty_row n t =
    ⊎_elim (λ low. get_or-replicate {A = Bits} n t no_bits no_bits low)
    (λ past. get_or_past (replicate n no_bits) t no_bits (let e = length-replicate {A = Bits} n no_bits in omega arith)) (cases_lt t n)

-- The ages.

-- the ages in the entries
abbrev pub age_at : List (Option TxnEntry) → ℕ → ℕ
age_at txn_entries t = age_in (txns_of txn_entries t)

-- the ages are written but those of the slots that are left, which are 0
abbrev pub AreAgesBut : (ℕ → ℕ) → Slots → List ℕ → Type 0
AreAgesBut age left xs = (t : ℕ) → get_or xs t 0 ≡ cond (has_slot left t) 0 (age t)

-- nothing is written yet
pub ages-begin : (txn_entries : List (Option TxnEntry)) (living : Slots) (xs : List ℕ) → ((u : ℕ) → has_slot living u ≡ lives_at txn_entries u)
    → ((u : ℕ) → get_or xs u 0 ≡ 0)
    → AreAgesBut (age_at txn_entries) living xs
ages-begin txn_entries living xs is none t = none t ∙ grind (arith, nat_tests, has_slot living t, txns_of txn_entries t, is t)

-- slot k is written
pub ages-written : (age : ℕ → ℕ) (left after : Slots) (k a : ℕ) (xs : List ℕ) → k < length xs → a ≡ age k → IsWithout left k after → AreAgesBut age left xs
    → AreAgesBut age after (set xs k a)
ages-written age left after k a xs low is less ages t =
    ⊎_elim (λ e. subst (λ x. get_or (set xs k a) x 0 ≡ cond (has_slot after x) 0 (age x)) (sym e)
    (get_or-set_same xs k a 0 low ∙ is ∙ sym (ap (λ b. cond b 0 (age k)) (taken_out left after k less))))
    (λ ne. get_or-set_other xs k t a 0 ne ∙ ages t ∙ sym (ap (λ b. cond b 0 (age t)) (still_in left after k t ne less))) (cases_eq t k)

-- slot k is free, and stays at 0
pub ages-passed : (age : ℕ → ℕ) (left after : Slots) (k : ℕ) (xs : List ℕ) → age k ≡ 0 → IsWithout left k after → AreAgesBut age left xs
    → AreAgesBut age after xs
ages-passed age left after k xs free less ages t =
    ages t ∙ ⊎_elim (λ e. by (has_slot left t) (has_slot after t) (ap age e ∙ free)) (λ ne. sym (ap (λ b. cond b 0 (age t)) (still_in left after k t ne less)))
    (cases_eq t k)
  where
    by : (a b : Bool) → age t ≡ 0 → cond a 0 (age t) ≡ cond b 0 (age t)
    by a b h1 = grind (arith, nat_tests)

-- no slot is left
pub ages-read : (age : ℕ → ℕ) (left : Slots) (xs : List ℕ) → HasNoSlot left → AreAgesBut age left xs → (u : ℕ) → get_or xs u 0 ≡ age u
ages-read age left xs empty ages u = ages u ∙ ap (λ b. cond b 0 (age u)) (empty u)

-- The rows.

-- a row shows the relation's steps
abbrev pub IsRow : (ℕ → ℕ → Bool) → List Bits → ℕ → Type 0
IsRow edge xs t = get_or xs t no_bits ≡ bits_of (edge t)

-- each row is right, or its slot is left and it is empty
abbrev pub AreRowsBut : (ℕ → ℕ → Bool) → Slots → List Bits → Type 0
AreRowsBut edge left xs = (t : ℕ) → IsRow edge xs t ⊎ ((has_slot left t ≡ true) × (get_or xs t no_bits ≡ no_bits))

-- each row is as it was, or right
abbrev pub AreRowsShown : (ℕ → ℕ → Bool) → List Bits → List Bits → Type 0
AreRowsShown edge old xs = (t : ℕ) → (get_or xs t no_bits ≡ get_or old t no_bits) ⊎ IsRow edge xs t

-- a row that is right is written
pub rows-shown : (edge : ℕ → ℕ → Bool) (i : ℕ) (r : Bits) (old xs : List Bits) → i < length xs → r ≡ bits_of (edge i) → AreRowsShown edge old xs
    → AreRowsShown edge old (set xs i r)
rows-shown edge i r old xs low is rows t =
    ⊎_elim (λ e. inr (subst (IsRow edge (set xs i r)) (sym e) (get_or-set_same xs i r no_bits low ∙ is)))
    (λ ne. let other = get_or-set_other xs i t r no_bits ne in
    ⊎_elim (λ same. inl (other ∙ same)) (λ right. inr (other ∙ right)) (rows t)) (cases_eq t i)

-- the row of a slot that does not wait is empty
pub rows-idle : (s : State) (t : ℕ) (xs : List Bits) → is_wait (status_of s t) ≡ false → get_or xs t no_bits ≡ no_bits → IsRow (waits_for s) xs t
rows-idle s t xs idle none = none ∙ sym (bits_of-none (waits_for s t) (λ u low. idle_no_step s t (λ n m e. clash (ap is_wait e) idle) u))

-- nothing is written yet
pub rows-begin : (s : State) (waiting : Slots) (xs : List Bits) → ((u : ℕ) → has_slot waiting u ≡ is_wait (status_of s u))
    → ((t : ℕ) → get_or xs t no_bits ≡ no_bits)
    → AreRowsBut (waits_for s) waiting xs
rows-begin s waiting xs is none t = split (has_slot waiting t) (λ h. inr (h, none t)) (λ h. inl (rows-idle s t xs (sym (is t) ∙ h) (none t)))

-- the row of slot k is right too, and others may be
pub rows-next : (edge : ℕ → ℕ → Bool) (left after : Slots) (k : ℕ) (old xs : List Bits) → IsWithout left k after → IsRow edge xs k → AreRowsShown edge old xs
    → AreRowsBut edge left old → AreRowsBut edge after xs
rows-next edge left after k old xs less own kept rows t =
    ⊎_elim (λ e. inl (subst (IsRow edge xs) (sym e) own)) (λ ne. ⊎_elim
    (λ same. ⊎_elim (λ right. inl (same ∙ right)) (λ none. inr (still_in left after k t ne less ∙ none.0, same ∙ none.1))
    (rows t)) inl (kept t)) (cases_eq t k)

-- a row that is not empty was right
pub rows-there : (edge : ℕ → ℕ → Bool) (left after : Slots) (k : ℕ) (xs : List Bits) → IsWithout left k after → (HasNoBit (get_or xs k no_bits) → ⊥)
    → AreRowsBut edge left xs
    → AreRowsBut edge after xs
rows-there edge left after k xs less some rows =
    rows-next edge left after k xs xs less
    (⊎_elim (λ right. right) (λ none. absurd (some (λ u. subst (λ (b : Bits). has_bit b u ≡ false) (sym none.1) (no_bits-none u)))) (rows k))
    (λ t. inl refl) rows

-- a row without slots is empty, also if it is right
pub rows-unwritten : (edge : ℕ → ℕ → Bool) (left : Slots) (k : ℕ) (xs : List Bits) → HasNoBit (get_or xs k no_bits) → AreRowsBut edge left xs
    → get_or xs k no_bits ≡ no_bits
rows-unwritten edge left k xs none rows = ⊎_elim
    (λ right. right ∙ bits_of-none (edge k) (λ u low. sym (has_bit-bits_of (edge k) u low) ∙ subst (λ (b : Bits). has_bit b u ≡ false) right (none u)))
    (λ empty. empty.1) (rows k)

-- no slot is left
pub rows-read : (edge : ℕ → ℕ → Bool) (left : Slots) (xs : List Bits) → HasNoSlot left → AreRowsBut edge left xs → (t : ℕ) → IsRow edge xs t
rows-read edge left xs empty rows t = ⊎_elim (λ right. right) (λ none. clash none.0 (empty t)) (rows t)

-- the row of a slot whose place in a queue is reached, if those passed are known
pub reached-row : (hs : Entries) (txn_entries : List (Option TxnEntry)) (node : NodeId) (h : HeaderState) (q : List Waiter) (t i : ℕ) (w : Mode)
    (passed r : Slots)
    (d : Waiter) → h ≡ header_or_new (header_at hs node) → q ≡ h.queue
    → status_in (txns_of txn_entries t) ≡ Some (Waiting node w) → i < length q → (get_or q i d).0 ≡ t
    → ((u : ℕ) → has_slot passed u ≡ is_among_waiters u (take i q)) → has_slot passed t ≡ false
    → ((u : ℕ) → has_slot r u ≡ (not (t == u) && (not (are_compatible w (members_of h u)) || has_slot passed u)))
    → (u : ℕ) → has_slot r u ≡ waits_for (shown hs txn_entries 0) t u
reached-row hs txn_entries node h q t i w passed r d is same st low at front out row u =
    row u ∙ ap (λ b. not (t == u) && (not (are_compatible w (members_of h u)) || b)) (front u ∙ sym (ahead-first q t u i d low at (sym (front t) ∙ out))
    ∙ ap (λ x. is_ahead x t u) same) ∙ ap (λ (x : HeaderState). not (t == u) && (not (are_compatible w (members_of x u)) || is_ahead x.queue t u)) is
    ∙ sym (ap (λ o. not (t == u) && blocks (shown hs txn_entries 0) t u o) st)

-- The snapshot.

ages-all : (age : ℕ → ℕ) (n : ℕ) (xs : List ℕ) → length xs ≡ n → ((u : ℕ) → get_or xs u 0 ≡ age u) → xs ≡ map age (range_with_len 0 n)
ages-all age n xs size ages = fill_by_all age xs n 0 size (λ k low. ages k)

rows-all : (edge : ℕ → ℕ → Bool) (n : ℕ) (xs : List Bits) → length xs ≡ n → ((t : ℕ) → IsRow edge xs t) → xs ≡ map (λ t. bits_of (edge t)) (range_with_len 0 n)
rows-all edge n xs size right = fill_by_all (λ t. bits_of (edge t)) xs n no_bits size (λ k low. right k)

board-is : (b : Board) (epoch : ℕ) (ages : List ℕ) (rows : List Bits) → b.epoch ≡ epoch → b.ages ≡ ages → b.rows ≡ rows
    → b ≡ record { epoch = epoch; ages = ages; rows = rows }
board-is b epoch ages rows e a r = λ j. record { epoch = e j; ages = a j; rows = r j }

-- each age and each row is right
pub board-all : (hs : Entries) (txn_entries : List (Option TxnEntry)) (epoch : ℕ) (b : Board) → b.epoch ≡ epoch → length b.ages ≡ most_slots
    → length b.rows ≡ most_slots
    → ((u : ℕ) → get_or b.ages u 0 ≡ age_at txn_entries u) → ((t : ℕ) → IsRow (waits_for (shown hs txn_entries 0)) b.rows t)
    → b ≡ board_of (shown hs txn_entries epoch)
board-all hs txn_entries epoch b at ages_len rows_len ages rows =
    board-is b _ _ _ at (ages-all (age_at txn_entries) most_slots b.ages ages_len ages)
    (rows-all (waits_for (shown hs txn_entries 0)) most_slots b.rows rows_len rows)

-- The victim: what is read from the locks is what their state says.

-- a slot that reaches another has a step
first_step : (edge : ℕ → ℕ → Bool) (a b : ℕ) → Reaches edge a b → (x : ℕ) × (edge a x ≡ true)
first_step edge a b r = by r.0 r.1
  where
    by : (path : List ℕ) → IsWalk edge a path b → (x : ℕ) × (edge a x ≡ true)
    by [] h = (b, h)
    by (x ∷ path) h = (x, h.0)

-- a slot on a cycle waits
pub cycle_waits : (s : State) (t v : ℕ) → IsOnCycleOf (waits_for s) t v → is_wait (status_of s v) ≡ true
cycle_waits s t v on = let step = first_step (waits_for s) v t on.back in ap is_wait (step_is s v step.0 step.1).2.waits

-- a victim waits
pub victim_waits : (c : Victims) (s : State) (t v : ℕ) → IsVictim c s t v → is_wait (status_of s v) ≡ true
victim_waits c s t v one = cycle_waits s t v (candidate-on_cycle c (waits_for s) t v one.is_member.is_member)
