-- The snapshot of every manager is fine: its waits are the waits of the state.
use Rattle.gl_window.proofs.Words.{◌&&◌, ◌<◌, ◌∙◌, ◌≡◌, ◌≤◌, age_of, ap, are_compatible, arith, AtBlock, blocks, board_of, Bool, clash, false, Fine, holds}
use Rattle.gl_window.proofs.Words.{is_some, IsLawful, IsLawfulManager, lawful_orderly, ManagerView, members, most_slots, not, not-true, number_same, refl}
use Rattle.gl_window.proofs.Words.{ShowsWaits, split, State, state_of, status_of, subst, sym, true, waits_for, ℕ}
use Rattle.std.proofs.Math.Path.{fun_ext}
use Rattle.std.proofs.lemmas.List.FromFn.{get_or-map-range_with_len}
use Rattle.gl_modes.proofs.ModeLemmas.{NL-compatible}
use Rattle.gl_modes.proofs.Words.{or_elim}
use Rattle.gl_waits.specs.Boards.{age_in, board_edge}
use Rattle.gl_waits.specs.Waits.{IsOnNoCycle}
use Rattle.gl_waits.proofs.BoardLemmas.{shown_rows-edge}
use Rattle.gl_model.specs.State.{HasNoCycle}
use Rattle.gl_model.proofs.law.Edges.{step_is}
use Rattle.gl_model.proofs.law.Keeps.{nl_is, txn_there}
use Rattle.gl_model.proofs.telling.Fronts.{waits_there}
use Rattle.gl_model.proofs.queues.Waiters.{ahead_is, ahead_second}

module _ (s : State) (law : IsLawful s) (few : s.most ≤ most_slots) where
  -- a waiter lives, and so does the transaction for which it waits
  waiter_lives : (x y : ℕ) → waits_for s x y ≡ true → is_some (s.txns x) ≡ true
  waiter_lives x y h = txn_there (s.txns x) _ (step_is s x y h).2.waits

  pub awaited_lives : (x y : ℕ) → waits_for s x y ≡ true → is_some (s.txns y) ≡ true
  awaited_lives x y h =
      let o = lawful_orderly s law in
      let st = step_is s x y h in let n = st.0 in
      or_elim _ _ st.2.blocked
      (λ b. split (holds (members s n) y)
      (λ k. o.holders y n k)
      (λ k. clash (ap (are_compatible st.1) (nl_is (s.held y n) k) ∙ NL-compatible st.1) (not-true _ b)))
      (λ b. txn_there (s.txns y) _ (waits_there s o y n (ahead_second (s.queue n) x y (sym (ahead_is (s.queue n) x y) ∙ b))).1)

  -- so both slots are below the limit
  low : (x y : ℕ) → waits_for s x y ≡ true → (x < most_slots) × (y < most_slots)
  low x y h =
      let o = lawful_orderly s law in
      let a = o.below x (waiter_lives x y h) in let b = o.below y (awaited_lives x y h) in (omega (arith, a, few), omega (arith, b, few))

  -- the waits in the snapshot are those of the state
  edges : (x y : ℕ) → board_edge (board_of s) x y ≡ waits_for s x y
  edges x y = shown_rows-edge most_slots (waits_for s) low x y

  pub edges_are : board_edge (board_of s) ≡ waits_for s
  edges_are = fun_ext (λ x. fun_ext (λ y. edges x y))

  -- the snapshot shows the age of each slot that it has
  age_shown : (x : ℕ) → x < most_slots → age_in (board_of s) x ≡ age_of s x
  age_shown x inside = get_or-map-range_with_len (age_of s) 0 most_slots x x 0 inside (omega arith)

  -- so it shows the waits
  pub shows_waits : ShowsWaits s (board_of s)
  shows_waits = record { waits = edges; ages = λ x y h. let inside = low x y h in (age_shown x inside.0, age_shown y inside.1) }

  aged : (x : ℕ) → x < most_slots → is_some (s.txns x) ≡ true → 0 < age_in (board_of s) x
  aged x inside there = let a = (law.ages x there).0 in let e = age_shown x inside in omega (arith, a, e)

  none_self : (x : ℕ) → waits_for s x x ≡ false
  none_self x = ap (λ b. not b && blocks s x x (status_of s x)) (number_same x x refl)

  pub fine_state : (s.detect ≡ AtBlock → HasNoCycle s) → Fine s.detect (board_of s)
  fine_state calm = record {
    self = λ x. edges x x ∙ none_self x;
    free = λ x y h.
        let w : waits_for s x y ≡ true = sym (edges x y) ∙ h in
        let inside = low x y w in (
          aged x inside.0 (waiter_lives x y w),
          aged y inside.1 (awaited_lives x y w),
        );
    calm = λ is x. subst (λ (e : ℕ → ℕ → Bool). IsOnNoCycle e x) (sym edges_are) (calm is x);
  }

-- the snapshot of a lawful manager
pub fine_board : (m : ManagerView) → IsLawfulManager m → Fine m.table.detect (board_of (state_of m))
fine_board m law = fine_state (state_of m) law.lawful law.few law.no_cycle
