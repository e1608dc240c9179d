-- The last deadlock, while its rows are written and while a slot is settled. For deadlocks.
use Rattle.gl_model.proofs.Words.{◌&&◌, ◌++◌, ◌<◌, ◌==◌, [], ◌||◌, ◌↔◌, ◌∙◌, ◌∷◌, ◌≡◌, ◌≤◌, All-nil, All-push, All-same, all_pairs_push, AllPairs, and_both, ap}
use Rattle.gl_model.proofs.Words.{ap₂, arith, Bool, candidate-on_cycle, clash, condemned, Deadlock, false, get_or, has_row, has_slot, HasNoSlot, IsDeadlock}
use Rattle.gl_model.proofs.Words.{IsLowest, IsOnCycleOf, IsStuck, IsTrue, IsVictim, IsWalk, length, length-append, List, list_any, list_any-append, name_at}
use Rattle.gl_model.proofs.Words.{nat_tests, not, not-true, or_elim, or_right, reaches_join, RowsLeadOn, same_number, Settled, SettledWithin, SettlesKeeping}
use Rattle.gl_model.proofs.Words.{SettlesKeepingWithin, Slots, Some, State, status_of, Stuck, subst, suc, sym, true, VictimHasRow, Victims, Waiting, waits_for}
use Rattle.gl_model.proofs.Words.{zero, ℕ}
use Rattle.std.specs.List.{All}

-- The last deadlock, while its rows are written.

-- the row is of this slot
abbrev is_of : ℕ → Stuck → Bool
is_of u r = r.txn.slot == u

-- the deadlock of t as far as its rows are written: those of the cycle have rows or remain, and those that remain have slots above all rows
pub record IsKeptBut (s : State) (t v : ℕ) (cycle left : Slots) (d : Deadlock) : Type 0 where
  pub victim : d.victim ≡ name_at s v
  pub rows : All (IsStuck s t) d.cycle.items
  pub parts : (u : ℕ) → has_slot cycle u ≡ (has_row d u || has_slot left u)
  pub rising : AllPairs (λ (r q : Stuck). r.txn.slot < q.txn.slot) d.cycle.items
  pub below : (u : ℕ) → has_slot left u ≡ true → All (λ (r : Stuck). r.txn.slot < u) d.cycle.items
  pub few : (u : ℕ) → has_slot left u ≡ true → length d.cycle.items ≤ u

module _ (s : State) (t v : ℕ) (cycle : Slots) (of : (u : ℕ) → IsTrue (has_slot cycle u) ↔ IsOnCycleOf (waits_for s) t u) where
  -- nothing is written but the victim
  pub kept-none : (d : Deadlock) → d.victim ≡ name_at s v → d.cycle.items ≡ [] → IsKeptBut s t v cycle cycle d
  kept-none d victim none = record {
    victim = victim;
    rows = All-same (IsStuck s t) d.cycle.items [] none (All-nil (IsStuck s t));
    parts = λ u. sym (ap (λ rs. list_any (is_of u) rs || has_slot cycle u) none);
    rising = subst (AllPairs (λ (r q : Stuck). r.txn.slot < q.txn.slot)) (sym none) (λ i j d lt low. absurd (omega arith));
    below = λ u h. All-same (λ (r : Stuck). r.txn.slot < u) d.cycle.items [] none (All-nil (λ (r : Stuck). r.txn.slot < u));
    few = λ u h. subst (λ (rs : List Stuck). length rs ≤ u) (sym none) (omega arith);
  }

  -- one that remains is on the cycle
  pub left-on_cycle : (left : Slots) (k : ℕ) (d : Deadlock) → has_slot left k ≡ true → IsKeptBut s t v cycle left d → IsOnCycleOf (waits_for s) t k
  left-on_cycle left k d here so = (of k).0 (so.parts k ∙ or_right (has_row d k) (has_slot left k) here)

  -- one row more
  module _ (left rest : Slots) (k : ℕ) (lowest : IsLowest left k) (taken : (u : ℕ) → has_slot rest u ≡ (has_slot left u && not (u == k))) (d d' : Deadlock)
      (r : Stuck) (so : IsKeptBut s t v cycle left d) where
    -- one that remains now remained before, and has a slot above the row's
    still : (u : ℕ) → has_slot rest u ≡ true → (has_slot left u ≡ true) × (k < u)
    still u h =
        let both = and_both (has_slot left u) (not (u == k)) (sym (taken u) ∙ h) in
        (both.0, above (λ low. clash both.0 (lowest.none_below u low)) (not-true (u == k) both.1))
      where
        above : (u < k → ⊥) → (u == k) ≡ false → k < u
        above low e = grind (arith, nat_tests)

    pub kept-more : r.txn ≡ name_at s k → status_of s k ≡ Some (Waiting r.node r.wanted)
        → ((u : ℕ) → has_slot r.waits_for u ≡ (waits_for s k u && has_slot cycle u))
        → d'.victim ≡ d.victim → d'.cycle.items ≡ d.cycle.items ++ r ∷ [] → IsKeptBut s t v cycle rest d'
    kept-more name waits row as_was more = record {
      victim = as_was ∙ so.victim;
      rows = All-same (IsStuck s t) d'.cycle.items _ more (All-push (IsStuck s t) d.cycle.items r so.rows stuck);
      parts = λ u. grind (arith, nat_tests, so.parts u, moved u, more, list_any-append (is_of u) d.cycle.items (r ∷ []));
      rising = subst (AllPairs (λ (q p : Stuck). q.txn.slot < p.txn.slot)) (sym more)
          (all_pairs_push (λ (q p : Stuck). q.txn.slot < p.txn.slot) d.cycle.items r so.rising
          (λ i e low. subst (λ (n : ℕ). (get_or d.cycle.items i e).txn.slot < n) (sym slot) (so.below k lowest.member i e low)));
      below = λ u h. All-same (λ (q : Stuck). q.txn.slot < u) d'.cycle.items _ more
          (All-push (λ (q : Stuck). q.txn.slot < u) d.cycle.items r (so.below u (still u h).0) (subst (λ (n : ℕ). n < u) (sym slot) (still u h).1));
      few = λ u h. let above = (still u h).1 in let size = so.few k lowest.member in let long = ap length more ∙ length-append d.cycle.items (r ∷ []) in
          omega arith;
    }
      where
        slot : r.txn.slot ≡ k
        slot = ap (λ n. n.slot) name

        stuck : IsStuck s t r
        stuck = record {
          on_cycle = subst (IsOnCycleOf (waits_for s) t) (sym slot) (left-on_cycle left k d lowest.member so);
          name = name ∙ ap (name_at s) (sym slot);
          waits = ap (status_of s) slot ∙ waits;
          waits_for = λ u. (
            (λ h. let both = and_both (waits_for s k u) (has_slot cycle u) (sym (row u) ∙ h) in ((of u).0 both.1, ap (λ n. waits_for s n u) slot ∙ both.0)),
            (λ h. row u ∙ ap₂ (λ a b. a && b) (sym (ap (λ n. waits_for s n u) slot) ∙ h.1) ((of u).1 h.0)),
          );
        }

        moved : (u : ℕ) → (has_row d u || has_slot left u) ≡ ((has_row d u || list_any (is_of u) (r ∷ [])) || has_slot rest u)
        moved u = grind (arith, nat_tests, has_row d u, has_slot left u, has_slot left, same_number)

-- when nobody is left, it is the deadlock
pub kept-all : (s : State) (t v : ℕ) (cycle left : Slots) (d : Deadlock) → ((u : ℕ) → IsTrue (has_slot cycle u) ↔ IsOnCycleOf (waits_for s) t u)
    → HasNoSlot left → IsKeptBut s t v cycle left d → IsDeadlock s t v d
kept-all s t v cycle left d of none so = record {
  victim = so.victim;
  rows = so.rows;
  whole = λ u on. or_elim (has_row d u) (has_slot left u) (sym (so.parts u) ∙ (of u).1 on) (λ h. h) (λ h. clash h (none u));
  rising = so.rising;
}

-- the next step round a cycle
pub onward : (edge : ℕ → ℕ → Bool) (t k : ℕ) → IsOnCycleOf edge t k → (u : ℕ) × (edge k u ≡ true) × IsOnCycleOf edge t u
onward edge t k on = by on.back.0 on.back.1
  where
    by : (path : List ℕ) → IsWalk edge k path t → (u : ℕ) × (edge k u ≡ true) × IsOnCycleOf edge t u
    by [] h = let round = reaches_join edge t k t on.there ([], h) in (t, h, record { there = round; back = round })
    by (u ∷ path) h = (u, h.0, record { there = reaches_join edge t k u on.there ([], h.0); back = (path, h.1) })

pub rows_lead_on : RowsLeadOn
rows_lead_on s t v d is = λ i r low.
    let row = is.rows i r low in
    let next = onward (waits_for s) t (get_or d.cycle.items i r).txn.slot row.on_cycle in
    (next.0, (row.waits_for next.0).1 (next.2, next.1), is.whole next.0 next.2)

pub victim_has_row : VictimHasRow
victim_has_row c s t v d victim is = is.whole v (candidate-on_cycle c (waits_for s) t v victim.is_member.is_member)

-- The loop that settles a slot: what holds between its victims.

-- to settle t after a victim whose deadlock is recorded is to settle it before
pub keeping_turn : (c : Victims) (s now s' : State) (t v : ℕ) (d e d' : Deadlock) → IsVictim c s t v → IsDeadlock s t v e → now ≡ condemned s v
    → SettlesKeeping c now t e s' d' → SettlesKeeping c s t d s' d'
keeping_turn c s now s' t v d e d' victim kept is rest = (suc rest.0, (v, e, victim, kept, subst (λ x. SettlesKeepingWithin c rest.0 x t e s' d') is rest.1))

keeping_settles : (c : Victims) (t : ℕ) (s' : State) (d' : Deadlock) (k : ℕ) (s : State) (d : Deadlock) → SettlesKeepingWithin c k s t d s' d'
    → SettledWithin c k s t s'
keeping_settles c t s' d' zero s d h = (h.0, h.1)
keeping_settles c t s' d' (suc k) s d h = (h.0, h.2, keeping_settles c t s' d' k (condemned s h.0) h.1 h.4)

-- to settle and record is to settle
pub settles-keeping : (c : Victims) (s : State) (t : ℕ) (d : Deadlock) (s' : State) (d' : Deadlock) → SettlesKeeping c s t d s' d' → Settled c s t s'
settles-keeping c s t d s' d' h = (h.0, keeping_settles c t s' d' h.0 s d h.1)
