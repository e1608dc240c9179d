-- A grant is removed and its node released: the lists agree. For releases.
use Rattle.gl_table.proofs.Words.{◌&&◌, ◌+◌, ◌<◌, ◌==◌, ◌||◌, ◌∙◌, ◌≡◌, ◌≤◌, Active, Agrees, ap, ap₂, arith, Bool, CanStrike, children_down, children_that}
use Rattle.gl_table.proofs.Words.{clash, count_by, counted_by, CountsHeld, false, front_at, front_stands, fun_ext, granted_at, granted_waits, grants_other}
use Rattle.gl_table.proofs.Words.{held_by, held_children, holds, if-true, if◌then◌else◌, in_no_queue, is_among_waiters, is_live, is_wait, IsLawfulGraph}
use Rattle.gl_table.proofs.Words.{IsOrderly, length, List, listed_by, LockList, members, Mode, mode_given, nat_tests, NL, NodeId, not, not_true, number_same}
use Rattle.gl_table.proofs.Words.{parents_of, refl, same_mode, same_node, same_node-refl, same_number, Some, split, State, status_of, Strikes, subst, sym, true}
use Rattle.gl_table.proofs.Words.{unlocked, wait_is, Waiting, WakesLists, well_granted, with_grant, woken_waits, ℕ}
use Rattle.gl_table.proofs.inside.Granted.{agrees_pumped, counts_pumped}
use Rattle.gl_table.proofs.inside.Slots.{none_more}
use Rattle.gl_model.proofs.telling.Between.{left_stands}

-- A grant is removed from a slot that is in no queue, and the node's waiters are granted from the front: what the slot then holds, and that all other lists
-- agree.

module _ (s : State) (t : ℕ) (n : NodeId) where
  held_other : (u : ℕ) → (u == t) ≡ false → (q : NodeId) → (with_grant s t n NL).held u q ≡ s.held u q
  held_other u e q = ap (λ k. if k && same_node q n then NL else s.held u q) e

  -- the slot is granted nothing
  pub unlocked_own : ((q : NodeId) → is_among_waiters t (s.queue q) ≡ false) → (q : NodeId)
      → (unlocked s t n).held t q ≡ (if same_node q n then NL else s.held t q)
  unlocked_own out q =
      grants_other (granted_at (with_grant s t n NL) (same_node n) q) (members (with_grant s t n NL) q) t
      (granted_waits (with_grant s t n NL) t (same_node n) q (out q)) ∙ ap (λ k. if k && same_node q n then NL else s.held t q) (number_same t t refl)

  module _ (o : IsOrderly s) (ls mid : List LockList) (wakes : WakesLists ls n (parents_of s.graph n) (front_at (with_grant s t n NL) n) mid) (u : ℕ)
      (e : (u == t) ≡ false) (agree : Agrees s ls u) where
    pub agrees_unlocked : Agrees (unlocked s t n) mid u
    agrees_unlocked = agrees_pumped (with_grant s t n NL) n (well_granted s o t n NL n) ls mid wakes u (record {
      modes = λ q. agree.modes q ∙ sym (held_other u e q);
      listed = λ q. agree.listed q ∙ ap (λ m. not (same_mode m NL) || is_among_waiters u (s.queue q)) (sym (held_other u e q));
      room = agree.room;
    })

    pub counts_unlocked : IsLawfulGraph s.graph → is_live s.graph n ≡ true → CountsHeld s ls u → CountsHeld (unlocked s t n) mid u
    counts_unlocked law live count =
        counts_pumped (with_grant s t n NL) n (well_granted s o t n NL n) ls mid wakes law live u (agree.modes n ∙ sym (held_other u e n))
        (λ q. count q ∙ ap (λ f. children_that s.graph f q) (fun_ext (λ c. ap (λ m. not (same_mode m NL)) (sym (held_other u e c)))))

-- One node is released: the lists agree with what is left.

module _ (s : State) (o : IsOrderly s) (law : IsLawfulGraph s.graph) (t : ℕ) (n : NodeId) (active : status_of s t ≡ Some Active)
    (live : is_live s.graph n ≡ true) (holding : holds (members s n) t ≡ true)
    (ls mid : List LockList) (agree : (u : ℕ) → Agrees s ls u) (count : (u : ℕ) → CountsHeld s ls u)
    (wakes : WakesLists ls n (parents_of s.graph n) (front_at (with_grant s t n NL) n) mid) where
  abbrev b : State
  b = with_grant s t n NL

  abbrev after : State
  after = unlocked s t n

  out : (q : NodeId) → is_among_waiters t (s.queue q) ≡ false
  out q = in_no_queue s o t (ap is_wait active) q

  not_front : is_among_waiters t (front_at b n) ≡ false
  not_front = not_true _ (λ h. clash (front_stands b n (well_granted s o t n NL n) t h) (out n))

  after_own : (q : NodeId) → after.held t q ≡ (if same_node q n then NL else s.held t q)
  after_own = unlocked_own s t n out

  mode_own : (q : NodeId) → held_by mid t q ≡ s.held t q
  mode_own q = wakes.modes t q ∙ ap (λ k. if k && same_node q n then mode_given (front_at b n) t else held_by ls t q) not_front ∙ (agree t).modes q

  count_own : (p : NodeId) → counted_by mid t p ≡ held_children s t p
  count_own p = grind (arith, nat_tests, wakes.counts t p, not_front, none_more (counted_by ls t p), count t p)

  -- each parent has one held child less
  less : (p : NodeId) → held_children after t p + count_by (same_node p) (parents_of s.graph n) ≡ held_children s t p
  less p = children_down s.graph law (λ c. holds (members s c) t) (λ c. holds (members after c) t) n live holding
      (ap (λ m. not (same_mode m NL)) (after_own n ∙ if-true _ (same_node-refl n)))
      (λ q e. ap (λ m. not (same_mode m NL)) (after_own q ∙ ap (λ k. if k then NL else s.held t q) e)) p

  pub can_strike : t < length mid → held_children s t n ≡ 0 → CanStrike mid t n (parents_of s.graph n)
  can_strike lt none = record {
    slot = lt;
    childless = count_own n ∙ none;
    some = λ q. subst (λ (k : ℕ). count_by (same_node q) (parents_of s.graph n) ≤ k) (sym (count_own q)) (let l = less q in omega arith);
  }

  module _ (ls' : List LockList) (strikes : Strikes mid ls' t n (parents_of s.graph n)) where
    agrees_other : (u : ℕ) → (u == t) ≡ false → Agrees after ls' u
    agrees_other u e =
        let now = agrees_unlocked s t n o ls mid wakes u e (agree u) in
        record {
          modes = λ q. strikes.modes u q ∙ ap (λ k. if k && same_node q n then NL else held_by mid u q) e ∙ now.modes q;
          listed = λ q. strikes.listed u q ∙ ap (λ k. if k && same_node q n then false else listed_by mid u q) e ∙ now.listed q;
          room = λ h. subst (λ (k : ℕ). 9 ≤ k) (sym (strikes.rooms u e)) (now.room h);
        }

    agrees_own : Agrees after ls' t
    agrees_own = record {
      modes = λ q. grind (arith, nat_tests, strikes.modes t q, number_same t t refl, mode_own q, after_own q);
      listed = λ q. strikes.listed t q ∙ ap (λ k. if k && same_node q n then false else listed_by mid t q) (number_same t t refl)
          ∙ ap (λ k. if same_node q n then false else k) (wakes.listed t q ∙ (agree t).listed q ∙ ap (λ k. holds (members s q) t || k) (out q))
          ∙ own (same_node q n) (s.held t q)
          ∙ ap₂ (λ m k. not (same_mode m NL) || k) (sym (after_own q)) (sym (not_true _ (λ h. clash (left_stands b (same_node n) t q h) (out q))));
      room = λ h. let w = wait_is (status_of after t) h in other (sym active ∙ (woken_waits (granted_at b (same_node n)) t w.0 w.1 (s.txns t) w.2).0);
    }
      where
        own : (k : Bool) (m : Mode) → (if k then false else (not (same_mode m NL) || false)) ≡ (not (same_mode (if k then NL else m) NL) || false)
        own k m = grind (arith, nat_tests)

        other : {C : Type 0} {x : NodeId} {m : Mode} → Some Active ≡ Some (Waiting x m) → C
        other e = absurd (cc)

    pub agrees_released : (u : ℕ) → Agrees after ls' u
    agrees_released u = split (u == t) (λ e. subst (Agrees after ls') (sym (same_number u t e)) agrees_own) (λ e. agrees_other u e)

    counts_other : (u : ℕ) → (u == t) ≡ false → CountsHeld after ls' u
    counts_other u e p =
        none_more (counted_by ls' u p) ∙ ap (λ k. counted_by ls' u p + (if k then count_by (same_node p) (parents_of s.graph n) else 0)) (sym e)
        ∙ strikes.counts u p ∙ counts_unlocked s t n o ls mid wakes u e (agree u) law live (count u) p

    counts_own : CountsHeld after ls' t
    counts_own p =
        let now = sym (ap (λ k. counted_by ls' t p + (if k then count_by (same_node p) (parents_of s.graph n) else 0)) (number_same t t refl))
        ∙ strikes.counts t p ∙ count_own p in
        let l = less p in
        omega arith

    pub counts_released : (u : ℕ) → CountsHeld after ls' u
    counts_released u = split (u == t) (λ e. subst (CountsHeld after ls') (sym (same_number u t e)) counts_own) (λ e. counts_other u e)
