-- A transaction rolls back to a mark in the order of its list: what holds after each node that it releases. For that call.
use Rattle.gl_table.proofs.Words.{◌&&◌, ◌+◌, ◌++◌, ◌==◌, [], ◌||◌, ◌∙◌, ◌∷◌, ◌≡◌, ◌≤◌, Active, Agrees, any_counted, ap, arith, Bool, CanTell, clash, counted_by}
use Rattle.gl_table.proofs.Words.{CountsHeld, false, front_at, front_stands, held_children, holds, holds_child, in_no_queue, is_among_waiters, is_child}
use Rattle.gl_table.proofs.Words.{is_wait, IsOrderly, LeavesPlace, length, List, listed_by, LockList, members, nat_lt, nat_tests, NL, NodeId, nodes, nodes_by}
use Rattle.gl_table.proofs.Words.{not_true, notices_in, or-false, parents_of, refl, slice_get, Some, State, status_of, subst, sym, take, TellsOthers, Told}
use Rattle.gl_table.proofs.Words.{true, unlocked, Unlocks, WakesLists, WakesTold, well_granted, with_grant, ℕ}
use Rattle.std.proofs.lemmas.List.{length-append, length_push, take-take}
use Rattle.gl_model.proofs.telling.Unlocks.{active_stays, unlocks_append, unlocks_between}
use Rattle.gl_table.proofs.inside.Departures.{own_notice, still_tells, still_untold, StillTells}

-- What the list of an active slot says of its node.

module _ (s : State) (o : IsOrderly s) (t : ℕ) (active : status_of s t ≡ Some Active) (ls : List LockList) (agree : Agrees s ls t) (count : CountsHeld s ls t)
    (n : NodeId) where
  abbrev held_child_of : NodeId → NodeId → Bool
  held_child_of p c = is_child s.graph p c && holds (members s c) t

  -- what is listed is held
  pub listed_held : listed_by ls t n ≡ true → holds (members s n) t ≡ true
  listed_held listed =
      sym (or-false (holds (members s n) t)) ∙ ap (λ b. holds (members s n) t || b) (sym (in_no_queue s o t (ap is_wait active) n)) ∙ sym (agree.listed n)
      ∙ listed

  -- if no child is counted, none is held
  pub none_held : counted_by ls t n ≡ 0 → (held_children s t n ≡ 0) × (holds_child s t n ≡ false)
  none_held none = let no_child : held_children s t n ≡ 0 = sym (count n) ∙ none in
      (no_child, sym (any_counted (held_child_of n) (nodes s.graph)) ∙ ap (nat_lt 0) no_child)

  -- and if some are, one is
  pub some_held : (counted_by ls t n == 0) ≡ false → holds_child s t n ≡ true
  some_held some = sym (any_counted (held_child_of n) (nodes s.graph)) ∙ positive (held_children s t n) (ap (λ k. k == 0) (sym (count n)) ∙ some)
    where
      positive : (k : ℕ) → (k == 0) ≡ false → nat_lt 0 k ≡ true
      positive k h = grind (arith, nat_tests)

-- a node that is released leaves its place in the list, with any grants
pub place_left : (s : State) → IsOrderly s → (t : ℕ) → status_of s t ≡ Some Active → (n : NodeId) → holds (members s n) t ≡ true
    → {ls mid : List LockList} → Agrees s ls t → WakesLists ls n (parents_of s.graph n) (front_at (with_grant s t n NL) n) mid
    → {order' : List NodeId} → (listed_by mid t n ≡ true → LeavesPlace n (nodes_by mid t) order') → LeavesPlace n (nodes_by ls t) order'
place_left s o t active n held {ls} {mid} agree wakes {order'} leaves =
    subst (λ (order : List NodeId). LeavesPlace n order order') (wakes.orders t not_granted) (leaves listed)
  where
    not_granted : is_among_waiters t (front_at (with_grant s t n NL) n) ≡ false
    not_granted = not_true _ (λ h. clash (front_stands (with_grant s t n NL) n (well_granted s o t n NL n) t h) (in_no_queue s o t (ap is_wait active) n))

    listed : listed_by mid t n ≡ true
    listed = wakes.listed t n ∙ agree.listed n ∙ ap (λ b. b || is_among_waiters t (s.queue n)) held

-- t rolled back from s, with its nodes in this order, and now has that one: nodes were unlocked, none of those before the mark, and all others were told
pub record IsGoingBack (s now : State) (t mark : ℕ) (order order' : List NodeId) (was told : Told) : Type 0 where
  pub active : status_of now t ≡ Some Active
  pub gone : List NodeId
  pub unlocks : Unlocks s t gone now
  pub before : take mark order' ≡ take mark order
  pub fewer : length order' + length gone ≡ length order
  pub tell : CanTell told (λ u. is_wait (status_of now u))
  pub own : notices_in told t ≡ notices_in was t
  pub tells : StillTells s now t was told

-- at the beginning nothing is unlocked
pub back_begins : (s : State) (t mark : ℕ) (order : List NodeId) (told : Told) → status_of s t ≡ Some Active → CanTell told (λ u. is_wait (status_of s u))
    → IsGoingBack s s t mark order order told told
back_begins s t mark order told active tell = record {
  active = active;
  gone = [];
  unlocks = refl;
  before = refl;
  fewer = omega arith;
  tell = tell;
  own = refl;
  tells = λ begin between same. (between, same);
}

module _ {s now : State} {t mark : ℕ} {order order' : List NodeId} {was told : Told} (is : IsGoingBack s now t mark order order' was told) where
  -- one more node was released, with a place not before the mark
  pub back_one : IsOrderly now → (n : NodeId) → holds (members now n) t ≡ true → holds_child now t n ≡ false → (at : ℕ) → mark ≤ at
      → slice_get order' at ≡ Some n → {order'' : List NodeId} → LeavesPlace n order' order'' → {told' : Told}
      → WakesTold now.txns n (front_at (with_grant now t n NL) n) told told' → IsGoingBack s (unlocked now t n) t mark order order'' was told'
  back_one o n held childless at le there {order''} leaves {told'} woken =
      let out = in_no_queue now o t (ap is_wait is.active) in
      record {
        active = active_stays now o t n is.active;
        gone = is.gone ++ n ∷ [];
        unlocks = unlocks_append s now (unlocked now t n) t is.gone (n ∷ []) is.unlocks (held, childless, refl);
        before = sym (take-take mark at order'' le) ∙ ap (take mark) (leaves.before at there) ∙ take-take mark at order' le ∙ is.before;
        fewer = let more = length_push is.gone n in let less = leaves.fewer in let so_far = is.fewer in omega arith;
        tell = record { by_slot = woken.by_slot; untold = still_untold now o t out n told told' woken is.tell.untold };
        own = own_notice now o t out n told told' woken ∙ is.own;
        tells = still_tells now o t out n told told' woken s was is.tells;
      }

  -- and a pass more was made
  pub back_pass : {now' : State} (ns : List NodeId) → Unlocks now t ns now' → {k : ℕ} → k ≡ length ns → status_of now' t ≡ Some Active
      → {order'' : List NodeId} → take mark order'' ≡ take mark order' → length order'' + k ≡ length order' → {told' : Told}
      → CanTell told' (λ u. is_wait (status_of now' u)) → TellsOthers t now now' told told' → IsGoingBack s now' t mark order order'' was told'
  back_pass {now'} ns unlocks count active before fewer tell tells = record {
    active = active;
    gone = is.gone ++ ns;
    unlocks = unlocks_append s now now' t is.gone ns is.unlocks unlocks;
    before = before ∙ is.before;
    fewer = let all = length-append is.gone ns in let so_far = is.fewer in omega arith;
    tell = tell;
    own = tells.own ∙ is.own;
    tells = λ begin between same. let so_far = is.tells begin between same in
        (unlocks_between begin now now' t ns unlocks so_far.0, tells.others begin so_far.0 so_far.1);
  }

  -- what others are told of it
  pub back_tells : TellsOthers t s now was told
  back_tells = record { by_slot = is.tell.by_slot; others = λ begin between same. (is.tells begin between same).1; own = is.own }
