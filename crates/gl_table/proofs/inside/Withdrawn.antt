-- A wait is withdrawn: the lists agree, and fewer wait. For cancels and victims.
use Rattle.gl_table.proofs.Words.{◌&&◌, ◌<◌, ◌==◌, [], ◌||◌, ◌∙◌, ◌∷◌, ◌≡◌, ◌≤◌, Agrees, ap, ap₂, arith, Bool, children_that, clash, cond, Condemned, condemned}
use Rattle.gl_table.proofs.Words.{count_by, count_cons, count_of, counted_by, CountsHeld, false, front_at, front_stands, fun_ext, granted_at, grants_other}
use Rattle.gl_table.proofs.Words.{held_by, held_children, holds, if-false, if-true, if◌then◌else◌, is_among_waiters, is_listed, is_live, is_wait, is_waiting_at}
use Rattle.gl_table.proofs.Words.{IsLawfulGraph, IsOrderly, length, length-set, List, list_any, listed_by, LockList, members, mode_given, mode_of, nat_tests}
use Rattle.gl_table.proofs.Words.{NL, NodeId, not, not_true, number_same, or_elim, other_number, out_of_without, parents_of, pumped, refl, room_by, same}
use Rattle.gl_table.proofs.Words.{same_mode, same_mode-equal, same_node, same_node-equal, same_node-sym, same_number, slice_index_or, slice_set, slots, spare}
use Rattle.gl_table.proofs.Words.{split, stands_there, State, Status, status_in, status_of, subst, sym, true, txn_there, wait_is, Waiter, waiting_is, WaitWell}
use Rattle.gl_table.proofs.Words.{WakesLists, without_wait, without_waiter, woken_waits, ℕ}
use Rattle.gl_table.proofs.inside.Granted.{agrees_pumped, counts_pumped}
use Rattle.gl_table.proofs.inside.Slots.{by_list-at, by_list-kept, by_list-set, none_more}
use Rattle.gl_model.proofs.law.Settle.{waiting}
use Rattle.gl_model.proofs.law.Takes.{IsQuiet, restatus_quiet}
use Rattle.gl_model.proofs.queues.Edits.{without_filter}
use Rattle.gl_model.proofs.queues.Waiters.{among_waits, some_wait}
use Rattle.gl_model.proofs.queues.Walks.{in_range}
use Rattle.gl_model.proofs.telling.Fronts.{between_here, stands_only, well_without}
use Rattle.gl_model.proofs.telling.GivenUp.{between_withdrawn}
use Rattle.gl_model.proofs.telling.Between.{granted_stands, left_stands, without_wait_other, without_wait_own}

-- One wait ends: the lists agree with what is left.

-- the list of t has n only if t holds it; all else that the lists say is as it was
pub record Unlists (ls ls' : List LockList) (t : ℕ) (n : NodeId) : Type 0 where
  pub len : length ls' ≡ length ls
  pub modes : (u : ℕ) (q : NodeId) → held_by ls' u q ≡ held_by ls u q
  pub listed : (u : ℕ) (q : NodeId) → listed_by ls' u q ≡ (if (u == t) && same_node q n then not (same_mode (held_by ls t n) NL) else listed_by ls u q)
  pub counts : (u : ℕ) (q : NodeId) → counted_by ls' u q ≡ counted_by ls u q
  pub rooms : (u : ℕ) → (u == t) ≡ false → room_by ls' u ≡ room_by ls u

-- a list that has a node if it holds it
only_held : (l : LockList) (n : NodeId) → same_mode (mode_of l n) NL ≡ false → (q : NodeId)
    → is_listed l q ≡ (if same_node q n then not (same_mode (mode_of l n) NL) else is_listed l q)
only_held l n h q = grind (arith, nat_tests, same_node-equal)

-- and one from which a node was removed that it did not hold
unheld_left : (l l' : LockList) (n : NodeId) → same_mode (mode_of l n) NL ≡ true → ((q : NodeId) → is_listed l' q ≡ (is_listed l q && not (same_node q n)))
    → (q : NodeId) → is_listed l' q ≡ (if same_node q n then not (same_mode (mode_of l n) NL) else is_listed l q)
unheld_left l l' n h left q = left q ∙ by (is_listed l q) (same_node q n) ∙ ap (λ k. if same_node q n then not k else is_listed l q) (sym h)
  where
    by : (a b : Bool) → (a && not b) ≡ (if b then false else a)
    by a b = grind (arith, nat_tests)

-- if a node was removed that was not held, the modes are the same
unheld_modes : (l : LockList) (n : NodeId) → same_mode (mode_of l n) NL ≡ true → (q : NodeId) → (if same_node q n then NL else mode_of l q) ≡ mode_of l q
unheld_modes l n h q = grind (arith, nat_tests, same_mode-equal, same_node-equal)

module _ (ls : List LockList) (t : ℕ) (n : NodeId) (l : LockList) (lt : t < length ls) (at : l ≡ slice_index_or ls t l) where
  module _ (l' : LockList) where
    -- a list is written that says the same, but has n only if it holds it
    unlists_set : ((q : NodeId) → mode_of l' q ≡ mode_of l q)
        → ((q : NodeId) → is_listed l' q ≡ (if same_node q n then not (same_mode (mode_of l n) NL) else is_listed l q))
        → ((q : NodeId) → count_of l' q ≡ count_of l q) → Unlists ls (slice_set ls t l') t n
    unlists_set modes listed counts = record {
      len = length-set ls t l';
      modes = λ u q. by_list-kept ls t l lt at l' (λ x. mode_of x q) NL (modes q) u;
      listed = λ u q. by_list-set ls t l' lt (λ x. is_listed x q) false u ∙ split (u == t) (λ e. if-true _ e ∙ listed q
          ∙ ap₂ (λ m k. if same_node q n then not (same_mode m NL) else k) (sym (by_list-at (λ x. mode_of x n) NL ls t l lt at))
          (sym (ap (λ v. listed_by ls v q) (same_number u t e) ∙ by_list-at (λ x. is_listed x q) false ls t l lt at))
          ∙ ap (λ k. if k && same_node q n then not (same_mode (held_by ls t n) NL) else listed_by ls u q) (sym e)) (λ e. if-false _ e
          ∙ ap (λ k. if k && same_node q n then not (same_mode (held_by ls t n) NL) else listed_by ls u q) (sym e));
      counts = λ u q. by_list-kept ls t l lt at l' (λ x. count_of x q) 0 (counts q) u;
      rooms = λ u e. by_list-set ls t l' lt (λ x. spare x.loose) 0 u ∙ ap (λ k. if k then spare l'.loose else room_by ls u) e;
    }

    pub unlists_left : same_mode (mode_of l n) NL ≡ true → ((q : NodeId) → mode_of l' q ≡ (if same_node q n then NL else mode_of l q))
        → ((q : NodeId) → is_listed l' q ≡ (is_listed l q && not (same_node q n))) → ((q : NodeId) → count_of l' q ≡ count_of l q)
        → Unlists ls (slice_set ls t l') t n
    unlists_left h modes listed counts = unlists_set (λ q. modes q ∙ unheld_modes l n h q) (unheld_left l l' n h listed) counts

  pub unlists_held : same_mode (mode_of l n) NL ≡ false → Unlists ls (slice_set ls t l) t n
  unlists_held h = unlists_set l (λ q. refl) (only_held l n h) (λ q. refl)

-- all others keep their places in the queue
pub others_among : (t u : ℕ) (ws : List Waiter) → (u == t) ≡ false → is_among_waiters u (without_waiter t ws) ≡ is_among_waiters u ws
others_among t u ws e = among_waits u (without_waiter t ws) ∙ ap some_wait (without_filter t u ws (other_number u t e)) ∙ sym (among_waits u ws)

module _ (s : State) (o : IsOrderly s) (law : IsLawfulGraph s.graph) (t : ℕ) (n : NodeId) (st : Status) (quiet : IsQuiet st)
    (waits : is_waiting_at s t n ≡ true) (ls mid : List LockList) (agree : (u : ℕ) → Agrees s ls u) (count : (u : ℕ) → CountsHeld s ls u)
    (wakes : WakesLists ls n (parents_of s.graph n) (front_at (without_wait s t st) n) mid) where
  abbrev b : State
  b = without_wait s t st

  abbrev after : State
  after = pumped b (same_node n)

  well : WaitWell b n
  well = well_without s o t st n

  -- a slot that left is in no queue, and is not granted
  out : (q : NodeId) → is_among_waiters t (b.queue q) ≡ false
  out q = not_true _ (λ h. (out_of_without t t (s.queue q) h).1 refl)

  not_granted : (q : NodeId) → is_among_waiters t (granted_at b (same_node n) q) ≡ false
  not_granted q = not_true _ (λ h. clash (granted_stands b (same_node n) t q h) (out q))

  not_front : is_among_waiters t (front_at b n) ≡ false
  not_front = not_true _ (λ h. clash (front_stands b n well t h) (out n))

  after_own : (q : NodeId) → after.held t q ≡ s.held t q
  after_own q = grants_other (granted_at b (same_node n) q) (members b q) t (not_granted q)

  mode_own : (q : NodeId) → held_by mid t q ≡ s.held t q
  mode_own q = wakes.modes t q ∙ ap (λ k. if k && same_node q n then mode_given (front_at b n) t else held_by ls t q) not_front ∙ (agree t).modes q

  count_own : (p : NodeId) → counted_by mid t p ≡ held_children s t p
  count_own p = grind (arith, nat_tests, wakes.counts t p, not_front, none_more (counted_by ls t p), count t p)

  -- its list has room to count the node apart
  pub room_left : 0 < room_by mid t
  room_left = let nine = subst (λ (k : ℕ). 9 ≤ k) (sym (wakes.rooms t not_front)) ((agree t).room (ap is_wait (waiting_is (status_of s t) n waits).1)) in
      omega arith

  module _ (ls' : List LockList) (unlists : Unlists mid ls' t n) where
    agrees_other : (u : ℕ) → (u == t) ≡ false → Agrees after ls' u
    agrees_other u e =
        let now = agrees_pumped b n well ls mid wakes u (record {
          modes = (agree u).modes;
          listed = λ q. (agree u).listed q ∙ ap (λ k. holds (members s q) u || k) (sym (others_among t u (s.queue q) e));
          room = λ h. (agree u).room (ap (λ x. is_wait (status_in x)) (sym (without_wait_other s t st u e)) ∙ h);
        }) in
        record {
          modes = λ q. unlists.modes u q ∙ now.modes q;
          listed = λ q. unlists.listed u q ∙ ap (λ k. if k && same_node q n then not (same_mode (held_by mid t n) NL) else listed_by mid u q) e ∙ now.listed q;
          room = λ h. subst (λ (k : ℕ). 9 ≤ k) (sym (unlists.rooms u e)) (now.room h);
        }

    agrees_own : Agrees after ls' t
    agrees_own = record {
      modes = λ q. unlists.modes t q ∙ mode_own q ∙ sym (after_own q);
      listed = λ q. unlists.listed t q ∙ ap (λ k. if k && same_node q n then not (same_mode (held_by mid t n) NL) else listed_by mid t q) (number_same t t refl)
          ∙ split (same_node q n) (λ e. if-true _ e
          ∙ ap (λ m. not (same_mode m NL)) (mode_own n ∙ ap (s.held t) (sym (same_node-equal q n e))) ∙ only (holds (members s q) t))
          (λ e. if-false _ e ∙ wakes.listed t q ∙ (agree t).listed q
          ∙ ap (λ k. holds (members s q) t || k) (stands_only s o t n waits q (same_node-sym n q ∙ e)))
          ∙ ap₂ (λ m k. not (same_mode m NL) || k) (sym (after_own q)) (sym (not_true _ (λ h. clash (left_stands b (same_node n) t q h) (out q))));
      room = λ h. let w = wait_is (status_of after t) h in
          absurd (restatus_quiet st quiet (s.txns t) w.0 w.1 (ap status_in (sym (without_wait_own s t st))
          ∙ (woken_waits (granted_at b (same_node n)) t w.0 w.1 (b.txns t) w.2).0));
    }
      where
        only : (k : Bool) → k ≡ (k || false)
        only k = grind (arith, nat_tests)

    pub agrees_withdrawn : (u : ℕ) → Agrees after ls' u
    agrees_withdrawn u = split (u == t) (λ e. subst (Agrees after ls') (sym (same_number u t e)) agrees_own) (λ e. agrees_other u e)

    pub counts_withdrawn : (u : ℕ) → CountsHeld after ls' u
    counts_withdrawn u = split (u == t) (λ e. subst (CountsHeld after ls') (sym (same_number u t e)) own) (λ e p. unlists.counts u p
        ∙ counts_pumped b n well ls mid wakes law live u ((agree u).modes n) (count u) p)
      where
        live : is_live s.graph n ≡ true
        live = o.waiters_live t n (stands_there s o t n waits)

        own : CountsHeld after ls' t
        own p = unlists.counts t p ∙ count_own p ∙ ap (λ f. children_that s.graph f p) (fun_ext (λ c. ap (λ m. not (same_mode m NL)) (sym (after_own c))))

-- Each victim leaves fewer that wait.

-- what one number adds to a count
abbrev one_if : Bool → ℕ
one_if b = cond b 1 0

one_if_more : (a b : Bool) → (b ≡ true → a ≡ true) → one_if b ≤ one_if a
one_if_more a b h1 = grind (arith, nat_tests)

-- of the numbers that pass p only some pass q, so not more, and fewer if v passes p alone
module _ (p q : ℕ → Bool) (sub : (u : ℕ) → q u ≡ true → p u ≡ true) where
  count_le : (xs : List ℕ) → count_by q xs ≤ count_by p xs
  count_le [] = omega arith
  count_le (x ∷ xs) = let here = one_if_more (p x) (q x) (sub x) in let le = count_le xs in omega (arith, count_cons q x xs, count_cons p x xs)

  count_less : (v : ℕ) (xs : List ℕ) → list_any (same v) xs ≡ true → p v ≡ true → q v ≡ false → count_by q xs < count_by p xs
  count_less v [] h pv qv = clash h refl
  count_less v (x ∷ xs) h pv qv = or_elim (same v x) (list_any (same v) xs) h
      (λ e. let none = ap one_if (ap q (sym (same_number v x e)) ∙ qv) in let one = ap one_if (ap p (sym (same_number v x e)) ∙ pv) in let le = count_le xs in
      omega (arith, count_cons q x xs, count_cons p x xs))
      (λ k. let here = one_if_more (p x) (q x) (sub x) in let lt = count_less v xs k pv qv in omega (arith, count_cons q x xs, count_cons p x xs))

-- how many wait
abbrev pub how_many_wait : State → ℕ
how_many_wait s = count_by (waiting s) (slots s)

pub fewer_wait : (s : State) → IsOrderly s → (v : ℕ) → waiting s v ≡ true → how_many_wait (condemned s v) < how_many_wait s
fewer_wait s o v h = count_less (waiting s) (waiting (condemned s v)) still v (slots s) (in_range v 0 s.most (omega arith) (let lt = low in omega arith)) h gone
  where
    low : v < s.most
    low = o.below v (txn_there (s.txns v) _ (wait_is (status_of s v) h).2)

    -- a slot that still waits waited before
    still : (u : ℕ) → waiting (condemned s v) u ≡ true → waiting s u ≡ true
    still u k = let w = wait_is (status_of (condemned s v) u) k in
        ap is_wait ((between_withdrawn s s v Condemned (is_waiting_at s v) (λ q m e. cc) (between_here s o)).waited u w.0 w.1 w.2)

    gone : waiting (condemned s v) v ≡ false
    gone = not_true _ (λ k. let w = wait_is (status_of (condemned s v) v) k in
        restatus_quiet Condemned (λ q m e. cc) (s.txns v) w.0 w.1 (ap status_in (sym (without_wait_own s v Condemned))
        ∙ (woken_waits (granted_at (without_wait s v Condemned) (is_waiting_at s v)) v w.0 w.1 ((without_wait s v Condemned).txns v) w.2).0))
