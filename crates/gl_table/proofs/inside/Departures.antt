-- A slot leaves its nodes one after the other. For commits, aborts and escalations.
use Rattle.gl_table.proofs.Words.{◌&&◌, ◌+◌, ◌==◌, [], ◌||◌, ◌∙◌, ◌≡◌, Active, after_grants, Agrees, and-false, and-not_self, and-true, and_both, ap, ap₂}
use Rattle.gl_table.proofs.Words.{arith, Bool, cancelled, CanTell, children_down, clash, count_by, CountsHeld, drop, false, front, front_at, front_stands}
use Rattle.gl_table.proofs.Words.{fun_ext, grant_notice, granted_at, granted_waits, grants_other, held_children, holds, if-false, if-true, if◌then◌else◌}
use Rattle.gl_table.proofs.Words.{in_no_queue, is_among_waiters, is_wait, is_waiting_at, IsBetween, IsBySlot, IsLawfulGraph, IsOrderly, length, List, LockList}
use Rattle.gl_table.proofs.Words.{members, Mode, mode_given, nat_tests, NL, nl_is, NodeId, nodes_by, None, not, not_true, notices_in, number_same, Option}
use Rattle.gl_table.proofs.Words.{or-false, or-true, or_comm, parents_of, pumped, refl, released, restatus, same_mode, same_node, same_node-equal}
use Rattle.gl_table.proofs.Words.{same_node-refl, same_node-sym, Some, split, State, Status, status_in, status_of, stripped, subst, sym, Told, told_to, true}
use Rattle.gl_table.proofs.Words.{Txn, TxnId, unlocked, Waiter, Waiting, waiting_is, WakesLists, WakesTold, well_granted, with_grant, with_txn, without_wait}
use Rattle.gl_table.proofs.Words.{without_waiter, woken, woken_front, ℕ}
use Rattle.gl_model.specs.declared.answers.Notice.TheVariants as notice
use Rattle.gl_table.proofs.inside.Released.{agrees_unlocked, counts_unlocked, unlocked_own}
use Rattle.gl_model.proofs.queues.Edits.{without_none}
use Rattle.gl_model.proofs.queues.Fronts.{out_of_own, pumped-pumped, stripped_after}
use Rattle.gl_model.proofs.telling.Fronts.{orderly_unlocked}
use Rattle.gl_model.proofs.telling.GivenUp.{given_up_out, orderly_without, waits_still}
use Rattle.gl_model.proofs.telling.Between.{between_gives_up, between_releases, cancel_tells, release_tells, woken_same}

-- One more node is released by a slot, and its waiters are granted from the front.

-- the state without t's grants on these nodes
abbrev pub taken_from : State → ℕ → (NodeId → Bool) → State
taken_from s t left = record s { held = λ u q. if (u == t) && left q then NL else s.held u q }

-- one more node is released by t, and its waiters are granted from the front
module _ (s : State) (t : ℕ) (c : NodeId) (left : NodeId → Bool) (off : left c ≡ false) where
  abbrev more : NodeId → Bool
  more q = left q || same_node c q

  apart : (q : NodeId) → left q ≡ true → same_node c q ≡ false
  apart q h = not_true _ (λ k. clash (ap left (same_node-equal c q k) ∙ h) off)

  same_front : (q : NodeId) → granted_at (taken_from s t left) left q ≡ granted_at (taken_from s t more) left q
  same_front q = grind (arith, nat_tests, left q, same_node c q)

  same_held : (u : ℕ) (q : NodeId) → (with_grant (pumped (taken_from s t left) left) t c NL).held u q ≡ (pumped (taken_from s t more) left).held u q
  same_held u q = by (left q) (same_node c q) (same_node q c) (same_node-sym q c) (apart q)
    where
      none : (a x : Bool) (m : Mode) → (if a && x then NL else (if a && false then NL else m)) ≡ (if a && (false || x) then NL else m)
      none a x m = grind (arith, nat_tests)

      kept : (a : Bool) (m : Mode) → (if a && false then NL else m) ≡ m
      kept a m = grind (arith, nat_tests)

      by : (b x y : Bool) → y ≡ x → (b ≡ true → x ≡ false) → (if (u == t) && y then NL else after_grants (λ v. if (v == t) && b then NL else s.held v q)
          (if b then front s.most (λ v. if (v == t) && b then NL else s.held v q) (s.queue q) else []) u)
          ≡ after_grants (λ v. if (v == t) && (b || x) then NL else s.held v q)
          (if b then front s.most (λ v. if (v == t) && (b || x) then NL else s.held v q) (s.queue q) else []) u
      by b x y h1 h2 = grind (arith, nat_tests)

  same_taken : with_grant (pumped (taken_from s t left) left) t c NL ≡ pumped (taken_from s t more) left
  same_taken = λ i. record s {
    held = λ u q. same_held u q i;
    queue = λ q. ap (λ ws. drop (length ws) (s.queue q)) (same_front q) i;
    txns = λ u. ap (λ (g : NodeId → List Waiter). woken g u (s.txns u)) (fun_ext same_front) i;
  }

  pub taken_one : (now : State) → now ≡ pumped (taken_from s t left) left → unlocked now t c ≡ pumped (taken_from s t more) more
  taken_one now is =
      ap (λ x. unlocked x t c) is ∙ ap (λ x. pumped x (same_node c)) same_taken ∙ pumped-pumped (taken_from s t more) left (same_node c)
      (λ q. not_true _ (λ h. let both = and_both (left q) (same_node c q) h in clash both.1 (apart q both.0)))

-- To end a wait and then release is to release at once.

-- t's wait is gone, and its status, whichever it was
stripped_wait : (s : State) (t : ℕ) (st : Status) → stripped (without_wait s t st) t ≡ stripped s t
stripped_wait s t st = λ i. record (stripped s t) {
  queue = λ n. without_none t (without_waiter t (s.queue n)) (out_of_own t (s.queue n)) i;
  txns = λ u. by u (u == t) i;
}
  where
    by : (u : ℕ) (b : Bool) → (if b then None else (if b then restatus st (s.txns t) else s.txns u)) ≡ (if b then None else s.txns u)
    by u b = grind (arith, nat_tests)

-- what t's node grants with t's grant there, and then once it is gone, is what it grants at once without t
pub abort_is_release : (s : State) (t : ℕ) → released s t ≡ released (cancelled s t) t
abort_is_release s t =
    ap₂ pumped (sym (stripped_wait s t Active)) (fun_ext (λ n. or_comm (holds (members s n) t) (is_waiting_at s t n)))
    ∙ sym (stripped_after (without_wait s t Active) t (is_waiting_at s t) (λ n. holds (members s n) t) out free)
    ∙ ap (pumped (stripped (cancelled s t) t)) (fun_ext (λ n. sym (ap₂ (λ a b. a || b) (same n) (active n) ∙ or-false (holds (members s n) t))))
  where
    out : (n : NodeId) → is_among_waiters t ((without_wait s t Active).queue n) ≡ false
    out n = out_of_own t (s.queue n)

    free : (n : NodeId) → is_waiting_at s t n ≡ true → holds (members s n) t ≡ false → s.held t n ≡ NL
    free n h k = nl_is (s.held t n) k

    -- t holds what it held, and waits no more
    same : (n : NodeId) → holds (members (cancelled s t) n) t ≡ holds (members s n) t
    same n = ap (λ m. not (same_mode m NL)) (grants_other (granted_at (without_wait s t Active) (is_waiting_at s t) n) (members s n) t
        (granted_waits (without_wait s t Active) t (is_waiting_at s t) n (out n)))

    active : (n : NodeId) → is_waiting_at (cancelled s t) t n ≡ false
    active n = grind (arith, nat_tests, number_same t t refl)

-- A slot that waits for nothing leaves its nodes, one after the other: what holds after each.

-- the nodes that t held in s and holds no more
abbrev pub left_by : State → State → ℕ → NodeId → Bool
left_by s now t q = holds (members s q) t && not (holds (members now q) t)

-- what others are told since they were told this
abbrev pub StillTells : State → State → ℕ → Told → Told → Type 0
StillTells s now t was told =
    (begin : State) → IsBetween begin s → ((u : ℕ) → (u == t) ≡ false → notices_in was u ≡ told_to begin s u)
    → IsBetween begin now × ((u : ℕ) → (u == t) ≡ false → notices_in told u ≡ told_to begin now u)

-- a slot that is in no queue released a node, and the granted waiters were told
module _ (now : State) (o : IsOrderly now) (t : ℕ) (out : (q : NodeId) → is_among_waiters t (now.queue q) ≡ false) (n : NodeId) (told told' : Told)
    (tell : WakesTold now.txns n (front_at (with_grant now t n NL) n) told told') where
  abbrev granted : List Waiter
  granted = front_at (with_grant now t n NL) n

  -- a granted waiter is active
  txn_is : (u : ℕ) → (unlocked now t n).txns u ≡ (if is_among_waiters u granted then restatus Active (now.txns u) else now.txns u)
  txn_is u = woken_front (with_grant now t n NL) n (well_granted now o t n NL n) u

  not_granted : is_among_waiters t granted ≡ false
  not_granted = not_true _ (λ h. clash (front_stands (with_grant now t n NL) n (well_granted now o t n NL n) t h) (out n))

  -- all others are as they were
  same_txn : (u : ℕ) → is_among_waiters u granted ≡ false → (unlocked now t n).txns u ≡ now.txns u
  same_txn u e = txn_is u ∙ ap (λ b. if b then restatus Active (now.txns u) else now.txns u) e

  pub own_txn : (unlocked now t n).txns t ≡ now.txns t
  own_txn = same_txn t not_granted

  pub own_notice : notices_in told' t ≡ notices_in told t
  own_notice = tell.notices t ∙ if-false _ not_granted

  -- a slot that still waits was not granted, and was told nothing
  pub still_untold : ((u : ℕ) → is_wait (status_of now u) ≡ true → notices_in told u ≡ None) → (u : ℕ) → is_wait (status_of (unlocked now t n) u) ≡ true
      → notices_in told' u ≡ None
  still_untold untold u h = split (is_among_waiters u granted) (λ e. clash h (ap (λ x. is_wait (status_in x)) (txn_is u ∙ if-true _ e) ∙ active (now.txns u)))
      (λ e. tell.notices u ∙ if-false _ e ∙ untold u (ap (λ x. is_wait (status_in x)) (sym (same_txn u e)) ∙ h))
    where
      active : (x : Option Txn) → is_wait (status_in (restatus Active x)) ≡ false
      active None = refl
      active (Some x) = refl

  pub still_tells : (s : State) (was : Told) → StillTells s now t was told → StillTells s (unlocked now t n) t was told'
  still_tells s was tells begin between same =
      let so_far = tells begin between same in (
        between_releases begin now t n so_far.0,
        λ u e. tell.notices u ∙ ap₂ (λ x y. if is_among_waiters u granted then x else y)
            (ap (λ (a : ℕ). let name : TxnId = record { slot = u; age = a } in Some (name, notice.Granted n (mode_given granted u))) (so_far.0.ages u))
            (so_far.1 u e) ∙ sym (release_tells begin now t n so_far.0 u e),
      )

-- t left some of the nodes that it held in s: they granted from their fronts at once, all others have what they hold and count, and are told so
pub record IsLeaving (s now : State) (t : ℕ) (ls : List LockList) (was told : Told) : Type 0 where
  pub graph : now.graph ≡ s.graph
  pub orderly : IsOrderly now
  pub most : now.most ≡ s.most
  pub txn : now.txns t ≡ s.txns t
  pub agree : (u : ℕ) → (u == t) ≡ false → Agrees now ls u
  pub count : (u : ℕ) → (u == t) ≡ false → CountsHeld now ls u
  pub less : (q : NodeId) → holds (members now q) t ≡ true → holds (members s q) t ≡ true
  pub left : now ≡ pumped (taken_from s t (left_by s now t)) (left_by s now t)
  pub by_slot : IsBySlot told
  pub untold : (u : ℕ) → is_wait (status_of now u) ≡ true → notices_in told u ≡ None
  pub own : notices_in told t ≡ notices_in was t
  pub tells : StillTells s now t was told

-- at the beginning nothing is left
pub leaving_begins : (s : State) (t : ℕ) (ls : List LockList) (told : Told) → IsOrderly s → ((u : ℕ) → (u == t) ≡ false → Agrees s ls u)
    → ((u : ℕ) → (u == t) ≡ false → CountsHeld s ls u) → CanTell told (λ u. is_wait (status_of s u)) → IsLeaving s s t ls told told
leaving_begins s t ls told o agree count tell = record {
  graph = refl;
  orderly = o;
  most = refl;
  txn = refl;
  agree = agree;
  count = count;
  less = λ q h. h;
  left = nothing ∙ ap (λ f. pumped (taken_from s t f) f) (fun_ext (λ q. sym (and-not_self (holds (members s q) t))));
  by_slot = tell.by_slot;
  untold = tell.untold;
  own = refl;
  tells = λ begin between same. (between, same);
}
  where
    -- if no node grants, nothing changes
    nothing : s ≡ pumped (taken_from s t (λ q. false)) (λ q. false)
    nothing = λ i. record s {
      held = λ u q. by (u == t) (s.held u q) i;
      txns = λ u. sym (woken_same (λ q. []) u (λ q. refl) (s.txns u)) i;
    }
      where
        by : (b : Bool) (m : Mode) → m ≡ (if b && false then NL else m)
        by b m = grind (arith, nat_tests)

module _ {s now : State} {t : ℕ} {ls : List LockList} {was told : Told} (is : IsLeaving s now t ls was told) (quiet : is_wait (status_of s t) ≡ false) where
  pub leaving_out : (q : NodeId) → is_among_waiters t (now.queue q) ≡ false
  leaving_out = in_no_queue now is.orderly t (ap (λ x. is_wait (status_in x)) is.txn ∙ quiet)

  module _ (n : NodeId) (holding : holds (members now n) t ≡ true) where
    -- t holds what it held, except n
    pub held_after : (q : NodeId) → (unlocked now t n).held t q ≡ (if same_node q n then NL else now.held t q)
    held_after = unlocked_own now t n leaving_out

    pub holds_after : (q : NodeId) → holds (members (unlocked now t n) q) t ≡ (holds (members now q) t && not (same_node q n))
    holds_after q = ap (λ m. not (same_mode m NL)) (held_after q) ∙ grind (arith, nat_tests, same_node q n)

    holds_still : (q : NodeId) → holds (members (unlocked now t n) q) t ≡ true → holds (members now q) t ≡ true
    holds_still q h = (and_both (holds (members now q) t) (not (same_node q n)) (sym (holds_after q) ∙ h)).0

    holds_no_more : holds (members (unlocked now t n) n) t ≡ false
    holds_no_more = holds_after n ∙ ap (λ b. holds (members now n) t && not b) (same_node-refl n) ∙ and-false (holds (members now n) t)

    -- one node more is left
    pub left_same : (q : NodeId) → (left_by s now t q || same_node n q) ≡ left_by s (unlocked now t n) t q
    left_same q = by (same_node n q) refl
      where
        more_same : (a b : Bool) → ((a && not b) || false) ≡ (a && not (b && not false))
        more_same a b = grind (arith, nat_tests)

        by : (b : Bool) → same_node n q ≡ b → (left_by s now t q || b) ≡ left_by s (unlocked now t n) t q
        by true e =
            or-true (left_by s now t q) ∙ sym (ap₂ (λ a x. a && not x) (ap (λ x. holds (members s x) t) (sym (same_node-equal n q e)) ∙ is.less n holding)
            (holds_after q ∙ ap (λ b. holds (members now q) t && not b) (same_node-sym q n ∙ e) ∙ and-false (holds (members now q) t)))
        by false e = grind (arith, nat_tests, more_same (holds (members s q) t) (holds (members now q) t), holds_after q, same_node-sym q n, e)

    left_more : unlocked now t n ≡ pumped (taken_from s t (left_by s (unlocked now t n) t)) (left_by s (unlocked now t n) t)
    left_more =
        taken_one s t n (left_by s now t) (ap (λ b. holds (members s n) t && not b) holding ∙ and-false (holds (members s n) t)) now is.left
        ∙ ap (λ f. pumped (taken_from s t f) f) (fun_ext left_same)

    -- each parent has one held child less
    pub fewer_held : IsLawfulGraph now.graph → (p : NodeId)
        → held_children (unlocked now t n) t p + count_by (same_node p) (parents_of now.graph n) ≡ held_children now t p
    fewer_held law p = children_down now.graph law (λ x. holds (members now x) t) (λ x. holds (members (unlocked now t n) x) t) n
        (is.orderly.holders_live t n holding) holding holds_no_more
        (λ q e. ap (λ m. not (same_mode m NL)) (held_after q ∙ ap (λ k. if k then NL else now.held t q) e)) p

    -- the list of t has its nodes in the order in which it had them
    pub leaving_order : {mid ls' : List LockList} → WakesLists mid n (parents_of now.graph n) (front_at (with_grant now t n NL) n) ls'
        → nodes_by ls' t ≡ nodes_by mid t
    leaving_order wakes =
        wakes.orders t (not_true _ (λ h. clash (front_stands (with_grant now t n NL) n (well_granted now is.orderly t n NL n) t h) (leaving_out n)))

    -- the node was released, while the list of t was written or out of its place
    pub leaving_one : {mid ls' : List LockList} {told' : Told} → IsLawfulGraph now.graph → ((u : ℕ) → (u == t) ≡ false → Agrees now mid u)
        → ((u : ℕ) → (u == t) ≡ false → CountsHeld now mid u) → WakesLists mid n (parents_of now.graph n) (front_at (with_grant now t n NL) n) ls'
        → WakesTold now.txns n (front_at (with_grant now t n NL) n) told told' → IsLeaving s (unlocked now t n) t ls' was told'
    leaving_one {mid} {ls'} {told'} law agree count wakes woken = record {
      graph = is.graph;
      orderly = orderly_unlocked now is.orderly t n;
      most = is.most;
      txn = own_txn now is.orderly t leaving_out n told told' woken ∙ is.txn;
      agree = λ u e. agrees_unlocked now t n is.orderly mid ls' wakes u e (agree u e);
      count = λ u e. counts_unlocked now t n is.orderly mid ls' wakes u e (agree u e) law (is.orderly.holders_live t n holding) (count u e);
      less = λ q h. is.less q (holds_still q h);
      left = left_more;
      by_slot = woken.by_slot;
      untold = still_untold now is.orderly t leaving_out n told told' woken is.untold;
      own = own_notice now is.orderly t leaving_out n told told' woken ∙ is.own;
      tells = still_tells now is.orderly t leaving_out n told told' woken s was is.tells;
    }

  -- a slot that no longer holds anything released all that it held, and is released except its name
  module _ (begun : IsOrderly s) (none : (q : NodeId) → holds (members now q) t ≡ false) where
    -- the nodes that grant as t is released
    abbrev all : NodeId → Bool
    all n = holds (members s n) t || is_waiting_at s t n

    left_all : (q : NodeId) → left_by s now t q ≡ all q
    left_all q = ap (λ b. holds (members s q) t && not b) (none q) ∙ and-true (holds (members s q) t) ∙ sym (or-false (holds (members s q) t))
        ∙ ap (λ b. holds (members s q) t || b) (sym (not_true (is_waiting_at s t q) (λ h. clash (ap is_wait (waiting_is (status_of s t) q h).1) quiet)))

    -- to remove all grants of t and then its name is to strip the state of t, which is in no queue
    named : with_txn (taken_from s t all) t None ≡ stripped s t
    named = λ i. record (stripped s t) {
      held = λ u q. by u q (u == t) refl (all q) refl i;
      queue = λ q. sym (without_none t (s.queue q) (stood q)) i;
    }
      where
        -- a slot that does not wait is in no queue
        stood : (q : NodeId) → is_among_waiters t (s.queue q) ≡ false
        stood = in_no_queue s begun t quiet

        by : (u : ℕ) (q : NodeId) (b : Bool) → (u == t) ≡ b → (k : Bool) → all q ≡ k → (if b && k then NL else s.held u q) ≡ (if b then NL else s.held u q)
        by u q b h1 h2 h3 = grind (arith, nat_tests)

    -- with a name or without, the same is granted
    last : with_txn (pumped (taken_from s t all) all) t None ≡ pumped (with_txn (taken_from s t all) t None) all
    last = λ i. record (pumped (taken_from s t all) all) { txns = λ u. by u (u == t) i }
      where
        by : (u : ℕ) (b : Bool) → (if b then None else woken (granted_at (taken_from s t all) all) u (s.txns u))
            ≡ woken (granted_at (taken_from s t all) all) u (if b then None else s.txns u)
        by u b = grind (arith, nat_tests)

    pub left_released : released s t ≡ with_txn now t None
    left_released = sym (ap (λ x. with_txn x t None) is.left ∙ ap (λ f. with_txn (pumped (taken_from s t f) f) t None) (fun_ext left_all) ∙ last
        ∙ ap (λ x. pumped x all) named)

-- A wait is cancelled by its own transaction, or by its end: what all others are told.

-- t does not wait now, its release is what it was, and all others are told up to now
pub record IsFree (s now : State) (t : ℕ) (was told : Told) : Type 0 where
  pub orderly : IsOrderly now
  pub quiet : is_wait (status_of now t) ≡ false
  pub untold : (u : ℕ) → is_wait (status_of now u) ≡ true → notices_in told u ≡ None
  pub released : released now t ≡ released s t
  pub own : notices_in told t ≡ notices_in was t
  pub tells : StillTells s now t was told

-- the same by other names
pub free_same : (s now now' : State) (t : ℕ) (was told told' : Told) → now' ≡ now → told' ≡ told → IsFree s now t was told → IsFree s now' t was told'
free_same s now now' t was told told' e k is = subst (λ (x : State). IsFree s x t was told') (sym e) (subst (λ (xs : Told). IsFree s now t was xs) (sym k) is)

-- if it does not wait, nothing is cancelled
pub free_idle : (s : State) (t : ℕ) (told : Told) → IsOrderly s → is_wait (status_of s t) ≡ false
    → ((u : ℕ) → is_wait (status_of s u) ≡ true → notices_in told u ≡ None) → IsFree s s t told told
free_idle s t told o quiet untold = record {
  orderly = o;
  quiet = quiet;
  untold = untold;
  released = refl;
  own = refl;
  tells = λ begin between same.
      (between, same);
}

-- a transaction that cancelled its wait does not wait
pub cancelled_idle : (s : State) (t : ℕ) → is_wait (status_of (cancelled s t) t) ≡ false
cancelled_idle s t = grind (arith, nat_tests, number_same t t refl)

module _ (s : State) (o : IsOrderly s) (t : ℕ) (n : NodeId) (waits : is_waiting_at s t n ≡ true) (was told : Told)
    (wakes : WakesTold s.txns n (front_at (without_wait s t Active) n) was told) where
  abbrev in_front : ℕ → Bool
  in_front u = is_among_waiters u (front_at (without_wait s t Active) n)

  wait : (m : Mode) × (status_of s t ≡ Some (Waiting n m))
  wait = waiting_is (status_of s t) n waits

  -- it is told nothing of it
  pub cancelled_own : notices_in told t ≡ notices_in was t
  cancelled_own = grind (arith, nat_tests, wakes.notices t, given_up_out s o t n Active (λ q m e. cc) waits)

  -- all granted others are told
  pub cancelled_tells : StillTells s (cancelled s t) t was told
  cancelled_tells begin between same = (
    between_gives_up begin s t n wait.0 Active (λ q m e. cc) wait.1 between,
    λ u e. wakes.notices u ∙ ap₂ (λ x y. if in_front u then x else y) (ap (λ (a : ℕ). let name : TxnId = record { slot = u; age = a } in
        Some (name, notice.Granted n (mode_given (front_at (without_wait s t Active) n) u))) (between.ages u)) (same u e)
        ∙ sym (cancel_tells begin s t n wait.0 wait.1 between u e),
  )

  -- so it can leave
  pub free_cancelled : ((u : ℕ) → is_wait (status_of s u) ≡ true → notices_in was u ≡ None) → IsFree s (cancelled s t) t was told
  free_cancelled untold = record {
    orderly = orderly_without s o t Active (is_waiting_at s t) (λ q m e. cc);
    quiet = cancelled_idle s t;
    untold = λ u h. let still = waits_still s o t n Active (λ q m e. cc) waits u h in
        wakes.notices u ∙ ap (λ k. if k then grant_notice s.txns n (front_at (without_wait s t Active) n) u else notices_in was u) still.1 ∙ untold u still.2;
    released = sym (abort_is_release s t);
    own = cancelled_own;
    tells = cancelled_tells;
  }
