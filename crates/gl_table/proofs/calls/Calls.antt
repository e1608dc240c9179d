-- What the calls on the locks make of a table, and what tests a request passes. For the calls that release, and the locks that test.
use Rattle.gl_table.proofs.Words.{◌&&◌, ◌<◌, ◌==◌, [], ◌∙◌, ◌∷◌, ◌≡◌, ⊎_elim, Active, active_untold, ap, AreSound, arith, bad_mode, Bool, cases_lt, clash}
use Rattle.gl_table.proofs.Words.{commit_tests, condemned, Deadlock, Detect, false, File, first_refusal, front_at, front_stands, get_or, grant_notice, Graph}
use Rattle.gl_table.proofs.Words.{HasNoCycle, held_child, held_children, holds, if◌then◌else◌, in_no_queue, Inner, Inside, is_among_waiters, is_child, is_live}
use Rattle.gl_table.proofs.Words.{is_some, is_wait, IsBetween, IsDeadlock, IsLawful, IsOrderly, IsSound, IsStuck, IsVictim, keys, lawful_orderly, Ledger}
use Rattle.gl_table.proofs.Words.{length, List, lock_tests, Locks, members, Mode, nat_tests, need_parents, NL, nobody_told, Node, NodeId, nodes, None}
use Rattle.gl_table.proofs.Words.{none_some, not, not_false, not_held, not_refused, not_true, Ok, Option, passed_then, Rec, refl, Refusal, refused_first}
use Rattle.gl_table.proofs.Words.{released, same_number, Settled, SettledWithin, SettlesKeeping, SettlesKeepingWithin, slice_get_past, Some, some_no_node}
use Rattle.gl_table.proofs.Words.{split, State, state_at, state_of, state_on, status_in, status_of, Stuck, subst, suc, sym, TableView, test_fails, Told, told}
use Rattle.gl_table.proofs.Words.{told_is, told_to, true, txn_in, TxnEntry, TxnId, txns_of, unlocked, verdict, Victims, view_of, WakesTold, wanted}
use Rattle.gl_table.proofs.Words.{well_granted, where_true, with_grant, zero, ℕ}
use Rattle.gl_table.proofs.calls.Queries.{none_found_counted}
use Rattle.gl_model.proofs.law.Lock.{released-no_cycle, unlocked-lawful, unlocked-no_cycle}
use Rattle.gl_model.proofs.law.Takes.{released-lawful}
use Rattle.gl_model.proofs.telling.Between.{between_begins, release_tells}
use Rattle.gl_modes.specs.declared.refusal.Refusal.TheVariants as no
use Rattle.gl_graph.specs.declared.kind.Kind.{Kind}
use Rattle.gl_graph.specs.Graph.{shape_in}
use Rattle.gl_graph.specs.Shapes.{Index, Interval, kind_in, Shape}

-- What the calls on the locks make of a table.

-- a test that passed
pub test_passed : (o : Option Refusal) (x : Unit {0}) → Ok x ≡ verdict o → o ≡ None
test_passed None x h = refl
test_passed (Some r) x h = absurd (cc)

-- a transaction that passed the tests of a commit is active
pub is_active : (s : State) (t : TxnId) → first_refusal (commit_tests s t) ≡ None → status_of s t.slot ≡ Some Active
is_active s t h = grind (arith, nat_tests)

module _ (i : Inside) (sound : IsSound i) where
  abbrev s : State
  s = state_of (view_of i)

  -- the locks alone, as a state
  abbrev l : State
  l = state_at i.locks

  -- a transaction that passed the tests of an unlock holds the node and no child of it
  pub may_unlock : (v : TableView) → view_of i ≡ v → (t : TxnId) (n : NodeId) (x y : Unit {0}) → Ok x ≡ verdict (first_refusal (commit_tests (state_of v) t))
      → Ok y ≡ verdict (first_refusal (not_held (state_of v) t.slot n ∷ held_child (state_of v) t.slot n ∷ []))
      → (status_of s t.slot ≡ Some Active) × (holds (members s n) t.slot ≡ true) × (held_child s t.slot n ≡ None) × (held_children s t.slot n ≡ 0)
  may_unlock v view t n x y a b =
      let back = λ (w : TableView). (status_of (state_of w) t.slot ≡ Some Active) × (holds (members (state_of w) n) t.slot ≡ true)
      × (held_child (state_of w) t.slot n ≡ None) × (held_children (state_of w) t.slot n ≡ 0) in
      let first = not_refused (not_held (state_of v) t.slot n) _ (test_passed _ y b) in
      let second = not_refused (held_child (state_of v) t.slot n) [] first.1 in
      subst back (sym view) (
        is_active (state_of v) t (test_passed _ x a),
        not_false _ (test_fails _ _ first.0),
        second.0,
        none_found_counted (λ c. is_child (state_of v).graph n c && holds (members (state_of v) c) t.slot) (nodes (state_of v).graph) second.0,
      )

  -- one node was released, of which no child was held
  module _ (t : ℕ) (n : NodeId) (active : status_of s t ≡ Some Active) (childless : held_child s t n ≡ None) (locks : Locks)
      (is : state_at locks ≡ unlocked l t n) where
    abbrev after : Inside
    after = record i { locks = locks }

    pub state_unlocked : state_of (view_of after) ≡ unlocked s t n
    state_unlocked = ap {A = State} (λ x. record x { detect = i.detect; victims = i.victims; begins = i.begins }) is

    pub sound_unlocked : IsSound after
    sound_unlocked = record {
      lawful = subst IsLawful (sym state_unlocked) (unlocked-lawful s sound.lawful t n active childless);
      no_cycle = λ at. subst HasNoCycle (sym state_unlocked) (unlocked-no_cycle s sound.lawful t n active childless (sound.no_cycle at));
    }

    pub told_unlocked : (list : Told) → WakesTold l.txns n (front_at (with_grant l t n NL) n) [] list → list ≡ told s (state_of (view_of after))
    told_unlocked list tells =
        told_is s (state_of (view_of after)) list sound.lawful i.locks.sound.few tells.by_slot
        (λ u. tells.notices u ∙ noticed u ∙ sym (ap (λ x. told_to s x u) state_unlocked))
      where
        noticed : (u : ℕ) → (if is_among_waiters u (front_at (with_grant s t n NL) n) then grant_notice s.txns n (front_at (with_grant s t n NL) n) u else None)
            ≡ told_to s (unlocked s t n) u
        noticed u = split (u == t) (λ e. ap (λ b. if b then grant_notice s.txns n (front_at (with_grant s t n NL) n) u else None)
            (ap (λ v. is_among_waiters v (front_at (with_grant s t n NL) n)) (same_number u t e) ∙ not_front)
            ∙ sym (active_untold s (unlocked s t n) u (ap (status_of s) (same_number u t e) ∙ active)))
            (λ e. ap (λ o. if is_among_waiters u (front_at (with_grant s t n NL) n) then grant_notice s.txns n (front_at (with_grant s t n NL) n) u else o)
            (sym (nobody_told s u)) ∙ sym (release_tells s s t n (between_begins s sound.lawful) u e))
          where
            o : IsOrderly s
            o = lawful_orderly s sound.lawful

            not_front : is_among_waiters t (front_at (with_grant s t n NL) n) ≡ false
            not_front = not_true _ (λ h. clash (front_stands (with_grant s t n NL) n (well_granted s o t n NL n) t h) (in_no_queue s o t (ap is_wait active) n))

  -- what is told since a table's state begins at its locks
  pub table_between : IsBetween s l
  table_between = let w = between_begins s sound.lawful in record {
    graph = refl;
    ages = w.ages;
    waited = w.waited;
    waits_are = w.waits_are;
    one_wait = w.one_wait;
    live = w.live;
  }

  -- a transaction ended
  module _ (t : ℕ) (locks : Locks) (is : state_at locks ≡ released l t) where
    abbrev ended : Inside
    ended = record i { locks = locks }

    pub state_released : state_of (view_of ended) ≡ released s t
    state_released = ap {A = State} (λ x. record x { detect = i.detect; victims = i.victims; begins = i.begins }) is

    pub sound_released : IsSound ended
    sound_released = record {
      lawful = subst IsLawful (sym state_released) (released-lawful s sound.lawful t);
      no_cycle = λ at. subst HasNoCycle (sym state_released) (released-no_cycle s sound.lawful t (sound.no_cycle at));
    }

-- Settling reads neither detection, choice of victims nor the number of begins of the state, in which a table's state differs from that of its locks.

module _ (c : Victims) (t : ℕ) (d : Detect) (v : Victims) (b : ℕ) where
  -- the state, with these
  abbrev pub over : State → State
  over x = record x { detect = d; victims = v; begins = b }

  victim_on : (w : Victims) (x : State) (u : ℕ) → IsVictim w x t u → IsVictim w (over x) t u
  victim_on w x u h = h

  pub settled_on : (k : ℕ) (x x' : State) → SettledWithin c k x t x' → SettledWithin c k (over x) t (over x')
  settled_on zero x x' h = (h.0, ap over h.1)
  settled_on (suc k) x x' h = (h.0, victim_on c x h.0 h.1, settled_on k (condemned x h.0) x' h.2)

  -- in as many turns as are needed
  pub settled_also : (x x' : State) → Settled c x t x' → Settled c (over x) t (over x')
  settled_also x x' h = (h.0, settled_on h.0 x x' h.1)

  stuck_on : (x : State) (r : Stuck) → IsStuck x t r → IsStuck (over x) t r
  stuck_on x r h = record { on_cycle = h.on_cycle; name = h.name; waits = h.waits; waits_for = h.waits_for }

  deadlock_on : (x : State) (u : ℕ) (e : Deadlock) → IsDeadlock x t u e → IsDeadlock (over x) t u e
  deadlock_on x u e h = record {
    victim = h.victim;
    rows = λ k r low. stuck_on x (get_or e.cycle.items k r) (h.rows k r low);
    whole = h.whole;
    rising = h.rising;
  }

  keeping_on : (k : ℕ) (x x' : State) (e e' : Deadlock) → SettlesKeepingWithin c k x t e x' e' → SettlesKeepingWithin c k (over x) t e (over x') e'
  keeping_on zero x x' e e' h = (h.0, ap over h.1, h.2)
  keeping_on (suc k) x x' e e' h = (h.0, h.1, victim_on c x h.0 h.2, deadlock_on x h.0 h.1 h.3, keeping_on k (condemned x h.0) x' h.1 e' h.4)

  -- nor does what is kept of deadlocks
  pub keeping_also : (x x' : State) (e e' : Deadlock) → SettlesKeeping c x t e x' e' → SettlesKeeping c (over x) t e (over x') e'
  keeping_also x x' e e' h = (h.0, keeping_on h.0 x x' e e' h.1)

-- The tests of a request: what refuses it, and what remains to be tested once some have passed. For the locks that test.

-- an active transaction has an entry
active_has_entry : (txn_entries : List (Option TxnEntry)) (t : ℕ) → status_in (txns_of txn_entries t) ≡ Some Active → t < length txn_entries
active_has_entry txn_entries t h =
    ⊎_elim (λ lt. lt) (λ le. absurd (none_some (sym (ap (λ o. status_in (txn_in o)) (slice_get_past txn_entries t le)) ∙ h))) (cases_lt t (length txn_entries))

-- a transaction that may request has a list
pub requester_listed : (g : Graph) (l : Ledger) (t : TxnId) → AreSound l → first_refusal (commit_tests (state_on g l) t) ≡ None → t.slot < length l.lists.items
requester_listed g l t sound may = subst (λ (k : ℕ). t.slot < k) (sym sound.lists)
    (active_has_entry l.txn_entries.items t.slot (is_active (state_on g l) t may))

-- a node lives if it has a kind
live_kind : (x : Option Node) → is_some x ≡ is_some (kind_in (shape_in x))
live_kind None = refl
live_kind (Some x) = kinded x.shape
  where
    kinded : (h : Shape) → true ≡ is_some (kind_in (Some h))
    kinded Inner = refl
    kinded (File adopted) = refl
    kinded (Index file bounds intervals) = refl
    kinded Interval = refl
    kinded (Rec keys) = refl

pub live_by : (x : Option Node) (k : Kind) → Some k ≡ kind_in (shape_in x) → is_some x ≡ true
live_by x k is = live_kind x ∙ sym (ap is_some is)

pub dead_by : (x : Option Node) → None ≡ kind_in (shape_in x) → is_some x ≡ false
dead_by x is = live_kind x ∙ sym (ap is_some is)

one_test : (o : Option Refusal) → first_refusal (o ∷ []) ≡ o
one_test None = refl
one_test (Some r) = refl

module _ (s : State) (t : TxnId) (n : NodeId) (m : Mode) where
  -- the rule of the graph
  abbrev rule : Option Refusal
  rule = need_parents s t.slot n (wanted s t.slot n m)

  -- a transaction that may not request at all is refused
  pub requester_refused : (r : Refusal) → first_refusal (commit_tests s t) ≡ Some r → first_refusal (lock_tests s t n m) ≡ Some r
  requester_refused r h = refused_first (commit_tests s t) (some_no_node s.graph (n ∷ []) ∷ bad_mode s n m ∷ rule ∷ []) r h

  module _ (may : first_refusal (commit_tests s t) ≡ None) where
    node_decides : (b : Bool) → is_live s.graph n ≡ b
        → first_refusal (lock_tests s t n m) ≡ first_refusal (where_true (not (b && true)) no.NoSuchNode ∷ bad_mode s n m ∷ rule ∷ [])
    node_decides b is = grind (arith, nat_tests, passed_then (commit_tests s t) (some_no_node s.graph (n ∷ []) ∷ bad_mode s n m ∷ rule ∷ []) may, is)

    pub node_refused : is_live s.graph n ≡ false → first_refusal (lock_tests s t n m) ≡ Some no.NoSuchNode
    node_refused dead = node_decides false dead

    module _ (live : is_live s.graph n ≡ true) where
      pub mode_refused : bad_mode s n m ≡ Some no.BadMode → first_refusal (lock_tests s t n m) ≡ Some no.BadMode
      mode_refused bad = node_decides true live ∙ ap (λ o. first_refusal (o ∷ rule ∷ [])) bad

      -- only the rule of the graph is left to be tested
      pub rule_decides : bad_mode s n m ≡ None → first_refusal (lock_tests s t n m) ≡ rule
      rule_decides good = node_decides true live ∙ ap (λ o. first_refusal (o ∷ rule ∷ [])) good ∙ one_test rule
