-- The locks on a node are removed: the lists agree. For nodes that are removed.
use Rattle.gl_table.proofs.Words.{◌&&◌, ◌+◌, ◌==◌, [], ◌||◌, ◌∙◌, ◌≡◌, ◌≤◌, Active, Agrees, and-false, and_both, ap, ap₂, arith, as_left, books_of, Bool}
use Rattle.gl_table.proofs.Words.{CanEnd, CanStrike, CanTellWaiters, children_down, children_that, clash, cond, count_by, count_none, count_same, count_there}
use Rattle.gl_table.proofs.Words.{counted_by, CountsHeld, departed, false, freed, fun_ext, Graph, graph_of, held_children, holds, if-false, if-true}
use Rattle.gl_table.proofs.Words.{if◌then◌else◌, in_no_queue, is_among_waiters, is_child, is_live, is_record_shape, is_wait, is_waiting_at, IsLawfulGraph}
use Rattle.gl_table.proofs.Words.{IsLeftTo, IsWritten, Ledger, List, list_any, live_node, LockList, MayAct, members, Mode, nat_tests, NL, node_at, NodeId}
use Rattle.gl_table.proofs.Words.{nodes, nodes_live, None, not, not_true, number_same, Option, parent_plain, parents_in, parents_of, rec_live, rec_not_plain}
use Rattle.gl_table.proofs.Words.{refl, restatus, same_mode, same_node, same_node-equal, same_node-refl, same_number, shape_of, Some, split, stands_other}
use Rattle.gl_table.proofs.Words.{stands_there, State, state_in, status_in, status_of, Strikes, subst, sym, Told, true, Txn, View, waiters_below, waits_at}
use Rattle.gl_table.proofs.Words.{AreAgreed}
use Rattle.gl_table.specs.inside.Steps.{CanEvict, IsLeftAloneTo}
use Rattle.gl_table.proofs.Words.{waits_there, was_there, with_grant, without_node, ℕ}
use Rattle.gl_table.proofs.inside.Marked.{list_there}
use Rattle.gl_model.proofs.queues.Edits.{freed_other}
use Rattle.gl_table.proofs.inside.Slots.{none_if, none_more}
use Rattle.gl_table.proofs.inside.Woken.{agrees_given_up}
use Rattle.gl_model.proofs.telling.Fronts.{distinct_once}

-- no node is a child of a record
pub record-childless : (g : Graph) → IsLawfulGraph g → (r : NodeId) → is_record_shape (shape_of g r) ≡ true → (f : NodeId → Bool) → children_that g f r ≡ 0
record-childless g law r rec f = count_none (is_live g) (λ c. is_child g r c && f c) (nodes g) (nodes_live g)
    (λ c live. ap (λ b. b && f c) (not_true (is_child g r c) (λ h. rec_not_plain (shape_of g r) rec (parent_plain g law c r h))))

-- if the removed record does not pass the test, as many children of a node pass it as did
pub children-left : (g : Graph) (law : IsLawfulGraph g) (r : NodeId) → is_record_shape (shape_of g r) ≡ true → (f : NodeId → Bool) → f r ≡ false → (p : NodeId)
    → children_that (without_node g r) f p ≡ children_that g f p
children-left g law r rec f none p =
    let same : children_that (without_node g r) f p ≡ count_by (λ c. is_child g p c && f c) (nodes (without_node g r))
    = count_same (is_live (without_node g r)) (λ c. is_child g p c && f c) (λ c. is_child (without_node g r) p c && f c) (nodes (without_node g r))
    (nodes_live (without_node g r)) (λ c h. let n = live_node (node_at (without_node g r) c) h in
    ap (λ o. list_any (same_node p) (parents_in o) && f c) (n.1 ∙ sym (was_there g law r rec c n.0 n.1))) in
    let all : children_that g f p ≡ count_by (λ c. is_child g p c && f c) (nodes (without_node g r)) + 0
    = count_there g law r (rec_live g law r rec) (λ c. is_child g p c && f c)
    ∙ ap (λ b. count_by (λ c. is_child g p c && f c) (nodes (without_node g r)) + cond b 1 0) (ap (λ b. is_child g p r && b) none
    ∙ and-false (is_child g p r)) in
    omega arith

-- a waiter at the node is active, and all others are as they were
freed_here : (r : NodeId) (x : Option Txn) → waits_at (status_in x) r ≡ true → freed r x ≡ restatus Active x
freed_here r None h = clash h refl
freed_here r (Some x) h = grind (arith, nat_tests)

-- the slot is active and alone holds the node, of which no child is counted
pub record MayEvict (g : View) (l : Ledger) (t : ℕ) (r : NodeId) : Type 0 where
  pub agreed : AreAgreed g l
  pub active : status_of (state_in g l) t ≡ Some Active
  pub left : IsLeftAloneTo (state_in g l) t r
  pub counts : CanEvict l.lists.items t r (parents_of (graph_of g) r)

module _ {g : View} {l : Ledger} {t : ℕ} {r : NodeId} (may : MayEvict g l t r) where
  abbrev s : State
  s = state_in g l

  abbrev ls : List LockList
  ls = l.lists.items

  abbrev after : State
  after = departed s (λ q. same_node q r) s.graph

  pub can_strike : CanStrike ls t r (parents_of s.graph r)
  can_strike = record {
    slot = list_there l (graph_of g) may.agreed.sound may.agreed.orderly t may.active;
    childless = may.counts.childless t;
    some = may.counts.some;
  }

  pub txns_freed : (u : ℕ) → (if is_among_waiters u (s.queue r) then restatus Active (s.txns u) else s.txns u) ≡ freed r (s.txns u)
  txns_freed u = split (is_among_waiters u (s.queue r)) (λ e. if-true _ e ∙ sym (freed_here r (s.txns u) (may.agreed.orderly.waits_are u r e)))
      (λ e. if-false _ e
      ∙ sym (freed_other r (s.txns u) (not_true (is_waiting_at s u r) (λ w. clash (stands_there s may.agreed.orderly u r w) e))))

  waiter_other : (u : ℕ) → is_among_waiters u (s.queue r) ≡ true → (u == t) ≡ false
  waiter_other u h = stands_other s may.agreed.orderly t (ap is_wait may.active) u r h

  module _ {mid : List LockList} (struck : Strikes ls mid t r (parents_of s.graph r)) where
    pub can_free : (told : Told) → CanTellWaiters s r told → CanEnd (books_of l.txn_entries mid told) (s.queue r)
    can_free told tell = record {
      kept = record { few = may.agreed.sound.few; len = struck.len ∙ may.agreed.sound.lists; by_slot = tell.by_slot };
      distinct = distinct_once (s.queue r) (λ u h. let w = waits_there s may.agreed.orderly u r h in
          ((u, w.0), (may.agreed.orderly.one_wait u r w.0 w.1).0));
      below = waiters_below s may.agreed.orderly r;
      untold = tell.untold;
    }

    pub waiter_childless : (u : ℕ) → is_among_waiters u (s.queue r) ≡ true → counted_by mid u r ≡ 0
    waiter_childless u h = none_more (counted_by mid u r) ∙ ap (λ b. counted_by mid u r + (if b then count_by (same_node r) (parents_of s.graph r) else 0))
        (sym (waiter_other u h)) ∙ struck.counts u r ∙ may.counts.childless u

    -- once it is struck from its holder's list nobody's list holds it
    struck_agrees : (u : ℕ) → Agrees (with_grant s t r NL) mid u
    struck_agrees u = record {
      modes = λ q. struck.modes u q ∙ ap (λ m. if (u == t) && same_node q r then NL else m) ((may.agreed.agree u).modes q);
      listed = λ q. struck.listed u q ∙ ap (λ m. if (u == t) && same_node q r then false else m) ((may.agreed.agree u).listed q)
          ∙ by ((u == t) && same_node q r) (s.held u q) (is_among_waiters u (s.queue q)) (absent q);
      room = λ h. subst (λ (k : ℕ). 9 ≤ k) (sym (struck.rooms u (not_true (u == t) (λ e. clash h (ap (λ v. is_wait (status_of s v)) (same_number u t e)
          ∙ ap is_wait may.active))))) ((may.agreed.agree u).room h);
    }
      where
        absent : (q : NodeId) → ((u == t) && same_node q r) ≡ true → is_among_waiters u (s.queue q) ≡ false
        absent q h = grind (
          arith,
          nat_tests,
          same_number u t (and_both (u == t) (same_node q r) h).0,
          in_no_queue s may.agreed.orderly t (ap is_wait may.active) q,
        )

        by : (k : Bool) (m : Mode) (a : Bool) → (k ≡ true → a ≡ false) → (if k then false else (not (same_mode m NL) || a))
            ≡ (not (same_mode (if k then NL else m) NL) || a)
        by k m a h1 = grind (arith, nat_tests)

    module _ {ls' : List LockList} (left : IsWritten mid r (λ u. is_among_waiters u (s.queue r)) as_left ls') where
      pub agrees_vacated : (u : ℕ) → Agrees after ls' u
      agrees_vacated u = agrees_given_up (with_grant s t r NL) after r (λ v. is_among_waiters v (s.queue r))
          (λ v h. ap (λ b. if b && same_node r r then NL else s.held v r) (waiter_other v h) ∙ may.left.alone v (waiter_other v h))
          (λ v q. by (v == t) (same_node q r) (s.held v q) (λ e k. ap (s.held v) (same_node-equal q r k) ∙ may.left.alone v e))
          queue (λ v. sym (txns_freed v)) left u (struck_agrees u)
        where
          by : (a k : Bool) (m : Mode) → (a ≡ false → k ≡ true → m ≡ NL) → (if k then NL else m) ≡ (if a && k then NL else m)
          by a k m h1 = grind (arith, nat_tests)

          queue : (v : ℕ) (q : NodeId) → is_among_waiters v (after.queue q)
              ≡ (if is_among_waiters v (s.queue r) && same_node q r then false else is_among_waiters v (s.queue q))
          queue v q = split (same_node q r) (λ k. ap (λ b. is_among_waiters v (if b then [] else s.queue q)) k ∙ none (is_among_waiters v (s.queue r))
              ∙ ap₂ (λ b x. if is_among_waiters v (s.queue r) && b then false else is_among_waiters v (s.queue x)) (sym k) (sym (same_node-equal q r k)))
              (λ k. ap (λ b. is_among_waiters v (if b then [] else s.queue q)) k
              ∙ ap (λ b. if b then false else is_among_waiters v (s.queue q)) (sym (ap (λ b. is_among_waiters v (s.queue r) && b) k ∙ and-false _)))
            where
              none : (a : Bool) → false ≡ (if a && true then false else a)
              none a = grind (arith, nat_tests)

      pub counts_evicted : (u : ℕ) (q : NodeId) → counted_by ls' u q + (if u == t then count_by (same_node q) (parents_of s.graph r) else 0) ≡ counted_by ls u q
      counts_evicted u q =
          ap (λ (k : ℕ). k + (if u == t then count_by (same_node q) (parents_of s.graph r) else 0)) (left.counts u q
          ∙ none_if (is_among_waiters u (s.queue r)) (counted_by mid u q)) ∙ struck.counts u q

-- the slot, which may act, alone holds the node, and nobody holds a child of it
pub record MayVacate (g : View) (l : Ledger) (t : ℕ) (r : NodeId) : Type 0 where
  pub law : IsLawfulGraph (graph_of g)
  pub act : MayAct g l t
  pub left : IsLeftTo (state_in g l) t r
  pub holding : holds (members (state_in g l) r) t ≡ true

module _ {g : View} {l : Ledger} {t : ℕ} {r : NodeId} (may : MayVacate g l t r) where
  abbrev was : State
  was = state_in g l

  abbrev gone_off : State
  gone_off = departed was (λ q. same_node q r) was.graph

  held_other : (u : ℕ) (q : NodeId) → same_node q r ≡ false → gone_off.held u q ≡ was.held u q
  held_other u q e = ap (λ b. if b then NL else was.held u q) e

  -- nobody holds the node any more
  gone : (u : ℕ) → holds (members gone_off r) u ≡ false
  gone u = ap (λ b. not (same_mode (if b then NL else was.held u r) NL)) (same_node-refl r)

  -- each parent has one child less that the slot holds
  less : (p : NodeId) → held_children gone_off t p + count_by (same_node p) (parents_of was.graph r) ≡ held_children was t p
  less p =
      children_down was.graph may.law (λ c. holds (members was c) t) (λ c. holds (members gone_off c) t) r may.left.live may.holding (gone t)
      (λ q e. ap (λ m. not (same_mode m NL)) (held_other t q e)) p

  -- and the children that others hold are those that they held
  others : (u : ℕ) → (u == t) ≡ false → (p : NodeId) → held_children gone_off u p ≡ held_children was u p
  others u e p = ap (λ f. children_that was.graph f p) (fun_ext (λ q. ap (λ m. not (same_mode m NL)) (split (same_node q r)
      (λ k. if-true _ k ∙ sym (ap (was.held u) (same_node-equal q r k) ∙ may.left.alone u e)) (λ k. held_other u q k))))

  pub evicted_counts : CanEvict l.lists.items t r (parents_of was.graph r)
  evicted_counts = record {
    childless = λ u. may.act.exact.count u r ∙ may.left.childless u;
    some = λ q. subst (λ (k : ℕ). count_by (same_node q) (parents_of was.graph r) ≤ k) (sym (may.act.exact.count t q)) (let l = less q in omega arith);
  }

  pub counts_vacated : (ls' : List LockList)
      → ((u : ℕ) (q : NodeId) → counted_by ls' u q + (if u == t then count_by (same_node q) (parents_of was.graph r) else 0) ≡ counted_by l.lists.items u q)
      → (u : ℕ) → CountsHeld gone_off ls' u
  counts_vacated ls' counts u p = split (u == t)
      (λ e. subst (λ v. counted_by ls' v p ≡ held_children gone_off v p) (sym (same_number u t e)) own) other
    where
      own : counted_by ls' t p ≡ held_children gone_off t p
      own =
          let now = sym (ap (λ b. counted_by ls' t p + (if b then count_by (same_node p) (parents_of was.graph r) else 0)) (number_same t t refl))
          ∙ counts t p ∙ may.act.exact.count t p in
          let l = less p in
          omega arith

      other : (u == t) ≡ false → counted_by ls' u p ≡ held_children gone_off u p
      other e =
          let now = sym (ap (λ b. counted_by ls' u p + (if b then count_by (same_node p) (parents_of was.graph r) else 0)) e) ∙ counts u p
          ∙ may.act.exact.count u p in
          let same = others u e p in
          omega arith
