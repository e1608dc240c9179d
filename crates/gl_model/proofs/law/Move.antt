-- A node gets other parents: the law is kept, and no step of a wait is new. For moves.
use Rattle.gl_model.proofs.Words.{◌&&◌, ◌<◌, ◌==◌, [], ◌||◌, ◌∙◌, ◌∷◌, ◌≡◌, ◌≢◌, ◌≤◌, ◌⊎◌, ⊎_elim, Active, age_of, and_both, ap, are_compatible}
use Rattle.gl_model.proofs.Words.{AreInnerParents, arith, at_here, at_other, Bool, cases_of, cond, false, file_of_record, filter, first_cycle, fits, front}
use Rattle.gl_model.proofs.Words.{Graph, HasNoCycle, holds, holds_x, holds_x_on_all, if◌then◌else◌, inl, inner_live, inr, intends, intends_over, IS, is_ahead}
use Rattle.gl_model.proofs.Words.{is_among_waiters, is_at_least, is_live, is_movable_shape, is_record_shape, is_some, is_waiter, is_waiting_at, is_write}
use Rattle.gl_model.proofs.Words.{IsAlike, IsLawful, IsLawfulGraph, IX, least_parents, length, less-no_cycle, List, list_all, list_any, live_same, members}
use Rattle.gl_model.proofs.Words.{Mode, ModeFitsKind, movable_alike, move_lawful, moved_to, nat_tests, need_exclusive, need_new_parents, NL, no, no_cycle}
use Rattle.gl_model.proofs.Words.{no_parents, Node, node_at, node_count, NodeId, nodes, nodes_same, None, not, not_false, Option, or_elim, or_left, or_right}
use Rattle.gl_model.proofs.Words.{other_number, parents_in, parents_of, range-each, Rec, rec_alike, rec_same, record_shape, refl, rekey_lawful, rekeyed}
use Rattle.gl_model.proofs.Words.{rekeyed_is, rekeyed_keys, rekeyed_parents, rules, same_mode, same_node, same_node-equal, same_node-other, same_number, Shape}
use Rattle.gl_model.proofs.Words.{shape_in, shape_of, since_of, Some, some_given, some_is, split, State, status_of, stays, subst, sym, test_fails, there_is}
use Rattle.gl_model.proofs.Words.{true, true≢false, Waiting, waits_at, waits_for, with_node, with_parents, with_parents_is, X, ℕ}
use Rattle.gl_model.proofs.law.Edges.{is_step, step_is}
use Rattle.gl_model.proofs.law.Effects.{any_all, holds_one, x_blocks, x_is}
use Rattle.gl_model.proofs.law.Keeps.{apart, nl_is, txn_there, waiting_is}
use Rattle.gl_model.proofs.law.Strays.{all_filtered, all_of_some, all_waits, stuck_front}
use Rattle.gl_model.proofs.law.Tests.{all_ix}
use Rattle.gl_model.proofs.queues.Edits.{any_left, filtered_ahead, one_left, one_stays, unless_age, unless_since, unless_some, unless_waits, waits_unless}
use Rattle.gl_model.proofs.queues.Waiters.{ahead_first, ahead_is, all_weaker, if-true}

-- What a transaction holds that may give a node other parents.

pub some_parents : (ps : List NodeId) → some_given ps ≡ true → no_parents ps ≡ false
some_parents ps h = grind (arith, nat_tests, ps)

-- the mover has X on the node and IX or greater on all new parents, or X on all old and new ones
pub record HoldsNode (s : State) (t : ℕ) (n : NodeId) (ps : List NodeId) : Type 0 where
  pub x : same_mode (s.held t n) X ≡ true
  pub new : list_all (λ p. is_at_least (s.held t p) IX) ps ≡ true

-- X on all old and all new parents, of which there are some
pub record HoldsParents (s : State) (t : ℕ) (n : NodeId) (ps : List NodeId) : Type 0 where
  pub some_old : no_parents (parents_of s.graph n) ≡ false
  pub some_new : no_parents ps ≡ false
  pub old : list_all (λ p. same_mode (s.held t p) X) (parents_of s.graph n) ≡ true
  pub new : list_all (λ p. same_mode (s.held t p) X) ps ≡ true

-- the two tests of a move were passed
pub may_move : (s : State) (t : ℕ) (n : NodeId) (given : Bool) (ps : List NodeId) → need_exclusive s t n given ps ≡ None → need_new_parents s t n ps ≡ None
    → (given ≡ true → (no_parents (parents_of s.graph n) ≡ false) × (no_parents ps ≡ false)) → HoldsNode s t n ps ⊎ HoldsParents s t n ps
may_move s t n given ps h k some =
    split (holds_x s t n) (λ e. inl (record { x = e; new = all_ix (s.held t) ps (sym (if-true _ e) ∙ k) })) (λ e.
    let rest = not_false _ (ap (λ b. not b && not (given && holds_x_on_all s t (parents_of s.graph n) && holds_x_on_all s t ps)) (sym e)
    ∙ test_fails (not (holds_x s t n) && not (given && holds_x_on_all s t (parents_of s.graph n) && holds_x_on_all s t ps)) _ h) in
    let a = and_both (given && holds_x_on_all s t (parents_of s.graph n)) (holds_x_on_all s t ps) rest in
    let b = and_both given (holds_x_on_all s t (parents_of s.graph n)) a.0 in
    inr (record { some_old = (some b.0).0; some_new = (some b.0).1; old = b.1; new = a.1 }))

-- A node gets other parents: the law of a state is kept, since the mover's X keeps all others from the node.

x_above : (a b : Mode) → same_mode b X ≡ true → are_compatible a b ≡ true → a ≡ NL
x_above a b h k = search rules

x_writes : (a : Mode) → same_mode a X ≡ true → is_write a ≡ true
x_writes a h = search rules

all_x_ix : (held : NodeId → Mode) (ps : List NodeId) → list_all (λ p. same_mode (held p) X) ps ≡ true → list_all (λ p. is_at_least (held p) IX) ps ≡ true
all_x_ix held ps h = all_weaker (λ p. same_mode (held p) X) (λ p. is_at_least (held p) IX) ps (λ p. x_is (held p)) h

-- with IX on all parents a writer meets the rule; with X on all of some parents, everyone does
write_intends : (held : NodeId → Mode) (ps : List NodeId) (m : Mode) → is_write m ≡ true → list_all (λ p. is_at_least (held p) IX) ps ≡ true
    → intends_over held ps m ≡ true
write_intends held ps m w h = ap (λ b. cond b (list_all (λ p. is_at_least (held p) IX) ps) (no_parents ps || list_any (λ p. is_at_least (held p) IS) ps)) w ∙ h

x_intends : (held : NodeId → Mode) (ps : List NodeId) (m : Mode) → no_parents ps ≡ false → list_all (λ p. same_mode (held p) X) ps ≡ true
    → intends_over held ps m ≡ true
x_intends held [] m some h = absurd (true≢false some)
x_intends held (p ∷ ps) m some h = grind (arith, nat_tests, is_write m, all_x_ix held (p ∷ ps) h, and_both)

-- under X of t on all of some parents, nobody else meets the rule
x_excludes : (ht hu : NodeId → Mode) (ps : List NodeId) (m : Mode) → ((p : NodeId) → are_compatible (ht p) (hu p) ≡ true) → no_parents ps ≡ false
    → list_all (λ p. same_mode (ht p) X) ps ≡ true → intends_over hu ps m ≡ true → ⊥
x_excludes ht hu ps m fit some x rule =
    let found = any_all _ _ ps (holds_one hu ps m (ap not some) rule) x in
    x_blocks (ht found.0) (hu found.0) found.2 found.1 (fit found.0)

module _ (s : State) (law : IsLawful s) (t : ℕ) (n : NodeId) (ps : List NodeId) (active : status_of s t ≡ Some Active)
    (right : HoldsNode s t n ps ⊎ HoldsParents s t n ps) where
  mover_waits_not : (q : NodeId) (m : Mode) → status_of s t ≡ Some (Waiting q m) → ⊥
  mover_waits_not q m e = apart (sym active ∙ e)

  -- a holder of the node is the mover
  pub only_mover : (u : ℕ) → holds (members s n) u ≡ true → u ≡ t
  only_mover u h =
      split (u == t) (λ e. same_number u t e) (λ e.
      let ne : t ≢ u = λ same. other_number u t e (sym same) in
      absurd (⊎_elim (λ (a : HoldsNode s t n ps). true≢false (sym h ∙ ap (λ m. not (same_mode m NL))
      (x_above (s.held u n) (s.held t n) a.x (law.compatible u t n (λ same. ne (sym same))))))
      (λ (b : HoldsParents s t n ps). x_excludes (s.held t) (s.held u) (parents_of s.graph n) (s.held u n) (λ p. law.compatible t u p ne) b.some_old b.old
      (law.grants_intend u n h)) right))

  mover_below : HoldsNode s t n ps → t < s.most
  mover_below a = law.slots_below t (txn_there (s.txns t) Active active)

  -- a waiter on the node is no holder of it
  pub waiter_bare : (u : ℕ) → is_among_waiters u (s.queue n) ≡ true → s.held u n ≡ NL
  waiter_bare u h =
      let st = waiting_is (status_of s u) n (law.waits_are u n h) in
      split (holds (members s n) u) (λ k. absurd (mover_waits_not n st.0 (ap (status_of s) (sym (only_mover u k)) ∙ st.1))) (λ k. nl_is (s.held u n) k)

  -- and does not fit
  waiter_stuck : (u : ℕ) (m : Mode) → status_of s u ≡ Some (Waiting n m) → fits s.most (members s n) u m ≡ false
  waiter_stuck u m st =
      let ne : t ≢ u = λ is. mover_waits_not n m (ap (status_of s) is ∙ st) in
      let was = law.waits_intend u n m st in
      split (fits s.most (members s n) u m) (λ fit. absurd (⊎_elim (λ (a : HoldsNode s t n ps).
      let at : ((t == u) || are_compatible m (s.held t n))
      ≡ true = range-each (λ v. (v == u) || are_compatible m (s.held v n)) 0 s.most fit t (omega arith) (let low = mover_below a in omega arith) in
      or_elim (t == u) (are_compatible m (s.held t n)) at (λ is. ne (same_number t u is)) (λ c. was.1 (x_above m (s.held t n) a.x c)))
      (λ (b : HoldsParents s t n ps). x_excludes (s.held t) (s.held u) (parents_of s.graph n) m (λ p. law.compatible t u p ne) b.some_old b.old was.0) right))
      (λ f. f)

  -- by any limit that serves
  pub waiters_stuck : (limit : ℕ) → ((u : ℕ) (m : Mode) → fits s.most (members s n) u m ≡ fits limit (members s n) u m)
      → list_all (λ w. not (fits limit (members s n) w.0 w.1)) (s.queue n) ≡ true
  waiters_stuck limit same = all_waits (λ w. not (fits limit (members s n) w.0 w.1)) (s.queue n) (λ u h.
      let st = waiting_is (status_of s u) n (law.waits_are u n h) in
      ap (list_all (λ w. not (fits limit (members s n) w.0 w.1))) (law.one_wait u n st.0 st.1)
      ∙ ap (λ b. not b && true) (sym (same u st.0) ∙ waiter_stuck u st.0 st.1))

  module _ (g' : Graph) (lawful : IsLawfulGraph g') (live : (q : NodeId) → is_live g' q ≡ is_live s.graph q) (rec : (q : NodeId)
      → is_record_shape (shape_of g' q) ≡ is_record_shape (shape_of s.graph q))
      (others : (q : NodeId) → q ≢ n → parents_of g' q ≡ parents_of s.graph q) (here : parents_of g' n ≡ ps) where
    abbrev after : State
    after = moved_to s n ps g'

    abbrev keeps : ℕ → Bool
    keeps u = is_among_waiters u (filter (stays s ps) (s.queue n))

    rule_elsewhere : (u : ℕ) (q : NodeId) (m : Mode) → same_node q n ≡ false → intends s u q m ≡ true → intends after u q m ≡ true
    rule_elsewhere u q m other h = ap (λ xs. intends_over (s.held u) xs m) (others q (same_node-other q n other)) ∙ h

    rule_here : (u : ℕ) (q : NodeId) (m : Mode) → same_node q n ≡ true → intends_over (s.held u) ps m ≡ true → intends after u q m ≡ true
    rule_here u q m same h = ap (λ x. intends_over (s.held u) (parents_of g' x) m) (same_node-equal q n same) ∙ ap (λ xs. intends_over (s.held u) xs m) here ∙ h

    kind_later : (q : NodeId) (m : Mode) → ModeFitsKind s q m → ModeFitsKind after q m
    kind_later q m k r = k (sym (rec q) ∙ r)

    mover_intends : (m : Mode) → m ≡ s.held t n → intends_over (s.held t) ps m ≡ true
    mover_intends m e =
        ⊎_elim (λ (a : HoldsNode s t n ps). write_intends (s.held t) ps m (ap is_write e ∙ x_writes (s.held t n) a.x) a.new)
        (λ (b : HoldsParents s t n ps). x_intends (s.held t) ps m b.some_new b.new) right

    queue_here : (q : NodeId) → same_node q n ≡ true → after.queue q ≡ filter (stays s ps) (s.queue n)
    queue_here q e = ap (λ b. if b then filter (stays s ps) (s.queue q) else s.queue q) e ∙ ap (λ x. filter (stays s ps) (s.queue x)) (same_node-equal q n e)

    queue_there : (q : NodeId) → same_node q n ≡ false → after.queue q ≡ s.queue q
    queue_there q e = ap (λ b. if b then filter (stays s ps) (s.queue q) else s.queue q) e

    waited : (u : ℕ) (q : NodeId) (m : Mode) → status_of after u ≡ Some (Waiting q m) → (status_of s u ≡ Some (Waiting q m))
        × (same_node q n ≡ true → keeps u ≡ true)
    waited u q m st = unless_waits keeps n q m u (s.txns u) st

    -- a wait that is left on the node meets the rule over the new parents
    stayed : (u : ℕ) (q : NodeId) (m : Mode) → status_of after u ≡ Some (Waiting q m) → same_node q n ≡ true → intends_over (s.held u) ps m ≡ true
    stayed u q m st e =
        let old = waited u q m st in
        one_stays (is_waiter u) (stays s ps) (s.queue n) (u, m) (ap (λ x. filter (is_waiter u) (s.queue x)) (sym (same_node-equal q n e))
        ∙ law.one_wait u q m old.0) (old.1 e)

    among_was : (u : ℕ) (q : NodeId) → is_among_waiters u (after.queue q) ≡ true → is_among_waiters u (s.queue q) ≡ true
    among_was u q h =
        split (same_node q n) (λ e. ap (λ x. is_among_waiters u (s.queue x)) (same_node-equal q n e)
        ∙ any_left (is_waiter u) (stays s ps) (s.queue n) (sym (ap (is_among_waiters u) (queue_here q e)) ∙ h))
        (λ e. sym (ap (is_among_waiters u) (queue_there q e)) ∙ h)

    one_wait_after : (u : ℕ) (q : NodeId) (m : Mode) → status_of after u ≡ Some (Waiting q m) → filter (is_waiter u) (after.queue q) ≡ (u, m) ∷ []
    one_wait_after u q m st =
        let old = waited u q m st in
        split (same_node q n) (λ e. ap (filter (is_waiter u)) (queue_here q e)
        ∙ one_left (is_waiter u) (stays s ps) (s.queue n) (u, m) (ap (λ x. filter (is_waiter u) (s.queue x)) (sym (same_node-equal q n e))
        ∙ law.one_wait u q m old.0) (stayed u q m st e)) (λ e. ap (filter (is_waiter u)) (queue_there q e) ∙ law.one_wait u q m old.0)

    waits_are_after : (u : ℕ) (q : NodeId) → is_among_waiters u (after.queue q) ≡ true → is_waiting_at after u q ≡ true
    waits_are_after u q h = waits_unless keeps n q u (s.txns u) (law.waits_are u q (among_was u q h)) (λ e. sym (ap (is_among_waiters u) (queue_here q e)) ∙ h)

    front_after : (q : NodeId) → front s.most (members s q) (after.queue q) ≡ []
    front_after q =
        split (same_node q n)
        (λ e. ap (front s.most (members s q)) (queue_here q e) ∙ ap (λ x. front s.most (members s x) (filter (stays s ps) (s.queue n))) (same_node-equal q n e)
        ∙ stuck_front s.most (members s n) (filter (stays s ps) (s.queue n))
        (all_filtered (λ w. not (fits s.most (members s n) w.0 w.1)) (stays s ps) (s.queue n) (waiters_stuck s.most (λ u m. refl))))
        (λ e. ap (front s.most (members s q)) (queue_there q e) ∙ law.front_waits q)

    some_txn : (u : ℕ) → is_some (after.txns u) ≡ is_some (s.txns u)
    some_txn u = unless_some keeps n u (s.txns u)

    same_age : (u : ℕ) → age_of after u ≡ age_of s u
    same_age u = unless_age keeps n u (s.txns u)

    same_since : (u : ℕ) → since_of after u ≡ since_of s u
    same_since u = unless_since keeps n u (s.txns u)

    -- the fields of the law, for the new graph and the queue that is left
    pub moved_lawful : IsLawful (moved_to s n ps g')
    moved_lawful = record {
      graph = lawful;
      grants_live = λ u q h. let old = law.grants_live u q h in (some_txn u ∙ old.0, live q ∙ old.1, kind_later q (s.held u q) old.2);
      waits_live = λ u q h. live q ∙ law.waits_live u q (among_was u q h);
      compatible = law.compatible;
      grants_intend = λ u q h. split (same_node q n) (λ e.
          let held_here : holds (members s n) u ≡ true = ap (λ x. holds (members s x) u) (sym (same_node-equal q n e)) ∙ h in
          let mover = only_mover u held_here in
          rule_here u q (s.held u q) e (subst (λ v. intends_over (s.held v) ps (s.held v q) ≡ true) (sym mover)
          (mover_intends (s.held t q) (ap (s.held t) (same_node-equal q n e))))) (λ e. rule_elsewhere u q (s.held u q) e (law.grants_intend u q h));
      waits_intend = λ u q m st.
          let old = waited u q m st in
          let was = law.waits_intend u q m old.0 in
          (split (same_node q n) (λ e. rule_here u q m e (stayed u q m st e)) (λ e. rule_elsewhere u q m e was.0), was.1, was.2, kind_later q m was.3);
      one_wait = one_wait_after;
      waits_are = waits_are_after;
      holders_first = λ u v q h ahead. split (same_node q n) (λ e.
          let mover = only_mover u (ap (λ x. holds (members s x) u) (sym (same_node-equal q n e)) ∙ h) in
          let at = law.waits_are u q (among_was u q (and_both _ _ ahead).0) in
          absurd (no (sym (ap (λ o. waits_at o q) (ap (status_of s) mover ∙ active)) ∙ at)))
          (λ e. law.holders_first u v q h (sym (ap (λ ws. is_ahead ws u v) (queue_there q e)) ∙ ahead));
      front_waits = front_after;
      slots_below = λ u h. law.slots_below u (sym (some_txn u) ∙ h);
      ages = λ u h. let old = law.ages u (sym (some_txn u) ∙ h) in subst (λ a. (1 ≤ a) × (a ≤ s.begins)) (sym (same_age u)) old;
      ages_differ = λ u v h e. law.ages_differ u v (sym (some_txn u) ∙ h) (sym (same_age u) ∙ e ∙ same_age v);
      known = λ u h. let old = law.known u (sym (some_txn u) ∙ h) in let a = same_age u in let b = same_since u in omega (arith, old, a, b);
    }

-- A node moves: no wait of one for another is new, and so no cycle.

pub moved_steps : (s : State) → IsLawful s → (r : NodeId) (ps : List NodeId) (g : Graph) (x y : ℕ) → waits_for (moved_to s r ps g) x y ≡ true
    → waits_for s x y ≡ true
moved_steps s law r ps g x y h =
    let st = step_is (moved_to s r ps g) x y h in let n = st.0 in let m = st.1 in
    let was = (unless_waits (λ v. is_among_waiters v (filter (stays s ps) (s.queue r))) r n m x (s.txns x) st.2.waits).0 in
    is_step s x y n m (record {
      differ = st.2.differ;
      waits = was;
      blocked = or_elim (not (are_compatible m (s.held y n))) (is_ahead ((moved_to s r ps g).queue n) x y) st.2.blocked
          (λ b. or_left (not (are_compatible m (s.held y n))) (is_ahead (s.queue n) x y) b)
          (λ b. or_right (not (are_compatible m (s.held y n))) (is_ahead (s.queue n) x y) (order n m was (same_node n r) b));
    })
  where
    order : (n : NodeId) (m : Mode) → status_of s x ≡ Some (Waiting n m) → (b : Bool)
        → is_ahead (if b then filter (stays s ps) (s.queue n) else s.queue n) x y ≡ true → is_ahead (s.queue n) x y ≡ true
    order n m st true k =
        let one = law.one_wait x n m st in let ah = sym (ahead_is (filter (stays s ps) (s.queue n)) x y) ∙ k in
        let stay = one_stays (is_waiter x) (stays s ps) (s.queue n) (x, m) one (ahead_first (filter (stays s ps) (s.queue n)) x y ah) in
        ahead_is (s.queue n) x y ∙ filtered_ahead (stays s ps) x y (s.queue n)
        (all_of_some (is_waiter x) (stays s ps) (s.queue n) (ap (list_all (stays s ps)) one ∙ ap (λ b. b && true) stay)) ah
    order n m st false k = k

pub moved-no_cycle : (s : State) → IsLawful s → (r : NodeId) (ps : List NodeId) (g : Graph) → HasNoCycle s → HasNoCycle (moved_to s r ps g)
moved-no_cycle s law r ps g none = less-no_cycle (waits_for s) (waits_for (moved_to s r ps g)) (moved_steps s law r ps g) none

-- A node that moves: what may be done to it, and what its move leaves.

-- a move that may be made: a node with the same key, alike, and the mover may change its parents
pub record Moves (s : State) (t : ℕ) (n : NodeId) (was is : Node) (g' : Graph) : Type 0 where
  pub there : node_at s.graph n ≡ Some was
  pub key : is.key ≡ was.key
  pub alike : IsAlike was.shape is.shape
  pub active : status_of s t ≡ Some Active
  pub right : HoldsNode s t n is.parents ⊎ HoldsParents s t n is.parents
  pub graph : with_node s.graph n.birth is ≡ g'
  pub lawful : IsLawfulGraph g'

module _ (s : State) (t : ℕ) (n : NodeId) (was is : Node) (g' : Graph) (m : Moves s t n was is g') where
  -- other nodes keep their parents
  pub others_parents : (q : NodeId) → q ≢ n → parents_of g' q ≡ parents_of s.graph q
  others_parents q ne = ap (λ g. parents_of g q) (sym m.graph) ∙ ap parents_in (at_other s.graph n was is m.there m.key q ne)

  -- the moved node has the new ones
  pub new_parents : parents_of g' n ≡ is.parents
  new_parents = ap (λ g. parents_of g n) (sym m.graph) ∙ ap parents_in (at_here s.graph n was is m.there m.key)

  -- no node was added or removed
  pub count_same : node_count g' ≡ node_count s.graph
  count_same = ap node_count (sym m.graph) ∙ ap length (nodes_same s.graph n was is m.there m.key)

  -- nor listed otherwise
  pub nodes_kept : nodes g' ≡ nodes s.graph
  nodes_kept = ap nodes (sym m.graph) ∙ nodes_same s.graph n was is m.there m.key

  pub live_kept : (q : NodeId) → is_live g' q ≡ is_live s.graph q
  live_kept q = ap (λ g. is_live g q) (sym m.graph) ∙ live_same s.graph n was is m.there m.key q

  -- so the state keeps its law
  pub changed_keeps : IsLawful s → IsLawful (moved_to s n is.parents g')
  changed_keeps law =
      moved_lawful s law t n is.parents m.active m.right g' m.lawful live_kept
      (λ q. ap (λ g. is_record_shape (shape_of g q)) (sym m.graph) ∙ rec_same s.graph n was is m.there m.key m.alike q) others_parents new_parents

  pub node_there : is_live s.graph n ≡ true
  node_there = there_is (node_at s.graph n) was m.there

-- the node with its new parents
abbrev pub moved_node : List NodeId → Node → Node
moved_node ps was = record was { parents = ps }

-- a shape that is there
shape_there : (g : Graph) (n : NodeId) (test : Option Shape → Bool) → test None ≡ false → test (shape_of g n) ≡ true → (node : Node) × (node_at g n ≡ Some node)
shape_there g n test none h = cases_of (node_at g n) (λ e. absurd (no (sym none ∙ sym (ap (λ o. test (shape_in o)) e) ∙ h))) (λ x e. (x, e))

-- a node moves under parents that are none below it
pub may_be_moved : (s : State) → IsLawful s → (t : ℕ) (n : NodeId) (ps : List NodeId) → status_of s t ≡ Some Active
    → is_movable_shape (shape_of s.graph n) ≡ true
    → AreInnerParents s.graph (least_parents (shape_of s.graph n)) ps → need_exclusive s t n (some_given (parents_of s.graph n) && some_given ps) ps ≡ None
    → need_new_parents s t n ps ≡ None → first_cycle s.graph n ps ≡ None → (was : Node) × Moves s t n was (moved_node ps was) (with_parents s.graph n ps)
may_be_moved s law t n ps active movable inner exclusive rule clear =
    let node = shape_there s.graph n is_movable_shape refl movable in
    let right = may_move s t n (some_given (parents_of s.graph n) && some_given ps) ps exclusive rule
    (λ h. let g = and_both (some_given (parents_of s.graph n)) (some_given ps) h in (some_parents (parents_of s.graph n) g.0, some_parents ps g.1)) in
    let is : is_movable_shape (Some node.0.shape) ≡ true = sym (ap (λ o. is_movable_shape (shape_in o)) node.1) ∙ movable in (
      node.0,
      record {
        there = node.1;
        key = refl;
        alike = movable_alike node.0.shape is;
        active = active;
        right = right;
        graph = with_parents_is s.graph n ps node.0 node.1;
        lawful = move_lawful s.graph law.graph n node.0 node.1 ps is (subst (λ o. AreInnerParents s.graph (least_parents (shape_in o)) ps) node.1 inner)
            (inner_live s.graph ps inner.inner) (no_cycle s.graph n ps clear);
      },
    )

-- the record with its new key
abbrev pub rekeyed_to : Graph → NodeId → NodeId → ℕ → Node → Node
rekeyed_to g r i key was = record { key = was.key; shape = Rec (rekeyed_keys g r i key); parents = rekeyed_parents g r i key }

-- a record gets another key for an index
pub may_be_rekeyed : (s : State) → IsLawful s → (t : ℕ) (r i : NodeId) (key : ℕ) → status_of s t ≡ Some Active → is_record_shape (shape_of s.graph r) ≡ true
    → need_exclusive s t r true (rekeyed_parents s.graph r i key) ≡ None → need_new_parents s t r (rekeyed_parents s.graph r i key) ≡ None
    → (was : Node) × Moves s t r was (rekeyed_to s.graph r i key was) (rekeyed s.graph r i key)
may_be_rekeyed s law t r i key active rec exclusive rule =
    let node = shape_there s.graph r is_record_shape refl rec in
    let keys = record_shape (shape_of s.graph r) rec in
    let shape : node.0.shape ≡ Rec keys.0 = some_is (sym (ap shape_in node.1) ∙ keys.1) in
    let file = file_of_record s.graph law.graph r node.0 node.1 keys.0 shape in
    let some_old : no_parents (parents_of s.graph r) ≡ false = ap no_parents (ap parents_in node.1 ∙ file.3) in
    let right = may_move s t r true (rekeyed_parents s.graph r i key) exclusive rule (λ h. (some_old, refl)) in (
      node.0,
      record {
        there = node.1;
        key = refl;
        alike = rec_alike node.0.shape keys.0 (rekeyed_keys s.graph r i key) shape;
        active = active;
        right = right;
        graph = rekeyed_is s.graph r i key node.0 node.1;
        lawful = rekey_lawful s.graph law.graph r node.0 node.1 keys.0 i key shape;
      },
    )
