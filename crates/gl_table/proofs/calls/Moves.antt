-- A node moved and the locks followed: what it makes of a table. For the calls that move.
use Rattle.gl_table.proofs.Words.{◌&&◌, ◌+◌, ◌<◌, ◌==◌, [], ◌^◌, ◌||◌, ◌∙◌, ◌∷◌, ◌≡◌, ◌≤◌, ⊎_elim, Active, Agrees, and_both, ap, ap₂, AreAgreed}
use Rattle.gl_table.proofs.Words.{AreInnerParents, AreShutOut, arith, at_least-not_NL, Bool, CanRecount, children_few, children_that, count_by}
use Rattle.gl_table.proofs.Words.{count_by-le-length, count_none, counted_by, CountsHeld, false, first_cycle, fits-limit, Graph, graph_of, HasMoved, HasNoCycle}
use Rattle.gl_table.proofs.Words.{held_children, holds, if◌then◌else◌, Inside, is_among_waiters, is_at_least, is_listed, is_live, is_movable_shape}
use Rattle.gl_table.proofs.Words.{is_record_shape, IsLawful, IsOrderly, IsSound, IX, lawful_orderly, least_parents, Ledger, List, list_all, listed_by, LockList}
use Rattle.gl_table.proofs.Words.{members, Mode, moved_to, Moves, need_exclusive, need_new_parents, NL, Node, NodeId, None, not, not_true, Option}
use Rattle.gl_table.proofs.Words.{option_map_or, other_number, parents_of, Recounts, refl, rekeyed, rekeyed_parents, same_mode, same_node, same_number}
use Rattle.gl_table.proofs.Words.{shape_of, slice_get, slot_limit, Some, some_given, split, State, state_in, state_of, state_on, status_of, stays, subst, sym}
use Rattle.gl_table.proofs.Words.{TableView, Told, told, told_is, told_to, true, unlisted, unlisted_by, View, view_of, with_parents, X, ℕ}
use Rattle.gl_table.proofs.calls.Stands.{MayStand, stands, with_locks}
use Rattle.gl_table.proofs.inside.Marked.{list_there}
use Rattle.gl_table.proofs.inside.TurnedAway.{is_lost, moved_notice, moved_told}
use Rattle.gl_model.proofs.law.Effects.{x_is}
use Rattle.gl_model.proofs.law.Move.{changed_keeps, HoldsNode, HoldsParents, live_kept, may_be_moved, may_be_rekeyed, moved-no_cycle, moved_node, new_parents}
use Rattle.gl_model.proofs.law.Move.{node_there, nodes_kept, only_mover, others_parents, rekeyed_to, waiter_bare, waiters_stuck}
use Rattle.gl_model.proofs.queues.Counts.{children_moved, parents_counted, parents_few}
use Rattle.gl_model.proofs.telling.Fronts.{members_within}

-- all of these are listed
none_unlisted : (ls : List LockList) (t : ℕ) (ps : List NodeId) → list_all (listed_by ls t) ps ≡ true → unlisted_by ls t ps ≡ 0
none_unlisted ls t ps h = by (slice_get ls t) h
  where
    by : (o : Option LockList) → list_all (λ p. option_map_or (λ l. is_listed l p) o false) ps ≡ true → option_map_or (λ l. unlisted l ps) o 0 ≡ 0
    by None k = refl
    by (Some l) k = count_none (is_listed l) (λ p. not (is_listed l p)) ps k (λ p there. ap not there)

-- what is held is listed
all_listed : (s : State) (ls : List LockList) (t : ℕ) → Agrees s ls t → (test : Mode → Bool) → ((m : Mode) → test m ≡ true → same_mode m NL ≡ false)
    → (ps : List NodeId) → list_all (λ p. test (s.held t p)) ps ≡ true → list_all (listed_by ls t) ps ≡ true
all_listed s ls t agree test locks [] h = refl
all_listed s ls t agree test locks (p ∷ ps) h =
    let two = and_both (test (s.held t p)) _ h in
    ap₂ (λ a b. a && b) (agree.listed p ∙ ap (λ b. not b || is_among_waiters t (s.queue p)) (locks (s.held t p) two.0))
    (all_listed s ls t agree test locks ps two.1)

module _ (i : Inside) (sound : IsSound i) (t : ℕ) (n : NodeId) (was is : Node) (v : View) (m : Moves (state_of (view_of i)) t n was is (graph_of v)) where
  abbrev s : State
  s = state_of (view_of i)

  -- the locks as they were, over the new graph
  abbrev l : State
  l = state_in v i.locks.ledger

  abbrev g' : Graph
  g' = graph_of v

  live : (q : NodeId) → is_live g' q ≡ is_live s.graph q
  live = live_kept s t n was is g' m

  here : parents_of g' n ≡ is.parents
  here = new_parents s t n was is g' m

  orderly_moved : IsOrderly l
  orderly_moved =
      let o = i.locks.orderly in
      record {
        holders = o.holders;
        holders_live = λ u q h. live q ∙ o.holders_live u q h;
        waiters_live = λ u q h. live q ∙ o.waiters_live u q h;
        waits_are = o.waits_are;
        one_wait = o.one_wait;
        below = o.below;
      }

  agree_moved : (u : ℕ) → Agrees l i.locks.ledger.lists.items u
  agree_moved u = let old = i.locks.agree u in record { modes = old.modes; listed = old.listed; room = old.room }

  pub agreed_moved : AreAgreed v i.locks.ledger
  agreed_moved = record { sound = i.locks.sound; orderly = orderly_moved; agree = agree_moved }

  pub shut_moved : AreShutOut l n
  shut_moved = record {
    newcomers = waiter_bare s sound.lawful t n is.parents m.active m.right;
    stuck = waiters_stuck s sound.lawful t n is.parents m.active m.right slot_limit
        (λ u w. fits-limit s.most (members s n) u w i.locks.sound.few (members_within l orderly_moved n));
  }

  -- the mover's old parents are counted
  counted_moved : holds (members l n) t ≡ true → (q : NodeId) → count_by (same_node q) (parents_of s.graph n) ≤ counted_by i.locks.ledger.lists.items t q
  counted_moved held q =
      let some = parents_counted n (λ c. holds (members s c) t) s.graph sound.lawful.graph (node_there s t n was is g' m) held q in
      let count = i.locks.count t q in
      omega arith

  -- and its new parents are listed
  listed_moved : unlisted_by i.locks.ledger.lists.items t (parents_of g' n) ≡ 0
  listed_moved = none_unlisted i.locks.ledger.lists.items t (parents_of g' n)
      (subst (λ (ps : List NodeId). list_all (listed_by i.locks.ledger.lists.items t) ps ≡ true) (sym here) (⊎_elim
      (λ (a : HoldsNode s t n is.parents). all_listed l i.locks.ledger.lists.items t (agree_moved t) (λ k. is_at_least k IX)
      (λ k h. at_least-not_NL k IX h refl)
      is.parents a.new) (λ (b : HoldsParents s t n is.parents). all_listed l i.locks.ledger.lists.items t (agree_moved t) (λ k. same_mode k X)
      (λ k h. at_least-not_NL k IX (x_is k h) refl) is.parents b.new) m.right))

  few_moved : (q : NodeId) → counted_by i.locks.ledger.lists.items t q + count_by (same_node q) (parents_of g' n) < 2 ^ 32
  few_moved q =
      let count = i.locks.count t q in
      let few = children_few s.graph sound.lawful.graph (λ c. holds (members s c) t) q in
      let short = count_by-le-length (same_node q) (parents_of g' n) in
      let eight = parents_few g' m.lawful n in
      omega arith

  pub recount_moved : (old : List NodeId) → old ≡ parents_of s.graph n → CanRecount l i.locks.ledger.lists.items t n old (parents_of g' n)
  recount_moved old before = record {
    slot = list_there i.locks.ledger g' i.locks.sound orderly_moved t m.active;
    counted = λ h q. subst (λ (ps : List NodeId). count_by (same_node q) ps ≤ counted_by i.locks.ledger.lists.items t q) (sym before) (counted_moved h q);
    listed = listed_moved;
    few = few_moved;
  }

  -- the locks followed
  module _ (ledger : Ledger) (list : Told) (has : HasMoved v n i.locks.ledger ledger [] list) where
    pub state_moved : with_locks i (state_in v ledger) ≡ moved_to s n is.parents g'
    state_moved = ap {A = State} (with_locks i) has.state ∙ ap (λ ps. moved_to s n ps g') here

    abbrev holding : ℕ → NodeId → Bool
    holding u c = holds (members s c) u

    -- the mover's counts were changed, and nobody else holds the node
    counts_moved : (old : List NodeId) → old ≡ parents_of s.graph n → Recounts l i.locks.ledger.lists.items t n old (parents_of g' n) ledger.lists.items
        → (u : ℕ) → CountsHeld (state_on g' ledger) ledger.lists.items u
    counts_moved old before counts u p =
        let moved = children_moved s.graph g' sound.lawful.graph m.lawful n (nodes_kept s t n was is g' m) (others_parents s t n was is g' m)
        (node_there s t n was is g' m) (live n ∙ node_there s t n was is g' m) (holding u) p in
        let same : ((u == t) && holds (members l n) t) ≡ holding u n = split (u == t)
        (λ e. ap (λ b. b && holds (members l n) t) e ∙ ap (λ x. holding x n) (sym (same_number u t e))) (λ e. ap (λ b. b && holds (members l n) t) e ∙ sym
        (not_true _ (λ h. other_number u t e (only_mover s sound.lawful t n is.parents m.active m.right u h)))) in
        let written = subst
        (λ (b : Bool). counted_by ledger.lists.items u p + (if b then count_by (same_node p) (parents_of s.graph n) else 0)
        ≡ counted_by i.locks.ledger.lists.items u p + (if b then count_by (same_node p) (parents_of g' n) else 0))
        same (ap (λ ps. counted_by ledger.lists.items u p + (if (u == t) && holds (members l n) t then count_by (same_node p) ps else 0)) (sym before)
        ∙ counts u p) in
        let count = i.locks.count u p in
        let now : counted_by ledger.lists.items u p ≡ children_that g' (holding u) p = omega arith in
        now ∙ ap (λ (x : State). held_children x u p) (sym has.state)

    pub stands_moved : (old : List NodeId) → old ≡ parents_of s.graph n
        → Recounts l i.locks.ledger.lists.items t n old (parents_of g' n) ledger.lists.items → MayStand i v ledger
    stands_moved old before counts = stands i v ledger (record {
      lawful = subst IsLawful (sym state_moved) (changed_keeps s t n was is g' m sound.lawful);
      no_cycle = λ at. subst HasNoCycle (sym state_moved) (moved-no_cycle s sound.lawful n is.parents g' (sound.no_cycle at));
    }) (record { sound = has.sound; agree = has.agree; count = counts_moved old before counts })

    pub told_moved : list ≡ told s (with_locks i (state_in v ledger))
    told_moved =
        told_is s (with_locks i (state_in v ledger)) list sound.lawful i.locks.sound.few has.tells.by_slot
        (λ u. has.tells.notices u ∙ ap (λ ps. if is_lost s n (stays s ps) u then moved_notice s u else None) here
        ∙ sym (moved_told s (lawful_orderly s sound.lawful) n is.parents g' shut_moved.newcomers (λ x h. live n ∙ node_there s t n was is g' m) u)
        ∙ sym (ap (λ x. told_to s x u) state_moved))

-- what a call may do by what it requires, once the graph's call is done
module _ (i : Inside) (sound : IsSound i) (w : TableView) (view : view_of i ≡ w) (t : ℕ) (v : View) where
  abbrev x : State
  x = state_of w

  lawful_seen : IsLawful x
  lawful_seen = subst (λ (y : TableView). IsLawful (state_of y)) view sound.lawful

  pub rekey_call : (r index : NodeId) (key : ℕ) → status_of x t ≡ Some Active → is_record_shape (shape_of x.graph r) ≡ true
      → need_exclusive x t r true (rekeyed_parents x.graph r index key) ≡ None
      → need_new_parents x t r (rekeyed_parents x.graph r index key) ≡ None → graph_of v ≡ rekeyed x.graph r index key
      → (was : Node) × Moves (state_of (view_of i)) t r was (rekeyed_to x.graph r index key was) (graph_of v)
  rekey_call r index key active rec exclusive parents made =
      let may = may_be_rekeyed x lawful_seen t r index key active rec exclusive parents in (
        may.0,
        subst (λ (y : TableView). Moves (state_of y) t r may.0 (rekeyed_to x.graph r index key may.0) (graph_of v)) (sym view)
            (subst (λ g. Moves x t r may.0 (rekeyed_to x.graph r index key may.0) g) (sym made) may.1),
      )

  pub move_call : (n : NodeId) (ps : List NodeId) → status_of x t ≡ Some Active → is_movable_shape (shape_of x.graph n) ≡ true
      → AreInnerParents x.graph (least_parents (shape_of x.graph n)) ps
      → need_exclusive x t n (some_given (parents_of x.graph n) && some_given ps) ps ≡ None → need_new_parents x t n ps ≡ None → first_cycle x.graph n ps ≡ None
      → graph_of v ≡ with_parents x.graph n ps → (was : Node) × Moves (state_of (view_of i)) t n was (moved_node ps was) (graph_of v)
  move_call n ps active movable inner exclusive rule clear made =
      let may = may_be_moved x lawful_seen t n ps active movable inner exclusive rule clear in (
        may.0,
        subst (λ (y : TableView). Moves (state_of y) t n may.0 (moved_node ps may.0) (graph_of v)) (sym view)
            (subst (λ g. Moves x t n may.0 (moved_node ps may.0) g) (sym made) may.1),
      )
