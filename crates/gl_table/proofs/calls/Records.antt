-- Records are added and removed, and children are shed: what is left of a table. For those calls.
use Rattle.gl_table.proofs.Words.{◌&&◌, ◌+◌, ◌-◌, ◌==◌, [], ◌||◌, ◌∙◌, ◌∷◌, ◌≡◌, ◌≤◌, Active, active_untold, Agrees, and_both, ap, are_compatible, AreExact}
use Rattle.gl_table.proofs.Words.{arith, Bool, children_that, clash, cond, count_by, count_cons, CountsHeld, covered_children, false, first_not_ix}
use Rattle.gl_table.proofs.Words.{granted-no_cycle, granted_at, granted_waits, grants_other, Graph, graph_of, HasNoCycle, held_children, holds, holds_child}
use Rattle.gl_table.proofs.Words.{IfOk, if◌then◌else◌, in_no_queue, Inside, is_at_least, is_child, is_covered, is_idle, is_live, is_record_shape, is_some}
use Rattle.gl_table.proofs.Words.{is_wait, IsAdopted, IsBorn, IsFresh, IsLawful, IsRoomyRecord, IsSound, KeepsLocks, keys, lawful_orderly, Ledger, length, List}
use Rattle.gl_table.proofs.Words.{list_all, listed, Locks, members, Mode, most_slots, nat_tests, NL, nobody_told, NodeId, nodes, None, not, not_true}
use Rattle.gl_table.proofs.Words.{notices_in, number_same, OnErr, Option, other_number, parents_of, Rec, record_parents, record_refusal, record_unrefused, refl}
use Rattle.gl_table.proofs.Words.{Refusal, Refuses, Result, rules, S, same, same_mode, same_mode-equal, same_node, same_node-equal, same_node-refl, same_number}
use Rattle.gl_table.proofs.Words.{shape_of, shed, Some, split, State, state_at, state_in, state_of, state_on, status_of, subst, sym, TellsOthers, Told, told}
use Rattle.gl_table.proofs.Words.{told_is, true, unwrap_or, View, view_of, with_grant, with_graph, with_key, without_node, X, ℕ}
use Rattle.gl_table.proofs.calls.Calls.{table_between}
use Rattle.gl_table.proofs.calls.Departing.{AreGone}
use Rattle.gl_table.proofs.calls.Stands.{MayStand, stands, with_locks}
use Rattle.gl_table.proofs.calls.Law.{called, held-lives, suited-stands, Suits}
use Rattle.gl_table.proofs.calls.Queries.{children_in}
use Rattle.gl_table.proofs.inside.Asks.{state-same}
use Rattle.gl_table.proofs.inside.Slots.{keeps-agrees, keeps-counts}
use Rattle.gl_model.proofs.law.Lock.{shed-no_cycle}
use Rattle.gl_table.proofs.inside.Vacated.{children-left}
use Rattle.gl_model.proofs.law.Records.{adopted-children, adopted-lawful, born-live, born-unawaited, born-unheld, forgotten-lawful, placed-lawful, record-grows}
use Rattle.gl_model.proofs.law.Records.{record_goes, unheld-there}
use Rattle.gl_model.proofs.law.Tests.{shed-lawful}
use Rattle.gl_lock_lists.proofs.Children.{one_found}

-- Records of a table are added and removed: what holds of the fields still does.

beside_x : (m : Mode) → are_compatible X m ≡ true → m ≡ NL
beside_x m h = search rules

-- if a transaction holds X, no other holds the node
pub held_alone : (s : State) → IsLawful s → (t : ℕ) (n : NodeId) → same_mode (s.held t n) X ≡ true → (u : ℕ) → (u == t) ≡ false → s.held u n ≡ NL
held_alone s law t n x u e =
    beside_x (s.held u n) (ap (λ m. are_compatible m (s.held u n)) (sym (same_mode-equal (s.held t n) X x))
    ∙ law.compatible t u n (λ is. other_number u t e (sym is)))

-- the removed node names none
out_of_graph : (g : Graph) (n : NodeId) → is_live (without_node g n) n ≡ false
out_of_graph g n = ap (λ b. is_some (with_key n.key (if b then None else g.at n.birth))) (number_same n.birth n.birth refl)

-- a record is removed alone
pub record_gone : (s : State) (law : IsLawful s) (r : NodeId) → is_record_shape (shape_of s.graph r) ≡ true → (g' : Graph) → g' ≡ without_node s.graph r
    → AreGone s (λ q. same_node q r) g' r
record_gone s law r rec g' is = subst (λ g. AreGone s (λ q. same_node q r) g r) (sym is) (record {
  away = record_goes s law r rec;
  itself = same_node-refl r;
  off = out_of_graph s.graph r;
  only = λ u q e h. same_node-equal q r e;
  children = λ f none p. children-left s.graph law.graph r rec f (none r (same_node-refl r)) p;
})

-- A record is made in a table, and one transaction holds it in X: what holds of the fields still does.

-- room was made, and all says what it said
module _ (i : Inside) (sound : IsSound i) (ledger : Ledger) (kept : KeepsLocks i.locks.ledger ledger) where
  same_on : (g : Graph) → state_on g ledger ≡ state_on g i.locks.ledger
  same_on g = state-same g i.locks.ledger ledger kept.headers kept.txn_entries

  pub same_state : with_locks i (state_in i.locks.graph ledger) ≡ state_of (view_of i)
  same_state = ap {A = State} (with_locks i) (same_on (graph_of i.locks.graph))

  pub stands_roomy : MayStand i i.locks.graph ledger
  stands_roomy = stands i i.locks.graph ledger (record {
    lawful = subst IsLawful (sym same_state) sound.lawful;
    no_cycle = λ at. subst HasNoCycle (sym same_state) (sound.no_cycle at);
  }) (record {
    sound = record {
      few = subst (λ (k : ℕ). k ≤ most_slots) (sym many) i.locks.sound.few;
      lists = kept.lists.len ∙ i.locks.sound.lists ∙ sym many;
    };
    agree = λ u. subst (λ x. Agrees x ledger.lists.items u) (sym (same_on (graph_of i.locks.graph)))
        (keeps-agrees (state_at i.locks) i.locks.ledger.lists.items ledger.lists.items u kept.lists (i.locks.agree u));
    count = λ u. subst (λ x. CountsHeld x ledger.lists.items u) (sym (same_on (graph_of i.locks.graph)))
        (keeps-counts (state_at i.locks) i.locks.ledger.lists.items ledger.lists.items u kept.lists (i.locks.count u));
  })
    where
      many : length ledger.txn_entries.items ≡ length i.locks.ledger.txn_entries.items
      many = ap (λ x. length x.items) kept.txn_entries

module _ (i : Inside) (sound : IsSound i) (f : NodeId) (keys : List ℕ) (free : record_refusal (graph_of i.locks.graph) f keys ≡ None) (v : View) where
  abbrev before : State
  before = state_of (view_of i)

  roomy_record : IsRoomyRecord (graph_of i.locks.graph) f keys
  roomy_record = record_unrefused (graph_of i.locks.graph) f keys free

  -- the graph was called for the record
  pub stands_grown : (r : Result NodeId Refusal) → Refuses (record_refusal (graph_of i.locks.graph) f keys) r
      → IfOk r (λ n. IsBorn (graph_of i.locks.graph) (graph_of v) n (Rec keys) (record_parents (graph_of i.locks.graph) f keys))
      → OnErr r (v ≡ i.locks.graph) → MayStand i v i.locks.ledger
  stands_grown r refuses made same =
      called i sound v (record_refusal (graph_of i.locks.graph) f keys) r
      (λ n. IsBorn (graph_of i.locks.graph) (graph_of v) n (Rec keys) (record_parents (graph_of i.locks.graph) f keys)) refuses made same
      (λ n free' born. record-grows before sound.lawful f keys roomy_record.file roomy_record.each roomy_record.room (graph_of v) n born)

  module _ (n : NodeId) (born : IsBorn (graph_of i.locks.graph) (graph_of v) n (Rec keys) (record_parents (graph_of i.locks.graph) f keys)) where
    pub record_fresh : IsFresh (state_in v i.locks.ledger) n
    record_fresh = record {
      live = born-live before sound.lawful f keys roomy_record.file roomy_record.each roomy_record.room (graph_of v) n born;
      unheld = born-unheld before sound.lawful f keys roomy_record.file roomy_record.each roomy_record.room (graph_of v) n born;
      unawaited = born-unawaited before sound.lawful f keys roomy_record.file roomy_record.each roomy_record.room (graph_of v) n born;
    }

    -- the slot holds it
    module _ (t : ℕ) (ledger : Ledger) (is : state_in v ledger ≡ with_grant (state_in v i.locks.ledger) t n X) where
      pub state_placed : with_locks i (state_in v ledger) ≡ with_grant (with_graph before (graph_of v)) t n X
      state_placed = ap {A = State} (with_locks i) is

      pub stands_placed : status_of before t ≡ Some Active → first_not_ix (before.held t) (record_parents (graph_of i.locks.graph) f keys) ≡ None
          → AreExact v ledger → MayStand i v ledger
      stands_placed active rule exact = stands i v ledger (record {
        lawful = subst IsLawful (sym state_placed) (placed-lawful before sound.lawful f keys roomy_record.file roomy_record.each roomy_record.room (graph_of v)
            n born t active rule);
        no_cycle = λ at. subst HasNoCycle (sym state_placed) (granted-no_cycle (with_graph before (graph_of v)) t n X active (sound.no_cycle at));
      }) exact

-- A record that nobody holds is added or removed: what holds of a table's fields still does.

module _ (i : Inside) (sound : IsSound i) (v : View) where
  abbrev standing : State
  standing = state_of (view_of i)

  pub adopted-suits : (n f : NodeId) (keys : List ℕ) → record_refusal (graph_of i.locks.graph) f keys ≡ None
      → IsAdopted (graph_of i.locks.graph) (graph_of v) n f keys → Suits i sound v
  adopted-suits n f keys free born = record {
    lawful = adopted-lawful standing sound.lawful (graph_of v) n f keys free born;
    counts = λ u p. adopted-children standing sound.lawful (graph_of v) n f keys free born (λ c. holds (members standing c) u) (held-lives i sound v u) p;
  }

  pub forgotten-stands : (r : NodeId) → is_record_shape (shape_of (graph_of i.locks.graph) r) ≡ true → is_idle standing r ≡ true
      → graph_of v ≡ without_node (graph_of i.locks.graph) r → MayStand i v i.locks.ledger
  forgotten-stands r rec idle is = suited-stands i sound v (record {
    lawful = subst (λ g. IsLawful (with_graph standing g)) (sym is) (forgotten-lawful standing sound.lawful r rec idle);
    counts = λ u p. let held : NodeId → Bool = λ c. holds (members standing c) u in
        ap (λ g. children_that g held p) is
        ∙ children-left (graph_of i.locks.graph) sound.lawful.graph r rec held (unheld-there standing sound.lawful r rec idle u) p;
  })

-- A table that sheds covered children.

-- of what passes one test, those that pass another and those that do not
count_parts : (f g h : NodeId → Bool) (xs : List NodeId) → ((x : NodeId) → cond (f x) 1 0 ≡ cond (g x) 1 0 + cond (h x) 1 0)
    → count_by f xs ≡ count_by g xs + count_by h xs
count_parts f g h [] parts = refl
count_parts f g h (x ∷ xs) parts =
    let rest = count_parts f g h xs parts in
    let a = count_cons f x xs in let b = count_cons g x xs in let c = count_cons h x xs in let p = parts x in
    omega arith

-- a reader of a node holds it
reads_held : (m : Mode) → is_at_least m S ≡ true → not (same_mode m NL) ≡ true
reads_held m h = search rules

-- of a node that is held, how many children are held is what is said
children_said : (s : State) (t : ℕ) (n : NodeId) → holds (members s n) t ≡ true → (o : Option ℕ) → o ≡ children_in s t n → (k : ℕ) → k ≡ unwrap_or o 0
    → k ≡ held_children s t n
children_said s t n h o said k is = is ∙ ap (λ x. unwrap_or x 0) (said ∙ ap (λ b. if b then Some (held_children s t n) else None) h)

-- what an active slot holds of a node that covers some of its children
module _ (i : Inside) (sound : IsSound i) (t : ℕ) (n : NodeId) where
  abbrev whole : State
  whole = state_of (view_of i)

  module _ (active : status_of whole t ≡ Some Active) where
    -- the state before the nodes grant
    abbrev less : State
    less = record whole { held = λ u c. if (u == t) && is_covered whole t n c then NL else whole.held u c }

    shed_own : (q : NodeId) → (shed whole t n).held t q ≡ (if is_covered whole t n q then NL else whole.held t q)
    shed_own q =
        grants_other (granted_at less (is_covered whole t n) q) (members less q) t
        (granted_waits less t (is_covered whole t n) q (in_no_queue whole (lawful_orderly whole sound.lawful) t (ap is_wait active) q))
        ∙ ap (λ k. if k && is_covered whole t n q then NL else whole.held t q) (number_same t t refl)

    -- each held child is kept or covered
    pub shed_counts : held_children whole t n ≡ held_children (shed whole t n) t n + covered_children whole t n
    shed_counts = count_parts (λ c. is_child whole.graph n c && holds (members whole c) t)
        (λ c. is_child whole.graph n c && holds (members (shed whole t n) c) t) (is_covered whole t n) (nodes whole.graph)
        (λ c. part (is_child whole.graph n c) (whole.held t c) (is_covered whole t n c) _ (shed_own c) (λ h. covered_child c h))
      where
        part : (a : Bool) (m : Mode) (k : Bool) (m' : Mode) → m' ≡ (if k then NL else m) → (k ≡ true → (a && not (same_mode m NL)) ≡ true)
            → cond (a && not (same_mode m NL)) 1 0 ≡ cond (a && not (same_mode m' NL)) 1 0 + cond k 1 0
        part a m true m' e f = ap (λ b. cond b 1 0) (f refl) ∙ sym (ap (λ b. cond b 1 0 + 1) (ap (λ x. a && not (same_mode x NL)) e ∙ off a))
          where
            off : (a : Bool) → (a && false) ≡ false
            off a = grind (arith, nat_tests)
        part a m false m' e f = none (cond (a && not (same_mode m NL)) 1 0) ∙ sym (ap (λ x. cond (a && not (same_mode x NL)) 1 0 + 0) e)
          where
            none : (k : ℕ) → k ≡ k + 0
            none k = omega arith

        covered_child : (c : NodeId) → is_covered whole t n c ≡ true → (is_child whole.graph n c && holds (members whole c) t) ≡ true
        covered_child c h = first (is_child whole.graph n c && holds (members whole c) t) _ _ h
          where
            first : (a b d : Bool) → (a && b && d) ≡ true → a ≡ true
            first a b d h1 = grind (arith, nat_tests)

    module _ (locks : Locks) (is : state_at locks ≡ shed (state_at i.locks) t n) where
      abbrev ended : Inside
      ended = record i { locks = locks }

      pub state_shed : state_of (view_of ended) ≡ shed whole t n
      state_shed = ap {A = State} (λ x. record x { detect = i.detect; victims = i.victims; begins = i.begins }) is

      pub sound_shed : IsSound ended
      sound_shed = record {
        lawful = subst IsLawful (sym state_shed) (shed-lawful whole sound.lawful t n active);
        no_cycle = λ at. subst HasNoCycle (sym state_shed) (shed-no_cycle whole sound.lawful t n active (sound.no_cycle at));
      }

      pub told_shed : (first list : Told) → first ≡ [] → TellsOthers t (state_at i.locks) (state_at locks) first list
          → list ≡ told whole (state_of (view_of ended))
      told_shed first list none tells =
          told_is whole (state_of (view_of ended)) list sound.lawful i.locks.sound.few tells.by_slot (λ u. split (u == t)
          (λ e. let is = same_number u t e in ap (notices_in list) is ∙ tells.own ∙ ap (λ xs. notices_in xs t) none
          ∙ sym (active_untold whole (state_of (view_of ended)) u (ap (status_of whole) is ∙ active)))
          (λ e. tells.others whole (table_between i sound) (λ v k. ap (λ xs. notices_in xs v) none ∙ sym (nobody_told whole v)) u e))

      module _ (reads : is_at_least (whole.held t n) S ≡ true) (o o' : Option ℕ)
          (said : o ≡ children_in whole t n) (said' : o' ≡ children_in (state_of (view_of ended)) t n) (k k' : ℕ)
          (held : k ≡ unwrap_or o 0) (kept : k' ≡ unwrap_or o' 0) where
        -- the node is no child of its own, and stays
        uncovered : is_covered whole t n n ≡ false
        uncovered = not_true _ (λ e.
            let a = and_both (is_child whole.graph n n && holds (members whole n) t && not (holds_child whole t n))
            (not (same_mode (whole.held t n) X) || list_all (λ p. same_mode (whole.held t p) X) (parents_of whole.graph n)) e in
            let b = and_both (is_child whole.graph n n && holds (members whole n) t) (not (holds_child whole t n)) a.0 in
            clash b.1 (ap not (one_found (λ x. is_child whole.graph n x && holds (members whole x) t) n (nodes whole.graph) b.0
            (listed whole.graph sound.lawful.graph n (sound.lawful.grants_live t n (reads_held (whole.held t n) reads)).1))))

        counted_first : k ≡ held_children whole t n
        counted_first = children_said whole t n (reads_held (whole.held t n) reads) o said k held

        shed_in : k' ≡ held_children (shed whole t n) t n
        shed_in =
            children_said (state_of (view_of ended)) t n (ap (λ (x : State). holds (members x n) t) state_shed
            ∙ ap (λ m. not (same_mode m NL)) (shed_own n ∙ ap (λ b. if b then NL else whole.held t n) uncovered) ∙ reads_held (whole.held t n) reads)
            o' said' k' kept ∙ ap (λ (x : State). held_children x t n) state_shed

        pub no_more_kept : k' ≤ k
        no_more_kept = let a = counted_first in let b = shed_in in let d = shed_counts in omega arith

        pub number_released : k - k' ≡ covered_children whole t n
        number_released = let a = counted_first in let b = shed_in in let d = shed_counts in omega arith

        pub number_kept : k' ≡ held_children whole t n - covered_children whole t n
        number_kept = let b = shed_in in let d = shed_counts in omega arith
