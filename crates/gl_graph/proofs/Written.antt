-- One node is written: a file is marked, or an inner node, a file or an index moves. What is stored beside the nodes is due again after the counts.
use Rattle.gl_graph.proofs.Words.{[], and_both, ap, ap₂, are_inner, AreInnerParents, AreRecounted, AreSound, arith, beside_in_body, Body, body_adopted}
use Rattle.gl_graph.proofs.Words.{body_with_parents, Bool, both, children_of, cond, ContainsKey, due, due_as, false, File, first_cycle, get, Global, Graph}
use Rattle.gl_graph.proofs.Words.{graph_of, Holds, if◌then◌else◌, is_file_shape, is_inner_shape, is_live, is_movable_shape, is_record_shape, is_some}
use Rattle.gl_graph.proofs.Words.{IsLawfulGraph, least_parents, length, Limits, List, list_all, list_any, marked, no, node_at, node_of, NodeId, None}
use Rattle.gl_graph.proofs.Words.{number_other, number_same, Option, parents_in, parents_in_body, parents_of, refl, same_node, same_node-equal, same_node-other}
use Rattle.gl_graph.proofs.Words.{same_number, seen, Shape, shape_in, shape_in_body, shape_of, Slab, slab_len, Some, some_is, split, Stored, subst, sym, true}
use Rattle.gl_graph.proofs.Words.{Updates, Vec, vertex_of, with_node, with_parents, ℕ, ◌&&◌, ◌+◌, ◌-◌, ◌<◌, ◌==◌, ◌^◌, ◌∙◌, ◌∷◌, ◌≡◌, ◌≤◌}
use Rattle.gl_graph.specs.declared.node.Body.TheVariants as body
use Rattle.gl_graph.proofs.Branch.{movable_live, movable_no_record}
use Rattle.gl_graph.proofs.Changed.{IsAlike, at_other, indexes_same, changed_frames}
use Rattle.gl_graph.proofs.Counted.{AreKept, are_kept, counted_in, counts_written}
use Rattle.gl_graph.proofs.Dues.{child_test, record_test, inner_due, children_fit, some_child, own_parents, one_moved}
use Rattle.gl_graph.proofs.Held.{IsStored, live_held, node_stored, node_written, sound_held, recounted, recounted_same, recounted_twice, due_after}
use Rattle.gl_graph.proofs.KindRules.{parents_kept, plain_live, inner_plain, file_plain}
use Rattle.gl_graph.proofs.Look.{found_at}
use Rattle.gl_graph.proofs.Marked.{marked_lawful}
use Rattle.gl_graph.proofs.Moved.{move_lawful}
use Rattle.gl_graph.proofs.SameParents.{adopted_parents, moved_shape, moved_parents}
use Rattle.gl_graph.proofs.Tally.{ones, count_changed, count_kept}
use Rattle.gl_graph.proofs.Unrefused.{no_cycle}

pub inner_live : (g : Graph) (ps : List NodeId) → are_inner g ps ≡ true → list_all (is_live g) ps ≡ true
inner_live g [] h = refl
inner_live g (p ∷ ps) h = let t = and_both _ (are_inner g ps) h in both _ _ (plain_live g p (inner_plain _ t.0)) (inner_live g ps t.1)

module _ {limits : Limits} {old mid : Slab Stored} {births : ℕ} {g : Graph} (h : Holds limits old births g (due g)) (n : NodeId) (was x : Stored)
    (there : get old n.key ≡ Some was) (born : was.birth ≡ n.birth) (u : Updates old mid n.key (Some x)) (same : x.birth ≡ was.birth)
    (len : slab_len mid ≡ slab_len old) (beside : beside_in_body x.body ≡ beside_in_body was.body)
    (alike : IsAlike (shape_in_body was.body) (shape_in_body x.body)) where
  abbrev pub after : Graph
  after = with_node g n.birth (node_of n.key (vertex_of x))

  pub node_was : node_at g n ≡ Some (node_of n.key (vertex_of was))
  node_was = node_stored h n was there born

  pub changed : Holds limits mid births after (due g)
  changed = node_written h n was x there born u same len beside

  at_n : (b : ℕ) → (b == n.birth) ≡ true → (g.at b ≡ Some (node_of n.key (vertex_of was))) × (after.at b ≡ Some (node_of n.key (vertex_of x)))
  at_n b t = grind (arith, same_number, found_at, node_was)

  at_rest : (b : ℕ) → (b == n.birth) ≡ false → after.at b ≡ g.at b
  at_rest b t = ap (λ z. if z then Some (node_of n.key (vertex_of x)) else g.at b) t

  module _ (law : IsLawfulGraph g) where
    -- the parents of before have a child less, those of now one more
    pub children_changed : (m : NodeId) → children_of after m + ones (list_any (same_node m) (parents_in_body was.body))
        ≡ children_of g m + ones (list_any (same_node m) (parents_in_body x.body))
    children_changed m =
        let t = number_same n.birth n.birth refl in
        let low = law.born n.birth (ap is_some (at_n n.birth t).0) in
        let all = count_changed (child_test m) refl g after n.birth refl (λ b ne. ap (child_test m) (at_rest b (number_other b n.birth ne))) low.0 low.1 in
        let here : ones (child_test m (g.at n.birth)) ≡ ones (list_any (same_node m) (parents_in_body was.body)) = grind (arith, ones, child_test, at_n) in
        let now : ones (child_test m (after.at n.birth)) ≡ ones (list_any (same_node m) (parents_in_body x.body)) = grind arith in
        omega arith

    -- what is then due
    pub due_changed : (f : ℕ → ℕ) (m : NodeId) → (is_inner_shape (shape_of g m) ≡ true → children_of after m ≡ f (children_of g m))
        → (is_file_shape (shape_of g m) ≡ true
        → record_test m (Some (node_of n.key (vertex_of x))) ≡ record_test m (Some (node_of n.key (vertex_of was))))
        → due_as after n (Some (shape_in_body x.body)) ≡ due_as after n (Some (shape_in_body was.body)) → recounted f (due g m) ≡ due after m
    due_changed f m inner file kind =
        due_after g after m f (shape_of g m) (λ e. inner (ap is_inner_shape e)) (λ k. (
          indexes_same g n (node_of n.key (vertex_of was)) (node_of n.key (vertex_of x)) node_was refl alike m,
          count_kept (record_test m) refl g after refl (λ b. split (b == n.birth)
              (λ t. ap (record_test m) (at_n b t).1 ∙ file k ∙ sym (ap (record_test m) (at_n b t).0)) (λ t. ap (record_test m) (at_rest b t))),
        ))
        ∙ split (same_node m n) (λ t.
        let is = same_node-equal m n t in
        ap (λ q. due_as after q (shape_of g q)) is ∙ ap (λ o. due_as after n (shape_in o)) node_was ∙ sym kind
        ∙ sym (grind arith)) (λ t. ap (λ o. due_as after m (shape_in o))
        (sym (at_other g n (node_of n.key (vertex_of was)) (node_of n.key (vertex_of x)) node_was refl m (same_node-other m n t))))

adopted_beside : (b : Body) → beside_in_body (body_adopted b) ≡ beside_in_body b
adopted_beside (body.File kept above) = refl
adopted_beside _ = refl

file_of : (o : Option Shape) → is_file_shape o ≡ true → (adopted : Bool) × (o ≡ Some (File adopted))
file_of (Some (File adopted)) k = (adopted, refl)
file_of _ k = absurd (no k)

module _ {limits : Limits} {old : Slab Stored} {births : ℕ} {g : Graph} (h : Holds limits old births g (due g)) (law : IsLawfulGraph g) (n : NodeId)
    (file : is_file_shape (shape_of g n) ≡ true) where
  slot : IsStored old g (due g) n
  slot = live_held h n (plain_live g n (file_plain _ file))

  pub file_contained : ContainsKey old n.key
  file_contained = ap is_some slot.there

  module _ {new : Slab Stored} (write : (y : Stored) → get old n.key ≡ Some y → Updates old new n.key (Some (record y { body = body_adopted y.body })))
      (len : slab_len new ≡ slab_len old) where
    abbrev fresh : Stored
    fresh = record slot.stored { body = body_adopted slot.stored.body }

    shape_is : (adopted : Bool) × (Some (shape_in_body slot.stored.body) ≡ Some (File adopted))
    shape_is = file_of (Some (shape_in_body slot.stored.body)) (sym (ap (λ o. is_file_shape (shape_in o)) slot.node) ∙ file)

    alike : IsAlike (shape_in_body slot.stored.body) (shape_in_body fresh.body)
    alike = grind arith

    abbrev now : Graph
    now = after h n slot.stored fresh slot.there slot.born (write slot.stored slot.there) refl len (adopted_beside slot.stored.body) alike

    graph_is : now ≡ marked g n
    graph_is = grind arith

    held : Holds limits new births (marked g n) (due g)
    held = subst (λ (g' : Graph). Holds limits new births g' (due g)) graph_is
        (changed h n slot.stored fresh slot.there slot.born (write slot.stored slot.there) refl len (adopted_beside slot.stored.body) alike)

    pub marked_graph : graph_of (seen limits new births) ≡ marked g n
    marked_graph = held.graph

    pub marked_sound : AreSound limits new births
    marked_sound =
        sound_held held (marked_lawful g n law) (λ m live.
        sym (recounted_same (due g m))
        ∙ due_changed h n slot.stored fresh slot.there slot.born (write slot.stored slot.there) refl len (adopted_beside slot.stored.body) alike law (λ c. c) m
        (λ i. let all = children_changed h n slot.stored fresh slot.there slot.born (write slot.stored slot.there) refl len
        (adopted_beside slot.stored.body) alike law m in
        let ps : ones (list_any (same_node m) (parents_in_body fresh.body)) ≡ ones (list_any (same_node m) (parents_in_body slot.stored.body)) = grind arith in
        omega arith) (λ f. ap₂ (λ b qs. b && list_any (same_node m) qs) alike.rec (adopted_parents slot.stored.body))
        (grind arith)
        ∙ ap (λ (g' : Graph). due g' m) graph_is)

-- a node moves
moved_beside : (b : Body) (ps : Vec NodeId Global) → beside_in_body (body_with_parents b ps) ≡ beside_in_body b
moved_beside (body.Inner children above) ps = refl
moved_beside _ ps = refl

module _ {limits : Limits} {old : Slab Stored} {births : ℕ} {g : Graph} (h : Holds limits old births g (due g)) (law : IsLawfulGraph g) (n : NodeId)
    (movable : is_movable_shape (shape_of g n) ≡ true) where
  mover : IsStored old g (due g) n
  mover = live_held h n (movable_live g n movable)

  pub contained : ContainsKey old n.key
  contained = ap is_some mover.there

  can_move : is_movable_shape (Some (shape_in_body mover.stored.body)) ≡ true
  can_move = ap (λ o. is_movable_shape (shape_in o)) (sym mover.node) ∙ movable

  -- whatever is stored under the node's key can get other parents
  pub movable_there : (y : Stored) → get old n.key ≡ Some y → is_movable_shape (Some (shape_in_body y.body)) ≡ true
  movable_there y e = ap (λ (z : Stored). is_movable_shape (Some (shape_in_body z.body))) (some_is (sym e ∙ mover.there)) ∙ can_move

  module _ {mid : Slab Stored} (ps : List NodeId) (inner : AreInnerParents g (least_parents (shape_of g n)) ps) (clear : first_cycle g n ps ≡ None)
      (fresh : Vec NodeId Global) (fresh_is : fresh.items ≡ ps)
      (write : (y : Stored) → get old n.key ≡ Some y → Updates old mid n.key (Some (record y { body = body_with_parents y.body fresh })))
      (len : slab_len mid ≡ slab_len old) (olds : List NodeId) (olds_are : (y : Stored) → get old n.key ≡ Some y → olds ≡ parents_in_body y.body) where
    abbrev moved : Stored
    moved = record mover.stored { body = body_with_parents mover.stored.body fresh }

    alike' : IsAlike (shape_in_body mover.stored.body) (shape_in_body moved.body)
    alike' = grind arith

    abbrev there' : Graph
    there' = after h n mover.stored moved mover.there mover.born (write mover.stored mover.there) refl len
        (moved_beside mover.stored.body fresh) alike'

    held' : Holds limits mid births there' (due g)
    held' = changed h n mover.stored moved mover.there mover.born (write mover.stored mover.there) refl len
        (moved_beside mover.stored.body fresh) alike'

    graph_moved : there' ≡ with_parents g n ps
    graph_moved = grind arith

    law' : IsLawfulGraph there'
    law' =
        subst IsLawfulGraph (sym graph_moved) (move_lawful g law n (node_of n.key (vertex_of mover.stored)) mover.node ps can_move
        (subst (λ (o : Option Shape). AreInnerParents g (least_parents o) ps) (ap shape_in mover.node) inner) (inner_live g ps inner.inner)
        (no_cycle g n ps clear))

    are_olds : parents_of g n ≡ olds
    are_olds = ap parents_in mover.node ∙ sym (olds_are mover.stored mover.there)

    still_inner : (qs : List NodeId) → AreInnerParents g 0 qs → AreInnerParents there' 0 qs
    still_inner qs a =
        parents_kept g there' law (changed_frames g n (node_of n.key (vertex_of mover.stored)) (node_of n.key (vertex_of moved)) mover.node refl alike') 0 qs a

    old_inner : AreInnerParents there' 0 olds
    old_inner = still_inner olds (subst (AreInnerParents g 0) are_olds (own_parents g law n movable))

    new_inner : AreInnerParents there' 0 ps
    new_inner = still_inner ps (record { enough = omega arith; few = inner.few; inner = inner.inner; distinct = inner.distinct })

    -- the old parents have a child
    some_old : (m : NodeId) → list_any (same_node m) olds ≡ true → 1 ≤ children_of g m
    some_old m listed = some_child g law m n (ap (list_any (same_node m)) are_olds ∙ listed)

    was_inner : (m : NodeId) → is_inner_shape (shape_of there' m) ≡ true → is_inner_shape (shape_of g m) ≡ true
    was_inner m i = grind arith

    pub olds_kept : AreKept (λ children. 1 ≤ children) mid olds
    olds_kept =
        are_kept held' law'.keys_differ olds old_inner.inner old_inner.distinct (λ children. 1 ≤ children)
        (λ m listed i. subst (λ b. 1 ≤ counted_in b) (sym (inner_due g m (was_inner m i))) (some_old m listed))

    module _ (less : Slab Stored) (re : AreRecounted (λ children. children - 1) mid less olds (length olds)) where
      abbrev down : NodeId → ℕ → ℕ
      down m c = if list_any (same_node m) olds then c - 1 else c

      abbrev up : NodeId → ℕ → ℕ
      up m c = if list_any (same_node m) ps then c + 1 else c

      lessened : Holds limits less births there' (λ m. recounted (down m) (due g m))
      lessened = counts_written held' law'.keys_differ olds old_inner.inner old_inner.distinct (λ children. children - 1) less re

      pub news_kept : AreKept (λ children. children + 1 < 2 ^ 64) less ps
      news_kept =
          are_kept lessened law'.keys_differ ps new_inner.inner new_inner.distinct (λ children. children + 1 < 2 ^ 64)
          (λ m listed i. subst (λ b. counted_in (recounted (down m) b) + 1 < 2 ^ 64) (sym (inner_due g m (was_inner m i)))
          (fits (list_any (same_node m) olds) (children_of g m) (children_fit g law m)))
        where
          fits : (b : Bool) (k : ℕ) → k + 1 < 2 ^ 64 → cond b (k - 1) k + 1 < 2 ^ 64
          fits true k low = omega arith
          fits false k low = low

      module _ (new : Slab Stored) (re' : AreRecounted (λ children. children + 1) less new ps (length ps)) where
        settled : Holds limits new births there' (λ m. recounted (up m) (recounted (down m) (due g m)))
        settled = counts_written lessened law'.keys_differ ps new_inner.inner new_inner.distinct
            (λ children. children + 1) new re'

        pub moved_graph : graph_of (seen limits new births) ≡ with_parents g n ps
        moved_graph = settled.graph ∙ graph_moved

        pub moved_sound : AreSound limits new births
        moved_sound =
            sound_held settled law' (λ m live.
            recounted_twice (up m) (down m) (due g m)
            ∙ due_changed h n mover.stored moved mover.there mover.born (write mover.stored mover.there) refl len
            (moved_beside mover.stored.body fresh) alike' law (λ c. up m (down m c)) m
            (λ i. one_moved (list_any (same_node m) olds) (list_any (same_node m) ps) (children_of g m) (children_of there' m) (some_old m)
            (ap (λ qs. children_of there' m + ones (list_any (same_node m) qs)) (olds_are mover.stored mover.there)
            ∙ children_changed h n mover.stored moved mover.there mover.born (write mover.stored mover.there) refl len
            (moved_beside mover.stored.body fresh) alike' law m
            ∙ ap (λ qs. children_of g m + ones (list_any (same_node m) qs)) (moved_parents mover.stored.body fresh can_move ∙ fresh_is)))
            (λ f. grind arith)
            (ap (λ s. due_as there' n (Some s)) (moved_shape mover.stored.body fresh)))
          where
            no_record : is_record_shape (Some (shape_in_body mover.stored.body)) ≡ false
            no_record = movable_no_record (Some (shape_in_body mover.stored.body)) can_move
