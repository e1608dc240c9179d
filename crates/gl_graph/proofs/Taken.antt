-- A record, or a node with its children, is removed: what is stored beside the rest is due again after its parents and its file count it no longer.
use Rattle.gl_graph.proofs.Words.{◌+◌, ◌-◌, ◌==◌, ◌||◌, ◌∙◌, ◌≡◌, ◌≢◌, ◌≤◌, ◌⊎◌, ap, ap₂, are_distinct, are_inner, AreBornApart, AreGone, AreRecounted}
use Rattle.gl_graph.proofs.Words.{AreSound, AreStored, arith, Beside, beside_in_body, Body, body_with_records, body_without_index, Bool, Box, children_of}
use Rattle.gl_graph.proofs.Words.{ContainsKey, due, false, filter, first_parent, fun_ext, get, Global, Graph, graph_of, Holds, if◌then◌else◌, Index, IndexBody}
use Rattle.gl_graph.proofs.Words.{indexes_of, inl, inr, intervals_in, is_child, is_file_shape, is_in_use, is_index_of_shape, is_index_shape, is_inner_shape}
use Rattle.gl_graph.proofs.Words.{is_interval_shape, is_live, is_movable_shape, is_record_shape, is_some, IsIndexNode, IsLawfulGraph, length, Limits, List}
use Rattle.gl_graph.proofs.Words.{list_any, Lists, no, node_at, node_is, NodeId, None, none_some, not, not_true, number_same, Option, or_left, other_number}
use Rattle.gl_graph.proofs.Words.{parents_in, parents_in_body, parents_of, record_count, refl, rules, same_node, same_node-differ, same_node-equal}
use Rattle.gl_graph.proofs.Words.{same_node-refl, same_node-sym, seen, Shape, shape_in, shape_in_body, shape_of, Slab, slab_len, slice_get_within, Some}
use Rattle.gl_graph.proofs.Words.{some_is, split, Stored, subst, sym, true, Updates, Vec, without_branch, without_node, ℕ}
use Rattle.gl_graph.specs.declared.node.Body.TheVariants as body
use Rattle.gl_graph.proofs.Added.{records_written}
use Rattle.gl_graph.proofs.Branch.{at_beside, at_gone, child_is, children_are, count_left, gone, gone_is, indexes_left, inner_left, left, left_is, left_lawful}
use Rattle.gl_graph.proofs.Branch.{left_shape, live, movable_no_interval, no_branch, no_interval_file, other_indexes, records_left}
use Rattle.gl_graph.proofs.Counted.{are_kept, AreKept, counted_in, counts_written}
use Rattle.gl_graph.proofs.Distinct.{keys_apart}
use Rattle.gl_graph.proofs.Dues.{child_test, count_without, due_stays, file_due, inner_due, no_inner_parent, not_its_own, one_less, own_parents, record_fixed}
use Rattle.gl_graph.proofs.Dues.{record_test, some_child}
use Rattle.gl_graph.proofs.Held.{beside_written, IsStored, live_held, node_held, node_removed, put, put_here, put_other, recounted, recounted_same, sound_held}
use Rattle.gl_graph.proofs.KindRules.{file_plain, index_node, inner_plain, plain_live}
use Rattle.gl_graph.proofs.Look.{finds, listed_at, live_node, place_listed}
use Rattle.gl_graph.proofs.RecordParents.{its_file, record_of_file}
use Rattle.gl_graph.proofs.Removed.{rec_live, removed_lawful, was_there}
use Rattle.gl_graph.proofs.SameParents.{records_shown, unlisted_shown}
use Rattle.gl_graph.proofs.Slots.{at_birth, at_slot, shown, slot_at}
use Rattle.gl_graph.proofs.Tally.{ones}

-- a record
module _ {limits : Limits} {old : Slab Stored} {births : ℕ} {g : Graph} (h : Holds limits old births g (due g)) (law : IsLawfulGraph g) (r : NodeId)
    (rec : is_record_shape (shape_of g r) ≡ true) where
  rec_lives : is_live g r ≡ true
  rec_lives = rec_live g law r rec

  pub contained : ContainsKey old r.key
  contained = ap is_some (live_held h r rec_lives).there

  abbrev pub file : NodeId
  file = first_parent g r

  file_is : is_file_shape (shape_of g file) ≡ true
  file_is = its_file g law r rec

  slot : IsStored old g (due g) file
  slot = live_held h file (plain_live g file (file_plain _ file_is))

  abbrev rest : Graph
  rest = without_node g r

  records_less : (f : NodeId) → is_file_shape (shape_of g f) ≡ true → record_count g f ≡ record_count rest f + ones (same_node f file)
  records_less f k =
      Rattle.gl_graph.proofs.Dues.count_left g law (record_test f) refl r rec_lives ∙ ap (λ b. record_count rest f + ones b) (record_of_file g law r rec f k)

  counted_there : record_count g file ≡ record_count rest file + 1
  counted_there = records_less file file_is ∙ ap (λ b. record_count rest file + ones b) (same_node-refl file)

  pub some_record : (n : NodeId) → n ≡ file → 1 ≤ record_count g n
  some_record n is_its = let c = counted_there in let same = ap (record_count g) is_its in omega arith

  module _ {mid : Slab Stored} (u : Updates old mid r.key None) (len : slab_len mid + 1 ≡ slab_len old) where
    file_there : get mid file.key ≡ Some slot.stored
    file_there =
        u.others file.key (λ e. no (sym (no_file (shape_of g r) rec) ∙ ap (λ q. is_file_shape (shape_of g q))
        (sym (law.keys_differ file r (plain_live g file (file_plain _ file_is)) rec_lives e)) ∙ file_is)) ∙ slot.there
      where
        no_file : (o : Option Shape) → is_record_shape o ≡ true → is_file_shape o ≡ false
        no_file (Some (Index f bs is)) k = refl
        no_file (Some (Rattle.gl_graph.specs.Shapes.File adopted)) k = absurd (no k)
        no_file _ k = refl

    pub file_contained : (n : NodeId) → n ≡ file → ContainsKey mid n.key
    file_contained n is_its = ap (λ (m : NodeId). is_some (get mid m.key)) is_its ∙ ap is_some file_there

    module _ (named : NodeId) (is_its : named ≡ file) (all : ℕ) (count : all ≡ record_count g named) (new : Slab Stored)
        (written_as : (y : Stored) → get mid named.key ≡ Some y
        → Updates mid new named.key (Some (record y { body = body_with_records y.body (all - 1) }))) (len' : slab_len new ≡ slab_len mid) where
      abbrev records : ℕ
      records = all - 1

      write : (y : Stored) → get mid file.key ≡ Some y → Updates mid new file.key (Some (record y { body = body_with_records y.body records }))
      write = grind arith

      written : Holds limits new births rest (put file (beside_in_body (body_with_records slot.stored.body records)) (due g))
      written =
          beside_written (node_removed h law r rec_lives u len) file slot.stored
          (record slot.stored { body = body_with_records slot.stored.body records }) file_there slot.born (write slot.stored file_there) refl len'
          (records_shown file.key slot.stored.body records)

      pub removed_graph : graph_of (seen limits new births) ≡ rest
      removed_graph = written.graph

      stays : (m : NodeId) → is_live rest m ≡ true → node_at rest m ≡ node_at g m
      stays m alive = let x = live_node (node_at rest m) alive in x.1 ∙ sym (was_there g law r rec m x.0 x.1)

      due_file : is_live rest file ≡ true → beside_in_body (body_with_records slot.stored.body records) ≡ due rest file
      due_file alive =
          records_written slot.stored.body (indexes_of g file) (record_count g file) records (slot.kept ∙ file_due g file file_is)
          ∙ ap₂ Lists (sym (Rattle.gl_graph.proofs.Removed.indexes_left g law r rec file))
          (let c = counted_there in let was = count ∙ ap (record_count g) is_its in omega arith)
          ∙ sym (file_due rest file (ap (λ o. is_file_shape (shape_in o)) (stays file alive) ∙ file_is))

      pub removed_sound : AreSound limits new births
      removed_sound =
          sound_held written (removed_lawful g law r rec) (λ m alive. split (same_node m file) (λ t.
          let same = same_node-equal m file t in
          ap (put file (beside_in_body (body_with_records slot.stored.body records)) (due g)) same
          ∙ put_here file (beside_in_body (body_with_records slot.stored.body records)) (due g)
          ∙ due_file (ap (is_live rest) (sym same) ∙ alive) ∙ ap (due rest) (sym same))
          (λ t. put_other file (beside_in_body (body_with_records slot.stored.body records)) (due g) m t ∙ sym (recounted_same (due g m))
          ∙ due_stays g rest m (λ c. c) (stays m alive) (λ i.
          let all : children_of g m ≡ children_of rest m + ones (is_child g m r) =
          Rattle.gl_graph.proofs.Dues.count_left g law (child_test m) refl r rec_lives in
          let none : ones (is_child g m r) ≡ 0 = ap ones (no_inner_parent g law m r i (record_fixed (shape_of g r) rec)) in
          omega arith) (λ f. (
            Rattle.gl_graph.proofs.Removed.indexes_left g law r rec m,
            (let all = records_less m f in let none : ones (same_node m file) ≡ 0 = ap ones t in omega arith),
          ))))

interval_fixed : (o : Option Shape) → is_interval_shape o ≡ true → is_movable_shape o ≡ false
interval_fixed o k = search rules

-- a movable node that is not in use, with its children
module _ {limits : Limits} {old : Slab Stored} {births : ℕ} {g : Graph} (h : Holds limits old births g (due g)) (law : IsLawfulGraph g) (n : NodeId)
    (movable : is_movable_shape (shape_of g n) ≡ true) (free : is_in_use g n ≡ false) where
  lives : is_live g n ≡ true
  lives = live g law n movable free

  node_slot : IsStored old g (due g) n
  node_slot = live_held h n lives

  pub node_contained : ContainsKey old n.key
  node_contained = ap is_some node_slot.there

  not_gone : (m : NodeId) → is_live (left g n) m ≡ true → same_node n m ≡ false
  not_gone m alive = grind arith

  -- its parents have one child less
  children_less : (m : NodeId) → is_inner_shape (shape_of g m) ≡ true → children_of (left g n) m + ones
      (list_any (same_node m) (parents_of g n)) ≡ children_of g m
  children_less m i =
      sym (count_without g law (child_test m) refl (left g n) n lives refl
      (at_gone g n n.birth (or_left (n.birth == n.birth) _ (number_same n.birth n.birth refl)))
      (λ b ne. grind (arith, gone, child_test, at_gone, no_child, at_beside)))
    where
      no_child : (b : ℕ) → b ≢ n.birth → gone g n b ≡ true → (o : Option Rattle.gl_graph.specs.Graph.Node) → g.at b ≡ o → child_test m (g.at b) ≡ false
      no_child b ne t None e = ap (child_test m) e
      no_child b ne t (Some x) e =
          let there : node_at g (record { key = x.key; birth = b }) ≡ Some x = finds x.key (g.at b) x e refl in
          let c : is_child g n (record { key = x.key; birth = b }) ≡ true = grind arith in
          ap (child_test m) (e ∙ sym there)
          ∙ no_inner_parent g law m (record { key = x.key; birth = b }) i (interval_fixed (shape_of g (record { key = x.key; birth = b }))
          (children_are g law n movable free (record { key = x.key; birth = b }) c).1)

  -- what is then due, but beside the file of a removed index
  due_left : (f : ℕ → ℕ) (m : NodeId) → is_live (left g n) m ≡ true
      → (is_inner_shape (shape_of g m) ≡ true → children_of (left g n) m ≡ f (children_of g m))
      → is_index_of_shape m (shape_of g n) ≡ false → recounted f (due g m) ≡ due (left g n) m
  due_left f m alive inner not_its =
      due_stays g (left g n) m f (left_is g n m alive) inner (λ k. (other_indexes g law n movable free m not_its, records_left g law n movable free m))

  -- the node is gone, and its parents are counted down
  module _ (x : Stored) (there : get old n.key ≡ Some x) (ps : List NodeId) (ps_are : ps ≡ parents_in_body x.body) (s : Slab Stored)
      (beside : NodeId → Beside) (now : Holds limits s births (left g n) beside)
      (inner_same : (m : NodeId) → is_inner_shape (shape_of g m) ≡ true → beside m ≡ due g m) where
    parents_are : parents_of g n ≡ ps
    parents_are = ap parents_in node_slot.node ∙ ap (λ (z : Stored). parents_in_body z.body) (some_is (sym node_slot.there ∙ there)) ∙ sym ps_are

    distinct : are_distinct ps ≡ true
    distinct = ap are_distinct (sym parents_are) ∙ (own_parents g law n movable).distinct

    inner : are_inner (left g n) ps ≡ true
    inner = ap (are_inner (left g n)) (sym parents_are)
        ∙ inner_left g law n movable free (parents_of g n) (own_parents g law n movable).inner (not_its_own g law n movable)

    was_inner : (m : NodeId) → is_inner_shape (shape_of (left g n) m) ≡ true → is_inner_shape (shape_of g m) ≡ true
    was_inner m i = ap is_inner_shape (sym (left_shape g n m (plain_live (left g n) m (inner_plain _ i)))) ∙ i

    parents_kept : AreKept (λ children. 1 ≤ children) s ps
    parents_kept =
        are_kept now (left_lawful g law n movable free).keys_differ ps inner distinct (λ children. 1 ≤ children)
        (λ m listed i. grind (arith, counted_in, was_inner, inner_due, some_child, parents_are))

    abbrev down : NodeId → ℕ → ℕ
    down m c = if list_any (same_node m) ps then c - 1 else c

    module _ (new : Slab Stored) (re : AreRecounted (λ children. children - 1) s new ps (length ps)) where
      settled : Holds limits new births (left g n) (λ m. recounted (down m) (beside m))
      settled = counts_written now (left_lawful g law n movable free).keys_differ ps inner distinct (λ children. children - 1) new re

      left_graph : graph_of (seen limits new births) ≡ without_branch g n
      left_graph = settled.graph

      due_down : (m : NodeId) → is_live (left g n) m ≡ true → is_index_of_shape m (shape_of g n) ≡ false → recounted (down m) (due g m) ≡ due (left g n) m
      due_down m alive not_its =
          due_left (down m) m alive (λ i. sym (one_less (list_any (same_node m) ps) (children_of g m) (children_of (left g n) m)
          (ap (λ qs. children_of (left g n) m + ones (list_any (same_node m) qs)) (sym parents_are) ∙ children_less m i))) not_its

      left_sound : ((m : NodeId) → is_live (left g n) m ≡ true
          → ((is_index_of_shape m (shape_of g n) ≡ false) × (beside m ≡ due g m)) ⊎
          (recounted (down m) (beside m) ≡ due (left g n) m)) → AreSound limits new births
      left_sound each =
          sound_held settled (left_lawful g law n movable free) (λ m alive. grind (arith, alive, recounted, due_down, left))

  -- no index
  module _ (alone : is_index_shape (shape_of g n) ≡ false) (mid : Slab Stored) (u : Updates old mid n.key None) (len : slab_len mid + 1 ≡ slab_len old) where
    lone : Holds limits mid births (left g n) (due g)
    lone = subst (λ (g' : Graph). Holds limits mid births g' (due g)) (sym (no_branch g law n movable free alone))
        (node_removed h law n lives u len)

    of_none : (m : NodeId) → is_index_of_shape m (shape_of g n) ≡ false
    of_none m = grind arith

    module _ (x : Stored) (there : get old n.key ≡ Some x) (ps : List NodeId) (ps_are : ps ≡ parents_in_body x.body) where
      pub alone_kept : AreKept (λ children. 1 ≤ children) mid ps
      alone_kept = parents_kept x there ps ps_are mid (due g) lone (λ m i. refl)

      module _ (new : Slab Stored) (re : AreRecounted (λ children. children - 1) mid new ps (length ps)) where
        pub alone_graph : graph_of (seen limits new births) ≡ without_branch g n
        alone_graph = left_graph x there ps ps_are mid (due g) lone (λ m i. refl) new re

        pub alone_sound : AreSound limits new births
        alone_sound = left_sound x there ps ps_are mid (due g) lone (λ m i. refl) new re (λ m stays. inl (of_none m, refl))

-- a file that no longer lists an index
unlisted_beside : (b : Body) (n : NodeId) (is : List NodeId) (k : ℕ) → beside_in_body b ≡ Lists is k
    → beside_in_body (body_without_index b n) ≡ Lists (filter (λ listed. not (same_node listed n)) is) k
unlisted_beside (body.File kept above) n is k e = cc
unlisted_beside _ n is k e = cc

index_movable : (o : Option Shape) → is_index_shape o ≡ true → is_movable_shape o ≡ true
index_movable o k = search rules

-- a slot after the removal
abbrev left_in : Graph → NodeId → Option Stored → Option Stored
left_in g n None = None
left_in g n (Some x) = if gone g n x.birth then None else Some x

-- an index, with its intervals
module _ {limits : Limits} {old : Slab Stored} {births : ℕ} {g : Graph} (h : Holds limits old births g (due g)) (law : IsLawfulGraph g) (n : NodeId)
    (index : is_index_shape (shape_of g n) ≡ true) (free : is_in_use g n ≡ false) where
  movable : is_movable_shape (shape_of g n) ≡ true
  movable = index_movable (shape_of g n) index

  alive : is_live g n ≡ true
  alive = live g law n movable free

  its_slot : IsStored old g (due g) n
  its_slot = live_held h n alive

  pub index_contained : ContainsKey old n.key
  index_contained = ap is_some its_slot.there

  pub is_stored_index : (x : Stored) → get old n.key ≡ Some x
      → ((boxed : Box IndexBody) (above : Vec NodeId Global) → x.body ≡ body.Index boxed above → ⊥) → ⊥
  is_stored_index x at none = grind (arith, its_slot, no)

  module _ (x : Stored) (there : get old n.key ≡ Some x) (f : NodeId) (bs : List ℕ) (ids : List NodeId) (shape : shape_in_body x.body ≡ Index f bs ids)
      (mid : Slab Stored) (u : Updates old mid n.key None) (len : slab_len mid + 1 ≡ slab_len old) where
    same_slot : its_slot.stored ≡ x
    same_slot = some_is (sym its_slot.there ∙ there)

    born : x.birth ≡ n.birth
    born = ap (λ (z : Stored). z.birth) (sym same_slot) ∙ its_slot.born

    shape_is : shape_of g n ≡ Some (Index f bs ids)
    shape_is = ap shape_in its_slot.node ∙ ap (λ (z : Stored). Some (shape_in_body z.body)) same_slot ∙ ap Some shape

    its_rule : IsIndexNode g n f bs ids
    its_rule = index_node g law n f bs ids shape_is

    interval_is : (m : NodeId) → list_any (same_node m) ids ≡ true
        → (is_live g m ≡ true) × (is_interval_shape (shape_of g m) ≡ true) × (is_child g n m ≡ true)
    interval_is m listed = let node = its_rule.intervals m listed in (grind arith)

    key_apart : (m : NodeId) → list_any (same_node m) ids ≡ true → m.key ≢ n.key
    key_apart m listed same =
        let it = interval_is m listed in
        no (sym (movable_no_interval (shape_of g n) movable) ∙ ap (λ q. is_interval_shape (shape_of g q)) (sym (law.keys_differ m n it.0 alive same)) ∙ it.1)

    pub intervals_there : AreStored mid ids
    intervals_there = record {
      there = λ place m e.
          let listed = listed_at ids place m e in
          ap is_some (u.others m.key (key_apart m listed) ∙ (live_held h m (interval_is m listed).0).there);
      apart = keys_apart g law.keys_differ ids its_rule.distinct (λ m listed. (interval_is m listed).0);
    }

    module _ (third : Slab Stored) (taken : AreGone mid third ids (length ids)) where
      gone_for : (k : ℕ) (y : Stored) → k ≢ n.key → get old k ≡ Some y → gone g n y.birth ≡ is_child g n (record { key = k; birth = y.birth })
      gone_for k y ne e =
          gone_is g n alive (record { key = k; birth = y.birth }) (ap is_some (node_held h k y e))
          ∙ ap (λ b. b || is_child g n (record { key = k; birth = y.birth }))
          (same_node-differ n (record { key = k; birth = y.birth }) (λ same. ne (ap (λ m. m.key) (sym same))))

      slots : (k : ℕ) → get third k ≡ left_in g n (get old k)
      slots k =
          split (k == n.key) (λ t. grind (arith, stays, key_apart, born, listed_at))
          (λ t. by (other_number k n.key t) (get old k) refl)
        where
          by : k ≢ n.key → (o : Option Stored) → get old k ≡ o → get third k ≡ left_in g n o
          by ne None e = grind arith
          by ne (Some y) e =
              split (is_child g n (record { key = k; birth = y.birth })) (λ c.
              let listed = sym (child_is g law n movable free (record { key = k; birth = y.birth })) ∙ c in
              let at = place_listed ids (record { key = k; birth = y.birth })
              (ap (λ o. list_any (same_node (record { key = k; birth = y.birth })) (intervals_in o)) (sym shape_is) ∙ listed) in
              taken.gone at.0 (record { key = k; birth = y.birth }) (slice_get_within ids at.0 _ at.1) at.1
              ∙ sym (ap (λ b. if b then None else Some y) (gone_for k y ne e ∙ c))) (λ c. taken.stays k (λ place m low at. λ (key : m.key ≡ k).
              let found = interval_is m (listed_at ids place m at) in
              let z = live_held h m found.0 in
              let same : y ≡ z.stored = some_is (sym e ∙ ap (get old) (sym key) ∙ z.there) in
              let is_m : record { key = k; birth = y.birth } ≡ m = node_is (record { key = k; birth = y.birth }) m (sym key)
              (ap (λ w. w.birth) same ∙ z.born) in
              no (sym c ∙ ap (is_child g n) is_m ∙ found.2))
              ∙ u.others k ne ∙ e ∙ sym (ap (λ b. if b then None else Some y) (gone_for k y ne e ∙ c)))

      -- a remaining node was there, and its birth is not removed
      stood : (k : ℕ) (y : Stored) → get third k ≡ Some y → (get old k ≡ Some y) × (gone g n y.birth ≡ false)
      stood k y e = by (get old k) refl
        where
          by : (o : Option Stored) → get old k ≡ o → (o ≡ Some y) × (gone g n y.birth ≡ false)
          by None was = absurd (none_some (sym (slots k ∙ ap (left_in g n) was) ∙ e))
          by (Some z) was =
              split (gone g n z.birth) (λ t. absurd (none_some (sym (slots k ∙ ap (left_in g n) was ∙ ap (λ b. if b then None else Some z) t) ∙ e)))
              (λ t. grind arith)

      still_shown : AreBornApart third × (at_birth third ≡ (λ (b : ℕ). if gone g n b then None else at_birth old b))
      still_shown =
          shown third (λ b. if gone g n b then None else at_birth old b) (λ k y e. grind (arith, stood, at_birth, at_slot))
          (λ b node e. split (gone g n b) (λ t. absurd (none_some (sym (ap (λ z. if z then None else at_birth old b) t) ∙ e))) (λ t.
          let s = slot_at old b node (sym (ap (λ z. if z then None else at_birth old b) t) ∙ e) in
          record {
            key = s.key;
            stored = s.stored;
            there = slots s.key ∙ ap (left_in g n) s.there ∙ ap (λ z. if z then None else Some s.stored) (ap (gone g n) s.born ∙ t);
            born = s.born;
            is = s.is;
          }))

      held : Holds limits third births (left g n) (due g)
      held = record {
        graph = (let same = still_shown.1 in
            λ i. record { at = same i; births = births; most = limits.most; most_bounds = limits.most_bounds })
            ∙ ap (λ (g' : Graph). record {
              at = λ b. if gone g n b then None else g'.at b;
              births = g'.births;
              most = g'.most;
              most_bounds = g'.most_bounds;
            }) h.graph;
        apart = still_shown.0;
        counted = (let all = count_left g law n movable free in
            let many : length (intervals_in (shape_of g n)) ≡ length ids = ap (λ o. length (intervals_in o)) shape_is in
            let was = h.counted in
            let fewer = taken.len in
            omega arith);
        kept = λ k y e. h.kept k y (stood k y e).0;
      }

      is_file : is_file_shape (shape_of g f) ≡ true
      is_file = its_rule.file

      file_slot : IsStored old g (due g) f
      file_slot = live_held h f (plain_live g f (file_plain _ is_file))

      file_not_n : same_node n f ≡ false
      file_not_n = not_true _ (λ t. no (sym (no_file (shape_of g n) index) ∙ ap (λ q. is_file_shape (shape_of g q)) (same_node-equal n f t) ∙ is_file))
        where
          no_file : (o : Option Shape) → is_index_shape o ≡ true → is_file_shape o ≡ false
          no_file o k = search rules

      no_child : is_child g n f ≡ false
      no_child = not_true _ (λ t. no (sym (no_interval_file (shape_of g f) is_file) ∙ (children_are g law n movable free f t).1))

      file_left : is_live (left g n) f ≡ true
      file_left = ap is_some (Rattle.gl_graph.proofs.Branch.stays_left g n alive f (plain_live g f (file_plain _ is_file)) file_not_n no_child)
          ∙ plain_live g f (file_plain _ is_file)

      file_stays : get third f.key ≡ Some file_slot.stored
      file_stays =
          slots f.key ∙ ap (left_in g n) file_slot.there
          ∙ ap (λ b. if b then None else Some file_slot.stored)
          (ap (gone g n) file_slot.born ∙ gone_is g n alive f (plain_live g f (file_plain _ is_file)) ∙ ap₂ (λ a b. a || b) file_not_n no_child)

      pub file_kept : ContainsKey third f.key
      file_kept = ap is_some file_stays

      module _ (fourth : Slab Stored)
          (write : (y : Stored) → get third f.key ≡ Some y → Updates third fourth f.key (Some (record y { body = body_without_index y.body n })))
          (len4 : slab_len fourth ≡ slab_len third) where
        abbrev now : NodeId → Beside
        now = put f (beside_in_body (body_without_index file_slot.stored.body n)) (due g)

        unlisted : Holds limits fourth births (left g n) (put f (beside_in_body (body_without_index file_slot.stored.body n)) (due g))
        unlisted =
            beside_written held f file_slot.stored (record file_slot.stored { body = body_without_index file_slot.stored.body n }) file_stays file_slot.born
            (write file_slot.stored file_stays) refl len4 (unlisted_shown f.key file_slot.stored.body n)

        file_due_now : beside_in_body (body_without_index file_slot.stored.body n) ≡ due (left g n) f
        file_due_now =
            unlisted_beside file_slot.stored.body n (indexes_of g f) (record_count g f) (file_slot.kept ∙ file_due g f is_file)
            ∙ ap₂ Lists (ap (λ (p : NodeId → Bool). filter p (indexes_of g f)) (fun_ext (λ listed. ap not (same_node-sym listed n)))
            ∙ sym (indexes_left g law n movable free f)) (sym (records_left g law n movable free f))
            ∙ sym (file_due (left g n) f (ap is_file_shape (left_shape g n f file_left) ∙ is_file))

        other_inner : (m : NodeId) → is_inner_shape (shape_of g m) ≡ true
            → put f (beside_in_body (body_without_index file_slot.stored.body n)) (due g) m ≡ due g m
        other_inner m i =
            put_other f (beside_in_body (body_without_index file_slot.stored.body n)) (due g) m
            (not_true _ (λ t. no (sym (no_inner (shape_of g f) is_file) ∙ ap (λ q. is_inner_shape (shape_of g q)) (sym (same_node-equal m f t)) ∙ i)))
          where
            no_inner : (o : Option Shape) → is_file_shape o ≡ true → is_inner_shape o ≡ false
            no_inner o k = search rules

        module _ (ps : List NodeId) (ps_are : ps ≡ parents_in_body x.body) where
          pub index_parents_kept : AreKept (λ children. 1 ≤ children) fourth ps
          index_parents_kept = parents_kept h law n movable free x there ps ps_are fourth now unlisted other_inner

          module _ (last : Slab Stored) (re : AreRecounted (λ children. children - 1) fourth last ps (length ps)) where
            pub index_left_graph : graph_of (seen limits last births) ≡ without_branch g n
            index_left_graph = left_graph h law n movable free x there ps ps_are fourth now unlisted other_inner last re

            abbrev fewer : NodeId → ℕ → ℕ
            fewer = down h law n movable free x there ps ps_are fourth now unlisted other_inner

            pub index_left_sound : AreSound limits last births
            index_left_sound =
                left_sound h law n movable free x there ps ps_are fourth now unlisted other_inner last re (λ m live'. split (same_node m f) (λ t.
                let same = same_node-equal m f t in
                inr (grind (arith, recounted, put_here, file_slot, unlisted_beside, file_due, is_file, file_due_now, left))) (λ t. inl
                (grind (arith, shape_is, put_other, file_slot))))
