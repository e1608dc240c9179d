-- One key of a record is written at the place of its index, and its interval at the next place.
use Rattle.gl_graph.proofs.Words.{[], ap, ap₂, AreSound, arith, beside_in_body, Body, body_rekeyed, body_with_key, Bool, ContainsKey, due, due_as, false}
use Rattle.gl_graph.proofs.Words.{first_parent, get, Graph, graph_of, Holds, if◌then◌else◌, indexes_of, interval_of, intervals_of, is_index_of_shape, is_live}
use Rattle.gl_graph.proofs.Words.{is_record_shape, IsLawfulGraph, keys_in, keys_with, length, Limits, List, list_any, no, no_node, node_at, node_of, NodeId}
use Rattle.gl_graph.proofs.Words.{None, none_some, parents_in_body, position, position_or_len, Rec, refl, rekeyed, rekeyed_keys, rekeyed_parents, same_node}
use Rattle.gl_graph.proofs.Words.{same_node-differ, same_node-equal, same_node-refl, same_node-sym, seen, Shape, shape_in, shape_in_body, shape_of, Slab}
use Rattle.gl_graph.proofs.Words.{slab_len, slice_index_or, slice_set, Some, some_is, Stored, subst, suc, sym, true, Updates, vertex_of, with_node, zero, ℕ}
use Rattle.gl_graph.proofs.Words.{◌+◌, ◌<◌, ◌^◌, ◌||◌, ◌∙◌, ◌∷◌, ◌≡◌, ◌≢◌}
use Rattle.std.proofs.lemmas.List.Quantifiers.{position-Some}
use Rattle.gl_graph.specs.declared.node.Body.TheVariants as body
use Rattle.gl_graph.proofs.Changed.{IsAlike}
use Rattle.gl_graph.proofs.Distinct.{one_place, indexes_distinct, index_listed}
use Rattle.gl_graph.proofs.Moved.{rekeyed_is, rekey_lawful}
use Rattle.gl_graph.proofs.KindRules.{index_of, is_plain, plain_live}
use Rattle.gl_graph.proofs.Removed.{rec_live}
use Rattle.gl_graph.proofs.SameParents.{key_parents, parent_set, parent_set_shape}
use Rattle.gl_graph.proofs.RecordParents.{its_file, its_keys, its_parents, record_of_file, file_among}
use Rattle.gl_graph.proofs.Dues.{record_test, no_inner_parent, no_inner_among, record_fixed}
use Rattle.gl_graph.proofs.Held.{IsStored, live_held, sound_held, recounted_same}
use Rattle.gl_graph.proofs.Tally.{ones}
use Rattle.gl_graph.proofs.Written.{after, changed, children_changed, due_changed}

keys_untouched : (is : List NodeId) (ks : List ℕ) (i : NodeId) (key : ℕ) → length ks ≡ length is
    → ((k : ℕ) (d : NodeId) → k < length is → same_node (slice_index_or is k d) i ≡ false) → keys_with is ks i key ≡ ks
keys_untouched [] ks i key e none = refl
keys_untouched (j ∷ is) [] i key e none = refl
keys_untouched (j ∷ is) (k ∷ ks) i key e none =
    ap₂ (λ b xs. (if b then key else k) ∷ xs) (none 0 i (omega arith)) (keys_untouched is ks i key (omega arith) (λ m d low. none (suc m) d (omega arith)))

-- if only this place has the index, its key alone changes
pub keys_set : (is : List NodeId) (ks : List ℕ) (i : NodeId) (key place : ℕ) → length ks ≡ length is → place < length is
    → ((d : NodeId) → same_node (slice_index_or is place d) i ≡ true)
    → ((k : ℕ) (d : NodeId) → k < length is → k ≢ place → same_node (slice_index_or is k d) i ≡ false) → keys_with is ks i key ≡ slice_set ks place key
keys_set [] ks i key place e low here other = absurd (omega arith)
keys_set (j ∷ is) [] i key place e low here other = absurd (omega arith)
keys_set (j ∷ is) (k ∷ ks) i key zero e low here other =
    ap₂ (λ b xs. (if b then key else k) ∷ xs) (here i) (keys_untouched is ks i key (omega arith) (λ m d l. other (suc m) d (omega arith) (omega arith)))
keys_set (j ∷ is) (k ∷ ks) i key (suc place) e low here other =
    ap₂ (λ b xs. (if b then key else k) ∷ xs) (other 0 i (omega arith) (omega arith)) (keys_set is ks i key place (omega arith) (omega arith) (λ d. here d)
    (λ m d l ne. other (suc m) d (omega arith) (let apart : suc m ≢ suc place = omega arith in apart)))

pub intervals_set : (g : Graph) (is : List NodeId) (ks : List ℕ) (i : NodeId) (key place : ℕ) → length ks ≡ length is → place < length is
    → ((d : NodeId) → slice_index_or is place d ≡ i)
    → intervals_of g is (slice_set ks place key) ≡ slice_set (intervals_of g is ks) place (interval_of g i key)
intervals_set g [] ks i key place e low here = absurd (omega arith)
intervals_set g (j ∷ is) [] i key place e low here = absurd (omega arith)
intervals_set g (j ∷ is) (k ∷ ks) i key zero e low here = ap (λ n. interval_of g n key ∷ intervals_of g is ks) (here i)
intervals_set g (j ∷ is) (k ∷ ks) i key (suc place) e low here = grind (arith, intervals_set g is ks i key place (omega arith) (omega arith))

-- an interval for each index
pub count_intervals_of : (g : Graph) (is : List NodeId) (ks : List ℕ) → length ks ≡ length is → length (intervals_of g is ks) ≡ length is
count_intervals_of g [] ks e = refl
count_intervals_of g (j ∷ is) [] e = e
count_intervals_of g (j ∷ is) (k ∷ ks) e = ap suc (count_intervals_of g is ks (omega arith))

body_keys : (b : Body) (place key : ℕ) → is_record_shape (Some (shape_in_body b)) ≡ true
    → shape_in_body (body_with_key b place key) ≡ Rec (slice_set (keys_in (Some (shape_in_body b))) place key)
body_keys (body.Inner children above) place key h = absurd (no h)
body_keys (body.File kept above) place key h = absurd (no h)
body_keys (body.Index kept above) place key h = absurd (no h)
body_keys (body.Interval index) place key h = absurd (no h)
body_keys _ place key h = refl

pub record_body : (sh : Shape) → is_record_shape (Some sh) ≡ true → sh ≡ Rec (keys_in (Some sh))
record_body (Rec keys) h = refl
record_body _ h = absurd (no h)

key_beside : (b : Body) (place key : ℕ) (n : NodeId) → beside_in_body (body_rekeyed b place key n) ≡ beside_in_body b
key_beside (body.Inner children above) place key n = refl
key_beside _ place key n = refl

-- a record is stored that has this key, and a parent at the next place
pub record HasPlace (s : Slab Stored) (r : NodeId) (place : ℕ) : Type 0 where
  pub there : ContainsKey s r.key
  pub keys : (x : Stored) → get s r.key ≡ Some x → place < length (keys_in (Some (shape_in_body x.body)))
  pub parents : (x : Stored) → get s r.key ≡ Some x → place + 1 < length (parents_in_body x.body)
  pub place_fits : place + 1 < 2 ^ 64

module _ {limits : Limits} {old : Slab Stored} {births : ℕ} {g : Graph} (h : Holds limits old births g (due g)) (law : IsLawfulGraph g)
    (r i : NodeId) (key place : ℕ) (rec : is_record_shape (shape_of g r) ≡ true)
    (file : NodeId) (its : file ≡ first_parent g r) (found : position (λ listed. same_node listed i) (indexes_of g file) ≡ Some place) where
  abbrev is : List NodeId
  is = indexes_of g (first_parent g r)

  at : position (λ listed. same_node listed i) is ≡ Some place
  at = subst (λ f. position (λ listed. same_node listed i) (indexes_of g f) ≡ Some place) its found

  abbrev keys : List ℕ
  keys = keys_in (shape_of g r)

  live : is_live g r ≡ true
  live = rec_live g law r rec

  slot : IsStored old g (due g) r
  slot = live_held h r live

  -- whatever is stored under the record's key is the record
  node_is : (x : Stored) → get old r.key ≡ Some x → node_at g r ≡ Some (node_of r.key (vertex_of x))
  node_is x e = slot.node ∙ ap (λ z. Some (node_of r.key (vertex_of z))) (some_is (sym slot.there ∙ e))

  low : place < length is
  low = (position-Some (λ listed. same_node listed i) is place no_node at).0

  here : (d : NodeId) → slice_index_or is place d ≡ i
  here d = same_node-equal _ i (position-Some (λ listed. same_node listed i) is place d at).1

  other : (k : ℕ) (d : NodeId) → k < length is → k ≢ place → same_node (slice_index_or is k d) i ≡ false
  other k d l ne = same_node-differ _ i (λ e. ne (one_place is k place d (indexes_distinct g (first_parent g r)) l low (e ∙ sym (here d))))

  each : length keys ≡ length is
  each = its_keys g law r rec

  -- the key and its interval have their places in what is stored
  pub rekeys : HasPlace old r place
  rekeys = grind (arith, slot, node_is, low, each, its_parents, count_intervals_of)

  keys_are : keys_with is keys i key ≡ slice_set keys place key
  keys_are = keys_set is keys i key place each low (λ d. ap (λ q. same_node q i) (here d) ∙ same_node-refl i) other

  module _ {new : Slab Stored} (interval : NodeId) (its_interval : interval ≡ interval_of g i key) (written : (x : Stored) → get old r.key ≡ Some x
      → Updates old new r.key (Some (record x { body = body_rekeyed x.body place key interval }))) (len : slab_len new ≡ slab_len old) where
    write : (x : Stored) → get old r.key ≡ Some x → Updates old new r.key (Some (record x { body = body_rekeyed x.body place key (interval_of g i key) }))
    write = grind arith

    abbrev was : Stored
    was = slot.stored

    abbrev x : Stored
    x = record was { body = body_rekeyed was.body place key (interval_of g i key) }

    rec_body : is_record_shape (Some (shape_in_body was.body)) ≡ true
    rec_body = ap (λ o. is_record_shape (shape_in o)) (sym (node_is was slot.there)) ∙ rec

    shape_is : shape_in_body x.body ≡ Rec (rekeyed_keys g r i key)
    shape_is = grind (arith, parent_set_shape, body_keys, slot, keys_are)

    parents_are : parents_in_body x.body ≡ rekeyed_parents g r i key
    parents_are = grind (arith, parent_set, body_keys, key_parents, slot, its_parents, intervals_set, each, low, here, keys_are)

    node_rekeyed : node_of r.key (vertex_of x) ≡ record { key = r.key; shape = Rec (rekeyed_keys g r i key); parents = rekeyed_parents g r i key }
    node_rekeyed = let s = shape_is in let p = parents_are in λ j. record { key = r.key; shape = s j; parents = p j }

    alike : IsAlike (shape_in_body was.body) (shape_in_body x.body)
    alike = grind arith

    abbrev there' : Graph
    there' = after h r was x slot.there slot.born (write was slot.there) refl len
        (key_beside was.body place key (interval_of g i key)) alike

    graph_is : there' ≡ rekeyed g r i key
    graph_is = ap (with_node g r.birth) node_rekeyed ∙ rekeyed_is g r i key (node_of r.key (vertex_of was)) (node_is was slot.there)

    held : Holds limits new births (rekeyed g r i key) (due g)
    held = subst (λ (g' : Graph). Holds limits new births g' (due g)) graph_is
        (changed h r was x slot.there slot.born (write was slot.there) refl len (key_beside was.body place key (interval_of g i key)) alike)

    pub rekeyed_graph : graph_of (seen limits new births) ≡ rekeyed g r i key
    rekeyed_graph = held.graph

    law' : IsLawfulGraph (rekeyed g r i key)
    law' = rekey_lawful g law r (node_of r.key (vertex_of was)) (node_is was slot.there) (keys_in (Some (shape_in_body was.body))) i key
        (record_body (shape_in_body was.body) rec_body)

    pub rekeyed_sound : AreSound limits new births
    rekeyed_sound =
        sound_held held law' (λ m alive.
        sym (recounted_same (due g m))
        ∙ due_changed h r was x slot.there slot.born (write was slot.there) refl len (key_beside was.body place key (interval_of g i key)) alike law (λ c. c) m
        (λ k. let all = children_changed h r was x slot.there slot.born (write was slot.there) refl len
        (key_beside was.body place key (interval_of g i key)) alike law m in
        let none : ones (list_any (same_node m) (parents_in_body was.body)) ≡ 0 = grind (arith, ones, slot, no_inner_parent, record_fixed) in
        let none' : ones (list_any (same_node m) (parents_in_body x.body)) ≡ 0 = grind (arith, ones, parents_are, no_inner_among, its_file) in
        omega arith) (λ f. grind (arith, shape_is, parents_are, file_among, record_of_file, record_test, slot))
        (ap (λ s. due_as there' r (Some s)) shape_is ∙ sym (ap (λ s. due_as there' r (Some s)) (record_body (shape_in_body was.body) rec_body)))
        ∙ ap (λ (g' : Graph). due g' m) graph_is)

-- an item that passes a test is found by it
first_within : {A : Type 0} (p : A → Bool) (xs : List A) → list_any p xs ≡ true → position_or_len p xs < length xs
first_within p [] h = absurd (no h)
first_within p (x ∷ xs) h = grind (arith, first_within p xs)

pub not_missed : {A : Type 0} (p : A → Bool) (xs : List A) → list_any p xs ≡ true → position p xs ≡ None → ⊥
not_missed p xs h e = grind (arith, low, first_within, none_some)

-- an index of a file is found among the file's
pub index_among : (g : Graph) (law : IsLawfulGraph g) (f i : NodeId) → is_index_of_shape f (shape_of g i) ≡ true
    → list_any (λ listed. same_node listed i) (indexes_of g f) ≡ true
index_among g law f i h =
    turned (indexes_of g f) ∙ index_listed g law f i (plain_live g i (ap is_plain (index_of f (shape_of g i) h).3)) h
  where
    turned : (xs : List NodeId) → list_any (λ listed. same_node listed i) xs ≡ list_any (same_node i) xs
    turned [] = refl
    turned (x ∷ xs) = ap₂ (λ a b. a || b) (same_node-sym x i) (turned xs)
