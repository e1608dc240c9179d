-- Records are given one more key, one after the other.
use Rattle.gl_graph.proofs.Words.{[], ap, AreStored, arith, Body, body_with_parent, get, inl, inr, is_record_shape, length, length-append, List}
use Rattle.gl_graph.proofs.Words.{no_node, NodeId, none_some, other_number, parents_in_body, refl, same_number, Slab, slab_len, slice_get}
use Rattle.gl_graph.proofs.Words.{slice_index_or, slice_set, Some, some_is, split, Stored, subst, suc, sym, Updates, zero, ℕ, ⊎_elim, ◌++◌, ◌+◌, ◌-◌}
use Rattle.gl_graph.proofs.Words.{◌<◌, ◌==◌, ◌∙◌, ◌∷◌, ◌≡◌, ◌≢◌, ◌≤◌, ◌⊎◌}
use Rattle.gl_graph.proofs.Words.{slice_get-get_or}
use Rattle.gl_graph.specs.Keying.{AreBodiesFor, AreKeyed, AreRecordsStored, HasOneMore, IsKeyed}
use Rattle.gl_graph.proofs.Look.{live_node}
use Rattle.gl_graph.proofs.SameParents.{parent_set, parent_set_shape}

-- an item of a list with one more is one that was there, or the last
last_or_before : {A : Type 0} (xs : List A) (y z : A) (k : ℕ) → slice_get (xs ++ y ∷ []) k ≡ Some z → (slice_get xs k ≡ Some z) ⊎ ((k ≡ length xs) × (y ≡ z))
last_or_before [] y z zero e = inr (refl, some_is e)
last_or_before [] y z (suc k) e = absurd (none_some e)
last_or_before (x ∷ xs) y z zero e = inl e
last_or_before (x ∷ xs) y z (suc k) e = ⊎_elim inl (λ (t : (k ≡ length xs) × (y ≡ z)). inr (ap suc t.0, t.1)) (last_or_before xs y z k e)

set_at_end : {A : Type 0} (xs : List A) (y z : A) → slice_set (xs ++ y ∷ []) (length xs) z ≡ xs ++ z ∷ []
set_at_end [] y z = refl
set_at_end (x ∷ xs) y z = ap (λ ys. x ∷ ys) (set_at_end xs y z)

last_set : {A : Type 0} (xs : List A) (y z : A) → slice_set (xs ++ y ∷ []) (length (xs ++ y ∷ []) - 1) z ≡ xs ++ z ∷ []
last_set xs y z =
    let many = length-append xs (y ∷ []) in
    let place : length (xs ++ y ∷ []) - 1 ≡ length xs = omega arith in
    ap (λ k. slice_set (xs ++ y ∷ []) k z) place ∙ set_at_end xs y z

pub set_other : {A : Type 0} (xs : List A) (k j : ℕ) (y : A) → j ≢ k → slice_get (slice_set xs k y) j ≡ slice_get xs j
set_other [] k j y ne = refl
set_other (x ∷ xs) zero zero y ne = absurd (ne refl)
set_other (x ∷ xs) zero (suc j) y ne = refl
set_other (x ∷ xs) (suc k) zero y ne = refl
set_other (x ∷ xs) (suc k) (suc j) y ne = set_other xs k j y (λ e. ne (ap suc e))

pub set_length : {A : Type 0} (xs : List A) (k : ℕ) (y : A) → length (slice_set xs k y) ≡ length xs
set_length [] k y = refl
set_length (x ∷ xs) zero y = refl
set_length (x ∷ xs) (suc k) y = ap suc (set_length xs k y)

-- one more body
pub bodies_more : (nodes : Slab Stored) (rs : List NodeId) (ks : List ℕ) (bodies : List Body) (count : ℕ) → AreBodiesFor nodes rs ks bodies count
    → (r : NodeId) (x : Stored) (b : Body) → slice_get rs count ≡ Some r → get nodes r.key ≡ Some x → HasOneMore x.body b (slice_index_or ks count 0) no_node
    → AreBodiesFor nodes rs ks (bodies ++ b ∷ []) (count + 1)
bodies_more nodes rs ks bodies count are r x b at there more = record {
  many = length-append bodies (b ∷ []) ∙ ap (λ k. k + 1) are.many;
  each = λ place q y c at' there' in_bodies. ⊎_elim (λ (before : slice_get bodies place ≡ Some c). are.each place q y c at' there' before)
      (λ (last : (place ≡ length bodies) × (b ≡ c)).
      let place_is : place ≡ count = last.0 ∙ are.many in
      let same : q ≡ r = some_is (sym at' ∙ ap (slice_get rs) place_is ∙ at) in
      let node : y ≡ x = some_is (sym there' ∙ ap (λ (p : NodeId). get nodes p.key) same ∙ there) in
      subst (λ (z : Stored). HasOneMore z.body c (slice_index_or ks place 0) no_node) (sym node)
      (subst (λ d. HasOneMore x.body d (slice_index_or ks place 0) no_node) last.1
      (subst (λ p. HasOneMore x.body b (slice_index_or ks p 0) no_node) (sym place_is) more)))
      (last_or_before bodies b c place in_bodies);
}

-- the body with its last parent set
set_last : (was b : Body) (key : ℕ) (interval : NodeId) → HasOneMore was b key no_node
    → HasOneMore was (body_with_parent b (length (parents_in_body b) - 1) interval) key interval
set_last was b key interval more = record {
  shape = parent_set_shape b (length (parents_in_body b) - 1) interval ∙ more.shape;
  parents = parent_set b (length (parents_in_body b) - 1) interval (ap (λ sh. is_record_shape (Some sh)) more.shape)
      ∙ ap (λ ps. slice_set ps (length ps - 1) interval) more.parents ∙ last_set (parents_in_body was) no_node interval;
}

-- the next record is as it was
pub untouched : (old mid : Slab Stored) (interval : ℕ → NodeId) (rs : List NodeId) (ks : List ℕ) (count : ℕ) → AreStored old rs
    → AreKeyed old mid interval rs ks count → (r : NodeId) → slice_get rs count ≡ Some r → get mid r.key ≡ get old r.key
untouched old mid interval rs ks count stored are r at =
    are.stays r.key (λ place q low at' same. let e = stored.apart place count q r at' at same in absurd (omega arith))

-- one more record
pub keyed_more : (old mid new : Slab Stored) (interval : ℕ → NodeId) (rs : List NodeId) (ks : List ℕ) (count : ℕ) → AreStored old rs
    → AreKeyed old mid interval rs ks count → (r : NodeId) (x : Stored) (b : Body) → slice_get rs count ≡ Some r → get old r.key ≡ Some x
    → HasOneMore x.body b (slice_index_or ks count 0) no_node
    → ((w : Stored) → get mid r.key ≡ Some w → Updates mid new r.key (Some (record w {
      body = body_with_parent b (length (parents_in_body b) - 1) (interval (slice_index_or ks count 0));
    })))
    → slab_len new ≡ slab_len mid → AreKeyed old new interval rs ks (count + 1)
keyed_more old mid new interval rs ks count stored are r x b at there more write len = record {
  keyed = λ place q y low at' there'. split (place == count)
      (λ t.
      let place_is = same_number place count t in
      let same : q ≡ r = some_is (sym at' ∙ ap (slice_get rs) place_is ∙ at) in
      let node : y ≡ x = some_is (sym there' ∙ ap (λ (p : NodeId). get old p.key) same ∙ there) in
      subst (λ (z : Stored). IsKeyed new q.key z (slice_index_or ks place 0) (interval (slice_index_or ks place 0))) (sym node)
      (subst (λ (p : NodeId). IsKeyed new p.key x (slice_index_or ks place 0) (interval (slice_index_or ks place 0))) (sym same)
      (subst (λ k. IsKeyed new r.key x (slice_index_or ks k 0) (interval (slice_index_or ks k 0))) (sym place_is) here)))
      (λ t.
      let ne = other_number place count t in
      let before = are.keyed place q y (omega arith) at' there' in
      record {
        now = before.now;
        there = u.others q.key (λ same. ne (stored.apart place count q r at' at same)) ∙ before.there;
        birth = before.birth;
        more = before.more;
      });
  stays = λ key none. u.others key (λ same. none count r (omega arith) at (sym same)) ∙ are.stays key (λ place q low at'. none place q (omega arith) at');
  len = len ∙ are.len;
}
  where
    u : Updates mid new r.key (Some (record x { body = body_with_parent b (length (parents_in_body b) - 1) (interval (slice_index_or ks count 0)) }))
    u = write x (untouched old mid interval rs ks count stored are r at ∙ there)

    here : IsKeyed new r.key x (slice_index_or ks count 0) (interval (slice_index_or ks count 0))
    here = record {
      now = record x { body = body_with_parent b (length (parents_in_body b) - 1) (interval (slice_index_or ks count 0)) };
      there = u.changed;
      birth = refl;
      more = set_last x.body b (slice_index_or ks count 0) (interval (slice_index_or ks count 0)) more;
    }

-- the body at a place, that of its record
pub body_at : (old : Slab Stored) (rs : List NodeId) (ks : List ℕ) (bodies all : List Body) (count : ℕ) (b : Body) → AreRecordsStored old rs
    → AreBodiesFor old rs ks all (length rs) → length bodies ≡ length all → ((k : ℕ) → count ≤ k → slice_get bodies k ≡ slice_get all k)
    → count < length rs → b ≡ slice_index_or bodies count b
    → (x : Stored) × (get old (slice_index_or rs count no_node).key ≡ Some x) × HasOneMore x.body b (slice_index_or ks count 0) no_node
body_at old rs ks bodies all count b records are many rest low is =
    let r = slice_index_or rs count no_node in
    let at = slice_get-get_or rs count no_node low in
    let x = live_node (get old r.key) (records.stored.there count r at) in
    let all_many = are.many in (
      x.0,
      x.1,
      are.each count r x.0 b at x.1
          (sym (rest count (omega arith)) ∙ slice_get-get_or bodies count b (omega arith) ∙ ap Some (sym is)),
    )

-- a body with one more parent has one
pub last_parent : (was b : Body) (key : ℕ) → HasOneMore was b key no_node → 0 < length (parents_in_body b)
last_parent was b key more = let many = ap length more.parents in let one = some_more (parents_in_body was) in omega arith
  where
    some_more : (ps : List NodeId) → 0 < length (ps ++ no_node ∷ [])
    some_more [] = omega arith
    some_more (p ∷ ps) = omega arith
