-- What the graph is like if no test finds a reason to refuse.
use Rattle.gl_graph.proofs.Words.{◌+◌, ◌++◌, ◌-◌, ◌<◌, [], ◌||◌, ◌∷◌, ◌≡◌, ◌≤◌, and_both, ap, AreInnerParents, arith, bad_bounds, bad_index_place, bad_parents}
use Rattle.gl_graph.proofs.Words.{Bool, Err, false, first_cycle, first_refusal, get_or, Graph, has_records, index_refusal, indexes_of, is_at_or_below}
use Rattle.gl_graph.proofs.Words.{is_file_shape, is_rising, IsRising, length, List, list_all, max_count, nat_le, nat_lt, nat_tests, no, node_count, NodeId}
use Rattle.gl_graph.proofs.Words.{None, none_some, not, Ok, Option, parents_refusal, record_refusal, refl, Refusal, Refuses, reindex_refusal, Result, shape_of}
use Rattle.gl_graph.proofs.Words.{Some, some_no_node, suc, sym, too_many_nodes, true, verdict, where_true, worn_births, zero, ℕ}
use mathlib.Core.Bool.{true≢false}
use Rattle.gl_modes.specs.declared.refusal.Refusal.TheVariants as refusal

pub not_refused : (x : Option Refusal) (xs : List (Option Refusal)) → first_refusal (x ∷ xs) ≡ None → (x ≡ None) × (first_refusal xs ≡ None)
not_refused None xs h = (refl, h)
not_refused (Some r) xs h = absurd (none_some (sym h))

-- each of its tests was passed, the first in place 0
pub none_refused : (xs : List (Option Refusal)) → first_refusal xs ≡ None → (k : ℕ) → get_or xs k None ≡ None
none_refused [] h k = refl
none_refused (x ∷ xs) h zero = (not_refused x xs h).0
none_refused (x ∷ xs) h (suc k) = none_refused xs (not_refused x xs h).1 k

pub test_fails : (b : Bool) (r : Refusal) → where_true b r ≡ None → b ≡ false
test_fails true r h = absurd (none_some (sym h))
test_fails false r h = refl

pub not_false : (b : Bool) → not b ≡ false → b ≡ true
not_false true h = refl
not_false false h = absurd (true≢false h)

pub or_no : (a b : Bool) → (a || b) ≡ false → (a ≡ false) × (b ≡ false)
or_no true b h = absurd (true≢false h)
or_no false b h = (refl, h)

pub lt_no : (a b : ℕ) → nat_lt a b ≡ false → b ≤ a
lt_no a b h = grind (arith, nat_tests)

pub le_no : (a b : ℕ) → nat_le a b ≡ false → b < a
le_no a b h = grind (arith, nat_tests)

pub inner_parents : (g : Graph) (least : ℕ) (ps : List NodeId) → bad_parents g least ps ≡ false → AreInnerParents g least ps
inner_parents g least ps h = grind arith

pub enough_room : (g : Graph) (more : ℕ) → too_many_nodes g more ≡ None → node_count g + more ≤ g.most
enough_room g more h = lt_no g.most (node_count g + more) (test_fails _ _ h)

pub rising : (bs : List ℕ) → is_rising bs ≡ true → IsRising bs
rising [] h = tt
rising (b ∷ bs) h = let t = and_both (list_all (λ c. nat_lt b c) bs) (is_rising bs) h in (t.0, rising bs t.1)

pub no_cycle : (g : Graph) (n : NodeId) (ps : List NodeId) → first_cycle g n ps ≡ None → list_all (λ p. not (is_at_or_below (node_count g) g n p)) ps ≡ true
no_cycle g n [] h = refl
no_cycle g n (p ∷ ps) h = grind (arith, no_cycle g n ps)

-- a test that answers no refusal found none
pub verdict_ok : (o : Option Refusal) (u : Unit {0}) → Ok u ≡ verdict o → o ≡ None
verdict_ok None u e = refl
verdict_ok (Some r) u e = cc

-- what a new inner node or file needs
pub record AreRoomyParents (g : Graph) (least : ℕ) (ps : List NodeId) : Type 0 where
  pub births : g.births ≤ max_count - g.most
  pub inner : AreInnerParents g least ps
  pub room : node_count g + 1 ≤ g.most

pub parents_unrefused : (g : Graph) (least : ℕ) (ps : List NodeId) → parents_refusal g least ps ≡ None → AreRoomyParents g least ps
parents_unrefused g least ps e = grind arith

-- what a new record needs
pub record IsRoomyRecord (g : Graph) (f : NodeId) (keys : List ℕ) : Type 0 where
  pub births : g.births ≤ max_count - g.most
  pub file : is_file_shape (shape_of g f) ≡ true
  pub each : length keys ≡ length (indexes_of g f)
  pub room : node_count g + 1 ≤ g.most

pub record_unrefused : (g : Graph) (f : NodeId) (keys : List ℕ) → record_refusal g f keys ≡ None → IsRoomyRecord g f keys
record_unrefused g f keys e = grind arith

-- what a new index needs
pub record IsRoomyIndex (g : Graph) (ps : List NodeId) (f : NodeId) (bs : List ℕ) : Type 0 where
  pub births : g.births ≤ max_count - g.most
  pub inner : AreInnerParents g 1 ps
  pub file : is_file_shape (shape_of g f) ≡ true
  pub indexes : length (indexes_of g f) + 1 ≤ 7
  pub unused : has_records g f ≡ false
  pub few : length bs ≤ g.most_bounds
  pub rise : IsRising (0 ∷ bs)
  pub room : node_count g + (2 + length bs) ≤ g.most

pub reindex_unrefused : (g : Graph) (ps : List NodeId) (f : NodeId) (bs : List ℕ) → reindex_refusal g ps f bs ≡ None → IsRoomyIndex g ps f bs
reindex_unrefused g ps f bs e =
    let a = not_refused (worn_births g) _ e in
    let b = not_refused (some_no_node g (ps ++ f ∷ [])) _ a.1 in
    let c = not_refused (where_true (bad_index_place g ps f) refusal.BadParents) _ b.1 in
    let d = not_refused (where_true (has_records g f) refusal.FileInUse) _ c.1 in
    let k = not_refused (where_true (bad_bounds g bs) refusal.BadKeys) _ d.1 in
    let r = not_refused (too_many_nodes g (2 + length bs)) [] k.1 in
    let place = or_no (bad_parents g 1 ps || not (is_file_shape (shape_of g f))) (nat_le 7 (length (indexes_of g f))) (test_fails _ _ c.0) in
    let kinds = or_no (bad_parents g 1 ps) (not (is_file_shape (shape_of g f))) place.0 in
    let bounds = or_no (nat_lt g.most_bounds (length bs)) (not (is_rising (0 ∷ bs))) (test_fails _ _ k.0) in
    let seven = le_no 7 (length (indexes_of g f)) place.1 in
    record {
      births = lt_no (max_count - g.most) g.births (test_fails _ _ a.0);
      inner = inner_parents g 1 ps kinds.0;
      file = not_false _ kinds.1;
      indexes = omega arith;
      unused = test_fails _ _ d.0;
      few = lt_no g.most_bounds (length bs) bounds.0;
      rise = rising (0 ∷ bs) (not_false _ bounds.1);
      room = enough_room g (2 + length bs) r.0;
    }

-- if an index can be made, one can be made also with adopted rows
pub index_again : (g : Graph) (ps : List NodeId) (f : NodeId) (bs : List ℕ) → index_refusal g ps f bs ≡ None → reindex_refusal g ps f bs ≡ None
index_again g ps f bs e = grind arith

pub index_unrefused : (g : Graph) (ps : List NodeId) (f : NodeId) (bs : List ℕ) → index_refusal g ps f bs ≡ None → IsRoomyIndex g ps f bs
index_unrefused g ps f bs e = reindex_unrefused g ps f bs (index_again g ps f bs e)

abbrev passes : Result (Unit {0}) Refusal → Bool
passes (Ok u) = true
passes (Err r) = false

-- a refusal that a test found is answered
pub refused_by : {T : Type 0} (o : Option Refusal) (r : Refusal) (x : Result T Refusal) → Err r ≡ verdict o → x ≡ Err r → Refuses o x
refused_by None r x e f = absurd (no (ap passes e))
refused_by (Some s) r x e f = cc
