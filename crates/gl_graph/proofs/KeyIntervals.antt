-- The interval of a key is the one that contains it.
use Rattle.gl_graph.proofs.Words.{[], ap, arith, bounds_in, get_or_from_slice_get, Graph, interval, interval_at, interval_of, interval_place, intervals_in}
use Rattle.gl_graph.proofs.Words.{IntervalsHoldKeys, is_index_shape, IsIndexNode, IsLawfulGraph, IsRising, KeysHaveIntervals, length, List, nat_le, nat_tests}
use Rattle.gl_graph.proofs.Words.{no_node, NodeId, shape_of, slice_get_within, slice_index_or, Some, split, subst, suc, sym, true, zero, ℕ}
use Rattle.gl_graph.proofs.Words.{◌<◌, ◌∙◌, ◌∷◌, ◌≡◌, ◌≤◌}
use Rattle.gl_graph.specs.Intervals.{HoldsKey}
use Rattle.gl_graph.proofs.Distinct.{one_place}
use Rattle.gl_graph.proofs.KeyPlace.{not_below, place_counted, rising_at}
use Rattle.gl_graph.proofs.KindRules.{at_each_place, index_of_listed, its_rules}
use Rattle.gl_graph.proofs.Look.{listed_at}

-- the bounds before the place of the key are not above it, and the others are
record IsPlace (bs : List ℕ) (key k : ℕ) : Type 0 where
  pub within : k ≤ length bs
  pub before : (j : ℕ) → j < k → slice_index_or bs j 0 ≤ key
  pub after : (j : ℕ) → k ≤ j → j < length bs → key < slice_index_or bs j 0

before_more : (b : ℕ) (bs : List ℕ) (key k : ℕ) → b ≤ key → IsPlace bs key k → (j : ℕ) → j < suc k → slice_index_or (b ∷ bs) j 0 ≤ key
before_more b bs key k low p zero h = low
before_more b bs key k low p (suc j) h = p.before j (omega arith)

all_above : (b : ℕ) (bs : List ℕ) (key : ℕ) → IsRising (b ∷ bs) → key < b → (j : ℕ) → 0 ≤ j → j < length (b ∷ bs) → key < slice_index_or (b ∷ bs) j 0
all_above b bs key rising high zero h l = high
all_above b bs key rising high (suc j) h l = let r = rising_at (b ∷ bs) 0 (suc j) rising (omega arith) l in omega arith

-- each key has a place
some_place : (bs : List ℕ) (key : ℕ) → IsRising bs → (k : ℕ) × IsPlace bs key k
some_place [] key rising = (0, record { within = omega arith; before = λ j h. absurd (omega arith); after = λ j h l. absurd (omega arith) })
some_place (b ∷ bs) key rising =
    split (nat_le b key)
    (λ e.
    let low : b ≤ key = grind (arith, nat_tests) in
    let rest = some_place bs key rising.1 in (
      suc rest.0,
      record {
        within = let w = rest.1.within in omega arith;
        before = before_more b bs key rest.0 low rest.1;
        after = grind arith;
      },
    ))
    (λ e.
    let high : key < b = grind (arith, nat_tests) in
    (0, record { within = omega arith; before = λ j h. absurd (omega arith); after = all_above b bs key rising high }))

counted : (bs : List ℕ) (key k : ℕ) → IsPlace bs key k → k ≡ interval_place bs key
counted bs key k p = place_counted bs key k p.within p.before p.after

place_is : (bs : List ℕ) (key : ℕ) → IsRising bs → IsPlace bs key (interval_place bs key)
place_is bs key rising = let p = some_place bs key rising in subst (IsPlace bs key) (counted bs key p.0 p.1) p.1

-- the interval at that place contains the key
place_holds : (bs : List ℕ) (key k : ℕ) → IsPlace bs key k → HoldsKey bs k key
place_holds bs key k p = grind arith

-- and no other interval does
held_there : (bs : List ℕ) (key k : ℕ) → IsRising (0 ∷ bs) → k ≤ length bs → HoldsKey bs k key → IsPlace bs key k
held_there bs key k rising low holds = grind (arith, not_below)

module _ (g : Graph) (law : IsLawfulGraph g) (index : NodeId) (shape : is_index_shape (shape_of g index) ≡ true) where
  abbrev bs : List ℕ
  bs = bounds_in (shape_of g index)

  abbrev rules_of : IsIndexNode g index (its_rules g law index shape).0 bs (intervals_in (shape_of g index))
  rules_of = (its_rules g law index shape).1

  its_place : (key : ℕ) → IsPlace bs key (interval_place bs key)
  its_place key = place_is bs key rules_of.rising.1

  pub has_interval : (key : ℕ) → interval_at g index (interval_place bs key) ≡ Some (interval_of g index key)
  has_interval key = at_each_place g law index shape (interval_place bs key) (its_place key).within

  pub place_of_held : (place key : ℕ) → place ≤ length bs → HoldsKey bs place key → interval g index place ≡ interval_of g index key
  place_of_held place key low holds = ap (interval g index) (counted bs key place (held_there bs key place rules_of.rising low holds))

  -- each of its intervals has one place
  pub held_in_place : (place key : ℕ) → place ≤ length bs → interval g index place ≡ interval_of g index key → HoldsKey bs place key
  held_in_place place key low e =
      let count = rules_of.count in
      let within = (its_place key).within in
      let same = one_place (intervals_in (shape_of g index)) place (interval_place bs key) no_node rules_of.distinct (omega arith) (omega arith) e in
      subst (λ k. HoldsKey bs k key) (sym same) (place_holds bs key (interval_place bs key) (its_place key))

pub keys_have_intervals : KeysHaveIntervals
keys_have_intervals g law index key shape = (interval_place (bounds_in (shape_of g index)) key, has_interval g law index shape key)

-- an index that has an interval at this place
record HasInterval (g : Graph) (index n : NodeId) (place : ℕ) : Type 0 where
  pub shape : is_index_shape (shape_of g index) ≡ true
  pub low : place ≤ length (bounds_in (shape_of g index))
  pub is : n ≡ interval g index place

interval_there : (g : Graph) → IsLawfulGraph g → (index n : NodeId) (place : ℕ) → interval_at g index place ≡ Some n → HasInterval g index n place
interval_there g law index n place at =
    let within = slice_get_within (intervals_in (shape_of g index)) place n at in
    let shape = index_of_listed (shape_of g index) n (listed_at (intervals_in (shape_of g index)) place n at) in
    let count = (its_rules g law index shape).1.count in
    record { shape = shape; low = omega arith; is = sym (get_or_from_slice_get (intervals_in (shape_of g index)) place n no_node at) }

pub intervals_hold_keys : IntervalsHoldKeys
intervals_hold_keys g law index n place key at =
    let i = interval_there g law index n place at in (
      λ e. held_in_place g law index i.shape place key i.low (sym i.is ∙ e),
      λ holds. i.is ∙ place_of_held g law index i.shape place key i.low holds,
    )
