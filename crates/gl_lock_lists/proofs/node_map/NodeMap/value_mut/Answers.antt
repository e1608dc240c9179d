use Rattle.gl_lock_lists.proofs.Words.{◌++◌, ◌-◌, ◌<◌, ◌==◌, ◌∙◌, ◌≡◌, ap, arith, hash_map, if◌then◌else◌, IsDistinct, keys_of, length, length-set, List}
use Rattle.gl_lock_lists.proofs.Words.{NodeId, option_map, refl, rules, same_node, set_value_at, slice_get, slice_get-get_or, slice_get-map, slice_set, Some}
use Rattle.gl_lock_lists.proofs.Words.{spare, subst, sym, with_value_at}
use Rattle.std.specs.Vec.{vec_capacity}
use Rattle.std.specs.Map.{values_of}
use Rattle.indexmap.proofs.CallerLemmas.{index_map_len-with_value_at, keys-with_value_at}
use Rattle.gl_lock_lists.specs.Sound.{rows_that_fit}
use Rattle.gl_lock_lists.proofs.RowLemmas.{nothing_after, row_set}
use Rattle.gl_lock_lists.proofs.node_map.NodeMap.value_mut.Given.{Over}
use Rattle.gl_lock_lists.proofs.node_map.NodeMap.value_mut.Goals as goal

-- the entries before the value is lent, and the one that is lent of
module _ (g : Over) (c : goal.After-self-then-is_empty-1 g) where
  abbrev rows : List (NodeId × g.row.V.Denot)
  rows = c.self.inside.rows.items

  was : c.args.self.now.entries ≡ rows
  was = ap (λ v. v.entries) (sym c.self.view_is) ∙ nothing_after rows c.self.inside.map.entries (c.is_empty.ensures.0 c.if-is_empty.true)

  at : slice_get rows c.args.place ≡ Some c.index_mut.result.now
  at =
      let within : c.args.place < length rows = omega (arith, c.requires, ap length was) in
      slice_get-get_or rows c.args.place c.index_mut.result.now within ∙ ap Some (sym c.index_mut.ensures.value)

pub invariant_of-self-lent : goal.invariant_of-self-lent
invariant_of-self-lent g c = λ w.
    let es = rows g c in
    let key = c.index_mut.result.now.0 in
    let written = row_set es c.args.place c.index_mut.result.now w (at g c) in
    let same = ap keys_of written ∙ keys-with_value_at (hash_map {S = Unit {0}} es tt 0) c.args.place w in
    record {
      distinct = subst (IsDistinct same_node) (sym same) c.self.invariant.distinct;
      few = omega (arith, c.self.invariant.few, length-set es c.args.place (key, w));
      apart = λ some. absurd (omega (arith, some, c.is_empty.ensures.0 c.if-is_empty.true));
      roomy = λ some. absurd (omega (arith, some, c.is_empty.ensures.0 c.if-is_empty.true));
    }

pub returns-then-is_empty : goal.returns-then-is_empty
returns-then-is_empty g c =
    let m = c.self.inside in
    let es = m.rows.items in
    let place = c.args.place in
    let row = c.index_mut.result.now in
    let none = c.is_empty.ensures.0 c.if-is_empty.true in
    let was = ap (λ v. v.entries) (sym c.self.view_is) ∙ nothing_after es m.map.entries none in
    let within : place < length es = omega (arith, c.requires, ap length was) in
    let there : slice_get es place ≡ Some row = slice_get-get_or es place row within ∙ ap Some (sym c.index_mut.ensures.value) in (
      (
        refl,
        λ w.
            (λ i. hash_map
            ((nothing_after (slice_set es place (row.0, w)) m.map.entries none ∙ row_set es place row w there
            ∙ ap (λ l. set_value_at l place w) (sym (nothing_after es m.map.entries none))) i)
            tt
            (if length m.map.entries == 0 then rows_that_fit (vec_capacity m.rows) (spare m.map) - length-set es place (row.0, w) i else spare m.map))
            ∙ ap (λ v. with_value_at v place w) c.self.view_is,
      ),
      record { writes_back = tt; value = ap (λ l. slice_get (values_of l) place) was ∙ (slice_get-map (λ e. e.1) es place ∙ ap (option_map (λ e. e.1)) there) },
    )

pub returns-else-is_empty : goal.returns-else-is_empty
returns-else-is_empty g c =
    let m = c.self.inside in
    let place = c.args.place in
    let some : 0 < length m.map.entries = search rules in
    let none = c.self.invariant.apart some in (
      (
        refl,
        λ w.
            (λ i. hash_map
            ((ap (λ l. l ++ set_value_at m.map.entries place w) none ∙ ap (λ l. set_value_at (l ++ m.map.entries) place w) (sym none)) i)
            tt
            (if index_map_len-with_value_at m.map place w i == 0 then rows_that_fit (vec_capacity m.rows) (spare m.map) - length m.rows.items else spare m.map))
            ∙ ap (λ v. with_value_at v place w) c.self.view_is,
      ),
      record {
        writes_back = tt;
        value = ap (λ l. slice_get (values_of l) place) (ap (λ v. v.entries) (sym c.self.view_is) ∙ ap (λ l. l ++ m.map.entries) none)
            ∙ c.index_mut-else-is_empty.ensures.value;
      },
    )
