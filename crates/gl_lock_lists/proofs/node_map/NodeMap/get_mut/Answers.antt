use Rattle.gl_lock_lists.proofs.Words.{◌∙◌, ◌≡◌, ap, Found-position, index_of, is_some, IsDistinct, Missing-position, NodeId, refl, same_node, slice_get, Some}
use Rattle.gl_lock_lists.proofs.Words.{subst, sym, with_value_at, ℕ}
use Rattle.std.proofs.Common.{true≢false}
use Rattle.indexmap.specs.IndexMap.{IsUnique, values, WritesThrough}
use Rattle.indexmap.proofs.CallerLemmas.{index_map_len-with_value_at, keys-with_value_at, updates-with_value_at}
use Rattle.gl_lock_lists.specs.Rows.{Listed}
use Rattle.gl_lock_lists.proofs.RowLemmas.{node_equivalence, row_at, set_nowhere, set_there}
use Rattle.gl_lock_lists.proofs.node_map.NodeMap.get_mut.Goals as goal

-- what is written through the value at the place of a node is written under the node
lend : {V : Type 0} (m m' : Listed V) → m' ≡ m → IsUnique same_node m → (n : NodeId) (place : ℕ) → index_of same_node m n ≡ Some place → (w : V)
    → WritesThrough same_node (same_node n) m w (with_value_at m' place w)
lend {V} m m' same unique n place index w =
    let row = row_at n m.entries place index in
    subst (λ (x : Listed V). WritesThrough same_node (same_node n) m w (with_value_at x place w)) (sym same) (
      set_there m.entries unique place (n, row.0) w row.1,
      keys-with_value_at m place w,
      index_map_len-with_value_at m place w,
      (λ _. updates-with_value_at m place w node_equivalence unique n row.0 row.1),
      subst (IsDistinct same_node) (sym (keys-with_value_at m place w)) unique,
      refl,
      refl,
    )

pub returns-in-Some : goal.returns-in-Some
returns-in-Some g c =
    let m = c.args.self.now in
    let place = c.in-Some.place in
    let index = sym c.in-Some.ensures.place in
    let unique = c.place.ensures.unique in (
      (refl, λ w. lend m c.note.new.self c.note.ensures unique c.args.node place index w, c.note.ensures),
      record {
        writes_back = tt;
        value = sym ((Found-position (same_node c.args.node) m.entries place index).value
            ∙ (ap (λ (x : Listed g.row.V.Denot). slice_get (values x) place) (sym c.note.ensures) ∙ c.value_mut.ensures.value));
        unique = unique;
      },
    )

pub returns-in-None : goal.returns-in-None
returns-in-None g c =
    let m = c.args.self.now in
    let none = (Missing-position (same_node c.args.node) m.entries (sym c.in-None.ensures.place)).value in
    let unique = c.place.ensures.unique in (
      (
        refl,
        λ w. (
          sym (set_nowhere (same_node c.args.node) m.entries w none),
          refl,
          refl,
          (λ s. absurd (true≢false (sym s ∙ ap is_some none))),
          unique,
          refl,
          refl,
        ),
        refl,
      ),
      record { writes_back = tt; value = sym none; unique = unique },
    )
