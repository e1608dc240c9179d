use Rattle.gl_lock_lists.proofs.Words.{◌++◌, ◌∙◌, ◌≡◌, ap, Found-position, IsDistinct, keys_of, List, lookup, Missing-position, NodeId, None, Out, position}
use Rattle.gl_lock_lists.proofs.Words.{rules, same_node, slice_get-get_or, Some, subst, swap_out, sym}
use Rattle.indexmap.specs.IndexMap.{swap_remove_entry}
use Rattle.indexmap.proofs.MapLemmas.{swap_remove_entry-found}
use Rattle.gl_lock_lists.proofs.RowLemmas.{node_equivalence, none_taken, nothing_after, writes_as}
use Rattle.gl_lock_lists.proofs.node_map.NodeMap.swap_remove.Given.{Over}
use Rattle.gl_lock_lists.proofs.node_map.NodeMap.swap_remove.Goals as goal

none : (g : Over) (c : goal.After-from_residual g) → position (same_node c.args.node) (keys_of c.args.self.now.entries) ≡ None
none g c =
    let rows = c.self.inside.rows.items in
    let was = ap (λ v. v.entries) (sym c.self.view_is) ∙ nothing_after rows c.self.inside.map.entries (c.is_empty.ensures.0 c.if-is_empty.true) in
    ap (λ l. position (same_node c.args.node) (keys_of l)) (was ∙ sym c.deref.ensures.value) ∙ sym c.in_err-place.ensures

pub returns-in_err-place-clause-value : goal.returns-in_err-place-clause-value
returns-in_err-place-clause-value g c =
    c.from_residual.ensures ∙ sym (Missing-position (same_node c.args.node) c.args.self.now.entries (none g c)).value

pub returns-in_err-place-clause-updates : goal.returns-in_err-place-clause-updates
returns-in_err-place-clause-updates g c = none_taken c.args.node c.args.self.now.entries (none g c)

module _ (g : Over) (c : goal.After-swap_remove g) where
  abbrev rows : List (NodeId × g.row.V.Denot)
  rows = c.self.inside.rows.items

  index : position (same_node c.args.node) (keys_of rows) ≡ Some c.in_ok-place.place
  index = ap (λ l. position (same_node c.args.node) (keys_of l)) (sym c.deref.ensures.value) ∙ sym c.in_ok-place.ensures

  out : Out same_node node_equivalence (same_node c.args.node) rows c.swap_remove.new.self.items c.swap_remove.result
  out =
      let found = Found-position (same_node c.args.node) rows c.in_ok-place.place index in
      let at = slice_get-get_or rows c.in_ok-place.place c.swap_remove.result found.within ∙ ap Some (sym c.swap_remove.ensures.value) in
      swap_out same_node node_equivalence (same_node c.args.node) (node_equivalence.congr c.args.node) rows c.in_ok-place.place c.swap_remove.result index at
      c.self.invariant.distinct c.swap_remove.new.self.items c.swap_remove.ensures.items

  was : c.args.self.now.entries ≡ rows
  was = ap (λ v. v.entries) (sym c.self.view_is) ∙ nothing_after rows c.self.inside.map.entries (c.is_empty.ensures.0 c.if-is_empty.true)

  now : c.swap_remove.new.self.items ++ c.self.inside.map.entries ≡ c.swap_remove.new.self.items
  now = nothing_after c.swap_remove.new.self.items c.self.inside.map.entries (c.is_empty.ensures.0 c.if-is_empty.true)

pub invariant_of-self : goal.invariant_of-self
invariant_of-self g c = record { distinct = (out g c).unique; few = search rules; apart = search rules; roomy = search rules }

pub returns-in_ok-place-clause-value : goal.returns-in_ok-place-clause-value
returns-in_ok-place-clause-value g c = (out g c).value ∙ ap (lookup (same_node c.args.node)) (sym (was g c))

pub returns-in_ok-place-clause-updates : goal.returns-in_ok-place-clause-updates
returns-in_ok-place-clause-updates g c = writes_as c.args.node _ _ _ _ None (was g c) (now g c) (out g c).updated

pub returns-in_ok-place-clause-entries : goal.returns-in_ok-place-clause-entries
returns-in_ok-place-clause-entries g c =
    now g c ∙ c.swap_remove.ensures.items
    ∙ sym (swap_remove_entry-found (same_node c.args.node) (rows g c) c.in_ok-place.place c.swap_remove.result (index g c))
    ∙ ap (swap_remove_entry (same_node c.args.node)) (sym (was g c))

pub returns-in_ok-place-clause-unique : goal.returns-in_ok-place-clause-unique
returns-in_ok-place-clause-unique g c = subst (λ es. IsDistinct same_node (keys_of es)) (sym (now g c)) (out g c).unique

pub returns-else-is_empty-clause-updates : goal.returns-else-is_empty-clause-updates
returns-else-is_empty-clause-updates g c =
    let was : c.args.self.now.entries ≡ c.self.inside.map.entries = search rules in
    let now : c.self.inside.rows.items ++ c.take_out.new.map.entries ≡ c.take_out.new.map.entries = search rules in
    writes_as c.args.node _ _ _ _ _ was now c.take_out.ensures.updates
