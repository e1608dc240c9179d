use Rattle.gl_lock_lists.proofs.Words.{◌∙◌, ◌≡◌, keys_of, List, NodeId, Out, position, same_node, slice_get, Some, swap_out, sym, ℕ}
use Rattle.indexmap.proofs.MapLemmas.{swap_remove_entry-found}
use Rattle.gl_lock_lists.proofs.RowLemmas.{node_equivalence}
use Rattle.gl_lock_lists.proofs.rows.take_out.Given.{Over}
use Rattle.gl_lock_lists.proofs.rows.take_out.Goals as goal

module _ (g : Over) (c : goal.In_ok-value g) where
  abbrev rows : List (NodeId × g.row.V.Denot)
  rows = c.args.map.now.entries

  abbrev last : ℕ
  last = c.saturating_sub-last.result

  abbrev row : NodeId × g.row.V.Denot
  row = (c.in_ok-value.field-0-0, c.in_ok-value.value)

  index : position (same_node c.args.node) (keys_of rows) ≡ Some last
  index = c.stands_at.ensures.there c.if-stands_at.true

  at : slice_get rows last ≡ Some row
  at = sym c.swap_remove_index.ensures.entry ∙ c.in_ok-value.was

  out : Out same_node node_equivalence (same_node c.args.node) rows c.swap_remove_index.new.self.entries row
  out =
      swap_out same_node node_equivalence (same_node c.args.node) (node_equivalence.congr c.args.node) rows last row index at
      c.stands_at.ensures.unique c.swap_remove_index.new.self.entries c.in_ok-value.ensures.entries

pub returns-in_ok-value-clause-value : goal.returns-in_ok-value-clause-value
returns-in_ok-value-clause-value g c = (out g c).value

pub returns-in_ok-value-clause-updates : goal.returns-in_ok-value-clause-updates
returns-in_ok-value-clause-updates g c = (out g c).updated

pub returns-in_ok-value-clause-entries : goal.returns-in_ok-value-clause-entries
returns-in_ok-value-clause-entries g c =
    c.in_ok-value.ensures.entries ∙ sym (swap_remove_entry-found (same_node c.args.node) (rows g c) (last g c) (row g c) (index g c))
