use Rattle.gl_lock_lists.proofs.Words.{◌++◌, ◌<◌, [], ◌∙◌, ◌∷◌, ◌≡◌, ap, keys_of, length, List, lookup, NodeId, None, rules, same_node, Some, subst, sym}
use Rattle.std.proofs.lemmas.List.{length_push}
use Rattle.std.specs.List.{IsDistinct}
use Rattle.indexmap.proofs.CallerLemmas.{insert_entry-new}
use Rattle.gl_lock_lists.proofs.RowLemmas.{nothing_after, put_last, put_last-distinct, writes_as}
use Rattle.gl_lock_lists.proofs.node_map.NodeMap.insert_new.Given.{Over}
use Rattle.gl_lock_lists.proofs.node_map.NodeMap.insert_new.Goals as goal

-- the entry is inserted last in the hash map
module _ (g : Over) (c : goal.After-put g) where
  none_scanned : c.self.inside.rows.items ≡ []
  none_scanned = let some : 0 < length c.self.inside.map.entries = search rules in c.self.invariant.apart some

  were_mapped : c.args.self.now.entries ≡ c.self.inside.map.entries
  were_mapped = ap (λ v. v.entries) (sym c.self.view_is) ∙ ap (λ l. l ++ c.self.inside.map.entries) none_scanned

  are_mapped : c.self.inside.rows.items ++ c.put.new.map.entries ≡ c.put.new.map.entries
  are_mapped = ap (λ l. l ++ c.put.new.map.entries) none_scanned

pub returns-then-not-is_empty-clause-updates : goal.returns-then-not-is_empty-clause-updates
returns-then-not-is_empty-clause-updates g c =
    writes_as c.args.node _ _ _ _ (Some c.args.value) (were_mapped g c) (are_mapped g c) c.put.ensures.updates

pub returns-then-not-is_empty-clause-entries : goal.returns-then-not-is_empty-clause-entries
returns-then-not-is_empty-clause-entries g c =
    let none = ap (lookup (same_node c.args.node)) (sym (were_mapped g c)) ∙ c.requires.new in
    are_mapped g c ∙ c.put.ensures.entries ∙ insert_entry-new same_node c.self.inside.map c.args.node c.args.value none
    ∙ ap (λ l. l ++ (c.args.node, c.args.value) ∷ []) (sym (were_mapped g c))

pub returns-then-not-is_empty-clause-len : goal.returns-then-not-is_empty-clause-len
returns-then-not-is_empty-clause-len g c =
    ap length (returns-then-not-is_empty-clause-entries g c) ∙ length_push c.args.self.now.entries (c.args.node, c.args.value)

-- the entry is inserted last among those that are scanned
module _ (g : Over) (c : goal.After-push_reserved g) where
  were_scanned : c.args.self.now.entries ≡ c.self.inside.rows.items
  were_scanned =
      ap (λ v. v.entries) (sym c.self.view_is)
      ∙ nothing_after c.self.inside.rows.items c.self.inside.map.entries (c.is_empty.ensures.0 c.if-not-is_empty.false)

  absent : lookup (same_node c.args.node) c.self.inside.rows.items ≡ None
  absent = ap (lookup (same_node c.args.node)) (sym were_scanned) ∙ c.requires.new

  pushed : c.push_reserved.new.self.items ≡ c.self.inside.rows.items ++ (c.args.node, c.args.value) ∷ []
  pushed = search rules

  are_scanned : c.push_reserved.new.self.items ++ c.self.inside.map.entries ≡ c.self.inside.rows.items ++ (c.args.node, c.args.value) ∷ []
  are_scanned = nothing_after c.push_reserved.new.self.items c.self.inside.map.entries (c.is_empty.ensures.0 c.if-not-is_empty.false) ∙ pushed

  still_distinct : IsDistinct same_node (keys_of (c.self.inside.rows.items ++ (c.args.node, c.args.value) ∷ []))
  still_distinct = put_last-distinct c.args.node c.args.value c.self.inside.rows.items absent c.self.invariant.distinct

pub invariant_of-self-then-len-lt-SHORT : goal.invariant_of-self-then-len-lt-SHORT
invariant_of-self-then-len-lt-SHORT g c = record {
  distinct = subst (λ es. IsDistinct same_node (keys_of es)) (sym (pushed g c)) (still_distinct g c);
  few = search rules;
  apart = search rules;
  roomy = search rules;
}

pub returns-then-len-lt-SHORT-clause-updates : goal.returns-then-len-lt-SHORT-clause-updates
returns-then-len-lt-SHORT-clause-updates g c =
    writes_as c.args.node _ _ _ _ (Some c.args.value) (were_scanned g c) (are_scanned g c)
    (put_last c.args.node c.args.value c.self.inside.rows.items (absent g c))

pub returns-then-len-lt-SHORT-clause-unique : goal.returns-then-len-lt-SHORT-clause-unique
returns-then-len-lt-SHORT-clause-unique g c = subst (λ es. IsDistinct same_node (keys_of es)) (sym (are_scanned g c)) (still_distinct g c)

-- all entries are moved, and the new one is inserted last in the hash map
module _ (g : Over) (c : goal.After-put-else-len-lt-SHORT g) where
  were_moved : c.args.self.now.entries ≡ c.move_all.new.map.entries
  were_moved =
      ap (λ v. v.entries) (sym c.self.view_is)
      ∙ nothing_after c.self.inside.rows.items c.self.inside.map.entries (c.is_empty.ensures.0 c.if-not-is_empty.false) ∙ sym c.move_all.ensures.moved

  are_moved : c.move_all.new.rows.items ++ c.put-else-len-lt-SHORT.new.map.entries ≡ c.put-else-len-lt-SHORT.new.map.entries
  are_moved = ap (λ l. l ++ c.put-else-len-lt-SHORT.new.map.entries) c.move_all.ensures.emptied

pub invariant_of-self-else-len-lt-SHORT : goal.invariant_of-self-else-len-lt-SHORT
unfolding IsDistinct
invariant_of-self-else-len-lt-SHORT g c = record {
  distinct = subst (λ (es : List (NodeId × g.row.V.Denot)). IsDistinct same_node (keys_of es)) (sym c.move_all.ensures.emptied) tt;
  few = search rules;
  apart = λ _. c.move_all.ensures.emptied;
  roomy = search rules;
}

pub returns-else-len-lt-SHORT-clause-updates : goal.returns-else-len-lt-SHORT-clause-updates
returns-else-len-lt-SHORT-clause-updates g c =
    writes_as c.args.node _ _ _ _ (Some c.args.value) (were_moved g c) (are_moved g c)
    c.put-else-len-lt-SHORT.ensures.updates

pub returns-else-len-lt-SHORT-clause-entries : goal.returns-else-len-lt-SHORT-clause-entries
returns-else-len-lt-SHORT-clause-entries g c =
    let none = ap (lookup (same_node c.args.node)) (sym (were_moved g c)) ∙ c.requires.new in
    are_moved g c ∙ c.put-else-len-lt-SHORT.ensures.entries
    ∙ insert_entry-new same_node c.move_all.new.map c.args.node c.args.value none ∙ ap (λ l. l ++ (c.args.node, c.args.value) ∷ []) (sym (were_moved g c))

pub returns-else-len-lt-SHORT-clause-len : goal.returns-else-len-lt-SHORT-clause-len
returns-else-len-lt-SHORT-clause-len g c =
    ap length (returns-else-len-lt-SHORT-clause-entries g c) ∙ length_push c.args.self.now.entries (c.args.node, c.args.value)
