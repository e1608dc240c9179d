use Rattle.gl_lock_lists.proofs.Words.{◌++◌, [], ◌≡◌, ap₂, keys_of, List, nil_from_length, NodeId, rules, same_node, subst, sym}
use Rattle.std.specs.List.{IsDistinct}
use Rattle.gl_lock_lists.proofs.node_map.NodeMap.clear.Goals as goal

none_distinct : {V : Type 0} (es : List (NodeId × V)) → es ≡ [] → IsDistinct same_node (keys_of es)
unfolding IsDistinct
none_distinct es e = subst (λ xs. IsDistinct same_node (keys_of xs)) (sym e) tt

pub invariant_of-self : goal.invariant_of-self
invariant_of-self g c = record {
  distinct = none_distinct c.clear.new.self.items c.clear.ensures.items;
  few = search rules;
  apart = λ h. c.clear.ensures.items;
  roomy = search rules;
}

pub returns-then-is_empty-clause-unique : goal.returns-then-is_empty-clause-unique
returns-then-is_empty-clause-unique g c =
    none_distinct (c.clear.new.self.items ++ c.self.inside.map.entries)
    (ap₂ (λ xs ys. xs ++ ys) c.clear.ensures.items (nil_from_length c.self.inside.map.entries (c.is_empty.ensures.0 c.if-is_empty.true)))
