-- Ids of nodes: `same_node` is equality, both ways. For the proofs of every crate above.
use Rattle.std.proofs.Common.{◌≡◌, ◌≢◌, Bool, true, false, refl, subst, arith}
use Rattle.std.proofs.lemmas.Bool.Decides.{nat_tests}
use Rattle.gl_modes.specs.declared.node.NodeId.{NodeId}
use Rattle.gl_modes.specs.Nodes.{same_node}

pub node_is : (a b : NodeId) → a.key ≡ b.key → a.birth ≡ b.birth → a ≡ b
node_is a b k l = λ i. record { key = k i; birth = l i }

pub same_node-equal : (a b : NodeId) → same_node a b ≡ true → a ≡ b
same_node-equal a b h =
    let keys : a.key ≡ b.key = grind (arith, nat_tests) in
    let births : a.birth ≡ b.birth = grind (arith, nat_tests) in
    λ i. record { key = keys i; birth = births i }

pub same_node-refl : (a : NodeId) → same_node a a ≡ true
same_node-refl a = grind (arith, nat_tests)

pub same_node-from_equal : (a b : NodeId) → a ≡ b → same_node a b ≡ true
same_node-from_equal a b e = subst (λ (x : NodeId). same_node a x ≡ true) e (same_node-refl a)

pub same_node-other : (a b : NodeId) → same_node a b ≡ false → a ≢ b
same_node-other a b h e = cc (same_node-from_equal a b e)

pub same_node-differ : (a b : NodeId) → a ≢ b → same_node a b ≡ false
same_node-differ a b h = by (same_node a b) refl
  where
    by : (v : Bool) → same_node a b ≡ v → v ≡ false
    by true e = absurd (h (same_node-equal a b e))
    by false e = refl

pub same_node-sym : (a b : NodeId) → same_node a b ≡ same_node b a
same_node-sym a b = grind (arith, nat_tests)
