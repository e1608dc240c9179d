-- Equal rows, and the nodes of rows after one row gets a new node.
use Rattle.std.specs.Prelude.{◌≡◌, Option, Some, cond, true}
use Rattle.std.specs.Map.{lookup}
use Rattle.std.proofs.Common.{refl, sym, ap, subst, ◌∙◌}
use Rattle.gl_modes.proofs.NodeLemmas.{same_node-equal, same_node-refl}
use Rattle.gl_modes.proofs.Words.{and_both, both, clash, number_same, same_number, split}
use Rattle.gl_modes.specs.declared.node.NodeId.{NodeId}
use Rattle.gl_rows.specs.Locking.{Names, Renames}
use Rattle.gl_rows.specs.Rows.{same_row}
use Rattle.gl_rows.specs.declared.row.Row.{Row}

pub same_row-equal : (p q : Row) → same_row p q ≡ true → p ≡ q
same_row-equal p q h = let b = and_both _ _ h in let f = same_node-equal p.file q.file b.0 in let k = same_number p.number q.number b.1 in
    ap (λ x. record { file = x; number = p.number }) f ∙ ap (λ x. record { file = q.file; number = x }) k

pub same_row-refl : (p : Row) → same_row p p ≡ true
same_row-refl p = both _ _ (same_node-refl p.file) (number_same p.number p.number refl)

pub same_row-sym : (p q : Row) → same_row p q ≡ same_row q p
same_row-sym p q = split (same_row p q) (λ e. e ∙ sym (one_row p q e)) (λ e. split (same_row q p) (λ f. absurd (clash (one_row q p f) e)) (λ f. e ∙ sym f))
  where
    one_row : (a b : Row) → same_row a b ≡ true → same_row b a ≡ true
    one_row a b h = subst (λ (x : Row). same_row b x ≡ true) (sym (same_row-equal a b h)) (same_row-refl b)

-- the node of a row
abbrev pub node_in : Names → Row → Option NodeId
node_in ns q = lookup (same_row q) ns

-- a row that gets the node that it has
pub keeps_name : (ns : Names) (row : Row) (n : NodeId) → node_in ns row ≡ Some n → (q : Row) → cond (same_row row q) (Some n) (node_in ns q) ≡ node_in ns q
keeps_name ns row n named q = split (same_row row q)
    (λ e. ap (λ b. cond b (Some n) (node_in ns q)) e ∙ sym named ∙ ap (node_in ns) (same_row-equal row q e))
    (λ e. ap (λ b. cond b (Some n) (node_in ns q)) e)

-- an equal list renames the same
pub renames_so : (ns es ns' : Names) (row : Row) (o : Option NodeId) → ns' ≡ es → Renames ns es row o → Renames ns ns' row o
renames_so ns es ns' row o same renames = subst (λ xs. Renames ns xs row o) (sym same) renames
