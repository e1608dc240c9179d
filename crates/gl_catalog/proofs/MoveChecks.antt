-- The tests of a node that moves, one after the other.
use Rattle.std.specs.Prelude.{◌≡◌, ℕ, Bool, true, false, not, ◌&&◌, ◌||◌, ◌==◌, List, [], ◌∷◌, ◌++◌, length, Option, Some, Ok, if◌then◌else◌}
use Rattle.std.specs.List.{list_all}
use Rattle.std.proofs.Common.{refl, ap, ◌∙◌, arith}
use Rattle.std.proofs.lemmas.Bool.Decides.{nat_tests}
use Rattle.gl_modes.proofs.Words.{both}
use Rattle.gl_modes.specs.declared.node.NodeId.{NodeId}
use Rattle.gl_modes.specs.declared.refusal.Refusal.{Refusal}
use Rattle.gl_modes.specs.declared.refusal.Refusal.TheVariants as no
use Rattle.gl_graph.specs.Changes.{rekeyed_parents}
use Rattle.gl_graph.specs.Graph.{first_parent, is_live, parents_of, shape_of}
use Rattle.gl_graph.specs.Refusals.{bad_parents, first_refusal, some_no_node, verdict, where_true}
use Rattle.gl_graph.specs.Shapes.{is_index_of_shape, is_movable_shape, is_record_shape, least_parents}
use Rattle.gl_graph.proofs.Unrefused.{verdict_ok}
use Rattle.gl_model.specs.Calls.{commit_tests, need_exclusive, need_new_parents, some_given}
use Rattle.gl_model.specs.State.{State}
use Rattle.gl_model.specs.declared.txn.TxnId.{TxnId}
use Rattle.gl_steps.specs.Tests.{move_asks, rekey_tests, worn}
use Rattle.gl_graph.proofs.FirstOf.{passed_then}

-- if the count and the transaction pass, and these nodes live, the kinds decide, and then what follows
then_kinds : (s : State) (t : TxnId) (ns : List NodeId) (bad : Bool) (rest : List (Option Refusal)) → Ok tt ≡ verdict (worn s)
    → Ok tt ≡ verdict (first_refusal (commit_tests s t)) → list_all (is_live s.graph) ns ≡ true
    → first_refusal (worn s ∷ commit_tests s t ++ some_no_node s.graph ns ∷ where_true bad no.BadParents ∷ rest) ≡ (if bad then Some no.BadParents
    else first_refusal rest)
then_kinds s t ns bad rest counts active live =
    let tests : List (Option Refusal) = some_no_node s.graph ns ∷ where_true bad no.BadParents ∷ rest in
    ap (λ o. first_refusal (o ∷ commit_tests s t ++ tests)) (verdict_ok (worn s) tt counts) ∙ passed_then (commit_tests s t) tests (verdict_ok _ tt active)
    ∙ ap (λ b. first_refusal (where_true (not b) no.NoSuchNode ∷ where_true bad no.BadParents ∷ rest)) live ∙ by bad
  where
    by : (b : Bool) → first_refusal (where_true b no.BadParents ∷ rest) ≡ (if b then Some no.BadParents else first_refusal rest)
    by true = refl
    by false = refl

-- one of the two is false
not_both : (a b : Bool) → (not a || b) ≡ not (a && not b)
not_both true true = refl
not_both true false = refl
not_both false b = refl

-- a list has members if its length is not 0
pub some_given-is : {A : Type 0} (xs : List A) → some_given xs ≡ not (length xs == 0)
some_given-is [] = refl
some_given-is (x ∷ xs) = grind (arith, nat_tests)

turned : (b : Bool) (x y : Option Refusal) → (if not b then x else y) ≡ (if b then y else x)
turned true x y = refl
turned false x y = refl

-- the remaining tests of a move, if the count and the transaction pass, and the nodes live
pub move_kinds : (s : State) (t : TxnId) (n : NodeId) (ps : List NodeId) → Ok tt ≡ verdict (worn s)
    → Ok tt ≡ verdict (first_refusal (commit_tests s t)) → is_live s.graph n ≡ true → list_all (is_live s.graph) ps ≡ true
    → first_refusal (worn s ∷ move_asks s t n ps)
    ≡ (if is_movable_shape (shape_of s.graph n) && not (bad_parents s.graph (least_parents (shape_of s.graph n)) ps)
    then first_refusal (need_exclusive s t.slot n (some_given (parents_of s.graph n) && some_given ps) ps ∷ need_new_parents s t.slot n ps ∷ [])
    else Some no.BadParents)
move_kinds s t n ps counts active live all =
    let rest : List (Option Refusal) = need_exclusive s t.slot n (some_given (parents_of s.graph n) && some_given ps) ps
    ∷ need_new_parents s t.slot n ps ∷ [] in
    let movable : Bool = is_movable_shape (shape_of s.graph n) in
    let bad : Bool = bad_parents s.graph (least_parents (shape_of s.graph n)) ps in
    then_kinds s t (n ∷ ps) (not movable || bad) rest counts active (both (is_live s.graph n) (list_all (is_live s.graph) ps) live all)
    ∙ ap (λ b. if b then Some no.BadParents else first_refusal rest) (not_both movable bad)
    ∙ turned (movable && not bad) (Some no.BadParents) (first_refusal rest)

-- the same of a rekey
pub rekey_kinds : (s : State) (t : TxnId) (r i : NodeId) (key : ℕ) → Ok tt ≡ verdict (worn s) → Ok tt ≡ verdict (first_refusal (commit_tests s t))
    → is_live s.graph r ≡ true → is_live s.graph i ≡ true
    → first_refusal (worn s ∷ rekey_tests s t r i key)
    ≡ (if is_record_shape (shape_of s.graph r) && is_index_of_shape (first_parent s.graph r) (shape_of s.graph i)
    then first_refusal (need_exclusive s t.slot r true (rekeyed_parents s.graph r i key) ∷ need_new_parents s t.slot r (rekeyed_parents s.graph r i key) ∷ [])
    else Some no.BadParents)
rekey_kinds s t r i key counts active live also =
    let rest : List (Option Refusal) = need_exclusive s t.slot r true (rekeyed_parents s.graph r i key)
    ∷ need_new_parents s t.slot r (rekeyed_parents s.graph r i key) ∷ [] in
    let keyed : Bool = is_record_shape (shape_of s.graph r) && is_index_of_shape (first_parent s.graph r) (shape_of s.graph i) in
    then_kinds s t (r ∷ i ∷ []) (not keyed) rest counts active
    (both (is_live s.graph r) (is_live s.graph i && true) live (both (is_live s.graph i) true also refl))
    ∙ turned keyed (Some no.BadParents) (first_refusal rest)
