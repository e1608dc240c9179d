-- Rekey and move keep the law of a state.
use Rattle.gl_steps.proofs.Words.{◌≡◌, and_both, Bor, first_parent, is_movable_shape, is_record_shape, IsLawful, List, Node, NodeId, None, none_refused, not}
use Rattle.gl_steps.proofs.Words.{not_false, or_no, refusal_of, rekeyed, shape_of, State, subst, sym, test_fails, tests_of, TxnId, with_parents, ℕ}
use Rattle.gl_steps.specs.declared.command.Command.TheVariants as command
use Rattle.gl_graph.specs.Shapes.{is_index_of_shape, least_parents}
use Rattle.gl_graph.specs.Refusals.{bad_parents}
use Rattle.gl_steps.proofs.KeepsLaw.{KeepsLaw}
use Rattle.gl_graph.proofs.Unrefused.{inner_parents}
use Rattle.gl_model.proofs.law.Move.{changed_keeps, may_be_moved, may_be_rekeyed, moved_node, Moves, rekeyed_to}
use Rattle.gl_steps.proofs.NotRefused.{active_is}

-- a move that is not refused is lawful for its mover
pub move_moves : (s : State) (law : IsLawful s) (t : TxnId) (n : NodeId) (ps : Bor (List NodeId)) → refusal_of s (command.Move t n ps) ≡ None
    → (was : Node) × Moves s t.slot n was (moved_node ps.now was) (with_parents s.graph n ps.now)
move_moves s law t n ps free =
    let ok = none_refused (tests_of s (command.Move t n ps)) free in
    let bad = or_no (not (is_movable_shape (shape_of s.graph n))) (bad_parents s.graph (least_parents (shape_of s.graph n)) ps.now) (test_fails _ _ (ok 5)) in
    may_be_moved s law t.slot n ps.now (active_is s t (ok 1) (ok 2) (ok 3)) (not_false _ bad.0)
    (inner_parents s.graph (least_parents (shape_of s.graph n)) ps.now bad.1) (ok 6) (ok 7) (ok 8)

pub move_keeps : (t : TxnId) (n : NodeId) (ps : Bor (List NodeId)) → KeepsLaw (command.Move t n ps)
move_keeps t n ps s s' a told law free acc = let m =
    move_moves s law t n ps free in subst IsLawful (sym acc.2) (changed_keeps s t.slot n m.0 (moved_node ps.now m.0) (with_parents s.graph n ps.now) m.1 law)

-- so is a rekey
pub rekey_moves : (s : State) (law : IsLawful s) (t : TxnId) (r i : NodeId) (key : ℕ) → refusal_of s (command.Rekey t r i key) ≡ None → (was : Node)
    × Moves s t.slot r was (rekeyed_to s.graph r i key was) (rekeyed s.graph r i key)
rekey_moves s law t r i key free =
    let ok = none_refused (tests_of s (command.Rekey t r i key)) free in
    let kinds = and_both (is_record_shape (shape_of s.graph r)) (is_index_of_shape (first_parent s.graph r) (shape_of s.graph i))
    (not_false _ (test_fails _ _ (ok 5))) in
    may_be_rekeyed s law t.slot r i key (active_is s t (ok 1) (ok 2) (ok 3)) kinds.0 (ok 6) (ok 7)

pub rekey_keeps : (t : TxnId) (r i : NodeId) (key : ℕ) → KeepsLaw (command.Rekey t r i key)
rekey_keeps t r i key s s' a told law free acc =
    let m = rekey_moves s law t r i key free in
    subst IsLawful (sym acc.2) (changed_keeps s t.slot r m.0 (rekeyed_to s.graph r i key m.0) (rekeyed s.graph r i key) m.1 law)
