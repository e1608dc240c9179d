-- What is known of a command that is not refused: the requester lives, the nodes live, and a mover holds what it must.
use Rattle.gl_steps.proofs.Words.{◌&&◌, ◌==◌, [], ◌∙◌, ◌∷◌, ◌≡◌, ◌≢◌, ◌⊎◌, Active, and_both, ap, ap₂, arith, Bool, Condemned, condemned_test, false, Graph}
use Rattle.gl_steps.proofs.Words.{holds_x, holds_x_on_all, inl, inr, is_live, is_record_shape, IsLawfulGraph, List, list_all, live_by, lives, nat_tests}
use Rattle.gl_steps.proofs.Words.{need_exclusive, no, no_parents, no_txn, Node, node_at, NodeId, None, none_some, not, not_false, Option, parents_in}
use Rattle.gl_steps.proofs.Words.{parents_of, Rec, refl, same_txn, Shape, shape_in, shape_of, Some, some_given, some_no_node, State, Status, status_in}
use Rattle.gl_steps.proofs.Words.{status_of, sym, test_fails, true, true≢false, Txn, TxnId, Waiting, waiting_test, ℕ}
use Rattle.gl_graph.specs.Lawful.{HasShape}
use Rattle.gl_modes.specs.declared.refusal.Refusal.TheVariants as no

-- the three tests of a transaction were passed
pub active_is : (s : State) (t : TxnId) → no_txn s t ≡ None → waiting_test (status_of s t.slot) ≡ None → condemned_test (status_of s t.slot) ≡ None
    → status_of s t.slot ≡ Some Active
active_is s t h w c = by (s.txns t.slot) (not_false _ (test_fails (not (lives s t)) _ h)) w c
  where
    by : (o : Option Txn) → live_by t.age o ≡ true → waiting_test (status_in o) ≡ None → condemned_test (status_in o) ≡ None → status_in o ≡ Some Active
    by None l w' c' = absurd (no l)
    by (Some x) l w' c' = status x.status w' c'
      where
        status : (st : Status) → waiting_test (Some st) ≡ None → condemned_test (Some st) ≡ None → Some st ≡ Some Active
        status Active w'' c'' = refl
        status (Waiting n m) w'' c'' = absurd (none_some (sym w''))
        status Condemned w'' c'' = absurd (none_some (sym c''))

pub txn_lives : (s : State) (u : TxnId) → no_txn s u ≡ None → lives s u ≡ true
txn_lives s u h = not_false _ (test_fails _ no.NoSuchTxn h)

pub nodes_live : (s : State) (ns : List NodeId) → some_no_node s.graph ns ≡ None → list_all (is_live s.graph) ns ≡ true
nodes_live s ns h = not_false _ (test_fails _ no.NoSuchNode h)

same_age : (a b : ℕ) (x : Option Txn) → live_by a x ≡ true → live_by b x ≡ true → a ≡ b
same_age a b None h k = absurd (true≢false (sym h))
same_age a b (Some x) h k = grind (arith, nat_tests)

-- another transaction has another slot
pub differ : (s : State) (t u : TxnId) → lives s t ≡ true → lives s u ≡ true → same_txn t u ≡ false → u.slot ≢ t.slot
differ s t u alive also apart e =
    let age : t.age ≡ u.age = same_age t.age u.age (s.txns t.slot) alive (ap (λ x. live_by u.age (s.txns x)) (sym e) ∙ also) in
    let a : (t.slot == u.slot) ≡ true = grind (arith, nat_tests) in
    let b : (t.age == u.age) ≡ true = grind (arith, nat_tests) in
    true≢false (sym (ap₂ (λ x y. x && y) a b) ∙ apart)

-- X on the node, or on all its old and all its new parents
pub record OnParents (s : State) (u : ℕ) (n : NodeId) (given : Bool) (new : List NodeId) : Type 0 where
  pub both : given ≡ true
  pub old : holds_x_on_all s u (parents_of s.graph n) ≡ true
  pub next : holds_x_on_all s u new ≡ true

or_cases : (a b : Bool) → (not a && not b) ≡ false → (a ≡ true) ⊎ (b ≡ true)
or_cases true b h = inl refl
or_cases false b h = inr (not_false b h)

-- X on the node, or on all parents
pub exclusive : (s : State) (u : ℕ) (n : NodeId) (given : Bool) (new : List NodeId) → need_exclusive s u n given new ≡ None → (holds_x s u n ≡ true)
    ⊎ OnParents s u n given new
exclusive s u n given new h = by (or_cases _ _ (test_fails _ no.NeedExclusive h))
  where
    by : (holds_x s u n ≡ true) ⊎ ((given && holds_x_on_all s u (parents_of s.graph n) && holds_x_on_all s u new) ≡ true) → (holds_x s u n ≡ true)
        ⊎ OnParents s u n given new
    by (inl x) = inl x
    by (inr all) = let last = and_both _ _ all in let first = and_both _ _ last.0 in inr (record { both = first.0; old = first.1; next = last.1 })

pub given_some : (ps : List NodeId) → some_given ps ≡ true → not (no_parents ps) ≡ true
given_some [] h = h
given_some (p ∷ ps) h = refl

-- a record has its file as a parent
pub record_has_parents : (g : Graph) → IsLawfulGraph g → (r : NodeId) → is_record_shape (shape_of g r) ≡ true → not (no_parents (parents_of g r)) ≡ true
record_has_parents g law r rec = by (node_at g r) refl rec
  where
    by : (o : Option Node) → node_at g r ≡ o → is_record_shape (shape_in o) ≡ true → not (no_parents (parents_in o)) ≡ true
    by None e h = absurd (true≢false (sym h))
    by (Some n) e h = shaped n.shape n.parents (law.well_formed r n e) h
      where
        shaped : (sh : Shape) (ps : List NodeId) → HasShape g r sh ps → is_record_shape (Some sh) ≡ true → not (no_parents ps) ≡ true
        shaped (Rec keys) ps has h = ap (λ qs. not (no_parents qs)) has.1.parents
        shaped sh ps has h = absurd (true≢false (sym h))
