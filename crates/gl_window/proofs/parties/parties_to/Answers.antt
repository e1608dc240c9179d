use Rattle.gl_window.proofs.Words.{[], ◌∙◌, ◌∷◌, ◌≡◌, ap, has_slot, holds, IsLawful, members, Mode, no, NodeId, None, none_some, not, number_same, Option, refl}
use Rattle.gl_window.proofs.Words.{Refusal, Slots, Some, State, state_of, Status, status_in, status_of, subst, sym, true, Txn, TxnId, Waiting, waiting_is}
use Rattle.gl_window.proofs.Words.{waits_at, ℕ}
use Rattle.std.proofs.Common.{Err, Ok, Result}
use Rattle.std.specs.Prelude.{IfOk}
use Rattle.std.specs.Result.{result_unwrap_or}
use Rattle.gl_modes.proofs.Words.{or_left, or_right}
use Rattle.gl_modes.specs.declared.refusal.Refusal.TheVariants as refusal
use Rattle.gl_graph.specs.Refusals.{first_refusal, where_true}
use Rattle.gl_model.specs.Calls.{group_tests, RefusesOnly}
use Rattle.gl_table.specs.Table.{named_in}
use Rattle.gl_window.proofs.parties.parties_to.Goals as goal

-- the node for which a listed transaction waits
listed : (t : ℕ) (x : Option Txn) (w : TxnId × Status) (q : NodeId) (m : Mode) → named_in t x ≡ Some w → w.1 ≡ Waiting q m → status_in x ≡ Some (Waiting q m)
listed t None w q m e is = absurd (none_some e)
listed t (Some x) w q m e is = cc

same_wait : (o : Option Status) (q n : NodeId) (m : Mode) → o ≡ Some (Waiting q m) → waits_at o n ≡ true → q ≡ n
same_wait o q n m is at = let w = waiting_is o n at in let e : Some (Waiting q m) ≡ Some (Waiting n w.0) = sym is ∙ w.1 in cc

-- who holds a node is in what is answered for its holders, since the node lives then
module _ (s : State) (law : IsLawful s) (n : NodeId) (t : ℕ) (has : holds (members s n) t ≡ true) where
  in_holders : (r : Result Slots Refusal) (none : Slots) → IfOk r (λ slots. (u : ℕ) → has_slot slots u ≡ holds (members s n) u)
      → RefusesOnly {A = Slots} (first_refusal (group_tests s n)) r → has_slot (result_unwrap_or r none) t ≡ true
  in_holders (Ok slots) none holders only = holders t ∙ has
  in_holders (Err e) none holders only =
      absurd (no (subst (λ b. RefusesOnly {A = Slots} (first_refusal (where_true (not b) refusal.NoSuchNode ∷ [])) (Err e)) (law.grants_live t n has).1 only))

pub returns : goal.returns
returns c = λ n at.
    let s : State = state_of c.args.manager.now in
    let node : NodeId = c.in-Some-default-Waiting.node in
    let waits = listed c.args.slot (s.txns c.args.slot) _ node _ (sym c.living.ensures ∙ c.in-Some-default-Waiting.is) c.in-Some-default-Waiting.field-0-1-is in
    let same : node ≡ n = same_wait (status_of s c.args.slot) node n _ waits at in (
      c.insert.ensures c.args.slot ∙ or_right _ _ (number_same c.args.slot c.args.slot refl),
      λ t has. c.insert.ensures t ∙ or_left _ _ (ap (λ (set : Slots). has_slot set t) c.unwrap_or-parties.ensures ∙ in_holders s c.requires.law.lawful node t
          (ap (λ p. holds (members s p) t) same ∙ has) c.holders.result c.empty-2.result c.holders.ensures.holders c.holders.ensures.refused),
    )
