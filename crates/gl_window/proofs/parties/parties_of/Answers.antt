use Rattle.gl_window.proofs.Words.{◌<◌, ◌∙◌, ◌≡◌, ap, arith, clash, holds, is_wait, is_waiting_at, members, NodeId, split, State, state_of, status_of, true}
use Rattle.gl_window.proofs.Words.{waiting_is, waits_at, ℕ}
use Rattle.gl_modes.proofs.NodeLemmas.{same_node-refl}
use Rattle.gl_model.proofs.law.Keeps.{txn_there}
use Rattle.gl_model.proofs.law.Settle.{wait_is}
use Rattle.gl_window.proofs.parties.parties_of.Goals as goal

pub returns : goal.returns
returns c = λ t out. (
  split (is_wait (status_of s t))
      (λ e.
      let w = wait_is (status_of s t) e in
      let at : is_waiting_at s t w.0 ≡ true = ap (λ o. waits_at o w.0) w.2 ∙ same_node-refl w.0 in
      clash (c.loop-slot.invariant t (below t w.0 at) w.0 at).0 out)
      (λ e. e),
  λ u n at. split (holds (members s n) t) (λ e. clash ((c.loop-slot.invariant u (below u n at) n at).1 t e) out) (λ e. e),
)
  where
    s : State
    s = state_of c.args.manager.now

    below : (u : ℕ) (n : NodeId) → is_waiting_at s u n ≡ true → u < c.loop-slot.slot
    below u n at =
        let low : u < s.most = c.law.ensures.lawful.slots_below u (txn_there (s.txns u) _ (waiting_is (status_of s u) n at).1) in
        let end = c.most-slot-end.ensures in
        let over = c.loop-slot-test.false in
        omega (arith, low, end, over)
