use Rattle.gl_table.proofs.Words.{age_in, Graph, IfNone, IsCandidate, IsLowestLatest, IsOnNoCycle, IsOrderly, IsVictim, List, Option, refl, shown, since_in}
use Rattle.gl_table.proofs.Words.{state_on, subst, sym, TxnEntry, txns_of, waits_for, ℕ}
use Rattle.gl_table.proofs.inside.Boards.{victim_waits}
use Rattle.gl_table.proofs.ledger.Ledger.victim.Goals.{In_ok-victim}
use Rattle.gl_table.proofs.ledger.Ledger.victim.Goals as goal

-- what is read from the locks is what their state says over any graph
chosen : (c : In_ok-victim) (g : Graph) → IsVictim c.args.victims (state_on g c.args.self.now) c.args.slot c.in_ok-victim.victim
chosen c g =
    (subst (λ (txn_entries : List (Option TxnEntry)). IsLowestLatest
    (IsCandidate c.args.victims (waits_for (shown c.args.self.now.headers.entries txn_entries 0)) c.args.slot) (λ u. since_in (txns_of txn_entries u))
    (λ u. age_in (txns_of txn_entries u))
    c.in_ok-victim.victim)
    c.as_slice.ensures c.in_ok-victim.ensures.some).youngest

pub returns-in_err-victim-clause-none : goal.returns-in_err-victim-clause-none
returns-in_err-victim-clause-none c =
    subst (λ (answer : Option ℕ). IfNone answer ((g : Graph) → IsOrderly (state_on g c.args.self.now)
    → IsOnNoCycle (waits_for (state_on g c.args.self.now)) c.args.slot)) (sym c.from_residual.ensures)
    (λ g o. subst (λ (txn_entries : List (Option TxnEntry)). IsOnNoCycle
    (waits_for (shown c.args.self.now.headers.entries txn_entries 0)) c.args.slot) c.as_slice.ensures
    (c.in_err-victim.ensures.none.0 refl))

pub returns-clause-some : goal.returns-clause-some
returns-clause-some c = λ g o. chosen c g

pub returns-clause-waits : goal.returns-clause-waits
returns-clause-waits c = λ g o. victim_waits c.args.victims (state_on g c.args.self.now) c.args.slot c.in_ok-victim.victim (chosen c g)
