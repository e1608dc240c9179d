use Rattle.gl_table.proofs.Words.{◌∙◌, ◌≡◌, ap, clash, is_wait, Option, rules, Some, status_in, sym, true, Txn, txn_in, TxnEntry}
use Rattle.gl_table.proofs.ledger.Ledger.stuck.Goals.{in_default-via-in-Some+in_default, in_default-via-in_default}
use Rattle.gl_table.proofs.ledger.Ledger.stuck.Goals as goal

-- a waiter has an entry whose status is a wait
waits : (o : Option TxnEntry) (t : Option Txn) → txn_in (Some o) ≡ t → is_wait (status_in t) ≡ true → is_wait (status_in (txn_in (Some o))) ≡ true
waits o t same h = ap (λ x. is_wait (status_in x)) same ∙ h

pub unreachable-requires : goal.unreachable-requires
unreachable-requires c =
    let h = waits c.txn_entry.result _ c.txn_entry.ensures c.requires.waits in
    elim c.in_default.branch [
      | in_default-via-in-Some+in_default w ↦ let status : is_wait (Some w.in_default.field-0.status)
          ≡ true = sym (ap (λ o. is_wait (status_in (txn_in (Some o)))) w.in_default.is) ∙ h in search rules
      | in_default-via-in_default w ↦ clash h (ap (λ o. is_wait (status_in (txn_in (Some o)))) w.in_default.is)
    ]
