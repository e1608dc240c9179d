use Rattle.gl_table.proofs.Words.{◌≡◌, ap, is_among_waiters, length, nil_from_length, rules}
use Rattle.gl_table.proofs.inside.Woken.{ends_none}
use Rattle.gl_table.proofs.ledger.Ledger.wake_granted.Goals as goal

pub returns-then-is_empty-clause-wakes : goal.returns-then-is_empty-clause-wakes
returns-then-is_empty-clause-wakes c =
    let none : length c.args.granted.now ≡ 0 = search rules in
    ends_none _ (λ u. ap (is_among_waiters u) (nil_from_length c.args.granted.now none)) c.requires.can.kept
