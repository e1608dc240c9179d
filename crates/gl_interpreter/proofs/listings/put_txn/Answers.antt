use Rattle.gl_interpreter.proofs.Writing.{Hands-then}
use Rattle.gl_interpreter.proofs.listings.put_txn.Goals as goal

pub returns : goal.returns
returns g c =
    let name = Hands-then _ _ _ _ _ _ _ _ c.put.ensures (rw c.txn_name.ensures at c.put-2.ensures) in
    let space = Hands-then _ _ _ _ _ _ _ _ name c.put-3.ensures in
    let age = Hands-then _ _ _ _ _ _ _ _ space c.put_number.ensures in
    let status = Hands-then _ _ _ _ _ _ _ _ age c.put_status.ensures in
    Hands-then _ _ _ _ _ _ _ _ status c.put-4.ensures
