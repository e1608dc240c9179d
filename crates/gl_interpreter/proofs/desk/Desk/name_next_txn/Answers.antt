use Rattle.gl_interpreter.proofs.Words.{◌∙◌, ap, bytes_eq, if◌then◌else◌, names_of, Option, Some, Text, TxnId}
use Rattle.gl_interpreter.specs.Names.{same_txn}
use Rattle.gl_interpreter.proofs.desk.Desk.name_next_txn.Goals as goal

-- the ids of names, with one more
abbrev with_id : Text → TxnId → (Text → Option TxnId) → Text → Option TxnId
with_id n x ids m = if bytes_eq n m then Some x else ids m

-- the names of ids, with one more
abbrev with_name : Text → TxnId → (TxnId → Text) → TxnId → Text
with_name n x names y = if same_txn x y then n else names y

pub returns-in-Begun-clause-names : goal.returns-in-Begun-clause-names
returns-in-Begun-clause-names c =
    let name = c.args.name.now.items in
    let ids = c.add.ensures.ids ∙ ap (with_id name c.in-Begun.id) c.remove.ensures.ids in
    let freed = rw c.txn_id-ended.ensures at c.remove.ensures.names in
    let names = c.add.ensures.names ∙ ap (with_name name c.in-Begun.id) freed in
    rw c.in-Begun.is (λ i. record (names_of c.args.self.now) { txn = ids i; txn_name = names i })
