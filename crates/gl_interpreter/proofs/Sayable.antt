-- Each command of a manager is one of a script.
use Rattle.gl_interpreter.proofs.Words.{refl, Script, sym, Text}
use Rattle.gl_steps.specs.declared.command.Command.{Command as Asked}
use Rattle.gl_steps.specs.declared.command.Command.TheVariants as command
use Rattle.gl_script.specs.declared.verb.LockVerb.TheVariants.{Effective, Escalate, Held, Unlock}
use Rattle.gl_script.specs.declared.verb.NumberVerb.TheVariants.{Renew}
use Rattle.gl_script.specs.declared.verb.RemovalVerb.TheVariants.{Delete, Drop}
use Rattle.gl_script.specs.declared.verb.RequestVerb.TheVariants.{Lock, Try}
use Rattle.gl_script.specs.declared.verb.TxnVerb.TheVariants.{Abort, Cancel, Commit, Settle}
use Rattle.gl_script.specs.Grammar.{Adopt, Begin, BeginAgain, File, Forget, Group, Index, IndexOver, Inner, Insert, IsName, Join, Move, OfLock, OfNumber}
use Rattle.gl_script.specs.Grammar.{Merge, OfRemoval, OfRequest, OfTxn, Rekey, Split}
use Rattle.gl_interpreter.specs.declared.request.Request.TheVariants as request
use Rattle.gl_interpreter.specs.Sayable.{EachIsSaid, HasAllCommands, IsSaid, IsSayable}

each : (s : Script) (name : Text) (asked : Asked) → HasAllCommands s.language → IsName name → IsSayable s asked → IsSaid s name asked
each s name (command.Inner ps) all is p = (Inner name p.0, (is, p.1), tt, (ps, sym p.2, refl))
each s name (command.File ps) all is p = (File name p.0, (is, p.1), tt, (ps, sym p.2, refl))
each s name (command.Index ps f bs) all is p =
    let file = sym p.1.2 in
    (Index name p.0.0 p.1.0 bs.now, (is, p.0.1, p.1.1, p.2), tt, (ps, sym p.0.2, (bs, refl, λ i. request.Apply (command.Index ps (file i) bs))))
each s name command.Begin all is p = (Begin name, is, tt, refl)
each s name (command.BeginAgain since) all is p = (BeginAgain name since, (is, p), all.trace, refl)
each s name (command.Join slot since) all is p = (Join name slot since, (is, p.0, p.1), all.trace, refl)
each s name (command.Lock t n m) all is p =
    let txn = sym p.0.2 in let node = sym p.1.2 in
    (OfRequest Lock p.0.0 m p.1.0, (p.0.1, p.1.1), tt, λ i. request.Apply (command.Lock (txn i) (node i) m))
each s name (command.Try t n m) all is p =
    let txn = sym p.0.2 in let node = sym p.1.2 in
    (OfRequest Try p.0.0 m p.1.0, (p.0.1, p.1.1), tt, λ i. request.Apply (command.Try (txn i) (node i) m))
each s name (command.Unlock t n) all is p =
    let txn = sym p.0.2 in let node = sym p.1.2 in
    (OfLock Unlock p.0.0 p.1.0, (p.0.1, p.1.1), tt, λ i. request.Apply (command.Unlock (txn i) (node i)))
each s name (command.Escalate t n) all is p =
    let txn = sym p.0.2 in let node = sym p.1.2 in
    (OfLock Escalate p.0.0 p.1.0, (p.0.1, p.1.1), tt, λ i. request.Apply (command.Escalate (txn i) (node i)))
each s name (command.Cancel t) all is p = let txn = sym p.2 in (OfTxn Cancel p.0, p.1, tt, λ i. request.Apply (command.Cancel (txn i)))
each s name (command.Commit t) all is p = let txn = sym p.2 in (OfTxn Commit p.0, p.1, tt, λ i. request.Apply (command.Commit (txn i)))
each s name (command.Renew t since) all is p =
    let txn = sym p.0.2 in (OfNumber Renew p.0.0 since, (p.0.1, p.1), all.trace, λ i. request.Apply (command.Renew (txn i) since))
each s name (command.Abort t) all is p = let txn = sym p.2 in (OfTxn Abort p.0, p.1, tt, λ i. request.Apply (command.Abort (txn i)))
each s name (command.Settle t) all is p = let txn = sym p.2 in (OfTxn Settle p.0, p.1, tt, λ i. request.Apply (command.Settle (txn i)))
each s name (command.Insert t f keys) all is p =
    let txn = sym p.0.2 in let file = sym p.1.2 in
    (Insert p.0.0 name p.1.0 keys.now, (p.0.1, is, p.1.1, p.2), tt, (keys, refl, λ i. request.Apply (command.Insert (txn i) (file i) keys)))
each s name (command.Delete t r) all is p =
    let txn = sym p.0.2 in let rec = sym p.1.2 in
    (OfRemoval Delete p.0.0 p.1.0, (p.0.1, p.1.1), tt, λ i. request.Apply (command.Delete (txn i) (rec i)))
each s name (command.Rekey t r x key) all is p =
    let txn = sym p.0.2 in let rec = sym p.1.2 in let index = sym p.2.2 in
    (Rekey p.0.0 p.1.0 p.2.0 key, (p.0.1, p.1.1, p.2.1, p.3), tt, λ i. request.Apply (command.Rekey (txn i) (rec i) (index i) key))
each s name (command.Move t n ps) all is p =
    let txn = sym p.0.2 in let node = sym p.1.2 in
    (Move p.0.0 p.1.0 p.2.0, (p.0.1, p.1.1, p.2.1), all.version, (ps, sym p.2.2, λ i. request.Apply (command.Move (txn i) (node i) ps)))
each s name (command.Group n) all is p = let node = sym p.2 in (Group p.0, p.1, tt, λ i. request.Apply (command.Group (node i)))
each s name (command.Held t n) all is p =
    let txn = sym p.0.2 in let node = sym p.1.2 in
    (OfLock Held p.0.0 p.1.0, (p.0.1, p.1.1), tt, λ i. request.Apply (command.Held (txn i) (node i)))
each s name (command.Effective t n) all is p =
    let txn = sym p.0.2 in let node = sym p.1.2 in
    (OfLock Effective p.0.0 p.1.0, (p.0.1, p.1.1), tt, λ i. request.Apply (command.Effective (txn i) (node i)))
each s name (command.Adopt f keys) all is p =
    let file = sym p.0.2 in
    (Adopt name p.0.0 keys.now, (is, p.0.1, p.1), all.trace, (keys, refl, λ i. request.Apply (command.Adopt (file i) keys)))
each s name (command.Forget r) all is p = let rec = sym p.2 in (Forget p.0, p.1, all.trace, λ i. request.Apply (command.Forget (rec i)))
each s name (command.Drop t n) all is p =
    let txn = sym p.0.2 in let node = sym p.1.2 in
    (OfRemoval Drop p.0.0 p.1.0, (p.0.1, p.1.1), all.schema, λ i. request.Apply (command.Drop (txn i) (node i)))
each s name (command.IndexBy t ps f bs rs ks) all is p =
    let txn = sym p.0.2 in let file = sym p.2.2 in (
      IndexOver p.0.0 name p.1.0 p.2.0 bs.now p.4.0 ks.now,
      (p.0.1, is, p.1.1, p.2.1, p.3, p.4.1, p.5),
      all.schema,
      (ps, sym p.1.2, (bs, refl, (rs, sym p.4.2, (ks, refl, λ i. request.Apply (command.IndexBy (txn i) ps (file i) bs rs ks))))),
    )
each s name (command.Split t x bound) all is p =
    let txn = sym p.0.2 in let node = sym p.1.2 in
    (Split p.0.0 p.1.0 bound, (p.0.1, p.1.1, p.2), all.schema, λ i. request.Apply (command.Split (txn i) (node i) bound))
each s name (command.Merge t x) all is p =
    let txn = sym p.0.2 in let node = sym p.1.2 in
    (Merge p.0.0 p.1.0, (p.0.1, p.1.1), all.schema, λ i. request.Apply (command.Merge (txn i) (node i)))

pub each_is_said : EachIsSaid
each_is_said s name asked all is p = each s name asked all is p
