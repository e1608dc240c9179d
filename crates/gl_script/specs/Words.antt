-- The words of verbs and topics, and the scripts that may have them.
use Rattle.std.specs.Prelude.{◌≡◌, ◌≢◌, ℕ, List, true, codes}
use Rattle.gl_script.specs.declared.form.Language.{Language}
use Rattle.gl_script.specs.declared.form.Version.TheVariants as version
use Rattle.gl_script.specs.declared.topic.Topic.{Topic}
use Rattle.gl_script.specs.declared.topic.Topic.TheVariants as topic
use Rattle.gl_script.specs.declared.verb.LockVerb.TheVariants.{Unlock, Escalate, Held, Effective}
use Rattle.gl_script.specs.declared.verb.NumberVerb.TheVariants.{Release, Renew}
use Rattle.gl_script.specs.declared.verb.RemovalVerb.TheVariants.{Delete, Drop}
use Rattle.gl_script.specs.declared.verb.RequestVerb.TheVariants.{Lock, Try}
use Rattle.gl_script.specs.declared.verb.TxnVerb.TheVariants.{Cancel, Commit, Abort, Settle, Mark}
use Rattle.gl_script.specs.declared.verb.Verb.{Verb}
use Rattle.gl_script.specs.declared.verb.Verb.TheVariants as verb

-- the first field of a verb's lines
abbrev pub word : Verb → List ℕ
word verb.Inner = codes "inner"
word verb.File = codes "file"
word verb.Index = codes "index"
word verb.Begin = codes "begin"
word verb.Insert = codes "insert"
word verb.Adopt = codes "adopt"
word verb.Forget = codes "forget"
word verb.Rekey = codes "rekey"
word verb.Move = codes "move"
word verb.Split = codes "split"
word verb.Merge = codes "merge"
word verb.Group = codes "group"
word (verb.OfTxn Cancel) = codes "cancel"
word (verb.OfTxn Commit) = codes "commit"
word (verb.OfTxn Abort) = codes "abort"
word (verb.OfTxn Settle) = codes "settle"
word (verb.OfTxn Mark) = codes "mark"
word (verb.OfLock Unlock) = codes "unlock"
word (verb.OfLock Escalate) = codes "escalate"
word (verb.OfLock Held) = codes "held"
word (verb.OfLock Effective) = codes "effective"
word (verb.OfRequest Lock) = codes "lock"
word (verb.OfRequest Try) = codes "try"
word (verb.OfRemoval Delete) = codes "delete"
word (verb.OfRemoval Drop) = codes "drop"
word (verb.OfNumber Release) = codes "release"
word (verb.OfNumber Renew) = codes "renew"

-- the language has the verb: no node moves in version 1; drops, splits and merges need schema changes, marks and their releases savepoints, and a trace's
-- verbs a trace
abbrev pub HasVerb : Language → Verb → Type 0
HasVerb l verb.Move = l.version ≢ version.One
HasVerb l verb.Split = l.schema ≡ true
HasVerb l verb.Merge = l.schema ≡ true
HasVerb l (verb.OfRemoval Drop) = l.schema ≡ true
HasVerb l (verb.OfTxn Mark) = l.savepoints ≡ true
HasVerb l (verb.OfNumber Release) = l.savepoints ≡ true
HasVerb l verb.Adopt = l.trace ≡ true
HasVerb l verb.Forget = l.trace ≡ true
HasVerb l (verb.OfNumber Renew) = l.trace ≡ true
HasVerb l v = Unit

-- the first field of a topic's lines
abbrev pub topic_word : Topic → List ℕ
topic_word topic.Holders = codes "holders"
topic_word topic.Queue = codes "queue"
topic_word topic.Locks = codes "locks"
topic_word topic.Waits = codes "waits"
topic_word topic.Txns = codes "txns"
topic_word topic.Cycle = codes "cycle"
