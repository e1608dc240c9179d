-- Words for worked rows: commands with what is answered to them, as runs from the empty state.
use Rattle.gl_steps.proofs.Words.{◌++◌, ◌-◌, [], ◌∷◌, ◌≡◌, Answer, Bor, Command, Detect, empty-lawful, empty_state, IX, List, map, Mode, NodeId, Notice}
use Rattle.gl_steps.proofs.Words.{Refusal, Run, State, subst, Told, TxnId, Youngest, ℕ}
use Rattle.gl_steps.specs.declared.command.Answer.TheVariants as answer
use Rattle.gl_steps.specs.declared.command.Command.TheVariants as command
use Rattle.gl_steps.proofs.Execute.{after, replies}
use Rattle.gl_steps.proofs.ExecuteIsStep.{execute_runs}

-- a command, its answer, and its notices
abbrev pub Line : Type 0
Line = Command × Answer × Told

-- the commands of these lines
abbrev pub commands : List Line → List Command
commands lines = map (λ l. l.0) lines

-- what they answer and tell
abbrev pub answers : List Line → List (Answer × Told)
answers lines = map (λ l. (l.1, l.2)) lines

-- these lines are a run of the model from the empty state, with room for so many transactions
pub record Rows (detect : Detect) (most : ℕ) (lines : List Line) : Type 0 where
  pub state : State
  pub run : Run (empty_state detect most) (commands lines) (answers lines) state

-- a row is shown by computing it
pub computed : {detect : Detect} {most : ℕ} {lines : List Line} → replies (empty_state detect most) (commands lines) ≡ answers lines → Rows detect most lines
computed {detect = detect} {most = most} {lines = lines} same =
    let start : State = empty_state detect most in
    record {
      state = after start (commands lines);
      run = subst (λ rs. Run start (commands lines) rs (after start (commands lines))) same
          (execute_runs (commands lines) start (empty-lawful detect Youngest most));
    }

-- a borrowed list, as a command has it
abbrev pub ref : {A : Type 0} → A → Bor A
ref x = record { ref_ptr = (0, 0); now = x }

-- if no node was removed, the node of a birth has the key below it
abbrev pub id : ℕ → NodeId
id birth = record { key = birth - 1; birth = birth }

-- the transaction in a slot, of an age
abbrev pub txn : ℕ → ℕ → TxnId
txn slot age = record { slot = slot; age = age }

-- nobody is told of it
abbrev pub says : Command → Answer → Line
says c a = (c, a, [])

-- done, and nobody is told
abbrev pub done : Command → Line
done c = says c answer.Done

-- refused
abbrev pub refuses : Command → Refusal → Line
refuses c r = says c (answer.Refused r)

-- done, and one other is told
abbrev pub tells : Command → TxnId → Notice → Line
tells c t n = (c, answer.Done, (t, n) ∷ [])

-- granted what was requested
abbrev pub locks : TxnId → Mode → NodeId → Line
locks t m n = says (command.Lock t n m) (answer.Granted m)

-- it waits
abbrev pub waits : TxnId → Mode → NodeId → Line
waits t m n = says (command.Lock t n m) answer.Waiting

-- the same mode on these nodes
abbrev pub locks_all : TxnId → Mode → List NodeId → List Line
locks_all t m ns = map (locks t m) ns

-- the next transaction, in this slot and of this age
abbrev pub begins : TxnId → Line
begins t = says command.Begin (answer.Begun t)

-- a new root
abbrev pub roots : NodeId → Line
roots n = says (command.Inner (ref [])) (answer.Node n)

-- a new inner node
abbrev pub inner : List NodeId → NodeId → Line
inner ps n = says (command.Inner (ref ps)) (answer.Node n)

-- a new file
abbrev pub file : List NodeId → NodeId → Line
file ps n = says (command.File (ref ps)) (answer.Node n)

-- what is held
abbrev pub holds : TxnId → NodeId → Mode → Line
holds t n m = says (command.Held t n) (answer.Mode m)

-- the group mode
abbrev pub group : NodeId → Mode → Line
group n m = says (command.Group n) (answer.Mode m)

-- the prelude of rows with records: a file with one index of two intervals, and a record in each
abbrev pub db : NodeId
db = id 1

abbrev pub f1 : NodeId
f1 = id 2

abbrev pub i1 : NodeId
i1 = id 3

abbrev pub i1_0 : NodeId
i1_0 = id 4

abbrev pub i1_1 : NodeId
i1_1 = id 5

abbrev pub r1 : NodeId
r1 = id 6

abbrev pub r2 : NodeId
r2 = id 7

abbrev pub z : TxnId
z = txn 0 1

-- a file under a root, with an index parted at 100
abbrev pub indexed : List Line
indexed = roots db ∷ file (db ∷ []) f1 ∷ says (command.Index (ref (db ∷ [])) f1 (ref (100 ∷ []))) (answer.Node i1) ∷ []

-- and two records, one in each interval
abbrev pub prelude : List Line
prelude =
    indexed ++ begins z ∷ locks_all z IX (db ∷ f1 ∷ i1 ∷ i1_0 ∷ i1_1 ∷ [])
    ++ says (command.Insert z f1 (ref (50 ∷ []))) (answer.Node r1) ∷ says (command.Insert z f1 (ref (200 ∷ []))) (answer.Node r2) ∷ done (command.Commit z) ∷ []

-- the first transaction after the prelude
abbrev pub a : TxnId
a = txn 0 2

abbrev pub b : TxnId
b = txn 1 3

abbrev pub c : TxnId
c = txn 2 4
