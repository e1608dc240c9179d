-- Adopting and locking a row in one call: its refusals and its effect.
use Rattle.std.specs.Prelude.{◌≡◌, ℕ, ◌+◌, ◌-◌, not, ◌||◌, nat_lt, List, [], ◌∷◌, ◌++◌, Option}
use denote.Bor.{Bor}
use Rattle.gl_modes.specs.declared.mode.Mode.{Mode}
use Rattle.gl_modes.specs.declared.mode.Mode.TheVariants.{S, X}
use Rattle.gl_modes.specs.declared.node.NodeId.{NodeId}
use Rattle.gl_modes.specs.declared.refusal.Refusal.{Refusal}
use Rattle.gl_modes.specs.declared.refusal.Refusal.TheVariants as no
use Rattle.gl_modes.specs.Modes.{same_mode}
use Rattle.gl_graph.specs.Graph.{record_parents}
use Rattle.gl_graph.specs.Refusals.{max_count, record_refusal, where_true}
use Rattle.gl_model.specs.declared.txn.TxnId.{TxnId}
use Rattle.gl_model.specs.Calls.{commit_tests, rule_refusal}
use Rattle.gl_model.specs.State.{State}
use Rattle.gl_steps.specs.declared.command.Answer.TheVariants as answer
use Rattle.gl_steps.specs.declared.command.Command.TheVariants as command
use Rattle.gl_catalog.specs.Counters.{counted}
use Rattle.gl_catalog.specs.Manager.{ManagerView, state_of}
use Rattle.gl_steps.specs.Step.{Step}

-- two further commands cannot be counted
abbrev pub worn_twice : State → Option Refusal
worn_twice s = where_true (nat_lt (max_count - 2) s.accepted) no.WornOut

-- a mode in which no record is locked
abbrev pub no_record_mode : Mode → Option Refusal
no_record_mode m = where_true (not (same_mode m S || same_mode m X)) no.BadMode

-- why a row is not adopted and locked, lack of memory aside: two commands cannot be counted; then the tests of the transaction, the record and the lock
abbrev pub adopting_tests : State → TxnId → NodeId → List ℕ → Mode → List (Option Refusal)
adopting_tests s t f keys m =
    worn_twice s ∷ commit_tests s t
    ++ record_refusal s.graph f keys ∷ no_record_mode m ∷ rule_refusal (s.held t.slot) (record_parents s.graph f keys) m ∷ []

-- a record is adopted and locked: two commands, of which the second is granted at once and tells nobody; both are counted, and the last deadlock stays
pub record AdoptsLocked (m : ManagerView) (t : TxnId) (f : NodeId) (keys : Bor (List ℕ)) (mode : Mode) (n : NodeId) (m' : ManagerView) : Type 0 where
  pub mid : State
  pub adopts : Step (state_of m) (command.Adopt f keys) (answer.Node n) [] mid
  pub locks : Step mid (command.Lock t n mode) (answer.Granted mode) [] (state_of m')
  pub accepted : m'.accepted ≡ m.accepted + 2
  pub counters : m'.counters ≡ counted mid (command.Lock t n mode) (answer.Granted mode) [] (state_of m') m.counters
  pub deadlock : m'.table.deadlock ≡ m.table.deadlock
