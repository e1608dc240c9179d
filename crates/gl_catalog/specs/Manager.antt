-- What a contract sees of a manager, its state of the model, and what holds of every manager.
use Rattle.gl_slots.specs.Limit.{most_slots}
use Rattle.std.specs.Prelude.{◌≡◌, ◌≤◌, ℕ}
use Rattle.gl_model.specs.declared.answers.Detect.TheVariants.{AtBlock}
use Rattle.gl_model.specs.Lawful.{HasNoConflict, IsLawful}
use Rattle.gl_header.specs.Headers.{AreHeaders}
use Rattle.gl_model.specs.State.{State, HasNoCycle, counting}
use Rattle.gl_table.specs.Table.{ListsAgree, StandOnce, TableView, state_of as table_state}
use Rattle.gl_catalog.specs.declared.counters.Counters.{Counters}

-- a manager: its table, how many commands were accepted, and counters
pub record ManagerView : Type 0 where
  pub table : TableView
  pub accepted : ℕ
  pub counters : Counters

-- its state of the model
abbrev pub state_of : ManagerView → State
state_of m = counting m.accepted (table_state m.table)

-- what holds of every manager: a lawful state, headers and lists that agree and name no node twice, no conflict, at block no cycle, and slots within a board
pub record IsLawfulManager (m : ManagerView) : Type 0 where
  pub lawful : IsLawful (state_of m)
  pub headers : AreHeaders m.table.headers
  pub lists : ListsAgree m.table
  pub unique : StandOnce m.table
  pub no_conflict : HasNoConflict (state_of m)
  pub no_cycle : m.table.detect ≡ AtBlock → HasNoCycle (state_of m)
  pub few : (state_of m).most ≤ most_slots
