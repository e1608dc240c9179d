-- A lawful table makes a lawful manager, with any counts.
use Rattle.gl_slots.specs.Limit.{most_slots}
use Rattle.std.specs.Prelude.{◌≡◌, ◌≤◌, ℕ}
use Rattle.gl_model.specs.declared.answers.Detect.TheVariants.{AtBlock}
use Rattle.gl_model.specs.Lawful.{HasNoConflict, IsLawful}
use Rattle.gl_model.specs.State.{HasNoCycle}
use Rattle.gl_header.specs.Headers.{AreHeaders}
use Rattle.gl_steps.proofs.Counting.{lawful_counting, no_conflict_counting, no_cycle_counting}
use Rattle.gl_table.specs.Table.{ListsAgree, StandOnce, TableView, state_of as table_state}
use Rattle.gl_catalog.specs.declared.counters.Counters.{Counters}
use Rattle.gl_catalog.specs.Manager.{IsLawfulManager}

-- a lawful table with this count is a lawful manager
pub lawful_manager : (k : ℕ) (v : TableView) (counts : Counters) → IsLawful (table_state v) → AreHeaders v.headers → ListsAgree v → StandOnce v
    → HasNoConflict (table_state v) → (v.detect ≡ AtBlock → HasNoCycle (table_state v)) → (table_state v).most ≤ most_slots
    → IsLawfulManager (record { table = v; accepted = k; counters = counts })
lawful_manager k v counts law headers lists unique conflict cycle few = record {
  lawful = lawful_counting k (table_state v) law;
  headers = headers;
  lists = lists;
  unique = unique;
  no_conflict = no_conflict_counting k (table_state v) conflict;
  no_cycle = λ at. no_cycle_counting k (table_state v) (cycle at);
  few = few;
}
