-- What a contract sees of a table's fields, and what always holds of them.
use Rattle.std.specs.Prelude.{◌≡◌, map}
use Rattle.gl_model.specs.declared.answers.Detect.TheVariants.{AtBlock}
use Rattle.gl_table.specs.declared.table.Table.TheInside.{Inside}
use Rattle.gl_model.specs.Lawful.{IsLawful}
use Rattle.gl_table.specs.Table.{TableView, state_of}
use Rattle.gl_model.specs.State.{HasNoCycle, State}

-- what a contract sees: of the lists their nodes, not their room
abbrev pub view_of : Inside → TableView
view_of t =
    record {
      graph = t.locks.graph;
      headers = t.locks.ledger.headers.entries;
      txn_entries = t.locks.ledger.txn_entries.items;
      lists = map (λ l. l.entries.entries) t.locks.ledger.lists.items;
      detect = t.detect;
      victims = t.victims;
      begins = t.begins;
      deadlock = t.deadlock;
    }

-- a state that a table may have: lawful, and with detection at block without a cycle of waits
pub record IsSafe (s : State) : Type 0 where
  pub lawful : IsLawful s
  pub no_cycle : s.detect ≡ AtBlock → HasNoCycle s

-- what holds of the fields, besides what holds of the locks among them
abbrev pub IsSound : Inside → Type 0
IsSound t = IsSafe (state_of (view_of t))
