use Rattle.std.specs.Prelude.{◌≡◌, None, take, true}
use Rattle.std.specs.Map.{lookup}
use Rattle.gl_catalog.specs.Manager.{state_of}
use Rattle.gl_rows.specs.Locking.{SameAccount}
use Rattle.gl_rows.specs.Releasing.{LetsEachGo, is_among}
use Rattle.gl_rows.specs.Rows.{same_row}
use Rattle.gl_rows.specs.declared.row.Row.{Row}
use Rattle.gl_rows.proofs.names.let_each_go.Given as goal

-- the rows so far were let go, and nothing was counted; if none was refused, none of them has a node
abbrev pub invariant-loop-row : goal.invariant-loop-row
invariant-loop-row l = record {
  goes : LetsEachGo (state_of l.fn.manager) l.fn.names.entries (take l.row-index l.rows) (state_of l.manager) l.names.entries;
  account : SameAccount l.fn.manager l.manager;
  gone : l.all ≡ true → (row : Row) → is_among (take l.row-index l.rows) row ≡ true → lookup (same_row row) l.names.entries ≡ None;
}
