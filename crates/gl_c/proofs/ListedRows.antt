-- The rows of a transaction of the manager at a place, for a listing.
use Rattle.std.specs.Prelude.{ℕ, Option, Some, None, IfSome}
use Rattle.gl_table.specs.Table.{AreRowsOf, rows_of}
use Rattle.gl_table.proofs.calls.Queries.{are_rows}
use Rattle.gl_catalog.specs.Manager.{IsLawfulManager, state_of}
use Rattle.gl_c.specs.managers.Guarded.{GuardedView}

pub rows_in : (o : Option GuardedView) (t : ℕ) → IfSome o (λ g. IsLawfulManager g.manager)
    → IfSome o (λ g. AreRowsOf (state_of g.manager) t (rows_of g.manager.table t))
rows_in None t law = law
rows_in (Some g) t law =
    let rows = are_rows g.manager.table law.lists law.unique t in
    record { nodes = rows.nodes; once = rows.once; each = rows.each }
