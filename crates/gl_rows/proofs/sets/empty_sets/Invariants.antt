use Rattle.std.specs.Prelude.{◌≡◌, ℕ, false, length, vec_capacity}
use Rattle.gl_slots.specs.Limit.{most_slots}
use Rattle.gl_rows.specs.Sound.{is_in}
use Rattle.gl_rows.specs.declared.row.Row.{Row}
use Rattle.gl_rows.proofs.sets.empty_sets.Given as goal

-- so many sets so far, all empty, and there is room for the others
abbrev pub invariant-loop-set : goal.invariant-loop-set
invariant-loop-set l = record {
  made : length l.sets.items ≡ l._set;
  room : vec_capacity l.sets ≡ most_slots;
  empty : (slot : ℕ) (row : Row) → is_in l.sets.items slot row ≡ false;
}
