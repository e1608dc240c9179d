use Rattle.std.specs.Prelude.{◌≡◌, drop, map}
use Rattle.std.specs.List.{list_all}
use Rattle.std.specs.Option.{option_map}
use Rattle.gl_catalog.specs.Manager.{state_of}
use Rattle.gl_parts.specs.Passing.{is_held_at}
use Rattle.gl_parts.proofs.passing.are_held.Given as goal

-- all are held exactly if all that are left are
abbrev pub invariant-marks : goal.invariant-marks
invariant-marks g l =
    let held = is_held_at (option_map (λ m. state_of m.now) l.fn.main) (state_of l.part) l.slot l.mode in
    list_all held (map g.M.Marked.names (drop l.mark-index l.marks)) ≡ list_all held (map g.M.Marked.names l.marks)
