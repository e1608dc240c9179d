use Rattle.std.specs.Prelude.{◌≡◌, Option, drop, map, true}
use Rattle.std.specs.Option.{option_map}
use Rattle.gl_catalog.specs.Manager.{state_of}
use Rattle.gl_parts.specs.declared.passing.Mark.{Mark}
use Rattle.gl_parts.specs.Passing.{IsFirst, is_unheld_at}
use Rattle.gl_parts.proofs.passing.first_unheld.Given as goal

-- the first of the marks that are left is the first of all
abbrev pub invariant-marks : goal.invariant-marks
invariant-marks g l =
    let is_it = is_unheld_at (option_map (λ m. state_of m.now) l.fn.main) (state_of l.part) l.slot l.mode l.passed in
    (found : Option Mark) → IsFirst (λ mark. is_it mark ≡ true) (map g.M.Marked.names (drop l.mark-index l.marks)) found
    → IsFirst (λ mark. is_it mark ≡ true) (map g.M.Marked.names l.marks) found
