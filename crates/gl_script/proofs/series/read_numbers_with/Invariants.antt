use Rattle.std.proofs.Common.{◌≡◌, ◌+◌, ◌≤◌, ◌++◌, All, length, map, decimal}
use Rattle.gl_script.specs.Grammar.{IsNumber}
use Rattle.gl_script.specs.Left.{left}
use Rattle.gl_script.proofs.series.read_numbers_with.Given as goal

abbrev pub invariant-loop-field : goal.invariant-loop-field
invariant-loop-field l = record {
  room : length l.numbers.items + length (left l.fields) ≤ 257;
  each : All IsNumber l.numbers.items;
  split : left l.fn.fields ≡ map decimal l.numbers.items ++ left l.fields;
}

abbrev pub decreases-loop-field : goal.decreases-loop-field
decreases-loop-field l = length (left l.fields)
