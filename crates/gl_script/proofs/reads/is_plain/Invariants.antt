use Rattle.std.proofs.Common.{All, take}
use Rattle.gl_script.specs.Numbers.{IsDigit}
use Rattle.gl_script.proofs.reads.is_plain.Given as goal

abbrev pub invariant-loop-byte : goal.invariant-loop-byte
invariant-loop-byte l = All IsDigit (take l.byte-index l.text)
