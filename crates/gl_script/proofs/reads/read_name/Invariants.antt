use Rattle.std.proofs.Common.{◌≡◌, take}
use Rattle.gl_script.proofs.reads.read_name.Given as goal

abbrev pub invariant-loop-byte : goal.invariant-loop-byte
invariant-loop-byte l = l.name.items ≡ take l.byte-index l.text
