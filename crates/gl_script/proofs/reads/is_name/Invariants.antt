use Rattle.std.proofs.Common.{All, take}
use Rattle.gl_script.specs.Grammar.{IsNameByte}
use Rattle.gl_script.proofs.reads.is_name.Given as goal

abbrev pub invariant-loop-byte : goal.invariant-loop-byte
invariant-loop-byte l = All IsNameByte (take l.byte-index l.text)
