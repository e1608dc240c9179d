use Rattle.std.proofs.Common.{arith, refl, subst, All, take_all}
use Rattle.gl_script.specs.Numbers.{IsDigit}
use Rattle.std.proofs.lemmas.List.Elements.{All-more}
use Rattle.gl_script.proofs.Splitting.{other_test}
use Rattle.gl_script.proofs.reads.is_plain.Goals as goal

pub loop-byte-preserved : goal.loop-byte-preserved
loop-byte-preserved c = All-more IsDigit c.args.text.now c.loop-byte.byte-index 0 c.loop-byte-test.true c.loop-byte.invariant (omega arith, omega arith)

pub returns : goal.returns
returns c =
    let some = other_test _ _ _ c.is_empty.ensures c.if-is_empty.false in (
      λ t. record {
        some = omega (arith, some);
        digits = subst (All IsDigit) (take_all c.loop-byte.byte-index c.args.text.now c.loop-byte-test.false) c.loop-byte.invariant;
        lead = λ e. absurd (c.if-text-eq48.false e);
      },
      λ p. refl,
    )
