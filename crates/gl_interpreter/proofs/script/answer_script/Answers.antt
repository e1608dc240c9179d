use Rattle.gl_interpreter.proofs.Words.{◌++◌, [], append-nil, arith, choices_now, Consumes, length-take, refl, subst, take}
use Rattle.std.proofs.Common.{length-append}
use Rattle.gl_interpreter.specs.SoFar.{Takes}
use Rattle.gl_interpreter.proofs.Writing.{Consumes-kept, Consumes-nil, Consumes-then}
use Rattle.gl_interpreter.proofs.Reading.{OnOk-of, Ran-at_fault, Ran-broken, Ran-finished, Ran-too_much, SoFar-new}
use Rattle.gl_interpreter.proofs.script.answer_script.Goals as goal

pub loop-total-init : goal.loop-total-init
loop-total-init g c = record {
  held = c.requires.fresh.held;
  whole = c.requires.fresh.whole;
  bound = omega arith;
  taken = ([], refl, Consumes-nil _, SoFar-new _ _ _ c.requires.fresh);
}

pub loop-total-preserved : goal.loop-total-preserved
unfolding Takes
loop-total-preserved g c =
    let inv = c.loop-total.invariant in
    let read = inv.taken.0 in
    let piece = take c.in-Ok.count c.read.new.buf in
    record {
      held = c.take_block.ensures.empty;
      whole = c.if-tool.false;
      bound = omega (arith, c.in-Ok.ensures.bound.0, length-take c.min-most.result c.loop-total.block);
      taken = (
        read ++ piece,
        omega (
          arith,
          length-append read piece,
          length-take c.in-Ok.count c.read.new.buf,
          inv.taken.1,
          c.in-Ok.ensures.bound.0,
          length-take c.min-most.result c.loop-total.block,
        ),
        Consumes-then _ _ _ read piece inv.taken.2 c.in-Ok.ensures.bytes.0,
        c.take_block.ensures.takes _ _ read inv.taken.3,
      );
    }

pub returns-in_default-clause-report : goal.returns-in_default-clause-report
returns-in_default-clause-report g c =
    let inv = c.loop-total.invariant in
    Ran-at_fault (choices_now c.args.tool.now) _ _ _ _ _ inv.taken.0 inv.whole inv.held
    (Consumes-kept _ _ _ _ inv.taken.2 c.in_default.ensures.bytes) inv.taken.3

pub returns-then-count-eq0-clause-report : goal.returns-then-count-eq0-clause-report
returns-then-count-eq0-clause-report g c =
    let inv = c.loop-total.invariant in
    let read = inv.taken.0 in
    let consumes = subst (Consumes (g.R.Read.remaining c.args.reader.now) (g.R.Read.remaining c.read.new.self)) (append-nil read)
    (Consumes-then _ _ _ read [] inv.taken.2 (rw c.if-count-eq0.true at c.in-Ok.ensures.bytes.0)) in
    Ran-finished (choices_now c.args.tool.now) _ _ _ _ _ _ c.finish.result read consumes inv.taken.3 c.finish.ensures

pub returns-then-count-eq0-clause-whole : goal.returns-then-count-eq0-clause-whole
returns-then-count-eq0-clause-whole g c =
    OnOk-of c.finish.result (c.in-Ok.ensures.bytes.1 c.if-count-eq0.true (omega (arith, c.requires.room, length-take c.min-most.result c.loop-total.block)))

pub returns-then-tool-clause-report : goal.returns-then-tool-clause-report
unfolding Takes
returns-then-tool-clause-report g c =
    let inv = c.loop-total.invariant in
    let read = inv.taken.0 in
    let piece = take c.in-Ok.count c.read.new.buf in
    Ran-broken (choices_now c.args.tool.now) _ _ _ _ _ _ c.finish-then-tool.result (read ++ piece)
    (Consumes-then _ _ _ read piece inv.taken.2 c.in-Ok.ensures.bytes.0) (c.take_block.ensures.takes _ _ read inv.taken.3) c.finish-then-tool.ensures

pub returns-clause-report : goal.returns-clause-report
returns-clause-report g c =
    let inv = c.loop-total.invariant in
    Ran-too_much (choices_now c.args.tool.now) _ _ _ _ _ inv.taken.0 inv.whole inv.held (omega (arith, inv.taken.1)) inv.taken.2 inv.taken.3

pub returns-in_default-clause-limit : goal.returns-in_default-clause-limit
returns-in_default-clause-limit g c =
    let inv = c.loop-total.invariant in
    (inv.taken.0, Consumes-kept _ _ _ _ inv.taken.2 c.in_default.ensures.bytes, omega (arith, inv.taken.1, inv.bound), tt)

pub returns-then-count-eq0-clause-limit : goal.returns-then-count-eq0-clause-limit
returns-then-count-eq0-clause-limit g c =
    let inv = c.loop-total.invariant in
    let read = inv.taken.0 in
    let consumes = subst (Consumes (g.R.Read.remaining c.args.reader.now) (g.R.Read.remaining c.read.new.self)) (append-nil read)
    (Consumes-then _ _ _ read [] inv.taken.2 (rw c.if-count-eq0.true at c.in-Ok.ensures.bytes.0)) in
    (read, consumes, omega (arith, inv.taken.1, inv.bound), OnOk-of c.finish.result (omega (arith, inv.taken.1, c.loop-total-test.true)))

pub returns-then-tool-clause-limit : goal.returns-then-tool-clause-limit
returns-then-tool-clause-limit g c =
    let inv = c.loop-total.invariant in
    let read = inv.taken.0 in
    let piece = take c.in-Ok.count c.read.new.buf in (
      read ++ piece,
      Consumes-then _ _ _ read piece inv.taken.2 c.in-Ok.ensures.bytes.0,
      omega (
        arith,
        length-append read piece,
        length-take c.in-Ok.count c.read.new.buf,
        inv.taken.1,
        c.in-Ok.ensures.bound.0,
        length-take c.min-most.result c.loop-total.block,
      ),
      tt,
    )

pub returns-clause-limit : goal.returns-clause-limit
returns-clause-limit g c =
    let inv = c.loop-total.invariant in
    (inv.taken.0, inv.taken.2, omega (arith, inv.taken.1, inv.bound), tt)
