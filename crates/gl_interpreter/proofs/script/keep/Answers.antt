use Rattle.gl_interpreter.proofs.Words.{◌+◌, ◌++◌, ◌∙◌, ◌≤◌, ap, arith, length, length-take, refl, take}
use Rattle.gl_interpreter.proofs.Reading.{front-kept, Takes-open}
use Rattle.gl_interpreter.proofs.Registers.{on_ok}
use Rattle.gl_interpreter.proofs.script.keep.Goals as goal

pub returns : goal.returns
returns c written =
    let line = c.args.tool.now.line.items in
    let part = take c.min-count.result c.args.bytes.now in
    let fits : length line + length part ≤ 257 =
    omega (arith, length-take c.min-count.result c.args.bytes.now, c.min-count.ensures, c.remaining_capacity.ensures) in
    let kept = on_ok c.try_extend_from_slice.result (c.try_extend_from_slice.ensures.variant.1 fits) c.try_extend_from_slice.ensures.ok in
    Takes-open written _ _ c.args.bytes.now c.requires refl refl
    (kept ∙ ap (λ k. line ++ take k c.args.bytes.now) c.min-count.ensures
    ∙ front-kept 257 c.remaining_capacity.result line c.args.bytes.now c.remaining_capacity.ensures)
