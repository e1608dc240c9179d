use Rattle.gl_lock_lists.proofs.Words.{◌-◌, ◌<◌, ◌==◌, ◌∙◌, ap, arith, get_or, length, same_node, split, sym}
use Rattle.std.proofs.lemmas.List.{get_or_default}
use Rattle.gl_modes.proofs.Words.{other_number, same_number}
use Rattle.gl_lock_lists.proofs.RowLemmas.{no_place, place_found}
use Rattle.gl_lock_lists.proofs.rows.place_of.Goals as goal

pub loop-place-init : goal.loop-place-init
loop-place-init g c = λ i d le lt. absurd (omega (arith, le, lt))

pub loop-place-preserved : goal.loop-place-preserved
loop-place-preserved g c = λ i d le lt.
    let rows = c.args.rows.now in
    let place = c.loop-place.place - 1 in
    split (i == place)
    (λ e. let same = same_number i place e in
    let within : place < length rows = omega (arith, same, lt) in
    ap (λ k. same_node (get_or rows k d).0 c.args.node) same
    ∙ ap (λ row. same_node row.0 c.args.node) (get_or_default rows place d c.index-rows-place.result within)
    ∙ (sym c.eq.ensures ∙ c.if-eq.false))
    (λ e. let other = other_number i place e in c.loop-place.invariant i d (omega (arith, le, other, c.loop-place-test.true)) lt)

pub returns-then-eq : goal.returns-then-eq
returns-then-eq g c =
    let within : c.loop-place.place - 1 < length c.args.rows.now = omega (arith, c.loop-place.auto.place, c.loop-place-test.true) in
    sym (place_found c.args.rows.now c.requires c.args.node (c.loop-place.place - 1) c.index-rows-place.result within (sym c.eq.ensures ∙ c.if-eq.true))

pub returns : goal.returns
returns g c = sym (no_place c.args.node c.args.rows.now (λ i d lt. c.loop-place.invariant i d (omega (arith, c.loop-place-test.false)) lt))
