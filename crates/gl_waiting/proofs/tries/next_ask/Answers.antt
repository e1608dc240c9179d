use Rattle.std.specs.Prelude.{◌≡◌, ◌-◌, Some, length, slice_get}
use Rattle.std.proofs.Common.{ap, rules, sym, ◌∙◌}
use Rattle.gl_modes.specs.declared.mode.Mode.{Mode}
use Rattle.gl_catalog.proofs.KeptPaths.{next_by_last}
use Rattle.gl_waiting.proofs.tries.next_ask.Goals as goal

pub returns-in-Some : goal.returns-in-Some
returns-in-Some c =
    let last : slice_get c.args.above.now.items (length c.args.above.now.items - 1) ≡ Some c.in-Some.parent.now = search rules in
    ap (λ (m : Mode). (c.in-Some.parent.now, m)) c.intention.ensures
    ∙ sym (next_by_last (c.args.node, c.args.mode) c.args.above.now.items c.in-Some.parent.now last)
