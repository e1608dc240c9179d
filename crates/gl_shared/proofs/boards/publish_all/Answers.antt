use Rattle.std.proofs.Common.{ap, ◌∙◌, sym}
use Rattle.gl_shared.specs.declared.shown.Turn.{Turn}
use Rattle.gl_shared.proofs.Steps.{publishes}
use Rattle.gl_shared.proofs.boards.publish_all.Goals as goal

pub publish_as-after-requires : goal.publish_as-after-requires
publish_as-after-requires g c next is =
    publishes _ _ c.loop.writer.desk.shown.value next (ap (λ (t : Turn). t.tie) (is ∙ c.loop.invariant.1) ∙ (c.requires.same ∙ sym c.loop.invariant.0))
