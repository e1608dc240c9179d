use Rattle.std.proofs.Common.{sym, ◌∙◌}
use Rattle.gl_catalog.specs.Manager.{state_of}
use Rattle.gl_parts.proofs.Visiting.{clear_if, clear_wants}
use Rattle.gl_parts.proofs.visits.is_clear.Goals as goal

pub returns-then-has_intentions : goal.returns-then-has_intentions
returns-then-has_intentions c = (
  λ wants. clear_if (state_of c.args.main.now) c.args.node (c.has_intentions.ensures.0 c.if-has_intentions.true) (sym c.awaits_intentions.ensures ∙ wants),
  λ clear. c.awaits_intentions.ensures ∙ clear_wants (state_of c.args.main.now) c.args.node clear,
)
