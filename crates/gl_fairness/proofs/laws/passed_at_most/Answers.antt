use Rattle.gl_fairness.proofs.Passes.{each_passes_at_most, passed_at_most, passes_are_spent, raises_end}
use Rattle.gl_fairness.proofs.laws.passed_at_most.Goals as goal

pub returns : goal.returns
returns c = record { raise = raises_end; step = passes_are_spent; run = passed_at_most; each = each_passes_at_most }
