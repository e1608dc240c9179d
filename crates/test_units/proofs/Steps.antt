-- The lemmas that the proofs of functions share.
use Rattle.gl_header.proofs.Waiters.{wanted-none, wanted-some}
use Rattle.test_units.proofs.Dismissed.{dismissed-behind}

-- for callers that look at a header before they ask it
pub ruleset caller_steps = (wanted-none, wanted-some, dismissed-behind)
