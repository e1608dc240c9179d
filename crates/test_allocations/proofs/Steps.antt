-- The lemmas that the proofs of functions share.
use Rattle.gl_header.proofs.Waiters.{wanted-none, wanted-some}

-- for callers that look at a header before they ask it
pub ruleset caller_steps = (wanted-none, wanted-some)
