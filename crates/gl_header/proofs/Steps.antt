-- The lemmas that the proofs of functions share.
use Rattle.gl_header.proofs.Queues.{without-absent}
use Rattle.gl_header.proofs.Placing.{placed_in-member, placed_in-new, prefix-le}

pub ruleset list_steps = (without-absent)

pub ruleset placed_steps = (placed_in-member, placed_in-new, prefix-le)
