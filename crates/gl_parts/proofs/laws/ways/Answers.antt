use Rattle.gl_parts.proofs.Visiting.{after_main_is_allowed, here_is_allowed, in_main_is_refused}
use Rattle.gl_parts.proofs.laws.ways.Goals as goal

pub returns : goal.returns
returns c = record { here = here_is_allowed; after_main = after_main_is_allowed; in_main = in_main_is_refused }
