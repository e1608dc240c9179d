use Rattle.gl_parts.proofs.Copies.{copies_are_granted, visitors_join, visits_never_wait}
use Rattle.gl_parts.proofs.laws.copies.Goals as goal

pub returns : goal.returns
returns c = record { granted = copies_are_granted; visits = visits_never_wait; joins = visitors_join }
