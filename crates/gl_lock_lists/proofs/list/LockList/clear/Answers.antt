use Rattle.gl_lock_lists.specs.Apart.{IsApart}
use Rattle.gl_lock_lists.proofs.Words.{rules}
use Rattle.gl_lock_lists.proofs.list.LockList.clear.Goals as goal

pub invariant_of-self : goal.invariant_of-self
unfolding IsApart
invariant_of-self c = record {
  apart = search rules;
}

pub invariant_of-self-2 : goal.invariant_of-self-2
unfolding IsApart
invariant_of-self-2 c = record {
  apart = search rules;
}
