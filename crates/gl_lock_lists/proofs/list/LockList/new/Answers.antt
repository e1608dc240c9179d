use Rattle.gl_lock_lists.specs.Apart.{IsApart}
use Rattle.gl_lock_lists.proofs.Words.{rules}
use Rattle.gl_lock_lists.proofs.list.LockList.new.Goals as goal

pub invariant_of-result : goal.invariant_of-result
unfolding IsApart
invariant_of-result c = record {
  apart = search rules;
}
