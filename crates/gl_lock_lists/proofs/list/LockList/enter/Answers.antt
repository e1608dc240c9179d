use Rattle.gl_lock_lists.specs.Apart.{IsApart}
use Rattle.gl_lock_lists.proofs.Words.{◌∙◌, refl, sym}
use Rattle.gl_lock_lists.proofs.Lists.{at_each, count_in-unlisted, SameCount, StaysApart}
use Rattle.gl_lock_lists.proofs.list.LockList.enter.Goals as goal

pub returns-clause-counts : goal.returns-clause-counts
returns-clause-counts c =
    at_each SameCount c.args.n _ _ _ _ _ _ c.insert_new.ensures.updates.0 c.take_loose-children.ensures.taken
    (c.take_loose-children.ensures.value ∙ sym (count_in-unlisted _ _ c.requires.new)) (λ x y. refl)

pub invariant_of-self : goal.invariant_of-self
unfolding IsApart
invariant_of-self c = record {
  apart = (
    c.insert_new.ensures.unique,
    λ q.
        at_each StaysApart c.args.n _ _ _ _ _ _ c.insert_new.ensures.updates.0 c.take_loose-children.ensures.taken
        (λ _ _. refl) (λ x y f. f) q (c.args.self.now.apart.1 q),
  );
}
