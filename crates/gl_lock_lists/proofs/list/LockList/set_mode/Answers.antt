use Rattle.gl_lock_lists.specs.Apart.{IsApart}
use Rattle.gl_lock_lists.proofs.Words.{ap, count_in, is_some, loose_of, refl, rules, sym}
use Rattle.gl_lock_lists.proofs.Lists.{at_each, IsWritten-same, SameCount, SameListed, StaysApart}
use Rattle.gl_lock_lists.proofs.list.LockList.set_mode.Goals as goal

pub returns-in-Some-clause-listed : goal.returns-in-Some-clause-listed
returns-in-Some-clause-listed c =
    at_each SameListed c.args.n _ _ _ _ _ _ ((c.get_mut.follows.holds _).3 (search rules)).0
    (IsWritten-same c.args.n c.args.self.now.loose.entries) (ap is_some c.in-Some.ensures.value) (λ x y. refl)

pub returns-in-Some-clause-counts : goal.returns-in-Some-clause-counts
returns-in-Some-clause-counts c =
    at_each SameCount c.args.n _ _ _ _ _ _ ((c.get_mut.follows.holds _).3 (search rules)).0
    (IsWritten-same c.args.n c.args.self.now.loose.entries) (ap (λ x. count_in x (loose_of c.args.self.now c.args.n)) c.in-Some.ensures.value) (λ x y. refl)

pub invariant_of-self : goal.invariant_of-self
unfolding IsApart
invariant_of-self c = record {
  apart = (
    (c.get_mut.follows.holds _).4,
    λ q.
        at_each StaysApart c.args.n _ _ _ _ _ _ ((c.get_mut.follows.holds _).3 (search rules)).0
        (IsWritten-same c.args.n c.args.self.now.loose.entries) (λ f _. f (ap is_some (sym c.in-Some.ensures.value))) (λ x y f. f) q
        (c.args.self.now.apart.1 q),
  );
}
