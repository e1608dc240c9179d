use Rattle.gl_lock_lists.specs.Apart.{IsApart}
use Rattle.gl_lock_lists.proofs.Words.{◌∙◌, ap, false≢true, is_some, mode_in, refl, rules, sym}
use Rattle.gl_lock_lists.proofs.Lists.{at_each, IsWritten-same, SameListed, SameMode, StaysApart}
use Rattle.gl_lock_lists.proofs.list.LockList.count_more.Goals as goal

pub returns-in-Some-clause-listed : goal.returns-in-Some-clause-listed
returns-in-Some-clause-listed c =
    at_each SameListed c.args.n _ _ _ _ _ _ ((c.get_mut.follows.holds _).3 (search rules)).0
    (IsWritten-same c.args.n c.args.self.now.loose.entries) (ap is_some c.in-Some.ensures.value) (λ x y. refl)

pub returns-in-Some-clause-modes : goal.returns-in-Some-clause-modes
returns-in-Some-clause-modes c =
    at_each SameMode c.args.n _ _ _ _ _ _ ((c.get_mut.follows.holds _).3 (search rules)).0
    (IsWritten-same c.args.n c.args.self.now.loose.entries) (ap mode_in c.in-Some.ensures.value) (λ x y. refl)

pub invariant_of-self : goal.invariant_of-self
unfolding IsApart
invariant_of-self c = record {
  apart = (
    (c.get_mut.follows.holds _).4,
    λ q.
        at_each StaysApart c.args.n _ _ _ _ _ _ ((c.get_mut.follows.holds _).3 (search rules)).0
        (IsWritten-same c.args.n c.args.self.now.loose.entries) (λ f _. f (ap is_some (sym c.in-Some.ensures.value))) (λ x y f. f) q
        (c.args.self.now.apart.1 q),
  );
}

pub invariant_of-self-in_default : goal.invariant_of-self-in_default
unfolding IsApart
invariant_of-self-in_default c = record {
  apart =
      rw c.get_mut.follows.holds-at-none (
        c.args.self.now.apart.0,
        λ q. at_each StaysApart c.args.n _ _ _ _ _ _ (IsWritten-same c.args.n c.args.self.now.entries.entries)
            c.count_loose_more.ensures.updates.0
            (λ _ h. absurd (false≢true (ap is_some c.in_default.ensures.value ∙ h))) (λ x y f. f) q (c.args.self.now.apart.1 q),
      );
}
