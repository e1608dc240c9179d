use Rattle.gl_lock_lists.specs.Apart.{IsApart}
use Rattle.gl_lock_lists.proofs.Words.{◌∙◌, ◌≡◌, ap, arith, count_in, false≢true, IfOk-at_ok, is_some, loose_of, NodeId, None, Option, refl, rules, subst, sym}
use Rattle.gl_lock_lists.proofs.Words.{ℕ}
use Rattle.std.specs.declared.alloc.AllocFailed.{AllocFailed}
use Rattle.std.specs.Prelude.{Err, IsOk, Ok, Result}
use Rattle.gl_lock_lists.proofs.Lists.{at_each, IsTakenOut, IsTakenOut-apart, IsTakenOut-here, IsWritten-same, SameCount, StaysApart}
use Rattle.gl_lock_lists.proofs.list.LockList.leave.Goals as goal

pub returns-then-entry-gt0-clause-listed : goal.returns-then-entry-gt0-clause-listed
returns-then-entry-gt0-clause-listed c =
    at_each IsTakenOut c.args.n _ _ _ _ _ _ c.swap_remove.ensures.updates.0 (IfOk-at_ok _ c.unwrap.ensures c.insert.ensures.updates).0 (IsTakenOut-here _)
    IsTakenOut-apart

pub returns-then-entry-gt0-clause-counts : goal.returns-then-entry-gt0-clause-counts
returns-then-entry-gt0-clause-counts c =
    at_each SameCount c.args.n _ _ _ _ _ _ c.swap_remove.ensures.updates.0 (IfOk-at_ok _ c.unwrap.ensures c.insert.ensures.updates).0
    (ap (λ x. count_in x (loose_of c.args.self.now c.args.n)) c.in-Some.ensures.value) (λ x y. refl)

pub invariant_of-self : goal.invariant_of-self
unfolding IsApart
invariant_of-self c = record { apart = by c.insert.result refl }
  where
    ok : IsOk c.insert.result
    ok = search rules

    by : (r : Result (Option ℕ) (AllocFailed (NodeId × ℕ))) → c.insert.result ≡ r → IsApart c.swap_remove.new.self.entries c.insert.new.self.entries
    by (Err x) e = absurd (false≢true (subst IsOk e ok))
    by (Ok x) e = (
      c.swap_remove.ensures.unique,
      λ q. at_each StaysApart c.args.n _ _ _ _ _ _ c.swap_remove.ensures.updates.0 (IfOk-at_ok _ e c.insert.ensures.updates).0
          (λ f e. cc) (λ x y f. f) q (c.args.self.now.apart.1 q),
    )

pub returns-else-entry-gt0-clause-listed : goal.returns-else-entry-gt0-clause-listed
returns-else-entry-gt0-clause-listed c =
    at_each IsTakenOut c.args.n _ _ _ _ _ _ c.swap_remove.ensures.updates.0 (IsWritten-same c.args.n c.args.self.now.loose.entries) (IsTakenOut-here _)
    IsTakenOut-apart

pub returns-else-entry-gt0-clause-counts : goal.returns-else-entry-gt0-clause-counts
unfolding IsApart
returns-else-entry-gt0-clause-counts c =
    at_each SameCount c.args.n _ _ _ _ _ _ c.swap_remove.ensures.updates.0 (IsWritten-same c.args.n c.args.self.now.loose.entries)
    (ap (count_in None) (c.args.self.now.apart.1 c.args.n (ap is_some (sym c.in-Some.ensures.value)))
    ∙ omega arith ∙ ap (λ x. count_in x (loose_of c.args.self.now c.args.n)) c.in-Some.ensures.value)
    (λ x y. refl)

pub invariant_of-self-else-entry-gt0 : goal.invariant_of-self-else-entry-gt0
unfolding IsApart
invariant_of-self-else-entry-gt0 c = record {
  apart = (
    c.swap_remove.ensures.unique,
    λ q.
        at_each StaysApart c.args.n _ _ _ _ _ _ c.swap_remove.ensures.updates.0 (IsWritten-same c.args.n c.args.self.now.loose.entries)
        (λ f e. cc) (λ x y f. f) q (c.args.self.now.apart.1 q),
  );
}
