-- The words that proofs use: of the definitions, of the crates below, and of std, passed on from one place.
-- No lemma of this crate is among them, so that a change of one is read again only where it is cited.
pub use Rattle.gl_modes.specs.declared.mode.Mode.{Mode}
pub use Rattle.gl_modes.specs.declared.mode.Mode.TheVariants.{NL}
pub use Rattle.gl_modes.specs.declared.node.NodeId.{NodeId}
pub use Rattle.gl_model.proofs.Words.{are_compatible, cond, count_by, is_ahead, is_empty, is_waiter, since_of}
pub use Rattle.gl_model.proofs.law.Keeps.{waiting_is}
pub use Rattle.gl_model.proofs.queues.Waiters.{ahead_is, ahead_second}
pub use Rattle.gl_model.specs.Calls.{hinders_at}
pub use Rattle.gl_model.specs.declared.answers.Detect.{Detect}
pub use Rattle.gl_model.specs.declared.answers.Detect.TheVariants.{AtBlock, ByWatcher}
pub use Rattle.gl_model.specs.declared.txn.Status.{Status}
pub use Rattle.gl_model.specs.declared.txn.Status.TheVariants.{Active, Condemned, Waiting}
pub use Rattle.gl_model.specs.declared.txn.TxnId.{TxnId}
pub use Rattle.gl_steps.proofs.Beginning.{Begins}
pub use Rattle.gl_steps.proofs.EachStep.{each_step}
pub use Rattle.gl_steps.proofs.LivesOn.{SameTurn}
pub use Rattle.gl_steps.proofs.StepsKeepLaw.{steps_keep_law}
pub use Rattle.gl_steps.proofs.Words.{◌&&◌, ◌+◌, ◌==◌, [], ◌||◌, ◌∙◌, ◌∷◌, ◌≡◌, ◌≢◌, ◌≤◌, ◌⊎◌, ⊎_elim, Accepts, age_in, age_of, and_both, ap, arith}
pub use Rattle.gl_steps.proofs.Words.{Bool, both, clash, condemned, enqueued, enters_at, false, filter, freed, freed_among, freed_unless}
pub use Rattle.gl_steps.proofs.Words.{goes_with, granted_at, holds, if◌then◌else◌, inl, inr, is_among_waiters, is_at_least, is_covered, is_some, is_waiting_at}
pub use Rattle.gl_steps.proofs.Words.{IsLawful, List, list_all, list_any, Locks, members, min, nat_lt, nat_tests, nodes, None, none_among, not, Option, or_elim}
pub use Rattle.gl_steps.proofs.Words.{or_left, or_right, raised, range_with_len, refl, refusal_of, rekeyed_parents, released, restatus, same_mode, same_node}
pub use Rattle.gl_steps.proofs.Words.{same_number, Settled, SettledWithin, slots, Some, split, State, status_in, status_of, stays, Step, stripped, subst, suc}
pub use Rattle.gl_steps.proofs.Words.{sym, tests_of, Told, true, Txn, Waiter, waits_for, WaitSettles, wanted, with_grant, woken, worn, zero, ℕ}
pub use Rattle.gl_steps.specs.Promises.{waits_on}
pub use Rattle.gl_steps.specs.declared.command.Answer.{Answer}
pub use Rattle.gl_steps.specs.declared.command.Command.{Command}
pub use Rattle.gl_fairness.specs.Turns.{begins_ahead, comes_before}
pub use Rattle.gl_fairness.specs.Waiting.{SameTxn, WaitsThrough}
