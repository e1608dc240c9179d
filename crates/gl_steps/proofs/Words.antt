-- The words that proofs use: of the definitions, of the crates below, and of std, passed on from one place.
-- No lemma of this crate is among them, so that a change of one is read again only where it is cited.
pub use Rattle.std.specs.Prelude.{min}
pub use denote.Bor.{Bor}
pub use Rattle.gl_modes.specs.declared.mode.Mode.{Mode}
pub use Rattle.gl_modes.specs.declared.mode.Mode.TheVariants.{IS, IX, NL, S, X}
pub use Rattle.gl_modes.specs.declared.node.NodeId.{NodeId}
pub use Rattle.gl_modes.specs.declared.refusal.Refusal.{Refusal}
pub use Rattle.gl_waits.specs.declared.victims.Victims.{Victims}
pub use Rattle.gl_waits.specs.declared.victims.Victims.TheVariants.{Youngest}
pub use Rattle.gl_graph.proofs.Removed.{was_live}
pub use Rattle.gl_graph.proofs.Unrefused.{none_refused}
pub use Rattle.gl_graph.proofs.Words.{◌-◌, born_index, born_node, cases_eq, is_adopted, is_in_use, map, where_true, without_branch, worn_births}
pub use Rattle.gl_graph.specs.Changes.{new_index, rekeyed_node, reparented}
pub use Rattle.gl_graph.specs.Routes.{IsBelow}
pub use Rattle.gl_model.proofs.Words.{◌&&◌, ◌+◌, ◌++◌, ◌<◌, ◌==◌, [], ◌||◌, ◌∙◌, ◌∷◌, ◌≡◌, ◌≢◌, ◌≤◌, ◌⊎◌, ⊎_elim, addressed, age_in, age_of, and_both, ap, ap₂}
pub use Rattle.gl_model.proofs.Words.{arith, asked_by_escalation, at_least-refl, begun_at, Bool, born_nodes, both, clash, condemned, condemned_test, deleted}
pub use Rattle.gl_model.proofs.Words.{eff_s, eff_x, effective, EffX, empty_state, enqueued, enters_at, false, File, filter, find, first_in, first_not_ix}
pub use Rattle.gl_model.proofs.Words.{first_parent, first_refusal, freed, freed_unless, fun_ext, granted, granted_at, Graph, HasNoCycle, holds, holds_x}
pub use Rattle.gl_model.proofs.Words.{holds_x_on_all, if◌then◌else◌, Index, inl, Inner, inr, Interval, interval_nodes, is_among_waiters, is_at_least, is_child}
pub use Rattle.gl_model.proofs.Words.{is_covered, is_file_shape, is_idle, is_live, is_movable_shape, is_none, is_read, is_record_shape, is_some, is_wait}
pub use Rattle.gl_model.proofs.Words.{is_waiting_at, IsAdopted, IsIndexBorn, IsLawful, IsLawfulGraph, IsRoute, keys_in, length, List, list_all, list_any}
pub use Rattle.gl_model.proofs.Words.{live_by, marked, members, moved_to, nat_le, nat_lt, nat_tests, need_exclusive, no, no_parents, no_txn, Node, node_at}
pub use Rattle.gl_model.proofs.Words.{node_count, nodes, None, none_some, not, not-true, not_false, not_refused, notice_of, Option, or-true, or_elim, or_left}
pub use Rattle.gl_model.proofs.Words.{or_no, or_right, parents_in, parents_of, pumped, raised, range_with_len, Rec, record_parents, record_refusal, refl}
pub use Rattle.gl_model.proofs.Words.{rekeyed, rekeyed_parents, released, restatus, rules, same_mode, same_node, same_node-equal, same_node-refl, same_number}
pub use Rattle.gl_model.proofs.Words.{SameBelow, Settled, SettledWithin, Shape, shape_in, shape_of, shed, slots, Some, some_given, some_is, some_no_node, split}
pub use Rattle.gl_model.proofs.Words.{State, status_in, status_of, stays, stripped, subst, suc, sym, test_fails, Told, told, told_but, told_from, true}
pub use Rattle.gl_model.proofs.Words.{true≢false, Txn, Waiter, waiting_test, waits_at, waits_for, WaitSettles, wanted, with_grant, with_graph, with_key}
pub use Rattle.gl_model.proofs.Words.{with_parents, without_node, without_wait, woken, zero, ℕ}
pub use Rattle.gl_model.proofs.law.Effects.{eff_s_route, read_on_eff, ReadOn}
pub use Rattle.gl_model.proofs.law.Lock.{may_lock}
pub use Rattle.gl_model.proofs.law.Searches.{GraphStep}
pub use Rattle.gl_model.proofs.law.Takes.{empty-lawful}
pub use Rattle.gl_model.proofs.telling.Follows.{Follows, follows_trans, GrantedTo, SameGrants, WaitsWell}
pub use Rattle.gl_model.specs.Calls.{accepted_once, begun_since, dropped, free_slot, freed_among, goes_with, joining_age, Locks, none_among}
pub use Rattle.gl_model.specs.Lawful.{EffS, is_at_least_effect}
pub use Rattle.gl_model.specs.State.{lives}
pub use Rattle.gl_model.specs.declared.answers.Detect.{Detect}
pub use Rattle.gl_model.specs.declared.answers.Detect.TheVariants.{AtBlock, ByWatcher}
pub use Rattle.gl_model.specs.declared.answers.Effect.{Effect}
pub use Rattle.gl_model.specs.declared.answers.Notice.{Notice}
pub use Rattle.gl_model.specs.declared.txn.Status.{Status}
pub use Rattle.gl_model.specs.declared.txn.Status.TheVariants.{Active, Condemned, Waiting}
pub use Rattle.gl_model.specs.declared.txn.TxnId.{TxnId}
pub use Rattle.gl_steps.specs.Promises.{Adopts, ChangesIdleRows, Forgets, is_grant_to, is_of_rows, names, same_txn}
pub use Rattle.gl_steps.specs.Step.{Accepts, Answers, Goes, lock_answer, query_answer, Run, Step, Unchanged}
pub use Rattle.gl_steps.specs.Tests.{may_lack_memory, refusal_of, tests_of, worn}
pub use Rattle.gl_steps.specs.declared.command.Answer.{Answer}
pub use Rattle.gl_steps.specs.declared.command.Command.{Command}
