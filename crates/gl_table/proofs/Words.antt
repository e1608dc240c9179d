-- The words that proofs use: of the definitions, of the crates below, and of std, passed on from one place.
-- No lemma of this crate is among them, so that a change of one is read again only where it is cited.
pub use Rattle.std.proofs.Common.{◌∙◌, ⊎_elim, add-one, ap, ap₂, arith, drop-cons, inl, inr, length-set, refl, rules, set, subst, sym}
pub use Rattle.std.proofs.Math.Bool.{and-false, and-not_self, and-true, or-false, or-true, or_comm}
pub use Rattle.std.proofs.Math.Path.{fun_ext}
pub use Rattle.std.proofs.Math.Seq.{map-set_same}
pub use Rattle.std.proofs.lemmas.Bool.{cases_eq, cases_lt, not-false, not-true}
pub use Rattle.std.proofs.lemmas.Bool.Decides.{nat_tests}
pub use Rattle.std.proofs.lemmas.Grind.{common_steps, elements}
pub use Rattle.std.proofs.lemmas.List.{get_or-replicate, get_or-set_other, get_or-set_same, get_or_past, length-map, length-replicate, length-take}
pub use Rattle.std.proofs.lemmas.List.{length-take-le, nil_from_length}
pub use Rattle.std.proofs.lemmas.List.Folds.{list_any_at, list_any_more}
pub use Rattle.std.proofs.lemmas.List.FromFn.{fill_by_all}
pub use Rattle.std.proofs.lemmas.List.Quantifiers.{position-Some}
pub use Rattle.std.proofs.lemmas.List.Sorted.{IsPartitionPoint-from_clause}
pub use Rattle.std.proofs.lemmas.List.Sums.{count_by-le-length, sum_by-cons}
pub use Rattle.std.proofs.lemmas.Map.Entries.{lookup_from_place}
pub use Rattle.std.proofs.lemmas.Option.{gets, slice_get-get_or, slice_get-map, slice_get_past}
pub use Rattle.std.specs.List.{count_by, filter, find, insert, list_all, list_any, position_or_len, range_with_len}
unfoldable pub use Rattle.std.specs.List.{IsDistinct}
pub use Rattle.std.specs.Map.{keys_of, lookup}
pub use Rattle.std.specs.Option.{option_copied, option_map, option_map_or}
pub use Rattle.std.specs.Prelude.{◌&&◌, ◌+◌, ◌++◌, ◌-◌, ◌<◌, ◌==◌, [], ◌^◌, ◌||◌, ◌↔◌, ◌∷◌, ◌≡◌, ◌≢◌, ◌≤◌, ◌⊎◌, ⊤, Bool, cond, drop, Err, false, get_or, IfNone}
pub use Rattle.std.specs.Prelude.{IfOk, IfSome, if◌then◌else◌, is_none, is_ok, is_some, IsTrue, length, List, map, nat_lt, None, not, Ok, OnErr, OnOk, Option}
pub use Rattle.std.specs.Prelude.{position, replicate, Result, slice_get, slice_index_or, slice_set, Some, suc, take, true, unwrap_or, zero, ℕ}
pub use Rattle.std.specs.Vec.{with_item}
pub use Rattle.arrayvec.proofs.ArrayVecLemmas.{filter-from_retain}
pub use Rattle.indexmap.specs.IndexMap.{IsUnique, keys, spare, swap_remove_entry}
pub use Rattle.gl_modes.proofs.ModeLemmas.{at_least-not_NL, NL-compatible, not_NL, same_mode-equal, supremum-not_NL}
pub use Rattle.gl_modes.proofs.NodeLemmas.{same_node-equal, same_node-from_equal, same_node-refl, same_node-sym}
pub use Rattle.gl_modes.proofs.Words.{and_both, both, cases_of, clash, no, none_some, not_true, number_other, number_same, or_elim, or_left, or_right}
pub use Rattle.gl_modes.proofs.Words.{other_number, same_number, some_is, split}
pub use Rattle.gl_modes.specs.Modes.{are_compatible, is_at_least, same_mode, supremum}
pub use Rattle.gl_modes.specs.Nodes.{same_node}
pub use Rattle.gl_modes.specs.declared.mode.Mode.{Mode}
pub use Rattle.gl_modes.specs.declared.mode.Mode.TheVariants.{IS, IX, NL, S, X}
pub use Rattle.gl_modes.specs.declared.node.NodeId.{NodeId}
pub use Rattle.gl_modes.specs.declared.refusal.Refusal.{Refusal}
pub use Rattle.gl_slots.specs.Limit.{most_slots}
pub use Rattle.gl_slots.specs.Slots.{Bits, bits_of, has_bit, has_slot, HasNoSlot, IsLowest, no_bits, number_of}
pub use Rattle.gl_slots.specs.declared.slots.Slots.{Slots}
pub use Rattle.gl_waits.proofs.VictimLemmas.{candidate-on_cycle}
pub use Rattle.gl_waits.specs.Victims.{IsCandidate}
pub use Rattle.gl_waits.specs.Waits.{IsLowestLatest, IsOnCycleOf, IsOnNoCycle, IsWalk, Reaches}
pub use Rattle.gl_waits.specs.declared.board.Board.{Board}
pub use Rattle.gl_waits.specs.declared.victims.Victims.{Victims}
pub use Rattle.gl_graph.proofs.Beside.{any_counted}
pub use Rattle.gl_graph.proofs.Climb.{lent_at, never}
pub use Rattle.gl_graph.proofs.Counts.{count_cons, count_none, count_same, nodes_live}
pub use Rattle.gl_graph.proofs.FirstOf.{passed_then, refused_first}
pub use Rattle.gl_graph.proofs.KindRules.{parent_plain, rec_not_plain}
pub use Rattle.gl_graph.proofs.Left.{count_there}
pub use Rattle.gl_graph.proofs.Look.{live_node}
pub use Rattle.gl_graph.proofs.Removed.{rec_live, was_there}
pub use Rattle.gl_graph.proofs.RouteLengths.{listed, node_equivalence}
pub use Rattle.gl_graph.proofs.Unrefused.{IsRoomyRecord, not_false, not_refused, or_no, record_unrefused, test_fails, verdict_ok}
pub use Rattle.gl_graph.proofs.Words.{is_in_use, reindex_refusal}
pub use Rattle.gl_graph.specs.Changes.{IsAdopted, IsBorn, IsIndexBorn, rekeyed, rekeyed_parents, with_parents, without_node}
pub use Rattle.gl_graph.specs.Graph.{Graph, is_child, is_live, Node, node_at, node_count, nodes, parents_in, parents_of, record_parents, shape_of, with_key}
pub use Rattle.gl_graph.specs.Lawful.{AreInnerParents, IsLawfulGraph}
pub use Rattle.gl_graph.specs.Refusals.{file_refusal, first_cycle, first_refusal, index_refusal, inner_refusal, max_count, record_refusal, Refuses}
pub use Rattle.gl_graph.specs.Refusals.{some_no_node, verdict, where_true}
pub use Rattle.gl_graph.specs.Seen.{with_all}
pub use Rattle.gl_graph.specs.Shapes.{File, Inner, is_movable_shape, is_record_shape, least_parents, Rec}
pub use Rattle.gl_graph.specs.View.{graph_of, View}
pub use Rattle.gl_header.proofs.Fits.{fits-limit}
pub use Rattle.gl_header.proofs.Fronts.{front-limit}
pub use Rattle.gl_header.proofs.GroupOf.{group_of-limit}
pub use Rattle.gl_header.proofs.Ranges.{range-from_each}
pub use Rattle.gl_header.proofs.Unused.{unused-nobody}
pub use Rattle.gl_header.specs.Header.{after_grants, enters, fits, front, group_of, holds, is_ahead, is_among_waiters, is_empty, is_waiter, IsWithin, Members}
pub use Rattle.gl_header.specs.Header.{placed, Waiter, with_mode, without_waiter}
pub use Rattle.gl_header.specs.Headers.{AreDistinct, AreHeaders, Entries, HasItsKey, header_at, header_or_new, held_of, is_granted_at, IsFreeKey, IsOneHolder}
pub use Rattle.gl_header.specs.Headers.{members_at, queue_of, with_members, with_waiters}
pub use Rattle.gl_header.specs.Sound.{is_distinct}
pub use Rattle.gl_header.specs.State.{HeaderState, IsLawfulHeader, members_of, slot_limit}
pub use Rattle.gl_header.specs.declared.header.Asked.{Asked}
pub use Rattle.gl_lock_lists.proofs.Children.{nl_is}
pub use Rattle.gl_lock_lists.proofs.Words.{get_or_from_slice_get, is_some-lookup, slice_get_within, take_all}
pub use Rattle.gl_lock_lists.specs.Lists.{count_in, count_of, covered_in, entry_of, HasRoom, is_listed, loose_of, mode_in, mode_of, NoneMarkedFrom, unlisted}
pub use Rattle.gl_lock_lists.specs.declared.list.Entry.{Entry}
pub use Rattle.gl_lock_lists.specs.declared.list.LockList.{LockList}
pub use Rattle.gl_model.proofs.Words.{live_by, marked}
pub use Rattle.gl_model.proofs.law.Keeps.{txn_there, waiting_is, woken_waits}
pub use Rattle.gl_model.proofs.law.Lock.{granted-no_cycle, MayLock}
pub use Rattle.gl_model.proofs.law.Move.{Moves}
pub use Rattle.gl_model.proofs.law.Orderly.{lawful_orderly}
pub use Rattle.gl_model.proofs.law.Settle.{wait_is}
pub use Rattle.gl_model.proofs.queues.Counts.{children_down, children_few}
pub use Rattle.gl_model.proofs.queues.Edits.{out_of_without}
pub use Rattle.gl_model.proofs.queues.Fronts.{granted_waits}
pub use Rattle.gl_model.proofs.queues.Waiters.{grants_other, if-false, if-true}
pub use Rattle.gl_model.proofs.queues.Walks.{same}
pub use Rattle.gl_model.proofs.telling.Between.{active_untold, nobody_told}
pub use Rattle.gl_model.proofs.telling.Fronts.{front_stands, in_no_queue, stands_other, stands_there, waiters_below, waits_there, well_granted, woken_front}
pub use Rattle.gl_model.proofs.telling.Lists.{told_is}
pub use Rattle.gl_model.specs.Calls.{answered, asked_at, bad_mode, begin_tests, begun_again, begun_at, cancelled, child_held, commit_tests, covered_children}
pub use Rattle.gl_model.specs.Calls.{deleted, departed, enqueued, enters_at, first_not_ix, first_of_all, free_slot, freed, freed_among, freed_unless, goes_with}
pub use Rattle.gl_model.specs.Calls.{GoesBack, granted, held_child, held_children, hinders_at, holds_child, is_covered, is_idle, lock_tests, locked_as}
pub use Rattle.gl_model.specs.Calls.{moved_to, need_exclusive, need_new_parents, need_parents, none_among, none_but, not_held, RefusesOnly, released}
pub use Rattle.gl_model.specs.Calls.{rule_refusal, shed, some_given, stays, too_many_txns, try_tests, unlock_tests, unlocked, Unlocks, WaitSettles, wanted}
pub use Rattle.gl_model.specs.Calls.{would_block}
pub use Rattle.gl_model.specs.Deadlocks.{IsDeadlock, IsStuck, LocksKeeping, SettlesKeeping, SettlesKeepingWithin, WaitSettlesKeeping}
pub use Rattle.gl_model.specs.Lawful.{effect_on, HasNoConflict, is_read, IsLawful, IsOrderly, WaitWell}
pub use Rattle.gl_model.specs.State.{age_in, age_of, blocks, choosing, condemned, empty_state, front_at, granted_at, HasNoCycle, intends_over, is_wait}
pub use Rattle.gl_model.specs.State.{is_waiting_at, is_write, IsVictim, lives, members, no_parents, pumped, restatus, Settled, SettledWithin, since_in, slots}
pub use Rattle.gl_model.specs.State.{State, status_in, status_of, Txn, waits_at, waits_for, with_grant, with_graph, with_txn, without_wait, woken}
pub use Rattle.gl_model.specs.Tellings.{addressed, children_that, grant_notice, IsBetween, IsBySlot, IsTold, mode_given, notice_of, notices_in, stripped, Told}
pub use Rattle.gl_model.specs.Tellings.{told, told_but, told_from, told_to, WakesTold}
pub use Rattle.gl_model.specs.declared.answers.Detect.{Detect}
pub use Rattle.gl_model.specs.declared.answers.Detect.TheVariants.{AtBlock, ByWatcher}
pub use Rattle.gl_model.specs.declared.answers.LockRow.{LockRow}
pub use Rattle.gl_model.specs.declared.answers.Notice.{Notice}
pub use Rattle.gl_model.specs.declared.deadlock.Deadlock.{Deadlock}
pub use Rattle.gl_model.specs.declared.deadlock.Stuck.{Stuck}
pub use Rattle.gl_model.specs.declared.txn.Status.{Status}
pub use Rattle.gl_model.specs.declared.txn.Status.TheVariants.{Active, Condemned, Waiting}
pub use Rattle.gl_model.specs.declared.txn.TxnId.{TxnId}
pub use Rattle.gl_table.specs.Keeping.{CommitsKeeping}
pub use Rattle.gl_table.specs.Orders.{KeepsPlaces, OnlyLoses}
pub use Rattle.gl_table.specs.Table.{AreRowsOf, board_of, entry_at, is_row_of, KeepsOrders, ListsAgree, nodes_of, row_of, rows_of, shown, StandOnce, state_of}
pub use Rattle.gl_table.specs.Table.{TableView}
pub use Rattle.gl_table.specs.declared.ledger.Ledger.{Ledger}
pub use Rattle.gl_table.specs.declared.locks.Locks.{Locks}
pub use Rattle.gl_table.specs.declared.table.Table.TheInside.{Inside}
pub use Rattle.gl_table.specs.declared.txn_entry.TxnEntry.{TxnEntry}
pub use Rattle.gl_table.specs.inside.Ledger.{Agrees, AreExact, AreNew, AreSound, CountsHeld, hinders_by, KeepsLocks, state_in, state_on}
pub use Rattle.gl_table.specs.inside.Locks.{state_at}
pub use Rattle.gl_table.specs.inside.Slots.{AreKept, as_held, as_left, Books, books_of, by_list, CanEnd, CanHold, CanStrike, CanTell, childless_in, counted_by}
pub use Rattle.gl_table.specs.inside.Slots.{HasRoomAt, held_by, IsShedding, IsWritten, KeepsLists, LeavesPlace, listed_by, ListsKeepPlaces, ListsLose, nodes_by}
pub use Rattle.gl_table.specs.inside.Slots.{room_by, Strikes, TellsAll, TellsOthers, unlisted_by, WaitsEnd, Wakes, WakesLists, Writing}
pub use Rattle.gl_table.specs.inside.Sound.{IsSafe, IsSound, view_of}
pub use Rattle.gl_table.specs.inside.Steps.{adds_to, AreAgreed, AreExactFor, AreShutOut, CanAsk, CanEndAt, CanRecount, CanTellWaiters, HasAsked, HasGrant}
pub use Rattle.gl_table.specs.inside.Steps.{HasMoved, IsBranchLeftTo, IsFresh, IsLeftTo, IsPrepared, IsReleased, IsTurnedAway, MayAct, Recounts, TellsGone}
pub use Rattle.gl_table.specs.inside.TxnEntries.{is_free, is_free_at, lives_at, txn_in, TxnEntryList, txns_of}
pub use Rattle.gl_table.specs.inside.TxnEntrySets.{AreTxnEntries}
unfoldable pub use Rattle.gl_lock_lists.specs.Apart.{IsApart}
