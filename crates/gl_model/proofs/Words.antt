-- The words that proofs use: of the definitions, of the crates below, and of std, passed on from one place.
-- No lemma of this crate is among them, so that a change of one is read again only where it is cited.
pub use mathlib.Core.Bool.{true≢false}
pub use Rattle.std.proofs.Common.{◌∙◌, ⊎_elim, ap, ap₂, arith, inl, inr, length-append, refl, rules, subst, sym}
pub use Rattle.std.proofs.Math.Bool.{or-true}
pub use Rattle.std.proofs.Math.Path.{fun_ext}
pub use Rattle.std.proofs.Math.Seq.{drop-nil}
pub use Rattle.std.proofs.lemmas.Bool.{not-true}
pub use Rattle.std.proofs.lemmas.Bool.Decides.{nat_tests}
pub use Rattle.std.proofs.lemmas.List.{append-nil, take_more}
pub use Rattle.std.proofs.lemmas.List.Elements.{All-nil, All-push, All-same, filter-append}
pub use Rattle.std.proofs.lemmas.List.Folds.{list_all_at, list_any-append, list_any_at}
pub use Rattle.std.proofs.lemmas.List.FromFn.{length-range_with_len}
pub use Rattle.std.proofs.lemmas.List.Quantifiers.{all_pairs_push}
pub use Rattle.std.proofs.lemmas.List.Sorted.{IsPartitionedBy-ltb}
pub use Rattle.std.proofs.lemmas.List.Sums.{count_by-le-length, prefix_len_is, sum_by-append}
pub use Rattle.std.proofs.lemmas.Map.Made.{length-le_from_is_member}
pub use Rattle.std.specs.Cmp.{IsEquivalence}
pub use Rattle.std.specs.List.{AllByRecursion, AllPairs, before_first, cons_option, count_by, filter, filter_map, find, insert, list_all, list_any, prefix_len}
pub use Rattle.std.specs.List.{range_with_len}
unfoldable pub use Rattle.std.specs.List.{IsDistinct}
pub use Rattle.std.specs.List.Sorted.{IsNonDecreasingBy, IsPartitionedBy, IsPartitionPoint}
pub use Rattle.std.specs.Prelude.{◌&&◌, ◌+◌, ◌++◌, ◌<◌, ◌==◌, [], ◌||◌, ◌↔◌, ◌∷◌, ◌≡◌, ◌≢◌, ◌≤◌, ◌⊎◌, ⊤, Bool, cond, drop, false, get_or, if◌then◌else◌}
pub use Rattle.std.specs.Prelude.{is_none, is_some, IsTrue, length, List, nat_le, nat_lt, None, not, Option, slice_get, Some, suc, take, true, zero, ℕ}
pub use Rattle.gl_modes.proofs.ModeLemmas.{at_least-refl, at_least-transitive, compatible-symmetric, NL-compatible, same_mode-refl, supremum-above}
pub use Rattle.gl_modes.proofs.ModeLemmas.{supremum-not_NL}
pub use Rattle.gl_modes.proofs.NodeLemmas.{node_is, same_node-differ, same_node-equal, same_node-from_equal, same_node-other, same_node-refl, same_node-sym}
pub use Rattle.gl_modes.proofs.Words.{and_both, both, cases_of, clash, no, none_some, not_true, number_other, number_same, or_elim, or_left, or_right}
pub use Rattle.gl_modes.proofs.Words.{other_number, same_number, some_is, split}
pub use Rattle.gl_modes.specs.Modes.{are_compatible, is_at_least, same_mode, supremum}
pub use Rattle.gl_modes.specs.Nodes.{same_node}
pub use Rattle.gl_modes.specs.declared.mode.Mode.{Mode}
pub use Rattle.gl_modes.specs.declared.mode.Mode.TheVariants.{IS, IX, NL, S, X}
pub use Rattle.gl_modes.specs.declared.node.NodeId.{NodeId}
pub use Rattle.gl_modes.specs.declared.refusal.Refusal.{Refusal}
pub use Rattle.gl_slots.specs.Slots.{has_slot, HasNoSlot, IsLowest}
pub use Rattle.gl_slots.specs.declared.slots.Slots.{Slots}
pub use Rattle.gl_waits.proofs.CycleLemmas.{at_one-no_cycle, less-no_cycle}
pub use Rattle.gl_waits.proofs.Earlier.{earlier-itself, earlier-not_back, earlier-over, latest-from, latest-none_later, neither_earlier}
pub use Rattle.gl_waits.proofs.VictimLemmas.{candidate-on_cycle, freed-fewer, freeing-itself}
pub use Rattle.gl_waits.proofs.WalkLemmas.{no_cycle-reaches, no_step-no_cycle, on_cycle-reaches, reaches_join, waits_of-less}
pub use Rattle.gl_waits.proofs.Words.{most_slots}
pub use Rattle.gl_waits.specs.Victims.{IsCandidate}
pub use Rattle.gl_waits.specs.Waits.{is_earlier, IsLatest, IsOnCycleOf, IsOnNoCycle, IsWalk, Reaches, without}
pub use Rattle.gl_waits.specs.declared.victims.Victims.{Victims}
pub use Rattle.gl_waits.specs.declared.victims.Victims.TheVariants.{Fewest, Youngest}
pub use Rattle.gl_graph.proofs.Born.{new_id, new_node, none_above, old_below, old_same}
pub use Rattle.gl_graph.proofs.Changed.{at_here, at_other, IsAlike, live_same, nodes_same, rec_same}
pub use Rattle.gl_graph.proofs.Climb.{among, climb_ends, climb_meets, climb_more, first_more, IsClimb, item_among, Leads, never, never_stops, next_of}
pub use Rattle.gl_graph.proofs.Counts.{count_cons, count_none, count_same, new_ids, nodes_grown, nodes_live}
pub use Rattle.gl_graph.proofs.Distinct.{indexes_distinct, nodes_distinct}
pub use Rattle.gl_graph.proofs.KindRules.{interval_is, is_plain, parent_plain, rec_not_plain}
pub use Rattle.gl_graph.proofs.Look.{all_at, all_filter, live_node, there_is}
pub use Rattle.gl_graph.proofs.Marked.{marked_lawful, marked_live, marked_nodes, marked_parents, marked_record}
pub use Rattle.gl_graph.proofs.Moved.{any_found, file_of_record, movable_alike, move_lawful, rec_alike, rekey_lawful, rekeyed_is, some_at, with_parents_is}
pub use Rattle.gl_graph.proofs.NewIndex.{index_lawful}
pub use Rattle.gl_graph.proofs.NewNodes.{file_lawful, inner_lawful, record_lawful}
pub use Rattle.gl_graph.proofs.RecordParents.{record_shape}
pub use Rattle.gl_graph.proofs.Removed.{removed_lawful, stays_there, was_there}
pub use Rattle.gl_graph.proofs.RouteLengths.{listed, live_end, route_short}
pub use Rattle.gl_graph.proofs.SoundMoved.{inner_live}
pub use Rattle.gl_graph.proofs.Unrefused.{index_unrefused, no_cycle, not_false, not_refused, or_no, parents_unrefused, record_unrefused, test_fails}
pub use Rattle.gl_graph.proofs.Words.{◌^◌}
pub use Rattle.gl_graph.specs.Changes.{born_nodes, interval_nodes, IsAdopted, IsBorn, IsIndexBorn, marked, new_index, rekeyed, rekeyed_keys, rekeyed_parents}
pub use Rattle.gl_graph.specs.Changes.{with_node}
pub use Rattle.gl_graph.specs.Changes.{with_parents, without_node}
pub use Rattle.gl_graph.specs.Graph.{first_in, first_parent, Graph, indexes_of, interval_of, intervals_of, is_child, is_live, Node, node_at, node_count, nodes}
pub use Rattle.gl_graph.specs.Graph.{parents_in, parents_of, record_parents, shape_in, shape_of, with_key}
pub use Rattle.gl_graph.specs.Lawful.{are_distinct, AreInnerParents, HasShape, IsLawfulGraph}
pub use Rattle.gl_graph.specs.Refusals.{file_refusal, first_cycle, first_refusal, index_refusal, inner_refusal, record_refusal, some_no_node}
pub use Rattle.gl_graph.specs.Routes.{IsRoute}
pub use Rattle.gl_graph.specs.Seen.{with_all}
pub use Rattle.gl_graph.specs.Shapes.{File, Index, Inner, Interval, is_file_shape, is_index_of_shape, is_movable_shape, is_record_shape, keys_in, least_parents}
pub use Rattle.gl_graph.specs.Shapes.{Rec, Shape}
pub use Rattle.gl_header.proofs.Fits.{enters-limit, fits-all, fits-from_all}
pub use Rattle.gl_header.proofs.Fronts.{front-after_front, front-and_rest, front-waited, pumped-compatible}
pub use Rattle.gl_header.proofs.Ranges.{differ-false, range-each, range-from_each}
pub use Rattle.gl_header.proofs.Unused.{empty-list, nobody_holds-all}
pub use Rattle.gl_header.specs.Header.{after_grants, AreBelow, enters, fits, front, holds, is_ahead, is_among_waiters, is_empty, is_waiter, IsCompatible}
pub use Rattle.gl_header.specs.Header.{IsWithin, Members, placed, pumped_queue, Waiter, with_mode, without_waiter}
pub use Rattle.gl_header.specs.Sound.{is_distinct}
pub use Rattle.gl_header.specs.State.{HeaderState, IsLawfulHeader, slot_limit}
pub use Rattle.gl_model.specs.Calls.{active_on, asked_by_escalation, bad_mode, begun_at, child_held, condemned_test, deleted, enqueued, enters_at}
pub use Rattle.gl_model.specs.Calls.{first_not_ix, first_of_all, freed, freed_unless, granted, held_child, holds_x, holds_x_on_all, is_covered, is_idle, Locks}
pub use Rattle.gl_model.specs.Calls.{moved_to, need_exclusive, need_new_parents, need_parents, no_txn, raised, released, rule_refusal, shed, some_given, stays}
pub use Rattle.gl_model.specs.Calls.{unlocked, waiting_test, WaitSettles, wanted}
pub use Rattle.gl_model.specs.Deadlocks.{has_row, IsDeadlock, IsStuck, name_at, RowsLeadOn, SettlesKeeping, SettlesKeepingWithin, VictimHasRow}
pub use Rattle.gl_model.specs.Lawful.{CondemningFrees, CutSetLaw, eff_s, eff_x, effective, EffX, EmptyHasNoCycle, is_read, IsLawful, IsOrderly, LawfulCutSet}
pub use Rattle.gl_model.specs.Lawful.{LawfulNoConflict, ModeFitsKind, NoConflictLaw, OneIsVictim, SameBelow, SettlingEnds, SettlingFrees, WaitWell}
pub use Rattle.gl_model.specs.State.{age_in, age_of, awake, blocks, choosing, condemned, empty_state, front_at, granted_at, HasNoCycle, intends, intends_over}
pub use Rattle.gl_model.specs.State.{is_wait, is_waiting_at, is_write, IsVictim, live_by, members, no_parents, pumped, restatus, Settled, SettledWithin}
pub use Rattle.gl_model.specs.State.{since_in, since_of, slots, State, status_in, status_of, Txn, waits_at, waits_for, with_grant, with_graph, with_txn}
pub use Rattle.gl_model.specs.State.{without_wait, woken}
pub use Rattle.gl_model.specs.Tellings.{addressed, children_that, grant_notice, is_rising, IsBetween, IsBySlot, mode_given, notice_of, notices_in, stripped}
pub use Rattle.gl_model.specs.Tellings.{Told, told, told_but, told_from, told_to, WakesTold}
pub use Rattle.gl_model.specs.declared.answers.Detect.{Detect}
pub use Rattle.gl_model.specs.declared.answers.Detect.TheVariants.{AtBlock, ByWatcher}
pub use Rattle.gl_model.specs.declared.answers.Notice.{Notice}
pub use Rattle.gl_model.specs.declared.answers.Notice.TheVariants.{Victim}
pub use Rattle.gl_model.specs.declared.deadlock.Deadlock.{Deadlock}
pub use Rattle.gl_model.specs.declared.deadlock.Stuck.{Stuck}
pub use Rattle.gl_model.specs.declared.txn.Status.{Status}
pub use Rattle.gl_model.specs.declared.txn.Status.TheVariants.{Active, Condemned, Waiting}
pub use Rattle.gl_model.specs.declared.txn.TxnId.{TxnId}
