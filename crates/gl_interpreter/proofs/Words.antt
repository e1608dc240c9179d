-- The words that proofs use: of the definitions, of the crates below, and of std, passed on from one place.
-- No lemma of this crate is among them, so that a change of one is read again only where it is cited.
pub use Rattle.std.proofs.Common.{flat_map, length-drop, take-append-drop, true≢false}
pub use Rattle.std.proofs.Math.Seq.{take-add}
pub use Rattle.std.proofs.lemmas.Bool.Decides.{Decides-eqb}
pub use Rattle.std.proofs.lemmas.List.{flat_map_more, get_or-map, get_or_default, take_rest}
pub use Rattle.std.specs.Io.KnownBytes.{Appends, Consumes}
pub use Rattle.std.specs.Prelude.{codes}
pub use Rattle.std.specs.Str.{bytes_eq}
pub use Rattle.gl_slots.specs.Slots.{no_slots, slots_of}
pub use Rattle.gl_slots.specs.declared.slots.Iter.{Iter}
pub use Rattle.gl_graph.proofs.Words.{append_assoc}
pub use Rattle.gl_model.proofs.Words.{append-nil, take_more}
pub use Rattle.gl_model.specs.Calls.{group_tests, living_tests}
pub use Rattle.gl_table.proofs.Words.{◌+◌, ◌++◌, ◌-◌, ◌<◌, [], ◌||◌, ◌∙◌, ◌∷◌, ◌≡◌, ◌≢◌, ◌≤◌, ap, ap₂, AreRowsOf, arith, Bool, choosing, drop, empty_state, Err}
pub use Rattle.gl_table.proofs.Words.{false, first_refusal, fun_ext, get_or, holds, if◌then◌else◌, inl, inr, is_some, length, length-map, length-take, List}
pub use Rattle.gl_table.proofs.Words.{LockRow, map, members, nil_from_length, NL, NodeId, nodes_of, None, none_some, not, Ok, OnOk, Option, range_with_len}
pub use Rattle.gl_table.proofs.Words.{refl, Refusal, Result, rows_of, slice_get, Some, State, Stuck, subst, suc, sym, take, take_all, true, TxnId, zero, ℕ}
pub use Rattle.gl_table.specs.Table.{living_in}
pub use Rattle.gl_catalog.specs.Manager.{ManagerView, state_of}
pub use Rattle.gl_script.proofs.Splitting.{other_test, same_test}
pub use Rattle.gl_script.specs.Grammar.{Command, Plain, Text}
pub use Rattle.gl_script.specs.Views.{command_of, node_of}
pub use Rattle.gl_script.specs.declared.form.Version.{Version}
pub use Rattle.gl_script.specs.declared.reads.Used.{Used}
pub use Rattle.gl_interpreter.specs.Held.{Handed, Hands, Holds}
pub use Rattle.gl_interpreter.specs.Printed.{first_unused, refusal_line, some_unused, told_line}
pub use Rattle.gl_interpreter.specs.Report.{Answers, Going, IsOpen, Opening, Opens, Prints, version_of}
pub use Rattle.gl_interpreter.specs.Rows.{blocker_row, deadlock_rows, holder_row, listed, lock_row, slots_where, stuck_rows, txn_row, wait_row, waiter_row}
pub use Rattle.gl_interpreter.specs.Script.{does_to_names, node_id, node_ids, node_named, Script}
pub use Rattle.gl_interpreter.specs.SoFar.{choices_now, choices_of, IsReadyWith, SoFar, stage_of, stage_with}
pub use Rattle.gl_interpreter.specs.Views.{names_of, script_of}
pub use Rattle.gl_interpreter.specs.declared.sink.Sink.{Sink}
