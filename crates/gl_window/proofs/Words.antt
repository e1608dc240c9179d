-- The words that proofs use: of the definitions, of the crates below, and of std, passed on from one place.
-- No lemma of this crate is among them, so that a change of one is read again only where it is cited.
pub use mathlib.Core.List.{IsPrefix}
pub use Rattle.std.proofs.lemmas.Nat.{one_shl}
pub use Rattle.std.specs.Arc.{arc_value}
pub use Rattle.std.specs.Int.{bit_at}
pub use Rattle.gl_slots.specs.Limit.{most_slots}
pub use Rattle.gl_slots.specs.Slots.{has_none}
pub use Rattle.gl_model.proofs.Words.{length-append, true≢false}
pub use Rattle.gl_model.proofs.law.Keeps.{waiting_is}
pub use Rattle.gl_model.proofs.law.Orderly.{lawful_orderly}
pub use Rattle.gl_model.specs.Calls.{accepted_once}
pub use Rattle.gl_steps.specs.Promises.{NobodyWaits}
pub use Rattle.gl_steps.specs.Served.{leaves_waiting}
pub use Rattle.gl_steps.specs.Step.{Step}
pub use Rattle.gl_steps.specs.declared.command.Answer.{Answer}
pub use Rattle.gl_steps.specs.declared.command.Command.{Command}
pub use Rattle.gl_table.proofs.Words.{◌&&◌, ◌+◌, ◌++◌, ◌<◌, ◌==◌, [], ◌||◌, ◌∙◌, ◌∷◌, ◌≡◌, ◌≤◌, ◌⊎◌, ⊎_elim, Active, age_in, age_of, ap, are_compatible, arith}
pub use Rattle.gl_table.proofs.Words.{AtBlock, begun_at, blocks, Board, board_of, Bool, clash, Condemned, Detect, enters_at, false, Graph, has_slot, holds}
pub use Rattle.gl_table.proofs.Words.{if◌then◌else◌, inl, is_empty, is_some, is_wait, is_waiting_at, IsLawful, length, List, members, Mode, nat_tests, NL, no}
pub use Rattle.gl_table.proofs.Words.{NodeId, None, none_some, not, not-true, number_same, Option, refl, Refusal, rules, same_node, Slots, Some, split, State}
pub use Rattle.gl_table.proofs.Words.{Status, status_in, status_of, subst, suc, sym, Told, true, Txn, TxnId, unlocked, Waiting, waits_at, waits_for, wanted}
pub use Rattle.gl_table.proofs.Words.{with_grant, with_graph, zero, ℕ}
pub use Rattle.gl_catalog.specs.Counters.{grants}
pub use Rattle.gl_catalog.specs.Manager.{IsLawfulManager, ManagerView, state_of}
pub use Rattle.gl_window.specs.Boards.{AllFine, Ends, Fine, HasParties, last_epoch, Rising, ShowsWaits}
pub use Rattle.gl_window.specs.Strip.{Strip}
pub use Rattle.gl_window.specs.Tellings.{leaves_waits, spares_waits}
pub use Rattle.gl_window.specs.declared.seats.Sitter.{Sitter}
