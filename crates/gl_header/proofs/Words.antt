-- The words that proofs use: of the definitions, of the crates below, and of std, passed on from one place.
-- No lemma of this crate is among them, so that a change of one is read again only where it is cited.
pub use Rattle.std.proofs.Common.{◌&&◌, ◌+◌, ◌++◌, ◌<◌, [], ◌||◌, ◌∙◌, ◌∷◌, ◌≡◌, ◌≢◌, ◌≤◌, ⊎_elim, ap, ap₂, arith, Bool, cond, drop, false, inl, inr, length}
pub use Rattle.std.proofs.Common.{List, ltb, None, not, refl, subst, suc, sym, take, true, zero, ℕ}
pub use Rattle.std.proofs.Math.Path.{fun_ext}
pub use Rattle.std.proofs.lemmas.Bool.{cases_eq, cases_lt}
pub use Rattle.std.proofs.lemmas.Bool.Decides.{nat_tests}
pub use Rattle.std.proofs.lemmas.List.{get_or_past}
pub use Rattle.std.specs.List.{AllByRecursion, filter, insert, list_all, prefix_len, range_with_len}
pub use Rattle.std.specs.Prelude.{◌==◌, ◌⊎◌, if◌then◌else◌, Option, slice_index_or, slice_set, Some}
pub use denote.Enum.Bare.{sameb}
pub use Rattle.gl_modes.proofs.ModeLemmas.{NL-compatible, not_NL, same_mode-equal, supremum-above, supremum-not_NL}
pub use Rattle.gl_modes.proofs.NodeLemmas.{same_node-equal, same_node-sym}
pub use Rattle.gl_modes.proofs.Words.{and_both, cases_of, clash, not_true, number_same, split}
pub use Rattle.gl_modes.specs.Modes.{are_compatible, is_at_least, same_mode, supremum}
pub use Rattle.gl_modes.specs.Nodes.{same_node}
pub use Rattle.gl_modes.specs.contracts.mode.Mode.{the_type}
pub use Rattle.gl_modes.specs.declared.mode.Mode.{Mode}
pub use Rattle.gl_modes.specs.declared.mode.Mode.TheVariants.{IS, IX, NL, S, SIX, X}
pub use Rattle.gl_modes.specs.declared.node.NodeId.{NodeId}
pub use Rattle.gl_slots.specs.Limit.{most_slots}
pub use Rattle.gl_slots.specs.Slots.{has_none, has_slot}
pub use Rattle.gl_header.specs.Answers.{asked, asked_members, asked_queue}
pub use Rattle.gl_header.specs.Entries.{without}
pub use Rattle.gl_header.specs.Groups.{Grouped, held_by, HoldsTwoModes, IsGroup, nobody}
pub use Rattle.gl_header.specs.Header.{after_grants, AreBelow, enters, Fits, fits, front, group_of, holds, is_ahead, is_among_waiters, is_empty, is_waiter}
pub use Rattle.gl_header.specs.Header.{IsCompatible, IsWithin, Members, placed, pumped_members, pumped_queue, Waiter, wanted_by, with_mode, without_waiter}
pub use Rattle.gl_header.specs.Headers.{AreDistinct, AreHeaders, Entries, header_at, header_or_new, HeadersState, held_of, members_at, queue_of, with_members}
pub use Rattle.gl_header.specs.Headers.{with_waiters}
pub use Rattle.gl_header.specs.Places.{ArePlaces, entries_in, header_in, header_of, IsOf, IsPlace, members_by, place_at, stands}
pub use Rattle.gl_header.specs.Sound.{all_new, all_rise, is_distinct, is_entry, is_ordered, is_stuck, IsLawful, IsOrderly, placed_in, state_of}
pub use Rattle.gl_header.specs.State.{HeaderState, held_by_one, is_granted, is_unused, IsLawfulHeader, members_of, nobody_holds, slot_limit, unused_header}
pub use Rattle.gl_header.specs.State.{wanted}
pub use Rattle.gl_header.specs.declared.group.Group.{Group}
pub use Rattle.gl_header.specs.declared.header.Asked.TheVariants.{Granted}
pub use Rattle.gl_header.specs.declared.places.Place.{Place}
pub use Rattle.gl_header.specs.declared.places.Place.TheVariants.{Free, Held}
pub use Rattle.gl_header.specs.declared.places.Shared.{Shared}
