-- The words that proofs use: of the definitions, of the crates below, and of std, passed on from one place.
-- No lemma of this crate is among them, so that a change of one is read again only where it is cited.
pub use Rattle.std.proofs.Common.{◌&&◌, ◌+◌, ◌<◌, ◌==◌, [], ◌||◌, ◌↔◌, ◌∙◌, ◌∷◌, ◌≡◌, ◌≢◌, ◌≤◌, ◌⊎◌, ⊎_elim, ap, arith, Bool, false, get_or, IfSome, inl, inr}
pub use Rattle.std.proofs.Common.{IsTrue, length, List, nat_lt, None, not, Option, refl, set, Some, subst, sym, true, ℕ}
pub use Rattle.std.proofs.lemmas.Bool.{and_from, and_parts, cases_eq, cases_lt, false_from_ne_true}
pub use Rattle.std.proofs.lemmas.Bool.Decides.{nat_tests}
pub use Rattle.std.proofs.lemmas.List.{get_or-set_other, get_or-set_same, length-replicate, length-set}
pub use Rattle.gl_slots.specs.Limit.{most_slots}
pub use Rattle.gl_slots.specs.Slots.{has_bit, has_slot, no_slots, number_of}
pub use Rattle.gl_slots.specs.declared.slots.Slots.{Slots}
pub use Rattle.gl_waits.specs.Boards.{board_edge, row_edge}
pub use Rattle.gl_waits.specs.Victims.{IsCandidate}
pub use Rattle.gl_waits.specs.Waits.{is_earlier, IsFreeing, IsLowestLatest, IsLowestYoungest, IsOnCycle, IsOnCycleOf, IsOnNoCycle, IsWalk, IsYoungest, Reaches}
pub use Rattle.gl_waits.specs.Waits.{waits_of, without}
pub use Rattle.gl_waits.specs.declared.victims.Victims.{Victims}
