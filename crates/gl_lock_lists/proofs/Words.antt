-- The words that proofs use: of the definitions, of the crates below, and of std, passed on from one place.
-- No lemma of this crate is among them, so that a change of one is read again only where it is cited.
pub use Rattle.std.proofs.lemmas.Bool.{false≢true}
pub use Rattle.std.proofs.lemmas.List.{length-map, length-set, nil_from_length, take_more}
pub use Rattle.std.proofs.lemmas.Map.Made.{is_some-lookup}
pub use Rattle.std.proofs.lemmas.Option.{slice_get-map}
pub use Rattle.std.proofs.lemmas.Result.{IfOk-at_ok}
pub use Rattle.std.specs.List.{IsDistinct}
pub use Rattle.std.specs.Map.{keys_of, lookup}
pub use Rattle.std.specs.Option.{option_map_or}
pub use Rattle.std.specs.Prelude.{swap_remove}
pub use Rattle.indexmap.proofs.MapLemmas.{Found-position, Missing-position}
pub use Rattle.indexmap.proofs.RemoveLemmas.{Out, swap_out}
pub use Rattle.indexmap.specs.IndexMap.{index_of, insert_entry, keys, spare, with_value_at}
pub use Rattle.indexmap.specs.Layout.{hash_map, set_value_at}
pub use Rattle.gl_modes.specs.Modes.{is_at_least, same_mode}
pub use Rattle.gl_modes.specs.declared.mode.Mode.{Mode}
pub use Rattle.gl_modes.specs.declared.mode.Mode.TheVariants.{IX, NL}
pub use Rattle.gl_graph.proofs.Words.{◌&&◌, ◌+◌, ◌++◌, ◌-◌, ◌<◌, ◌==◌, [], ◌||◌, ◌∙◌, ◌∷◌, ◌≡◌, ◌≤◌, AllByRecursion, ap, ap₂, arith, Bool, cond, count_by, drop}
pub use Rattle.gl_graph.proofs.Words.{false, get_or, get_or_from_slice_get, graph_of, if◌then◌else◌, is_child, is_some, length, List, list_any, list_any_more}
pub use Rattle.gl_graph.proofs.Words.{nat_lt, nat_tests, NodeId, None, not, Option, option_map, position, refl, rules, same_node, same_node-equal, slice_get}
pub use Rattle.gl_graph.proofs.Words.{slice_get-get_or, slice_get_within, slice_set, Some, split, subst, suc, sym, take, take_all, true, zero, ℕ}
pub use Rattle.gl_lock_lists.specs.Lists.{count_in, count_of, covered_in, is_listed, loose_of, mode_in, mode_of}
pub use Rattle.gl_lock_lists.specs.declared.list.Entry.{Entry}
