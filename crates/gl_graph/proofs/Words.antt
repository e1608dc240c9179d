-- The words that proofs use: of the definitions, of the crates below, and of std, passed on from one place.
-- No lemma of this crate is among them, so that a change of one is read again only where it is cited.
pub use Rattle.std.proofs.Common.{ap, ap₂, arith, get_or, inl, inr, refl, rules, subst, sym, take_all, vec_capacity, zero-add, ⊎_elim, ◌∙◌}
pub use Rattle.std.proofs.Math.Bool.{and-false, or-false}
pub use Rattle.std.proofs.Math.Path.{fun_ext}
pub use Rattle.std.proofs.lemmas.Bool.{cases_eq, cases_lt, not-true}
pub use Rattle.std.proofs.lemmas.Bool.Decides.{nat_tests}
pub use Rattle.std.proofs.lemmas.List.{append-nil, append_assoc, drop_all, drop_more, length-append, take-append-le}
pub use Rattle.std.proofs.lemmas.List.Elements.{filter_map-append}
pub use Rattle.std.proofs.lemmas.List.Folds.{list_any-append, list_any_at, list_any_more}
pub use Rattle.std.proofs.lemmas.List.Sums.{count_by-le-length, sum_by-append, sum_by-cons}
pub use Rattle.std.proofs.lemmas.Option.{get_or_from_slice_get, slice_get-get_or, slice_get_past, slice_get_read, slice_get_within}
pub use Rattle.std.specs.Borrow.{Bor}
pub use Rattle.std.specs.Global.{Box}
pub use Rattle.std.specs.List.{AllByRecursion, cons_option, filter, filter_map, list_all, list_any, position_or_len, range_with_len}
pub use Rattle.std.specs.Option.{option_copied, option_map}
pub use Rattle.std.specs.Prelude.{[], Bool, cond, count_by, drop, Err, false, IfSome, if◌then◌else◌, is_some, length, List, map, nat_le, nat_lt, None, not, Ok}
pub use Rattle.std.specs.Prelude.{Option, position, Result, slice_get, slice_index_or, slice_set, Some, suc, take, true, Vec, zero, ℕ, ◌&&◌, ◌++◌, ◌+◌, ◌-◌}
pub use Rattle.std.specs.Prelude.{◌<◌, ◌==◌, ◌^◌, ◌||◌, ◌∷◌, ◌≡◌, ◌≢◌, ◌≤◌, ◌⊎◌}
pub use Rattle.std.specs.Slice.{IsItemAt}
pub use Rattle.std.specs.declared.alloc.Global.{Global}
pub use Rattle.slab.specs.Slab.{ContainsKey, get, HasRoomFor, Slab, slab_len, Updates}
pub use Rattle.smallvec.specs.SmallVec.{SmallVec}
pub use Rattle.gl_modes.proofs.NodeLemmas.{node_is, same_node-differ, same_node-equal, same_node-from_equal, same_node-other, same_node-refl, same_node-sym}
pub use Rattle.gl_modes.proofs.Words.{and_both, both, cases_of, clash, no, none_some, not_true, number_other, number_same, or_elim, or_left, or_right}
pub use Rattle.gl_modes.proofs.Words.{other_number, same_number, some_is, split}
pub use Rattle.gl_modes.specs.Nodes.{same_node}
pub use Rattle.gl_modes.specs.declared.node.NodeId.{NodeId}
pub use Rattle.gl_modes.specs.declared.refusal.Refusal.{Refusal}
pub use Rattle.gl_graph.specs.Changes.{are_apart, born_index, born_node, born_nodes, ids_of, interval_nodes, IsBorn, IsIndexBorn, keys_of, keys_with, marked}
pub use Rattle.gl_graph.specs.Changes.{marked_node, marked_shape, new_index, rekeyed, rekeyed_keys, rekeyed_parents, with_node, with_parents, without_branch}
pub use Rattle.gl_graph.specs.Changes.{without_node}
pub use Rattle.gl_graph.specs.Graph.{first_in, first_parent, Graph, id_of, indexes_of, interval, interval_at, interval_of, interval_place, intervals_of}
pub use Rattle.gl_graph.specs.Graph.{is_child, is_live, is_record_of, IsFreeKey, no_node, Node, node_at, node_count, nodes, parents_in, parents_of}
pub use Rattle.gl_graph.specs.Graph.{record_parents, shape_in, shape_of, with_key}
pub use Rattle.gl_graph.specs.Grown.{AreGone, AreIntervalsBorn, AreRecounted, AreStored, EachKeeps, IsGrown, LosesCut}
pub use Rattle.gl_graph.specs.Lawful.{are_distinct, are_inner, AreInnerParents, HasShape, IsIndexNode, IsLawfulGraph, IsRising, IsWellFormed}
pub use Rattle.gl_graph.specs.Laws.{IntervalsHoldKeys, KeysHaveIntervals, NodesHaveRootPaths, RootPathsGrow, RootPathsShrink}
pub use Rattle.gl_graph.specs.Refusals.{bad_bounds, bad_index_place, bad_parents, first_cycle, first_refusal, has_records, index_refusal, is_in_use, is_rising}
pub use Rattle.gl_graph.specs.Refusals.{is_shape_in_use, max_count, parents_refusal, record_refusal, Refuses, reindex_refusal, some_no_node, too_many_nodes}
pub use Rattle.gl_graph.specs.Refusals.{verdict, where_true, worn_births}
pub use Rattle.gl_graph.specs.Routes.{is_at_or_below, IsAcyclic, IsRoute}
pub use Rattle.gl_graph.specs.Seen.{AreBornApart, AreBornWithin, AreSound, beside_in_body, body_adopted, body_rekeyed, body_with_children, body_with_indexes}
pub use Rattle.gl_graph.specs.Seen.{body_with_intervals, body_with_key, body_with_parent, body_with_parents, body_with_records, body_without_index}
pub use Rattle.gl_graph.specs.Seen.{body_with_cuts, children_in_body, Holds, indexes_in_body, is_passed, is_past, IsPlainBody, Limits, named, named_in}
pub use Rattle.gl_graph.specs.Seen.{node_passed, parents_in_body}
pub use Rattle.gl_graph.specs.Seen.{records_in_body, see, seen, shape_in_body, vertex_of, with_all}
pub use Rattle.gl_graph.specs.Shapes.{bounds_in, File, Index, Inner, Interval, intervals_in, is_adopted, is_file_shape, is_index_of_shape, is_index_shape}
pub use Rattle.gl_graph.specs.Shapes.{is_inner_shape, is_interval_shape, is_movable_shape, is_record_shape, keys_in, kind_in, least_parents, Rec, Shape}
pub use Rattle.gl_graph.specs.Sound.{IsSound, limits_of, view_of}
pub use Rattle.gl_graph.specs.View.{Beside, born_at, children_of, Counts, due, due_as, graph_of, Lists, node_of, Nothing, record_count, View}
pub use Rattle.gl_graph.specs.declared.graph.Graph.TheInside.{Inside}
pub use Rattle.gl_graph.specs.declared.node.Body.{Body}
pub use Rattle.gl_graph.specs.declared.node.FileBody.{FileBody}
pub use Rattle.gl_graph.specs.declared.node.IndexBody.{IndexBody}
pub use Rattle.gl_graph.specs.declared.node.Node.{Node as Stored}
