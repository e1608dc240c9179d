-- Splits and merges move keys as they should, and leave the graph lawful.
use Rattle.std.proofs.Common.{◌∙◌, ap, subst, sym}
use Rattle.std.specs.Prelude.{◌≡◌, ◌+◌, ◌&&◌, nat_le, if◌then◌else◌}
use Rattle.gl_modes.specs.Nodes.{same_node}
use Rattle.gl_graph.proofs.MergeGraph.{can_merge, merge_key, merge_lawful, merge_other}
use Rattle.gl_graph.proofs.SplitGraph.{can_split, split_key, split_lawful, split_other}
use Rattle.gl_graph.specs.Graph.{first_parent, Graph, interval_of}
use Rattle.gl_graph.specs.Lawful.{IsLawfulGraph}
use Rattle.gl_graph.specs.SplitLaws.{MergesKeepGraphs, MergesMoveKeys, MergesMoveNoOthers, SplitsKeepGraphs, SplitsMoveKeys, SplitsMoveNoOthers}

pub splits_move_keys : SplitsMoveKeys
splits_move_keys g g' i n bound law unrefused is key =
    let can = can_split g i bound unrefused in
    let same : record { key = n.key; birth = g.births + 1 } ≡ n = λ j. record { key = n.key; birth = sym is.birth j } in
    ap (λ (h : Graph). interval_of h (first_parent g i) key) is.after ∙ split_key g law i bound can n.key key
    ∙ ap (λ m. if nat_le bound key && same_node (interval_of g (first_parent g i) key) i then m else interval_of g (first_parent g i) key) same

pub splits_move_no_others : SplitsMoveNoOthers
splits_move_no_others g g' i n bound law unrefused is index ne key =
    ap (λ (h : Graph). interval_of h index key) is.after ∙ split_other g law i bound (can_split g i bound unrefused) n.key index ne key

pub splits_keep_graphs : SplitsKeepGraphs
splits_keep_graphs g g' i n bound law unrefused is =
    subst IsLawfulGraph (sym is.after) (split_lawful g law i bound (can_split g i bound unrefused) n.key is.key_free)

pub merges_move_keys : MergesMoveKeys
merges_move_keys g i law unrefused key = merge_key g law i (can_merge g i unrefused) key

pub merges_move_no_others : MergesMoveNoOthers
merges_move_no_others g i law unrefused index ne key = merge_other g law i (can_merge g i unrefused) index ne key

pub merges_keep_graphs : MergesKeepGraphs
merges_keep_graphs g i law unrefused = merge_lawful g law i (can_merge g i unrefused)
