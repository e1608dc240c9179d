-- The laws of states whose intervals split and merge, of a split or a merge that no test refuses.
use Rattle.std.proofs.Common.{ap, refl}
use Rattle.std.specs.Prelude.{◌≡◌, ℕ, true, not, ◌&&◌, List, [], ◌∷◌, Option, Some, None}
use Rattle.gl_modes.proofs.Words.{and_both}
use Rattle.gl_modes.specs.Modes.{same_mode}
use Rattle.gl_modes.specs.declared.mode.Mode.TheVariants.{X}
use Rattle.gl_modes.specs.declared.node.NodeId.{NodeId}
use Rattle.gl_modes.specs.declared.refusal.Refusal.{Refusal}
use Rattle.gl_modes.specs.declared.refusal.Refusal.TheVariants as no
use Rattle.gl_graph.proofs.Unrefused.{not_false, not_refused, test_fails}
use Rattle.gl_graph.specs.Graph.{Graph, is_live}
use Rattle.gl_graph.specs.Refusals.{first_refusal, some_no_node, where_true, worn_births}
use Rattle.gl_model.proofs.law.Tests.{active_after}
use Rattle.gl_model.specs.State.{State, status_of}
use Rattle.gl_model.specs.declared.txn.Status.TheVariants.{Active}
use Rattle.gl_model.specs.declared.txn.TxnId.{TxnId}
use Rattle.gl_model.proofs.splits.Excluded.{others_read}
use Rattle.gl_model.proofs.splits.Links.{merge_joined, split_cut}
use Rattle.gl_model.proofs.splits.Merge.{merge_effects, merge_lawful, merge_reads, merge_steps}
use Rattle.gl_model.proofs.splits.Recuts.{IsCut, IsJoined}
use Rattle.gl_model.proofs.splits.Split.{split_effects, split_lawful, split_new, split_reads, split_steps}
use Rattle.gl_model.proofs.splits.Tellings.{merge_told, split_told}
use Rattle.gl_graph.specs.Splits.{has_no_next, merge, merge_refusal, next_interval, no_interval, split_refusal}
use Rattle.gl_model.specs.SplitLaws.{MergesAddNoWait, MergesIntervals, MergesKeepEffects, MergesKeepLaw, MergesKeepWhatOthersRead, MergesTellWaiters}
use Rattle.gl_model.specs.SplitLaws.{SplitsAddNoWait, SplitsInterval, SplitsKeepEffects, SplitsKeepLaw, SplitsKeepWhatOthersRead, SplitsShareEffects}
use Rattle.gl_model.specs.SplitLaws.{MergesNeedNoReader, SplitsNeedNoReader, SplitsTellWaiters}

one_more : (x : Option Refusal) (xs : List (Option Refusal)) → x ≡ None → first_refusal xs ≡ None → first_refusal (x ∷ xs) ≡ None
one_more None xs e h = h
one_more (Some r) xs e h = e

there : (g : Graph) (i : NodeId) → is_live g i ≡ true → some_no_node g (i ∷ []) ≡ None
there g i live = ap (λ b. where_true (not (b && true)) no.NoSuchNode) live

-- a split that no test refuses
module _ (s : State) (t : TxnId) (i n : NodeId) (bound : ℕ) (g' : Graph) (splits : SplitsInterval s t i n bound g') where
  pub record MaySplit : Type 0 where
    pub active : status_of s t.slot ≡ Some Active
    pub x : same_mode (s.held t.slot i) X ≡ true
    pub graph : split_refusal s.graph i bound ≡ None

  pub may_split : MaySplit
  may_split =
      let worn = (not_refused (worn_births s.graph) _ splits.allowed).0 in
      let a = active_after s t i (worn_births s.graph) _ splits.allowed in
      let b = not_refused (where_true (no_interval s.graph i) no.BadParents) _ a.2 in
      let c = not_refused (where_true (not (same_mode (s.held t.slot i) X)) no.NeedExclusive) _ b.1 in
      record {
        active = a.0;
        x = not_false _ (test_fails _ _ c.0);
        graph = one_more (worn_births s.graph) _ worn
            (one_more (some_no_node s.graph (i ∷ [])) _ (there s.graph i a.1) (one_more (where_true (no_interval s.graph i) no.BadParents) _ b.0 c.1));
      }

  cut : IsCut s.graph g' i n
  cut = split_cut s.graph g' i n bound splits.lawful.graph may_split.graph splits.after

-- a merge that no test refuses
module _ (s : State) (t : TxnId) (i : NodeId) (merges : MergesIntervals s t i) where
  pub record MayMerge : Type 0 where
    pub x : same_mode (s.held t.slot i) X ≡ true
    pub y : same_mode (s.held t.slot (next_interval s.graph i)) X ≡ true
    pub graph : merge_refusal s.graph i ≡ None

  pub may_merge : MayMerge
  may_merge =
      let a = active_after s t i None _ merges.allowed in
      let b = not_refused (where_true (has_no_next s.graph i) no.BadParents) _ a.2 in
      let c = not_refused _ [] b.1 in
      let both = and_both (same_mode (s.held t.slot i) X) _ (not_false _ (test_fails _ _ c.0)) in
      record {
        x = both.0;
        y = (and_both (same_mode (s.held t.slot (next_interval s.graph i)) X) true both.1).0;
        graph = one_more (some_no_node s.graph (i ∷ [])) _ (there s.graph i a.1) (one_more (where_true (has_no_next s.graph i) no.BadParents) [] b.0 refl);
      }

  joined : IsJoined s.graph (merge s.graph i) i (next_interval s.graph i)
  joined = merge_joined s.graph i merges.lawful.graph may_merge.graph

pub splits_keep_law : SplitsKeepLaw
splits_keep_law s t i n bound g' h = split_lawful s h.lawful t.slot i n g' (may_split s t i n bound g' h).x (cut s t i n bound g' h)

pub splits_keep_effects : SplitsKeepEffects
splits_keep_effects s t i n bound g' h = split_effects s h.lawful t.slot i n g' (may_split s t i n bound g' h).x (cut s t i n bound g' h)

pub splits_share_effects : SplitsShareEffects
splits_share_effects s t i n bound g' h = split_new s h.lawful t.slot i n g' (may_split s t i n bound g' h).x (cut s t i n bound g' h)

pub splits_keep_what_others_read : SplitsKeepWhatOthersRead
splits_keep_what_others_read s t i n bound g' h = split_reads s h.lawful t.slot i n g' (may_split s t i n bound g' h).x (cut s t i n bound g' h)

pub splits_need_no_reader : SplitsNeedNoReader
splits_need_no_reader s t i n bound g' h u ne reads = others_read s h.lawful t.slot u i i (may_split s t i n bound g' h).x ne reads refl

pub splits_add_no_wait : SplitsAddNoWait
splits_add_no_wait s t i n bound g' h = split_steps s h.lawful t.slot i n g' (may_split s t i n bound g' h).x (cut s t i n bound g' h)

pub splits_tell_waiters : SplitsTellWaiters
splits_tell_waiters s t i n bound g' h =
    let may = may_split s t i n bound g' h in split_told s h.lawful t.slot i n g' may.x (cut s t i n bound g' h) may.active

pub merges_keep_law : MergesKeepLaw
merges_keep_law s t i h =
    let may = may_merge s t i h in
    merge_lawful s h.lawful t.slot i (next_interval s.graph i) (merge s.graph i) may.x may.y (joined s t i h)

pub merges_keep_effects : MergesKeepEffects
merges_keep_effects s t i h =
    let may = may_merge s t i h in
    merge_effects s h.lawful t.slot i (next_interval s.graph i) (merge s.graph i) may.x may.y (joined s t i h)

pub merges_keep_what_others_read : MergesKeepWhatOthersRead
merges_keep_what_others_read s t i h =
    let may = may_merge s t i h in
    merge_reads s h.lawful t.slot i (next_interval s.graph i) (merge s.graph i) may.x may.y (joined s t i h)

pub merges_need_no_reader : MergesNeedNoReader
merges_need_no_reader s t i h u ne =
    let may = may_merge s t i h in
    let j = next_interval s.graph i in
    (λ reads. others_read s h.lawful t.slot u i i may.x ne reads refl, λ reads. others_read s h.lawful t.slot u j j may.y ne reads refl)

pub merges_add_no_wait : MergesAddNoWait
merges_add_no_wait s t i h =
    let may = may_merge s t i h in
    merge_steps s h.lawful t.slot i (next_interval s.graph i) (merge s.graph i) may.x may.y (joined s t i h)

pub merges_tell_waiters : MergesTellWaiters
merges_tell_waiters s t i h = merge_told s i (next_interval s.graph i) (merge s.graph i) (joined s t i h)
