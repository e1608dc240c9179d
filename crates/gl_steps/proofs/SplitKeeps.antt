-- An interval is split, or two neighbours are merged, under the locks of another: what their tests leave, and what it leaves to a holder t.
use Rattle.gl_steps.proofs.Words.{[], ⊎_elim, ◌&&◌, ◌+◌, ◌∙◌, ◌∷◌, ◌≡◌, ◌≢◌, ◌≤◌, ◌⊎◌, accepted_once, Active, and_both, ap, arith, Bool, clash, effective}
use Rattle.gl_steps.proofs.Words.{false, first_in, first_parent, first_refusal, freed_among, Graph, holds_x_on_all, if◌then◌else◌, inl, inr, is_adopted}
use Rattle.gl_steps.proofs.Words.{is_at_least_effect, is_file_shape, is_live, is_record_shape, is_some, IsLawful, IsLawfulGraph, List, live_by, lives, nat_le}
use Rattle.gl_steps.proofs.Words.{NL, no, no_txn, node_at, NodeId, None, none_refused, not_false, not_refused, Option, parents_of, refl, Refusal, refusal_of}
use Rattle.gl_steps.proofs.Words.{same_mode, same_node, same_node-equal, SameGrants, Shape, shape_in, shape_of, Some, split, State, status_of, subst, sym}
use Rattle.gl_steps.proofs.Words.{test_fails, tests_of, Told, true, Txn, TxnId, worn, X, ℕ}
use Rattle.gl_steps.proofs.NotRefused.{active_is}
use Rattle.gl_graph.proofs.Around.{shape_is}
use Rattle.gl_graph.proofs.MergeGraph.{can_merge, CanMerge, j_node, lived, merge_key, merge_other, merge_recut}
use Rattle.gl_graph.proofs.Recut.{file_stays}
use Rattle.gl_graph.proofs.RecordParents.{its_file}
use Rattle.gl_graph.proofs.SplitGraph.{can_split, CanSplit, split_key, split_other, split_recut}
use Rattle.gl_graph.specs.Graph.{indexes_of, interval_of}
use Rattle.gl_modes.proofs.NodeLemmas.{same_node-other}
use Rattle.gl_model.proofs.splits.Effects.{moved_effective}
use Rattle.gl_model.proofs.splits.Merge.{merge_carried}
use Rattle.gl_graph.specs.Shapes.{bounds_in, File, Interval, intervals_in, is_interval_shape}
use Rattle.gl_graph.specs.Splits.{file_of, IsSplit, merge, merge_refusal, next_interval, split_refusal}
use Rattle.gl_graph.specs.Splits.{split as split_graph}
use Rattle.gl_model.proofs.splits.Excluded.{others_nothing}
use Rattle.gl_model.proofs.splits.Laws.{may_merge, may_split, merges_keep_effects, merges_keep_law, merges_keep_what_others_read}
use Rattle.gl_model.proofs.splits.Laws.{splits_keep_effects, splits_keep_law, splits_keep_what_others_read, splits_share_effects}
use Rattle.gl_model.proofs.splits.Links.{merge_joined, split_cut}
use Rattle.gl_model.proofs.splits.Recuts.{AreRenamed, IsCut, IsJoined, Recuts}
use Rattle.gl_model.specs.SplitLaws.{MergesIntervals, SplitsInterval}
use Rattle.gl_model.specs.Splits.{merge_tests, merged_by, split_by, split_tests}
use Rattle.gl_steps.specs.declared.command.Command.TheVariants as command
use Rattle.gl_steps.proofs.Keeps.{effect_refl, Keeps}
use Rattle.gl_steps.proofs.KeepsLaw.{KeepsLaw}
use Rattle.gl_steps.proofs.KeptKinds.{KeepsKinds}
use Rattle.gl_steps.proofs.OtherChanges.{with_grant_same}

-- what the tests of a split leave
pub record Splitting (s : State) (t : TxnId) (i : NodeId) (at : ℕ) : Type 0 where
  pub named : no_txn s t ≡ None
  pub active : status_of s t.slot ≡ Some Active
  pub holds : same_mode (s.held t.slot i) X ≡ true
  pub free : split_refusal s.graph i at ≡ None

passed : (o : Option Refusal) (os : List (Option Refusal)) → o ≡ None → first_refusal os ≡ None → first_refusal (o ∷ os) ≡ None
passed o os e rest = ap (λ x. first_refusal (x ∷ os)) e ∙ rest

pub may_part : (s : State) (t : TxnId) (i : NodeId) (at : ℕ) → refusal_of s (command.Split t i at) ≡ None → Splitting s t i at
may_part s t i at free =
    let ok = none_refused (tests_of s (command.Split t i at)) free in
    record {
      named = ok 2;
      active = active_is s t (ok 2) (ok 3) (ok 4);
      holds = not_false _ (test_fails _ _ (ok 7));
      free = passed _ _ (ok 1) (passed _ _ (ok 5) (passed _ _ (ok 6) (passed _ _ (ok 8) (passed _ [] (ok 9) refl))));
    }

-- and those of a merge
pub record Merging (s : State) (t : TxnId) (i : NodeId) : Type 0 where
  pub named : no_txn s t ≡ None
  pub active : status_of s t.slot ≡ Some Active
  pub holds : holds_x_on_all s t.slot (i ∷ next_interval s.graph i ∷ []) ≡ true
  pub free : merge_refusal s.graph i ≡ None

pub may_join : (s : State) (t : TxnId) (i : NodeId) → refusal_of s (command.Merge t i) ≡ None → Merging s t i
may_join s t i free =
    let ok = none_refused (tests_of s (command.Merge t i)) free in
    record {
      named = ok 1;
      active = active_is s t (ok 1) (ok 2) (ok 3);
      holds = not_false _ (test_fails _ _ (ok 6));
      free = passed _ _ (ok 4) (passed _ [] (ok 5) refl);
    }

-- so the laws of splits and merges hold
pub splits : (s : State) (t : TxnId) (i n : NodeId) (at : ℕ) (g : Graph) → IsLawful s → refusal_of s (command.Split t i at) ≡ None → IsSplit s.graph g i n at
    → SplitsInterval s t i n at g
splits s t i n at g law free is = record { lawful = law; allowed = (not_refused (worn s) (split_tests s t i at) free).1; after = is }

pub merges : (s : State) (t : TxnId) (i : NodeId) → IsLawful s → refusal_of s (command.Merge t i) ≡ None → MergesIntervals s t i
merges s t i law free = record { lawful = law; allowed = (not_refused (worn s) (merge_tests s t i) free).1 }

pub split_keeps_law : (t : TxnId) (i : NodeId) (at : ℕ) → KeepsLaw (command.Split t i at)
split_keeps_law t i at s s' a told law free acc =
    subst IsLawful (sym acc.4) (splits_keep_law s t i acc.0 at s'.graph (splits s t i acc.0 at s'.graph law free acc.1))

-- the next interval is gone after a merge
pub merge_gone : (s : State) (t : TxnId) (i : NodeId) → IsLawful s → refusal_of s (command.Merge t i) ≡ None
    → is_live (merge s.graph i) (next_interval s.graph i) ≡ false
merge_gone s t i law free = (merge_joined s.graph i law.graph (may_merge s t i (merges s t i law free)).graph).gone

pub merge_keeps_law : (t : TxnId) (i : NodeId) → KeepsLaw (command.Merge t i)
merge_keeps_law t i s s' a told law free acc = subst IsLawful (sym acc.2) (merges_keep_law s t i (merges s t i law free))

-- Kinds.

-- the first of the parents is no interval, so it stays
renamed_first : (x y : NodeId) (ps ps' : List NodeId) → AreRenamed x y ps ps' → first_in ps ≢ x → first_in ps' ≡ first_in ps
renamed_first x y [] [] h ne = refl
renamed_first x y [] (p' ∷ ps') h ne = absurd h
renamed_first x y (p ∷ ps) [] h ne = absurd h
renamed_first x y (p ∷ ps) (p' ∷ ps') h ne = ⊎_elim (λ e. e) (λ e. absurd (ne e.0)) h.0

adopted_file : (o : Option Shape) → is_adopted o ≡ true → is_file_shape o ≡ true
adopted_file (Some (File adopted)) h = refl
adopted_file _ h = absurd (no h)

-- the intervals x and y are of one index, files stay as they are, and x is no file
module _ (g g' : Graph) (x y : NodeId) (law : IsLawfulGraph g) (cut : Recuts g g' x y) (files : (q : NodeId) → is_file_shape (shape_of g q) ≡ true
    → node_at g' q ≡ node_at g q) (other : is_file_shape (shape_of g x) ≡ false) where
  recut_kinds : KeepsKinds g g'
  recut_kinds q live live' = record {
    record_same = cut.kinds q live live';
    file = λ rec. renamed_first x y (parents_of g q) (parents_of g' q) (cut.parents q live live')
        (λ e. clash (its_file g law q rec) (ap (λ z. is_file_shape (shape_of g z)) e ∙ other));
    mark = λ h. ap (λ o. is_adopted (shape_in o)) (files q (adopted_file (shape_of g q) h)) ∙ h;
  }

interval_no_file : (o : Option Shape) → is_interval_shape o ≡ true → is_file_shape o ≡ false
interval_no_file (Some Interval) h = refl
interval_no_file _ h = absurd (no h)

-- one that waits for the interval lives on
freed_lives : (goes : NodeId → Bool) (age : ℕ) (x : Option Txn) → live_by age (freed_among goes x) ≡ live_by age x
freed_lives goes age None = refl
freed_lives goes age (Some x) = refl

-- Intervals were cut anew: x became y. Files keep their indexes, each key is in the same interval, or in y in place of x, and effective modes on y are those
-- that were on x.
pub record IsRecut (s s' : State) (x y : NodeId) : Type 0 where
  pub kinds : KeepsKinds s.graph s'.graph
  pub came : (q : NodeId) → is_live s'.graph q ≡ true → (is_live s.graph q ≡ true) ⊎ (q ≡ y)
  pub stays : (q : NodeId) → is_live s.graph q ≡ true → (is_live s'.graph q ≡ true) ⊎ (q ≡ x)
  pub plain : (is_record_shape (shape_of s.graph x) ≡ false) × (is_record_shape (shape_of s'.graph y) ≡ false)
  pub indexes : (f : NodeId) → indexes_of s'.graph f ≡ indexes_of s.graph f
  pub intervals : (i : NodeId) (key : ℕ) → (interval_of s'.graph i key ≡ interval_of s.graph i key)
      ⊎ ((interval_of s.graph i key ≡ x) × (interval_of s'.graph i key ≡ y))
  pub effects : (u : ℕ) → effective s' u y ≡ effective s u x

-- a split by u
module _ (s : State) (law : IsLawful s) (u : TxnId) (i n : NodeId) (at : ℕ) (g : Graph) (h : SplitsInterval s u i n at g) where
  refused : split_refusal s.graph i at ≡ None
  refused = (may_split s u i n at g h).graph

  cut : IsCut s.graph g i n
  cut = split_cut s.graph g i n at law.graph refused h.after

  can : CanSplit s.graph i at
  can = can_split s.graph i at refused

  abbrev parted : Graph
  parted = split_graph s.graph i at n.key

  same_id : record { key = n.key; birth = s.graph.births + 1 } ≡ n
  same_id = λ j. record { key = n.key; birth = sym h.after.birth j }

  files : (q : NodeId) → is_file_shape (shape_of s.graph q) ≡ true → node_at g q ≡ node_at s.graph q
  files q k =
      let x = first_parent s.graph i in
      let sh = shape_of s.graph x in
      ap (λ (z : Graph). node_at z q) h.after.after
      ∙ file_stays s.graph parted law.graph x (file_of sh) (bounds_in sh) _ (intervals_in sh) _
      (shape_is s.graph law.graph i can.kind) (split_recut s.graph law.graph i at can n.key) q k

  split_kinds : KeepsKinds s.graph g
  split_kinds = recut_kinds s.graph g i n law.graph cut.recuts files (interval_no_file (shape_of s.graph i) can.kind)

  split_each : (y : NodeId) (k : ℕ) → (interval_of g y k ≡ interval_of s.graph y k) ⊎ ((interval_of s.graph y k ≡ i) × (interval_of g y k ≡ n))
  split_each y k =
      let x = first_parent s.graph i in
      let is = ap (λ (z : Graph). interval_of z y k) h.after.after in
      split (same_node y x)
      (λ t.
      let e = same_node-equal y x t in
      let now : interval_of g y k ≡ (if nat_le at k && same_node (interval_of s.graph y k) i then n else interval_of s.graph y k) =
      is ∙ subst (λ z. interval_of parted z k ≡ (if nat_le at k && same_node (interval_of s.graph z k) i then n else interval_of s.graph z k)) (sym e)
      (split_key s.graph law.graph i at can n.key k
      ∙ ap (λ m. if nat_le at k && same_node (interval_of s.graph x k) i then m else interval_of s.graph x k) same_id) in
      split (nat_le at k && same_node (interval_of s.graph y k) i)
      (λ b. inr (
        same_node-equal (interval_of s.graph y k) i (and_both (nat_le at k) _ b).1,
        now ∙ ap (λ c. if c then n else interval_of s.graph y k) b,
      ))
      (λ b. inl (now ∙ ap (λ c. if c then n else interval_of s.graph y k) b)))
      (λ t. inl (is ∙ split_other s.graph law.graph i at can n.key y (same_node-other y x t) k))

  pub split_recuts : IsRecut s (split_by s u.slot i g n) i n
  split_recuts = record {
    kinds = split_kinds;
    came = cut.recuts.came;
    stays = cut.recuts.stays;
    plain = (cut.recuts.old_plain, cut.recuts.new_plain);
    indexes = λ f. ap (λ (z : Graph). indexes_of z f) h.after.after ∙ (split_recut s.graph law.graph i at can n.key).indexes f;
    intervals = split_each;
    effects = splits_share_effects s u i n at g h;
  }

-- a merge by u
module _ (s : State) (law : IsLawful s) (u : TxnId) (i : NodeId) (h : MergesIntervals s u i) where
  abbrev gone_one : NodeId
  gone_one = next_interval s.graph i

  unrefused : merge_refusal s.graph i ≡ None
  unrefused = (may_merge s u i h).graph

  joined : IsJoined s.graph (merge s.graph i) i gone_one
  joined = merge_joined s.graph i law.graph unrefused

  can_join : CanMerge s.graph i
  can_join = can_merge s.graph i unrefused

  same_files : (q : NodeId) → is_file_shape (shape_of s.graph q) ≡ true → node_at (merge s.graph i) q ≡ node_at s.graph q
  same_files q k =
      let x = first_parent s.graph i in
      let sh = shape_of s.graph x in
      file_stays s.graph (merge s.graph i) law.graph x (file_of sh) (bounds_in sh) _ (intervals_in sh) _
      (shape_is s.graph law.graph i can_join.kind) (merge_recut s.graph law.graph i can_join) q k

  merge_kinds : KeepsKinds s.graph (merge s.graph i)
  merge_kinds =
      recut_kinds s.graph (merge s.graph i) gone_one i law.graph joined.recuts same_files
      (ap (λ o. is_file_shape (shape_in o)) (j_node s.graph law.graph i can_join))

  merge_each : (y : NodeId) (k : ℕ) → (interval_of (merge s.graph i) y k ≡ interval_of s.graph y k)
      ⊎ ((interval_of s.graph y k ≡ gone_one) × (interval_of (merge s.graph i) y k ≡ i))
  merge_each y k =
      let x = first_parent s.graph i in
      split (same_node y x)
      (λ t.
      let e = same_node-equal y x t in
      let now : interval_of (merge s.graph i) y k ≡ (if same_node (interval_of s.graph y k) gone_one then i else interval_of s.graph y k) =
      subst (λ z. interval_of (merge s.graph i) z k ≡ (if same_node (interval_of s.graph z k) gone_one then i else interval_of s.graph z k)) (sym e)
      (merge_key s.graph law.graph i can_join k) in
      split (same_node (interval_of s.graph y k) gone_one)
      (λ b. inr (same_node-equal (interval_of s.graph y k) gone_one b, now ∙ ap (λ c. if c then i else interval_of s.graph y k) b))
      (λ b. inl (now ∙ ap (λ c. if c then i else interval_of s.graph y k) b)))
      (λ t. inl (merge_other s.graph law.graph i can_join y (same_node-other y x t) k))

  pub merge_recuts : IsRecut s (merged_by s gone_one (merge s.graph i)) gone_one i
  merge_recuts =
      let may = may_merge s u i h in
      record {
        kinds = merge_kinds;
        came = joined.recuts.came;
        stays = joined.recuts.stays;
        plain = (joined.recuts.old_plain, joined.recuts.new_plain);
        indexes = (merge_recut s.graph law.graph i can_join).indexes;
        intervals = merge_each;
        effects = λ v.
            moved_effective s law (merge s.graph i) gone_one i (λ q. same_node q gone_one) (merged_by s gone_one (merge s.graph i)).held
            (merge_carried s law u.slot i gone_one (merge s.graph i) may.x may.y joined) v
            (ap is_some (j_node s.graph law.graph i can_join));
      }

module _ (s : State) (law : IsLawful s) (t : TxnId) (alive : lives s t ≡ true) (told' : Told) (u : TxnId) (ne : u.slot ≢ t.slot) where
  apart : t.slot ≢ u.slot
  apart e = ne (sym e)

  -- a split by u leaves this to t
  module _ (i n : NodeId) (at : ℕ) (g : Graph) (h : SplitsInterval s u i n at g) where
    abbrev made : State
    made = split_by s u.slot i g n

    births : g.births ≡ s.graph.births + 1
    births = ap (λ (z : Graph). z.births) h.after.after

    old : (q : NodeId) → q.birth ≤ s.graph.births → is_live g q ≡ true → is_live s.graph q ≡ true
    old q le live =
        ⊎_elim (λ e. e) (λ e. let b : q.birth ≡ n.birth = ap (λ (z : NodeId). z.birth) e in let m = h.after.birth in absurd (omega arith))
        ((split_recuts s law u i n at g h).came q live)

    split_keeps : Keeps s (accepted_once made) t told' false
    split_keeps = record {
      alive = freed_lives (λ q. same_node q i) t.age (s.txns t.slot) ∙ alive;
      grants = inl (λ q. with_grant_same s u.slot t.slot n X ne q);
      births = let b = births in omega arith;
      old = old;
      kinds = (split_recuts s law u i n at g h).kinds;
      same = λ _ q live _. splits_keep_effects s u i n at g h t.slot q live;
      greater = λ q live _. ap (λ e. is_at_least_effect e (effective s t.slot q)) (splits_keep_effects s u i n at g h t.slot q live)
          ∙ effect_refl (effective s t.slot q);
      below = λ _ q reads. splits_keep_what_others_read s u i n at g h t.slot apart q reads;
    }

  pub split_by_keeps : (i n : NodeId) (at : ℕ) (next : State) → refusal_of s (command.Split u i at) ≡ None → IsSplit s.graph next.graph i n at
      → next ≡ split_by s u.slot i next.graph n → Keeps s (accepted_once next) t told' false
  split_by_keeps i n at next free is made =
      subst (λ (x : State). Keeps s (accepted_once x) t told' false) (sym made)
      (split_keeps i n at next.graph (splits s u i n at next.graph law free is))

  -- and a merge by u this
  module _ (i : NodeId) (h : MergesIntervals s u i) where
    abbrev j : NodeId
    j = next_interval s.graph i

    abbrev left : State
    left = merged_by s j (merge s.graph i)

    -- t has nothing on the next interval
    nothing : s.held t.slot j ≡ NL
    nothing = others_nothing s law u.slot t.slot j (may_merge s u i h).y apart

    same_held : SameGrants s left t.slot
    same_held q = split (same_node q j)
        (λ e. ap (λ b. if b then NL else s.held t.slot q) e ∙ sym (ap (s.held t.slot) (same_node-equal q j e) ∙ nothing))
        (λ e. ap (λ b. if b then NL else s.held t.slot q) e)

    merge_keeps : Keeps s (accepted_once left) t told' false
    merge_keeps = record {
      alive = freed_lives (λ q. same_node q j) t.age (s.txns t.slot) ∙ alive;
      grants = inl same_held;
      births = omega arith;
      old = λ q _ live. (lived s.graph law.graph i (can_join s law u i h) q live).0;
      kinds = (merge_recuts s law u i h).kinds;
      same = λ _ q _ live. merges_keep_effects s u i h t.slot q live;
      greater = λ q _ live. ap (λ e. is_at_least_effect e (effective s t.slot q)) (merges_keep_effects s u i h t.slot q live)
          ∙ effect_refl (effective s t.slot q);
      below = λ _ q reads. merges_keep_what_others_read s u i h t.slot apart q reads;
    }

  pub merge_by_keeps : (i : NodeId) (next : State) → refusal_of s (command.Merge u i) ≡ None
      → next ≡ merged_by s (next_interval s.graph i) (merge s.graph i) → Keeps s (accepted_once next) t told' false
  merge_by_keeps i next free made =
      subst (λ (x : State). Keeps s (accepted_once x) t told' false) (sym made) (merge_keeps i (merges s u i law free))
