-- The keys of one interval from a bound on get another one: the parents of records, which have the same one for each other index.
use Rattle.std.proofs.Common.{add-one, ap, ap₂, arith, refl, sym, ◌∙◌}
use Rattle.std.specs.Prelude.{[], Bool, false, if◌then◌else◌, length, List, nat_le, slice_get, slice_index_or, slice_set, suc, true, zero, ℕ, ◌&&◌, ◌+◌, ◌<◌}
use Rattle.std.specs.Prelude.{◌∷◌, ◌≡◌, ◌≢◌}
use Rattle.gl_modes.specs.Nodes.{same_node}
use Rattle.gl_modes.specs.declared.node.NodeId.{NodeId}
use Rattle.gl_graph.specs.Graph.{Graph, indexes_of, interval_of, intervals_of, no_node, record_parents}
use Rattle.gl_graph.specs.Seen.{is_past}

-- the list with the interval at this place moved, if it is the one and its key is past the bound
abbrev pub moved_at : NodeId → NodeId → ℕ → ℕ → ℕ → List ℕ → List NodeId → List NodeId
moved_at from to bound place at ks ps = if is_past from bound (slice_get ks place) (slice_get ps at) then slice_set ps at to else ps

module _ (g g' : Graph) (from to : NodeId) (bound : ℕ) where
  -- the interval of a key after the move, from the one before
  abbrev pub moved : NodeId → ℕ → NodeId
  moved y k = if nat_le bound k && same_node (interval_of g y k) from then to else interval_of g y k

  untouched : (ys : List NodeId) (ks : List ℕ) → length ks ≡ length ys
      → ((j : ℕ) (d : NodeId) → j < length ys → (k : ℕ) → interval_of g' (slice_index_or ys j d) k ≡ interval_of g (slice_index_or ys j d) k)
      → intervals_of g' ys ks ≡ intervals_of g ys ks
  untouched [] ks e same = refl
  untouched (y ∷ ys) [] e same = refl
  untouched (y ∷ ys) (k ∷ ks) e same =
      ap₂ (λ a b. a ∷ b) (same 0 no_node (omega arith) k) (untouched ys ks (omega arith) (λ j d low m. same (suc j) d (omega arith) m))

  all_moved : (ys : List NodeId) (ks : List ℕ) (c : ℕ) → length ks ≡ length ys
      → ((j : ℕ) (d : NodeId) → j < length ys → j ≢ c → (k : ℕ) → interval_of g' (slice_index_or ys j d) k ≡ interval_of g (slice_index_or ys j d) k)
      → ((d : NodeId) → c < length ys → (k : ℕ) → interval_of g' (slice_index_or ys c d) k ≡ moved (slice_index_or ys c d) k)
      → intervals_of g' ys ks ≡ moved_at from to bound c c ks (intervals_of g ys ks)
  all_moved [] [] c e same here = refl
  all_moved [] (k ∷ ks) c e same here = absurd (omega arith)
  all_moved (y ∷ ys) [] c e same here = absurd (omega arith)
  all_moved (y ∷ ys) (k ∷ ks) zero e same here =
      ap₂ (λ a b. a ∷ b) (here no_node (omega arith) k) (untouched ys ks (omega arith) (λ j d low m. same (suc j) d (omega arith) (omega arith) m))
      ∙ by (nat_le bound k && same_node (interval_of g y k) from)
    where
      by : (b : Bool) → (if b then to else interval_of g y k) ∷ intervals_of g ys ks
          ≡ (if b then to ∷ intervals_of g ys ks else interval_of g y k ∷ intervals_of g ys ks)
      by true = refl
      by false = refl
  all_moved (y ∷ ys) (k ∷ ks) (suc c) e same here =
      ap₂ (λ a b. a ∷ b) (same 0 no_node (omega arith) (omega arith) k) (all_moved ys ks c (omega arith)
      (λ j d low ne m. same (suc j) d (omega arith) (let apart : suc j ≢ suc c = omega arith in apart) m) (λ d low m. here d (omega arith) m))
      ∙ by (is_past from bound (slice_get ks c) (slice_get (intervals_of g ys ks) c))
    where
      by : (b : Bool) → interval_of g y k ∷ (if b then slice_set (intervals_of g ys ks) c to else intervals_of g ys ks)
          ≡ (if b then interval_of g y k ∷ slice_set (intervals_of g ys ks) c to else interval_of g y k ∷ intervals_of g ys ks)
      by true = refl
      by false = refl

  -- the parents of a record: its file, and then its intervals
  pub parents_moved : (h : NodeId) (ks : List ℕ) (c : ℕ) → indexes_of g' h ≡ indexes_of g h → length ks ≡ length (indexes_of g h)
      → ((j : ℕ) (d : NodeId) → j < length (indexes_of g h) → j ≢ c → (k : ℕ)
      → interval_of g' (slice_index_or (indexes_of g h) j d) k ≡ interval_of g (slice_index_or (indexes_of g h) j d) k)
      → ((d : NodeId) → c < length (indexes_of g h) → (k : ℕ)
      → interval_of g' (slice_index_or (indexes_of g h) c d) k ≡ moved (slice_index_or (indexes_of g h) c d) k)
      → record_parents g' h ks ≡ moved_at from to bound c (c + 1) ks (record_parents g h ks)
  parents_moved h ks c indexes e same here =
      ap (λ ps. h ∷ ps) (ap (λ ys. intervals_of g' ys ks) indexes ∙ all_moved (indexes_of g h) ks c e same here)
      ∙ by (is_past from bound (slice_get ks c) (slice_get (intervals_of g (indexes_of g h) ks) c))
      ∙ ap (λ m. moved_at from to bound c m ks (record_parents g h ks)) (sym (add-one c))
    where
      by : (b : Bool) → h ∷ (if b then slice_set (intervals_of g (indexes_of g h) ks) c to else intervals_of g (indexes_of g h) ks)
          ≡ (if b then h ∷ slice_set (intervals_of g (indexes_of g h) ks) c to else record_parents g h ks)
      by true = refl
      by false = refl
