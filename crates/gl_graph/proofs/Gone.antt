-- Nodes are removed from a slab, one after the other.
use Rattle.gl_graph.proofs.Words.{AreGone, AreStored, arith, List, NodeId, None, Slab, slab_len, slice_get, Some, Stored, Updates, ℕ, ◌+◌, ◌≡◌}

module _ (old mid : Slab Stored) (ids : List NodeId) (count : ℕ) (n : NodeId) (stored : AreStored old ids) (gone : AreGone old mid ids count)
    (at : slice_get ids count ≡ Some n) where
  -- and is removed too
  module _ (new : Slab Stored) (u : Updates mid new n.key None) (len : slab_len new + 1 ≡ slab_len mid) where
    pub gone_more : AreGone old new ids (count + 1)
    gone_more = grind arith
