-- What a write that moves records leaves of a body.
use Rattle.gl_graph.proofs.Words.{ap, beside_in_body, Body, body_with_cuts, body_with_parent, Bool, false, Global, if◌then◌else◌, Index, is_index_shape}
use Rattle.gl_graph.proofs.Words.{is_passed, is_record_shape, keys_in, List, no, node_passed, NodeId, parents_in_body, refl, shape_in_body, slice_set, Some}
use Rattle.gl_graph.proofs.Words.{Stored, sym, true, Vec, ℕ, ◌+◌, ◌≡◌}
use Rattle.gl_graph.specs.declared.node.Body.TheVariants as body
use Rattle.gl_graph.specs.Splits.{file_of}
use Rattle.gl_graph.proofs.Moves.{moved_at}
use Rattle.gl_graph.proofs.SameParents.{parent_set, parent_set_shape}

module _ (place : ℕ) (from : NodeId) (bound : ℕ) (to : NodeId) where
  -- only a record moves
  pub fixed : (b : Body) → is_record_shape (Some (shape_in_body b)) ≡ false → is_passed place from bound b ≡ false
  fixed (body.Inner children above) h = refl
  fixed (body.File kept above) h = refl
  fixed (body.Index kept above) h = refl
  fixed (body.Interval index) h = refl
  fixed (body.NoKey file) h = refl
  fixed (body.OneKey key above) h = absurd (no (sym h))
  fixed (body.TwoKeys keys above) h = absurd (no (sym h))
  fixed (body.ThreeKeys keys above) h = absurd (no (sym h))
  fixed (body.ManyKeys keys above) h = absurd (no (sym h))

  pub passed_shape : (x : Stored) → shape_in_body (node_passed place from bound to x).body ≡ shape_in_body x.body
  passed_shape x = by (is_passed place from bound x.body)
    where
      by : (t : Bool) → shape_in_body (if t then body_with_parent x.body (place + 1) to else x.body) ≡ shape_in_body x.body
      by true = parent_set_shape x.body (place + 1) to
      by false = refl

  pub passed_beside : (x : Stored) → beside_in_body (node_passed place from bound to x).body ≡ beside_in_body x.body
  passed_beside x = by (is_passed place from bound x.body)
    where
      set : (b : Body) → beside_in_body (body_with_parent b (place + 1) to) ≡ beside_in_body b
      set (body.Inner children above) = refl
      set _ = refl

      by : (t : Bool) → beside_in_body (if t then body_with_parent x.body (place + 1) to else x.body) ≡ beside_in_body x.body
      by true = set x.body
      by false = refl

  pub passed_record : (x : Stored) → is_record_shape (Some (shape_in_body x.body)) ≡ true
      → parents_in_body (node_passed place from bound to x).body
      ≡ moved_at from to bound place (place + 1) (keys_in (Some (shape_in_body x.body))) (parents_in_body x.body)
  passed_record x h = by (is_passed place from bound x.body)
    where
      by : (t : Bool) → parents_in_body (if t then body_with_parent x.body (place + 1) to else x.body)
          ≡ (if t then slice_set (parents_in_body x.body) (place + 1) to else parents_in_body x.body)
      by true = parent_set x.body (place + 1) to h
      by false = refl

  pub passed_other : (x : Stored) → is_record_shape (Some (shape_in_body x.body)) ≡ false
      → parents_in_body (node_passed place from bound to x).body ≡ parents_in_body x.body
  passed_other x h = ap (λ t. parents_in_body (if t then body_with_parent x.body (place + 1) to else x.body)) (fixed x.body h)

-- and a write that cuts an index anew
pub cuts_shape : (b : Body) (bounds : Vec ℕ Global) (intervals : Vec NodeId Global) (f : NodeId) (bs : List ℕ) (is : List NodeId)
    → shape_in_body b ≡ Index f bs is → shape_in_body (body_with_cuts b bounds intervals) ≡ Index f bounds.items intervals.items
cuts_shape (body.Inner children above) bounds intervals f bs is e = absurd (no (ap (λ s. is_index_shape (Some s)) e))
cuts_shape (body.File kept above) bounds intervals f bs is e = absurd (no (ap (λ s. is_index_shape (Some s)) e))
cuts_shape (body.Index kept above) bounds intervals f bs is e = ap (λ s. Index (file_of (Some s)) bounds.items intervals.items) e
cuts_shape (body.Interval index) bounds intervals f bs is e = absurd (no (ap (λ s. is_index_shape (Some s)) e))
cuts_shape _ bounds intervals f bs is e = absurd (no (ap (λ s. is_index_shape (Some s)) e))

pub cuts_parents : (b : Body) (bounds : Vec ℕ Global) (intervals : Vec NodeId Global) → parents_in_body (body_with_cuts b bounds intervals) ≡ parents_in_body b
cuts_parents (body.Inner children above) bounds intervals = refl
cuts_parents _ bounds intervals = refl

pub cuts_beside : (b : Body) (bounds : Vec ℕ Global) (intervals : Vec NodeId Global) → beside_in_body (body_with_cuts b bounds intervals) ≡ beside_in_body b
cuts_beside (body.Inner children above) bounds intervals = refl
cuts_beside _ bounds intervals = refl
