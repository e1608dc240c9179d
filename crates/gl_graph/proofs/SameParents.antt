-- What a write of a body leaves of its shape and its parents.
use Rattle.gl_graph.proofs.Words.{Body, body_adopted, body_with_indexes, body_with_key, body_with_parent, body_with_parents}
use Rattle.gl_graph.proofs.Words.{body_with_records, body_without_index, Global, is_movable_shape, is_record_shape, no, Node, NodeId, parents_in_body, refl}
use Rattle.gl_graph.proofs.Words.{shape_in_body, slice_set, SmallVec, Some, true, Vec, ℕ, ◌≡◌}
use Rattle.gl_graph.specs.declared.node.Body.TheVariants as body

pub adopted_parents : (b : Body) → parents_in_body (body_adopted b) ≡ parents_in_body b
adopted_parents (body.Inner children above) = refl
adopted_parents _ = refl

pub key_parents : (b : Body) (place key : ℕ) → parents_in_body (body_with_key b place key) ≡ parents_in_body b
key_parents (body.Inner children above) place key = refl
key_parents _ place key = refl

pub moved_parents : (b : Body) (fresh : Vec NodeId Global) → is_movable_shape (Some (shape_in_body b)) ≡ true
    → parents_in_body (body_with_parents b fresh) ≡ fresh.items
moved_parents (body.Inner children above) fresh h = refl
moved_parents (body.File kept above) fresh h = refl
moved_parents (body.Index kept above) fresh h = refl
moved_parents _ fresh h = absurd (no h)

pub moved_shape : (b : Body) (fresh : Vec NodeId Global) → shape_in_body (body_with_parents b fresh) ≡ shape_in_body b
moved_shape (body.Inner children above) fresh = refl
moved_shape _ fresh = refl

pub parent_set : (b : Body) (place : ℕ) (n : NodeId) → is_record_shape (Some (shape_in_body b)) ≡ true
    → parents_in_body (body_with_parent b place n) ≡ slice_set (parents_in_body b) place n
parent_set (body.Inner children above) place n h = absurd (no h)
parent_set (body.File kept above) place n h = absurd (no h)
parent_set (body.Index kept above) place n h = absurd (no h)
parent_set (body.Interval index) place n h = absurd (no h)
parent_set _ place n h = refl

pub parent_set_shape : (b : Body) (place : ℕ) (n : NodeId) → shape_in_body (body_with_parent b place n) ≡ shape_in_body b
parent_set_shape (body.Inner children above) place n = refl
parent_set_shape _ place n = refl

-- what the graph shows of a body
abbrev pub shown : ℕ → Body → Node
shown key b = record { key = key; shape = shape_in_body b; parents = parents_in_body b }

pub records_shown : (key : ℕ) (b : Body) (records : ℕ) → shown key (body_with_records b records) ≡ shown key b
records_shown key (body.File kept above) records = refl
records_shown key _ records = refl

pub unlisted_shown : (key : ℕ) (b : Body) (n : NodeId) → shown key (body_without_index b n) ≡ shown key b
unlisted_shown key (body.File kept above) n = refl
unlisted_shown key _ n = refl

pub indexes_shown : (key : ℕ) (b : Body) (fresh : SmallVec NodeId) → shown key (body_with_indexes b fresh) ≡ shown key b
indexes_shown key (body.File kept above) fresh = refl
indexes_shown key _ fresh = refl
