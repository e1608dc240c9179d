-- What a kind says of a shape.
use Rattle.gl_graph.proofs.Words.{is_record_shape, kind_in, Option, Rec, refl, Shape, Some, true, ◌≡◌}
use Rattle.gl_graph.specs.declared.kind.Kind.TheVariants as kind

pub record_kind : (o : Option Shape) → kind_in o ≡ Some kind.Rec → is_record_shape o ≡ true
record_kind (Some (Rec keys)) e = refl
record_kind _ e = cc
