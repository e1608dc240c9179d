use Rattle.std.proofs.Common.{◌≡◌, ◌↔◌, ℕ, Bool, true, false, not, IsTrue, List, [], Option, None, Some, Bor, refl}
use Rattle.std.specs.Option.{is_some}
use Rattle.gl_script.specs.Left.{left, fields_of}
use Rattle.gl_script.proofs.Splitting.{some_field}
use Rattle.gl_script.proofs.fields.Fields.is_done.Goals as goal

done : (rest : Option (Bor (List ℕ))) (b : Bool) → is_some rest ≡ not b → IsTrue b ↔ (fields_of rest ≡ [])
done None true e = (λ t. refl, λ none. refl)
done None false e = cc
done (Some rest) true e = cc
done (Some rest) false e = (λ t. cc, λ none. absurd (some_field rest.now none))

pub returns : goal.returns
unfolding left
returns c = done c.args.self.now.rest c.is_none.result c.is_none.ensures
