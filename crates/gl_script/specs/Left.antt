-- The fields of a line that are still to be read.
use Rattle.std.specs.Prelude.{◌==◌, List, [], Option, None, Some}
use Rattle.std.specs.List.{slice_split}
use denote.Ref.{Bor}
use Rattle.gl_script.specs.declared.fields.Fields.{Fields}
use Rattle.gl_script.specs.Grammar.{Text}

-- the fields of the rest, if there is one
abbrev pub fields_of : Option (Bor Text) → List Text
fields_of None = []
fields_of (Some rest) = slice_split (λ b. b == 32) rest.now

-- the remaining fields
unfoldable pub left : Fields → List Text
left fields = fields_of fields.rest
