-- Lists in values that may be absent.
use Rattle.std.specs.Prelude.{List, [], Option, Some, None}

-- the list of the value; empty if there is no value
abbrev pub list_in : {W A : Type 0} → (W → List A) → Option W → List A
list_in f None = []
list_in f (Some w) = f w
