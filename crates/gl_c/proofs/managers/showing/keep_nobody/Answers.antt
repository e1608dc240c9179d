use Rattle.std.proofs.Common.{rules, ◌≡◌, ◌∙◌, ap, refl, sym}
use Rattle.std.specs.Bool.{then_some}
use Rattle.std.specs.Prelude.{Bool, true, false, MatchOption, Option, Some, None, if◌then◌else◌}
use Rattle.gl_slots.specs.Slots.{has_none}
use Rattle.gl_slots.specs.declared.slots.Slots.{Slots}
use Rattle.gl_window.specs.Tellings.{still_known}
use Rattle.gl_window.proofs.Emptiness.{tests_none}
use Rattle.gl_c.specs.declared.managers.showing.Showing.{Showing}
use Rattle.gl_c.specs.managers.Serving.{known_after}
use Rattle.gl_c.specs.managers.Showing.{parties_in}
use Rattle.gl_c.proofs.managers.showing.keep_nobody.Goals as goal

-- what a test leaves of the parties
filtered : (tests : Slots → Bool → Type 0) (parties after : Option Slots) (leaves : Slots → Bool)
    → MatchOption parties (after ≡ None) (λ x. (b : Bool) × tests x b × (after ≡ then_some b x)) → ((x : Slots) (b : Bool) → tests x b → b ≡ leaves x)
    → after ≡ still_known parties leaves
filtered tests None after leaves is same = is
filtered tests (Some x) after leaves is same =
    is.2 ∙ some_if is.0 ∙ ap (λ b. if b then Some x else None) (same x is.0 is.1)
  where
    some_if : (b : Bool) → then_some b x ≡ (if b then Some x else None)
    some_if true = refl
    some_if false = refl

pub returns-clause-parties : goal.returns-clause-parties
returns-clause-parties c =
    filtered _ c.in-Some.showing.parties c.filter-showing.result has_none c.filter-showing.ensures (λ x b k. tests_none x b (search rules))
    ∙ ap (λ (o : Option Showing). still_known (parties_in o) has_none) (sym c.in-Some.is)
    ∙ ap (λ (b : Bool). known_after b (parties_in c.args.showing.now) has_none) (sym c.if-went_on.false)
