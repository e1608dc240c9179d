-- Which commands empty a box of their own: for a step that is delivered.
use Rattle.std.specs.Prelude.{◌≡◌, Bool, true, false, not, ◌&&◌, if◌then◌else◌, List}
use Rattle.std.proofs.Common.{refl}
use Rattle.gl_modes.proofs.Words.{and_both}
use Rattle.gl_model.specs.Tellings.{Told}
use Rattle.gl_steps.specs.declared.command.Answer.{Answer}
use Rattle.gl_steps.specs.declared.command.Command.{Command}
use Rattle.gl_steps.specs.declared.command.Command.TheVariants as command
use Rattle.gl_wakes.specs.Boxes.{Delivers, Slot, cleared, emptied}
use Rattle.gl_steps.specs.Served.{accepts, is_query, is_refused}

-- a command that only asks empties none
emptied_query : (c : Command) (boxes : List Slot) → is_query c ≡ true → emptied c boxes ≡ boxes
emptied_query (command.Lock t n m) boxes asks = absurd (cc asks)
emptied_query c boxes asks = refl

asks_if : (b : Bool) → not b && not false ≡ false → b ≡ true
asks_if true e = refl
asks_if false e = absurd (cc e)

served_if : (b : Bool) → not b ≡ true → b ≡ false
served_if false e = refl
served_if true e = absurd (cc e)

-- a command that is not accepted empties none
pub cleared_not : (c : Command) (a : Answer) (boxes : List Slot) → accepts c a ≡ false → cleared c a boxes ≡ boxes
cleared_not c a boxes out = by (is_refused a) out
  where
    by : (b : Bool) → not (is_query c) && not b ≡ false → (if b then boxes else emptied c boxes) ≡ boxes
    by true e = refl
    by false e = emptied_query c boxes (asks_if (is_query c) e)

-- an accepted command that was delivered
pub cleared_yes : (c : Command) (a : Answer) (told : Told) (before after : List Slot) → accepts c a ≡ true
    → ((mid : List Slot) × Delivers before told mid × (after ≡ emptied c mid))
    → (mid : List Slot) × Delivers before told mid × (after ≡ cleared c a mid)
cleared_yes c a told before after so delivered =
    let served = served_if (is_refused a) (and_both (not (is_query c)) (not (is_refused a)) so).1 in
    (delivered.0, delivered.1, rw served delivered.2)
