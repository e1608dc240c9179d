-- Commands that are served under the latch: one, or a list of them together.
use Rattle.std.specs.Prelude.{◌≡◌, ℕ, ◌+◌, ◌<◌, Bool, true, false, ◌||◌, List, [], ◌∷◌, length, map, take, MatchBool}
use Rattle.gl_slots.specs.declared.slots.Slots.{Slots}
use Rattle.gl_model.specs.Tellings.{Told}
use Rattle.gl_steps.specs.declared.command.Answer.{Answer}
use Rattle.gl_steps.specs.declared.command.Answer.TheVariants as answer
use Rattle.gl_steps.specs.declared.command.Command.{Command}
use Rattle.gl_catalog.specs.Manager.{IsLawfulManager, state_of}
use Rattle.gl_steps.specs.Step.{Step}
use Rattle.gl_steps.specs.Served.{accepts, leaves_waiting}
use Rattle.gl_wakes.specs.Boxes.{Delivers, Slot, cleared}
use Rattle.gl_wakes.specs.Wakes.{HasEnded}
use Rattle.gl_shared.specs.State.{GuardedView}

-- the next command is served after this answer: it is no refusal, leaves no transaction waiting and makes none a victim
abbrev pub goes_on : Answer → Bool
goes_on (answer.Refused r) = false
goes_on answer.Waiting = false
goes_on answer.Victim = false
goes_on a = true

-- 1 if true, else 0
abbrev pub one_if : Bool → ℕ
one_if true = 1
one_if false = 0

-- one command under the latch: a step of the manager, counted if accepted; the boxes have its notices, but an accepted lock empties its own slot's; a command
-- that is not accepted changes nothing
pub record ServesOne (g : GuardedView) (c : Command) (a : Answer) (told : Told) (g' : GuardedView) : Type 0 where
  pub step : Step (state_of g.manager) c a told (state_of g'.manager)
  pub boxes : (mid : List Slot) × Delivers g.boxes told mid × (g'.boxes ≡ cleared c a mid)
  pub not_accepted : accepts c a ≡ false → (g' ≡ g) × (told ≡ [])
  pub book : g'.book ≡ g.book + one_if (accepts c a)
  pub waited : accepts c a ≡ true → g'.waited ≡ (g.waited || leaves_waiting a)
  pub list : (g'.list ≡ g.list) × (g'.telling ≡ g.telling)

-- a list of commands, one after the other, with a reply to each
abbrev pub ServesEach : GuardedView → List Command → List (Answer × Told) → GuardedView → Type 0
ServesEach g [] [] g' = g' ≡ g
ServesEach g (c ∷ cs) (r ∷ rs) g' = (mid : GuardedView) × ServesOne g c r.0 r.1 mid × ServesEach mid cs rs g'
ServesEach g [] (r ∷ rs) g' = ⊥
ServesEach g (c ∷ cs) [] g' = ⊥

-- the answered commands, from one state under the latch to another, with any notices
abbrev pub Serves : GuardedView → List Command → List Answer → GuardedView → Type 0
Serves g cs xs g' = (rs : List (Answer × Told)) × (map (λ r. r.0) rs ≡ xs) × ServesEach g (take (length xs) cs) rs g'

-- each command is answered, up to the first after which the list stops
abbrev pub Stops : List Command → List Answer → Type 0
Stops [] [] = Unit {0}
Stops [] (a ∷ xs) = ⊥
Stops (c ∷ cs) [] = ⊥
Stops (c ∷ cs) (a ∷ xs) = MatchBool (goes_on a) (Stops cs xs) (xs ≡ [])

-- how many of the answered commands were accepted
abbrev pub accepted_in : List Command → List Answer → ℕ
accepted_in [] xs = 0
accepted_in (c ∷ cs) [] = 0
accepted_in (c ∷ cs) (a ∷ xs) = one_if (accepts c a) + accepted_in cs xs

-- the commands were served together from a lawful state, with these answers and this count of accepted commands after them; if any was accepted, the set has
-- the slots whose wait they ended
abbrev pub AreServed : List Command → List Answer → ℕ → Slots → Type 0
AreServed cs xs count woken =
    (g : GuardedView) × (h : GuardedView) × IsLawfulManager g.manager × Serves g cs xs h × (count ≡ h.manager.accepted)
    × (0 < accepted_in cs xs → HasEnded (state_of g.manager) (state_of h.manager) woken)
