-- The slots that a question asks for.
use Rattle.std.specs.Prelude.{◌≡◌, ℕ, Bool, Option, Some, None}
use Rattle.gl_modes.specs.declared.refusal.Refusal.{Refusal}
use Rattle.gl_modes.specs.Refusals.{refusal_number}
use Rattle.gl_slots.specs.Slots.{has_bit, has_slot, no_bits}
use Rattle.gl_model.specs.State.{State}
use Rattle.gl_catalog.specs.Manager.{state_of}
use Rattle.gl_c.specs.declared.answers.found.Found.{Found}
use Rattle.gl_c.specs.Boards.{set_of, slots_of}
use Rattle.gl_c.specs.managers.Guarded.{GuardedView}
use Rattle.gl_c.specs.Numbers.{done, no_manager}

-- no slots, with this status
abbrev pub none_found : ℕ → Found
none_found status = record { status = status; slots = slots_of no_bits }

-- a call that asks whose wait the last accepted command may have ended: nothing changes
abbrev pub FindsEnded : Option GuardedView → Found → Option GuardedView → Type 0
FindsEnded None f s' = (f ≡ none_found no_manager) × (s' ≡ None)
FindsEnded (Some g) f s' = (f.status ≡ done) × ((u : ℕ) → has_bit (set_of f.slots) u ≡ has_slot g.ended u) × (s' ≡ Some g)

-- these slots are found, or the question is refused
abbrev pub Finds : Option Refusal → (ℕ → Bool) → Found → Type 0
Finds None set f = (f.status ≡ done) × ((u : ℕ) → has_bit (set_of f.slots) u ≡ set u)
Finds (Some r) set f = f ≡ none_found (refusal_number r)

-- a call that asks for slots of a state: nothing changes
abbrev pub FindsIn : Option GuardedView → (State → Option Refusal) → (State → ℕ → Bool) → Found → Option GuardedView → Type 0
FindsIn None refusal set f s' = (f ≡ none_found no_manager) × (s' ≡ None)
FindsIn (Some g) refusal set f s' = Finds (refusal (state_of g.manager)) (set (state_of g.manager)) f × (s' ≡ Some g)
