-- The granted group: the mode that each slot holds, by two sets of slots.
use Rattle.gl_slots.specs.Limit.{most_slots}
use Rattle.std.specs.Prelude.{◌≡◌, ◌≢◌, ℕ, ◌≤◌, Bool, true, false, cond, ◌⊎◌, ◌||◌, ◌==◌}
use Rattle.gl_modes.specs.declared.mode.Mode.{Mode}
use Rattle.gl_modes.specs.declared.mode.Mode.TheVariants.{NL, IS}
use Rattle.gl_modes.specs.Modes.{are_compatible, same_mode, supremum}
use Rattle.gl_slots.specs.declared.slots.Slots.{Slots}
use Rattle.gl_slots.specs.Slots.{HasNoSlot, has_none, has_slot, no_slots}
use Rattle.gl_header.specs.declared.group.Group.{Group}
use Rattle.gl_header.specs.Header.{Members, with_mode}

-- the mode that each slot holds: the holders hold the group's mode, the others with an intent hold IS
abbrev pub held_by : Group → Members
held_by g = λ t. cond (has_slot g.holders t) g.mode (cond (has_slot g.intents t) IS NL)

-- the group mode: the mode; if somebody holds IS, the supremum of both
abbrev pub group_mode : Group → Mode
group_mode g = cond (has_none g.intents) g.mode (supremum g.mode IS)

-- nobody holds
abbrev pub nobody : Members
nobody = λ _. NL

-- the group without members
abbrev pub no_group : Group
no_group = record { mode = NL; holders = no_slots; intents = no_slots }

-- nobody but s is in the set, or the mode is compatible with what they hold
abbrev pub GoesBeside : Slots → Mode → ℕ → Mode → Type 0
GoesBeside set held s m = (u : ℕ) → u ≢ s → has_slot set u ≡ true → are_compatible m held ≡ true

-- the holders of a node: one slot in one mode, or a group
pub data Grants : Type 0 where
  Alone : (slot : ℕ) → (mode : Mode) → Grants
  Grouped : (group : Group) → Grants

-- the mode that each slot holds
abbrev pub members_in : Grants → Members
members_in (Alone t m) = with_mode nobody t m
members_in (Grouped g) = held_by g

-- the slot is listed as a holder
abbrev pub is_listed : Grants → ℕ → Bool
is_listed (Alone t m) u = u == t
is_listed (Grouped g) u = has_slot g.holders u || has_slot g.intents u

-- the group mode of the holders
abbrev pub mode_of_all : Grants → Mode
mode_of_all (Alone t m) = m
mode_of_all (Grouped g) = group_mode g

-- what holds of every granted group
pub record IsGroup (g : Group) : Type 0 where
  -- no slot is in both sets
  pub apart : (u : ℕ) → has_slot g.holders u ≡ true → has_slot g.intents u ≡ false
  -- holders of IS are in the intents
  pub not_IS : same_mode g.mode IS ≡ false
  -- the mode is a lock exactly if somebody holds it
  pub idle : HasNoSlot g.holders → g.mode ≡ NL
  pub free : g.mode ≡ NL → HasNoSlot g.holders
  -- slots are below the limit
  pub holders_below : (u : ℕ) → most_slots ≤ u → has_slot g.holders u ≡ false
  pub intents_below : (u : ℕ) → most_slots ≤ u → has_slot g.intents u ≡ false

-- besides IS at most one mode is held
abbrev pub HoldsTwoModes : Members → Type 0
HoldsTwoModes g = (m : Mode) × ((t : ℕ) → (g t ≡ NL) ⊎ ((g t ≡ IS) ⊎ (g t ≡ m)))
