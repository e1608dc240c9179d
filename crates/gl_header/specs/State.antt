-- What a contract sees of a header, and the law of every header.
use Rattle.gl_slots.specs.Limit.{most_slots}
use Rattle.std.specs.Prelude.{◌≡◌, ◌≢◌, ℕ, Bool, true, not, ◌&&◌, List, [], ◌∷◌, Some}
use Rattle.std.specs.List.{filter, list_all, range_with_len}
use Rattle.gl_modes.specs.declared.mode.Mode.{Mode}
use Rattle.gl_modes.specs.declared.mode.Mode.TheVariants.{NL}
use Rattle.gl_modes.specs.Modes.{supremum, is_at_least}
use Rattle.gl_header.specs.Header.{
  Members,
  Waiter,
  IsCompatible,
  IsWithin,
  AreBelow,
  holds,
  group_of,
  is_waiter,
  wanted_by,
  is_ahead,
  is_empty,
  enters,
  front,
}
use Rattle.gl_header.specs.Groups.{Grants, Alone, Grouped, HoldsTwoModes, is_listed, members_in, mode_of_all, no_group}
unfoldable pub use Rattle.gl_slots.specs.Slots.{slot_limit}

-- the holders, and the waiters from the front on
pub record HeaderState : Type 0 where
  pub granted : Grants
  pub queue : List Waiter

-- nobody holds, and nobody waits
abbrev pub unused_header : HeaderState
unused_header = record { granted = Grouped no_group; queue = [] }

-- one slot holds in this mode, and nobody waits
abbrev pub held_by_one : ℕ → Mode → HeaderState
held_by_one t m = record { granted = Alone t m; queue = [] }

-- the mode that each slot holds
abbrev pub members_of : HeaderState → Members
members_of h = members_in h.granted

-- the wanted mode: the supremum of the held and the requested one
abbrev pub wanted : HeaderState → ℕ → Mode → Mode
wanted h t m = supremum (members_of h t) m

-- a request is granted at once
abbrev pub is_granted : HeaderState → ℕ → Mode → Bool
is_granted h t m = enters slot_limit (members_of h) h.queue t (wanted h t m)

-- nobody below the limit is a member
abbrev pub nobody_holds : ℕ → Members → Bool
nobody_holds most g = list_all (λ t. not (holds g t)) (range_with_len 0 most)

-- nobody holds and nobody waits
abbrev pub is_unused : HeaderState → Bool
is_unused h = nobody_holds slot_limit (members_of h) && is_empty h.queue

-- the law of every header
pub record IsLawfulHeader (h : HeaderState) : Type 0 where
  -- what different slots hold is compatible
  pub compatible : IsCompatible (members_of h)
  -- so besides IS at most one mode is held
  pub two_modes : HoldsTwoModes (members_of h)
  -- exactly the members are listed as holders
  pub listed : (t : ℕ) → is_listed h.granted t ≡ holds (members_of h) t
  -- slots are below the limit
  pub members_below : IsWithin most_slots (members_of h)
  pub waiters_below : AreBelow most_slots h.queue
  -- nobody waits twice
  pub one_wait : (t : ℕ) (m : Mode) → wanted_by h.queue t ≡ Some m → filter (is_waiter t) h.queue ≡ (t, m) ∷ []
  -- a wanted mode is a lock, and the held mode or greater
  pub wanted_rises : (t : ℕ) (m : Mode) → wanted_by h.queue t ≡ Some m → (m ≢ NL) × (is_at_least m (members_of h t) ≡ true)
  -- members wait ahead of all newcomers
  pub holders_first : (t u : ℕ) → holds (members_of h) t ≡ true → is_ahead h.queue t u ≡ true → holds (members_of h) u ≡ true
  -- the first waiter does not fit
  pub front_waits : front slot_limit (members_of h) h.queue ≡ []
  -- the group mode is the supremum of the members' modes
  pub group_is : mode_of_all h.granted ≡ group_of slot_limit (members_of h)
