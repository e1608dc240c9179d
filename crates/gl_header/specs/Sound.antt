-- The law as tests over the queue, and what holds of a header's fields. For the crate.
use Rattle.gl_slots.specs.Limit.{most_slots}
use Rattle.std.specs.Prelude.{◌≡◌, Bool, true, cond, ◌&&◌, not, List, [], ◌∷◌, ltb}
use Rattle.std.specs.List.{list_all}
use Rattle.gl_modes.specs.declared.mode.Mode.TheVariants.{NL}
use Rattle.gl_modes.specs.Modes.{same_mode, is_at_least}
use Rattle.gl_header.specs.Header.{
  Members,
  Waiter,
  IsCompatible,
  IsWithin,
  fits,
  holds,
  is_among_waiters,
}
use Rattle.gl_header.specs.Groups.{Grouped, IsGroup, held_by}
use Rattle.gl_header.specs.State.{HeaderState, slot_limit}
use Rattle.gl_header.specs.declared.header.Header.TheInside.{Inside}

-- no slot waits twice
abbrev pub is_distinct : List Waiter → Bool
is_distinct [] = true
is_distinct (e ∷ es) = not (is_among_waiters e.0 es) && is_distinct es

-- a slot is below the limit and its mode is a lock
abbrev pub is_entry : Waiter → Bool
is_entry e = ltb e.0 most_slots && not (same_mode e.1 NL)

-- nobody in the queue is a member
abbrev pub all_new : Members → List Waiter → Bool
all_new g q = list_all (λ w. not (holds g w.0)) q

-- members wait ahead of all newcomers
abbrev pub is_ordered : Members → List Waiter → Bool
is_ordered g [] = true
is_ordered g (w ∷ ws) = cond (holds g w.0) (is_ordered g ws) (all_new g ws)

-- each wanted mode is the held one or greater
abbrev pub all_rise : Members → List Waiter → Bool
all_rise g q = list_all (λ w. is_at_least w.1 (g w.0)) q

-- the first waiter does not fit
abbrev pub is_stuck : Members → List Waiter → Bool
is_stuck g [] = true
is_stuck g (w ∷ ws) = not (fits slot_limit g w.0 w.1)

-- the law, except that the first waiter may be one that fits
pub record IsOrderly (g : Members) (q : List Waiter) : Type 0 where
  pub within : IsWithin slot_limit g
  pub compatible : IsCompatible g
  pub distinct : is_distinct q ≡ true
  pub valid : list_all is_entry q ≡ true
  pub ordered : is_ordered g q ≡ true
  pub rise : all_rise g q ≡ true

-- the law of members and queue
pub record IsLawful (g : Members) (q : List Waiter) : Type 0 where
  pub orderly : IsOrderly g q
  pub stuck : is_stuck g q ≡ true

-- the queue with one more: a member after the waiting members and ahead of all others, a newcomer last
abbrev pub placed_in : Members → List Waiter → Waiter → List Waiter
placed_in g [] e = e ∷ []
placed_in g (w ∷ ws) e = cond (holds g e.0 && not (holds g w.0)) (e ∷ w ∷ ws) (w ∷ placed_in g ws e)

-- what a contract sees of the fields
abbrev pub state_of : Inside → HeaderState
state_of h = record { granted = Grouped h.granted; queue = h.queue.items }

-- what holds of the fields
pub record IsSound (h : Inside) : Type 0 where
  pub group : IsGroup h.granted
  pub lawful : IsLawful (held_by h.granted) h.queue.items
