-- One node's members and queue. Members are a mode for each slot (NL: no member); a queue is a list of slots with wanted modes.
use Rattle.std.specs.Prelude.{
  ◌≡◌,
  ◌≢◌,
  ◌<◌,
  ◌≤◌,
  ℕ,
  Bool,
  true,
  false,
  not,
  ◌&&◌,
  ◌||◌,
  ◌==◌,
  List,
  [],
  ◌∷◌,
  ◌++◌,
  length,
  drop,
  Option,
  Some,
  None,
  if◌then◌else◌,
}
use Rattle.std.specs.List.{filter, find, fold, list_any, list_all, range_with_len, before_first}
use Rattle.gl_modes.specs.declared.mode.Mode.{Mode}
use Rattle.gl_modes.specs.declared.mode.Mode.TheVariants.{NL, S}
use Rattle.gl_modes.specs.Modes.{are_compatible, is_at_least, supremum, same_mode}

-- the mode that each slot holds
abbrev pub Members : Type 0
Members = ℕ → Mode

-- a slot with the mode that it waits for
abbrev pub Waiter : Type 0
Waiter = ℕ × Mode

-- t is a member
abbrev pub holds : Members → ℕ → Bool
holds g t = not (same_mode (g t) NL)

-- the members with one changed
abbrev pub with_mode : Members → ℕ → Mode → Members
with_mode g t m = λ u. if u == t then m else g u

-- what different slots hold is compatible
abbrev pub IsCompatible : Members → Type 0
IsCompatible g = (t u : ℕ) → t ≢ u → are_compatible (g t) (g u) ≡ true

-- every member's slot is below the limit
abbrev pub IsWithin : ℕ → Members → Type 0
IsWithin most g = (u : ℕ) → most ≤ u → g u ≡ NL

-- the mode is compatible with the grant of every other slot below the limit
abbrev pub fits : ℕ → Members → ℕ → Mode → Bool
fits most g t m = list_all (λ u. (u == t) || are_compatible m (g u)) (range_with_len 0 most)

-- the mode is compatible with the grant of every other slot
abbrev pub Fits : Members → ℕ → Mode → Type 0
Fits g t m = (u : ℕ) → u ≢ t → are_compatible m (g u) ≡ true

-- the group mode: the supremum of all members' modes
abbrev pub group_of : ℕ → Members → Mode
group_of most g = fold (λ m u. supremum m (g u)) NL (range_with_len 0 most)

-- the wait is t's
abbrev pub is_waiter : ℕ → Waiter → Bool
is_waiter t w = w.0 == t

-- t waits
abbrev pub is_among_waiters : ℕ → List Waiter → Bool
is_among_waiters t q = list_any (is_waiter t) q

-- every waiter's slot is below the limit
abbrev pub AreBelow : ℕ → List Waiter → Type 0
AreBelow most q = (t : ℕ) → is_among_waiters t q ≡ true → t < most

-- the mode of a wait
abbrev pub mode_in : Option Waiter → Option Mode
mode_in None = None
mode_in (Some w) = Some w.1

-- the mode that t waits for
abbrev pub wanted_by : List Waiter → ℕ → Option Mode
wanted_by q t = mode_in (find (is_waiter t) q)

-- both wait, and u is ahead of t
abbrev pub is_ahead : List Waiter → ℕ → ℕ → Bool
is_ahead q t u = is_among_waiters t q && is_among_waiters u (before_first (is_waiter t) q)

-- the list is empty
abbrev pub is_empty : {A : Type 0} → List A → Bool
is_empty [] = true
is_empty (x ∷ xs) = false

-- t holds S or greater, or something while somebody waits
abbrev pub hinders : Members → List Waiter → ℕ → Bool
hinders g q t = is_at_least (g t) S || (holds g t && not (is_empty q))

-- granted at once: a member if the mode fits, a newcomer if it fits and nobody waits
abbrev pub enters : ℕ → Members → List Waiter → ℕ → Mode → Bool
enters most g q t m = fits most g t m && (holds g t || is_empty q)

-- the queue with one more wait: a member's after the waiting members and ahead of all others, a newcomer's last
abbrev pub placed : Members → List Waiter → ℕ → Mode → List Waiter
placed g q t m =
    if holds g t
    then filter (λ w. holds g w.0) q ++ (t, m) ∷ filter (λ w. not (holds g w.0)) q
    else q ++ (t, m) ∷ []

-- the longest front of the queue whose waiters fit, each after those before it are granted
abbrev pub front : ℕ → Members → List Waiter → List Waiter
front most g [] = []
front most g (w ∷ q) = if fits most g w.0 w.1 then w ∷ front most (with_mode g w.0 w.1) q else []

-- the members after these waiters are granted
abbrev pub after_grants : Members → List Waiter → Members
after_grants g [] = g
after_grants g (w ∷ ws) = after_grants (with_mode g w.0 w.1) ws

-- the members after the front is granted
abbrev pub pumped_members : ℕ → Members → List Waiter → Members
pumped_members most g q = after_grants g (front most g q)

-- the queue after the front is granted
abbrev pub pumped_queue : ℕ → Members → List Waiter → List Waiter
pumped_queue most g q = drop (length (front most g q)) q

-- the queue without the wait of t
abbrev pub without_waiter : ℕ → List Waiter → List Waiter
without_waiter t q = filter (λ w. not (is_waiter t w)) q
