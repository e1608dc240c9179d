-- The count of a crew, and how it ends.
use Rattle.std.specs.Prelude.{◌≡◌, ℕ, ◌+◌, ◌-◌, ◌*◌, ◌≤◌, true, List, [], ◌∷◌, Option, Some, None, All, is_some}
use Rattle.gl_model.specs.declared.answers.Detect.{Detect}
use Rattle.gl_model.specs.declared.answers.Detect.TheVariants.{AtBlock, ByWatcher}
use Rattle.gl_crew.specs.declared.fault.CrewFault.{CrewFault}

-- this many commands for each round of each session; with detection by a watcher also settles
abbrev pub IsCountOf : Detect → ℕ → ℕ → ℕ → ℕ → Type 0
IsCountOf AtBlock commands sessions rounds count = count ≡ commands * (sessions * rounds)
IsCountOf ByWatcher commands sessions rounds count = commands * (sessions * rounds) ≤ count

-- seven commands for each round of each session
abbrev pub IsCount : Detect → ℕ → ℕ → ℕ → Type 0
IsCount detect sessions rounds count = IsCountOf detect 7 sessions rounds count

-- a share for each session, and with detection by a watcher one more
abbrev pub shares_of : ℕ → Detect → ℕ
shares_of sessions AtBlock = sessions
shares_of sessions ByWatcher = sessions + 1

-- the sum of the shares, each of this amount, except a watcher's
abbrev pub IsSumOf : Detect → ℕ → ℕ → ℕ → Type 0
IsSumOf AtBlock shares amount sum = sum ≡ shares * amount
IsSumOf ByWatcher shares amount sum = (shares - 1) * amount ≤ sum

-- a session has its share back; without a fault it has counted this amount
abbrev pub HasServed : ℕ → Option ℕ → Option CrewFault → Type 0
HasServed amount share fault = (is_some share ≡ true) × (fault ≡ None → share ≡ Some amount)

-- no session met a fault
abbrev pub IsFaultless : List (Option CrewFault) → Type 0
IsFaultless faults = All (λ fault. fault ≡ None) faults

-- the fault of the session with the least number, of those that met one
abbrev pub first_fault : List (Option CrewFault) → Option CrewFault
first_fault [] = None
first_fault (None ∷ faults) = first_fault faults
first_fault (Some fault ∷ faults) = Some fault
