-- Seats, and the tokens that have them.
use Rattle.std.specs.Prelude.{◌≡◌, ℕ, ◌+◌, ◌^◌, ◌==◌, List, [], ◌∷◌, length, slice_index, Option, Some, None, if◌then◌else◌, bit_or}
use Rattle.std.specs.Int.{bit_at}
use Rattle.atomic_table.specs.Table.{State, Me, Step}
use Rattle.gl_window.specs.declared.seats.Sitter.{Sitter}

-- 1 if this is seat n, else 0
abbrev pub one_at : ℕ → Option ℕ → ℕ
one_at n None = 0
one_at n (Some m) = if m == n then 1 else 0

-- how many tokens have seat n
abbrev pub sitting : ℕ → List Sitter → ℕ
sitting n [] = 0
sitting n (v ∷ vs) = one_at n v.has + sitting n vs

-- one token has each seat whose bit is set, and none any other
pub record Seated (s : State (Unit {0}) Sitter) : Type 0 where
  pub one_word : length s.words ≡ 1
  pub each : (n : ℕ) → sitting n s.views ≡ bit_at (slice_index s.words 0) n

abbrev pub Token : Type 0
Token = Me (Unit {0}) Sitter

-- a token that has no seat and has looked at none
abbrev pub newcomer : Sitter
newcomer = record { has = None; tried = 0; found = None }

-- a new token
abbrev pub Comes : Step (Unit {0}) → Token → ℕ → Token → Type 0
Comes st m r m' = m'.0 ≡ newcomer

-- a new token has looked at all seats
abbrev pub Glances : Step (Unit {0}) → Token → ℕ → Token → Type 0
Glances st m r m' = m'.0 ≡ record { has = None; tried = 0; found = Some r }

-- for a seat by its bit: it was free, and is now the token's; or it was found taken
abbrev pub Takes : Step (Unit {0}) → Token → ℕ → Token → Type 0
Takes st m r m' = (n : ℕ) → st.first ≡ 2 ^ n
    → (bit_at r n ≡ 0 → m'.0 ≡ record { has = Some n; tried = m.0.tried; found = m.0.found })
    × (bit_at r n ≡ 1 → m'.0 ≡ record { has = m.0.has; tried = bit_or m.0.tried st.first; found = m.0.found })

-- the seat is given back
abbrev pub Leaves : Step (Unit {0}) → Token → ℕ → Token → Type 0
Leaves st m r m' = m'.0.has ≡ None
