-- A test that passes at each of the six modes passes at every mode, so a law of the modes is proved by computing it.
use Rattle.std.proofs.Common.{◌≡◌, ◌&&◌, Bool, true, false, not, refl, arith}
use Rattle.gl_modes.specs.declared.mode.Mode.{Mode}
use Rattle.gl_modes.specs.declared.mode.Mode.TheVariants.{NL, IS, IX, S, SIX, X}

-- the test at each of the six modes
abbrev pub every : (Mode → Bool) → Bool
every p = p NL && p IS && p IX && p S && p SIX && p X

abbrev pub every2 : (Mode → Mode → Bool) → Bool
every2 p = every (λ a. every (p a))

abbrev pub every3 : (Mode → Mode → Mode → Bool) → Bool
every3 p = every (λ a. every2 (p a))

pub every-true : (p : Mode → Bool) → every p ≡ true → (m : Mode) → p m ≡ true
every-true p h NL = grind arith
every-true p h IS = grind arith
every-true p h IX = grind arith
every-true p h S = grind arith
every-true p h SIX = grind arith
every-true p h X = grind arith

pub every2-true : (p : Mode → Mode → Bool) → every2 p ≡ true → (a b : Mode) → p a b ≡ true
every2-true p h a b = every-true (p a) (every-true (λ x. every (p x)) h a) b

pub every3-true : (p : Mode → Mode → Mode → Bool) → every3 p ≡ true → (a b c : Mode) → p a b c ≡ true
every3-true p h a b c = every2-true (p a) (every-true (λ x. every2 (p x)) h a) b c

-- an equation of tests, and an implication, as tests
abbrev pub same : Bool → Bool → Bool
same true b = b
same false b = not b

pub same-equal : (a b : Bool) → same a b ≡ true → a ≡ b
same-equal true true h = refl
same-equal true false h = cc
same-equal false true h = cc
same-equal false false h = refl

abbrev pub implies : Bool → Bool → Bool
implies true b = b
implies false b = true

pub implied : (a b : Bool) → implies a b ≡ true → a ≡ true → b ≡ true
implied true b h e = h
implied false b h e = cc
