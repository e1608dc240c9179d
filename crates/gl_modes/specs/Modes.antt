-- Modes: their compatibility, order, suprema and spellings.
use Rattle.std.specs.Prelude.{ℕ, Bool, true, false, List, codes}
use Rattle.gl_modes.specs.declared.mode.Mode.{Mode}
use Rattle.gl_modes.specs.declared.mode.Mode.TheVariants.{NL, IS, IX, S, SIX, X}

-- the table of compatibility, row by row, with a row for no lock
abbrev pub are_compatible : Mode → Mode → Bool
are_compatible NL _ = true
are_compatible IS X = false
are_compatible IS _ = true
are_compatible IX NL = true
are_compatible IX IS = true
are_compatible IX IX = true
are_compatible IX _ = false
are_compatible S NL = true
are_compatible S IS = true
are_compatible S S = true
are_compatible S _ = false
are_compatible SIX NL = true
are_compatible SIX IS = true
are_compatible SIX _ = false
are_compatible X NL = true
are_compatible X _ = false

-- a is b or greater: NL < IS < IX < SIX < X and IS < S < SIX
abbrev pub is_at_least : Mode → Mode → Bool
is_at_least _ NL = true
is_at_least NL _ = false
is_at_least _ IS = true
is_at_least IS _ = false
is_at_least IX IX = true
is_at_least IX _ = false
is_at_least S S = true
is_at_least S _ = false
is_at_least SIX X = false
is_at_least SIX _ = true
is_at_least X _ = true

-- the table of suprema, row by row
abbrev pub supremum : Mode → Mode → Mode
supremum NL b = b
supremum IS NL = IS
supremum IS b = b
supremum IX NL = IX
supremum IX IS = IX
supremum IX IX = IX
supremum IX X = X
supremum IX _ = SIX
supremum S NL = S
supremum S IS = S
supremum S S = S
supremum S X = X
supremum S _ = SIX
supremum SIX X = X
supremum SIX _ = SIX
supremum X _ = X

-- the same mode
abbrev pub same_mode : Mode → Mode → Bool
same_mode NL NL = true
same_mode IS IS = true
same_mode IX IX = true
same_mode S S = true
same_mode SIX SIX = true
same_mode X X = true
same_mode _ _ = false

-- the spelling of a mode
abbrev pub mode_text : Mode → List ℕ
mode_text NL = codes "NL"
mode_text IS = codes "IS"
mode_text IX = codes "IX"
mode_text S = codes "S"
mode_text SIX = codes "SIX"
mode_text X = codes "X"
