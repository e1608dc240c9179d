-- The bits of words.
use Rattle.std.specs.Prelude.{◌≡◌, ℕ, zero, suc, ◌+◌, ◌<◌, ◌/◌, ◌%◌, ◌^◌, Bool, List, [], ◌∷◌, get_or}
use Rattle.gl_wide_slots.specs.Limit.{most_words}
use Rattle.gl_wide_slots.specs.Bits.{in_bits, bits_below}

-- bit u is set: bit u mod 64 of word u div 64
abbrev pub in_words : List ℕ → ℕ → Bool
in_words words u = in_bits (get_or words (u / 64) 0) (u % 64)

-- the n words whose bit u is set if u is below 64 n and passes
abbrev pub words_below : ℕ → (ℕ → Bool) → List ℕ
words_below zero member = []
words_below (suc n) member = bits_below 64 member ∷ words_below n (λ u. member (64 + u))

-- w is the first word that is not 0
pub record IsFirstWord (words : List ℕ) (w : ℕ) : Type 0 where
  pub within : w < most_words
  pub some : 0 < get_or words w 0
  pub fits : get_or words w 0 < 2 ^ 64
  pub none_before : (v : ℕ) → v < w → get_or words v 0 ≡ 0
