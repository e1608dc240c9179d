-- Numbers and their one text.
use Rattle.std.proofs.Common.{◌<◌, [], ◌^◌, ◌∙◌, ◌∷◌, ◌≡◌, ◌≢◌, ◌⊎◌, All, ap, arith, decimal, eq-zero-or-pos, Err, get_or, inl, inr, length, List, Ok, Result}
use Rattle.std.proofs.Common.{rules, subst, sym, ℕ}
use Rattle.std.specs.Str.Parse.{AllDigits, digits_value, ParsesUnsigned}
use Rattle.std.specs.Str.{IsUtf8}
use Rattle.std.proofs.lemmas.Str.{IsUtf8-from_ascii}
use Rattle.std.proofs.lemmas.Str.Parse.{digit_at, IsDigitsTest, IsNumeralModel, numerals_by_value, parse_plain}
use Rattle.std.specs.Result.{OkIff}
use Rattle.std.proofs.lemmas.Fmt.{decimal-digits_value, decimal_digit, decimal_is_IsNumeral, first_decimal, IsAscii-decimal, parse-decimal}
use Rattle.std.proofs.lemmas.List.Elements.{All-from_get_or, All-get_or}
use Rattle.gl_script.specs.Numbers.{IsDigit, IsPlain}

tests : IsDigitsTest (AllDigits 10)
tests = search rules

all_digits : (ds : List ℕ) → AllDigits 10 ds → All IsDigit ds
all_digits ds h = All-from_get_or IsDigit ds 0 (λ i lt. digit_at ds i h lt)

own : IsNumeralModel (AllDigits 10) (digits_value 10)
own = numerals_by_value (AllDigits 10) tests

lead_of : (n : ℕ) → n < 2 ^ 64 → (n ≡ 0) ⊎ (0 < n) → get_or (decimal n) 0 0 ≡ 48 → length (decimal n) ≡ 1
lead_of n h (inl z) e = ap (λ m. length (decimal m)) z ∙ ap length (decimal_digit 0 (omega arith))
lead_of n h (inr some) e = absurd (omega (arith, e, first_decimal n some h))

pub decimal_plain : (n : ℕ) → n < 2 ^ 64 → IsPlain (decimal n)
decimal_plain n h =
    let is = decimal_is_IsNumeral n h in
    record { some = is.0.0; digits = all_digits (decimal n) is.0.1; lead = lead_of n h (eq-zero-or-pos n) }

no_plus : (text : List ℕ) → IsPlain text → get_or text 0 0 ≢ 43
no_plus text p e = omega (arith, (All-get_or IsDigit text 0 0 p.some p.digits).0, e)

pub plain_read : {E : Type 0} (text : List ℕ) (n : ℕ) (r : Result ℕ E) → IsPlain text → r ≡ Ok n → ParsesUnsigned 64 10 text r → text ≡ decimal n
plain_read {E} text n r p e h =
    let parsed = subst (λ q. OkIff q (AllDigits 10 text × (0 < length text) × (digits_value 10 text < 2 ^ 64)) (digits_value 10 text)) e
    (parse_plain own 64 text r h (no_plus text p)) in
    sym (decimal-digits_value own text parsed.0.0 p.some p.lead parsed.0.2) ∙ ap decimal (sym parsed.1)

pub plain_unread : {E : Type 0} (text : List ℕ) (x : E) (r : Result ℕ E) → r ≡ Err x → ParsesUnsigned 64 10 text r → (n : ℕ) → n < 2 ^ 64 → text ≡ decimal n → ⊥
plain_unread text x r e h n small same =
    let read = parse-decimal 64 n text r small small same h in
    let bad : Err x ≡ Ok n = sym e ∙ read in cc

pub not_plain : (text : List ℕ) → ¬ (IsPlain text) → (n : ℕ) → n < 2 ^ 64 → text ≡ decimal n → ⊥
not_plain text h n small same = h (subst IsPlain (sym same) (decimal_plain n small))

pub not_utf8 : (text : List ℕ) → ¬ (IsUtf8 text) → (n : ℕ) → n < 2 ^ 64 → text ≡ decimal n → ⊥
not_utf8 text h n small same = h (subst IsUtf8 (sym same) (IsUtf8-from_ascii (decimal n) (IsAscii-decimal n small)))
