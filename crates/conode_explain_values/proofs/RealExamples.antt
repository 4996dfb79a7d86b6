-- The text of REAL32 and REAL64, evaluated on both sides of each edge.
use Rattle.std.proofs.Common.{◌≡◌, ℕ, [], ◌∷◌, ◌^◌, ◌*◌, ◌-◌, true, false, refl, Some, map}
use Rattle.std.specs.Prelude.{codes}
use Rattle.std.specs.Fmt.{digits}
use Rattle.std.specs.Float.{float_is_finite}
use Rattle.std.specs.Float.Ieee.{binary32, binary64, inf, nan, to_bits}
use Rattle.std.specs.Float.Parse.{parse_float}
use Rattle.fast_float.proofs.OnLiterals.{fast_float_on_literals}
use Rattle.co_text.specs.Printed.{digits_text}
use Rattle.conode_explain_values.specs.declared.scaled.Scaled.{Scaled}
use Rattle.conode_explain_values.specs.declared.value_type.ValueType.TheVariants.{Real32, Real64}
use Rattle.conode_explain_values.specs.Reals.{digits_shown, doubled, exponent_of, fixed_text, half, halved, read_bits, real_text, rounded, significand_of, text_from, twice}
use Rattle.conode_explain_values.specs.Values.{value_text}

-- ---- whole values

half_more : value_text Real32 32 (0x00 ∷ 0x00 ∷ 0xBC ∷ 0x41 ∷ []) ≡ codes "23.5"
unfolding value_text text_from halved doubled fixed_text digits digits_text fast_float_on_literals float_is_finite to_bits
half_more = refl

-- the nearest REAL32 to a tenth, below zero
tenth : value_text Real32 32 (0xCD ∷ 0xCC ∷ 0xCC ∷ 0xBD ∷ []) ≡ codes "-0.1"
unfolding value_text text_from halved doubled fixed_text digits digits_text fast_float_on_literals float_is_finite to_bits
tenth = refl

tenth64 : value_text Real64 64 (0x9A ∷ 0x99 ∷ 0x99 ∷ 0x99 ∷ 0x99 ∷ 0x99 ∷ 0xB9 ∷ 0x3F ∷ []) ≡ codes "0.1"
unfolding value_text text_from halved doubled fixed_text digits digits_text fast_float_on_literals float_is_finite to_bits
tenth64 = refl

-- the smallest and the greatest
smallest : value_text Real32 32 (1 ∷ 0 ∷ 0 ∷ 0 ∷ []) ≡ codes "1e-45"
unfolding value_text text_from halved doubled fixed_text digits digits_text fast_float_on_literals float_is_finite to_bits
smallest = refl

greatest : value_text Real32 32 (0xFF ∷ 0xFF ∷ 0x7F ∷ 0x7F ∷ []) ≡ codes "3.4028235e38"
unfolding value_text text_from halved doubled fixed_text digits digits_text fast_float_on_literals float_is_finite to_bits
greatest = refl

whole : value_text Real32 32 (0x00 ∷ 0x00 ∷ 0x80 ∷ 0x47 ∷ []) ≡ codes "65536.0"
unfolding value_text text_from halved doubled fixed_text digits digits_text fast_float_on_literals float_is_finite to_bits
whole = refl

words : map (real_text binary32) (0 ∷ 0x80000000 ∷ 0x7F800000 ∷ 0xFF800000 ∷ 0x7FC00000 ∷ 0xFF800001 ∷ [])
    ≡ Some (codes "0.0") ∷ Some (codes "-0.0") ∷ Some (codes "inf") ∷ Some (codes "-inf") ∷ Some (codes "NaN") ∷ Some (codes "NaN") ∷ []
words = refl

words64 : map (real_text binary64) (0 ∷ 0x8000000000000000 ∷ 0x7FF0000000000000 ∷ 0xFFF0000000000000 ∷ 0x7FF0000000000001 ∷ [])
    ≡ Some (codes "0.0") ∷ Some (codes "-0.0") ∷ Some (codes "inf") ∷ Some (codes "-inf") ∷ Some (codes "NaN") ∷ []
words64 = refl

-- the words are read as what they stand for too
zeros : map (read_bits binary32) (codes "0.0" ∷ codes "-0.0" ∷ []) ≡ Some 0 ∷ Some 0x80000000 ∷ []
unfolding fast_float_on_literals float_is_finite to_bits
zeros = refl

infinite : map (parse_float binary64) (codes "inf" ∷ codes "-inf" ∷ codes "NaN" ∷ []) ≡ Some (inf false) ∷ Some (inf true) ∷ Some nan ∷ []
unfolding fast_float_on_literals
infinite = refl

-- ---- the fields

exponents : map (exponent_of binary32) (0x007FFFFF ∷ 0x00800000 ∷ 0x80000000 ∷ 0xFF7FFFFF ∷ 0x7F800000 ∷ []) ≡ 0 ∷ 1 ∷ 0 ∷ 254 ∷ 255 ∷ []
exponents = refl

significands : map (significand_of binary32) (0x007FFFFF ∷ 0x00800000 ∷ 0x80000001 ∷ []) ≡ 0x7FFFFF ∷ 0x800000 ∷ 1 ∷ []
significands = refl

-- ---- powers of ten

abbrev number_of : ℕ → ℕ → Scaled
number_of n tens = record { digits = n; tens = tens }

halves : map half (number_of (2 ^ 125 - 1) 1100 ∷ number_of (2 ^ 125) 1100 ∷ [])
    ≡ number_of (5 * 2 ^ 125 - 5) 1099 ∷ number_of (2 ^ 124) 1100 ∷ []
halves = refl

twices : map twice (number_of (2 ^ 125 - 1) 1100 ∷ number_of (5 * 2 ^ 125) 1100 ∷ [])
    ≡ number_of (2 ^ 126 - 2) 1100 ∷ number_of (2 ^ 125) 1101 ∷ []
twices = refl

roundings : map (rounded 1) (14 ∷ 15 ∷ 4 ∷ 5 ∷ []) ≡ 1 ∷ 2 ∷ 0 ∷ 1 ∷ []
roundings = refl

-- ---- digits

places : map (λ tens. digits_shown 1 tens) (1099 ∷ 1095 ∷ 1094 ∷ 1100 ∷ 1115 ∷ 1116 ∷ [])
    ≡ codes "0.1" ∷ codes "0.00001" ∷ codes "1e-6" ∷ codes "1.0" ∷ codes "1000000000000000.0" ∷ codes "1e16" ∷ []
unfolding fixed_text digits digits_text
places = refl

more_places : map (λ tens. digits_shown 125 tens) (1099 ∷ 1097 ∷ 1093 ∷ 1092 ∷ 1113 ∷ 1114 ∷ [])
    ≡ codes "12.5" ∷ codes "0.125" ∷ codes "0.0000125" ∷ codes "1.25e-6" ∷ codes "1250000000000000.0" ∷ codes "1.25e16" ∷ []
unfolding fixed_text digits digits_text
more_places = refl

many_places : map (λ tens. digits_shown 12345678901234567 tens) (1082 ∷ 1081 ∷ 1100 ∷ [])
    ≡ codes "0.012345678901234567" ∷ codes "1.2345678901234567e-3" ∷ codes "1.2345678901234567e16" ∷ []
unfolding fixed_text digits digits_text
many_places = refl
