-- Members of objects of JSON, in tokens (RFC 8259).
use Rattle.std.specs.Prelude.{ℕ, ◌^◌, ◌-◌, nat_lt, Bool, if◌then◌else◌, List, [], ◌∷◌, ◌++◌, map, ℤ, pos, negsuc, decimal, Option}
use Rattle.std.specs.Fmt.{signed_decimal}
use Rattle.std.specs.Option.{option_map_or}
use Rattle.json.specs.Token.{Token, begin_object, begin_array, end_array, key, string, number, boolean}

unfoldable pub text_member : List ℕ → List ℕ → List Token
text_member name text = key name ∷ string text ∷ []

unfoldable pub flag_member : List ℕ → Bool → List Token
flag_member name is = key name ∷ boolean is ∷ []

unfoldable pub count_member : List ℕ → ℕ → List Token
count_member name count = key name ∷ number (decimal count) ∷ []

-- the beginning of a member that is an object, and of one that is an array
unfoldable pub object_begin : List ℕ → List Token
object_begin name = key name ∷ begin_object ∷ []

unfoldable pub array_begin : List ℕ → List Token
array_begin name = key name ∷ begin_array ∷ []

-- whether a number is at most 2^53 - 1 in magnitude, which every reader of JSON keeps exactly
abbrev pub is_exact : ℤ → Bool
is_exact (pos n) = nat_lt n (2 ^ 53)
is_exact (negsuc n) = nat_lt n (2 ^ 53 - 1)

-- a number; one that isn't exact as a string
abbrev pub number_token : ℤ → Token
number_token z = if is_exact z then number (signed_decimal z) else string (signed_decimal z)

unfoldable pub number_member : List ℕ → ℤ → List Token
number_member name z = key name ∷ number_token z ∷ []

-- a number, left out if there is none
abbrev pub number_if : List ℕ → Option ℤ → List Token
number_if name n = option_map_or (number_member name) n []

abbrev pub byte_token : ℕ → Token
byte_token byte = number (decimal byte)

-- bytes as numbers, in an array
unfoldable pub numbers_member : List ℕ → List ℕ → List Token
numbers_member name bytes = key name ∷ begin_array ∷ (map byte_token bytes ++ end_array ∷ [])
