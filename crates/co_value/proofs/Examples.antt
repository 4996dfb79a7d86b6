-- Worked examples, computed from the definitions: the ends of each type and their bytes, and how keys compare.
use Rattle.std.proofs.Common.{◌≡◌, ℕ, List, [], ◌∷◌, ℤ, pos, negsuc, true, false, None, Some, refl, arith, codes}
use Rattle.std.proofs.lemmas.Int.{ints}
use Rattle.std.specs.declared.cmp.Ordering.TheVariants.{Less, Equal, Greater}
use Rattle.co_value.specs.declared.key.Key.{Key}
use Rattle.co_value.specs.declared.data_type.DataType.{DataType}
use Rattle.co_value.specs.declared.data_type.DataType.TheVariants.{Boolean, Integer8, Integer16, Integer24, Integer32, Integer40, Integer48, Integer56, Integer64, Unsigned8, Unsigned16, Unsigned24, Unsigned32, Unsigned40, Unsigned48, Unsigned56, Unsigned64, VisibleString, OctetString, Domain}
use Rattle.co_value.specs.Types.{width_of, least_of, greatest_of, FitsWidth, InRange}
use Rattle.co_value.specs.Numbers.{number_of, bytes_of}
use Rattle.co_text.specs.Printed.{digits_text}
use Rattle.co_value.specs.Keys.{same_key, is_key_before, key_cmp}
use Rattle.co_value.specs.KeyTexts.{key_text, key_in}

-- a number and its bytes at a type
abbrev pub Written : DataType → ℤ → List ℕ → Type 0
Written t value bytes = (bytes_of t value ≡ bytes) × (number_of t bytes ≡ value)

-- the ends of a type's range, with their bytes
abbrev pub Ends : DataType → ℤ → List ℕ → ℤ → List ℕ → Type 0
Ends t low low_bytes high high_bytes = (least_of t ≡ Some low) × (greatest_of t ≡ Some high) × Written t low low_bytes × Written t high high_bytes

boolean : Ends Boolean (pos 0) (0 ∷ []) (pos 1) (1 ∷ [])
boolean = (refl, refl, (refl, refl), (refl, refl))

integer8 : Ends Integer8 (negsuc 127) (0x80 ∷ []) (pos 127) (0x7F ∷ [])
integer8 = (refl, refl, (refl, refl), (refl, refl))

integer16 : Ends Integer16 (negsuc 32767) (0 ∷ 0x80 ∷ []) (pos 32767) (0xFF ∷ 0x7F ∷ [])
integer16 = (refl, refl, (refl, refl), (refl, refl))

integer24 : Ends Integer24 (negsuc 8388607) (0 ∷ 0 ∷ 0x80 ∷ []) (pos 8388607) (0xFF ∷ 0xFF ∷ 0x7F ∷ [])
integer24 = (refl, refl, (refl, refl), (refl, refl))

integer32 : Ends Integer32 (negsuc 2147483647) (0 ∷ 0 ∷ 0 ∷ 0x80 ∷ []) (pos 2147483647) (0xFF ∷ 0xFF ∷ 0xFF ∷ 0x7F ∷ [])
integer32 = (refl, refl, (refl, refl), (refl, refl))

integer40 : Ends Integer40 (negsuc 549755813887) (0 ∷ 0 ∷ 0 ∷ 0 ∷ 0x80 ∷ []) (pos 549755813887) (0xFF ∷ 0xFF ∷ 0xFF ∷ 0xFF ∷ 0x7F ∷ [])
integer40 = (refl, refl, (refl, refl), (refl, refl))

integer48 : Ends Integer48 (negsuc 140737488355327) (0 ∷ 0 ∷ 0 ∷ 0 ∷ 0 ∷ 0x80 ∷ []) (pos 140737488355327) (0xFF ∷ 0xFF ∷ 0xFF ∷ 0xFF ∷ 0xFF ∷ 0x7F ∷ [])
integer48 = (refl, refl, (refl, refl), (refl, refl))

integer56 : Ends Integer56 (negsuc 36028797018963967) (0 ∷ 0 ∷ 0 ∷ 0 ∷ 0 ∷ 0 ∷ 0x80 ∷ []) (pos 36028797018963967) (0xFF ∷ 0xFF ∷ 0xFF ∷ 0xFF ∷ 0xFF ∷ 0xFF ∷ 0x7F ∷ [])
integer56 = (refl, refl, (refl, refl), (refl, refl))

integer64 : Ends Integer64 (negsuc 9223372036854775807) (0 ∷ 0 ∷ 0 ∷ 0 ∷ 0 ∷ 0 ∷ 0 ∷ 0x80 ∷ []) (pos 9223372036854775807) (0xFF ∷ 0xFF ∷ 0xFF ∷ 0xFF ∷ 0xFF ∷ 0xFF ∷ 0xFF ∷ 0x7F ∷ [])
integer64 = (refl, refl, (refl, refl), (refl, refl))

unsigned8 : Ends Unsigned8 (pos 0) (0 ∷ []) (pos 255) (0xFF ∷ [])
unsigned8 = (refl, refl, (refl, refl), (refl, refl))

unsigned16 : Ends Unsigned16 (pos 0) (0 ∷ 0 ∷ []) (pos 65535) (0xFF ∷ 0xFF ∷ [])
unsigned16 = (refl, refl, (refl, refl), (refl, refl))

unsigned24 : Ends Unsigned24 (pos 0) (0 ∷ 0 ∷ 0 ∷ []) (pos 16777215) (0xFF ∷ 0xFF ∷ 0xFF ∷ [])
unsigned24 = (refl, refl, (refl, refl), (refl, refl))

unsigned32 : Ends Unsigned32 (pos 0) (0 ∷ 0 ∷ 0 ∷ 0 ∷ []) (pos 4294967295) (0xFF ∷ 0xFF ∷ 0xFF ∷ 0xFF ∷ [])
unsigned32 = (refl, refl, (refl, refl), (refl, refl))

unsigned40 : Ends Unsigned40 (pos 0) (0 ∷ 0 ∷ 0 ∷ 0 ∷ 0 ∷ []) (pos 1099511627775) (0xFF ∷ 0xFF ∷ 0xFF ∷ 0xFF ∷ 0xFF ∷ [])
unsigned40 = (refl, refl, (refl, refl), (refl, refl))

unsigned48 : Ends Unsigned48 (pos 0) (0 ∷ 0 ∷ 0 ∷ 0 ∷ 0 ∷ 0 ∷ []) (pos 281474976710655) (0xFF ∷ 0xFF ∷ 0xFF ∷ 0xFF ∷ 0xFF ∷ 0xFF ∷ [])
unsigned48 = (refl, refl, (refl, refl), (refl, refl))

unsigned56 : Ends Unsigned56 (pos 0) (0 ∷ 0 ∷ 0 ∷ 0 ∷ 0 ∷ 0 ∷ 0 ∷ []) (pos 72057594037927935) (0xFF ∷ 0xFF ∷ 0xFF ∷ 0xFF ∷ 0xFF ∷ 0xFF ∷ 0xFF ∷ [])
unsigned56 = (refl, refl, (refl, refl), (refl, refl))

unsigned64 : Ends Unsigned64 (pos 0) (0 ∷ 0 ∷ 0 ∷ 0 ∷ 0 ∷ 0 ∷ 0 ∷ 0 ∷ []) (pos 18446744073709551615) (0xFF ∷ 0xFF ∷ 0xFF ∷ 0xFF ∷ 0xFF ∷ 0xFF ∷ 0xFF ∷ 0xFF ∷ [])
unsigned64 = (refl, refl, (refl, refl), (refl, refl))

truth_values : InRange Boolean (pos 1) × FitsWidth Boolean (pos 255)
truth_values = ((omega (arith, ints), omega (arith, ints)), (omega (arith, ints), omega (arith, ints)))

no_truth_value : InRange Boolean (pos 2) → ⊥
no_truth_value h = let high = h.1 in omega (arith, ints)

no_byte : FitsWidth Boolean (pos 256) → ⊥
no_byte h = let high = h.1 in omega (arith, ints)

no_negative_byte : FitsWidth Unsigned8 (negsuc 0) → ⊥
no_negative_byte h = let low = h.0 in omega (arith, ints)

in_a_signed_byte : FitsWidth Integer8 (negsuc 127) × InRange Integer8 (pos 127)
in_a_signed_byte = ((omega (arith, ints), omega (arith, ints)), (omega (arith, ints), omega (arith, ints)))

no_signed_byte : (InRange Integer8 (pos 128) → ⊥) × (InRange Integer8 (negsuc 128) → ⊥)
no_signed_byte = (λ h. let high = h.1 in omega (arith, ints), λ h. let low = h.0 in omega (arith, ints))

no_number_of_a_string : InRange VisibleString (pos 0) → ⊥
no_number_of_a_string h = h.0

-- a byte of a BOOLEAN that is no truth value is still a number
five_at_boolean : Written Boolean (pos 5) (5 ∷ [])
five_at_boolean = (refl, refl)

minus_two : Written Integer16 (negsuc 1) (0xFE ∷ 0xFF ∷ [])
minus_two = (refl, refl)

device_type : Written Unsigned32 (pos 0x191) (0x91 ∷ 0x01 ∷ 0 ∷ 0 ∷ [])
device_type = (refl, refl)

strings_have_no_numbers : (least_of VisibleString ≡ None) × (greatest_of OctetString ≡ None) × (width_of Domain ≡ None)
strings_have_no_numbers = (refl, refl, refl)

-- ---- keys

abbrev pub key : ℕ → ℕ → Key
key index sub = record { index = index; sub = sub }

lower_index_first : (key_cmp (key 0x1000 5) (key 0x1001 0) ≡ Less) × (is_key_before (key 0x1000 5) (key 0x1001 0) ≡ true) × (is_key_before (key 0x1001 0) (key 0x1000 5) ≡ false)
lower_index_first = (refl, refl, refl)

then_the_lower_sub_index : (key_cmp (key 0x1018 2) (key 0x1018 1) ≡ Greater) × (is_key_before (key 0x1018 1) (key 0x1018 2) ≡ true) × (same_key (key 0x1018 1) (key 0x1018 2) ≡ false)
then_the_lower_sub_index = (refl, refl, refl)

not_before_itself : (key_cmp (key 0x1018 1) (key 0x1018 1) ≡ Equal) × (is_key_before (key 0x1018 1) (key 0x1018 1) ≡ false) × (same_key (key 0x1018 1) (key 0x1018 1) ≡ true) × (same_key (key 0x1017 1) (key 0x1018 1) ≡ false)
not_before_itself = (refl, refl, refl, refl)

printed_key : (key_text (key 0x1018 1) ≡ codes "1018:01") × (key_text (key 0xABCD 0xEF) ≡ codes "ABCD:EF") × (key_text (key 0 0) ≡ codes "0000:00")
unfolding digits_text
printed_key = (refl, refl, refl)

-- digits in either case, four and two of them, and a colon
read_key : (key_in (codes "1018:01") ≡ Some (key 0x1018 1)) × (key_in (codes "abCD:eF") ≡ Some (key 0xABCD 0xEF))
unfolding key_in
read_key = (refl, refl)

no_key : (key_in (codes "1018:1") ≡ None) × (key_in (codes "01018:01") ≡ None) × (key_in (codes "1018.01") ≡ None) × (key_in (codes "101G:01") ≡ None) × (key_in (codes "1018:0g") ≡ None) × (key_in [] ≡ None)
unfolding key_in
no_key = (refl, refl, refl, refl, refl, refl)
