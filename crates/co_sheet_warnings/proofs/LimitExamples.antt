-- Limits that are other numbers than they look, on both sides of each edge.
use Rattle.std.proofs.Common.{◌≡◌, ℕ, List, [], ◌∷◌, true, false, refl, codes, map}
use Rattle.co_value.specs.declared.data_type.DataType.TheVariants.{Integer8, Integer16, Integer24, Integer32, Integer64, Unsigned16}
use Rattle.co_sheet_text.specs.Numerals.{signed_numeral}
use Rattle.co_sheet_text_warnings.specs.declared.warning.WarningKind.TheVariants.{NegativeLimit}
use Rattle.co_sheet_warnings.specs.Limits.{is_all_ones}
use Rattle.co_sheet_warnings.specs.Warnings.{few_places, places_in, places_of}
use Rattle.co_sheet_text_warnings.specs.InText.{place_in_text}
use Rattle.co_sheet_warnings.proofs.ExampleTexts.{places}

-- all bits are 1: one more and one less, with zeros before, a decimal number, another type
of_16_bits : map (λ value. is_all_ones Integer16 (signed_numeral value)) (codes "0xFFFF" ∷ codes "0x0000ffff" ∷ codes "0xFFFE" ∷ codes "0x10000" ∷ codes "0xFF" ∷ codes "0x7FFF" ∷ codes "0xFFFFFFFF" ∷ codes "65535" ∷ codes "-1" ∷ codes "x" ∷ [])
    ≡ true ∷ true ∷ false ∷ false ∷ false ∷ false ∷ false ∷ false ∷ false ∷ false ∷ []
of_16_bits = refl

of_types : is_all_ones Integer8 (signed_numeral (codes "0xFF")) ∷ is_all_ones Integer24 (signed_numeral (codes "0xFFFFFF")) ∷ is_all_ones Integer32 (signed_numeral (codes "0xFFFFFFFF"))
    ∷ is_all_ones Integer64 (signed_numeral (codes "0xFFFFFFFFFFFFFFFF")) ∷ is_all_ones Unsigned16 (signed_numeral (codes "0xFFFF")) ∷ []
    ≡ true ∷ true ∷ true ∷ true ∷ false ∷ []
of_types = refl

abbrev limited : List ℕ → List ℕ → List (List ℕ)
limited low data_type = codes "[2000]" ∷ low ∷ codes "HighLimit=0xFFFF" ∷ data_type ∷ []

-- a LowLimit without a value is none
sole : map (λ low. places NegativeLimit (limited low (codes "DataType=3"))) (codes "LowLimit=" ∷ codes "AccessType=rw" ∷ codes "LowLimit=0x8000" ∷ codes "LowLimit=x" ∷ [])
    ≡ (3 ∷ []) ∷ (3 ∷ []) ∷ [] ∷ [] ∷ []
unfolding places_of few_places place_in_text places_in
sole = refl

-- of UNSIGNED16, of INTEGER32, of no type
types : map (λ data_type. places NegativeLimit (limited (codes "LowLimit=") data_type)) (codes "DataType=6" ∷ codes "DataType=4" ∷ codes "DataType=x" ∷ codes "AccessType=rw" ∷ codes "DataType=0x10003" ∷ [])
    ≡ [] ∷ [] ∷ [] ∷ [] ∷ [] ∷ []
unfolding places_of few_places place_in_text places_in
types = refl

-- of a sub-index; a LowLimit alone
others : places NegativeLimit (codes "[2000sub1]" ∷ codes "DataType=2" ∷ codes "HighLimit=0xff" ∷ codes "[2000sub2]" ∷ codes "DataType=2" ∷ codes "LowLimit=0xFF" ∷ []) ≡ 3 ∷ []
unfolding places_of few_places place_in_text places_in
others = refl
