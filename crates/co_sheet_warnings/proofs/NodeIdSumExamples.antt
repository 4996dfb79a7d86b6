-- Sums with `$NODEID` that are permitted for no node-ID, on both sides of each edge.
use Rattle.std.proofs.Common.{◌≡◌, ℕ, List, [], ◌∷◌, ◌++◌, Bool, true, false, refl, codes, map}
use Rattle.co_value.specs.declared.data_type.DataType.{DataType}
use Rattle.co_value.specs.declared.data_type.DataType.TheVariants.{Boolean, Integer8, Integer16, Integer64, Unsigned8, Unsigned16, Unsigned32, Unsigned64}
use Rattle.co_sheet_text.specs.declared.section_kind.SectionKind.TheVariants.{Object}
use Rattle.co_sheet_text.specs.Sections.{Property, TextSection}
use Rattle.co_sheet_text_warnings.specs.declared.warning.WarningKind.TheVariants.{NodeIdSum}
use Rattle.co_sheet_warnings.specs.NodeIdSums.{is_never_permitted}
use Rattle.co_sheet_warnings.specs.Warnings.{few_places, places_in, places_of}
use Rattle.co_sheet_text_warnings.specs.InText.{place_in_text}
use Rattle.co_sheet_warnings.proofs.ExampleTexts.{places, places_at}

-- a section with these limits
abbrev limited : List Property → TextSection
limited limits = record { kind = Object 0x2000; name = codes "2000"; line = 1; properties = limits }

abbrev limit : List ℕ → List ℕ → Property
limit name value = record { name = name; value = value; line = 2 }

-- within the type for node-ID 1 alone; for none
of_types : map (λ n. is_never_permitted Unsigned8 (limited []) n) (0 ∷ 0x80 ∷ 0xFE ∷ 0xFF ∷ 0x100 ∷ []) ∷ map (λ n. is_never_permitted Unsigned16 (limited []) n) (0xFF ∷ 0xFFFE ∷ 0xFFFF ∷ [])
    ∷ map (λ n. is_never_permitted Unsigned32 (limited []) n) (0xFFFFFFFE ∷ 0xFFFFFFFF ∷ []) ∷ map (λ n. is_never_permitted Unsigned64 (limited []) n) (0xFFFFFFFFFFFFFFFE ∷ 0xFFFFFFFFFFFFFFFF ∷ [])
    ∷ map (λ n. is_never_permitted Boolean (limited []) n) (0 ∷ 1 ∷ []) ∷ map (λ n. is_never_permitted Integer8 (limited []) n) (0x7E ∷ 0x7F ∷ 0xFF ∷ []) ∷ map (λ n. is_never_permitted Integer16 (limited []) n) (0x7FFE ∷ 0x7FFF ∷ []) ∷ []
    ≡ (false ∷ false ∷ false ∷ true ∷ true ∷ []) ∷ (false ∷ false ∷ true ∷ []) ∷ (false ∷ true ∷ []) ∷ (false ∷ true ∷ []) ∷ (false ∷ true ∷ []) ∷ (false ∷ true ∷ true ∷ []) ∷ (false ∷ true ∷ []) ∷ []
of_types = refl

-- HighLimit: for node-ID 1 alone; for none. Of a signed type also a negative one
of_high_limit : map (λ n. is_never_permitted Unsigned16 (limited (limit (codes "HighLimit") (codes "1000") ∷ [])) n) (998 ∷ 999 ∷ 1000 ∷ []) ∷ map (λ value. is_never_permitted Integer8 (limited (limit (codes "highlimit") value ∷ [])) 0) (codes "1" ∷ codes "0" ∷ codes "-1" ∷ codes "0xFF" ∷ []) ∷ []
    ≡ (false ∷ false ∷ true ∷ []) ∷ (false ∷ true ∷ true ∷ true ∷ []) ∷ []
of_high_limit = refl

-- LowLimit: for node-ID 127 alone; for none
of_low_limit : map (λ n. is_never_permitted Unsigned16 (limited (limit (codes "LowLimit") (codes "200") ∷ [])) n) (74 ∷ 73 ∷ 72 ∷ 0 ∷ []) ∷ map (λ value. is_never_permitted Integer8 (limited (limit (codes "LowLimit") value ∷ [])) 0) (codes "127" ∷ codes "128" ∷ codes "-1" ∷ codes "0x80" ∷ []) ∷ []
    ≡ (false ∷ false ∷ true ∷ true ∷ []) ∷ (false ∷ true ∷ false ∷ false ∷ []) ∷ []
of_low_limit = refl

-- both; one that can't be read is none
of_limits : map (λ n. is_never_permitted Unsigned16 (limited (limit (codes "LowLimit") (codes "200") ∷ limit (codes "HighLimit") (codes "210") ∷ [])) n) (72 ∷ 73 ∷ 209 ∷ 210 ∷ []) ∷ (is_never_permitted Unsigned8 (limited (limit (codes "HighLimit") (codes "x") ∷ limit (codes "LowLimit") (codes "0200") ∷ [])) 0 ∷ []) ∷ []
    ≡ (true ∷ false ∷ false ∷ true ∷ []) ∷ (false ∷ []) ∷ []
of_limits = refl

abbrev section_with : List ℕ → List (List ℕ) → List (List ℕ)
section_with data_type lines = codes "[2000]" ∷ data_type ∷ lines

-- the forms of a sum; a number
forms : map (λ value. places NodeIdSum (section_with (codes "DataType=5") ((codes "DefaultValue=" ++ value) ∷ []))) (codes "$NODEID+0xFF" ∷ codes "255 + $nodeid" ∷ codes "$NODEID+0xFE" ∷ codes "$NODEID" ∷ codes "0xFF" ∷ codes "256" ∷ codes "$NODEID+x" ∷ codes "" ∷ [])
    ≡ (3 ∷ []) ∷ (3 ∷ []) ∷ [] ∷ [] ∷ [] ∷ [] ∷ [] ∷ [] ∷ []
unfolding places_of few_places place_in_text places_in
forms = refl

-- what the entry begins with: ParameterValue, where there is one
parameter : map (λ lines. places NodeIdSum (section_with (codes "DataType=5") lines)) ((codes "ParameterValue=$NODEID+0xFF" ∷ codes "DefaultValue=1" ∷ []) ∷ (codes "DefaultValue=$NODEID+0xFF" ∷ codes "ParameterValue=1" ∷ []) ∷ (codes "DefaultValue=$NODEID+0xFF" ∷ codes "ParameterValue=" ∷ []) ∷ [])
    ≡ (3 ∷ []) ∷ [] ∷ (3 ∷ []) ∷ []
unfolding places_of few_places place_in_text places_in
parameter = refl

-- of UNSIGNED16, of a VISIBLE_STRING, of a DOMAIN, of a REAL32, of no type
types : map (λ data_type. places NodeIdSum (section_with data_type (codes "DefaultValue=$NODEID+0xFFFF" ∷ []))) (codes "DataType=6" ∷ codes "DataType=7" ∷ codes "DataType=9" ∷ codes "DataType=0xF" ∷ codes "DataType=8" ∷ codes "DataType=x" ∷ codes "AccessType=rw" ∷ [])
    ≡ (3 ∷ []) ∷ [] ∷ [] ∷ [] ∷ [] ∷ [] ∷ [] ∷ []
unfolding places_of few_places place_in_text places_in
types = refl

-- of a sub-index, with its own limits
of_sub_index : places NodeIdSum (codes "[2000sub1]" ∷ codes "DataType=6" ∷ codes "HighLimit=10" ∷ codes "DefaultValue=$NODEID+10" ∷ codes "[2000sub2]" ∷ codes "DataType=6" ∷ codes "DefaultValue=$NODEID+10" ∷ []) ≡ 4 ∷ []
unfolding places_of few_places place_in_text places_in
of_sub_index = refl

-- where the node-ID is given, or the text has one, the build says it
for_a_node : places_at 5 NodeIdSum (section_with (codes "DataType=5") (codes "DefaultValue=$NODEID+0xFF" ∷ [])) ∷ map (λ node. places NodeIdSum (section_with (codes "DataType=5") (codes "DefaultValue=$NODEID+0xFF" ∷ codes "[DeviceComissioning]" ∷ node ∷ []))) (codes "NodeID=5" ∷ codes "NodeID=200" ∷ [])
    ≡ [] ∷ [] ∷ (3 ∷ []) ∷ []
unfolding places_of few_places place_in_text places_in
for_a_node = refl
