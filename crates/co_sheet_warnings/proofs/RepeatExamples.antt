-- What comes twice, on both sides of each edge.
use Rattle.std.proofs.Common.{◌≡◌, ℕ, List, Option, [], ◌∷◌, Some, None, true, false, refl, codes, map}
use Rattle.std.specs.Prelude.{filter_map, option_and_then}
use Rattle.co_sheet_text.specs.declared.section_kind.SectionKind.TheVariants.{MandatoryObjects, Object}
use Rattle.co_sheet_text_warnings.specs.declared.warning.WarningKind.TheVariants.{SharedCobId, HeartbeatTwice, EqualNames, MissingName}
use Rattle.co_sheet_warnings.specs.Repeats.{compared, first_equal, has_cob_id, identifier_with, use_of, used_cob_id}
use Rattle.co_sheet_warnings.specs.declared.repeats.CobIdUse.TheVariants.{Sync, Time, Other}
use Rattle.co_sheet_text_warnings.specs.declared.warning.WarningKind.{WarningKind}
use Rattle.co_sheet_text.specs.LinesAtFault.{sections_read}
use Rattle.co_sheet_text.specs.Text.{lines_of}
use Rattle.co_sheet_warnings.specs.Warnings.{few_places, places_in, places_of}
use Rattle.co_sheet_text_warnings.specs.InText.{place_in_text}
use Rattle.co_sheet_text_warnings.proofs.ExampleTexts.{joined}
use Rattle.co_sheet_warnings.proofs.ExampleTexts.{places, places_at, sub_index}

-- ---- SharedCobId

time_and_sync : map has_cob_id (Object 0x1004 ∷ Object 0x1005 ∷ Object 0x1006 ∷ Object 0x1011 ∷ Object 0x1012 ∷ sub_index 0x1005 1 ∷ sub_index 0x1012 1 ∷ [])
    ≡ false ∷ true ∷ false ∷ false ∷ true ∷ false ∷ false ∷ []
time_and_sync = refl

uses : map use_of (Object 0x1004 ∷ Object 0x1005 ∷ Object 0x1006 ∷ Object 0x1011 ∷ Object 0x1012 ∷ Object 0x1013 ∷ Object 0x1014 ∷ sub_index 0x1012 1 ∷ MandatoryObjects ∷ [])
    ≡ Other ∷ Sync ∷ Other ∷ Other ∷ Time ∷ Other ∷ Other ∷ Other ∷ Other ∷ []
uses = refl

cob_id_entries : map has_cob_id (Object 0x1013 ∷ Object 0x1014 ∷ Object 0x1400 ∷ sub_index 0x1014 1 ∷ sub_index 0x13FF 1 ∷ sub_index 0x1400 0 ∷ sub_index 0x1400 1 ∷ sub_index 0x1400 2 ∷ sub_index 0x15FF 1 ∷ sub_index 0x1600 1 ∷ sub_index 0x17FF 1 ∷ sub_index 0x1800 1 ∷ sub_index 0x19FF 1 ∷ sub_index 0x1A00 1 ∷ MandatoryObjects ∷ [])
    ≡ false ∷ true ∷ false ∷ false ∷ false ∷ false ∷ true ∷ false ∷ true ∷ false ∷ false ∷ true ∷ true ∷ false ∷ false ∷ []
cob_id_entries = refl

channel_entries : map has_cob_id (sub_index 0x11FF 1 ∷ sub_index 0x1200 0 ∷ sub_index 0x1200 1 ∷ sub_index 0x1200 2 ∷ sub_index 0x1200 3 ∷ sub_index 0x12FF 2 ∷ sub_index 0x1300 1 ∷ [])
    ≡ false ∷ false ∷ true ∷ true ∷ false ∷ true ∷ false ∷ []
channel_entries = refl

-- bit 31, and what is left without bit 30
identifiers : map (λ value. option_and_then identifier_with (used_cob_id 5 Other value)) (codes "0x185" ∷ codes "$NODEID+0x180" ∷ codes "0x40000185" ∷ codes "0x20000185" ∷ codes "0x80000185" ∷ codes "0x7FFFFFFF" ∷ codes "$NODEID+0x7FFFFFFA" ∷ codes "$NODEID+0x7FFFFFFB" ∷ codes "0" ∷ codes "0x40000000" ∷ codes "-1" ∷ codes "x" ∷ [])
    ≡ Some 0x185 ∷ Some 0x185 ∷ Some 0x185 ∷ Some 0x20000185 ∷ None ∷ Some 0x3FFFFFFF ∷ Some 0x3FFFFFFF ∷ None ∷ None ∷ None ∷ None ∷ None ∷ []
identifiers = refl

-- of SYNC: bits 31 and 30 say nothing
sync_identifiers : map (λ value. option_and_then identifier_with (used_cob_id 5 Sync value)) (codes "0x80" ∷ codes "0x80000080" ∷ codes "0xC0000080" ∷ codes "0xFFFFFFFF" ∷ codes "0x100000080" ∷ codes "$NODEID+0xFFFFFFFA" ∷ codes "$NODEID+0xFFFFFFFB" ∷ codes "0x80000000" ∷ codes "0" ∷ codes "-1" ∷ [])
    ≡ Some 0x80 ∷ Some 0x80 ∷ Some 0x80 ∷ Some 0x3FFFFFFF ∷ None ∷ Some 0x3FFFFFFF ∷ None ∷ None ∷ None ∷ None ∷ []
sync_identifiers = refl

-- of TIME: received, sent, both, neither
time_identifiers : map (λ value. option_and_then identifier_with (used_cob_id 5 Time value)) (codes "0x80000100" ∷ codes "0x40000100" ∷ codes "0xC0000100" ∷ codes "0x100" ∷ codes "0x3FFFFFFF" ∷ codes "0x40000000" ∷ codes "0x80000000" ∷ codes "$NODEID+0x80000100" ∷ codes "$NODEID+0x3FFFFFFA" ∷ codes "$NODEID+0x3FFFFFFC" ∷ codes "0xFFFFFFFF" ∷ codes "$NODEID+0xFFFFFFFA" ∷ codes "$NODEID+0xFFFFFFFB" ∷ codes "0" ∷ codes "-1" ∷ codes "x" ∷ [])
    ≡ Some 0x100 ∷ Some 0x100 ∷ Some 0x100 ∷ None ∷ None ∷ None ∷ None ∷ Some 0x105 ∷ None ∷ Some 1 ∷ Some 0x3FFFFFFF ∷ Some 0x3FFFFFFF ∷ None ∷ None ∷ None ∷ None ∷ []
time_identifiers = refl

abbrev three_cob_ids : List ℕ → List ℕ → List ℕ → List (List ℕ)
three_cob_ids first second third =
    codes "[1800sub1]" ∷ first ∷ codes "[1014]" ∷ second ∷ codes "[1201sub2]" ∷ third ∷ codes "[1801sub2]" ∷ codes "DefaultValue=0x185" ∷ []

all_the_same : places_at 5 (SharedCobId 0) (three_cob_ids (codes "DefaultValue=0x185") (codes "DefaultValue=$NODEID+0x180") (codes "ParameterValue=0x185")) ≡ 4 ∷ 6 ∷ []
unfolding places_of few_places place_in_text places_in
all_the_same = refl

-- that of SYNC, which a device sends (bit 30) or receives, and that of TIME, where it is used
with_sync : map (λ word. places_at 5 (SharedCobId 0) (codes "[1005]" ∷ word ∷ codes "[1800sub1]" ∷ codes "DefaultValue=0x80" ∷ [])) (codes "DefaultValue=0x80" ∷ codes "DefaultValue=0x40000080" ∷ codes "DefaultValue=0x80000080" ∷ codes "DefaultValue=0x81" ∷ [])
    ≡ (4 ∷ []) ∷ (4 ∷ []) ∷ (4 ∷ []) ∷ [] ∷ []
unfolding places_of few_places place_in_text places_in
with_sync = refl

with_time : map (λ word. places_at 5 (SharedCobId 0) (codes "[1800sub1]" ∷ codes "DefaultValue=0x100" ∷ codes "[1012]" ∷ word ∷ [])) (codes "DefaultValue=0x80000100" ∷ codes "DefaultValue=0x40000100" ∷ codes "DefaultValue=0x100" ∷ codes "DefaultValue=0x80000101" ∷ [])
    ≡ (4 ∷ []) ∷ (4 ∷ []) ∷ [] ∷ [] ∷ []
unfolding places_of few_places place_in_text places_in
with_time = refl

for_another_node : places_at 6 (SharedCobId 0) (three_cob_ids (codes "DefaultValue=0x185") (codes "DefaultValue=$NODEID+0x180") (codes "DefaultValue=0x186")) ≡ 6 ∷ []
unfolding places_of few_places place_in_text places_in
for_another_node = refl

for_no_node : places (SharedCobId 0) (three_cob_ids (codes "DefaultValue=0x185") (codes "DefaultValue=0x185") (codes "DefaultValue=0x185")) ≡ []
unfolding places_of few_places place_in_text places_in
for_no_node = refl

-- ---- EqualNames

-- of objects, and of the sub-indices of each object
names_again : places EqualNames (codes "[2000]" ∷ codes "ParameterName=a" ∷ codes "[2001]" ∷ codes "ParameterName=a" ∷ codes "[2000sub1]" ∷ codes "ParameterName=a" ∷ codes "[2000sub2]" ∷ codes "ParameterName=a" ∷ codes "[2001sub1]" ∷ codes "ParameterName=a" ∷ codes "[2002]" ∷ codes "ParameterName=A" ∷ codes "[2003]" ∷ codes "ParameterName=a" ∷ codes "[Comments]" ∷ codes "ParameterName=a" ∷ []) ≡ 4 ∷ 8 ∷ 14 ∷ []
unfolding places_of few_places place_in_text places_in
names_again = refl

-- ---- the first of what comes twice

abbrev first_in : List (List ℕ) → WarningKind → ℕ → Option ℕ
first_in lines kind line = first_equal kind line (sections_read (lines_of (joined lines)))

-- of three on an identifier the first, for each but itself; none for a node-ID that shares it with none
abbrev cob_ids : List (List ℕ)
cob_ids = three_cob_ids (codes "DefaultValue=0x185") (codes "DefaultValue=$NODEID+0x180") (codes "ParameterValue=0x185")

first_cob_id : first_in cob_ids (SharedCobId 5) 4 ∷ first_in cob_ids (SharedCobId 5) 6 ∷ first_in cob_ids (SharedCobId 5) 2 ∷ first_in cob_ids (SharedCobId 6) 4 ∷ first_in cob_ids (SharedCobId 6) 6 ∷ first_in cob_ids (SharedCobId 5) 3 ∷ []
    ≡ Some 2 ∷ Some 2 ∷ None ∷ None ∷ Some 2 ∷ None ∷ []
first_cob_id = refl

-- words that aren't used, and sub-index 0, are passed over; a sum is for a node-ID; of a smaller sub-index that
-- comes later in the text, none
abbrev consumers : List (List ℕ)
consumers =
    codes "[1016sub0]" ∷ codes "DefaultValue=0x50064" ∷ codes "[1016sub1]" ∷ codes "DefaultValue=0x50000" ∷ codes "[1016sub4]" ∷ codes "DefaultValue=$NODEID+0x50001"
    ∷ codes "[1017sub1]" ∷ codes "DefaultValue=0x50001" ∷ codes "[1016sub2]" ∷ codes "DefaultValue=0x60001" ∷ codes "[1016sub3]" ∷ codes "ParameterValue=0x50001" ∷ codes "[1016sub5]" ∷ codes "DefaultValue=0x50001" ∷ []

first_consumer : first_in consumers (HeartbeatTwice (Some 9)) 14 ∷ first_in consumers (HeartbeatTwice None) 14 ∷ first_in consumers (HeartbeatTwice None) 12 ∷ first_in consumers (HeartbeatTwice (Some 9)) 6 ∷ first_in consumers (HeartbeatTwice None) 2 ∷ []
    ≡ Some 6 ∷ Some 12 ∷ None ∷ None ∷ None ∷ []
first_consumer = refl

-- of objects, of the sub-indices of each object, and of another kind
abbrev named : List (List ℕ)
named =
    codes "[2000]" ∷ codes "ParameterName=a" ∷ codes "[2000sub1]" ∷ codes "ParameterName=a" ∷ codes "[2001sub1]" ∷ codes "ParameterName=a" ∷ codes "[2000sub2]" ∷ codes "ParameterName=a" ∷ codes "[2001]" ∷ codes "ParameterName=a" ∷ codes "[2002]" ∷ codes "ParameterName=A" ∷ []

first_name : first_in named EqualNames 10 ∷ first_in named EqualNames 8 ∷ first_in named EqualNames 6 ∷ first_in named EqualNames 12 ∷ first_in named MissingName 10 ∷ []
    ≡ Some 2 ∷ Some 4 ∷ None ∷ None ∷ None ∷ []
first_name = refl

-- ---- what is compared

abbrev compared_in : WarningKind → List (List ℕ) → List (ℕ × ℕ)
compared_in kind lines = map (λ c. (c.number, c.line)) (filter_map (compared kind) (sections_read (lines_of (joined lines))))

-- identifiers for a node-ID; a value that isn't enabled, another entry, and another kind have none
identifiers_compared : compared_in (SharedCobId 5) cob_ids ∷ compared_in (SharedCobId 6) cob_ids
    ∷ compared_in (SharedCobId 5) (three_cob_ids (codes "DefaultValue=0x80000185") (codes "DefaultValue=7") (codes "AccessType=ro")) ∷ compared_in EqualNames named ∷ []
    ≡ ((0x185, 2) ∷ (0x185, 4) ∷ (0x185, 6) ∷ []) ∷ ((0x185, 2) ∷ (0x186, 4) ∷ (0x185, 6) ∷ []) ∷ ((7, 4) ∷ []) ∷ [] ∷ []
identifiers_compared = refl

-- node-IDs of words that are used
nodes_compared : compared_in (HeartbeatTwice (Some 9)) consumers ∷ compared_in (HeartbeatTwice None) consumers ∷ []
    ≡ ((5, 6) ∷ (6, 10) ∷ (5, 12) ∷ (5, 14) ∷ []) ∷ ((6, 10) ∷ (5, 12) ∷ (5, 14) ∷ []) ∷ []
nodes_compared = refl
