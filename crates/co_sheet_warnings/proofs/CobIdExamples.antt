-- COB-IDs that depend on the node-ID, on both sides of each edge.
use Rattle.std.proofs.Common.{◌≡◌, ℕ, List, [], ◌∷◌, ◌++◌, true, false, refl, codes, map}
use Rattle.co_sheet_text.specs.declared.section_kind.SectionKind.TheVariants.{MandatoryObjects, Object}
use Rattle.co_sheet_text_warnings.specs.declared.warning.WarningKind.TheVariants.{FixedCobId, NodeIdPlace}
use Rattle.co_sheet_warnings.specs.CobIds.{has_default_cob_id, is_enabled, is_node_id_last, is_text_type}
use Rattle.co_sheet_warnings.specs.Warnings.{few_places, places_in, places_of}
use Rattle.co_sheet_text_warnings.specs.InText.{place_in_text}
use Rattle.co_sheet_warnings.proofs.ExampleTexts.{places, sub_index}

emcy : map has_default_cob_id (Object 0x1013 ∷ Object 0x1014 ∷ Object 0x1015 ∷ sub_index 0x1014 1 ∷ Object 0x1400 ∷ MandatoryObjects ∷ [])
    ≡ false ∷ true ∷ false ∷ false ∷ false ∷ false ∷ []
emcy = refl

-- of TPDOs alone: any number of devices may receive a PDO
pdos : map has_default_cob_id (sub_index 0x1400 1 ∷ sub_index 0x1403 1 ∷ sub_index 0x17FF 1 ∷ sub_index 0x1800 0 ∷ sub_index 0x1800 1 ∷ sub_index 0x1800 2 ∷ sub_index 0x1803 1 ∷ sub_index 0x1804 1 ∷ [])
    ≡ false ∷ false ∷ false ∷ false ∷ true ∷ false ∷ true ∷ false ∷ []
pdos = refl

-- of the default SDO server both directions; the others are configured (CiA 301, SDO server parameter)
sdo_servers : map has_default_cob_id (sub_index 0x1200 0 ∷ sub_index 0x1200 1 ∷ sub_index 0x1200 2 ∷ sub_index 0x1200 3 ∷ sub_index 0x1201 1 ∷ sub_index 0x11FF 1 ∷ sub_index 0x1280 1 ∷ [])
    ≡ false ∷ true ∷ true ∷ false ∷ false ∷ false ∷ false ∷ []
sdo_servers = refl

of_server : map (λ line. places FixedCobId (codes "[1200sub1]" ∷ line ∷ [])) (codes "DefaultValue=0x600" ∷ codes "DefaultValue=$NODEID+0x600" ∷ codes "DataType=0x0007" ∷ [])
    ≡ (2 ∷ []) ∷ [] ∷ [] ∷ []
unfolding places_of few_places place_in_text places_in
of_server = refl

enabled : map is_enabled (0 ∷ 1 ∷ 0x185 ∷ 0x40000000 ∷ 0x40000185 ∷ 0x7FFFFFFF ∷ 0x80000000 ∷ 0x80000185 ∷ []) ≡ false ∷ true ∷ true ∷ false ∷ true ∷ true ∷ false ∷ false ∷ []
enabled = refl

abbrev cob_id : List ℕ → List (List ℕ)
cob_id line = codes "[1800sub1]" ∷ line ∷ []

fixed : places FixedCobId (cob_id (codes "DefaultValue=0x185")) ≡ 2 ∷ []
unfolding places_of few_places place_in_text places_in
fixed = refl

by_node_id : places FixedCobId (cob_id (codes "DefaultValue=$NODEID+0x180")) ≡ []
unfolding places_of few_places place_in_text places_in
by_node_id = refl

not_used : places FixedCobId (cob_id (codes "DefaultValue=0")) ≡ []
unfolding places_of few_places place_in_text places_in
not_used = refl

disabled : places FixedCobId (cob_id (codes "DefaultValue=0x80000185")) ≡ []
unfolding places_of few_places place_in_text places_in
disabled = refl

-- the COB-IDs of a device configuration file are those of its network
configured : map (λ name. places FixedCobId (cob_id (codes "DefaultValue=0x185") ++ name ∷ [])) (codes "[DeviceComissioning]" ∷ codes "[devicecommissioning]" ∷ codes "[DeviceInfo]" ∷ [])
    ≡ [] ∷ [] ∷ (2 ∷ []) ∷ []
unfolding places_of few_places place_in_text places_in
configured = refl

-- a configured device has a node-ID
of_one_device : places FixedCobId (cob_id (codes "ParameterValue=0x185")) ≡ []
unfolding places_of few_places place_in_text places_in
of_one_device = refl

last : map is_node_id_last (codes "0x180+$NODEID" ∷ codes "384 + $nodeid" ∷ codes "$NODEID+0x180" ∷ codes "$NODEID" ∷ codes "x+$NODEID" ∷ codes "$NODEID+$NODEID" ∷ codes "+$NODEID" ∷ codes "1+2" ∷ [])
    ≡ true ∷ true ∷ false ∷ false ∷ false ∷ false ∷ false ∷ false ∷ []
last = refl

node_id_last_in : places NodeIdPlace (cob_id (codes "DefaultValue=0x180+$NODEID") ++ codes "[1200]" ∷ codes "DefaultValue=$NODEID+0x600" ∷ []) ≡ 2 ∷ []
unfolding places_of few_places place_in_text places_in
node_id_last_in = refl

-- the value of a device configuration file too; of both the default
node_id_last_in_value : map (λ lines. places NodeIdPlace (codes "[1800sub1]" ∷ lines)) ((codes "DefaultValue=$NODEID+0x180" ∷ codes "ParameterValue=0x180+$NODEID" ∷ []) ∷ (codes "ParameterValue=0x180+$NODEID" ∷ codes "DefaultValue=0x180+$NODEID" ∷ []) ∷ (codes "ParameterValue=$NODEID+0x180" ∷ []) ∷ [])
    ≡ (3 ∷ []) ∷ (3 ∷ []) ∷ [] ∷ []
unfolding places_of few_places place_in_text places_in
node_id_last_in_value = refl

-- of strings and domains it has no meaning: VISIBLE_STRING, OCTET_STRING, UNICODE_STRING, DOMAIN
text_types : map is_text_type (8 ∷ 9 ∷ 10 ∷ 11 ∷ 12 ∷ 14 ∷ 15 ∷ 16 ∷ []) ≡ false ∷ true ∷ true ∷ true ∷ false ∷ false ∷ true ∷ false ∷ []
text_types = refl

node_id_in_text : places NodeIdPlace (codes "[2000]" ∷ codes "DataType=9" ∷ codes "DefaultValue=5+$NODEID" ∷ codes "[2001]" ∷ codes "DataType=5" ∷ codes "DefaultValue=5+$NODEID" ∷ []) ≡ 6 ∷ []
unfolding places_of few_places place_in_text places_in
node_id_in_text = refl
