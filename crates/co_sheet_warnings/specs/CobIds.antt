-- COB-IDs that depend on the node-ID (CiA 301, predefined connection set; CiA 306-1, `$NODEID`).
use Rattle.std.specs.Prelude.{
  ℕ,
  Bool,
  false,
  not,
  ◌&&◌,
  ◌||◌,
  ◌==◌,
  ◌%◌,
  ◌^◌,
  nat_lt,
  if◌then◌else◌,
  List,
  [],
  ◌∷◌,
  codes,
  is_some,
  Option,
  Some,
  None,
  option_and_then,
  option_to_list,
}
use Rattle.std.specs.List.{list_any, before_first, after_first}
use Rattle.std.specs.Option.{option_map_or, option_or}
use Rattle.std.specs.Result.{result_ok}
use Rattle.co_sheet_text.specs.declared.section_kind.SectionKind.{SectionKind}
use Rattle.co_sheet_text.specs.declared.section_kind.SectionKind.TheVariants.{DeviceCommissioning, Object, SubIndex}
use Rattle.co_sheet_text.specs.Text.{trim}
use Rattle.co_sheet_text.specs.Numerals.{unsigned_number}
use Rattle.co_sheet_text.specs.Sections.{Property, TextSection, property_at, section_at}
use Rattle.co_sheet_text.specs.Properties.{number_at, property_number}
use Rattle.co_sheet.specs.Limits.{is_plus, is_node_id}
use Rattle.co_sheet_text_warnings.specs.Ranges.{is_within}

-- the COB-IDs by which a device sends, and which it has by its node-ID: of EMCY, and of the first four
-- TPDOs. Any number of devices may receive what one sends, so an RPDO may well have a number. Of the
-- default SDO server both, since a client asks one device
abbrev pub has_default_cob_id : SectionKind → Bool
has_default_cob_id (Object index) = index == 0x1014
has_default_cob_id (SubIndex key) =
    ((key.sub == 1) && is_within 0x1800 0x1803 key.index)
    || ((key.index == 0x1200) && ((key.sub == 1) || (key.sub == 2)))
has_default_cob_id kind = false

-- a number without `$NODEID` and without bit 31, which disables a PDO and EMCY; without an identifier,
-- bits 29 to 0, the object isn't used either
abbrev pub is_enabled : ℕ → Bool
is_enabled cob_id = nat_lt cob_id (2 ^ 31) && not (cob_id % 2 ^ 30 == 0)

abbrev pub fixed_number : Property → List ℕ
fixed_number k = if option_map_or is_enabled (property_number k) false then k.line ∷ [] else []

-- a device configuration file, whose COB-IDs are those of its network (CiA 306, device commissioning)
abbrev pub is_configured : List TextSection → Bool
is_configured sections = is_some (section_at DeviceCommissioning sections)

abbrev pub fixed_cob_id : List TextSection → TextSection → List ℕ
fixed_cob_id sections s =
    if has_default_cob_id s.kind && not (is_configured sections)
    then option_map_or fixed_number (property_at (codes "DefaultValue") s) []
    else []

-- a number, `+` and then `$NODEID`
abbrev pub is_node_id_last : List ℕ → Bool
is_node_id_last value =
    list_any is_plus value && is_node_id (trim (after_first is_plus value))
    && is_some (result_ok (unsigned_number (trim (before_first is_plus value))))

abbrev pub node_id_last : Property → Option ℕ
node_id_last k = if is_node_id_last k.value then Some k.line else None

abbrev pub node_id_last_at : List ℕ → TextSection → Option ℕ
node_id_last_at name s = option_and_then node_id_last (property_at name s)

-- strings and domains, where `$NODEID` has no meaning (CiA 301, data types)
abbrev pub is_text_type : ℕ → Bool
is_text_type code = is_within 0x9 0xB code || (code == 0xF)

abbrev pub has_text_type : TextSection → Bool
has_text_type s = option_map_or is_text_type (number_at (codes "DataType") s) false

-- the default, or else the value of a device configuration file
abbrev pub node_id_place : TextSection → List ℕ
node_id_place s =
    if has_text_type s then []
    else option_to_list
    (option_or (node_id_last_at (codes "DefaultValue") s)
    (node_id_last_at (codes "ParameterValue") s))
