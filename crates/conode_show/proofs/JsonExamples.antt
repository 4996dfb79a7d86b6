-- Documents of JSON, evaluated: each kind of object, and both sides of each edge.
use Rattle.std.proofs.Common.{◌≡◌, ℕ, [], ◌∷◌, List, Some, None, refl, false, true}
use Rattle.std.specs.Prelude.{codes}
use Rattle.std.specs.Fmt.{digits}
use Rattle.std.specs.Str.{is_utf8, chars}
use lib.Utf8.{encode}
use Rattle.json.specs.Token.{begin_object, end_object, key, string, number, boolean}
use Rattle.json.specs.Print.{print, print_from, escape_byte}
use Rattle.co_text.specs.Printed.{digits_text}
use Rattle.co_value.specs.declared.key.Key.{Key}
use Rattle.co_value.specs.declared.data_type.DataType.TheVariants.{Unsigned64}
use Rattle.co_sheet_text.specs.declared.section_kind.SectionKind.{SectionKind}
use Rattle.co_sheet_text.specs.declared.section_kind.SectionKind.TheVariants.{Object, SubIndex, DeviceInfo}
use Rattle.co_sheet_text.specs.Sections.{TextSection, Property}
use Rattle.conode_json.specs.Members.{array_begin, flag_member, number_member, object_begin, text_member}
use Rattle.conode_json.specs.Characters.{characters_of, windows_1252}
use Rattle.conode_show_text.specs.declared.meaning.Meaning.TheVariants.{PdoCobId}
use Rattle.conode_show_text.specs.Numbers.{hex_text}
use Rattle.conode_lint_text.specs.Characters.{shown}
use Rattle.conode_show_text.specs.Texts.{plain_text, property_text}
use Rattle.conode_show_text.specs.CobIds.{cob_id_text, identifier_text, pdo_cob_id_text}
use Rattle.conode_show_text.specs.Meanings.{mapped_text, millis_text, said, time_text, word_text}
use Rattle.conode_show_text.specs.Entries.{entry_type, type_name, type_text}
use Rattle.conode_show_text.specs.Services.{service_name}
use Rattle.conode_show.specs.JsonForm.{chapter_member, document_tokens, entry_begin, entry_tokens, json_document, limit_member, mapped_members, mapped_tokens, multiplexed_tokens, object_tokens, property_member, quantity_member, said_at_member, said_member, said_members, section_tokens, service_of_section, service_tokens, value_member}

abbrev key_at : ℕ → ℕ → Key
key_at index sub = record { index = index; sub = sub }

abbrev property : List ℕ → List ℕ → Property
property name value = record { name = name; value = value; line = 1 }

abbrev section : SectionKind → List Property → TextSection
section kind properties = record { kind = kind; name = []; line = 1; properties = properties }

-- ---- texts: a quote, a control character; a byte that is no UTF-8; none

escaped : print (property_member (codes "name") (codes "ParameterName") (section (Object 0x2000) (property (codes "ParameterName") (34 ∷ 27 ∷ []) ∷ [])))
    ≡ codes "\"name\":\"\\\"\\u001b\""
unfolding property_member text_member characters_of is_utf8 chars encode print_from escape_byte
escaped = refl

from_windows : property_member (codes "name") (codes "ParameterName") (section (Object 0x2000) (property (codes "ParameterName") (0xFC ∷ []) ∷ []))
    ≡ key (codes "name") ∷ string (0xC3 ∷ 0xBC ∷ []) ∷ []
unfolding property_member text_member characters_of windows_1252 is_utf8 chars encode
from_windows = refl

in_utf8 : property_member (codes "name") (codes "ParameterName") (section (Object 0x2000) (property (codes "ParameterName") (0xC3 ∷ 0xBC ∷ []) ∷ []))
    ≡ key (codes "name") ∷ string (0xC3 ∷ 0xBC ∷ []) ∷ []
unfolding property_member text_member characters_of is_utf8 chars encode
in_utf8 = refl

without_name : property_member (codes "name") (codes "ParameterName") (section (Object 0x2000) []) ≡ []
unfolding property_member
without_name = refl

-- ---- the document without entries

empty_document : json_document None [] ≡ codes "{\"version\":1,\"entries\":[],\"pdos\":[],\"services\":[]}\n"
unfolding json_document document_tokens chapter_member number_member array_begin digits print_from escape_byte
empty_document = refl

empty_for_node : json_document (Some 5) [] ≡ codes "{\"version\":1,\"node\":5,\"entries\":[],\"pdos\":[],\"services\":[]}\n"
unfolding json_document document_tokens chapter_member number_member array_begin digits print_from escape_byte
empty_for_node = refl

-- ---- entries

whole_entry : section_tokens (Some 5) [] (section (SubIndex (key_at 0x2000 1)) (property (codes "ParameterName") (codes "a") ∷ property (codes "DataType") (codes "3") ∷ property (codes "AccessType") (codes "rw") ∷ property (codes "PDOMapping") (codes "1") ∷ property (codes "DefaultValue") (codes "$NODEID+1") ∷ property (codes "ParameterValue") (codes "0xFFFF") ∷ property (codes "LowLimit") (codes "0xFFFE") ∷ property (codes "HighLimit") (codes "x") ∷ []))
    ≡ begin_object ∷ key (codes "index") ∷ number (codes "8192") ∷ key (codes "subIndex") ∷ number (codes "1")
    ∷ key (codes "name") ∷ string (codes "a") ∷ key (codes "type") ∷ string (codes "INTEGER16")
    ∷ key (codes "access") ∷ string (codes "rw")
    ∷ key (codes "default") ∷ begin_object ∷ key (codes "number") ∷ number (codes "6") ∷ key (codes "text") ∷ string (codes "$NODEID+1") ∷ end_object
    ∷ key (codes "value") ∷ begin_object ∷ key (codes "number") ∷ number (codes "-1") ∷ key (codes "text") ∷ string (codes "0xFFFF") ∷ end_object
    ∷ key (codes "low") ∷ begin_object ∷ key (codes "number") ∷ number (codes "-2") ∷ key (codes "text") ∷ string (codes "0xFFFE") ∷ end_object
    ∷ key (codes "high") ∷ begin_object ∷ key (codes "text") ∷ string (codes "x") ∷ end_object
    ∷ key (codes "mappable") ∷ boolean true ∷ end_object ∷ []
unfolding entry_tokens entry_begin value_member limit_member property_member flag_member quantity_member object_begin text_member number_member characters_of is_utf8 chars encode type_text entry_type type_name digits
whole_entry = refl

object_of_records : section_tokens None [] (section (Object 0x1018) (property (codes "ObjectType") (codes "9") ∷ []))
    ≡ begin_object ∷ key (codes "index") ∷ number (codes "4120") ∷ key (codes "type") ∷ string (codes "RECORD") ∷ end_object ∷ []
unfolding object_tokens property_member text_member number_member digits
object_of_records = refl

-- without ObjectType it is a VAR, whatever sections there are
object_of_variable : section_tokens None (section (SubIndex (key_at 0x2000 1)) [] ∷ []) (section (Object 0x2000) (property (codes "DataType") (codes "5") ∷ property (codes "AccessType") (codes "rw") ∷ []))
    ≡ begin_object ∷ key (codes "index") ∷ number (codes "8192") ∷ key (codes "subIndex") ∷ number (codes "0")
    ∷ key (codes "type") ∷ string (codes "UNSIGNED8") ∷ key (codes "access") ∷ string (codes "rw") ∷ key (codes "mappable") ∷ boolean false ∷ end_object ∷ []
unfolding entry_tokens entry_begin value_member limit_member property_member flag_member text_member number_member characters_of is_utf8 chars encode type_text entry_type type_name digits
object_of_variable = refl

-- an object without a type: its ObjectType is there and empty
object_without_type : section_tokens None (section (SubIndex (key_at 0x1018 0)) [] ∷ []) (section (Object 0x1018) (property (codes "ObjectType") [] ∷ []))
    ≡ begin_object ∷ key (codes "index") ∷ number (codes "4120") ∷ end_object ∷ []
unfolding object_tokens property_member number_member property_text plain_text shown characters_of is_utf8 chars encode digits
object_without_type = refl

-- an ObjectType that is no number: the sections of sub-indices tell that it is an object, and DataType
-- isn't its type
unread_object : section_tokens None (section (SubIndex (key_at 0x2000 0)) [] ∷ []) (section (Object 0x2000) (property (codes "ObjectType") (codes "ARRAY") ∷ property (codes "DataType") (codes "5") ∷ []))
    ≡ begin_object ∷ key (codes "index") ∷ number (codes "8192") ∷ key (codes "type") ∷ string (codes "ARRAY") ∷ end_object ∷ []
unfolding object_tokens property_member text_member number_member property_text plain_text shown characters_of is_utf8 chars encode digits
unread_object = refl

bare_entry : section_tokens None [] (section (Object 0x1001) [])
    ≡ begin_object ∷ key (codes "index") ∷ number (codes "4097") ∷ key (codes "subIndex") ∷ number (codes "0")
    ∷ key (codes "mappable") ∷ boolean false ∷ end_object ∷ []
unfolding entry_tokens entry_begin value_member limit_member property_member flag_member text_member number_member type_text entry_type digits
bare_entry = refl

no_entry : section_tokens None [] (section DeviceInfo []) ≡ []
no_entry = refl

-- a sum without a node, and a number of 64 bits
sum_without_node : value_member (codes "default") None (Some Unsigned64) (Some (property [] (codes "$NODEID")))
    ≡ key (codes "default") ∷ begin_object ∷ key (codes "text") ∷ string (codes "$NODEID") ∷ end_object ∷ []
unfolding value_member quantity_member object_begin text_member characters_of is_utf8 chars encode
sum_without_node = refl

large : value_member (codes "default") None (Some Unsigned64) (Some (property [] (codes "0xFFFFFFFFFFFFFFFF")))
    ≡ key (codes "default") ∷ begin_object ∷ key (codes "number") ∷ string (codes "18446744073709551615") ∷ key (codes "text") ∷ string (codes "0xFFFFFFFFFFFFFFFF") ∷ end_object ∷ []
unfolding value_member quantity_member object_begin number_member text_member characters_of is_utf8 chars encode digits
large = refl

-- ---- words of the communication profile

cob_id_of_node : said_member (codes "cobId") PdoCobId (Some 5) (section (SubIndex (key_at 0x1800 1)) (property (codes "DefaultValue") (codes "$NODEID+0x180") ∷ []))
    ≡ key (codes "cobId") ∷ begin_object ∷ key (codes "number") ∷ number (codes "389") ∷ key (codes "words") ∷ string (codes "185h, enabled") ∷ end_object ∷ []
unfolding said_member object_begin number_member text_member said word_text pdo_cob_id_text cob_id_text identifier_text hex_text digits
cob_id_of_node = refl

cob_id_without_node : said_members PdoCobId None (section (SubIndex (key_at 0x1800 1)) (property (codes "DefaultValue") (codes "$NODEID+0x180") ∷ []))
    ≡ key (codes "words") ∷ string (codes "$NODEID+180h, enabled") ∷ []
unfolding text_member said word_text pdo_cob_id_text cob_id_text identifier_text hex_text digits
cob_id_without_node = refl

not_there : said_at_member (codes "inhibitTime") PdoCobId None [] (key_at 0x1800 3) ≡ []
unfolding said_at_member
not_there = refl

producer : service_of_section None (section (Object 0x1017) (property (codes "DefaultValue") (codes "7") ∷ []))
    ≡ begin_object ∷ key (codes "index") ∷ number (codes "4119") ∷ key (codes "subIndex") ∷ number (codes "0") ∷ key (codes "service") ∷ string (codes "Heartbeat producer")
    ∷ key (codes "number") ∷ number (codes "7") ∷ key (codes "words") ∷ string (codes "every 7 ms") ∷ end_object ∷ []
unfolding service_tokens text_member number_member service_name said word_text time_text millis_text digits
producer = refl

no_service : service_of_section None (section (Object 0x1018) []) ≡ []
no_service = refl

abbrev mapped_word : List ℕ → TextSection
mapped_word value = section (SubIndex (key_at 0x1A00 1)) (property (codes "DefaultValue") value ∷ [])

mapped : mapped_tokens None (section (SubIndex (key_at 0x6000 1)) (property (codes "ParameterName") (codes "a") ∷ []) ∷ []) (mapped_word (codes "0x60000108"))
    ≡ begin_object ∷ key (codes "index") ∷ number (codes "24576") ∷ key (codes "subIndex") ∷ number (codes "1") ∷ key (codes "bits") ∷ number (codes "8")
    ∷ key (codes "name") ∷ string (codes "a") ∷ key (codes "words") ∷ string (codes "6000:01, 8 bits") ∷ end_object ∷ []
unfolding mapped_tokens mapped_members property_member text_member number_member characters_of said word_text mapped_text is_utf8 chars encode digits digits_text
mapped = refl

-- a sum with the node-ID, which isn't known
mapped_without_node : mapped_tokens None [] (mapped_word (codes "$NODEID+0x60000103"))
    ≡ begin_object ∷ key (codes "words") ∷ string (codes "$NODEID+60000103h") ∷ end_object ∷ []
unfolding mapped_tokens text_member said word_text hex_text digits
mapped_without_node = refl

multiplexed : multiplexed_tokens (codes "m") ≡ begin_object ∷ key (codes "words") ∷ string (codes "m") ∷ end_object ∷ []
unfolding text_member
multiplexed = refl

not_multiplexed : multiplexed_tokens [] ≡ []
not_multiplexed = refl

mapped_unread : mapped_tokens None [] (mapped_word (codes "x"))
    ≡ begin_object ∷ key (codes "words") ∷ string (codes "x") ∷ end_object ∷ []
unfolding mapped_tokens text_member said plain_text shown characters_of is_utf8 chars encode
mapped_unread = refl
