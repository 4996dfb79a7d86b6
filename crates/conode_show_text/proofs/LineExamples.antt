-- What sections give, evaluated: each kind of line, and both sides of each edge.
use Rattle.std.proofs.Common.{◌≡◌, ℕ, [], ◌∷◌, List, Option, Some, None, refl, false, true}
use Rattle.std.specs.Prelude.{codes, map, nat_lt, replicate}
use Rattle.std.specs.Fmt.{digits}
use Rattle.std.specs.Str.{is_utf8, chars}
use lib.Utf8.{encode}
use Rattle.co_text.specs.Printed.{digits_text}
use Rattle.conode_json.specs.Characters.{characters_of}
use Rattle.co_value.specs.declared.key.Key.{Key}
use Rattle.co_sheet_text.specs.declared.section_kind.SectionKind.{SectionKind}
use Rattle.co_sheet_text.specs.declared.section_kind.SectionKind.TheVariants.{Object, SubIndex}
use Rattle.co_sheet_text.specs.Sections.{TextSection, Property}
use Rattle.conode_show_text.specs.declared.format.Format.TheVariants.{Text, Markdown}
use Rattle.conode_show_text.specs.declared.service.Service.TheVariants.{Sync, SyncPeriod, SyncWindow, SyncOverflow, Time, Emcy, EmcyInhibitTime, HeartbeatConsumer, HeartbeatProducer, SdoRequests, SdoResponses, ClientRequests, ClientResponses}
use Rattle.conode_show_text.specs.Numbers.{hex_text, in_parentheses, number_text}
use Rattle.conode_lint_text.specs.Characters.{shown}
use Rattle.conode_show_text.specs.Texts.{plain_text, property_text}
use Rattle.conode_show_text.specs.Layout.{placed}
use Rattle.conode_show_text.specs.Values.{default_text, known_text, limit_text, limits_text, property_value, sum_text, value_text}
use Rattle.conode_show_text.specs.CobIds.{cob_id_text, identifier_text, pdo_cob_id_text}
use Rattle.conode_show_text.specs.Meanings.{consumer_text, millis_text, said, time_text, word_text}
use Rattle.conode_show_text.specs.declared.meaning.Meaning.TheVariants.{Consumer, PdoCobId}
use Rattle.conode_show_text.specs.Entries.{entry_line, entry_type, has_sub_indices, heading_with, is_split, mappable_text, object_heading, object_line, one_line, section_text, sub_heading, two_lines, type_name, type_text}
use Rattle.conode_show_text.specs.Services.{service_name, service_of}
use Rattle.conode_show_text.specs.Pdos.{inhibit_text, is_counted, is_pdo_cob_id, mapped_lines, mapped_name, mapping_count, multiplexed_line, multiplexed_words, pdo_line, pdo_lines, pdo_name, pdo_text, said_at}
use Rattle.conode_show_text.specs.Document.{rank}

abbrev key : ℕ → ℕ → Key
key index sub = record { index = index; sub = sub }

abbrev property : List ℕ → List ℕ → Property
property name value = record { name = name; value = value; line = 1 }

abbrev section : SectionKind → List Property → TextSection
section kind properties = record { kind = kind; name = []; line = 1; properties = properties }

-- ---- entries and objects

whole_entry : section_text Text None [] (section (SubIndex (key 0x2000 1)) (property (codes "ParameterName") (codes "Gain") ∷ property (codes "DataType") (codes "0x0003") ∷ property (codes "AccessType") (codes "rw") ∷ property (codes "PDOMapping") (codes "1") ∷ property (codes "DefaultValue") (codes "10") ∷ property (codes "LowLimit") (codes "0xFF9C") ∷ property (codes "HighLimit") (codes "100") ∷ []))
    ≡ codes "2000:01 Gain                          INTEGER16      rw     PDO 10 (Ah)                -100..100\n"
unfolding entry_line one_line placed property_text plain_text shown characters_of is_utf8 chars encode type_text entry_type type_name mappable_text default_text property_value value_text known_text number_text in_parentheses hex_text limits_text limit_text digits digits_text
whole_entry = refl

variable : section_text Text None [] (section (Object 0x1001) (property (codes "DataType") (codes "5") ∷ [])) ≡ codes "1001:00                               UNSIGNED8\n"
unfolding entry_line one_line object_heading placed property_text plain_text shown characters_of is_utf8 chars encode type_text entry_type type_name mappable_text default_text property_value limits_text limit_text digits digits_text
variable = refl

-- the longest name before a column, and the longest type: neither moves what is right of it
long_name : section_text Text None [] (section (Object 0x1009) (property (codes "ParameterName") (codes "Manufacturer hardware version") ∷ property (codes "DataType") (codes "9") ∷ property (codes "AccessType") (codes "const") ∷ []))
    ≡ codes "1009:00 Manufacturer hardware version VISIBLE_STRING const\n"
unfolding entry_line one_line object_heading placed property_text plain_text shown characters_of is_utf8 chars encode type_text entry_type type_name mappable_text default_text property_value limits_text limit_text digits digits_text
long_name = refl

object_of_records : section_text Text None [] (section (Object 0x1018) (property (codes "ObjectType") (codes "9") ∷ property (codes "ParameterName") (codes "Identity") ∷ [])) ≡ codes "1018    Identity                      RECORD\n"
unfolding object_heading object_line placed property_text plain_text shown characters_of is_utf8 chars encode type_text digits_text
object_of_records = refl

-- in Markdown an object with sub-indices has a heading and a row
table_of_records : section_text Markdown None [] (section (Object 0x1018) (property (codes "ObjectType") (codes "9") ∷ property (codes "ParameterName") (codes "Identity") ∷ []))
    ≡ codes "\n### 1018h Identity\n\n| Entry | Name | Type | Access | PDO | Default | Limits |\n| --- | --- | --- | --- | --- | --- | --- |\n| 1018 | Identity | RECORD |  |  |  |  |\n"
unfolding object_heading object_line placed property_text plain_text shown characters_of is_utf8 chars encode type_text digits_text
table_of_records = refl

-- the first sub-index of an object without a section has a heading, in Markdown; one of an object with a section has none, nor a later one
abbrev alone : List TextSection
alone = section (Object 0x3000) [] ∷ section (SubIndex (record { index = 0x3000; sub = 0 })) [] ∷ section (SubIndex (record { index = 0x3001; sub = 1 })) [] ∷ section (SubIndex (record { index = 0x3001; sub = 2 })) [] ∷ []

headings_alone : map (λ key. sub_heading Markdown key alone) (record { index = 0x3000; sub = 0 } ∷ record { index = 0x3001; sub = 1 } ∷ record { index = 0x3001; sub = 2 } ∷ [])
    ≡ [] ∷ codes "\n### 3001h\n\n| Entry | Name | Type | Access | PDO | Default | Limits |\n| --- | --- | --- | --- | --- | --- | --- |\n" ∷ [] ∷ []
unfolding digits_text
headings_alone = refl

-- an object without a name has no blank at its end
nameless : heading_with 0x2000 [] ∷ heading_with 0x2000 (codes "a~") ∷ [] ≡ codes "\n### 2000h" ∷ codes "\n### 2000h a\\~" ∷ []
unfolding digits_text
nameless = refl

-- an ObjectType that is no number, as `RECORD`: with a section of a sub-index, and with that of another object
abbrev unread : List Property
unread = property (codes "ObjectType") (codes "RECORD") ∷ property (codes "ParameterName") (codes "Identity") ∷ []

abbrev sub_index_of : ℕ → List TextSection
sub_index_of index = section (SubIndex (key index 0)) [] ∷ []

unread_object : section_text Text None (sub_index_of 0x1018) (section (Object 0x1018) unread) ≡ codes "1018    Identity                      RECORD\n"
unfolding object_heading object_line placed property_text plain_text shown characters_of is_utf8 chars encode type_text entry_type digits_text
unread_object = refl

unread_entry : section_text Text None (sub_index_of 0x1019) (section (Object 0x1018) unread) ≡ codes "1018:00 Identity                      RECORD\n"
unfolding entry_line one_line object_heading placed property_text plain_text shown characters_of is_utf8 chars encode type_text entry_type mappable_text default_text property_value limits_text limit_text digits_text
unread_entry = refl

-- the same with a data type, which is that of its entries
abbrev unread_array : List Property
unread_array = property (codes "ObjectType") (codes "ARRAY") ∷ property (codes "DataType") (codes "5") ∷ []

unread_array_object : section_text Text None (sub_index_of 0x2000) (section (Object 0x2000) unread_array) ≡ codes "2000                                  ARRAY\n"
unfolding object_heading object_line placed property_text plain_text shown characters_of is_utf8 chars encode digits_text
unread_array_object = refl

unread_array_entry : section_text Text None [] (section (Object 0x2000) unread_array) ≡ codes "2000:00                               UNSIGNED8\n"
unfolding entry_line one_line object_heading placed property_text plain_text shown characters_of is_utf8 chars encode type_text entry_type type_name mappable_text default_text property_value limits_text limit_text digits digits_text
unread_array_entry = refl

array_object : section_text Text None [] (section (Object 0x2000) (property (codes "ObjectType") (codes "8") ∷ property (codes "DataType") (codes "5") ∷ [])) ≡ codes "2000                                  ARRAY\n"
unfolding object_heading object_line placed property_text digits_text
array_object = refl

-- without ObjectType it is a VAR, whatever sections there are: its type, its access and its default stay
without_object_type : section_text Text None (sub_index_of 0x2000) (section (Object 0x2000) (property (codes "DataType") (codes "5") ∷ property (codes "AccessType") (codes "rw") ∷ property (codes "DefaultValue") (codes "7") ∷ property (codes "HighLimit") (codes "9") ∷ []))
    ≡ codes "2000:00                               UNSIGNED8      rw         7                      ..9\n"
unfolding entry_line one_line object_heading placed property_text plain_text shown characters_of is_utf8 chars encode type_text entry_type type_name mappable_text default_text property_value value_text known_text number_text in_parentheses hex_text limits_text limit_text digits digits_text
without_object_type = refl

-- an empty ObjectType is no number
empty_object_type : has_sub_indices (sub_index_of 0x1018) 0x1018 (section (Object 0x1018) (property (codes "ObjectType") [] ∷ [])) ≡ true
empty_object_type = refl

-- one that is a number tells alone: an ARRAY, a RECORD, and the numbers beside them
variable_with_sections : has_sub_indices (sub_index_of 0x1018) 0x1018 (section (Object 0x1018) (property (codes "ObjectType") (codes "7") ∷ [])) ≡ false
variable_with_sections = refl

array_without_sections : has_sub_indices [] 0x1018 (section (Object 0x1018) (property (codes "ObjectType") (codes "0x08") ∷ [])) ≡ true
array_without_sections = refl

past_record : has_sub_indices (sub_index_of 0x1018) 0x1018 (section (Object 0x1018) (property (codes "ObjectType") (codes "10") ∷ [])) ≡ false
past_record = refl

domain : entry_type (section (Object 0x2F00) (property (codes "ObjectType") (codes "2") ∷ [])) ≡ codes "DOMAIN"
unfolding entry_type
domain = refl

no_type : entry_type (section (Object 0x2F00) []) ≡ []
unfolding entry_type
no_type = refl

not_mappable : mappable_text (section (Object 0x2000) (property (codes "PDOMapping") (codes "0x0") ∷ [])) ≡ []
unfolding mappable_text
not_mappable = refl

mappable : mappable_text (section (Object 0x2000) (property (codes "pdomapping") (codes "0x2") ∷ [])) ≡ codes "PDO"
unfolding mappable_text
mappable = refl

beside_default : default_text (Some 5) (section (Object 0x1014) (property (codes "DataType") (codes "7") ∷ property (codes "DefaultValue") (codes "$NODEID+0x80") ∷ property (codes "ParameterValue") (codes "0x85") ∷ []))
    ≡ codes "133 (85h), default $NODEID+80h = 133 (85h)"
unfolding default_text property_value value_text known_text sum_text number_text in_parentheses hex_text digits
beside_default = refl

-- a value and a default in a line of 100 columns, and below each other where it would have 101
abbrev with_limit : List ℕ → TextSection
with_limit high = section (Object 0x2000) (property (codes "DataType") (codes "6") ∷ property (codes "ParameterValue") (codes "250") ∷ property (codes "DefaultValue") (codes "1000") ∷ property (codes "LowLimit") (codes "0") ∷ property (codes "HighLimit") high ∷ [])

hundred_columns : section_text Text None [] (with_limit (codes "10"))
    ≡ codes "2000:00                               UNSIGNED16                250 (FAh), default 1000 (3E8h) 0..10\n"
unfolding entry_line one_line two_lines object_heading placed property_text type_text entry_type type_name mappable_text default_text property_value value_text known_text number_text in_parentheses hex_text limits_text limit_text digits digits_text
hundred_columns = refl

past_hundred_columns : section_text Text None [] (with_limit (codes "100"))
    ≡ codes "2000:00                               UNSIGNED16                250 (FAh)              0..100\n                                                                default 1000 (3E8h)\n"
unfolding entry_line one_line two_lines object_heading placed property_text type_text entry_type type_name mappable_text default_text property_value value_text known_text number_text in_parentheses hex_text limits_text limit_text digits digits_text
past_hundred_columns = refl

-- never in a table, nor where there is one of them alone
row_kept : is_split Markdown (with_limit (codes "100")) (replicate 200 32) ≡ false
row_kept = refl

value_kept : is_split Text (section (Object 0x2000) (property (codes "ParameterValue") (codes "250") ∷ [])) (replicate 200 32) ≡ false
value_kept = refl

default_kept : is_split Text (section (Object 0x2000) (property (codes "DefaultValue") (codes "250") ∷ [])) (replicate 200 32) ≡ false
default_kept = refl

value_alone : default_text None (section (Object 0x1017) (property (codes "DataType") (codes "6") ∷ property (codes "ParameterValue") (codes "7") ∷ [])) ≡ codes "7"
unfolding default_text property_value value_text known_text number_text digits
value_alone = refl

one_limit : limits_text (section (Object 0x1017) (property (codes "DataType") (codes "6") ∷ property (codes "HighLimit") (codes "0x10") ∷ [])) ≡ codes "..16"
unfolding limits_text limit_text digits
one_limit = refl

no_limit : limits_text (section (Object 0x1017) []) ≡ []
unfolding limits_text limit_text
no_limit = refl

-- ---- services

sync : service_of (key 0x1005 0) ≡ Some Sync
sync = refl

sync_sub_1 : service_of (key 0x1005 1) ≡ None
sync_sub_1 = refl

sync_period : service_of (key 0x1006 0) ≡ Some SyncPeriod
sync_period = refl

sync_window : service_of (key 0x1007 0) ≡ Some SyncWindow
sync_window = refl

after_window : service_of (key 0x1008 0) ≡ None
after_window = refl

time : service_of (key 0x1012 0) ≡ Some Time
time = refl

sync_overflow : service_of (key 0x1019 0) ≡ Some SyncOverflow
sync_overflow = refl

sync_overflow_sub_1 : service_of (key 0x1019 1) ≡ None
sync_overflow_sub_1 = refl

emcy : service_of (key 0x1014 0) ≡ Some Emcy
emcy = refl

emcy_inhibit_time : service_of (key 0x1015 0) ≡ Some EmcyInhibitTime
emcy_inhibit_time = refl

consumers : service_of (key 0x1016 0) ≡ None
consumers = refl

first_consumer : service_of (key 0x1016 1) ≡ Some HeartbeatConsumer
first_consumer = refl

producer : service_of (key 0x1017 0) ≡ Some HeartbeatProducer
producer = refl

before_channels : service_of (key 0x11FF 1) ≡ None
before_channels = refl

first_channel : service_of (key 0x1200 1) ≡ Some (SdoRequests 1)
first_channel = refl

last_channel : service_of (key 0x127F 2) ≡ Some (SdoResponses 128)
last_channel = refl

server_node : service_of (key 0x127F 3) ≡ None
server_node = refl

first_client : service_of (key 0x1280 1) ≡ Some (ClientRequests 1)
first_client = refl

last_client : service_of (key 0x12FF 2) ≡ Some (ClientResponses 128)
last_client = refl

client_node : service_of (key 0x1280 3) ≡ None
client_node = refl

after_channels : service_of (key 0x1300 1) ≡ None
after_channels = refl

server_name : service_name (SdoRequests 1) ≡ codes "SDO 1, client to server"
unfolding service_name digits
server_name = refl

other_names : map service_name (SdoResponses 2 ∷ ClientRequests 1 ∷ SyncOverflow ∷ HeartbeatProducer ∷ []) ≡ codes "SDO 2, server to client" ∷ codes "SDO client 1, client to server" ∷ codes "SYNC counter overflow" ∷ codes "Heartbeat producer" ∷ []
unfolding service_name digits
other_names = refl

client_name : service_name (ClientResponses 128) ≡ codes "SDO client 128, server to client"
unfolding service_name digits
client_name = refl

-- ---- PDOs

before_rpdos : is_pdo_cob_id (key 0x13FF 1) ≡ false
before_rpdos = refl

first_rpdo : is_pdo_cob_id (key 0x1400 1) ≡ true
first_rpdo = refl

transmission_type : is_pdo_cob_id (key 0x1400 2) ≡ false
transmission_type = refl

last_rpdo : is_pdo_cob_id (key 0x15FF 1) ≡ true
last_rpdo = refl

rpdo_mapping : is_pdo_cob_id (key 0x1600 1) ≡ false
rpdo_mapping = refl

before_tpdos : is_pdo_cob_id (key 0x17FF 1) ≡ false
before_tpdos = refl

first_tpdo : is_pdo_cob_id (key 0x1800 1) ≡ true
first_tpdo = refl

last_tpdo : is_pdo_cob_id (key 0x19FF 1) ≡ true
last_tpdo = refl

tpdo_mapping : is_pdo_cob_id (key 0x1A00 1) ≡ false
tpdo_mapping = refl

rpdo_1 : pdo_name 0x1400 ≡ codes "RPDO 1"
unfolding pdo_name digits
rpdo_1 = refl

rpdo_512 : pdo_name 0x15FF ≡ codes "RPDO 512"
unfolding pdo_name digits
rpdo_512 = refl

tpdo_1 : pdo_name 0x1800 ≡ codes "TPDO 1"
unfolding pdo_name digits
tpdo_1 = refl

tpdo_512 : pdo_name 0x19FF ≡ codes "TPDO 512"
unfolding pdo_name digits
tpdo_512 = refl

-- sub-index 3: of an RPDO it isn't used, of a TPDO it is the inhibit time
abbrev inhibit_at : ℕ → List ℕ
inhibit_at index = inhibit_text None (section (SubIndex (key index 3)) (property (codes "DefaultValue") (codes "500") ∷ []) ∷ []) index

last_rpdo_inhibit : inhibit_at 0x15FF ≡ []
last_rpdo_inhibit = refl

first_tpdo_inhibit : inhibit_at 0x1800 ≡ codes "50.0 ms"
unfolding said_at said word_text time_text millis_text digits
first_tpdo_inhibit = refl

relative_cob_id : said PdoCobId None (section (SubIndex (key 0x1800 1)) (property (codes "DefaultValue") (codes "$NODEID+0x40000180") ∷ [])) ≡ codes "$NODEID+180h, enabled, no RTR"
unfolding said word_text pdo_cob_id_text cob_id_text identifier_text hex_text digits
relative_cob_id = refl

cob_id_of_node : said PdoCobId (Some 5) (section (SubIndex (key 0x1800 1)) (property (codes "DefaultValue") (codes "$NODEID+0x80000180") ∷ [])) ≡ codes "185h, disabled"
unfolding said word_text pdo_cob_id_text cob_id_text identifier_text hex_text digits
cob_id_of_node = refl

past_32_bits : said PdoCobId None (section (SubIndex (key 0x1800 1)) (property (codes "DefaultValue") (codes "0x100000185") ∷ [])) ≡ codes "0x100000185"
unfolding said plain_text shown characters_of is_utf8 chars encode
past_32_bits = refl

no_cob_id : said PdoCobId None (section (SubIndex (key 0x1800 1)) (property (codes "DefaultValue") (codes "x") ∷ [])) ≡ codes "x"
unfolding said plain_text shown characters_of is_utf8 chars encode
no_cob_id = refl

abbrev consumer_said : Option ℕ → List ℕ
consumer_said node = said Consumer node (section (SubIndex (key 0x1016 1)) (property (codes "DefaultValue") (codes "$NODEID+0x10000") ∷ []))

consumer_without_node : consumer_said None ≡ codes "$NODEID+10000h"
unfolding said word_text hex_text digits
consumer_without_node = refl

consumer_of_node : consumer_said (Some 5) ≡ codes "node 1, within 5 ms"
unfolding said word_text consumer_text digits
consumer_of_node = refl

-- the name of a mapped entry, which a sum names only with a node-ID
abbrev name_with : Option ℕ → List ℕ → List ℕ
name_with node value =
    mapped_name node (section (Object 0x2000) (property (codes "ParameterName") (codes "a") ∷ []) ∷ []) (section (SubIndex (key 0x1A00 1)) (property (codes "DefaultValue") value ∷ []))

name_of_number : name_with None (codes "0x20000008") ≡ codes "a"
unfolding mapped_name property_text plain_text shown characters_of is_utf8 chars encode
name_of_number = refl

name_without_node : name_with None (codes "$NODEID+0x20000003") ≡ []
unfolding mapped_name
name_without_node = refl

name_of_node : name_with (Some 5) (codes "$NODEID+0x20000003") ≡ codes "a"
unfolding mapped_name property_text plain_text shown characters_of is_utf8 chars encode
name_of_node = refl

abbrev size_is : List ℕ → List TextSection
size_is text = section (SubIndex (key 0x1A00 0)) (property (codes "DefaultValue") text ∷ []) ∷ []

abbrev count_is : List ℕ → ℕ
count_is text = mapping_count None (size_is text) 0x1A00

count_64 : count_is (codes "64") ≡ 64
count_64 = refl

count_65 : count_is (codes "65") ≡ 0
count_65 = refl

count_missing : mapping_count None [] 0x1A00 ≡ 0
count_missing = refl

count_without_node : count_is (codes "$NODEID+2") ≡ 0
count_without_node = refl

count_of_node : mapping_count (Some 5) (size_is (codes "$NODEID+2")) 0x1A00 ≡ 7
count_of_node = refl

-- a multiplexed PDO: FEh and FFh in place of a count, and what is beside them
abbrev multiplexed_is : List ℕ → List ℕ
multiplexed_is text = multiplexed_words None (size_is text) 0x1A00

source_mode : multiplexed_is (codes "0xFE") ≡ codes "multiplexed PDO, source address mode"
source_mode = refl

destination_mode : multiplexed_is (codes "255") ≡ codes "multiplexed PDO, destination address mode"
destination_mode = refl

before_multiplexed : multiplexed_is (codes "0xFD") ≡ []
before_multiplexed = refl

past_multiplexed : multiplexed_is (codes "0x100") ≡ []
past_multiplexed = refl

multiplexed_without_node : multiplexed_is (codes "$NODEID+0xFE") ≡ []
multiplexed_without_node = refl

multiplexed_missing : multiplexed_words None [] 0x1A00 ≡ []
multiplexed_missing = refl

multiplexed_count : count_is (codes "0xFE") ≡ 0
multiplexed_count = refl

-- its line, and the row of a table
multiplexed_pdo : pdo_text Text None (size_is (codes "0xFE")) (section (SubIndex (key 0x1800 1)) (property (codes "DefaultValue") (codes "0x180") ∷ []))
    ≡ codes "TPDO 1  180h, enabled\n        multiplexed PDO, source address mode\n"
unfolding pdo_lines pdo_line mapped_lines pdo_name said_at said word_text pdo_cob_id_text cob_id_text identifier_text hex_text placed digits
multiplexed_pdo = refl

multiplexed_row : multiplexed_line Markdown (codes "a") ≡ codes "|  | a |  |  |  |\n"
unfolding placed
multiplexed_row = refl

number_itself : is_counted 0x1A00 2 (SubIndex (key 0x1A00 0)) ≡ false
number_itself = refl

first_counted : is_counted 0x1A00 2 (SubIndex (key 0x1A00 1)) ≡ true
first_counted = refl

last_counted : is_counted 0x1A00 2 (SubIndex (key 0x1A00 2)) ≡ true
last_counted = refl

not_counted : is_counted 0x1A00 2 (SubIndex (key 0x1A00 3)) ≡ false
not_counted = refl

of_another : is_counted 0x1A00 2 (SubIndex (key 0x1A01 1)) ≡ false
of_another = refl

-- ---- the order

object_first : nat_lt (rank (Object 0x1018)) (rank (SubIndex (key 0x1018 0))) ≡ true
object_first = refl

by_sub_index : nat_lt (rank (SubIndex (key 0x1018 0))) (rank (SubIndex (key 0x1018 1))) ≡ true
by_sub_index = refl

by_index : nat_lt (rank (SubIndex (key 0x1018 0xFF))) (rank (Object 0x1019)) ≡ true
by_index = refl
