-- The object dictionary of a sheet as one document of JSON, in tokens (RFC 8259).
use Rattle.std.specs.Prelude.{ℕ, ◌%◌, if◌then◌else◌, List, [], ◌∷◌, ◌++◌, ℤ, pos, codes, Option, Some, None, option_map, option_and_then}
use Rattle.std.specs.List.{flat_map}
use Rattle.std.specs.Option.{option_map_or}
use Rattle.json.specs.Token.{Token, begin_object, end_object, end_array}
use Rattle.json.specs.Print.{print}
use Rattle.co_value.specs.declared.key.Key.{Key}
use Rattle.co_value.specs.declared.data_type.DataType.{DataType}
use Rattle.co_sheet_text.specs.declared.section_kind.SectionKind.{SectionKind}
use Rattle.co_sheet_text.specs.declared.section_kind.SectionKind.TheVariants.{Object, SubIndex}
use Rattle.co_sheet_text.specs.Sections.{Property, TextSection, property_at, section_at}
use Rattle.co_sheet_text.specs.Text.{is_empty}
use Rattle.conode_json.specs.Members.{text_member, flag_member, object_begin, array_begin, number_member, number_if}
use Rattle.conode_json.specs.Characters.{utf8_of}
use Rattle.conode_show_text.specs.declared.chapters.Chapter.{Chapter}
use Rattle.conode_show_text.specs.declared.chapters.Chapter.TheVariants.{Entries, Pdos, Services}
use Rattle.conode_show_text.specs.declared.meaning.Meaning.{Meaning}
use Rattle.conode_show_text.specs.declared.meaning.Meaning.TheVariants.{PdoCobId, PdoInhibit, EventTimer, Mapped}
use Rattle.conode_show_text.specs.declared.service.Service.{Service}
use Rattle.conode_show_text.specs.declared.values.Word.{Word}
use Rattle.conode_show_text.specs.Entries.{compound_type, has_sub_indices, is_mappable, type_text}
use Rattle.conode_show_text.specs.Meanings.{mapped_key, said}
use Rattle.conode_show_text.specs.Pdos.{entry_section, has_inhibit_time, is_counted, is_pdo_cob_id, known_word, mapping_count, mapping_index, multiplexed_words, pdo_name, section_word, type_meaning}
use Rattle.conode_show_text.specs.Services.{key_of, service_meaning, service_name, service_of}
use Rattle.conode_show_text.specs.Values.{limit_in_type, type_of, value_number}

-- ---- members

-- a text of the sheet: as it is in UTF-8, else read as Windows-1252; left out if the section has
-- none
unfoldable pub property_member : List ℕ → List ℕ → TextSection → List Token
property_member name property section =
    option_map_or (λ k. text_member name (utf8_of k.value)) (property_at property section) []

-- ---- entries

-- a value as the sheet has it, and its number, left out if it is none
unfoldable pub quantity_member : List ℕ → Option ℤ → List ℕ → List Token
quantity_member name n value =
    object_begin name ++ number_if (codes "number") n ++ text_member (codes "text") (utf8_of value)
    ++ end_object ∷ []

-- a value, and a limit; left out if the section has none
unfoldable pub value_member : List ℕ → Option ℕ → Option DataType → Option Property → List Token
value_member name node t property =
    option_map_or (λ k. quantity_member name (value_number node t k.value) k.value) property []

unfoldable pub limit_member : List ℕ → Option DataType → Option Property → List Token
limit_member name t limit =
    option_map_or (λ k. quantity_member name (limit_in_type t k.value) k.value) limit []

-- a text, left out if it is empty
abbrev pub text_if : List ℕ → List ℕ → List Token
text_if name text = if is_empty text then [] else text_member name text

-- name and type, each left out if there is none
abbrev pub named_members : List ℕ → TextSection → List Token
named_members type_words section =
    property_member (codes "name") (codes "ParameterName") section
    ++ text_if (codes "type") type_words

-- the default, the value of a device configuration file, and the limits
abbrev pub value_members : Option ℕ → TextSection → List Token
value_members node section =
    value_member (codes "default") node (type_of section) (property_at (codes "DefaultValue") section)
    ++ value_member (codes "value") node (type_of section) (property_at (codes "ParameterValue") section)
    ++ limit_member (codes "low") (type_of section) (property_at (codes "LowLimit") section)
    ++ limit_member (codes "high") (type_of section) (property_at (codes "HighLimit") section)

abbrev pub key_members : Key → List Token
key_members k = number_member (codes "index") (pos k.index) ++ number_member (codes "subIndex") (pos k.sub)

-- an entry before its values: its key, name, type and access
unfoldable pub entry_begin : Key → TextSection → List Token
entry_begin k section =
    begin_object
    ∷ (key_members k ++ named_members (type_text section) section
    ++ property_member (codes "access") (codes "AccessType") section)

unfoldable pub entry_tokens : Option ℕ → Key → TextSection → List Token
entry_tokens node k section =
    entry_begin k section ++ value_members node section
    ++ flag_member (codes "mappable") (is_mappable section) ++ end_object ∷ []

-- an object with sub-indices
unfoldable pub object_tokens : ℕ → TextSection → List Token
object_tokens index section =
    begin_object
    ∷ (number_member (codes "index") (pos index) ++ named_members (compound_type section) section
    ++ end_object ∷ [])

abbrev pub described_tokens : Option ℕ → List TextSection → TextSection → SectionKind → List Token
described_tokens given sections section (Object index) =
    if has_sub_indices sections index section then object_tokens index section
    else entry_tokens given (record { index = index; sub = 0 }) section
described_tokens given sections section (SubIndex k) = entry_tokens given k section
described_tokens given sections section other = []

abbrev pub section_tokens : Option ℕ → List TextSection → TextSection → List Token
section_tokens node sections section = described_tokens node sections section section.kind

-- ---- words of the communication profile

-- the number of a word, if it is known without `$NODEID`
abbrev pub absolute_number : Word → Option ℤ
absolute_number word = if word.relative then None else Some (pos word.number)

abbrev pub word_number : Option ℕ → TextSection → Option ℤ
word_number node section = option_and_then absolute_number (section_word node section)

-- the value of an entry: its number, left out if it isn't known, and its words
abbrev pub said_members : Meaning → Option ℕ → TextSection → List Token
said_members meaning node section =
    number_if (codes "number") (word_number node section)
    ++ text_member (codes "words") (said meaning node section)

unfoldable pub said_member : List ℕ → Meaning → Option ℕ → TextSection → List Token
said_member name meaning node section =
    object_begin name ++ said_members meaning node section ++ end_object ∷ []

-- the value of a sub-index, left out if it isn't there
unfoldable pub said_at_member : List ℕ → Meaning → Option ℕ → List TextSection → Key → List Token
said_at_member name meaning node sections k =
    option_map_or (said_member name meaning node) (section_at (SubIndex k) sections) []

-- ---- PDOs

-- the name of an entry, left out if there is none
abbrev pub name_at : List TextSection → Key → List Token
name_at sections k =
    option_map_or (property_member (codes "name") (codes "ParameterName")) (entry_section sections k) []

unfoldable pub mapped_members : List TextSection → Word → List Token
mapped_members sections word =
    key_members (mapped_key word.number) ++ number_member (codes "bits") (pos (word.number % 0x100))
    ++ name_at sections (mapped_key word.number)

-- a word of a mapping: what it names, left out if that isn't known, and its meaning
unfoldable pub mapped_tokens : Option ℕ → List TextSection → TextSection → List Token
mapped_tokens node sections section =
    begin_object
    ∷ (option_map_or (mapped_members sections) (known_word node section) []
    ++ (text_member (codes "words") (said Mapped node section) ++ end_object ∷ []))

abbrev pub counted_tokens : Option ℕ → List TextSection → ℕ → ℕ → TextSection → List Token
counted_tokens node sections index count section =
    if is_counted index count section.kind then mapped_tokens node sections section else []

-- what a PDO maps
unfoldable pub mapping_tokens : Option ℕ → List TextSection → ℕ → List Token
mapping_tokens node sections index =
    flat_map (counted_tokens node sections index (mapping_count node sections index)) sections

-- what a multiplexed PDO has in place of these: its words alone; nothing if there are none
abbrev pub multiplexed_tokens : List ℕ → List Token
multiplexed_tokens words =
    if is_empty words then [] else begin_object ∷ (text_member (codes "words") words ++ end_object ∷ [])

-- a PDO before its timers: its COB-ID and transmission type
unfoldable pub pdo_begin : Option ℕ → List TextSection → ℕ → TextSection → List Token
pdo_begin node sections index section =
    begin_object
    ∷ (text_member (codes "pdo") (pdo_name index) ++ number_member (codes "index") (pos index)
    ++ said_member (codes "cobId") PdoCobId node section
    ++ said_at_member (codes "transmissionType") (type_meaning index) node sections (record { index = index; sub = 2 }))

-- the inhibit time, where a PDO has one
abbrev pub inhibit_member : Option ℕ → List TextSection → ℕ → List Token
inhibit_member node sections index =
    if has_inhibit_time index
    then said_at_member (codes "inhibitTime") PdoInhibit node sections (record { index = index; sub = 3 })
    else []

-- the event timer, and the beginning of what it maps
unfoldable pub timer_members : Option ℕ → List TextSection → ℕ → List Token
timer_members node sections index =
    said_at_member (codes "eventTimer") EventTimer node sections (record { index = index; sub = 5 })
    ++ array_begin (codes "mapped")

unfoldable pub pdo_tokens : Option ℕ → List TextSection → ℕ → TextSection → List Token
pdo_tokens node sections index section =
    pdo_begin node sections index section ++ inhibit_member node sections index
    ++ timer_members node sections index
    ++ multiplexed_tokens (multiplexed_words node sections (mapping_index index))
    ++ mapping_tokens node sections (mapping_index index) ++ (end_array ∷ end_object ∷ [])

abbrev pub pdo_with : Option ℕ → List TextSection → TextSection → SectionKind → List Token
pdo_with given sections section (SubIndex k) =
    if is_pdo_cob_id k then pdo_tokens given sections k.index section else []
pdo_with given sections section other = []

abbrev pub pdo_of : Option ℕ → List TextSection → TextSection → List Token
pdo_of node sections section = pdo_with node sections section section.kind

-- ---- services

unfoldable pub service_tokens : Option ℕ → TextSection → Key → Service → List Token
service_tokens node section k service =
    begin_object
    ∷ (key_members k ++ text_member (codes "service") (service_name service)
    ++ said_members (service_meaning service) node section ++ end_object ∷ [])

abbrev pub service_with : Option ℕ → TextSection → Key → List Token
service_with node section k = option_map_or (service_tokens node section k) (service_of k) []

abbrev pub service_of_section : Option ℕ → TextSection → List Token
service_of_section node section = option_map_or (service_with node section) (key_of section.kind) []

-- ---- the document

abbrev pub chapter_name : Chapter → List ℕ
chapter_name Entries = codes "entries"
chapter_name Pdos = codes "pdos"
chapter_name Services = codes "services"

-- what a chapter has for a section
abbrev pub chapter_tokens : Chapter → Option ℕ → List TextSection → TextSection → List Token
chapter_tokens Entries given sections section = section_tokens given sections section
chapter_tokens Pdos given sections section = pdo_of given sections section
chapter_tokens Services given sections section = service_of_section given section

unfoldable pub chapter_member : Chapter → Option ℕ → List TextSection → List Token
chapter_member chapter node sections =
    array_begin (chapter_name chapter) ++ flat_map (chapter_tokens chapter node sections) sections
    ++ end_array ∷ []

unfoldable pub document_tokens : Option ℕ → List TextSection → List Token
document_tokens node sections =
    begin_object
    ∷ (number_member (codes "version") (pos 1) ++ number_if (codes "node") (option_map pos node)
    ++ chapter_member Entries node sections ++ chapter_member Pdos node sections
    ++ chapter_member Services node sections ++ end_object ∷ [])

-- the document as a text, and that of a text that isn't shown, with the reason in words
unfoldable pub json_document : Option ℕ → List TextSection → List ℕ
json_document node sections = print (document_tokens node sections) ++ 10 ∷ []

unfoldable pub reason_tokens : List ℕ → List Token
reason_tokens words =
    begin_object
    ∷ (number_member (codes "version") (pos 1) ++ text_member (codes "fault") words ++ end_object ∷ [])

unfoldable pub json_reason : List ℕ → List ℕ
json_reason words = print (reason_tokens words) ++ 10 ∷ []
