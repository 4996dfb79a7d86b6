-- PDOs in words: COB-ID, transmission type, timers, what they map (CiA 301, 7.5.2.35 to 7.5.2.38).
use Rattle.std.specs.Prelude.{ℕ, ◌+◌, ◌-◌, ◌==◌, nat_le, Bool, ◌&&◌, ◌||◌, if◌then◌else◌, List, [], ◌∷◌, ◌++◌, codes, decimal, Option, Some, None, false, option_and_then}
use Rattle.std.specs.List.{flat_map}
use Rattle.std.specs.Option.{option_map_or, option_or}
use Rattle.co_value.specs.declared.key.Key.{Key}
use Rattle.co_profile.specs.Indices.{is_within, rpdo_communication, tpdo_communication}
use Rattle.co_sheet_text.specs.declared.section_kind.SectionKind.{SectionKind}
use Rattle.co_sheet_text.specs.declared.section_kind.SectionKind.TheVariants.{Object, SubIndex}
use Rattle.co_sheet_text.specs.Sections.{TextSection, section_at}
use Rattle.co_sheet_text.specs.Text.{is_empty}
use Rattle.conode_show_text.specs.declared.format.Format.{Format}
use Rattle.conode_show_text.specs.declared.meaning.Meaning.{Meaning}
use Rattle.conode_show_text.specs.declared.meaning.Meaning.TheVariants.{PdoCobId, Transmission, Reception, PdoInhibit, EventTimer, Mapped}
use Rattle.conode_show_text.specs.Layout.{Part, line_of}
use Rattle.conode_show_text.specs.Texts.{property_text}
use Rattle.conode_show_text.specs.declared.values.Word.{Word}
use Rattle.conode_show_text.specs.Values.{word_of, value_of}
use Rattle.conode_show_text.specs.Meanings.{mapped_key, said}

-- the name of a PDO with its number, from 1, by the index of its communication parameter
unfoldable pub pdo_name : ℕ → List ℕ
pdo_name index =
    if is_within rpdo_communication index then codes "RPDO " ++ decimal (index - 0x13FF)
    else codes "TPDO " ++ decimal (index - 0x17FF)

-- what the transmission type of a PDO means, by the index of its communication parameter
unfoldable pub type_meaning : ℕ → Meaning
type_meaning index = if is_within rpdo_communication index then Reception else Transmission

-- whether an entry is the COB-ID of a PDO
abbrev pub is_pdo_cob_id : Key → Bool
is_pdo_cob_id key =
    key.sub == 1 && (is_within rpdo_communication key.index || is_within tpdo_communication key.index)

-- the section of an entry: that of its sub-index, or else for sub-index 0 that of its object
abbrev pub entry_section : List TextSection → Key → Option TextSection
entry_section sections key =
    option_or (section_at (SubIndex key) sections)
    (if key.sub == 0 then section_at (Object key.index) sections else None)

-- the value of a sub-index in words, nothing if it isn't there
unfoldable pub said_at : Meaning → Option ℕ → List TextSection → Key → List ℕ
said_at meaning node sections key = option_map_or (said meaning node) (section_at (SubIndex key) sections) []

-- whether a PDO has an inhibit time: sub-index 3 of an RPDO isn't used (CiA 301, 7.5.2.35)
abbrev pub has_inhibit_time : ℕ → Bool
has_inhibit_time index = is_within tpdo_communication index

-- the inhibit time in words
abbrev pub inhibit_text : Option ℕ → List TextSection → ℕ → List ℕ
inhibit_text node sections index =
    if has_inhibit_time index
    then said_at PdoInhibit node sections (record { index = index; sub = 3 }) else []

-- PDO, COB-ID, transmission type, inhibit time, event timer
abbrev pub pdo_parts : Option ℕ → List TextSection → ℕ → TextSection → List Part
pdo_parts node sections index section =
    record { column = 0; text = pdo_name index }
    ∷ record { column = 8; text = said PdoCobId node section }
    ∷ record { column = 38; text = said_at (type_meaning index) node sections (record { index = index; sub = 2 }) }
    ∷ record { column = 72; text = inhibit_text node sections index }
    ∷ record { column = 83; text = said_at EventTimer node sections (record { index = index; sub = 5 }) } ∷ []

unfoldable pub pdo_line : Format → Option ℕ → List TextSection → ℕ → TextSection → List ℕ
pdo_line format node sections index section = line_of format (pdo_parts node sections index section)

-- the value of an entry as a word, if it is one
abbrev pub section_word : Option ℕ → TextSection → Option Word
section_word node section = option_and_then (λ k. word_of node k.value) (value_of section)

-- such a word that is no sum with a node-ID that isn't known
abbrev pub if_known : Word → Option Word
if_known word = if word.relative then None else Some word

abbrev pub known_word : Option ℕ → TextSection → Option Word
known_word node section = option_and_then if_known (section_word node section)

-- the name of the entry that a word of a mapping names
unfoldable pub mapped_name : Option ℕ → List TextSection → TextSection → List ℕ
mapped_name node sections section =
    option_map_or (property_text (codes "ParameterName"))
    (option_and_then (λ word. entry_section sections (mapped_key word.number)) (known_word node section)) []

-- what is mapped, and its name
abbrev pub mapped_parts : Option ℕ → List TextSection → TextSection → List Part
mapped_parts node sections section =
    record { column = 0; text = [] }
    ∷ record { column = 8; text = said Mapped node section }
    ∷ record { column = 38; text = mapped_name node sections section }
    ∷ record { column = 72; text = [] } ∷ record { column = 83; text = [] } ∷ []

unfoldable pub mapped_line : Format → Option ℕ → List TextSection → TextSection → List ℕ
mapped_line format node sections section = line_of format (mapped_parts node sections section)

-- the index of a PDO's mapping parameter
abbrev pub mapping_index : ℕ → ℕ
mapping_index index = index + 0x200

-- the number in sub-index 0 of a mapping, if it is known (CiA 301, 7.5.2.36 and 7.5.2.38)
abbrev pub mapping_size : Option ℕ → List TextSection → ℕ → Option Word
mapping_size node sections index =
    option_and_then (known_word node) (section_at (SubIndex (record { index = index; sub = 0 })) sections)

-- how many words of a mapping count; none, if there are more than 64
abbrev pub mapping_count : Option ℕ → List TextSection → ℕ → ℕ
mapping_count node sections index =
    option_map_or (λ word. if nat_le word.number 64 then word.number else 0) (mapping_size node sections index) 0

-- a multiplexed PDO (CiA 301, 7.2.2.5) has no count but FEh or FFh: its message has the address of the
-- source of its data, or that of the destination
abbrev pub multiplexed_name : ℕ → List ℕ
multiplexed_name n =
    if n == 0xFE then codes "multiplexed PDO, source address mode"
    else if n == 0xFF then codes "multiplexed PDO, destination address mode" else []

-- what the mapping of a multiplexed PDO says, nothing of any other
abbrev pub multiplexed_words : Option ℕ → List TextSection → ℕ → List ℕ
multiplexed_words node sections index =
    option_map_or (λ word. multiplexed_name word.number) (mapping_size node sections index) []

-- its line, beside those of what other PDOs map
abbrev pub multiplexed_parts : List ℕ → List Part
multiplexed_parts words =
    record { column = 0; text = [] } ∷ record { column = 8; text = words } ∷ record { column = 38; text = [] }
    ∷ record { column = 72; text = [] } ∷ record { column = 83; text = [] } ∷ []

abbrev pub multiplexed_line : Format → List ℕ → List ℕ
multiplexed_line format words = if is_empty words then [] else line_of format (multiplexed_parts words)

-- whether a section is one of the words that count in the mapping of this index
abbrev pub is_counted : ℕ → ℕ → SectionKind → Bool
is_counted index count (SubIndex key) = key.index == index && nat_le 1 key.sub && nat_le key.sub count
is_counted index count other = false

-- the line of such a section, and the lines of what a mapping maps
abbrev pub counted_line : Format → Option ℕ → List TextSection → ℕ → ℕ → TextSection → List ℕ
counted_line format node sections index count section =
    if is_counted index count section.kind then mapped_line format node sections section else []

unfoldable pub mapped_lines : Format → Option ℕ → List TextSection → ℕ → ℕ → List ℕ
mapped_lines format node sections index count =
    flat_map (counted_line format node sections index count) sections

-- a PDO, by the section of its COB-ID
unfoldable pub pdo_lines : Format → Option ℕ → List TextSection → ℕ → TextSection → List ℕ
pdo_lines format node sections index section =
    pdo_line format node sections index section
    ++ multiplexed_line format (multiplexed_words node sections (mapping_index index))
    ++ mapped_lines format node sections (mapping_index index) (mapping_count node sections (mapping_index index))

abbrev pub pdo_of_kind : Format → Option ℕ → List TextSection → TextSection → SectionKind → List ℕ
pdo_of_kind format given sections section (SubIndex key) =
    if is_pdo_cob_id key then pdo_lines format given sections key.index section else []
pdo_of_kind format given sections section other = []

abbrev pub pdo_text : Format → Option ℕ → List TextSection → TextSection → List ℕ
pdo_text format node sections section = pdo_of_kind format node sections section section.kind
