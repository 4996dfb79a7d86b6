-- The build faults of a text that has other faults too: those that rest on nothing at fault. They are
-- looked for in the sheet that is read without what is at fault.
use Rattle.std.specs.Prelude.{ℕ, Bool, true, false, not, ◌&&◌, ◌==◌, ◌^◌, nat_lt, if◌then◌else◌, List, [], ◌∷◌, ◌++◌, find, ℤ, pos, Option, Some, None, is_some}
use Rattle.std.specs.List.{flat_map, list_any, range_with_len}
use Rattle.std.specs.Option.{option_map_or, option_or}
use Rattle.co_value.specs.declared.key.Key.{Key}
use Rattle.co_value.specs.Keys.{same_key}
use Rattle.co_sheet.specs.Content.{Row, SheetContent}
use Rattle.co_sheet.specs.Limits.{Default, number}
use Rattle.co_sheet_text.specs.declared.section_kind.SectionKind.{SectionKind}
use Rattle.co_sheet_text.specs.declared.section_kind.SectionKind.TheVariants.{Object, SubIndex}
use Rattle.co_sheet_text.specs.Sections.{TextSection, section_at}
use Rattle.co_dict.specs.MappingWords.{mapped_key}
use Rattle.co_dict_build.specs.Built.{Plan}
use Rattle.co_dict_build.specs.declared.build_fault.BuildFault.{BuildFault}
use Rattle.co_dict_build.specs.declared.build_fault.BuildFault.TheVariants.{NodeId, ValueRange, BadCobId, PdoPair}
use Rattle.co_dict_faults.specs.AllBuildFaults.{build_faults_of, mapping_faults_of}
use Rattle.co_dict_faults.specs.declared.mapping_fault.MappingFault.{MappingFault}
use Rattle.co_dict_faults.specs.declared.mapping_fault.MappingReason.{MappingReason}
use Rattle.co_dict_faults.specs.declared.mapping_fault.MappingReason.TheVariants.{CountsMore, TooLong, Multiplexed, Missing, Zero}
use Rattle.conode_lint_marks.specs.declared.mark.Mark.{Mark}
use Rattle.conode_lint_marks.specs.declared.mark.Subject.TheVariants.{Build, Mapping}
use Rattle.conode_lint_marks.specs.declared.concerns.Concern.TheVariants.{Channel, EntryOf, ObjectOf, PdoOf}
use Rattle.conode_lint_marks.specs.AtFault.{is_complete}
use Rattle.conode_lint_marks.specs.Concerns.{is_any}
use Rattle.conode_lint_marks.specs.BuildLines.{value_line}

-- ---- entries

-- the section that describes an entry: its own, or at sub-index 0 that of its object
abbrev pub section_of : List TextSection → Key → Option TextSection
section_of sections key =
    option_or (section_at (SubIndex key) sections)
    (if key.sub == 0 then section_at (Object key.index) sections else None)

abbrev pub row_at : List Row → Key → Option Row
row_at rows key = find (λ r. same_key r.key key) rows

-- nothing of an entry is at fault
abbrev pub is_sound : List SectionKind → Key → Bool
is_sound kinds key = not (is_any (EntryOf key) kinds)

-- and the text describes it
abbrev pub is_known : List TextSection → List SectionKind → Key → Bool
is_known sections kinds key = is_sound kinds key && is_some (section_of sections key)

-- ---- what a word of a mapping maps

-- a number of 32 bits
abbrev pub word_with : ℤ → Option ℕ
word_with (pos n) = if nat_lt n (2 ^ 32) then Some n else None
word_with other = None

abbrev pub word_of : Default → Option ℕ
word_of (number n) = word_with n
word_of other = None

-- what is at a key: an entry of the sheet, which is known; or none, if nothing hides one
abbrev pub is_target_known : List Row → List TextSection → List SectionKind → Key → Bool
is_target_known rows sections kinds key =
    is_sound kinds key
    && (if is_some (row_at rows key) then is_some (section_of sections key)
    else is_complete sections kinds)

-- the word of an entry is known, and what it maps
abbrev pub is_word_known : List Row → List TextSection → List SectionKind → Row → Bool
is_word_known rows sections kinds row =
    option_map_or (λ word. is_target_known rows sections kinds (mapped_key word))
    (word_of row.default) false

abbrev pub is_known_at : List Row → List TextSection → List SectionKind → Bool → Key → Bool
is_known_at rows sections kinds absent key =
    option_map_or (is_word_known rows sections kinds) (row_at rows key) absent

-- a word of a mapping is there and isn't known
abbrev pub is_word_unknown : List Row → List TextSection → List SectionKind → ℕ → ℕ → Bool
is_word_unknown rows sections kinds index sub =
    not (is_known_at rows sections kinds true (record { index = index; sub = sub }))

unfoldable pub is_any_word_unknown : List Row → List TextSection → List SectionKind → ℕ → Bool
is_any_word_unknown rows sections kinds index =
    list_any (is_word_unknown rows sections kinds index) (range_with_len 1 64)

-- ---- what each fault rests on

-- a word that is 0, and a multiplexed PDO, on nothing else; a word that is missing, and a count of more words than are there, on
-- what may be hidden; a length in all on all words; any other reason on its word
abbrev pub is_reason_known : List Row → List TextSection → List SectionKind → Key → MappingReason
    → Bool
is_reason_known rows sections kinds key Zero = true
is_reason_known rows sections kinds key Multiplexed = true
is_reason_known rows sections kinds key Missing = is_complete sections kinds
is_reason_known rows sections kinds key CountsMore = is_complete sections kinds
is_reason_known rows sections kinds key (TooLong bits) =
    not (is_any_word_unknown rows sections kinds key.index)
is_reason_known rows sections kinds key reason = is_known_at rows sections kinds false key

-- an object that the text describes, with no fault in it or in its sub-indices
abbrev pub is_object_known : List TextSection → List SectionKind → ℕ → Bool
is_object_known sections kinds index =
    not (is_any (ObjectOf index) kinds) && is_some (section_at (Object index) sections)

-- all reasons rest on the whole mapping
abbrev pub is_mapping_known : List Row → List TextSection → List SectionKind → MappingFault → Bool
is_mapping_known rows sections kinds fault =
    is_object_known sections kinds fault.key.index
    && is_reason_known rows sections kinds fault.key fault.reason

-- a COB-ID rests on its entry and on the SDO channels
abbrev pub is_cob_id_known : List TextSection → List SectionKind → Key → Bool
is_cob_id_known sections kinds key =
    is_known sections kinds key && not (is_any Channel kinds)

-- a lone object of a PDO on both of its objects, and on what may be hidden
abbrev pub is_pair_known : List TextSection → List SectionKind → ℕ → Bool
is_pair_known sections kinds index =
    is_complete sections kinds && not (is_any (PdoOf index) kinds)
    && is_some (section_at (Object index) sections)

-- a mapping has its reasons in place of a fault, and TooMany rests on the whole text
abbrev pub is_fault_known : List TextSection → List SectionKind → BuildFault → Bool
is_fault_known sections kinds NodeId = true
is_fault_known sections kinds (ValueRange key) = is_known sections kinds key
is_fault_known sections kinds (BadCobId key) = is_cob_id_known sections kinds key
is_fault_known sections kinds (PdoPair index) = is_pair_known sections kinds index
is_fault_known sections kinds other = false

-- ---- their marks

-- the line of an object's section, 0 if there is none; and of an entry's value, or else of its object
abbrev pub line_of_object : List TextSection → ℕ → ℕ
line_of_object sections index = option_map_or (λ s. s.line) (section_at (Object index) sections) 0

unfoldable pub line_of_entry : List TextSection → Key → ℕ
line_of_entry sections key =
    option_map_or value_line (section_of sections key) (line_of_object sections key.index)

abbrev pub line_of : List TextSection → BuildFault → ℕ
line_of sections (ValueRange key) = line_of_entry sections key
line_of sections (BadCobId key) = line_of_entry sections key
line_of sections (PdoPair index) = line_of_object sections index
line_of sections other = 0

abbrev pub known_mark : List TextSection → List SectionKind → BuildFault → List Mark
known_mark sections kinds fault =
    if is_fault_known sections kinds fault
    then record { line = line_of sections fault; subject = Build fault } ∷ [] else []

abbrev pub known_word : List Row → List TextSection → List SectionKind → MappingFault → List Mark
known_word rows sections kinds fault =
    if is_mapping_known rows sections kinds fault
    then record { line = line_of_entry sections fault.key; subject = Mapping fault } ∷ [] else []

unfoldable pub known_with : List Row → List TextSection → List SectionKind → List BuildFault
    → List MappingFault → List Mark
known_with rows sections kinds faults mappings =
    flat_map (known_mark sections kinds) faults
    ++ flat_map (known_word rows sections kinds) mappings

-- those of a plan of a sheet
unfoldable pub known_marks : List TextSection → List SectionKind → SheetContent → Plan → List Mark
known_marks sections kinds sheet plan =
    known_with sheet.rows sections kinds (build_faults_of plan) (mapping_faults_of plan)
