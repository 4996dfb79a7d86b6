-- Which of several a build fault is, by what the sheet has there (CiA 301, restricted CAN-IDs, PDO
-- communication and mapping parameter).
use Rattle.std.specs.Prelude.{ℕ, ◌+◌, ◌-◌, ◌/◌, ◌%◌, ◌==◌, nat_le, Bool, true, false, not, ◌&&◌, ◌||◌, if◌then◌else◌, List, codes, Option, Some, None, is_none, Result, Ok}
use Rattle.std.specs.Option.{option_map_or, option_or}
use Rattle.std.specs.Result.{result_ok}
use Rattle.co_value.specs.declared.data_type.DataType.TheVariants.{Unsigned32}
use Rattle.co_profile.specs.Indices.{is_within, rpdo_communication, tpdo_communication}
use Rattle.co_sheet_text.specs.declared.numeral.NumeralFault.{NumeralFault}
use Rattle.co_sheet_text.specs.declared.section_kind.SectionKind.TheVariants.{SubIndex}
use Rattle.co_sheet_text.specs.Numerals.{unsigned_number}
use Rattle.co_sheet_text.specs.Sections.{TextSection, section_at}
use Rattle.co_sheet.specs.Limits.{Default, node_id, numeric_default}
use Rattle.co_sheet_text_warnings.specs.ReadTexts.{own_node}
use Rattle.co_dict.specs.CobIds.{has_11_bits, identifier_of, is_restricted}
use Rattle.co_dict_build.specs.declared.build_fault.BuildFault.{BuildFault}
use Rattle.co_dict_build.specs.declared.build_fault.BuildFault.TheVariants.{BadCobId, PdoPair}
use Rattle.conode_lint_text.specs.Facts.{is_listed_nowhere, key_value}
use Rattle.conode_lint.specs.BuildWords.{build_meaning, is_sync}

-- ---- BadCobId

-- a number of 32 bits, and a node-ID that is known, are a word
abbrev pub sum_with : Option ℕ → ℕ → Option ℕ
sum_with (Some node) n = if nat_le n 0xFFFFFFFF then Some (node + n) else None
sum_with None n = None

abbrev pub sum_of : Option ℕ → Result Default NumeralFault → Option ℕ
sum_of given (Ok (node_id n)) = sum_with given n
sum_of given other = None

-- the COB-ID word that a value states: a number, or a sum with the node-ID
abbrev pub word_of : Option ℕ → List ℕ → Option ℕ
word_of node value =
    option_or (result_ok (unsigned_number value)) (sum_of node (numeric_default Unsigned32 value))

-- bit 30: the device sends SYNC
abbrev pub has_bit_30 : ℕ → Bool
has_bit_30 word = word / 0x4000_0000 % 2 == 1

-- what is wrong with a word that isn't allowed, the first that applies; of SYNC's bit 30 too
abbrev pub word_meaning : Bool → ℕ → List ℕ
word_meaning sync word =
    if sync && has_bit_30 word then codes "bit 30 of the COB-ID is set: the device sends SYNC"
    else if not (has_11_bits word) then codes "the COB-ID has more than 11 bits"
    else if is_restricted (identifier_of word) then codes "the COB-ID is reserved"
    else codes "the COB-ID belongs to an SDO channel"

-- ---- PdoPair

abbrev pub is_communication : ℕ → Bool
is_communication index = is_within rpdo_communication index || is_within tpdo_communication index

-- an object has no section of a sub-index
abbrev pub lacks_sub : List TextSection → ℕ → ℕ → Bool
lacks_sub sections index sub =
    is_none (section_at (SubIndex (record { index = index; sub = sub })) sections)

-- what a communication parameter lacks of sub-indices 1 and 2; the words of the kind where neither
abbrev pub subs_meaning : Bool → Bool → List ℕ → List ℕ
subs_meaning true true other =
    codes "the PDO lacks sub-indices 1 and 2, its COB-ID and its transmission type"
subs_meaning true false other = codes "the PDO lacks sub-index 1, its COB-ID"
subs_meaning false true other = codes "the PDO lacks sub-index 2, its transmission type"
subs_meaning false false other = other

-- the mapping parameter is 200h further than the communication parameter
abbrev pub pair_meaning : List TextSection → ℕ → List ℕ → List ℕ
pair_meaning sections index other =
    if is_communication index
    then (if is_listed_nowhere sections (index + 0x200)
    then codes "no list names the mapping parameter of this PDO"
    else subs_meaning (lacks_sub sections index 1) (lacks_sub sections index 2) other)
    else if is_listed_nowhere sections (index - 0x200)
    then codes "no list names the communication parameter of this PDO"
    else other

-- ---- any

-- what is wrong, at a line with this text among these sections, by the node-ID that is given, or else
-- the sheet's own; the words of the kind where the sheet doesn't show which
abbrev pub meaning_in : Option ℕ → List TextSection → List ℕ → BuildFault → List ℕ
meaning_in given sections text (BadCobId key) =
    option_map_or (word_meaning (is_sync key)) (word_of (own_node given sections) (key_value text))
    (build_meaning (BadCobId key))
meaning_in given sections text (PdoPair index) =
    pair_meaning sections index (build_meaning (PdoPair index))
meaning_in given sections text fault = build_meaning fault
