-- Why a data sheet makes no dictionary for a node-ID and limits. The rows of a sheet are in
-- increasing key, so the first one at fault has the smallest key.
use Rattle.std.specs.Prelude.{◌≡◌, ◌⊎◌, true, ℕ, ◌+◌, ◌-◌, ◌==◌, nat_lt, Bool, false, not, ◌&&◌, ◌||◌, if◌then◌else◌, ℤ, pos, List, [], ◌∷◌, map, find, sum_by, length, Option, Some, None, option_map, is_some}
use Rattle.std.specs.Option.{option_or}
use Rattle.std.specs.List.{list_any, range_with_len}
use Rattle.co_value.specs.declared.key.Key.{Key}
use Rattle.co_value.specs.Keys.{same_key, is_key_before}
use Rattle.co_profile.specs.Indices.{is_within, sdo_server, rpdo_communication, tpdo_communication, pdo_cob_id}
use Rattle.co_profile.specs.Keys.{sync_key, emergency_key}
use Rattle.co_sheet.specs.Limits.{Default, node_id, at_most, is_in_type}
use Rattle.co_sheet.specs.Content.{Row as SheetRow}
use Rattle.co_dict.specs.declared.side.Side.{Side}
use Rattle.co_dict.specs.declared.side.Side.TheVariants.{Rpdo, Tpdo}
use Rattle.co_dict_build.specs.declared.build_fault.BuildFault.{BuildFault}
use Rattle.co_dict_build.specs.declared.build_fault.BuildFault.TheVariants.{NodeId, ValueRange, BadCobId, PdoPair, BadMapping, TooMany, Memory}
use Rattle.co_dict.specs.Rows.{Rows, Contents, number_at}
use Rattle.co_dict.specs.Stores.{Description}
use Rattle.co_dict_build.specs.Capacities.{Limits, capacity_of}
use Rattle.co_dict.specs.CobIds.{identifier_of, has_11_bits, is_from_to, is_restricted}
use Rattle.co_dict.specs.SdoChannels.{request_key, answer_key, is_channel, request_id, answer_id}
use Rattle.co_dict.specs.FreeIds.{is_good_word, is_good_sync_word}
use Rattle.co_dict.specs.Objects.{has_sub, has_object}
use Rattle.co_dict.specs.MappingCounts.{is_mapping_index, count_refusal}
use Rattle.co_dict_build.specs.Built.{Plan, built_description, built_contents}

-- ---- 1, NodeId

-- a node-ID is 1 to 127
abbrev pub is_node : ℕ → Bool
is_node node = is_from_to 1 127 node

-- ---- 2, ValueRange

-- a number is one of the entry's type, and within its limits
abbrev pub is_allowed : SheetRow → ℤ → Bool
is_allowed row value = is_in_type row.data_type value && at_most row.low (Some value) && at_most (Some value) row.high

-- a default is a sum with `$NODEID` that isn't allowed
abbrev pub is_sum_outside : ℕ → SheetRow → Default → Bool
is_sum_outside node row (node_id n) = not (is_allowed row (pos (node + n)))
is_sum_outside node row other = false

-- the smallest key of a row whose default is such a sum
abbrev pub value_out_of_range : ℕ → List SheetRow → Option Key
value_out_of_range node rows = option_map (λ row. row.key) (find (λ row. is_sum_outside node row row.default) rows)

-- ---- 3, BadCobId

-- the index of the communication parameter of a PDO
abbrev pub is_communication : ℕ → Bool
is_communication index = is_within rpdo_communication index || is_within tpdo_communication index

-- the index of the mapping parameter of a PDO
abbrev pub is_mapping : ℕ → Bool
is_mapping index = is_mapping_index Rpdo index || is_mapping_index Tpdo index

-- the key of the SYNC word
abbrev pub is_sync_key : Key → Bool
is_sync_key key = same_key key sync_key

-- the key of the emergency's word, or of a PDO's
abbrev pub is_word_key : Key → Bool
is_word_key key = same_key key emergency_key || (is_communication key.index && (key.sub == pdo_cob_id))

-- the key of a word of an SDO channel
abbrev pub is_channel_key : Key → Bool
is_channel_key key = is_within sdo_server key.index && is_from_to 1 2 key.sub

-- a channel exists, and one of its words has an identifier at a smaller key than this; channel 0
-- has the smallest keys
abbrev pub is_used_by_channel : ℕ → Contents → Key → ℕ → ℕ → Bool
is_used_by_channel node contents key identifier channel =
    is_channel contents channel
    && ((is_key_before (request_key channel) key && (identifier == request_id node contents channel))
    || (is_key_before (answer_key channel) key && (identifier == answer_id node contents channel)))

-- an SDO channel that exists has an identifier at a smaller key
unfoldable pub is_used_before : ℕ → Contents → Key → ℕ → Bool
is_used_before node contents key identifier = list_any (is_used_by_channel node contents key identifier) (range_with_len 0 128)

-- a word that no SDO channel may have: bits 29 to 11 are not 0, its identifier is restricted or
-- used at a smaller key
abbrev pub is_bad_channel_word : ℕ → Contents → Key → ℕ → Bool
is_bad_channel_word node contents key word =
    not (has_11_bits word) || is_restricted (identifier_of word) || is_used_before node contents key (identifier_of word)

-- a word that SYNC may not have: neither good nor 0
abbrev pub is_bad_sync_word : ℕ → Contents → ℕ → Bool
is_bad_sync_word node contents word = not ((word == 0) || is_good_sync_word node contents word)

-- a word that a PDO or the emergency may not have: neither good nor 0
abbrev pub is_bad_word : ℕ → Contents → ℕ → Bool
is_bad_word node contents word = not ((word == 0) || is_good_word node contents word)

-- the initial COB-ID word of an entry isn't one that it may have; that of an SDO channel counts if
-- the channel exists
abbrev pub is_bad_cob_id : ℕ → Contents → Key → Bool
is_bad_cob_id node contents key =
    let word = number_at contents key in
    if is_sync_key key then is_bad_sync_word node contents word
    else if is_word_key key then is_bad_word node contents word
    else is_channel_key key && is_channel contents (key.index - sdo_server.0) && is_bad_channel_word node contents key word

-- ---- 4, PdoPair

-- a PDO's communication parameter without its mapping parameter, or without sub-index 1 or 2
abbrev pub is_lone_communication : Rows → ℕ → Bool
is_lone_communication rows index =
    is_communication index && not (has_object rows (index + 0x200) && has_sub rows index 1 && has_sub rows index 2)

-- a PDO's mapping parameter without its communication parameter, or without sub-index 0
abbrev pub is_lone_mapping : Rows → ℕ → Bool
is_lone_mapping rows index = is_mapping index && not (has_object rows (index - 0x200) && has_sub rows index 0)

-- one or the other
abbrev pub is_unpaired : Rows → ℕ → Bool
is_unpaired rows index = is_lone_communication rows index || is_lone_mapping rows index

-- ---- 5, BadMapping

-- the initial count of a mapping of a side isn't 0, and would be refused while the PDO is not valid
abbrev pub is_bad_count : Side → Description → Contents → ℕ → Bool
is_bad_count side d contents index =
    let count = number_at contents (record { index = index; sub = 0 }) in
    is_mapping_index side index && not (count == 0) && is_some (count_refusal side d contents index count)

-- such a count at its key
abbrev pub is_bad_mapping : Description → Contents → Key → Bool
is_bad_mapping d contents key = (key.sub == 0) && (is_bad_count Rpdo d contents key.index || is_bad_count Tpdo d contents key.index)

-- ---- 6, TooMany

-- more than 16,384 entries, or more than 16,777,216 bytes of room in all
abbrev pub is_too_many : ℕ → ℕ → Bool
is_too_many entries room = nat_lt 16384 entries || nat_lt 16777216 room

-- ---- the fault that is returned

-- a fault, where a condition is true
abbrev pub fault_if : Bool → BuildFault → Option BuildFault
fault_if condition fault = if condition then Some fault else None

-- the first of a list of faults that is there
abbrev pub first_there : List (Option BuildFault) → Option BuildFault
first_there [] = None
first_there (fault ∷ faults) = option_or fault (first_there faults)

-- the smallest key of a list in increasing order for which a test is true
abbrev pub smallest_key : (Key → Bool) → List Key → Option Key
smallest_key test keys = find test keys

-- the smallest key of an entry whose initial COB-ID word isn't allowed
abbrev pub bad_cob_id : Description → Contents → Option Key
bad_cob_id d contents = smallest_key (is_bad_cob_id d.node contents) d.keys

-- the smallest index of a PDO object that is without its partner or an entry
abbrev pub unpaired : Description → Option ℕ
unpaired d = find (is_unpaired d.rows) (map (λ key. key.index) d.keys)

-- the smallest key of an initial count of a mapping that isn't allowed
abbrev pub bad_mapping : Description → Contents → Option Key
bad_mapping d contents = smallest_key (is_bad_mapping d contents) d.keys

-- too many entries, or too much room
abbrev pub room_fault : Limits → List SheetRow → Option BuildFault
room_fault limits rows = fault_if (is_too_many (length rows) (sum_by (capacity_of limits) rows)) TooMany

-- the first fault of the parameters of a dictionary, by its description and its initial contents
abbrev pub parameter_fault : Description → Contents → Option BuildFault
parameter_fault d contents = first_there (
    option_map BadCobId (bad_cob_id d contents)
    ∷ option_map PdoPair (unpaired d)
    ∷ option_map BadMapping (bad_mapping d contents)
    ∷ [])

-- the first fault of a dictionary, by its description and its initial contents
abbrev pub dictionary_fault : Limits → List SheetRow → Description → Contents → Option BuildFault
dictionary_fault limits rows d contents = first_there (
    option_map BadCobId (bad_cob_id d contents)
    ∷ option_map PdoPair (unpaired d)
    ∷ option_map BadMapping (bad_mapping d contents)
    ∷ room_fault limits rows
    ∷ [])

-- of the faults that apply, `Memory` excepted, the one with the smallest number, and of several
-- with that number the one with the smallest key
abbrev pub build_fault : Plan → Option BuildFault
build_fault plan = first_there (
    fault_if (not (is_node plan.node)) NodeId
    ∷ option_map ValueRange (value_out_of_range plan.node plan.rows)
    ∷ dictionary_fault plan.limits plan.rows (built_description plan) (built_contents plan)
    ∷ [])

-- the fault that is returned in place of a dictionary: the one above, or out of memory if neither
-- NodeId nor ValueRange applies
abbrev pub IsBuildFault : Plan → BuildFault → Type 0
IsBuildFault plan fault =
    (build_fault plan ≡ Some fault)
    ⊎ ((fault ≡ Memory) × (is_node plan.node ≡ true) × (value_out_of_range plan.node plan.rows ≡ None))
