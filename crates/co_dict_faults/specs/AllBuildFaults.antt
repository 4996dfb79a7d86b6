-- All faults of a dictionary that a data sheet makes for a node-ID and limits (CiA 301; CiA 306).
use Rattle.std.specs.Prelude.{ℕ, ◌==◌, Bool, false, not, ◌&&◌, if◌then◌else◌, List, [], ◌∷◌, ◌++◌, map, flat_map, length, sum_by, Option, Some, None}
use Rattle.std.specs.Option.{option_map_or}
use Rattle.co_value.specs.declared.key.Key.{Key}
use Rattle.co_dict.specs.Rows.{Rows, Contents}
use Rattle.co_dict.specs.Stores.{Description}
use Rattle.co_dict_build.specs.declared.build_fault.BuildFault.{BuildFault}
use Rattle.co_dict_build.specs.declared.build_fault.BuildFault.TheVariants.{NodeId, ValueRange, BadCobId, PdoPair, BadMapping, TooMany}
use Rattle.co_dict_build.specs.Capacities.{capacity_of}
use Rattle.co_dict_build.specs.Built.{Plan, built_description, built_contents}
use Rattle.co_dict_build.specs.BuildFaults.{is_node, is_bad_cob_id, is_unpaired, is_bad_mapping, is_too_many}
use Rattle.co_dict_faults.specs.declared.mapping_fault.MappingFault.{MappingFault}
use Rattle.co_dict_faults.specs.MappingReasons.{side_of, mapping_faults}
use Rattle.co_dict_faults.specs.SoundPlans.{sums_outside, sound_plan, rests_word, rests_mapping}

-- a fault, where a condition is true
abbrev pub list_if : Bool → BuildFault → List BuildFault
list_if condition fault = if condition then fault ∷ [] else []

-- ---- 3, BadCobId: each initial COB-ID word that isn't allowed, and rests on no value at fault

abbrev pub is_word_found : List Key → Description → Contents → Key → Bool
is_word_found outside d contents key =
    not (rests_word outside key) && is_bad_cob_id d.node contents key

abbrev pub bad_words : List Key → Description → Contents → List Key → List BuildFault
bad_words outside d contents keys =
    flat_map (λ key. list_if (is_word_found outside d contents key) (BadCobId key)) keys

-- ---- 4, PdoPair: each index of a PDO object without its partner or an entry, in increasing order

-- the index of the key before
abbrev pub is_index : Option ℕ → ℕ → Bool
is_index last index = option_map_or (λ before. before == index) last false

abbrev pub unpaired_past : Rows → Option ℕ → List Key → List BuildFault
unpaired_past rows last [] = []
unpaired_past rows last (key ∷ keys) =
    list_if (not (is_index last key.index) && is_unpaired rows key.index) (PdoPair key.index)
    ++ unpaired_past rows (Some key.index) keys

-- ---- 5, BadMapping: each initial mapping that isn't allowed, and rests on no value at fault

abbrev pub is_mapping_found : List Key → Description → Contents → Key → Bool
is_mapping_found outside d contents key =
    not (rests_mapping outside key.index) && is_bad_mapping d contents key

abbrev pub bad_mappings : List Key → Description → Contents → List Key → List BuildFault
bad_mappings outside d contents keys =
    flat_map (λ key. list_if (is_mapping_found outside d contents key) (BadMapping key)) keys

-- the faults of each word and count of these mappings
abbrev pub words_of_mapping : List Key → Description → Contents → Key → List MappingFault
words_of_mapping outside d contents key =
    if is_mapping_found outside d contents key
    then mapping_faults (side_of key.index) d contents key.index else []

abbrev pub words_at_fault : List Key → Description → Contents → List Key → List MappingFault
words_at_fault outside d contents keys = flat_map (words_of_mapping outside d contents) keys

-- ---- all

-- those of the parameters
abbrev pub parameter_faults : List Key → Description → Contents → List BuildFault
parameter_faults outside d contents =
    bad_words outside d contents d.keys ++ unpaired_past d.rows None d.keys
    ++ bad_mappings outside d contents d.keys

-- TooMany
abbrev pub room_faults : Plan → List BuildFault
room_faults plan =
    list_if (is_too_many (length plan.rows) (sum_by (capacity_of plan.limits) plan.rows)) TooMany

-- all faults of a plan; if the node-ID is at fault, that alone
abbrev pub build_faults_of : Plan → List BuildFault
build_faults_of plan =
    let outside = sums_outside plan.node plan.rows in
    let sound = sound_plan plan in
    if not (is_node plan.node) then NodeId ∷ []
    else map ValueRange outside
    ++ parameter_faults outside (built_description sound) (built_contents sound)
    ++ room_faults plan

-- the faults of the words and counts of the mappings among them
abbrev pub mapping_faults_of : Plan → List MappingFault
mapping_faults_of plan =
    let outside = sums_outside plan.node plan.rows in
    let d = built_description (sound_plan plan) in
    if not (is_node plan.node) then []
    else words_at_fault outside d (built_contents (sound_plan plan)) d.keys
