-- What may be written into the parameters of PDOs besides their COB-ID: 1400h to 15FFh and 1800h to
-- 19FFh, 1600h to 17FFh and 1A00h to 1BFFh (CiA 301, 7.5.2.35 to 7.5.2.38).
use Rattle.std.specs.Prelude.{ℕ, ◌-◌, ◌==◌, Bool, ◌||◌, not, nat_lt, if◌then◌else◌, Option, None}
use Rattle.co_profile.specs.TransmissionTypes.{is_supported_type}
use Rattle.co_dict.specs.declared.side.Side.{Side}
use Rattle.co_dict.specs.Rows.{Contents, number_at}
use Rattle.co_dict.specs.Stores.{Description}
use Rattle.co_dict.specs.Refusals.{refused_if, first_of}
use Rattle.co_dict.specs.CobIds.{is_valid}
use Rattle.co_dict.specs.MappingWords.{word_refusal}
use Rattle.co_dict.specs.MappingCounts.{count_refusal}
use Rattle.co_frame_aborts.specs.AbortCodes.{invalid_value, not_in_this_state}

-- a PDO, by the index of its communication parameter, is valid: its COB-ID word is
abbrev pub is_pdo_valid : Contents → ℕ → Bool
is_pdo_valid contents index = is_valid (number_at contents (record { index = index; sub = 1 }))

-- the index of the communication parameter of the PDO that a mapping parameter belongs to
abbrev pub communication_index : ℕ → ℕ
communication_index mapping = mapping - 0x200

-- sub-index 2: a transmission type that is supported, so not 241 to 253
abbrev pub transmission_type_refusal : ℕ → Option ℕ
transmission_type_refusal kind = refused_if (not (is_supported_type kind)) invalid_value

-- sub-index 3 of a TPDO, the inhibit time: it doesn't change while the TPDO is valid
abbrev pub inhibit_time_refusal : Contents → ℕ → Option ℕ
inhibit_time_refusal contents index = refused_if (is_pdo_valid contents index) not_in_this_state

-- sub-index 6 of a TPDO, the SYNC start value: it doesn't change while the TPDO is valid; then 0,
-- which is none, to 240
abbrev pub sync_start_refusal : Contents → ℕ → ℕ → Option ℕ
sync_start_refusal contents index value = first_of
    (refused_if (is_pdo_valid contents index) not_in_this_state)
    (refused_if (nat_lt 240 value) invalid_value)

-- sub-indices 1 to 64 of a mapping parameter: they don't change while the PDO is valid or any of
-- them counts; a word other than 0 has to be one that the side may map
abbrev pub mapping_entry_refusal : Side → Description → Contents → ℕ → ℕ → Option ℕ
mapping_entry_refusal side d contents index word = first_of
    (refused_if (is_pdo_valid contents (communication_index index) || not (number_at contents (record { index = index; sub = 0 }) == 0)) not_in_this_state)
    (if word == 0 then None else word_refusal side d word)

-- sub-index 0 of a mapping parameter, how many of its words count: it doesn't change while the PDO
-- is valid
abbrev pub mapping_count_refusal : Side → Description → Contents → ℕ → ℕ → Option ℕ
mapping_count_refusal side d contents index count = first_of
    (refused_if (is_pdo_valid contents (communication_index index)) not_in_this_state)
    (count_refusal side d contents index count)
