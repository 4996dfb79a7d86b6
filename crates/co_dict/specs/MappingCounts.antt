-- How many mapping words of a PDO count: sub-index 0 of 1600h to 17FFh and 1A00h to 1BFFh
-- (CiA 301, 7.5.2.36 and 7.5.2.38).
use Rattle.std.specs.Prelude.{ℕ, Bool, nat_lt, is_none, unwrap_or, Option, List, [], ◌∷◌, map, sum_by}
use Rattle.std.specs.List.{list_any, range_with_len}
use Rattle.co_dict.specs.declared.side.Side.{Side}
use Rattle.co_dict.specs.declared.side.Side.TheVariants.{Rpdo, Tpdo}
use Rattle.co_profile.specs.Indices.{is_within, rpdo_mapping, tpdo_mapping}
use Rattle.co_dict.specs.Rows.{Contents, number_at}
use Rattle.co_dict.specs.Stores.{Description}
use Rattle.co_dict.specs.Refusals.{refused_if, first_refusal}
use Rattle.co_dict.specs.Objects.{subs_present}
use Rattle.co_dict.specs.MappingWords.{word_width}
use Rattle.co_frame_aborts.specs.AbortCodes.{invalid_value, not_mappable, mapping_too_long}

-- the index of a mapping parameter of a side
abbrev pub is_mapping_index : Side → ℕ → Bool
is_mapping_index Rpdo index = is_within rpdo_mapping index
is_mapping_index Tpdo index = is_within tpdo_mapping index

-- the first words of a mapping object, sub-indices 1 to `count`
abbrev pub counted_words : Contents → ℕ → ℕ → List ℕ
counted_words contents index count = map (λ sub. number_at contents (record { index = index; sub = sub })) (range_with_len 1 count)

-- how many bytes words map together on a side
abbrev pub total_width : Side → Description → List ℕ → ℕ
total_width side d words = sum_by (λ word. unwrap_or (word_width side d word) 0) words

-- why a count is refused while the PDO is not valid: more than the mapping words that are there, up
-- to 64; a counted word that can't be mapped; more than 8 bytes in all
abbrev pub count_refusal : Side → Description → Contents → ℕ → ℕ → Option ℕ
count_refusal side d contents index count = let words = counted_words contents index count in first_refusal (
    refused_if (nat_lt (subs_present d.rows index 64) count) invalid_value
    ∷ refused_if (list_any (λ word. is_none (word_width side d word)) words) not_mappable
    ∷ refused_if (nat_lt 8 (total_width side d words)) mapping_too_long
    ∷ [])
