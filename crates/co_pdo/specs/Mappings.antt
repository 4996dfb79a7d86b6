-- The objects mapped into a PDO: the counted words of 1600h to 17FFh and 1A00h to 1BFFh (CiA 301,
-- 7.5.2.36 and 7.5.2.38).
use Rattle.std.specs.Prelude.{ℕ, ◌==◌, ◌&&◌, Bool, true, false, is_some, is_none, Option, option_map, List, [], sum_by, if◌then◌else◌}
use Rattle.std.specs.Option.{option_map_or}
use Rattle.std.specs.List.{filter_map, list_all}
use Rattle.co_value.specs.Types.{width_of}
use Rattle.co_dict.specs.declared.side.Side.{Side}
use Rattle.co_dict.specs.declared.side.Side.TheVariants.{Rpdo, Tpdo}
use Rattle.co_profile.specs.Indices.{nth, rpdo_communication, rpdo_mapping, tpdo_communication, tpdo_mapping}
use Rattle.co_dict.specs.Rows.{Rows, Contents, number_at}
use Rattle.co_dict.specs.Stores.{Description}
use Rattle.co_dict.specs.MappingWords.{mapped_key, usable_dummy, word_width}
use Rattle.co_dict.specs.MappingCounts.{counted_words, count_refusal}
use Rattle.co_pdo.specs.declared.mapping.Mapped.{Mapped}
use Rattle.co_pdo.specs.declared.mapping.Mapped.TheVariants.{Entry, Dummy}

-- the index of the communication parameter of PDO k
abbrev pub communication_of : Side → ℕ → ℕ
communication_of Rpdo k = nth rpdo_communication k
communication_of Tpdo k = nth tpdo_communication k

-- the index of the mapping parameter of PDO k
abbrev pub mapping_index : Side → ℕ → ℕ
mapping_index Rpdo k = nth rpdo_mapping k
mapping_index Tpdo k = nth tpdo_mapping k

-- the dictionary has PDO k: its COB-ID word exists
abbrev pub has_pdo : Side → Rows → ℕ → Bool
has_pdo side rows k = is_some (rows (record { index = communication_of side k; sub = 1 }))

-- the object of a mapping word on a side: a dummy entry or an entry, with its width in bytes
abbrev pub mapped_by : Side → Description → ℕ → Option Mapped
mapped_by side d word = option_map (λ width.
    if is_some (usable_dummy side d.dummies (mapped_key word).index) then Dummy width else Entry (mapped_key word) width)
    (word_width side d word)

-- how many words of PDO k count
abbrev pub count_of : Side → Contents → ℕ → ℕ
count_of side contents k = number_at contents (record { index = mapping_index side k; sub = 0 })

-- the count of PDO k is one that its own rule permits
abbrev pub is_good_count : Side → Description → Contents → ℕ → Bool
is_good_count side d contents k = is_none (count_refusal side d contents (mapping_index side k) (count_of side contents k))

-- the objects of the first `count` words of a mapping parameter, in their order
abbrev pub mapped_words : Side → Description → Contents → ℕ → ℕ → List Mapped
mapped_words side d contents index count = filter_map (mapped_by side d) (counted_words contents index count)

-- the mapping of PDO k: the objects of its counted words, in their order; empty if there is no such
-- PDO, if its count is 0, and if its own rule refuses that count
abbrev pub mapping_of : Side → Description → Contents → ℕ → List Mapped
mapping_of side d contents k = if has_pdo side d.rows k && is_good_count side d contents k
    then mapped_words side d contents (mapping_index side k) (count_of side contents k) else []

-- the width in bytes
abbrev pub width_in : Mapped → ℕ
width_in (Entry key width) = width
width_in (Dummy width) = width

-- how many bytes are mapped in all
abbrev pub total_of : List Mapped → ℕ
total_of mapping = sum_by width_in mapping

-- an entry exists, and its numeric type has this width
abbrev pub is_there : Rows → Mapped → Bool
is_there rows (Entry key width) = option_map_or (λ row. option_map_or (λ w. w == width) (width_of row.data_type) false) (rows key) false
is_there rows (Dummy width) = true

-- all mapped entries exist with their widths
abbrev pub all_there : Rows → List Mapped → Bool
all_there rows mapping = list_all (is_there rows) mapping
