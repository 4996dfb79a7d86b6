-- Whether an input may have changed the mapping of a PDO, by its mark (CiA 301, 7.5.2.36 and
-- 7.5.2.38).
use Rattle.std.specs.Prelude.{◌||◌, Bool, false, Option, Some, None, ◌≡◌, true}
use Rattle.co_value.specs.declared.key.Key.{Key}
use Rattle.co_profile.specs.Indices.{rpdo_mapping, tpdo_mapping, is_within}
use Rattle.co_dict.specs.Rows.{Contents}
use Rattle.co_node_model.specs.Nmt.{is_reset}
use Rattle.co_node_model.specs.declared.mark.Mark.{Mark}
use Rattle.co_node_model.specs.Marks.{marked_key}

-- an entry of a mapping parameter, 1600h to 17FFh and 1A00h to 1BFFh
abbrev pub is_mapping_key : Key → Bool
is_mapping_key key = is_within rpdo_mapping key.index || is_within tpdo_mapping key.index

-- such an entry was written
abbrev pub is_mapping_set : Option Key → Bool
is_mapping_set None = false
is_mapping_set (Some key) = is_mapping_key key

-- the input was a reset, or wrote such an entry
abbrev pub may_change_mappings : Mark → Bool
may_change_mappings mark = is_reset mark || is_mapping_set (marked_key mark)

-- the mapping parameters of all PDOs are the same: 1600h to 17FFh and 1A00h to 1BFFh
abbrev pub AgreeOnMappings : Contents → Contents → Type 0
AgreeOnMappings contents others = (key : Key) → is_mapping_key key ≡ true → contents key ≡ others key
