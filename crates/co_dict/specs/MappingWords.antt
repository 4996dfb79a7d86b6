-- Mapping words of PDOs (CiA 301, 7.5.2.36 and 7.5.2.38): bits 31 to 16 are the index, bits 15 to 8
-- the sub-index, bits 7 to 0 the length in bits. An RPDO may also map dummy entries (CiA 306, dummy
-- usage), whose bytes are passed over.
use Rattle.std.specs.Prelude.{ℕ, ◌/◌, ◌%◌, ◌*◌, ◌==◌, nat_le, Bool, true, false, ◌&&◌, not, if◌then◌else◌, find, Option, Some, None, is_some, is_none, option_map, option_and_then, List, [], ◌∷◌}
use Rattle.co_value.specs.declared.key.Key.{Key}
use Rattle.co_value.specs.Types.{width_of}
use Rattle.co_profile.specs.declared.access.Access.{Access}
use Rattle.co_profile.specs.declared.access.Access.TheVariants.{Ro, Wo, Rw, Rwr, Rww, Constant}
use Rattle.co_dict.specs.declared.row.Row.{Row}
use Rattle.co_dict.specs.declared.side.Side.{Side}
use Rattle.co_dict.specs.declared.side.Side.TheVariants.{Rpdo, Tpdo}
use Rattle.co_dict.specs.Rows.{Rows}
use Rattle.co_dict.specs.Stores.{Description}
use Rattle.co_dict.specs.Refusals.{refused_if, first_of}
use Rattle.co_dict.specs.Objects.{missing_entry}
use Rattle.co_frame_aborts.specs.AbortCodes.{sub_index_missing, not_mappable}

-- the key that a word maps
abbrev pub mapped_key : ℕ → Key
mapped_key word = record { index = word / 0x1_0000; sub = word / 0x100 % 0x100 }

-- the length in bits that a word states
abbrev pub mapped_bits : ℕ → ℕ
mapped_bits word = word % 0x100

-- the dummy entries with their widths in bytes: INTEGER8, 16, 32 and UNSIGNED8, 16, 32
abbrev pub dummy_widths : List (ℕ × ℕ)
dummy_widths = (0x0002, 1) ∷ (0x0003, 2) ∷ (0x0004, 4) ∷ (0x0005, 1) ∷ (0x0006, 2) ∷ (0x0007, 4) ∷ []

-- the width in bytes of a dummy entry
abbrev pub dummy_width : ℕ → Option ℕ
dummy_width index = option_map (λ dummy. dummy.1) (find (λ dummy. dummy.0 == index) dummy_widths)

-- the width in bytes of a dummy entry that may be mapped on a side: an RPDO may map those that the
-- data sheet allows
abbrev pub usable_dummy : Side → (ℕ → Bool) → ℕ → Option ℕ
usable_dummy Rpdo dummies index = if dummies index then dummy_width index else None
usable_dummy Tpdo dummies index = None

-- an access with which an entry may be mapped: an RPDO writes it, a TPDO reads it
abbrev pub is_mapped_access : Side → Access → Bool
is_mapped_access Rpdo Rw = true
is_mapped_access Rpdo Rww = true
is_mapped_access Rpdo Wo = true
is_mapped_access Rpdo Ro = false
is_mapped_access Rpdo Rwr = false
is_mapped_access Rpdo Constant = false
is_mapped_access Tpdo Ro = true
is_mapped_access Tpdo Rw = true
is_mapped_access Tpdo Rwr = true
is_mapped_access Tpdo Constant = true
is_mapped_access Tpdo Wo = false
is_mapped_access Tpdo Rww = false

-- an index that a side may map: an RPDO those from 2000h on
abbrev pub is_mapped_index : Side → ℕ → Bool
is_mapped_index Rpdo index = nat_le 0x2000 index
is_mapped_index Tpdo index = true

-- an entry may be mapped on a side, if its type is numeric
abbrev pub may_be_mapped : Side → ℕ → Row → Bool
may_be_mapped side index row = row.mappable && is_mapped_access side row.access && is_mapped_index side index

-- the width in bytes of an entry that may be mapped on a side
abbrev pub entry_width : Side → Rows → Key → Option ℕ
entry_width side rows key = option_and_then (λ row. if may_be_mapped side key.index row then width_of row.data_type else None) (rows key)

-- the width in bytes of what may be mapped on a side: a dummy entry, at sub-index 0, or an entry
abbrev pub mapping_width : Side → Description → Key → Option ℕ
mapping_width side d key =
    if is_some (usable_dummy side d.dummies key.index)
    then (if key.sub == 0 then usable_dummy side d.dummies key.index else None)
    else entry_width side d.rows key

-- the width in bytes that a word maps on a side: its key may be mapped there, and its length is 8
-- times the width
abbrev pub word_width : Side → Description → ℕ → Option ℕ
word_width side d word = option_and_then (λ width. if mapped_bits word == 8 * width then Some width else None) (mapping_width side d (mapped_key word))

-- what a word maps is absent: no such object, or no such sub-index
abbrev pub missing_mapped : Side → Description → Key → Option ℕ
missing_mapped side d key =
    if is_some (usable_dummy side d.dummies key.index) then refused_if (not (key.sub == 0)) sub_index_missing else missing_entry d.rows key

-- why a word can't be mapped on a side: what it maps is absent, isn't mappable there, or has
-- another length
abbrev pub word_refusal : Side → Description → ℕ → Option ℕ
word_refusal side d word = first_of (missing_mapped side d (mapped_key word)) (refused_if (is_none (word_width side d word)) not_mappable)
