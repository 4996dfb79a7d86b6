-- Values that CiA 301 reserves (CiA 301, synchronous counter overflow value, transmission types).
use Rattle.std.specs.Prelude.{
  ℕ,
  Bool,
  false,
  ◌&&◌,
  ◌||◌,
  ◌==◌,
  nat_lt,
  if◌then◌else◌,
  List,
  [],
}
use Rattle.std.specs.Option.{option_map_or}
use Rattle.co_sheet_text.specs.declared.section_kind.SectionKind.{SectionKind}
use Rattle.co_sheet_text.specs.declared.section_kind.SectionKind.TheVariants.{Object, SubIndex}
use Rattle.co_sheet_text.specs.Sections.{TextSection}
use Rattle.co_sheet_warnings.specs.Communication.{line_if}
use Rattle.co_sheet_warnings.specs.Repeats.{value_in}
use Rattle.co_sheet_text_warnings.specs.Ranges.{is_within}

-- the entries that have such values: 1019:00, and the transmission types of RPDOs and TPDOs
abbrev pub has_reserved : SectionKind → Bool
has_reserved (Object index) = index == 0x1019
has_reserved (SubIndex key) =
    (key.sub == 2) && (is_within 0x1400 0x15FF key.index || is_within 0x1800 0x19FF key.index)
has_reserved kind = false

-- from 241 on the transmission types are reserved up to 253, those of a TPDO up to 251: 252 and 253
-- are sent on request
abbrev pub last_reserved : ℕ → ℕ
last_reserved index = if nat_lt index 0x1800 then 253 else 251

-- 1 would be a counter that stays
abbrev pub is_reserved : SectionKind → ℕ → Bool
is_reserved (Object index) n = (n == 1) || is_within 241 255 n
is_reserved (SubIndex key) n = is_within 241 (last_reserved key.index) n
is_reserved kind n = false

-- the line of what an entry begins with, if it is reserved
abbrev pub reserved_value : TextSection → List ℕ
reserved_value s =
    if has_reserved s.kind then option_map_or (line_if (is_reserved s.kind)) (value_in s) [] else []
