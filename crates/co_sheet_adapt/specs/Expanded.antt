-- A text with the sections that its compact forms give (CiA 306, compact storage), each type and
-- each value as the sheet has it.
use Rattle.std.specs.Prelude.{ℕ, nat_lt, Bool, false, ◌||◌, if◌then◌else◌, List, [], ◌∷◌, ◌++◌, length, map, codes, Option, Some, None, option_and_then}
use Rattle.std.specs.List.{flat_map}
use Rattle.co_value.specs.declared.key.Key.{Key}
use Rattle.co_sheet_text.specs.declared.section_kind.SectionKind.{SectionKind}
use Rattle.co_sheet_text.specs.declared.section_kind.SectionKind.TheVariants.{DeviceInfo, Object}
use Rattle.co_sheet_text.specs.LinesAtFault.{emptied}
use Rattle.co_sheet_text.specs.Sections.{is_too_long, is_unclosed, line_form}
use Rattle.co_sheet_text.specs.Text.{Line, is_empty, lines_of}
use Rattle.co_sheet_changes.specs.Groups.{Group, groups_of}
use Rattle.co_sheet_adapt.specs.declared.facts.Facts.{Facts}
use Rattle.co_sheet_adapt.specs.Facts.{compact_count, is_entry}
use Rattle.co_sheet_adapt.specs.Named.{text_in_groups}
use Rattle.co_sheet_adapt.specs.Compact.{compact_text}
use Rattle.co_sheet_adapt.specs.CompactPdo.{PdoForm, object_text, pdo_form}

-- what a section says, where no type and no value is changed
abbrev pub facts_as_written : Group → Facts
facts_as_written g = record {
  compact = compact_count g;
  is_entry = is_entry g;
  left_out = None;
  data_type = None;
  has_unsigned_limits = false;
  has_extended_low = false;
}

-- the sections of an object in compact form
abbrev pub compact_at : SectionKind → Option ℕ → (ℕ → ℕ → List ℕ) → List ℕ
compact_at (Object index) (Some count) text = text index count
compact_at kind count text = []

abbrev pub compact_of : (Key → Option (List ℕ)) → (Key → Option (List ℕ)) → (Key → Option (List ℕ))
    → Facts → Group → List ℕ
compact_of own names values facts g =
    compact_at g.kind facts.compact (compact_text own names values facts g)

-- the sections of the objects of PDOs in compact form
abbrev pub pdo_objects : Option PdoForm → SectionKind → List ℕ
pdo_objects (Some form) DeviceInfo = flat_map (object_text form.subs) form.absent
pdo_objects form kind = []

-- what a section gives
abbrev pub given_by : (Key → Option (List ℕ)) → (Key → Option (List ℕ)) → (Key → Option (List ℕ))
    → Option PdoForm → Group → List ℕ
given_by own names values pdos g =
    compact_of own names values (facts_as_written g) g ++ pdo_objects pdos g.kind

-- a section that the sheet has comes before those, so that it counts, and they are there all the same
abbrev pub none_own : Key → Option (List ℕ)
none_own key = None

abbrev pub compact_sections : List Group → List ℕ
compact_sections groups =
    flat_map
    (given_by none_own (λ k. text_in_groups (codes "Name") k groups)
    (λ k. text_in_groups (codes "Value") k groups) (pdo_form groups)) groups

-- a text, if a data sheet may have as many bytes
abbrev pub if_fits : List ℕ → Option (List ℕ)
if_fits text = if nat_lt 1048576 (length text) then None else Some text

-- sections at the end of a text
abbrev pub with_sections : List ℕ → List ℕ → List ℕ
with_sections text sections = if is_empty sections then text else text ++ 10 ∷ sections

-- a line that is at fault by itself, as a reader takes it: a section line without `]`, and one that
-- is too long, begin a section that nothing reads
abbrev pub is_at_fault : Line → Bool
is_at_fault line = is_too_long line || is_unclosed (line_form line)

abbrev pub as_read : Line → Line
as_read line = if is_at_fault line then emptied line else line

-- a text with the sections of its compact forms, if neither is too large
unfoldable pub expanded : List ℕ → Option (List ℕ)
expanded text =
    option_and_then (λ sections. if_fits (with_sections text sections))
    (if_fits (compact_sections (groups_of (map as_read (lines_of text)))))
