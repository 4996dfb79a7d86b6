-- What a round of mending leaves of the entries of a text: their section lines and their names
-- (CiA 306, object description).
use Rattle.std.specs.Prelude.{◌≡◌, ℕ, ◌≤◌, Bool, true, false, not, ◌&&◌, List, ◌++◌, codes, length, Option, Some, None, option_and_then}
use Rattle.co_sheet.specs.Entries.{name_of}
use Rattle.co_sheet_rows.specs.declared.fault.FaultKind.{FaultKind}
use Rattle.co_sheet_rows.specs.declared.fault.FaultKind.TheVariants as kind
use Rattle.co_sheet_text.specs.declared.section_kind.SectionKind.{SectionKind}
use Rattle.co_sheet_text.specs.declared.section_kind.SectionKind.TheVariants.{Object, SubIndex}
use Rattle.co_sheet_text.specs.Names.{is_list, kind_of}
use Rattle.co_sheet_text.specs.LinesAtFault.{sections_read}
use Rattle.co_sheet_text.specs.Sections.{LineForm, section_line, name_value, TextSection, section_at}
use Rattle.co_sheet_text.specs.Text.{same_name, lines_of}
use Rattle.co_sheet_mend.specs.declared.repair.Repair.{Repair}
use Rattle.co_sheet_mend.specs.declared.repair.Repair.TheVariants.{Typed, Completed, Numbered}

-- the section of an object or of a sub-index
abbrev pub is_entry : SectionKind → Bool
is_entry (Object index) = true
is_entry (SubIndex key) = true
is_entry other = false

abbrev pub is_name : List ℕ → Bool
is_name name = same_name name (codes "ParameterName")

-- the kinds of the faults that checks find at a property, and at a section line
abbrev pub is_of_property : FaultKind → Bool
is_of_property kind.MissingSection = true
is_of_property kind.ListedTwice = true
is_of_property kind.BadNumber = true
is_of_property kind.AmbiguousNumber = true
is_of_property kind.BadType = true
is_of_property kind.LeftOutType = true
is_of_property kind.BadAccess = true
is_of_property kind.BadLimits = true
is_of_property kind.BadDefault = true
is_of_property kind.CompactForm = true
is_of_property other = false

abbrev pub is_of_section : SectionKind → FaultKind → Bool
is_of_section section kind.BadList = is_list section
is_of_section section kind.MissingKey = true
is_of_section section kind.MissingSub0 = true
is_of_section section kind.BadType = true
is_of_section section other = false

-- whether a check may find a fault of a kind at a line of a form: at no ParameterName
abbrev pub may_be_at : FaultKind → LineForm → Bool
may_be_at kind (name_value name value) = is_of_property kind && not (is_name name)
may_be_at kind (section_line name) = is_of_section (kind_of name) kind
may_be_at kind form = false

-- a section of an object or a sub-index that a text has, as it is read in spite of its faults
pub record IsEntryIn (text : List ℕ) (s : TextSection) : Type 0 where
  pub size : length text ≤ 1048576
  pub entry : is_entry s.kind ≡ true
  pub there : section_at s.kind (sections_read (lines_of text)) ≡ Some s

-- the repairs of the section line of an entry: lines are added before it or after it
abbrev pub keeps_section : Option Repair → Bool
keeps_section None = true
keeps_section (Some Typed) = true
keeps_section (Some Completed) = true
keeps_section (Some Numbered) = true
keeps_section other = false

-- a text is a part of another
pub record IsWithin (part whole : List ℕ) : Type 0 where
  pub front : List ℕ
  pub after : List ℕ
  pub cut : whole ≡ front ++ part ++ after

-- ---- all rounds

-- the name that sections give an object or a sub-index: that of its first section; none where it has
-- no section, and where that has no ParameterName
abbrev pub name_in : SectionKind → List TextSection → Option (List ℕ)
name_in kind sections = option_and_then name_of (section_at kind sections)

-- and that a text gives it, as it is read in spite of its faults
abbrev pub name_read : SectionKind → List ℕ → Option (List ℕ)
name_read kind text = name_in kind (sections_read (lines_of text))
