-- The section lines of a data sheet (CiA 306, structure of an EDS), which no recording has.
use Rattle.std.specs.Prelude.{ℕ, Bool, false, ◌&&◌, ◌||◌, ◌==◌, List, [], ◌∷◌, codes}
use Rattle.std.specs.List.{after_first, before_first, list_any}
use Rattle.co_sheet_text.specs.Names.{is_read, kind_of}
use Rattle.co_sheet_text.specs.Sections.{is_bracket}
use Rattle.co_sheet_text.specs.Text.{is_empty, same_name, trim, without_mark}

-- a section that a data sheet has: FileInfo, or one that is read
abbrev pub is_of_sheet : List ℕ → Bool
is_of_sheet name = same_name name (codes "FileInfo") || is_read (kind_of name)

-- what follows `[`: such a name, and `]`
abbrev pub names_section : List ℕ → Bool
names_section text = list_any is_bracket text && is_of_sheet (trim (before_first is_bracket text))

-- and nothing after it
abbrev pub closes_section : List ℕ → Bool
closes_section text = names_section text && is_empty (after_first is_bracket text)

abbrev pub after_bracket : (List ℕ → Bool) → List ℕ → Bool
after_bracket holds [] = false
after_bracket holds (byte ∷ rest) = (byte == 91) && holds rest

-- a line is such a section line, whatever blanks are at its ends, and of the first one of a text after its
-- byte order mark
unfoldable pub is_section_line : List ℕ → Bool
is_section_line line = after_bracket closes_section (trim (without_mark line))

-- it begins a section of a data sheet: its reader passes over what follows `]`
unfoldable pub begins_section : List ℕ → Bool
begins_section line = after_bracket names_section (trim (without_mark line))
