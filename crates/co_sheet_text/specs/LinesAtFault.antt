-- All lines at fault of a text, and how the text is read in spite of them
-- (CiA 306, structure of an EDS).
use Rattle.std.specs.Prelude.{ℕ, List, [], ◌∷◌, ◌++◌, Option, Some, None, codes, option_map}
use Rattle.std.specs.List.{cons_option}
use Rattle.co_sheet_text.specs.declared.fault.TextFaultKind.{TextFaultKind}
use Rattle.co_sheet_text.specs.declared.fault.TextFault.{TextFault}
use Rattle.co_sheet_text.specs.Text.{Line}
use Rattle.co_sheet_text.specs.Sections.{LineForm, section_line, unclosed, TextSection, sections_of, line_form, line_fault, fault_at}

-- what a line at fault is read as: a section line begins a section that nothing reads, any other
-- line is empty
abbrev pub emptied_form : LineForm → List ℕ
emptied_form (section_line name) = codes "[]"
emptied_form unclosed = codes "[]"
emptied_form form = []

abbrev pub emptied : Line → Line
emptied line = record { number = line.number; bytes = emptied_form (line_form line) }

-- what is wrong with a line after the lines before it, as they are read
abbrev pub own_fault : List Line → Line → Option TextFaultKind
own_fault before line = line_fault (sections_of before) line

-- a line as it is read: itself, where nothing is wrong with it
abbrev pub read_as : Option TextFaultKind → Line → Line
read_as None line = line
read_as (Some kind) line = emptied line

-- the next line as it is read
abbrev pub next_read : List Line → Line → Line
next_read before line = read_as (own_fault before line) line

-- lines as they are read, after the lines before them
abbrev pub lines_read : List Line → List Line → List Line
lines_read before [] = []
lines_read before (line ∷ lines) =
    next_read before line ∷ lines_read (before ++ next_read before line ∷ []) lines

-- the sections of lines, whatever is wrong with the lines
abbrev pub sections_read : List Line → List TextSection
sections_read lines = sections_of (lines_read [] lines)

-- the faults of lines, one a line, after the lines before them as they are read
abbrev pub own_faults : List Line → List Line → List TextFault
own_faults before [] = []
own_faults before (line ∷ lines) =
    cons_option (option_map (fault_at line.number) (own_fault before line))
    (own_faults (before ++ next_read before line ∷ []) lines)
