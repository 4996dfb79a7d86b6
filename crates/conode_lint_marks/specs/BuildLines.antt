-- The lines of a sheet's text that build faults are about, and their marks.
use Rattle.std.specs.Prelude.{ℕ, ◌==◌, List, [], ◌∷◌, ◌++◌, map, find, Option, option_map}
use Rattle.std.specs.List.{flat_map}
use Rattle.std.specs.Option.{option_map_or}
use Rattle.co_value.specs.declared.key.Key.{Key}
use Rattle.co_value.specs.Keys.{same_key}
use Rattle.co_sheet.specs.Content.{Row, ObjectRow, SheetContent}
use Rattle.co_sheet_text.specs.Sections.{TextSection}
use Rattle.co_sheet_warnings.specs.Repeats.{value_in}
use Rattle.co_dict_build.specs.Built.{Plan}
use Rattle.co_dict_build.specs.declared.build_fault.BuildFault.{BuildFault}
use Rattle.co_dict_build.specs.declared.build_fault.BuildFault.TheVariants.{ValueRange, BadCobId, PdoPair, BadMapping}
use Rattle.co_dict_faults.specs.AllBuildFaults.{build_faults_of, mapping_faults_of}
use Rattle.co_dict_faults.specs.declared.mapping_fault.MappingFault.{MappingFault}
use Rattle.conode_lint_marks.specs.declared.mark.Mark.{Mark}
use Rattle.conode_lint_marks.specs.declared.mark.Subject.TheVariants.{Build, Mapping}

-- the line of an object's section; 0 if there is none
abbrev pub object_line : List ObjectRow → ℕ → ℕ
object_line objects index = option_map_or (λ o. o.line) (find (λ o. o.index == index) objects) 0

-- the line of an entry's section, if the entry is there
abbrev pub row_line : List Row → Key → Option ℕ
row_line rows key = option_map (λ r. r.line) (find (λ r. same_key r.key key) rows)

-- the line of a section's value: of its ParameterValue, else of its DefaultValue, else the
-- section's own
unfoldable pub value_line : TextSection → ℕ
value_line section =
    option_map_or (λ p. p.line) (value_in section) section.line

-- the line of the value of the section at a line; that line itself if there is no section
abbrev pub value_line_in : List TextSection → ℕ → ℕ
value_line_in sections line =
    option_map_or value_line (find (λ s. s.line == line) sections) line

-- the line of an entry's value; for a missing entry, that of its object's section
unfoldable pub entry_line : SheetContent → List TextSection → Key → ℕ
entry_line sheet sections key =
    option_map_or (value_line_in sections) (row_line sheet.rows key)
    (object_line sheet.objects key.index)

-- the line of a fault; 0 if no line is to blame
abbrev pub build_line : SheetContent → List TextSection → BuildFault → ℕ
build_line sheet sections (ValueRange key) = entry_line sheet sections key
build_line sheet sections (BadCobId key) = entry_line sheet sections key
build_line sheet sections (BadMapping key) = entry_line sheet sections key
build_line sheet sections (PdoPair index) = object_line sheet.objects index
build_line sheet sections other = 0

-- the mark of a fault
abbrev pub build_mark : SheetContent → List TextSection → BuildFault → Mark
build_mark sheet sections fault =
    record { line = build_line sheet sections fault; subject = Build fault }

-- the marks of a fault; a mapping has none of its own, but one for each faulty word and for its
-- count
abbrev pub build_marks : SheetContent → List TextSection → BuildFault → List Mark
build_marks sheet sections (BadMapping key) = []
build_marks sheet sections fault = build_mark sheet sections fault ∷ []

abbrev pub mapping_mark : SheetContent → List TextSection → MappingFault → Mark
mapping_mark sheet sections fault =
    record { line = entry_line sheet sections fault.key; subject = Mapping fault }

-- the marks of faults, and then of words and counts of mappings
unfoldable pub marks_with : SheetContent → List TextSection → List BuildFault → List MappingFault
    → List Mark
marks_with sheet sections faults mappings =
    flat_map (build_marks sheet sections) faults ++ map (mapping_mark sheet sections) mappings

-- the marks of all faults of a plan
unfoldable pub built_marks : SheetContent → List TextSection → Plan → List Mark
built_marks sheet sections plan =
    marks_with sheet sections (build_faults_of plan) (mapping_faults_of plan)
