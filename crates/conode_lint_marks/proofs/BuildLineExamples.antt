-- The lines of build faults, evaluated.
use Rattle.std.proofs.Common.{◌≡◌, ℕ, false, List, [], ◌∷◌, codes, None, refl}
use Rattle.co_value.specs.declared.key.Key.{Key}
use Rattle.co_value.specs.declared.data_type.DataType.TheVariants.{Unsigned8}
use Rattle.co_profile.specs.declared.access.Access.TheVariants.{Rw}
use Rattle.co_sheet_rows.specs.declared.object.ObjectType.TheVariants.{Var}
use Rattle.co_sheet.specs.Content.{Row, ObjectRow, SheetContent}
use Rattle.co_sheet.specs.Limits.{absent}
use Rattle.co_sheet_text.specs.Sections.{Property, TextSection}
use Rattle.co_sheet_text.specs.declared.section_kind.SectionKind.TheVariants.{Object}
use Rattle.co_dict_build.specs.declared.build_fault.BuildFault.TheVariants.{NodeId, ValueRange, BadCobId, PdoPair, BadMapping, TooMany}
use Rattle.co_dict_faults.specs.declared.mapping_fault.MappingReason.TheVariants.{Missing}
use Rattle.conode_lint_marks.specs.declared.mark.Subject.TheVariants.{Build, Mapping}
use Rattle.conode_lint_marks.specs.BuildLines.{build_line, entry_line, marks_with, value_line}

-- ---- 2000h at line 10, with a DefaultValue at 12 and a ParameterValue at 14; 2001h at line 20, with a DefaultValue at 22;
-- 2002h at line 30, without a value

abbrev key : ℕ → ℕ → Key
key index sub = record { index = index; sub = sub }

abbrev row : ℕ → ℕ → Row
row index line = record { key = key index 0; data_type = Unsigned8; access = Rw; low = None; high = None; default = absent; mappable = false; name = None; line = line }

abbrev object : ℕ → ℕ → ObjectRow
object index line = record { index = index; object_type = Var; name = None; line = line }

abbrev sheet : SheetContent
sheet = record {
  objects = object 0x2000 10 ∷ object 0x2001 20 ∷ object 0x2002 30 ∷ [];
  rows = row 0x2000 10 ∷ row 0x2001 20 ∷ row 0x2002 30 ∷ [];
  sections = [];
  notes = [];
  dummies = [];
  node_id = None;
}

abbrev property : List ℕ → ℕ → Property
property name line = record { name = name; value = codes "1"; line = line }

abbrev section : ℕ → ℕ → List Property → TextSection
section index line properties = record { kind = Object index; name = []; line = line; properties = properties }

abbrev sections : List TextSection
sections =
    section 0x2000 10 (property (codes "DefaultValue") 12 ∷ property (codes "ParameterValue") 14 ∷ [])
    ∷ section 0x2001 20 (property (codes "DefaultValue") 22 ∷ []) ∷ section 0x2002 30 [] ∷ []

-- the last two: a sub-index that isn't there, and an object that isn't
entry_lines : entry_line sheet sections (key 0x2000 0) ∷ entry_line sheet sections (key 0x2001 0) ∷ entry_line sheet sections (key 0x2002 0)
    ∷ entry_line sheet sections (key 0x2002 1) ∷ entry_line sheet sections (key 0x2003 0) ∷ [] ≡ 14 ∷ 22 ∷ 30 ∷ 30 ∷ 0 ∷ []
unfolding entry_line value_line
entry_lines = refl

-- of a value, of an object, and of none
build_lines : build_line sheet sections (ValueRange (key 0x2000 0)) ∷ build_line sheet sections (BadCobId (key 0x2001 0)) ∷ build_line sheet sections (PdoPair 0x2001)
    ∷ build_line sheet sections TooMany ∷ build_line sheet sections NodeId ∷ [] ≡ 14 ∷ 22 ∷ 20 ∷ 0 ∷ 0 ∷ []
unfolding entry_line value_line
build_lines = refl

-- a mapping has the marks of its words in place of its own
mapping_words : marks_with sheet sections (PdoPair 0x2001 ∷ BadMapping (key 0x2000 0) ∷ []) (record { key = key 0x2000 0; reason = Missing } ∷ [])
    ≡ record { line = 20; subject = Build (PdoPair 0x2001) } ∷ record { line = 14; subject = Mapping (record { key = key 0x2000 0; reason = Missing }) } ∷ []
unfolding marks_with entry_line value_line
mapping_words = refl
