-- What the sections of a text keep, at sections that keep it and at others that break one law each.
use Rattle.std.proofs.Common.{ℕ, ◌+◌, List, [], ◌∷◌, refl, arith, codes, lit≤}
use Rattle.std.specs.Prelude.{replicate}
use Rattle.co_sheet_text.specs.declared.section_kind.SectionKind.{SectionKind}
use Rattle.co_sheet_text.specs.declared.section_kind.SectionKind.TheVariants.{MandatoryObjects, Object, PassedOver}
use Rattle.co_sheet_text.specs.Sections.{Property, TextSection}
use Rattle.co_sheet_text.specs.SectionLaws.{AllDiffer, is_read_twice, property_lines, RisesFrom, PropertiesDiffer, IsParsed}

-- keys of these names, at lines from 2 on
abbrev keys_from : ℕ → List (List ℕ) → List Property
keys_from line [] = []
keys_from line (name ∷ names) = record { name = name; value = codes "0x1000"; line = line } ∷ keys_from (line + 1) names

abbrev section : SectionKind → List (List ℕ) → TextSection
section kind names = record { kind = kind; name = []; line = 1; properties = keys_from 2 names }

-- a section that is passed over may be there twice
kinds : AllDiffer is_read_twice (PassedOver ∷ Object 5 ∷ PassedOver ∷ Object 6 ∷ [])
kinds = ((refl, (refl, (refl, tt))), ((refl, (refl, tt)), ((refl, tt), (tt, tt))))

section_twice : IsParsed (section (Object 5) [] ∷ section (Object 5) [] ∷ []) → ⊥
section_twice laws = let h = laws.kinds_differ.0.0 in cc

-- the names of keys differ without regard to case
keys : PropertiesDiffer (section (Object 5) (codes "DataType" ∷ codes "AccessType" ∷ []))
keys = ((refl, tt), (tt, tt))

key_twice : IsParsed (section (Object 5) (codes "DataType" ∷ codes "datatype" ∷ []) ∷ []) → ⊥
key_twice laws = let h = laws.properties_differ.0.0.0 in cc

value_too_long : IsParsed (record (section (Object 5) []) { properties = record { name = codes "ParameterName"; value = replicate 513 97; line = 2 } ∷ [] } ∷ []) → ⊥
value_too_long laws = let h = laws.values_short.0.0 in omega arith

lines : RisesFrom 1 (property_lines (section MandatoryObjects (codes "SupportedObjects" ∷ codes "1" ∷ []) ∷ []))
lines = (lit≤ tt, (lit≤ tt, tt))

line_twice : IsParsed (section (Object 5) (codes "DataType" ∷ []) ∷ section (Object 6) (codes "DataType" ∷ []) ∷ []) → ⊥
line_twice laws = let h = laws.lines_rise.1.0 in omega arith
