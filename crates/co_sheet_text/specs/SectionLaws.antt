-- What the sections of a text without a line at fault keep (CiA 306, structure of an EDS).
use Rattle.std.specs.Prelude.{◌≡◌, ℕ, ◌+◌, ◌≤◌, Bool, false, ◌&&◌, List, [], ◌∷◌, length, map, flat_map}
use Rattle.std.specs.List.{AllByRecursion}
use Rattle.co_sheet_text.specs.declared.section_kind.SectionKind.{SectionKind}
use Rattle.co_sheet_text.specs.Names.{same_kind, is_read}
use Rattle.co_sheet_text.specs.Text.{same_name}
use Rattle.co_sheet_text.specs.Sections.{Property, TextSection}

-- a value is like none of a list, and no value of a list is like a later one
abbrev pub IsLikeNone : {X : Type 0} → (X → X → Bool) → X → List X → Type 0
IsLikeNone alike x [] = Unit {0}
IsLikeNone alike x (y ∷ ys) = (alike x y ≡ false) × IsLikeNone alike x ys

abbrev pub AllDiffer : {X : Type 0} → (X → X → Bool) → List X → Type 0
AllDiffer alike [] = Unit {0}
AllDiffer alike (x ∷ xs) = IsLikeNone alike x xs × AllDiffer alike xs

-- two sections are about the same, and are read
abbrev pub is_read_twice : SectionKind → SectionKind → Bool
is_read_twice kind later = is_read later && same_kind kind later

-- numbers from a first one on, each below the next
abbrev pub RisesFrom : ℕ → List ℕ → Type 0
RisesFrom low [] = Unit {0}
RisesFrom low (x ∷ xs) = (low ≤ x) × RisesFrom (x + 1) xs

-- the lines of the properties of sections, in their order
abbrev pub property_lines : List TextSection → List ℕ
property_lines sections = flat_map (λ s. map (λ k. k.line) s.properties) sections

-- a section has no property twice
abbrev pub PropertiesDiffer : TextSection → Type 0
PropertiesDiffer s = AllDiffer same_name (map (λ k. k.name) s.properties)

-- a line has at most 512 bytes, and so has a value
abbrev pub AreShort : List Property → Type 0
AreShort properties = AllByRecursion (λ k. length k.value ≤ 512) properties

abbrev pub ValuesShort : TextSection → Type 0
ValuesShort s = AreShort s.properties

-- No section that is read is there twice, and no property in its section; values are as short as a
-- line; and the lines of the properties rise.
pub record IsParsed (sections : List TextSection) : Type 0 where
  pub kinds_differ : AllDiffer is_read_twice (map (λ s. s.kind) sections)
  pub properties_differ : AllByRecursion PropertiesDiffer sections
  pub values_short : AllByRecursion ValuesShort sections
  pub lines_rise : RisesFrom 1 (property_lines sections)
