-- What the tables of the sections say, without where their texts lie in memory.
use Rattle.std.specs.Prelude.{◌≡◌, ◌==◌, ℕ, List, map, Option, option_map}
use Rattle.std.specs.List.{filter}
use Rattle.std.specs.List.Sorted.{IsNonDecreasingBy}
use Rattle.std.specs.Ordering.{nat_cmp}
use Rattle.std.specs.BTreeMap.{BTreeMap, get}
use Rattle.co_sheet_text.specs.declared.section_kind.SectionKind.TheVariants.{Object}
use Rattle.co_sheet.specs.declared.tables.ListedSection.{ListedSection}
use Rattle.co_sheet.specs.declared.tables.EntrySection.{EntrySection}
use Rattle.co_sheet_text.specs.Sections.{TextSection, section_at}
use Rattle.co_sheet.specs.Entries.{ListedObject, Entry, sub_indices}
use Rattle.co_sheet_text.specs.Views.{section_view}

-- a listed object with its section
abbrev pub object_view : ListedSection → ListedObject
object_view o = record { index = o.index; section = section_view o.section.now }

-- an entry with its section
abbrev pub entry_view : EntrySection → Entry
entry_view e = record { key = e.key; section = section_view e.section.now }

-- an object's section, with its index
abbrev pub object_at : ℕ → List TextSection → Option ListedObject
object_at index sections =
    option_map (λ s. record { index = index; section = s }) (section_at (Object index) sections)

-- the sub-index sections that a list has for an index
abbrev pub parts_at : List EntrySection → ℕ → List Entry
parts_at parts i = filter (λ e. e.key.index == i) (map entry_view parts)

-- the sub-index sections are in the order of their indices
abbrev pub AreByIndex : List EntrySection → Type 0
AreByIndex parts = IsNonDecreasingBy (λ e. e.key.index) parts

-- a map has an object's section, by its index; a list has the sub-index sections in the order of
-- their indices, and those of an index in the order of the text
pub record IsIndexed (sections : List TextSection) (objects : BTreeMap ℕ ListedSection)
    (parts : List EntrySection) : Type 0 where
  pub objects_found : (i : ℕ) → option_map object_view (get nat_cmp objects i) ≡ object_at i sections
  pub parts_found : (i : ℕ) → parts_at parts i ≡ sub_indices sections i
  pub parts_by_index : AreByIndex parts
