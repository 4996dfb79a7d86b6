-- The sections that names with blanks mean (CiA 306, structure of an EDS).
use Rattle.std.specs.Prelude.{ℕ, Bool, false, not, ◌&&◌, if◌then◌else◌, List, filter, map, Option, is_some}
use Rattle.co_value.specs.declared.key.Key.{Key}
use Rattle.co_sheet_text.specs.declared.section_kind.SectionKind.{SectionKind}
use Rattle.co_sheet_text.specs.declared.section_kind.SectionKind.TheVariants.{PassedOver, SubIndex}
use Rattle.co_sheet_text.specs.Names.{kind_of, is_read}
use Rattle.co_sheet_changes.specs.Groups.{Group}
use Rattle.co_sheet_adapt.specs.Named.{own_in_groups}

-- a section that is read with the blanks in its name
abbrev pub is_well_named : Group → Bool
is_well_named g = is_read (kind_of g.name)

abbrev pub is_taken : (Key → Option (List ℕ)) → SectionKind → Bool
is_taken named (SubIndex key) = is_some (named key)
is_taken named kind = false

-- `[2000sub 1]` beside `[2000sub1]` stays passed over: there would be two sections of one name
abbrev pub as_meant : (Key → Option (List ℕ)) → Group → Group
as_meant named g =
    if not (is_well_named g) && is_taken named g.kind then record g { kind = PassedOver } else g

abbrev pub all_meant : List Group → List Group
all_meant groups =
    map (as_meant (λ k. own_in_groups k (filter is_well_named groups))) groups
