-- Mappings of PDOs with the places and the rows of the mapped entries (CiA 301, 7.5.2.36 and
-- 7.5.2.38).
use Rattle.std.specs.Prelude.{◌≡◌, ℕ, ◌≤◌, ◌||◌, Bool, false, int_lt, List, Some, All, map}
use Rattle.std.specs.List.{list_any}
use Rattle.std.specs.Option.{option_map_or}
use Rattle.co_value.specs.Types.{width_of, is_boolean, least_of, greatest_of}
use Rattle.co_dict.specs.declared.row.Row.{Row}
use Rattle.co_dict.specs.declared.side.Side.{Side}
use Rattle.co_dict.specs.Rows.{Contents}
use Rattle.co_dict.specs.Stores.{Description}
use Rattle.co_dict.specs.Places.{place_of}
use Rattle.co_pdo.specs.declared.mapping.Mapped.{Mapped}
use Rattle.co_pdo.specs.declared.mapping.Mapped.TheVariants.{Entry, Dummy}
use Rattle.co_pdo.specs.Mappings.{mapping_index, total_of}
use Rattle.co_pdo_compiled.specs.declared.part.PlacedEntry.{PlacedEntry}
use Rattle.co_pdo_compiled.specs.declared.part.Part.{Part}
use Rattle.co_pdo_compiled.specs.declared.part.Part.TheVariants.{Placed, PassedOver}

-- the mapped object of a part
abbrev pub mapped_in : Part → Mapped
mapped_in (Placed entry) = Entry entry.key entry.width
mapped_in (PassedOver width) = Dummy width

-- the mapped objects of parts, in their order
abbrev pub mapping_in : List Part → List Mapped
mapping_in parts = map mapped_in parts

-- a dictionary has an entry at the place and with the row that it was compiled with; the type of
-- the row has its width
pub record HasEntry (d : Description) (entry : PlacedEntry) : Type 0 where
  pub place : place_of d entry.key ≡ Some entry.place
  pub row : d.rows entry.key ≡ Some entry.row
  pub width : width_of entry.row.data_type ≡ Some entry.width

-- a dictionary has the entry of a part; a dummy entry needs none
abbrev pub HasPart : Description → Part → Type 0
HasPart d (Placed entry) = HasEntry d entry
HasPart d (PassedOver width) = Unit {0}

-- a dictionary has the entry of each part
abbrev pub HasParts : Description → List Part → Type 0
HasParts d parts = All (HasPart d) parts

-- parts are the compiled form of a mapping on a dictionary: they map the same objects, with the
-- places and rows of the dictionary
pub record IsCompiledForm (d : Description) (mapping : List Mapped) (parts : List Part) : Type 0 where
  pub same : mapping_in parts ≡ mapping
  pub has : HasParts d parts

-- bytes of an entry may be outside its limits: the limits are narrower than its type, or it is a
-- BOOLEAN, whose byte can be above 1
abbrev pub has_limits : Row → Bool
has_limits row = is_boolean row.data_type
    || (option_map_or (λ least. int_lt least row.low) (least_of row.data_type) false
    || option_map_or (λ greatest. int_lt row.high greatest) (greatest_of row.data_type) false)

-- a part maps an entry with limits
abbrev pub is_limited : Part → Bool
is_limited (Placed entry) = has_limits entry.row
is_limited (PassedOver width) = false

-- the parts map `width` bytes in all, at most 8, and the flag is whether any of them has limits
pub record AreSummed (parts : List Part) (width : ℕ) (any_limited : Bool) : Type 0 where
  pub total : width ≡ total_of (mapping_in parts)
  pub small : width ≤ 8
  pub limited : any_limited ≡ list_any is_limited parts

-- the mapping parameter of PDO k has the same bytes at all sub-indices
abbrev pub AgreeOnMapping : Side → ℕ → Contents → Contents → Type 0
AgreeOnMapping side k contents others = (sub : ℕ)
    → contents (record { index = mapping_index side k; sub = sub }) ≡ others (record { index = mapping_index side k; sub = sub })
