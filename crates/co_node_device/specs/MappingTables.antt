-- The compiled mappings of the PDOs of a side, for contents of the dictionary (CiA 301, 7.5.2.36
-- and 7.5.2.38).
use Rattle.std.specs.Prelude.{ℕ, ◌+◌, ◌<◌, List, length, ◌≡◌, true, ◌≤◌}
use Rattle.std.specs.List.{slice_index_or}
use Rattle.co_dict.specs.declared.side.Side.{Side}
use Rattle.co_dict.specs.Rows.{Contents}
use Rattle.co_dict.specs.Stores.{Description}
use Rattle.co_dict.specs.declared.side.Side.TheVariants.{Rpdo, Tpdo}
use Rattle.co_pdo.specs.Mappings.{mapping_of, has_pdo}
use Rattle.co_pdo_compiled.specs.declared.part.Part.{Part}
use Rattle.co_pdo_compiled.specs.CompiledMappings.{IsCompiledForm, HasParts}
use Rattle.co_node_device.specs.declared.mappings.CompiledMappings.{CompiledMappings}

-- the mapping of each PDO of the table is compiled for these contents
abbrev pub AreForms : Side → Description → Contents → List (List Part) → Type 0
AreForms side d contents table = (k : ℕ) (parts : List Part) → k < length table
    → IsCompiledForm d (mapping_of side d contents k) (slice_index_or table k parts)

-- `count` is the number of the last PDO that the dictionary has, plus 1; 0 if it has none
pub record Covers (side : Side) (d : Description) (count : ℕ) : Type 0 where
  pub all : (k : ℕ) → k < 512 → has_pdo side d.rows k ≡ true → k < count
  pub last : (k : ℕ) → k + 1 ≡ count → has_pdo side d.rows k ≡ true

-- the table of a dictionary with these contents
pub record IsMappingTable (side : Side) (d : Description) (contents : Contents) (table : List (List Part)) : Type 0 where
  pub forms : AreForms side d contents table
  pub covers : Covers side d (length table)
  pub few : length table ≤ 512

-- a dictionary has the mapped entries of each PDO of a table, at the places and with the rows that
-- they were compiled with
abbrev pub HaveParts : Description → List (List Part) → Type 0
HaveParts d table = (k : ℕ) (parts : List Part) → k < length table → HasParts d (slice_index_or table k parts)

-- the compiled mappings of a dictionary with these contents, of both sides
pub record AreMappings (d : Description) (contents : Contents) (mappings : CompiledMappings) : Type 0 where
  pub rpdos : IsMappingTable Rpdo d contents mappings.rpdos
  pub tpdos : IsMappingTable Tpdo d contents mappings.tpdos
