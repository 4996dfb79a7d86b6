-- The address table of contents of the dictionary: the word of SYNC, and for each identifier the
-- first active RPDO with it (CiA 301, 7.5.2.5 and 7.5.2.35).
use Rattle.std.specs.Prelude.{ℕ, Option, List, ◌≡◌, ◌<◌, length, None, Bool, Some, if◌then◌else◌}
use Rattle.std.specs.List.{slice_index_or}
use Rattle.co_dict.specs.Rows.{Contents, number_at}
use Rattle.co_node_model.specs.Rpdos.{rpdo_with}
use Rattle.co_profile.specs.Keys.{sync_key}

-- the word of 1005h, and numbers of RPDOs by their identifiers
pub record TableContent : Type 0 where
  pub sync : ℕ
  pub numbers : List (Option ℕ)

-- a place for each identifier, 0 to 7FFh
abbrev pub IsRpdoTable : List (Option ℕ) → Type 0
IsRpdoTable numbers = length numbers ≡ 2048

-- at each identifier is the first active RPDO with it
abbrev pub AreRpdosOf : Contents → List (Option ℕ) → Type 0
AreRpdosOf contents numbers = (id : ℕ) → id < 2048 → slice_index_or numbers id None ≡ rpdo_with contents id

-- the word of SYNC and the RPDOs are those of the contents
pub record IsTableOf (contents : Contents) (table : TableContent) : Type 0 where
  pub sync : table.sync ≡ number_at contents sync_key
  pub rpdos : AreRpdosOf contents table.numbers

-- a number, if a test passes
abbrev pub number_if : Bool → ℕ → Option ℕ
number_if passes number = if passes then Some number else None
