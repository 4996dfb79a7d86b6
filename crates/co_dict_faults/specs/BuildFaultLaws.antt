-- What holds of all faults of a build: their order, and each by the definition of its kind.
use Rattle.std.specs.Prelude.{◌≡◌, ℕ, Bool, true, false, List, Contains, length, sum_by}
use Rattle.std.specs.Ordering.{nat_cmp, ordering_then}
use Rattle.std.specs.declared.cmp.Ordering.{Ordering}
use Rattle.co_value.specs.declared.key.Key.{Key}
use Rattle.co_value.specs.Keys.{key_cmp}
use Rattle.co_sheet.specs.Content.{Row as SheetRow}
use Rattle.co_dict.specs.Stores.{Description}
use Rattle.co_dict.specs.Rows.{Contents}
use Rattle.co_dict_build.specs.declared.build_fault.BuildFault.{BuildFault}
use Rattle.co_dict_build.specs.declared.build_fault.BuildFault.TheVariants.{NodeId, ValueRange, BadCobId, PdoPair, BadMapping, TooMany, Memory}
use Rattle.co_dict_build.specs.BuildFaultTexts.{fault_number}
use Rattle.co_dict_build.specs.Capacities.{capacity_of}
use Rattle.co_dict_build.specs.Built.{Plan, built_description, built_contents}
use Rattle.co_dict_build.specs.BuildFaults.{is_node, is_sum_outside, is_bad_cob_id, is_unpaired, is_bad_mapping, is_too_many}
use Rattle.co_dict_faults.specs.SoundPlans.{sound_plan}

-- ---- order: by the number of the kind, and then by key

-- where a fault is; an index goes before its entries
abbrev pub place_of : BuildFault → Key
place_of (ValueRange key) = key
place_of (BadCobId key) = key
place_of (PdoPair index) = record { index = index; sub = 0 }
place_of (BadMapping key) = key
place_of other = record { index = 0; sub = 0 }

abbrev pub build_cmp : BuildFault → BuildFault → Ordering
build_cmp f g =
    ordering_then (nat_cmp (fault_number f) (fault_number g)) (key_cmp (place_of f) (place_of g))

-- ---- each by the definition of its kind

-- an entry of a sheet has a sum out of range
pub record HasSumOutside (node : ℕ) (rows : List SheetRow) (key : Key) : Type 0 where
  pub row : SheetRow
  pub there : Contains rows row
  pub key_is : row.key ≡ key
  pub outside : is_sum_outside node row row.default ≡ true

-- a dictionary has an entry for which a test is true
pub record HasEntry (d : Description) (key : Key) (test : Bool) : Type 0 where
  pub there : Contains d.keys key
  pub found : test ≡ true

-- it has an object for which a test is true
pub record HasObject (d : Description) (index : ℕ) (test : Bool) : Type 0 where
  pub key : Key
  pub there : Contains d.keys key
  pub index_is : key.index ≡ index
  pub found : test ≡ true

-- a fault is one of a dictionary's parameters
abbrev pub IsParameterFault : Description → Contents → BuildFault → Type 0
IsParameterFault d contents (BadCobId key) = HasEntry d key (is_bad_cob_id d.node contents key)
IsParameterFault d contents (PdoPair index) = HasObject d index (is_unpaired d.rows index)
IsParameterFault d contents (BadMapping key) = HasEntry d key (is_bad_mapping d contents key)
IsParameterFault d contents other = ⊥

-- a fault is one of a plan; those of parameters are looked for in its rows without sums out of
-- range
abbrev pub IsFaultOf : Plan → BuildFault → Type 0
IsFaultOf plan NodeId = is_node plan.node ≡ false
IsFaultOf plan (ValueRange key) = HasSumOutside plan.node plan.rows key
IsFaultOf plan TooMany =
    is_too_many (length plan.rows) (sum_by (capacity_of plan.limits) plan.rows) ≡ true
IsFaultOf plan Memory = ⊥
IsFaultOf plan fault =
    IsParameterFault (built_description (sound_plan plan)) (built_contents (sound_plan plan)) fault
