-- Worked examples, computed from the definitions: a data sheet that makes a dictionary without a fault, and words of SYNC and
-- EMCY that it may not have.
use Rattle.std.proofs.Common.{◌≡◌, ℕ, false, [], ◌∷◌, Some, None, refl, arith}
use Rattle.std.specs.Prelude.{pos}
use Rattle.co_value.specs.declared.data_type.DataType.TheVariants.{Unsigned8, Unsigned16, Unsigned32}
use Rattle.co_profile.specs.declared.access.Access.TheVariants.{Rw}
use Rattle.co_sheet.specs.Content.{Row as SheetRow}
use Rattle.co_sheet.specs.Limits.{number}
use Rattle.co_dict.specs.SdoChannels.{is_sdo_id}
use Rattle.co_dict.specs.Objects.{has_object, subs_present}
use Rattle.co_dict.specs.Stores.{greatest_capacity}
use Rattle.co_dict.proofs.ExampleDevice.{at}
use Rattle.co_dict_build.specs.declared.build_fault.BuildFault.TheVariants.{BadCobId}
use Rattle.co_dict_build.specs.Built.{Plan, built_contents, built_description}
use Rattle.co_dict_build.specs.BuildFaults.{build_fault, is_used_before}
use Rattle.co_sdo.specs.Refused.{completion_refusal, initiate_refusal}
use Rattle.co_sdo_client.specs.declared.mode.Mode.TheVariants.{Segmented}
use Rattle.co_node_model.specs.Moments.{Constants}
use Rattle.co_node.specs.Built.{IsBuilt}
use Rattle.co_node.specs.Nodes.{built_constants}
use Rattle.co_node.specs.Served.{IsPermitted}

abbrev row : ℕ → ℕ → SheetRow
row index word = record { key = at index 0; data_type = Unsigned32; access = Rw; low = None; high = None; default = number (pos word); mappable = false; name = None; line = 0 }

abbrev plan : ℕ → ℕ → Plan
plan sync emergency = record { node = 5; limits = record { strings = 16; domains = 65535; own = [] }; rows = row 0x1005 sync ∷ row 0x1014 emergency ∷ []; dummies = [] }

abbrev made : Plan → Constants
made p = record { description = built_description p; start = built_contents p; greatest = 4; time = 1000 }

built : IsBuilt (plan 0x80 0x85) (made (plan 0x80 0x85))
unfolding is_sdo_id has_object subs_present is_used_before
built = record { faultless = refl; description = refl; start = refl }

built_without : build_fault (plan 0 0) ≡ None
unfolding is_sdo_id has_object subs_present is_used_before
built_without = refl

sync_refused : build_fault (plan 0x605 0x85) ≡ Some (BadCobId (at 0x1005 0))
unfolding is_sdo_id has_object subs_present is_used_before
sync_refused = refl

emergency_refused : build_fault (plan 0x80 0x585) ≡ Some (BadCobId (at 0x1014 0))
unfolding is_sdo_id has_object subs_present is_used_before
emergency_refused = refl

-- the greatest capacity, wherever its entry is
greatest_in_the_middle : greatest_capacity (built_description (record (plan 0 0) { rows = record (row 0x2000 0) { data_type = Unsigned8 } ∷ row 0x2001 0 ∷ record (row 0x2002 0) { data_type = Unsigned16 } ∷ [] })) ≡ 4
greatest_in_the_middle = refl

greatest_first : greatest_capacity (built_description (record (plan 0 0) { rows = record (row 0x2000 0) { data_type = Unsigned16 } ∷ record (row 0x2001 0) { data_type = Unsigned8 } ∷ [] })) ≡ 2
greatest_first = refl

greatest_of_none : greatest_capacity (built_description (record (plan 0 0) { rows = [] })) ≡ 0
greatest_of_none = refl

made_with_the_greatest : built_constants (plan 0x80 0x85) 1000 ≡ made (plan 0x80 0x85)
made_with_the_greatest = refl

-- a device that was just built permits a download of four bytes in segments: each premise of the law is computed
abbrev plan_with_entry : Plan
plan_with_entry = record (plan 0x80 0x85) { rows = row 0x1005 0x80 ∷ row 0x1014 0x85 ∷ row 0x2000 0 ∷ [] }

permits : IsPermitted (built_constants plan_with_entry 1000) [] (at 0x2000 0) (1 ∷ 2 ∷ 3 ∷ 4 ∷ []) Segmented
unfolding is_sdo_id has_object subs_present is_used_before initiate_refusal completion_refusal
permits = record {
  plan = plan_with_entry;
  built = record { faultless = refl; description = refl; start = refl };
  running = refl;
  idle = refl;
  index = omega arith;
  permitted = refl;
  segmented = refl;
}
