-- What is known of a node's device, by the data sheet and by what the recording shows.
use Rattle.std.specs.Prelude.{ℕ, Bool, false, Option, Some, None, option_and_then}
use Rattle.std.specs.Option.{option_map_or}
use Rattle.co_profile.specs.Keys.{device_type_key}
use Rattle.co_sheet_changes.specs.Names.{Names, entry_of, names_view}
use Rattle.conode_explain_entries.specs.declared.state.PdoState.{PdoState}
use Rattle.conode_explain_services.specs.Drives.{is_drive}
use Rattle.conode_explain_cob_ids.specs.declared.device.Device.{Device as DeviceOfCode}
use Rattle.conode_explain_cob_ids.specs.Buses.{Bus, names_at, state_at}
use Rattle.conode_explain_cob_ids.specs.Origins.{number_by, value_at}
use Rattle.conode_explain_cob_ids.specs.Sheets.{number_of}

-- what is known of a device: where the names of its entries come from, and the device type that the
-- recording shows, if it shows one
pub record Device : Type 0 where
  pub names : Names
  pub shown_type : Option ℕ

abbrev pub device_view : DeviceOfCode → Device
device_view device = record { names = names_view device.names; shown_type = device.shown_type }

-- the device type (CiA 301, 7.5.2.1) that the recording shows; else the one that the sheet begins with
abbrev pub type_of_device : Option ℕ → Names → ℕ → Option ℕ
type_of_device (Some shown) names node = Some shown
type_of_device None names node = option_and_then (λ row. number_of row.default) (entry_of names node device_type_key)

-- a node is a drive, by its device type
unfoldable pub is_node_drive : Device → ℕ → Bool
is_node_drive device node = option_map_or is_drive (type_of_device device.shown_type device.names node) false

-- the device type that is shown
abbrev pub type_shown : Option PdoState → Option ℕ
type_shown None = None
type_shown (Some state) = number_by None (value_at state.now.mapping 0)

-- what is known of a node's device
abbrev pub device_at : Bus → ℕ → Device
device_at bus node = record { names = names_at bus node; shown_type = type_shown (state_at bus node 0x1000) }

-- a node is a drive (CiA 402)
abbrev pub is_drive_at : Bus → ℕ → Bool
is_drive_at bus node = is_node_drive (device_at bus node) node
