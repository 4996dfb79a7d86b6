-- That the premises of the laws on changes can be met, each by inputs of a small device.
use Rattle.std.proofs.Common.{◌≡◌, true, false, [], ◌∷◌, Some, None, refl}
use Rattle.std.specs.Prelude.{length}
use Rattle.co_frame.specs.Nmt.{nmt_command_in}
use Rattle.co_dict.proofs.ExampleDevice.{at}
use Rattle.co_sdo.specs.Completed.{completed_by}
use Rattle.co_sdo.specs.OpenTransfers.{open_transfer}
use Rattle.co_sdo.specs.Refused.{completion_refusal}
use Rattle.co_node_parts.specs.NmtStates.{is_state}
use Rattle.co_node_parts.specs.declared.nmt_state.NodeState.TheVariants.{Stopped}
use Rattle.co_node_model.specs.AppEvents.{event_refusal}
use Rattle.co_node_model.specs.Inputs.{EventOn, Cleared}
use Rattle.co_node_model.specs.Nmt.{is_reset_by, service_for}
use Rattle.co_node_model.specs.declared.address.Address.TheVariants.{Channel}
use Rattle.co_node_model.specs.Sdo.{channel_logs}
use Rattle.co_node_model.specs.Addresses.{address_at}
use Rattle.co_node_model.specs.Device.{contents_of, moments, state_of}
use Rattle.co_node_model.proofs.ExampleNode.{device, frame, hex, stop, searches}
use Rattle.co_node_laws.specs.Changes.{is_for}

-- ---- application events

clearing_permitted : event_refusal device.description (contents_of device []) (Cleared 1) ≡ None
clearing_permitted = refl

event_permitted : event_refusal device.description (contents_of device []) (EventOn 0) ≡ None
unfolding searches
event_permitted = refl

-- there is no TPDO 2
event_refused : event_refusal device.description (contents_of device []) (EventOn 2) ≡ Some 0x0602_0000
unfolding searches
event_refused = refl

-- ---- frames to an SDO channel

to_channel : address_at device (moments device []) 0x605 ≡ Channel 0
unfolding searches
to_channel = refl

running : is_state Stopped (state_of device []) ≡ false
unfolding searches
running = refl

to_channel_stopped : address_at device (moments device (stop ∷ [])) 0x605 ≡ Channel 0
unfolding searches
to_channel_stopped = refl

stopped : is_state Stopped (state_of device (stop ∷ [])) ≡ true
unfolding searches
stopped = refl

-- 1800:02 of TPDO 0 becomes 2
completes : completed_by device.description.rows (open_transfer (channel_logs (moments device []) 0)) (hex 8 0x2F00_1802_0200_0000)
    ≡ Some (record { key = at 0x1800 2; indicated = None; bytes = 2 ∷ [] })
unfolding searches
completes = refl

permits : completion_refusal device.description (contents_of device []) (at 0x1800 2) None (2 ∷ []) ≡ None
unfolding searches
permits = refl

eight : length (frame 0x605 8 0x2F00_1802_0200_0000).bytes ≡ 8
eight = refl

-- 2003:00 up to 1000 doesn't become 1001
completes_too_high : completed_by device.description.rows (open_transfer (channel_logs (moments device []) 0)) (hex 8 0x2B03_2000_E903_0000)
    ≡ Some (record { key = at 0x2003 0; indicated = None; bytes = 0xE9 ∷ 3 ∷ [] })
unfolding searches
completes_too_high = refl

too_high : completion_refusal device.description (contents_of device []) (at 0x2003 0) None (0xE9 ∷ 3 ∷ []) ≡ Some 0x0609_0031
unfolding searches
too_high = refl

-- an upload completes no download
completes_none : completed_by device.description.rows (open_transfer (channel_logs (moments device []) 0)) (hex 8 0x4001_1000_0000_0000) ≡ None
unfolding searches
completes_none = refl

-- ---- NMT commands

to_all : is_for device 0 ≡ true
to_all = refl

to_this : is_for device 5 ≡ true
to_this = refl

to_another : is_for device 6 ≡ false
to_another = refl

no_reset : is_reset_by (service_for 5 (nmt_command_in (frame 0 2 0x0105))) ≡ false
no_reset = refl

a_reset : is_reset_by (service_for 5 (nmt_command_in (frame 0 2 0x8205))) ≡ true
a_reset = refl
