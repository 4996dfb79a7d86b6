-- What happens to the entries of a node, by what is known about its frames.
use Rattle.std.specs.Prelude.{ℕ, ◌-◌, ◌==◌, nat_le, Bool, true, false, not, ◌&&◌, ◌||◌, if◌then◌else◌, List, length, take, codes, Option, Some, None, option_map}
use Rattle.std.specs.Str.{bytes_eq}
use Rattle.co_profile.specs.Indices.{is_within, pdo_cob_id, restore_parameters, rpdo_communication, rpdo_mapping, store_parameters, tpdo_communication, tpdo_mapping}
use Rattle.co_value.specs.declared.key.Key.{Key}
use Rattle.co_value.specs.Numbers.{unsigned_of}
use Rattle.conode_explain_transfers.specs.declared.told.Part.{Part}
use Rattle.conode_explain_transfers.specs.declared.told.Told.{Told}
use Rattle.conode_explain_transfers.specs.declared.ended.Ended.{Ended}
use Rattle.conode_explain_transfers.specs.declared.ended.Ending.{Ending}
use Rattle.conode_explain_transfers.specs.declared.ended.Ending.TheVariants.{Done, Irregular, SizeDiffers, CrcDiffers}
use Rattle.conode_explain_transfers.specs.declared.kinds.Direction.{Direction}
use Rattle.conode_explain_transfers.specs.declared.kinds.Direction.TheVariants.{Download, Upload}
use Rattle.conode_explain_transfers.specs.declared.kinds.Protocol.{Protocol}
use Rattle.conode_explain_transfers.specs.declared.kinds.Protocol.TheVariants.{Expedited}
use Rattle.conode_explain_entries.specs.declared.event.Event.{Event}
use Rattle.conode_explain_entries.specs.declared.event.Event.TheVariants.{Written, Read, BootedUp, Saved, Restored, Unclear}
use Rattle.conode_explain_entries.specs.declared.event.PdoEntry.{PdoEntry}
use Rattle.conode_explain_entries.specs.declared.event.PdoPart.TheVariants.{CobId, Mapping}

-- ---- the entries that are followed

-- the COB-ID of a PDO (CiA 301, 7.5.2.35 and 7.5.2.37)
abbrev pub is_cob_id : Key → Bool
is_cob_id key = (key.sub == pdo_cob_id) && (is_within tpdo_communication key.index || is_within rpdo_communication key.index)

-- the number of a PDO's mapped entries, or one of the words (CiA 301, 7.5.2.36 and 7.5.2.38)
abbrev pub is_mapping : Key → Bool
is_mapping key = nat_le key.sub 64 && (is_within tpdo_mapping key.index || is_within rpdo_mapping key.index)

-- a COB-ID of an SDO channel other than the default one, or the node-ID of its other end: of servers
-- 1201h to 127Fh, of clients 1280h to 12FFh (CiA 301, 7.5.2.33 and 7.5.2.34)
abbrev pub is_channel : Key → Bool
is_channel key = (nat_le 1 key.sub && nat_le key.sub 3) && (nat_le 0x1201 key.index && nat_le key.index 0x12FF)

-- the device type, and the COB-IDs of SYNC, TIME and emergencies, each an UNSIGNED32 without
-- sub-indices (CiA 301, 7.5.2.1, 7.5.2.5, 7.5.2.15 and 7.5.2.17)
abbrev pub is_service : Key → Bool
is_service key =
    (key.sub == 0) && ((key.index == 0x1000) || ((key.index == 0x1005) || ((key.index == 0x1012) || (key.index == 0x1014))))

-- the entry of a PDO that a key is; its mapping parameter has an index that is 200h more than that
-- of its communication parameter. An SDO channel's and a service's are kept by their sub-index, as one
-- of a mapping
abbrev pub entry_of : Key → Option PdoEntry
entry_of key =
    if is_cob_id key then Some (record { index = key.index; part = CobId })
    else (if is_mapping key then Some (record { index = key.index - 0x200; part = Mapping key.sub })
    else (if is_channel key || is_service key then Some (record { index = key.index; part = Mapping key.sub }) else None))

-- ---- transfers that ended

-- sub-index 0 of a mapping is an UNSIGNED8, and so is the node-ID of an SDO channel's other end; the
-- others are UNSIGNED32
abbrev pub number_width : Key → ℕ
number_width key = if ((key.sub == 0) && not (is_service key)) || (is_channel key && (key.sub == 3)) then 1 else 4

abbrev pub is_expedited : Protocol → Bool
is_expedited Expedited = true
is_expedited other = false

-- as many bytes as the type has; an expedited transfer has four where it doesn't indicate their number
abbrev pub has_width : Key → Protocol → ℕ → Bool
has_width key protocol count = (count == number_width key) || (is_expedited protocol && (count == 4))

-- the number, which isn't known where there are more or fewer bytes than the type has
abbrev pub number_in : Key → Protocol → List ℕ → Option ℕ
number_in key protocol bytes =
    if has_width key protocol (length bytes) then Some (unsigned_of (take (number_width key) bytes)) else None

-- a signature for all parameters, or for those of communication, 1000h to 1FFFh
abbrev pub has_signature : Key → ℕ → List ℕ → List ℕ → Bool
has_signature key index bytes signature = (key.index == index) && (((key.sub == 1) || (key.sub == 2)) && bytes_eq bytes signature)

-- store parameters (CiA 301, 7.5.2.13)
abbrev pub is_save : Key → List ℕ → Bool
is_save key bytes = has_signature key store_parameters bytes (codes "save")

-- restore default parameters (CiA 301, 7.5.2.14)
abbrev pub is_load : Key → List ℕ → Bool
is_load key bytes = has_signature key restore_parameters bytes (codes "load")

-- a download with these bytes was acknowledged
abbrev pub written_event : Key → Protocol → List ℕ → Option Event
written_event key protocol bytes =
    if is_save key bytes then Some Saved
    else (if is_load key bytes then Some Restored
    else option_map (λ of. Written of (number_in key protocol bytes)) (entry_of key))

-- an upload was answered with these bytes
abbrev pub read_event : Key → Protocol → List ℕ → Option Event
read_event key protocol bytes = option_map (λ of. Read of (number_in key protocol bytes)) (entry_of key)

-- parameters are stored, or default ones restored, by a download with a signature
abbrev pub is_store : Key → Bool
is_store key = ((key.sub == 1) || (key.sub == 2)) && ((key.index == store_parameters) || (key.index == restore_parameters))

-- a download was acknowledged, and its bytes aren't known
abbrev pub unclear_event : Key → Option Event
unclear_event key = if is_store key then Some Unclear else option_map (λ of. Written of None) (entry_of key)

-- a download was acknowledged, but bytes of it are missing in the recording, or aren't those that were
-- meant. One that the device refused, or that has no acknowledge, changes nothing
abbrev pub is_unclear : Ending → Bool
is_unclear Irregular = true
is_unclear (SizeDiffers indicated) = true
is_unclear (CrcDiffers came computed) = true
is_unclear _ = false

abbrev pub download_event : Ending → Key → Protocol → List ℕ → Option Event
download_event (Done crc) key protocol bytes = written_event key protocol bytes
download_event ending key protocol bytes = if is_unclear ending then unclear_event key else None

abbrev pub upload_event : Ending → Key → Protocol → List ℕ → Option Event
upload_event (Done crc) key protocol bytes = read_event key protocol bytes
upload_event _ key protocol bytes = None

abbrev pub event_by : Direction → Ending → Key → Protocol → List ℕ → Option Event
event_by Download ending key protocol bytes = download_event ending key protocol bytes
event_by Upload ending key protocol bytes = upload_event ending key protocol bytes

abbrev pub event_after : Ended → Option Event
event_after ended = event_by ended.direction ended.ending ended.key ended.protocol ended.first.items

-- ---- frames

abbrev pub event_of : Option Ended → Option Event
event_of None = None
event_of (Some ended) = event_after ended

-- where no transfer that ended shows anything: a download that isn't known was accepted
abbrev pub or_unclear : Option Event → Option Key → Option Event
or_unclear (Some event) unclear = Some event
or_unclear None None = None
or_unclear None (Some key) = unclear_event key

abbrev pub event_with : Option Part → Option Ended → Option Key → Option Event
event_with None ended unclear = Some BootedUp
event_with (Some part) ended unclear = or_unclear (event_of ended) unclear

-- a frame that is no part of a transfer is the node's boot-up
abbrev pub event_in : Told → Option Event
event_in told = event_with told.part told.ended told.unclear
