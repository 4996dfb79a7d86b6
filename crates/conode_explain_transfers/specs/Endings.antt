-- How transfers end.
use Rattle.std.specs.Prelude.{ℕ, ◌+◌, ◌-◌, ◌==◌, nat_lt, Bool, true, false, if◌then◌else◌, Option, Some, None, length}
use Rattle.co_frame.specs.SegmentSizes.{bytes_per_segment}
use Rattle.conode_explain_transfers.specs.declared.ended.Ended.{Ended}
use Rattle.conode_explain_transfers.specs.declared.ended.Ending.{Ending}
use Rattle.conode_explain_transfers.specs.declared.ended.Ending.TheVariants.{Done, Aborted, Irregular, SizeDiffers, CrcDiffers, NotFollowed}
use Rattle.conode_explain_transfers.specs.declared.ended.Fault.{Fault}
use Rattle.conode_explain_transfers.specs.declared.ended.Fault.TheVariants.{Size, Crc}
use Rattle.conode_explain_transfers.specs.declared.kinds.Side.TheVariants.{Client}
use Rattle.conode_explain_transfers.specs.declared.stage.Stage.{Stage}
use Rattle.conode_explain_transfers.specs.declared.stage.Stage.TheVariants.{Initiated, SubBlock, AllAcknowledged, BlockEnded}
use Rattle.conode_explain_transfers.specs.declared.transfer.Transfer.{Transfer}
use Rattle.conode_explain_transfers.specs.Digests.{counted}
use Rattle.conode_explain_transfers.specs.Transfers.{is_download}

-- the indicated size, where another number of bytes came
abbrev pub size_fault : Option ℕ → ℕ → Option ℕ
size_fault None count = None
size_fault (Some size) count = if size == count then None else Some size

-- the CRC that came is that of the bytes
abbrev pub crc_verdict : ℕ → Option ℕ → Ending
crc_verdict computed None = Done false
crc_verdict computed (Some came) = if came == computed then Done true else CrcDiffers came computed

abbrev pub size_verdict : Option ℕ → Ending → Ending
size_verdict (Some indicated) otherwise = SizeDiffers indicated
size_verdict None otherwise = otherwise

-- a transfer that was confirmed: the first that is wrong
abbrev pub verdict : Transfer → Option ℕ → Ending
verdict transfer crc =
    if transfer.irregular then Irregular
    else size_verdict (size_fault transfer.size transfer.taken.count) (crc_verdict transfer.taken.crc crc)

-- a transfer that can be followed
abbrev pub is_followed : Ending → Bool
is_followed (NotFollowed next) = false
is_followed ending = true

-- what is said of a transfer that ended
abbrev pub ended : Transfer → ℕ → Ending → Ended
ended transfer end ending = record {
  key = transfer.key;
  direction = transfer.direction;
  protocol = transfer.protocol;
  bytes = transfer.taken.count;
  first = record { items = transfer.taken.first.items };
  frames = transfer.frames;
  begun = transfer.begun;
  newest = transfer.newest;
  end = end;
  ending = ending;
  fault = None;
}

-- ---- an upload that the client aborts

-- After the device's end its data are as wrong as if the client had confirmed that.
abbrev pub fault_of : Ending → ℕ → Option Fault
fault_of (SizeDiffers indicated) bytes = Some (Size indicated bytes)
fault_of (CrcDiffers came computed) bytes = Some (Crc came computed)
fault_of ending bytes = None

-- Before that they are wrong where more came than were indicated.
abbrev pub excess : Option ℕ → ℕ → Option Fault
excess None bytes = None
excess (Some indicated) bytes = if nat_lt indicated bytes then Some (Size indicated bytes) else None

-- how many of the pending bytes are data: of the last segment of a block upload maybe none, as only
-- the end says how many it has
abbrev pub pending_data : Stage → ℕ → ℕ
pending_data (SubBlock true) pending = pending - bytes_per_segment
pending_data AllAcknowledged pending = pending - bytes_per_segment
pending_data stage pending = pending

-- how many bytes of data have come, at least
abbrev pub bytes_come : Transfer → ℕ
bytes_come transfer = counted (transfer.taken.count + pending_data transfer.stage (length transfer.pending.items))

-- both ends support the CRC, and the end has this one
abbrev pub compared_crc : Bool → ℕ → Option ℕ
compared_crc both crc = if both then Some crc else None

-- before the response nothing has come
abbrev pub fault_at : Stage → Transfer → Option Fault
fault_at Initiated transfer = None
fault_at (BlockEnded crc) transfer = fault_of (verdict transfer (compared_crc transfer.crc crc)) transfer.taken.count
fault_at stage transfer = if transfer.irregular then None else excess transfer.size (bytes_come transfer)

-- a download has the client's data
abbrev pub upload_fault : Transfer → Option Fault
upload_fault transfer = if is_download transfer.direction then None else fault_at transfer.stage transfer

-- what was wrong with the data of a transfer that ends so
abbrev pub fault_with : Ending → Transfer → Option Fault
fault_with (Aborted Client code) transfer = upload_fault transfer
fault_with ending transfer = None
