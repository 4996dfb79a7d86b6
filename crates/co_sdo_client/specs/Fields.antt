-- How contracts see the fields of a client, and the invariant of these fields.
use Rattle.std.specs.Prelude.{◌≡◌, ℕ, ◌+◌, ◌*◌, ◌≤◌, ◌<◌, List, [], length}
use Rattle.co_value.specs.declared.key.Key.{Key}
use Rattle.co_frame.specs.SegmentSizes.{bytes_per_segment, segments_per_sub_block, bytes_per_sub_block}
use Rattle.co_sdo_client.specs.declared.mode.Mode.{Mode}
use Rattle.co_sdo_client.specs.declared.direction.Direction.{Direction}
use Rattle.co_sdo_client.specs.declared.direction.Direction.TheVariants.{Download as Writes, Upload as Reads}
use Rattle.co_sdo_client.specs.declared.stage.Stage.{Stage}
use Rattle.co_sdo_client.specs.declared.stage.Stage.TheVariants.{Begun, Download, Upload, BlockDownload, BlockDownloadEnded, SubBlock, LastTaken}
use Rattle.co_sdo_client.specs.declared.transfer.Transfer.{Transfer}
use Rattle.co_sdo_client.specs.declared.transfer.Transfer.TheVariants.{SegmentedUpload, BlockUpload}
use Rattle.co_sdo_client.specs.Calls.{Job, Download as Write, Upload as Read, Call}
use Rattle.co_sdo_client.specs.Segments.{bytes_of, cap_of, segments_for, transfer_of}

-- the job, by its direction and the bytes of a download
abbrev pub job_of : Direction → List ℕ → Job
job_of (Writes tells) bytes = Write bytes tells
job_of (Reads cap) bytes = Read cap

-- the call, by the fields of a client
abbrev pub call_of : Key → Mode → ℕ → Direction → List ℕ → Call
call_of key mode time direction bytes = record { key = key; mode = mode; time = time; job = job_of direction bytes }

-- how many bytes a transfer needs room for
abbrev pub room_for : Transfer → ℕ → ℕ
room_for SegmentedUpload cap = cap
room_for BlockUpload cap = cap + bytes_per_sub_block
room_for _ cap = 0

-- before the first answer nothing is held; an expedited upload is done with the first
abbrev pub begun_room : Transfer → List ℕ → Type 0
begun_room SegmentedUpload held = Unit {0}
begun_room _ held = held ≡ []

-- positions are within the bytes, and the buffer has room for what may still come
abbrev pub stage_room : Call → Stage → List ℕ → ℕ → Type 0
stage_room call Begun held room = begun_room (transfer_of call) held
stage_room call (Download confirmed) held room = (held ≡ []) × (bytes_per_segment * confirmed ≤ length (bytes_of call.job))
stage_room call (Upload size toggle) held room = (length held ≤ cap_of call.job) × (cap_of call.job ≤ room)
stage_room call (BlockDownload count sent) held room = (held ≡ []) × (count + sent ≤ segments_for (length (bytes_of call.job))) × (sent ≤ segments_per_sub_block)
stage_room call BlockDownloadEnded held room = held ≡ []
stage_room call (SubBlock size taken) held room = (length held ≤ cap_of call.job + bytes_per_segment * taken) × (taken < segments_per_sub_block) × (cap_of call.job + bytes_per_sub_block ≤ room)
stage_room call (LastTaken size) held room = length held ≤ cap_of call.job + bytes_per_sub_block

-- the bytes are those of the call, and the buffer has exactly the room that the transfer needs
pub record IsFit (call : Call) (bytes : List ℕ) (stage : Stage) (held : List ℕ) (room : ℕ) : Type 0 where
  pub len : length bytes ≤ 65535
  pub given : bytes ≡ bytes_of call.job
  pub reserved : room ≡ room_for (transfer_of call) (cap_of call.job)
  pub within : stage_room call stage held room
