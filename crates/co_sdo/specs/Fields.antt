-- How contracts see the fields of a channel, and the invariant of these fields.
use Rattle.std.specs.Prelude.{ℕ, ◌+◌, ◌*◌, ◌≤◌, ◌<◌, List, Option, Some, None}
use Rattle.co_frame.specs.SegmentSizes.{bytes_per_segment, segments_per_sub_block, bytes_per_sub_block}
use Rattle.co_sdo.specs.declared.stage.Stage.{Stage}
use Rattle.co_sdo.specs.declared.stage.Stage.TheVariants.{Download, Upload, SubBlock, LastTaken, BlockUploadInitiated, BlockUpload, BlockUploadEnded}
use Rattle.co_sdo.specs.declared.stage.Ongoing.{Ongoing}
use Rattle.co_sdo.specs.Uploads.{segments_for}
use Rattle.co_sdo.specs.Opened.{OpenTransfer}

-- the open transfer, by the fields of a channel and its buffer
abbrev pub opened_in : Option Ongoing → List ℕ → Option OpenTransfer
opened_in None buffer = None
opened_in (Some ongoing) buffer = Some (record { key = ongoing.key; stage = ongoing.stage; bytes = buffer })

-- the bytes held leave room for what may still come, and positions are within them
abbrev pub stage_room : Stage → ℕ → ℕ → Type 0
stage_room (Download indicated toggle) held greatest = held ≤ greatest
stage_room (Upload sent) held greatest = (held ≤ greatest) × (bytes_per_segment * sent ≤ held)
stage_room (SubBlock indicated taken) held greatest = (held ≤ greatest + bytes_per_segment * taken) × (taken < segments_per_sub_block)
stage_room (LastTaken indicated) held greatest = held ≤ greatest + bytes_per_sub_block
stage_room (BlockUploadInitiated block_size) held greatest = (held ≤ greatest) × (1 ≤ block_size) × (block_size ≤ segments_per_sub_block)
stage_room (BlockUpload acknowledged sent) held greatest = (held ≤ greatest) × (acknowledged + sent ≤ segments_for held) × (sent ≤ segments_per_sub_block)
stage_room BlockUploadEnded held greatest = held ≤ greatest

-- the same for an open transfer, if there is one
abbrev pub has_room : Option Ongoing → ℕ → ℕ → Type 0
has_room None held greatest = Unit {0}
has_room (Some ongoing) held greatest = stage_room ongoing.stage held greatest
