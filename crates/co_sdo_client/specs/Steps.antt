-- What one event does to a waiting client, without the events before it.
use Rattle.std.specs.Prelude.{ℕ, ◌+◌, ◌-◌, ◌==◌, ◌&&◌, Bool, false, not, nat_lt, List, [], ◌++◌, length, Option, if◌then◌else◌}
use Rattle.co_frame_aborts.specs.AbortCodes.{timed_out}
use Rattle.co_frame.specs.SdoResponses.{response_in}
use Rattle.co_frame.specs.declared.sdo_response.SdoResponse.{SdoResponse}
use Rattle.co_sdo_client.specs.declared.stage.Stage.{Stage}
use Rattle.co_sdo_client.specs.declared.stage.Stage.TheVariants.{Begun, Download, Upload, BlockDownload, SubBlock, LastTaken}
use Rattle.co_sdo_client.specs.declared.state.ClientState.TheVariants.{Done, Failed}
use Rattle.co_sdo_client.specs.declared.transfer.Transfer.{Transfer}
use Rattle.co_sdo_client.specs.declared.transfer.Transfer.TheVariants.{ExpeditedDownload, SegmentedDownload, BlockDownload as InBlocks, SegmentedUpload, BlockUpload}
use Rattle.co_sdo_client.specs.Calls.{Call, Message}
use Rattle.co_sdo_client.specs.Segments.{bytes_of, transfer_of, sub_block_length, sub_block_sent}
use Rattle.co_sdo_client.specs.SubBlocks.{ends_sub_block, is_last_taken}
use Rattle.co_sdo_client.specs.Stages.{size_by, acknowledged_by, block_size_by, segment_part, block_download_stage}
use Rattle.co_sdo_client.specs.Verdicts.{Verdict, GoesOn, Ends, GivesUp, IsAborted, segment_next, taken_with, held_with, response_verdict, answer_verdict}
use Rattle.co_sdo_client.specs.Outcomes.{messages_by}
use Rattle.co_sdo_client.specs.Standing.{Standing, counted}

-- ---- the progress then, and the bytes held

-- after the first answer
abbrev pub first_stage : Call → Transfer → Option SdoResponse → Stage
first_stage call ExpeditedDownload response = Begun
first_stage call SegmentedDownload response = Download 0
first_stage call InBlocks response = block_download_stage (bytes_of call.job) 0 (block_size_by response)
first_stage call SegmentedUpload response = Upload (size_by response) false
first_stage call BlockUpload response = SubBlock (size_by response) 0

-- after an answer outside a sub-block
abbrev pub stage_next : Call → Stage → Option SdoResponse → Stage
stage_next call Begun response = first_stage call (transfer_of call) response
stage_next call (Download confirmed) response = Download (confirmed + 1)
stage_next call (Upload size toggle) response = Upload size (not toggle)
stage_next call (BlockDownload count sent) response = block_download_stage (bytes_of call.job) (count + acknowledged_by response) (block_size_by response)
stage_next call stage response = stage

-- the bytes held after an answer outside a sub-block
abbrev pub held_next : Stage → List ℕ → Option SdoResponse → List ℕ
held_next Begun held response = []
held_next (Upload size toggle) held response = held ++ segment_part response
held_next stage held response = held

-- after a frame inside a sub-block
abbrev pub sub_block_stage : Option ℕ → ℕ → List ℕ → Stage
sub_block_stage size taken frame =
    if is_last_taken (segment_next taken frame) then LastTaken size
    else (if ends_sub_block frame then SubBlock size 0 else SubBlock size (taken_with taken frame))

-- ---- the client then

-- by a verdict, and by the progress and the bytes held if it goes on
abbrev pub after : Standing → Verdict → Stage → List ℕ → Standing
after client (GoesOn messages) stage held = record client { stage = stage; held = held; sent = counted (client.sent + length messages) }
after client (Ends messages value) stage held = record client { state = Done; held = value; sent = counted (client.sent + length messages) }
after client (GivesUp code) stage held = record client { state = Failed (record { 0 = code }); sent = counted (client.sent + 1) }
after client (IsAborted code) stage held = record client { state = Failed (record { 0 = code }) }

-- the messages sent at an answer outside a sub-block
abbrev pub messages_to : Standing → Option SdoResponse → List Message
messages_to client response = messages_by client.call (response_verdict client.call client.stage client.held response)

-- the client after an answer outside a sub-block
abbrev pub after_response : Standing → Option SdoResponse → Standing
after_response client response =
    after client (response_verdict client.call client.stage client.held response) (stage_next client.call client.stage response) (held_next client.stage client.held response)

-- the messages sent at a frame
abbrev pub messages_to_frame : Standing → List ℕ → List Message
messages_to_frame client frame = messages_by client.call (answer_verdict client.call client.stage client.held frame)

-- the progress after a frame
abbrev pub frame_stage : Call → Stage → List ℕ → Stage
frame_stage call (SubBlock size taken) frame = sub_block_stage size taken frame
frame_stage call stage frame = stage_next call stage (response_in frame)

-- the bytes held after a frame
abbrev pub frame_held : Stage → List ℕ → List ℕ → List ℕ
frame_held (SubBlock size taken) held frame = held_with held taken frame
frame_held stage held frame = held_next stage held (response_in frame)

-- the client after a frame
abbrev pub after_frame : Standing → List ℕ → Standing
after_frame client frame =
    after client (answer_verdict client.call client.stage client.held frame) (frame_stage client.call client.stage frame) (frame_held client.stage client.held frame)

-- no time is left after one more tick
abbrev pub is_over : Standing → Bool
is_over client = nat_lt 0 client.call.time && (client.left - 1 == 0)

-- the messages sent at a tick
abbrev pub messages_to_tick : Standing → List Message
messages_to_tick client = if is_over client then messages_by client.call (GivesUp timed_out) else []

-- the client after a tick
abbrev pub after_tick : Standing → Standing
after_tick client = after (record client { left = client.left - 1 }) (if is_over client then GivesUp timed_out else GoesOn []) client.stage client.held

-- the client after a sub-block of a block download is sent
abbrev pub after_sub_block : Standing → ℕ → ℕ → Standing
after_sub_block client position size = record client {
  stage = BlockDownload position (sub_block_length (bytes_of client.call.job) position size);
  sent = counted (client.sent + length (sub_block_sent (bytes_of client.call.job) position size));
}
