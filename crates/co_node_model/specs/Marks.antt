-- What each service reads of a mark.
use Rattle.std.specs.Prelude.{ℕ, Bool, true, false, Option, Some, None}
use Rattle.co_value.specs.declared.key.Key.{Key}
use Rattle.co_frame.specs.FrameContent.{FrameContent}
use Rattle.co_frame.specs.declared.nmt.NmtService.{NmtService}
use Rattle.co_node_parts.specs.declared.rpdo_slots.KeptFrame.{KeptFrame}
use Rattle.co_node_model.specs.declared.mark.Asked.{Asked}
use Rattle.co_node_model.specs.declared.mark.Mark.{Mark}
use Rattle.co_node_model.specs.declared.mark.Mark.TheVariants as was

-- the NMT command, if it was one
abbrev pub marked_command : Mark → Option NmtService
marked_command (was.Command service) = Some service
marked_command mark = None

-- the entry that was written, if one was
abbrev pub marked_key : Mark → Option Key
marked_key (was.Written key) = Some key
marked_key mark = None

-- the frame, if it was a SYNC
abbrev pub marked_sync : Mark → Option FrameContent
marked_sync (was.Sync frame) = Some frame
marked_sync mark = None

-- the frame of an RPDO, if it was one
abbrev pub marked_rpdo : Mark → Option KeptFrame
marked_rpdo (was.Rpdo frame) = Some frame
marked_rpdo mark = None

-- the node-ID of the node whose heartbeat was received, if one was
abbrev pub marked_heartbeat : Mark → Option ℕ
marked_heartbeat (was.Heard node) = Some node
marked_heartbeat mark = None

-- 1 ms elapsed
abbrev pub marked_tick : Mark → Bool
marked_tick (was.Tick timed_out) = true
marked_tick mark = false

-- an SDO transfer timed out
abbrev pub marked_time_out : Mark → Bool
marked_time_out (was.Tick timed_out) = timed_out
marked_time_out mark = false

-- the application event of TPDOs, if it was one
abbrev pub marked_event : Mark → Option Asked
marked_event (was.Asked asked) = Some asked
marked_event mark = None

-- ---- marks of optional events

-- the mark of an NMT command; quiet if it isn't for this node
abbrev pub command_mark : Option NmtService → Mark
command_mark None = was.Quiet
command_mark (Some service) = was.Command service

-- the mark of a write; quiet if no entry was written
abbrev pub written_mark : Option Key → Mark
written_mark None = was.Quiet
written_mark (Some key) = was.Written key
