-- SYNC: its identifier, its counter and its length (CiA 301, 7.2.5).
use Rattle.std.specs.Prelude.{ℕ, ◌==◌, ◌&&◌, not, Bool, Option, option_and_then, Some, if◌then◌else◌, List, [], ◌∷◌, length, None}
use Rattle.co_frame.specs.FrameContent.{FrameContent}
use Rattle.co_frame.specs.Syncs.{sync_in}
use Rattle.co_dict.specs.Rows.{Contents, number_at}
use Rattle.co_dict.specs.CobIds.{identifier_of}
use Rattle.co_profile.specs.Keys.{counter_overflow_key}
use Rattle.co_node_parts.specs.declared.nmt_state.NodeState.{NodeState}
use Rattle.co_node_parts.specs.declared.nmt_state.NodeState.TheVariants.{Stopped}
use Rattle.co_node_parts.specs.NmtStates.{is_state}
use Rattle.co_profile.specs.Keys.{sync_key}
use Rattle.co_node_model.specs.Moments.{Moment}
use Rattle.co_node_model.specs.declared.device_error.DeviceError.{DeviceError}
use Rattle.co_node_model.specs.Emergencies.{unexpected_sync_length}
use Rattle.co_node_model.specs.declared.mark.Mark.TheVariants as was

-- an identifier is that of SYNC; there is none if 1005:00 is missing or 0
abbrev pub is_sync_id : Contents → ℕ → Bool
is_sync_id contents id = not (number_at contents sync_key == 0) && identifier_of (number_at contents sync_key) == id

-- the counter of a SYNC: its byte, if it has exactly one
abbrev pub counter_in : FrameContent → Option ℕ
counter_in frame = option_and_then (λ sync. sync.counter) (sync_in frame.bytes)

-- ---- a SYNC is received: not while stopped

-- the moment with a SYNC
abbrev pub with_sync : NodeState → FrameContent → Moment → Moment
with_sync state frame m = if is_state Stopped state then m else record m { mark = was.Sync frame }

-- ---- the error of its length

-- how many bytes a SYNC has: none, or one for the counter if 1019h is not 0
abbrev pub sync_length : Contents → ℕ
sync_length contents = if number_at contents counter_overflow_key == 0 then 0 else 1

-- the error of a SYNC, if one was received
abbrev pub sync_errors : Contents → Option FrameContent → List DeviceError
sync_errors contents None = []
sync_errors contents (Some frame) = if length frame.bytes == sync_length contents then [] else unexpected_sync_length ∷ []
