-- Which frames are of which channel (CiA 301, 7.3.3, pre-defined connection set).
use Rattle.std.specs.Prelude.{ℕ, ◌-◌, ◌==◌, ◌&&◌, nat_lt, Bool, if◌then◌else◌, List, length, slice_index, None}
use Rattle.co_frame.specs.FrameContent.{FrameContent}
use Rattle.conode_explain_transfers.specs.declared.kinds.Side.TheVariants.{Client, Server}
use Rattle.conode_explain_transfers.specs.declared.track.Track.{Track}
use Rattle.conode_explain_transfers.specs.Tracks.{Telling, sdo_telling, boot_telling}

-- identifiers of answers, of requests, and of error control, each with a node-ID
abbrev pub is_answer_id : ℕ → Bool
is_answer_id id = nat_lt 0x580 id && nat_lt id 0x600

abbrev pub is_request_id : ℕ → Bool
is_request_id id = nat_lt 0x600 id && nat_lt id 0x680

abbrev pub is_error_control_id : ℕ → Bool
is_error_control_id id = nat_lt 0x700 id && nat_lt id 0x780

-- a boot-up: one byte, 0 (CiA 301, 7.2.8.3.3)
abbrev pub is_boot_up : FrameContent → Bool
is_boot_up frame = is_error_control_id frame.id && ((length frame.bytes == 1) && (slice_index frame.bytes 0 == 0))

-- what is said about a frame with its stamp on an interface, and the channels after it
unfoldable pub telling : List Track → List ℕ → ℕ → FrameContent → Telling
telling tracks interface micros frame =
    if is_answer_id frame.id then sdo_telling tracks interface (frame.id - 0x580) micros Server frame.bytes
    else (if is_request_id frame.id then sdo_telling tracks interface (frame.id - 0x600) micros Client frame.bytes
    else (if is_boot_up frame then boot_telling tracks interface (frame.id - 0x700) micros
    else record { told = None; tracks = tracks }))
