-- What a frame says by its service, where the text of `conode decode` says less or nothing (CiA
-- 301, 7.3.3; CiA 305).
use Rattle.std.specs.Prelude.{ℕ, ◌-◌, ◌==◌, nat_lt, ◌&&◌, ◌||◌, Bool, if◌then◌else◌, List, [], ◌++◌, codes, length, slice_index, take, drop, Option, Some}
use Rattle.co_frame.specs.FrameContent.{FrameContent}
use Rattle.co_frame.specs.declared.emergency.Emergency.{Emergency}
use Rattle.co_value.specs.Numbers.{unsigned_of}
use Rattle.conode_explain_services.specs.declared.last.Last.{Last}
use Rattle.conode_explain_services.specs.Emergencies.{emergency_words}
use Rattle.conode_explain_services.specs.Guardings.{guarding_answer_words, guarding_request_words, is_answer, is_no_state, no_state_words}
use Rattle.conode_explain_services.specs.Lss.{lss_answer_words, lss_request_words}
use Rattle.conode_explain_services.specs.Nodes.{is_emergency, is_error_control, is_error_control_id}
use Rattle.conode_explain_services.specs.NmtStates.{found_words, is_command, is_long_command, long_words, shown_words}
use Rattle.conode_explain_services.specs.Lengths.{length_words}
use Rattle.conode_explain_services.specs.Times.{time_words}
use Rattle.conode_explain_services.specs.Reserved.{is_reserved, lss_answer_id, lss_request_id, reserved_words}

-- eight bytes as an emergency
abbrev pub emergency_of : List ℕ → Emergency
emergency_of bytes = record {
  code = unsigned_of (take 2 bytes);
  register = slice_index bytes 2;
  manufacturer = drop 3 bytes;
}

-- TIME: six bytes on 100h (CiA 301, 7.2.6)
abbrev pub is_time : FrameContent → Bool
is_time frame = (frame.id == 0x100) && (length frame.bytes == 6)

abbrev pub is_lss : ℕ → FrameContent → Bool
is_lss id frame = (frame.id == id) && (length frame.bytes == 8)

-- an answer to a guarding request
abbrev pub is_guarding : Last → FrameContent → Bool
is_guarding last frame = is_error_control frame && is_answer last.guarding (slice_index frame.bytes 0)

-- error control that shows no state
abbrev pub is_stateless : FrameContent → Bool
is_stateless frame = is_error_control frame && is_no_state (slice_index frame.bytes 0)

-- what a data frame says, where its node is a drive or isn't and its last frames had this: of an answer to a
-- guarding request also the state that was commanded, where it shows another one; none where its text as
-- `conode decode` has it stays
unfoldable pub service_words : Bool → Last → FrameContent → Option (List ℕ)
service_words drive last frame =
    if is_emergency frame then Some (emergency_words drive (frame.id - 0x080) last.register (emergency_of frame.bytes))
    else (if is_guarding last frame
    then Some (guarding_answer_words (frame.id - 0x700) last.guarding (slice_index frame.bytes 0) ++ shown_words last.state (slice_index frame.bytes 0))
    else (if is_time frame then Some (time_words frame.bytes)
    else (if is_lss lss_request_id frame then Some (lss_request_words frame.bytes)
    else (if is_lss lss_answer_id frame then Some (lss_answer_words frame.bytes)
    else (if is_reserved frame.id then Some reserved_words
    else (if is_stateless frame then Some (no_state_words (frame.id - 0x700) (slice_index frame.bytes 0))
    else (if is_long_command frame
    then Some (long_words (slice_index frame.bytes 0) (slice_index frame.bytes 1) (length frame.bytes)) else length_words frame)))))))

-- a counter of SYNC is 1 to 240 (CiA 301, 7.2.5)
abbrev pub is_odd_counter : ℕ → Bool
is_odd_counter counter = (counter == 0) || nat_lt 240 counter

abbrev pub is_odd_sync : FrameContent → Bool
is_odd_sync frame = (frame.id == 0x080) && ((length frame.bytes == 1) && is_odd_counter (slice_index frame.bytes 0))

-- after the text of a data frame: of a command for one node the state in which it finds the node, of
-- error control the state that was commanded, where it shows another one; of SYNC that its counter is
-- none
unfoldable pub state_words : Last → FrameContent → List ℕ
state_words last frame =
    if is_command frame then (if slice_index frame.bytes 1 == 0 then [] else found_words last.state)
    else (if is_error_control frame then shown_words last.state (slice_index frame.bytes 0)
    else (if is_odd_sync frame then codes " (a counter is 1 to 240)" else []))

-- what a remote frame says
unfoldable pub remote_words : ℕ → List ℕ
remote_words id = if is_error_control_id id then guarding_request_words (id - 0x700) else codes "remote frame"
