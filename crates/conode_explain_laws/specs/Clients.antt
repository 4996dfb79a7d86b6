-- What a recorder hears of the client of co_sdo_client, over all that may come to it; the transfers
-- that explain says are done, and those that the client reports.
use Rattle.std.specs.Prelude.{◌≡◌, ℕ, ◌<◌, ◌==◌, ◌&&◌, ◌||◌, nat_lt, Bool, true, false, List, [], ◌∷◌, ◌++◌, length, Option, Some, None, IfSome, if◌then◌else◌}
use Rattle.co_value.specs.declared.key.Key.{Key}
use Rattle.co_sdo_client.specs.declared.mode.Mode.{Mode}
use Rattle.co_sdo_client.specs.declared.mode.Mode.TheVariants.{Block}
use Rattle.co_sdo_client.specs.declared.state.ClientState.{ClientState}
use Rattle.co_sdo_client.specs.declared.state.ClientState.TheVariants.{Waiting, Done}
use Rattle.co_sdo_client.specs.Calls.{Job, Download, Upload, Call, Message, message_bytes, Event, Answered, Ticked, answers, Answers, since_first}
use Rattle.co_sdo_client.specs.Outcomes.{outcome, asked_by, result}
use Rattle.co_sdo_client.specs.Segments.{initiate_messages}
use Rattle.co_sdo_client.specs.SubBlocks.{sub_block, has_last}
use Rattle.co_sdo_laws.specs.Undisturbed.{IsJob}
use Rattle.conode_explain_transfers.specs.declared.ended.Ended.{Ended}
use Rattle.conode_explain_transfers.specs.declared.kinds.Direction.{Direction}
use Rattle.conode_explain_transfers.specs.declared.kinds.Direction.TheVariants.{Download as Downloads, Upload as Uploads}
use Rattle.conode_explain_transfers.specs.declared.kinds.Protocol.{Protocol}
use Rattle.conode_explain_transfers.specs.declared.kinds.Protocol.TheVariants.{Expedited}
use Rattle.conode_explain_transfers.specs.declared.kinds.Side.TheVariants.{Client, Server}
use Rattle.conode_explain_transfers.specs.Data.{data_after}
use Rattle.conode_explain_transfers.specs.Followed.{Event as Recorded, Framed, BootedUp, said}
use Rattle.conode_explain_laws.specs.Recordings.{and_frame}
use Rattle.conode_explain_laws.specs.Downloads.{if_done, number_in, goes_up}

-- ---- the client

-- what may happen to a client that has begun
pub data ClientInput : Type 0 where
  -- a frame comes on its answer identifier
  Came : List ℕ → ClientInput
  -- 1 ms elapses
  Elapsed : ClientInput

-- what a client can be called for: an index has 16 bits, and there are at most 65,535 bytes
pub record IsCall (call : Call) : Type 0 where
  pub index : call.key.index < 65536
  pub job : IsJob call.job

-- a frame that hasn't eight bytes is ignored
abbrev pub event_with : List ℕ → List Event → List Event
event_with frame events = if length frame == 8 then Answered frame ∷ events else events

-- the events of the client after these inputs, both newest first
abbrev pub events_of : List ClientInput → List Event
events_of [] = []
events_of (Came frame ∷ older) = event_with frame (events_of older)
events_of (Elapsed ∷ older) = Ticked ∷ events_of older

-- what it sends to a frame
abbrev pub asked_to : Call → List ℕ → List Event → List Message
asked_to call frame events = if length frame == 8 then asked_by call events (Answered frame) else []

-- ---- the recording

-- messages more, the first one first
abbrev pub and_messages : (ℕ → ℕ) → List Message → List Recorded → List Recorded
and_messages stamp [] recording = recording
and_messages stamp (message ∷ later) recording = and_messages stamp later (and_frame stamp Client (message_bytes message) recording)

-- the recording of all frames, newest first: the initiate request, then each frame that comes with
-- what the client sends to it, and its abort when the time is over. The frames have any stamps
abbrev pub heard : (ℕ → ℕ) → Call → List ClientInput → List Recorded
heard stamp call [] = and_messages stamp (initiate_messages call) []
heard stamp call (Came frame ∷ older) = and_messages stamp (asked_to call frame (events_of older)) (and_frame stamp Server frame (heard stamp call older))
heard stamp call (Elapsed ∷ older) = and_messages stamp (asked_by call (events_of older) Ticked) (heard stamp call older)

-- ---- by explain

-- a transfer that is complete: with which frame of the recording, its direction, its entry, and all
-- its data
pub record Transferred : Type 0 where
  pub frame : ℕ
  pub direction : Direction
  pub key : Key
  pub bytes : List ℕ

abbrev pub asks_for_blocks : Mode → Bool
asks_for_blocks Block = true
asks_for_blocks _ = false

abbrev pub is_expedited : Protocol → Bool
is_expedited Expedited = true
is_expedited _ = false

-- the client doesn't take an upload that came whole: it has no room for its bytes; or it asked for
-- blocks without a change of protocol (threshold 0), and the answer to initiate has all bytes
abbrev pub refuses : Mode → Job → Protocol → List ℕ → Bool
refuses mode (Download bytes tells) protocol got = false
refuses mode (Upload cap) protocol got = nat_lt cap (length got) || (asks_for_blocks mode && is_expedited protocol)

-- what explain says is transferred, where a transfer with these data ended with a frame
abbrev pub transfer_said : Call → Option Ended → List ℕ → ℕ → List Transferred
transfer_said call None got frame = []
transfer_said call (Some ended) got frame =
    if refuses call.mode call.job ended.protocol got then []
    else if_done ended.ending (record { frame = frame; direction = ended.direction; key = ended.key; bytes = got } ∷ [])

-- the transfers that explain says are done, over a whole recording, newest first; but those that
-- the client doesn't take
abbrev pub transfers_done : Call → List Recorded → List Transferred
transfers_done call [] = []
transfers_done call (Framed micros side frame ∷ older) =
    transfer_said call (said older micros side frame).ended (data_after (Framed micros side frame ∷ older)) (length (Framed micros side frame ∷ older))
    ++ transfers_done call older
transfers_done call (BootedUp micros ∷ older) = transfers_done call older

-- ---- by the client

abbrev pub direction_of : Job → Direction
direction_of (Download bytes tells) = Downloads
direction_of (Upload cap) = Uploads

-- the bytes that are transferred: those of a download's job, or the result of an upload
abbrev pub bytes_transferred : Job → List ℕ → List ℕ
bytes_transferred (Download bytes tells) value = bytes
bytes_transferred (Upload cap) value = value

-- a transfer is reported with the event that it is done with
abbrev pub reported : ClientState → ClientState → Transferred → List Transferred
reported Waiting Done transfer = transfer ∷ []
reported _ _ transfer = []

-- the transfers that the client reports as done, newest first: with its newest frame, or the answer
-- to it
abbrev pub transfers_reported : (ℕ → ℕ) → Call → List ClientInput → List Transferred
transfers_reported stamp call [] = []
transfers_reported stamp call (input ∷ older) =
    reported (outcome call (events_of older)) (outcome call (events_of (input ∷ older))) (record {
      frame = length (heard stamp call (input ∷ older));
      direction = direction_of call.job;
      key = call.key;
      bytes = bytes_transferred call.job (result call (events_of (input ∷ older)));
    })
    ++ transfers_reported stamp call older

-- ---- whole frames, with numbers that go up

-- the number of the newest frame's segment
abbrev pub newest_number : List (List ℕ) → ℕ
newest_number [] = 0
newest_number (frame ∷ older) = number_in frame

-- the frames of the sub-block that a client is in, newest first: of an upload in blocks, after the
-- answer to initiate, until its last segment is taken
abbrev pub open_sub_block : Mode → Job → Option Answers → Option (List (List ℕ))
open_sub_block Block (Upload cap) (Some a) = if has_last a.later then None else Some (sub_block a.later)
open_sub_block _ _ _ = None

-- while the client waits each frame has eight bytes, and in a sub-block the numbers go up
abbrev pub IsRegularInput : Call → List ClientInput → ClientInput → Type 0
IsRegularInput call older (Came frame) =
    outcome call (events_of older) ≡ Waiting
    → (length frame ≡ 8) × IfSome (open_sub_block call.mode call.job (since_first (answers (events_of older)))) (λ frames. goes_up (newest_number frames) frame ≡ true)
IsRegularInput call older Elapsed = Unit {0}

abbrev pub AreRegular : Call → List ClientInput → Type 0
AreRegular call [] = Unit {0}
AreRegular call (input ∷ older) = IsRegularInput call older input × AreRegular call older
