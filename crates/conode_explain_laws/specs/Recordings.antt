-- What a recorder hears of the server's channel of co_sdo, over all that may come to it.
use Rattle.std.specs.Prelude.{ℕ, ◌==◌, List, [], ◌∷◌, length, if◌then◌else◌}
use Rattle.std.specs.List.{AllByRecursion}
use Rattle.co_value.specs.Numbers.{AreBytes}
use Rattle.co_dict.specs.Rows.{Contents}
use Rattle.co_dict.specs.Stores.{Description, IsDictionary}
use Rattle.co_sdo.specs.Log.{Answer, answer_bytes, Log, Exchanged, Ticked, TimedOut, Dropped}
use Rattle.co_sdo.specs.Replies.{reply_to, time_out_reply}
use Rattle.conode_explain_transfers.specs.declared.kinds.Side.{Side}
use Rattle.conode_explain_transfers.specs.declared.kinds.Side.TheVariants.{Client, Server}
use Rattle.conode_explain_transfers.specs.Followed.{Event, Framed, BootedUp}

-- what may happen to a channel
pub data Input : Type 0 where
  -- a frame comes on its request identifier, when the entries have these contents
  Received : Contents → List ℕ → Input
  -- 1 ms elapses
  Elapsed : Input
  -- its transfer times out
  Expired : Input
  -- its transfer is dropped without an abort
  Abandoned : Input
  -- the device starts, with a new channel, and sends its boot-up message
  Started : Input

-- the entries have what a dictionary has, and a frame has bytes
abbrev pub IsInput : Description → Input → Type 0
IsInput d (Received contents frame) = IsDictionary d contents × AreBytes frame
IsInput d _ = Unit {0}

abbrev pub AreInputs : Description → List Input → Type 0
AreInputs d inputs = AllByRecursion (IsInput d) inputs

-- ---- the channel

-- a frame that hasn't eight bytes is ignored
abbrev pub log_with : Description → Contents → List ℕ → Log → Log
log_with d contents frame log =
    if length frame == 8
    then Exchanged (record { request = frame; contents = contents; answers = reply_to d contents log frame }) ∷ log
    else log

-- the events of the channel after these inputs, both newest first
abbrev pub log_of : Description → List Input → Log
log_of d [] = []
log_of d (Received contents frame ∷ older) = log_with d contents frame (log_of d older)
log_of d (Elapsed ∷ older) = Ticked ∷ log_of d older
log_of d (Expired ∷ older) = TimedOut (time_out_reply (log_of d older)) ∷ log_of d older
log_of d (Abandoned ∷ older) = Dropped ∷ log_of d older
log_of d (Started ∷ older) = []

-- its answers to a frame
abbrev pub answers_with : Description → Contents → List ℕ → Log → List Answer
answers_with d contents frame log = if length frame == 8 then reply_to d contents log frame else []

-- ---- the recording

-- a frame more, with the stamp that frames of this number have
abbrev pub and_frame : (ℕ → ℕ) → Side → List ℕ → List Event → List Event
and_frame stamp side bytes recording = Framed (stamp (length recording)) side bytes ∷ recording

-- answers more, the first one first
abbrev pub and_answers : (ℕ → ℕ) → List Answer → List Event → List Event
and_answers stamp [] recording = recording
and_answers stamp (answer ∷ later) recording = and_answers stamp later (and_frame stamp Server (answer_bytes answer) recording)

-- the recording of all frames, newest first: each frame of the client, and then the answers to it.
-- The frames have any stamps
abbrev pub recorded : (ℕ → ℕ) → Description → List Input → List Event
recorded stamp d [] = []
recorded stamp d (Received contents frame ∷ older) =
    and_answers stamp (answers_with d contents frame (log_of d older)) (and_frame stamp Client frame (recorded stamp d older))
recorded stamp d (Elapsed ∷ older) = recorded stamp d older
recorded stamp d (Expired ∷ older) = and_answers stamp (time_out_reply (log_of d older)) (recorded stamp d older)
recorded stamp d (Abandoned ∷ older) = recorded stamp d older
recorded stamp d (Started ∷ older) = BootedUp (stamp (length (recorded stamp d older))) ∷ recorded stamp d older
