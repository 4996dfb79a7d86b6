-- A channel that is followed through a recording, frame by frame.
use Rattle.std.specs.Prelude.{ℕ, ◌+◌, ◌&&◌, not, Bool, true, false, if◌then◌else◌, List, [], ◌∷◌, Option, Some, None}
use Rattle.co_value.specs.declared.key.Key.{Key}
use Rattle.co_frame_aborts.specs.declared.abort_code.AbortCode.{AbortCode}
use Rattle.conode_explain_transfers.specs.declared.channel.Heard.{Heard}
use Rattle.conode_explain_transfers.specs.declared.ended.Ended.{Ended}
use Rattle.conode_explain_transfers.specs.declared.ended.Ending.{Ending}
use Rattle.conode_explain_transfers.specs.declared.ended.Ending.TheVariants.{Aborted, Unanswered, Repeated, Interrupted, NotFollowed}
use Rattle.conode_explain_transfers.specs.declared.initiate.Initiate.{Initiate as Request}
use Rattle.conode_explain_transfers.specs.declared.kinds.Side.{Side}
use Rattle.conode_explain_transfers.specs.declared.kinds.Side.TheVariants.{Client, Server}
use Rattle.conode_explain_transfers.specs.declared.kinds.What.{What}
use Rattle.conode_explain_transfers.specs.declared.kinds.What.TheVariants.{Initiate, Part, Overtaken, Unexpected, Stray, BegunBefore}
use Rattle.conode_explain_transfers.specs.declared.reading.Reading.{Reading}
use Rattle.conode_explain_transfers.specs.declared.reading.Reading.TheVariants.{Begin, Abort}
use Rattle.conode_explain_transfers.specs.declared.transfer.Transfer.{Transfer}
use Rattle.conode_explain_transfers.specs.Digests.{counted}
use Rattle.conode_explain_transfers.specs.Endings.{verdict, ended, fault_with}
use Rattle.conode_explain_transfers.specs.Readings.{reading_of, has_key}
use Rattle.conode_explain_transfers.specs.Stages.{confirmed_with}
use Rattle.conode_explain_transfers.specs.Transfers.{Turn, begun, is_same_request, after}
use Rattle.conode_explain_transfers.specs.Turns.{turn_of}
use Rattle.conode_explain_transfers.specs.Unanswered.{is_lost, is_next_segment, may_be_segment, not_followed_by, number_of, segment_follows, went_on_with}

-- whether an initiate request came, and the open transfer
pub record Following : Type 0 where
  pub heard : Bool
  pub transfer : Option Transfer

-- before the first frame
abbrev pub nothing_heard : Following
nothing_heard = record { heard = false; transfer = None }

-- what is said of a frame, and the channel after it
pub record Followed : Type 0 where
  pub says : Heard
  pub next : Following

-- ---- transfers that are left

-- the client begins another one: it didn't get the answer that it awaited, or it was its turn in
-- this one
abbrev pub left_by : Side → Ending
left_by Client = Unanswered
left_by Server = Interrupted

-- one of which the client went on before the response can't be followed
abbrev pub left_ending : Transfer → List ℕ → Ending
left_ending transfer bytes =
    if segment_follows transfer bytes then NotFollowed (Some (number_of bytes))
    else (if is_lost transfer then NotFollowed None
    else (if is_same_request transfer bytes then Repeated else left_by transfer.by))

abbrev pub left : Option Transfer → ℕ → List ℕ → Option Ended
left None micros bytes = None
left (Some transfer) micros bytes = Some (ended transfer micros (left_ending transfer bytes))

-- the open transfer ends for another reason
abbrev pub ends_as : Option Transfer → ℕ → Ending → Option Ended
ends_as None micros ending = None
ends_as (Some transfer) micros ending = Some (ended transfer micros ending)

-- the server booted up
abbrev pub boot_ending : Option Transfer → Ending
boot_ending None = Interrupted
boot_ending (Some transfer) = if is_lost transfer then NotFollowed None else Interrupted

abbrev pub broken_off : Option Transfer → ℕ → Option Ended
broken_off current micros = ends_as current micros (boot_ending current)

-- what is said of a transfer that ends so
abbrev pub closed : Option Transfer → ℕ → Ending → Option Ended
closed None micros ending = None
closed (Some transfer) micros ending = if is_lost transfer then None else Some (ended transfer micros ending)

-- ---- one frame

abbrev pub one_more : Transfer → Transfer
one_more transfer = record transfer { frames = counted (transfer.frames + 1) }

-- What a request begins. Where it may be the next segment of a sub-block, it is none, and the client
-- is one that went on.
abbrev pub begun_after : Option Transfer → Request → ℕ → List ℕ → Transfer
begun_after current request micros bytes = record (begun request micros bytes) { went_on = is_next_segment current bytes }

-- an initiate request
abbrev pub begins : Option Transfer → Request → ℕ → List ℕ → Followed
begins current request micros bytes = record {
  says = record { what = Initiate; of = None; ended = left current micros bytes };
  next = record { heard = true; transfer = Some (begun_after current request micros bytes) };
}

-- a frame without an open transfer
abbrev pub stray : Bool → What
stray true = Stray
stray false = BegunBefore

abbrev pub passes : Bool → Followed
passes heard = record { says = record { what = stray heard; of = None; ended = None }; next = record { heard = heard; transfer = None } }

-- an abort; what looks like one may be none of this transfer
abbrev pub abort_ending : Side → Option (Option ℕ) → AbortCode → Ending
abort_ending by None code = Aborted by code
abort_ending by (Some next) code = NotFollowed next

-- after a segment of another transfer what comes is of one that began before the recording; after an
-- abort, of whichever transfer, none is open
abbrev pub aborts : Bool → Transfer → Side → AbortCode → ℕ → List ℕ → Followed
aborts heard transfer side code micros bytes =
    let ending = abort_ending side (not_followed_by side transfer bytes) code in
    record {
      says = record { what = Part; of = None; ended = Some (record (ended (one_more transfer) micros ending) { fault = fault_with ending (one_more transfer) }) };
      next = record { heard = heard && not (may_be_segment side transfer bytes); transfer = None };
    }

-- the transfer with a frame; one of another transfer doesn't count
abbrev pub with_frame : What → Transfer → ℕ → Side → Transfer
with_frame Overtaken transfer micros side = transfer
with_frame Unexpected transfer micros side =
    record (one_more transfer) { newest = micros; by = side; went_on = went_on_with side transfer.stage transfer.went_on }
with_frame _ transfer micros side = record (one_more transfer) { newest = micros; by = side }

-- another frame: the transfer goes on, or is confirmed
abbrev pub turns_at : Option (Option ℕ) → Bool → What → Transfer → ℕ → Side → Followed
turns_at (Some crc) heard what transfer micros side = record {
  says = record { what = what; of = None; ended = Some (ended (one_more transfer) micros (verdict transfer crc)) };
  next = record { heard = heard; transfer = None };
}
turns_at None heard what transfer micros side = record {
  says = record { what = what; of = None; ended = None };
  next = record { heard = heard; transfer = Some (with_frame what transfer micros side) };
}

abbrev pub turns : Bool → Transfer → Turn → ℕ → Side → Followed
turns heard before turn micros side = turns_at (confirmed_with turn.transfer.stage) heard turn.what (after before turn) micros side

abbrev pub followed_by : Bool → Option Transfer → Reading → ℕ → Side → List ℕ → Followed
followed_by heard current (Begin request) micros side bytes = begins current request micros bytes
followed_by heard None reading micros side bytes = passes heard
followed_by heard (Some transfer) (Abort code) micros side bytes = aborts heard transfer side code micros bytes
followed_by heard (Some transfer) reading micros side bytes = turns heard transfer (turn_of transfer reading bytes) micros side

-- a frame without a key of its own is of the open transfer's entry
abbrev pub key_for : Option Transfer → Reading → Option Key
key_for None reading = None
key_for (Some transfer) reading = if has_key reading then None else Some transfer.key

-- where the client went on before the response, the transfer may be none, and so may that entry
abbrev pub unless_lost : Option Transfer → Option Key → Option Key
unless_lost None of = of
unless_lost (Some transfer) of = if is_lost transfer then None else of

abbrev pub with_key : Option Key → Followed → Followed
with_key of followed = record { says = record followed.says { of = unless_lost followed.next.transfer of }; next = followed.next }

-- a frame with its stamp, by an end, with these bytes
abbrev pub followed : Following → ℕ → Side → List ℕ → Followed
followed following micros side bytes =
    let reading = reading_of following.transfer side bytes in
    with_key (key_for following.transfer reading) (followed_by following.heard following.transfer reading micros side bytes)

-- ---- all of a recording

pub data Event : Type 0 where
  -- a frame with its stamp, by an end, with these bytes
  Framed : ℕ → Side → List ℕ → Event
  -- the server booted up
  BootedUp : ℕ → Event

-- nothing is open after a boot-up
abbrev pub after_boot : Following → Following
after_boot following = record { heard = following.heard; transfer = None }

-- the channel after what happened on it, the newest first
abbrev pub following_after : List Event → Following
following_after [] = nothing_heard
following_after (Framed micros side bytes ∷ older) = (followed (following_after older) micros side bytes).next
following_after (BootedUp micros ∷ older) = after_boot (following_after older)

-- what is said of a frame after what happened
abbrev pub said : List Event → ℕ → Side → List ℕ → Heard
said log micros side bytes = (followed (following_after log) micros side bytes).says
