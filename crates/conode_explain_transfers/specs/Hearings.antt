-- What is heard on a channel of a recording. Not each frame is of the transfer that is open, and some
-- of its frames may be missing in the recording.
use Rattle.std.specs.Prelude.{ℕ, ◌+◌, ◌-◌, ◌==◌, ◌&&◌, ◌||◌, ◌%◌, ◌/◌, nat_le, nat_lt, not, Bool, true, false, if◌then◌else◌, List, length, slice_index, Option, Some, None}
use Rattle.std.specs.Option.{option_map}
use Rattle.co_frame.specs.SdoResponses.{response_in}
use Rattle.co_frame.specs.declared.sdo_response.SdoResponse.{SdoResponse}
use Rattle.co_frame.specs.declared.sdo_response.SdoResponse.TheVariants.{Abort, UploadSegment, BlockDownloadInitiated}
use Rattle.co_value.specs.Keys.{same_key}
use Rattle.co_value.specs.declared.key.Key.{Key}
use Rattle.conode_explain_transfers.specs.declared.ended.Ended.{Ended}
use Rattle.conode_explain_transfers.specs.declared.ended.Ending.{Ending}
use Rattle.conode_explain_transfers.specs.declared.ended.Ending.TheVariants.{Unanswered, Repeated, Interrupted}
use Rattle.conode_explain_transfers.specs.declared.kinds.Side.{Side}
use Rattle.conode_explain_transfers.specs.declared.kinds.Side.TheVariants.{Client, Server}
use Rattle.conode_explain_transfers.specs.declared.kinds.What.{What}
use Rattle.conode_explain_transfers.specs.declared.kinds.What.TheVariants.{Segment, LastAgain, Overtaken, Unexpected}
use Rattle.conode_explain_transfers.specs.declared.reading.Reading.{Reading}
use Rattle.conode_explain_transfers.specs.declared.reading.Reading.TheVariants.{Begin}
use Rattle.conode_explain_transfers.specs.declared.stage.Stage.{Stage}
use Rattle.conode_explain_transfers.specs.declared.stage.Stage.TheVariants.{BlockInitiated, SubBlock, AllAcknowledged}
use Rattle.conode_explain_transfers.specs.declared.transfer.Transfer.{Transfer}
use Rattle.conode_explain_transfers.specs.BlockTurns.{is_block, most_segments}
use Rattle.conode_explain_transfers.specs.Doubtful.{asks_for, freed, names_other, noted, with_newest}
use Rattle.conode_explain_transfers.specs.Followed.{Following, Followed, after_boot, ends_as, followed, with_frame}
use Rattle.conode_explain_transfers.specs.Readings.{answers_key, is_in_sub_block, is_sender, plain_reading}
use Rattle.conode_explain_transfers.specs.Stages.{is_initiated}
use Rattle.conode_explain_transfers.specs.Transfers.{awaited_number, irregular, is_download}
use Rattle.conode_explain_transfers.specs.Unanswered.{is_client, multiplexer_of, number_of, refuses_with}

-- ---- segments by their first byte

-- 01h to 1Fh and 81h to 9Fh: a segment of a sub-block with a number of 1 to 31 (CiA 301, 7.2.4.3.10 and
-- 7.2.4.3.14). No initiate request and no response to one begins so, nor does an abort, which has 80h
-- (7.2.4.3.17)
abbrev pub is_low_segment : List ℕ → Bool
is_low_segment bytes = (length bytes == 8) && (nat_lt 0 (number_of bytes) && nat_lt (number_of bytes) 32)

-- 81h to 9Fh: the last one of its transfer
abbrev pub is_low_last : List ℕ → Bool
is_low_last bytes = is_low_segment bytes && nat_lt 128 (slice_index bytes 0)

-- ---- answers to earlier requests

-- the response to initiate is awaited, and nothing came since a request that is one
abbrev pub awaits_first : Transfer → Bool
awaits_first transfer = is_initiated transfer.stage && not (transfer.irregular || transfer.went_on)

abbrev pub is_block_upload : Transfer → Bool
is_block_upload transfer = is_block transfer.protocol && not (is_download transfer.direction)

abbrev pub overtaken_if : Bool → Option What
overtaken_if earlier = if earlier then Some Overtaken else None

-- what reads as an abort of another entry: 80h is one, and 81h to 9Fh the last segment of an upload that
-- the client has given up
abbrev pub earlier_abort : Transfer → List ℕ → Option What
earlier_abort transfer bytes =
    if slice_index bytes 0 == 128 then Some Overtaken
    else (if is_block_upload transfer then None else Some (Segment (number_of bytes)))

-- the response to initiate that its request asks for, of its entry
abbrev pub answers_this : Transfer → SdoResponse → List ℕ → Bool
answers_this transfer response bytes = asks_for transfer response && same_key (multiplexer_of bytes) transfer.key

-- A server answers in turn, so what can't answer this request answers an earlier one: an abort of
-- another entry, a response to initiate of another entry or of another protocol, or a response that
-- isn't one to initiate. A segment may be of the sub-block of a block upload.
abbrev pub earlier : Transfer → Option SdoResponse → List ℕ → Option What
earlier transfer None bytes = None
earlier transfer (Some (Abort key code)) bytes = if names_other (multiplexer_of bytes) transfer.key then earlier_abort transfer bytes else None
earlier transfer (Some (UploadSegment toggle segment last)) bytes = overtaken_if (not (is_block_upload transfer))
earlier transfer (Some response) bytes = overtaken_if (not (answers_this transfer response bytes))

-- A frame that is of no transfer which is followed, and what it is then: where none is open, a segment
-- of one whose begin isn't in the recording.
abbrev pub aside : Option Transfer → Side → List ℕ → Option What
aside None side bytes = if is_low_last bytes then Some (Segment (number_of bytes)) else None
aside (Some transfer) Client bytes = None
aside (Some transfer) Server bytes = if awaits_first transfer then earlier transfer (response_in bytes) bytes else None

-- an abort, or a response of its entry, may be meant for this request: one that is wrong
abbrev pub may_mean_this : List ℕ → Transfer → Bool
may_mean_this bytes transfer =
    (slice_index bytes 0 == 128) || same_key (multiplexer_of bytes) transfer.key

-- The server sent something since the request, and the newest frame, where it may mean this request.
abbrev pub with_aside : List ℕ → Transfer → Transfer
with_aside bytes transfer =
    if may_mean_this bytes transfer then record transfer { put_aside = true; by = Server } else record transfer { put_aside = true }

abbrev pub after_aside : Option Transfer → List ℕ → Option Transfer
after_aside None bytes = None
after_aside (Some transfer) bytes = Some (with_aside bytes transfer)

-- ---- sub-blocks that are over

abbrev pub is_after_last : Stage → Bool
is_after_last (SubBlock last) = last
is_after_last _ = false

-- none of its segments is missing, and the last one came
abbrev pub awaits_last_acknowledge : Transfer → Bool
awaits_last_acknowledge transfer = not transfer.irregular && is_after_last transfer.stage

-- The last segment begins with 128 more than its number, which is the one before `next`: so it may itself
-- begin as the request of a block upload (A0h, A4h, .., BCh) or of a block download (C0h, C2h, .., DEh).
abbrev pub begins_as_last : ℕ → Bool
begins_as_last next =
    (nat_lt 32 next && (nat_lt next 64 && (next % 4 == 1)))
    || (nat_lt 64 next && (nat_le next 96 && (next % 2 == 1)))

-- A segment with a number of 32 or more begins as an initiate request may (20h to 3Fh, 40h to 5Fh, and as
-- the last one). After a regular last segment none is read, and a request is taken for none, unless that
-- segment may be one.
abbrev pub may_have_request : Transfer → Bool
may_have_request transfer =
    nat_lt 32 transfer.next_number && (not (awaits_last_acknowledge transfer) || begins_as_last transfer.next_number)

-- a response to another initiate request than that of a block download of this entry, which may be in
-- the recording twice
abbrev pub answers_another : Key → Option SdoResponse → Bool
answers_another key None = false
answers_another key (Some (BlockDownloadInitiated named block_size)) = not (same_key named key)
answers_another key (Some response) = answers_key response

-- A server that awaits segments answers no request (7.2.4.3.10): where it answers one in a sub-block of a
-- download, the client has left that, and the request was taken for a segment. A segment has looked like
-- one; else the answer is late, and was to a request before the download.
abbrev pub is_over : Option Transfer → Side → List ℕ → Bool
is_over (Some transfer) Server bytes =
    ((is_in_sub_block transfer.stage && is_download transfer.direction) && may_have_request transfer)
    && answers_another transfer.key (response_in bytes)
is_over current side bytes = false

-- ---- frames that are missing

abbrev pub is_block_initiated : Stage → Bool
is_block_initiated BlockInitiated = true
is_block_initiated _ = false

abbrev pub is_within_sub_block : Stage → Bool
is_within_sub_block (SubBlock last) = not last
is_within_sub_block _ = false

abbrev pub begins_any : Reading → Bool
begins_any (Begin initiate) = true
begins_any _ = false

-- the client's start of a block upload (7.2.4.3.13): a segment of the server comes, after its response
abbrev pub lacks_start : Transfer → Side → List ℕ → Bool
lacks_start transfer side bytes =
    (is_block_initiated transfer.stage && is_sender transfer.direction side) && (is_low_segment bytes && not (refuses_with side transfer bytes))

-- The acknowledge of a sub-block, which has a larger size for the next one: the sender began with
-- segment 1 again, so that the transfer is irregular. Now the segment after the newest one comes, and
-- its number is above the size.
abbrev pub lacks_acknowledge : Transfer → Side → List ℕ → Bool
lacks_acknowledge transfer side bytes =
    (transfer.irregular && (is_within_sub_block transfer.stage && is_sender transfer.direction side))
    && (is_low_segment bytes && (nat_lt transfer.block_size (number_of bytes) && (number_of bytes == transfer.next_number)))

-- no segment comes after the last one, so what looks like an initiate request then is one
abbrev pub leaves_after_last : Transfer → Side → List ℕ → Bool
leaves_after_last transfer side bytes =
    (awaits_last_acknowledge transfer && is_sender transfer.direction side) && begins_any (plain_reading side bytes)

-- The transfer before a frame: with a missing one, which makes it irregular (how many segments the
-- sub-block has isn't known without its acknowledge); and where no more segments are read.
abbrev pub with_missing : Side → List ℕ → Transfer → Transfer
with_missing side bytes transfer =
    if lacks_start transfer side bytes then record transfer { irregular = true; stage = SubBlock false }
    else (if lacks_acknowledge transfer side bytes then record transfer { block_size = most_segments }
    else (if leaves_after_last transfer side bytes then record transfer { stage = AllAcknowledged } else transfer))

abbrev pub made_up : Option Transfer → Side → List ℕ → Option Transfer
made_up None side bytes = None
made_up (Some transfer) side bytes = Some (with_missing side bytes transfer)

-- ---- segments that are in the recording twice

-- the end of a block transfer begins as the last segment 65, 69, .. or 93 does (C1h, C5h, .., DDh)
abbrev pub begins_as_end : ℕ → Bool
begins_as_end byte = (byte / 32 == 6) && (byte % 4 == 1)

-- the last segment came, and the end didn't
abbrev pub has_last : Stage → Bool
has_last (SubBlock last) = last
has_last AllAcknowledged = true
has_last _ = false

-- the last segment of the transfer comes again: with 128 more than its number, the one before the next
abbrev pub is_last_again : Transfer → Side → List ℕ → Bool
is_last_again transfer side bytes =
    (has_last transfer.stage && is_sender transfer.direction side)
    && (((length bytes == 8) && not (begins_as_end (slice_index bytes 0)))
    && (nat_lt 128 (slice_index bytes 0) && (number_of bytes + 1 == transfer.next_number)))

abbrev pub last_again : Option Transfer → Side → List ℕ → Option What
last_again None side bytes = None
last_again (Some transfer) side bytes = if is_last_again transfer side bytes then Some (LastAgain (number_of bytes)) else None

-- a frame that isn't expected is named so
abbrev pub named : Option What → What → What
named (Some again) Unexpected = again
named again what = what

-- ---- the last segment again, after its acknowledge

abbrev pub is_all_acknowledged : Stage → Bool
is_all_acknowledged AllAcknowledged = true
is_all_acknowledged _ = false

-- The last segment comes again after its acknowledge, with a number of 1 to 31: 81h to 9Fh, which would be
-- an abort there. With a higher number it isn't read as one, and `last_again` names it.
abbrev pub is_again_acknowledged : Transfer → Side → List ℕ → Bool
is_again_acknowledged transfer side bytes =
    (is_all_acknowledged transfer.stage && is_sender transfer.direction side)
    && (is_low_last bytes && (number_of bytes + 1 == transfer.next_number))

-- what it is then
abbrev pub late_segment : Option Transfer → Side → List ℕ → Option What
late_segment None side bytes = None
late_segment (Some transfer) side bytes = if is_again_acknowledged transfer side bytes then Some (LastAgain (number_of bytes)) else None

-- the transfer after it: a frame is in the recording twice
abbrev pub after_late : What → ℕ → Side → List ℕ → Transfer → Transfer
after_late what micros side bytes transfer = with_newest side what micros bytes (with_frame what (irregular transfer) micros side)

-- ---- ends

-- The end that sends the data has segments of the sub-block left to send, so it is its turn, whoever sent
-- the newest frame (7.2.4.3.10, 7.2.4.3.14). Where one is missing, it isn't known whether the last one came.
abbrev pub has_segments_left : Transfer → Bool
has_segments_left transfer =
    is_within_sub_block transfer.stage
    && (nat_le transfer.next_number transfer.block_size && (awaited_number transfer == transfer.next_number))

-- A segment is due as long as the newest frame came less than 50 ms before: another client may have sent
-- the request. In microseconds; in a recording without stamps all are due.
abbrev pub segment_time : ℕ
segment_time = 50000

-- the server of an upload has segments left to send, and has sent none for that time
abbrev pub is_silent : ℕ → Transfer → Bool
is_silent micros transfer = not (is_download transfer.direction) && nat_le segment_time (micros - transfer.newest)

-- Whether a client that leaves the transfer with a frame awaited an answer, where the end that sent the
-- newest frame doesn't show it. Frames of it are missing, maybe the answer too; or the server sent the
-- newest one, as an abort that may have been meant for it: then it isn't said that there was no answer.
abbrev pub awaits_answer : ℕ → Option Transfer → Option Bool
awaits_answer micros None = None
awaits_answer micros (Some transfer) =
    if transfer.irregular then Some false
    else (if has_segments_left transfer then Some (is_silent micros transfer)
    else (if is_client transfer.by then None else Some false))

abbrev pub left_awaiting : Bool → Ending
left_awaiting true = Unanswered
left_awaiting false = Interrupted

-- one that is left ends so, also where the same request comes again
abbrev pub sure_ending : Option Bool → Ending → Ending
sure_ending (Some awaits) Unanswered = left_awaiting awaits
sure_ending (Some awaits) Repeated = left_awaiting awaits
sure_ending (Some awaits) Interrupted = left_awaiting awaits
sure_ending awaits ending = ending

abbrev pub sure_end : Option Bool → Option Ended → Option Ended
sure_end awaits None = None
sure_end awaits (Some e) = Some (record e { ending = sure_ending awaits e.ending })

-- ---- a frame

-- it isn't of the open transfer, and has a key of its own or none
abbrev pub passed : Following → What → List ℕ → Followed
passed following what bytes = record {
  says = record { what = what; of = None; ended = None };
  next = record following { transfer = after_aside following.transfer bytes };
}

-- the transfer is left; of the one that is answered the request isn't known
abbrev pub cut : Following → ℕ → Followed
cut following micros = record {
  says = record { what = Unexpected; of = None; ended = ends_as following.transfer micros Interrupted };
  next = after_boot following;
}

-- the last segment after its acknowledge: it has the entry of the open transfer
abbrev pub late : Following → What → ℕ → Side → List ℕ → Followed
late following what micros side bytes = record {
  says = record { what = what; of = option_map (λ t. t.key) following.transfer; ended = None };
  next = record following { transfer = option_map (after_late what micros side bytes) following.transfer };
}

abbrev pub with_end : Option Bool → Followed → Followed
with_end awaits f = record { says = record f.says { ended = sure_end awaits f.says.ended }; next = f.next }

abbrev pub with_name : Option What → Followed → Followed
with_name again f = record { says = record f.says { what = named again f.says.what }; next = f.next }

-- the client's newest frame is kept, where it may be a request
abbrev pub with_note : ℕ → Side → List ℕ → Followed → Followed
with_note micros side bytes f =
    record { says = f.says; next = record f.next { transfer = noted side f.says.what micros bytes f.next.transfer } }

-- the channel takes it
abbrev pub heard_next : Following → ℕ → Side → List ℕ → Followed
heard_next following micros side bytes =
    with_name (last_again following.transfer side bytes) (with_note micros side bytes
    (with_end (awaits_answer micros following.transfer) (followed (record following { transfer = made_up following.transfer side bytes }) micros side bytes)))

abbrev pub hearing_by : Option What → Following → ℕ → Side → List ℕ → Followed
hearing_by (Some what) following micros side bytes = passed following what bytes
hearing_by None following micros side bytes = heard_next following micros side bytes

abbrev pub hearing_late : Option What → Following → ℕ → Side → List ℕ → Followed
hearing_late (Some what) following micros side bytes = late following what micros side bytes
hearing_late None following micros side bytes = hearing_by (aside following.transfer side bytes) following micros side bytes

abbrev pub hearing_where : Bool → Following → ℕ → Side → List ℕ → Followed
hearing_where true following micros side bytes = cut following micros
hearing_where false following micros side bytes = hearing_late (late_segment following.transfer side bytes) following micros side bytes

-- of the transfer that is open before it
abbrev pub hearing_in : Following → ℕ → Side → List ℕ → Followed
hearing_in following micros side bytes = hearing_where (is_over following.transfer side bytes) following micros side bytes

-- a frame with its stamp, by an end, with these bytes
abbrev pub hearing : Following → ℕ → Side → List ℕ → Followed
hearing following micros side bytes = hearing_in (record following { transfer = freed following.transfer side bytes }) micros side bytes
