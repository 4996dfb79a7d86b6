-- The default SDO channel of a device (CiA 301, 7.2.4): which request a frame answers. The
-- transfers in it are those of `followed`.
use Rattle.std.specs.Prelude.{ℕ, ◌+◌, ◌-◌, ◌/◌, ◌%◌, ◌==◌, nat_le, nat_lt, Bool, true, false, not, ◌&&◌, ◌||◌, if◌then◌else◌, [], ◌∷◌, Option, Some, None, is_some}
use Rattle.std.specs.Option.{option_map_or}
use Rattle.co_frame_aborts.specs.AbortCodes.{timed_out}
use Rattle.co_frame_aborts.specs.declared.abort_code.AbortCode.{AbortCode}
use Rattle.co_frame.specs.FrameContent.{FrameContent}
use Rattle.co_profile.specs.Indices.{store_parameters, restore_parameters}
use Rattle.co_value.specs.declared.key.Key.{Key}
use Rattle.co_value.specs.Keys.{same_key}
use Rattle.co_value.specs.Numbers.{unsigned_of}
use Rattle.conode_explain_transfers.specs.declared.channel.Heard.{Heard}
use Rattle.conode_explain_transfers.specs.declared.ended.Ended.{Ended}
use Rattle.conode_explain_transfers.specs.declared.ended.Ending.{Ending}
use Rattle.conode_explain_transfers.specs.declared.ended.Ending.TheVariants.{Done, Aborted, Unanswered, Repeated, Interrupted, NotFollowed}
use Rattle.conode_explain_transfers.specs.declared.kinds.Direction.{Direction}
use Rattle.conode_explain_transfers.specs.declared.kinds.Direction.TheVariants.{Download}
use Rattle.conode_explain_transfers.specs.declared.kinds.Protocol.{Protocol}
use Rattle.conode_explain_transfers.specs.declared.kinds.Protocol.TheVariants.{Block}
use Rattle.conode_explain_transfers.specs.declared.kinds.Side.{Side}
use Rattle.conode_explain_transfers.specs.declared.kinds.Side.TheVariants.{Client, Server}
use Rattle.conode_explain_transfers.specs.declared.kinds.What.{What}
use Rattle.conode_explain_transfers.specs.declared.kinds.What.TheVariants.{Initiate, Part, Segment, OutOfSequence, Stray}
use Rattle.conode_explain_transfers.specs.Followed.{after_boot, broken_off, followed, nothing_heard}
use Rattle.conode_compare_transfers.specs.declared.newest.Newest.{Newest}
use Rattle.conode_compare_transfers.specs.declared.newest.Newest.TheVariants.{LastData, Answer, Data, LaterData}
use Rattle.conode_compare_transfers.specs.Breaches.{breach_at, byte_at, key_in}
use Rattle.conode_compare_transfers.specs.NewestFrames.{newest_with}
use Rattle.conode_compare_transfers.specs.declared.dialogue.Asked.{Asked}
use Rattle.conode_compare_transfers.specs.declared.dialogue.Dialogue.{Dialogue}
use Rattle.conode_compare_transfers.specs.declared.dialogue.Exchange.{Exchange}
use Rattle.conode_compare_transfers.specs.declared.left.Left.{Left}
use Rattle.conode_compare_transfers.specs.Times.{is_past}

-- no request that may take long was left before its answer
abbrev pub nothing_left : Left
nothing_left = record { count = 0; newest = 0 }

abbrev pub nothing_asked : Dialogue
nothing_asked = record { channel = nothing_heard; asked = None; entry = None; doubted = None; slow = nothing_left; sub_block = false; newest = None; requested = 0 }

-- ---- initiate requests

-- initiate of a download, ccs = 1, or of a block download, ccs = 6
abbrev pub asks_to_write : FrameContent → Bool
asks_to_write frame = (byte_at frame 0 / 32 == 1) || (byte_at frame 0 / 32 == 6)

-- the number in the last four bytes of an initiate request of a download that has four: ccs = 1, n = 0,
-- e = 1; s = 0, the size isn't indicated, or 1
abbrev pub word_written : FrameContent → Option ℕ
word_written frame =
    if byte_at frame 0 / 2 == 0x11
    then Some (unsigned_of (byte_at frame 4 ∷ byte_at frame 5 ∷ byte_at frame 6 ∷ byte_at frame 7 ∷ [])) else None

-- initiate of a block upload, ccs = 5, with a protocol switch threshold
abbrev pub may_switch : FrameContent → Bool
may_switch frame = (byte_at frame 0 / 32 == 5) && nat_lt 0 (byte_at frame 5)

-- the initiate request that is not answered after a frame
abbrev pub asked_after : What → ℕ → FrameContent → Option Asked
asked_after Initiate micros frame = Some (record {
  key = key_in frame;
  micros = micros;
  writes = asks_to_write frame;
  switches = may_switch frame;
})
asked_after what micros frame = None

-- the entry of the newest initiate request
abbrev pub entry_after : What → FrameContent → Option Key → Option Key
entry_after Initiate frame entry = Some (key_in frame)
entry_after what frame entry = entry

-- ---- doubts

-- An abort with 05040000 may be of an earlier transfer of the entry, or sent before the device took the
-- client's frame, which it answers later; not where it has answered all (`quiet`).
abbrev pub is_final : Bool → AbortCode → Bool
is_final quiet code = quiet || not (code.0 == timed_out)

abbrev pub is_block : Protocol → Bool
is_block Block = true
is_block other = false

-- The server confirms a block download (7.2.4.3.11), and nothing since its initiate request left a doubt, nor did
-- that. The confirmation answers the client's end, its last frame: a server takes frames in turn, so it has taken
-- all of them, and sent all that it sends for them. The end of a block upload is the client's confirmation
-- (7.2.4.3.15), which isn't answered: whether the server has taken that isn't known.
abbrev pub confirms_all : Side → Option ℕ → ℕ → Bool
confirms_all Server doubted begun = option_map_or (λ d. nat_lt d begun) doubted true
confirms_all Client doubted begun = false

-- A transfer that both ends know to have ended. An abort of another entry answers an earlier request. Of a
-- block transfer it is known where it is such a download (`confirmed`); and where its initiate request, which came
-- when no earlier one could be answered (`owed`), is refused: then no segment and no acknowledge is on its way.
abbrev pub is_known_end : Bool → Bool → Bool → Bool → Ending → Key → FrameContent → Bool
is_known_end owed quiet confirmed block (Done crc) key frame = confirmed || not block
is_known_end owed quiet confirmed block (Aborted Server code) key frame =
    (owed || not block) && (is_final quiet code && same_key (key_in frame) key)
is_known_end owed quiet confirmed block other key frame = false

abbrev pub both_know_its_end : Bool → Bool → Side → Option ℕ → Ended → FrameContent → Bool
both_know_its_end owed quiet side doubted ended frame =
    is_known_end owed quiet (confirms_all side doubted ended.begun) (is_block ended.protocol) ended.ending ended.key frame

abbrev pub ends_in_doubt : Bool → Bool → Side → Option ℕ → Option Ended → FrameContent → Bool
ends_in_doubt owed quiet side doubted ended frame =
    option_map_or (λ e. not (both_know_its_end owed quiet side doubted e frame)) ended false

-- a frame that goes on with the open transfer
abbrev pub continues : What → Bool
continues Part = true
continues (Segment number) = true
continues other = false

abbrev pub is_initiate : What → Bool
is_initiate Initiate = true
is_initiate other = false

-- a client's frame that neither begins a transfer nor goes on with one may be answered all the same
abbrev pub is_odd : Side → What → Bool
is_odd Server what = not (continues what)
is_odd Client what = not (is_initiate what || continues what)

-- After a frame an earlier request may still be answered: a transfer was left, or the frame goes on
-- with none.
abbrev pub leaves_request_open : Bool → Bool → Side → Option ℕ → Heard → FrameContent → Bool
leaves_request_open owed quiet side doubted heard frame =
    is_odd side heard.what || ends_in_doubt owed quiet side doubted heard.ended frame

-- An initiate request of the same entry as the one before, while an earlier request may still be
-- answered: the answer to that looks like its own, which comes later.
abbrev pub asks_again : ℕ → Dialogue → ℕ → FrameContent → Bool
asks_again answer dialogue micros frame =
    option_map_or (same_key (key_in frame)) dialogue.entry false && option_map_or (λ d. not (is_past d answer micros)) dialogue.doubted false

-- ---- sub-blocks that aren't followed

-- A server that awaits the segments of a block download takes each frame as one of them, a request
-- too (CiA 301, 7.2.4.3.10). The open transfer isn't always that block download: an answer to an
-- earlier request may have ended it, or its client left it.

abbrev pub is_download : Direction → Bool
is_download Download = true
is_download other = false

abbrev pub is_aborted : Ending → Bool
is_aborted (Aborted side code) = true
is_aborted other = false

-- A block download was left, and the server may go on with it: not where an end aborted it by its
-- multiplexer. `other`: the frame is of another entry.
abbrev pub leaves_block : Bool → Option Ended → Bool
leaves_block other ended =
    option_map_or (λ e. (is_block e.protocol && is_download e.direction) && (other || not (is_aborted e.ending))) ended false

-- By the first byte: the answer to the initiate request of a block download, scs = 5 and ss = 0, and
-- the acknowledge of a sub-block, ss = 2. Segments are awaited then.
abbrev pub opens_sub_block : ℕ → Bool
opens_sub_block first = (first / 32 == 5) && not (first % 4 == 1)

-- A frame of the server: one of these, of another transfer than the open one; or an abort, which may
-- answer an earlier request. With any other the server shows that it awaits no segment.
abbrev pub server_sub_block : Bool → What → ℕ → Bool → Bool
server_sub_block leaves what first awaits = if first / 32 == 4 then awaits || leaves else opens_sub_block first && not (continues what)

-- a sub-block may be open that isn't followed, after a frame by which a block download is left, or not
abbrev pub sub_block_after : Side → Bool → What → ℕ → Bool → Bool
sub_block_after Client leaves what first awaits = awaits || leaves
sub_block_after Server leaves what first awaits = server_sub_block leaves what first awaits

-- then a request may be a segment, which isn't answered; or it asks again
abbrev pub doubts_request : ℕ → Dialogue → ℕ → FrameContent → Bool
doubts_request answer dialogue micros frame = dialogue.sub_block || asks_again answer dialogue micros frame

abbrev pub is_in_doubt : Bool → What → Bool
is_in_doubt doubts what = doubts && is_initiate what

-- ---- requests that may take long

-- storing and restoring parameters, and what a program is loaded by (1F00h to 1FFFh, CiA 302), may
-- take long
abbrev pub is_timed : Key → Bool
is_timed key =
    not (key.index == store_parameters) && (not (key.index == restore_parameters) && not (nat_le 0x1F00 key.index && nat_le key.index 0x1FFF))

-- the multiplexer of a frame isn't that of the transfer that it ends
abbrev pub names_other : Option Ended → FrameContent → Bool
names_other ended frame = option_map_or (λ e. not (same_key (key_in frame) e.key)) ended false

-- A transfer that was left, and not ended by the device. An abort of another entry answers an
-- earlier request.
abbrev pub is_left : Bool → Ending → Bool
is_left other Unanswered = true
is_left other Repeated = true
is_left other Interrupted = true
is_left other (NotFollowed next) = true
is_left other (Aborted Client code) = true
is_left other (Aborted Server code) = other
is_left other ending = false

-- nothing is owed but what the device sends by itself: after its answer, and among its segments
abbrev pub owes_nothing : Option Newest → Bool
owes_nothing (Some Answer) = true
owes_nothing (Some Data) = true
owes_nothing (Some (LastData number)) = true
owes_nothing (Some LaterData) = true
owes_nothing newest = false

-- A transfer of an entry that may take long was left before its answer: that may come at any time.
-- `other`: the frame is of another entry.
abbrev pub leaves_slow : Bool → Option Newest → Option Ended → Bool
leaves_slow other newest ended =
    not (owes_nothing newest) && option_map_or (λ e. is_left other e.ending && not (is_timed e.key)) ended false

-- A response to initiate has its multiplexer: scs = 2 and 3; of a block download scs = 5 and ss = 0,
-- of a block upload scs = 6 and ss = 0. So has an abort, cs = 4.
abbrev pub has_key : ℕ → Bool
has_key first =
    (nat_le 0x40 first && nat_lt first 0xA0)
    || ((first == 0xA0) || ((first == 0xA4) || ((first == 0xC0) || ((first == 0xC2) || ((first == 0xC4) || (first == 0xC6))))))

-- one of these, of an entry that may take long
abbrev pub is_slow_answer : FrameContent → Bool
is_slow_answer frame = has_key (byte_at frame 0) && not (is_timed (key_in frame))

-- a frame of the device that isn't of the open transfer
abbrev pub is_of_other : What → Option Ended → FrameContent → Bool
is_of_other Part ended frame = names_other ended frame
is_of_other (Segment number) ended frame = false
is_of_other (OutOfSequence number awaited) ended frame = false
is_of_other what ended frame = true

-- An answer to an earlier request, which may take long. That may have come before the recording.
abbrev pub is_late_answer : Side → Heard → FrameContent → Bool
is_late_answer Server heard frame = is_slow_answer frame && is_of_other heard.what heard.ended frame
is_late_answer Client heard frame = false

-- one of these requests is answered; or one after them is, in its turn
abbrev pub left_after_answer : Bool → Bool → Left → Left
left_after_answer answers turns left = if turns then nothing_left else (if answers then record left { count = left.count - 1 } else left)

-- how long they are awaited, in ms: a minute
abbrev pub slow_limit : ℕ
slow_limit = 60000

-- one of them is awaited still; not where the stamps step back
abbrev pub is_awaited : Left → ℕ → Bool
is_awaited left micros = nat_lt 0 left.count && (nat_le left.newest micros && not (is_past left.newest slow_limit micros))

abbrev pub awaited_count : Left → ℕ → ℕ
awaited_count left micros = if is_awaited left micros then left.count else 0

-- one more, up to 255
abbrev pub one_more : ℕ → ℕ
one_more count = if nat_lt count 255 then count + 1 else count

abbrev pub left_after : Bool → ℕ → Left → Left
left_after leaves micros left = if leaves then record { count = one_more (awaited_count left micros); newest = micros } else left

-- ---- certainty

-- no earlier request can be answered any more: an answer takes no longer than it may, and none that
-- may take long is awaited
unfoldable pub is_certain : ℕ → ℕ → Left → Option ℕ → ℕ → Bool
is_certain answer started slow doubted micros =
    not (is_awaited slow micros) && (is_past started answer micros && option_map_or (λ d. is_past d answer micros) doubted true)

-- The device owes an answer to the request before a frame: no earlier one could still be answered
-- when it came. A server that still awaits the segments of a block download takes another request
-- as one of them.
abbrev pub owes : ℕ → ℕ → Dialogue → Bool
owes answer started dialogue =
    option_map_or (λ a. is_certain answer started dialogue.slow dialogue.doubted a.micros) dialogue.asked false

-- no transfer is open for this frame of the device, which isn't an abort
abbrev pub is_unasked : Side → What → FrameContent → Bool
is_unasked Server Stray frame = not (byte_at frame 0 / 32 == 4)
is_unasked side what frame = false

-- Its request may be missing in the recording: the client's newest frame is longer ago than an answer
-- may take.
abbrev pub misses_request : ℕ → Dialogue → ℕ → Side → What → FrameContent → Bool
misses_request answer dialogue micros side what frame = is_unasked side what frame && is_past dialogue.requested answer micros

-- an answer to a request that isn't the one before
abbrev pub is_of_earlier : ℕ → Dialogue → ℕ → Side → Heard → FrameContent → Bool
is_of_earlier answer dialogue micros side heard frame =
    is_late_answer side heard frame || misses_request answer dialogue micros side heard.what frame

-- The answer to a request that came when none but those that may take long could be answered. A
-- server takes requests in turn, so those are answered no more. It may refuse one before its turn.
abbrev pub answers_in_turn : ℕ → ℕ → Option ℕ → FrameContent → Asked → Bool
answers_in_turn answer started doubted frame asked =
    (is_timed asked.key && (same_key (key_in frame) asked.key && not (byte_at frame 0 / 32 == 4))) && is_certain answer started nothing_left doubted asked.micros

abbrev pub is_part : Side → What → Bool
is_part Server Part = true
is_part side what = false

abbrev pub is_in_turn : ℕ → ℕ → Dialogue → Side → What → FrameContent → Bool
is_in_turn answer started dialogue side what frame =
    is_part side what && option_map_or (λ a. answers_in_turn answer started dialogue.doubted frame a) dialogue.asked false

-- ---- how long the client is awaited

-- the stamp of the client's newest frame
abbrev pub requested_after : Side → ℕ → ℕ → ℕ
requested_after Client micros requested = micros
requested_after Server micros requested = requested

-- How long before a frame the device has awaited the client's next one, where it has answered all: its
-- time for that begins with the client's frame at the earliest, with its own answer at the latest.
abbrev pub awaited_for : Option Newest → ℕ → ℕ → Option ℕ
awaited_for newest requested micros = if owes_nothing newest then Some (micros - requested) else None

-- ---- a frame in its turn

-- it ends no transfer, or one that is done
abbrev pub is_done : Ending → Bool
is_done (Done crc) = true
is_done other = false

abbrev pub ends_none_undone : Option Ended → Bool
ends_none_undone ended = option_map_or (λ e. is_done e.ending) ended true

-- the device's end of a block upload, scs = 6, which counts with the client's confirmation
abbrev pub ends_upload : What → FrameContent → Bool
ends_upload Part frame = byte_at frame 0 / 32 == 6
ends_upload other frame = false

-- A frame of the device goes on with the open transfer or is its end, as each of its frames in its turn. `newest`:
-- whose frame the newest one of the transfer was before it.
unfoldable pub comes_in_turn : Option Newest → Heard → FrameContent → Bool
comes_in_turn newest heard frame =
    (continues heard.what && (ends_none_undone heard.ended && not (ends_upload heard.what frame)))
    && is_some (newest_with Server heard.what frame newest)

-- ---- a frame

-- what a frame is, by an end
unfoldable pub exchange_in : ℕ → ℕ → Dialogue → ℕ → Side → FrameContent → Exchange
exchange_in answer started dialogue micros side frame = record {
  heard = (followed dialogue.channel micros side frame.bytes).says;
  asked = dialogue.asked;
  owed = owes answer started dialogue;
  certain = is_certain answer started dialogue.slow dialogue.doubted micros
      && not (is_of_earlier answer dialogue micros side (followed dialogue.channel micros side frame.bytes).says frame);
  breach = breach_at dialogue.newest side (followed dialogue.channel micros side frame.bytes).says frame;
  awaited = awaited_for dialogue.newest dialogue.requested micros;
}

-- `owed`: an answer is owed to the initiate request right before this frame; `quiet`: the device has
-- answered all; `doubts`: a request is in doubt
abbrev pub doubted_after : Bool → Bool → Bool → Side → Heard → FrameContent → Option ℕ → ℕ → Option ℕ
doubted_after owed quiet doubts side heard frame doubted micros =
    if leaves_request_open owed quiet side doubted heard frame || is_in_doubt doubts heard.what then Some micros else doubted

-- A transfer isn't judged whose initiate request comes while an earlier request may still be answered.
abbrev pub newest_heard : Bool → Side → What → FrameContent → Option Newest → Option Newest
newest_heard certain side what frame newest = if is_initiate what && not certain then None else newest_with side what frame newest

unfoldable pub dialogue_heard : ℕ → ℕ → Dialogue → ℕ → Side → FrameContent → Dialogue
dialogue_heard answer started dialogue micros side frame =
    let f = followed dialogue.channel micros side frame.bytes in
    let doubts = doubts_request answer dialogue micros frame in
    let doubted = doubted_after (owes answer started dialogue) (owes_nothing dialogue.newest) doubts side f.says frame dialogue.doubted micros in
    let other = names_other f.says.ended frame in
    let leaves = leaves_slow other dialogue.newest f.says.ended in
    let turns = is_in_turn answer started dialogue side f.says.what frame in
    let slow = left_after leaves micros (left_after_answer (is_late_answer side f.says frame) turns dialogue.slow) in
    record {
      channel = f.next;
      asked = asked_after f.says.what micros frame;
      entry = entry_after f.says.what frame dialogue.entry;
      doubted = doubted;
      slow = slow;
      sub_block = sub_block_after side (leaves_block other f.says.ended) f.says.what (byte_at frame 0) dialogue.sub_block;
      newest = newest_heard (is_certain answer started slow doubted micros) side f.says.what frame dialogue.newest;
      requested = requested_after side micros dialogue.requested;
    }

-- after a reset, a boot-up or an error frame nothing is open any more; what was may be answered all
-- the same
abbrev pub interrupted : Dialogue → ℕ → Dialogue
interrupted dialogue micros = record {
  channel = after_boot dialogue.channel;
  asked = None;
  entry = dialogue.entry;
  doubted = if is_some dialogue.channel.transfer then Some micros else dialogue.doubted;
  slow = left_after (leaves_slow false dialogue.newest (broken_off dialogue.channel.transfer micros)) micros dialogue.slow;
  sub_block = dialogue.sub_block || leaves_block false (broken_off dialogue.channel.transfer micros);
  newest = None;
  requested = dialogue.requested;
}

-- The request wasn't answered in time, which was said: its transfer isn't followed any more. It may be answered all the
-- same.
abbrev pub given_up : Dialogue → ℕ → Dialogue
given_up dialogue micros = record (interrupted dialogue micros) { doubted = Some micros }
