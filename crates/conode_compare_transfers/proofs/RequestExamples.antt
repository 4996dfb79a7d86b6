-- Which requests an answer is owed to, which may take long, what they write, and which sub-blocks are followed, on both sides of each edge,
-- computed from the definitions.
use Rattle.std.proofs.Common.{◌≡◌, ℕ, ◌+◌, ◌/◌, ◌%◌, List, [], ◌∷◌, true, false, map, Option, Some, None, refl}
use Rattle.co_frame.specs.FrameContent.{FrameContent}
use Rattle.co_frame.specs.SdoRequests.{request_row_in}
use Rattle.co_frame.specs.SdoResponses.{response_row_in}
use Rattle.co_value.specs.declared.key.Key.{Key}
use Rattle.conode_explain_transfers.specs.declared.channel.Heard.{Heard}
use Rattle.conode_explain_transfers.specs.declared.ended.Ended.{Ended}
use Rattle.conode_explain_transfers.specs.declared.ended.Ending.{Ending}
use Rattle.conode_explain_transfers.specs.declared.ended.Ending.TheVariants.{Aborted, Done, Interrupted, Irregular, NotFollowed, Repeated as Again, Unanswered}
use Rattle.conode_explain_transfers.specs.declared.kinds.Direction.{Direction}
use Rattle.conode_explain_transfers.specs.declared.kinds.Direction.TheVariants.{Download, Upload}
use Rattle.conode_explain_transfers.specs.declared.kinds.Protocol.{Protocol}
use Rattle.conode_explain_transfers.specs.declared.kinds.Protocol.TheVariants.{Block, Expedited, Segmented}
use Rattle.conode_explain_transfers.specs.declared.kinds.Side.{Side}
use Rattle.conode_explain_transfers.specs.declared.kinds.Side.TheVariants.{Client, Server}
use Rattle.conode_explain_transfers.specs.declared.kinds.What.{What}
use Rattle.conode_explain_transfers.specs.declared.kinds.What.TheVariants.{BegunBefore, Initiate, OutOfSequence, Overtaken, Part, Segment, Stray, Unexpected}
use Rattle.conode_compare_transfers.specs.declared.dialogue.Dialogue.{Dialogue}
use Rattle.conode_compare_transfers.specs.declared.left.Left.{Left}
use Rattle.conode_compare_transfers.specs.declared.newest.Newest.TheVariants.{Acknowledge, Answer, Data, LaterData, Request}
use Rattle.conode_compare_transfers.specs.Breaches.{breach_at}
use Rattle.conode_compare_transfers.specs.Dialogues.{asks_again, dialogue_heard, doubts_request, exchange_in, given_up, interrupted, is_certain, is_in_doubt, is_late_answer, is_timed, is_awaited, is_in_turn, leaves_block, leaves_slow, left_after, left_after_answer, may_switch, misses_request, nothing_asked, nothing_left, opens_sub_block, owes, sub_block_after, word_written}
use Rattle.conode_compare_transfers.specs.NewestFrames.{newest_after, newest_with}

-- ---- requests that an answer is owed to

abbrev asked_at : ℕ → ℕ → Dialogue
asked_at doubted micros = record nothing_asked {
  asked = Some (record { key = record { index = 0x1000; sub = 0 }; micros = micros; writes = false; switches = false });
  doubted = Some doubted;
}

owed : owes 1000 0 (asked_at 2000000 3000001) ≡ true
unfolding is_certain
owed = refl

-- it came while another could still be answered
not_owed : owes 1000 0 (asked_at 2000000 3000000) ≡ false
unfolding is_certain
not_owed = refl

nothing_owed : owes 1000 0 nothing_asked ≡ false
nothing_owed = refl

-- initiate of a block upload with a threshold; without one; and of an upload
by_another_protocol : map (λ request. may_switch (record { id = 0x605; bytes = request })) ((0xA4 ∷ 0 ∷ 0x20 ∷ 1 ∷ 127 ∷ 1 ∷ []) ∷ (0xA4 ∷ 0 ∷ 0x20 ∷ 1 ∷ 127 ∷ 0 ∷ []) ∷ (0x40 ∷ 0 ∷ 0x20 ∷ 1 ∷ 0 ∷ 1 ∷ []) ∷ []) ≡ true ∷ false ∷ false ∷ []
by_another_protocol = refl

-- ---- requests that may take long

abbrev entry : ℕ → Key
entry index = record { index = index; sub = 1 }

timed : map (λ index. is_timed (entry index)) (0x100F ∷ 0x1010 ∷ 0x1011 ∷ 0x1012 ∷ 0x1EFF ∷ 0x1F00 ∷ 0x1FFF ∷ 0x2000 ∷ [])
    ≡ true ∷ false ∷ false ∷ true ∷ true ∷ false ∷ false ∷ true ∷ []
timed = refl

abbrev left_by : ℕ → Ending → Option Ended
left_by index ending = Some (record {
  key = entry index;
  direction = Download;
  protocol = Expedited;
  bytes = 4;
  first = record { items = [] };
  frames = 1;
  begun = 1;
  newest = 1;
  end = 7;
  ending = ending;
  fault = None;
})

-- saving is left by another request, by the same one again, and by an abort of the client
left_open : map (λ ending. leaves_slow false (Some Request) (left_by 0x1010 ending)) (Unanswered ∷ Again ∷ Interrupted ∷ NotFollowed None ∷ NotFollowed (Some 33) ∷ Aborted Client (record { 0 = 0x05040000 }) ∷ [])
    ≡ true ∷ true ∷ true ∷ true ∷ true ∷ true ∷ []
left_open = refl

-- the device answered; and another entry has its time
answered_all : map (λ ending. leaves_slow false None (left_by 0x1010 ending)) (Done false ∷ Irregular ∷ Aborted Server (record { 0 = 0x08000020 }) ∷ []) ≡ false ∷ false ∷ false ∷ []
answered_all = refl

-- after an answer, and among the segments of a block upload, nothing is owed
answered_last : map (λ newest. leaves_slow false (Some newest) (left_by 0x1010 Interrupted)) (Answer ∷ Data ∷ LaterData ∷ Acknowledge ∷ Request ∷ []) ≡ false ∷ false ∷ false ∷ true ∷ true ∷ []
answered_last = refl

-- another entry is refused, whose request came earlier
refuses_earlier : leaves_slow true (Some Request) (left_by 0x1010 (Aborted Server (record { 0 = 0x06020000 }))) ≡ true
refuses_earlier = refl

done_other : leaves_slow true (Some Request) (left_by 0x1010 (Done false)) ≡ false
done_other = refl

left_timed : leaves_slow false (Some Request) (left_by 0x1000 Unanswered) ≡ false
left_timed = refl

none_left : leaves_slow false (Some Request) None ≡ false
none_left = refl

abbrev reply : ℕ → ℕ → FrameContent
reply first low = record { id = 0x585; bytes = first ∷ low ∷ 0x10 ∷ 1 ∷ 0 ∷ 0 ∷ 0 ∷ 0 ∷ [] }

abbrev heard_as : What → Option Ended → Heard
heard_as what ended = record { what = what; of = None; ended = ended }

-- an answer of 1010:01 while another entry is asked for, and while none is
late_answers : map (λ what. is_late_answer Server (heard_as what None) (reply 0x60 0x10)) (Overtaken ∷ Stray ∷ Unexpected ∷ BegunBefore ∷ []) ≡ true ∷ true ∷ true ∷ true ∷ []
late_answers = refl

late_abort : is_late_answer Server (heard_as Part (left_by 0x1000 (Aborted Server (record { 0 = 0x06060000 })))) (reply 0x80 0x10) ≡ true
late_abort = refl

own_answer : is_late_answer Server (heard_as Part (left_by 0x1010 (Done false))) (reply 0x60 0x10) ≡ false
own_answer = refl

own_begin : is_late_answer Server (heard_as Part None) (reply 0x41 0x10) ≡ false
own_begin = refl

-- an answer that has its time; a segment; a request
timed_answer : is_late_answer Server (heard_as Overtaken None) (reply 0x60 0) ≡ false
timed_answer = refl

slow_segment : is_late_answer Server (heard_as (Segment 0x60) None) (reply 0x60 0x10) ≡ false
slow_segment = refl

slow_request : is_late_answer Client (heard_as Stray None) (reply 0x60 0x10) ≡ false
slow_request = refl

slow_out_of_sequence : is_late_answer Server (heard_as (OutOfSequence 0x60 1) None) (reply 0x60 0x10) ≡ false
slow_out_of_sequence = refl

-- those with a multiplexer: responses to initiate of an upload and of a download, aborts, and responses to initiate of block transfers
with_key : map (λ first. is_late_answer Server (heard_as Stray None) (reply first 0x10)) (0x3F ∷ 0x40 ∷ 0x9F ∷ 0xA0 ∷ 0xA1 ∷ 0xA2 ∷ 0xA4 ∷ 0xC0 ∷ 0xC1 ∷ 0xC2 ∷ 0xC4 ∷ 0xC6 ∷ 0xC7 ∷ [])
    ≡ false ∷ true ∷ true ∷ true ∷ false ∷ false ∷ true ∷ true ∷ false ∷ true ∷ true ∷ true ∷ false ∷ []
with_key = refl

abbrev left_at : ℕ → ℕ → Left
left_at count newest = record { count = count; newest = newest }

counts : map (λ count. left_after true 9 (left_at count 7)) (0 ∷ 254 ∷ 255 ∷ []) ≡ left_at 1 9 ∷ left_at 255 9 ∷ left_at 255 9 ∷ []
counts = refl

-- those before it are awaited no more
counts_anew : left_after true 60000008 (left_at 3 7) ≡ left_at 1 60000008
counts_anew = refl

counts_down : map (λ count. left_after_answer true false (left_at count 7)) (0 ∷ 1 ∷ 255 ∷ []) ≡ left_at 0 7 ∷ left_at 0 7 ∷ left_at 254 7 ∷ []
counts_down = refl

stays : map (λ count. left_after false 9 (left_after_answer false false (left_at count 7))) (0 ∷ 1 ∷ []) ≡ left_at 0 7 ∷ left_at 1 7 ∷ []
stays = refl

forgotten : left_after_answer false true (left_at 2 7) ≡ nothing_left
forgotten = refl

-- for a minute, and not where the stamps step back
awaited : map (is_awaited (left_at 1 7)) (6 ∷ 7 ∷ 60000007 ∷ 60000008 ∷ []) ≡ false ∷ true ∷ true ∷ false ∷ []
awaited = refl

none_awaited : is_awaited (left_at 0 7) 8 ≡ false
none_awaited = refl

nothing_awaited : is_certain 1000 0 nothing_left (Some 7) 1000008 ≡ true
unfolding is_certain
nothing_awaited = refl

one_awaited : is_certain 1000 0 (left_at 1 7) None 60000007 ≡ false
unfolding is_certain
one_awaited = refl

no_longer_awaited : is_certain 1000 0 (left_at 1 7) None 60000008 ≡ true
unfolding is_certain
no_longer_awaited = refl

-- 1000:00 was asked for while one that may take long was awaited: its answer, to a request that came once all others had their time
abbrev asked_later : ℕ → Dialogue
asked_later micros = record (asked_at 2000000 micros) { slow = left_at 1 2000000 }

abbrev value_of : ℕ → FrameContent
value_of low = record { id = 0x585; bytes = 0x43 ∷ low ∷ 0x10 ∷ 0 ∷ 1 ∷ 0 ∷ 0 ∷ 0 ∷ [] }

in_turn : map (λ micros. is_in_turn 1000 0 (asked_later micros) Server Part (value_of 0)) (3000000 ∷ 3000001 ∷ []) ≡ false ∷ true ∷ []
unfolding is_certain
in_turn = refl

-- of another entry; another frame; the client's; none is asked for
not_in_turn : is_in_turn 1000 0 (asked_later 3000001) Server Part (value_of 1) ≡ false
not_in_turn = refl

-- refused, perhaps before its turn
refused_turn : is_in_turn 1000 0 (asked_later 3000001) Server Part (record { id = 0x585; bytes = 0x80 ∷ 0 ∷ 0x10 ∷ 0 ∷ 0x22 ∷ 0 ∷ 0 ∷ 8 ∷ [] }) ≡ false
refused_turn = refl

overtaken_turn : is_in_turn 1000 0 (asked_later 3000001) Server Overtaken (value_of 0) ≡ false
overtaken_turn = refl

client_turn : is_in_turn 1000 0 (asked_later 3000001) Client Part (value_of 0) ≡ false
client_turn = refl

no_turn : is_in_turn 1000 0 nothing_asked Server Part (value_of 0) ≡ false
no_turn = refl

-- the same entry that may take long may have been left before
abbrev asked_slow : Dialogue
asked_slow = record (asked_later 3000001) { asked = Some (record { key = record { index = 0x1010; sub = 1 }; micros = 3000001; writes = true; switches = false }) }

slow_turn : is_in_turn 1000 0 asked_slow Server Part (reply 0x60 0x10) ≡ false
slow_turn = refl

-- 1010:01 is written, then 1000:00 is asked for: the answer of the first leaves a doubt, also of what comes next
abbrev sent : Dialogue → ℕ → Side → List ℕ → Dialogue
sent dialogue micros side bytes = dialogue_heard 1000 0 dialogue micros side (record { id = 0x585; bytes = bytes })

abbrev saving : Dialogue
saving = sent (sent nothing_asked 2000000 Client (0x23 ∷ 0x10 ∷ 0x10 ∷ 1 ∷ 0x73 ∷ 0x61 ∷ 0x76 ∷ 0x65 ∷ [])) 3000000 Client (0x40 ∷ 0 ∷ 0x10 ∷ 0 ∷ 0 ∷ 0 ∷ 0 ∷ 0 ∷ [])

is_saving : saving.slow ≡ left_at 1 3000000
unfolding dialogue_heard is_certain newest_after newest_with request_row_in
is_saving = refl

late_save : (exchange_in 1000 0 saving 9000000 Server (reply 0x60 0x10)).certain ≡ false
unfolding exchange_in is_certain dialogue_heard newest_after newest_with request_row_in response_row_in
late_save = refl

saved : (sent saving 9000000 Server (0x60 ∷ 0x10 ∷ 0x10 ∷ 1 ∷ 0 ∷ 0 ∷ 0 ∷ 0 ∷ [])).slow ≡ left_at 0 3000000
unfolding dialogue_heard is_certain newest_after newest_with request_row_in response_row_in
saved = refl

-- an answer of an entry that may take long, where none is awaited: its request may have come before the recording
abbrev asking : Dialogue
asking = sent nothing_asked 2000000 Client (0x40 ∷ 0 ∷ 0x10 ∷ 0 ∷ 0 ∷ 0 ∷ 0 ∷ 0 ∷ [])

none_left_before : asking.slow ≡ nothing_left
unfolding dialogue_heard is_certain newest_after newest_with request_row_in
none_left_before = refl

never_judged : (exchange_in 1000 0 asking 2500000 Server (reply 0x60 0x10)).certain ≡ false
unfolding exchange_in is_certain dialogue_heard newest_after newest_with request_row_in response_row_in
never_judged = refl

-- An answer without a request: of a device that answers twice, and of a request that isn't in the recording. An abort may come at any
-- time, and an answer of the open transfer has its request.
missing : map (λ micros. misses_request 1000 (record nothing_asked { requested = 1000000 }) micros Server Stray (reply 0x43 0x10)) (2000000 ∷ 2000001 ∷ []) ≡ false ∷ true ∷ []
missing = refl

not_missing : misses_request 1000 nothing_asked 9000000 Server Stray (reply 0x80 0x10) ∷ misses_request 1000 nothing_asked 9000000 Server Part (reply 0x43 0x10) ∷ misses_request 1000 nothing_asked 9000000 Client Stray (reply 0x43 0x10) ∷ []
    ≡ false ∷ false ∷ false ∷ []
not_missing = refl

abbrev answered : Dialogue
answered = sent asking 2001000 Server (0x43 ∷ 0 ∷ 0x10 ∷ 0 ∷ 1 ∷ 0 ∷ 0 ∷ 0 ∷ [])

answered_again : map (λ micros. (exchange_in 1000 0 answered micros Server (reply 0x43 0x20)).certain) (2002000 ∷ 3000000 ∷ 3000001 ∷ []) ≡ true ∷ true ∷ false ∷ []
unfolding exchange_in is_certain dialogue_heard newest_after newest_with request_row_in response_row_in
answered_again = refl

-- 1000:00 is asked for once more, and answered in its turn: nothing is awaited any more
abbrev asked_anew : Dialogue
asked_anew = sent (sent saving 3500000 Server (0x43 ∷ 0 ∷ 0x10 ∷ 0 ∷ 1 ∷ 0 ∷ 0 ∷ 0 ∷ [])) 5000000 Client (0x40 ∷ 0 ∷ 0x10 ∷ 0 ∷ 0 ∷ 0 ∷ 0 ∷ 0 ∷ [])

still_awaited : asked_anew.slow ≡ left_at 1 3000000
unfolding dialogue_heard is_certain newest_after newest_with request_row_in response_row_in
still_awaited = refl

answered_anew : (sent asked_anew 5001000 Server (0x43 ∷ 0 ∷ 0x10 ∷ 0 ∷ 1 ∷ 0 ∷ 0 ∷ 0 ∷ [])).slow ≡ nothing_left
unfolding dialogue_heard is_certain newest_after newest_with request_row_in response_row_in
answered_anew = refl

-- ---- what a request writes

-- initiate of a download of 1800:01, its last four bytes 85h, 1, 0, 80h
abbrev number_written : ℕ → Option ℕ
number_written first = word_written (record { id = 0x605; bytes = first ∷ 0 ∷ 0x18 ∷ 1 ∷ 0x85 ∷ 1 ∷ 0 ∷ 0x80 ∷ [] })

-- of four bytes, with its size and without; of three; in segments; in blocks; an upload
numbers_written : map number_written (0x23 ∷ 0x22 ∷ 0x27 ∷ 0x21 ∷ 0xC2 ∷ 0x40 ∷ []) ≡ Some 0x80000185 ∷ Some 0x80000185 ∷ None ∷ None ∷ None ∷ None ∷ []
numbers_written = refl

-- ---- sub-blocks that aren't followed

-- the answer to the initiate request of a block download and the acknowledge of a sub-block, not the confirmation of its end
sub_block_answers : map opens_sub_block (0x9F ∷ 0xA0 ∷ 0xA1 ∷ 0xA2 ∷ 0xA4 ∷ 0xA5 ∷ 0xC0 ∷ []) ≡ false ∷ true ∷ false ∷ true ∷ true ∷ false ∷ false ∷ []
sub_block_answers = refl

abbrev with_protocol : Protocol → Direction → Option Ended → Option Ended
with_protocol protocol direction None = None
with_protocol protocol direction (Some ended) = Some (record ended { protocol = protocol; direction = direction })

abbrev block_left : Protocol → Direction → Ending → Option Ended
block_left protocol direction ending = with_protocol protocol direction (left_by 0x2000 ending)

-- by another request, and by an abort of another entry; not by one of its own
block_is_left : map (λ ending. leaves_block false (block_left Block Download ending)) (Unanswered ∷ Again ∷ Interrupted ∷ Aborted Client (record { 0 = 0x05040000 }) ∷ Aborted Server (record { 0 = 0x08000000 }) ∷ [])
    ≡ true ∷ true ∷ true ∷ false ∷ false ∷ []
block_is_left = refl

block_is_left_by_other : map (λ side. leaves_block true (block_left Block Download (Aborted side (record { 0 = 0x06020000 })))) (Client ∷ Server ∷ []) ≡ true ∷ true ∷ []
block_is_left_by_other = refl

no_block_left : leaves_block true (block_left Block Upload Unanswered) ∷ leaves_block true (block_left Segmented Download Unanswered) ∷ leaves_block true None ∷ [] ≡ false ∷ false ∷ false ∷ []
no_block_left = refl

-- the client leaves one, or not; what was open stays so
left_by_client : map (sub_block_after Client true Initiate 0x40) (false ∷ true ∷ []) ∷ map (sub_block_after Client false Initiate 0x40) (false ∷ true ∷ []) ∷ []
    ≡ (true ∷ true ∷ []) ∷ (false ∷ true ∷ []) ∷ []
left_by_client = refl

-- the device: an abort, and answers of a block download that isn't the open transfer, or is
left_by_abort : map (sub_block_after Server true Part 0x80) (false ∷ true ∷ []) ∷ map (sub_block_after Server false Part 0x80) (false ∷ true ∷ []) ∷ []
    ≡ (true ∷ true ∷ []) ∷ (false ∷ true ∷ []) ∷ []
left_by_abort = refl

opened_elsewhere : map (λ what. sub_block_after Server false what 0xA4 false) (Stray ∷ Overtaken ∷ Unexpected ∷ Part ∷ Segment 36 ∷ []) ≡ true ∷ true ∷ true ∷ false ∷ false ∷ []
opened_elsewhere = refl

-- with any other answer it shows that it awaits no segment
is_out : map (λ first. sub_block_after Server true Stray first true) (0x43 ∷ 0x60 ∷ 0x7F ∷ 0x80 ∷ 0x9F ∷ 0xA1 ∷ 0xC0 ∷ []) ≡ false ∷ false ∷ false ∷ true ∷ true ∷ false ∷ false ∷ []
is_out = refl

may_be_one : is_in_doubt true Initiate ∷ is_in_doubt true Part ∷ is_in_doubt false Initiate ∷ [] ≡ true ∷ false ∷ false ∷ []
may_be_one = refl

-- an upload of 1000:00, and at once a block download of 2000:01; the device refuses the first, and awaits segments
abbrev overtaken_block : Dialogue
overtaken_block = sent
    (sent (sent (sent nothing_asked 2000000 Client (0x40 ∷ 0 ∷ 0x10 ∷ 0 ∷ 0 ∷ 0 ∷ 0 ∷ 0 ∷ [])) 2000200 Client (0xC4 ∷ 0 ∷ 0x20 ∷ 1 ∷ 0 ∷ 0 ∷ 0 ∷ 0 ∷ []))
    2001000
    Server
    (0x80 ∷ 0 ∷ 0x10 ∷ 0 ∷ 0 ∷ 0 ∷ 2 ∷ 6 ∷ []))
    2002000
    Server
    (0xA4 ∷ 0 ∷ 0x20 ∷ 1 ∷ 30 ∷ 0 ∷ 0 ∷ 0 ∷ [])

is_overtaken : overtaken_block.sub_block ≡ true
unfolding dialogue_heard is_certain newest_after newest_with request_row_in response_row_in
is_overtaken = refl

-- two seconds later it takes a request as a segment: no answer is owed to that
abbrev taken_as_segment : Dialogue
taken_as_segment = sent overtaken_block 4002000 Client (0x40 ∷ 0 ∷ 0x10 ∷ 0 ∷ 0 ∷ 0 ∷ 0 ∷ 0 ∷ [])

in_doubt : taken_as_segment.doubted ≡ Some 4002000
unfolding dialogue_heard is_certain newest_after newest_with request_row_in response_row_in
in_doubt = refl

not_owed_to_segment : owes 1000 0 taken_as_segment ≡ false
unfolding dialogue_heard is_certain newest_after newest_with request_row_in response_row_in
not_owed_to_segment = refl

-- two segments of a block download whose begin isn't in the recording, and its acknowledge: each leaves a doubt, so no answer is owed to
-- the first or to the second, nor to a request right after them
abbrev two_segments : Dialogue
two_segments = sent (sent nothing_asked 2000000 Client (0x20 ∷ 0x41 ∷ 0x42 ∷ 0x43 ∷ 1 ∷ 2 ∷ 3 ∷ 4 ∷ [])) 2000300 Client (0x21 ∷ 0x41 ∷ 0x42 ∷ 0x43 ∷ 1 ∷ 2 ∷ 3 ∷ 4 ∷ [])

abbrev acknowledged_segments : Dialogue
acknowledged_segments = sent two_segments 2000600 Server (0xA2 ∷ 0x21 ∷ 0x7F ∷ 0 ∷ 0 ∷ 0 ∷ 0 ∷ 0 ∷ [])

segments_in_doubt : two_segments.doubted ∷ acknowledged_segments.doubted ∷ [] ≡ Some 2000300 ∷ Some 2000600 ∷ []
unfolding dialogue_heard is_certain newest_after newest_with request_row_in response_row_in
segments_in_doubt = refl

not_owed_to_segments : owes 1000 0 two_segments ∷ owes 1000 0 (sent acknowledged_segments 2900000 Client (0x40 ∷ 0 ∷ 0x10 ∷ 0 ∷ 0 ∷ 0 ∷ 0 ∷ 0 ∷ [])) ∷ [] ≡ false ∷ false ∷ []
unfolding dialogue_heard is_certain newest_after newest_with request_row_in response_row_in
not_owed_to_segments = refl

-- where it answers, it awaited none
abbrev answered_after_all : Dialogue
answered_after_all = sent taken_as_segment 4003000 Server (0x43 ∷ 0 ∷ 0x10 ∷ 0 ∷ 1 ∷ 0 ∷ 0 ∷ 0 ∷ [])

owed_again : owes 1000 0 (sent answered_after_all 6003000 Client (0x40 ∷ 0 ∷ 0x10 ∷ 0 ∷ 0 ∷ 0 ∷ 0 ∷ 0 ∷ [])) ≡ true
unfolding dialogue_heard is_certain newest_after newest_with request_row_in response_row_in
owed_again = refl

-- a pause: the open sub-block isn't followed any more
abbrev begun_block : Dialogue
begun_block = sent nothing_asked 2000000 Client (0xC4 ∷ 0 ∷ 0x20 ∷ 1 ∷ 0 ∷ 0 ∷ 0 ∷ 0 ∷ [])

open_after_pause : begun_block.sub_block ∷ (interrupted begun_block 9000000).sub_block ∷ (interrupted asking 9000000).sub_block ∷ (interrupted overtaken_block 9000000).sub_block ∷ []
    ≡ false ∷ true ∷ false ∷ true ∷ []
unfolding dialogue_heard is_certain newest_after newest_with request_row_in response_row_in
open_after_pause = refl

-- ---- a block transfer that is refused at once

-- a download or an upload of 2000:01 in blocks is asked for then, and a millisecond later this comes
abbrev asked_in_blocks : Dialogue → ℕ → ℕ → List ℕ → Dialogue
asked_in_blocks before first micros answer = sent (sent before micros Client (first ∷ 0 ∷ 0x20 ∷ 1 ∷ 9 ∷ 0 ∷ 0 ∷ 0 ∷ [])) (micros + 1000) Server answer

-- with 06010002 and 06010001
abbrev refused_download : Dialogue → ℕ → Dialogue
refused_download before micros = asked_in_blocks before 0xC6 micros (0x80 ∷ 0 ∷ 0x20 ∷ 1 ∷ 2 ∷ 0 ∷ 1 ∷ 6 ∷ [])

abbrev refused_upload : Dialogue
refused_upload = asked_in_blocks nothing_asked 0xA4 2000000 (0x80 ∷ 0 ∷ 0x20 ∷ 1 ∷ 1 ∷ 0 ∷ 1 ∷ 6 ∷ [])

no_doubt : (refused_download nothing_asked 2000000).doubted ∷ refused_upload.doubted ∷ [] ≡ None ∷ None ∷ []
unfolding dialogue_heard is_certain newest_after newest_with request_row_in response_row_in
no_doubt = refl

-- so an answer is owed to the next request, 1 ms later
owed_after_refusal : owes 1000 0 (sent (refused_download nothing_asked 2000000) 2002000 Client (0x40 ∷ 0 ∷ 0x10 ∷ 0 ∷ 0 ∷ 0 ∷ 0 ∷ 0 ∷ [])) ≡ true
unfolding dialogue_heard is_certain newest_after newest_with request_row_in response_row_in
owed_after_refusal = refl

-- the request came while an earlier one could be answered, within 1000 ms after the recording began; segments of an earlier block download
-- may be awaited
earlier_doubt : map (λ micros. (refused_download nothing_asked micros).doubted) (1000000 ∷ 1000001 ∷ []) ≡ Some 1001000 ∷ None ∷ []
unfolding dialogue_heard is_certain newest_after newest_with request_row_in response_row_in
earlier_doubt = refl

segments_awaited : (refused_download (record nothing_asked { sub_block = true }) 2000000).doubted ≡ Some 2001000
unfolding dialogue_heard is_certain newest_after newest_with request_row_in response_row_in
segments_awaited = refl

-- with 05040000, which may be of an earlier transfer; of another entry; not at once, and with 05040000 though the device has answered all
other_refusals : (asked_in_blocks nothing_asked 0xC6 2000000 (0x80 ∷ 0 ∷ 0x20 ∷ 1 ∷ 0 ∷ 0 ∷ 4 ∷ 5 ∷ [])).doubted
    ∷ (asked_in_blocks nothing_asked 0xC6 2000000 (0x80 ∷ 0 ∷ 0x20 ∷ 2 ∷ 2 ∷ 0 ∷ 1 ∷ 6 ∷ [])).doubted
    ∷ (sent (asked_in_blocks nothing_asked 0xC6 2000000 (0xA4 ∷ 0 ∷ 0x20 ∷ 1 ∷ 30 ∷ 0 ∷ 0 ∷ 0 ∷ [])) 2002000 Server (0x80 ∷ 0 ∷ 0x20 ∷ 1 ∷ 2 ∷ 0 ∷ 1 ∷ 6 ∷ [])).doubted
    ∷ (sent (asked_in_blocks nothing_asked 0xC6 2000000 (0xA4 ∷ 0 ∷ 0x20 ∷ 1 ∷ 30 ∷ 0 ∷ 0 ∷ 0 ∷ [])) 2002000 Server (0x80 ∷ 0 ∷ 0x20 ∷ 1 ∷ 0 ∷ 0 ∷ 4 ∷ 5 ∷ [])).doubted ∷ []
    ≡ Some 2001000 ∷ Some 2001000 ∷ Some 2002000 ∷ Some 2002000 ∷ []
unfolding dialogue_heard is_certain newest_after newest_with request_row_in response_row_in
other_refusals = refl

-- ---- a transfer that is aborted as timed out

-- an upload of 2000:01 is asked for then, and a millisecond later this comes
abbrev asked_for : ℕ → List ℕ → Dialogue
asked_for micros answer = sent (sent nothing_asked micros Client (0x40 ∷ 0 ∷ 0x20 ∷ 1 ∷ 0 ∷ 0 ∷ 0 ∷ 0 ∷ [])) (micros + 1000) Server answer

-- and a segment of it, which isn't answered so far
abbrev next_segment : Dialogue
next_segment = sent (asked_for 2000000 (0x41 ∷ 0 ∷ 0x20 ∷ 1 ∷ 9 ∷ 0 ∷ 0 ∷ 0 ∷ [])) 2002000 Client (0x60 ∷ 0 ∷ 0 ∷ 0 ∷ 0 ∷ 0 ∷ 0 ∷ 0 ∷ [])

-- with 05040000 the request, or the segment, may be answered later; not with 05040001 and 08000022, nor where the device has answered all
timed_out_in_doubt : (asked_for 2000000 (0x80 ∷ 0 ∷ 0x20 ∷ 1 ∷ 0 ∷ 0 ∷ 4 ∷ 5 ∷ [])).doubted
    ∷ (sent next_segment 2003000 Server (0x80 ∷ 0 ∷ 0x20 ∷ 1 ∷ 0 ∷ 0 ∷ 4 ∷ 5 ∷ [])).doubted ∷ []
    ≡ Some 2001000 ∷ Some 2003000 ∷ []
unfolding dialogue_heard is_certain newest_after newest_with request_row_in response_row_in
timed_out_in_doubt = refl

refused_without_doubt : (asked_for 2000000 (0x80 ∷ 0 ∷ 0x20 ∷ 1 ∷ 1 ∷ 0 ∷ 4 ∷ 5 ∷ [])).doubted
    ∷ (sent next_segment 2003000 Server (0x80 ∷ 0 ∷ 0x20 ∷ 1 ∷ 0x22 ∷ 0 ∷ 0 ∷ 8 ∷ [])).doubted
    ∷ (sent (asked_for 2000000 (0x41 ∷ 0 ∷ 0x20 ∷ 1 ∷ 9 ∷ 0 ∷ 0 ∷ 0 ∷ [])) 3001000 Server (0x80 ∷ 0 ∷ 0x20 ∷ 1 ∷ 0 ∷ 0 ∷ 4 ∷ 5 ∷ [])).doubted ∷ []
    ≡ None ∷ None ∷ None ∷ []
unfolding dialogue_heard is_certain newest_after newest_with request_row_in response_row_in
refused_without_doubt = refl

-- ---- the entry is asked for again

abbrev request_of : ℕ → FrameContent
request_of index = record { id = 0x605; bytes = 0x40 ∷ index % 256 ∷ index / 256 ∷ 1 ∷ 0 ∷ 0 ∷ 0 ∷ 0 ∷ [] }

abbrev after_request : Option Key → Option ℕ → Dialogue
after_request entry doubted = record nothing_asked { entry = entry; doubted = doubted }

-- 2000:01, while the request before may still be answered, of the same entry; of others; of none; where none can be answered
asked_again : map (λ micros. asks_again 1000 (after_request (Some (entry 0x2000)) (Some 2000000)) micros (request_of 0x2000)) (3000000 ∷ 3000001 ∷ []) ≡ true ∷ false ∷ []
asked_again = refl

not_asked_again : asks_again 1000 (after_request (Some (entry 0x2001)) (Some 2000000)) 3000000 (request_of 0x2000)
    ∷ asks_again 1000 (after_request None (Some 2000000)) 3000000 (request_of 0x2000)
    ∷ asks_again 1000 (after_request (Some (entry 0x2000)) None) 3000000 (request_of 0x2000) ∷ []
    ≡ false ∷ false ∷ false ∷ []
not_asked_again = refl

doubts_either : map (λ d. doubts_request 1000 d 3000000 (request_of 0x2000))
    (record nothing_asked { sub_block = true } ∷ after_request (Some (entry 0x2000)) (Some 2000000) ∷ nothing_asked ∷ [])
    ≡ true ∷ true ∷ false ∷ []
doubts_either = refl

-- 2000:01 is asked for, given up by the client, asked for again 0.9 s later, and refused, perhaps the first time: the second answer may come
-- until a second after its request
abbrev given_up_first : Dialogue
given_up_first = sent
    (sent nothing_asked 2000000 Client (0x40 ∷ 0 ∷ 0x20 ∷ 1 ∷ 0 ∷ 0 ∷ 0 ∷ 0 ∷ []))
    2100000
    Client
    (0x80 ∷ 0 ∷ 0x20 ∷ 1 ∷ 0 ∷ 0 ∷ 4 ∷ 5 ∷ [])

abbrev refused_again : ℕ → Dialogue
refused_again sub = sent
    (sent given_up_first 3000000 Client (0x40 ∷ 0 ∷ 0x20 ∷ sub ∷ 0 ∷ 0 ∷ 0 ∷ 0 ∷ []))
    3001000
    Server
    (0x80 ∷ 0 ∷ 0x20 ∷ sub ∷ 2 ∷ 0 ∷ 1 ∷ 6 ∷ [])

-- after another entry the first one can't be answered any more
doubted_again : map (λ sub. (refused_again sub).doubted) (1 ∷ 2 ∷ []) ≡ Some 3000000 ∷ Some 2100000 ∷ []
unfolding dialogue_heard is_certain newest_after newest_with request_row_in response_row_in
doubted_again = refl

-- the entry of the newest request, whatever comes after it
entry_kept : map (λ (d : Dialogue). d.entry) (nothing_asked ∷ given_up_first ∷ refused_again 2 ∷ interrupted given_up_first 9000000 ∷ [])
    ≡ None ∷ Some (record { index = 0x2000; sub = 1 }) ∷ Some (record { index = 0x2000; sub = 2 }) ∷ Some (record { index = 0x2000; sub = 1 }) ∷ []
unfolding dialogue_heard is_certain newest_after newest_with request_row_in response_row_in
entry_kept = refl

-- ---- a request that isn't answered, which was said

-- 2000:01 is asked for at 2 s, and given up at 3.5 s, as a download in blocks too; the next request doesn't leave it any more
abbrev unanswered : Dialogue
unanswered = given_up (sent nothing_asked 2000000 Client (0x40 ∷ 0 ∷ 0x20 ∷ 1 ∷ 0 ∷ 0 ∷ 0 ∷ 0 ∷ [])) 3500000

abbrev asked_next : Dialogue → ℕ → Dialogue
asked_next before micros = sent before micros Client (0x40 ∷ 0 ∷ 0x20 ∷ 1 ∷ 0 ∷ 0 ∷ 0 ∷ 0 ∷ [])

-- within a second after that it is in doubt, later it isn't
owed_next : map (λ micros. owes 1000 0 (asked_next unanswered micros)) (4500000 ∷ 4500001 ∷ []) ≡ false ∷ true ∷ []
unfolding dialogue_heard is_certain newest_after newest_with request_row_in response_row_in
owed_next = refl

-- without that it is in doubt, however late it comes
left_next : owes 1000 0 (asked_next (sent nothing_asked 2000000 Client (0x40 ∷ 0 ∷ 0x20 ∷ 1 ∷ 0 ∷ 0 ∷ 0 ∷ 0 ∷ [])) 9000000) ≡ false
unfolding dialogue_heard is_certain newest_after newest_with request_row_in response_row_in
left_next = refl

-- the device may await segments of a block download
block_next : (given_up begun_block 3500000).sub_block ∷ owes 1000 0 (asked_next (given_up begun_block 3500000) 9000000) ∷ [] ≡ true ∷ false ∷ []
unfolding dialogue_heard is_certain newest_after newest_with request_row_in response_row_in
block_next = refl

-- its answer, which comes late, is none of an open transfer: later than a second after the request nothing is said of it
late_answer_after : (exchange_in 1000 0 unanswered 4600000 Server (record { id = 0x585; bytes = 0x43 ∷ 0 ∷ 0x20 ∷ 1 ∷ 1 ∷ 0 ∷ 0 ∷ 0 ∷ [] })).certain ≡ false
unfolding dialogue_heard exchange_in is_certain newest_after newest_with breach_at request_row_in response_row_in
late_answer_after = refl
