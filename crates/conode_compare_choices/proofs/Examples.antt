-- What is a choice, on both sides of each edge, computed from the definitions.
use Rattle.std.proofs.Common.{◌≡◌, ℕ, ◌+◌, Bool, true, false, List, [], ◌∷◌, map, Option, Some, None, refl}
use Rattle.std.specs.Prelude.{pos}
use Rattle.co_profile.specs.declared.access.Access.{Access}
use Rattle.co_profile.specs.declared.access.Access.TheVariants.{Ro, Rw, Wo}
use Rattle.co_sheet.specs.Content.{Row}
use Rattle.co_sheet.specs.Limits.{number}
use Rattle.co_value.specs.declared.data_type.DataType.{DataType}
use Rattle.co_value.specs.declared.data_type.DataType.TheVariants.{Unsigned8, Unsigned16, Unsigned32, VisibleString}
use Rattle.co_value.specs.declared.key.Key.{Key}
use Rattle.conode_explain_transfers.specs.declared.ended.Ended.{Ended}
use Rattle.conode_explain_transfers.specs.declared.ended.Ending.{Ending}
use Rattle.conode_explain_transfers.specs.declared.ended.Ending.TheVariants.{Done, Aborted, Irregular}
use Rattle.conode_explain_transfers.specs.declared.kinds.Direction.{Direction}
use Rattle.conode_explain_transfers.specs.declared.kinds.Direction.TheVariants.{Download, Upload}
use Rattle.conode_explain_transfers.specs.declared.kinds.Protocol.{Protocol}
use Rattle.conode_explain_transfers.specs.declared.kinds.Protocol.TheVariants.{Expedited, Segmented, Block, Undecided}
use Rattle.conode_explain_transfers.specs.declared.kinds.Side.TheVariants.{Client, Server}
use Rattle.conode_explain_transfers.specs.declared.kinds.What.{What}
use Rattle.conode_explain_transfers.specs.declared.kinds.What.TheVariants.{Part, Stray, Unexpected}
use Rattle.conode_compare_transfers.specs.declared.dialogue.Exchange.{Exchange}
use Rattle.conode_compare_transfers.specs.Timeouts.{resumed_after, served_key}
use Rattle.conode_compare_rules.specs.declared.kind.FrameKind.{FrameKind}
use Rattle.conode_compare_nmt.specs.declared.finding.Remark.TheVariants.{EarlyHeartbeat, Restarted as RestartedRemark}
use Rattle.conode_compare_rules.specs.declared.kind.FrameKind.TheVariants.{Control, Sdo, Other}
use Rattle.conode_compare_nmt.specs.declared.limits.Limits.{Limits}
use Rattle.conode_compare_choices.specs.declared.choice.Choice.{Choice}
use Rattle.conode_compare_choices.specs.declared.choice.Choice.TheVariants.{Segments, NoSize, ShortSegment, NoCrc, BlockSize, Switched, Code, Timeout, NoTimeout, Heartbeat}
use Rattle.conode_compare_choices.specs.Choices.{choice_at}
use Rattle.conode_compare_choices.specs.RefusalCodes.{code_choice, sheet_code}
use Rattle.conode_compare_choices.specs.Requests.{nothing_requested, request_code}
use Rattle.conode_compare_choices.specs.Timeouts.{resumed_with, timeout_choice}

abbrev key : Key
key = record { index = 0x2000; sub = 1 }

abbrev transfer : Direction → Protocol → Ending → ℕ → List ℕ → Option Ended
transfer direction protocol ending count bytes = Some (record {
  key = key;
  direction = direction;
  protocol = protocol;
  bytes = count;
  first = record { items = bytes };
  frames = 2;
  begun = 1;
  newest = 1;
  end = 2;
  ending = ending;
  fault = None;
})

abbrev exchange : Bool → What → Option Key → Option Ended → Option Exchange
exchange certain what of ended = Some (record {
  heard = record { what = what; of = of; ended = ended };
  asked = None;
  owed = true;
  certain = certain;
  breach = None;
  awaited = None;
})

-- an answer with this first byte, of 2000:01, and these bytes from byte 4 on
abbrev answer : ℕ → List ℕ → FrameKind
answer first bytes = Sdo Server (record { id = 0x585; bytes = first ∷ 0x00 ∷ 0x20 ∷ 1 ∷ bytes })

-- ---- the end of a transfer

abbrev ends : ℕ → Direction → Protocol → Ending → ℕ → Option Choice
ends first direction protocol ending count = choice_at [] nothing_requested (answer first (0 ∷ [])) (exchange true Part None (transfer direction protocol ending count [])) None

segments : map (ends 1 Upload Segmented (Done false)) (0 ∷ 1 ∷ 4 ∷ 5 ∷ []) ≡ None ∷ Some (Segments key 1) ∷ Some (Segments key 4) ∷ None ∷ []
unfolding choice_at
segments = refl

downloaded_segments : ends 0x20 Download Segmented (Done false) 4 ≡ None
unfolding choice_at
downloaded_segments = refl

irregular_segments : ends 1 Upload Segmented Irregular 4 ≡ None
unfolding choice_at
irregular_segments = refl

in_a_block : ends 0xC1 Upload Block (Done true) 4 ≡ None
unfolding choice_at
in_a_block = refl

without_size : ends 0x42 Upload Expedited (Done false) 4 ≡ Some (NoSize key)
unfolding choice_at
without_size = refl

with_size : ends 0x4B Upload Expedited (Done false) 2 ≡ None
unfolding choice_at
with_size = refl

acknowledge : ends 0x60 Download Expedited (Done false) 2 ≡ None
unfolding choice_at
acknowledge = refl

timed_out : ends 0x80 Download Segmented (Aborted Server (record { 0 = 0x05040000 })) 2 ≡ Some (Timeout key)
unfolding choice_at
timed_out = refl

refused : ends 0x80 Download Segmented (Aborted Server (record { 0 = 0x05040001 })) 2 ≡ None
unfolding choice_at code_choice sheet_code
refused = refl

-- of an object that the sheet doesn't have
sub_index_missing : ends 0x80 Download Segmented (Aborted Server (record { 0 = 0x06090011 })) 2 ≡ Some (Code key 0x06090011 0x06020000)
unfolding choice_at code_choice sheet_code
sub_index_missing = refl

by_client : ends 0x80 Download Segmented (Aborted Client (record { 0 = 0x05040000 })) 2 ≡ None
unfolding choice_at
by_client = refl

-- where an earlier request may be answered, and a frame of the client
uncertain : choice_at [] nothing_requested (answer 0x42 (0 ∷ [])) (exchange false Part None (transfer Upload Expedited (Done false) 4 [])) None ≡ None
unfolding choice_at
uncertain = refl

of_client : choice_at [] nothing_requested (Sdo Client (record { id = 0x605; bytes = 0x40 ∷ 0 ∷ 0x20 ∷ 1 ∷ [] })) (exchange true Part None (transfer Upload Segmented (Done false) 4 [])) None ≡ None
unfolding choice_at
of_client = refl

no_exchange : choice_at [] nothing_requested Other None None ≡ None
unfolding choice_at
no_exchange = refl

-- ---- an answer after which the transfer goes on

abbrev goes_on : ℕ → List ℕ → Option Choice
goes_on first bytes = choice_at [] nothing_requested (answer first bytes) (exchange true Part (Some key) None) None

-- toggle, n and c
short : map (λ first. goes_on first []) (0x00 ∷ 0x02 ∷ 0x1E ∷ 0x03 ∷ 0x10 ∷ []) ≡ None ∷ Some (ShortSegment key 6) ∷ Some (ShortSegment key 0) ∷ None ∷ None ∷ []
unfolding choice_at
short = refl

confirmed_segment : goes_on 0x22 [] ≡ None
unfolding choice_at
confirmed_segment = refl

in_segments : map (λ first. goes_on first []) (0x40 ∷ 0x41 ∷ []) ≡ Some (NoSize key) ∷ None ∷ []
unfolding choice_at
in_segments = refl

-- sc and the block size
block_download : map (λ first. goes_on first (127 ∷ [])) (0xA0 ∷ 0xA4 ∷ 0xA1 ∷ []) ≡ Some (NoCrc key) ∷ None ∷ None ∷ []
unfolding choice_at
block_download = refl

smaller_blocks : goes_on 0xA4 (126 ∷ []) ≡ Some (BlockSize key 126)
unfolding choice_at
smaller_blocks = refl

-- the acknowledge of a sub-block has the size of the next one
abbrev acknowledged : ℕ → Option Choice
acknowledged size = choice_at [] nothing_requested (Sdo Server (record { id = 0x585; bytes = 0xA2 ∷ 21 ∷ size ∷ [] })) (exchange true Part (Some key) None) None

next_blocks : map acknowledged (127 ∷ 126 ∷ 1 ∷ 0 ∷ []) ≡ None ∷ Some (BlockSize key 126) ∷ Some (BlockSize key 1) ∷ None ∷ []
unfolding choice_at
next_blocks = refl

-- sc and s
block_upload : map (λ first. goes_on first []) (0xC0 ∷ 0xC2 ∷ 0xC4 ∷ 0xC6 ∷ []) ≡ Some (NoCrc key) ∷ Some (NoCrc key) ∷ Some (NoSize key) ∷ None ∷ []
unfolding choice_at
block_upload = refl

block_end : goes_on 0xC1 [] ≡ None
unfolding choice_at
block_end = refl

-- ---- by another protocol

-- the answer to initiate of a block upload; one in one frame ends the transfer
abbrev switched : Bool → ℕ → Option Ended → Option Choice
switched switches first ended = choice_at [] nothing_requested (answer first []) (Some (record {
  heard = record { what = Part; of = Some key; ended = ended };
  asked = Some (record { key = key; micros = 1; writes = false; switches = switches });
  owed = true;
  certain = true;
  breach = None;
  awaited = None;
})) None

switched_to_one_frame : switched true 0x43 (transfer Upload Expedited (Done false) 4 []) ≡ Some (Switched key)
unfolding choice_at
switched_to_one_frame = refl

switched_to_segments : switched true 0x41 None ≡ Some (Switched key)
unfolding choice_at
switched_to_segments = refl

in_blocks : switched true 0xC6 None ≡ None
unfolding choice_at
in_blocks = refl

without_threshold : switched false 0x41 None ≡ None
unfolding choice_at
without_threshold = refl

-- ---- heartbeats

early : choice_at [] nothing_requested (Control 5) None (Some (EarlyHeartbeat 300 1000)) ≡ Some (Heartbeat 300 1000)
unfolding choice_at
early = refl

restarted : choice_at [] nothing_requested (Control 0) None (Some RestartedRemark) ≡ None
unfolding choice_at
restarted = refl

-- ---- without an open transfer

stray : choice_at [] nothing_requested (answer 0x80 (0 ∷ 0 ∷ 4 ∷ 5 ∷ [])) (exchange true Stray None None) None ≡ Some (Timeout key)
unfolding choice_at
stray = refl

other_stray : choice_at [] nothing_requested (answer 0x80 (1 ∷ 0 ∷ 4 ∷ 5 ∷ [])) (exchange true Stray None None) None ≡ None
unfolding choice_at
other_stray = refl

unexpected : choice_at [] nothing_requested (answer 0x80 (0 ∷ 0 ∷ 4 ∷ 5 ∷ [])) (exchange true Unexpected None None) None ≡ None
unfolding choice_at
unexpected = refl

-- ---- abort codes

abbrev entry : ℕ → ℕ → DataType → Access → Row
entry index sub data_type access = record {
  key = record { index = index; sub = sub };
  data_type = data_type;
  access = access;
  low = Some (pos 10);
  high = Some (pos 20);
  default = number (pos 7);
  mappable = false;
  name = None;
  line = 1;
}

-- 1017:00, 2000:00 (read only), 2000:01, 2000:02 (write only), 2001:00
abbrev sheet : List Row
sheet =
    entry 0x1017 0 Unsigned16 Rw ∷ entry 0x2000 0 Unsigned8 Ro ∷ entry 0x2000 1 Unsigned16 Rw ∷ entry 0x2000 2 Unsigned32 Wo ∷ entry 0x2001 0 VisibleString Rw ∷ []

abbrev refused_of : ℕ → ℕ → Direction → Protocol → List ℕ → Ended
refused_of index sub direction protocol bytes = record {
  key = record { index = index; sub = sub };
  direction = direction;
  protocol = protocol;
  bytes = 0;
  first = record { items = bytes };
  frames = 2;
  begun = 1;
  newest = 1;
  end = 2;
  ending = Aborted Server (record { 0 = 0 });
  fault = None;
}

abbrev code_of : ℕ → ℕ → Direction → Protocol → List ℕ → Option ℕ
code_of index sub direction protocol bytes = sheet_code sheet (refused_of index sub direction protocol bytes)

-- no such object, no such sub-index
missing_entries : map (λ index. code_of index 3 Upload Undecided []) (0x2000 ∷ 0x2002 ∷ []) ≡ Some 0x06090011 ∷ Some 0x06020000 ∷ []
unfolding sheet_code
missing_entries = refl

accesses : code_of 0x2000 0 Download Segmented [] ∷ code_of 0x2000 0 Upload Undecided [] ∷ code_of 0x2000 2 Upload Undecided [] ∷ code_of 0x2000 2 Download Segmented [] ∷ []
    ≡ Some 0x06010002 ∷ None ∷ Some 0x06010001 ∷ None ∷ []
unfolding sheet_code
accesses = refl

-- the other code that fits, in an abort of 2000h or 2002h
abbrev code_for : ℕ → ℕ → Direction → List ℕ → ℕ → Option Choice
code_for low sub direction bytes came =
    code_choice sheet nothing_requested None (record { id = 0x585; bytes = 0x80 ∷ low ∷ 0x20 ∷ sub ∷ [] }) (refused_of (0x2000 + low) sub direction Expedited bytes) came

abbrev entry_key : ℕ → ℕ → Key
entry_key low sub = record { index = 0x2000 + low; sub = sub }

read_only : map (code_for 0 0 Download (5 ∷ [])) (0x06010000 ∷ 0x06010002 ∷ 0x06010001 ∷ 0x08000000 ∷ [])
    ≡ Some (Code (entry_key 0 0) 0x06010000 0x06010002) ∷ None ∷ None ∷ None ∷ []
unfolding code_choice sheet_code
read_only = refl

write_only : code_for 0 2 Upload [] 0x06010000 ≡ Some (Code (entry_key 0 2) 0x06010000 0x06010001)
unfolding code_choice sheet_code
write_only = refl

not_there : code_for 0 3 Upload [] 0x06020000 ∷ code_for 2 3 Upload [] 0x06090011 ∷ code_for 0 3 Upload [] 0x06090011 ∷ []
    ≡ Some (Code (entry_key 0 3) 0x06020000 0x06090011) ∷ Some (Code (entry_key 2 3) 0x06090011 0x06020000) ∷ None ∷ []
unfolding code_choice sheet_code
not_there = refl

-- the answer to the request of a download: one byte of two, and a number above the limit of 20
abbrev download_code : Bool → ℕ → List ℕ → ℕ → Option Choice
download_code writes first rest came =
    code_choice sheet (record { first = first; rest = rest }) (Some (record { key = entry_key 0 1; micros = 1; writes = writes; switches = false }))
    (record { id = 0x585; bytes = 0x80 ∷ 0 ∷ 0x20 ∷ 1 ∷ [] }) (refused_of 0x2000 1 Download Expedited []) came

one_byte_of_two : map (download_code true 0x2F (15 ∷ 0 ∷ 0 ∷ 0 ∷ [])) (0x06070010 ∷ 0x06070013 ∷ 0x06090030 ∷ []) ≡ Some (Code (entry_key 0 1) 0x06070010 0x06070013) ∷ None ∷ None ∷ []
unfolding code_choice sheet_code request_code
one_byte_of_two = refl

too_high : download_code true 0x2B (21 ∷ 0 ∷ 0 ∷ 0 ∷ []) 0x06090030 ≡ Some (Code (entry_key 0 1) 0x06090030 0x06090031)
unfolding code_choice sheet_code request_code
too_high = refl

-- where it isn't the answer to one
of_no_download : download_code false 0x2F (15 ∷ 0 ∷ 0 ∷ 0 ∷ []) 0x06070010 ∷ code_choice sheet (record { first = 0x2F; rest = 15 ∷ 0 ∷ 0 ∷ 0 ∷ [] }) None
    (record { id = 0x585; bytes = 0x80 ∷ 0 ∷ 0x20 ∷ 1 ∷ [] }) (refused_of 0x2000 1 Download Expedited []) 0x06070010 ∷ [] ≡ None ∷ None ∷ []
unfolding code_choice sheet_code request_code
of_no_download = refl

-- a read-only entry has another code first
of_read_only : code_choice sheet (record { first = 0x2B; rest = 15 ∷ 0 ∷ 0 ∷ 0 ∷ [] }) (Some (record { key = entry_key 0 0; micros = 1; writes = true; switches = false }))
    (record { id = 0x585; bytes = 0x80 ∷ 0 ∷ 0x20 ∷ 0 ∷ [] }) (refused_of 0x2000 0 Download Expedited []) 0x06070010 ≡ None
unfolding code_choice sheet_code request_code
of_read_only = refl

-- an abort of another entry answers an earlier request
of_another_entry : code_choice sheet nothing_requested None (record { id = 0x585; bytes = 0x80 ∷ 1 ∷ 0x20 ∷ 0 ∷ [] }) (refused_of 0x2000 0 Download Expedited (5 ∷ [])) 0x06010000 ≡ None
unfolding code_choice sheet_code
of_another_entry = refl

-- ---- a transfer that goes on after the timeout

abbrev timing : Option ℕ → Limits
timing time = record { tolerance = 10; drift = 1; answer = 1000; boot = 10000; time = time }

abbrev goes_on_after : Option ℕ → Option ℕ → Option Exchange → Option Choice
goes_on_after time waited e = timeout_choice (timing time) waited (answer 0 (0 ∷ [])) e

-- 1000 ms, with 10 ms and 1 %
after_the_timeout : map (λ waited. goes_on_after (Some 1000) (Some waited) (exchange true Part (Some key) None)) (1020000 ∷ 1020001 ∷ [])
    ≡ None ∷ Some (NoTimeout key 1020001 1000) ∷ []
unfolding timeout_choice served_key
after_the_timeout = refl

-- it isn't known when the device times out; it never does; nothing was awaited; an earlier request may
-- be answered
no_timeout : goes_on_after None (Some 5000000) (exchange true Part (Some key) None) ∷ goes_on_after (Some 0) (Some 5000000) (exchange true Part (Some key) None)
    ∷ goes_on_after (Some 1000) None (exchange true Part (Some key) None) ∷ goes_on_after (Some 1000) (Some 5000000) (exchange false Part (Some key) None) ∷ []
    ≡ None ∷ None ∷ None ∷ None ∷ []
unfolding timeout_choice served_key
no_timeout = refl

-- the end of the transfer, an abort, and a frame of no transfer
after_timeout_by : map (goes_on_after (Some 1000) (Some 5000000)) (exchange true Part None (transfer Upload Segmented (Done false) 9 []) ∷ exchange true Part None (transfer Upload Segmented (Aborted Server (record { 0 = 0x05040000 })) 9 []) ∷ exchange true Unexpected (Some key) None ∷ [])
    ≡ Some (NoTimeout key 5000000 1000) ∷ None ∷ None ∷ []
unfolding timeout_choice served_key
after_timeout_by = refl

not_by_the_client : timeout_choice (timing (Some 1000)) (Some 5000000) (Sdo Client (record { id = 0x605; bytes = [] })) (exchange true Part (Some key) None) ≡ None
unfolding timeout_choice served_key
not_by_the_client = refl

-- the client's frame, a heartbeat, and the device's answer
resumed_by : resumed_with (Some 3) (Sdo Client (record { id = 0x605; bytes = [] })) (exchange true Part (Some key) None) ∷ resumed_with (Some 3) (Control 5) None ∷ resumed_with (Some 3) (answer 0 []) (exchange true Part (Some key) None) ∷ []
    ≡ Some 3 ∷ Some 3 ∷ None ∷ []
unfolding resumed_after
resumed_by = refl
