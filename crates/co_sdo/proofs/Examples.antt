-- Worked examples of the definitions: which channels exist, who takes a frame, whose time is over.
use Rattle.std.proofs.Common.{◌≡◌, ℕ, List, [], ◌∷◌, refl, Some, None, Option, false, map}
use Rattle.std.specs.Prelude.{◌==◌, if◌then◌else◌}
use Rattle.co_value.specs.declared.key.Key.{Key}
use Rattle.co_value.specs.Keys.{same_key}
use Rattle.co_dict.specs.Rows.{Contents}
use Rattle.co_dict.specs.Stores.{Description}
use Rattle.co_frame.specs.FrameContent.{FrameContent}
use Rattle.co_frame.specs.SdoRequests.{request_row_in}
use Rattle.co_sdo.specs.Log.{Exchanged, Ticked, Log}
use Rattle.co_sdo.specs.Channels.{ChannelSettings, channels_below, channels_of}
use Rattle.co_sdo.specs.Events.{exchange_of, frames_at, held_on, logs_after, number_for, number_in, time_out_of, with_each}

-- ---- which channels exist

abbrev key : ℕ → ℕ → Key
key index sub = record { index = index; sub = sub }

-- a word of two bytes, and bit 31
abbrev word : ℕ → ℕ → ℕ → Option (List ℕ)
word low high top = Some (low ∷ high ∷ 0 ∷ top ∷ [])

-- 1201h has both words; of 1202h the first and of 1203h the second is not valid; of 1204h the second is 0; 1205h has
-- no second word; 1206h has neither; 127Fh has both, and 1280h is no SDO server
abbrev words : Contents
words k =
    if same_key k (key 0x1201 1) then word 0x80 6 0 else (if same_key k (key 0x1201 2) then word 0x81 6 0
    else (if same_key k (key 0x1202 1) then word 0x82 6 0x80 else (if same_key k (key 0x1202 2) then word 0x83 6 0
    else (if same_key k (key 0x1203 1) then word 0x84 6 0 else (if same_key k (key 0x1203 2) then word 0x85 6 0x80
    else (if same_key k (key 0x1204 1) then word 0x86 6 0 else (if same_key k (key 0x1204 2) then word 0 0 0
    else (if same_key k (key 0x1205 1) then word 0x87 6 0
    else (if same_key k (key 0x127F 1) then word 0x88 6 0x40 else (if same_key k (key 0x127F 2) then word 0x89 6 0
    else (if same_key k (key 0x1280 1) then word 0x8A 6 0 else (if same_key k (key 0x1280 2) then word 0x8B 6 0
    else None))))))))))))

abbrev device : Description
device = record { node = 5; rows = λ k. None; initial = words; dummies = λ index. false; keys = [] }

abbrev channel : ℕ → ℕ → ℕ → ChannelSettings
channel number request response = record { number = number; request = request; response = response; greatest = 16; time = 2 }

exist : channels_of device words 16 2 ≡ channel 0 0x605 0x585 ∷ channel 1 0x680 0x681 ∷ channel 127 0x688 0x689 ∷ []
unfolding channels_below
exist = refl

-- channel 0 needs no entry
alone : channels_of device (λ k. None) 16 2 ≡ channel 0 0x605 0x585 ∷ []
unfolding channels_below
alone = refl

-- ---- who takes a frame

abbrev three : List ChannelSettings
three = channel 0 0x605 0x585 ∷ channel 1 0x680 0x681 ∷ channel 2 0x680 0x683 ∷ []

default_channel : number_for three 0x605 ≡ Some 0
default_channel = refl

-- of two with one identifier the lower
lower : number_for three 0x680 ≡ Some 1
lower = refl

-- responses are no requests
response : number_for three 0x585 ≡ None
response = refl

nobody : number_for three 0x606 ≡ None
nobody = refl

-- ---- a frame

abbrev begin : List ℕ
begin = 0x21 ∷ 1 ∷ 0x20 ∷ 0 ∷ 10 ∷ 0 ∷ 0 ∷ 0 ∷ []

abbrev frame : ℕ → List ℕ → FrameContent
frame id bytes = record { id = id; bytes = bytes }

abbrev silent : ℕ → Log
silent n = []

taken : number_in (exchange_of three device words silent (frame 0x680 begin)) ≡ Some 1
taken = refl

passed_over : exchange_of three device words silent (frame 0x680 (0x21 ∷ 1 ∷ 0x20 ∷ 0 ∷ 10 ∷ 0 ∷ 0 ∷ [])) ≡ None
passed_over = refl

no_request : exchange_of three device words silent (frame 0x681 begin) ≡ None
no_request = refl

-- the log of its channel alone is longer
abbrev is_quiet : Log → ℕ
is_quiet [] = 0
is_quiet (e ∷ log) = 1

abbrev lengths : (ℕ → Log) → List ℕ
lengths logs = map (λ n. is_quiet (logs n)) (0 ∷ 1 ∷ 2 ∷ [])

one_log : lengths (logs_after (exchange_of three device words silent (frame 0x680 begin)) silent) ≡ 0 ∷ 1 ∷ 0 ∷ []
one_log = refl

no_log : lengths (logs_after (exchange_of three device words silent (frame 0x681 begin)) silent) ≡ 0 ∷ 0 ∷ 0 ∷ []
no_log = refl

each_log : lengths (with_each Ticked silent) ≡ 1 ∷ 1 ∷ 1 ∷ []
each_log = refl

-- ---- whose time is over: 2 ms each

-- a segmented download was initiated, and then so many ms passed
abbrev begun : Log
begun = Exchanged (record { request = begin; contents = words; answers = [] }) ∷ []

abbrev after_1 : Log
after_1 = Ticked ∷ begun

abbrev after_2 : Log
after_2 = Ticked ∷ Ticked ∷ begun

-- the logs of channels 0, 1 and 2
abbrev logs_of : Log → Log → Log → ℕ → Log
logs_of zeroth first second n = if n == 0 then zeroth else (if n == 1 then first else (if n == 2 then second else []))

not_yet : number_in (time_out_of three (logs_of after_1 after_1 after_1)) ≡ None
unfolding request_row_in
not_yet = refl

lowest : number_in (time_out_of three (logs_of after_2 after_2 after_1)) ≡ Some 0
unfolding request_row_in
lowest = refl

higher : number_in (time_out_of three (logs_of [] after_1 after_2)) ≡ Some 2
unfolding request_row_in
higher = refl

-- nothing is open
nothing_open : number_in (time_out_of three (logs_of (Ticked ∷ Ticked ∷ []) [] [])) ≡ None
unfolding request_row_in
nothing_open = refl

-- time 0 is none
no_time : number_in (time_out_of (record { number = 0; request = 0x605; response = 0x585; greatest = 16; time = 0 } ∷ []) (logs_of after_2 [] [])) ≡ None
unfolding request_row_in
no_time = refl

-- of two whose time is over the other stays open, and is the next
next : number_in (time_out_of three (with_each Ticked (logs_after (time_out_of three (logs_of after_2 after_2 [])) (logs_of after_2 after_2 [])))) ≡ Some 1
unfolding request_row_in
next = refl

-- the abort goes out on the identifier of its responses
abort : frames_at (time_out_of three (logs_of [] after_2 after_2)) ≡ frame 0x681 (0x80 ∷ 1 ∷ 0x20 ∷ 0 ∷ 0 ∷ 0 ∷ 4 ∷ 5 ∷ []) ∷ []
unfolding request_row_in
abort = refl

-- ---- the bytes that are held

abbrev segment : List ℕ
segment = 0 ∷ 0x30 ∷ 0x31 ∷ 0x32 ∷ 0x33 ∷ 0x34 ∷ 0x35 ∷ 0x36 ∷ []

abbrev seven : Log
seven = Exchanged (record { request = segment; contents = words; answers = [] }) ∷ begun

held : held_on three (logs_of begun seven []) 1 ≡ 7
unfolding request_row_in
held = refl

other_held : held_on three (logs_of begun seven []) 0 ≡ 0
unfolding request_row_in
other_held = refl

-- a channel that doesn't exist
none_held : held_on three (λ n. seven) 3 ≡ 0
none_held = refl
