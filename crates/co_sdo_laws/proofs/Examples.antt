-- Worked transfers between a client and a channel, computed from the definitions over a dictionary of two entries.
use Rattle.std.proofs.Common.{map, ◌≡◌, ℕ, List, [], ◌∷◌, refl, codes, Some, None, Option, true, false, reverse}
use Rattle.std.specs.Prelude.{pos, ◌+◌, ◌-◌, ◌*◌, nat_lt, if◌then◌else◌}
use Rattle.co_value.specs.declared.key.Key.{Key}
use Rattle.co_value.specs.Keys.{same_key}
use Rattle.co_value.specs.declared.data_type.DataType.TheVariants.{VisibleString, Domain}
use Rattle.co_value.specs.declared.data_type.DataType.{DataType}
use Rattle.co_profile.specs.declared.access.Access.TheVariants.{Rw}
use Rattle.co_frame.specs.SdoRequests.{request_row_in}
use Rattle.co_frame.specs.SdoResponses.{response_row_in}
use Rattle.co_dict.specs.declared.row.Row.{Row}
use Rattle.co_dict.specs.Objects.{has_object}
use Rattle.co_dict.specs.Stores.{Description}
use Rattle.co_sdo_client.specs.declared.mode.Mode.{Mode}
use Rattle.co_sdo_client.specs.declared.mode.Mode.TheVariants.{Plain, Segmented, Block}
use Rattle.co_sdo_client.specs.declared.state.ClientState.{ClientState}
use Rattle.co_sdo_client.specs.declared.state.ClientState.TheVariants.{Waiting, Done, Failed}
use Rattle.co_sdo_client.specs.Calls.{Job, Download, Upload}
use Rattle.co_sdo_client.specs.Outcomes.{outcome, sent, result}
use Rattle.co_sdo.specs.Refused.{reading_refusal, initiate_refusal, completion_refusal}
use Rattle.co_sdo_laws.specs.Undisturbed.{is_expedited_download, is_segmented_download, upload_requests, block_frames, block_upload_frames, block_download_requests, block_download_answers, block_upload_requests, block_upload_answers, answers_sent, rounds_after, arrived}
use Rattle.co_sdo_laws.specs.World.{Setup, WorldEvent, Requests, Answers, Delivered, Lost, Repeated, ClientTicked, ChannelTicked, world_after}

-- ---- a dictionary: the string 2001:00 of at most 16 bytes, and the domain 2100:00 of at most 20

abbrev pub string_key : Key
string_key = record { index = 0x2001; sub = 0 }

abbrev pub domain_key : Key
domain_key = record { index = 0x2100; sub = 0 }

abbrev pub row : DataType → ℕ → Row
row data_type capacity = record { data_type = data_type; access = Rw; low = pos 0; high = pos 0; capacity = capacity; mappable = false }

abbrev pub row_in : Key → Option Row
row_in key = if same_key key string_key then Some (row VisibleString 16) else (if same_key key domain_key then Some (row Domain 20) else None)

abbrev pub bytes_in : Key → Option (List ℕ)
bytes_in key = if same_key key string_key then Some (codes "ABCDEFGHI") else (if same_key key domain_key then Some [] else None)

abbrev pub dictionary : Description
dictionary = record { node = 5; rows = row_in; initial = bytes_in; dummies = λ _. false; keys = string_key ∷ domain_key ∷ [] }

-- the client waits 3 ms for an answer, the channel 2 ms for a request
abbrev pub setup : Key → Mode → Job → Setup
setup key mode job = record { call = record { key = key; mode = mode; time = 3; job = job }; time = 2; description = dictionary; contents = bytes_in; past = [] }

-- ---- what is shown of a world

abbrev pub digit : ℕ → ℕ
digit code = if nat_lt code 65 then code - 48 else code - 55

abbrev pub hex : List ℕ → List ℕ
hex [] = []
hex (high ∷ []) = []
hex (high ∷ low ∷ digits) = (16 * digit high + digit low) ∷ hex digits

pub record Report : Type 0 where
  pub requests : List (List ℕ)
  pub answers : List (List ℕ)
  pub entry : Option (List ℕ)
  pub state : ClientState
  pub sent : ℕ
  pub value : List ℕ

-- the frames on their way, the entry's bytes and the client, after events, the first one first
abbrev pub report : Setup → List WorldEvent → Report
report s events = record {
  requests = (world_after s (reverse events)).requests;
  answers = (world_after s (reverse events)).answers;
  entry = (world_after s (reverse events)).contents s.call.key;
  state = outcome s.call (world_after s (reverse events)).events;
  sent = sent s.call (world_after s (reverse events)).events;
  value = result s.call (world_after s (reverse events)).events;
}

-- a client that waits, is done, or has failed, and has sent so many frames; the frames on their way, and the entry's bytes
abbrev pub waits : ℕ → List (List ℕ) → List (List ℕ) → List ℕ → Report
waits sent requests answers entry =
    record { requests = requests; answers = answers; entry = Some entry; state = Waiting; sent = sent; value = [] }

abbrev pub is_done : ℕ → List (List ℕ) → List (List ℕ) → List ℕ → List ℕ → Report
is_done sent requests answers entry value =
    record { requests = requests; answers = answers; entry = Some entry; state = Done; sent = sent; value = value }

abbrev pub has_failed : ℕ → ℕ → List (List ℕ) → List (List ℕ) → List ℕ → Report
has_failed code sent requests answers entry = record {
  requests = requests;
  answers = answers;
  entry = Some entry;
  state = Failed (record { 0 = code });
  sent = sent;
  value = [];
}

abbrev pub r : WorldEvent
r = Delivered Requests

abbrev pub a : WorldEvent
a = Delivered Answers

-- ---- worked transfers

-- a row: a client's setup, its events, the first one first, and what they come to
abbrev pub after : Setup → List WorldEvent → Report → Setup × List WorldEvent × Report
after s events expected = (s, events, expected)

abbrev pub AllShow : List (Setup × List WorldEvent × Report) → Type 0
AllShow rows = map (λ row. report row.0 row.1) rows ≡ map (λ row. row.2) rows

-- ten bytes to the string, in segments
abbrev pub ten : Setup
ten = setup string_key Segmented (Download (codes "0123456789") true)

-- fourteen bytes to the domain, in blocks
abbrev pub fourteen : Setup
fourteen = setup domain_key Block (Download (codes "0123456789ABCD") true)

-- the nine bytes of the string, in segments and in blocks
abbrev pub nine : Setup
nine = setup string_key Segmented (Upload 9)

abbrev pub nine_in_blocks : Setup
nine_in_blocks = setup string_key Block (Upload 9)

worked : AllShow (
    after ten [] (waits 1 (hex (codes "210120000A000000") ∷ []) [] (codes "ABCDEFGHI"))
    ∷ after ten (r ∷ []) (waits 1 [] (hex (codes "6001200000000000") ∷ []) (codes "ABCDEFGHI"))
    ∷ after ten (r ∷ a ∷ []) (waits 2 (hex (codes "0030313233343536") ∷ []) [] (codes "ABCDEFGHI"))
    -- nothing is on its way in the queue: nothing happens
    ∷ after ten (a ∷ r ∷ r ∷ a ∷ []) (waits 2 (hex (codes "0030313233343536") ∷ []) [] (codes "ABCDEFGHI"))
    ∷ after ten (r ∷ a ∷ r ∷ a ∷ r ∷ []) (waits 3 [] (hex (codes "3000000000000000") ∷ []) (codes "0123456789"))
    ∷ after ten (r ∷ a ∷ r ∷ a ∷ r ∷ a ∷ []) (is_done 3 [] [] (codes "0123456789") [])
    -- the first segment is lost
    ∷ after ten (r ∷ a ∷ Lost Requests ∷ r ∷ []) (waits 2 [] [] (codes "ABCDEFGHI"))
    -- the confirmation of its begin comes twice: the second isn't awaited
    ∷ after ten (r ∷ Repeated Answers ∷ a ∷ [])
    (has_failed 0x05040001 3 (hex (codes "0030313233343536") ∷ hex (codes "8001200001000405") ∷ []) [] (codes "ABCDEFGHI"))
    -- the first segment comes twice: the second has the wrong toggle
    ∷ after ten (r ∷ a ∷ Repeated Requests ∷ r ∷ [])
    (waits 2 [] (hex (codes "2000000000000000") ∷ hex (codes "8001200000000305") ∷ []) (codes "ABCDEFGHI"))
    -- the channel's time is over after two of its ticks, the client's after three of its own
    ∷ after ten (ChannelTicked ∷ ChannelTicked ∷ r ∷ ChannelTicked ∷ ChannelTicked ∷ [])
    (waits 1 [] (hex (codes "6001200000000000") ∷ hex (codes "8001200000000405") ∷ []) (codes "ABCDEFGHI"))
    ∷ after ten (r ∷ ClientTicked ∷ ClientTicked ∷ ClientTicked ∷ [])
    (has_failed 0x05040000 2 (hex (codes "8001200000000405") ∷ []) (hex (codes "6001200000000000") ∷ []) (codes "ABCDEFGHI"))
    ∷ after nine (r ∷ a ∷ r ∷ a ∷ r ∷ a ∷ []) (is_done 3 [] [] (codes "ABCDEFGHI") (codes "ABCDEFGHI"))
    ∷ after fourteen (r ∷ a ∷ []) (waits 3 (hex (codes "0130313233343536") ∷ hex (codes "8237383941424344") ∷ []) [] [])
    ∷ after fourteen (r ∷ a ∷ r ∷ r ∷ []) (waits 3 [] (hex (codes "A2027F0000000000") ∷ []) [])
    ∷ after fourteen (r ∷ a ∷ r ∷ r ∷ a ∷ r ∷ a ∷ []) (is_done 4 [] [] (codes "0123456789ABCD") [])
    ∷ after nine_in_blocks (r ∷ a ∷ r ∷ a ∷ a ∷ r ∷ a ∷ r ∷ []) (is_done 4 [] [] (codes "ABCDEFGHI") (codes "ABCDEFGHI"))
    ∷ [])
unfolding request_row_in response_row_in reading_refusal initiate_refusal completion_refusal has_object
worked = refl

-- ---- how many frames there are

-- an expedited upload needs one request, of 0 or 5 to 7 bytes two, of 8 three
some_requests : map upload_requests (0 ∷ 1 ∷ 4 ∷ 5 ∷ 7 ∷ 8 ∷ []) ≡ 2 ∷ 1 ∷ 1 ∷ 2 ∷ 2 ∷ 3 ∷ []
some_requests = refl

-- of a block download, the frames of the client, of the channel, and of both; then of a block upload
abbrev counts : ℕ → List ℕ
counts n = block_download_requests n ∷ block_download_answers n ∷ block_frames n
    ∷ block_upload_requests n ∷ block_upload_answers n ∷ block_upload_frames n ∷ []

-- one sub-block up to 889 bytes, then two
some_counts : map counts (0 ∷ 1 ∷ 7 ∷ 8 ∷ 889 ∷ 890 ∷ [])
    ≡ (3 ∷ 3 ∷ 6 ∷ 4 ∷ 3 ∷ 7 ∷ []) ∷ (3 ∷ 3 ∷ 6 ∷ 4 ∷ 3 ∷ 7 ∷ []) ∷ (3 ∷ 3 ∷ 6 ∷ 4 ∷ 3 ∷ 7 ∷ [])
    ∷ (4 ∷ 3 ∷ 7 ∷ 4 ∷ 4 ∷ 8 ∷ []) ∷ (129 ∷ 3 ∷ 132 ∷ 4 ∷ 129 ∷ 133 ∷ [])
    ∷ (130 ∷ 4 ∷ 134 ∷ 5 ∷ 130 ∷ 135 ∷ []) ∷ []
some_counts = refl

-- a plain download is expedited from 1 to 4 bytes, and otherwise in segments; a segmented one is always
expedited : map (λ bytes. is_expedited_download Plain (Download bytes false))
    ([] ∷ codes "a" ∷ codes "abcd" ∷ codes "abcde" ∷ []) ≡ false ∷ true ∷ true ∷ false ∷ []
expedited = refl

in_segments : map (λ mode. map (λ bytes. is_segmented_download mode (Download bytes true))
    ([] ∷ codes "a" ∷ codes "abcd" ∷ codes "abcde" ∷ [])) (Plain ∷ Segmented ∷ [])
    ≡ (true ∷ false ∷ false ∷ true ∷ []) ∷ (true ∷ true ∷ true ∷ true ∷ []) ∷ []
in_segments = refl

-- three rounds are enough for the three requests of ten bytes
ten_in_rounds : map (λ n. arrived (world_after ten (rounds_after n []))) (0 ∷ 1 ∷ 2 ∷ 3 ∷ 4 ∷ []) ≡ 0 ∷ 2 ∷ 4 ∷ 6 ∷ 6 ∷ []
unfolding request_row_in response_row_in reading_refusal initiate_refusal completion_refusal has_object
ten_in_rounds = refl

-- and of fourteen bytes in blocks; how many the channel sends then, also of nine bytes, and with an
-- abort at the end of its time
some_frames : arrived (world_after fourteen (rounds_after 7 []))
    ∷ map (λ w. answers_sent w.log) (world_after fourteen (rounds_after 7 []) ∷ world_after nine_in_blocks (rounds_after 8 [])
    ∷ world_after ten (ChannelTicked ∷ ChannelTicked ∷ r ∷ []) ∷ [])
    ≡ block_frames 14 ∷ block_download_answers 14 ∷ block_upload_answers 9 ∷ 2 ∷ []
unfolding request_row_in response_row_in reading_refusal initiate_refusal completion_refusal has_object
some_frames = refl
