-- Which frames confirm a transfer.
use Rattle.std.proofs.Common.{◌≡◌, ℕ, List, refl, sym, ◌∙◌}
use Rattle.std.specs.Prelude.{Bool, true, false, not, ◌&&◌, nat_lt, ◌==◌, if◌then◌else◌, Option, Some, None, ◌+◌}
use Rattle.arrayvec.specs.ArrayVec.{ArrayVec}
use Rattle.co_value.specs.declared.key.Key.{Key}
use Rattle.co_value.specs.Keys.{same_key}
use Rattle.co_frame.specs.Segments.{same_bool}
use Rattle.co_frame.specs.declared.block_segment.BlockSegment.{BlockSegment}
use Rattle.co_frame.specs.declared.sdo_request.ExpeditedData.{ExpeditedData}
use Rattle.co_frame.specs.declared.sdo_request.SdoRequest.{SdoRequest}
use Rattle.co_frame.specs.declared.sdo_request.SdoRequest.TheVariants.{DownloadSegment, UploadSegment as NextSegment, BlockUploadEnd as UploadEnd, BlockUploadAcknowledge, BlockUploadStart, BlockDownloadEnd}
use Rattle.co_frame.specs.declared.sdo_response.SdoResponse.{SdoResponse}
use Rattle.co_frame.specs.declared.sdo_response.SdoResponse.TheVariants.{DownloadDone, DownloadSegmentDone, UploadExpedited, UploadInitiated, UploadSegment, Abort as Refuse, BlockDownloadInitiated, BlockDownloadDone, BlockDownloadAcknowledge, BlockUploadInitiated, BlockUploadEnd}
use Rattle.conode_explain_transfers.specs.declared.reading.Reading.{Reading}
use Rattle.conode_explain_transfers.specs.declared.reading.Reading.TheVariants.{Segment, Request, Response}
use Rattle.conode_explain_transfers.specs.declared.stage.Stage.{Stage}
use Rattle.conode_explain_transfers.specs.declared.stage.Stage.TheVariants.{Initiated, DownloadConfirmed, DownloadSent, UploadTaken, UploadAsked, BlockInitiated, SubBlock, AllAcknowledged, BlockEnded, Confirmed}
use Rattle.conode_explain_transfers.specs.declared.transfer.Transfer.{Transfer}
use Rattle.conode_explain_transfers.specs.BlockTurns.{is_block, block_download_initiated, block_upload_initiated, upload_started_at, segment_added, segment_ahead, segment_again, block_segment_at, acknowledged_at, acknowledged, crc_in, block_ended_at, block_ended, end_confirmed_at, end_confirmed}
use Rattle.conode_explain_transfers.specs.Data.{confirms}
use Rattle.conode_explain_transfers.specs.Initiates.{has_crc}
use Rattle.conode_explain_transfers.specs.SegmentedTurns.{answering, download_segment_at, segment_done_at, upload_initiated, upload_request_at, upload_segment_at, upload_stage}
use Rattle.conode_explain_transfers.specs.Stages.{is_initiated, confirmed_with}
use Rattle.conode_explain_transfers.specs.Transfers.{Turn, is_download, awaited_number, unexpected, repeated, overtaken, irregular, goes_on, takes_data}
use Rattle.conode_explain_transfers.specs.Turns.{request_turn, response_turn, turn_of}

-- the transfer isn't confirmed
abbrev Unconfirmed : Transfer → Type 0
Unconfirmed transfer = confirmed_with transfer.stage ≡ None

-- it isn't confirmed after a frame
abbrev Keeps : Turn → Type 0
Keeps turn = Unconfirmed turn.transfer

-- where it is confirmed after a frame, and its frames go on with one another, this test holds
abbrev Confirms : Turn → Bool → Type 0
Confirms turn ok = (crc : Option ℕ) → confirmed_with turn.transfer.stage ≡ Some crc → turn.transfer.irregular ≡ false → ok ≡ true

none_some : {A : Type 0} (x : Option A) (y : A) → x ≡ None → x ≡ Some y → ⊥
none_some x y none some = let h : None ≡ Some y = sym none ∙ some in cc

true_false : true ≡ false → ⊥
true_false h = cc

-- ---- by cases

keeps_confirms : (turn : Turn) (ok : Bool) → Keeps turn → Confirms turn ok
keeps_confirms turn ok k crc e r = absurd (none_some (confirmed_with turn.transfer.stage) crc k e)

irregular_confirms : (turn : Turn) (ok : Bool) → turn.transfer.irregular ≡ true → Confirms turn ok
irregular_confirms turn ok t crc e r = absurd (true_false (sym t ∙ r))

keeps_if : (b : Bool) (x y : Turn) → Keeps x → Keeps y → Keeps (if b then x else y)
keeps_if true x y kx ky = kx
keeps_if false x y kx ky = ky

confirms_if : (b : Bool) (x y : Turn) (ok : Bool) → Confirms x ok → Confirms y ok → Confirms (if b then x else y) ok
confirms_if true x y ok cx cy = cx
confirms_if false x y ok cx cy = cy

-- the test is the condition
confirms_where : (b : Bool) (x y : Turn) → Keeps y → Confirms (if b then x else y) b
confirms_where true x y k = λ crc e r. refl
confirms_where false x y k = keeps_confirms y false k

-- ---- responses to initiate

answer_confirms : (transfer : Transfer) (key : Key) (turn : Turn) → Unconfirmed transfer → Confirms (answering transfer key turn) (is_initiated transfer.stage)
answer_confirms transfer key turn u =
    confirms_where (is_initiated transfer.stage) (if same_key key transfer.key then turn else overtaken transfer) (unexpected transfer) u

answer_keeps : (transfer : Transfer) (key : Key) (turn : Turn) → Unconfirmed transfer → Keeps turn → Keeps (answering transfer key turn)
answer_keeps transfer key turn u k =
    keeps_if (is_initiated transfer.stage) (if same_key key transfer.key then turn else overtaken transfer) (unexpected transfer)
    (keeps_if (same_key key transfer.key) turn (overtaken transfer) k u) u

at_download : (stage : Stage) (key : Key) → is_initiated stage ≡ true → confirms stage (Response (DownloadDone key)) ≡ true
at_download Initiated key h = refl
at_download _ key h = absurd (true_false (sym h))

at_expedited : (stage : Stage) (key : Key) (value : ExpeditedData) → is_initiated stage ≡ true → confirms stage (Response (UploadExpedited key value)) ≡ true
at_expedited Initiated key value h = refl
at_expedited _ key value h = absurd (true_false (sym h))

-- ---- segments

segment_done_confirms : (stage : Stage) (transfer : Transfer) (toggle : Bool) → Unconfirmed transfer
    → Confirms (segment_done_at stage transfer toggle) (confirms stage (Response (DownloadSegmentDone toggle)))
segment_done_confirms (DownloadSent sent true) transfer toggle u = confirms_where (same_bool toggle sent) _ (repeated transfer) u
segment_done_confirms (DownloadSent sent false) transfer toggle u =
    keeps_confirms (segment_done_at (DownloadSent sent false) transfer toggle) false (keeps_if (same_bool toggle sent) _ (repeated transfer) refl u)
segment_done_confirms (DownloadConfirmed awaited) transfer toggle u =
    keeps_confirms (segment_done_at (DownloadConfirmed awaited) transfer toggle) false (keeps_if (same_bool toggle awaited) _ (repeated transfer) refl u)
segment_done_confirms _ transfer toggle u = keeps_confirms (unexpected transfer) _ u

upload_segment_confirms : (stage : Stage) (transfer : Transfer) (toggle : Bool) (segment : ArrayVec ℕ) (last : Bool) → Unconfirmed transfer
    → Confirms (upload_segment_at stage transfer toggle segment last) (confirms stage (Response (UploadSegment toggle segment last)))
upload_segment_confirms (UploadAsked asked) transfer toggle segment true u = confirms_where (same_bool toggle asked) _ (repeated transfer) u
upload_segment_confirms (UploadAsked asked) transfer toggle segment false u =
    keeps_confirms (upload_segment_at (UploadAsked asked) transfer toggle segment false) false (keeps_if (same_bool toggle asked) _ (repeated transfer) refl u)
upload_segment_confirms (UploadTaken awaited) transfer toggle segment last u =
    let missing = takes_data (record (irregular transfer) { stage = upload_stage toggle last }) segment.items in
    confirms_if (same_bool toggle awaited) missing (repeated transfer) false (irregular_confirms missing false refl) (keeps_confirms (repeated transfer) false u)
upload_segment_confirms _ transfer toggle segment last u = keeps_confirms (unexpected transfer) _ u

download_segment_keeps : (stage : Stage) (transfer : Transfer) (toggle : Bool) (segment : ArrayVec ℕ) (last : Bool) → Unconfirmed transfer
    → Keeps (download_segment_at stage transfer toggle segment last)
download_segment_keeps (DownloadConfirmed awaited) transfer toggle segment last u = keeps_if (same_bool toggle awaited) _ (repeated transfer) refl u
download_segment_keeps (DownloadSent sent was_last) transfer toggle segment last u = keeps_if (same_bool toggle sent) (repeated transfer) _ u refl
download_segment_keeps _ transfer toggle segment last u = u

upload_request_keeps : (stage : Stage) (transfer : Transfer) (toggle : Bool) → Unconfirmed transfer → Keeps (upload_request_at stage transfer toggle)
upload_request_keeps (UploadTaken awaited) transfer toggle u = keeps_if (same_bool toggle awaited) _ (repeated transfer) refl u
upload_request_keeps (UploadAsked asked) transfer toggle u = keeps_if (same_bool toggle asked) (repeated transfer) _ u refl
upload_request_keeps _ transfer toggle u = u

-- ---- blocks

started_keeps : (stage : Stage) (transfer : Transfer) → Unconfirmed transfer → Keeps (upload_started_at stage transfer)
started_keeps BlockInitiated transfer u = refl
started_keeps _ transfer u = u

block_segment_keeps : (stage : Stage) (transfer : Transfer) (segment : BlockSegment) → Unconfirmed transfer → Keeps (block_segment_at stage transfer segment)
block_segment_keeps (SubBlock false) transfer segment u =
    keeps_if (nat_lt segment.sequence transfer.next_number) (segment_again transfer segment) _ u
    (keeps_if (segment.sequence == awaited_number transfer) (segment_added transfer segment) (segment_ahead transfer segment) refl u)
block_segment_keeps Initiated transfer segment u = keeps_if (is_download transfer.direction && is_block transfer.protocol) _ (unexpected transfer) refl u
block_segment_keeps _ transfer segment u = u

acknowledged_keeps : (stage : Stage) (transfer : Transfer) (sequence block_size : ℕ) → Unconfirmed transfer → Keeps (acknowledged_at stage transfer sequence block_size)
acknowledged_keeps (SubBlock last) transfer sequence block_size u =
    keeps_if (nat_lt sequence (awaited_number transfer)) _ _ (keeps_if (last && (sequence + 1 == awaited_number transfer)) _ _ refl refl) refl
acknowledged_keeps _ transfer sequence block_size u = u

by_receiver_keeps : (by_receiver : Bool) (transfer : Transfer) (sequence block_size : ℕ) → Unconfirmed transfer → Keeps (acknowledged by_receiver transfer sequence block_size)
by_receiver_keeps true transfer sequence block_size u = acknowledged_keeps transfer.stage transfer sequence block_size u
by_receiver_keeps false transfer sequence block_size u = u

ended_keeps : (stage : Stage) (transfer : Transfer) (unused crc : ℕ) → Unconfirmed transfer → Keeps (block_ended_at stage transfer unused crc)
ended_keeps AllAcknowledged transfer unused crc u = refl
ended_keeps _ transfer unused crc u = u

by_sender_keeps : (by_sender : Bool) (transfer : Transfer) (unused crc : ℕ) → Unconfirmed transfer → Keeps (block_ended by_sender transfer unused crc)
by_sender_keeps true transfer unused crc u = ended_keeps transfer.stage transfer unused crc u
by_sender_keeps false transfer unused crc u = u

-- an end is awaited
abbrev is_ended : Stage → Bool
is_ended (BlockEnded crc) = true
is_ended _ = false

end_at_confirms : (stage : Stage) (transfer : Transfer) → Unconfirmed transfer → Confirms (end_confirmed_at stage transfer) (is_ended stage)
end_at_confirms (BlockEnded crc) transfer u = λ x e r. refl
end_at_confirms Initiated transfer u = keeps_confirms (unexpected transfer) false u
end_at_confirms _ transfer u = irregular_confirms (goes_on (record (irregular transfer) { stage = Confirmed None })) false refl

end_confirms : (by_receiver : Bool) (transfer : Transfer) → Unconfirmed transfer → Confirms (end_confirmed by_receiver transfer) (is_ended transfer.stage)
end_confirms true transfer u =
    confirms_if (is_block transfer.protocol) (end_confirmed_at transfer.stage transfer) (unexpected transfer) (is_ended transfer.stage)
    (end_at_confirms transfer.stage transfer u) (keeps_confirms (unexpected transfer) (is_ended transfer.stage) u)
end_confirms false transfer u = keeps_confirms (unexpected transfer) (is_ended transfer.stage) u

at_download_end : (stage : Stage) → is_ended stage ≡ true → confirms stage (Response BlockDownloadDone) ≡ true
at_download_end (BlockEnded crc) h = refl
at_download_end _ h = absurd (true_false (sym h))

at_upload_end : (stage : Stage) → is_ended stage ≡ true → confirms stage (Request UploadEnd) ≡ true
at_upload_end (BlockEnded crc) h = refl
at_upload_end _ h = absurd (true_false (sym h))

-- ---- every frame

answered_keeps : (b : Bool) (transfer : Transfer) (turn : Turn) → Unconfirmed transfer → Keeps turn → Keeps (if b then unexpected transfer else turn)
answered_keeps b transfer turn u k = keeps_if b (unexpected transfer) turn u k

request_confirms : (transfer : Transfer) (request : SdoRequest) (frame : List ℕ) → Unconfirmed transfer
    → Confirms (request_turn transfer request frame) (confirms transfer.stage (Request request))
request_confirms transfer (DownloadSegment toggle segment last) frame u =
    keeps_confirms (download_segment_at transfer.stage transfer toggle segment last) _ (download_segment_keeps transfer.stage transfer toggle segment last u)
request_confirms transfer (NextSegment toggle) frame u = keeps_confirms (upload_request_at transfer.stage transfer toggle) _ (upload_request_keeps transfer.stage transfer toggle u)
request_confirms transfer BlockUploadStart frame u = keeps_confirms (upload_started_at transfer.stage transfer) _ (started_keeps transfer.stage transfer u)
request_confirms transfer (BlockUploadAcknowledge sequence block_size) frame u =
    keeps_confirms (acknowledged (not (is_download transfer.direction)) transfer sequence block_size) _ (by_receiver_keeps (not (is_download transfer.direction)) transfer sequence block_size u)
request_confirms transfer UploadEnd frame u =
    λ crc e r. at_upload_end transfer.stage (end_confirms (not (is_download transfer.direction)) transfer u crc e r)
request_confirms transfer (BlockDownloadEnd unused) frame u =
    keeps_confirms (block_ended (is_download transfer.direction) transfer unused (crc_in frame)) _ (by_sender_keeps (is_download transfer.direction) transfer unused (crc_in frame) u)
request_confirms transfer _ frame u = keeps_confirms (unexpected transfer) _ u

response_confirms : (transfer : Transfer) (response : SdoResponse) (frame : List ℕ) → Unconfirmed transfer
    → Confirms (response_turn transfer response frame) (confirms transfer.stage (Response response))
response_confirms transfer (DownloadDone key) frame u = λ crc e r. at_download transfer.stage key (answer_confirms transfer key _ u crc e r)
response_confirms transfer (DownloadSegmentDone toggle) frame u = segment_done_confirms transfer.stage transfer toggle u
response_confirms transfer (UploadExpedited key value) frame u =
    λ crc e r. at_expedited transfer.stage key value (answer_confirms transfer key _ u crc e r)
response_confirms transfer (UploadInitiated key size) frame u =
    keeps_confirms (upload_initiated transfer key size) _ (answer_keeps transfer key _ u (answered_keeps (is_download transfer.direction) transfer _ u refl))
response_confirms transfer (UploadSegment toggle segment last) frame u = upload_segment_confirms transfer.stage transfer toggle segment last u
response_confirms transfer (Refuse key code) frame u = keeps_confirms (unexpected transfer) _ u
response_confirms transfer (BlockDownloadInitiated key block_size) frame u =
    keeps_confirms (block_download_initiated transfer key block_size (has_crc frame)) _ (answer_keeps transfer key _ u (keeps_if (is_download transfer.direction && is_block transfer.protocol) _ (unexpected transfer) refl u))
response_confirms transfer BlockDownloadDone frame u =
    λ crc e r. at_download_end transfer.stage (end_confirms (is_download transfer.direction) transfer u crc e r)
response_confirms transfer (BlockDownloadAcknowledge sequence block_size) frame u =
    keeps_confirms (acknowledged (is_download transfer.direction) transfer sequence block_size) _ (by_receiver_keeps (is_download transfer.direction) transfer sequence block_size u)
response_confirms transfer (BlockUploadInitiated key size) frame u =
    keeps_confirms (block_upload_initiated transfer key size (has_crc frame)) _ (answer_keeps transfer key _ u (answered_keeps (is_download transfer.direction) transfer _ u (keeps_if (is_block transfer.protocol) _ (unexpected transfer) refl u)))
response_confirms transfer (BlockUploadEnd unused) frame u =
    keeps_confirms (block_ended (not (is_download transfer.direction)) transfer unused (crc_in frame)) _ (by_sender_keeps (not (is_download transfer.direction)) transfer unused (crc_in frame) u)

pub frame_confirms : (transfer : Transfer) (reading : Reading) (frame : List ℕ) (crc : Option ℕ) → confirmed_with transfer.stage ≡ None
    → confirmed_with (turn_of transfer reading frame).transfer.stage ≡ Some crc → (turn_of transfer reading frame).transfer.irregular ≡ false
    → confirms transfer.stage reading ≡ true
frame_confirms transfer (Segment segment) frame crc u = keeps_confirms (block_segment_at transfer.stage transfer segment) _ (block_segment_keeps transfer.stage transfer segment u) crc
frame_confirms transfer (Request request) frame crc u = request_confirms transfer request frame u crc
frame_confirms transfer (Response response) frame crc u = response_confirms transfer response frame u crc
frame_confirms transfer _ frame crc u = keeps_confirms (unexpected transfer) _ u crc
