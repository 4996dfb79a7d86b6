-- A channel that gave a block download up, or never heard of it, and hears its segments as requests: it answers nothing that the
-- client awaits, and none of them but the last, with c, brings it back into a block transfer.
use Rattle.std.proofs.Common.{◌≡◌, ℕ, ◌+◌, ◌-◌, ◌*◌, ◌/◌, ◌<◌, ◌≤◌, Bool, true, false, cond, not, List, [], ◌∷◌, length, map, Option, Some, None, refl, sym, ap, ◌∙◌, arith, eqb, subst}
use Rattle.std.specs.Prelude.{◌||◌, ◌&&◌, if◌then◌else◌, slice_index, nat_le}
use Rattle.std.specs.List.{list_any}
use Rattle.std.specs.Option.{option_map_or}
use Rattle.std.proofs.lemmas.Bool.{false≢true}
use Rattle.std.proofs.lemmas.Bool.Decides.{nat_tests}
use Rattle.arrayvec.specs.ArrayVec.{ArrayVec}
use Rattle.co_value.specs.declared.key.Key.{Key}
use Rattle.co_frame.specs.declared.sdo_request.SdoRequest.{SdoRequest}
use Rattle.co_frame.specs.declared.sdo_request.SdoRequest.TheVariants.{DownloadExpedited, DownloadInitiate, DownloadSegment, Upload, UploadSegment, Abort, BlockUploadInitiate, BlockDownloadInitiate}
use Rattle.co_frame.specs.declared.sdo_request.ExpeditedData.{ExpeditedData}
use Rattle.co_frame.specs.declared.sdo_request.ExpeditedData.TheVariants.{Indicated}
use Rattle.co_frame.specs.declared.sdo_response.SdoResponse.{SdoResponse}
use Rattle.co_frame.specs.declared.sdo_response.SdoResponse.TheVariants.{DownloadDone, DownloadSegmentDone, UploadExpedited, UploadInitiated, UploadSegment as SegmentSent, BlockDownloadInitiated, BlockDownloadDone, BlockDownloadAcknowledge, BlockUploadInitiated}
use Rattle.co_frame.specs.SdoFields.{has_bit, key_in}
use Rattle.co_frame.specs.SdoParts.{expedited_in, size_in}
use Rattle.co_frame.specs.SdoRequests.{request_row_in, request_in}
use Rattle.co_frame.specs.SdoResponses.{response_row_in, response_in, response_bytes}
use Rattle.co_dict.specs.Rows.{Contents}
use Rattle.co_dict.specs.Stores.{Description}
use Rattle.co_dict.specs.Refusals.{first_of}
use Rattle.co_sdo.specs.declared.stage.Stage.TheVariants.{Download, Upload as Uploading}
use Rattle.co_sdo.specs.Refused.{reading_refusal, initiate_refusal, completion_refusal}
use Rattle.co_sdo.specs.Log.{Answer, Response, Exchange, Exchanged, Ticked, TimedOut, Log, answer_bytes, is_abort, requests}
use Rattle.co_sdo.specs.Downloads.{is_odd, expedited_part, is_whole_after}
use Rattle.co_sdo.specs.Uploads.{value_at, part_after}
use Rattle.co_sdo.specs.OpenTransfers.{Transfer, is_initiate, is_finished, is_uploaded, is_cut, is_inside, is_inside_after, is_abort_request, begins, open_transfer}
use Rattle.co_sdo.specs.Opened.{OpenTransfer, opened, opened_by, opened_after}
use Rattle.co_sdo.specs.Replies.{aborted, unless_refused, toggle_refusal, block_size_refusal, segment_refusal, is_in_sub_block, request_answers, answers_to, reply_to}
use Rattle.co_sdo.proofs.Initiations.{exchange}
use Rattle.co_sdo.proofs.Logs.{after_initiates, after_open, after_nothing}
use Rattle.co_sdo_laws.proofs.Frames.{command_of, expedited_top, expedited_set}
use Rattle.co_sdo_laws.proofs.Channel.{tick_opens, ended}
use Rattle.co_sdo_laws.proofs.Blocks.{kept}

-- ---- answers that the client of a block download awaits after its begin

abbrev pub is_awaited : Option SdoResponse → Bool
is_awaited (Some (BlockDownloadAcknowledge sequence size)) = true
is_awaited (Some BlockDownloadDone) = true
is_awaited _ = false

-- those among frames
abbrev pub is_awaited_frame : List ℕ → Bool
is_awaited_frame frame = is_awaited (response_in frame)

abbrev pub awaited : List (List ℕ) → List (List ℕ)
awaited = kept is_awaited_frame

by_row : (frame : List ℕ) → is_awaited (response_row_in frame) ≡ false → is_awaited (response_in frame) ≡ false
by_row frame h = by (eqb (length frame) 8)
  where
    by : (b : Bool) → is_awaited (if b then response_row_in frame else None) ≡ false
    by true = h
    by false = refl

segment_row : (toggle last : Bool) (part : ArrayVec ℕ) → is_awaited (response_row_in (response_bytes (SegmentSent toggle part last))) ≡ false
unfolding response_row_in
segment_row toggle last part = rw (command_of toggle last (7 - length part.items) (omega arith)).top refl

-- the answers of an upload or a download that isn't in blocks, or of a begin
abbrev pub AreOthers : List Answer → Type 0
AreOthers answers = awaited (map answer_bytes answers) ≡ []

segment_other : (toggle last : Bool) (part : ArrayVec ℕ) → AreOthers (Response (SegmentSent toggle part last) ∷ [])
segment_other toggle last part = rw (by_row (response_bytes (SegmentSent toggle part last)) (segment_row toggle last part)) refl

expedited_row : (key : Key) (part : ArrayVec ℕ) → is_awaited (response_row_in (response_bytes (UploadExpedited key (Indicated part)))) ≡ false
unfolding response_row_in
expedited_row key part =
    let m : 4 - length part.items ≤ 7 = omega arith in
    rw (expedited_top 2 (4 - length part.items) m, expedited_set 2 (4 - length part.items) m) refl

expedited_other : (key : Key) (part : ArrayVec ℕ) → AreOthers (Response (UploadExpedited key (Indicated part)) ∷ [])
expedited_other key part = rw (by_row (response_bytes (UploadExpedited key (Indicated part))) (expedited_row key part)) refl

segment_done_other : (toggle : Bool) → AreOthers (Response (DownloadSegmentDone toggle) ∷ [])
unfolding response_row_in
segment_done_other true = refl
segment_done_other false = refl

pub aborted_other : (key : Key) (code : ℕ) → AreOthers (aborted key code)
unfolding response_row_in
aborted_other key code = refl

unless_other : (refusal : Option ℕ) (key : Key) (answers : List Answer) → AreOthers answers → AreOthers (unless_refused refusal key answers)
unless_other None key answers h = h
unless_other (Some code) key answers h = aborted_other key code

value_other : (key : Key) (v : List ℕ) (short : Bool) → AreOthers (if short then Response (UploadExpedited key (Indicated (record { items = v }))) ∷ [] else Response (UploadInitiated key (Some (length v))) ∷ [])
unfolding response_row_in
value_other key v true = expedited_other key (record { items = v })
value_other key v false = refl

-- ---- the channel

-- nothing is open, or a download or an upload in segments
pub data IsPlain (current : Option OpenTransfer) : Type 0 where
  nothing : current ≡ None → IsPlain current
  download : (key : Key) (size : Option ℕ) (expected : Bool) (held : List ℕ) → current ≡ Some (record { key = key; stage = Download size expected; bytes = held }) → IsPlain current
  upload : (key : Key) (sent : ℕ) (held : List ℕ) → current ≡ Some (record { key = key; stage = Uploading sent; bytes = held }) → IsPlain current

outside_sub_block : (current : Option OpenTransfer) → IsPlain current → is_in_sub_block current ≡ false
outside_sub_block current (nothing e) = rw e refl
outside_sub_block current (download key size expected held e) = rw e refl
outside_sub_block current (upload key sent held e) = rw e refl

-- whatever comes, nothing awaited is answered; a begin is answered whatever is open
request_other : (d : Description) (contents : Contents) (current : Option OpenTransfer) (r : Option SdoRequest) → IsPlain current → AreOthers (request_answers d contents current r)
unfolding response_row_in
request_other d contents current (Some (DownloadExpedited key expedited)) h = unless_other (completion_refusal d contents key None (expedited_part d.rows key expedited)) key (Response (DownloadDone key) ∷ []) refl
request_other d contents current (Some (DownloadInitiate key size)) h = unless_other (initiate_refusal d key size) key (Response (DownloadDone key) ∷ []) refl
request_other d contents current (Some (Upload key)) h = unless_other (reading_refusal d contents key) key _ (value_other key (value_at contents key) (nat_le 1 (length (value_at contents key)) && nat_le (length (value_at contents key)) 4))
request_other d contents current (Some (BlockUploadInitiate key size threshold)) h =
    unless_other (first_of (reading_refusal d contents key) (block_size_refusal size)) key (Response (BlockUploadInitiated key (Some (length (value_at contents key)))) ∷ []) refl
request_other d contents current (Some (BlockDownloadInitiate key size)) h = unless_other (initiate_refusal d key size) key (Response (BlockDownloadInitiated key 127) ∷ []) refl
request_other d contents current (Some (Abort key code)) h = refl
request_other d contents current (Some (DownloadSegment toggle part last)) (download k size expected held e) =
    subst (λ (c : Option OpenTransfer). AreOthers (request_answers d contents c (Some (DownloadSegment toggle part last)))) (sym e) (unless_other (segment_refusal d contents (record { key = k; stage = Download size expected; bytes = held }) size expected toggle part.items last) k _ (segment_done_other toggle))
request_other d contents current (Some (UploadSegment toggle)) (upload k sent held e) =
    subst (λ (c : Option OpenTransfer). AreOthers (request_answers d contents c (Some (UploadSegment toggle)))) (sym e) (unless_other (toggle_refusal toggle (is_odd sent)) k _ (segment_other toggle (nat_le (length held) (7 * sent + 7)) (record { items = part_after sent held })))
request_other d contents current r (nothing e) = subst (λ (c : Option OpenTransfer). AreOthers (request_answers d contents c r)) (sym e) (aborted_other (record { index = 0; sub = 0 }) 0x05040001)
request_other d contents current r (download k size expected held e) = subst (λ (c : Option OpenTransfer). AreOthers (request_answers d contents c r)) (sym e) (aborted_other k 0x05040001)
request_other d contents current r (upload k sent held e) = subst (λ (c : Option OpenTransfer). AreOthers (request_answers d contents c r)) (sym e) (aborted_other k 0x05040001)

-- ---- over a log

-- the begin of a transfer in segments
abbrev pub is_plain_initiate : Option SdoRequest → Bool
is_plain_initiate (Some (DownloadInitiate key size)) = true
is_plain_initiate (Some (Upload key)) = true
is_plain_initiate _ = false

pub data IsGone (log : Log) : Type 0 where
  idle : open_transfer log ≡ None → IsGone log
  other : (t : Transfer) → open_transfer log ≡ Some t → is_plain_initiate (request_in t.begin.request) ≡ true → IsGone log

plain_by : (q : Option SdoRequest) (t : Transfer) → is_plain_initiate q ≡ true → IsPlain (opened_by q t)
plain_by (Some (DownloadInitiate key size)) t h = download key size _ _ refl
plain_by (Some (Upload key)) t h = upload key _ _ refl
plain_by _ t h = absurd (false≢true h)

plain : (log : Log) → IsGone log → IsPlain (opened_after log)
plain log (idle e) = nothing (ap opened e)
plain log (other t e b) = subst IsPlain (sym (ap opened e)) (plain_by (request_in t.begin.request) t b)

pub gone_answers : (d : Description) (contents : Contents) (log : Log) (frame : List ℕ) → IsGone log → AreOthers (reply_to d contents log frame)
gone_answers d contents log frame h =
    let out = outside_sub_block (opened_after log) (plain log h) in
    rw out (request_other d contents (opened_after log) (request_in frame) (plain log h))

-- ---- a frame whose first byte is below 80h

abbrev pub is_low : Option SdoRequest → Bool
is_low (Some (DownloadExpedited key expedited)) = true
is_low (Some (DownloadInitiate key size)) = true
is_low (Some (DownloadSegment toggle part last)) = true
is_low (Some (Upload key)) = true
is_low (Some (UploadSegment toggle)) = true
is_low _ = false

download_low : (bytes : List ℕ) (expedited : Bool) (x y : SdoRequest) → is_low (Some x) ≡ true → is_low (Some y) ≡ true → is_low (Some (if expedited then x else y)) ≡ true
download_low bytes true x y h g = h
download_low bytes false x y h g = g

low_row : (frame : List ℕ) → slice_index frame 0 < 128 → (a b c : Bool) → eqb (slice_index frame 0 / 32) 0 ≡ a → eqb (slice_index frame 0 / 32) 1 ≡ b → eqb (slice_index frame 0 / 32) 2 ≡ c
    → is_low (request_row_in frame) ≡ true
unfolding request_row_in
low_row frame h true b c x y z = rw x refl
low_row frame h false true c x y z =
    rw (x, y) (download_low frame (has_bit 1 frame) (DownloadExpedited (key_in frame) (expedited_in frame)) (DownloadInitiate (key_in frame) (size_in (has_bit 0 frame) frame)) refl refl)
low_row frame h false false true x y z = rw (x, y, z) refl
low_row frame h false false false x y z = let w : eqb (slice_index frame 0 / 32) 3 ≡ true = grind (arith, nat_tests) in rw (x, y, z, w) refl

pub low_read : (frame : List ℕ) → length frame ≡ 8 → slice_index frame 0 < 128 → is_low (request_in frame) ≡ true
low_read frame n h = rw n (low_row frame h _ _ _ refl refl refl)

-- ---- the log after such a frame

plain_inside : (q : Option SdoRequest) (later : List (List ℕ)) → is_plain_initiate q ≡ true → is_inside_after q later ≡ false
plain_inside (Some (DownloadInitiate key size)) later h = refl
plain_inside (Some (Upload key)) later h = refl
plain_inside _ later h = absurd (false≢true h)

outside : (log : Log) → IsGone log → option_map_or is_inside (open_transfer log) false ≡ false
outside log (idle e) = ap (λ (t : Option Transfer). option_map_or is_inside t false) e
outside log (other t e b) = ap (λ (t : Option Transfer). option_map_or is_inside t false) e ∙ plain_inside (request_in t.begin.request) (requests t.later) b

begins_is : (log : Log) (frame : List ℕ) → IsGone log → begins (open_transfer log) frame ≡ is_initiate (request_in frame)
begins_is log frame h = ap (λ (b : Bool). not b && is_initiate (request_in frame)) (outside log h)

gone_if : (log : Log) (b : Bool) (t : Transfer) → open_transfer log ≡ cond b None (Some t) → is_plain_initiate (request_in t.begin.request) ≡ true → IsGone log
gone_if log true t e h = idle e
gone_if log false t e h = other t e h

or_true : (a b : Bool) (t : Option Transfer) → cond (a || (true || b)) None t ≡ None
or_true true b t = refl
or_true false b t = refl

-- a begin comes
initiate_gone : (log : Log) (x : Exchange) → IsGone log → is_initiate (request_in x.request) ≡ true → is_plain_initiate (request_in x.request) ≡ true → IsGone (Exchanged x ∷ log)
initiate_gone log x h b p = gone_if (Exchanged x ∷ log) (list_any is_abort x.answers || is_finished (record { begin = x; later = [] })) (record { begin = x; later = [] }) (after_initiates log x (begins_is log x.request h ∙ b)) p

-- a download at once is over with its request
at_once_gone : (log : Log) (x : Exchange) (key : Key) (data_sent : ExpeditedData) → IsGone log → request_in x.request ≡ Some (DownloadExpedited key data_sent) → IsGone (Exchanged x ∷ log)
at_once_gone log x key data_sent h read = idle (after_initiates log x (begins_is log x.request h ∙ ap is_initiate read)
    ∙ ap (λ (r : Option SdoRequest). cond (list_any is_abort x.answers || (is_whole_after r [] || is_uploaded r x)) None (Some (record { begin = x; later = [] }))) read
    ∙ or_true (list_any is_abort x.answers) false (Some (record { begin = x; later = [] })))

-- a segment, or the request of one, comes
later_gone : (d : Description) (contents : Contents) (log : Log) (frame : List ℕ) (r : Option SdoRequest) → request_in frame ≡ r → is_initiate r ≡ false
    → is_abort_request r || list_any is_abort (request_answers d contents None r) ≡ true → IsGone log
    → IsGone (Exchanged (exchange frame contents (reply_to d contents log frame)) ∷ log)
later_gone d contents log frame r read b cut (idle e) =
    idle (after_nothing log (exchange frame contents (reply_to d contents log frame)) e (ap is_initiate read ∙ b)
    (ap (λ (t : Option Transfer). is_abort_request (request_in frame) || list_any is_abort (answers_to d contents (opened t) frame)) e
    ∙ ap (λ (q : Option SdoRequest). is_abort_request q || list_any is_abort (request_answers d contents None q)) read ∙ cut))
later_gone d contents log frame r read b cut (other t e p) =
    let x = exchange frame contents (reply_to d contents log frame) in
    gone_if (Exchanged x ∷ log) (is_cut (is_inside t) (Exchanged x) || is_finished (record { begin = t.begin; later = x ∷ t.later })) (record { begin = t.begin; later = x ∷ t.later })
    (after_open log x t e (ap (λ (i : Bool). not i && is_initiate (request_in frame)) (plain_inside (request_in t.begin.request) (requests t.later) p) ∙ ap is_initiate read ∙ b)) p

gone_by : (d : Description) (contents : Contents) (log : Log) (frame : List ℕ) → IsGone log → (r : Option SdoRequest) → request_in frame ≡ r → is_low r ≡ true
    → IsGone (Exchanged (exchange frame contents (reply_to d contents log frame)) ∷ log)
gone_by d contents log frame h (Some (DownloadExpedited key data_sent)) read low = at_once_gone log (exchange frame contents (reply_to d contents log frame)) key data_sent h read
gone_by d contents log frame h (Some (DownloadInitiate key size)) read low = initiate_gone log (exchange frame contents (reply_to d contents log frame)) h (ap is_initiate read) (ap is_plain_initiate read)
gone_by d contents log frame h (Some (Upload key)) read low = initiate_gone log (exchange frame contents (reply_to d contents log frame)) h (ap is_initiate read) (ap is_plain_initiate read)
gone_by d contents log frame h (Some (DownloadSegment toggle part last)) read low = later_gone d contents log frame (Some (DownloadSegment toggle part last)) read refl refl h
gone_by d contents log frame h (Some (UploadSegment toggle)) read low = later_gone d contents log frame (Some (UploadSegment toggle)) read refl refl h
gone_by d contents log frame h _ read low = absurd (false≢true low)

-- it stays gone
pub gone_goes_on : (d : Description) (contents : Contents) (log : Log) (frame : List ℕ) → IsGone log → length frame ≡ 8 → slice_index frame 0 < 128
    → IsGone (Exchanged (exchange frame contents (reply_to d contents log frame)) ∷ log)
gone_goes_on d contents log frame h n low = gone_by d contents log frame h (request_in frame) refl (low_read frame n low)

-- ---- ticks, and how it came to be gone

pub gone_ticks : (log : Log) → IsGone log → IsGone (Ticked ∷ log)
gone_ticks log (idle e) = idle (tick_opens log ∙ e)
gone_ticks log (other t e b) = other t (tick_opens log ∙ e) b

pub gone_ends : (log : Log) (answers : List Answer) → IsGone (TimedOut answers ∷ log)
gone_ends log answers = idle (ended log answers)
