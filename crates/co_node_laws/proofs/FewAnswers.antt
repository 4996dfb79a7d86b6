-- An SDO channel answers with at most 127 frames, after whatever log of its own.
use Rattle.std.proofs.Common.{◌≡◌, ℕ, ◌+◌, ◌≤◌, Bool, true, false, cond, not, List, [], ◌∷◌, length, Option, Some, None, refl, sym, ap, ◌∙◌, arith}
use Rattle.std.specs.Prelude.{◌&&◌, ◌||◌, ◌==◌, nat_le, nat_lt}
use Rattle.std.specs.List.{list_any}
use Rattle.std.specs.Option.{option_map_or}
use Rattle.std.proofs.lemmas.Bool.Decides.{nat_tests}
use Rattle.std.proofs.lemmas.List.FromFn.{length-map-range_with_len}
use Rattle.co_value.specs.declared.key.Key.{Key}
use Rattle.co_frame_aborts.specs.AbortCodes.{invalid_block_size, invalid_sequence_number}
use Rattle.co_frame.specs.SdoRequests.{request_in}
use Rattle.co_frame.specs.declared.sdo_request.SdoRequest.{SdoRequest}
use Rattle.co_frame.specs.declared.sdo_request.SdoRequest.TheVariants.{DownloadExpedited, DownloadInitiate, DownloadSegment, Upload, UploadSegment, BlockUploadInitiate, BlockUploadEnd, BlockUploadAcknowledge, BlockUploadStart, BlockDownloadInitiate, BlockDownloadEnd}
use Rattle.co_frame.specs.declared.sdo_response.SdoResponse.{SdoResponse}
use Rattle.co_frame.specs.declared.sdo_response.SdoResponse.TheVariants.{UploadExpedited, UploadInitiated}
use Rattle.co_frame.specs.declared.sdo_request.ExpeditedData.TheVariants.{Indicated}
use Rattle.co_dict.specs.Rows.{Rows, Contents}
use Rattle.co_dict.specs.Stores.{Description}
use Rattle.co_dict.specs.Refusals.{refused_if, first_of}
use Rattle.co_sdo.specs.declared.stage.Stage.{Stage}
use Rattle.co_sdo.specs.declared.stage.Stage.TheVariants.{Download, Upload as Uploading, SubBlock, LastTaken, BlockUploadInitiated, BlockUpload, BlockUploadEnded}
use Rattle.co_sdo.specs.Log.{Answer, Response, Exchange, Event, Exchanged, Ticked, TimedOut, Dropped, Log, is_abort, exchanges, requests}
use Rattle.co_sdo.specs.SubBlocks.{ends_sub_block, has_last, sub_block, taken_segments}
use Rattle.co_sdo.specs.Uploads.{value_at, sub_block_sent, sub_block_length, segment_count, block_upload_end}
use Rattle.co_sdo.specs.OpenTransfers.{Transfer, Since, transfer_of, is_inside, is_initiate, is_cut, has_cut, is_finished, open_since, begins, and_event, since_with, since_initiate, open_transfer}
use Rattle.co_sdo.specs.Opened.{OpenTransfer, acknowledged, is_end_sent, block_upload_stage, block_download_stage, opened_by, opened, opened_after}
use Rattle.co_sdo.specs.Refused.{reading_refusal}
use Rattle.co_sdo.specs.Replies.{unless_refused, block_size_refusal, sub_block_refusal, segment_answers, block_end_answers, upload_answers, start_answers, next_sub_block, acknowledge_answers, upload_end_answers, initiate_answers, on_open, later_answers, request_answers, is_in_sub_block, frame_answers, answers_to, reply_to}
use Rattle.co_sdo.proofs.Logs.{inside_is}

-- ---- block sizes of at most 127

abbrev pub IsSmallRequest : Option SdoRequest → Type 0
IsSmallRequest (Some (BlockUploadInitiate key size threshold)) = size ≤ 127
IsSmallRequest _ = Unit {0}

abbrev IsSmallStage : Stage → Type 0
IsSmallStage (BlockUploadInitiated size) = size ≤ 127
IsSmallStage _ = Unit {0}

abbrev IsSmallOpen : Option OpenTransfer → Type 0
IsSmallOpen None = Unit {0}
IsSmallOpen (Some o) = IsSmallStage o.stage

abbrev IsSmallTransfer : Option Transfer → Type 0
IsSmallTransfer None = Unit {0}
IsSmallTransfer (Some t) = IsSmallRequest (request_in t.begin.request)

-- a begin that wasn't refused is small
abbrev IsSmallBegin : Exchange → Type 0
IsSmallBegin x = list_any is_abort x.answers ≡ false → IsSmallRequest (request_in x.request)

abbrev pub HasSmallBegin : Option Since → Type 0
HasSmallBegin None = Unit {0}
HasSmallBegin (Some s) = IsSmallBegin s.begin

abbrev pub is_exchange : Event → Bool
is_exchange (Exchanged x) = true
is_exchange Ticked = false
is_exchange (TimedOut answers) = false
is_exchange Dropped = false

-- ---- of a begin to what is open

small_upload : (size : ℕ) (later : List Exchange) → size ≤ 127 → IsSmallStage (block_upload_stage size later)
small_upload size [] small = small
small_upload size (x ∷ older) small = by (list_any is_end_sent x.answers)
  where
    by : (b : Bool) → IsSmallStage (cond b BlockUploadEnded (BlockUpload (acknowledged (requests (x ∷ older))) (length x.answers)))
    by true = tt
    by false = tt

small_download : (size : Option ℕ) (later : List (List ℕ)) → IsSmallStage (block_download_stage size later)
small_download size later = by (has_last later)
  where
    by : (b : Bool) → IsSmallStage (cond b (LastTaken size) (SubBlock size (length (taken_segments (sub_block later)))))
    by true = tt
    by false = tt

small_opened_by : (r : Option SdoRequest) (t : Transfer) → IsSmallRequest r → IsSmallOpen (opened_by r t)
small_opened_by (Some (BlockUploadInitiate key size threshold)) t small = small_upload size t.later small
small_opened_by (Some (BlockDownloadInitiate key size)) t small = small_download size (requests t.later)
small_opened_by _ t small = tt

small_opened : (t : Option Transfer) → IsSmallTransfer t → IsSmallOpen (opened t)
small_opened None small = tt
small_opened (Some t) small = small_opened_by (request_in t.begin.request) t small

or_false : (a b : Bool) → a || b ≡ false → b ≡ false
or_false true b e = absurd (cc)
or_false false b e = e

uncut : (begin : Exchange) (later : Log) → has_cut begin later ≡ false → list_any is_abort begin.answers ≡ false
uncut begin [] e = e
uncut begin (x ∷ older) e = uncut begin older (or_false (is_cut (is_inside (record { begin = begin; later = exchanges older })) x) (has_cut begin older) e)

small_since : (s : Since) (cut finished : Bool) → has_cut s.begin s.later ≡ cut → IsSmallBegin s.begin → IsSmallTransfer (cond (cut || finished) None (Some (transfer_of s)))
small_since s true finished e small = tt
small_since s false true e small = tt
small_since s false false e small = small (uncut s.begin s.later e)

small_open : (s : Option Since) → HasSmallBegin s → IsSmallTransfer (open_since s)
small_open None small = tt
small_open (Some s) small = small_since s (has_cut s.begin s.later) (is_finished (transfer_of s)) refl small

-- ---- how many answers

few_unless : (refusal : Option ℕ) (key : Key) (answers : List Answer) → length answers ≤ 127 → length (unless_refused refusal key answers) ≤ 127
few_unless None key answers few = few
few_unless (Some code) key answers few = omega arith

few_one : (refusal : Option ℕ) (key : Key) (response : SdoResponse) → length (unless_refused refusal key (Response response ∷ [])) ≤ 127
few_one None key response = omega arith
few_one (Some code) key response = omega arith

few_sent : (value : List ℕ) (position size : ℕ) → size ≤ 127 → length (sub_block_sent value position size) ≤ 127
few_sent value position size small =
    let count : length (sub_block_sent value position size) ≡ sub_block_length value position size = length-map-range_with_len _ 1 (sub_block_length value position size) in
    omega (arith, count, small)

few_segment : (d : Description) (c : Contents) (o : OpenTransfer) (stage : Stage) (toggle : Bool) (part : List ℕ) (last : Bool) → length (segment_answers d c o stage toggle part last) ≤ 127
few_segment d c o (Download indicated expected) toggle part last = few_one _ o.key _
few_segment d c o _ toggle part last = omega arith

few_upload : (o : OpenTransfer) (stage : Stage) (toggle : Bool) → length (upload_answers o stage toggle) ≤ 127
few_upload o (Uploading sent) toggle = few_one _ o.key _
few_upload o _ toggle = omega arith

few_start : (o : OpenTransfer) (stage : Stage) → IsSmallStage stage → length (start_answers o stage) ≤ 127
few_start o (BlockUploadInitiated size) small = few_sent o.bytes 0 size small
few_start o _ small = omega arith

-- a block size that isn't refused is small
allowed_size : (size : ℕ) (b : Bool) → (nat_le 1 size && nat_le size 127) ≡ b → refused_if (not b) invalid_block_size ≡ None → size ≤ 127
allowed_size size true e none = grind (arith, nat_tests)
allowed_size size false e none = absurd (cc)

few_sized : (refusal : Option ℕ) (size : ℕ) (o : OpenTransfer) (position : ℕ) → block_size_refusal size ≡ refusal → length (unless_refused refusal o.key (sub_block_sent o.bytes position size)) ≤ 127
few_sized None size o position e = few_sent o.bytes position size (allowed_size size (nat_le 1 size && nat_le size 127) refl e)
few_sized (Some code) size o position e = omega arith

few_next : (o : OpenTransfer) (position size : ℕ) (b : Bool) → length (cond b (block_upload_end o.bytes) (unless_refused (block_size_refusal size) o.key (sub_block_sent o.bytes position size))) ≤ 127
few_next o position size true = omega arith
few_next o position size false = few_sized (block_size_refusal size) size o position refl

few_acknowledge : (o : OpenTransfer) (stage : Stage) (sequence size : ℕ) → length (acknowledge_answers o stage sequence size) ≤ 127
few_acknowledge o (BlockUpload count sent) sequence size =
    few_unless (refused_if (nat_lt sent sequence) invalid_sequence_number) o.key (next_sub_block o (count + sequence) size) (few_next o (count + sequence) size (count + sequence == segment_count o.bytes))
few_acknowledge o _ sequence size = omega arith

few_upload_end : (o : OpenTransfer) (stage : Stage) → length (upload_end_answers o stage) ≤ 127
few_upload_end o BlockUploadEnded = omega arith
few_upload_end o _ = omega arith

few_block_end : (d : Description) (c : Contents) (o : OpenTransfer) (stage : Stage) (unused : ℕ) → length (block_end_answers d c o stage unused) ≤ 127
few_block_end d c o (LastTaken indicated) unused = few_one _ o.key _
few_block_end d c o _ unused = omega arith

few_on : (current : Option OpenTransfer) (answers : OpenTransfer → Stage → List Answer) → IsSmallOpen current → ((o : OpenTransfer) → IsSmallStage o.stage → length (answers o o.stage) ≤ 127) → length (on_open current answers) ≤ 127
few_on None answers small few = omega arith
few_on (Some o) answers small few = few o small

few_later : (d : Description) (c : Contents) (current : Option OpenTransfer) (request : SdoRequest) → IsSmallOpen current → length (later_answers d c current request) ≤ 127
few_later d c current (DownloadSegment toggle segment last) small = few_on current _ small (λ o s. few_segment d c o o.stage toggle segment.items last)
few_later d c current (UploadSegment toggle) small = few_on current _ small (λ o s. few_upload o o.stage toggle)
few_later d c current BlockUploadStart small = few_on current start_answers small (λ o s. few_start o o.stage s)
few_later d c current (BlockUploadAcknowledge sequence size) small = few_on current _ small (λ o s. few_acknowledge o o.stage sequence size)
few_later d c current BlockUploadEnd small = few_on current upload_end_answers small (λ o s. few_upload_end o o.stage)
few_later d c current (BlockDownloadEnd unused) small = few_on current _ small (λ o s. few_block_end d c o o.stage unused)
few_later d c current _ small = omega arith

few_read : (key : Key) (value : List ℕ) (b : Bool) → length (cond b (Response (UploadExpedited key (Indicated (record { items = value }))) ∷ []) (Response (UploadInitiated key (Some (length value))) ∷ [])) ≤ 127
few_read key value true = omega arith
few_read key value false = omega arith

few_initiate : (d : Description) (c : Contents) (request : SdoRequest) → length (initiate_answers d c request) ≤ 127
few_initiate d c (DownloadExpedited key expedited) = few_one _ key _
few_initiate d c (DownloadInitiate key size) = few_one _ key _
few_initiate d c (Upload key) = few_unless _ key _ (few_read key (value_at c key) (nat_le 1 (length (value_at c key)) && nat_le (length (value_at c key)) 4))
few_initiate d c (BlockUploadInitiate key size threshold) = few_one _ key _
few_initiate d c (BlockDownloadInitiate key size) = few_one _ key _
few_initiate d c _ = omega arith

few_request : (d : Description) (c : Contents) (current : Option OpenTransfer) (r : Option SdoRequest) → IsSmallOpen current → length (request_answers d c current r) ≤ 127
few_request d c current None small = omega arith
few_request d c current (Some request) small = by (is_initiate (Some request))
  where
    by : (b : Bool) → length (cond b (initiate_answers d c request) (later_answers d c current request)) ≤ 127
    by true = few_initiate d c request
    by false = few_later d c current request small

few_end : (rows : Rows) (o : OpenTransfer) (taken : ℕ) (frame : List ℕ) (b : Bool) (response : SdoResponse) → length (cond b (unless_refused (sub_block_refusal rows o taken frame) o.key (Response response ∷ [])) []) ≤ 127
few_end rows o taken frame true response = few_one (sub_block_refusal rows o taken frame) o.key response
few_end rows o taken frame false response = omega arith

few_frame : (rows : Rows) (o : OpenTransfer) (stage : Stage) (frame : List ℕ) → length (frame_answers rows o stage frame) ≤ 127
few_frame rows o (SubBlock indicated taken) frame = few_end rows o taken frame (ends_sub_block frame) _
few_frame rows o _ frame = omega arith

few_answers : (d : Description) (c : Contents) (current : Option OpenTransfer) (frame : List ℕ) → IsSmallOpen current → length (answers_to d c current frame) ≤ 127
few_answers d c current frame small = by (is_in_sub_block current)
  where
    by : (b : Bool) → length (cond b (on_open current (λ o stage. frame_answers d.rows o stage frame)) (request_answers d c current (request_in frame))) ≤ 127
    by true = few_on current _ small (λ o s. few_frame d.rows o o.stage frame)
    by false = few_request d c current (request_in frame) small

pub few_reply : (d : Description) (c : Contents) (log : Log) (frame : List ℕ) → HasSmallBegin (since_initiate log) → length (reply_to d c log frame) ≤ 127
few_reply d c log frame small = few_answers d c (opened_after log) frame (small_opened (open_transfer log) (small_open (since_initiate log) small))

-- ---- one more event

small_unless : (refusal : Option ℕ) (size : ℕ) (key : Key) (answers : List Answer) → (refusal ≡ None → size ≤ 127) → list_any is_abort (unless_refused refusal key answers) ≡ false → size ≤ 127
small_unless None size key answers small e = small refl
small_unless (Some code) size key answers small e = absurd (cc)

second : (a b : Option ℕ) → first_of a b ≡ None → b ≡ None
second None b e = e
second (Some code) b e = absurd (cc)

small_initiate : (d : Description) (c : Contents) (request : SdoRequest) → list_any is_abort (initiate_answers d c request) ≡ false → IsSmallRequest (Some request)
small_initiate d c (BlockUploadInitiate key size threshold) e =
    small_unless (first_of (reading_refusal d c key) (block_size_refusal size)) size key _
    (λ none. allowed_size size (nat_le 1 size && nat_le size 127) refl (second (reading_refusal d c key) (block_size_refusal size) none)) e
small_initiate d c _ e = tt

small_request : (d : Description) (c : Contents) (current : Option OpenTransfer) (r : Option SdoRequest) → is_initiate r ≡ true → list_any is_abort (request_answers d c current r) ≡ false → IsSmallRequest r
small_request d c current None is e = absurd (cc)
small_request d c current (Some request) is e =
    small_initiate d c request (ap (λ b. list_any is_abort (cond b (initiate_answers d c request) (later_answers d c current request))) (sym is) ∙ e)

both : (a b : Bool) → a && b ≡ true → (a ≡ true) × (b ≡ true)
both true b e = (refl, e)
both false b e = absurd (cc)

not_true : (a : Bool) → not a ≡ true → a ≡ false
not_true true e = absurd (cc)
not_true false e = refl

small_begun : (d : Description) (c : Contents) (log : Log) (frame : List ℕ) → begins (open_transfer log) frame ≡ true → list_any is_abort (reply_to d c log frame) ≡ false → IsSmallRequest (request_in frame)
small_begun d c log frame begin e =
    let parts = both (not (option_map_or is_inside (open_transfer log) false)) (is_initiate (request_in frame)) begin in
    let outside : is_in_sub_block (opened_after log) ≡ false = inside_is (open_transfer log) ∙ not_true (option_map_or is_inside (open_transfer log) false) parts.0 in
    small_request d c (opened_after log) (request_in frame) parts.1
    (ap (λ b. list_any is_abort (cond b (on_open (opened_after log) (λ o stage. frame_answers d.rows o stage frame)) (request_answers d c (opened_after log) (request_in frame)))) (sym outside) ∙ e)

pub small_quiet : (e : Event) (s : Option Since) → is_exchange e ≡ false → HasSmallBegin s → HasSmallBegin (since_with e s)
small_quiet (Exchanged x) s off small = absurd (cc)
small_quiet Ticked None off small = tt
small_quiet Ticked (Some s) off small = small
small_quiet (TimedOut answers) None off small = tt
small_quiet (TimedOut answers) (Some s) off small = small
small_quiet Dropped None off small = tt
small_quiet Dropped (Some s) off small = small

kept_begin : (x : Exchange) (s : Option Since) → HasSmallBegin s → HasSmallBegin (and_event (Exchanged x) s)
kept_begin x None small = tt
kept_begin x (Some s) small = small

small_exchanged : (x : Exchange) (s : Option Since) (b : Bool) → begins (open_since s) x.request ≡ b → (b ≡ true → IsSmallBegin x) → HasSmallBegin s → HasSmallBegin (cond b (Some (record { begin = x; later = [] })) (and_event (Exchanged x) s))
small_exchanged x s true e begun small = begun refl
small_exchanged x s false e begun small = kept_begin x s small

pub small_exchange : (d : Description) (c : Contents) (log : Log) (frame : List ℕ) → HasSmallBegin (since_initiate log)
    → HasSmallBegin (since_initiate (Exchanged (record { request = frame; contents = c; answers = reply_to d c log frame }) ∷ log))
small_exchange d c log frame small =
    small_exchanged (record { request = frame; contents = c; answers = reply_to d c log frame }) (since_initiate log) (begins (open_transfer log) frame) refl (small_begun d c log frame) small
