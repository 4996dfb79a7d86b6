-- What is open after a request that goes on with an open transfer, outside a sub-block.
use Rattle.std.proofs.Common.{◌≡◌, ℕ, suc, ◌+◌, ◌*◌, ◌≤◌, Bool, true, false, cond, not, List, [], ◌∷◌, ◌++◌, length, Option, Some, None, refl, sym, ap, ◌∙◌, arith}
use Rattle.std.specs.Prelude.{◌&&◌, ◌||◌, nat_le, nat_lt}
use Rattle.std.specs.List.{list_any}
use Rattle.std.proofs.lemmas.Bool.{false≢true}
use Rattle.std.proofs.lemmas.Bool.Decides.{nat_tests}
use Rattle.arrayvec.specs.ArrayVec.{ArrayVec}
use Rattle.co_value.specs.declared.key.Key.{Key}
use Rattle.co_frame.specs.SdoRequests.{request_in}
use Rattle.co_frame_aborts.specs.declared.abort_code.AbortCode.{AbortCode}
use Rattle.co_frame.specs.declared.sdo_request.SdoRequest.{SdoRequest}
use Rattle.co_frame.specs.declared.sdo_request.SdoRequest.TheVariants.{DownloadExpedited, DownloadInitiate, DownloadSegment, Upload, UploadSegment, Abort, BlockUploadInitiate, BlockUploadEnd, BlockUploadAcknowledge, BlockUploadStart, BlockDownloadInitiate, BlockDownloadEnd}
use Rattle.co_frame.specs.declared.sdo_response.SdoResponse.TheVariants.{DownloadSegmentDone, UploadSegment as SegmentSent}
use Rattle.co_dict.specs.Rows.{Rows, Contents}
use Rattle.co_dict.specs.Stores.{Description}
use Rattle.co_dict.specs.Refusals.{first_of}
use Rattle.co_sdo.specs.declared.stage.Stage.TheVariants.{Download, Upload as Uploading}
use Rattle.co_sdo.specs.Refused.{capacity_at, completion_refusal}
use Rattle.co_sdo.specs.Log.{Answer, Response, Exchange, is_abort, requests}
use Rattle.co_sdo.specs.Downloads.{is_odd, same_bool, are_segments, segments_joined, is_as_indicated, is_whole_after}
use Rattle.co_sdo.specs.Uploads.{value_at, part_after, upload_segment}
use Rattle.co_sdo.specs.OpenTransfers.{Transfer, is_initiate, is_abort_request, is_inside, is_inside_after, is_abort_received, is_finished, is_uploaded}
use Rattle.co_sdo.specs.Opened.{OpenTransfer, opened_by}
use Rattle.co_sdo.specs.Replies.{aborted, unless_refused, toggle_refusal, room_refusal, segment_refusal, later_answers}
use Rattle.co_sdo.specs.Steps.{opened_at, after_later}
use Rattle.co_sdo.specs.Completed.{unless}
use Rattle.co_sdo.specs.Standing.{is_transfer_after, IsSegmentedDownload}
use Rattle.co_sdo.proofs.Logs.{extended}
use Rattle.co_sdo.proofs.RefusalLemmas.{allowed, first_none, second_none, not_refused}
use Rattle.co_sdo.proofs.Initiations.{StepsTo, to_nothing, opens_to, exchange}

abbrev and_exchange : Exchange → Transfer → Transfer
and_exchange x t = record { begin = t.begin; later = x ∷ t.later }

-- what closes a transfer: an abort, or its finish
abbrev closes : Option SdoRequest → Exchange → Transfer → Bool
closes q x t = (is_abort_request (request_in x.request) || list_any is_abort x.answers) || (is_whole_after q (requests (x ∷ t.later)) || is_uploaded q x)

extended_is : (x : Exchange) (t : Transfer) (q : Option SdoRequest) (b : Bool) → request_in t.begin.request ≡ q → is_inside_after q (requests t.later) ≡ false → closes q x t ≡ b
    → extended x t ≡ cond b None (Some (and_exchange x t))
extended_is x t q b e i h =
    ap (λ r. cond {A = Option Transfer} ((is_abort_received (is_inside_after r (requests t.later)) x.request || list_any is_abort x.answers) || (is_whole_after r (requests (x ∷ t.later)) || is_uploaded r x)) None (Some (and_exchange x t))) e
    ∙ ap (λ inside. cond {A = Option Transfer} ((is_abort_received inside x.request || list_any is_abort x.answers) || (is_whole_after q (requests (x ∷ t.later)) || is_uploaded q x)) None (Some (and_exchange x t))) i
    ∙ ap (λ c. cond {A = Option Transfer} c None (Some (and_exchange x t))) h

pub closed_step : (rows : Rows) (next : Option OpenTransfer) (x : Exchange) (t : Transfer) (q : Option SdoRequest) → request_in t.begin.request ≡ q → is_inside_after q (requests t.later) ≡ false → closes q x t ≡ true
    → next ≡ None → StepsTo rows next (extended x t)
closed_step rows next x t q e i h n = to_nothing rows next (extended x t) (extended_is x t q true e i h) n

pub open_step : (rows : Rows) (next : Option OpenTransfer) (x : Exchange) (t : Transfer) (q : Option SdoRequest) → request_in t.begin.request ≡ q → is_inside_after q (requests t.later) ≡ false → closes q x t ≡ false
    → opened_by q (and_exchange x t) ≡ next → is_transfer_after rows q (and_exchange x t) → StepsTo rows next (extended x t)
open_step rows next x t q e i h o u = rw (extended_is x t q false e i h) (opens_to rows next (and_exchange x t) q e o u)

abort_closes : (x : Exchange) (t : Transfer) (a b : Bool) → list_any is_abort x.answers ≡ true → (a || list_any is_abort x.answers) || b ≡ true
abort_closes x t true b h = refl
abort_closes x t false b h = ap (λ c. c || b) h

-- an abort was sent
pub aborted_step : (rows : Rows) (next : Option OpenTransfer) (x : Exchange) (t : Transfer) → list_any is_abort x.answers ≡ true → next ≡ None → StepsTo rows next (extended x t)
aborted_step rows next x t h n = to_nothing rows next (extended x t)
    (ap (λ c. cond {A = Option Transfer} c None (Some (and_exchange x t))) (abort_closes x t (is_abort_received (is_inside t) x.request) (is_finished (and_exchange x t)) h)) n

-- an abort was received
pub received_step : (rows : Rows) (x : Exchange) (t : Transfer) (q : Option SdoRequest) (key : Key) (code : AbortCode) → request_in t.begin.request ≡ q → is_inside_after q (requests t.later) ≡ false
    → request_in x.request ≡ Some (Abort key code) → StepsTo rows None (extended x t)
received_step rows x t q key code e i f = closed_step rows None x t q e i (ap (λ r. (is_abort_request r || list_any is_abort x.answers) || (is_whole_after q (requests (x ∷ t.later)) || is_uploaded q x)) f) refl

-- ---- segmented downloads

pub not_odd : (n : ℕ) → is_odd (suc n) ≡ not (is_odd n)
not_odd n = grind (arith, nat_tests)

same_toggle : (toggle expected : Bool) → toggle_refusal toggle expected ≡ None → same_bool toggle expected ≡ true
same_toggle true true h = refl
same_toggle true false h = cc
same_toggle false true h = cc
same_toggle false false h = refl

all_closes : (same segments indicated : Bool) → same ≡ true → segments ≡ true → indicated ≡ true → (((same && true) && segments) && indicated) || false ≡ true
all_closes same segments indicated a b c = rw (a, b, c) refl

none_closes : (same segments indicated : Bool) → (((same && false) && segments) && indicated) || false ≡ false
none_closes true segments indicated = refl
none_closes false segments indicated = refl

-- the download that a begin and segments make
abbrev pub segmented : Key → Option ℕ → Transfer → OpenTransfer
segmented key size t = record { key = key; stage = Download size (is_odd (length (requests t.later))); bytes = segments_joined (requests t.later) }

abbrev done : Bool → List Answer
done toggle = Response (DownloadSegmentDone toggle) ∷ []

segment_kept : (d : Description) (contents : Contents) (key : Key) (size : Option ℕ) (t : Transfer) (frame : List ℕ) (toggle : Bool) (segment : ArrayVec ℕ) (last : Bool)
    → request_in t.begin.request ≡ Some (DownloadInitiate key size) → IsSegmentedDownload (capacity_at d.rows key) (requests t.later)
    → request_in frame ≡ Some (DownloadSegment toggle segment last)
    → same_bool toggle (is_odd (length (requests t.later))) ≡ true
    → length (segments_joined (requests t.later) ++ segment.items) ≤ capacity_at d.rows key
    → (last ≡ true → is_as_indicated size (length (segments_joined (requests t.later) ++ segment.items)) ≡ true)
    → (last_is : Bool) → last ≡ last_is
    → StepsTo d.rows (cond last_is None (opened_at key (Download size (not (is_odd (length (requests t.later))))) (segments_joined (requests t.later) ++ segment.items)))
    (extended (exchange frame contents (done toggle)) t)
segment_kept d contents key size t frame toggle segment last e u f same room total true l =
    closed_step d.rows None (exchange frame contents (done toggle)) t _ e refl
    (rw (f, l) (all_closes _ _ _ same u.segments (total l))) refl
segment_kept d contents key size t frame toggle segment last e u f same room total false l =
    open_step d.rows _ (exchange frame contents (done toggle)) t _ e refl
    (rw (f, l) (none_closes (same_bool toggle (is_odd (length (requests t.later)))) (are_segments (requests t.later)) _))
    (rw (f, not_odd) refl)
    (record { segments = rw (f, l, same) u.segments; bytes = rw f room })

segment_code : (d : Description) (contents : Contents) (key : Key) (size : Option ℕ) (t : Transfer) (frame : List ℕ) (toggle : Bool) (segment : ArrayVec ℕ) (last : Bool)
    → request_in t.begin.request ≡ Some (DownloadInitiate key size) → IsSegmentedDownload (capacity_at d.rows key) (requests t.later)
    → request_in frame ≡ Some (DownloadSegment toggle segment last)
    → (code : Option ℕ) → segment_refusal d contents (segmented key size t) size (is_odd (length (requests t.later))) toggle segment.items last ≡ code
    → StepsTo d.rows (unless code (cond last None (opened_at key (Download size (not (is_odd (length (requests t.later))))) (segments_joined (requests t.later) ++ segment.items))))
    (extended (exchange frame contents (unless_refused code key (done toggle))) t)
segment_code d contents key size t frame toggle segment last e u f (Some code) c = aborted_step d.rows None (exchange frame contents (aborted key code)) t refl refl
segment_code d contents key size t frame toggle segment last e u f None c =
    let odd = is_odd (length (requests t.later)) in
    let bytes = segments_joined (requests t.later) ++ segment.items in
    let completion : Option ℕ = cond last (completion_refusal d contents key size bytes) None in
    let rest : Option ℕ = first_of completion None in
    let after_toggle : first_of (room_refusal d.rows key bytes) rest ≡ None = second_none (toggle_refusal toggle odd) _ c in
    let over : nat_lt (capacity_at d.rows key) (length bytes) ≡ false = not_refused (nat_lt (capacity_at d.rows key) (length bytes)) 0x06070012 (first_none (room_refusal d.rows key bytes) rest after_toggle) in
    let finish : completion ≡ None = first_none completion None (second_none (room_refusal d.rows key bytes) rest after_toggle) in
    segment_kept d contents key size t frame toggle segment last e u f (same_toggle toggle odd (first_none (toggle_refusal toggle odd) (first_of (room_refusal d.rows key bytes) rest) c))
    (grind (arith, nat_tests)) (λ l. (allowed d contents key size bytes (if_last last _ finish l)).as_indicated) last refl
  where
    if_last : (last : Bool) (r : Option ℕ) → cond last r None ≡ None → last ≡ true → r ≡ None
    if_last true r h l = h
    if_last false r h l = absurd (false≢true l)

-- what is open after a request that goes on with a segmented download
pub download_goes_on : (d : Description) (contents : Contents) (key : Key) (size : Option ℕ) (t : Transfer) (frame : List ℕ) (request : SdoRequest)
    → request_in t.begin.request ≡ Some (DownloadInitiate key size) → IsSegmentedDownload (capacity_at d.rows key) (requests t.later)
    → request_in frame ≡ Some request → is_initiate (Some request) ≡ false
    → StepsTo d.rows (after_later d contents (Some (segmented key size t)) request) (extended (exchange frame contents (later_answers d contents (Some (segmented key size t)) request)) t)
download_goes_on d contents key size t frame (DownloadSegment toggle segment last) e u f b = segment_code d contents key size t frame toggle segment last e u f _ refl
download_goes_on d contents key size t frame (Abort k code) e u f b = received_step d.rows (exchange frame contents []) t _ k code e refl f
download_goes_on d contents key size t frame (UploadSegment toggle) e u f b = aborted_step d.rows None (exchange frame contents (aborted key 0x05040001)) t refl refl
download_goes_on d contents key size t frame BlockUploadEnd e u f b = aborted_step d.rows None (exchange frame contents (aborted key 0x05040001)) t refl refl
download_goes_on d contents key size t frame (BlockUploadAcknowledge sequence block_size) e u f b = aborted_step d.rows None (exchange frame contents (aborted key 0x05040001)) t refl refl
download_goes_on d contents key size t frame BlockUploadStart e u f b = aborted_step d.rows None (exchange frame contents (aborted key 0x05040001)) t refl refl
download_goes_on d contents key size t frame (BlockDownloadEnd unused) e u f b = aborted_step d.rows None (exchange frame contents (aborted key 0x05040001)) t refl refl
download_goes_on d contents key size t frame (DownloadExpedited k x) e u f b = absurd (false≢true (sym b))
download_goes_on d contents key size t frame (DownloadInitiate k x) e u f b = absurd (false≢true (sym b))
download_goes_on d contents key size t frame (Upload k) e u f b = absurd (false≢true (sym b))
download_goes_on d contents key size t frame (BlockUploadInitiate k n m) e u f b = absurd (false≢true (sym b))
download_goes_on d contents key size t frame (BlockDownloadInitiate k x) e u f b = absurd (false≢true (sym b))

-- ---- segmented uploads

-- the upload that a begin and segments make
abbrev pub uploading : Key → Transfer → OpenTransfer
uploading key t = record { key = key; stage = Uploading (length t.later); bytes = value_at t.begin.contents key }

upload_sent : (d : Description) (contents : Contents) (key : Key) (t : Transfer) (frame : List ℕ) (toggle : Bool)
    → request_in t.begin.request ≡ Some (Upload key) → length (value_at t.begin.contents key) ≤ capacity_at d.rows key → request_in frame ≡ Some (UploadSegment toggle)
    → (last : Bool) → nat_le (length (value_at t.begin.contents key)) (7 * length t.later + 7) ≡ last
    → StepsTo d.rows (cond (nat_le (length (value_at t.begin.contents key)) (7 * length t.later + 7)) None (opened_at key (Uploading (length t.later + 1)) (value_at t.begin.contents key)))
    (extended (exchange frame contents (upload_segment toggle (length t.later) (value_at t.begin.contents key))) t)
upload_sent d contents key t frame toggle e u f true l =
    rw l (closed_step d.rows None (exchange frame contents (Response (SegmentSent toggle (record { items = part_after (length t.later) (value_at t.begin.contents key) }) true) ∷ [])) t (Some (Upload key)) e refl
    (ap (λ r. (is_abort_request r || false) || true) f) refl)
upload_sent d contents key t frame toggle e u f false l =
    rw l (open_step d.rows _ (exchange frame contents (Response (SegmentSent toggle (record { items = part_after (length t.later) (value_at t.begin.contents key) }) false) ∷ [])) t (Some (Upload key)) e refl
    (ap (λ r. (is_abort_request r || false) || false) f)
    (let more : suc (length t.later) ≡ length t.later + 1 = omega arith in ap (λ n. opened_at key (Uploading n) (value_at t.begin.contents key)) more) u)

upload_code : (d : Description) (contents : Contents) (key : Key) (t : Transfer) (frame : List ℕ) (toggle : Bool)
    → request_in t.begin.request ≡ Some (Upload key) → length (value_at t.begin.contents key) ≤ capacity_at d.rows key → request_in frame ≡ Some (UploadSegment toggle)
    → (code : Option ℕ)
    → StepsTo d.rows (unless code (cond (nat_le (length (value_at t.begin.contents key)) (7 * length t.later + 7)) None (opened_at key (Uploading (length t.later + 1)) (value_at t.begin.contents key))))
    (extended (exchange frame contents (unless_refused code key (upload_segment toggle (length t.later) (value_at t.begin.contents key)))) t)
upload_code d contents key t frame toggle e u f (Some code) = aborted_step d.rows None (exchange frame contents (aborted key code)) t refl refl
upload_code d contents key t frame toggle e u f None = upload_sent d contents key t frame toggle e u f _ refl

-- what is open after a request that goes on with a segmented upload
pub upload_goes_on : (d : Description) (contents : Contents) (key : Key) (t : Transfer) (frame : List ℕ) (request : SdoRequest)
    → request_in t.begin.request ≡ Some (Upload key) → length (value_at t.begin.contents key) ≤ capacity_at d.rows key
    → request_in frame ≡ Some request → is_initiate (Some request) ≡ false
    → StepsTo d.rows (after_later d contents (Some (uploading key t)) request) (extended (exchange frame contents (later_answers d contents (Some (uploading key t)) request)) t)
upload_goes_on d contents key t frame (UploadSegment toggle) e u f b = upload_code d contents key t frame toggle e u f (toggle_refusal toggle (is_odd (length t.later)))
upload_goes_on d contents key t frame (Abort k code) e u f b = received_step d.rows (exchange frame contents []) t _ k code e refl f
upload_goes_on d contents key t frame (DownloadSegment toggle segment last) e u f b = aborted_step d.rows None (exchange frame contents (aborted key 0x05040001)) t refl refl
upload_goes_on d contents key t frame BlockUploadEnd e u f b = aborted_step d.rows None (exchange frame contents (aborted key 0x05040001)) t refl refl
upload_goes_on d contents key t frame (BlockUploadAcknowledge sequence block_size) e u f b = aborted_step d.rows None (exchange frame contents (aborted key 0x05040001)) t refl refl
upload_goes_on d contents key t frame BlockUploadStart e u f b = aborted_step d.rows None (exchange frame contents (aborted key 0x05040001)) t refl refl
upload_goes_on d contents key t frame (BlockDownloadEnd unused) e u f b = aborted_step d.rows None (exchange frame contents (aborted key 0x05040001)) t refl refl
upload_goes_on d contents key t frame (DownloadExpedited k x) e u f b = absurd (false≢true (sym b))
upload_goes_on d contents key t frame (DownloadInitiate k x) e u f b = absurd (false≢true (sym b))
upload_goes_on d contents key t frame (Upload k) e u f b = absurd (false≢true (sym b))
upload_goes_on d contents key t frame (BlockUploadInitiate k n m) e u f b = absurd (false≢true (sym b))
upload_goes_on d contents key t frame (BlockDownloadInitiate k x) e u f b = absurd (false≢true (sym b))
