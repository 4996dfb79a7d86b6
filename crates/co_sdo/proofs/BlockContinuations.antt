-- What is open after a request that goes on with a block transfer, outside a sub-block.
use Rattle.std.proofs.Common.{◌≡◌, ℕ, ◌+◌, ◌≤◌, Bool, true, false, cond, not, List, [], ◌∷◌, length, Option, Some, None, refl, sym, ap, ◌∙◌}
use Rattle.std.specs.Prelude.{◌==◌, nat_lt, map}
use Rattle.std.specs.List.{list_any, range_with_len}
use Rattle.std.proofs.lemmas.Bool.{false≢true}
use Rattle.std.proofs.lemmas.List.FromFn.{length-map-range_with_len}
use Rattle.co_value.specs.declared.key.Key.{Key}
use Rattle.co_frame.specs.SdoRequests.{request_in}
use Rattle.co_frame.specs.declared.block_segment.BlockSegment.{BlockSegment}
use Rattle.co_frame.specs.declared.sdo_request.SdoRequest.{SdoRequest}
use Rattle.co_frame.specs.declared.sdo_request.SdoRequest.TheVariants.{DownloadExpedited, DownloadInitiate, DownloadSegment, Upload, UploadSegment, Abort, BlockUploadInitiate, BlockUploadEnd, BlockUploadAcknowledge, BlockUploadStart, BlockDownloadInitiate, BlockDownloadEnd}
use Rattle.co_frame.specs.declared.sdo_response.SdoResponse.TheVariants.{BlockDownloadDone}
use Rattle.co_dict.specs.Rows.{Contents}
use Rattle.co_dict.specs.Stores.{Description}
use Rattle.co_dict.specs.Refusals.{refused_if}
use Rattle.co_sdo.specs.declared.stage.Stage.{Stage}
use Rattle.co_sdo.specs.declared.stage.Stage.TheVariants.{Download, Upload as Uploading, SubBlock, LastTaken, BlockUploadInitiated as Begun, BlockUpload, BlockUploadEnded}
use Rattle.co_sdo.specs.Refused.{capacity_at, completion_refusal}
use Rattle.co_sdo.specs.Log.{Response, Segment, Exchange, is_abort, requests}
use Rattle.co_sdo.specs.SubBlocks.{block_bytes, has_last}
use Rattle.co_sdo.specs.Downloads.{is_as_indicated, without}
use Rattle.co_sdo.specs.Uploads.{value_at, segment_count, sub_block_sent, sub_block_length, block_segment, block_upload_end}
use Rattle.co_sdo.specs.OpenTransfers.{Transfer, is_initiate, is_abort_request, is_upload_end}
use Rattle.co_sdo.specs.Opened.{OpenTransfer, acknowledged, acknowledged_by, is_end_sent, block_upload_stage}
use Rattle.co_sdo.specs.Replies.{aborted, unless_refused, block_size_refusal, segment_answers, upload_answers, next_sub_block, acknowledge_answers, upload_end_answers, start_answers, later_answers, block_end_answers}
use Rattle.co_sdo.specs.Steps.{opened_at, after_segment, after_upload_segment, after_next_sub_block, after_acknowledge, after_start, after_later}
use Rattle.co_sdo.specs.Completed.{unless}
use Rattle.co_sdo.proofs.Logs.{extended}
use Rattle.co_sdo.proofs.RefusalLemmas.{allowed}
use Rattle.co_sdo.proofs.Initiations.{StepsTo, exchange}
use Rattle.co_sdo.proofs.Continuations.{closed_step, open_step, aborted_step, received_step}

-- ---- block uploads

no_aborts : (g : ℕ → BlockSegment) (numbers : List ℕ) → list_any is_abort (map (λ n. Segment (g n)) numbers) ≡ false
no_aborts g [] = refl
no_aborts g (n ∷ numbers) = no_aborts g numbers

no_ends : (g : ℕ → BlockSegment) (numbers : List ℕ) → list_any is_end_sent (map (λ n. Segment (g n)) numbers) ≡ false
no_ends g [] = refl
no_ends g (n ∷ numbers) = no_ends g numbers

-- what is open of a block upload
abbrev pub block_uploading : Key → ℕ → Transfer → OpenTransfer
block_uploading key size t = record { key = key; stage = block_upload_stage size t.later; bytes = value_at t.begin.contents key }

-- a sub-block was sent
sent_step : (d : Description) (contents : Contents) (key : Key) (size threshold : ℕ) (t : Transfer) (frame : List ℕ) (request : SdoRequest) (position block_size : ℕ)
    → request_in t.begin.request ≡ Some (BlockUploadInitiate key size threshold) → length (value_at t.begin.contents key) ≤ capacity_at d.rows key
    → request_in frame ≡ Some request → is_abort_request (Some request) ≡ false → is_upload_end (Some request) ≡ false → acknowledged (frame ∷ requests t.later) ≡ position
    → StepsTo d.rows (opened_at key (BlockUpload position (sub_block_length (value_at t.begin.contents key) position block_size)) (value_at t.begin.contents key))
    (extended (exchange frame contents (sub_block_sent (value_at t.begin.contents key) position block_size)) t)
sent_step d contents key size threshold t frame request position block_size e u f a n p =
    let value = value_at t.begin.contents key in
    let numbers = range_with_len 1 (sub_block_length value position block_size) in
    open_step d.rows _ (exchange frame contents (sub_block_sent value position block_size)) t _ e refl
    (rw (f, a, n, no_aborts (block_segment value position) numbers) refl)
    (rw (no_ends (block_segment value position) numbers, p, length-map-range_with_len (λ number. Segment (block_segment value position number)) 1 (sub_block_length value position block_size)) refl) u

-- the server's end was sent
ended_step : (d : Description) (contents : Contents) (key : Key) (size threshold : ℕ) (t : Transfer) (frame : List ℕ) (request : SdoRequest)
    → request_in t.begin.request ≡ Some (BlockUploadInitiate key size threshold) → length (value_at t.begin.contents key) ≤ capacity_at d.rows key
    → request_in frame ≡ Some request → is_abort_request (Some request) ≡ false → is_upload_end (Some request) ≡ false
    → StepsTo d.rows (opened_at key BlockUploadEnded (value_at t.begin.contents key)) (extended (exchange frame contents (block_upload_end (value_at t.begin.contents key))) t)
ended_step d contents key size threshold t frame request e u f a n =
    open_step d.rows _ (exchange frame contents (block_upload_end (value_at t.begin.contents key))) t _ e refl (rw (f, a, n) refl) refl u

next_step : (d : Description) (contents : Contents) (key : Key) (size threshold : ℕ) (t : Transfer) (frame : List ℕ) (sequence block_size : ℕ)
    → request_in t.begin.request ≡ Some (BlockUploadInitiate key size threshold) → length (value_at t.begin.contents key) ≤ capacity_at d.rows key
    → request_in frame ≡ Some (BlockUploadAcknowledge sequence block_size)
    → (count : ℕ) → acknowledged (requests t.later) ≡ count → (all : Bool) (code : Option ℕ)
    → StepsTo d.rows
    (cond all (opened_at key BlockUploadEnded (value_at t.begin.contents key))
    (unless code (opened_at key (BlockUpload (count + sequence) (sub_block_length (value_at t.begin.contents key) (count + sequence) block_size)) (value_at t.begin.contents key))))
    (extended (exchange frame contents (cond all (block_upload_end (value_at t.begin.contents key))
    (unless_refused code key (sub_block_sent (value_at t.begin.contents key) (count + sequence) block_size)))) t)
next_step d contents key size threshold t frame sequence block_size e u f count c true code = ended_step d contents key size threshold t frame (BlockUploadAcknowledge sequence block_size) e u f refl refl
next_step d contents key size threshold t frame sequence block_size e u f count c false (Some code) = aborted_step d.rows None (exchange frame contents (aborted key code)) t refl refl
next_step d contents key size threshold t frame sequence block_size e u f count c false None =
    sent_step d contents key size threshold t frame (BlockUploadAcknowledge sequence block_size) (count + sequence) block_size e u f refl refl
    (ap (λ r. acknowledged (requests t.later) + acknowledged_by r) f ∙ ap (λ n. n + sequence) c)

acknowledge_code : (d : Description) (contents : Contents) (key : Key) (size threshold : ℕ) (t : Transfer) (frame : List ℕ) (sequence block_size : ℕ)
    → request_in t.begin.request ≡ Some (BlockUploadInitiate key size threshold) → length (value_at t.begin.contents key) ≤ capacity_at d.rows key
    → request_in frame ≡ Some (BlockUploadAcknowledge sequence block_size)
    → (count : ℕ) → acknowledged (requests t.later) ≡ count → (stage : Stage) (code : Option ℕ)
    → StepsTo d.rows
    (unless code (after_next_sub_block (record { key = key; stage = stage; bytes = value_at t.begin.contents key }) (count + sequence) block_size))
    (extended (exchange frame contents (unless_refused code key (next_sub_block (record { key = key; stage = stage; bytes = value_at t.begin.contents key }) (count + sequence) block_size))) t)
acknowledge_code d contents key size threshold t frame sequence block_size e u f count c stage (Some code) = aborted_step d.rows None (exchange frame contents (aborted key code)) t refl refl
acknowledge_code d contents key size threshold t frame sequence block_size e u f count c stage None =
    next_step d contents key size threshold t frame sequence block_size e u f count c (count + sequence == segment_count (value_at t.begin.contents key)) (block_size_refusal block_size)

-- the client's end, an acknowledgement and a start, by how far the block upload is
end_stage : (d : Description) (contents : Contents) (key : Key) (size threshold : ℕ) (t : Transfer) (frame : List ℕ)
    → request_in t.begin.request ≡ Some (BlockUploadInitiate key size threshold) → request_in frame ≡ Some BlockUploadEnd
    → (stage : Stage)
    → StepsTo d.rows None (extended (exchange frame contents (upload_end_answers (record { key = key; stage = stage; bytes = value_at t.begin.contents key }) stage)) t)
end_stage d contents key size threshold t frame e f BlockUploadEnded = closed_step d.rows None (exchange frame contents []) t _ e refl (rw f refl) refl
end_stage d contents key size threshold t frame e f (Download i b) = aborted_step d.rows None (exchange frame contents (aborted key 0x05040001)) t refl refl
end_stage d contents key size threshold t frame e f (Uploading n) = aborted_step d.rows None (exchange frame contents (aborted key 0x05040001)) t refl refl
end_stage d contents key size threshold t frame e f (SubBlock i n) = aborted_step d.rows None (exchange frame contents (aborted key 0x05040001)) t refl refl
end_stage d contents key size threshold t frame e f (LastTaken i) = aborted_step d.rows None (exchange frame contents (aborted key 0x05040001)) t refl refl
end_stage d contents key size threshold t frame e f (Begun n) = aborted_step d.rows None (exchange frame contents (aborted key 0x05040001)) t refl refl
end_stage d contents key size threshold t frame e f (BlockUpload n m) = aborted_step d.rows None (exchange frame contents (aborted key 0x05040001)) t refl refl

acknowledge_stage : (d : Description) (contents : Contents) (key : Key) (size threshold : ℕ) (t : Transfer) (frame : List ℕ) (sequence block_size : ℕ)
    → request_in t.begin.request ≡ Some (BlockUploadInitiate key size threshold) → length (value_at t.begin.contents key) ≤ capacity_at d.rows key
    → request_in frame ≡ Some (BlockUploadAcknowledge sequence block_size)
    → (later : List Exchange) → t.later ≡ later
    → StepsTo d.rows
    (after_acknowledge (record { key = key; stage = block_upload_stage size later; bytes = value_at t.begin.contents key }) (block_upload_stage size later) sequence block_size)
    (extended (exchange frame contents (acknowledge_answers (record { key = key; stage = block_upload_stage size later; bytes = value_at t.begin.contents key }) (block_upload_stage size later) sequence block_size)) t)
acknowledge_stage d contents key size threshold t frame sequence block_size e u f [] l = aborted_step d.rows None (exchange frame contents (aborted key 0x05040001)) t refl refl
acknowledge_stage d contents key size threshold t frame sequence block_size e u f (x ∷ older) l = by_end (list_any is_end_sent x.answers)
  where
    by_end : (ended : Bool)
        → StepsTo d.rows
        (after_acknowledge (record { key = key; stage = cond ended BlockUploadEnded (BlockUpload (acknowledged (requests (x ∷ older))) (length x.answers)); bytes = value_at t.begin.contents key })
        (cond ended BlockUploadEnded (BlockUpload (acknowledged (requests (x ∷ older))) (length x.answers))) sequence block_size)
        (extended (exchange frame contents (acknowledge_answers (record { key = key; stage = cond ended BlockUploadEnded (BlockUpload (acknowledged (requests (x ∷ older))) (length x.answers)); bytes = value_at t.begin.contents key })
        (cond ended BlockUploadEnded (BlockUpload (acknowledged (requests (x ∷ older))) (length x.answers))) sequence block_size)) t)
    by_end true = aborted_step d.rows None (exchange frame contents (aborted key 0x05040001)) t refl refl
    by_end false = acknowledge_code d contents key size threshold t frame sequence block_size e u f (acknowledged (requests (x ∷ older))) (ap (λ xs. acknowledged (requests xs)) l)
        (BlockUpload (acknowledged (requests (x ∷ older))) (length x.answers)) (refused_if (nat_lt (length x.answers) sequence) 0x05040003)

start_stage : (d : Description) (contents : Contents) (key : Key) (size threshold : ℕ) (t : Transfer) (frame : List ℕ)
    → request_in t.begin.request ≡ Some (BlockUploadInitiate key size threshold) → length (value_at t.begin.contents key) ≤ capacity_at d.rows key
    → request_in frame ≡ Some BlockUploadStart
    → (later : List Exchange) → t.later ≡ later
    → StepsTo d.rows
    (after_start (record { key = key; stage = block_upload_stage size later; bytes = value_at t.begin.contents key }) (block_upload_stage size later))
    (extended (exchange frame contents (start_answers (record { key = key; stage = block_upload_stage size later; bytes = value_at t.begin.contents key }) (block_upload_stage size later))) t)
start_stage d contents key size threshold t frame e u f [] l =
    sent_step d contents key size threshold t frame BlockUploadStart 0 size e u f refl refl (rw (l, f) refl)
start_stage d contents key size threshold t frame e u f (x ∷ older) l = by_end (list_any is_end_sent x.answers)
  where
    by_end : (ended : Bool)
        → StepsTo d.rows
        (after_start (record { key = key; stage = cond ended BlockUploadEnded (BlockUpload (acknowledged (requests (x ∷ older))) (length x.answers)); bytes = value_at t.begin.contents key })
        (cond ended BlockUploadEnded (BlockUpload (acknowledged (requests (x ∷ older))) (length x.answers))))
        (extended (exchange frame contents (start_answers (record { key = key; stage = cond ended BlockUploadEnded (BlockUpload (acknowledged (requests (x ∷ older))) (length x.answers)); bytes = value_at t.begin.contents key })
        (cond ended BlockUploadEnded (BlockUpload (acknowledged (requests (x ∷ older))) (length x.answers))))) t)
    by_end true = aborted_step d.rows None (exchange frame contents (aborted key 0x05040001)) t refl refl
    by_end false = aborted_step d.rows None (exchange frame contents (aborted key 0x05040001)) t refl refl

-- a request that doesn't go with a block upload
segment_stage : (d : Description) (contents : Contents) (o : OpenTransfer) (toggle : Bool) (part : List ℕ) (last : Bool) (size : ℕ) (later : List Exchange)
    → (list_any is_abort (segment_answers d contents o (block_upload_stage size later) toggle part last) ≡ true) × (after_segment d contents o (block_upload_stage size later) toggle part last ≡ None)
segment_stage d contents o toggle part last size [] = (refl, refl)
segment_stage d contents o toggle part last size (x ∷ older) = by_end (list_any is_end_sent x.answers)
  where
    by_end : (ended : Bool)
        → (list_any is_abort (segment_answers d contents o (cond ended BlockUploadEnded (BlockUpload (acknowledged (requests (x ∷ older))) (length x.answers))) toggle part last) ≡ true)
        × (after_segment d contents o (cond ended BlockUploadEnded (BlockUpload (acknowledged (requests (x ∷ older))) (length x.answers))) toggle part last ≡ None)
    by_end true = (refl, refl)
    by_end false = (refl, refl)

upload_stage : (o : OpenTransfer) (toggle : Bool) (size : ℕ) (later : List Exchange)
    → (list_any is_abort (upload_answers o (block_upload_stage size later) toggle) ≡ true) × (after_upload_segment o (block_upload_stage size later) toggle ≡ None)
upload_stage o toggle size [] = (refl, refl)
upload_stage o toggle size (x ∷ older) = by_end (list_any is_end_sent x.answers)
  where
    by_end : (ended : Bool)
        → (list_any is_abort (upload_answers o (cond ended BlockUploadEnded (BlockUpload (acknowledged (requests (x ∷ older))) (length x.answers))) toggle) ≡ true)
        × (after_upload_segment o (cond ended BlockUploadEnded (BlockUpload (acknowledged (requests (x ∷ older))) (length x.answers))) toggle ≡ None)
    by_end true = (refl, refl)
    by_end false = (refl, refl)

download_end_stage : (d : Description) (contents : Contents) (o : OpenTransfer) (unused : ℕ) (size : ℕ) (later : List Exchange)
    → list_any is_abort (block_end_answers d contents o (block_upload_stage size later) unused) ≡ true
download_end_stage d contents o unused size [] = refl
download_end_stage d contents o unused size (x ∷ older) = by_end (list_any is_end_sent x.answers)
  where
    by_end : (ended : Bool) → list_any is_abort (block_end_answers d contents o (cond ended BlockUploadEnded (BlockUpload (acknowledged (requests (x ∷ older))) (length x.answers))) unused) ≡ true
    by_end true = refl
    by_end false = refl

-- what is open after a request that goes on with a block upload
pub block_upload_goes_on : (d : Description) (contents : Contents) (key : Key) (size threshold : ℕ) (t : Transfer) (frame : List ℕ) (request : SdoRequest)
    → request_in t.begin.request ≡ Some (BlockUploadInitiate key size threshold) → length (value_at t.begin.contents key) ≤ capacity_at d.rows key
    → request_in frame ≡ Some request → is_initiate (Some request) ≡ false
    → StepsTo d.rows (after_later d contents (Some (block_uploading key size t)) request) (extended (exchange frame contents (later_answers d contents (Some (block_uploading key size t)) request)) t)
block_upload_goes_on d contents key size threshold t frame BlockUploadStart e u f b = start_stage d contents key size threshold t frame e u f _ refl
block_upload_goes_on d contents key size threshold t frame (BlockUploadAcknowledge sequence block_size) e u f b = acknowledge_stage d contents key size threshold t frame sequence block_size e u f _ refl
block_upload_goes_on d contents key size threshold t frame BlockUploadEnd e u f b = end_stage d contents key size threshold t frame e f (block_upload_stage size t.later)
block_upload_goes_on d contents key size threshold t frame (Abort k code) e u f b = received_step d.rows (exchange frame contents []) t _ k code e refl f
block_upload_goes_on d contents key size threshold t frame (DownloadSegment toggle segment last) e u f b =
    let both = segment_stage d contents (block_uploading key size t) toggle segment.items last size t.later in
    aborted_step d.rows _ (exchange frame contents (segment_answers d contents (block_uploading key size t) (block_upload_stage size t.later) toggle segment.items last)) t both.0 both.1
block_upload_goes_on d contents key size threshold t frame (UploadSegment toggle) e u f b =
    let both = upload_stage (block_uploading key size t) toggle size t.later in
    aborted_step d.rows _ (exchange frame contents (upload_answers (block_uploading key size t) (block_upload_stage size t.later) toggle)) t both.0 both.1
block_upload_goes_on d contents key size threshold t frame (BlockDownloadEnd unused) e u f b =
    aborted_step d.rows None (exchange frame contents (block_end_answers d contents (block_uploading key size t) (block_upload_stage size t.later) unused)) t (download_end_stage d contents (block_uploading key size t) unused size t.later) refl
block_upload_goes_on d contents key size threshold t frame (DownloadExpedited k x) e u f b = absurd (false≢true (sym b))
block_upload_goes_on d contents key size threshold t frame (DownloadInitiate k x) e u f b = absurd (false≢true (sym b))
block_upload_goes_on d contents key size threshold t frame (Upload k) e u f b = absurd (false≢true (sym b))
block_upload_goes_on d contents key size threshold t frame (BlockUploadInitiate k n m) e u f b = absurd (false≢true (sym b))
block_upload_goes_on d contents key size threshold t frame (BlockDownloadInitiate k x) e u f b = absurd (false≢true (sym b))

-- ---- block downloads, after the segment with c

-- a block download whose segment with c was taken
abbrev pub last_taken : Key → Option ℕ → Transfer → OpenTransfer
last_taken key size t = record { key = key; stage = LastTaken size; bytes = block_bytes (requests t.later) }

end_code : (d : Description) (contents : Contents) (key : Key) (size : Option ℕ) (t : Transfer) (frame : List ℕ) (unused : ℕ)
    → request_in t.begin.request ≡ Some (BlockDownloadInitiate key size) → has_last (requests t.later) ≡ true → request_in frame ≡ Some (BlockDownloadEnd unused)
    → (code : Option ℕ) → completion_refusal d contents key size (without unused (block_bytes (requests t.later))) ≡ code
    → StepsTo d.rows None (extended (exchange frame contents (unless_refused code key (Response BlockDownloadDone ∷ []))) t)
end_code d contents key size t frame unused e h f (Some code) c = aborted_step d.rows None (exchange frame contents (aborted key code)) t refl refl
end_code d contents key size t frame unused e h f None c =
    let total : is_as_indicated size (length (without unused (block_bytes (requests t.later)))) ≡ true = (allowed d contents key size (without unused (block_bytes (requests t.later))) c).as_indicated in
    closed_step d.rows None (exchange frame contents (Response BlockDownloadDone ∷ [])) t _ e (ap not h) (rw (f, h, total) refl) refl

-- what is open after a request that goes on with a block download, after the segment with c
pub block_download_goes_on : (d : Description) (contents : Contents) (key : Key) (size : Option ℕ) (t : Transfer) (frame : List ℕ) (request : SdoRequest)
    → request_in t.begin.request ≡ Some (BlockDownloadInitiate key size) → has_last (requests t.later) ≡ true
    → request_in frame ≡ Some request → is_initiate (Some request) ≡ false
    → StepsTo d.rows (after_later d contents (Some (last_taken key size t)) request) (extended (exchange frame contents (later_answers d contents (Some (last_taken key size t)) request)) t)
block_download_goes_on d contents key size t frame (BlockDownloadEnd unused) e h f b = end_code d contents key size t frame unused e h f _ refl
block_download_goes_on d contents key size t frame (Abort k code) e h f b = received_step d.rows (exchange frame contents []) t _ k code e (ap not h) f
block_download_goes_on d contents key size t frame (DownloadSegment toggle segment last) e h f b = aborted_step d.rows None (exchange frame contents (aborted key 0x05040001)) t refl refl
block_download_goes_on d contents key size t frame (UploadSegment toggle) e h f b = aborted_step d.rows None (exchange frame contents (aborted key 0x05040001)) t refl refl
block_download_goes_on d contents key size t frame BlockUploadEnd e h f b = aborted_step d.rows None (exchange frame contents (aborted key 0x05040001)) t refl refl
block_download_goes_on d contents key size t frame (BlockUploadAcknowledge sequence block_size) e h f b = aborted_step d.rows None (exchange frame contents (aborted key 0x05040001)) t refl refl
block_download_goes_on d contents key size t frame BlockUploadStart e h f b = aborted_step d.rows None (exchange frame contents (aborted key 0x05040001)) t refl refl
block_download_goes_on d contents key size t frame (DownloadExpedited k x) e h f b = absurd (false≢true (sym b))
block_download_goes_on d contents key size t frame (DownloadInitiate k x) e h f b = absurd (false≢true (sym b))
block_download_goes_on d contents key size t frame (Upload k) e h f b = absurd (false≢true (sym b))
block_download_goes_on d contents key size t frame (BlockUploadInitiate k n m) e h f b = absurd (false≢true (sym b))
block_download_goes_on d contents key size t frame (BlockDownloadInitiate k x) e h f b = absurd (false≢true (sym b))
