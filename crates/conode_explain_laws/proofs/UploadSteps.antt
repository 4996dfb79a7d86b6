-- What a request completes of an upload at the channel: by what is open, and by the channel's log.
use Rattle.std.proofs.Common.{◌≡◌, ℕ, zero, suc, ◌+◌, Bool, true, false, not, List, [], ◌∷◌, length, map, Option, Some, None, refl, sym, ap, ◌∙◌}
use Rattle.std.specs.Prelude.{if◌then◌else◌, nat_le, nat_lt, ◌==◌, ◌&&◌, ◌||◌}
use Rattle.std.specs.List.{list_any, range_with_len}
use Rattle.std.specs.Option.{option_map_or}
use Rattle.std.proofs.lemmas.Bool.{false≢true}
use Rattle.co_value.specs.declared.key.Key.{Key}
use Rattle.co_frame.specs.Segments.{is_odd}
use Rattle.co_frame.specs.SdoRequests.{request_in}
use Rattle.co_frame.specs.declared.sdo_request.ExpeditedData.TheVariants.{Indicated}
use Rattle.co_frame.specs.declared.sdo_request.SdoRequest.{SdoRequest}
use Rattle.co_frame.specs.declared.sdo_request.SdoRequest.TheVariants.{DownloadExpedited, DownloadInitiate, DownloadSegment, Upload as UploadInitiate, UploadSegment as NextSegment, Abort as Abandon, BlockUploadInitiate, BlockUploadStart, BlockUploadAcknowledge, BlockUploadEnd, BlockDownloadInitiate, BlockDownloadEnd}
use Rattle.co_frame.specs.declared.sdo_response.SdoResponse.TheVariants.{UploadExpedited, UploadInitiated, UploadSegment, BlockDownloadAcknowledge}
use Rattle.co_dict.specs.Rows.{Rows, Contents}
use Rattle.co_dict.specs.Stores.{Description}
use Rattle.co_dict.specs.Refusals.{refused_if, first_of}
use Rattle.co_sdo.specs.declared.stage.Stage.{Stage}
use Rattle.co_sdo.specs.declared.stage.Stage.TheVariants.{Download as Receiving, Upload as Uploading, SubBlock as InSubBlock, LastTaken, BlockUploadInitiated as Begun, BlockUpload, BlockUploadEnded}
use Rattle.co_sdo.specs.Refused.{reading_refusal, initiate_refusal, completion_refusal}
use Rattle.co_sdo.specs.Log.{Answer, Response as Replied, Segment as Sent, Exchange, Event, Exchanged, Ticked, Dropped, Log, requests}
use Rattle.co_sdo.specs.SubBlocks.{ends_sub_block, sub_block, taken_segments, has_last}
use Rattle.co_sdo.specs.Downloads.{expedited_part, without}
use Rattle.co_sdo.specs.Uploads.{value_at, part_after, is_last_after, segment_count, block_segment, sub_block_length, sub_block_sent, block_upload_end}
use Rattle.co_sdo.specs.OpenTransfers.{Transfer as Opened, Since, is_initiate, is_last_part, is_inside, has_cut, is_finished, transfer_of, open_since, begins, and_event, since_with, since_initiate}
use Rattle.co_sdo.specs.Opened.{OpenTransfer, opened, opened_by, opened_after, is_end_sent}
use Rattle.co_sdo.specs.Replies.{unless_refused, toggle_refusal, block_size_refusal, segment_refusal, sub_block_refusal, segment_answers, block_end_answers, upload_answers, start_answers, next_sub_block, acknowledge_answers, upload_end_answers, frame_answers, request_answers, is_in_sub_block, answers_to, reply_to, taken_with}
use Rattle.co_sdo.specs.Completed.{unless}
use Rattle.co_sdo.proofs.Logs.{inside_is}
use Rattle.conode_explain_laws.specs.Uploads.{Read, upload_of, upload_since, answered_whole, sent_last, acknowledged_whole}

-- ---- by what is open

abbrev pub all_of : OpenTransfer → Option Read
all_of o = Some (record { key = o.key; bytes = o.bytes })

-- an upload of 1 to 4 bytes is answered at once
abbrev pub at_once : Description → Contents → Key → Option Read
at_once d contents key =
    unless (reading_refusal d contents key)
    (if nat_le 1 (length (value_at contents key)) && nat_le (length (value_at contents key)) 4 then Some (record { key = key; bytes = value_at contents key }) else None)

-- the request of a segment, which may be the last
abbrev pub with_segment : OpenTransfer → Stage → Bool → Option Read
with_segment o (Uploading sent) toggle = unless (toggle_refusal toggle (is_odd sent)) (if is_last_after sent o.bytes then all_of o else None)
with_segment o _ toggle = None

-- an acknowledgement, which may be of the last segments
abbrev pub with_acknowledge : OpenTransfer → Stage → ℕ → Option Read
with_acknowledge o (BlockUpload position sent) sequence =
    unless (refused_if (nat_lt sent sequence) 0x05040003) (if position + sequence == segment_count o.bytes then all_of o else None)
with_acknowledge o _ sequence = None

abbrev pub of_open : Option OpenTransfer → (OpenTransfer → Stage → Option Read) → Option Read
of_open None whole = None
of_open (Some o) whole = whole o o.stage

-- the upload that the answers to a request complete, outside a sub-block
abbrev pub answered_by : Description → Contents → Option OpenTransfer → Option SdoRequest → Option Read
answered_by d contents current (Some (UploadInitiate key)) = at_once d contents key
answered_by d contents current (Some (NextSegment toggle)) = of_open current (λ o stage. with_segment o stage toggle)
answered_by d contents current _ = None

-- the upload in blocks all of which is acknowledged with a request
abbrev pub acknowledged_by : Option OpenTransfer → Option SdoRequest → Option Read
acknowledged_by current (Some (BlockUploadAcknowledge sequence block_size)) = of_open current (λ o stage. with_acknowledge o stage sequence)
acknowledged_by current _ = None

-- and with a frame
abbrev pub answered_next : Description → Contents → Option OpenTransfer → List ℕ → Option Read
answered_next d contents current frame = if is_in_sub_block current then None else answered_by d contents current (request_in frame)

abbrev pub acknowledged_next : Option OpenTransfer → List ℕ → Option Read
acknowledged_next current frame = if is_in_sub_block current then None else acknowledged_by current (request_in frame)

-- ---- answers with neither the last part of an upload, nor the end of one in blocks

abbrev Quiet : List Answer → Type 0
Quiet answers = (list_any is_last_part answers ≡ false) × (list_any is_end_sent answers ≡ false)

quiet_unless : (refusal : Option ℕ) (key : Key) (answers : List Answer) → Quiet answers → Quiet (unless_refused refusal key answers)
quiet_unless None key answers h = h
quiet_unless (Some code) key answers h = (refl, refl)

quiet_segments : (bytes : List ℕ) (position number more : ℕ) → Quiet (map (λ n. Sent (block_segment bytes position n)) (range_with_len number more))
quiet_segments bytes position number zero = (refl, refl)
quiet_segments bytes position number (suc more) = quiet_segments bytes position (number + 1) more

quiet_sub_block : (bytes : List ℕ) (position size : ℕ) → Quiet (sub_block_sent bytes position size)
quiet_sub_block bytes position size = quiet_segments bytes position 1 (sub_block_length bytes position size)

quiet_inside : (rows : Rows) (o : OpenTransfer) (stage : Stage) (frame : List ℕ) → Quiet (frame_answers rows o stage frame)
quiet_inside rows o (InSubBlock indicated taken) frame = by (ends_sub_block frame)
  where
    by : (ends : Bool) → Quiet (if ends then unless_refused (sub_block_refusal rows o taken frame) o.key (Replied (BlockDownloadAcknowledge (taken_with taken frame) 127) ∷ []) else [])
    by true = quiet_unless (sub_block_refusal rows o taken frame) o.key (Replied (BlockDownloadAcknowledge (taken_with taken frame) 127) ∷ []) (refl, refl)
    by false = (refl, refl)
quiet_inside rows o _ frame = (refl, refl)

quiet_download : (d : Description) (contents : Contents) (o : OpenTransfer) (stage : Stage) (toggle : Bool) (part : List ℕ) (last : Bool) → Quiet (segment_answers d contents o stage toggle part last)
quiet_download d contents o (Receiving size expected) toggle part last = quiet_unless (segment_refusal d contents o size expected toggle part last) o.key _ (refl, refl)
quiet_download d contents o _ toggle part last = (refl, refl)

quiet_end : (d : Description) (contents : Contents) (o : OpenTransfer) (stage : Stage) (unused : ℕ) → Quiet (block_end_answers d contents o stage unused)
quiet_end d contents o (LastTaken size) unused = quiet_unless (completion_refusal d contents o.key size (without unused o.bytes)) o.key _ (refl, refl)
quiet_end d contents o _ unused = (refl, refl)

quiet_start : (o : OpenTransfer) (stage : Stage) → Quiet (start_answers o stage)
quiet_start o (Begun block_size) = quiet_sub_block o.bytes 0 block_size
quiet_start o _ = (refl, refl)

quiet_upload_end : (o : OpenTransfer) (stage : Stage) → Quiet (upload_end_answers o stage)
quiet_upload_end o BlockUploadEnded = (refl, refl)
quiet_upload_end o _ = (refl, refl)

-- requests that complete no upload
abbrev is_other : Option SdoRequest → Bool
is_other (Some (UploadInitiate key)) = false
is_other (Some (NextSegment toggle)) = false
is_other (Some (BlockUploadAcknowledge sequence block_size)) = false
is_other _ = true

quiet_request : (d : Description) (contents : Contents) (current : Option OpenTransfer) (r : Option SdoRequest) → is_other r ≡ true → Quiet (request_answers d contents current r)
quiet_request d contents current None n = (refl, refl)
quiet_request d contents current (Some (DownloadExpedited key value)) n = quiet_unless (completion_refusal d contents key None (expedited_part d.rows key value)) key _ (refl, refl)
quiet_request d contents current (Some (DownloadInitiate key size)) n = quiet_unless (initiate_refusal d key size) key _ (refl, refl)
quiet_request d contents current (Some (BlockUploadInitiate key size threshold)) n = quiet_unless (first_of (reading_refusal d contents key) (block_size_refusal size)) key _ (refl, refl)
quiet_request d contents current (Some (BlockDownloadInitiate key size)) n = quiet_unless (initiate_refusal d key size) key _ (refl, refl)
quiet_request d contents None (Some (DownloadSegment toggle segment last)) n = (refl, refl)
quiet_request d contents (Some o) (Some (DownloadSegment toggle segment last)) n = quiet_download d contents o o.stage toggle segment.items last
quiet_request d contents None (Some BlockUploadStart) n = (refl, refl)
quiet_request d contents (Some o) (Some BlockUploadStart) n = quiet_start o o.stage
quiet_request d contents None (Some BlockUploadEnd) n = (refl, refl)
quiet_request d contents (Some o) (Some BlockUploadEnd) n = quiet_upload_end o o.stage
quiet_request d contents None (Some (BlockDownloadEnd unused)) n = (refl, refl)
quiet_request d contents (Some o) (Some (BlockDownloadEnd unused)) n = quiet_end d contents o o.stage unused
quiet_request d contents current (Some (Abandon key code)) n = (refl, refl)
quiet_request d contents current (Some _) n = absurd (false≢true n)

-- ---- the upload since the last initiate request

-- an upload is open at the channel
abbrev is_upload_stage : Stage → Bool
is_upload_stage (Uploading sent) = true
is_upload_stage (BlockUpload position sent) = true
is_upload_stage _ = false

abbrev is_upload_open : Option OpenTransfer → Bool
is_upload_open None = false
is_upload_open (Some o) = is_upload_stage o.stage

abbrev whole_open : Option OpenTransfer → Option Read
whole_open None = None
whole_open (Some o) = all_of o

block_download_no : (size : Option ℕ) (later : List (List ℕ)) (b : Bool)
    → is_upload_stage (if b then LastTaken size else InSubBlock size (length (taken_segments (sub_block later)))) ≡ false
block_download_no size later true = refl
block_download_no size later false = refl

-- its bytes are those that the entry had at initiate
upload_by : (r : Option SdoRequest) (t : Opened) (o : OpenTransfer) → opened_by r t ≡ Some o → is_upload_stage o.stage ≡ true → upload_of r t.begin.contents ≡ all_of o
upload_by (Some (UploadInitiate other)) t o h up = ap whole_open h
upload_by (Some (BlockUploadInitiate other block_size threshold)) t o h up = ap whole_open h
upload_by (Some (BlockDownloadInitiate other size)) t o h up =
    absurd (false≢true (sym (block_download_no size (requests t.later) (has_last (requests t.later))) ∙ ap is_upload_open h ∙ up))
upload_by r t o h up = absurd (false≢true (ap is_upload_open h ∙ up))

upload_open : (s : Option Since) (o : OpenTransfer) → opened (open_since s) ≡ Some o → is_upload_stage o.stage ≡ true → upload_since s ≡ all_of o
upload_open None o h up = absurd (false≢true (ap is_upload_open h ∙ up))
upload_open (Some s) o h up = by (has_cut s.begin s.later || is_finished (transfer_of s)) h
  where
    by : (over : Bool) → opened (if over then None else Some (transfer_of s)) ≡ Some o → upload_of (request_in s.begin.request) s.begin.contents ≡ all_of o
    by true h = absurd (false≢true (ap is_upload_open h ∙ up))
    by false h = upload_by (request_in s.begin.request) (transfer_of s) o h up

upload_more : (e : Event) (s : Option Since) → upload_since (and_event e s) ≡ upload_since s
upload_more e None = refl
upload_more e (Some s) = refl

-- an initiate request begins one, another request doesn't
since_begun : (s : Option Since) (x : Exchange) → begins (open_since s) x.request ≡ true → upload_since (since_with (Exchanged x) s) ≡ upload_of (request_in x.request) x.contents
since_begun s x b = rw b refl

since_later : (s : Option Since) (x : Exchange) → begins (open_since s) x.request ≡ false → upload_since (since_with (Exchanged x) s) ≡ upload_since s
since_later s x b = rw b (upload_more (Exchanged x) s)

never : (b : Bool) → (b && false) ≡ false
never true = refl
never false = refl

-- ---- the answers to a request, where this is the upload since the last initiate request

when : (b : Bool) (whole : Option Read) → b ≡ false → (if b then whole else None) ≡ None
when true whole e = absurd (false≢true (sym e))
when false whole e = refl

-- the upload since then is that of this request, or the open one
record IsSince (contents : Contents) (current : Option OpenTransfer) (r : Option SdoRequest) (whole : Option Read) : Type 0 where
  begun : (key : Key) → r ≡ Some (UploadInitiate key) → whole ≡ Some (record { key = key; bytes = value_at contents key })
  later : (o : OpenTransfer) → current ≡ Some o → is_upload_stage o.stage ≡ true → is_other r ≡ false → ((key : Key) → r ≡ Some (UploadInitiate key) → ⊥) → whole ≡ all_of o

module _ (d : Description) (contents : Contents) (whole : Option Read) where
  -- the answer to an initiate request
  once_by : (refusal : Option ℕ) (key : Key) (value : List ℕ) (short : Bool) → whole ≡ Some (record { key = key; bytes = value })
      → ((if list_any is_last_part (unless_refused refusal key (if short then Replied (UploadExpedited key (Indicated (record { items = value }))) ∷ [] else Replied (UploadInitiated key (Some (length value))) ∷ [])) then whole else None)
      ≡ unless refusal (if short then Some (record { key = key; bytes = value }) else None))
      × (list_any is_end_sent (unless_refused refusal key (if short then Replied (UploadExpedited key (Indicated (record { items = value }))) ∷ [] else Replied (UploadInitiated key (Some (length value))) ∷ [])) ≡ false)
  once_by (Some code) key value short h = (refl, refl)
  once_by None key value true h = (h, refl)
  once_by None key value false h = (refl, refl)

  -- to the request of a segment
  segment_by : (refusal : Option ℕ) (o : OpenTransfer) (toggle last : Bool) (part : List ℕ) → whole ≡ all_of o
      → ((if list_any is_last_part (unless_refused refusal o.key (Replied (UploadSegment toggle (record { items = part }) last) ∷ [])) then whole else None)
      ≡ unless refusal (if last then all_of o else None))
      × (list_any is_end_sent (unless_refused refusal o.key (Replied (UploadSegment toggle (record { items = part }) last) ∷ [])) ≡ false)
  segment_by (Some code) o toggle last part h = (refl, refl)
  segment_by None o toggle true part h = (h, refl)
  segment_by None o toggle false part h = (refl, refl)

  segment_at : (o : OpenTransfer) (stage : Stage) (toggle : Bool) → (is_upload_stage stage ≡ true → whole ≡ all_of o)
      → ((if list_any is_last_part (upload_answers o stage toggle) then whole else None) ≡ with_segment o stage toggle)
      × (list_any is_end_sent (upload_answers o stage toggle) ≡ false)
  segment_at o (Uploading sent) toggle h = segment_by (toggle_refusal toggle (is_odd sent)) o toggle (is_last_after sent o.bytes) (part_after sent o.bytes) (h refl)
  segment_at o _ toggle h = (refl, refl)

  -- to an acknowledgement
  next_by : (o : OpenTransfer) (position size : ℕ) (all : Bool) → whole ≡ all_of o
      → ((if list_any is_end_sent (if all then block_upload_end o.bytes else unless_refused (block_size_refusal size) o.key (sub_block_sent o.bytes position size)) then whole else None)
      ≡ (if all then all_of o else None))
      × (list_any is_last_part (if all then block_upload_end o.bytes else unless_refused (block_size_refusal size) o.key (sub_block_sent o.bytes position size)) ≡ false)
  next_by o position size true h = (h, refl)
  next_by o position size false h =
      let q = quiet_unless (block_size_refusal size) o.key (sub_block_sent o.bytes position size) (quiet_sub_block o.bytes position size) in
      (when _ whole q.1, q.0)

  acknowledge_by : (refusal : Option ℕ) (o : OpenTransfer) (position size : ℕ) → whole ≡ all_of o
      → ((if list_any is_end_sent (unless_refused refusal o.key (next_sub_block o position size)) then whole else None)
      ≡ unless refusal (if position == segment_count o.bytes then all_of o else None))
      × (list_any is_last_part (unless_refused refusal o.key (next_sub_block o position size)) ≡ false)
  acknowledge_by (Some code) o position size h = (refl, refl)
  acknowledge_by None o position size h = next_by o position size (position == segment_count o.bytes) h

  acknowledge_at : (o : OpenTransfer) (stage : Stage) (sequence size : ℕ) → (is_upload_stage stage ≡ true → whole ≡ all_of o)
      → ((if list_any is_end_sent (acknowledge_answers o stage sequence size) then whole else None) ≡ with_acknowledge o stage sequence)
      × (list_any is_last_part (acknowledge_answers o stage sequence size) ≡ false)
  acknowledge_at o (BlockUpload position sent) sequence size h = acknowledge_by (refused_if (nat_lt sent sequence) 0x05040003) o (position + sequence) size (h refl)
  acknowledge_at o _ sequence size h = (refl, refl)

  -- to any request outside a sub-block
  by_request : (current : Option OpenTransfer) (r : Option SdoRequest) → IsSince contents current r whole
      → ((if list_any is_last_part (request_answers d contents current r) then whole else None) ≡ answered_by d contents current r)
      × ((if list_any is_end_sent (request_answers d contents current r) then whole else None) ≡ acknowledged_by current r)
  by_request current (Some (UploadInitiate key)) h =
      let one = once_by (reading_refusal d contents key) key (value_at contents key) (nat_le 1 (length (value_at contents key)) && nat_le (length (value_at contents key)) 4) (h.begun key refl) in
      (one.0, when _ whole one.1)
  by_request None (Some (NextSegment toggle)) h = (refl, refl)
  by_request (Some o) (Some (NextSegment toggle)) h =
      let one = segment_at o o.stage toggle (λ up. h.later o refl up refl (λ key e. cc)) in
      (one.0, when _ whole one.1)
  by_request None (Some (BlockUploadAcknowledge sequence size)) h = (refl, refl)
  by_request (Some o) (Some (BlockUploadAcknowledge sequence size)) h =
      let one = acknowledge_at o o.stage sequence size (λ up. h.later o refl up refl (λ key e. cc)) in
      (when _ whole one.1, one.0)
  by_request current r h =
      let q = quiet_request d contents current r refl in
      (when _ whole q.0, when _ whole q.1)

-- ---- by the log

-- a request to the channel, with what it completes
pub record Completes (d : Description) (contents : Contents) (log : Log) (current : Option OpenTransfer) (frame : List ℕ) : Type 0 where
  pub answered : answered_whole (reply_to d contents log frame) (Exchanged (record { request = frame; contents = contents; answers = reply_to d contents log frame }) ∷ log) ≡ answered_next d contents current frame
  pub acknowledged : acknowledged_whole (Exchanged (record { request = frame; contents = contents; answers = reply_to d contents log frame }) ∷ log) ≡ acknowledged_next current frame

-- the upload since the last initiate request then, outside a sub-block
since_is : (contents : Contents) (s : Option Since) (current : Option OpenTransfer) (x : Exchange) → opened (open_since s) ≡ current → is_in_sub_block current ≡ false → x.contents ≡ contents
    → IsSince contents current (request_in x.request) (upload_since (since_with (Exchanged x) s))
since_is contents s current x e o c = record {
  begun = λ key r.
      let inside : option_map_or is_inside (open_since s) false ≡ false = sym (inside_is (open_since s)) ∙ ap is_in_sub_block e ∙ o in
      since_begun s x (rw (inside, r) refl) ∙ rw (r, c) refl;
  later = λ one f up other not_begun. since_later s x (no_begin (request_in x.request) other not_begun) ∙ upload_open s one (e ∙ f) up;
}
  where
    no_begin : (r : Option SdoRequest) → is_other r ≡ false → ((key : Key) → r ≡ Some (UploadInitiate key) → ⊥) → (not (option_map_or is_inside (open_since s) false) && is_initiate r) ≡ false
    no_begin (Some (UploadInitiate key)) other n = absurd (n key refl)
    no_begin (Some (NextSegment toggle)) other n = never (not (option_map_or is_inside (open_since s) false))
    no_begin (Some (BlockUploadAcknowledge sequence size)) other n = never (not (option_map_or is_inside (open_since s) false))
    no_begin r other n = absurd (false≢true (sym other))

pub completes : (d : Description) (contents : Contents) (log : Log) (current : Option OpenTransfer) (frame : List ℕ) → opened_after log ≡ current → Completes d contents log current frame
completes d contents log current frame e = by current (is_in_sub_block current) e refl
  where
    x : Exchange
    x = record { request = frame; contents = contents; answers = reply_to d contents log frame }

    whole : Option Read
    whole = upload_since (since_with (Exchanged x) (since_initiate log))

    -- by the answers
    from : (current : Option OpenTransfer) → opened_after log ≡ current
        → ((if list_any is_last_part (answers_to d contents current frame) then whole else None) ≡ answered_next d contents current frame)
        × ((if list_any is_end_sent (answers_to d contents current frame) then whole else None) ≡ acknowledged_next current frame)
        → Completes d contents log current frame
    from current e h =
        let replies : reply_to d contents log frame ≡ answers_to d contents current frame = ap (λ c. answers_to d contents c frame) e in
        record {
          answered = ap (λ answers. if list_any is_last_part answers then whole else None) replies ∙ h.0;
          acknowledged = ap (λ answers. if list_any is_end_sent answers then whole else None) replies ∙ h.1;
        }

    by : (current : Option OpenTransfer) (inside : Bool) → opened_after log ≡ current → is_in_sub_block current ≡ inside → Completes d contents log current frame
    by None true e i = absurd (false≢true i)
    by (Some o) true e i =
        let q = quiet_inside d.rows o o.stage frame in
        from (Some o) e (rw i (when _ whole q.0, when _ whole q.1))
    by current false e i =
        from current e (rw i (by_request d contents whole current (request_in frame) (since_is contents (since_initiate log) current x e i refl)))

-- a tick and a drop complete nothing, and change nothing of what is acknowledged
pub ticked_whole : (log : Log) → acknowledged_whole (Ticked ∷ log) ≡ acknowledged_whole log
ticked_whole log = ap (λ whole. if list_any is_end_sent (sent_last log) then whole else None) (upload_more Ticked (since_initiate log))

pub dropped_whole : (log : Log) → acknowledged_whole (Dropped ∷ log) ≡ acknowledged_whole log
dropped_whole log = ap (λ whole. if list_any is_end_sent (sent_last log) then whole else None) (upload_more Dropped (since_initiate log))
