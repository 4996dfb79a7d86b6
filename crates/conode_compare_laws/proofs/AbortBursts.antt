-- A request on the default channel and its answers, for the law about timeouts: none of them is found to be an abort before the timeout.
-- The segments of a block upload come several at once; their data may look like such an abort.
use Rattle.std.proofs.Common.{◌≡◌, ℕ, zero, suc, ◌+◌, ◌≤◌, Bool, true, false, List, [], ◌∷◌, map, length, Option, Some, None, refl, sym, ap, ◌∙◌, ◌⊎◌, inl, inr, subst, arith}
use Rattle.std.specs.Prelude.{◌==◌, ◌&&◌, nat_le, nat_lt, if◌then◌else◌, IfSome}
use Rattle.std.specs.List.{range_with_len}
use Rattle.std.proofs.lemmas.Bool.{false≢true}
use Rattle.std.proofs.lemmas.List.{length-map}
use Rattle.std.proofs.lemmas.List.FromFn.{length-map-range_with_len}
use Rattle.arrayvec.specs.ArrayVec.{ArrayVec}
use Rattle.co_value.specs.declared.key.Key.{Key}
use Rattle.co_frame.specs.BlockSegments.{block_segment_in, is_abort_in_sub_block}
use Rattle.co_frame.specs.FrameContent.{FrameContent}
use Rattle.co_frame.specs.SdoFields.{has_bit, key_in}
use Rattle.co_frame.specs.SdoParts.{code_in, segment_in}
use Rattle.co_frame.specs.SdoRequests.{request_in}
use Rattle.co_frame.specs.SdoResponses.{response_in, response_row_in}
use Rattle.co_frame_aborts.specs.declared.abort_code.AbortCode.{AbortCode}
use Rattle.co_frame.specs.declared.block_segment.BlockSegment.{BlockSegment}
use Rattle.co_frame.specs.declared.sdo_request.ExpeditedData.TheVariants.{Indicated}
use Rattle.co_frame.specs.declared.sdo_request.SdoRequest.{SdoRequest}
use Rattle.co_frame.specs.declared.sdo_request.SdoRequest.TheVariants.{DownloadExpedited, DownloadInitiate, DownloadSegment, Upload as UploadInitiate, UploadSegment as NextSegment, BlockUploadInitiate, BlockUploadEnd as UploadEnd, BlockUploadAcknowledge, BlockUploadStart, BlockDownloadInitiate, BlockDownloadEnd}
use Rattle.co_frame.specs.declared.sdo_response.SdoResponse.{SdoResponse}
use Rattle.co_frame.specs.declared.sdo_response.SdoResponse.TheVariants.{Abort as Refuse, UploadExpedited, UploadInitiated, UploadSegment}
use Rattle.co_dict.specs.Rows.{Contents, Rows}
use Rattle.co_dict.specs.Stores.{Description}
use Rattle.co_sdo.specs.declared.stage.Stage.{Stage}
use Rattle.co_sdo.specs.declared.stage.Stage.TheVariants.{Download as Receiving, Upload as Uploading, SubBlock as InSubBlock, LastTaken, BlockUploadInitiated as Begun, BlockUpload, BlockUploadEnded}
use Rattle.conode_explain_transfers.specs.declared.kinds.Direction.{Direction}
use Rattle.conode_explain_transfers.specs.declared.kinds.Protocol.{Protocol}
use Rattle.co_sdo.specs.Log.{Answer, Log, Response as Replied, Segment as Sent, answer_bytes, frames_on}
use Rattle.co_sdo.specs.Opened.{OpenTransfer, opened_after}
use Rattle.co_sdo.specs.OpenTransfers.{is_initiate as initiates}
use Rattle.co_sdo.specs.Replies.{acknowledge_answers, answers_to, block_end_answers, block_size_refusal, frame_answers, initiate_answers, is_in_sub_block as is_inside, later_answers, next_sub_block, on_open, reply_to, request_answers, segment_answers, start_answers, sub_block_refusal, unless_refused, upload_answers, upload_end_answers}
use Rattle.co_sdo.specs.SubBlocks.{ends_sub_block}
use Rattle.co_sdo.specs.Uploads.{block_segment, block_upload_end, segment_count, sub_block_length, sub_block_sent, value_at}
use Rattle.co_sdo_laws.proofs.BlockSegments.{frame_is, frame_long, frame_with, segment_at}
use Rattle.co_sheet.specs.Content.{Row}
use Rattle.conode_explain_transfers.specs.declared.kinds.Side.TheVariants.{Client, Server}
use Rattle.conode_explain_transfers.specs.declared.kinds.What.{What}
use Rattle.conode_explain_transfers.specs.declared.kinds.What.TheVariants as what
use Rattle.conode_explain_transfers.specs.declared.stage.Stage.{Stage as Progressed}
use Rattle.conode_explain_transfers.specs.declared.stage.Stage.TheVariants.{SubBlock, UploadAsked, UploadTaken, Initiated}
use Rattle.conode_explain_transfers.specs.declared.transfer.Transfer.{Transfer}
use Rattle.conode_explain_transfers.specs.BlockTurns.{block_segment_at, segment_added, segment_again, segment_ahead, segment_first, is_block}
use Rattle.conode_explain_transfers.specs.Followed.{Followed, Following, turns_at, with_frame}
use Rattle.conode_explain_transfers.specs.Readings.{is_in_sub_block, is_sender, may_have_segment}
use Rattle.conode_explain_transfers.specs.SegmentedTurns.{upload_segment_at}
use Rattle.conode_explain_transfers.specs.Stages.{confirmed_with}
use Rattle.conode_explain_transfers.specs.Transfers.{Turn, after, awaited_number, unexpected, is_download}
use Rattle.conode_explain_transfers.specs.Turns.{response_turn}
use Rattle.conode_explain_laws.proofs.Readings.{Abort, Begin, Nothing, Reading, Request, Response, Segment, beginning, follows_by, plain_reading, reading_of, response_reading, segment_reading, turn_of}
use Rattle.conode_explain_laws.proofs.Follows.{none_of_server}
use Rattle.conode_explain_laws.proofs.UploadBlocks.{no_abort}
use Rattle.conode_explain_laws.proofs.Views.{is_begin, server_no_begin}
use Rattle.conode_compare_transfers.specs.declared.dialogue.Dialogue.{Dialogue}
use Rattle.conode_compare_transfers.specs.Dialogues.{dialogue_heard, owes_nothing}
use Rattle.conode_compare_nmt.specs.declared.limits.Subject.{Subject}
use Rattle.conode_compare_rules.specs.declared.progress.Progress.{Progress}
use Rattle.conode_compare_rules.specs.Gaps.{begun}
use Rattle.conode_compare_rules.specs.Channels.{left_open}
use Rattle.conode_compare_laws.specs.AnswerFindings.{timeout_differences}
use Rattle.conode_compare_laws.proofs.AbortFrames.{IsAt, IsInTime, at_next, client_owing, client_requested, client_run, server_gone, server_run, while_owing, without_end}
use Rattle.conode_compare_laws.proofs.AbortOthers.{begun_has}
use Rattle.conode_compare_laws.proofs.AnswerDialogues.{channel_is}
use Rattle.conode_compare_laws.proofs.AnswerExchange.{answer_kind, request_kind}
use Rattle.conode_compare_laws.proofs.AnswerToggleRuns.{Quiet, Ready, awaits_done, awaits_first, awaits_next, newest_stays, quiet, ready}
use Rattle.conode_compare_laws.proofs.AnswerToggles.{AreBlocks, is_kept, turn_what}
use Rattle.conode_compare_laws.proofs.AnswerTurns.{in_blocks}
use Rattle.conode_compare_laws.proofs.Runs.{AllRun}

-- ---- how many answers there are to a request

-- a sub-block of an upload is sent
abbrev pub asks_sub_block : Option SdoRequest → Bool
asks_sub_block (Some BlockUploadStart) = true
asks_sub_block (Some (BlockUploadAcknowledge sequence size)) = true
asks_sub_block _ = false

-- one at most, or a sub-block of an upload
data Sends (r : Option SdoRequest) (answers : List Answer) : Type 0 where
  few : length answers ≤ 1 → Sends r answers
  burst : (value : List ℕ) (position size : ℕ) → asks_sub_block r ≡ true → answers ≡ sub_block_sent value position size → Sends r answers

module _ (r : Option SdoRequest) where
  sends_unless : (refusal : Option ℕ) (key : Key) (answers : List Answer) → Sends r answers → Sends r (unless_refused refusal key answers)
  sends_unless None key answers h = h
  sends_unless (Some code) key answers h = few (omega arith)

  sends_one : (refusal : Option ℕ) (key : Key) (response : SdoResponse) → Sends r (unless_refused refusal key (Replied response ∷ []))
  sends_one refusal key response = sends_unless refusal key (Replied response ∷ []) (few (omega arith))

  sends_segment : (d : Description) (c : Contents) (o : OpenTransfer) (stage : Stage) (toggle : Bool) (part : List ℕ) (last : Bool) → Sends r (segment_answers d c o stage toggle part last)
  sends_segment d c o (Receiving indicated expected) toggle part last = sends_one _ o.key _
  sends_segment d c o _ toggle part last = few (omega arith)

  sends_upload : (o : OpenTransfer) (stage : Stage) (toggle : Bool) → Sends r (upload_answers o stage toggle)
  sends_upload o (Uploading sent) toggle = sends_one _ o.key _
  sends_upload o _ toggle = few (omega arith)

  sends_start : (o : OpenTransfer) (stage : Stage) → asks_sub_block r ≡ true → Sends r (start_answers o stage)
  sends_start o (Begun size) asks = burst o.bytes 0 size asks refl
  sends_start o _ asks = few (omega arith)

  sends_next : (o : OpenTransfer) (position size : ℕ) (b : Bool) → asks_sub_block r ≡ true
      → Sends r (if b then block_upload_end o.bytes else unless_refused (block_size_refusal size) o.key (sub_block_sent o.bytes position size))
  sends_next o position size true asks = few (omega arith)
  sends_next o position size false asks = sends_unless (block_size_refusal size) o.key (sub_block_sent o.bytes position size) (burst o.bytes position size asks refl)

  sends_acknowledge : (o : OpenTransfer) (stage : Stage) (sequence size : ℕ) → asks_sub_block r ≡ true → Sends r (acknowledge_answers o stage sequence size)
  sends_acknowledge o (BlockUpload count sent) sequence size asks =
      sends_unless _ o.key (next_sub_block o (count + sequence) size) (sends_next o (count + sequence) size (count + sequence == segment_count o.bytes) asks)
  sends_acknowledge o _ sequence size asks = few (omega arith)

  sends_upload_end : (o : OpenTransfer) (stage : Stage) → Sends r (upload_end_answers o stage)
  sends_upload_end o BlockUploadEnded = few (omega arith)
  sends_upload_end o _ = few (omega arith)

  sends_block_end : (d : Description) (c : Contents) (o : OpenTransfer) (stage : Stage) (unused : ℕ) → Sends r (block_end_answers d c o stage unused)
  sends_block_end d c o (LastTaken indicated) unused = sends_one _ o.key _
  sends_block_end d c o _ unused = few (omega arith)

  sends_on : (current : Option OpenTransfer) (answers : OpenTransfer → Stage → List Answer) → ((o : OpenTransfer) → Sends r (answers o o.stage)) → Sends r (on_open current answers)
  sends_on None answers h = few (omega arith)
  sends_on (Some o) answers h = h o

  sends_read : (key : Key) (value : List ℕ) (b : Bool) → Sends r (if b then Replied (UploadExpedited key (Indicated (record { items = value }))) ∷ [] else Replied (UploadInitiated key (Some (length value))) ∷ [])
  sends_read key value true = few (omega arith)
  sends_read key value false = few (omega arith)

  sends_initiate : (d : Description) (c : Contents) (request : SdoRequest) → Sends r (initiate_answers d c request)
  sends_initiate d c (DownloadExpedited key expedited) = sends_one _ key _
  sends_initiate d c (DownloadInitiate key size) = sends_one _ key _
  sends_initiate d c (UploadInitiate key) = sends_unless _ key _ (sends_read key (value_at c key) (nat_le 1 (length (value_at c key)) && nat_le (length (value_at c key)) 4))
  sends_initiate d c (BlockUploadInitiate key size threshold) = sends_one _ key _
  sends_initiate d c (BlockDownloadInitiate key size) = sends_one _ key _
  sends_initiate d c _ = few (omega arith)

  sends_end : (rows : Rows) (o : OpenTransfer) (taken : ℕ) (frame : List ℕ) (b : Bool) (response : SdoResponse) → Sends r (if b then unless_refused (sub_block_refusal rows o taken frame) o.key (Replied response ∷ []) else [])
  sends_end rows o taken frame true response = sends_one (sub_block_refusal rows o taken frame) o.key response
  sends_end rows o taken frame false response = few (omega arith)

  sends_frame : (rows : Rows) (o : OpenTransfer) (stage : Stage) (frame : List ℕ) → Sends r (frame_answers rows o stage frame)
  sends_frame rows o (InSubBlock indicated taken) frame = sends_end rows o taken frame (ends_sub_block frame) _
  sends_frame rows o _ frame = few (omega arith)

sends_later : (d : Description) (c : Contents) (current : Option OpenTransfer) (request : SdoRequest) → Sends (Some request) (later_answers d c current request)
sends_later d c current (DownloadSegment toggle segment last) = sends_on _ current _ (λ o. sends_segment _ d c o o.stage toggle segment.items last)
sends_later d c current (NextSegment toggle) = sends_on _ current _ (λ o. sends_upload _ o o.stage toggle)
sends_later d c current BlockUploadStart = sends_on _ current start_answers (λ o. sends_start _ o o.stage refl)
sends_later d c current (BlockUploadAcknowledge sequence size) = sends_on _ current _ (λ o. sends_acknowledge _ o o.stage sequence size refl)
sends_later d c current UploadEnd = sends_on _ current upload_end_answers (λ o. sends_upload_end _ o o.stage)
sends_later d c current (BlockDownloadEnd unused) = sends_on _ current _ (λ o. sends_block_end _ d c o o.stage unused)
sends_later d c current _ = few (omega arith)

sends_request : (d : Description) (c : Contents) (current : Option OpenTransfer) (r : Option SdoRequest) → Sends r (request_answers d c current r)
sends_request d c current None = few (omega arith)
sends_request d c current (Some request) = by (initiates (Some request))
  where
    by : (b : Bool) → Sends (Some request) (if b then initiate_answers d c request else later_answers d c current request)
    by true = sends_initiate (Some request) d c request
    by false = sends_later d c current request

sends : (d : Description) (c : Contents) (current : Option OpenTransfer) (frame : List ℕ) → Sends (request_in frame) (answers_to d c current frame)
sends d c current frame = by (is_inside current)
  where
    by : (b : Bool) → Sends (request_in frame) (if b then on_open current (λ o stage. frame_answers d.rows o stage frame) else request_answers d c current (request_in frame))
    by true = sends_on (request_in frame) current _ (λ o. sends_frame (request_in frame) d.rows o o.stage frame)
    by false = sends_request d c current (request_in frame)

-- ---- a segment, where explain awaits one

record Awaits (t : Transfer) : Type 0 where
  pub stage : is_in_sub_block t.stage ≡ true
  pub sender : is_sender t.direction Server ≡ true

-- no transfer ends with it, and one that is open awaits the next one
record Inside (f : Followed) : Type 0 where
  pub ended : f.says.ended ≡ None
  pub awaits : IfSome f.next.transfer Awaits

unconfirmed : (stage : Progressed) → is_in_sub_block stage ≡ true → confirmed_with stage ≡ None
unconfirmed (SubBlock last) h = refl
unconfirmed _ h = absurd (false≢true h)

frame_awaits : (w : What) (u : Transfer) (micros : ℕ) → Awaits u → Awaits (with_frame w u micros Server)
frame_awaits what.Overtaken u micros h = h
frame_awaits _ u micros h = record { stage = h.stage; sender = h.sender }

turn_inside : (heard : Bool) (t : Transfer) (turn : Turn) (micros : ℕ) → Awaits turn.transfer → Inside (turns_at (confirmed_with turn.transfer.stage) heard turn.what (after t turn) micros Server)
turn_inside heard t turn micros h = by (confirmed_with turn.transfer.stage) (unconfirmed turn.transfer.stage h.stage)
  where
    by : (x : Option (Option ℕ)) → x ≡ None → Inside (turns_at x heard turn.what (after t turn) micros Server)
    by None e = record { ended = refl; awaits = frame_awaits turn.what (after t turn) micros (record { stage = h.stage; sender = h.sender }) }
    by (Some crc) e = absurd (cc)

either_awaits : (b : Bool) (x y : Turn) → Awaits x.transfer → Awaits y.transfer → Awaits (if b then x else y).transfer
either_awaits true x y p q = p
either_awaits false x y p q = q

module _ (t : Transfer) (h : Awaits t) where
  same : Awaits (unexpected t).transfer
  same = record { stage = h.stage; sender = h.sender }

  segments : (stage : Progressed) (one : BlockSegment) → Awaits (block_segment_at stage t one).transfer
  segments (SubBlock false) one =
      either_awaits (nat_lt one.sequence t.next_number) (segment_again t one) _ (record { stage = h.stage; sender = h.sender })
      (either_awaits (one.sequence == awaited_number t) (segment_added t one) (segment_ahead t one) (record { stage = refl; sender = h.sender }) (record { stage = h.stage; sender = h.sender }))
  segments Initiated one = either_awaits (is_download t.direction && is_block t.protocol) (segment_first t one) (unexpected t) (record { stage = refl; sender = h.sender }) same
  segments _ one = same

-- a segment, or none of the open transfer
abbrev is_segment : Reading → Bool
is_segment (Segment one) = true
is_segment Nothing = true
is_segment _ = false

inside : (heard : Bool) (t : Transfer) (reading : Reading) (micros : ℕ) (bytes : List ℕ) → Awaits t → is_segment reading ≡ true → Inside (follows_by heard (Some t) reading micros Server bytes)
inside heard t (Segment one) micros bytes h s = turn_inside heard t (turn_of t (Segment one) bytes) micros (segments t h t.stage one)
inside heard t Nothing micros bytes h s = turn_inside heard t (turn_of t Nothing bytes) micros (same t h)
inside heard t (Begin new) micros bytes h s = absurd (false≢true s)
inside heard t (Abort code) micros bytes h s = absurd (false≢true s)
inside heard t (Request request) micros bytes h s = absurd (false≢true s)
inside heard t (Response one) micros bytes h s = absurd (false≢true s)

-- without an open transfer
passed : (heard : Bool) (reading : Reading) (micros : ℕ) (bytes : List ℕ) → is_begin reading ≡ false → Inside (follows_by heard None reading micros Server bytes)
passed heard (Begin new) micros bytes n = absurd (false≢true (sym n))
passed heard _ micros bytes n = record { ended = refl; awaits = tt }

none_begins : (r : Option SdoResponse) → is_segment (beginning (response_reading r)) ≡ true
none_begins None = refl
none_begins (Some (Refuse key code)) = refl
none_begins (Some _) = refl

segment_read : (block_size : ℕ) (o : Option BlockSegment) (otherwise : Reading) → is_segment otherwise ≡ true → is_segment (segment_reading block_size o otherwise) ≡ true
segment_read block_size None otherwise h = h
segment_read block_size (Some one) otherwise h = by (nat_le one.sequence block_size)
  where
    by : (b : Bool) → is_segment (if b then Segment one else otherwise) ≡ true
    by true = refl
    by false = h

inside_awaits : (stage : Progressed) (direction : Direction) (protocol : Protocol) → is_in_sub_block stage ≡ true → may_have_segment stage direction protocol ≡ true
inside_awaits (SubBlock last) direction protocol h = refl
inside_awaits _ direction protocol h = absurd (false≢true h)

read_inside : (t : Transfer) (micros : ℕ) (bytes : List ℕ) → Awaits t → is_abort_in_sub_block bytes ≡ false → is_segment (reading_of (Some t) Server micros bytes) ≡ true
read_inside t micros bytes h a = rw (inside_awaits t.stage t.direction t.protocol h.stage, h.sender, a) (segment_read t.block_size (block_segment_in bytes) (beginning (plain_reading Server micros bytes)) (none_begins (response_in bytes)))

inside_at : (heard : Bool) (o : Option Transfer) (micros : ℕ) (bytes : List ℕ) → IfSome o Awaits → is_abort_in_sub_block bytes ≡ false → Inside (follows_by heard o (reading_of o Server micros bytes) micros Server bytes)
inside_at heard None micros bytes h a = passed heard (reading_of None Server micros bytes) micros bytes (server_no_begin None micros bytes)
inside_at heard (Some t) micros bytes h a = inside heard t (reading_of (Some t) Server micros bytes) micros bytes h (read_inside t micros bytes h a)

-- nothing is known, or explain awaits segments where a transfer is open
abbrev InBurst : Dialogue → Type 0
InBurst d = (d.newest ≡ None) ⊎ IfSome d.channel.transfer Awaits

burst_next : (answer started : ℕ) (d : Dialogue) (micros : ℕ) (frame : FrameContent) → is_abort_in_sub_block frame.bytes ≡ false → InBurst d → InBurst (dialogue_heard answer started d micros Server frame)
burst_next answer started d micros frame a (inl none) = inl (newest_stays answer started d micros frame none)
burst_next answer started d micros frame a (inr h) =
    inr (subst (λ (f : Following). IfSome f.transfer Awaits) (sym (channel_is answer started d micros Server frame)) (inside_at d.channel.heard d.channel.transfer micros frame.bytes h a).awaits)

burst_in_time : (subject : Subject) (started : ℕ) (d : Dialogue) (micros : ℕ) (frame : FrameContent) → is_abort_in_sub_block frame.bytes ≡ false → InBurst d → IsInTime subject started d micros frame
burst_in_time subject started d micros frame a (inl none) = while_owing subject started d micros frame (ap owes_nothing none)
burst_in_time subject started d micros frame a (inr h) = without_end subject started d micros frame (inside_at d.channel.heard d.channel.transfer micros frame.bytes h a).ended

-- ---- the first segment of a sub-block, where explain awaits another frame

-- it looks like an abort, or like a segment of an upload that isn't in blocks
data Looks (bytes : List ℕ) : Type 0 where
  as_abort : (key : Key) (code : AbortCode) → response_in bytes ≡ Some (Refuse key code) → Looks bytes
  as_segment : (toggle last : Bool) (items : ArrayVec ℕ) → response_in bytes ≡ Some (UploadSegment toggle items last) → Looks bytes

abort_read : (value : List ℕ) (position : ℕ) → response_in (frame_with value position 1 true) ≡ Some (Refuse (key_in (frame_with value position 1 true)) (code_in (frame_with value position 1 true)))
unfolding response_row_in
abort_read value position = rw (frame_long value position 1 true) refl

other_read : (value : List ℕ) (position : ℕ)
    → response_in (frame_with value position 1 false)
    ≡ Some (UploadSegment (has_bit 4 (frame_with value position 1 false)) (segment_in (frame_with value position 1 false)) (has_bit 0 (frame_with value position 1 false)))
unfolding response_row_in
other_read value position = rw (frame_long value position 1 false) refl

first_looks : (value : List ℕ) (position : ℕ) → Looks (segment_at value position 1)
first_looks value position = by (position + 1 == segment_count value) refl
  where
    by : (last : Bool) → (position + 1 == segment_count value) ≡ last → Looks (segment_at value position 1)
    by true e = subst Looks (sym (frame_is value position 1 true e)) (as_abort _ _ (abort_read value position))
    by false e = subst Looks (sym (frame_is value position 1 false e)) (as_segment _ _ _ (other_read value position))

-- then explain has nothing of a transfer any more, or awaits the next one
abbrev Settles : Followed → Type 0
Settles f = (is_kept f.says.what ≡ false) ⊎ IfSome f.next.transfer Awaits

odd_segment : (t : Transfer) (stage : Progressed) (toggle last : Bool) (items : ArrayVec ℕ) → in_blocks stage ≡ true → is_kept (upload_segment_at stage t toggle items last).what ≡ false
odd_segment t (UploadAsked other) toggle last items h = absurd (false≢true h)
odd_segment t (UploadTaken awaited) toggle last items h = absurd (false≢true h)
odd_segment t _ toggle last items h = refl

looked : (heard : Bool) (t : Transfer) (micros : ℕ) (bytes : List ℕ) → in_blocks t.stage ≡ true → Looks bytes → Settles (follows_by heard (Some t) (response_reading (response_in bytes)) micros Server bytes)
looked heard t micros bytes b (as_abort key code is) = subst (λ r. Settles (follows_by heard (Some t) (response_reading r) micros Server bytes)) (sym is) (inr tt)
looked heard t micros bytes b (as_segment toggle last items is) =
    subst (λ r. Settles (follows_by heard (Some t) (response_reading r) micros Server bytes)) (sym is)
    (let turn : Turn = response_turn t (UploadSegment toggle items last) bytes in
    inl (ap is_kept (turn_what (confirmed_with turn.transfer.stage) heard turn.what (after t turn) micros Server) ∙ odd_segment t t.stage toggle last items b))

settles : (heard : Bool) (o : Option Transfer) (micros : ℕ) (bytes : List ℕ) → AreBlocks o → is_abort_in_sub_block bytes ≡ false → Looks bytes → Settles (follows_by heard o (reading_of o Server micros bytes) micros Server bytes)
settles heard None micros bytes b a l = inr (passed heard (reading_of None Server micros bytes) micros bytes (server_no_begin None micros bytes)).awaits
settles heard (Some t) micros bytes b a l = by (is_in_sub_block t.stage) (is_sender t.direction Server) refl refl
  where
    by : (x y : Bool) → is_in_sub_block t.stage ≡ x → is_sender t.direction Server ≡ y → Settles (follows_by heard (Some t) (reading_of (Some t) Server micros bytes) micros Server bytes)
    by true true e f = inr (inside_at heard (Some t) micros bytes (record { stage = e; sender = f }) a).awaits
    by true false e f = rw (inside_awaits t.stage t.direction t.protocol e, f) (looked heard t micros bytes b l)
    by false y e f = rw (none_of_server t.stage t.direction t.protocol e) (looked heard t micros bytes b l)

first_next : (answer started : ℕ) (d : Dialogue) (micros : ℕ) (frame : FrameContent) → is_abort_in_sub_block frame.bytes ≡ false → Looks frame.bytes → Quiet d → InBurst (dialogue_heard answer started d micros Server frame)
first_next answer started d micros frame a l (inl none) = inl (newest_stays answer started d micros frame none)
first_next answer started d micros frame a l (inr b) = by (settles d.channel.heard d.channel.transfer micros frame.bytes b a l)
  where
    by : Settles (follows_by d.channel.heard d.channel.transfer (reading_of d.channel.transfer Server micros frame.bytes) micros Server frame.bytes) → InBurst (dialogue_heard answer started d micros Server frame)
    by (inl n) = inl (server_gone answer started d micros frame n)
    by (inr h) = inr (subst (λ (f : Following). IfSome f.transfer Awaits) (sym (channel_is answer started d micros Server frame)) h)

-- ---- frames one after another

record Owing (r : Option SdoRequest) (micros : ℕ) (d : Dialogue) : Type 0 where
  pub at : IsAt micros d
  pub owing : owes_nothing d.newest ≡ false
  pub blocks : asks_sub_block r ≡ true → Quiet d

none_owing : (r : Option SdoRequest) (micros : ℕ) (d : Dialogue) → d.newest ≡ None → Owing r micros d
none_owing r micros d none = record { at = inl none; owing = ap owes_nothing none; blocks = λ asks. inl none }

-- a frame of the client that the device may not have taken
owing_open : (r : Option SdoRequest) (micros : ℕ) (misses : Bool) (d : Dialogue) → Owing r micros d → Owing r micros (left_open Client misses d)
owing_open r micros misses d h = record { at = h.at; owing = h.owing; blocks = h.blocks }

record Bursts (micros : ℕ) (d : Dialogue) : Type 0 where
  pub at : IsAt micros d
  pub inside : InBurst d

none_bursts : (micros : ℕ) (d : Dialogue) → d.newest ≡ None → Bursts micros d
none_bursts micros d none = record { at = inl none; inside = inl none }

abbrev pub EndAt : ℕ → Progress → Type 0
EndAt micros q = IsAt micros q.dialogue

no_initiate : (r : Option SdoRequest) → initiates r ≡ true → asks_sub_block r ≡ true → ⊥
no_initiate (Some BlockUploadStart) i asks = false≢true i
no_initiate (Some (BlockUploadAcknowledge sequence size)) i asks = false≢true i
no_initiate _ i asks = false≢true asks

quiet_where : (r : Option SdoRequest) (d : Dialogue) → Ready r d → asks_sub_block r ≡ true → Quiet d
quiet_where r d (quiet h) asks = h
quiet_where r d (awaits_first i h) asks = absurd (no_initiate r i asks)
quiet_where r d (awaits_done toggle last items is h) asks = absurd (false≢true (sym (ap asks_sub_block is) ∙ asks))
quiet_where r d (awaits_next toggle is h) asks = absurd (false≢true (sym (ap asks_sub_block is) ∙ asks))

request_owing : (answer started : ℕ) (d : Dialogue) (micros : ℕ) (frame : FrameContent) → Owing (request_in frame.bytes) micros (dialogue_heard answer started d micros Client frame)
request_owing answer started d micros frame = record {
  at = inr (client_requested answer started d micros frame);
  owing = client_owing answer started d micros frame;
  blocks = quiet_where (request_in frame.bytes) (dialogue_heard answer started d micros Client frame) (ready answer started d micros frame);
}

module _ (subject : Subject) (rows : List Row) (micros : ℕ) where
  abbrev Runs : Progress → List Answer → Type 0
  Runs q answers = AllRun timeout_differences subject rows micros q (frames_on (0x580 + subject.node) answers) (EndAt micros)

  abbrev frame_with_bytes : List ℕ → FrameContent
  frame_with_bytes bytes = record { id = 0x580 + subject.node; bytes = bytes }

  few_run : (r : Option SdoRequest) (answers : List Answer) (q : Progress) → length answers ≤ 1 → Owing r micros q.dialogue → Runs q answers
  few_run r [] q one h = h.at
  few_run r (answer ∷ []) q one h =
      let here : Owing r micros (begun subject q micros).dialogue = begun_has (Owing r micros) (none_owing r micros) subject q micros h in
      let frame : FrameContent = frame_with_bytes (answer_bytes answer) in
      server_run subject rows micros q frame [] (IsAt micros) (EndAt micros) (answer_kind subject.node (answer_bytes answer))
      (while_owing subject (begun subject q micros).started (begun subject q micros).dialogue micros frame here.owing)
      (at_next subject.limits.answer (begun subject q micros).started (begun subject q micros).dialogue micros frame here.at) (λ x g. g)
  few_run r (answer ∷ other ∷ more) q one h = absurd (omega arith)

  module _ (value : List ℕ) (position : ℕ) where
    abbrev numbered : ℕ → ℕ → List Answer
    numbered start n = map (λ number. Sent (block_segment value position number)) (range_with_len start n)

    bursts_run : (n start : ℕ) (q : Progress) → 1 ≤ start → start + n ≤ 128 → Bursts micros q.dialogue → Runs q (numbered start n)
    bursts_run zero start q some all h = h.at
    bursts_run (suc n) start q some all h =
        let here : Bursts micros (begun subject q micros).dialogue = begun_has (Bursts micros) (none_bursts micros) subject q micros h in
        let frame : FrameContent = frame_with_bytes (segment_at value position start) in
        let no : is_abort_in_sub_block (segment_at value position start) ≡ false = no_abort value position start some (omega arith) in
        server_run subject rows micros q frame (frames_on (0x580 + subject.node) (numbered (start + 1) n)) (Bursts micros) (EndAt micros) (answer_kind subject.node (segment_at value position start))
        (burst_in_time subject (begun subject q micros).started (begun subject q micros).dialogue micros frame no here.inside)
        (record {
          at = at_next subject.limits.answer (begun subject q micros).started (begun subject q micros).dialogue micros frame here.at;
          inside = burst_next subject.limits.answer (begun subject q micros).started (begun subject q micros).dialogue micros frame no here.inside;
        })
        (λ x g. bursts_run n (start + 1) x (omega arith) (omega arith) g)

    burst_run : (r : Option SdoRequest) (n : ℕ) (q : Progress) → n ≤ 127 → asks_sub_block r ≡ true → Owing r micros q.dialogue → Runs q (numbered 1 n)
    burst_run r zero q all asks h = h.at
    burst_run r (suc n) q all asks h =
        let here : Owing r micros (begun subject q micros).dialogue = begun_has (Owing r micros) (none_owing r micros) subject q micros h in
        let frame : FrameContent = frame_with_bytes (segment_at value position 1) in
        let no : is_abort_in_sub_block (segment_at value position 1) ≡ false = no_abort value position 1 (omega arith) (omega arith) in
        server_run subject rows micros q frame (frames_on (0x580 + subject.node) (numbered 2 n)) (Bursts micros) (EndAt micros) (answer_kind subject.node (segment_at value position 1))
        (while_owing subject (begun subject q micros).started (begun subject q micros).dialogue micros frame here.owing)
        (record {
          at = at_next subject.limits.answer (begun subject q micros).started (begun subject q micros).dialogue micros frame here.at;
          inside = first_next subject.limits.answer (begun subject q micros).started (begun subject q micros).dialogue micros frame no (first_looks value position) (here.blocks asks);
        })
        (λ x g. bursts_run n 2 x (omega arith) (omega arith) g)

  answers_run : (r : Option SdoRequest) (answers : List Answer) (q : Progress) → Sends r answers → length answers ≤ 127 → Owing r micros q.dialogue → Runs q answers
  answers_run r answers q (few one) all h = few_run r answers q one h
  answers_run r answers q (burst value position size asks is) all h =
      let n : length (sub_block_sent value position size) ≡ sub_block_length value position size = length-map-range_with_len _ 1 (sub_block_length value position size) in
      let below : sub_block_length value position size ≤ 127 = subst (λ x. x ≤ 127) (ap length is ∙ n) all in
      subst (Runs q) (sym is) (burst_run value position r (sub_block_length value position size) q below asks h)

-- a request, and its answers
pub exchange_runs : (subject : Subject) (rows : List Row) (micros : ℕ) (d : Description) (contents : Contents) (log : Log) (frame : FrameContent) (p : Progress) → frame.id ≡ 0x600 + subject.node
    → length (frames_on (0x580 + subject.node) (reply_to d contents log frame.bytes)) ≤ 127
    → AllRun timeout_differences subject rows micros p (frame ∷ []) (λ q. AllRun timeout_differences subject rows micros q (frames_on (0x580 + subject.node) (reply_to d contents log frame.bytes)) (EndAt micros))
exchange_runs subject rows micros d contents log frame p id all =
    let long : length (frames_on (0x580 + subject.node) (reply_to d contents log frame.bytes)) ≡ length (reply_to d contents log frame.bytes) = length-map (reply_to d contents log frame.bytes) _ in
    client_run subject rows micros p frame [] (Owing (request_in frame.bytes) micros) _ (request_kind subject.node frame id)
    (owing_open (request_in frame.bytes) micros _ _ (request_owing subject.limits.answer (begun subject p micros).started (begun subject p micros).dialogue micros frame))
    (λ q h. answers_run subject rows micros (request_in frame.bytes) (reply_to d contents log frame.bytes) q (sends d contents (opened_after log) frame.bytes) (subst (λ x. x ≤ 127) long all) h)
