-- A request on the default channel of a device that isn't stopped, and its answers: none of them is found.
use Rattle.std.proofs.Common.{◌≡◌, ℕ, ◌+◌, ◌<◌, ◌≤◌, Bool, true, false, List, [], ◌∷◌, length, Option, Some, None, refl, sym, ap, ◌∙◌, ◌⊎◌, inl, inr, subst, arith}
use Rattle.std.specs.Prelude.{◌==◌, ◌&&◌, ◌/◌, if◌then◌else◌, is_some, slice_index, IfSome, nat_le}
use Rattle.std.proofs.lemmas.Bool.{false≢true}
use Rattle.std.proofs.lemmas.Bool.Decides.{nat_tests}
use Rattle.co_value.specs.declared.key.Key.{Key}
use Rattle.co_value.specs.Numbers.{AreBytes}
use Rattle.co_frame.specs.FrameContent.{FrameContent}
use Rattle.co_frame.specs.SdoFields.{key_in}
use Rattle.co_frame.specs.SdoRequests.{request_in}
use Rattle.co_frame.specs.SdoResponses.{response_bytes, response_in}
use Rattle.co_frame.specs.SegmentSizes.{segments_per_sub_block}
use Rattle.co_frame.specs.declared.sdo_request.ExpeditedData.TheVariants.{Indicated}
use Rattle.co_frame.specs.declared.sdo_request.SdoRequest.{SdoRequest}
use Rattle.co_frame.specs.declared.sdo_request.SdoRequest.TheVariants.{DownloadExpedited, DownloadInitiate, DownloadSegment, Upload as UploadInitiate, UploadSegment as NextSegment, Abort as Abandon, BlockUploadInitiate, BlockUploadEnd as UploadEnd, BlockUploadAcknowledge, BlockUploadStart, BlockDownloadInitiate, BlockDownloadEnd}
use Rattle.co_frame.specs.Segments.{is_odd, without}
use Rattle.co_frame.specs.declared.sdo_response.SdoResponse.{SdoResponse}
use Rattle.co_frame.specs.declared.sdo_response.SdoResponse.TheVariants.{Abort as Refuse, DownloadDone, DownloadSegmentDone, UploadExpedited, UploadInitiated, BlockDownloadInitiated, BlockDownloadAcknowledge, BlockDownloadDone, BlockUploadInitiated}
use Rattle.co_dict.specs.Rows.{Contents}
use Rattle.co_dict.specs.Stores.{Description}
use Rattle.co_sdo.specs.declared.stage.Stage.{Stage}
use Rattle.co_sdo.specs.declared.stage.Stage.TheVariants.{Download as Receiving, Upload as Uploading, LastTaken, BlockUploadEnded}
use Rattle.co_sdo.specs.Refused.{completion_refusal, initiate_refusal, reading_refusal}
use Rattle.co_sdo.specs.Downloads.{expedited_part}
use Rattle.co_dict.specs.Refusals.{first_of as refusal_of}
use Rattle.co_sdo.specs.Log.{Answer, Exchanged, Log, Response as Replied, answer_bytes, frames_on}
use Rattle.co_sdo.specs.Opened.{OpenTransfer, opened_after}
use Rattle.co_sdo.specs.OpenTransfers.{is_initiate as initiates}
use Rattle.co_sdo.specs.Replies.{block_size_refusal, initiate_answers, is_in_sub_block, on_open, reply_to, request_answers, segment_answers, segment_refusal, toggle_refusal, unless_refused, upload_answers, upload_end_answers, block_end_answers}
use Rattle.co_sdo.specs.Uploads.{upload_initiated, upload_segment, value_at}
use Rattle.co_node_parts.specs.declared.nmt_state.NodeState.{NodeState}
use Rattle.co_node_parts.specs.declared.nmt_state.NodeState.TheVariants as node
use Rattle.co_node_parts.specs.NmtStates.{is_state}
use Rattle.co_sheet.specs.Content.{Row}
use Rattle.conode_explain_transfers.specs.declared.kinds.Side.TheVariants.{Client, Server}
use Rattle.conode_explain_transfers.specs.declared.kinds.What.TheVariants as what
use Rattle.conode_explain_transfers.specs.declared.kinds.Direction.TheVariants.{Upload}
use Rattle.conode_explain_transfers.specs.declared.kinds.Protocol.TheVariants.{Undecided}
use Rattle.conode_explain_transfers.specs.declared.stage.Stage.TheVariants.{Initiated}
use Rattle.conode_explain_transfers.specs.declared.transfer.Transfer.{Transfer}
use Rattle.conode_explain_transfers.specs.Stages.{confirmed_with}
use Rattle.conode_explain_transfers.specs.Initiates.{data_of, has_crc, initiate_of}
use Rattle.conode_explain_transfers.specs.Transfers.{begun}
use Rattle.conode_explain_transfers.specs.Unanswered.{is_next_segment}
use Rattle.conode_explain_laws.specs.Downloads.{is_block_begin}
use Rattle.co_sdo_laws.proofs.Frames.{acknowledged_read, block_initiated_read}
use Rattle.conode_explain_laws.proofs.Begins.{HasKey, has_key, outside_answers, small_index}
use Rattle.conode_explain_laws.proofs.Readings.{Begin, request_reading, reading_of, begun_after, begun_on, went_on_as}
use Rattle.conode_explain_laws.proofs.Views.{is_begin}
use Rattle.conode_compare_transfers.specs.declared.dialogue.Dialogue.{Dialogue}
use Rattle.conode_compare_transfers.specs.Dialogues.{dialogue_heard, opens_sub_block}
use Rattle.conode_compare_nmt.specs.declared.finding.NmtState.{NmtState}
use Rattle.conode_compare_nmt.specs.declared.finding.NmtState.TheVariants.{Unknown, Initialising, PreOperational, Operational, Stopped}
use Rattle.conode_compare_rules.specs.declared.kind.FrameKind.{FrameKind}
use Rattle.conode_compare_rules.specs.declared.kind.FrameKind.TheVariants.{Sdo}
use Rattle.conode_compare_nmt.specs.declared.limits.Subject.{Subject}
use Rattle.conode_compare_rules.specs.declared.progress.Progress.{Progress}
use Rattle.conode_compare_nmt.specs.States.{is_stopped, after_other, awaits_boot_up, nothing_commanded}
use Rattle.conode_compare_rules.specs.FrameKinds.{command_kind, control_kind, data_kind, emergency_kind, length_of}
use Rattle.conode_compare_rules.specs.declared.kind.FrameKind.TheVariants.{Process}
use Rattle.conode_compare_rules.specs.Gaps.{begun as begun_progress}
use Rattle.conode_compare_rules.specs.NmtFrames.{is_overdue}
use Rattle.conode_compare_rules.specs.Channels.{answer_nmt, answer_noted, late_noted, left_open}
use Rattle.conode_compare_rules.specs.Progresses.{progress_with}
use Rattle.conode_compare_nmt.specs.declared.nmt.Nmt.{Nmt}
use Rattle.conode_compare_laws.specs.AnswerFindings.{answer_differences}
use Rattle.conode_compare_laws.proofs.AnswerTurns.{in_blocks}
use Rattle.conode_compare_laws.proofs.AnswerFollowed.{aborted_part, asks_in, block_download, block_upload, expedited_download, expedited_upload, reads, says_of, segmented_download, segmented_upload}
use Rattle.conode_compare_laws.proofs.AnswerFound.{answered, unasked, uncertain}
use Rattle.conode_compare_laws.proofs.AnswerDialogues.{asked_before, in_doubt, what_heard}
use Rattle.conode_compare_laws.proofs.AnswerOpened.{exchange_with}
use Rattle.conode_compare_laws.proofs.BlockTurns.{Live}
use Rattle.conode_compare_laws.proofs.BlockFollowed.{begins_plain}
use Rattle.conode_compare_laws.proofs.BlockCovers.{Apart, Covers, OpensOne, covers_open, covers_server, initiate_apart}
use Rattle.conode_compare_laws.proofs.BlockDialogues.{InitiateHeard, LaterHeard, Sends, ServerHeard, initiate_heard, initiate_open, later_heard, later_open, sends_on, server_heard, server_turned}
use Rattle.conode_compare_laws.proofs.BlockDevice.{IsInside, outside_stays, refused_never}
use Rattle.conode_compare_laws.proofs.AnswerSteps.{Quiet, Same, answer_found, begun_same, client_quiet, frame_runs, server_quiet}
use Rattle.conode_compare_laws.proofs.Runs.{AllRun, joined}
use Rattle.conode_compare_laws.proofs.Shown.{is_shown}

-- ---- which frames these are

pub answer_kind : (node : ℕ) (bytes : List ℕ) → data_kind node (record { id = 0x580 + node; bytes = bytes }) ≡ Sdo Server (record { id = 0x580 + node; bytes = bytes })
answer_kind node bytes = by (0x580 + node == 0) (0x580 + node == 0x80 + node) (0x580 + node == 0x580 + node) (grind (arith, nat_tests)) (grind (arith, nat_tests)) (grind (arith, nat_tests))
  where
    frame : FrameContent
    frame = record { id = 0x580 + node; bytes = bytes }

    by : (a b c : Bool) → a ≡ false → b ≡ false → c ≡ true
        → (if a then command_kind node frame
        else (if b then emergency_kind frame
        else (if c then Sdo Server frame
        else (if frame.id == 0x600 + node then Sdo Client frame
        else (if frame.id == 0x700 + node then control_kind frame else Process frame.id (length_of frame)))))) ≡ Sdo Server frame
    by true b c p q r = absurd (false≢true (sym p))
    by false true c p q r = absurd (false≢true (sym q))
    by false false false p q r = absurd (false≢true r)
    by false false true p q r = refl

pub request_kind : (node : ℕ) (frame : FrameContent) → frame.id ≡ 0x600 + node → data_kind node frame ≡ Sdo Client frame
request_kind node frame is = by (frame.id == 0) (frame.id == 0x80 + node) (frame.id == 0x580 + node) (frame.id == 0x600 + node) (grind (arith, nat_tests)) (grind (arith, nat_tests)) (grind (arith, nat_tests)) (grind (arith, nat_tests))
  where
    by : (a b c d : Bool) → a ≡ false → b ≡ false → c ≡ false → d ≡ true
        → (if a then command_kind node frame
        else (if b then emergency_kind frame
        else (if c then Sdo Server frame
        else (if d then Sdo Client frame
        else (if frame.id == 0x700 + node then control_kind frame else Process frame.id (length_of frame)))))) ≡ Sdo Client frame
    by true b c d p q r s = absurd (false≢true (sym p))
    by false true c d p q r s = absurd (false≢true (sym q))
    by false false true d p q r s = absurd (false≢true (sym r))
    by false false false false p q r s = absurd (false≢true s)
    by false false false true p q r s = refl

-- ---- one answer after another

pub cons_runs : (subject : Subject) (rows : List Row) (micros : ℕ) (p : Progress) (frame : FrameContent) (later : List FrameContent) (kind : FrameKind) (between after : Progress → Type 0) → data_kind subject.node frame ≡ kind
    → Quiet subject rows (begun_progress subject p micros) micros kind between → ((q : Progress) → between q → AllRun answer_differences subject rows micros q later after)
    → AllRun answer_differences subject rows micros p (frame ∷ later) after
cons_runs subject rows micros p frame later kind between after is q rest =
    joined answer_differences subject rows micros (frame ∷ []) later p between after (frame_runs subject rows micros p frame kind between is q) rest

pub map_runs : (subject : Subject) (rows : List Row) (micros : ℕ) (frames : List FrameContent) (p : Progress) (x y : Progress → Type 0) → ((q : Progress) → x q → y q) → AllRun answer_differences subject rows micros p frames x
    → AllRun answer_differences subject rows micros p frames y
map_runs subject rows micros [] p x y f h = f p h
map_runs subject rows micros (frame ∷ later) p x y f h = (h.0, map_runs subject rows micros later (progress_with subject p micros (data_kind subject.node frame)) x y f h.1)

-- the exchange is over: no request is open. `Opening`: the device is inside a sub-block then
pub record Finished (Opening : Type 0) (d : Dialogue) : Type 0 where
  pub live : IfSome d.channel.transfer Live
  pub asked : d.asked ≡ None
  pub covers : Opening → Covers d

abbrev pub IsFinished : Type 0 → Progress → Type 0
IsFinished Opening p = Finished Opening p.dialogue

pub finished : (Opening : Type 0) (d : Dialogue) → ServerHeard d → (Opening → Covers d) → Finished Opening d
finished Opening d h c = record { live = h.live; asked = h.asked; covers = c }

-- ---- an answer with which a sub-block begins

pub record OpensWith (bytes : List ℕ) : Type 0 where
  pub response : SdoResponse
  pub one : OpensOne response
  pub read : response_in bytes ≡ Some response
  pub no_abort : (slice_index bytes 0 / 32 == 4) ≡ false
  pub opening : opens_sub_block (slice_index bytes 0) ≡ true

pub initiated_opens : (key : Key) (size : ℕ) → key.index < 65536 → OpensWith (response_bytes (BlockDownloadInitiated key size))
initiated_opens key size small = record { response = BlockDownloadInitiated key size; one = tt; read = block_initiated_read key size small; no_abort = refl; opening = refl }

pub acknowledge_opens : (sequence size : ℕ) → OpensWith (response_bytes (BlockDownloadAcknowledge sequence size))
acknowledge_opens sequence size = record { response = BlockDownloadAcknowledge sequence size; one = tt; read = acknowledged_read sequence size; no_abort = refl; opening = refl }

covers_with : (answer started : ℕ) (d : Dialogue) (micros : ℕ) (frame : FrameContent) → IfSome d.channel.transfer Live → IfSome d.channel.transfer Apart → OpensWith frame.bytes → Covers (dialogue_heard answer started d micros Server frame)
covers_with answer started d micros frame s a o = covers_server answer started d micros frame o.response s a o.read o.one o.no_abort o.opening

-- what compare has where a sub-block is open after these answers
abbrev pub Covering : List Answer → Dialogue → Type 0
Covering [] d = Covers d
Covering (x ∷ later) d = IfSome d.channel.transfer Apart × OpensWith (answer_bytes x)

pub covering_open : (answers : List Answer) (misses : Bool) (d : Dialogue) → Covering answers d → Covering answers (left_open Client misses d)
covering_open [] misses d c = covers_open misses d c
covering_open (x ∷ later) misses d c = c

-- ---- while answers are sent

pub record Sending (micros : ℕ) (newest : Option ℕ) (d : Dialogue) : Type 0 where
  pub now : newest ≡ Some micros
  pub sends : Sends micros d

none_sent : (subject : Subject) (rows : List Row) (p : Progress) (micros : ℕ) (frame : FrameContent) → Sends micros p.dialogue → answer_found subject rows p micros frame ≡ []
none_sent subject rows p micros frame s = elim s.lasts [
  | inl doubt ↦ uncertain subject rows p.written p.started micros (answer_nmt subject p micros) _ frame (in_doubt subject.limits.answer p.started p.dialogue micros frame doubt)
  | inr live ↦ unasked subject rows p.written p.started micros (answer_nmt subject p micros) _ frame (asked_before subject.limits.answer p.started p.dialogue micros frame ∙ s.asked)
      (inr (server_turned subject.limits.answer p.started p.dialogue micros frame s.live live.0))
]

pub sends_runs : (Opening : Type 0) (subject : Subject) (rows : List Row) (micros : ℕ) (answers : List Answer) (q : Progress) → (Opening → ⊥) → q.newest ≡ Some micros → Sends micros q.dialogue
    → AllRun answer_differences subject rows micros q (frames_on (0x580 + subject.node) answers) (IsFinished Opening)
sends_runs Opening subject rows micros [] q never now s = record { live = s.live; asked = s.asked; covers = λ o. absurd (never o) }
sends_runs Opening subject rows micros (answer ∷ later) q never now s =
    let same : Same q (begun_progress subject q micros) micros = begun_same subject q micros now in
    let p : Progress = begun_progress subject q micros in
    let sends : Sends micros p.dialogue = subst (Sends micros) (sym same.dialogue) s in
    let frame : FrameContent = record { id = 0x580 + subject.node; bytes = answer_bytes answer } in
    cons_runs subject rows micros q frame (frames_on (0x580 + subject.node) later) (Sdo Server frame) (λ x. Sending micros x.newest x.dialogue) (IsFinished Opening) (answer_kind subject.node (answer_bytes answer))
    (server_quiet subject rows p micros frame (Sending micros) (none_sent subject rows p micros frame sends)
    (record { now = same.newest; sends = sends_on subject.limits.answer p.started p.dialogue micros frame sends }))
    (λ x h. sends_runs Opening subject rows micros later x never h.now h.sends)

-- one answer, after a frame that began nothing
pub record Later (blocks : Bool) (micros : ℕ) (newest : Option ℕ) (d : Dialogue) : Type 0 where
  pub now : newest ≡ Some micros
  pub heard : LaterHeard blocks micros d

none_later : (subject : Subject) (rows : List Row) (blocks : Bool) (p : Progress) (micros : ℕ) (frame : FrameContent) → LaterHeard blocks micros p.dialogue → answer_found subject rows p micros frame ≡ []
none_later subject rows blocks p micros frame s = elim s.still_open [
  | inl doubt ↦ uncertain subject rows p.written p.started micros (answer_nmt subject p micros) _ frame (in_doubt subject.limits.answer p.started p.dialogue micros frame doubt)
  | inr live ↦ unasked subject rows p.written p.started micros (answer_nmt subject p micros) _ frame (asked_before subject.limits.answer p.started p.dialogue micros frame ∙ s.asked)
      (inr (server_turned subject.limits.answer p.started p.dialogue micros frame s.live live))
]

-- at most one answer
abbrev pub IsFew : List Answer → Type 0
IsFew [] = Unit {0}
IsFew (x ∷ []) = Unit {0}
IsFew (x ∷ y ∷ later) = ⊥

pub few_runs : (Opening : Type 0) (subject : Subject) (rows : List Row) (micros : ℕ) (blocks : Bool) (answers : List Answer) (q : Progress) → IsFew answers → q.newest ≡ Some micros → LaterHeard blocks micros q.dialogue
    → (Opening → Covering answers q.dialogue) → AllRun answer_differences subject rows micros q (frames_on (0x580 + subject.node) answers) (IsFinished Opening)
few_runs Opening subject rows micros blocks [] q few now s c = record { live = s.live; asked = s.asked; covers = c }
few_runs Opening subject rows micros blocks (x ∷ y ∷ later) q few now s c = absurd few
few_runs Opening subject rows micros blocks (answer ∷ []) q few now s c =
    let same : Same q (begun_progress subject q micros) micros = begun_same subject q micros now in
    let p : Progress = begun_progress subject q micros in
    let heard : LaterHeard blocks micros p.dialogue = subst (LaterHeard blocks micros) (sym same.dialogue) s in
    let frame : FrameContent = record { id = 0x580 + subject.node; bytes = answer_bytes answer } in
    frame_runs subject rows micros q frame (Sdo Server frame) (IsFinished Opening) (answer_kind subject.node (answer_bytes answer))
    (server_quiet subject rows p micros frame (λ newest d. Finished Opening d) (none_later subject rows blocks p micros frame heard)
    (finished Opening _ (server_heard subject.limits.answer p.started p.dialogue micros frame heard.live)
    (λ o. covers_with subject.limits.answer p.started p.dialogue micros frame heard.live (subst (λ d. IfSome d.channel.transfer Apart) (sym same.dialogue) (c o).0) (c o).1)))

-- one answer, where an earlier request can be answered
pub doubted_runs : (Opening : Type 0) (subject : Subject) (rows : List Row) (micros : ℕ) (answer : Answer) (q : Progress) → q.newest ≡ Some micros → IfSome q.dialogue.channel.transfer Live → q.dialogue.doubted ≡ Some micros
    → (Opening → Covering (answer ∷ []) q.dialogue) → AllRun answer_differences subject rows micros q (frames_on (0x580 + subject.node) (answer ∷ [])) (IsFinished Opening)
doubted_runs Opening subject rows micros answer q now live doubt c =
    let same : Same q (begun_progress subject q micros) micros = begun_same subject q micros now in
    let p : Progress = begun_progress subject q micros in
    let heard : IfSome p.dialogue.channel.transfer Live = subst (λ d. IfSome d.channel.transfer Live) (sym same.dialogue) live in
    let frame : FrameContent = record { id = 0x580 + subject.node; bytes = answer_bytes answer } in
    frame_runs subject rows micros q frame (Sdo Server frame) (IsFinished Opening) (answer_kind subject.node (answer_bytes answer))
    (server_quiet subject rows p micros frame (λ newest d. Finished Opening d)
    (uncertain subject rows p.written p.started micros (answer_nmt subject p micros) _ frame (in_doubt subject.limits.answer p.started p.dialogue micros frame (ap (λ d. d.doubted) same.dialogue ∙ doubt)))
    (finished Opening _ (server_heard subject.limits.answer p.started p.dialogue micros frame heard)
    (λ o. covers_with subject.limits.answer p.started p.dialogue micros frame heard (subst (λ d. IfSome d.channel.transfer Apart) (sym same.dialogue) (c o).0) (c o).1)))

-- ---- the answers to a frame that begins nothing

refused_few : (refusal : Option ℕ) (key : Key) (answers : List Answer) → IsFew answers → IsFew (unless_refused refusal key answers)
refused_few None key answers h = h
refused_few (Some code) key answers h = tt

open_few : (current : Option OpenTransfer) (answers : OpenTransfer → Stage → List Answer) → ((o : OpenTransfer) (stage : Stage) → IsFew (answers o stage)) → IsFew (on_open current answers)
open_few None answers h = tt
open_few (Some o) answers h = h o o.stage

segment_few : (d : Description) (contents : Contents) (o : OpenTransfer) (stage : Stage) (toggle : Bool) (part : List ℕ) (last : Bool) → IsFew (segment_answers d contents o stage toggle part last)
segment_few d contents o (Receiving indicated expected) toggle part last = refused_few (segment_refusal d contents o indicated expected toggle part last) o.key (Replied (DownloadSegmentDone toggle) ∷ []) tt
segment_few d contents o _ toggle part last = tt

upload_few : (o : OpenTransfer) (stage : Stage) (toggle : Bool) → IsFew (upload_answers o stage toggle)
upload_few o (Uploading sent) toggle = refused_few (toggle_refusal toggle (is_odd sent)) o.key (upload_segment toggle sent o.bytes) tt
upload_few o _ toggle = tt

end_few : (o : OpenTransfer) (stage : Stage) → IsFew (upload_end_answers o stage)
end_few o BlockUploadEnded = tt
end_few o _ = tt

block_end_few : (d : Description) (contents : Contents) (o : OpenTransfer) (stage : Stage) (unused : ℕ) → IsFew (block_end_answers d contents o stage unused)
block_end_few d contents o (LastTaken indicated) unused = refused_few (completion_refusal d contents o.key indicated (without unused o.bytes)) o.key (Replied BlockDownloadDone ∷ []) tt
block_end_few d contents o _ unused = tt

-- at most one, or segments of a sub-block
later_few : (d : Description) (contents : Contents) (current : Option OpenTransfer) (r : Option SdoRequest) → initiates r ≡ false → IsFew (request_answers d contents current r) ⊎ (asks_in r ≡ true)
later_few d contents current None n = inl tt
later_few d contents current (Some (Abandon key code)) n = inl tt
later_few d contents current (Some (DownloadSegment toggle segment last)) n = inl (open_few current _ (λ o stage. segment_few d contents o stage toggle segment.items last))
later_few d contents current (Some (NextSegment toggle)) n = inl (open_few current _ (λ o stage. upload_few o stage toggle))
later_few d contents current (Some UploadEnd) n = inl (open_few current upload_end_answers end_few)
later_few d contents current (Some (BlockUploadAcknowledge sequence size)) n = inr refl
later_few d contents current (Some BlockUploadStart) n = inr refl
later_few d contents current (Some (BlockDownloadEnd unused)) n = inl (open_few current _ (λ o stage. block_end_few d contents o stage unused))
later_few d contents current (Some _) n = absurd (false≢true (sym n))

-- an initiate request has one answer
upload_initiate_few : (key : Key) (value : List ℕ) → IsFew (upload_initiated key value)
upload_initiate_few key value = by (nat_le 1 (length value) && nat_le (length value) 4)
  where
    by : (b : Bool) → IsFew (if b then Replied (UploadExpedited key (Indicated (record { items = value }))) ∷ [] else Replied (UploadInitiated key (Some (length value))) ∷ [])
    by true = tt
    by false = tt

initiate_few : (d : Description) (contents : Contents) (request : SdoRequest) → IsFew (initiate_answers d contents request)
initiate_few d contents (DownloadExpedited key value) = refused_few (completion_refusal d contents key None (expedited_part d.rows key value)) key (Replied (DownloadDone key) ∷ []) tt
initiate_few d contents (DownloadInitiate key size) = refused_few (initiate_refusal d key size) key (Replied (DownloadDone key) ∷ []) tt
initiate_few d contents (UploadInitiate key) = refused_few (reading_refusal d contents key) key (upload_initiated key (value_at contents key)) (upload_initiate_few key (value_at contents key))
initiate_few d contents (BlockUploadInitiate key block_size threshold) =
    refused_few (refusal_of (reading_refusal d contents key) (block_size_refusal block_size)) key (Replied (BlockUploadInitiated key (Some (length (value_at contents key)))) ∷ []) tt
initiate_few d contents (BlockDownloadInitiate key size) = refused_few (initiate_refusal d key size) key (Replied (BlockDownloadInitiated key segments_per_sub_block) ∷ []) tt
initiate_few d contents _ = tt

request_few : (d : Description) (contents : Contents) (current : Option OpenTransfer) (r : Option SdoRequest) → IsFew (request_answers d contents current r) ⊎ (asks_in r ≡ true)
request_few d contents current (Some (DownloadExpedited key value)) = inl (initiate_few d contents (DownloadExpedited key value))
request_few d contents current (Some (DownloadInitiate key size)) = inl (initiate_few d contents (DownloadInitiate key size))
request_few d contents current (Some (UploadInitiate key)) = inl (initiate_few d contents (UploadInitiate key))
request_few d contents current (Some (BlockUploadInitiate key block_size threshold)) = inl (initiate_few d contents (BlockUploadInitiate key block_size threshold))
request_few d contents current (Some (BlockDownloadInitiate key size)) = inl (initiate_few d contents (BlockDownloadInitiate key size))
request_few d contents current None = later_few d contents current None refl
request_few d contents current (Some (Abandon key code)) = later_few d contents current (Some (Abandon key code)) refl
request_few d contents current (Some (DownloadSegment toggle segment last)) = later_few d contents current (Some (DownloadSegment toggle segment last)) refl
request_few d contents current (Some (NextSegment toggle)) = later_few d contents current (Some (NextSegment toggle)) refl
request_few d contents current (Some UploadEnd) = later_few d contents current (Some UploadEnd) refl
request_few d contents current (Some (BlockUploadAcknowledge sequence size)) = later_few d contents current (Some (BlockUploadAcknowledge sequence size)) refl
request_few d contents current (Some BlockUploadStart) = later_few d contents current (Some BlockUploadStart) refl
request_few d contents current (Some (BlockDownloadEnd unused)) = later_few d contents current (Some (BlockDownloadEnd unused)) refl

-- segments
lasts_open : (micros : ℕ) (d : Dialogue) → LaterHeard true micros d → Sends micros d
lasts_open micros d h = record {
  live = h.live;
  asked = h.asked;
  lasts = elim h.still_open [
    | inl doubt ↦ inl doubt
    | inr live ↦ elim (h.lasting refl) [ inl doubt ↦ inl doubt | inr lasts ↦ inr (live, lasts) ]
  ];
}

later_runs : (Opening : Type 0) (subject : Subject) (rows : List Row) (micros : ℕ) (blocks : Bool) (answers : List Answer) (q : Progress) → (Opening → ⊥) → IsFew answers ⊎ (blocks ≡ true) → q.newest ≡ Some micros → LaterHeard blocks micros q.dialogue
    → AllRun answer_differences subject rows micros q (frames_on (0x580 + subject.node) answers) (IsFinished Opening)
later_runs Opening subject rows micros blocks answers q never (inl few) now s = few_runs Opening subject rows micros blocks answers q few now s (λ o. absurd (never o))
later_runs Opening subject rows micros blocks answers q never (inr on) now s = sends_runs Opening subject rows micros answers q never now (lasts_open micros q.dialogue (subst (λ b. LaterHeard b micros q.dialogue) on s))

-- ---- the answer to an initiate request

pub record Asks (t : Transfer) (micros : ℕ) (q : Progress) : Type 0 where
  pub newest : q.newest ≡ Some micros
  pub heard : InitiateHeard t micros q.dialogue
  pub running : is_stopped q.nmt.state ≡ false

pub still_running : (subject : Subject) (p : Progress) (micros : ℕ) → is_stopped p.nmt.state ≡ false → is_stopped (answer_nmt subject p micros).state ≡ false
unfolding late_noted after_other
still_running subject p micros h = judged (is_overdue subject p) (answer_noted subject p micros).nmt (by (is_some (awaits_boot_up subject.limits p.nmt micros)))
  where
    by : (b : Bool) → is_stopped (if b then Unknown else p.nmt.state) ≡ false
    by true = refl
    by false = h

    judged : (b : Bool) (nmt : Nmt) → is_stopped nmt.state ≡ false → is_stopped (if b then nothing_commanded else nmt).state ≡ false
    judged true nmt g = refl
    judged false nmt g = g

says_by : (d : Dialogue) (t : Transfer) (micros : ℕ) (bytes : List ℕ) → d.channel.transfer ≡ Some t → says_of d.channel.heard t micros bytes ≡ what.Part → (reads d.channel micros Server bytes).says.what ≡ what.Part
says_by d t micros bytes is part = ap (λ o. (reads (record { heard = d.channel.heard; transfer = o }) micros Server bytes).says.what) is ∙ part

first_apart : (t : Transfer) (current : Option Transfer) → current ≡ Some t → t.stage ≡ Initiated → IfSome current Apart
first_apart t current is e = subst (λ o. IfSome o Apart) (sym is) (inl (ap in_blocks e))

initiated_runs : (Opening : Type 0) (subject : Subject) (rows : List Row) (micros : ℕ) (t : Transfer) (answer : Answer) (q : Progress) → t.stage ≡ Initiated → Asks t micros q
    → ((heard : Bool) → says_of heard t micros (answer_bytes answer) ≡ what.Part) → (Opening → OpensWith (answer_bytes answer))
    → AllRun answer_differences subject rows micros q (frames_on (0x580 + subject.node) (answer ∷ [])) (IsFinished Opening)
initiated_runs Opening subject rows micros t answer q first a part opens =
    let same : Same q (begun_progress subject q micros) micros = begun_same subject q micros a.newest in
    let p : Progress = begun_progress subject q micros in
    let heard : InitiateHeard t micros p.dialogue = subst (InitiateHeard t micros) (sym same.dialogue) a.heard in
    let live : IfSome p.dialogue.channel.transfer Live = subst (λ o. IfSome o Live) (sym heard.transfer) heard.live in
    let running : is_stopped p.nmt.state ≡ false = ap (λ n. is_stopped n.state) same.nmt ∙ a.running in
    let frame : FrameContent = record { id = 0x580 + subject.node; bytes = answer_bytes answer } in
    frame_runs subject rows micros q frame (Sdo Server frame) (IsFinished Opening) (answer_kind subject.node (answer_bytes answer))
    (server_quiet subject rows p micros frame (λ newest d. Finished Opening d)
    (answered subject rows p.written p.started micros (answer_nmt subject p micros) _ frame heard.request (asked_before subject.limits.answer p.started p.dialogue micros frame ∙ heard.asked) heard.at_once
    (still_running subject p micros running)
    (what_heard subject.limits.answer p.started p.dialogue micros frame ∙ says_by p.dialogue t micros frame.bytes heard.transfer (part p.dialogue.channel.heard)))
    (finished Opening _ (server_heard subject.limits.answer p.started p.dialogue micros frame live)
    (λ o. covers_with subject.limits.answer p.started p.dialogue micros frame live (first_apart t p.dialogue.channel.transfer heard.transfer first) (opens o))))

-- or its refusal
refused_runs : (Opening : Type 0) (subject : Subject) (rows : List Row) (micros : ℕ) (t : Transfer) (refusal : Option ℕ) (key : Key) (answer : Answer) (q : Progress) → t.stage ≡ Initiated → Asks t micros q
    → ((heard : Bool) → says_of heard t micros (answer_bytes answer) ≡ what.Part) → (Opening → OpensWith (answer_bytes answer)) → ((code : ℕ) → refusal ≡ Some code → Opening → ⊥)
    → AllRun answer_differences subject rows micros q (frames_on (0x580 + subject.node) (unless_refused refusal key (answer ∷ []))) (IsFinished Opening)
refused_runs Opening subject rows micros t None key answer q first a part opens closed = initiated_runs Opening subject rows micros t answer q first a part opens
refused_runs Opening subject rows micros t (Some code) key answer q first a part opens closed =
    initiated_runs Opening subject rows micros t (Replied (Refuse key (record { 0 = code }))) q first a (λ heard. aborted_part heard t key code micros) (λ o. absurd (closed code refl o))

pub some_bytes : (value : List ℕ) → (nat_le 1 (length value) && nat_le (length value) 4) ≡ true → 1 ≤ length value
some_bytes value e = grind (arith, nat_tests)

pub few_bytes : (value : List ℕ) → (nat_le 1 (length value) && nat_le (length value) 4) ≡ true → length value ≤ 4
few_bytes value e = grind (arith, nat_tests)

-- by the request
abbrev pub AnswersRun : Type 0 → Subject → List Row → ℕ → Transfer → List Answer → Type 0
AnswersRun Opening subject rows micros t answers = (q : Progress) → Asks t micros q → AllRun answer_differences subject rows micros q (frames_on (0x580 + subject.node) answers) (IsFinished Opening)

pub small_key : (frame : List ℕ) (key : Key) → AreBytes frame → key ≡ key_in frame → key.index < 65536
small_key frame key bytes is = subst (λ (k : Key). k.index < 65536) (sym is) (small_index frame bytes)

upload_runs : (Opening : Type 0) (on : Bool) (subject : Subject) (rows : List Row) (micros : ℕ) (refusal : Option ℕ) (key : Key) (value frame : List ℕ) → key.index < 65536 → (Opening → ⊥)
    → AnswersRun Opening subject rows micros (went_on_as on (begun (initiate_of key Upload Undecided) micros frame)) (unless_refused refusal key (upload_initiated key value))
upload_runs Opening on subject rows micros refusal key value frame small never = by (nat_le 1 (length value) && nat_le (length value) 4) refl
  where
    t : Transfer
    t = went_on_as on (begun (initiate_of key Upload Undecided) micros frame)

    by : (b : Bool) → (nat_le 1 (length value) && nat_le (length value) 4) ≡ b
        → AnswersRun Opening subject rows micros (went_on_as on (begun (initiate_of key Upload Undecided) micros frame))
        (unless_refused refusal key (if b then Replied (UploadExpedited key (Indicated (record { items = value }))) ∷ [] else Replied (UploadInitiated key (Some (length value))) ∷ []))
    by true is = λ q a. refused_runs Opening subject rows micros t refusal key (Replied (UploadExpedited key (Indicated (record { items = value })))) q refl a
        (λ heard. expedited_upload heard on key value micros frame small (some_bytes value is) (few_bytes value is)) (λ o. absurd (never o)) (λ code e o. never o)
    by false is = λ q a. refused_runs Opening subject rows micros t refusal key (Replied (UploadInitiated key (Some (length value)))) q refl a (λ heard. segmented_upload heard on key (length value) micros frame small)
        (λ o. absurd (never o)) (λ code e o. never o)

-- a sub-block begins only where a block download isn't refused
abbrev Opens : Type 0 → Description → SdoRequest → Type 0
Opens Opening d (BlockDownloadInitiate key size) = (code : ℕ) → initiate_refusal d key size ≡ Some code → Opening → ⊥
Opens Opening d _ = Opening → ⊥

initiate_runs : (Opening : Type 0) (on : Bool) (subject : Subject) (rows : List Row) (micros : ℕ) (d : Description) (contents : Contents) (request : SdoRequest) (frame : List ℕ) → AreBytes frame → HasKey frame request → Opens Opening d request
    → IfSome (begun_on on request micros frame) (λ t. AnswersRun Opening subject rows micros t (initiate_answers d contents request))
initiate_runs Opening on subject rows micros d contents (DownloadExpedited key value) frame bytes has never =
    λ q a. refused_runs Opening subject rows micros _ _ key (Replied (DownloadDone key)) q refl a (λ heard. expedited_download heard on key (record { items = data_of value }) micros frame (small_key frame key bytes has)) (λ o. absurd (never o)) (λ code e o. never o)
initiate_runs Opening on subject rows micros d contents (DownloadInitiate key size) frame bytes has never =
    λ q a. refused_runs Opening subject rows micros _ _ key (Replied (DownloadDone key)) q refl a (λ heard. segmented_download heard on key size micros frame (small_key frame key bytes has)) (λ o. absurd (never o)) (λ code e o. never o)
initiate_runs Opening on subject rows micros d contents (UploadInitiate key) frame bytes has never = upload_runs Opening on subject rows micros _ key (value_at contents key) frame (small_key frame key bytes has) never
initiate_runs Opening on subject rows micros d contents (BlockUploadInitiate key block_size threshold) frame bytes has never =
    λ q a. refused_runs Opening subject rows micros _ _ key (Replied (BlockUploadInitiated key (Some (length (value_at contents key))))) q refl a
    (λ heard. block_upload heard on (has_crc frame) key block_size (length (value_at contents key)) micros frame (small_key frame key bytes has)) (λ o. absurd (never o)) (λ code e o. never o)
initiate_runs Opening on subject rows micros d contents (BlockDownloadInitiate key size) frame bytes has closed =
    λ q a. refused_runs Opening subject rows micros _ (initiate_refusal d key size) key (Replied (BlockDownloadInitiated key segments_per_sub_block)) q refl a
    (λ heard. block_download heard on (has_crc frame) key size segments_per_sub_block micros frame (small_key frame key bytes has)) (λ o. initiated_opens key segments_per_sub_block (small_key frame key bytes has)) closed
initiate_runs Opening on subject rows micros d contents _ frame bytes has never = tt

-- ---- a request and its answers

pub quiet_map : (subject : Subject) (rows : List Row) (p : Progress) (micros : ℕ) (kind : FrameKind) (x y : Progress → Type 0) → ((q : Progress) → x q → y q) → Quiet subject rows p micros kind x → Quiet subject rows p micros kind y
quiet_map subject rows p micros kind x y f q = record { none = q.none; next = f _ q.next }

pub shown_running : (state : NmtState) (actual : NodeState) → is_shown state actual ≡ true → is_state node.Stopped actual ≡ false → is_stopped state ≡ false
shown_running Stopped node.PreOperational h s = absurd (false≢true h)
shown_running Stopped node.Operational h s = absurd (false≢true h)
shown_running Stopped node.Stopped h s = absurd (false≢true (sym s))
shown_running Unknown actual h s = refl
shown_running Initialising actual h s = refl
shown_running PreOperational actual h s = refl
shown_running Operational actual h s = refl

-- before a request that the device takes
pub record Ready (subject : Subject) (p : Progress) (micros : ℕ) : Type 0 where
  pub newest : p.newest ≡ Some micros
  pub running : is_stopped p.nmt.state ≡ false
  pub live : IfSome p.dialogue.channel.transfer Live

pub begun_live : (on : Bool) (t : Transfer) → t.stage ≡ Initiated → Live (went_on_as on t)
begun_live on t e = record { unconfirmed = ap confirmed_with e; blocks = λ h. absurd (false≢true (sym (ap in_blocks e) ∙ h)) }

module _ (Opening : Type 0) (subject : Subject) (rows : List Row) (micros : ℕ) (d : Description) (contents : Contents) (current : Option OpenTransfer) (frame : FrameContent) (p : Progress) (ready : Ready subject p micros) where
  -- after the request its answers run
  abbrev Answered : List Answer → Type 0
  Answered answers = Quiet subject rows p micros (Sdo Client frame) (λ q. AllRun answer_differences subject rows micros q (frames_on (0x580 + subject.node) answers) (IsFinished Opening))

  begins_nothing : (r : Option SdoRequest) → request_in frame.bytes ≡ r → is_begin (reading_of p.dialogue.channel.transfer Client micros frame.bytes) ≡ false → (Opening → ⊥) → Answered (request_answers d contents current r)
  begins_nothing r is n never =
      let heard : LaterHeard (asks_in (request_in frame.bytes)) micros (dialogue_heard subject.limits.answer p.started p.dialogue micros Client frame) =
      later_heard subject.limits.answer p.started p.dialogue micros frame ready.live n in
      quiet_map subject rows p micros (Sdo Client frame) (λ q. Later (asks_in r) micros q.newest q.dialogue) _
      (λ q l. later_runs Opening subject rows micros (asks_in r) (request_answers d contents current r) q never (request_few d contents current r) l.now l.heard)
      (client_quiet subject rows p micros frame (λ newest nmt x. Later (asks_in r) micros newest x)
      (record { now = ready.newest; heard = later_open (asks_in r) micros _ _ (subst (λ o. LaterHeard (asks_in o) micros (dialogue_heard subject.limits.answer p.started p.dialogue micros Client frame)) is heard) }))

  -- a segment for explain, where the device begins a block download
  begins_none : (answers : List Answer) → IsFew answers → is_begin (reading_of p.dialogue.channel.transfer Client micros frame.bytes) ≡ false
      → (Opening → Covering answers (dialogue_heard subject.limits.answer p.started p.dialogue micros Client frame)) → Answered answers
  begins_none answers few n covering =
      let heard : LaterHeard (asks_in (request_in frame.bytes)) micros (dialogue_heard subject.limits.answer p.started p.dialogue micros Client frame) =
      later_heard subject.limits.answer p.started p.dialogue micros frame ready.live n in
      quiet_map subject rows p micros (Sdo Client frame) (λ q. (q.newest ≡ Some micros) × LaterHeard (asks_in (request_in frame.bytes)) micros q.dialogue × (Opening → Covering answers q.dialogue)) _
      (λ q l. few_runs Opening subject rows micros (asks_in (request_in frame.bytes)) answers q few l.0 l.1 l.2)
      (client_quiet subject rows p micros frame (λ newest nmt x. (newest ≡ Some micros) × LaterHeard (asks_in (request_in frame.bytes)) micros x × (Opening → Covering answers x))
      (ready.newest, later_open (asks_in (request_in frame.bytes)) micros _ _ heard, λ o. covering_open answers _ _ (covering o)))

  begins_one : (request : SdoRequest) (t : Transfer) → t.stage ≡ Initiated → reading_of p.dialogue.channel.transfer Client micros frame.bytes ≡ Begin t
      → AnswersRun Opening subject rows micros (begun_after p.dialogue.channel.transfer frame.bytes t) (initiate_answers d contents request) → Answered (initiate_answers d contents request)
  begins_one request t first reading runs =
      quiet_map subject rows p micros (Sdo Client frame) (λ q. Asks (begun_after p.dialogue.channel.transfer frame.bytes t) micros q) _ (λ q a. runs q a)
      (quiet_map subject rows p micros (Sdo Client frame) (λ q. (q.newest ≡ Some micros) × (is_stopped q.nmt.state ≡ false) × InitiateHeard (begun_after p.dialogue.channel.transfer frame.bytes t) micros q.dialogue) _
      (λ q h. record { newest = h.0; running = h.1; heard = h.2 })
      (client_quiet subject rows p micros frame (λ newest nmt x. (newest ≡ Some micros) × (is_stopped nmt.state ≡ false) × InitiateHeard (begun_after p.dialogue.channel.transfer frame.bytes t) micros x) (
        ready.newest,
        ready.running,
        initiate_open (begun_after p.dialogue.channel.transfer frame.bytes t) micros _ _
            (initiate_heard subject.limits.answer p.started p.dialogue micros frame t reading (begun_live (is_next_segment p.dialogue.channel.transfer frame.bytes) t first)),
      )))

  -- read as a request
  by_plain : (r : Option SdoRequest) → request_in frame.bytes ≡ r → reading_of p.dialogue.channel.transfer Client micros frame.bytes ≡ request_reading r micros frame.bytes → AreBytes frame.bytes → IfSome r (HasKey frame.bytes)
      → IfSome r (λ request. initiates (Some request) ≡ true → Opens Opening d request) → (initiates r ≡ false → Opening → ⊥) → Answered (request_answers d contents current r)
  by_plain (Some (DownloadExpedited key value)) is reading bytes has opens never =
      begins_one (DownloadExpedited key value) _ refl reading (initiate_runs Opening (is_next_segment p.dialogue.channel.transfer frame.bytes) subject rows micros d contents (DownloadExpedited key value) frame.bytes bytes has (opens refl))
  by_plain (Some (DownloadInitiate key size)) is reading bytes has opens never =
      begins_one (DownloadInitiate key size) _ refl reading (initiate_runs Opening (is_next_segment p.dialogue.channel.transfer frame.bytes) subject rows micros d contents (DownloadInitiate key size) frame.bytes bytes has (opens refl))
  by_plain (Some (UploadInitiate key)) is reading bytes has opens never =
      begins_one (UploadInitiate key) _ refl reading (initiate_runs Opening (is_next_segment p.dialogue.channel.transfer frame.bytes) subject rows micros d contents (UploadInitiate key) frame.bytes bytes has (opens refl))
  by_plain (Some (BlockUploadInitiate key size threshold)) is reading bytes has opens never =
      begins_one (BlockUploadInitiate key size threshold) _ refl reading (initiate_runs Opening (is_next_segment p.dialogue.channel.transfer frame.bytes) subject rows micros d contents (BlockUploadInitiate key size threshold) frame.bytes bytes has (opens refl))
  by_plain (Some (BlockDownloadInitiate key size)) is reading bytes has opens never =
      begins_one (BlockDownloadInitiate key size) _ refl reading (initiate_runs Opening (is_next_segment p.dialogue.channel.transfer frame.bytes) subject rows micros d contents (BlockDownloadInitiate key size) frame.bytes bytes has (opens refl))
  by_plain None is reading bytes has opens never = begins_nothing None is (ap is_begin reading) (never refl)
  by_plain (Some (Abandon key code)) is reading bytes has opens never = begins_nothing (Some (Abandon key code)) is (ap is_begin reading) (never refl)
  by_plain (Some (DownloadSegment toggle segment last)) is reading bytes has opens never = begins_nothing (Some (DownloadSegment toggle segment last)) is (ap is_begin reading) (never refl)
  by_plain (Some (NextSegment toggle)) is reading bytes has opens never = begins_nothing (Some (NextSegment toggle)) is (ap is_begin reading) (never refl)
  by_plain (Some UploadEnd) is reading bytes has opens never = begins_nothing (Some UploadEnd) is (ap is_begin reading) (never refl)
  by_plain (Some (BlockUploadAcknowledge sequence size)) is reading bytes has opens never = begins_nothing (Some (BlockUploadAcknowledge sequence size)) is (ap is_begin reading) (never refl)
  by_plain (Some BlockUploadStart) is reading bytes has opens never = begins_nothing (Some BlockUploadStart) is (ap is_begin reading) (never refl)
  by_plain (Some (BlockDownloadEnd unused)) is reading bytes has opens never = begins_nothing (Some (BlockDownloadEnd unused)) is (ap is_begin reading) (never refl)

  -- taken by explain as a segment, the answer to which it doesn't await
  block_covering : (key : Key) (size refusal : Option ℕ) → request_in frame.bytes ≡ Some (BlockDownloadInitiate key size) → key.index < 65536 → ((code : ℕ) → refusal ≡ Some code → Opening → ⊥)
      → Opening → Covering (unless_refused refusal key (Replied (BlockDownloadInitiated key segments_per_sub_block) ∷ [])) (dialogue_heard subject.limits.answer p.started p.dialogue micros Client frame)
  block_covering key size None is small closed o =
      (initiate_apart subject.limits.answer p.started p.dialogue micros frame ready.live (ap (λ r. is_begin (request_reading r micros frame.bytes)) is), initiated_opens key segments_per_sub_block small)
  block_covering key size (Some code) is small closed o = absurd (closed code refl o)

  by_segment : (r : Option SdoRequest) → request_in frame.bytes ≡ r → is_begin (reading_of p.dialogue.channel.transfer Client micros frame.bytes) ≡ false → AreBytes frame.bytes → IfSome r (HasKey frame.bytes)
      → IfSome r (λ request. initiates (Some request) ≡ true → Opens Opening d request) → (initiates r ≡ false → Opening → ⊥) → Answered (request_answers d contents current r)
  by_segment (Some (BlockDownloadInitiate key size)) is n bytes has opens never =
      begins_none (initiate_answers d contents (BlockDownloadInitiate key size)) (initiate_few d contents (BlockDownloadInitiate key size)) n
      (block_covering key size (initiate_refusal d key size) is (small_key frame.bytes key bytes has) (opens refl))
  by_segment (Some (DownloadExpedited key value)) is n bytes has opens never = begins_nothing (Some (DownloadExpedited key value)) is n (opens refl)
  by_segment (Some (DownloadInitiate key size)) is n bytes has opens never = begins_nothing (Some (DownloadInitiate key size)) is n (opens refl)
  by_segment (Some (UploadInitiate key)) is n bytes has opens never = begins_nothing (Some (UploadInitiate key)) is n (opens refl)
  by_segment (Some (BlockUploadInitiate key size threshold)) is n bytes has opens never = begins_nothing (Some (BlockUploadInitiate key size threshold)) is n (opens refl)
  by_segment None is n bytes has opens never = begins_nothing None is n (never refl)
  by_segment (Some (Abandon key code)) is n bytes has opens never = begins_nothing (Some (Abandon key code)) is n (never refl)
  by_segment (Some (DownloadSegment toggle segment last)) is n bytes has opens never = begins_nothing (Some (DownloadSegment toggle segment last)) is n (never refl)
  by_segment (Some (NextSegment toggle)) is n bytes has opens never = begins_nothing (Some (NextSegment toggle)) is n (never refl)
  by_segment (Some UploadEnd) is n bytes has opens never = begins_nothing (Some UploadEnd) is n (never refl)
  by_segment (Some (BlockUploadAcknowledge sequence size)) is n bytes has opens never = begins_nothing (Some (BlockUploadAcknowledge sequence size)) is n (never refl)
  by_segment (Some BlockUploadStart) is n bytes has opens never = begins_nothing (Some BlockUploadStart) is n (never refl)
  by_segment (Some (BlockDownloadEnd unused)) is n bytes has opens never = begins_nothing (Some (BlockDownloadEnd unused)) is n (never refl)

  by_request : AreBytes frame.bytes → IfSome (request_in frame.bytes) (HasKey frame.bytes) → IfSome (request_in frame.bytes) (λ request. initiates (Some request) ≡ true → Opens Opening d request)
      → (initiates (request_in frame.bytes) ≡ false → Opening → ⊥) → Answered (request_answers d contents current (request_in frame.bytes))
  by_request bytes has opens never = elim (begins_plain p.dialogue.channel.transfer micros frame.bytes) [
    | inl same ↦ by_plain (request_in frame.bytes) refl same bytes has opens never
    | inr none ↦ by_segment (request_in frame.bytes) refl none.2 bytes has opens never
  ]

-- ---- outside a sub-block

-- after the exchange the device is inside one
abbrev pub OpensAt : Description → Contents → Log → List ℕ → Type 0
OpensAt d contents log frame = IsInside (Exchanged (exchange_with d contents log frame) ∷ log)

never_later : (d : Description) (contents : Contents) (log : Log) (frame : List ℕ) → is_in_sub_block (opened_after log) ≡ false → is_block_begin (request_in frame) ≡ false → OpensAt d contents log frame → ⊥
never_later d contents log frame out n h = false≢true (sym (outside_stays d contents log frame out n) ∙ h)

opens_by : (d : Description) (contents : Contents) (log : Log) (frame : List ℕ) (r : Option SdoRequest) → is_in_sub_block (opened_after log) ≡ false → request_in frame ≡ r
    → IfSome r (λ request. initiates (Some request) ≡ true → Opens (OpensAt d contents log frame) d request)
opens_by d contents log frame None out is = tt
opens_by d contents log frame (Some (DownloadExpedited key value)) out is = λ i. never_later d contents log frame out (ap is_block_begin is)
opens_by d contents log frame (Some (DownloadInitiate key size)) out is = λ i. never_later d contents log frame out (ap is_block_begin is)
opens_by d contents log frame (Some (UploadInitiate key)) out is = λ i. never_later d contents log frame out (ap is_block_begin is)
opens_by d contents log frame (Some (BlockUploadInitiate key size threshold)) out is = λ i. never_later d contents log frame out (ap is_block_begin is)
opens_by d contents log frame (Some (BlockDownloadInitiate key size)) out is = λ i code refused. refused_never d contents log frame out key size code is refused
opens_by d contents log frame (Some _) out is = λ i. absurd (false≢true i)

no_block : (r : Option SdoRequest) → initiates r ≡ false → is_block_begin r ≡ false
no_block (Some (BlockDownloadInitiate key size)) n = absurd (false≢true (sym n))
no_block _ n = refl

pub exchange_runs : (subject : Subject) (rows : List Row) (micros : ℕ) (d : Description) (contents : Contents) (log : Log) (frame : FrameContent) (p : Progress) → frame.id ≡ 0x600 + subject.node → AreBytes frame.bytes
    → is_in_sub_block (opened_after log) ≡ false → Ready subject (begun_progress subject p micros) micros
    → AllRun answer_differences subject rows micros p (frame ∷ []) (λ q. AllRun answer_differences subject rows micros q (frames_on (0x580 + subject.node) (reply_to d contents log frame.bytes)) (IsFinished (OpensAt d contents log frame.bytes)))
exchange_runs subject rows micros d contents log frame p id bytes out ready =
    frame_runs subject rows micros p frame (Sdo Client frame) _ (request_kind subject.node frame id)
    (subst (λ answers. Quiet subject rows (begun_progress subject p micros) micros (Sdo Client frame) (λ q. AllRun answer_differences subject rows micros q (frames_on (0x580 + subject.node) answers) (IsFinished (OpensAt d contents log frame.bytes))))
    (sym (outside_answers d contents (opened_after log) frame.bytes out))
    (by_request (OpensAt d contents log frame.bytes) subject rows micros d contents (opened_after log) frame (begun_progress subject p micros) ready bytes (has_key frame.bytes)
    (opens_by d contents log frame.bytes (request_in frame.bytes) out refl)
    (λ n. never_later d contents log frame.bytes out (no_block (request_in frame.bytes) n))))
