-- All inputs, block transfers too: no answer of the default channel has the toggle bit of the one before.
use Rattle.std.proofs.Common.{◌≡◌, ℕ, ◌+◌, ◌≤◌, Bool, true, false, List, [], ◌∷◌, ◌++◌, map, length, Option, Some, None, refl, sym, ap, ◌∙◌, ◌⊎◌, inl, inr, subst}
use Rattle.std.specs.Prelude.{◌%◌, ◌/◌, ◌==◌, ◌&&◌, ◌||◌, if◌then◌else◌, nat_le, IfSome}
use Rattle.std.specs.List.{AllByRecursion}
use Rattle.std.proofs.lemmas.Bool.{eqb-true, false≢true}
use Rattle.arrayvec.specs.ArrayVec.{ArrayVec}
use Rattle.co_value.specs.declared.key.Key.{Key}
use Rattle.co_value.specs.Keys.{same_key}
use Rattle.co_frame_aborts.specs.AbortCodes.{timed_out as timed_out_code, unknown_command}
use Rattle.co_frame.specs.FrameContent.{FrameContent}
use Rattle.co_frame.specs.Segments.{is_odd}
use Rattle.co_frame.specs.SdoRequests.{request_in}
use Rattle.co_frame.specs.SdoResponses.{response_bytes, response_in}
use Rattle.co_frame.specs.declared.heartbeat.Heartbeat.TheVariants.{BootUp}
use Rattle.co_frame.specs.declared.sdo_request.ExpeditedData.TheVariants.{Indicated}
use Rattle.co_frame.specs.declared.sdo_request.SdoRequest.{SdoRequest}
use Rattle.co_frame.specs.declared.sdo_request.SdoRequest.TheVariants.{DownloadExpedited, DownloadInitiate, DownloadSegment, Upload as UploadInitiate, UploadSegment as NextSegment, BlockUploadInitiate, BlockDownloadInitiate}
use Rattle.co_frame.specs.declared.sdo_response.SdoResponse.{SdoResponse}
use Rattle.co_frame.specs.declared.sdo_response.SdoResponse.TheVariants.{Abort as Refuse, DownloadDone, DownloadSegmentDone, UploadExpedited, UploadInitiated, UploadSegment, BlockDownloadInitiated, BlockDownloadAcknowledge, BlockUploadInitiated}
use Rattle.co_dict.specs.Refusals.{first_of}
use Rattle.co_dict.specs.Rows.{Contents}
use Rattle.co_dict.specs.Stores.{Description}
use Rattle.co_sdo.specs.declared.stage.Stage.{Stage}
use Rattle.co_sdo.specs.declared.stage.Stage.TheVariants.{Download as Receiving, SubBlock as InSubBlock, Upload as Uploading}
use Rattle.co_sdo.specs.Channels.{ChannelSettings}
use Rattle.co_sdo.specs.Downloads.{expedited_part}
use Rattle.co_sdo.specs.Events.{ChannelEvent, frames_at, time_out_on}
use Rattle.co_sdo.specs.Log.{Answer, Log, Response as Replied, Ticked as Elapsed, answer_bytes, frames_on}
use Rattle.co_sdo.specs.Opened.{OpenTransfer, is_time_over, opened_after}
use Rattle.co_sdo.specs.OpenTransfers.{is_initiate as initiates}
use Rattle.co_sdo.specs.Refused.{completion_refusal, initiate_refusal, reading_refusal}
use Rattle.co_sdo.specs.Replies.{aborted, answers_to, block_size_refusal, frame_answers, is_in_sub_block, open_key, reply_to, request_answers, segment_answers, segment_refusal, sub_block_refusal, taken_with, time_out_reply, toggle_refusal, unless_refused, upload_answers}
use Rattle.co_sdo.specs.SubBlocks.{ends_sub_block}
use Rattle.co_sdo.specs.Uploads.{is_last_after, part_after, upload_initiated, value_at}
use Rattle.co_sdo_laws.proofs.Frames.{acknowledged_read, segment_done_read, segment_sent_read}
use Rattle.co_sdo_laws.proofs.Segments.{part_small}
use Rattle.co_node_parts.specs.declared.nmt_state.NodeState.TheVariants as node
use Rattle.co_node_parts.specs.NmtStates.{is_state}
use Rattle.co_node_model.specs.Device.{contents_of, moment, moments, prescribed, state_of}
use Rattle.co_node_model.specs.Emergencies.{emergency_frames}
use Rattle.co_node_model.specs.Heartbeats.{boot_up, life_frames}
use Rattle.co_node_model.specs.Inputs.{Applied, Framed, Inputs, InputView, Ticked}
use Rattle.co_node_model.specs.Moments.{Constants, History, Moment, channels}
use Rattle.co_node_model.specs.Sdo.{channel_logs}
use Rattle.co_node_model.specs.Sync.{is_sync_id}
use Rattle.co_node_model.specs.Tpdos.{tpdo_frame}
use Rattle.co_sheet.specs.Content.{Row}
use Rattle.conode_explain_transfers.specs.declared.channel.Heard.{Heard as Says}
use Rattle.conode_explain_transfers.specs.declared.ended.Ended.{Ended}
use Rattle.conode_explain_transfers.specs.declared.ended.Ending.{Ending}
use Rattle.conode_explain_transfers.specs.declared.ended.Ending.TheVariants.{Aborted, CrcDiffers, SizeDiffers}
use Rattle.conode_explain_transfers.specs.declared.ended.Fault.{Fault}
use Rattle.conode_explain_transfers.specs.declared.ended.Fault.TheVariants as fault
use Rattle.conode_explain_transfers.specs.declared.kinds.Direction.{Direction}
use Rattle.conode_explain_transfers.specs.declared.kinds.Direction.TheVariants.{Upload}
use Rattle.conode_explain_transfers.specs.declared.kinds.Side.{Side}
use Rattle.conode_explain_transfers.specs.declared.kinds.Side.TheVariants.{Client, Server}
use Rattle.conode_explain_transfers.specs.declared.kinds.What.{What}
use Rattle.conode_explain_transfers.specs.declared.kinds.What.TheVariants as what
use Rattle.conode_explain_transfers.specs.declared.stage.Stage.{Stage as Progressed}
use Rattle.conode_explain_transfers.specs.declared.stage.Stage.TheVariants.{DownloadSent, Initiated, SubBlock, UploadAsked}
use Rattle.conode_explain_transfers.specs.declared.transfer.Transfer.{Transfer}
use Rattle.conode_explain_transfers.specs.Followed.{Following, followed}
use Rattle.conode_explain_transfers.specs.Readings.{is_in_sub_block as is_inside}
use Rattle.conode_explain_transfers.specs.Stages.{confirmed_with}
use Rattle.conode_explain_transfers.specs.Transfers.{after, is_download}
use Rattle.conode_explain_transfers.specs.Turns.{response_turn}
use Rattle.conode_explain_laws.proofs.Exchanges.{same_toggle}
use Rattle.conode_explain_laws.proofs.Follows.{none_of_server}
use Rattle.conode_explain_laws.proofs.Readings.{Abort, Reading, Response, follows_by, reading_of, response_reading}
use Rattle.conode_explain_laws.proofs.Views.{abort_is, is_abort_reading, is_begin, server_no_begin}
use Rattle.conode_compare_transfers.specs.declared.breach.Breach.{Breach}
use Rattle.conode_compare_transfers.specs.declared.breach.Breach.TheVariants.{AbortKey, Early, Form, Size}
use Rattle.conode_compare_transfers.specs.declared.dialogue.Dialogue.{Dialogue}
use Rattle.conode_compare_transfers.specs.declared.newest.Newest.{Newest}
use Rattle.conode_compare_transfers.specs.declared.newest.Newest.TheVariants.{Acknowledge, AllAcknowledged, Data, LastData, LaterAcknowledge, LaterData, Request}
use Rattle.conode_compare_transfers.specs.Breaches.{breach_at, ending_breach, fault_breach, is_padded, key_in, keyed_breach, may_refuse_next, names_none, server_breach}
use Rattle.conode_compare_transfers.specs.Dialogues.{dialogue_heard, exchange_in, newest_heard}
use Rattle.conode_compare_transfers.specs.NewestFrames.{newest_after, newest_with}
use Rattle.conode_compare_nmt.specs.declared.finding.Finding.{Finding}
use Rattle.conode_compare_nmt.specs.declared.finding.Finding.TheVariants.{Transfer as Within}
use Rattle.conode_compare_rules.specs.declared.kind.FrameKind.{FrameKind}
use Rattle.conode_compare_rules.specs.declared.kind.FrameKind.TheVariants.{Sdo}
use Rattle.conode_compare_nmt.specs.declared.limits.Subject.{Subject}
use Rattle.conode_compare_rules.specs.declared.progress.Progress.{Progress}
use Rattle.conode_compare_rules.specs.declared.verdict.Findings.{Findings}
use Rattle.conode_compare_rules.specs.Answers.{breach_finding}
use Rattle.conode_compare_rules.specs.FrameKinds.{data_kind}
use Rattle.conode_compare_rules.specs.Gaps.{before_recording, begun}
use Rattle.conode_compare_rules.specs.Channels.{channel_heard, exchange_noted, late_noted, left_open, may_miss_end}
use Rattle.conode_compare_rules.specs.Progresses.{after_frame, findings_at, findings_in, progress_with}
use Rattle.conode_compare_laws.specs.AnswerFindings.{of_toggles, toggle_differences}
use Rattle.conode_compare_laws.specs.AnswerSenders.{AllSendOther, AreOther, HaveOtherChannels, IsOther, SendsOther}
use Rattle.conode_compare_laws.specs.Differences.{differences_from, differences_in}
use Rattle.conode_compare_laws.specs.Identifiers.{AreElsewhere, IsAside, IsElsewhere}
use Rattle.conode_compare_laws.specs.Recordings.{Stamped, frame_of, heard_from, recording}
use Rattle.conode_compare_laws.proofs.Heard.{of_device}
use Rattle.conode_compare_laws.proofs.Runs.{AllRun, joined, then_none}
use Rattle.conode_compare_laws.proofs.AnswerCalm.{calm_exchange}
use Rattle.conode_compare_laws.proofs.AnswerDevice.{IsNumbered, expired_at, found_with, no_exchange_of_event, none_at_event, none_at_frame, none_stopped, numbered, timed_out}
use Rattle.conode_compare_laws.proofs.AnswerDialogues.{channel_is}
use Rattle.conode_compare_laws.proofs.AnswerExchange.{answer_kind, request_kind}
use Rattle.conode_compare_laws.proofs.AnswerFollowed.{reads, server_no_request, what_is}
use Rattle.conode_compare_laws.proofs.AnswerInputs.{nmt_exchange, served_is}
use Rattle.conode_compare_laws.proofs.AnswerTimeOuts.{not_zero, zero_is}
use Rattle.conode_compare_laws.proofs.AnswerOnly.{client_found, is_breach, server_found}
use Rattle.conode_compare_laws.proofs.AnswerOthers.{is_sdo, life_run, others_run}
use Rattle.conode_compare_laws.proofs.AnswerSteps.{Same, begun_newest, begun_same, some_map}
use Rattle.conode_compare_laws.proofs.AnswerToggles.{AreBlocks, Heard, acknowledged_once, asks_one, begins_one, blocks_once, client_heard, first_once, in_turn, is_again, is_kept, odd_frame, sends_one, turn_what}
use Rattle.conode_compare_laws.proofs.AnswerTransferInputs.{answers_other, nmt_other, not_equal, only_other}
use Rattle.conode_compare_laws.proofs.AnswerTurns.{in_blocks}

-- ---- what is found

no_toggle : (finding : Finding) → is_breach finding ≡ false → of_toggles (Some finding) ≡ []
no_toggle (Within (Early key waited time)) off = refl
no_toggle (Within breach) off = absurd (cc)
no_toggle _ off = refl

either_breach : (b : Bool) (x y : Option Breach) → of_toggles (breach_finding x) ≡ [] → of_toggles (breach_finding y) ≡ [] → of_toggles (breach_finding (if b then x else y)) ≡ []
either_breach true x y p q = p
either_breach false x y p q = q

no_fault : (key : Key) (o : Option Fault) → of_toggles (breach_finding (fault_breach key o)) ≡ []
no_fault key None = refl
no_fault key (Some (fault.Size indicated bytes)) = refl
no_fault key (Some (fault.Crc came computed)) = refl

no_end : (newest : Newest) (frame : FrameContent) (e : Ended) (direction : Direction) (ending : Ending) → of_toggles (breach_finding (ending_breach newest frame e direction ending)) ≡ []
no_end newest frame e direction (Aborted Server code) = either_breach (((same_key (key_in frame) e.key || (code.0 == unknown_command)) || names_none newest (key_in frame) e.frames) || may_refuse_next newest e) None (Some (AbortKey e.key)) refl refl
no_end newest frame e direction (Aborted Client code) = no_fault e.key e.fault
no_end newest frame e Upload (SizeDiffers indicated) = either_breach (is_padded frame e indicated) None (Some (Size e.key indicated e.bytes)) refl refl
no_end newest frame e Upload (CrcDiffers came computed) = refl
no_end newest frame e direction ending = refl

no_server_breach : (newest : Newest) (key : Key) (w : What) (byte : ℕ) → is_again w ≡ false → of_toggles (breach_finding (server_breach newest key w byte)) ≡ []
no_server_breach Request key what.Repeated byte n = absurd (false≢true (sym n))
no_server_breach Request key what.Unexpected byte n = either_breach (byte / 32 == 6) None (Some (Form key)) refl refl
no_server_breach Data key what.Unexpected byte n = either_breach (byte / 32 == 6) None (Some (Form key)) refl refl
no_server_breach (LastData number) key what.Unexpected byte n = either_breach (byte / 32 == 6) None (Some (Form key)) refl refl
no_server_breach AllAcknowledged key what.Unexpected byte n = either_breach (byte / 32 == 6) None (Some (Form key)) refl refl
no_server_breach Acknowledge key what.Unexpected byte n = either_breach (byte % 128 == 0) (Some (Form key)) None refl refl
no_server_breach LaterAcknowledge key what.Unexpected byte n = either_breach (byte % 128 == 0) (Some (Form key)) None refl refl
no_server_breach LaterData key what.Unexpected byte n = either_breach (byte % 128 == 0) (Some (Form key)) None refl refl
no_server_breach newest key w byte n = refl

no_keyed : (newest : Newest) (of : Option Key) (w : What) (byte : ℕ) → is_again w ≡ false → of_toggles (breach_finding (keyed_breach newest Server of w byte)) ≡ []
no_keyed newest (Some key) w byte n = no_server_breach newest key w byte n
no_keyed newest None w byte n = refl

client_breach : (newest : Option Newest) (says : Says) (frame : FrameContent) → of_toggles (breach_finding (breach_at newest Client says frame)) ≡ []
unfolding breach_at
client_breach None says frame = refl
client_breach (Some newest) says frame = by says.ended
  where
    by : (o : Option Ended) → of_toggles (breach_finding (breach_at (Some newest) Client (record says { ended = o }) frame)) ≡ []
    by None = refl
    by (Some e) = no_end newest frame e e.direction e.ending

server_breach_none : (newest : Option Newest) (says : Says) (frame : FrameContent) → (newest ≡ None) ⊎ (is_again says.what ≡ false) → of_toggles (breach_finding (breach_at newest Server says frame)) ≡ []
unfolding breach_at
server_breach_none None says frame h = refl
server_breach_none (Some newest) says frame (inl none) = absurd (cc)
server_breach_none (Some newest) says frame (inr n) = by says.ended
  where
    by : (o : Option Ended) → of_toggles (breach_finding (breach_at (Some newest) Server (record says { ended = o }) frame)) ≡ []
    by None = no_keyed newest says.of says.what _ n
    by (Some e) = no_end newest frame e e.direction e.ending

-- no transfer is known, or the frame isn't one that came before
abbrev IsOnce : ℕ → Dialogue → List ℕ → Type 0
IsOnce micros d bytes = (d.newest ≡ None) ⊎ (is_again (reads d.channel micros Server bytes).says.what ≡ false)

no_breach : (answer started : ℕ) (d : Dialogue) (micros : ℕ) (side : Side) (frame : FrameContent) → (side ≡ Client) ⊎ IsOnce micros d frame.bytes → of_toggles (breach_finding (exchange_in answer started d micros side frame).breach) ≡ []
unfolding exchange_in
no_breach answer started d micros Client frame h = client_breach d.newest (followed d.channel micros Client frame.bytes).says frame
no_breach answer started d micros Server frame (inl client) = absurd (cc)
no_breach answer started d micros Server frame (inr (inl none)) = server_breach_none d.newest (followed d.channel micros Server frame.bytes).says frame (inl none)
no_breach answer started d micros Server frame (inr (inr once)) = server_breach_none d.newest (followed d.channel micros Server frame.bytes).says frame (inr (ap is_again (what_is d.channel micros Server frame.bytes) ∙ once))

none_found : (subject : Subject) (rows : List Row) (p : Progress) (micros : ℕ) (side : Side) (frame : FrameContent) → (side ≡ Client) ⊎ IsOnce micros p.dialogue frame.bytes
    → toggle_differences (Sdo side frame) (findings_in subject rows p micros (Sdo side frame)) ≡ []
none_found subject rows p micros Server frame h = server_found of_toggles refl no_toggle subject rows p micros frame (λ c. no_breach subject.limits.answer p.started p.dialogue micros Server frame h)
none_found subject rows p micros Client frame h = client_found of_toggles refl no_toggle subject rows p micros frame (λ c. no_breach subject.limits.answer p.started p.dialogue micros Client frame h)

-- ---- whether a transfer is known after a frame

none_stays : (certain : Bool) (w : What) (frame : FrameContent) → newest_heard certain Server w frame None ≡ None
unfolding newest_with newest_after
none_stays true what.Initiate frame = refl
none_stays false what.Initiate frame = refl
none_stays certain what.Part frame = refl
none_stays certain (what.Segment number) frame = refl
none_stays certain (what.OutOfSequence number awaited) frame = refl
none_stays certain _ frame = refl

none_after : (certain : Bool) (w : What) (frame : FrameContent) (newest : Option Newest) → newest ≡ None → newest_heard certain Server w frame newest ≡ None
none_after certain w frame newest none = subst (λ n. newest_heard certain Server w frame n ≡ None) (sym none) (none_stays certain w frame)

none_comes : (certain : Bool) (w : What) (frame : FrameContent) (newest : Option Newest) → is_kept w ≡ false → newest_heard certain Client w frame newest ≡ None
unfolding newest_with newest_after
none_comes certain what.Initiate frame newest n = absurd (false≢true (sym n))
none_comes certain what.Part frame newest n = absurd (false≢true (sym n))
none_comes certain (what.Segment number) frame newest n = absurd (false≢true (sym n))
none_comes certain (what.OutOfSequence number awaited) frame newest n = absurd (false≢true (sym n))
none_comes certain _ frame newest n = refl

pub newest_stays : (answer started : ℕ) (d : Dialogue) (micros : ℕ) (frame : FrameContent) → d.newest ≡ None → (dialogue_heard answer started d micros Server frame).newest ≡ None
unfolding dialogue_heard
newest_stays answer started d micros frame none = none_after _ (followed d.channel micros Server frame.bytes).says.what frame d.newest none

pub newest_gone : (answer started : ℕ) (d : Dialogue) (micros : ℕ) (frame : FrameContent) → is_kept (reads d.channel micros Client frame.bytes).says.what ≡ false → (dialogue_heard answer started d micros Client frame).newest ≡ None
unfolding dialogue_heard
newest_gone answer started d micros frame n = none_comes _ (followed d.channel micros Client frame.bytes).says.what frame d.newest (ap is_kept (what_is d.channel micros Client frame.bytes) ∙ n)

-- ---- frames one after another

pub sdo_after : (subject : Subject) (p : Progress) (micros : ℕ) (side : Side) (frame : FrameContent) (After : Option ℕ → Dialogue → Type 0) → After p.newest (left_open side (may_miss_end p.nmt micros frame) (dialogue_heard subject.limits.answer p.started p.dialogue micros side frame))
    → After (after_frame subject p micros (Sdo side frame)).newest (after_frame subject p micros (Sdo side frame)).dialogue
unfolding channel_heard exchange_noted late_noted
sdo_after subject p micros Server frame After h = h
sdo_after subject p micros Client frame After h = h

sdo_run : (subject : Subject) (rows : List Row) (micros : ℕ) (p : Progress) (frame : FrameContent) (later : List FrameContent) (side : Side) (Next : Dialogue → Type 0) (after : Progress → Type 0) → data_kind subject.node frame ≡ Sdo side frame
    → (side ≡ Client) ⊎ IsOnce micros (begun subject p micros).dialogue frame.bytes → Next (left_open side (may_miss_end (begun subject p micros).nmt micros frame) (dialogue_heard subject.limits.answer (begun subject p micros).started (begun subject p micros).dialogue micros side frame))
    → ((q : Progress) → q.newest ≡ Some micros → Next q.dialogue → AllRun toggle_differences subject rows micros q later after)
    → AllRun toggle_differences subject rows micros p (frame ∷ later) after
unfolding findings_at progress_with
sdo_run subject rows micros p frame later side Next after is h next rest =
    let q : Progress = begun subject p micros in
    let Both : Option ℕ → Dialogue → Type 0 = λ newest d. (newest ≡ Some micros) × Next d in
    let both : Both (after_frame subject q micros (Sdo side frame)).newest (after_frame subject q micros (Sdo side frame)).dialogue = sdo_after subject q micros side frame Both (begun_newest subject p micros, next) in
    subst (λ kind. (toggle_differences kind (findings_in subject rows (begun subject p micros) micros kind) ≡ []) × AllRun toggle_differences subject rows micros (after_frame subject (begun subject p micros) micros kind) later after) (sym is)
    (none_found subject rows q micros side frame h, rest (after_frame subject q micros (Sdo side frame)) both.0 both.1)

abbrev Any : Progress → Type 0
Any q = Unit {0}

-- no transfer is known, or it is in blocks, or none is open
abbrev pub Quiet : Dialogue → Type 0
Quiet d = (d.newest ≡ None) ⊎ AreBlocks d.channel.transfer

quiet_once : (d : Dialogue) (micros : ℕ) (bytes : List ℕ) → Quiet d → IsOnce micros d bytes
quiet_once d micros bytes (inl none) = inl none
quiet_once d micros bytes (inr b) = inr (blocks_once d.channel.heard d.channel.transfer (reading_of d.channel.transfer Server micros bytes) micros Server bytes (server_no_begin d.channel.transfer micros bytes) b).once

quiet_next : (answer started : ℕ) (d : Dialogue) (micros : ℕ) (frame : FrameContent) → Quiet d → Quiet (dialogue_heard answer started d micros Server frame)
quiet_next answer started d micros frame (inl none) = inl (newest_stays answer started d micros frame none)
quiet_next answer started d micros frame (inr b) =
    inr (subst (λ (f : Following). AreBlocks f.transfer) (sym (channel_is answer started d micros Server frame))
    (blocks_once d.channel.heard d.channel.transfer (reading_of d.channel.transfer Server micros frame.bytes) micros Server frame.bytes (server_no_begin d.channel.transfer micros frame.bytes) b).blocks)

quiet_run : (subject : Subject) (rows : List Row) (micros : ℕ) (answers : List Answer) (q : Progress) → q.newest ≡ Some micros → Quiet q.dialogue → AllRun toggle_differences subject rows micros q (frames_on (0x580 + subject.node) answers) Any
quiet_run subject rows micros [] q now h = tt
quiet_run subject rows micros (answer ∷ later) q now h =
    let same : Same q (begun subject q micros) micros = begun_same subject q micros now in
    let frame : FrameContent = record { id = 0x580 + subject.node; bytes = answer_bytes answer } in
    let here : Quiet (begun subject q micros).dialogue = subst Quiet (sym same.dialogue) h in
    sdo_run subject rows micros q frame (frames_on (0x580 + subject.node) later) Server Quiet Any (answer_kind subject.node (answer_bytes answer)) (inr (quiet_once (begun subject q micros).dialogue micros (answer_bytes answer) here))
    (quiet_next subject.limits.answer (begun subject q micros).started (begun subject q micros).dialogue micros frame here) (λ x n next. quiet_run subject rows micros later x n next)

-- one answer
one_run : (subject : Subject) (rows : List Row) (micros : ℕ) (answer : Answer) (q : Progress) → IsOnce micros (begun subject q micros).dialogue (answer_bytes answer)
    → AllRun toggle_differences subject rows micros q (frames_on (0x580 + subject.node) (answer ∷ [])) Any
one_run subject rows micros answer q h =
    sdo_run subject rows micros q (record { id = 0x580 + subject.node; bytes = answer_bytes answer }) [] Server (λ d. Unit {0}) Any (answer_kind subject.node (answer_bytes answer)) (inr h) tt (λ x n next. tt)

-- after a frame at the same time
one_now : (subject : Subject) (rows : List Row) (micros : ℕ) (answer : Answer) (q : Progress) → q.newest ≡ Some micros → is_again (reads q.dialogue.channel micros Server (answer_bytes answer)).says.what ≡ false
    → AllRun toggle_differences subject rows micros q (frames_on (0x580 + subject.node) (answer ∷ [])) Any
one_now subject rows micros answer q now h =
    let same : Same q (begun subject q micros) micros = begun_same subject q micros now in
    one_run subject rows micros answer q (inr (subst (λ (d : Dialogue). is_again (reads d.channel micros Server (answer_bytes answer)).says.what ≡ false) (sym same.dialogue) h))

-- an abort
abort_once : (heard : Bool) (current : Option Transfer) (reading : Reading) (micros : ℕ) (bytes : List ℕ) → is_abort_reading reading ≡ true → is_again (follows_by heard current reading micros Server bytes).says.what ≡ false
abort_once true None (Abort code) micros bytes h = refl
abort_once false None (Abort code) micros bytes h = refl
abort_once heard (Some t) (Abort code) micros bytes h = refl
abort_once heard current _ micros bytes h = absurd (false≢true h)

abort_run : (subject : Subject) (rows : List Row) (micros : ℕ) (key : Key) (code : ℕ) (q : Progress) → AllRun toggle_differences subject rows micros q (frames_on (0x580 + subject.node) (aborted key code)) Any
abort_run subject rows micros key code q =
    let d : Dialogue = (begun subject q micros).dialogue in
    one_run subject rows micros (Replied (Refuse key (record { 0 = code }))) q (inr (abort_once d.channel.heard d.channel.transfer (reading_of d.channel.transfer Server micros (answer_bytes (Replied (Refuse key (record { 0 = code }))))) micros (answer_bytes (Replied (Refuse key (record { 0 = code })))) (abort_is d.channel.transfer micros key code)))

unless_run : (subject : Subject) (rows : List Row) (micros : ℕ) (refusal : Option ℕ) (key : Key) (answers : List Answer) (q : Progress) → AllRun toggle_differences subject rows micros q (frames_on (0x580 + subject.node) answers) Any
    → AllRun toggle_differences subject rows micros q (frames_on (0x580 + subject.node) (unless_refused refusal key answers)) Any
unless_run subject rows micros None key answers q h = h
unless_run subject rows micros (Some code) key answers q h = abort_run subject rows micros key code q

-- ---- the answers to a request

stray_once : (heard : Bool) (reading : Reading) (micros : ℕ) (bytes : List ℕ) → is_begin reading ≡ false → is_again (follows_by heard None reading micros Server bytes).says.what ≡ false
stray_once heard reading micros bytes n = (blocks_once heard None reading micros Server bytes n tt).once

outside_blocks : (stage : Progressed) → in_blocks stage ≡ false → is_inside stage ≡ false
outside_blocks (SubBlock last) h = absurd (false≢true (sym h))
outside_blocks _ h = refl

server_plain : (t : Transfer) (micros : ℕ) (bytes : List ℕ) → in_blocks t.stage ≡ false → reading_of (Some t) Server micros bytes ≡ response_reading (response_in bytes)
server_plain t micros bytes out = rw (none_of_server t.stage t.direction t.protocol (outside_blocks t.stage out)) refl

response_again : (heard : Bool) (t : Transfer) (response : SdoResponse) (micros : ℕ) (bytes : List ℕ) → is_again (response_turn t response bytes).what ≡ false → is_again (follows_by heard (Some t) (Response response) micros Server bytes).says.what ≡ false
response_again heard t response micros bytes h = ap is_again (turn_what (confirmed_with (response_turn t response bytes).transfer.stage) heard (response_turn t response bytes).what (after t (response_turn t response bytes)) micros Server) ∙ h

-- a response that is read so where no transfer in blocks is open
module _ (following : Following) (micros : ℕ) (response : SdoResponse) (bytes : List ℕ) (read : response_reading (response_in bytes) ≡ Response response) where
  in_state : (o : Option Transfer) → ((t : Transfer) → o ≡ Some t → in_blocks t.stage ≡ false → is_again (response_turn t response bytes).what ≡ false)
      → is_again (follows_by following.heard o (reading_of o Server micros bytes) micros Server bytes).says.what ≡ false
  in_state None h = stray_once following.heard (reading_of None Server micros bytes) micros bytes (server_no_begin None micros bytes)
  in_state (Some t) h = if_blocks (in_blocks t.stage) refl
    where
      if_blocks : (b : Bool) → in_blocks t.stage ≡ b → is_again (follows_by following.heard (Some t) (reading_of (Some t) Server micros bytes) micros Server bytes).says.what ≡ false
      if_blocks true b = (blocks_once following.heard (Some t) (reading_of (Some t) Server micros bytes) micros Server bytes (server_no_begin (Some t) micros bytes) b).once
      if_blocks false out =
          subst (λ r. is_again (follows_by following.heard (Some t) r micros Server bytes).says.what ≡ false) (sym (server_plain t micros bytes out ∙ read))
          (response_again following.heard t response micros bytes (h t refl out))

-- an acknowledge, whatever is open
acknowledge_once : (following : Following) (micros sequence : ℕ) → is_again (reads following micros Server (response_bytes (BlockDownloadAcknowledge sequence 127))).says.what ≡ false
acknowledge_once following micros sequence =
    in_state following micros (BlockDownloadAcknowledge sequence 127) (response_bytes (BlockDownloadAcknowledge sequence 127)) (ap response_reading (acknowledged_read sequence 127)) following.transfer
    (λ t is out. acknowledged_once t (is_download t.direction) sequence 127)

-- the segment that was sent is confirmed, and the one that was asked for comes
at_stage : (o : Option Transfer) (t : Transfer) (stage : Progressed) → o ≡ Some t → IfSome o (λ u. u.stage ≡ stage) → t.stage ≡ stage
at_stage o t stage is h = subst (λ x. IfSome x (λ u. u.stage ≡ stage)) is h

done_once : (following : Following) (micros : ℕ) (toggle last : Bool) → IfSome following.transfer (λ u. u.stage ≡ DownloadSent toggle last) → is_again (reads following micros Server (response_bytes (DownloadSegmentDone toggle))).says.what ≡ false
done_once following micros toggle last h =
    in_state following micros (DownloadSegmentDone toggle) (response_bytes (DownloadSegmentDone toggle)) (ap response_reading (segment_done_read toggle)) following.transfer
    (λ t is out. rw (at_stage following.transfer t (DownloadSent toggle last) is h, same_toggle toggle) refl)

comes_once : (following : Following) (micros : ℕ) (toggle last : Bool) (items : List ℕ) → length items ≤ 7 → IfSome following.transfer (λ u. u.stage ≡ UploadAsked toggle)
    → is_again (reads following micros Server (response_bytes (UploadSegment toggle (record { items = items }) last))).says.what ≡ false
comes_once following micros toggle last items few h =
    in_state following micros (UploadSegment toggle (record { items = items }) last) (response_bytes (UploadSegment toggle (record { items = items }) last)) (ap response_reading (segment_sent_read toggle items last few)) following.transfer
    (λ t is out. rw (at_stage following.transfer t (UploadAsked toggle) is h, same_toggle toggle) refl)

-- the answer to initiate, where it is awaited
initiated_once : (following : Following) (micros : ℕ) (bytes : List ℕ) → IfSome following.transfer (λ u. u.stage ≡ Initiated) → is_again (reads following micros Server bytes).says.what ≡ false
initiated_once following micros bytes h = by following.transfer h
  where
    by : (o : Option Transfer) → IfSome o (λ u. u.stage ≡ Initiated) → is_again (follows_by following.heard o (reading_of o Server micros bytes) micros Server bytes).says.what ≡ false
    by None h = stray_once following.heard (reading_of None Server micros bytes) micros bytes (server_no_begin None micros bytes)
    by (Some t) h = first_once following.heard t (reading_of (Some t) Server micros bytes) micros bytes (server_no_begin (Some t) micros bytes) (server_no_request (Some t) micros bytes) h

-- after a request: what explain awaits of the answers to it
pub data Ready (r : Option SdoRequest) (d : Dialogue) : Type 0 where
  quiet : Quiet d → Ready r d
  awaits_first : initiates r ≡ true → IfSome d.channel.transfer (λ u. u.stage ≡ Initiated) → Ready r d
  awaits_done : (toggle last : Bool) (items : ArrayVec ℕ) → r ≡ Some (DownloadSegment toggle items last) → IfSome d.channel.transfer (λ u. u.stage ≡ DownloadSent toggle last) → Ready r d
  awaits_next : (toggle : Bool) → r ≡ Some (NextSegment toggle) → IfSome d.channel.transfer (λ u. u.stage ≡ UploadAsked toggle) → Ready r d

-- whichever frames of the client the device may not have taken
ready_open : (r : Option SdoRequest) (misses : Bool) (d : Dialogue) → Ready r d → Ready r (left_open Client misses d)
ready_open r misses d (quiet h) = quiet h
ready_open r misses d (awaits_first i h) = awaits_first i h
ready_open r misses d (awaits_done toggle last items is h) = awaits_done toggle last items is h
ready_open r misses d (awaits_next toggle is h) = awaits_next toggle is h

pub ready : (answer started : ℕ) (d : Dialogue) (micros : ℕ) (frame : FrameContent) → Ready (request_in frame.bytes) (dialogue_heard answer started d micros Client frame)
ready answer started d micros frame = by (client_heard d.channel micros frame.bytes)
  where
    same : (dialogue_heard answer started d micros Client frame).channel ≡ (reads d.channel micros Client frame.bytes).next
    same = channel_is answer started d micros Client frame

    by : Heard (request_in frame.bytes) (reads d.channel micros Client frame.bytes).says.what (reads d.channel micros Client frame.bytes).next.transfer → Ready (request_in frame.bytes) (dialogue_heard answer started d micros Client frame)
    by (odd_frame n) = quiet (inl (newest_gone answer started d micros frame n))
    by (in_turn b) = quiet (inr (subst (λ (f : Following). AreBlocks f.transfer) (sym same) b))
    by (begins_one i h) = awaits_first i (subst (λ (f : Following). IfSome f.transfer (λ u. u.stage ≡ Initiated)) (sym same) h)
    by (sends_one toggle last items is h) = awaits_done toggle last items is (subst (λ (f : Following). IfSome f.transfer (λ u. u.stage ≡ DownloadSent toggle last)) (sym same) h)
    by (asks_one toggle is h) = awaits_next toggle is (subst (λ (f : Following). IfSome f.transfer (λ u. u.stage ≡ UploadAsked toggle)) (sym same) h)

module _ (subject : Subject) (rows : List Row) (micros : ℕ) (d : Description) (contents : Contents) (q : Progress) (now : q.newest ≡ Some micros) where
  abbrev Runs : List Answer → Type 0
  Runs answers = AllRun toggle_differences subject rows micros q (frames_on (0x580 + subject.node) answers) Any

  -- to an initiate request
  first_run : (answer : Answer) → IfSome q.dialogue.channel.transfer (λ u. u.stage ≡ Initiated) → Runs (answer ∷ [])
  first_run answer h = one_now subject rows micros answer q now (initiated_once q.dialogue.channel micros (answer_bytes answer) h)

  upload_run : (key : Key) (value : List ℕ) (short : Bool) → IfSome q.dialogue.channel.transfer (λ u. u.stage ≡ Initiated)
      → Runs (if short then Replied (UploadExpedited key (Indicated (record { items = value }))) ∷ [] else Replied (UploadInitiated key (Some (length value))) ∷ [])
  upload_run key value true h = first_run (Replied (UploadExpedited key (Indicated (record { items = value })))) h
  upload_run key value false h = first_run (Replied (UploadInitiated key (Some (length value)))) h

  initiate_run : (current : Option OpenTransfer) (r : Option SdoRequest) → initiates r ≡ true → IfSome q.dialogue.channel.transfer (λ u. u.stage ≡ Initiated) → Runs (request_answers d contents current r)
  initiate_run current (Some (DownloadExpedited key value)) i h = unless_run subject rows micros (completion_refusal d contents key None (expedited_part d.rows key value)) key (Replied (DownloadDone key) ∷ []) q (first_run (Replied (DownloadDone key)) h)
  initiate_run current (Some (DownloadInitiate key size)) i h = unless_run subject rows micros (initiate_refusal d key size) key (Replied (DownloadDone key) ∷ []) q (first_run (Replied (DownloadDone key)) h)
  initiate_run current (Some (UploadInitiate key)) i h =
      unless_run subject rows micros (reading_refusal d contents key) key (upload_initiated key (value_at contents key)) q
      (upload_run key (value_at contents key) (nat_le 1 (length (value_at contents key)) && nat_le (length (value_at contents key)) 4) h)
  initiate_run current (Some (BlockUploadInitiate key size threshold)) i h =
      unless_run subject rows micros (first_of (reading_refusal d contents key) (block_size_refusal size)) key (Replied (BlockUploadInitiated key (Some (length (value_at contents key)))) ∷ []) q
      (first_run (Replied (BlockUploadInitiated key (Some (length (value_at contents key))))) h)
  initiate_run current (Some (BlockDownloadInitiate key size)) i h = unless_run subject rows micros (initiate_refusal d key size) key (Replied (BlockDownloadInitiated key 127) ∷ []) q (first_run (Replied (BlockDownloadInitiated key 127)) h)
  initiate_run current _ i h = absurd (false≢true i)

  -- to a segment
  segment_run : (o : OpenTransfer) (stage : Stage) (toggle last : Bool) (items : List ℕ) → IfSome q.dialogue.channel.transfer (λ u. u.stage ≡ DownloadSent toggle last) → Runs (segment_answers d contents o stage toggle items last)
  segment_run o (Receiving indicated expected) toggle last items h =
      unless_run subject rows micros (segment_refusal d contents o indicated expected toggle items last) o.key (Replied (DownloadSegmentDone toggle) ∷ []) q
      (one_now subject rows micros (Replied (DownloadSegmentDone toggle)) q now (done_once q.dialogue.channel micros toggle last h))
  segment_run o _ toggle last items h = abort_run subject rows micros o.key unknown_command q

  done_run : (current : Option OpenTransfer) (toggle last : Bool) (items : ArrayVec ℕ) → IfSome q.dialogue.channel.transfer (λ u. u.stage ≡ DownloadSent toggle last) → Runs (request_answers d contents current (Some (DownloadSegment toggle items last)))
  done_run None toggle last items h = abort_run subject rows micros (record { index = 0; sub = 0 }) unknown_command q
  done_run (Some o) toggle last items h = segment_run o o.stage toggle last items.items h

  -- to the request of one
  next_run : (o : OpenTransfer) (stage : Stage) (toggle : Bool) → IfSome q.dialogue.channel.transfer (λ u. u.stage ≡ UploadAsked toggle) → Runs (upload_answers o stage toggle)
  next_run o (Uploading sent) toggle h =
      unless_run subject rows micros (toggle_refusal toggle (is_odd sent)) o.key (Replied (UploadSegment toggle (record { items = part_after sent o.bytes }) (is_last_after sent o.bytes)) ∷ []) q
      (one_now subject rows micros (Replied (UploadSegment toggle (record { items = part_after sent o.bytes }) (is_last_after sent o.bytes))) q now (comes_once q.dialogue.channel micros toggle (is_last_after sent o.bytes) (part_after sent o.bytes) (part_small sent o.bytes) h))
  next_run o _ toggle h = abort_run subject rows micros o.key unknown_command q

  comes_run : (current : Option OpenTransfer) (toggle : Bool) → IfSome q.dialogue.channel.transfer (λ u. u.stage ≡ UploadAsked toggle) → Runs (request_answers d contents current (Some (NextSegment toggle)))
  comes_run None toggle h = abort_run subject rows micros (record { index = 0; sub = 0 }) unknown_command q
  comes_run (Some o) toggle h = next_run o o.stage toggle h

  -- inside a sub-block of a download
  inside_run : (o : OpenTransfer) (stage : Stage) (frame : List ℕ) → Runs (frame_answers d.rows o stage frame)
  inside_run o (InSubBlock indicated taken) frame = by_end (ends_sub_block frame)
    where
      by_end : (ends : Bool) → Runs (if ends then unless_refused (sub_block_refusal d.rows o taken frame) o.key (Replied (BlockDownloadAcknowledge (taken_with taken frame) 127) ∷ []) else [])
      by_end true =
          unless_run subject rows micros (sub_block_refusal d.rows o taken frame) o.key (Replied (BlockDownloadAcknowledge (taken_with taken frame) 127) ∷ []) q
          (one_now subject rows micros (Replied (BlockDownloadAcknowledge (taken_with taken frame) 127)) q now (acknowledge_once q.dialogue.channel micros (taken_with taken frame)))
      by_end false = tt
  inside_run o _ frame = abort_run subject rows micros o.key unknown_command q

  by_ready : (current : Option OpenTransfer) (r : Option SdoRequest) → Ready r q.dialogue → Runs (request_answers d contents current r)
  by_ready current r (quiet h) = quiet_run subject rows micros (request_answers d contents current r) q now h
  by_ready current r (awaits_first i h) = initiate_run current r i h
  by_ready current r (awaits_done toggle last items is h) = subst (λ x. Runs (request_answers d contents current x)) (sym is) (done_run current toggle last items h)
  by_ready current r (awaits_next toggle is h) = subst (λ x. Runs (request_answers d contents current x)) (sym is) (comes_run current toggle h)

  answers_run : (current : Option OpenTransfer) (frame : List ℕ) → Ready (request_in frame) q.dialogue → Runs (answers_to d contents current frame)
  answers_run None frame h = by_ready None (request_in frame) h
  answers_run (Some o) frame h = by (is_in_sub_block (Some o)) refl
    where
      by : (b : Bool) → is_in_sub_block (Some o) ≡ b → Runs (if b then frame_answers d.rows o o.stage frame else request_answers d contents (Some o) (request_in frame))
      by true is = inside_run o o.stage frame
      by false is = by_ready (Some o) (request_in frame) h

-- a request, and its answers
request_runs : (subject : Subject) (rows : List Row) (micros : ℕ) (d : Description) (contents : Contents) (log : Log) (frame : FrameContent) (p : Progress) → frame.id ≡ 0x600 + subject.node
    → AllRun toggle_differences subject rows micros p (frame ∷ []) (λ q. AllRun toggle_differences subject rows micros q (frames_on (0x580 + subject.node) (reply_to d contents log frame.bytes)) Any)
request_runs subject rows micros d contents log frame p id =
    sdo_run subject rows micros p frame [] Client (Ready (request_in frame.bytes)) _ (request_kind subject.node frame id) (inl refl)
    (ready_open (request_in frame.bytes) _ _ (ready subject.limits.answer (begun subject p micros).started (begun subject p micros).dialogue micros frame)) (λ q n next. answers_run subject rows micros d contents q n (opened_after log) frame.bytes next)

-- one that isn't answered
ignored_runs : (subject : Subject) (rows : List Row) (micros : ℕ) (frame : FrameContent) (p : Progress) → frame.id ≡ 0x600 + subject.node → AllRun toggle_differences subject rows micros p (frame ∷ []) Any
ignored_runs subject rows micros frame p id = sdo_run subject rows micros p frame [] Client (λ d. Unit {0}) Any (request_kind subject.node frame id) (inl refl) tt (λ q n next. tt)

-- ---- an input

no_other : (kind : FrameKind) (found : Findings) → is_sdo kind ≡ false → toggle_differences kind found ≡ []
no_other (Sdo side frame) found off = absurd (false≢true (sym off))
no_other _ found off = refl

other_runs : (subject : Subject) (rows : List Row) (micros : ℕ) (frames : List FrameContent) (p : Progress) → AreOther subject.node frames → AllRun toggle_differences subject rows micros p frames Any
other_runs subject rows micros frames p other = others_run toggle_differences no_other (λ o. Unit {0}) tt subject rows micros frames p other tt

mapped : (subject : Subject) (rows : List Row) (micros : ℕ) (frames : List FrameContent) (p : Progress) (x y : Progress → Type 0) → ((q : Progress) → x q → y q) → AllRun toggle_differences subject rows micros p frames x
    → AllRun toggle_differences subject rows micros p frames y
mapped subject rows micros [] p x y f h = f p h
mapped subject rows micros (frame ∷ later) p x y f h = (h.0, mapped subject rows micros later _ x y f h.1)

tick_runs : (k : Constants) (subject : Subject) (rows : List Row) (micros : ℕ) (history : History) → AllByRecursion (IsNumbered k.description.node) (channels k)
    → (q : Progress) → AllRun toggle_differences (of_device k subject) rows micros q (frames_at (moment k history Ticked).timed_out) Any
tick_runs k subject rows micros history all = runs_by (moment k history Ticked).timed_out (timed_out Runs k history Ticked each)
  where
    Runs : ChannelEvent → Type 0
    Runs e = (q : Progress) → AllRun toggle_differences (of_device k subject) rows micros q (frames_on e.channel.response e.responses) Any

    runs_by : (event : Option ChannelEvent) → IfSome event Runs → (q : Progress) → AllRun toggle_differences (of_device k subject) rows micros q (frames_at event) Any
    runs_by None h q = tt
    runs_by (Some e) h q = h q

    one : (c : ChannelSettings) → IsNumbered k.description.node c → Runs (time_out_on c (Elapsed ∷ channel_logs history c.number))
    one c n = by (0 == c.number) refl
      where
        by : (b : Bool) → (0 == c.number) ≡ b → Runs (time_out_on c (Elapsed ∷ channel_logs history c.number))
        by true is = λ q.
            subst (λ i. AllRun toggle_differences (of_device k subject) rows micros q (frames_on i (time_out_reply (Elapsed ∷ channel_logs history c.number))) Any) (sym (n.first (zero_is c.number is)).1)
            (abort_run (of_device k subject) rows micros (open_key (opened_after (Elapsed ∷ channel_logs history c.number))) timed_out_code q)
        by false is = λ q.
            other_runs (of_device k subject) rows micros (frames_on c.response (time_out_reply (Elapsed ∷ channel_logs history c.number))) q
            (answers_other k.description.node c.response (time_out_reply (Elapsed ∷ channel_logs history c.number)) (n.other (not_zero c.number is)))

    each : IfSome (expired_at k history) (λ c. Runs (time_out_on c (Elapsed ∷ channel_logs history c.number)))
    each =
        some_map (expired_at k history) (λ c. IsNumbered k.description.node c × (is_time_over c.time (Elapsed ∷ channel_logs history c.number) ≡ true)) (λ c. Runs (time_out_on c (Elapsed ∷ channel_logs history c.number)))
        (λ c found. one c found.0)
        (found_with (IsNumbered k.description.node) (λ c. is_time_over c.time (Elapsed ∷ channel_logs history c.number)) (channels k) all)

none_runs : (event : Option ChannelEvent) (subject : Subject) (rows : List Row) (micros : ℕ) (q : Progress) → event ≡ None → AllRun toggle_differences subject rows micros q (frames_at event) Any
none_runs event subject rows micros q none = subst (λ e. AllRun toggle_differences subject rows micros q (frames_at e) Any) (sym none) tt

time_runs : (k : Constants) (subject : Subject) (rows : List Row) (micros : ℕ) (before : Inputs) (input : InputView) → AllByRecursion (IsNumbered k.description.node) (channels k)
    → (q : Progress) → AllRun toggle_differences (of_device k subject) rows micros q (frames_at (moment k (moments k before) input).timed_out) Any
time_runs k subject rows micros before Ticked all q = tick_runs k subject rows micros (moments k before) all q
time_runs k subject rows micros before (Framed frame) all q = none_runs (moment k (moments k before) (Framed frame)).timed_out (of_device k subject) rows micros q (none_at_frame k (moments k before) frame)
time_runs k subject rows micros before (Applied event) all q = none_runs (moment k (moments k before) (Applied event)).timed_out (of_device k subject) rows micros q (none_at_event k (moments k before) event)

pub record Given (k : Constants) (before : Inputs) (input : InputView) : Type 0 where
  pub answers : IsElsewhere (0x580 + k.description.node) input
  pub other : SendsOther k (moment k (moments k before) input)
  pub sync : is_sync_id (contents_of k before) (0x600 + k.description.node) ≡ false
  pub channels : AllByRecursion (IsNumbered k.description.node) (channels k)

module _ (k : Constants) (subject : Subject) (rows : List Row) (micros : ℕ) (before : Inputs) where
  abbrev First : InputView → Progress → Type 0
  First input p =
      AllRun toggle_differences (of_device k subject) rows micros p (frame_of input) (λ q. AllRun toggle_differences (of_device k subject) rows micros q (frames_at (moment k (moments k before) input).exchange) Any)

  unanswered : (input : InputView) (p : Progress) → (moment k (moments k before) input).exchange ≡ None → AllRun toggle_differences (of_device k subject) rows micros p (frame_of input) Any → First input p
  unanswered input p none h =
      mapped (of_device k subject) rows micros (frame_of input) p Any _ (λ q g. none_runs (moment k (moments k before) input).exchange (of_device k subject) rows micros q none) h

  by_request : (frame : FrameContent) (p : Progress) → Given k before (Framed frame) → frame.id ≡ 0x600 + k.description.node → First (Framed frame) p
  by_request frame p g id = by (is_state node.Stopped (state_of k before)) (length frame.bytes == 8) refl refl
    where
      by : (stopped eight : Bool) → is_state node.Stopped (state_of k before) ≡ stopped → (length frame.bytes == 8) ≡ eight → First (Framed frame) p
      by true eight on e = unanswered (Framed frame) p (none_stopped k (moments k before) (Framed frame) on) (ignored_runs (of_device k subject) rows micros frame p id)
      by false false on e = unanswered (Framed frame) p (served_is k (moments k before) frame false e id g.sync on) (ignored_runs (of_device k subject) rows micros frame p id)
      by false true on e =
          subst (λ x. AllRun toggle_differences (of_device k subject) rows micros p (frame ∷ []) (λ q. AllRun toggle_differences (of_device k subject) rows micros q (frames_at x) Any))
          (sym (served_is k (moments k before) frame true e id g.sync on))
          (request_runs (of_device k subject) rows micros k.description (contents_of k before) (channel_logs (moments k before) 0) frame p id)

  first_frames : (input : InputView) (p : Progress) → Given k before input → First input p
  first_frames Ticked p g = tt
  first_frames (Applied event) p g = unanswered (Applied event) p (no_exchange_of_event k (moments k before) event) tt
  first_frames (Framed frame) p g = by (frame.id == 0) (frame.id == 0x600 + k.description.node) refl refl
    where
      by : (command request : Bool) → (frame.id == 0) ≡ command → (frame.id == 0x600 + k.description.node) ≡ request → First (Framed frame) p
      by true request is r = unanswered (Framed frame) p (nmt_exchange k (moments k before) frame is) (other_runs (of_device k subject) rows micros (frame ∷ []) p (nmt_other k subject rows micros before frame is, tt))
      by false true is r = by_request frame p g (eqb-true frame.id (0x600 + k.description.node) r)
      by false false is r =
          let other : IsOther k.description.node frame.id = (g.answers, not_equal frame.id (0x600 + k.description.node) r) in
          mapped (of_device k subject) rows micros (frame ∷ []) p Any _
          (λ q h. other_runs (of_device k subject) rows micros (frames_at (moment k (moments k before) (Framed frame)).exchange) q (only_other k.description.node _ (calm_exchange k (moments k before) frame g.channels other.1)))
          (other_runs (of_device k subject) rows micros (frame ∷ []) p (other, tt))

  input_runs : (input : InputView) (p : Progress) → Given k before input → AllRun toggle_differences (of_device k subject) rows micros p (frame_of input ++ prescribed k before input) Any
  input_runs input p given =
      let s : Subject = of_device k subject in
      let m : Moment = moment k (moments k before) input in
      let a : List FrameContent = frames_at m.exchange in
      let b : List FrameContent = frames_at m.timed_out in
      let c : List FrameContent = emergency_frames m.contents m.emergency in
      let d : List FrameContent = life_frames k.description.node m.life in
      let e : List FrameContent = map (tpdo_frame k.description m.contents) m.due in
      joined toggle_differences s rows micros (frame_of input) (prescribed k before input) p (λ q. AllRun toggle_differences s rows micros q a Any) Any (first_frames input p given)
      (λ q answered. joined toggle_differences s rows micros (a ++ b ++ c ++ d) e q Any Any
      (joined toggle_differences s rows micros (a ++ b ++ c) d q Any Any
      (joined toggle_differences s rows micros (a ++ b) c q Any Any
      (joined toggle_differences s rows micros a b q Any Any answered (λ x g. time_runs k subject rows micros before input given.channels x))
      (λ x g. other_runs s rows micros c x given.other.emergency))
      (λ x g. life_run toggle_differences no_other (λ o. Unit {0}) tt s rows micros m.life x tt))
      (λ x g. other_runs s rows micros e x given.other.tpdos))

-- ---- all inputs

all_none : (k : Constants) (subject : Subject) (rows : List Row) (inputs : List Stamped) (before : Inputs) (p : Progress) → AreElsewhere (0x580 + k.description.node) inputs → AllSendOther k before inputs
    → ((all : Inputs) → is_sync_id (contents_of k all) (0x600 + k.description.node) ≡ false) → AllByRecursion (IsNumbered k.description.node) (channels k)
    → differences_from toggle_differences (of_device k subject) rows p (heard_from k before inputs) ≡ []
all_none k subject rows [] before p answers other sync all = refl
all_none k subject rows (s ∷ later) before p answers other sync all =
    let given : Given k before s.input = record { answers = answers.0; other = other.0; sync = sync before; channels = all } in
    then_none toggle_differences (of_device k subject) rows s.micros (frame_of s.input ++ prescribed k before s.input) (heard_from k (s.input ∷ before) later) p Any
    (input_runs k subject rows s.micros before s.input p given) (λ q g. all_none k subject rows later (s.input ∷ before) q answers.1 other.1 sync all)

of_recording : (k : Constants) (subject : Subject) (rows : List Row) (inputs : List Stamped) → AreElsewhere (0x580 + k.description.node) inputs → AllSendOther k [] inputs
    → ((all : Inputs) → is_sync_id (contents_of k all) (0x600 + k.description.node) ≡ false) → AllByRecursion (IsNumbered k.description.node) (channels k)
    → differences_in toggle_differences (of_device k subject) rows (recording k inputs) ≡ []
of_recording k subject rows [] answers other sync all = refl
of_recording k subject rows (s ∷ later) answers other sync all =
    then_none toggle_differences (of_device k subject) rows s.micros (boot_up k ∷ []) (heard_from k [] (s ∷ later)) (before_recording (of_device k subject)) Any
    (life_run toggle_differences no_other (λ o. Unit {0}) tt (of_device k subject) rows s.micros (Some BootUp) (before_recording (of_device k subject)) tt)
    (λ q g. all_none k subject rows (s ∷ later) [] q answers other sync all)

pub no_toggle_differences : (k : Constants) (subject : Subject) (rows : List Row) (inputs : List Stamped) → subject.node ≡ k.description.node → AreElsewhere (0x580 + k.description.node) inputs → AllSendOther k [] inputs
    → ((all : Inputs) → is_sync_id (contents_of k all) (0x600 + k.description.node) ≡ false) → HaveOtherChannels k → AllByRecursion (λ c. IsAside k.description.node c.response) (channels k)
    → differences_in toggle_differences subject rows (recording k inputs) ≡ []
no_toggle_differences k subject rows inputs is answers other sync others aside =
    subst (λ n. differences_in toggle_differences (record subject { node = n }) rows (recording k inputs) ≡ []) (sym is) (of_recording k subject rows inputs answers other sync (numbered k others aside))
