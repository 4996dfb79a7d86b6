-- A frame of the client on the default channel of a device without block downloads, and the answers to it: nothing is found within the
-- transfer, and explain is as far as the device then, or compare knows no transfer (`Known`).
use Rattle.std.proofs.Common.{◌≡◌, ℕ, ◌+◌, ◌<◌, Bool, true, false, List, [], ◌∷◌, length, Option, Some, None, refl, sym, ap, ◌∙◌, ◌⊎◌, inl, inr, subst}
use Rattle.std.specs.Prelude.{IfSome, is_some}
use Rattle.std.proofs.lemmas.Bool.{false≢true}
use Rattle.co_value.specs.declared.key.Key.{Key}
use Rattle.co_value.specs.Numbers.{AreBytes}
use Rattle.co_frame.specs.FrameContent.{FrameContent}
use Rattle.co_frame.specs.SdoRequests.{request_in}
use Rattle.co_frame.specs.declared.sdo_request.SdoRequest.{SdoRequest}
use Rattle.co_frame.specs.declared.sdo_request.SdoRequest.TheVariants.{DownloadExpedited, DownloadInitiate, Upload as UploadInitiate, BlockUploadInitiate, BlockDownloadInitiate}
use Rattle.co_frame.specs.declared.sdo_response.SdoResponse.TheVariants.{BlockUploadInitiated}
use Rattle.co_dict.specs.Refusals.{first_of}
use Rattle.co_dict.specs.Rows.{Contents}
use Rattle.co_dict.specs.Stores.{Description}
use Rattle.co_sdo.specs.declared.stage.Stage.TheVariants.{BlockUploadInitiated as Begun, BlockUpload, BlockUploadEnded}
use Rattle.co_sdo.specs.Completed.{unless}
use Rattle.co_sdo.specs.Log.{Answer, Exchanged, Log, Response as Replied, frames_on}
use Rattle.co_sdo.specs.Opened.{OpenTransfer, opened_after}
use Rattle.co_sdo.specs.OpenTransfers.{is_initiate as initiates}
use Rattle.co_sdo.specs.Refused.{reading_refusal}
use Rattle.co_sdo.specs.Replies.{block_size_refusal, initiate_answers, reply_to, request_answers, unless_refused}
use Rattle.co_sdo.specs.Steps.{opened_at}
use Rattle.co_sdo.specs.Uploads.{value_at}
use Rattle.co_sdo.proofs.RefusalLemmas.{second_none}
use Rattle.co_sheet.specs.Content.{Row}
use Rattle.conode_explain_transfers.specs.declared.kinds.Side.TheVariants.{Client}
use Rattle.conode_explain_transfers.specs.declared.transfer.Transfer.{Transfer}
use Rattle.conode_explain_transfers.specs.Followed.{Followed, Following}
use Rattle.conode_explain_transfers.specs.Unanswered.{is_next_segment}
use Rattle.conode_explain_laws.specs.Downloads.{is_block_begin}
use Rattle.conode_explain_laws.proofs.Begins.{HasKey, has_key, outside_answers}
use Rattle.conode_explain_laws.proofs.Readings.{Begin, Reading, begun_after, begun_with, follows_by, request_reading}
use Rattle.conode_explain_laws.proofs.UploadStanding.{block_size_small}
use Rattle.conode_explain_laws.proofs.Views.{is_begin}
use Rattle.conode_compare_transfers.specs.declared.dialogue.Dialogue.{Dialogue}
use Rattle.conode_compare_transfers.specs.Dialogues.{dialogue_heard}
use Rattle.conode_compare_rules.specs.declared.kind.FrameKind.TheVariants.{Sdo}
use Rattle.conode_compare_nmt.specs.declared.limits.Subject.{Subject}
use Rattle.conode_compare_rules.specs.declared.progress.Progress.{Progress}
use Rattle.conode_compare_rules.specs.Gaps.{begun}
use Rattle.conode_compare_rules.specs.Progresses.{after_frame}
use Rattle.conode_compare_laws.specs.AnswerFindings.{transfer_differences}
use Rattle.conode_compare_laws.specs.AnswerSenders.{is_block_upload_begin}
use Rattle.conode_compare_laws.proofs.AnswerBreaches.{FineEnd}
use Rattle.conode_compare_laws.proofs.AnswerDevice.{Clean, outside}
use Rattle.conode_compare_laws.proofs.AnswerDialogues.{InitiateHeard, channel_is, client_is, initiate_heard, initiate_open}
use Rattle.conode_compare_laws.proofs.AnswerExchange.{request_kind, small_key}
use Rattle.conode_compare_laws.proofs.AnswerFollowed.{begins_sound, no_begin, reads}
use Rattle.conode_compare_laws.proofs.AnswerOpened.{IsOf, asked_key, exchange_with, of_initiate}
use Rattle.conode_compare_laws.proofs.AnswerSteps.{begun_newest, some_map}
use Rattle.conode_compare_laws.proofs.AnswerToggles.{is_kept}
use Rattle.conode_compare_laws.proofs.AnswerTransferExchange.{HasTied, Initiates, Tied, all_tied, exchange_runs, initiate_runs, later_shape, map_runs}
use Rattle.conode_compare_laws.proofs.AnswerTransferInputs.{ignored_initiate}
use Rattle.conode_compare_laws.proofs.AnswerTransferRuns.{HasShape, Quiet, client_quiet, frame_runs, left_end}
use Rattle.conode_compare_laws.proofs.AnswerTransfers.{Shape}
use Rattle.conode_compare_laws.proofs.AnswerTurns.{Sound, in_blocks}
use Rattle.conode_compare_laws.proofs.Runs.{AllRun}
use Rattle.conode_compare_laws.proofs.UploadAnswers.{AllFine, asks_blocks, begun_fine, has, own_fine}
use Rattle.conode_compare_laws.proofs.UploadKnown.{InStep, Known, Unknown, at_end, begun_so, dropped, known_sound, none_known, step_sound, sub_block, tied, unanswered}
use Rattle.conode_compare_laws.proofs.UploadLogs.{after_the_acknowledge, after_the_begin, after_the_start}
use Rattle.conode_compare_laws.proofs.UploadRequests.{Follows, Heard, first_heard, lasts, later_heard, nothing_odd, odd, over}
use Rattle.conode_compare_laws.proofs.UploadRuns.{Goes, KnownAt, fine_known, goes_runs, odd_later, request_quiet, unknown_later, unknown_runs}
use Rattle.conode_compare_laws.proofs.UploadSteps.{begun_ends, dropped_ends, end_ends, stray_ends, sub_block_ends, unanswered_ends}

-- nothing is found of the transfer that an initiate request ends
begin_fine : (micros : ℕ) (frame : FrameContent) (q : Dialogue) (request : SdoRequest) (t : Transfer) → IfSome q.channel.transfer Sound → request_in frame.bytes ≡ Some request → request_reading (Some request) micros frame.bytes ≡ Begin t
    → FineEnd frame (reads q.channel micros Client frame.bytes).says.ended
begin_fine micros frame q request t s is reading =
    subst (λ (f : Followed). FineEnd frame f.says.ended)
    (sym (client_is q micros frame s ∙ ap (λ r. follows_by q.channel.heard q.channel.transfer (request_reading r micros frame.bytes) micros Client frame.bytes) is
    ∙ ap (λ r. follows_by q.channel.heard q.channel.transfer r micros Client frame.bytes) reading))
    (left_end frame q.channel.transfer micros frame.bytes)

-- where explain has none open, it has none then
passed_by : (heard : Bool) (reading : Reading) (micros : ℕ) (bytes : List ℕ) → is_begin reading ≡ false → (follows_by heard None reading micros Client bytes).next.transfer ≡ None
passed_by heard (Begin new) micros bytes off = absurd (false≢true (sym off))
passed_by heard _ micros bytes off = refl

-- ---- a frame that begins nothing

module _ (subject : Subject) (rows : List Row) (micros : ℕ) (d : Description) (contents : Contents) (log : Log) (frame : FrameContent) (p : Progress) (id : frame.id ≡ 0x600 + subject.node) (clean : Clean log) where
  abbrev later_log : Log
  later_log = Exchanged (exchange_with d contents log frame.bytes) ∷ log

  abbrev Answered : List Answer → Type 0
  Answered answers =
      AllRun transfer_differences subject rows micros p (frame ∷ [])
      (λ q. AllRun transfer_differences subject rows micros q (frames_on (0x580 + subject.node) answers) (KnownAt (Exchanged (exchange_with d contents log frame.bytes) ∷ log)))

  -- the answers are those to a request, outside a sub-block of a download
  outside_of : Answered (request_answers d contents (opened_after log) (request_in frame.bytes)) → Answered (reply_to d contents log frame.bytes)
  outside_of h = subst Answered (sym (outside_answers d contents (opened_after log) frame.bytes (outside log clean))) h

  -- where explain has this transfer, and the channel this one
  open_runs : (n : initiates (request_in frame.bytes) ≡ false) (current : Option OpenTransfer) (o : Option Transfer) → opened_after log ≡ current → (begun subject p micros).dialogue.channel.transfer ≡ o → IfSome o Sound
      → Goes (0x580 + subject.node) micros later_log (request_answers d contents current (request_in frame.bytes)) frame
      (follows_by (begun subject p micros).dialogue.channel.heard o (request_reading (request_in frame.bytes) micros frame.bytes) micros Client frame.bytes)
      → Answered (reply_to d contents log frame.bytes)
  open_runs n current o opens is sound g =
      outside_of (subst (λ c. Answered (request_answers d contents c (request_in frame.bytes))) (sym opens)
      (goes_runs subject rows micros later_log (request_answers d contents current (request_in frame.bytes)) p frame id n o is sound g))

  by_step : (n : initiates (request_in frame.bytes) ≡ false) (t : Transfer) → (begun subject p micros).dialogue.channel.transfer ≡ Some t → InStep log t → Answered (reply_to d contents log frame.bytes)
  by_step n t is (tied h) =
      map_both (exchange_runs t.key subject rows micros d contents log frame p id n (outside log clean)
      (record { newest = begun_newest subject p micros; shape = subst (λ o. IfSome o (Shape t.key)) (sym is) h.shape; of = h.of; clean = clean }))
    where
      map_both : AllRun transfer_differences subject rows micros p (frame ∷ [])
          (λ q. AllRun transfer_differences subject rows micros q (frames_on (0x580 + subject.node) (reply_to d contents log frame.bytes)) (HasTied (Exchanged (exchange_with d contents log frame.bytes) ∷ log)))
          → Answered (reply_to d contents log frame.bytes)
      map_both h =
          map_runs subject rows micros (frame ∷ []) p _ _
          (λ q g. map_runs subject rows micros (frames_on (0x580 + subject.node) (reply_to d contents log frame.bytes)) q (HasTied later_log) (KnownAt later_log)
          (λ x k. inr (some_map x.dialogue.channel.transfer (Tied later_log) (InStep later_log) (λ u y. tied y) k)) g) h
  by_step n t is (begun_so size content h e) =
      open_runs n (Some (record { key = t.key; stage = Begun size; bytes = content })) (Some t) e is (step_sound log t (begun_so size content h e))
      (begun_ends (0x580 + subject.node) micros later_log d contents (begun subject p micros).dialogue.channel.heard t frame size content (request_in frame.bytes) h n
      (λ r. after_the_start d contents log frame.bytes (record { key = t.key; stage = Begun size; bytes = content }) e refl r))
  by_step n t is (sub_block content position sent h e) =
      open_runs n (Some (record { key = t.key; stage = BlockUpload position sent; bytes = content })) (Some t) e is (step_sound log t (sub_block content position sent h e))
      (sub_block_ends (0x580 + subject.node) micros later_log d contents (begun subject p micros).dialogue.channel.heard t frame content position sent (request_in frame.bytes) h n
      (λ sequence size r. after_the_acknowledge d contents log frame.bytes (record { key = t.key; stage = BlockUpload position sent; bytes = content }) sequence size e refl r))
  by_step n t is (at_end content crc up_is s e) =
      open_runs n (Some (record { key = t.key; stage = BlockUploadEnded; bytes = content })) (Some t) e is (step_sound log t (at_end content crc up_is s e))
      (end_ends (0x580 + subject.node) micros later_log d contents (begun subject p micros).dialogue.channel.heard t frame content crc (request_in frame.bytes) up_is s n)
  by_step n t is (dropped up_is b e) =
      open_runs n None (Some t) e is (step_sound log t (dropped up_is b e))
      (dropped_ends (0x580 + subject.node) micros later_log d contents (begun subject p micros).dialogue.channel.heard t frame (request_in frame.bytes) up_is b n)
  by_step n t is (unanswered s i e) =
      open_runs n None (Some t) e is s
      (unanswered_ends (0x580 + subject.node) micros later_log d contents (begun subject p micros).dialogue.channel.heard t frame (request_in frame.bytes) i n)

  later_runs : initiates (request_in frame.bytes) ≡ false → Known log (begun subject p micros).dialogue → Answered (reply_to d contents log frame.bytes)
  later_runs n (inl u) = unknown_runs subject rows micros later_log (reply_to d contents log frame.bytes) p frame id n u
  later_runs n (inr h) = by (begun subject p micros).dialogue.channel.transfer refl h
    where
      by : (o : Option Transfer) → (begun subject p micros).dialogue.channel.transfer ≡ o → IfSome o (InStep log) → Answered (reply_to d contents log frame.bytes)
      by None is h =
          open_runs n (opened_after log) None refl is tt
          (stray_ends (0x580 + subject.node) micros later_log (request_answers d contents (opened_after log) (request_in frame.bytes)) (begun subject p micros).dialogue.channel.heard frame (request_in frame.bytes) n)
      by (Some t) is h = by_step n t is h

  -- ---- an initiate request

  begins_one : (request : SdoRequest) (t : Transfer) → request_in frame.bytes ≡ Some request → begun_with request micros frame.bytes ≡ Some t → request_reading (Some request) micros frame.bytes ≡ Begin t → Sound (begun_after (begun subject p micros).dialogue.channel.transfer frame.bytes t)
      → IfSome (begun subject p micros).dialogue.channel.transfer Sound
      → ((q : Progress) → q.newest ≡ Some micros → q.dialogue.channel.transfer ≡ Some (begun_after (begun subject p micros).dialogue.channel.transfer frame.bytes t) → AllRun transfer_differences subject rows micros q (frames_on (0x580 + subject.node) (initiate_answers d contents request)) (KnownAt later_log))
      → Answered (initiate_answers d contents request)
  begins_one request t is begins reading sound s go =
      let q : Progress = begun subject p micros in
      let quiet : Quiet subject rows q micros (Sdo Client frame) (λ x. (x.newest ≡ Some micros) × InitiateHeard (begun_after (begun subject p micros).dialogue.channel.transfer frame.bytes t) micros x.dialogue) =
      request_quiet subject rows q micros frame (λ newest x. (newest ≡ Some micros) × InitiateHeard (begun_after (begun subject p micros).dialogue.channel.transfer frame.bytes t) micros x) (inr (begin_fine micros frame q.dialogue request t s is reading))
      (begun_newest subject p micros, initiate_open (begun_after (begun subject p micros).dialogue.channel.transfer frame.bytes t) micros _ _ (initiate_heard subject.limits.answer q.started q.dialogue micros frame request t s is begins reading sound)) in
      frame_runs subject rows micros p frame (Sdo Client frame)
      (λ x. AllRun transfer_differences subject rows micros x (frames_on (0x580 + subject.node) (initiate_answers d contents request)) (KnownAt (Exchanged (exchange_with d contents log frame.bytes) ∷ log)))
      (request_kind subject.node frame id) (record { none = quiet.none; next = go (after_frame subject q micros (Sdo Client frame)) quiet.next.0 quiet.next.1.transfer })

  -- one that begins no block upload
  plain_one : (request : SdoRequest) (t : Transfer) → request_in frame.bytes ≡ Some request → initiates (Some request) ≡ true → begun_with request micros frame.bytes ≡ Some t → request_reading (Some request) micros frame.bytes ≡ Begin t
      → IfSome (begun subject p micros).dialogue.channel.transfer Sound → Initiates subject rows micros (asked_key (Some request)) (initiate_answers d contents request) (begun_after (begun subject p micros).dialogue.channel.transfer frame.bytes t) → Answered (initiate_answers d contents request)
  plain_one request t is i begins reading s one =
      let on : initiates (request_in frame.bytes) ≡ true = ap initiates is ∙ i in
      let of : IsOf (asked_key (Some request)) later_log = subst (λ o. IsOf (asked_key o) later_log) is (of_initiate (exchange_with d contents log frame.bytes) log clean on) in
      begins_one request t is begins reading one.shape.sound s
      (λ q now here. map_runs subject rows micros (frames_on (0x580 + subject.node) (initiate_answers d contents request)) q (HasShape (asked_key (Some request))) (KnownAt later_log)
      (λ x h. inr (some_map x.dialogue.channel.transfer (Tied later_log) (InStep later_log) (λ u y. tied y) (all_tied (asked_key (Some request)) later_log x.dialogue.channel.transfer of h)))
      (one.runs q now here))

  -- a block upload
  blocks_one : (key : Key) (size threshold : ℕ) → request_in frame.bytes ≡ Some (BlockUploadInitiate key size threshold) → key.index < 65536 → IfSome (begun subject p micros).dialogue.channel.transfer Sound
      → Answered (initiate_answers d contents (BlockUploadInitiate key size threshold))
  blocks_one key size threshold is small s =
      begins_one (BlockUploadInitiate key size threshold) (asks_blocks false key size micros frame.bytes) is refl refl (begins_sound (is_next_segment (begun subject p micros).dialogue.channel.transfer frame.bytes) (BlockUploadInitiate key size threshold) micros frame.bytes refl) s
      (λ q now here. fine_known subject rows micros later_log (initiate_answers d contents (BlockUploadInitiate key size threshold)) q now
      (subst (λ o. AllFine (0x580 + subject.node) micros (initiate_answers d contents (BlockUploadInitiate key size threshold)) (has q.dialogue.channel.heard o) (λ g. IfSome g.transfer (InStep later_log))) (sym here)
      (by q.dialogue.channel.heard (first_of (reading_refusal d contents key) (block_size_refusal size)) refl (after_the_begin d contents log frame.bytes key size threshold clean is))))
    where
      by : (heard : Bool) (refusal : Option ℕ) → first_of (reading_refusal d contents key) (block_size_refusal size) ≡ refusal
          → opened_after (Exchanged (exchange_with d contents log frame.bytes) ∷ log) ≡ unless refusal (opened_at key (Begun size) (value_at contents key))
          → AllFine (0x580 + subject.node) micros (unless_refused refusal key (Replied (BlockUploadInitiated key (Some (length (value_at contents key)))) ∷ [])) (has heard (Some (asks_blocks (is_next_segment (begun subject p micros).dialogue.channel.transfer frame.bytes) key size micros frame.bytes)))
          (λ g. IfSome g.transfer (InStep (Exchanged (exchange_with d contents log frame.bytes) ∷ log)))
      by heard (Some code) r opens = own_fine (0x580 + subject.node) micros key code heard (asks_blocks (is_next_segment (begun subject p micros).dialogue.channel.transfer frame.bytes) key size micros frame.bytes) (λ g. IfSome g.transfer (InStep (Exchanged (exchange_with d contents log frame.bytes) ∷ log))) small refl (λ h. tt)
      by heard None r opens =
          begun_fine (0x580 + subject.node) micros heard (is_next_segment (begun subject p micros).dialogue.channel.transfer frame.bytes) key size (length (value_at contents key)) micros frame.bytes (λ g. IfSome g.transfer (InStep (Exchanged (exchange_with d contents log frame.bytes) ∷ log))) small
          (block_size_small size (second_none (reading_refusal d contents key) (block_size_refusal size) r))
          (λ u b k. begun_so size (value_at contents key) b (opens ∙ ap (λ x. opened_at x (Begun size) (value_at contents key)) (sym k)))

  by_request : (r : Option SdoRequest) → request_in frame.bytes ≡ r → AreBytes frame.bytes → IfSome r (HasKey frame.bytes) → is_block_begin r ≡ false → Known log (begun subject p micros).dialogue → Answered (reply_to d contents log frame.bytes)
  by_request None is bytes has n k = later_runs (ap initiates is) k
  by_request (Some (DownloadExpedited key value)) is bytes has n k =
      outside_of (subst (λ r. Answered (request_answers d contents (opened_after log) r)) (sym is)
      (plain_one (DownloadExpedited key value) _ is refl refl refl (known_sound log (begun subject p micros).dialogue k) (initiate_runs (is_next_segment (begun subject p micros).dialogue.channel.transfer frame.bytes) subject rows micros d contents (DownloadExpedited key value) frame.bytes bytes has refl refl)))
  by_request (Some (DownloadInitiate key size)) is bytes has n k =
      outside_of (subst (λ r. Answered (request_answers d contents (opened_after log) r)) (sym is)
      (plain_one (DownloadInitiate key size) _ is refl refl refl (known_sound log (begun subject p micros).dialogue k) (initiate_runs (is_next_segment (begun subject p micros).dialogue.channel.transfer frame.bytes) subject rows micros d contents (DownloadInitiate key size) frame.bytes bytes has refl refl)))
  by_request (Some (UploadInitiate key)) is bytes has n k =
      outside_of (subst (λ r. Answered (request_answers d contents (opened_after log) r)) (sym is)
      (plain_one (UploadInitiate key) _ is refl refl refl (known_sound log (begun subject p micros).dialogue k) (initiate_runs (is_next_segment (begun subject p micros).dialogue.channel.transfer frame.bytes) subject rows micros d contents (UploadInitiate key) frame.bytes bytes has refl refl)))
  by_request (Some (BlockUploadInitiate key size threshold)) is bytes has n k =
      outside_of (subst (λ r. Answered (request_answers d contents (opened_after log) r)) (sym is) (blocks_one key size threshold is (small_key frame.bytes key bytes has) (known_sound log (begun subject p micros).dialogue k)))
  by_request (Some (BlockDownloadInitiate key size)) is bytes has n k = absurd (false≢true (sym n))
  by_request (Some request) is bytes has n k = later_runs (ap initiates is) k

  pub known_runs : AreBytes frame.bytes → is_block_begin (request_in frame.bytes) ≡ false → Known log (begun subject p micros).dialogue → Answered (reply_to d contents log frame.bytes)
  known_runs bytes n k = by_request (request_in frame.bytes) refl bytes (has_key frame.bytes) n k

-- ---- one that the device ignores

none_open : (current : Option OpenTransfer) (x : OpenTransfer) (P : Type 0) → current ≡ Some x → current ≡ None → P
none_open current x P e none = absurd (false≢true (sym (ap is_some none) ∙ ap is_some e))

module _ (log : Log) (subject : Subject) (rows : List Row) (micros : ℕ) (p : Progress) (frame : FrameContent) (id : frame.id ≡ 0x600 + subject.node) where
  abbrev q : Progress
  q = begun subject p micros

  abbrev d : Dialogue
  d = (begun subject p micros).dialogue

  abbrev Next : Dialogue
  Next = dialogue_heard subject.limits.answer (begun subject p micros).started (begun subject p micros).dialogue micros Client frame

  abbrev Ignored : Type 0
  Ignored = AllRun transfer_differences subject rows micros p (frame ∷ []) (KnownAt log)

  by_quiet : Quiet subject rows (begun subject p micros) micros (Sdo Client frame) (λ x. Known log x.dialogue) → Ignored
  by_quiet h = frame_runs subject rows micros p frame (Sdo Client frame) (KnownAt log) (request_kind subject.node frame id) h

  quietly : (newest_or_fine : ((begun subject p micros).dialogue.newest ≡ None) ⊎ FineEnd frame (reads (begun subject p micros).dialogue.channel micros Client frame.bytes).says.ended)
      → Known log (dialogue_heard subject.limits.answer (begun subject p micros).started (begun subject p micros).dialogue micros Client frame) → Ignored
  quietly f k = by_quiet (request_quiet subject rows (begun subject p micros) micros frame (λ newest x. Known log x) f k)

  -- of a transfer in blocks
  module _ (n : initiates (request_in frame.bytes) ≡ false) (t : Transfer) (is : (begun subject p micros).dialogue.channel.transfer ≡ Some t) (sound : Sound t) where
    abbrev Said : Followed
    Said = follows_by (begun subject p micros).dialogue.channel.heard (Some t) (request_reading (request_in frame.bytes) micros frame.bytes) micros Client frame.bytes

    some_sound : IfSome (begun subject p micros).dialogue.channel.transfer Sound
    some_sound = subst (λ o. IfSome o Sound) (sym is) sound

    read : reads (begun subject p micros).dialogue.channel micros Client frame.bytes
        ≡ follows_by (begun subject p micros).dialogue.channel.heard (Some t) (request_reading (request_in frame.bytes) micros frame.bytes) micros Client frame.bytes
    read = client_is (begun subject p micros).dialogue micros frame some_sound ∙ ap (λ o. follows_by (begun subject p micros).dialogue.channel.heard o (request_reading (request_in frame.bytes) micros frame.bytes) micros Client frame.bytes) is

    transfer_is : (dialogue_heard subject.limits.answer (begun subject p micros).started (begun subject p micros).dialogue micros Client frame).channel.transfer
        ≡ (follows_by (begun subject p micros).dialogue.channel.heard (Some t) (request_reading (request_in frame.bytes) micros frame.bytes) micros Client frame.bytes).next.transfer
    transfer_is = ap (λ (f : Following). f.transfer) (channel_is subject.limits.answer (begun subject p micros).started (begun subject p micros).dialogue micros Client frame ∙ ap (λ (f : Followed). f.next) read)

    fine_so : FineEnd frame (follows_by (begun subject p micros).dialogue.channel.heard (Some t) (request_reading (request_in frame.bytes) micros frame.bytes) micros Client frame.bytes).says.ended
        → FineEnd frame (reads (begun subject p micros).dialogue.channel micros Client frame.bytes).says.ended
    fine_so h = subst (λ (f : Followed). FineEnd frame f.says.ended) (sym read) h

    odd_so : is_kept (follows_by (begun subject p micros).dialogue.channel.heard (Some t) (request_reading (request_in frame.bytes) micros frame.bytes) micros Client frame.bytes).says.what ≡ false
        → Unknown (dialogue_heard subject.limits.answer (begun subject p micros).started (begun subject p micros).dialogue micros Client frame)
    odd_so o = odd_later subject.limits.answer (begun subject p micros).started (begun subject p micros).dialogue micros frame n some_sound (ap (λ (f : Followed). is_kept f.says.what) read ∙ o)

    -- where the channel has none open
    closed_ignored : opened_after log ≡ None
        → Heard t frame (follows_by (begun subject p micros).dialogue.channel.heard (Some t) (request_reading (request_in frame.bytes) micros frame.bytes) micros Client frame.bytes) → Ignored
    closed_ignored none h = quietly (inr (fine_so h.fine)) (by h.follows)
      where
        by : Follows t (follows_by (begun subject p micros).dialogue.channel.heard (Some t) (request_reading (request_in frame.bytes) micros frame.bytes) micros Client frame.bytes)
            → Known log (dialogue_heard subject.limits.answer (begun subject p micros).started (begun subject p micros).dialogue micros Client frame)
        by (odd o) = inl (odd_so o)
        by (over e) = none_known log (dialogue_heard subject.limits.answer (begun subject p micros).started (begun subject p micros).dialogue micros Client frame) (transfer_is ∙ e)
        by (lasts u e up b k) = inr (subst (λ o. IfSome o (InStep log)) (sym (transfer_is ∙ e)) (dropped up b none))

    -- a frame that hasn't eight bytes
    nothing_ignored : request_in frame.bytes ≡ None
        → Heard t frame (follows_by (begun subject p micros).dialogue.channel.heard (Some t) (request_reading (request_in frame.bytes) micros frame.bytes) micros Client frame.bytes) → Ignored
    nothing_ignored nothing h =
        quietly (inr (fine_so h.fine))
        (inl (odd_so (ap (λ r. is_kept (follows_by (begun subject p micros).dialogue.channel.heard (Some t) (request_reading r micros frame.bytes) micros Client frame.bytes).says.what) nothing
        ∙ nothing_odd (begun subject p micros).dialogue.channel.heard t micros frame.bytes)))

  -- of one that isn't
  tied_ignored : (n : initiates (request_in frame.bytes) ≡ false) (t : Transfer) → (begun subject p micros).dialogue.channel.transfer ≡ Some t → Tied log t → Ignored
  tied_ignored n t is h =
      let shape : IfSome (begun subject p micros).dialogue.channel.transfer (Shape t.key) = subst (λ o. IfSome o (Shape t.key)) (sym is) h.shape in
      by_quiet (client_quiet t.key subject rows (begun subject p micros) micros frame (λ newest x. Known log x) shape
      (inr (some_map (dialogue_heard subject.limits.answer (begun subject p micros).started (begun subject p micros).dialogue micros Client frame).channel.transfer (Tied log) (InStep log) (λ u y. tied y)
      (all_tied t.key log (dialogue_heard subject.limits.answer (begun subject p micros).started (begun subject p micros).dialogue micros Client frame).channel.transfer h.of (later_shape t.key subject.limits.answer (begun subject p micros).started (begun subject p micros).dialogue micros frame shape n)))))

  step_ignored : (n : initiates (request_in frame.bytes) ≡ false) (t : Transfer) → (begun subject p micros).dialogue.channel.transfer ≡ Some t → (request_in frame.bytes ≡ None) ⊎ (opened_after log ≡ None) → InStep log t → Ignored
  step_ignored n t is ignores (tied h) = tied_ignored n t is h
  step_ignored n t is (inr none) (begun_so size content h e) = none_open (opened_after log) _ _ e none
  step_ignored n t is (inr none) (sub_block content position sent h e) = none_open (opened_after log) _ _ e none
  step_ignored n t is (inr none) (at_end content crc up s e) = none_open (opened_after log) _ _ e none
  step_ignored n t is (inl nothing) (begun_so size content h e) =
      nothing_ignored n t is (step_sound log t (begun_so size content h e)) nothing (later_heard _ t micros frame (request_in frame.bytes) h.is (ap in_blocks h.stage) n)
  step_ignored n t is (inl nothing) (sub_block content position sent h e) =
      nothing_ignored n t is (step_sound log t (sub_block content position sent h e)) nothing (later_heard _ t micros frame (request_in frame.bytes) h.is (ap in_blocks h.stage) n)
  step_ignored n t is (inl nothing) (at_end content crc up s e) =
      nothing_ignored n t is (step_sound log t (at_end content crc up s e)) nothing (later_heard _ t micros frame (request_in frame.bytes) up (ap in_blocks s) n)
  step_ignored n t is ignores (dropped up b e) = closed_ignored n t is (step_sound log t (dropped up b e)) e (later_heard _ t micros frame (request_in frame.bytes) up b n)
  step_ignored n t is ignores (unanswered s i e) = closed_ignored n t is s e (first_heard _ t micros frame i (request_in frame.bytes) n)

  later_ignored : initiates (request_in frame.bytes) ≡ false → (request_in frame.bytes ≡ None) ⊎ (opened_after log ≡ None) → Known log (begun subject p micros).dialogue → Ignored
  later_ignored n ignores (inl u) = quietly (inl u.0) (inl (unknown_later subject.limits.answer (begun subject p micros).started (begun subject p micros).dialogue micros frame n u))
  later_ignored n ignores (inr h) = by (begun subject p micros).dialogue.channel.transfer refl h
    where
      by : (o : Option Transfer) → (begun subject p micros).dialogue.channel.transfer ≡ o → IfSome o (InStep log) → Ignored
      by None is h = none_ignored
        where
          g : Goes 0 micros log [] frame (follows_by (begun subject p micros).dialogue.channel.heard None (request_reading (request_in frame.bytes) micros frame.bytes) micros Client frame.bytes)
          g = stray_ends 0 micros log [] (begun subject p micros).dialogue.channel.heard frame (request_in frame.bytes) n

          read : reads (begun subject p micros).dialogue.channel micros Client frame.bytes
              ≡ follows_by (begun subject p micros).dialogue.channel.heard None (request_reading (request_in frame.bytes) micros frame.bytes) micros Client frame.bytes
          read = client_is (begun subject p micros).dialogue micros frame (subst (λ o. IfSome o Sound) (sym is) tt)
              ∙ ap (λ o. follows_by (begun subject p micros).dialogue.channel.heard o (request_reading (request_in frame.bytes) micros frame.bytes) micros Client frame.bytes) is

          none_ignored : Ignored
          none_ignored =
              quietly (inr (subst (λ (f : Followed). FineEnd frame f.says.ended) (sym read) g.fine))
              (none_known log (dialogue_heard subject.limits.answer (begun subject p micros).started (begun subject p micros).dialogue micros Client frame) (ap (λ (f : Following). f.transfer) (channel_is subject.limits.answer (begun subject p micros).started (begun subject p micros).dialogue micros Client frame)
              ∙ ap (λ (f : Followed). f.next.transfer) read ∙ passed_by (begun subject p micros).dialogue.channel.heard (request_reading (request_in frame.bytes) micros frame.bytes) micros frame.bytes (no_begin (request_in frame.bytes) micros frame.bytes n)))
      by (Some t) is h = step_ignored n t is ignores h

  -- an initiate request, which the device doesn't answer
  module _ (k : Known log (begun subject p micros).dialogue) (none : opened_after log ≡ None) where
    sound_before : IfSome (begun subject p micros).dialogue.channel.transfer Sound
    sound_before = known_sound log (begun subject p micros).dialogue k

    plain_ignored : (request : SdoRequest) (t : Transfer) → request_in frame.bytes ≡ Some request → request_reading (Some request) micros frame.bytes ≡ Begin t → initiates (Some request) ≡ true → AreBytes frame.bytes → HasKey frame.bytes request
        → is_block_begin (Some request) ≡ false → is_block_upload_begin (Some request) ≡ false → Ignored
    plain_ignored request t is reading i bytes has n m =
        quietly (inr (begin_fine micros frame (begun subject p micros).dialogue request t sound_before is reading))
        (inr (some_map (dialogue_heard subject.limits.answer (begun subject p micros).started (begun subject p micros).dialogue micros Client frame).channel.transfer (Tied log) (InStep log) (λ u y. tied y)
        (ignored_initiate log subject.limits.answer (begun subject p micros).started (begun subject p micros).dialogue micros frame (Some request) sound_before is i bytes has n m none)))

    blocks_ignored : (key : Key) (size threshold : ℕ) → request_in frame.bytes ≡ Some (BlockUploadInitiate key size threshold) → Ignored
    blocks_ignored key size threshold is =
        let sound : Sound (asks_blocks (is_next_segment (begun subject p micros).dialogue.channel.transfer frame.bytes) key size micros frame.bytes) = begins_sound (is_next_segment (begun subject p micros).dialogue.channel.transfer frame.bytes) (BlockUploadInitiate key size threshold) micros frame.bytes refl in
        let heard : InitiateHeard (asks_blocks (is_next_segment (begun subject p micros).dialogue.channel.transfer frame.bytes) key size micros frame.bytes) micros (dialogue_heard subject.limits.answer (begun subject p micros).started (begun subject p micros).dialogue micros Client frame) =
        initiate_heard subject.limits.answer (begun subject p micros).started (begun subject p micros).dialogue micros frame (BlockUploadInitiate key size threshold) (asks_blocks false key size micros frame.bytes) sound_before is refl refl sound in
        quietly (inr (begin_fine micros frame (begun subject p micros).dialogue (BlockUploadInitiate key size threshold) (asks_blocks false key size micros frame.bytes) sound_before is refl))
        (inr (subst (λ o. IfSome o (InStep log)) (sym heard.transfer) (unanswered sound refl none)))

    begin_ignored : (r : Option SdoRequest) → request_in frame.bytes ≡ r → initiates r ≡ true → AreBytes frame.bytes → IfSome r (HasKey frame.bytes) → is_block_begin r ≡ false → Ignored
    begin_ignored (Some (DownloadExpedited key value)) is i bytes has n = plain_ignored (DownloadExpedited key value) _ is refl refl bytes has refl refl
    begin_ignored (Some (DownloadInitiate key size)) is i bytes has n = plain_ignored (DownloadInitiate key size) _ is refl refl bytes has refl refl
    begin_ignored (Some (UploadInitiate key)) is i bytes has n = plain_ignored (UploadInitiate key) _ is refl refl bytes has refl refl
    begin_ignored (Some (BlockUploadInitiate key size threshold)) is i bytes has n = blocks_ignored key size threshold is
    begin_ignored (Some (BlockDownloadInitiate key size)) is i bytes has n = absurd (false≢true (sym n))
    begin_ignored _ is i bytes has n = absurd (false≢true i)

  pub ignored_runs : AreBytes frame.bytes → is_block_begin (request_in frame.bytes) ≡ false → (request_in frame.bytes ≡ None) ⊎ (opened_after log ≡ None) → Known log (begun subject p micros).dialogue → Ignored
  ignored_runs bytes n ignores k = by (initiates (request_in frame.bytes)) refl
    where
      by : (b : Bool) → initiates (request_in frame.bytes) ≡ b → Ignored
      by false i = later_ignored i ignores k
      by true i = elim ignores [
        | inl nothing ↦ absurd (false≢true (sym (ap initiates nothing) ∙ i))
        | inr none ↦ begin_ignored k none (request_in frame.bytes) refl i bytes (has_key frame.bytes) n
      ]
