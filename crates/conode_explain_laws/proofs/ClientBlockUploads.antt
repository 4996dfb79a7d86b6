-- Uploads of a client in blocks: what explain and the client make of an answer.
use Rattle.std.proofs.Common.{◌≡◌, ℕ, suc, ◌+◌, ◌*◌, ◌-◌, ◌≤◌, Bool, true, false, not, List, [], ◌∷◌, ◌++◌, length, take, Option, Some, None, refl, sym, ap, ◌∙◌, ◌⊎◌, inl, inr, subst, arith, eqb, length-append, append_assoc, append-nil}
use Rattle.std.specs.Prelude.{if◌then◌else◌, nat_le, nat_lt, ◌==◌, ◌&&◌, ◌||◌, IfSome}
use Rattle.std.specs.Option.{option_map_or}
use Rattle.std.proofs.Math.Seq.{take-append-add}
use Rattle.std.proofs.lemmas.Bool.{false≢true}
use Rattle.std.proofs.lemmas.Bool.Decides.{nat_tests}
use Rattle.std.proofs.lemmas.List.{take_all}
use Rattle.co_value.specs.declared.key.Key.{Key}
use Rattle.co_value.specs.Keys.{same_key}
use Rattle.co_frame.specs.BlockSegments.{block_segment_in, is_abort_in_sub_block}
use Rattle.co_frame.specs.SdoFields.{specifier, subcommand, has_bit}
use Rattle.co_frame.specs.SdoParts.{code_in}
use Rattle.co_frame.specs.SdoRequests.{request_bytes}
use Rattle.co_frame.specs.SdoResponses.{response_row_in, response_in}
use Rattle.co_frame.specs.declared.block_segment.BlockSegment.{BlockSegment}
use Rattle.co_frame.specs.declared.sdo_request.ExpeditedData.{ExpeditedData}
use Rattle.co_frame.specs.declared.sdo_request.SdoRequest.TheVariants.{BlockUploadStart, BlockUploadAcknowledge, BlockUploadEnd as UploadEnd}
use Rattle.co_frame.specs.declared.sdo_response.SdoResponse.{SdoResponse}
use Rattle.co_frame.specs.declared.sdo_response.SdoResponse.TheVariants.{DownloadDone, UploadExpedited, Abort as Refuse, BlockUploadInitiated, BlockUploadEnd as EndSent}
use Rattle.co_sdo_client.specs.declared.mode.Mode.{Mode}
use Rattle.co_sdo_client.specs.declared.mode.Mode.TheVariants.{Plain, Segmented as InSegments, Block as InBlocks}
use Rattle.co_sdo_client.specs.declared.stage.Stage.{Stage}
use Rattle.co_sdo_client.specs.declared.stage.Stage.TheVariants.{Begun, SubBlock as InSubBlockStage, LastTaken}
use Rattle.co_sdo_client.specs.Calls.{Job, Download as Write, Upload as Read, Call, Request as Asked}
use Rattle.co_sdo_client.specs.Segments.{cap_of, transfer_by}
use Rattle.co_sdo_client.specs.Steps.{sub_block_stage}
use Rattle.co_sdo_client.specs.SubBlocks.{ends_sub_block, segment_taken, is_last_taken, bytes_taken}
use Rattle.co_sdo_client.specs.Verdicts.{Verdict, GoesOn, Ends, IsAborted, unless_fault, no_room, sub_block_end, sub_block_verdict, block_upload_complete, held_with, without}
use Rattle.co_sdo_client.specs.Outcomes.{messages_by}
use Rattle.co_sdo_laws.specs.Undisturbed.{IsJob}
use Rattle.co_sdo_laws.proofs.Frames.{start_read, acknowledge_read, client_end_read}
use Rattle.co_sdo_laws.proofs.Permits.{reads_in_blocks}
use Rattle.conode_explain_transfers.specs.declared.digest.Digest.{Digest}
use Rattle.conode_explain_transfers.specs.declared.kinds.Direction.TheVariants.{Download, Upload}
use Rattle.conode_explain_transfers.specs.declared.kinds.Protocol.TheVariants.{Expedited, Block}
use Rattle.conode_explain_transfers.specs.declared.kinds.Side.TheVariants.{Client, Server}
use Rattle.conode_explain_transfers.specs.declared.kinds.What.TheVariants.{Part, Segment as SegmentOf, OutOfSequence}
use Rattle.conode_explain_transfers.specs.declared.stage.Stage.TheVariants.{BlockInitiated, SubBlock, AllAcknowledged, BlockEnded, Confirmed}
use Rattle.conode_explain_transfers.specs.declared.transfer.Transfer.{Transfer}
use Rattle.conode_explain_transfers.specs.BlockTurns.{is_block, end_confirmed, end_confirmed_at, block_segment_at, segment_added, segment_ahead, segment_again, numbered_after, next_sub_block, crc_in}
use Rattle.conode_explain_transfers.specs.Digests.{counted, digest_of}
use Rattle.conode_explain_transfers.specs.Followed.{with_frame}
use Rattle.conode_explain_transfers.specs.Initiates.{has_crc, data_of}
use Rattle.conode_explain_transfers.specs.SegmentedTurns.{confirmed}
use Rattle.conode_explain_transfers.specs.Stages.{confirmed_with}
use Rattle.conode_explain_transfers.specs.Transfers.{Turn, after, is_download, awaited_number, unexpected, goes_on as part, takes_data, takes_pending}
use Rattle.conode_explain_transfers.specs.Turns.{response_turn}
use Rattle.conode_explain_transfers.proofs.DataLemmas.{taking}
use Rattle.conode_explain_laws.specs.Clients.{refuses, direction_of}
use Rattle.conode_explain_laws.specs.Downloads.{number_in}
use Rattle.conode_explain_laws.proofs.Readings.{Reading, Segment, Abort, Request, Nothing, request_reading, response_reading, plain_reading, beginning, segment_reading, sub_block_reading, reading_of}
use Rattle.conode_explain_laws.proofs.Begins.{both, some_both}
use Rattle.conode_explain_laws.proofs.BlockExact.{small_number}
use Rattle.conode_explain_laws.proofs.Blocks.{is_segment}
use Rattle.conode_explain_laws.proofs.ClientViews.{Seen, holds, says, hears, read_as, turned, late_turn, late_response, late_other_key, late_answering, abort_closes, Loses, lost_turn}
use Rattle.conode_explain_laws.proofs.ClientStanding.{IsBlockUpload, IsBlockAsked, IsInSubBlock, IsAllTaken, in_sub_block, all_taken, Steps, gives_up, is_over, completes, size_right, read_bytes, refused_turn}
use Rattle.conode_explain_laws.proofs.ClientDownloads.{Made, no_response, an_abort}
use Rattle.conode_explain_laws.proofs.ClientUploads.{few_read, within, equal}
use Rattle.conode_explain_laws.proofs.ClientLost.{AllHarmless, client_reads, unless, lost_steps}

-- ---- which uploads the client doesn't take

refuses_at_once : (mode : Mode) (job : Job) (got : List ℕ) → direction_of job ≡ Upload → transfer_by mode job ≡ transfer_by reads_in_blocks.0 reads_in_blocks.1 → refuses mode job Expedited got ≡ true
refuses_at_once InBlocks (Read cap) got d h = by (nat_lt cap (length got))
  where
    by : (b : Bool) → b || true ≡ true
    by true = refl
    by false = refl
refuses_at_once Plain (Read cap) got d h = cc
refuses_at_once InSegments (Read cap) got d h = cc
refuses_at_once mode (Write bytes tells) got d h = absurd (let e : Download ≡ Upload = d in cc)

refuses_none : (mode : Mode) (job : Job) (got : List ℕ) → direction_of job ≡ Upload → nat_lt (cap_of job) (length got) ≡ false → refuses mode job Block got ≡ false
refuses_none mode (Read cap) got d h = rw h (by mode)
  where
    by : (mode : Mode) → refuses mode (Read 0) Block [] ≡ false
    by Plain = refl
    by InSegments = refl
    by InBlocks = refl
refuses_none mode (Write bytes tells) got d h = absurd (let e : Download ≡ Upload = d in cc)

-- ---- segments

-- the server ends it: the number of unused bytes is small
abbrev pub IsSmallEnd : SdoResponse → Type 0
IsSmallEnd (EndSent unused) = unused ≤ 7
IsSmallEnd _ = Unit {0}

pub small_end : (frame : List ℕ) → IfSome (response_in frame) IsSmallEnd
unfolding response_row_in
small_end frame =
    let P : SdoResponse → Type 0 = λ response. IsSmallEnd response in
    some_both P (eqb (length frame) 8) _ _
    (some_both P (eqb (specifier frame) 0) _ _ tt
    (some_both P (eqb (specifier frame) 1) _ _ tt
    (some_both P (eqb (specifier frame) 2) _ _ (both P (has_bit 1 frame) _ _ tt tt)
    (some_both P (eqb (specifier frame) 3) _ _ tt
    (some_both P (eqb (specifier frame) 4) _ _ tt
    (some_both P (eqb (specifier frame) 5) _ _
    (some_both P (eqb (subcommand frame) 0) _ _ tt (some_both P (eqb (subcommand frame) 1) _ _ tt (some_both P (eqb (subcommand frame) 2) _ _ tt tt)))
    (some_both P (eqb (specifier frame) 6) _ _ (both P (has_bit 0 frame) _ _ (omega arith) tt)
    tt)))))))
    tt

-- a frame that isn't a segment is nothing there
no_segment_read : (r : Option SdoResponse) → beginning (response_reading r) ≡ Nothing
no_segment_read None = refl
no_segment_read (Some (Refuse key code)) = refl
no_segment_read (Some _) = refl

-- ---- the client's frames

module _ (call : Call) (stamp : ℕ → ℕ) (heard : Bool) (u : Transfer) (got : List ℕ) (count : ℕ) where
  start_says : u.stage ≡ BlockInitiated
      → says call stamp (Asked BlockUploadStart ∷ []) (holds heard (Some u) got [] count)
      ≡ holds heard (Some (with_frame Part (after u (part (record u { stage = SubBlock false }))) (stamp count) Client)) got [] (suc count)
  start_says e =
      let frame = request_bytes BlockUploadStart in
      let read : reading_of (Some u) Client (stamp count) frame ≡ Request BlockUploadStart = rw e (ap (λ r. request_reading r (stamp count) frame) start_read) in
      ap (read_as call (stamp count) Client frame (holds heard (Some u) got [] count)) read ∙ rw e refl

  acknowledge_read_as : (taken : ℕ) → u.direction ≡ Upload → reading_of (Some u) Client (stamp count) (request_bytes (BlockUploadAcknowledge taken 127)) ≡ Request (BlockUploadAcknowledge taken 127)
  acknowledge_read_as taken d =
      let frame = request_bytes (BlockUploadAcknowledge taken 127) in
      client_reads (Some u) (stamp count) frame d ∙ ap (λ r. request_reading r (stamp count) frame) (acknowledge_read taken 127)

  -- of a sub-block without the last segment
  next_says : (taken : ℕ) → u.direction ≡ Upload → u.stage ≡ SubBlock false → nat_lt taken (awaited_number u) ≡ true
      → says call stamp (Asked (BlockUploadAcknowledge taken 127) ∷ []) (holds heard (Some u) got [] count)
      ≡ holds heard (Some (with_frame Part (after u (takes_pending (next_sub_block u 127) (7 * taken))) (stamp count) Client)) (got ++ take (7 * taken) u.pending.items) [] (suc count)
  next_says taken d s n =
      ap (read_as call (stamp count) Client (request_bytes (BlockUploadAcknowledge taken 127)) (holds heard (Some u) got [] count)) (acknowledge_read_as taken d) ∙ rw (d, s, n) refl

  -- of the one with it
  last_says : (taken : ℕ) → u.direction ≡ Upload → u.stage ≡ SubBlock true → nat_lt taken (awaited_number u) ≡ true → (taken + 1 == awaited_number u) ≡ true
      → says call stamp (Asked (BlockUploadAcknowledge taken 127) ∷ []) (holds heard (Some u) got [] count)
      ≡ holds heard (Some (with_frame Part (after u (part (record u { stage = AllAcknowledged }))) (stamp count) Client)) got [] (suc count)
  last_says taken d s n a =
      ap (read_as call (stamp count) Client (request_bytes (BlockUploadAcknowledge taken 127)) (holds heard (Some u) got [] count)) (acknowledge_read_as taken d) ∙ rw (d, s, n, a) refl

  -- its end
  end_says : (crc : ℕ) → u.stage ≡ BlockEnded crc → u.direction ≡ Upload → u.protocol ≡ Block
      → says call stamp (Asked UploadEnd ∷ []) (holds heard (Some u) got [] count)
      ≡ turned call (stamp count) Client heard u got [] count (part (record u { stage = Confirmed (if u.crc then Some crc else None) }))
  end_says crc s d p =
      let frame = request_bytes UploadEnd in
      let read : reading_of (Some u) Client (stamp count) frame ≡ Request UploadEnd = client_reads (Some u) (stamp count) frame d ∙ ap (λ r. request_reading r (stamp count) frame) client_end_read in
      let turn : end_confirmed (not (is_download u.direction)) u ≡ part (record u { stage = Confirmed (if u.crc then Some crc else None) }) =
      ap (λ x. end_confirmed (not (is_download x)) u) d ∙ (ap (λ x. if is_block x then end_confirmed_at u.stage u else unexpected u) p ∙ ap (λ x. end_confirmed_at x u) s) in
      ap (read_as call (stamp count) Client frame (holds heard (Some u) got [] count)) read ∙ ap (turned call (stamp count) Client heard u got [] count) turn

-- ---- one answer

-- what is left of all bytes without the last ones, which are pending
cut_so : (got pending held : List ℕ) (unused : ℕ) → got ++ pending ≡ held → unused ≤ length pending → got ++ take (length pending - unused) pending ≡ without unused held
cut_so got pending held unused g few =
    let long = length-append got pending in
    let count : length got + (length pending - unused) ≡ length (got ++ pending) - unused = omega (arith, long, few) in
    sym (take-append-add got pending (length pending - unused)) ∙ ap (λ n. take n (got ++ pending)) count ∙ ap (without unused) g

all_front : (items : List ℕ) (n : ℕ) → length items ≡ n → take n items ≡ items
all_front items n h = take_all n items (omega (arith, h))

module _ (Loose : Type 0) (call : Call) (job : IsJob call.job) (stamp : ℕ → ℕ) (frame : List ℕ) (heard : Bool) (t : Transfer) (count newest : ℕ) where
  abbrev comes : List ℕ → Turn → Seen
  comes got turn = turned call (stamp count) Server heard t got [] count turn

  -- ---- initiate

  started_so : (key : Key) (size : Option ℕ) (same full : Bool) → IsBlockAsked call t → newest ≡ 0 → same_key key call.key ≡ same
      → (let v = unless_fault ((not same, 0x05040001) ∷ (full, 0x05040005) ∷ []) (GoesOn (Asked BlockUploadStart ∷ [])) in
      Steps Loose call v (InSubBlockStage size 0) [] newest (says call stamp (messages_by call v) (comes [] (response_turn t (BlockUploadInitiated key size) frame))))
  started_so key size false full h n e =
      gives_up Loose call stamp (InSubBlockStage size 0) [] newest 0x05040001 (comes [] (response_turn t (BlockUploadInitiated key size) frame))
      (late_turn call (stamp count) Server heard t [] [] count (response_turn t (BlockUploadInitiated key size) frame) (late_other_key t key _ (ap confirmed_with h.stage) (ap (λ k. same_key key k) h.is.is.key ∙ e)))
  started_so key size true true h n e =
      gives_up Loose call stamp (InSubBlockStage size 0) [] newest 0x05040005 (comes [] (response_turn t (BlockUploadInitiated key size) frame))
      (late_turn call (stamp count) Server heard t [] [] count (response_turn t (BlockUploadInitiated key size) frame) (late_response t (BlockUploadInitiated key size) frame (ap confirmed_with h.stage) (rw h.stage refl)))
  started_so key size true false h n e =
      let turn = part (record t { size = size; crc = t.crc && has_crc frame; stage = BlockInitiated }) in
      let is : response_turn t (BlockUploadInitiated key size) frame ≡ turn = rw (h.stage, h.is.is.key, e, h.is.is.direction, h.is.protocol) refl in
      let u = with_frame Part (after t turn) (stamp count) Server in
      let v = GoesOn (Asked BlockUploadStart ∷ []) in
      let none : length t.pending.items ≡ 7 * 0 = ap length h.pending in
      subst (λ x. Steps Loose call v (InSubBlockStage size 0) [] newest (says call stamp (messages_by call v) (comes [] x))) (sym is)
      (subst (Steps Loose call v (InSubBlockStage size 0) [] newest) (sym (start_says call stamp heard u [] (suc count) refl))
      (record {
        follows = inr (in_sub_block size 0 (record {
          is = record {
            is = record { direction = h.is.is.direction; job = h.is.is.job; key = h.is.is.key; regular = h.is.is.regular };
            transfer = h.is.transfer;
            protocol = h.is.protocol;
            crc = ap (λ c. c && has_crc frame) h.is.crc;
            block_size = h.is.block_size;
          };
          stage = refl;
          size = refl;
          number = h.number ∙ sym (ap (λ n. n + 1) n);
          pending = none;
        }) h.pending refl);
        reads = refl;
      }))

  -- the answer has all bytes: the client doesn't take them
  at_once_left : (key : Key) (value : ExpeditedData) (same : Bool) → IsBlockAsked call t → same_key key call.key ≡ same → (comes [] (response_turn t (UploadExpedited key value) frame)).done ≡ []
  at_once_left key value false h e =
      late_turn call (stamp count) Server heard t [] [] count (response_turn t (UploadExpedited key value) frame) (late_other_key t key _ (ap confirmed_with h.stage) (ap (λ k. same_key key k) h.is.is.key ∙ e))
  at_once_left key value true h e =
      let turn = takes_data (record (confirmed t) { protocol = Expedited; crc = false }) (data_of value) in
      let is : response_turn t (UploadExpedited key value) frame ≡ turn = rw (h.stage, h.is.is.key, e, h.is.is.direction) refl in
      subst (λ x. (comes [] x).done ≡ []) (sym is) (refused_turn call (stamp count) Server heard t [] count turn (refuses_at_once call.mode call.job (data_of value) h.is.is.job h.is.transfer))

  pub block_asked_answer : (held : List ℕ) (r : Option SdoResponse) → IsBlockAsked call t → newest ≡ 0 → Made Loose call job stamp frame heard t count newest Begun held [] r
  block_asked_answer held None h n = no_response Loose call job stamp frame heard t count newest Begun held []
  block_asked_answer held (Some (Refuse key code)) h n = an_abort Loose call job stamp frame heard t count newest Begun held [] key code.0
  block_asked_answer held (Some (BlockUploadInitiated key size)) h n =
      rw h.is.transfer (started_so key size (same_key key call.key) (nat_lt (cap_of call.job) (option_map_or (λ s. s) size 0)) h n refl)
  block_asked_answer held (Some (UploadExpedited key value)) h n =
      rw h.is.transfer (gives_up Loose call stamp _ _ newest 0x05040001 (comes [] (response_turn t (UploadExpedited key value) frame)) (at_once_left key value (same_key key call.key) h refl))
  block_asked_answer held (Some (DownloadDone key)) h n =
      rw h.is.transfer (gives_up Loose call stamp _ _ newest 0x05040001 (comes [] (response_turn t (DownloadDone key) frame))
      (late_turn call (stamp count) Server heard t [] [] count (response_turn t (DownloadDone key) frame) (late_answering t key _ (ap confirmed_with h.stage) (rw h.is.is.direction (inl refl)))))
  block_asked_answer held (Some response) h n =
      rw h.is.transfer (gives_up Loose call stamp _ _ newest 0x05040001 (comes [] (response_turn t response frame))
      (late_turn call (stamp count) Server heard t [] [] count (response_turn t response frame) (late_response t response frame (ap confirmed_with h.stage) (rw h.stage refl))))

  -- ---- inside a sub-block

  same_upload : (u : Transfer) → IsBlockUpload call t → u.direction ≡ t.direction → u.key ≡ t.key → u.irregular ≡ t.irregular → u.protocol ≡ t.protocol → u.crc ≡ t.crc → u.block_size ≡ t.block_size → IsBlockUpload call u
  same_upload u h d k i p c b = record {
    is = record { direction = d ∙ h.is.direction; job = h.is.job; key = k ∙ h.is.key; regular = i ∙ h.is.regular };
    transfer = h.transfer;
    protocol = p ∙ h.protocol;
    crc = c ∙ h.crc;
    block_size = b ∙ h.block_size;
  }

  -- what the client makes of a segment, which is the next one or not, and ends its sub-block or not
  abbrev verdict_with : ℕ → List ℕ → Option BlockSegment → Bool → Verdict
  verdict_with taken held next ends =
      if ends
      then unless_fault ((if is_last_taken next then (false, 0) else no_room call (length (held ++ bytes_taken next))) ∷ []) (GoesOn (Asked (BlockUploadAcknowledge (option_map_or (λ segment. taken + 1) next taken) 127) ∷ []))
      else GoesOn []

  abbrev stage_with : Option ℕ → ℕ → Option BlockSegment → Bool → Stage
  stage_with size taken next ends =
      if is_last_taken next then LastTaken size
      else (if ends then InSubBlockStage size 0 else InSubBlockStage size (option_map_or (λ segment. taken + 1) next taken))

  -- after a segment, which makes this of explain's transfer
  abbrev MadeOf : Option ℕ → ℕ → List ℕ → List ℕ → Option BlockSegment → Bool → Turn → Type 0
  MadeOf size taken held got next ends turn =
      let v = verdict_with taken held next ends in
      Steps Loose call v (stage_with size taken next ends) (held ++ bytes_taken next) newest (says call stamp (messages_by call v) (comes got turn))

  -- the next one
  next_taken : (size : Option ℕ) (taken old sequence : ℕ) (bytes held got : List ℕ) (last ends : Bool) → IsInSubBlock call t size taken old → got ++ t.pending.items ≡ held → length bytes ≡ 7 → (last ≡ true → ends ≡ true) → newest ≡ (if ends then 0 else sequence)
      → MadeOf size taken held got (Some (record { last = last; sequence = sequence; bytes = bytes })) ends (segment_added t (record { last = last; sequence = sequence; bytes = bytes }))
  next_taken size taken old sequence bytes held got true false h g seven l n = absurd (false≢true (l refl))
  next_taken size taken old sequence bytes held got true true h g seven l n =
      let segment : BlockSegment = record { last = true; sequence = sequence; bytes = bytes } in
      let u = with_frame Part (after t (segment_added t segment)) (stamp count) Server in
      let p = h.pending in
      let both = length-append t.pending.items bytes in
      let number : awaited_number u ≡ taken + 1 + 1 = omega (arith, p, both, seven) in
      let came : nat_lt (taken + 1) (awaited_number u) ≡ true = grind (arith, nat_tests) in
      let all : (taken + 1 + 1 == awaited_number u) ≡ true = grind (arith, nat_tests) in
      let v = GoesOn (Asked (BlockUploadAcknowledge (taken + 1) 127) ∷ []) in
      subst (Steps Loose call v (LastTaken size) (held ++ bytes) newest) (sym (last_says call stamp heard u got (suc count) (taken + 1) h.is.is.direction refl came all))
      (record {
        follows = inr (all_taken size (record {
          is = same_upload (with_frame Part (after u (part (record u { stage = AllAcknowledged }))) (stamp (suc count)) Client) h.is refl refl refl refl refl refl;
          stage = refl;
          size = h.size;
          pending = omega (arith, both, seven);
        }) (sym (append_assoc got t.pending.items bytes) ∙ ap (λ xs. xs ++ bytes) g) refl);
        reads = refl;
      })
  next_taken size taken old sequence bytes held got false true h g seven l n = by (nat_lt (cap_of call.job) (length (held ++ bytes)))
    where
      segment : BlockSegment
      segment = record { last = false; sequence = sequence; bytes = bytes }

      u : Transfer
      u = with_frame Part (after t (segment_added t segment)) (stamp count) Server

      by : (full : Bool)
          → (let v = unless_fault ((full, 0x05040005) ∷ []) (GoesOn (Asked (BlockUploadAcknowledge (taken + 1) 127) ∷ [])) in
          Steps Loose call v (InSubBlockStage size 0) (held ++ bytes) newest (says call stamp (messages_by call v) (comes got (segment_added t segment))))
      by true = gives_up Loose call stamp (InSubBlockStage size 0) (held ++ bytes) newest 0x05040005 (comes got (segment_added t segment)) refl
      by false =
          let p = h.pending in
          let both = length-append t.pending.items bytes in
          let whole : length (t.pending.items ++ bytes) ≡ 7 * (taken + 1) = omega (arith, p, both, seven) in
          let number : awaited_number u ≡ taken + 1 + 1 = omega (arith, whole) in
          let came : nat_lt (taken + 1) (awaited_number u) ≡ true = grind (arith, nat_tests) in
          let front : take (7 * (taken + 1)) (t.pending.items ++ bytes) ≡ t.pending.items ++ bytes = all_front (t.pending.items ++ bytes) (7 * (taken + 1)) whole in
          let taken_so = got ++ take (7 * (taken + 1)) (t.pending.items ++ bytes) in
          let v = GoesOn (Asked (BlockUploadAcknowledge (taken + 1) 127) ∷ []) in
          subst (Steps Loose call v (InSubBlockStage size 0) (held ++ bytes) newest) (sym (next_says call stamp heard u got (suc count) (taken + 1) h.is.is.direction refl came))
          (record {
            follows = inr (in_sub_block size 0 (record {
              is = same_upload (with_frame Part (after u (takes_pending (next_sub_block u 127) (7 * (taken + 1)))) (stamp (suc count)) Client) h.is refl refl refl refl refl (sym h.is.block_size);
              stage = refl;
              size = h.size;
              number = ap (λ k. k + 1) (sym n);
              pending = refl;
            }) (append-nil taken_so ∙ ap (λ xs. got ++ xs) front ∙ sym (append_assoc got t.pending.items bytes) ∙ ap (λ xs. xs ++ bytes) g) refl);
            reads = refl;
          })
  next_taken size taken old sequence bytes held got false false h g seven l n =
      let segment : BlockSegment = record { last = false; sequence = sequence; bytes = bytes } in
      let u = with_frame Part (after t (segment_added t segment)) (stamp count) Server in
      let p = h.pending in
      let both = length-append t.pending.items bytes in
      record {
        follows = inr (in_sub_block size (taken + 1) (record {
          is = same_upload u h.is refl refl refl refl refl refl;
          stage = refl;
          size = h.size;
          number = ap (λ k. k + 1) (sym n);
          pending = omega (arith, p, both, seven);
        }) (sym (append_assoc got t.pending.items bytes) ∙ ap (λ xs. xs ++ bytes) g) refl);
        reads = refl;
      }

  ahead_so : (got : List ℕ) (segment : BlockSegment) → t.stage ≡ SubBlock false → comes got (segment_ahead t segment) ≡ holds heard (Some (with_frame Part (after t (segment_ahead t segment)) (stamp count) Server)) got [] (suc count)
  ahead_so got segment e =
      rw e (ap (λ u. holds heard (Some u) got [] (suc count)) (by (segment.sequence == t.next_number) (record (numbered_after t segment) { stage = SubBlock false })))
    where
      by : (b : Bool) (u : Transfer) → with_frame (if b then SegmentOf segment.sequence else OutOfSequence segment.sequence t.next_number) u (stamp count) Server ≡ with_frame Part u (stamp count) Server
      by true u = refl
      by false u = refl

  -- one after one that is missing
  ahead_left : (size : Option ℕ) (taken old : ℕ) (segment : BlockSegment) (held got : List ℕ) (ends : Bool) → IsInSubBlock call t size taken old → got ++ t.pending.items ≡ held → newest ≡ (if ends then 0 else segment.sequence)
      → MadeOf size taken held got None ends (segment_ahead t segment)
  ahead_left size taken old segment held got true h g n = by (nat_lt (cap_of call.job) (length (held ++ [])))
    where
      u : Transfer
      u = with_frame Part (after t (segment_ahead t segment)) (stamp count) Server

      by : (full : Bool)
          → (let v = unless_fault ((full, 0x05040005) ∷ []) (GoesOn (Asked (BlockUploadAcknowledge taken 127) ∷ [])) in
          Steps Loose call v (InSubBlockStage size 0) (held ++ []) newest (says call stamp (messages_by call v) (comes got (segment_ahead t segment))))
      by true =
          gives_up Loose call stamp (InSubBlockStage size 0) (held ++ []) newest 0x05040005 (comes got (segment_ahead t segment))
          (late_turn call (stamp count) Server heard t got [] count (segment_ahead t segment) (inr (ap confirmed_with h.stage)))
      by false =
          let p = h.pending in
          let number : awaited_number t ≡ taken + 1 = omega (arith, p) in
          let came : nat_lt taken (awaited_number t) ≡ true = grind (arith, nat_tests) in
          let taken_so = got ++ take (7 * taken) t.pending.items in
          let front : taken_so ≡ held = ap (λ xs. got ++ xs) (all_front t.pending.items (7 * taken) p) ∙ g in
          let v = GoesOn (Asked (BlockUploadAcknowledge taken 127) ∷ []) in
          subst (λ x. Steps Loose call v (InSubBlockStage size 0) (held ++ []) newest (says call stamp (messages_by call v) x)) (sym (ahead_so got segment h.stage))
          (subst (Steps Loose call v (InSubBlockStage size 0) (held ++ []) newest) (sym (next_says call stamp heard u got (suc count) taken h.is.is.direction h.stage came))
          (record {
            follows = inr (in_sub_block size 0 (record {
              is = same_upload (with_frame Part (after u (takes_pending (next_sub_block u 127) (7 * taken))) (stamp (suc count)) Client) h.is refl refl refl refl refl (sym h.is.block_size);
              stage = refl;
              size = h.size;
              number = ap (λ k. k + 1) (sym n);
              pending = refl;
            }) (ap (λ xs. xs ++ []) front) refl);
            reads = refl;
          }))
  ahead_left size taken old segment held got false h g n =
      let u = with_frame Part (after t (segment_ahead t segment)) (stamp count) Server in
      subst (Steps Loose call (GoesOn []) (InSubBlockStage size taken) (held ++ []) newest) (sym (ahead_so got segment h.stage))
      (record {
        follows = inr (in_sub_block size taken (record {
          is = same_upload u h.is refl refl refl refl refl refl;
          stage = h.stage;
          size = h.size;
          number = ap (λ k. k + 1) (sym n);
          pending = h.pending;
        }) (g ∙ sym (append-nil held)) refl);
        reads = refl;
      })

  -- any frame there
  abbrev ends_of : Option BlockSegment → Bool
  ends_of s = option_map_or (λ segment. segment.last || (segment.sequence == 127)) s false

  abbrev number_of : Option BlockSegment → ℕ
  number_of s = option_map_or (λ segment. segment.sequence) s 0

  harmless_with : (taken : ℕ) (held : List ℕ) (next : Option BlockSegment) (ends : Bool) → AllHarmless (messages_by call (verdict_with taken held next ends))
  harmless_with taken held next true =
      unless call ((if is_last_taken next then (false, 0) else no_room call (length (held ++ bytes_taken next))) ∷ [])
      (GoesOn (Asked (BlockUploadAcknowledge (option_map_or (λ segment. taken + 1) next taken) 127) ∷ [])) (refl, tt)
  harmless_with taken held next false = tt

  abbrev loses : List ℕ → Turn → Type 0
  loses got turn = Loses call [] (comes got turn)

  by_next : (size : Option ℕ) (taken old : ℕ) (segment : BlockSegment) (held got : List ℕ) (next : Bool) → IsInSubBlock call t size taken old → got ++ t.pending.items ≡ held → length segment.bytes ≡ 7 → newest ≡ (if ends_of (Some segment) then 0 else segment.sequence)
      → MadeOf size taken held got (if next then Some segment else None) (ends_of (Some segment)) (if next then segment_added t segment else segment_ahead t segment)
  by_next size taken old segment held got true h g seven n = next_taken size taken old segment.sequence segment.bytes held got segment.last (ends_of (Some segment)) h g seven (λ e. rw e refl) n
  by_next size taken old segment held got false h g seven n = ahead_left size taken old segment held got (ends_of (Some segment)) h g n

  by_order : (size : Option ℕ) (taken old : ℕ) (segment : BlockSegment) (held got : List ℕ) (lower : Bool) → IsInSubBlock call t size taken old → got ++ t.pending.items ≡ held → length segment.bytes ≡ 7 → nat_lt segment.sequence t.next_number ≡ lower
      → Loose ⊎ (nat_lt old segment.sequence ≡ true) → newest ≡ (if ends_of (Some segment) then 0 else segment.sequence)
      → MadeOf size taken held got (if segment.sequence == taken + 1 then Some segment else None) (ends_of (Some segment))
      (if lower then segment_again t segment else (if segment.sequence == taken + 1 then segment_added t segment else segment_ahead t segment))
  by_order size taken old segment held got true h g seven e (inl l) n =
      let next = if segment.sequence == taken + 1 then Some segment else None in
      lost_steps Loose call stamp (verdict_with taken held next (ends_of (Some segment))) _ _ newest (comes got (segment_again t segment)) l h.is.is.job
      (lost_turn call (stamp count) Server frame heard t got [] count (segment_again t segment) (refl, h.is.is.direction)) (harmless_with taken held next (ends_of (Some segment)))
  by_order size taken old segment held got true h g seven e (inr u) n = let number = h.number in absurd (grind (arith, nat_tests))
  by_order size taken old segment held got false h g seven e up n = by_next size taken old segment held got (segment.sequence == taken + 1) h g seven n

  -- after a frame that is read so
  abbrev MadeSo : Option ℕ → ℕ → List ℕ → List ℕ → Option BlockSegment → Bool → Reading → Type 0
  MadeSo size taken held got next ends reading =
      let v = verdict_with taken held next ends in
      Steps Loose call v (stage_with size taken next ends) (held ++ bytes_taken next) newest (says call stamp (messages_by call v) (read_as call (stamp count) Server frame (holds heard (Some t) got [] count) reading))

  by_segment : (size : Option ℕ) (taken old : ℕ) (held got : List ℕ) (s : Option BlockSegment) → IsInSubBlock call t size taken old → got ++ t.pending.items ≡ held → block_segment_in frame ≡ s
      → Loose ⊎ (nat_lt old (number_of s) ≡ true) → newest ≡ (if ends_of s then 0 else number_of s)
      → MadeSo size taken held got (segment_taken taken s) (ends_of s) (segment_reading t.block_size s (beginning (plain_reading Server (stamp count) frame)))
  by_segment size taken old held got None h g e (inl l) n =
      subst (MadeSo size taken held got None false) (sym (no_segment_read (response_in frame)))
      (lost_steps Loose call stamp (GoesOn []) (InSubBlockStage size taken) (held ++ []) newest (comes got (unexpected t)) l h.is.is.job
      (lost_turn call (stamp count) Server frame heard t got [] count (unexpected t) (refl, h.is.is.direction)) tt)
  by_segment size taken old held got None h g e (inr u) n = absurd (grind (arith, nat_tests))
  by_segment size taken old held got (Some segment) h g e up n =
      let is = is_segment frame segment e in
      let few = small_number frame segment e in
      let block_size = h.is.block_size in
      let p = h.pending in
      let within : nat_le segment.sequence t.block_size ≡ true = grind (arith, nat_tests) in
      let reading : segment_reading t.block_size (Some segment) (beginning (plain_reading Server (stamp count) frame)) ≡ Segment segment = rw within refl in
      let number : awaited_number t ≡ taken + 1 = omega (arith, p) in
      let turn : block_segment_at t.stage t segment ≡ (if nat_lt segment.sequence t.next_number then segment_again t segment else (if segment.sequence == taken + 1 then segment_added t segment else segment_ahead t segment)) =
      ap (λ x. block_segment_at x t segment) h.stage
      ∙ (ap (λ k. if nat_lt segment.sequence t.next_number then segment_again t segment else (if segment.sequence == k then segment_added t segment else segment_ahead t segment)) number) in
      subst (MadeSo size taken held got (segment_taken taken (Some segment)) (ends_of (Some segment))) (sym reading)
      (subst (MadeOf size taken held got (segment_taken taken (Some segment)) (ends_of (Some segment))) (sym turn)
      (by_order size taken old segment held got (nat_lt segment.sequence t.next_number) h g is.bytes refl up n))

  by_abort : (size : Option ℕ) (taken old : ℕ) (held got : List ℕ) (abort : Bool) → IsInSubBlock call t size taken old → got ++ t.pending.items ≡ held
      → Loose ⊎ (abort || nat_lt old (number_in frame) ≡ true) → newest ≡ (if ends_sub_block frame then 0 else number_in frame)
      → (let v = if abort then IsAborted (code_in frame).0 else (if ends_sub_block frame then sub_block_end call taken held frame else GoesOn []) in
      Steps Loose call v (sub_block_stage size taken frame) (held_with held taken frame) newest (says call stamp (messages_by call v)
      (read_as call (stamp count) Server frame (holds heard (Some t) got [] count) (if abort then Abort (code_in frame) else segment_reading t.block_size (block_segment_in frame) (beginning (plain_reading Server (stamp count) frame))))))
  by_abort size taken old held got true h g up n =
      let c = abort_closes call (stamp count) Server frame heard (Some t) got [] count (Abort (code_in frame)) refl in record { follows = tt; reads = c.same }
  by_abort size taken old held got false h g up n = by_segment size taken old held got (block_segment_in frame) h g refl up n

  pub inside_answer : (size : Option ℕ) (taken old : ℕ) (held got : List ℕ) → IsInSubBlock call t size taken old → got ++ t.pending.items ≡ held
      → Loose ⊎ (is_abort_in_sub_block frame || nat_lt old (number_in frame) ≡ true) → newest ≡ (if ends_sub_block frame then 0 else number_in frame)
      → (let v = sub_block_verdict call taken held frame in
      Steps Loose call v (sub_block_stage size taken frame) (held_with held taken frame) newest (says call stamp (messages_by call v) (hears call stamp Server frame (holds heard (Some t) got [] count))))
  inside_answer size taken old held got h g up n =
      let inside : reading_of (Some t) Server (stamp count) frame ≡ sub_block_reading t.block_size Server (stamp count) frame = rw (h.stage, h.is.is.direction) refl in
      let v = sub_block_verdict call taken held frame in
      subst (λ r. Steps Loose call v (sub_block_stage size taken frame) (held_with held taken frame) newest (says call stamp (messages_by call v) (read_as call (stamp count) Server frame (holds heard (Some t) got [] count) r))) (sym inside)
      (by_abort size taken old held got (is_abort_in_sub_block frame) h g up n)

  -- ---- the end

  -- explain after it, and after the client's
  ended_so : (size : Option ℕ) (unused : ℕ) (held got : List ℕ) → IsAllTaken call t size → got ++ t.pending.items ≡ held → t.taken ≡ digest_of got → unused ≤ 7 → nat_lt (cap_of call.job) (length (without unused held)) ≡ false
      → IfSome t.size (λ s. s ≡ length (without unused held))
      → (let v = Ends (Asked UploadEnd ∷ []) (without unused held) in
      Steps Loose call v (LastTaken size) held newest (says call stamp (messages_by call v) (comes got (takes_pending (record t { stage = BlockEnded (crc_in frame) }) (length t.pending.items - unused)))))
  ended_so size unused held got h g kept small room s =
      let few = h.pending in
      let value : List ℕ = without unused held in
      let turn = takes_pending (record t { stage = BlockEnded (crc_in frame) }) (length t.pending.items - unused) in
      let u = with_frame Part (after t turn) (stamp count) Server in
      let taken_so = got ++ take (length t.pending.items - unused) t.pending.items in
      let data_is : taken_so ≡ value = cut_so got t.pending.items held unused g (omega (arith, few, small)) in
      let last = part (record u { stage = Confirmed (if u.crc then Some (crc_in frame) else None) }) in
      let count_is : u.taken.count ≡ counted (length value) =
      ap (λ (d : Digest). d.count) (taking t.taken got turn.takes kept) ∙ ap (λ (xs : List ℕ). counted (length xs)) data_is in
      let fault = size_right t.size u.taken.count (length value) s count_is (within (length value) (cap_of call.job) room (few_read call.job job)) in
      let c = completes Loose call (stamp (suc count)) Client heard u taken_so (suc count) last value (rw h.is.crc refl) (inr h.is.is.regular) fault (h.is.is.direction ∙ sym h.is.is.job) h.is.is.key (data_is ∙ sym (read_bytes call.job value h.is.is.job))
      (ap (λ p. refuses call.mode call.job p taken_so) h.is.protocol ∙ refuses_none call.mode call.job taken_so h.is.is.job (ap (λ xs. nat_lt (cap_of call.job) (length xs)) data_is ∙ room)) in
      subst (Steps Loose call (Ends (Asked UploadEnd ∷ []) value) (LastTaken size) held newest) (sym (end_says call stamp heard u taken_so (suc count) (crc_in frame) refl h.is.is.direction h.is.protocol))
      (is_over Loose call stamp (LastTaken size) held newest (Asked UploadEnd ∷ []) value (turned call (stamp (suc count)) Client heard u taken_so [] (suc count) last) c.none c.reads)

  at_end : (size : Option ℕ) (unused : ℕ) (held got : List ℕ) → IsAllTaken call t size → got ++ t.pending.items ≡ held → t.taken ≡ digest_of got → unused ≤ 7
      → (let v = block_upload_complete call size (without unused held) in
      Steps Loose call v (LastTaken size) held newest (says call stamp (messages_by call v) (comes got (takes_pending (record t { stage = BlockEnded (crc_in frame) }) (length t.pending.items - unused)))))
  at_end size unused held got h g kept small = by size h.size
    where
      value : List ℕ
      value = without unused held

      turn : Turn
      turn = takes_pending (record t { stage = BlockEnded (crc_in frame) }) (length t.pending.items - unused)

      room : (full : Bool) → nat_lt (cap_of call.job) (length value) ≡ full → IfSome t.size (λ s. s ≡ length value)
          → (let v = unless_fault ((full, 0x05040005) ∷ []) (Ends (Asked UploadEnd ∷ []) value) in
          Steps Loose call v (LastTaken size) held newest (says call stamp (messages_by call v) (comes got turn)))
      room true e s = gives_up Loose call stamp (LastTaken size) held newest 0x05040005 (comes got turn) refl
      room false e s = ended_so size unused held got h g kept small e s

      by : (x : Option ℕ) → t.size ≡ x
          → (let v = block_upload_complete call x (without unused held) in
          Steps Loose call v (LastTaken size) held newest (says call stamp (messages_by call v) (comes got (takes_pending (record t { stage = BlockEnded (crc_in frame) }) (length t.pending.items - unused)))))
      by None e = room (nat_lt (cap_of call.job) (length value)) refl (rw e tt)
      by (Some s) e = by_size (nat_lt s (length value)) (nat_lt (length value) s) refl refl
        where
          by_size : (above below : Bool) → nat_lt s (length value) ≡ above → nat_lt (length value) s ≡ below
              → (let v = unless_fault ((above, 0x06070012) ∷ (below, 0x06070013) ∷ no_room call (length value) ∷ []) (Ends (Asked UploadEnd ∷ []) value) in
              Steps Loose call v (LastTaken size) held newest (says call stamp (messages_by call v) (comes got turn)))
          by_size true below a b = gives_up Loose call stamp (LastTaken size) held newest 0x06070012 (comes got turn) refl
          by_size false true a b = gives_up Loose call stamp (LastTaken size) held newest 0x06070013 (comes got turn) refl
          by_size false false a b = room (nat_lt (cap_of call.job) (length value)) refl (rw e (equal s (length value) a b))

  pub all_taken_answer : (size : Option ℕ) (held got : List ℕ) (r : Option SdoResponse) → IfSome r IsSmallEnd → IsAllTaken call t size → got ++ t.pending.items ≡ held → t.taken ≡ digest_of got → Made Loose call job stamp frame heard t count newest (LastTaken size) held got r
  all_taken_answer size held got None small h g kept = no_response Loose call job stamp frame heard t count newest (LastTaken size) held got
  all_taken_answer size held got (Some (Refuse key code)) small h g kept = an_abort Loose call job stamp frame heard t count newest (LastTaken size) held got key code.0
  all_taken_answer size held got (Some (EndSent unused)) small h g kept =
      let turn = takes_pending (record t { stage = BlockEnded (crc_in frame) }) (length t.pending.items - unused) in
      let is : response_turn t (EndSent unused) frame ≡ turn = rw (h.is.is.direction, h.stage) refl in
      let v = block_upload_complete call size (without unused held) in
      subst (λ x. Steps Loose call v (LastTaken size) held newest (says call stamp (messages_by call v) (comes got x))) (sym is) (at_end size unused held got h g kept small)
  all_taken_answer size held got (Some response) small h g kept =
      gives_up Loose call stamp _ _ newest 0x05040001 (comes got (response_turn t response frame))
      (late_turn call (stamp count) Server heard t got [] count (response_turn t response frame) (late_response t response frame (ap confirmed_with h.stage) (rw h.stage refl)))
