-- Expedited and segmented downloads of a client: what explain and the client make of an answer.
use Rattle.std.proofs.Common.{◌≡◌, ℕ, suc, ◌+◌, ◌*◌, Bool, true, false, not, List, [], ◌∷◌, ◌++◌, length, take, Option, Some, None, refl, sym, ap, ◌∙◌, inl, inr, subst, arith}
use Rattle.std.specs.Prelude.{if◌then◌else◌}
use Rattle.std.proofs.lemmas.List.{take_all}
use Rattle.co_value.specs.declared.key.Key.{Key}
use Rattle.co_value.specs.Keys.{same_key}
use Rattle.co_frame.specs.Segments.{is_odd, same_bool, part_after}
use Rattle.co_frame.specs.declared.sdo_request.SdoRequest.TheVariants.{DownloadSegment}
use Rattle.co_frame.specs.declared.sdo_response.SdoResponse.{SdoResponse}
use Rattle.co_frame.specs.declared.sdo_response.SdoResponse.TheVariants.{DownloadDone, DownloadSegmentDone, UploadExpedited, Abort as Refuse}
use Rattle.co_sdo.proofs.Continuations.{not_odd}
use Rattle.co_sdo_client.specs.declared.stage.Stage.{Stage}
use Rattle.co_sdo_client.specs.declared.stage.Stage.TheVariants.{Begun, Download as Sending}
use Rattle.co_sdo_client.specs.Calls.{Call, message_bytes}
use Rattle.co_sdo_client.specs.Segments.{bytes_of, is_last_after, segment_after}
use Rattle.co_sdo_client.specs.Steps.{stage_next, held_next}
use Rattle.co_sdo_client.specs.Verdicts.{GoesOn, Ends, unless_fault, response_verdict, segment_confirmed}
use Rattle.co_sdo_client.specs.Outcomes.{messages_by}
use Rattle.co_sdo_laws.specs.Undisturbed.{IsJob}
use Rattle.co_sdo_laws.proofs.Frames.{segment_read}
use Rattle.co_sdo_laws.proofs.Segments.{joined, taken_all, part_small}
use Rattle.conode_explain_transfers.specs.declared.digest.Digest.{Digest}
use Rattle.conode_explain_transfers.specs.declared.kinds.Side.TheVariants.{Client, Server}
use Rattle.conode_explain_transfers.specs.declared.kinds.What.TheVariants.{Part}
use Rattle.conode_explain_transfers.specs.declared.stage.Stage.TheVariants.{DownloadConfirmed, Confirmed}
use Rattle.conode_explain_transfers.specs.declared.transfer.Transfer.{Transfer}
use Rattle.conode_explain_transfers.specs.Digests.{counted, digest_of}
use Rattle.conode_explain_transfers.specs.Followed.{with_frame}
use Rattle.conode_explain_transfers.specs.SegmentedTurns.{answering, confirmed, segment_pending, download_stage}
use Rattle.conode_explain_transfers.specs.Stages.{confirmed_with}
use Rattle.conode_explain_transfers.specs.Transfers.{Turn, after, goes_on as part, takes_pending}
use Rattle.conode_explain_transfers.specs.Turns.{response_turn}
use Rattle.conode_explain_transfers.proofs.DataLemmas.{taking}
use Rattle.conode_explain_laws.proofs.Readings.{Request, Abort, Nothing, request_reading, response_reading, reading_of, turn_of}
use Rattle.conode_explain_laws.proofs.Follows.{IsLate}
use Rattle.conode_explain_laws.proofs.Exchanges.{same_toggle}
use Rattle.conode_explain_laws.proofs.ClientViews.{Seen, holds, says, read_as, turned, late_turn, late_response, abort_closes, is_expected, late_other_key, late_answering}
use Rattle.conode_explain_laws.proofs.ClientStanding.{IsDownload, IsAtOnce, IsBegun, IsSent, sent, Steps, gives_up, is_over, completes, size_right, few_sent, sent_size, sent_bytes, never_refused}

-- ---- the client's segments

-- explain after a segment
abbrev sends : Transfer → ℕ → List ℕ → ℕ → Transfer
sends u k bytes micros = with_frame Part (after u (part (segment_pending u (is_odd k) (is_last_after k bytes) (record { items = part_after k bytes })))) micros Client

segment_says : (call : Call) (stamp : ℕ → ℕ) (heard : Bool) (u : Transfer) (got : List ℕ) (count k : ℕ) (bytes : List ℕ) → u.stage ≡ DownloadConfirmed (is_odd k)
    → says call stamp (segment_after k bytes ∷ []) (holds heard (Some u) got [] count) ≡ holds heard (Some (sends u k bytes (stamp count))) got [] (suc count)
segment_says call stamp heard u got count k bytes e =
    let frame = message_bytes (segment_after k bytes) in
    let read : reading_of (Some u) Client (stamp count) frame ≡ Request (DownloadSegment (is_odd k) (record { items = part_after k bytes }) (is_last_after k bytes)) =
    rw e (ap (λ r. request_reading r (stamp count) frame) (segment_read (is_odd k) (part_after k bytes) (is_last_after k bytes) (part_small k bytes))) in
    ap (read_as call (stamp count) Client frame (holds heard (Some u) got [] count)) read ∙ by (is_odd k) e
  where
    by : (toggle : Bool) → u.stage ≡ DownloadConfirmed toggle
        → read_as call (stamp count) Client (message_bytes (segment_after k bytes)) (holds heard (Some u) got [] count) (Request (DownloadSegment toggle (record { items = part_after k bytes }) (is_last_after k bytes)))
        ≡ holds heard (Some (with_frame Part (after u (part (segment_pending u toggle (is_last_after k bytes) (record { items = part_after k bytes })))) (stamp count) Client)) got [] (suc count)
    by toggle e = rw (e, same_toggle toggle) refl

-- ---- one answer

module _ (Loose : Type 0) (call : Call) (job : IsJob call.job) (stamp : ℕ → ℕ) (frame : List ℕ) (heard : Bool) (t : Transfer) (count newest : ℕ) where
  abbrev comes : List ℕ → Option SdoResponse → Seen
  comes got r = read_as call (stamp count) Server frame (holds heard (Some t) got [] count) (response_reading r)

  abbrev pub Made : Stage → List ℕ → List ℕ → Option SdoResponse → Type 0
  Made stage held got r =
      Steps Loose call (response_verdict call stage held r) (stage_next call stage r) (held_next stage held r) newest (says call stamp (messages_by call (response_verdict call stage held r)) (comes got r))

  -- a frame that is no response, an abort, and a response that isn't awaited
  pub no_response : (stage : Stage) (held got : List ℕ) → Made stage held got None
  no_response stage held got = gives_up Loose call stamp _ _ newest 0x05040001 (comes got None) (late_turn call (stamp count) Server heard t got [] count (turn_of t Nothing frame) (inl refl))

  pub an_abort : (stage : Stage) (held got : List ℕ) (key : Key) (code : ℕ) → Made stage held got (Some (Refuse key (record { 0 = code })))
  an_abort stage held got key code =
      let c = abort_closes call (stamp count) Server frame heard (Some t) got [] count (Abort (record { 0 = code })) refl in record { follows = tt; reads = c.same }

  late_done : (response : SdoResponse) (got : List ℕ) → confirmed_with t.stage ≡ None → is_expected t.stage response ≡ false
      → (turned call (stamp count) Server heard t got [] count (response_turn t response frame)).done ≡ []
  late_done response got u e = late_turn call (stamp count) Server heard t got [] count (response_turn t response frame) (late_response t response frame u e)

  -- of an entry that isn't the client's
  overtakes : (key : Key) (turn : Turn) → IsDownload Loose call t → confirmed_with t.stage ≡ None → same_key key call.key ≡ false → IsLate (answering t key turn)
  overtakes key turn h u e = late_other_key t key turn u (ap (λ k. same_key key k) h.key ∙ e)

  -- ---- at once

  at_once_taken : (key : Key) (same : Bool) → IsAtOnce Loose call t → t.taken ≡ digest_of [] → same_key key call.key ≡ same
      → (let v = unless_fault ((not same, 0x05040001) ∷ []) (Ends [] []) in
      Steps Loose call v Begun [] newest (says call stamp (messages_by call v) (comes [] (Some (DownloadDone key)))))
  at_once_taken key false h kept e =
      gives_up Loose call stamp Begun [] newest 0x05040001 (comes [] (Some (DownloadDone key)))
      (late_turn call (stamp count) Server heard t [] [] count (response_turn t (DownloadDone key) frame) (overtakes key _ h.is (ap confirmed_with h.stage) e))
  at_once_taken key true h kept e =
      let turn = takes_pending (confirmed t) (length t.pending.items) in
      let is : response_turn t (DownloadDone key) frame ≡ turn = rw (h.stage, h.is.key, e, h.is.direction, h.protocol) refl in
      let items : take (length t.pending.items) t.pending.items ≡ bytes_of call.job = take_all (length t.pending.items) t.pending.items (omega arith) ∙ h.pending in
      let c = completes Loose call (stamp count) Server heard t [] count turn [] refl h.is.track (rw h.size refl) (h.is.direction ∙ sym h.is.job) h.is.key (items ∙ sym (sent_bytes call.job [] h.is.job)) (never_refused call.mode call.job t.protocol _ h.is.job) in
      subst (λ x. Steps Loose call (Ends [] []) Begun [] newest (turned call (stamp count) Server heard t [] [] count x)) (sym is)
      (is_over Loose call stamp Begun [] newest [] [] (turned call (stamp count) Server heard t [] [] count turn) c.none c.reads)

  -- ---- in segments

  -- the first segment
  first_sent : (key : Key) (same : Bool) → IsBegun Loose call t → same_key key call.key ≡ same
      → (let v = unless_fault ((not same, 0x05040001) ∷ []) (GoesOn (segment_after 0 (bytes_of call.job) ∷ [])) in
      Steps Loose call v (Sending 0) [] newest (says call stamp (messages_by call v) (comes [] (Some (DownloadDone key)))))
  first_sent key false h e =
      gives_up Loose call stamp (Sending 0) [] newest 0x05040001 (comes [] (Some (DownloadDone key)))
      (late_turn call (stamp count) Server heard t [] [] count (response_turn t (DownloadDone key) frame) (overtakes key _ h.is (ap confirmed_with h.stage) e))
  first_sent key true h e =
      let turn = part (record t { stage = DownloadConfirmed false }) in
      let is : response_turn t (DownloadDone key) frame ≡ turn = rw (h.stage, h.is.key, e, h.is.direction, h.protocol) refl in
      let u = with_frame Part (after t turn) (stamp count) Server in
      let v = GoesOn (segment_after 0 (bytes_of call.job) ∷ []) in
      subst (λ x. Steps Loose call v (Sending 0) [] newest (says call stamp (messages_by call v) (turned call (stamp count) Server heard t [] [] count x))) (sym is)
      (subst (Steps Loose call v (Sending 0) [] newest) (sym (segment_says call stamp heard u [] (suc count) 0 (bytes_of call.job) refl))
      (record {
        follows = inr (sent 0 (record {
          is = record { direction = h.is.direction; job = h.is.job; key = h.is.key; track = h.is.track };
          stage = refl;
          size = h.size;
          pending = refl;
        }) refl refl);
        reads = refl;
      }))

  -- the data with the segment that is confirmed
  with_segment : (k : ℕ) (got : List ℕ) → IsSent Loose call t k → got ≡ take (7 * k) (bytes_of call.job) → got ++ take (length t.pending.items) t.pending.items ≡ take (7 * suc k) (bytes_of call.job)
  with_segment k got h g =
      ap (λ xs. got ++ xs) (take_all (length t.pending.items) t.pending.items (omega arith) ∙ h.pending)
      ∙ ap (λ xs. xs ++ part_after k (bytes_of call.job)) g ∙ joined (bytes_of call.job) k

  next_sent : (k : ℕ) (got : List ℕ) (last : Bool) → IsSent Loose call t k → got ≡ take (7 * k) (bytes_of call.job) → t.taken ≡ digest_of got → is_last_after k (bytes_of call.job) ≡ last
      → (let v = if last then Ends [] [] else GoesOn (segment_after (k + 1) (bytes_of call.job) ∷ []) in
      Steps Loose call v (Sending (k + 1)) [] newest (says call stamp (messages_by call v)
      (turned call (stamp count) Server heard t got [] count (takes_pending (record t { stage = download_stage (is_odd k) last }) (length t.pending.items)))))
  next_sent k got true h g kept e =
      let turn = takes_pending (record t { stage = Confirmed None }) (length t.pending.items) in
      let all : got ++ take (length t.pending.items) t.pending.items ≡ bytes_of call.job = with_segment k got h g ∙ taken_all (bytes_of call.job) k e in
      let count_is : (after t turn).taken.count ≡ counted (length (bytes_of call.job)) =
      ap (λ (d : Digest). d.count) (taking t.taken got turn.takes kept) ∙ ap (λ (xs : List ℕ). counted (length xs)) all in
      let fault = size_right t.size (after t turn).taken.count (length (bytes_of call.job)) (rw h.size (sent_size call.job)) count_is (few_sent call.job job) in
      let c = completes Loose call (stamp count) Server heard t got count turn [] refl h.is.track fault (h.is.direction ∙ sym h.is.job) h.is.key (all ∙ sym (sent_bytes call.job [] h.is.job)) (never_refused call.mode call.job t.protocol _ h.is.job) in
      is_over Loose call stamp (Sending (k + 1)) [] newest [] [] (turned call (stamp count) Server heard t got [] count turn) c.none c.reads
  next_sent k got false h g kept e =
      let turn = takes_pending (record t { stage = DownloadConfirmed (not (is_odd k)) }) (length t.pending.items) in
      let more : suc k ≡ k + 1 = omega arith in
      let u = with_frame Part (after t turn) (stamp count) Server in
      let taken = got ++ take (length t.pending.items) t.pending.items in
      let v = GoesOn (segment_after (k + 1) (bytes_of call.job) ∷ []) in
      let odd : not (is_odd k) ≡ is_odd (k + 1) = sym (ap is_odd (sym more) ∙ not_odd k) in
      subst (Steps Loose call v (Sending (k + 1)) [] newest) (sym (segment_says call stamp heard u taken (suc count) (k + 1) (bytes_of call.job) (ap (λ b. DownloadConfirmed b) odd)))
      (record {
        follows = inr (sent (k + 1) (record {
          is = record { direction = h.is.direction; job = h.is.job; key = h.is.key; track = h.is.track };
          stage = refl;
          size = h.size;
          pending = refl;
        }) (with_segment k got h g ∙ ap (λ n. take (7 * n) (bytes_of call.job)) more) refl);
        reads = refl;
      })

  confirms : (k : ℕ) (got : List ℕ) (toggle same : Bool) → IsSent Loose call t k → got ≡ take (7 * k) (bytes_of call.job) → t.taken ≡ digest_of got → same_bool toggle (is_odd k) ≡ same
      → (let v = unless_fault ((not same, 0x05030000) ∷ []) (segment_confirmed (bytes_of call.job) k) in
      Steps Loose call v (Sending (k + 1)) [] newest (says call stamp (messages_by call v) (comes got (Some (DownloadSegmentDone toggle)))))
  confirms k got toggle false h g kept e =
      gives_up Loose call stamp (Sending (k + 1)) [] newest 0x05030000 (comes got (Some (DownloadSegmentDone toggle)))
      (late_turn call (stamp count) Server heard t got [] count (response_turn t (DownloadSegmentDone toggle) frame) (rw (h.stage, e) (inl refl)))
  confirms k got toggle true h g kept e =
      let last = is_last_after k (bytes_of call.job) in
      let turn = takes_pending (record t { stage = download_stage (is_odd k) last }) (length t.pending.items) in
      let is : response_turn t (DownloadSegmentDone toggle) frame ≡ turn = rw (h.stage, e) refl in
      let v = segment_confirmed (bytes_of call.job) k in
      subst (λ x. Steps Loose call v (Sending (k + 1)) [] newest (says call stamp (messages_by call v) (turned call (stamp count) Server heard t got [] count x))) (sym is)
      (next_sent k got last h g kept refl)

  -- ---- any answer

  pub at_once_answer : (held : List ℕ) (r : Option SdoResponse) → IsAtOnce Loose call t → t.taken ≡ digest_of [] → Made Begun held [] r
  at_once_answer held None h kept = no_response Begun held []
  at_once_answer held (Some (Refuse key code)) h kept = an_abort Begun held [] key code.0
  at_once_answer held (Some (DownloadDone key)) h kept = rw h.transfer (at_once_taken key (same_key key call.key) h kept refl)
  at_once_answer held (Some (UploadExpedited key value)) h kept =
      rw h.transfer (gives_up Loose call stamp _ _ newest 0x05040001 (comes [] (Some (UploadExpedited key value)))
      (late_turn call (stamp count) Server heard t [] [] count (response_turn t (UploadExpedited key value) frame)
      (late_answering t key _ (ap confirmed_with h.stage) (rw h.is.direction (inl refl)))))
  at_once_answer held (Some response) h kept =
      rw h.transfer (gives_up Loose call stamp _ _ newest 0x05040001 (comes [] (Some response)) (late_done response [] (ap confirmed_with h.stage) (rw h.stage refl)))

  pub begun_answer : (held : List ℕ) (r : Option SdoResponse) → IsBegun Loose call t → Made Begun held [] r
  begun_answer held None h = no_response Begun held []
  begun_answer held (Some (Refuse key code)) h = an_abort Begun held [] key code.0
  begun_answer held (Some (DownloadDone key)) h = rw h.transfer (first_sent key (same_key key call.key) h refl)
  begun_answer held (Some (UploadExpedited key value)) h =
      rw h.transfer (gives_up Loose call stamp _ _ newest 0x05040001 (comes [] (Some (UploadExpedited key value)))
      (late_turn call (stamp count) Server heard t [] [] count (response_turn t (UploadExpedited key value) frame)
      (late_answering t key _ (ap confirmed_with h.stage) (rw h.is.direction (inl refl)))))
  begun_answer held (Some response) h =
      rw h.transfer (gives_up Loose call stamp _ _ newest 0x05040001 (comes [] (Some response)) (late_done response [] (ap confirmed_with h.stage) (rw h.stage refl)))

  pub sent_answer : (k : ℕ) (held got : List ℕ) (r : Option SdoResponse) → IsSent Loose call t k → got ≡ take (7 * k) (bytes_of call.job) → t.taken ≡ digest_of got → held ≡ [] → Made (Sending k) held got r
  sent_answer k held got None h g kept e = no_response (Sending k) held got
  sent_answer k held got (Some (Refuse key code)) h g kept e = an_abort (Sending k) held got key code.0
  sent_answer k held got (Some (DownloadSegmentDone toggle)) h g kept e = rw e (confirms k got toggle (same_bool toggle (is_odd k)) h g kept refl)
  sent_answer k held got (Some response) h g kept e =
      gives_up Loose call stamp _ _ newest 0x05040001 (comes got (Some response)) (late_done response got (ap confirmed_with h.stage) (rw h.stage refl))
