-- Uploads of a client that aren't in blocks: what explain and the client make of an answer.
use Rattle.std.proofs.Common.{◌≡◌, ℕ, suc, ◌≤◌, Bool, true, false, not, List, [], ◌∷◌, ◌++◌, length, Option, Some, None, refl, sym, ap, ◌∙◌, inl, inr, subst, arith}
use Rattle.std.specs.Prelude.{if◌then◌else◌, nat_lt, ◌==◌, ◌||◌, IfSome}
use Rattle.std.specs.Option.{option_map_or}
use Rattle.std.proofs.lemmas.Bool.{false≢true}
use Rattle.std.proofs.lemmas.Bool.Decides.{nat_tests}
use Rattle.arrayvec.specs.ArrayVec.{ArrayVec}
use Rattle.co_value.specs.declared.key.Key.{Key}
use Rattle.co_value.specs.Keys.{same_key}
use Rattle.co_frame.specs.Segments.{same_bool}
use Rattle.co_frame.specs.SdoRequests.{request_bytes}
use Rattle.co_frame.specs.declared.sdo_request.ExpeditedData.{ExpeditedData}
use Rattle.co_frame.specs.declared.sdo_request.ExpeditedData.TheVariants.{Indicated, NotIndicated}
use Rattle.co_frame.specs.declared.sdo_request.SdoRequest.TheVariants.{UploadSegment as NextSegment}
use Rattle.co_frame.specs.declared.sdo_response.SdoResponse.{SdoResponse}
use Rattle.co_frame.specs.declared.sdo_response.SdoResponse.TheVariants.{DownloadDone, UploadExpedited, UploadInitiated, UploadSegment, Abort as Refuse}
use Rattle.co_sdo_client.specs.declared.mode.Mode.{Mode}
use Rattle.co_sdo_client.specs.declared.mode.Mode.TheVariants.{Plain, Segmented as InSegments, Block as InBlocks}
use Rattle.co_sdo_client.specs.declared.stage.Stage.{Stage}
use Rattle.co_sdo_client.specs.declared.stage.Stage.TheVariants.{Begun, Upload as Taking}
use Rattle.co_sdo_client.specs.Calls.{Job, Download as Write, Upload as Read, Call, Request as Asked}
use Rattle.co_sdo_client.specs.Segments.{cap_of, transfer_by}
use Rattle.co_sdo_client.specs.Verdicts.{GoesOn, Ends, GivesUp, unless_fault, expedited_value, upload_complete}
use Rattle.co_sdo_client.specs.Outcomes.{messages_by}
use Rattle.co_sdo_laws.specs.Undisturbed.{IsJob}
use Rattle.co_sdo_laws.proofs.Frames.{next_read}
use Rattle.co_sdo_laws.proofs.Permits.{reads_in_segments}
use Rattle.conode_explain_transfers.specs.declared.digest.Digest.{Digest}
use Rattle.conode_explain_transfers.specs.declared.kinds.Direction.TheVariants.{Download, Upload}
use Rattle.conode_explain_transfers.specs.declared.kinds.Protocol.{Protocol}
use Rattle.conode_explain_transfers.specs.declared.kinds.Protocol.TheVariants.{Expedited, Segmented}
use Rattle.conode_explain_transfers.specs.declared.kinds.Side.TheVariants.{Client, Server}
use Rattle.conode_explain_transfers.specs.declared.kinds.What.TheVariants.{Part}
use Rattle.conode_explain_transfers.specs.declared.stage.Stage.TheVariants.{UploadTaken, UploadAsked, Confirmed}
use Rattle.conode_explain_transfers.specs.declared.transfer.Transfer.{Transfer}
use Rattle.conode_explain_transfers.specs.Digests.{counted, digest_of}
use Rattle.conode_explain_transfers.specs.Followed.{with_frame}
use Rattle.conode_explain_transfers.specs.Initiates.{data_of}
use Rattle.conode_explain_transfers.specs.SegmentedTurns.{answering, confirmed, upload_stage}
use Rattle.conode_explain_transfers.specs.Stages.{confirmed_with}
use Rattle.conode_explain_transfers.specs.Transfers.{Turn, after, goes_on as part, takes_data}
use Rattle.conode_explain_transfers.specs.Turns.{response_turn}
use Rattle.conode_explain_transfers.proofs.DataLemmas.{taking}
use Rattle.conode_explain_laws.specs.Clients.{refuses, direction_of}
use Rattle.conode_explain_laws.proofs.Readings.{Request, request_reading, reading_of}
use Rattle.conode_explain_laws.proofs.Follows.{IsLate}
use Rattle.conode_explain_laws.proofs.Exchanges.{same_toggle}
use Rattle.conode_explain_laws.proofs.ClientViews.{Seen, holds, says, read_as, turned, late_turn, late_response, late_other_key, late_answering}
use Rattle.conode_explain_laws.proofs.ClientStanding.{IsUpload, IsAsked, IsTaking, taking as taking_sync, Steps, gives_up, is_over, completes, size_right, read_bytes, refused_turn, size_wrong}
use Rattle.conode_explain_laws.proofs.ClientDownloads.{Made, no_response, an_abort}

-- which of them the client doesn't take
plain_refuses : (mode : Mode) (job : Job) (protocol : Protocol) (got : List ℕ) → direction_of job ≡ Upload → transfer_by mode job ≡ transfer_by reads_in_segments.0 reads_in_segments.1 → refuses mode job protocol got ≡ nat_lt (cap_of job) (length got)
plain_refuses Plain (Read cap) protocol got d h = by (nat_lt cap (length got))
  where
    by : (b : Bool) → b || false ≡ b
    by true = refl
    by false = refl
plain_refuses InSegments (Read cap) protocol got d h = by (nat_lt cap (length got))
  where
    by : (b : Bool) → b || false ≡ b
    by true = refl
    by false = refl
plain_refuses InBlocks (Read cap) protocol got d h = cc
plain_refuses mode (Write bytes tells) protocol got d h = absurd (let e : Download ≡ Upload = d in cc)

-- the client asks for the next segment
abbrev asks : Transfer → Bool → ℕ → Transfer
asks u toggle micros = with_frame Part (after u (part (record u { stage = UploadAsked toggle }))) micros Client

toggles_same : (a b : Bool) → same_bool a b ≡ true → a ≡ b
toggles_same true true h = refl
toggles_same true false h = absurd (false≢true h)
toggles_same false true h = absurd (false≢true h)
toggles_same false false h = refl

next_says : (call : Call) (stamp : ℕ → ℕ) (heard : Bool) (u : Transfer) (got : List ℕ) (count : ℕ) (toggle : Bool) → u.stage ≡ UploadTaken toggle
    → says call stamp (Asked (NextSegment toggle) ∷ []) (holds heard (Some u) got [] count) ≡ holds heard (Some (asks u toggle (stamp count))) got [] (suc count)
next_says call stamp heard u got count toggle e =
    let frame = request_bytes (NextSegment toggle) in
    let read : reading_of (Some u) Client (stamp count) frame ≡ Request (NextSegment toggle) = rw e (ap (λ r. request_reading r (stamp count) frame) (next_read toggle)) in
    ap (read_as call (stamp count) Client frame (holds heard (Some u) got [] count)) read ∙ rw (e, same_toggle toggle) refl

values : (value : ExpeditedData) → expedited_value value ≡ data_of value
values (Indicated counted) = refl
values (NotIndicated four) = refl

pub few_read : (job : Job) → IsJob job → cap_of job ≤ 65535
few_read (Write bytes tells) h = omega arith
few_read (Read cap) h = h

pub within : (n cap : ℕ) → nat_lt cap n ≡ false → cap ≤ 65535 → n ≤ 65535
within n cap e room = grind (arith, nat_tests)

not_counted : (n : ℕ) → n ≤ 65535 → counted n ≡ n
not_counted n h = omega arith

pub equal : (s n : ℕ) → nat_lt s n ≡ false → nat_lt n s ≡ false → s ≡ n
equal s n a b = grind (arith, nat_tests)

module _ (Loose : Type 0) (call : Call) (job : IsJob call.job) (stamp : ℕ → ℕ) (frame : List ℕ) (heard : Bool) (t : Transfer) (count newest : ℕ) where
  abbrev comes : List ℕ → Turn → Seen
  comes got turn = turned call (stamp count) Server heard t got [] count turn

  -- of an entry that isn't the client's
  overtakes : (key : Key) (turn : Turn) → IsUpload call t → confirmed_with t.stage ≡ None → same_key key call.key ≡ false → IsLate (answering t key turn)
  overtakes key turn h u e = late_other_key t key turn u (ap (λ k. same_key key k) h.key ∙ e)

  -- ---- all bytes at once

  all_at_once : (stage : Stage) (key : Key) (value : ExpeditedData) (same full : Bool) → IsAsked call t → t.taken ≡ digest_of [] → same_key key call.key ≡ same → nat_lt (cap_of call.job) (length (data_of value)) ≡ full
      → (let v = unless_fault ((not same, 0x05040001) ∷ (full, 0x05040005) ∷ []) (Ends [] (data_of value)) in
      Steps Loose call v stage [] newest (says call stamp (messages_by call v) (comes [] (response_turn t (UploadExpedited key value) frame))))
  all_at_once stage key value false full h kept e f =
      gives_up Loose call stamp stage [] newest 0x05040001 (comes [] (response_turn t (UploadExpedited key value) frame))
      (late_turn call (stamp count) Server heard t [] [] count (response_turn t (UploadExpedited key value) frame) (overtakes key _ h.is (ap confirmed_with h.stage) e))
  all_at_once stage key value true full h kept e f =
      let is : response_turn t (UploadExpedited key value) frame ≡ turn = rw (h.stage, h.is.key, e, h.is.direction) refl in
      let v = unless_fault ((full, 0x05040005) ∷ []) (Ends [] (data_of value)) in
      subst (λ x. Steps Loose call v stage [] newest (says call stamp (messages_by call v) (comes [] x))) (sym is) (by full f)
    where
      turn : Turn
      turn = takes_data (record (confirmed t) { protocol = Expedited; crc = false }) (data_of value)

      by : (full : Bool) → nat_lt (cap_of call.job) (length (data_of value)) ≡ full
          → (let v = unless_fault ((full, 0x05040005) ∷ []) (Ends [] (data_of value)) in Steps Loose call v stage [] newest (says call stamp (messages_by call v) (comes [] turn)))
      by true f = gives_up Loose call stamp stage [] newest 0x05040005 (comes [] turn) (refused_turn call (stamp count) Server heard t [] count turn (plain_refuses call.mode call.job Expedited (data_of value) h.is.job h.transfer ∙ f))
      by false f =
          let c = completes Loose call (stamp count) Server heard t [] count turn (data_of value) refl (inr h.is.regular) (rw h.size refl) (h.is.direction ∙ sym h.is.job) h.is.key (sym (read_bytes call.job (data_of value) h.is.job)) (plain_refuses call.mode call.job Expedited (data_of value) h.is.job h.transfer ∙ f) in
          is_over Loose call stamp stage [] newest [] (data_of value) (comes [] turn) c.none c.reads

  -- ---- in segments

  first_asked : (key : Key) (size : Option ℕ) (same full : Bool) → IsAsked call t → same_key key call.key ≡ same
      → (let v = unless_fault ((not same, 0x05040001) ∷ (full, 0x05040005) ∷ []) (GoesOn (Asked (NextSegment false) ∷ [])) in
      Steps Loose call v (Taking size false) [] newest (says call stamp (messages_by call v) (comes [] (response_turn t (UploadInitiated key size) frame))))
  first_asked key size false full h e =
      gives_up Loose call stamp (Taking size false) [] newest 0x05040001 (comes [] (response_turn t (UploadInitiated key size) frame))
      (late_turn call (stamp count) Server heard t [] [] count (response_turn t (UploadInitiated key size) frame) (overtakes key _ h.is (ap confirmed_with h.stage) e))
  first_asked key size true true h e =
      gives_up Loose call stamp (Taking size false) [] newest 0x05040005 (comes [] (response_turn t (UploadInitiated key size) frame))
      (late_turn call (stamp count) Server heard t [] [] count (response_turn t (UploadInitiated key size) frame) (late_response t (UploadInitiated key size) frame (ap confirmed_with h.stage) (rw h.stage refl)))
  first_asked key size true false h e =
      let turn = part (record t { protocol = Segmented; crc = false; size = size; stage = UploadTaken false }) in
      let is : response_turn t (UploadInitiated key size) frame ≡ turn = rw (h.stage, h.is.key, e, h.is.direction) refl in
      let u = with_frame Part (after t turn) (stamp count) Server in
      let v = GoesOn (Asked (NextSegment false) ∷ []) in
      subst (λ x. Steps Loose call v (Taking size false) [] newest (says call stamp (messages_by call v) (comes [] x))) (sym is)
      (subst (Steps Loose call v (Taking size false) [] newest) (sym (next_says call stamp heard u [] (suc count) false refl))
      (record {
        follows = inr (taking_sync size false (record {
          is = record { direction = h.is.direction; job = h.is.job; key = h.is.key; regular = h.is.regular };
          transfer = h.transfer;
          stage = refl;
          size = refl;
        }) refl refl);
        reads = refl;
      }))

  -- the last segment: the client compares the size, and so does explain
  last_taken : (size : Option ℕ) (got : List ℕ) (segment : ArrayVec ℕ) (toggle : Bool) → IsTaking call t size toggle → t.taken ≡ digest_of got → nat_lt (cap_of call.job) (length (got ++ segment.items)) ≡ false
      → (let v = upload_complete size (got ++ segment.items) in
      Steps Loose call v (Taking size (not toggle)) (got ++ segment.items) newest (says call stamp (messages_by call v) (comes got (takes_data (record t { stage = Confirmed None }) segment.items))))
  last_taken size got segment toggle h kept f = by size h.size
    where
      turn : Turn
      turn = takes_data (record t { stage = Confirmed None }) segment.items

      count_is : (after t turn).taken.count ≡ counted (length (got ++ segment.items))
      count_is = ap (λ (d : Digest). d.count) (taking t.taken got (Some segment.items) kept)

      few : length (got ++ segment.items) ≤ 65535
      few = within (length (got ++ segment.items)) (cap_of call.job) f (few_read call.job job)

      right : (size : Option ℕ) → IfSome t.size (λ s. s ≡ length (got ++ segment.items)) → Steps Loose call (Ends [] (got ++ segment.items)) (Taking size (not toggle)) (got ++ segment.items) newest (comes got turn)
      right size s =
          let c = completes Loose call (stamp count) Server heard t got count turn (got ++ segment.items) refl (inr h.is.regular) (size_right t.size (after t turn).taken.count (length (got ++ segment.items)) s count_is few)
          (h.is.direction ∙ sym h.is.job) h.is.key (sym (read_bytes call.job (got ++ segment.items) h.is.job)) (plain_refuses call.mode call.job t.protocol (got ++ segment.items) h.is.job h.transfer ∙ f) in
          is_over Loose call stamp (Taking size (not toggle)) (got ++ segment.items) newest [] (got ++ segment.items) (comes got turn) c.none c.reads

      wrong : (s code : ℕ) → t.size ≡ Some s → (s == length (got ++ segment.items)) ≡ false
          → Steps Loose call (GivesUp code) (Taking (Some s) (not toggle)) (got ++ segment.items) newest (says call stamp (messages_by call (GivesUp code)) (comes got turn))
      wrong s code e differs =
          gives_up Loose call stamp (Taking (Some s) (not toggle)) (got ++ segment.items) newest code (comes got turn)
          (size_wrong call (stamp count) Server heard t got count turn s refl (rw (e, count_is, not_counted (length (got ++ segment.items)) few, differs) refl))

      by : (size : Option ℕ) → t.size ≡ size
          → (let v = upload_complete size (got ++ segment.items) in Steps Loose call v (Taking size (not toggle)) (got ++ segment.items) newest (says call stamp (messages_by call v) (comes got turn)))
      by None e = right None (rw e tt)
      by (Some s) e = by_size (nat_lt s (length (got ++ segment.items))) (nat_lt (length (got ++ segment.items)) s) refl refl
        where
          by_size : (above below : Bool) → nat_lt s (length (got ++ segment.items)) ≡ above → nat_lt (length (got ++ segment.items)) s ≡ below
              → (let v = unless_fault ((above, 0x06070012) ∷ (below, 0x06070013) ∷ []) (Ends [] (got ++ segment.items)) in
              Steps Loose call v (Taking (Some s) (not toggle)) (got ++ segment.items) newest (says call stamp (messages_by call v) (comes got turn)))
          by_size true below a b = wrong s 0x06070012 e (grind (arith, nat_tests))
          by_size false true a b = wrong s 0x06070013 e (grind (arith, nat_tests))
          by_size false false a b = right (Some s) (rw e (equal s (length (got ++ segment.items)) a b))

  in_turn : (size : Option ℕ) (toggle : Bool) (got : List ℕ) (segment : ArrayVec ℕ) (full last : Bool) → IsTaking call t size toggle → t.taken ≡ digest_of got → nat_lt (cap_of call.job) (length (got ++ segment.items)) ≡ full
      → (let v = unless_fault ((full, 0x05040005) ∷ []) (if last then upload_complete size (got ++ segment.items) else GoesOn (Asked (NextSegment (not toggle)) ∷ [])) in
      Steps Loose call v (Taking size (not toggle)) (got ++ segment.items) newest (says call stamp (messages_by call v) (comes got (takes_data (record t { stage = upload_stage toggle last }) segment.items))))
  in_turn size toggle got segment true true h kept e =
      gives_up Loose call stamp (Taking size (not toggle)) (got ++ segment.items) newest 0x05040005 (comes got (takes_data (record t { stage = Confirmed None }) segment.items))
      (refused_turn call (stamp count) Server heard t got count (takes_data (record t { stage = Confirmed None }) segment.items) (plain_refuses call.mode call.job t.protocol (got ++ segment.items) h.is.job h.transfer ∙ e))
  in_turn size toggle got segment true false h kept e =
      gives_up Loose call stamp (Taking size (not toggle)) (got ++ segment.items) newest 0x05040005 (comes got (takes_data (record t { stage = UploadTaken (not toggle) }) segment.items)) refl
  in_turn size toggle got segment false true h kept e = last_taken size got segment toggle h kept e
  in_turn size toggle got segment false false h kept e =
      let u = with_frame Part (after t (takes_data (record t { stage = UploadTaken (not toggle) }) segment.items)) (stamp count) Server in
      subst (Steps Loose call (GoesOn (Asked (NextSegment (not toggle)) ∷ [])) (Taking size (not toggle)) (got ++ segment.items) newest) (sym (next_says call stamp heard u (got ++ segment.items) (suc count) (not toggle) refl))
      (record {
        follows = inr (taking_sync size (not toggle) (record {
          is = record { direction = h.is.direction; job = h.is.job; key = h.is.key; regular = h.is.regular };
          transfer = h.transfer;
          stage = refl;
          size = h.size;
        }) refl refl);
        reads = refl;
      })

  a_segment : (size : Option ℕ) (expected toggle last same : Bool) (got : List ℕ) (segment : ArrayVec ℕ) → IsTaking call t size expected → t.taken ≡ digest_of got → same_bool toggle expected ≡ same
      → (let v = unless_fault ((not same, 0x05030000) ∷ (nat_lt (cap_of call.job) (length (got ++ segment.items)), 0x05040005) ∷ []) (if last then upload_complete size (got ++ segment.items) else GoesOn (Asked (NextSegment (not expected)) ∷ [])) in
      Steps Loose call v (Taking size (not expected)) (got ++ segment.items) newest (says call stamp (messages_by call v) (comes got (response_turn t (UploadSegment toggle segment last) frame))))
  a_segment size expected toggle last false got segment h kept e =
      gives_up Loose call stamp (Taking size (not expected)) (got ++ segment.items) newest 0x05030000 (comes got (response_turn t (UploadSegment toggle segment last) frame))
      (late_turn call (stamp count) Server heard t got [] count (response_turn t (UploadSegment toggle segment last) frame) (rw (h.stage, e) (inl refl)))
  a_segment size expected toggle last true got segment h kept e =
      let full = nat_lt (cap_of call.job) (length (got ++ segment.items)) in
      let is : response_turn t (UploadSegment toggle segment last) frame ≡ takes_data (record t { stage = upload_stage expected last }) segment.items =
      rw (h.stage, e) refl ∙ ap (λ b. takes_data (record t { stage = upload_stage b last }) segment.items) (toggles_same toggle expected e) in
      let v = unless_fault ((full, 0x05040005) ∷ []) (if last then upload_complete size (got ++ segment.items) else GoesOn (Asked (NextSegment (not expected)) ∷ [])) in
      subst (λ x. Steps Loose call v (Taking size (not expected)) (got ++ segment.items) newest (says call stamp (messages_by call v) (comes got x))) (sym is)
      (in_turn size expected got segment full last h kept refl)

  -- ---- any answer

  pub asked_answer : (held : List ℕ) (r : Option SdoResponse) → IsAsked call t → t.taken ≡ digest_of [] → Made Loose call job stamp frame heard t count newest Begun held [] r
  asked_answer held None h kept = no_response Loose call job stamp frame heard t count newest Begun held []
  asked_answer held (Some (Refuse key code)) h kept = an_abort Loose call job stamp frame heard t count newest Begun held [] key code.0
  asked_answer held (Some (UploadExpedited key value)) h kept =
      rw (h.transfer, values value) (all_at_once _ key value (same_key key call.key) (nat_lt (cap_of call.job) (length (data_of value))) h kept refl refl)
  asked_answer held (Some (UploadInitiated key size)) h kept =
      rw h.transfer (first_asked key size (same_key key call.key) (nat_lt (cap_of call.job) (option_map_or (λ s. s) size 0)) h refl)
  asked_answer held (Some (DownloadDone key)) h kept =
      rw h.transfer (gives_up Loose call stamp _ _ newest 0x05040001 (comes [] (response_turn t (DownloadDone key) frame))
      (late_turn call (stamp count) Server heard t [] [] count (response_turn t (DownloadDone key) frame) (late_answering t key _ (ap confirmed_with h.stage) (rw h.is.direction (inl refl)))))
  asked_answer held (Some response) h kept =
      rw h.transfer (gives_up Loose call stamp _ _ newest 0x05040001 (comes [] (response_turn t response frame))
      (late_turn call (stamp count) Server heard t [] [] count (response_turn t response frame) (late_response t response frame (ap confirmed_with h.stage) (rw h.stage refl))))

  pub taking_answer : (size : Option ℕ) (toggle : Bool) (got : List ℕ) (r : Option SdoResponse) → IsTaking call t size toggle → t.taken ≡ digest_of got → Made Loose call job stamp frame heard t count newest (Taking size toggle) got got r
  taking_answer size toggle got None h kept = no_response Loose call job stamp frame heard t count newest (Taking size toggle) got got
  taking_answer size toggle got (Some (Refuse key code)) h kept = an_abort Loose call job stamp frame heard t count newest (Taking size toggle) got got key code.0
  taking_answer size toggle got (Some (UploadSegment toggled segment last)) h kept = a_segment size toggle toggled last (same_bool toggled toggle) got segment h kept refl
  taking_answer size toggle got (Some response) h kept =
      gives_up Loose call stamp _ _ newest 0x05040001 (comes got (response_turn t response frame))
      (late_turn call (stamp count) Server heard t got [] count (response_turn t response frame) (late_response t response frame (ap confirmed_with h.stage) (rw h.stage refl)))
