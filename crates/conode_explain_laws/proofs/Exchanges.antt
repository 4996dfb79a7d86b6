-- One request with its answers.
use Rattle.std.proofs.Common.{◌≡◌, ℕ, suc, ◌+◌, ◌*◌, ◌/◌, ◌-◌, ◌%◌, ◌≤◌, Bool, true, false, not, List, [], ◌∷◌, ◌++◌, length, take, Option, Some, None, refl, sym, ap, ◌∙◌, ◌⊎◌, inl, inr, subst, arith, eqb}
use Rattle.std.specs.Prelude.{if◌then◌else◌, IfSome, nat_le, ◌&&◌}
use Rattle.std.proofs.lemmas.Bool.Decides.{nat_tests}
use Rattle.std.proofs.lemmas.List.{take_all}
use Rattle.arrayvec.specs.ArrayVec.{ArrayVec}
use Rattle.co_value.specs.declared.key.Key.{Key}
use Rattle.co_value.specs.Numbers.{AreBytes}
use Rattle.co_frame.specs.Segments.{same_bool}
use Rattle.co_frame.specs.SdoRequests.{request_in}
use Rattle.co_frame.specs.SdoResponses.{response_row_in, response_in, response_bytes}
use Rattle.co_frame.specs.declared.sdo_request.ExpeditedData.TheVariants.{Indicated}
use Rattle.co_frame.specs.declared.sdo_request.SdoRequest.{SdoRequest}
use Rattle.co_frame.specs.declared.sdo_request.SdoRequest.TheVariants.{DownloadExpedited, DownloadInitiate, DownloadSegment, Upload as UploadInitiate, Abort as Abandon, BlockUploadInitiate, BlockDownloadInitiate}
use Rattle.co_frame.specs.declared.sdo_response.SdoResponse.{SdoResponse}
use Rattle.co_frame.specs.declared.sdo_response.SdoResponse.TheVariants.{DownloadDone, DownloadSegmentDone, UploadExpedited, UploadInitiated, BlockDownloadInitiated, BlockUploadInitiated}
use Rattle.co_dict.specs.Rows.{Rows, Contents}
use Rattle.co_dict.specs.Stores.{Description}
use Rattle.co_dict.specs.Refusals.{first_of}
use Rattle.co_sdo.specs.declared.stage.Stage.TheVariants.{Download as Receiving}
use Rattle.co_sdo.specs.Refused.{reading_refusal, initiate_refusal, completion_refusal}
use Rattle.co_sdo.specs.Log.{Response as Replied}
use Rattle.co_sdo.specs.Downloads.{Download as Whole, expedited_part}
use Rattle.co_sdo.specs.Uploads.{value_at, upload_initiated}
use Rattle.co_sdo.specs.Opened.{OpenTransfer}
use Rattle.co_sdo.specs.Replies.{unless_refused, block_size_refusal, segment_refusal, segment_answers, request_answers, answers_to}
use Rattle.co_sdo.specs.Completed.{unless}
use Rattle.co_sdo.specs.Steps.{after_segment, after_request, opened_next, set_by_segment, set_by_request, set_next}
use Rattle.co_sdo_laws.proofs.Frames.{padded_length, segment_done_read}
use Rattle.conode_explain_transfers.specs.declared.kinds.Side.TheVariants.{Client}
use Rattle.conode_explain_transfers.specs.declared.kinds.What.TheVariants.{Part}
use Rattle.conode_explain_transfers.specs.declared.stage.Stage.TheVariants.{DownloadConfirmed, Confirmed}
use Rattle.conode_explain_transfers.specs.declared.transfer.Transfer.{Transfer}
use Rattle.conode_explain_transfers.specs.Endings.{verdict}
use Rattle.conode_explain_transfers.specs.Followed.{with_frame}
use Rattle.conode_explain_transfers.specs.SegmentedTurns.{segment_pending}
use Rattle.conode_explain_transfers.specs.Transfers.{after, is_download, goes_on as part, takes_pending}
use Rattle.conode_explain_laws.specs.Downloads.{Complete, entry_bytes, if_done}
use Rattle.conode_explain_laws.proofs.Readings.{begun_after, Reading, Begin, Request, Response, request_reading, response_reading, reading_of}
use Rattle.conode_explain_laws.proofs.Views.{View, read_as, hears, hears_answers, Knows, KnowsAside, aside_reads, aside_answers, begin_writes, is_begin}
use Rattle.conode_explain_laws.proofs.Follows.{Follows, aside, asked, gone, segmented, blocks, all_sent, InSegments, in_segments, Ends, ends_aside, begun_by, client_no_response, is_response, Stays, answered_reads, asked_reads, is_first, again, response_read}
use Rattle.conode_explain_laws.proofs.Begins.{answered, refused, closed, maybe_write, write_of, begins}
use Rattle.conode_explain_laws.proofs.Blocks.{sub_block_step, to_end}

-- ---- what explain knows of a transfer that stays

abbrev KnowsStays : List Complete → View → Type 0
KnowsStays done v = Knows (λ t got. Stays t) done v

-- an answer to initiate makes it irregular
first_answer : (rows : Rows) (stamp : ℕ → ℕ) (response : SdoResponse) (done : List Complete) (v : View) → KnowsStays done v → is_first (response_in (response_bytes response)) ≡ true
    → KnowsAside done (hears_answers rows stamp (Replied response ∷ []) v)
first_answer rows stamp response done v h f = by v.following.heard v.following.transfer v.got v.done v.count h
  where
    by : (heard : Bool) (current : Option Transfer) (got : List ℕ) (before : List Complete) (count : ℕ)
        → KnowsStays done (record { following = record { heard = heard; transfer = current }; got = got; done = before; count = count })
        → KnowsAside done (hears_answers rows stamp (Replied response ∷ []) (record { following = record { heard = heard; transfer = current }; got = got; done = before; count = count }))
    by heard None got before count h =
        aside_answers rows stamp (Replied response ∷ []) done (record { following = record { heard = heard; transfer = None }; got = got; done = before; count = count }) (record { holds = tt; same = h.same })
    by heard (Some t) got before count h = elim h.holds [
      | inl a ↦ aside_answers rows stamp (Replied response ∷ []) done (record { following = record { heard = heard; transfer = Some t }; got = got; done = before; count = count }) (record { holds = a; same = h.same })
      | inr a ↦
          let k = again rows (stamp count) (response_bytes response) heard t got before count a f in
          record { holds = k.holds; same = k.same ∙ h.same }
    ]

-- ---- the channel has nothing open

stays_gone : (done : List Complete) (v : View) → KnowsStays done v → IfSome v.following.transfer (λ t. Follows t v.got None)
stays_gone done v h = by v.following.transfer h.holds
  where
    by : (current : Option Transfer) → IfSome current Stays → IfSome current (λ t. Follows t v.got None)
    by None h = tt
    by (Some t) (inl a) = aside a
    by (Some t) (inr a) = gone a refl

-- an answer to initiate, or a refusal
first : (rows : Rows) (stamp : ℕ → ℕ) (refusal : Option ℕ) (key : Key) (response : SdoResponse) (next : Option OpenTransfer) (set : Option Whole) (done : List Complete) (v : View)
    → KnowsStays done v → is_first (response_in (response_bytes response)) ≡ true
    → Ends next set done (hears_answers rows stamp (unless_refused refusal key (Replied response ∷ [])) v)
first rows stamp refusal key response next set done v h f =
    refused rows stamp refusal key (Replied response ∷ []) next set done v h.same (λ n. ends_aside next set done _ (first_answer rows stamp response done v h f))

download_first : (key : Key) → is_first (response_in (response_bytes (DownloadDone key))) ≡ true
unfolding response_row_in
download_first key = refl

initiated_first : (key : Key) (size : ℕ) → is_first (response_in (response_bytes (UploadInitiated key (Some size)))) ≡ true
unfolding response_row_in
initiated_first key size = refl

block_download_first : (key : Key) → is_first (response_in (response_bytes (BlockDownloadInitiated key 127))) ≡ true
unfolding response_row_in
block_download_first key = refl

block_upload_first : (key : Key) (size : ℕ) → is_first (response_in (response_bytes (BlockUploadInitiated key (Some size)))) ≡ true
unfolding response_row_in
block_upload_first key size = refl

expedited_row : (key : Key) (value : List ℕ) → is_first (response_row_in (response_bytes (UploadExpedited key (Indicated (record { items = value }))))) ≡ true
unfolding response_row_in
expedited_row key value =
    let m : 4 - length value ≤ 4 = omega arith in
    let top : (32 * 2 + (4 * (4 - length value) + 3)) / 32 ≡ 2 = omega arith in
    let bit : eqb ((32 * 2 + (4 * (4 - length value) + 3)) / 2 % 2) 1 ≡ true = grind (arith, nat_tests) in
    rw (top, bit) refl

row_first : (bytes : List ℕ) → length bytes ≡ 8 → is_first (response_row_in bytes) ≡ true → is_first (response_in bytes) ≡ true
row_first bytes n h = rw n h

expedited_first : (key : Key) (value : List ℕ) → length value ≤ 4 → is_first (response_in (response_bytes (UploadExpedited key (Indicated (record { items = value }))))) ≡ true
expedited_first key value few =
    row_first (response_bytes (UploadExpedited key (Indicated (record { items = value })))) (let n = padded_length value 4 few in omega (arith, n)) (expedited_row key value)

few : (value : List ℕ) → (nat_le 1 (length value) && nat_le (length value) 4) ≡ true → length value ≤ 4
few value e = grind (arith, nat_tests)

upload_first : (rows : Rows) (stamp : ℕ → ℕ) (refusal : Option ℕ) (key : Key) (value : List ℕ) (next : Option OpenTransfer) (set : Option Whole) (done : List Complete) (v : View) → KnowsStays done v
    → Ends next set done (hears_answers rows stamp (unless_refused refusal key (upload_initiated key value)) v)
upload_first rows stamp refusal key value next set done v h = by (nat_le 1 (length value) && nat_le (length value) 4) refl
  where
    by : (short : Bool) → (nat_le 1 (length value) && nat_le (length value) 4) ≡ short
        → Ends next set done (hears_answers rows stamp (unless_refused refusal key
        (if short then Replied (UploadExpedited key (Indicated (record { items = value }))) ∷ [] else Replied (UploadInitiated key (Some (length value))) ∷ [])) v)
    by true e = first rows stamp refusal key _ next set done v h (expedited_first key value (few value e))
    by false e = first rows stamp refusal key _ next set done v h (initiated_first key (length value))

-- a request that the channel has nothing open for
nothing_open : (d : Description) (contents : Contents) (stamp : ℕ → ℕ) (r : Option SdoRequest) (done : List Complete) (v : View) → KnowsStays done v
    → Ends (after_request d contents None r) (set_by_request d contents None r) done (hears_answers d.rows stamp (request_answers d contents None r) v)
nothing_open d contents stamp (Some (DownloadExpedited key value)) done v h =
    first d.rows stamp (completion_refusal d contents key None (expedited_part d.rows key value)) key (DownloadDone key) _ _ done v h (download_first key)
nothing_open d contents stamp (Some (DownloadInitiate key size)) done v h = first d.rows stamp (initiate_refusal d key size) key (DownloadDone key) _ _ done v h (download_first key)
nothing_open d contents stamp (Some (UploadInitiate key)) done v h = upload_first d.rows stamp (reading_refusal d contents key) key (value_at contents key) _ _ done v h
nothing_open d contents stamp (Some (BlockUploadInitiate key size threshold)) done v h =
    first d.rows stamp (first_of (reading_refusal d contents key) (block_size_refusal size)) key (BlockUploadInitiated key (Some (length (value_at contents key)))) _ _ done v h (block_upload_first key (length (value_at contents key)))
nothing_open d contents stamp (Some (BlockDownloadInitiate key size)) done v h =
    first d.rows stamp (initiate_refusal d key size) key (BlockDownloadInitiated key 127) _ _ done v h (block_download_first key)
nothing_open d contents stamp (Some (Abandon key code)) done v h = record { follows = stays_gone done v h; writes = inl h.same }
nothing_open d contents stamp _ done v h = closed d.rows stamp (record { index = 0; sub = 0 }) 0x05040001 _ _ done v h.same

-- ---- a download in segments

-- what is open at the channel
abbrev pub receiving : Transfer → List ℕ → Bool → OpenTransfer
receiving t got toggle = record { key = t.key; stage = Receiving t.size toggle; bytes = got }

-- explain after a segment
abbrev pub sent : Transfer → Bool → Bool → ArrayVec ℕ → ℕ → Transfer
sent t toggle last segment micros = with_frame Part (after t (part (segment_pending t toggle last segment))) micros Client

pub same_toggle : (toggle : Bool) → same_bool toggle toggle ≡ true
same_toggle true = refl
same_toggle false = refl

pub sends : (rows : Rows) (micros : ℕ) (frame : List ℕ) (heard : Bool) (t : Transfer) (got : List ℕ) (done : List Complete) (count : ℕ) (toggle last : Bool) (segment : ArrayVec ℕ) → t.stage ≡ DownloadConfirmed toggle
    → read_as rows micros Client frame (record { following = record { heard = heard; transfer = Some t }; got = got; done = done; count = count }) (Request (DownloadSegment toggle segment last))
    ≡ record { following = record { heard = heard; transfer = Some (sent t toggle last segment micros) }; got = got; done = done; count = suc count }
sends rows micros frame heard t got done count toggle last segment e = rw (e, same_toggle toggle) refl

pub all_taken : (items : List ℕ) → take (length items) items ≡ items
all_taken items = take_all (length items) items (omega arith)

-- explain after the last one is confirmed
abbrev pub confirmed : Transfer → Bool → ArrayVec ℕ → ℕ → Transfer
confirmed t toggle segment micros =
    after (sent t toggle true segment micros) (takes_pending (record (sent t toggle true segment micros) { stage = Confirmed None }) (length segment.items))

-- the channel takes the segment
segment_taken : (rows : Rows) (stamp : ℕ → ℕ) (micros : ℕ) (heard : Bool) (t : Transfer) (got : List ℕ) (done : List Complete) (count : ℕ) (toggle last : Bool) (segment : ArrayVec ℕ) → InSegments t toggle
    → Ends (if last then None else Some (receiving t (got ++ segment.items) (not toggle)))
    (if last then Some (record { key = t.key; indicated = t.size; bytes = got ++ segment.items }) else None) done
    (hears_answers rows stamp (Replied (DownloadSegmentDone toggle) ∷ [])
    (record { following = record { heard = heard; transfer = Some (sent t toggle last segment micros) }; got = got; done = done; count = count }))
segment_taken rows stamp micros heard t got done count toggle true segment h =
    let u = sent t toggle true segment micros in
    let v : View = record { following = record { heard = heard; transfer = Some u }; got = got; done = done; count = count } in
    answered rows stamp (DownloadSegmentDone toggle) v (Response (DownloadSegmentDone toggle))
    (Ends None (Some (record { key = t.key; indicated = t.size; bytes = got ++ segment.items })) done)
    (response_read u (stamp count) (response_bytes (DownloadSegmentDone toggle)) h.direction ∙ ap response_reading (segment_done_read toggle))
    (rw (same_toggle toggle) (record { follows = tt; writes = written }))
  where
    bytes_are : entry_bytes rows t.key (request_in t.request.items) (got ++ take (length segment.items) segment.items) ≡ got ++ segment.items
    bytes_are = rw (h.request, all_taken segment.items) refl

    written : (((if is_download t.direction then if_done (verdict (confirmed t toggle segment micros) None) (write_of (suc count) t.key (entry_bytes rows t.key (request_in t.request.items) (got ++ take (length segment.items) segment.items))) else []) ++ done) ≡ done)
        ⊎ (((if is_download t.direction then if_done (verdict (confirmed t toggle segment micros) None) (write_of (suc count) t.key (entry_bytes rows t.key (request_in t.request.items) (got ++ take (length segment.items) segment.items))) else []) ++ done) ≡ write_of (suc count) t.key (got ++ segment.items) ++ done)
    written = elim (maybe_write (is_download t.direction) (verdict (confirmed t toggle segment micros) None) (write_of (suc count) t.key (entry_bytes rows t.key (request_in t.request.items) (got ++ take (length segment.items) segment.items)))) [
      | inl e ↦ inl (ap (λ w. w ++ done) e)
      | inr e ↦ inr (ap (λ w. w ++ done) e ∙ ap (λ bytes. write_of (suc count) t.key bytes ++ done) bytes_are)
    ]
segment_taken rows stamp micros heard t got done count toggle false segment h =
    let u = sent t toggle false segment micros in
    let v : View = record { following = record { heard = heard; transfer = Some u }; got = got; done = done; count = count } in
    answered rows stamp (DownloadSegmentDone toggle) v (Response (DownloadSegmentDone toggle))
    (Ends (Some (receiving t (got ++ segment.items) (not toggle))) None done)
    (response_read u (stamp count) (response_bytes (DownloadSegmentDone toggle)) h.direction ∙ ap response_reading (segment_done_read toggle))
    (rw (same_toggle toggle, all_taken segment.items) (record {
      follows = segmented (not toggle) (record { direction = h.direction; stage = refl; request = h.request }) refl;
      writes = inl refl;
    }))

-- a segment, by its toggle
segment_step : (d : Description) (contents : Contents) (stamp : ℕ → ℕ) (micros : ℕ) (frame : List ℕ) (heard : Bool) (t : Transfer) (got : List ℕ) (done : List Complete) (count : ℕ) (expected toggle last : Bool) (segment : ArrayVec ℕ)
    → InSegments t expected
    → Ends (after_segment d contents (receiving t got expected) (Receiving t.size expected) toggle segment.items last)
    (set_by_segment d contents (receiving t got expected) (Receiving t.size expected) toggle segment.items last) done
    (hears_answers d.rows stamp (segment_answers d contents (receiving t got expected) (Receiving t.size expected) toggle segment.items last)
    (read_as d.rows micros Client frame (record { following = record { heard = heard; transfer = Some t }; got = got; done = done; count = count }) (Request (DownloadSegment toggle segment last))))
segment_step d contents stamp micros frame heard t got done count expected toggle last segment h =
    let v = read_as d.rows micros Client frame (record { following = record { heard = heard; transfer = Some t }; got = got; done = done; count = count }) (Request (DownloadSegment toggle segment last)) in
    let k = answered_reads d.rows micros frame heard t got done count (Request (DownloadSegment toggle segment last)) (in_segments t expected h) refl refl in
    by expected toggle h k.same
  where
    taken : (toggle : Bool) → InSegments t toggle → (refusal : Option ℕ) → segment_refusal d contents (receiving t got toggle) t.size toggle toggle segment.items last ≡ refusal
        → Ends (unless refusal (if last then None else Some (receiving t (got ++ segment.items) (not toggle))))
        (unless refusal (if last then Some (record { key = t.key; indicated = t.size; bytes = got ++ segment.items }) else None)) done
        (hears_answers d.rows stamp (unless_refused refusal t.key (Replied (DownloadSegmentDone toggle) ∷ []))
        (record { following = record { heard = heard; transfer = Some (sent t toggle last segment micros) }; got = got; done = done; count = suc count }))
    taken toggle h None e = segment_taken d.rows stamp micros heard t got done (suc count) toggle last segment h
    taken toggle h (Some code) e =
        closed d.rows stamp t.key code None None done (record { following = record { heard = heard; transfer = Some (sent t toggle last segment micros) }; got = got; done = done; count = suc count }) refl

    by : (expected toggle : Bool) → InSegments t expected
        → (read_as d.rows micros Client frame (record { following = record { heard = heard; transfer = Some t }; got = got; done = done; count = count }) (Request (DownloadSegment toggle segment last))).done ≡ done
        → Ends (after_segment d contents (receiving t got expected) (Receiving t.size expected) toggle segment.items last)
        (set_by_segment d contents (receiving t got expected) (Receiving t.size expected) toggle segment.items last) done
        (hears_answers d.rows stamp (segment_answers d contents (receiving t got expected) (Receiving t.size expected) toggle segment.items last)
        (read_as d.rows micros Client frame (record { following = record { heard = heard; transfer = Some t }; got = got; done = done; count = count }) (Request (DownloadSegment toggle segment last))))
    by true false h same =
        closed d.rows stamp t.key 0x05030000 None None done (read_as d.rows micros Client frame (record { following = record { heard = heard; transfer = Some t }; got = got; done = done; count = count }) (Request (DownloadSegment false segment last))) same
    by false true h same =
        closed d.rows stamp t.key 0x05030000 None None done (read_as d.rows micros Client frame (record { following = record { heard = heard; transfer = Some t }; got = got; done = done; count = count }) (Request (DownloadSegment true segment last))) same
    by true true h same = rw (sends d.rows micros frame heard t got done count true last segment h.stage) (taken true h _ refl)
    by false false h same = rw (sends d.rows micros frame heard t got done count false last segment h.stage) (taken false h _ refl)

-- a request while the channel receives segments: `v` is what explain knows after it
in_download : (d : Description) (contents : Contents) (stamp : ℕ → ℕ) (r : Option SdoRequest) (t : Transfer) (got : List ℕ) (toggle : Bool) (done : List Complete) (v : View) → KnowsStays done v
    → ((toggled last : Bool) (segment : ArrayVec ℕ) → r ≡ Some (DownloadSegment toggled segment last)
    → Ends (after_request d contents (Some (receiving t got toggle)) r) (set_by_request d contents (Some (receiving t got toggle)) r) done
    (hears_answers d.rows stamp (request_answers d contents (Some (receiving t got toggle)) r) v))
    → Ends (after_request d contents (Some (receiving t got toggle)) r) (set_by_request d contents (Some (receiving t got toggle)) r) done
    (hears_answers d.rows stamp (request_answers d contents (Some (receiving t got toggle)) r) v)
in_download d contents stamp (Some (DownloadSegment toggled segment last)) t got toggle done v h go = go toggled last segment refl
in_download d contents stamp (Some (DownloadExpedited key value)) t got toggle done v h go =
    first d.rows stamp (completion_refusal d contents key None (expedited_part d.rows key value)) key (DownloadDone key) _ _ done v h (download_first key)
in_download d contents stamp (Some (DownloadInitiate key size)) t got toggle done v h go = first d.rows stamp (initiate_refusal d key size) key (DownloadDone key) _ _ done v h (download_first key)
in_download d contents stamp (Some (UploadInitiate key)) t got toggle done v h go = upload_first d.rows stamp (reading_refusal d contents key) key (value_at contents key) _ _ done v h
in_download d contents stamp (Some (BlockUploadInitiate key size threshold)) t got toggle done v h go =
    first d.rows stamp (first_of (reading_refusal d contents key) (block_size_refusal size)) key (BlockUploadInitiated key (Some (length (value_at contents key)))) _ _ done v h (block_upload_first key (length (value_at contents key)))
in_download d contents stamp (Some (BlockDownloadInitiate key size)) t got toggle done v h go =
    first d.rows stamp (initiate_refusal d key size) key (BlockDownloadInitiated key 127) _ _ done v h (block_download_first key)
in_download d contents stamp (Some (Abandon key code)) t got toggle done v h go = record { follows = stays_gone done v h; writes = inl h.same }
in_download d contents stamp _ t got toggle done v h go = closed d.rows stamp t.key 0x05040001 _ _ done v h.same

-- ---- every request

-- explain's transfer and the channel's, before a request
abbrev pub Following : View → Option OpenTransfer → Type 0
Following v current = IfSome v.following.transfer (λ t. Follows t v.got current)

pub client_plain : (t : Transfer) (toggle : Bool) (micros : ℕ) (frame : List ℕ) → t.stage ≡ DownloadConfirmed toggle → reading_of (Some t) Client micros frame ≡ request_reading (request_in frame) micros frame
client_plain t toggle micros frame e = rw e refl

goes_on : (d : Description) (contents : Contents) (stamp : ℕ → ℕ) (frame : List ℕ) (current : Option OpenTransfer) (heard : Bool) (held : Option Transfer) (got : List ℕ) (done : List Complete) (count : ℕ) (reading : Reading)
    → reading_of held Client (stamp count) frame ≡ reading → is_begin reading ≡ false → IfSome held (λ t. Follows t got current)
    → Ends (opened_next d contents current frame) (set_next d contents current frame) done
    (hears_answers d.rows stamp (answers_to d contents current frame)
    (read_as d.rows (stamp count) Client frame (record { following = record { heard = heard; transfer = held }; got = got; done = done; count = count }) reading))
goes_on d contents stamp frame current heard None got done count reading e n h =
    ends_aside _ _ done _ (aside_answers d.rows stamp (answers_to d contents current frame) done _ (aside_reads d.rows (stamp count) Client frame heard None got done count reading tt n))
goes_on d contents stamp frame current heard (Some t) got done count reading e n h =
    let m : is_response reading ≡ false = sym (ap is_response e) ∙ client_no_response (Some t) (stamp count) frame in
    elim h [
      | aside a ↦ ends_aside _ _ done _ (aside_answers d.rows stamp (answers_to d contents current frame) done _ (aside_reads d.rows (stamp count) Client frame heard (Some t) got done count reading a n))
      | asked a ↦ ends_aside _ _ done _ (aside_answers d.rows stamp (answers_to d contents current frame) done _ (asked_reads d.rows (stamp count) frame heard t got done count reading a n m))
      | gone a c ↦ rw c (nothing_open d contents stamp (request_in frame) done _ (answered_reads d.rows (stamp count) frame heard t got done count reading a n m))
      | segmented toggle a c ↦ rw c
          (in_download d contents stamp (request_in frame) t got toggle done _ (answered_reads d.rows (stamp count) frame heard t got done count reading (in_segments t toggle a) n m)
          (λ toggled last segment q.
          let is : reading ≡ Request (DownloadSegment toggled segment last) = sym e ∙ client_plain t toggle (stamp count) frame a.stage ∙ ap (λ r. request_reading r (stamp count) frame) q in
          rw (q, is) (segment_step d contents stamp (stamp count) frame heard t got done count toggle toggled last segment a)))
      | blocks taken size a c ↦ rw c (sub_block_step d contents stamp frame heard t got done count taken size a reading e n)
      | all_sent size a c ↦ rw c (to_end d contents stamp frame heard t got done count size a reading e n)
    ]

by_reading : (d : Description) (contents : Contents) (stamp : ℕ → ℕ) (frame : List ℕ) (current : Option OpenTransfer) (heard : Bool) (held : Option Transfer) (got : List ℕ) (done : List Complete) (count : ℕ) (reading : Reading)
    → reading_of held Client (stamp count) frame ≡ reading → AreBytes frame → IfSome held (λ t. Follows t got current)
    → Ends (opened_next d contents current frame) (set_next d contents current frame) done
    (hears_answers d.rows stamp (answers_to d contents current frame)
    (read_as d.rows (stamp count) Client frame (record { following = record { heard = heard; transfer = held }; got = got; done = done; count = count }) reading))
by_reading d contents stamp frame current heard held got done count (Begin new) e small h =
    let b = begun_by held (stamp count) frame new e in
    let same = begin_writes d.rows (stamp count) frame heard held got done count new in
    subst (λ before. Ends (opened_next d contents current frame) (set_next d contents current frame) before
    (hears_answers d.rows stamp (answers_to d contents current frame)
    (read_as d.rows (stamp count) Client frame (record { following = record { heard = heard; transfer = held }; got = got; done = done; count = count }) (Begin new)))) same
    (begins d contents stamp current (begun_after held frame new) (stamp count) frame _ (suc count) b small)
by_reading d contents stamp frame current heard held got done count reading e small h = goes_on d contents stamp frame current heard held got done count reading e refl h

pub exchange : (d : Description) (contents : Contents) (stamp : ℕ → ℕ) (frame : List ℕ) (current : Option OpenTransfer) (v : View) → AreBytes frame → Following v current
    → Ends (opened_next d contents current frame) (set_next d contents current frame) v.done
    (hears_answers d.rows stamp (answers_to d contents current frame) (hears d.rows stamp Client frame v))
exchange d contents stamp frame current v small h =
    by_reading d contents stamp frame current v.following.heard v.following.transfer v.got v.done v.count (reading_of v.following.transfer Client (stamp v.count) frame) refl small h
