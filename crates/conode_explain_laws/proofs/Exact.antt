-- One request of eight bytes that begins no block download, with its answers: explain says that a download is done where the channel
-- sets it.
use Rattle.std.proofs.Common.{◌≡◌, ℕ, suc, ◌+◌, ◌-◌, ◌^◌, ◌<◌, ◌≤◌, Bool, true, false, not, List, [], ◌∷◌, ◌++◌, length, take, min, Option, Some, None, refl, sym, ap, ◌∙◌, subst, arith}
use Rattle.std.specs.Prelude.{if◌then◌else◌, IfSome, nat_le, nat_lt, ◌&&◌, ◌==◌}
use Rattle.std.specs.Option.{option_map_or}
use Rattle.std.proofs.lemmas.Bool.{false≢true}
use Rattle.arrayvec.specs.ArrayVec.{ArrayVec}
use Rattle.co_value.specs.declared.key.Key.{Key}
use Rattle.co_value.specs.Keys.{same_key-refl}
use Rattle.co_value.specs.Numbers.{AreBytes}
use Rattle.co_frame.specs.SdoRequests.{request_in}
use Rattle.co_frame.specs.SdoResponses.{response_bytes}
use Rattle.co_frame.specs.declared.sdo_request.ExpeditedData.{ExpeditedData}
use Rattle.co_frame.specs.declared.sdo_request.SdoRequest.{SdoRequest}
use Rattle.co_frame.specs.declared.sdo_request.SdoRequest.TheVariants.{DownloadExpedited, DownloadInitiate, DownloadSegment, Upload as UploadInitiate, UploadSegment as NextSegment, Abort as Abandon, BlockUploadInitiate, BlockUploadEnd as UploadEnd, BlockUploadAcknowledge, BlockUploadStart, BlockDownloadInitiate, BlockDownloadEnd}
use Rattle.co_frame.specs.declared.sdo_response.SdoResponse.TheVariants.{DownloadDone, DownloadSegmentDone}
use Rattle.co_dict.specs.declared.row.Row.{Row}
use Rattle.co_dict.specs.Rows.{Rows, Contents}
use Rattle.co_dict.specs.Stores.{Description, IsDescription}
use Rattle.co_dict.specs.Refusals.{refused_if, first_of}
use Rattle.co_sdo.specs.declared.stage.Stage.{Stage}
use Rattle.co_sdo.specs.declared.stage.Stage.TheVariants.{Download as Receiving, Upload as Uploading, SubBlock as InSubBlock, LastTaken, BlockUploadInitiated as Begun, BlockUpload, BlockUploadEnded}
use Rattle.co_sdo.specs.Refused.{reading_refusal, initiate_refusal, completion_refusal}
use Rattle.co_sdo.specs.Log.{Response as Replied}
use Rattle.co_sdo.specs.Downloads.{Download as Whole, expedited_part, is_as_indicated, is_odd}
use Rattle.co_sdo.specs.Uploads.{value_at, is_last_after, segment_count, sub_block_length}
use Rattle.co_sdo.specs.OpenTransfers.{is_initiate}
use Rattle.co_sdo.specs.Opened.{OpenTransfer}
use Rattle.co_sdo.specs.Replies.{aborted, unless_refused, toggle_refusal, room_refusal, block_size_refusal, segment_refusal, segment_answers, request_answers, answers_to, is_in_sub_block, is_sub_block}
use Rattle.co_sdo.specs.Completed.{unless}
use Rattle.co_sdo.specs.Steps.{opened_at, after_segment, after_upload_segment, after_start, after_acknowledge, after_request, after_initiate, opened_next, whole, set_by_segment, set_by_end, set_by_request, set_next}
use Rattle.co_sdo.proofs.RefusalLemmas.{first_none, second_none, allowed}
use Rattle.co_sdo_laws.proofs.Frames.{done_read, segment_done_read}
use Rattle.conode_explain_transfers.specs.declared.kinds.Direction.{Direction}
use Rattle.conode_explain_transfers.specs.declared.kinds.Direction.TheVariants.{Upload}
use Rattle.conode_explain_transfers.specs.declared.kinds.Side.TheVariants.{Client}
use Rattle.conode_explain_transfers.specs.declared.transfer.Transfer.{Transfer}
use Rattle.conode_explain_transfers.specs.Digests.{counted, digest_of}
use Rattle.conode_explain_transfers.specs.Endings.{size_fault, verdict}
use Rattle.conode_explain_transfers.specs.Transfers.{is_download}
use Rattle.conode_explain_transfers.specs.Readings.{may_have_segment, is_sender}
use Rattle.conode_explain_transfers.proofs.DataLemmas.{taking}
use Rattle.conode_explain_transfers.specs.Unanswered.{not_followed_by}
use Rattle.conode_explain_laws.specs.Downloads.{Complete, is_block_begin, entry_bytes, if_done, write_set}
use Rattle.conode_explain_laws.proofs.Readings.{begun_after, begun_so, went_on_as, Begin, Request, Response, begun_with, request_reading, response_reading, plain_reading, sub_block_reading, reading_of}
use Rattle.conode_explain_laws.proofs.Views.{abort_no_write, View, read_as, hears, hears_answers, begin_writes, no_write, aborted_closes}
use Rattle.conode_explain_laws.proofs.Follows.{InSegments, in_segments, response_read, answered_reads}
use Rattle.conode_explain_laws.proofs.Begins.{HasKey, has_key, small_index, answered, asks, response_is, expedites, expedited_bytes, segments, outside_answers, outside_opens, outside_sets, write_of}
use Rattle.conode_explain_laws.proofs.Exchanges.{receiving, sent, same_toggle, sends, all_taken, confirmed, client_plain}
use Rattle.conode_explain_laws.proofs.NoDownloads.{IsUpload, KnowsUpload, upload_reads, upload_answers}

-- ---- both

abbrev is_upload_stage : Stage → Bool
is_upload_stage (Receiving size toggle) = false
is_upload_stage (InSubBlock size taken) = false
is_upload_stage (LastTaken size) = false
is_upload_stage _ = true

-- the channel has no download open
abbrev pub no_download : Option OpenTransfer → Bool
no_download None = true
no_download (Some o) = is_upload_stage o.stage

-- a download in segments whose frames go on with one another
pub record IsClean (t : Transfer) (toggle : Bool) : Type 0 where
  pub in_turn : InSegments t toggle
  pub regular : t.irregular ≡ false

-- explain has an upload, and the channel has no download; or both have the same download in segments; or the channel has dropped it
pub data Exact (t : Transfer) (got : List ℕ) (current : Option OpenTransfer) : Type 0 where
  exact_upload : IsUpload t → no_download current ≡ true → Exact t got current
  exact_segments : (toggle : Bool) → IsClean t toggle → current ≡ Some (receiving t got toggle) → Exact t got current
  exact_dropped : (toggle : Bool) → InSegments t toggle → current ≡ None → Exact t got current

abbrev pub ExactIn : Option Transfer → List ℕ → Option OpenTransfer → Type 0
ExactIn None got current = no_download current ≡ true
ExactIn (Some t) got current = Exact t got current

-- after a request with its answers
pub record Exactly (next : Option OpenTransfer) (set : Option Whole) (done : List Complete) (v : View) : Type 0 where
  pub holds : ExactIn v.following.transfer v.got next
  pub same : v.done ≡ write_set set v.count ++ done

pub closed_exactly : (rows : Rows) (stamp : ℕ → ℕ) (key : Key) (code : ℕ) (done : List Complete) (v : View) → v.done ≡ done → Exactly None None done (hears_answers rows stamp (aborted key code) v)
closed_exactly rows stamp key code done v e =
    let c = aborted_closes rows stamp key code v in
    record { holds = rw c.none refl; same = c.same ∙ e }

upload_in : (current : Option Transfer) (got : List ℕ) (next : Option OpenTransfer) → no_download next ≡ true → IfSome current IsUpload → ExactIn current got next
upload_in None got next n h = n
upload_in (Some t) got next n h = exact_upload h n

uploads_exactly : (next : Option OpenTransfer) (done : List Complete) (v : View) → no_download next ≡ true → KnowsUpload done v → Exactly next None done v
uploads_exactly next done v n h = record { holds = upload_in v.following.transfer v.got next n h.holds; same = h.same }

-- ---- the channel with an upload, or nothing

unless_no_download : (refusal : Option ℕ) (next : Option OpenTransfer) → no_download next ≡ true → no_download (unless refusal next) ≡ true
unless_no_download None next h = h
unless_no_download (Some code) next h = refl

either_no_download : (b : Bool) (x y : Option OpenTransfer) → no_download x ≡ true → no_download y ≡ true → no_download (if b then x else y) ≡ true
either_no_download true x y hx hy = hx
either_no_download false x y hx hy = hy

no_segment : (d : Description) (contents : Contents) (o : OpenTransfer) (stage : Stage) (toggle : Bool) (part : List ℕ) (last : Bool) → is_upload_stage stage ≡ true
    → (after_segment d contents o stage toggle part last ≡ None) × (set_by_segment d contents o stage toggle part last ≡ None)
no_segment d contents o (Receiving size expected) toggle part last h = absurd (false≢true h)
no_segment d contents o _ toggle part last h = (refl, refl)

no_end : (d : Description) (contents : Contents) (o : OpenTransfer) (stage : Stage) (unused : ℕ) → is_upload_stage stage ≡ true → set_by_end d contents o stage unused ≡ None
no_end d contents o (LastTaken size) unused h = absurd (false≢true h)
no_end d contents o _ unused h = refl

next_segment : (o : OpenTransfer) (stage : Stage) (toggle : Bool) → no_download (after_upload_segment o stage toggle) ≡ true
next_segment o (Uploading sent) toggle =
    unless_no_download (toggle_refusal toggle (is_odd sent)) _ (either_no_download (is_last_after sent o.bytes) None (opened_at o.key (Uploading (sent + 1)) o.bytes) refl refl)
next_segment o _ toggle = refl

next_start : (o : OpenTransfer) (stage : Stage) → no_download (after_start o stage) ≡ true
next_start o (Begun block_size) = refl
next_start o _ = refl

next_acknowledge : (o : OpenTransfer) (stage : Stage) (sequence block_size : ℕ) → no_download (after_acknowledge o stage sequence block_size) ≡ true
next_acknowledge o (BlockUpload count sent) sequence block_size =
    unless_no_download (refused_if (nat_lt sent sequence) 0x05040003) _
    (either_no_download (count + sequence == segment_count o.bytes) (opened_at o.key BlockUploadEnded o.bytes) _ refl
    (unless_no_download (block_size_refusal block_size) (opened_at o.key (BlockUpload (count + sequence) (sub_block_length o.bytes (count + sequence) block_size)) o.bytes) refl))
next_acknowledge o _ sequence block_size = refl

-- a request that begins nothing sets nothing, and opens no download
later_opens : (d : Description) (contents : Contents) (current : Option OpenTransfer) (r : Option SdoRequest) → no_download current ≡ true → is_initiate r ≡ false
    → (no_download (after_request d contents current r) ≡ true) × (set_by_request d contents current r ≡ None)
later_opens d contents current None h n = (refl, refl)
later_opens d contents None (Some (DownloadSegment toggle segment last)) h n = (refl, refl)
later_opens d contents (Some o) (Some (DownloadSegment toggle segment last)) h n =
    let s = no_segment d contents o o.stage toggle segment.items last h in (ap no_download s.0, s.1)
later_opens d contents None (Some (BlockDownloadEnd unused)) h n = (refl, refl)
later_opens d contents (Some o) (Some (BlockDownloadEnd unused)) h n = (refl, no_end d contents o o.stage unused h)
later_opens d contents None (Some (NextSegment toggle)) h n = (refl, refl)
later_opens d contents (Some o) (Some (NextSegment toggle)) h n = (next_segment o o.stage toggle, refl)
later_opens d contents None (Some BlockUploadStart) h n = (refl, refl)
later_opens d contents (Some o) (Some BlockUploadStart) h n = (next_start o o.stage, refl)
later_opens d contents None (Some (BlockUploadAcknowledge sequence block_size)) h n = (refl, refl)
later_opens d contents (Some o) (Some (BlockUploadAcknowledge sequence block_size)) h n = (next_acknowledge o o.stage sequence block_size, refl)
later_opens d contents current (Some (Abandon key code)) h n = (refl, refl)
later_opens d contents current (Some UploadEnd) h n = (refl, refl)
later_opens d contents current (Some _) h n = absurd (false≢true (sym n))

-- ---- initiate requests

expedited_exactly : (on : Bool) (rows : Rows) (stamp : ℕ → ℕ) (refusal : Option ℕ) (key : Key) (value : ExpeditedData) (micros : ℕ) (frame : List ℕ) (done : List Complete) (count : ℕ)
    → request_in frame ≡ Some (DownloadExpedited key value) → key.index < 65536
    → Exactly None (unless refusal (whole key None (expedited_part rows key value))) done
    (hears_answers rows stamp (unless_refused refusal key (Replied (DownloadDone key) ∷ [])) (asks (went_on_as on (expedites key value micros frame)) done count))
expedited_exactly on rows stamp (Some code) key value micros frame done count q k = closed_exactly rows stamp key code done (asks (went_on_as on (expedites key value micros frame)) done count) refl
expedited_exactly on rows stamp None key value micros frame done count q k =
    answered rows stamp (DownloadDone key) (asks (went_on_as on (expedites key value micros frame)) done count) (Response (DownloadDone key))
    (Exactly None (whole key None (expedited_part rows key value)) done)
    (response_is (DownloadDone key) (went_on_as on (expedites key value micros frame)) (stamp count) refl (done_read key k))
    (rw (same_key-refl key) (record {
      holds = refl;
      same = ap (λ bytes. write_of (suc count) key bytes ++ done) (expedited_bytes rows key value (request_in frame) q);
    }))

segments_exactly : (on : Bool) (rows : Rows) (stamp : ℕ → ℕ) (refusal : Option ℕ) (key : Key) (size : Option ℕ) (micros : ℕ) (frame : List ℕ) (done : List Complete) (count : ℕ)
    → request_in frame ≡ Some (DownloadInitiate key size) → key.index < 65536
    → Exactly (unless refusal (opened_at key (Receiving size false) [])) None done
    (hears_answers rows stamp (unless_refused refusal key (Replied (DownloadDone key) ∷ [])) (asks (went_on_as on (segments key size micros frame)) done count))
segments_exactly on rows stamp (Some code) key size micros frame done count q k = closed_exactly rows stamp key code done (asks (went_on_as on (segments key size micros frame)) done count) refl
segments_exactly on rows stamp None key size micros frame done count q k =
    answered rows stamp (DownloadDone key) (asks (went_on_as on (segments key size micros frame)) done count) (Response (DownloadDone key))
    (Exactly (opened_at key (Receiving size false) []) None done)
    (response_is (DownloadDone key) (went_on_as on (segments key size micros frame)) (stamp count) refl (done_read key k))
    (rw (same_key-refl key) (record {
      holds = exact_segments false (record { in_turn = record { direction = refl; stage = refl; request = q }; regular = refl }) refl;
      same = refl;
    }))

begins_exactly : (d : Description) (contents : Contents) (stamp : ℕ → ℕ) (current : Option OpenTransfer) (request : SdoRequest) (t : Transfer) (micros : ℕ) (frame : List ℕ) (done : List Complete) (count : ℕ)
    → request_in frame ≡ Some request → begun_with request micros frame ≡ Some (went_on_as false t) → HasKey frame request → AreBytes frame → is_block_begin (Some request) ≡ false
    → Exactly (after_request d contents current (Some request)) (set_by_request d contents current (Some request)) done
    (hears_answers d.rows stamp (request_answers d contents current (Some request)) (asks t done count))
begins_exactly d contents stamp current (DownloadExpedited key value) t micros frame done count q e k small n =
    let first : expedites key value micros frame ≡ went_on_as false t = cc in
    let same : went_on_as t.went_on (expedites key value micros frame) ≡ t = ap (went_on_as t.went_on) first in
    let index : key.index < 65536 = subst (λ x. x.index < 65536) (sym k) (small_index frame small) in
    let refusal = completion_refusal d contents key None (expedited_part d.rows key value) in
    subst (λ u. Exactly None (unless refusal (whole key None (expedited_part d.rows key value))) done
    (hears_answers d.rows stamp (unless_refused refusal key (Replied (DownloadDone key) ∷ [])) (asks u done count))) same
    (expedited_exactly t.went_on d.rows stamp refusal key value micros frame done count q index)
begins_exactly d contents stamp current (DownloadInitiate key size) t micros frame done count q e k small n =
    let first : segments key size micros frame ≡ went_on_as false t = cc in
    let same : went_on_as t.went_on (segments key size micros frame) ≡ t = ap (went_on_as t.went_on) first in
    let index : key.index < 65536 = subst (λ x. x.index < 65536) (sym k) (small_index frame small) in
    let refusal = initiate_refusal d key size in
    subst (λ u. Exactly (unless refusal (opened_at key (Receiving size false) [])) None done
    (hears_answers d.rows stamp (unless_refused refusal key (Replied (DownloadDone key) ∷ [])) (asks u done count))) same
    (segments_exactly t.went_on d.rows stamp refusal key size micros frame done count q index)
begins_exactly d contents stamp current (UploadInitiate key) t micros frame done count q e k small n =
    let up : IsUpload t = subst (λ x. IfSome x IsUpload) e refl in
    uploads_exactly (after_initiate d contents (UploadInitiate key)) done _
    (unless_no_download (reading_refusal d contents key) _
    (either_no_download (nat_le 1 (length (value_at contents key)) && nat_le (length (value_at contents key)) 4) None (opened_at key (Uploading 0) (value_at contents key)) refl refl))
    (upload_answers d.rows stamp (request_answers d contents current (Some (UploadInitiate key))) done (asks t done count) (record { holds = up; same = refl }))
begins_exactly d contents stamp current (BlockUploadInitiate key block_size threshold) t micros frame done count q e k small n =
    let up : IsUpload t = subst (λ x. IfSome x IsUpload) e refl in
    uploads_exactly (after_initiate d contents (BlockUploadInitiate key block_size threshold)) done _
    (unless_no_download (first_of (reading_refusal d contents key) (block_size_refusal block_size)) (opened_at key (Begun block_size) (value_at contents key)) refl)
    (upload_answers d.rows stamp (request_answers d contents current (Some (BlockUploadInitiate key block_size threshold))) done (asks t done count) (record { holds = up; same = refl }))
begins_exactly d contents stamp current (BlockDownloadInitiate key size) t micros frame done count q e k small n = absurd (false≢true (sym n))
begins_exactly d contents stamp current _ t micros frame done count q e k small n = absurd (let f : None ≡ Some (went_on_as false t) = e in cc)

-- ---- a segment

pub capped : (d : Description) (key : Key) (row : Option Row) → IsDescription d → d.rows key ≡ row → option_map_or (λ r. r.capacity) row 0 ≤ 65535
capped d key None h e = omega arith
capped d key (Some row) h e = h.capacity key row e

not_above : (n most : ℕ) → n ≤ most → min n most ≡ n
not_above n most h = omega arith

pub size_right : (size : Option ℕ) (n : ℕ) → is_as_indicated size n ≡ true → n ≤ 65535 → size_fault size (counted n) ≡ None
size_right None n h few = refl
size_right (Some size) n h few =
    let m : n ≤ 2 ^ 64 - 1 = omega (arith, few) in
    let c : counted n ≡ n = not_above n (2 ^ 64 - 1) m in
    rw (c, h) refl

pub regular_done : (u : Transfer) (write : List Complete) → u.irregular ≡ false → size_fault u.size u.taken.count ≡ None → is_download u.direction ≡ true
    → (if is_download u.direction then if_done (verdict u None) write else []) ≡ write
regular_done u write r s p = rw (p, r, s) refl

-- what the dictionary permits when the last segment comes
abbrev IsPermitted : Rows → Transfer → List ℕ → Bool → Type 0
IsPermitted rows t bytes true = (is_as_indicated t.size (length bytes) ≡ true) × (length bytes ≤ 65535)
IsPermitted rows t bytes false = Unit {0}

segment_exactly : (rows : Rows) (stamp : ℕ → ℕ) (micros : ℕ) (heard : Bool) (t : Transfer) (got : List ℕ) (done : List Complete) (count : ℕ) (toggle last : Bool) (segment : ArrayVec ℕ) → IsClean t toggle
    → t.taken ≡ digest_of got → IsPermitted rows t (got ++ segment.items) last
    → Exactly (if last then None else Some (receiving t (got ++ segment.items) (not toggle)))
    (if last then Some (record { key = t.key; indicated = t.size; bytes = got ++ segment.items }) else None) done
    (hears_answers rows stamp (Replied (DownloadSegmentDone toggle) ∷ [])
    (record { following = record { heard = heard; transfer = Some (sent t toggle last segment micros) }; got = got; done = done; count = count }))
segment_exactly rows stamp micros heard t got done count toggle false segment h kept fits =
    let u = sent t toggle false segment micros in
    let v : View = record { following = record { heard = heard; transfer = Some u }; got = got; done = done; count = count } in
    answered rows stamp (DownloadSegmentDone toggle) v (Response (DownloadSegmentDone toggle))
    (Exactly (Some (receiving t (got ++ segment.items) (not toggle))) None done)
    (response_read u (stamp count) (response_bytes (DownloadSegmentDone toggle)) h.in_turn.direction ∙ ap response_reading (segment_done_read toggle))
    (rw (same_toggle toggle, all_taken segment.items) (record {
      holds = exact_segments (not toggle) (record { in_turn = record { direction = h.in_turn.direction; stage = refl; request = h.in_turn.request }; regular = h.regular }) refl;
      same = refl;
    }))
segment_exactly rows stamp micros heard t got done count toggle true segment h kept fits =
    let u = sent t toggle true segment micros in
    let v : View = record { following = record { heard = heard; transfer = Some u }; got = got; done = done; count = count } in
    answered rows stamp (DownloadSegmentDone toggle) v (Response (DownloadSegmentDone toggle))
    (Exactly None (Some (record { key = t.key; indicated = t.size; bytes = got ++ segment.items })) done)
    (response_read u (stamp count) (response_bytes (DownloadSegmentDone toggle)) h.in_turn.direction ∙ ap response_reading (segment_done_read toggle))
    (rw (same_toggle toggle) (record {
      holds = refl;
      same =
          ap (λ w. w ++ done)
          (regular_done (confirmed t toggle segment micros) (write_of (suc count) t.key (entry_bytes rows t.key (request_in t.request.items) (got ++ take (length segment.items) segment.items)))
          h.regular size (ap is_download h.in_turn.direction))
          ∙ ap (λ bytes. write_of (suc count) t.key bytes ++ done) bytes_are;
    }))
  where
    bytes_are : entry_bytes rows t.key (request_in t.request.items) (got ++ take (length segment.items) segment.items) ≡ got ++ segment.items
    bytes_are = rw (h.in_turn.request, all_taken segment.items) refl

    size : size_fault t.size (confirmed t toggle segment micros).taken.count ≡ None
    size =
        let k = taking t.taken got (Some (take (length segment.items) segment.items)) kept in
        let c : (confirmed t toggle segment micros).taken.count ≡ counted (length (got ++ segment.items)) =
        ap (λ g. g.count) k ∙ ap (λ items. counted (length (got ++ items))) (all_taken segment.items) in
        rw c (size_right t.size (length (got ++ segment.items)) fits.0 fits.1)

-- by its toggle
segment_comes : (d : Description) (contents : Contents) (stamp : ℕ → ℕ) (micros : ℕ) (frame : List ℕ) (heard : Bool) (t : Transfer) (got : List ℕ) (done : List Complete) (count : ℕ) (expected toggle last : Bool) (segment : ArrayVec ℕ)
    → IsClean t expected → t.taken ≡ digest_of got → IsDescription d
    → Exactly (after_segment d contents (receiving t got expected) (Receiving t.size expected) toggle segment.items last)
    (set_by_segment d contents (receiving t got expected) (Receiving t.size expected) toggle segment.items last) done
    (hears_answers d.rows stamp (segment_answers d contents (receiving t got expected) (Receiving t.size expected) toggle segment.items last)
    (read_as d.rows micros Client frame (record { following = record { heard = heard; transfer = Some t }; got = got; done = done; count = count }) (Request (DownloadSegment toggle segment last))))
segment_comes d contents stamp micros frame heard t got done count expected toggle last segment h kept lawful =
    by expected toggle h (answered_reads d.rows micros frame heard t got done count (Request (DownloadSegment toggle segment last)) (in_segments t expected h.in_turn) refl refl).same
  where
    permitted : (toggle last : Bool) → segment_refusal d contents (receiving t got toggle) t.size toggle toggle segment.items last ≡ None → IsPermitted d.rows t (got ++ segment.items) last
    permitted toggle false e = tt
    permitted toggle true e =
        let later = second_none (room_refusal d.rows t.key (got ++ segment.items)) _ (second_none (toggle_refusal toggle toggle) _ e) in
        let a = allowed d contents t.key t.size (got ++ segment.items) (first_none (completion_refusal d contents t.key t.size (got ++ segment.items)) _ later) in
        let cap = capped d t.key (d.rows t.key) lawful refl in
        let room = a.room in
        (a.as_indicated, omega (arith, room, cap))

    taken : (toggle : Bool) → IsClean t toggle → (refusal : Option ℕ) → segment_refusal d contents (receiving t got toggle) t.size toggle toggle segment.items last ≡ refusal
        → Exactly (unless refusal (if last then None else Some (receiving t (got ++ segment.items) (not toggle))))
        (unless refusal (if last then Some (record { key = t.key; indicated = t.size; bytes = got ++ segment.items }) else None)) done
        (hears_answers d.rows stamp (unless_refused refusal t.key (Replied (DownloadSegmentDone toggle) ∷ []))
        (record { following = record { heard = heard; transfer = Some (sent t toggle last segment micros) }; got = got; done = done; count = suc count }))
    taken toggle h None e = segment_exactly d.rows stamp micros heard t got done (suc count) toggle last segment h kept (permitted toggle last e)
    taken toggle h (Some code) e =
        closed_exactly d.rows stamp t.key code done (record { following = record { heard = heard; transfer = Some (sent t toggle last segment micros) }; got = got; done = done; count = suc count }) refl

    by : (expected toggle : Bool) → IsClean t expected
        → (read_as d.rows micros Client frame (record { following = record { heard = heard; transfer = Some t }; got = got; done = done; count = count }) (Request (DownloadSegment toggle segment last))).done ≡ done
        → Exactly (after_segment d contents (receiving t got expected) (Receiving t.size expected) toggle segment.items last)
        (set_by_segment d contents (receiving t got expected) (Receiving t.size expected) toggle segment.items last) done
        (hears_answers d.rows stamp (segment_answers d contents (receiving t got expected) (Receiving t.size expected) toggle segment.items last)
        (read_as d.rows micros Client frame (record { following = record { heard = heard; transfer = Some t }; got = got; done = done; count = count }) (Request (DownloadSegment toggle segment last))))
    by true false h same =
        closed_exactly d.rows stamp t.key 0x05030000 done (read_as d.rows micros Client frame (record { following = record { heard = heard; transfer = Some t }; got = got; done = done; count = count }) (Request (DownloadSegment false segment last))) same
    by false true h same =
        closed_exactly d.rows stamp t.key 0x05030000 done (read_as d.rows micros Client frame (record { following = record { heard = heard; transfer = Some t }; got = got; done = done; count = count }) (Request (DownloadSegment true segment last))) same
    by true true h same = rw (sends d.rows micros frame heard t got done count true last segment h.in_turn.stage) (taken true h _ refl)
    by false false h same = rw (sends d.rows micros frame heard t got done count false last segment h.in_turn.stage) (taken false h _ refl)

-- ---- every request

pub begin_comes : (d : Description) (contents : Contents) (stamp : ℕ → ℕ) (current : Option OpenTransfer) (request : SdoRequest) (t : Transfer) (frame : List ℕ) (heard : Bool) (held : Option Transfer) (got : List ℕ) (done : List Complete) (count : ℕ)
    → request_in frame ≡ Some request → begun_with request (stamp count) frame ≡ Some t → AreBytes frame → is_block_begin (Some request) ≡ false
    → Exactly (after_request d contents current (Some request)) (set_by_request d contents current (Some request)) done
    (hears_answers d.rows stamp (request_answers d contents current (Some request))
    (read_as d.rows (stamp count) Client frame (record { following = record { heard = heard; transfer = held }; got = got; done = done; count = count }) (Begin t)))
begin_comes d contents stamp current request t frame heard held got done count q e small n =
    let k : IfSome (request_in frame) (HasKey frame) = has_key frame in
    subst (λ before. Exactly (after_request d contents current (Some request)) (set_by_request d contents current (Some request)) before
    (hears_answers d.rows stamp (request_answers d contents current (Some request))
    (read_as d.rows (stamp count) Client frame (record { following = record { heard = heard; transfer = held }; got = got; done = done; count = count }) (Begin t))))
    (begin_writes d.rows (stamp count) frame heard held got done count t)
    (begins_exactly d contents stamp current request (begun_after held frame t) (stamp count) frame _ (suc count) q (begun_so request (stamp count) frame t e) (subst (λ r. IfSome r (HasKey frame)) q k) small n)

-- explain has an upload, or nothing
to_upload : (d : Description) (contents : Contents) (stamp : ℕ → ℕ) (current : Option OpenTransfer) (frame : List ℕ) (heard : Bool) (held : Option Transfer) (got : List ℕ) (done : List Complete) (count : ℕ) → IfSome held IsUpload
    → no_download current ≡ true → AreBytes frame → (r : Option SdoRequest) → request_in frame ≡ r → is_block_begin r ≡ false
    → Exactly (after_request d contents current r) (set_by_request d contents current r) done
    (hears_answers d.rows stamp (request_answers d contents current r)
    (read_as d.rows (stamp count) Client frame (record { following = record { heard = heard; transfer = held }; got = got; done = done; count = count }) (request_reading r (stamp count) frame)))
to_upload d contents stamp current frame heard held got done count up h small (Some (DownloadExpedited key value)) q n =
    begin_comes d contents stamp current (DownloadExpedited key value) _ frame heard held got done count q refl small n
to_upload d contents stamp current frame heard held got done count up h small (Some (DownloadInitiate key size)) q n =
    begin_comes d contents stamp current (DownloadInitiate key size) _ frame heard held got done count q refl small n
to_upload d contents stamp current frame heard held got done count up h small (Some (UploadInitiate key)) q n =
    begin_comes d contents stamp current (UploadInitiate key) _ frame heard held got done count q refl small n
to_upload d contents stamp current frame heard held got done count up h small (Some (BlockUploadInitiate key block_size threshold)) q n =
    begin_comes d contents stamp current (BlockUploadInitiate key block_size threshold) _ frame heard held got done count q refl small n
to_upload d contents stamp current frame heard held got done count up h small (Some (BlockDownloadInitiate key size)) q n = absurd (false≢true (sym n))
to_upload d contents stamp current frame heard held got done count up h small r q n =
    let v = read_as d.rows (stamp count) Client frame (record { following = record { heard = heard; transfer = held }; got = got; done = done; count = count }) (request_reading r (stamp count) frame) in
    let s = later_opens d contents current r h refl in
    let k = upload_reads d.rows (stamp count) Client frame heard held got done count (request_reading r (stamp count) frame) up refl in
    subst (λ set. Exactly (after_request d contents current r) set done (hears_answers d.rows stamp (request_answers d contents current r) v)) (sym s.1)
    (uploads_exactly (after_request d contents current r) done (hears_answers d.rows stamp (request_answers d contents current r) v) s.0
    (upload_answers d.rows stamp (request_answers d contents current r) done v k))

-- both have a download in segments
to_segments : (d : Description) (contents : Contents) (stamp : ℕ → ℕ) (frame : List ℕ) (heard : Bool) (t : Transfer) (got : List ℕ) (done : List Complete) (count : ℕ) (toggle : Bool) → IsClean t toggle
    → t.taken ≡ digest_of got → IsDescription d → AreBytes frame → (r : Option SdoRequest) → request_in frame ≡ r → is_block_begin r ≡ false
    → Exactly (after_request d contents (Some (receiving t got toggle)) r) (set_by_request d contents (Some (receiving t got toggle)) r) done
    (hears_answers d.rows stamp (request_answers d contents (Some (receiving t got toggle)) r)
    (read_as d.rows (stamp count) Client frame (record { following = record { heard = heard; transfer = Some t }; got = got; done = done; count = count }) (request_reading r (stamp count) frame)))
to_segments d contents stamp frame heard t got done count toggle h kept lawful small (Some (DownloadExpedited key value)) q n =
    begin_comes d contents stamp (Some (receiving t got toggle)) (DownloadExpedited key value) _ frame heard (Some t) got done count q refl small n
to_segments d contents stamp frame heard t got done count toggle h kept lawful small (Some (DownloadInitiate key size)) q n =
    begin_comes d contents stamp (Some (receiving t got toggle)) (DownloadInitiate key size) _ frame heard (Some t) got done count q refl small n
to_segments d contents stamp frame heard t got done count toggle h kept lawful small (Some (UploadInitiate key)) q n =
    begin_comes d contents stamp (Some (receiving t got toggle)) (UploadInitiate key) _ frame heard (Some t) got done count q refl small n
to_segments d contents stamp frame heard t got done count toggle h kept lawful small (Some (BlockUploadInitiate key block_size threshold)) q n =
    begin_comes d contents stamp (Some (receiving t got toggle)) (BlockUploadInitiate key block_size threshold) _ frame heard (Some t) got done count q refl small n
to_segments d contents stamp frame heard t got done count toggle h kept lawful small (Some (BlockDownloadInitiate key size)) q n = absurd (false≢true (sym n))
to_segments d contents stamp frame heard t got done count toggle h kept lawful small (Some (DownloadSegment toggled segment last)) q n =
    segment_comes d contents stamp (stamp count) frame heard t got done count toggle toggled last segment h kept lawful
to_segments d contents stamp frame heard t got done count toggle h kept lawful small (Some (Abandon key code)) q n = record {
  holds = refl;
  same = ap (λ w. w ++ done) (no_write (is_download t.direction) _ (abort_no_write Client (not_followed_by Client t frame) code _));
}
to_segments d contents stamp frame heard t got done count toggle h kept lawful small r q n =
    closed_exactly d.rows stamp t.key 0x05040001 done
    (read_as d.rows (stamp count) Client frame (record { following = record { heard = heard; transfer = Some t }; got = got; done = done; count = count }) (request_reading r (stamp count) frame))
    (answered_reads d.rows (stamp count) frame heard t got done count (request_reading r (stamp count) frame) (in_segments t toggle h.in_turn) refl refl).same

-- the channel has dropped it
to_dropped : (d : Description) (contents : Contents) (stamp : ℕ → ℕ) (frame : List ℕ) (heard : Bool) (t : Transfer) (got : List ℕ) (done : List Complete) (count : ℕ) (toggle : Bool) → InSegments t toggle
    → AreBytes frame → (r : Option SdoRequest) → request_in frame ≡ r → is_block_begin r ≡ false
    → Exactly (after_request d contents None r) (set_by_request d contents None r) done
    (hears_answers d.rows stamp (request_answers d contents None r)
    (read_as d.rows (stamp count) Client frame (record { following = record { heard = heard; transfer = Some t }; got = got; done = done; count = count }) (request_reading r (stamp count) frame)))
to_dropped d contents stamp frame heard t got done count toggle h small (Some (DownloadExpedited key value)) q n =
    begin_comes d contents stamp None (DownloadExpedited key value) _ frame heard (Some t) got done count q refl small n
to_dropped d contents stamp frame heard t got done count toggle h small (Some (DownloadInitiate key size)) q n =
    begin_comes d contents stamp None (DownloadInitiate key size) _ frame heard (Some t) got done count q refl small n
to_dropped d contents stamp frame heard t got done count toggle h small (Some (UploadInitiate key)) q n =
    begin_comes d contents stamp None (UploadInitiate key) _ frame heard (Some t) got done count q refl small n
to_dropped d contents stamp frame heard t got done count toggle h small (Some (BlockUploadInitiate key block_size threshold)) q n =
    begin_comes d contents stamp None (BlockUploadInitiate key block_size threshold) _ frame heard (Some t) got done count q refl small n
to_dropped d contents stamp frame heard t got done count toggle h small (Some (BlockDownloadInitiate key size)) q n = absurd (false≢true (sym n))
to_dropped d contents stamp frame heard t got done count toggle h small (Some (Abandon key code)) q n = record {
  holds = refl;
  same = ap (λ w. w ++ done) (no_write (is_download t.direction) _ (abort_no_write Client (not_followed_by Client t frame) code _));
}
to_dropped d contents stamp frame heard t got done count toggle h small r q n =
    closed_exactly d.rows stamp (record { index = 0; sub = 0 }) 0x05040001 done
    (read_as d.rows (stamp count) Client frame (record { following = record { heard = heard; transfer = Some t }; got = got; done = done; count = count }) (request_reading r (stamp count) frame))
    (answered_reads d.rows (stamp count) frame heard t got done count (request_reading r (stamp count) frame) (in_segments t toggle h) refl refl).same

pub upload_plain : (t : Transfer) (micros : ℕ) (frame : List ℕ) → IsUpload t → reading_of (Some t) Client micros frame ≡ request_reading (request_in frame) micros frame
upload_plain t micros frame e = by (may_have_segment t.stage t.direction t.protocol) t.direction e
  where
    by : (inside : Bool) (x : Direction) → x ≡ Upload
        → (if (if inside then is_sender x Client else false) then sub_block_reading t.block_size Client micros frame else plain_reading Client micros frame) ≡ request_reading (request_in frame) micros frame
    by true x e = rw e refl
    by false x e = refl

pub upload_outside : (current : Option OpenTransfer) → no_download current ≡ true → is_in_sub_block current ≡ false
upload_outside None h = refl
upload_outside (Some o) h = by o.stage h
  where
    by : (stage : Stage) → is_upload_stage stage ≡ true → is_sub_block stage ≡ false
    by (InSubBlock size taken) h = absurd (false≢true h)
    by _ h = refl

exact_by : (d : Description) (contents : Contents) (stamp : ℕ → ℕ) (frame : List ℕ) (current : Option OpenTransfer) (heard : Bool) (held : Option Transfer) (got : List ℕ) (done : List Complete) (count : ℕ)
    → ExactIn held got current → IfSome held (λ t. t.taken ≡ digest_of got) → IsDescription d → AreBytes frame → is_block_begin (request_in frame) ≡ false
    → Exactly (opened_next d contents current frame) (set_next d contents current frame) done
    (hears_answers d.rows stamp (answers_to d contents current frame)
    (hears d.rows stamp Client frame (record { following = record { heard = heard; transfer = held }; got = got; done = done; count = count })))
exact_by d contents stamp frame current heard None got done count h kept lawful small n =
    let o = upload_outside current h in
    rw (outside_answers d contents current frame o, outside_opens d contents current frame o, outside_sets d contents current frame o)
    (to_upload d contents stamp current frame heard None got done count tt h small (request_in frame) refl n)
exact_by d contents stamp frame current heard (Some t) got done count (exact_upload up h) kept lawful small n =
    let o = upload_outside current h in
    rw (outside_answers d contents current frame o, outside_opens d contents current frame o, outside_sets d contents current frame o, upload_plain t (stamp count) frame up)
    (to_upload d contents stamp current frame heard (Some t) got done count up h small (request_in frame) refl n)
exact_by d contents stamp frame current heard (Some t) got done count (exact_segments toggle h c) kept lawful small n =
    rw (c, client_plain t toggle (stamp count) frame h.in_turn.stage)
    (to_segments d contents stamp frame heard t got done count toggle h kept lawful small (request_in frame) refl n)
exact_by d contents stamp frame current heard (Some t) got done count (exact_dropped toggle h c) kept lawful small n =
    rw (c, client_plain t toggle (stamp count) frame h.stage)
    (to_dropped d contents stamp frame heard t got done count toggle h small (request_in frame) refl n)

pub exact_exchange : (d : Description) (contents : Contents) (stamp : ℕ → ℕ) (frame : List ℕ) (current : Option OpenTransfer) (v : View) → ExactIn v.following.transfer v.got current
    → IfSome v.following.transfer (λ t. t.taken ≡ digest_of v.got) → IsDescription d → AreBytes frame → is_block_begin (request_in frame) ≡ false
    → Exactly (opened_next d contents current frame) (set_next d contents current frame) v.done
    (hears_answers d.rows stamp (answers_to d contents current frame) (hears d.rows stamp Client frame v))
exact_exchange d contents stamp frame current v h kept lawful small n =
    exact_by d contents stamp frame current v.following.heard v.following.transfer v.got v.done v.count h kept lawful small n

-- how frames are read where none is inside a sub-block
pub client_reads : (held : Option Transfer) (got : List ℕ) (current : Option OpenTransfer) (micros : ℕ) (frame : List ℕ) → ExactIn held got current → reading_of held Client micros frame ≡ request_reading (request_in frame) micros frame
client_reads None got current micros frame h = refl
client_reads (Some t) got current micros frame (exact_upload up n) = upload_plain t micros frame up
client_reads (Some t) got current micros frame (exact_segments toggle h c) = client_plain t toggle micros frame h.in_turn.stage
client_reads (Some t) got current micros frame (exact_dropped toggle h c) = client_plain t toggle micros frame h.stage
