-- What explain's open upload and the channel's open transfer have to do with one another: `Follows`; where an initiate request leaves them,
-- and a request that completes nothing.
--
-- `Loose` says which of the two laws it is for: where it holds, explain may lose what the channel goes on with (a frame that hasn't
-- eight bytes, a block download), and such an upload isn't done. Where it doesn't, both always are as far.
use Rattle.std.proofs.Common.{◌≡◌, ℕ, ◌*◌, ◌-◌, ◌^◌, ◌<◌, ◌≤◌, Bool, true, false, not, List, [], ◌∷◌, ◌++◌, length, take, Option, Some, None, refl, sym, ap, ◌∙◌, ◌⊎◌, inl, inr, subst, arith}
use Rattle.std.specs.Prelude.{if◌then◌else◌, IfSome, min, nat_le, ◌==◌, ◌&&◌}
use Rattle.std.proofs.lemmas.Bool.{false≢true}
use Rattle.std.proofs.lemmas.Bool.Decides.{nat_tests}
use Rattle.co_value.specs.declared.key.Key.{Key}
use Rattle.co_value.specs.Keys.{same_key-refl}
use Rattle.co_value.specs.Numbers.{AreBytes}
use Rattle.co_frame.specs.Segments.{is_odd}
use Rattle.co_frame.specs.SdoRequests.{request_in}
use Rattle.co_frame.specs.SdoResponses.{response_bytes}
use Rattle.co_frame.specs.declared.sdo_request.ExpeditedData.TheVariants.{Indicated}
use Rattle.co_frame.specs.declared.sdo_request.SdoRequest.{SdoRequest}
use Rattle.co_frame.specs.declared.sdo_request.SdoRequest.TheVariants.{DownloadExpedited, DownloadInitiate, Upload as UploadInitiate, Abort as Abandon, BlockUploadInitiate, BlockUploadEnd as UploadEnd, BlockDownloadInitiate}
use Rattle.co_frame.specs.declared.sdo_response.SdoResponse.{SdoResponse}
use Rattle.co_frame.specs.declared.sdo_response.SdoResponse.TheVariants.{UploadExpedited, UploadInitiated, BlockDownloadAcknowledge, BlockUploadInitiated}
use Rattle.co_dict.specs.Rows.{Rows, Contents}
use Rattle.co_dict.specs.Stores.{Description, IsDictionary}
use Rattle.co_dict.specs.Refusals.{first_of}
use Rattle.co_sdo.specs.declared.stage.Stage.{Stage}
use Rattle.co_sdo.specs.declared.stage.Stage.TheVariants.{Download as Receiving, Upload as Uploading, SubBlock as InSubBlockStage, BlockUploadInitiated as Begun, BlockUpload, BlockUploadEnded}
use Rattle.co_sdo.specs.Refused.{reading_refusal, initiate_refusal}
use Rattle.co_sdo.specs.Log.{Answer, Response as Replied}
use Rattle.co_sdo.specs.SubBlocks.{ends_sub_block}
use Rattle.co_sdo.specs.Uploads.{value_at, upload_initiated}
use Rattle.co_sdo.specs.Opened.{OpenTransfer}
use Rattle.co_sdo.specs.Replies.{aborted, unless_refused, block_size_refusal, sub_block_refusal, frame_answers, request_answers, is_in_sub_block, answers_to, taken_with}
use Rattle.co_sdo.specs.Completed.{unless}
use Rattle.co_sdo.specs.Steps.{opened_at, after_request, opened_next, after_upload_initiate}
use Rattle.co_sdo.specs.OpenTransfers.{is_upload_end}
use Rattle.co_sdo.proofs.RefusalLemmas.{not_refused, second_none}
use Rattle.co_sdo.proofs.StoreLemmas.{value_fits}
use Rattle.co_sdo_laws.proofs.Frames.{acknowledged_read, expedited_sent_read, upload_initiated_read, block_upload_initiated_read}
use Rattle.conode_explain_transfers.specs.declared.kinds.Direction.TheVariants.{Download, Upload}
use Rattle.conode_explain_transfers.specs.declared.kinds.Protocol.TheVariants.{Block, Undecided}
use Rattle.conode_explain_transfers.specs.declared.kinds.Side.TheVariants.{Client, Server}
use Rattle.conode_explain_transfers.specs.declared.stage.Stage.{Stage as Progress}
use Rattle.conode_explain_transfers.specs.declared.stage.Stage.TheVariants.{Initiated, UploadTaken, UploadAsked, BlockInitiated, SubBlock, AllAcknowledged, BlockEnded}
use Rattle.conode_explain_transfers.specs.declared.transfer.Transfer.{Transfer}
use Rattle.conode_explain_transfers.specs.BlockTurns.{is_block, end_confirmed, end_confirmed_at}
use Rattle.conode_explain_transfers.specs.Digests.{counted}
use Rattle.conode_explain_transfers.specs.Endings.{bytes_come, excess, size_fault, verdict}
use Rattle.conode_explain_transfers.specs.Initiates.{has_crc, initiate_of}
use Rattle.conode_explain_transfers.specs.Stages.{confirmed_with}
use Rattle.conode_explain_transfers.specs.Transfers.{Turn, begun as begun_with_initiate, is_download, unexpected}
use Rattle.conode_explain_transfers.specs.Turns.{request_turn}
use Rattle.conode_explain_transfers.specs.Unanswered.{not_followed_by}
use Rattle.conode_explain_laws.specs.Downloads.{Complete, is_block_begin, if_done}
use Rattle.conode_explain_laws.specs.Uploads.{is_upload, Read, ended_by, read_served}
use Rattle.conode_explain_laws.proofs.Readings.{went_on_as, Reading, Segment, Begin, Abort, Request, Response, Nothing, begun_with, begins_or, request_reading, response_reading, reading_of, turn_of}
use Rattle.conode_explain_laws.proofs.Views.{abort_no_write, View, Closes, no_write, is_begin}
use Rattle.conode_explain_laws.proofs.Follows.{IsLate, late_segment_at, late_other, BegunBy, is_response}
use Rattle.conode_explain_laws.proofs.Begins.{HasKey, has_key, small_index, inside_answers, outside_answers, outside_opens, response_is, acknowledged_spoils, awaits}
use Rattle.conode_explain_laws.proofs.Exact.{capped}
use Rattle.conode_explain_laws.proofs.UploadViews.{holds, read_as, hears_answers, aborted_closes, late_turn, IsAside, KnowsAside, aside_turn, aside_answers}
use Rattle.conode_explain_laws.proofs.UploadSteps.{answered_by, acknowledged_by, answered_next, acknowledged_next}
use Rattle.conode_explain_laws.proofs.UploadBlocks.{InBlocks, InSubBlock}

-- ---- both

-- an upload in segments, of which this many have come
pub record InUpload (t : Transfer) (bytes : List ℕ) (sent : ℕ) : Type 0 where
  pub direction : t.direction ≡ Upload
  pub stage : t.stage ≡ UploadTaken (is_odd sent)
  pub regular : t.irregular ≡ false
  pub pending : t.pending.items ≡ []
  pub size : t.size ≡ Some (length bytes)
  pub few : length bytes ≤ 65535

-- an upload in blocks that the server has agreed to
pub record InBegun (t : Transfer) (bytes : List ℕ) (block_size : ℕ) : Type 0 where
  pub is : InBlocks t bytes
  pub stage : t.stage ≡ BlockInitiated
  pub number : t.next_number ≡ 1
  pub pending : t.pending.items ≡ []
  pub size : t.block_size ≡ block_size
  pub small : block_size < 128

-- the server's end has come
pub record AtEnd (t : Transfer) (bytes : List ℕ) (crc : ℕ) : Type 0 where
  pub is : InBlocks t bytes
  pub stage : t.stage ≡ BlockEnded crc

abbrev pub is_ended : Progress → Bool
is_ended (BlockEnded crc) = true
is_ended _ = false

-- the stages of an upload after the response and before the server's end
abbrev pub is_sending : Progress → Bool
is_sending (UploadTaken toggle) = true
is_sending (UploadAsked toggle) = true
is_sending BlockInitiated = true
is_sending (SubBlock last) = true
is_sending AllAcknowledged = true
is_sending _ = false

-- an upload that no request completes, and of which no more bytes came than were indicated
pub record IsWaiting (t : Transfer) : Type 0 where
  pub direction : t.direction ≡ Upload
  pub unconfirmed : confirmed_with t.stage ≡ None
  pub unended : is_ended t.stage ≡ false
  pub sending : is_sending t.stage ≡ true
  pub within : excess t.size (bytes_come t) ≡ None

-- the channel has no upload open, and none awaits the client's end; and the next frame isn't inside a sub-block
abbrev pub is_segmented : Stage → Bool
is_segmented (Receiving size toggle) = true
is_segmented _ = false

abbrev pub no_upload : Option OpenTransfer → Bool
no_upload None = true
no_upload (Some o) = is_segmented o.stage

pub record NoUpload (current : Option OpenTransfer) (ended : Option Read) : Type 0 where
  pub none : no_upload current ≡ true
  pub no_end : ended ≡ None

-- explain's transfer isn't followed; or its initiate request isn't answered; or the channel has dropped it; or both are as far in an
-- upload in segments, and what has come is the first of the channel's bytes; or in an upload in blocks: before its start, in a
-- sub-block, or at its end, where the channel may have dropped it
pub data Follows (Loose : Type 0) (t : Transfer) (got : List ℕ) (current : Option OpenTransfer) (ended : Option Read) : Type 0 where
  aside : IsAside Loose t → Loose ⊎ NoUpload current ended → Follows Loose t got current ended
  asked : Loose → t.stage ≡ Initiated → Follows Loose t got current ended
  gone : IsWaiting t → current ≡ None → ended ≡ None → Follows Loose t got current ended
  segmented : (sent : ℕ) (bytes : List ℕ) → InUpload t bytes sent → got ≡ take (7 * sent) bytes
      → current ≡ Some (record { key = t.key; stage = Uploading sent; bytes = bytes }) → ended ≡ None → Follows Loose t got current ended
  begun : (block_size : ℕ) (bytes : List ℕ) → InBegun t bytes block_size → got ≡ []
      → current ≡ Some (record { key = t.key; stage = Begun block_size; bytes = bytes }) → ended ≡ None → Follows Loose t got current ended
  blocks : (position sent : ℕ) (bytes : List ℕ) → InSubBlock t got bytes position sent
      → current ≡ Some (record { key = t.key; stage = BlockUpload position sent; bytes = bytes }) → ended ≡ None → Follows Loose t got current ended
  at_end : (crc : ℕ) (bytes : List ℕ) → AtEnd t bytes crc → got ≡ bytes
      → (current ≡ None) ⊎ (current ≡ Some (record { key = t.key; stage = BlockUploadEnded; bytes = bytes })) → ended ≡ Some (record { key = t.key; bytes = bytes })
      → Follows Loose t got current ended

abbrev pub FollowsIn : Type 0 → Option Transfer → List ℕ → Option OpenTransfer → Option Read → Type 0
FollowsIn Loose None got current ended = Loose ⊎ NoUpload current ended
FollowsIn Loose (Some t) got current ended = Follows Loose t got current ended

-- after a request with its answers: what is open then, and which upload awaits the client's end; and what is done, where the
-- answers complete an upload, after what the request completed
pub record Ends (Loose : Type 0) (next : Option OpenTransfer) (ended answered : Option Read) (whole done : List Complete) (v : View) : Type 0 where
  pub follows : FollowsIn Loose v.following.transfer v.got next ended
  pub reads : (Loose × (v.done ≡ done)) ⊎ (v.done ≡ read_served answered v.count ++ whole)

module _ (Loose : Type 0) (next : Option OpenTransfer) (ended : Option Read) (whole done : List Complete) where
  -- nothing is open
  pub ends_closed : (v : View) → NoUpload next ended → Closes whole v → Ends Loose next ended None whole done v
  ends_closed v n h = record { follows = rw h.none (inr n); reads = inr h.same }

  pub closed : (stamp : ℕ → ℕ) (key : Key) (code : ℕ) (v : View) → NoUpload next ended → v.done ≡ whole → Ends Loose next ended None whole done (hears_answers stamp (aborted key code) v)
  closed stamp key code v n e =
      let c = aborted_closes stamp key code v in
      ends_closed (hears_answers stamp (aborted key code) v) n (record { none = c.none; same = c.same ∙ e })

  pub aside_follows : (held : Option Transfer) (got : List ℕ) → Loose ⊎ NoUpload next ended → IfSome held (IsAside Loose) → FollowsIn Loose held got next ended
  aside_follows None got n h = n
  aside_follows (Some t) got n h = aside h n

  -- no upload
  pub ends_aside : (v : View) → Loose ⊎ NoUpload next ended → KnowsAside Loose whole v → Ends Loose next ended None whole done v
  ends_aside v n h = record { follows = aside_follows v.following.transfer v.got n h.holds; reads = inr h.same }

  -- one that may be left out
  pub ends_loose : (answered : Option Read) (v : View) → Loose → KnowsAside Loose done v → Ends Loose next ended answered whole done v
  ends_loose answered v l h = record { follows = aside_follows v.following.transfer v.got (inl l) h.holds; reads = inl (l, h.same) }

  pub closed_loose : (answered : Option Read) (stamp : ℕ → ℕ) (key : Key) (code : ℕ) (v : View) → Loose → v.done ≡ done → Ends Loose next ended answered whole done (hears_answers stamp (aborted key code) v)
  closed_loose answered stamp key code v l e =
      let c = aborted_closes stamp key code v in
      record { follows = rw c.none (inl l); reads = inl (l, c.same ∙ e) }

-- a refusal is an abort
pub refused : (Loose : Type 0) (stamp : ℕ → ℕ) (refusal : Option ℕ) (key : Key) (answers : List Answer) (next : Option OpenTransfer) (answered : Option Read) (done : List Complete) (v : View) → v.done ≡ done
    → (refusal ≡ None → Ends Loose next None answered done done (hears_answers stamp answers v))
    → Ends Loose (unless refusal next) None (unless refusal answered) done done (hears_answers stamp (unless_refused refusal key answers) v)
refused Loose stamp None key answers next answered done v e h = h refl
refused Loose stamp (Some code) key answers next answered done v e h = closed Loose None None done done stamp key code v (record { none = refl; no_end = refl }) e

pub refused_begin : (Loose : Type 0) (stamp : ℕ → ℕ) (refusal : Option ℕ) (key : Key) (answers : List Answer) (next : Option OpenTransfer) (done : List Complete) (v : View) → v.done ≡ done
    → (refusal ≡ None → Ends Loose next None None done done (hears_answers stamp answers v))
    → Ends Loose (unless refusal next) None None done done (hears_answers stamp (unless_refused refusal key answers) v)
refused_begin Loose stamp None key answers next done v e h = h refl
refused_begin Loose stamp (Some code) key answers next done v e h = closed Loose None None done done stamp key code v (record { none = refl; no_end = refl }) e

-- one answer that is read so
pub answered : (stamp : ℕ → ℕ) (response : SdoResponse) (v : View) (reading : Reading) (P : View → Type 0)
    → reading_of v.following.transfer Server (stamp v.count) (response_bytes response) ≡ reading
    → P (read_as (stamp v.count) Server (response_bytes response) v reading) → P (hears_answers stamp (Replied response ∷ []) v)
answered stamp response v reading P e h = subst (λ r. P (read_as (stamp v.count) Server (response_bytes response) v r)) (sym e) h

-- ---- sizes

pub few_bytes : (d : Description) (contents : Contents) (key : Key) → IsDictionary d contents → length (value_at contents key) ≤ 65535
few_bytes d contents key h =
    let fits = value_fits d contents key h in
    let cap = capped d key (d.rows key) h.description refl in
    omega (arith, fits, cap)

pub size_is : (size : Option ℕ) (count : ℕ) (bytes : List ℕ) → size ≡ Some (length bytes) → count ≡ counted (length bytes) → length bytes ≤ 65535 → size_fault size count ≡ None
size_is size count bytes s c few =
    let m : length bytes ≤ 2 ^ 64 - 1 = omega (arith, few) in
    let n : count ≡ length bytes = c ∙ not_above (length bytes) (2 ^ 64 - 1) m in
    let same : (length bytes == length bytes) ≡ true = grind (arith, nat_tests) in
    rw (s, n, same) refl
  where
    not_above : (n most : ℕ) → n ≤ most → min n most ≡ n
    not_above n most h = omega arith

pub regular_done : (u : Transfer) (write : List Complete) → u.irregular ≡ false → size_fault u.size u.taken.count ≡ None → is_upload u.direction ≡ true
    → (if is_upload u.direction then if_done (verdict u None) write else []) ≡ write
regular_done u write r s p = rw (p, r, s) refl

-- ---- after an initiate request: explain has this transfer

abbrev pub asks : Transfer → List Complete → ℕ → View
asks t done count = holds true (Some t) [] done count

-- the channel takes the frame inside a sub-block
pub inside : (Loose : Type 0) (stamp : ℕ → ℕ) (rows : Rows) (o : OpenTransfer) (stage : Stage) (t : Transfer) (frame : List ℕ) (whole done : List Complete) (count : ℕ) (next : Option OpenTransfer) (ended answers : Option Read) → Loose → t.stage ≡ Initiated
    → Ends Loose next ended answers whole done (hears_answers stamp (frame_answers rows o stage frame) (asks t done count))
inside Loose stamp rows o (InSubBlockStage indicated taken) t frame whole done count next ended answers l s = by_end (ends_sub_block frame)
  where
    response : SdoResponse
    response = BlockDownloadAcknowledge (taken_with taken frame) 127

    by_refusal : (refusal : Option ℕ) → Ends Loose next ended answers whole done (hears_answers stamp (unless_refused refusal o.key (Replied response ∷ [])) (asks t done count))
    by_refusal (Some code) = closed_loose Loose next ended whole done answers stamp o.key code (asks t done count) l refl
    by_refusal None =
        ends_loose Loose next ended whole done answers (hears_answers stamp (Replied response ∷ []) (asks t done count)) l
        (answered stamp response (asks t done count) (Response response) (KnowsAside Loose done)
        (response_is response t (stamp count) s (acknowledged_read (taken_with taken frame) 127))
        (aside_turn Loose (stamp count) Server (response_bytes response) true t [] done count (Response response)
        (inl (l, acknowledged_spoils (is_download t.direction) t (taken_with taken frame) 127 s))))

    by_end : (ends : Bool)
        → Ends Loose next ended answers whole done (hears_answers stamp
        (if ends then unless_refused (sub_block_refusal rows o taken frame) o.key (Replied response ∷ []) else [])
        (asks t done count))
    by_end false = record { follows = asked l s; reads = inl (l, refl) }
    by_end true = by_refusal (sub_block_refusal rows o taken frame)
inside Loose stamp rows o _ t frame whole done count next ended answers l s = closed_loose Loose next ended whole done answers stamp o.key 0x05040001 (asks t done count) l refl

-- an upload
abbrev pub uploads : Key → ℕ → List ℕ → Transfer
uploads key micros frame = begun_with_initiate (initiate_of key Upload Undecided) micros frame

-- at least one byte, and no more than four
pub is_some : (value : List ℕ) → (nat_le 1 (length value) && nat_le (length value) 4) ≡ true → 1 ≤ length value
is_some value e = grind (arith, nat_tests)

pub few : (value : List ℕ) → (nat_le 1 (length value) && nat_le (length value) 4) ≡ true → length value ≤ 4
few value e = grind (arith, nat_tests)

-- it is answered at once
pub expedited_done : (on : Bool) (Loose : Type 0) (stamp : ℕ → ℕ) (key : Key) (value : List ℕ) (micros : ℕ) (frame : List ℕ) (done : List Complete) (count : ℕ)
    → key.index < 65536 → (nat_le 1 (length value) && nat_le (length value) 4) ≡ true
    → Ends Loose None None (Some (record { key = key; bytes = value })) done done (hears_answers stamp (Replied (UploadExpedited key (Indicated (record { items = value }))) ∷ []) (asks (went_on_as on (uploads key micros frame)) done count))
expedited_done on Loose stamp key value micros frame done count k e =
    let response = UploadExpedited key (Indicated (record { items = value })) in
    answered stamp response (asks (went_on_as on (uploads key micros frame)) done count) (Response response) (Ends Loose None None (Some (record { key = key; bytes = value })) done done)
    (response_is response (went_on_as on (uploads key micros frame)) (stamp count) refl (expedited_sent_read key value k (is_some value e) (few value e)))
    (rw (same_key-refl key) (record { follows = inr (record { none = refl; no_end = refl }); reads = inr refl }))

-- it is answered in segments
pub segments_begin : (on : Bool) (Loose : Type 0) (stamp : ℕ → ℕ) (key : Key) (value : List ℕ) (micros : ℕ) (frame : List ℕ) (done : List Complete) (count : ℕ)
    → key.index < 65536 → length value ≤ 65535
    → Ends Loose (opened_at key (Uploading 0) value) None None done done (hears_answers stamp (Replied (UploadInitiated key (Some (length value))) ∷ []) (asks (went_on_as on (uploads key micros frame)) done count))
segments_begin on Loose stamp key value micros frame done count k m =
    let response = UploadInitiated key (Some (length value)) in
    answered stamp response (asks (went_on_as on (uploads key micros frame)) done count) (Response response) (Ends Loose (opened_at key (Uploading 0) value) None None done done)
    (ap response_reading (upload_initiated_read key (length value) k (omega (arith, m))))
    (rw (same_key-refl key) (record {
      follows = segmented 0 value (record { direction = refl; stage = refl; regular = refl; pending = refl; size = refl; few = m }) refl refl refl;
      reads = inr refl;
    }))

pub upload_begins : (on : Bool) (Loose : Type 0) (stamp : ℕ → ℕ) (key : Key) (value : List ℕ) (micros : ℕ) (frame : List ℕ) (done : List Complete) (count : ℕ)
    → key.index < 65536 → length value ≤ 65535
    → Ends Loose (after_upload_initiate key value) None (if nat_le 1 (length value) && nat_le (length value) 4 then Some (record { key = key; bytes = value }) else None) done done
    (hears_answers stamp (upload_initiated key value) (asks (went_on_as on (uploads key micros frame)) done count))
upload_begins on Loose stamp key value micros frame done count k m = by (nat_le 1 (length value) && nat_le (length value) 4) refl
  where
    by : (short : Bool) → (nat_le 1 (length value) && nat_le (length value) 4) ≡ short
        → Ends Loose (if short then None else opened_at key (Uploading 0) value) None (if short then Some (record { key = key; bytes = value }) else None) done done
        (hears_answers stamp (if short then Replied (UploadExpedited key (Indicated (record { items = value }))) ∷ [] else Replied (UploadInitiated key (Some (length value))) ∷ []) (asks (went_on_as on (uploads key micros frame)) done count))
    by true e = expedited_done on Loose stamp key value micros frame done count k e
    by false e = segments_begin on Loose stamp key value micros frame done count k m

-- an upload in blocks
abbrev pub in_blocks : Key → ℕ → ℕ → List ℕ → Transfer
in_blocks key block_size micros frame = begun_with_initiate (record (initiate_of key Upload Block) { crc = has_crc frame; block_size = block_size }) micros frame

pub never : (b : Bool) → (b && false) ≡ false
never true = refl
never false = refl

pub second_true : (a b : Bool) → not (a && b) ≡ false → b ≡ true
second_true true true h = refl
second_true true false h = sym h
second_true false b h = absurd (false≢true (sym h))

pub block_size_small : (size : ℕ) → block_size_refusal size ≡ None → size < 128
block_size_small size h =
    let within : nat_le size 127 ≡ true = second_true (nat_le 1 size) (nat_le size 127) (not_refused _ _ h) in
    grind (arith, nat_tests)

pub blocks_begin : (on : Bool) (Loose : Type 0) (stamp : ℕ → ℕ) (key : Key) (block_size : ℕ) (value : List ℕ) (micros : ℕ) (frame : List ℕ) (done : List Complete) (count : ℕ)
    → key.index < 65536 → length value ≤ 65535 → block_size < 128
    → Ends Loose (opened_at key (Begun block_size) value) None None done done (hears_answers stamp (Replied (BlockUploadInitiated key (Some (length value))) ∷ []) (asks (went_on_as on (in_blocks key block_size micros frame)) done count))
blocks_begin on Loose stamp key block_size value micros frame done count k m small =
    let response = BlockUploadInitiated key (Some (length value)) in
    answered stamp response (asks (went_on_as on (in_blocks key block_size micros frame)) done count) (Response response) (Ends Loose (opened_at key (Begun block_size) value) None None done done)
    (ap response_reading (block_upload_initiated_read key (length value) k (omega (arith, m))))
    (rw (same_key-refl key) (record {
      follows = begun block_size value
          (record { is = record { direction = refl; protocol = refl; regular = refl; crc = never (has_crc frame); size = refl; few = m }; stage = refl; number = refl; pending = refl; size = refl; small = small })
          refl refl refl;
      reads = inr refl;
    }))

-- a download
abbrev pub downloads : Option Transfer → Type 0
downloads x = IfSome x (λ t. t.direction ≡ Download)

pub download : (x : Option Transfer) (t : Transfer) → x ≡ Some t → downloads x → t.direction ≡ Download
download x t e h = subst downloads e h

pub unless_no_upload : (refusal : Option ℕ) (next : Option OpenTransfer) → no_upload next ≡ true → no_upload (unless refusal next) ≡ true
unless_no_upload None next h = h
unless_no_upload (Some code) next h = refl

-- by the request, outside a sub-block
module _ (Loose : Type 0) (d : Description) (contents : Contents) (stamp : ℕ → ℕ) (current : Option OpenTransfer) (ended : Option Read) (t : Transfer) (micros : ℕ) (frame : List ℕ) (done : List Complete) (count n : ℕ) where
  -- the client's end is none
  abbrev pub Begins : SdoRequest → Type 0
  Begins request =
      Ends Loose (after_request d contents current (Some request)) (acknowledged_by current (Some request)) (answered_by d contents current (Some request))
      (read_served (ended_by (Some request) ended) n ++ done) done (hears_answers stamp (request_answers d contents current (Some request)) (asks t done count))

  pub outside : (request : SdoRequest) → begun_with request micros frame ≡ Some (went_on_as false t) → HasKey frame request → AreBytes frame → IsDictionary d contents → Loose ⊎ (is_block_begin (Some request) ≡ false) → Begins request
  outside (UploadInitiate key) e k small lawful plain =
      let first : uploads key micros frame ≡ went_on_as false t = cc in
      let same : went_on_as t.went_on (uploads key micros frame) ≡ t = ap (went_on_as t.went_on) first in
      let index : key.index < 65536 = subst (λ x. x.index < 65536) (sym k) (small_index frame small) in
      let value = value_at contents key in
      let refusal = reading_refusal d contents key in
      let answer : Option Read = if nat_le 1 (length value) && nat_le (length value) 4 then Some (record { key = key; bytes = value }) else None in
      subst (λ u. Ends Loose (unless refusal (after_upload_initiate key value)) None (unless refusal answer) done done
      (hears_answers stamp (unless_refused refusal key (upload_initiated key value)) (asks u done count))) same
      (refused Loose stamp refusal key (upload_initiated key value) (after_upload_initiate key value) answer done (asks (went_on_as t.went_on (uploads key micros frame)) done count) refl
      (λ r. upload_begins t.went_on Loose stamp key value micros frame done count index (few_bytes d contents key lawful)))
  outside (BlockUploadInitiate key block_size threshold) e k small lawful plain =
      let first : in_blocks key block_size micros frame ≡ went_on_as false t = cc in
      let same : went_on_as t.went_on (in_blocks key block_size micros frame) ≡ t = ap (went_on_as t.went_on) first in
      let index : key.index < 65536 = subst (λ x. x.index < 65536) (sym k) (small_index frame small) in
      let value = value_at contents key in
      let refusal = first_of (reading_refusal d contents key) (block_size_refusal block_size) in
      let response = BlockUploadInitiated key (Some (length value)) in
      subst (λ u. Ends Loose (unless refusal (opened_at key (Begun block_size) value)) None None done done
      (hears_answers stamp (unless_refused refusal key (Replied response ∷ [])) (asks u done count))) same
      (refused_begin Loose stamp refusal key (Replied response ∷ []) (opened_at key (Begun block_size) value) done (asks (went_on_as t.went_on (in_blocks key block_size micros frame)) done count) refl
      (λ r. blocks_begin t.went_on Loose stamp key block_size value micros frame done count index (few_bytes d contents key lawful)
      (block_size_small block_size (second_none (reading_refusal d contents key) (block_size_refusal block_size) r))))
  outside (DownloadExpedited key value) e k small lawful plain =
      let p : t.direction ≡ Download = download (begun_with (DownloadExpedited key value) micros frame) (went_on_as false t) e refl in
      ends_aside Loose _ _ done done _ (inr (record { none = refl; no_end = refl }))
      (aside_answers Loose stamp (request_answers d contents current (Some (DownloadExpedited key value))) done (asks t done count) (record { holds = inr p; same = refl }))
  outside (DownloadInitiate key size) e k small lawful plain =
      let p : t.direction ≡ Download = download (begun_with (DownloadInitiate key size) micros frame) (went_on_as false t) e refl in
      ends_aside Loose _ _ done done _ (inr (record { none = unless_no_upload (initiate_refusal d key size) (opened_at key (Receiving size false) []) refl; no_end = refl }))
      (aside_answers Loose stamp (request_answers d contents current (Some (DownloadInitiate key size))) done (asks t done count) (record { holds = inr p; same = refl }))
  outside (BlockDownloadInitiate key size) e k small lawful (inr plain) = absurd (false≢true (sym plain))
  outside (BlockDownloadInitiate key size) e k small lawful (inl l) =
      let p : t.direction ≡ Download = download (begun_with (BlockDownloadInitiate key size) micros frame) (went_on_as false t) e refl in
      ends_aside Loose _ _ done done _ (inl l)
      (aside_answers Loose stamp (request_answers d contents current (Some (BlockDownloadInitiate key size))) done (asks t done count) (record { holds = inr p; same = refl }))
  outside _ e k small lawful plain = absurd (let f : None ≡ Some (went_on_as false t) = e in cc)

pub outside_answered : (d : Description) (contents : Contents) (current : Option OpenTransfer) (frame : List ℕ) → is_in_sub_block current ≡ false → answered_next d contents current frame ≡ answered_by d contents current (request_in frame)
outside_answered d contents current frame h = rw h refl

pub outside_acknowledged : (current : Option OpenTransfer) (frame : List ℕ) → is_in_sub_block current ≡ false → acknowledged_next current frame ≡ acknowledged_by current (request_in frame)
outside_acknowledged current frame h = rw h refl

pub begins : (Loose : Type 0) (d : Description) (contents : Contents) (stamp : ℕ → ℕ) (current : Option OpenTransfer) (ended : Option Read) (t : Transfer) (micros : ℕ) (frame : List ℕ) (done : List Complete) (count n : ℕ)
    → BegunBy frame micros t → AreBytes frame → IsDictionary d contents → Loose ⊎ (is_block_begin (request_in frame) ≡ false) → Loose ⊎ (is_in_sub_block current ≡ false)
    → Ends Loose (opened_next d contents current frame) (acknowledged_next current frame) (answered_next d contents current frame) (read_served (ended_by (request_in frame) ended) n ++ done) done
    (hears_answers stamp (answers_to d contents current frame) (asks t done count))
begins Loose d contents stamp current ended t micros frame done count n b small lawful plain out = by current (is_in_sub_block current) refl out
  where
    begun_is : t.stage ≡ Initiated
    begun_is = let a = awaits b.request micros frame in subst (λ x. IfSome x (λ t. t.stage ≡ Initiated)) b.initiates a

    by : (current : Option OpenTransfer) (x : Bool) → is_in_sub_block current ≡ x → Loose ⊎ (is_in_sub_block current ≡ false)
        → Ends Loose (opened_next d contents current frame) (acknowledged_next current frame) (answered_next d contents current frame) (read_served (ended_by (request_in frame) ended) n ++ done) done
        (hears_answers stamp (answers_to d contents current frame) (asks t done count))
    by None true h out = absurd (false≢true h)
    by (Some o) true h (inr away) = absurd (false≢true (sym away ∙ h))
    by (Some o) true h (inl l) =
        subst (λ answers. Ends Loose (opened_next d contents (Some o) frame) (acknowledged_next (Some o) frame) (answered_next d contents (Some o) frame) (read_served (ended_by (request_in frame) ended) n ++ done) done (hears_answers stamp answers (asks t done count)))
        (sym (inside_answers d contents o frame h))
        (inside Loose stamp d.rows o o.stage t frame _ done count _ _ _ l begun_is)
    by current false h out =
        let k : IfSome (request_in frame) (HasKey frame) = has_key frame in
        rw (outside_answers d contents current frame h, outside_opens d contents current frame h, outside_answered d contents current frame h, outside_acknowledged current frame h, b.is)
        (outside Loose d contents stamp current ended t micros frame done count n b.request b.initiates (subst (λ r. IfSome r (HasKey frame)) b.is k) small lawful
        (subst (λ r. Loose ⊎ (is_block_begin r ≡ false)) b.is plain))

-- ---- a request that completes nothing

pub either_late : (b : Bool) (x y : Turn) → IsLate x → IsLate y → IsLate (if b then x else y)
either_late true x y hx hy = hx
either_late false x y hx hy = hy

pub late_end_at : (stage : Progress) (t : Transfer) → is_ended stage ≡ false → IsLate (end_confirmed_at stage t)
late_end_at (BlockEnded crc) t h = absurd (false≢true (sym h))
late_end_at _ t h = inl refl

pub late_end : (by : Bool) (t : Transfer) → is_ended t.stage ≡ false → IsLate (end_confirmed by t)
late_end true t h = either_late (is_block t.protocol) (end_confirmed_at t.stage t) (unexpected t) (late_end_at t.stage t h) (inl refl)
late_end false t h = inl refl

-- it isn't the client's end, or the server's wasn't sent
pub late_request : (t : Transfer) (request : SdoRequest) (frame : List ℕ) → (is_ended t.stage ≡ false) ⊎ (is_upload_end (Some request) ≡ false) → IsLate (request_turn t request frame)
late_request t UploadEnd frame (inl n) = late_end (not (is_download t.direction)) t n
late_request t UploadEnd frame (inr away) = absurd (false≢true (sym away))
late_request t request frame h = late_other t request frame refl

abbrev pub IsLateReading : Transfer → List ℕ → Reading → Type 0
IsLateReading t frame (Request request) = IsLate (request_turn t request frame)
IsLateReading t frame _ = Unit {0}

pub late_reading : (t : Transfer) (r : Option SdoRequest) (micros : ℕ) (frame : List ℕ) → (is_ended t.stage ≡ false) ⊎ (is_upload_end r ≡ false) → IsLateReading t frame (request_reading r micros frame)
late_reading t None micros frame h = tt
late_reading t (Some (Abandon key code)) micros frame h = tt
late_reading t (Some request) micros frame h = by (begun_with request micros frame)
  where
    by : (x : Option Transfer) → IsLateReading t frame (begins_or x (Request request))
    by None = late_request t request frame h
    by (Some new) = tt

pub quiet : (micros : ℕ) (frame : List ℕ) (heard : Bool) (t : Transfer) (got : List ℕ) (done : List Complete) (count : ℕ) (reading : Reading)
    → confirmed_with t.stage ≡ None → is_begin reading ≡ false → is_response reading ≡ false → IsLateReading t frame reading
    → (read_as micros Client frame (holds heard (Some t) got done count) reading).done ≡ done
quiet micros frame heard t got done count (Begin new) u n m late = absurd (false≢true (sym n))
quiet micros frame heard t got done count (Response response) u n m late = absurd (false≢true (sym m))
quiet micros frame heard t got done count (Abort code) u n m late = ap (λ w. w ++ done) (no_write (is_upload t.direction) _ (abort_no_write Client (not_followed_by Client t frame) code _))
quiet micros frame heard t got done count (Segment segment) u n m late = late_turn micros Client heard t got done count (turn_of t (Segment segment) frame) (late_segment_at t.stage t segment u)
quiet micros frame heard t got done count (Request request) u n m late = late_turn micros Client heard t got done count (turn_of t (Request request) frame) late
quiet micros frame heard t got done count Nothing u n m late = late_turn micros Client heard t got done count (turn_of t Nothing frame) (inl refl)
