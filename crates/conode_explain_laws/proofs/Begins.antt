-- An initiate request with its answers.
use Rattle.std.proofs.Common.{◌≡◌, ℕ, suc, ◌<◌, Bool, true, false, not, List, [], ◌∷◌, length, take, Option, Some, None, refl, sym, ap, ◌∙◌, ◌⊎◌, inl, inr, subst, arith, eqb}
use Rattle.std.specs.Prelude.{if◌then◌else◌, IfSome}
use Rattle.std.proofs.lemmas.Bool.{false≢true}
use Rattle.std.proofs.lemmas.List.{take_all}
use Rattle.co_value.specs.declared.key.Key.{Key}
use Rattle.co_value.specs.Keys.{same_key-refl}
use Rattle.co_value.specs.Numbers.{AreBytes}
use Rattle.co_frame.specs.SdoFields.{specifier, subcommand, has_bit, key_in}
use Rattle.co_frame.specs.SdoRequests.{request_row_in, request_in}
use Rattle.co_frame.specs.SdoResponses.{response_in, response_bytes}
use Rattle.co_frame.specs.declared.sdo_request.ExpeditedData.{ExpeditedData}
use Rattle.co_frame.specs.declared.sdo_request.ExpeditedData.TheVariants.{Indicated, NotIndicated}
use Rattle.co_frame.specs.declared.sdo_request.SdoRequest.{SdoRequest}
use Rattle.co_frame.specs.declared.sdo_request.SdoRequest.TheVariants.{DownloadExpedited, DownloadInitiate, Upload as UploadInitiate, BlockUploadInitiate, BlockDownloadInitiate}
use Rattle.co_frame.specs.declared.sdo_response.SdoResponse.{SdoResponse}
use Rattle.co_frame.specs.declared.sdo_response.SdoResponse.TheVariants.{DownloadDone, BlockDownloadInitiated, BlockDownloadAcknowledge}
use Rattle.co_dict.specs.Rows.{Rows, Contents}
use Rattle.co_dict.specs.Stores.{Description}
use Rattle.co_sdo.specs.declared.stage.Stage.{Stage}
use Rattle.co_sdo.specs.declared.stage.Stage.TheVariants.{Download as Receiving, SubBlock as InSubBlock}
use Rattle.co_sdo.specs.Refused.{capacity_at, initiate_refusal, completion_refusal}
use Rattle.co_sdo.specs.Log.{Answer, Response as Replied}
use Rattle.co_sdo.specs.SubBlocks.{ends_sub_block}
use Rattle.co_sdo.specs.Downloads.{Download as Whole, expedited_part}
use Rattle.co_sdo.specs.Opened.{OpenTransfer}
use Rattle.co_sdo.specs.Replies.{aborted, unless_refused, sub_block_refusal, frame_answers, request_answers, is_in_sub_block, answers_to, taken_with}
use Rattle.co_sdo.specs.Completed.{unless}
use Rattle.co_sdo.specs.Steps.{opened_at, after_request, opened_next, whole, set_by_request, set_next}
use Rattle.co_sdo_laws.proofs.Frames.{done_read, block_initiated_read, acknowledged_read}
use Rattle.conode_explain_transfers.specs.declared.ended.Ending.{Ending}
use Rattle.conode_explain_transfers.specs.declared.ended.Ending.TheVariants.{Done}
use Rattle.conode_explain_transfers.specs.declared.kinds.Direction.TheVariants.{Download}
use Rattle.conode_explain_transfers.specs.declared.kinds.Protocol.TheVariants.{Expedited, Segmented, Block}
use Rattle.conode_explain_transfers.specs.declared.kinds.Side.TheVariants.{Server}
use Rattle.conode_explain_transfers.specs.declared.stage.Stage.TheVariants.{Initiated}
use Rattle.conode_explain_transfers.specs.declared.transfer.Transfer.{Transfer}
use Rattle.conode_explain_transfers.specs.BlockTurns.{acknowledged}
use Rattle.conode_explain_transfers.specs.Initiates.{has_crc, data_of, initiate_of, first_segment}
use Rattle.conode_explain_transfers.specs.Readings.{is_in_sub_block as is_inside}
use Rattle.conode_explain_transfers.specs.Transfers.{begun, is_download}
use Rattle.conode_explain_laws.specs.Downloads.{Complete, entry_bytes, if_done}
use Rattle.conode_explain_laws.proofs.Readings.{went_on_as, Reading, Response, begun_with, response_reading, reading_of}
use Rattle.conode_explain_laws.proofs.Views.{View, read_as, hears_answers, KnowsAside, aside_turn, aside_answers, aborted_closes}
use Rattle.conode_explain_laws.proofs.Follows.{asked, segmented, blocks, Ends, ends_closed, ends_aside, BegunBy, none_of_server}

-- ---- the key of a request

-- what holds of both branches of a test holds of it
module _ {A : Type 0} (P : A → Type 0) where
  pub both : (b : Bool) (x y : A) → P x → P y → P (if b then x else y)
  both true x y px py = px
  both false x y px py = py

  pub some_both : (b : Bool) (x y : Option A) → IfSome x P → IfSome y P → IfSome (if b then x else y) P
  some_both true x y px py = px
  some_both false x y px py = py

-- the key of an initiate request is that of its bytes
abbrev pub HasKey : List ℕ → SdoRequest → Type 0
HasKey frame (DownloadExpedited key value) = key ≡ key_in frame
HasKey frame (DownloadInitiate key size) = key ≡ key_in frame
HasKey frame (BlockDownloadInitiate key size) = key ≡ key_in frame
HasKey frame (UploadInitiate key) = key ≡ key_in frame
HasKey frame (BlockUploadInitiate key block_size threshold) = key ≡ key_in frame
HasKey frame _ = Unit {0}

pub has_key : (frame : List ℕ) → IfSome (request_in frame) (HasKey frame)
unfolding request_row_in
has_key frame =
    let P : SdoRequest → Type 0 = λ request. HasKey frame request in
    some_both P (eqb (length frame) 8) _ _
    (some_both P (eqb (specifier frame) 0) _ _ tt
    (some_both P (eqb (specifier frame) 1) _ _ (both P (has_bit 1 frame) _ _ refl refl)
    (some_both P (eqb (specifier frame) 2) _ _ refl
    (some_both P (eqb (specifier frame) 3) _ _ tt
    (some_both P (eqb (specifier frame) 4) _ _ tt
    (some_both P (eqb (specifier frame) 5) _ _
    (both P (eqb (subcommand frame) 0) _ _ refl (both P (eqb (subcommand frame) 1) _ _ tt (both P (eqb (subcommand frame) 2) _ _ tt tt)))
    (some_both P (eqb (specifier frame) 6) _ _ (both P (has_bit 0 frame) _ _ tt refl)
    tt)))))))
    tt

pub small_index : (frame : List ℕ) → AreBytes frame → (key_in frame).index < 65536
small_index [] h = omega arith
small_index (a ∷ []) h = omega arith
small_index (a ∷ b ∷ []) h = let low = h.1.0 in omega (arith, low)
small_index (a ∷ b ∷ c ∷ rest) h = let low = h.1.0 in let high = h.1.1.0 in omega (arith, low, high)

-- ---- the channel, inside and outside a sub-block

pub inside_answers : (d : Description) (contents : Contents) (o : OpenTransfer) (frame : List ℕ) → is_in_sub_block (Some o) ≡ true
    → answers_to d contents (Some o) frame ≡ frame_answers d.rows o o.stage frame
inside_answers d contents o frame h = rw h refl

pub outside_answers : (d : Description) (contents : Contents) (current : Option OpenTransfer) (frame : List ℕ) → is_in_sub_block current ≡ false
    → answers_to d contents current frame ≡ request_answers d contents current (request_in frame)
outside_answers d contents current frame h = rw h refl

pub outside_opens : (d : Description) (contents : Contents) (current : Option OpenTransfer) (frame : List ℕ) → is_in_sub_block current ≡ false
    → opened_next d contents current frame ≡ after_request d contents current (request_in frame)
outside_opens d contents current frame h = rw h refl

pub outside_sets : (d : Description) (contents : Contents) (current : Option OpenTransfer) (frame : List ℕ) → is_in_sub_block current ≡ false
    → set_next d contents current frame ≡ set_by_request d contents current (request_in frame)
outside_sets d contents current frame h = rw h refl

-- ---- one answer

-- an answer that is read so
pub answered : (rows : Rows) (stamp : ℕ → ℕ) (response : SdoResponse) (v : View) (reading : Reading) (P : View → Type 0)
    → reading_of v.following.transfer Server (stamp v.count) (response_bytes response) ≡ reading
    → P (read_as rows (stamp v.count) Server (response_bytes response) v reading) → P (hears_answers rows stamp (Replied response ∷ []) v)
answered rows stamp response v reading P e h = subst (λ r. P (read_as rows (stamp v.count) Server (response_bytes response) v r)) (sym e) h

-- a refusal is an abort
pub refused : (rows : Rows) (stamp : ℕ → ℕ) (refusal : Option ℕ) (key : Key) (answers : List Answer) (next : Option OpenTransfer) (set : Option Whole) (done : List Complete) (v : View)
    → v.done ≡ done → (refusal ≡ None → Ends next set done (hears_answers rows stamp answers v))
    → Ends next set done (hears_answers rows stamp (unless_refused refusal key answers) v)
refused rows stamp None key answers next set done v e h = h refl
refused rows stamp (Some code) key answers next set done v e h =
    let c = aborted_closes rows stamp key code v in
    ends_closed next set done (hears_answers rows stamp (aborted key code) v) (record { none = c.none; same = c.same ∙ e })

-- ---- an abort, and what is written

pub closed : (rows : Rows) (stamp : ℕ → ℕ) (key : Key) (code : ℕ) (next : Option OpenTransfer) (set : Option Whole) (done : List Complete) (v : View) → v.done ≡ done
    → Ends next set done (hears_answers rows stamp (aborted key code) v)
closed rows stamp key code next set done v e =
    let c = aborted_closes rows stamp key code v in
    ends_closed next set done (hears_answers rows stamp (aborted key code) v) (record { none = c.none; same = c.same ∙ e })

pub ending_write : (ending : Ending) (write : List Complete) → (if_done ending write ≡ []) ⊎ (if_done ending write ≡ write)
ending_write (Done crc) write = inr refl
ending_write _ write = inl refl

pub maybe_write : (b : Bool) (ending : Ending) (write : List Complete) → ((if b then if_done ending write else []) ≡ []) ⊎ ((if b then if_done ending write else []) ≡ write)
maybe_write false ending write = inl refl
maybe_write true ending write = ending_write ending write

abbrev pub write_of : ℕ → Key → List ℕ → List Complete
write_of frame key bytes = record { frame = frame; key = key; bytes = bytes } ∷ []

-- ---- after an initiate request: explain has this transfer

abbrev pub asks : Transfer → List Complete → ℕ → View
asks t done count = record { following = record { heard = true; transfer = Some t }; got = []; done = done; count = count }

pub response_is : (response : SdoResponse) (t : Transfer) (micros : ℕ) → t.stage ≡ Initiated → response_in (response_bytes response) ≡ Some response
    → reading_of (Some t) Server micros (response_bytes response) ≡ response_reading (Some response)
response_is response t micros e h = rw (none_of_server t.stage t.direction t.protocol (ap is_inside e)) (ap response_reading h)

-- the channel takes the frame inside a sub-block
pub acknowledged_spoils : (by : Bool) (t : Transfer) (sequence block_size : ℕ) → t.stage ≡ Initiated → (acknowledged by t sequence block_size).transfer.irregular ≡ true
acknowledged_spoils true t sequence block_size e = rw e refl
acknowledged_spoils false t sequence block_size e = refl

inside : (rows : Rows) (stamp : ℕ → ℕ) (o : OpenTransfer) (stage : Stage) (t : Transfer) (frame : List ℕ) (done : List Complete) (count : ℕ) (next : Option OpenTransfer) (set : Option Whole) → t.stage ≡ Initiated
    → Ends next set done (hears_answers rows stamp (frame_answers rows o stage frame) (asks t done count))
inside rows stamp o (InSubBlock indicated taken) t frame done count next set s = by_end (ends_sub_block frame)
  where
    by_end : (ends : Bool)
        → Ends next set done (hears_answers rows stamp
        (if ends then unless_refused (sub_block_refusal rows o taken frame) o.key (Replied (BlockDownloadAcknowledge (taken_with taken frame) 127) ∷ []) else [])
        (asks t done count))
    by_end false = record { follows = asked s; writes = inl refl }
    by_end true =
        let response = BlockDownloadAcknowledge (taken_with taken frame) 127 in
        refused rows stamp (sub_block_refusal rows o taken frame) o.key (Replied response ∷ []) next set done (asks t done count) refl
        (λ e. ends_aside next set done (hears_answers rows stamp (Replied response ∷ []) (asks t done count))
        (answered rows stamp response (asks t done count) (Response response) (KnowsAside done)
        (response_is response t (stamp count) s (acknowledged_read (taken_with taken frame) 127))
        (aside_turn rows (stamp count) Server (response_bytes response) true t [] done count (Response response)
        (inl (acknowledged_spoils (is_download t.direction) t (taken_with taken frame) 127 s)))))
inside rows stamp o _ t frame done count next set s =
    let c = aborted_closes rows stamp o.key 0x05040001 (asks t done count) in
    ends_closed next set done (hears_answers rows stamp (aborted o.key 0x05040001) (asks t done count)) (record { none = c.none; same = c.same })

-- an expedited download
abbrev pub expedites : Key → ExpeditedData → ℕ → List ℕ → Transfer
expedites key value micros frame = begun (record (initiate_of key Download Expedited) { bytes = record { items = data_of value } }) micros frame

pub expedited_bytes : (rows : Rows) (key : Key) (value : ExpeditedData) (r : Option SdoRequest) → r ≡ Some (DownloadExpedited key value)
    → entry_bytes rows key r (take (length (data_of value)) (data_of value)) ≡ expedited_part rows key value
expedited_bytes rows key (Indicated counted) r e = rw e (take_all (length counted.items) counted.items (omega arith))
expedited_bytes rows key (NotIndicated four) r e = rw e (ap (λ xs. take (capacity_at rows key) xs) (take_all (length four) four (omega arith)))

expedited_done : (on : Bool) (rows : Rows) (stamp : ℕ → ℕ) (key : Key) (value : ExpeditedData) (micros : ℕ) (frame : List ℕ) (done : List Complete) (count : ℕ) (next : Option OpenTransfer)
    → request_in frame ≡ Some (DownloadExpedited key value) → key.index < 65536
    → Ends next (whole key None (expedited_part rows key value)) done (hears_answers rows stamp (Replied (DownloadDone key) ∷ []) (asks (went_on_as on (expedites key value micros frame)) done count))
expedited_done on rows stamp key value micros frame done count next q k =
    answered rows stamp (DownloadDone key) (asks (went_on_as on (expedites key value micros frame)) done count) (Response (DownloadDone key))
    (Ends next (whole key None (expedited_part rows key value)) done)
    (response_is (DownloadDone key) (went_on_as on (expedites key value micros frame)) (stamp count) refl (done_read key k))
    (rw (same_key-refl key) (record {
      follows = tt;
      writes = inr (ap (λ xs. record { frame = suc count; key = key; bytes = xs } ∷ done) (expedited_bytes rows key value (request_in frame) q));
    }))

-- a download in segments
abbrev pub segments : Key → Option ℕ → ℕ → List ℕ → Transfer
segments key size micros frame = begun (record (initiate_of key Download Segmented) { size = size }) micros frame

segmented_begins : (on : Bool) (rows : Rows) (stamp : ℕ → ℕ) (key : Key) (size : Option ℕ) (micros : ℕ) (frame : List ℕ) (done : List Complete) (count : ℕ)
    → request_in frame ≡ Some (DownloadInitiate key size) → key.index < 65536
    → Ends (opened_at key (Receiving size false) []) None done (hears_answers rows stamp (Replied (DownloadDone key) ∷ []) (asks (went_on_as on (segments key size micros frame)) done count))
segmented_begins on rows stamp key size micros frame done count q k =
    answered rows stamp (DownloadDone key) (asks (went_on_as on (segments key size micros frame)) done count) (Response (DownloadDone key))
    (Ends (opened_at key (Receiving size false) []) None done)
    (response_is (DownloadDone key) (went_on_as on (segments key size micros frame)) (stamp count) refl (done_read key k))
    (rw (same_key-refl key) (record {
      follows = segmented false (record { direction = refl; stage = refl; request = q }) refl;
      writes = inl refl;
    }))

-- a download in blocks
abbrev pub in_blocks : Key → Option ℕ → ℕ → List ℕ → Transfer
in_blocks key size micros frame = begun (record (initiate_of key Download Block) { size = size; crc = has_crc frame; block_size = first_segment }) micros frame

blocks_begin : (on : Bool) (rows : Rows) (stamp : ℕ → ℕ) (key : Key) (size : Option ℕ) (micros : ℕ) (frame : List ℕ) (done : List Complete) (count : ℕ)
    → request_in frame ≡ Some (BlockDownloadInitiate key size) → key.index < 65536
    → Ends (opened_at key (InSubBlock size 0) []) None done (hears_answers rows stamp (Replied (BlockDownloadInitiated key 127) ∷ []) (asks (went_on_as on (in_blocks key size micros frame)) done count))
blocks_begin on rows stamp key size micros frame done count q k =
    answered rows stamp (BlockDownloadInitiated key 127) (asks (went_on_as on (in_blocks key size micros frame)) done count) (Response (BlockDownloadInitiated key 127))
    (Ends (opened_at key (InSubBlock size 0) []) None done)
    (response_is (BlockDownloadInitiated key 127) (went_on_as on (in_blocks key size micros frame)) (stamp count) refl (block_initiated_read key 127 k))
    (rw (same_key-refl key) (record {
      follows = blocks 0 size (record { is = record { direction = refl; protocol = refl; request = q }; stage = refl; pending = refl }) refl;
      writes = inl refl;
    }))

-- another transfer
abbrev is_other : Option Transfer → Bool
is_other None = false
is_other (Some t) = not (is_download t.direction)

not_true : (b : Bool) → not b ≡ true → b ≡ false
not_true true h = absurd (false≢true h)
not_true false h = refl

other : (x : Option Transfer) (t : Transfer) → x ≡ Some t → is_other x ≡ true → is_download t.direction ≡ false
other x t e h = not_true (is_download t.direction) (sym (ap is_other e) ∙ h)

-- by the request, outside a sub-block
outside : (d : Description) (contents : Contents) (stamp : ℕ → ℕ) (current : Option OpenTransfer) (request : SdoRequest) (t : Transfer) (micros : ℕ) (frame : List ℕ) (done : List Complete) (count : ℕ)
    → request_in frame ≡ Some request → begun_with request micros frame ≡ Some (went_on_as false t) → HasKey frame request → AreBytes frame
    → Ends (after_request d contents current (Some request)) (set_by_request d contents current (Some request)) done
    (hears_answers d.rows stamp (request_answers d contents current (Some request)) (asks t done count))
outside d contents stamp current (DownloadExpedited key value) t micros frame done count q e k small =
    let first : expedites key value micros frame ≡ went_on_as false t = cc in
    let same : went_on_as t.went_on (expedites key value micros frame) ≡ t = ap (went_on_as t.went_on) first in
    let index : key.index < 65536 = subst (λ x. x.index < 65536) (sym k) (small_index frame small) in
    let refusal = completion_refusal d contents key None (expedited_part d.rows key value) in
    subst (λ u. Ends None (unless refusal (whole key None (expedited_part d.rows key value))) done
    (hears_answers d.rows stamp (unless_refused refusal key (Replied (DownloadDone key) ∷ [])) (asks u done count))) same
    (refused d.rows stamp refusal key (Replied (DownloadDone key) ∷ []) None _ done (asks (went_on_as t.went_on (expedites key value micros frame)) done count) refl
    (λ n. rw n (expedited_done t.went_on d.rows stamp key value micros frame done count None q index)))
outside d contents stamp current (DownloadInitiate key size) t micros frame done count q e k small =
    let first : segments key size micros frame ≡ went_on_as false t = cc in
    let same : went_on_as t.went_on (segments key size micros frame) ≡ t = ap (went_on_as t.went_on) first in
    let index : key.index < 65536 = subst (λ x. x.index < 65536) (sym k) (small_index frame small) in
    let refusal = initiate_refusal d key size in
    subst (λ u. Ends (unless refusal (opened_at key (Receiving size false) [])) None done
    (hears_answers d.rows stamp (unless_refused refusal key (Replied (DownloadDone key) ∷ [])) (asks u done count))) same
    (refused d.rows stamp refusal key (Replied (DownloadDone key) ∷ []) _ None done (asks (went_on_as t.went_on (segments key size micros frame)) done count) refl
    (λ n. rw n (segmented_begins t.went_on d.rows stamp key size micros frame done count q index)))
outside d contents stamp current (UploadInitiate key) t micros frame done count q e k small =
    let p : is_download t.direction ≡ false = other (begun_with (UploadInitiate key) micros frame) (went_on_as false t) e refl in
    ends_aside _ _ done _ (aside_answers d.rows stamp (request_answers d contents current (Some (UploadInitiate key))) done (asks t done count) (record { holds = inr p; same = refl }))
outside d contents stamp current (BlockUploadInitiate key block_size threshold) t micros frame done count q e k small =
    let p : is_download t.direction ≡ false = other (begun_with (BlockUploadInitiate key block_size threshold) micros frame) (went_on_as false t) e refl in
    ends_aside _ _ done _ (aside_answers d.rows stamp (request_answers d contents current (Some (BlockUploadInitiate key block_size threshold))) done (asks t done count) (record { holds = inr p; same = refl }))
outside d contents stamp current (BlockDownloadInitiate key size) t micros frame done count q e k small =
    let first : in_blocks key size micros frame ≡ went_on_as false t = cc in
    let same : went_on_as t.went_on (in_blocks key size micros frame) ≡ t = ap (went_on_as t.went_on) first in
    let index : key.index < 65536 = subst (λ x. x.index < 65536) (sym k) (small_index frame small) in
    let refusal = initiate_refusal d key size in
    subst (λ u. Ends (unless refusal (opened_at key (InSubBlock size 0) [])) None done
    (hears_answers d.rows stamp (unless_refused refusal key (Replied (BlockDownloadInitiated key 127) ∷ [])) (asks u done count))) same
    (refused d.rows stamp refusal key (Replied (BlockDownloadInitiated key 127) ∷ []) _ None done (asks (went_on_as t.went_on (in_blocks key size micros frame)) done count) refl
    (λ n. rw n (blocks_begin t.went_on d.rows stamp key size micros frame done count q index)))
outside d contents stamp current _ t micros frame done count q e k small = absurd (let f : None ≡ Some (went_on_as false t) = e in cc)

-- a transfer that a request begins awaits its answer
pub awaits : (request : SdoRequest) (micros : ℕ) (frame : List ℕ) → IfSome (begun_with request micros frame) (λ t. t.stage ≡ Initiated)
awaits (DownloadExpedited key value) micros frame = refl
awaits (DownloadInitiate key size) micros frame = refl
awaits (UploadInitiate key) micros frame = refl
awaits (BlockUploadInitiate key block_size threshold) micros frame = refl
awaits (BlockDownloadInitiate key size) micros frame = refl
awaits _ micros frame = tt

-- ---- every initiate request

pub begins : (d : Description) (contents : Contents) (stamp : ℕ → ℕ) (current : Option OpenTransfer) (t : Transfer) (micros : ℕ) (frame : List ℕ) (done : List Complete) (count : ℕ)
    → BegunBy frame micros t → AreBytes frame
    → Ends (opened_next d contents current frame) (set_next d contents current frame) done
    (hears_answers d.rows stamp (answers_to d contents current frame) (asks t done count))
begins d contents stamp current t micros frame done count b small = by current (is_in_sub_block current) refl
  where
    begun_is : t.stage ≡ Initiated
    begun_is = let a = awaits b.request micros frame in subst (λ x. IfSome x (λ t. t.stage ≡ Initiated)) b.initiates a

    by : (current : Option OpenTransfer) (x : Bool) → is_in_sub_block current ≡ x
        → Ends (opened_next d contents current frame) (set_next d contents current frame) done
        (hears_answers d.rows stamp (answers_to d contents current frame) (asks t done count))
    by None true h = absurd (false≢true h)
    by (Some o) true h =
        subst (λ answers. Ends (opened_next d contents (Some o) frame) (set_next d contents (Some o) frame) done (hears_answers d.rows stamp answers (asks t done count)))
        (sym (inside_answers d contents o frame h))
        (inside d.rows stamp o o.stage t frame done count _ _ begun_is)
    by current false h =
        let k : IfSome (request_in frame) (HasKey frame) = has_key frame in
        rw (outside_answers d contents current frame h, outside_opens d contents current frame h, outside_sets d contents current frame h, b.is)
        (outside d contents stamp current b.request t micros frame done count b.is b.initiates (subst (λ r. IfSome r (HasKey frame)) b.is k) small)
