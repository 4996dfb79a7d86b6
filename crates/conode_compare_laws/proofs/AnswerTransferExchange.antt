-- A request on the default channel of a device, within a transfer that isn't in blocks or that begins one, and its answers: nothing is found
-- within the transfer, and the transfer that is open then is of the same entry for both.
use Rattle.std.proofs.Common.{◌≡◌, ℕ, ◌+◌, ◌<◌, ◌≤◌, Bool, true, false, List, [], ◌∷◌, length, Option, Some, None, refl, sym, ap, ◌∙◌, ◌⊎◌, inl, inr, subst}
use Rattle.std.specs.Prelude.{◌&&◌, if◌then◌else◌, IfSome, nat_le}
use Rattle.std.proofs.lemmas.Bool.{false≢true}
use Rattle.arrayvec.specs.ArrayVec.{ArrayVec}
use Rattle.co_value.specs.declared.key.Key.{Key}
use Rattle.co_value.specs.Keys.{same_key-refl}
use Rattle.co_value.specs.Numbers.{AreBytes, low_bytes, unsigned_of}
use Rattle.co_frame.specs.Segments.{is_odd}
use Rattle.co_frame_aborts.specs.AbortCodes.{unknown_command}
use Rattle.co_frame.specs.FrameContent.{FrameContent}
use Rattle.co_frame.specs.SdoRequests.{request_in}
use Rattle.co_frame.specs.SdoResponses.{response_bytes}
use Rattle.co_frame.specs.declared.sdo_request.ExpeditedData.TheVariants.{Indicated}
use Rattle.co_frame.specs.declared.sdo_request.SdoRequest.{SdoRequest}
use Rattle.co_frame.specs.declared.sdo_request.SdoRequest.TheVariants.{DownloadExpedited, DownloadInitiate, DownloadSegment, Upload as UploadInitiate, UploadSegment as NextSegment, BlockUploadInitiate, BlockDownloadInitiate}
use Rattle.co_frame.specs.declared.sdo_response.SdoResponse.TheVariants.{Abort as Refuse, DownloadDone, DownloadSegmentDone, UploadExpedited, UploadInitiated, UploadSegment}
use Rattle.co_dict.specs.Rows.{Contents}
use Rattle.co_dict.specs.Stores.{Description}
use Rattle.co_sdo.specs.declared.stage.Stage.{Stage}
use Rattle.co_sdo.specs.declared.stage.Stage.TheVariants.{Download as Receiving, Upload as Uploading}
use Rattle.co_sdo.specs.Log.{Answer, Exchanged, Log, Response as Replied, answer_bytes, frames_on}
use Rattle.co_sdo.specs.Opened.{OpenTransfer, opened_after}
use Rattle.co_sdo.specs.OpenTransfers.{is_initiate as initiates, since_initiate}
use Rattle.co_sdo.specs.Replies.{initiate_answers, is_in_sub_block as is_inside, open_key, reply_to, request_answers, segment_answers, segment_refusal, toggle_refusal, unless_refused, upload_answers}
use Rattle.co_sdo.specs.Uploads.{is_last_after, part_after, upload_initiated, value_at}
use Rattle.co_sdo_laws.proofs.Frames.{done_read, expedited_sent_read}
use Rattle.co_sdo_laws.proofs.Segments.{part_small}
use Rattle.co_sheet.specs.Content.{Row}
use Rattle.conode_explain_transfers.specs.declared.kinds.Direction.TheVariants.{Download, Upload}
use Rattle.conode_explain_transfers.specs.declared.kinds.Protocol.TheVariants.{Expedited, Segmented, Undecided}
use Rattle.conode_explain_transfers.specs.declared.kinds.Side.TheVariants.{Client, Server}
use Rattle.conode_explain_transfers.specs.declared.stage.Stage.TheVariants.{DownloadSent, UploadAsked}
use Rattle.conode_explain_transfers.specs.declared.transfer.Transfer.{Transfer}
use Rattle.conode_explain_transfers.specs.BlockTurns.{is_block}
use Rattle.conode_explain_transfers.specs.Followed.{Followed, Following}
use Rattle.conode_explain_transfers.specs.Initiates.{data_of, initiate_of}
use Rattle.conode_explain_transfers.specs.Transfers.{begun}
use Rattle.conode_explain_laws.specs.Downloads.{is_block_begin}
use Rattle.conode_explain_laws.proofs.Begins.{HasKey, outside_answers}
use Rattle.conode_explain_laws.proofs.Readings.{request_reading, response_reading, begun_on, went_on_as}
use Rattle.conode_compare_transfers.specs.declared.dialogue.Dialogue.{Dialogue}
use Rattle.conode_compare_transfers.specs.Dialogues.{dialogue_heard, leaves_request_open, owes, owes_nothing}
use Rattle.conode_compare_rules.specs.declared.kind.FrameKind.{FrameKind}
use Rattle.conode_compare_rules.specs.declared.kind.FrameKind.TheVariants.{Sdo}
use Rattle.conode_compare_rules.specs.FrameKinds.{data_kind}
use Rattle.conode_compare_nmt.specs.declared.limits.Subject.{Subject}
use Rattle.conode_compare_rules.specs.declared.progress.Progress.{Progress}
use Rattle.conode_compare_rules.specs.Gaps.{begun as begun_progress}
use Rattle.conode_compare_rules.specs.Progresses.{progress_with}
use Rattle.conode_compare_laws.specs.AnswerFindings.{transfer_differences}
use Rattle.conode_compare_laws.specs.AnswerSenders.{is_block_upload_begin}
use Rattle.conode_compare_laws.proofs.AnswerTurns.{Sound}
use Rattle.conode_compare_laws.proofs.AnswerFollowed.{begins_sound, no_begin, reads, upload_read}
use Rattle.conode_compare_laws.proofs.AnswerBreaches.{Fine, own_fit, refusal_fine, response_fine, segment_done_fine, segment_fine, unknown_fit}
use Rattle.conode_compare_laws.proofs.AnswerDialogues.{channel_is, client_is, doubted_by}
use Rattle.conode_compare_laws.proofs.AnswerOpened.{IsOf, asked_key, exchange_with, of_later}
use Rattle.conode_compare_laws.proofs.AnswerTransfers.{Shape, StandsFor, StandsIn, later_stands, outside_sub_block, shape_goes}
use Rattle.conode_compare_laws.proofs.AnswerTransferRuns.{HasShape, Quiet, client_quiet, doubt_runs, frame_runs, one_runs, sound_in}
use Rattle.conode_compare_laws.proofs.AnswerExchange.{few_bytes, request_kind, small_key, some_bytes}
use Rattle.conode_compare_laws.proofs.Runs.{AllRun}

-- the open transfer isn't in blocks, and what the channel has open is of the same entry
pub record Tied (log : Log) (t : Transfer) : Type 0 where
  pub shape : Shape t.key t
  pub of : IsOf t.key log

tied_by : (key : Key) (log : Log) (t : Transfer) → Shape key t → IsOf key log → Tied log t
tied_by key log t s h = record {
  shape = record { sound = s.sound; block = s.block; of = refl; small = subst (λ (k : Key). k.index < 65536) (sym s.of) s.small };
  of = subst (λ k. IsOf k log) (sym s.of) h;
}

pub all_tied : (key : Key) (log : Log) (o : Option Transfer) → IsOf key log → IfSome o (Shape key) → IfSome o (Tied log)
all_tied key log None h s = tt
all_tied key log (Some t) h s = tied_by key log t s h

-- ---- after the client's frame

pub later_shape : (key : Key) (answer started : ℕ) (d : Dialogue) (micros : ℕ) (frame : FrameContent) → IfSome d.channel.transfer (Shape key) → initiates (request_in frame.bytes) ≡ false
    → IfSome (dialogue_heard answer started d micros Client frame).channel.transfer (Shape key)
later_shape key answer started d micros frame s n =
    subst (λ (f : Following). IfSome f.transfer (Shape key)) (sym (channel_is answer started d micros Client frame ∙ ap (λ (x : Followed). x.next) (client_is d micros frame (sound_in key d.channel.transfer s))))
    (shape_goes key d.channel.heard d.channel.transfer (request_reading (request_in frame.bytes) micros frame.bytes) micros Client frame.bytes s (no_begin (request_in frame.bytes) micros frame.bytes n))

later_next : (key : Key) (answer started : ℕ) (d : Dialogue) (micros : ℕ) (frame : FrameContent) → IfSome d.channel.transfer (Shape key) → initiates (request_in frame.bytes) ≡ false
    → ((dialogue_heard answer started d micros Client frame).doubted ≡ Some micros) ⊎ StandsIn (request_in frame.bytes) (dialogue_heard answer started d micros Client frame).channel.transfer
later_next key answer started d micros frame s n =
    let same = client_is d micros frame (sound_in key d.channel.transfer s) in
    elim (later_stands key d.channel.heard d.channel.transfer (request_in frame.bytes) micros frame s n) [
      | inl leaves ↦ inl (doubted_by answer started d micros Client frame (ap (λ (x : Followed). leaves_request_open (owes answer started d) (owes_nothing d.newest) Client d.doubted x.says frame) same ∙ leaves (owes answer started d) (owes_nothing d.newest) d.doubted))
      | inr stands ↦ inr (subst (λ (f : Following). StandsIn (request_in frame.bytes) f.transfer) (sym (channel_is answer started d micros Client frame ∙ ap (λ (x : Followed). x.next) same)) stands)
    ]

pub record After (key : Key) (r : Option SdoRequest) (micros : ℕ) (newest : Option ℕ) (d : Dialogue) : Type 0 where
  pub now : newest ≡ Some micros
  pub shape : IfSome d.channel.transfer (Shape key)
  pub next : (d.doubted ≡ Some micros) ⊎ StandsIn r d.channel.transfer

-- ---- the answers to a segment

module _ (key : Key) (subject : Subject) (rows : List Row) (micros : ℕ) (q : Progress) (u : Transfer) (now : q.newest ≡ Some micros) (here : q.dialogue.channel.transfer ≡ Some u) (shape : Shape key u) where
  abbrev Runs : List Answer → Type 0
  Runs answers = AllRun transfer_differences subject rows micros q (frames_on (0x580 + subject.node) answers) (HasShape key)

  unknown_runs : (k : Key) → Runs (Replied (Refuse k (record { 0 = unknown_command })) ∷ [])
  unknown_runs k =
      one_runs key subject rows micros (Replied (Refuse k (record { 0 = unknown_command }))) q u now here shape
      (λ heard. refusal_fine heard u k unknown_command micros (0x580 + subject.node) (outside_sub_block key u shape) (unknown_fit u k (0x580 + subject.node)))

  own_runs : (k : Key) (code : ℕ) → k ≡ key → Runs (Replied (Refuse k (record { 0 = code })) ∷ [])
  own_runs k code is =
      one_runs key subject rows micros (Replied (Refuse k (record { 0 = code }))) q u now here shape
      (λ heard. refusal_fine heard u k code micros (0x580 + subject.node) (outside_sub_block key u shape) (own_fit u k code (0x580 + subject.node) (subst (λ (x : Key). x.index < 65536) (sym is) shape.small) (is ∙ sym shape.of)))

  refused_runs : (refusal : Option ℕ) (k : Key) (answer : Answer) → k ≡ key → Runs (answer ∷ []) → Runs (unless_refused refusal k (answer ∷ []))
  refused_runs None k answer is h = h
  refused_runs (Some code) k answer is h = own_runs k code is

  segment_runs : (d : Description) (contents : Contents) (o : OpenTransfer) (stage : Stage) (toggle last : Bool) (part : List ℕ) → o.key ≡ key → u.stage ≡ DownloadSent toggle last → Runs (segment_answers d contents o stage toggle part last)
  segment_runs d contents o (Receiving indicated expected) toggle last part is stands =
      refused_runs (segment_refusal d contents o indicated expected toggle part last) o.key (Replied (DownloadSegmentDone toggle)) is
      (one_runs key subject rows micros (Replied (DownloadSegmentDone toggle)) q u now here shape (λ heard. segment_done_fine heard u toggle last micros (0x580 + subject.node) stands))
  segment_runs d contents o _ toggle last part is stands = unknown_runs o.key

  upload_runs : (o : OpenTransfer) (stage : Stage) (toggle : Bool) → o.key ≡ key → u.stage ≡ UploadAsked toggle → Runs (upload_answers o stage toggle)
  upload_runs o (Uploading sent) toggle is stands =
      refused_runs (toggle_refusal toggle (is_odd sent)) o.key (Replied (UploadSegment toggle (record { items = part_after sent o.bytes }) (is_last_after sent o.bytes))) is
      (one_runs key subject rows micros (Replied (UploadSegment toggle (record { items = part_after sent o.bytes }) (is_last_after sent o.bytes))) q u now here shape
      (λ heard. segment_fine heard u toggle (is_last_after sent o.bytes) (part_after sent o.bytes) micros (0x580 + subject.node) stands (part_small sent o.bytes)))
  upload_runs o _ toggle is stands = unknown_runs o.key

  stands_runs : (d : Description) (contents : Contents) (current : Option OpenTransfer) (r : Option SdoRequest) → ((o : OpenTransfer) → current ≡ Some o → o.key ≡ key) → StandsFor r u → Runs (request_answers d contents current r)
  stands_runs d contents None (Some (DownloadSegment toggle segment last)) is stands = unknown_runs (open_key None)
  stands_runs d contents (Some o) (Some (DownloadSegment toggle segment last)) is stands = segment_runs d contents o o.stage toggle last segment.items (is o refl) stands
  stands_runs d contents None (Some (NextSegment toggle)) is stands = unknown_runs (open_key None)
  stands_runs d contents (Some o) (Some (NextSegment toggle)) is stands = upload_runs o o.stage toggle (is o refl) stands
  stands_runs d contents current _ is stands = absurd stands

later_runs : (key : Key) (subject : Subject) (rows : List Row) (micros : ℕ) (d : Description) (contents : Contents) (log : Log) (r : Option SdoRequest) (q : Progress) → IsOf key log → After key r micros q.newest q.dialogue
    → AllRun transfer_differences subject rows micros q (frames_on (0x580 + subject.node) (request_answers d contents (opened_after log) r)) (HasShape key)
later_runs key subject rows micros d contents log r q is a = by q.dialogue.channel.transfer refl a.shape a.next
  where
    by : (o : Option Transfer) → q.dialogue.channel.transfer ≡ o → IfSome o (Shape key) → (q.dialogue.doubted ≡ Some micros) ⊎ StandsIn r o
        → AllRun transfer_differences subject rows micros q (frames_on (0x580 + subject.node) (request_answers d contents (opened_after log) r)) (HasShape key)
    by o here s (inl doubt) = doubt_runs key subject rows micros (request_answers d contents (opened_after log) r) q (record { now = a.now; doubt = doubt; shape = subst (λ x. IfSome x (Shape key)) (sym here) s })
    by None here s (inr stands) = absurd stands
    by (Some u) here s (inr stands) = stands_runs key subject rows micros q u a.now here s d contents (opened_after log) r is stands

-- ---- the answer to an initiate request

-- of a response, or a refusal
pub record Answered (key : Key) (micros : ℕ) (t : Transfer) (answer : Answer) : Type 0 where
  pub fine : (id : ℕ) (heard : Bool) → Fine (record { id = id; bytes = answer_bytes answer }) (reads (record { heard = heard; transfer = Some t }) micros Server (answer_bytes answer)).says

initiated_runs : (key : Key) (subject : Subject) (rows : List Row) (micros : ℕ) (refusal : Option ℕ) (answer : Answer) (q : Progress) (t : Transfer) → q.newest ≡ Some micros → q.dialogue.channel.transfer ≡ Some t → Shape key t
    → Answered key micros t answer → AllRun transfer_differences subject rows micros q (frames_on (0x580 + subject.node) (unless_refused refusal key (answer ∷ []))) (HasShape key)
initiated_runs key subject rows micros None answer q t now here shape a = one_runs key subject rows micros answer q t now here shape (a.fine (0x580 + subject.node))
initiated_runs key subject rows micros (Some code) answer q t now here shape a = own_runs key subject rows micros q t now here shape key code refl

-- what each is
expedited_done : (on : Bool) (key : Key) (bytes : ArrayVec ℕ) (micros : ℕ) (frame : List ℕ) → key.index < 65536
    → Answered key micros (went_on_as on (begun (record (initiate_of key Download Expedited) { bytes = bytes }) micros frame)) (Replied (DownloadDone key))
expedited_done on key bytes micros frame small = record {
  fine = λ id heard. response_fine heard (went_on_as on (begun (record (initiate_of key Download Expedited) { bytes = bytes }) micros frame)) (DownloadDone key) micros (record { id = id; bytes = response_bytes (DownloadDone key) }) refl
      (ap response_reading (done_read key small)) (rw (same_key-refl key) (record { part = refl; crc = refl }));
}

segmented_done : (on : Bool) (key : Key) (size : Option ℕ) (micros : ℕ) (frame : List ℕ) → key.index < 65536
    → Answered key micros (went_on_as on (begun (record (initiate_of key Download Segmented) { size = size }) micros frame)) (Replied (DownloadDone key))
segmented_done on key size micros frame small = record {
  fine = λ id heard. response_fine heard (went_on_as on (begun (record (initiate_of key Download Segmented) { size = size }) micros frame)) (DownloadDone key) micros (record { id = id; bytes = response_bytes (DownloadDone key) }) refl
      (ap response_reading (done_read key small)) (rw (same_key-refl key) (record { part = refl; crc = tt }));
}

expedited_sent : (on : Bool) (key : Key) (value : List ℕ) (micros : ℕ) (frame : List ℕ) → key.index < 65536 → 1 ≤ length value → length value ≤ 4
    → Answered key micros (went_on_as on (begun (initiate_of key Upload Undecided) micros frame)) (Replied (UploadExpedited key (Indicated (record { items = value }))))
expedited_sent on key value micros frame small some few = record {
  fine = λ id heard. response_fine heard (went_on_as on (begun (initiate_of key Upload Undecided) micros frame)) (UploadExpedited key (Indicated (record { items = value }))) micros
      (record { id = id; bytes = response_bytes (UploadExpedited key (Indicated (record { items = value }))) }) refl
      (ap response_reading (expedited_sent_read key value small some few)) (rw (same_key-refl key) (record { part = refl; crc = refl }));
}

segmented_sent : (on : Bool) (key : Key) (size : ℕ) (micros : ℕ) (frame : List ℕ) → key.index < 65536
    → Answered key micros (went_on_as on (begun (initiate_of key Upload Undecided) micros frame)) (Replied (UploadInitiated key (Some size)))
segmented_sent on key size micros frame small = record {
  fine = λ id heard. response_fine heard (went_on_as on (begun (initiate_of key Upload Undecided) micros frame)) (UploadInitiated key (Some (unsigned_of (low_bytes 4 size)))) micros
      (record { id = id; bytes = response_bytes (UploadInitiated key (Some size)) }) refl
      (ap response_reading (upload_read key size small)) (rw (same_key-refl key) (record { part = refl; crc = tt }));
}

abbrev InitiatedRun : Subject → List Row → ℕ → Key → Transfer → List Answer → Type 0
InitiatedRun subject rows micros key t answers =
    (q : Progress) → q.newest ≡ Some micros → q.dialogue.channel.transfer ≡ Some t → AllRun transfer_differences subject rows micros q (frames_on (0x580 + subject.node) answers) (HasShape key)

fresh : (key : Key) (t : Transfer) → Sound t → is_block t.protocol ≡ false → t.key ≡ key → key.index < 65536 → Shape key t
fresh key t s b k small = record { sound = s; block = b; of = k; small = small }

upload_answered : (on : Bool) (subject : Subject) (rows : List Row) (micros : ℕ) (refusal : Option ℕ) (key : Key) (value frame : List ℕ) → key.index < 65536 → Shape key (went_on_as on (begun (initiate_of key Upload Undecided) micros frame))
    → InitiatedRun subject rows micros key (went_on_as on (begun (initiate_of key Upload Undecided) micros frame)) (unless_refused refusal key (upload_initiated key value))
upload_answered on subject rows micros refusal key value frame small shape = by (nat_le 1 (length value) && nat_le (length value) 4) refl
  where
    t : Transfer
    t = went_on_as on (begun (initiate_of key Upload Undecided) micros frame)

    by : (b : Bool) → (nat_le 1 (length value) && nat_le (length value) 4) ≡ b
        → InitiatedRun subject rows micros key (went_on_as on (begun (initiate_of key Upload Undecided) micros frame))
        (unless_refused refusal key (if b then Replied (UploadExpedited key (Indicated (record { items = value }))) ∷ [] else Replied (UploadInitiated key (Some (length value))) ∷ []))
    by true is = λ q now here. initiated_runs key subject rows micros refusal (Replied (UploadExpedited key (Indicated (record { items = value })))) q t now here shape
        (expedited_sent on key value micros frame small (some_bytes value is) (few_bytes value is))
    by false is = λ q now here. initiated_runs key subject rows micros refusal (Replied (UploadInitiated key (Some (length value)))) q t now here shape (segmented_sent on key (length value) micros frame small)

-- the transfer that an initiate request begins, and its answer
pub record Initiates (subject : Subject) (rows : List Row) (micros : ℕ) (key : Key) (answers : List Answer) (t : Transfer) : Type 0 where
  pub shape : Shape key t
  pub runs : InitiatedRun subject rows micros key t answers

pub initiate_runs : (on : Bool) (subject : Subject) (rows : List Row) (micros : ℕ) (d : Description) (contents : Contents) (request : SdoRequest) (frame : List ℕ) → AreBytes frame → HasKey frame request → is_block_begin (Some request) ≡ false
    → is_block_upload_begin (Some request) ≡ false → IfSome (begun_on on request micros frame) (Initiates subject rows micros (asked_key (Some request)) (initiate_answers d contents request))
initiate_runs on subject rows micros d contents (DownloadExpedited key value) frame bytes has n m =
    let shape = fresh key (went_on_as on (begun (record (initiate_of key Download Expedited) { bytes = record { items = data_of value } }) micros frame)) (begins_sound on (DownloadExpedited key value) micros frame refl) refl refl (small_key frame key bytes has) in
    record {
      shape = shape;
      runs = λ q now here. initiated_runs key subject rows micros _ (Replied (DownloadDone key)) q _ now here shape (expedited_done on key (record { items = data_of value }) micros frame (small_key frame key bytes has));
    }
initiate_runs on subject rows micros d contents (DownloadInitiate key size) frame bytes has n m =
    let shape = fresh key (went_on_as on (begun (record (initiate_of key Download Segmented) { size = size }) micros frame)) (begins_sound on (DownloadInitiate key size) micros frame refl) refl refl (small_key frame key bytes has) in
    record {
      shape = shape;
      runs = λ q now here. initiated_runs key subject rows micros _ (Replied (DownloadDone key)) q _ now here shape (segmented_done on key size micros frame (small_key frame key bytes has));
    }
initiate_runs on subject rows micros d contents (UploadInitiate key) frame bytes has n m =
    let shape = fresh key (went_on_as on (begun (initiate_of key Upload Undecided) micros frame)) (begins_sound on (UploadInitiate key) micros frame refl) refl refl (small_key frame key bytes has) in
    record { shape = shape; runs = upload_answered on subject rows micros _ key (value_at contents key) frame (small_key frame key bytes has) shape }
initiate_runs on subject rows micros d contents (BlockUploadInitiate key size threshold) frame bytes has n m = absurd (false≢true (sym m))
initiate_runs on subject rows micros d contents (BlockDownloadInitiate key size) frame bytes has n m = absurd (false≢true (sym n))
initiate_runs on subject rows micros d contents _ frame bytes has n m = tt

-- ---- a request and its answers

pub map_runs : (subject : Subject) (rows : List Row) (micros : ℕ) (frames : List FrameContent) (p : Progress) (x y : Progress → Type 0) → ((q : Progress) → x q → y q) → AllRun transfer_differences subject rows micros p frames x
    → AllRun transfer_differences subject rows micros p frames y
map_runs subject rows micros [] p x y f h = f p h
map_runs subject rows micros (frame ∷ later) p x y f h = (h.0, map_runs subject rows micros later (progress_with subject p micros (data_kind subject.node frame)) x y f h.1)

quiet_map : (subject : Subject) (rows : List Row) (p : Progress) (micros : ℕ) (kind : FrameKind) (x y : Progress → Type 0) → ((q : Progress) → x q → y q) → Quiet subject rows p micros kind x → Quiet subject rows p micros kind y
quiet_map subject rows p micros kind x y f q = record { none = q.none; next = f _ q.next }

-- before a request
pub record Ready (key : Key) (log : Log) (micros : ℕ) (p : Progress) : Type 0 where
  pub newest : p.newest ≡ Some micros
  pub shape : HasShape key p
  pub of : IsOf key log
  pub clean : IfSome (since_initiate log) (λ s. is_block_begin (request_in s.begin.request) ≡ false)

abbrev pub HasTied : Log → Progress → Type 0
HasTied log q = IfSome q.dialogue.channel.transfer (Tied log)

module _ (key : Key) (subject : Subject) (rows : List Row) (micros : ℕ) (d : Description) (contents : Contents) (log : Log) (frame : FrameContent) (p : Progress) (ready : Ready key log micros p) where
  abbrev Goes : List Answer → Type 0
  Goes answers =
      Quiet subject rows p micros (Sdo Client frame)
      (λ q. AllRun transfer_differences subject rows micros q (frames_on (0x580 + subject.node) answers) (HasTied (Exchanged (exchange_with d contents log frame.bytes) ∷ log)))

  begins_nothing : (r : Option SdoRequest) → request_in frame.bytes ≡ r → initiates r ≡ false → Goes (request_answers d contents (opened_after log) r)
  begins_nothing r is n =
      let off : initiates (request_in frame.bytes) ≡ false = ap initiates is ∙ n in
      quiet_map subject rows p micros (Sdo Client frame) (λ q. After key r micros q.newest q.dialogue) _
      (λ q a. map_runs subject rows micros (frames_on (0x580 + subject.node) (request_answers d contents (opened_after log) r)) q (HasShape key) (HasTied (Exchanged (exchange_with d contents log frame.bytes) ∷ log))
      (λ x s. all_tied key (Exchanged (exchange_with d contents log frame.bytes) ∷ log) x.dialogue.channel.transfer (of_later d contents log frame.bytes key ready.clean off ready.of) s)
      (later_runs key subject rows micros d contents log r q ready.of a))
      (client_quiet key subject rows p micros frame (After key r micros) ready.shape
      (record {
        now = ready.newest;
        shape = later_shape key subject.limits.answer p.started p.dialogue micros frame ready.shape off;
        next = subst (λ o. ((dialogue_heard subject.limits.answer p.started p.dialogue micros Client frame).doubted ≡ Some micros) ⊎ StandsIn o (dialogue_heard subject.limits.answer p.started p.dialogue micros Client frame).channel.transfer) is
            (later_next key subject.limits.answer p.started p.dialogue micros frame ready.shape off);
      }))

-- a request that begins nothing, with its answers
pub exchange_runs : (key : Key) (subject : Subject) (rows : List Row) (micros : ℕ) (d : Description) (contents : Contents) (log : Log) (frame : FrameContent) (p : Progress) → frame.id ≡ 0x600 + subject.node
    → initiates (request_in frame.bytes) ≡ false → is_inside (opened_after log) ≡ false → Ready key log micros (begun_progress subject p micros)
    → AllRun transfer_differences subject rows micros p (frame ∷ [])
    (λ q. AllRun transfer_differences subject rows micros q (frames_on (0x580 + subject.node) (reply_to d contents log frame.bytes)) (HasTied (Exchanged (exchange_with d contents log frame.bytes) ∷ log)))
exchange_runs key subject rows micros d contents log frame p id n out ready =
    frame_runs subject rows micros p frame (Sdo Client frame) _ (request_kind subject.node frame id)
    (subst (λ answers. Quiet subject rows (begun_progress subject p micros) micros (Sdo Client frame)
    (λ q. AllRun transfer_differences subject rows micros q (frames_on (0x580 + subject.node) answers) (HasTied (Exchanged (exchange_with d contents log frame.bytes) ∷ log))))
    (sym (outside_answers d contents (opened_after log) frame.bytes out))
    (begins_nothing key subject rows micros d contents log frame (begun_progress subject p micros) ready (request_in frame.bytes) refl n))
