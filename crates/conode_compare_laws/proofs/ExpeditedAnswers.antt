-- What a device answers to an initiate request: where an answer has data of an entry at once, they are those that the entry has.
use Rattle.std.proofs.Common.{◌≡◌, ℕ, ◌<◌, ◌≤◌, Bool, true, false, List, [], ◌∷◌, length, take, Option, Some, None, refl, sym, ap, ◌∙◌, ◌⊎◌, inl, inr, subst, arith}
use Rattle.std.specs.Prelude.{◌&&◌, if◌then◌else◌, nat_le, IfSome}
use Rattle.std.specs.List.{AllByRecursion}
use Rattle.std.proofs.lemmas.Bool.{false≢true}
use Rattle.std.proofs.lemmas.Bool.Decides.{nat_tests}
use Rattle.co_value.specs.declared.key.Key.{Key}
use Rattle.co_value.specs.Keys.{same_key, same_key-is}
use Rattle.co_value.specs.Numbers.{AreBytes, unsigned_of}
use Rattle.co_frame_aborts.specs.AbortCodes.{unknown_command}
use Rattle.co_frame.specs.SdoRequests.{request_in}
use Rattle.co_frame.specs.SdoResponses.{response_bytes, response_in, response_row_in}
use Rattle.co_frame_aborts.specs.declared.abort_code.AbortCode.{AbortCode}
use Rattle.co_frame.specs.declared.sdo_request.ExpeditedData.{ExpeditedData}
use Rattle.co_frame.specs.declared.sdo_request.ExpeditedData.TheVariants.{Indicated}
use Rattle.co_frame.specs.declared.sdo_request.SdoRequest.{SdoRequest}
use Rattle.co_frame.specs.declared.sdo_request.SdoRequest.TheVariants.{DownloadExpedited, DownloadInitiate, Upload as UploadInitiate, BlockUploadInitiate, BlockDownloadInitiate}
use Rattle.co_frame.specs.declared.sdo_response.SdoResponse.{SdoResponse}
use Rattle.co_frame.specs.declared.sdo_response.SdoResponse.TheVariants.{Abort as Refuse, BlockDownloadAcknowledge, BlockDownloadInitiated, BlockUploadInitiated, DownloadDone, UploadExpedited, UploadInitiated}
use Rattle.co_dict.specs.Rows.{Contents, Rows}
use Rattle.co_dict.specs.Stores.{Description}
use Rattle.co_sdo.specs.declared.stage.Stage.{Stage}
use Rattle.co_sdo.specs.declared.stage.Stage.TheVariants.{SubBlock as InSubBlock}
use Rattle.co_sdo.specs.Log.{Answer, Response as Replied, answer_bytes}
use Rattle.co_sdo.specs.Opened.{OpenTransfer}
use Rattle.co_sdo.specs.Refused.{completion_refusal, initiate_refusal}
use Rattle.co_sdo.specs.Downloads.{expedited_part}
use Rattle.co_sdo.specs.OpenTransfers.{is_initiate as initiates}
use Rattle.co_sdo.specs.Replies.{aborted, answers_to, frame_answers, initiate_answers, is_in_sub_block, later_answers, on_open, open_key, request_answers, sub_block_refusal, taken_with, unless_refused}
use Rattle.co_sdo.specs.SubBlocks.{ends_sub_block}
use Rattle.co_frame.specs.SegmentSizes.{segments_per_sub_block}
use Rattle.co_sdo.specs.Uploads.{upload_initiated, value_at}
use Rattle.co_sdo_laws.proofs.Frames.{expedited_sent_read}
use Rattle.conode_explain_laws.proofs.Begins.{HasKey, has_key, small_index}
use Rattle.conode_explain_transfers.specs.Initiates.{data_of}
use Rattle.conode_compare_pdos.specs.SheetNumbers.{first_word}
use Rattle.conode_compare_laws.specs.ShownWords.{HasWord, is_expedited_download}
use Rattle.conode_compare_laws.proofs.ExpeditedFrames.{Fits}

-- a request that begins a download of an entry in segments or in blocks
abbrev pub is_long_download : Key → Option SdoRequest → Bool
is_long_download key (Some (DownloadInitiate named size)) = same_key named key
is_long_download key (Some (BlockDownloadInitiate named size)) = same_key named key
is_long_download key _ = false

-- ---- answers without data

abbrev has_data : Option SdoResponse → Bool
has_data (Some (UploadExpedited key value)) = true
has_data _ = false

two_word : (word : ℕ) (bytes : List ℕ) → length bytes ≡ 2 → unsigned_of bytes ≡ word → IfSome (first_word (take 64 bytes)) (λ n. n ≡ word)
two_word word [] two is = tt
two_word word (a ∷ []) two is = absurd (omega (arith, two))
two_word word (a ∷ b ∷ []) two is = omega (arith, is)
two_word word (a ∷ b ∷ c ∷ more) two is = absurd (omega (arith, two))

data_word : (word : ℕ) (bytes : List ℕ) → 1 ≤ length bytes → (length bytes ≡ 0) ⊎ (length bytes ≡ 2) → unsigned_of bytes ≡ word → IfSome (first_word (take 64 bytes)) (λ n. n ≡ word)
data_word word bytes some (inl none) is = absurd (omega (arith, some, none))
data_word word bytes some (inr two) is = two_word word bytes two is

module _ (key : Key) (word : ℕ) where
  abbrev pub AllFit : List Answer → Type 0
  AllFit answers = AllByRecursion (λ a. Fits key word (answer_bytes a)) answers

  others_fit : (bytes : List ℕ) → has_data (response_in bytes) ≡ false → Fits key word bytes
  others_fit bytes off = λ named value read same. absurd (false≢true (sym off ∙ ap has_data read))

  refusal_fits : (named : Key) (code : AbortCode) → Fits key word (response_bytes (Refuse named code))
  unfolding response_row_in
  refusal_fits named code = others_fit (response_bytes (Refuse named code)) refl

  done_fits : (named : Key) → Fits key word (response_bytes (DownloadDone named))
  unfolding response_row_in
  done_fits named = others_fit (response_bytes (DownloadDone named)) refl

  size_fits : (named : Key) (size : ℕ) → Fits key word (response_bytes (UploadInitiated named (Some size)))
  unfolding response_row_in
  size_fits named size = others_fit (response_bytes (UploadInitiated named (Some size))) refl

  block_download_fits : (named : Key) (size : ℕ) → Fits key word (response_bytes (BlockDownloadInitiated named size))
  unfolding response_row_in
  block_download_fits named size = others_fit (response_bytes (BlockDownloadInitiated named size)) refl

  block_upload_fits : (named : Key) (size : ℕ) → Fits key word (response_bytes (BlockUploadInitiated named (Some size)))
  unfolding response_row_in
  block_upload_fits named size = others_fit (response_bytes (BlockUploadInitiated named (Some size))) refl

  acknowledge_fits : (sequence size : ℕ) → Fits key word (response_bytes (BlockDownloadAcknowledge sequence size))
  unfolding response_row_in
  acknowledge_fits sequence size = others_fit (response_bytes (BlockDownloadAcknowledge sequence size)) refl

  pub aborted_fits : (named : Key) (code : ℕ) → AllFit (aborted named code)
  aborted_fits named code = (refusal_fits named (record { 0 = code }), tt)

  unless_fits : (refusal : Option ℕ) (named : Key) (answers : List Answer) → AllFit answers → AllFit (unless_refused refusal named answers)
  unless_fits None named answers h = h
  unless_fits (Some code) named answers h = aborted_fits named code

  -- where the channel takes the frame as a segment
  frame_fits : (rows : Rows) (o : OpenTransfer) (stage : Stage) (frame : List ℕ) → AllFit (frame_answers rows o stage frame)
  frame_fits rows o (InSubBlock indicated taken) frame = by (ends_sub_block frame)
    where
      by : (b : Bool) → AllFit (if b then unless_refused (sub_block_refusal rows o taken frame) o.key (Replied (BlockDownloadAcknowledge (taken_with taken frame) segments_per_sub_block) ∷ []) else [])
      by true = unless_fits (sub_block_refusal rows o taken frame) o.key (Replied (BlockDownloadAcknowledge (taken_with taken frame) segments_per_sub_block) ∷ []) (acknowledge_fits (taken_with taken frame) segments_per_sub_block, tt)
      by false = tt
  frame_fits rows o _ frame = aborted_fits o.key unknown_command

  pub inside_fits : (rows : Rows) (current : Option OpenTransfer) (frame : List ℕ) → AllFit (on_open current (λ o stage. frame_answers rows o stage frame))
  inside_fits rows None frame = aborted_fits (open_key None) unknown_command
  inside_fits rows (Some o) frame = frame_fits rows o o.stage frame

  -- to an expedited download
  pub expedited_fits : (d : Description) (contents : Contents) (current : Option OpenTransfer) (named : Key) (r : Option SdoRequest) → is_expedited_download named r ≡ true → AllFit (request_answers d contents current r)
  expedited_fits d contents current own (Some (DownloadExpedited named value)) i =
      unless_fits (completion_refusal d contents named None (expedited_part d.rows named value)) named (Replied (DownloadDone named) ∷ []) (done_fits named, tt)
  expedited_fits d contents current own _ i = absurd (false≢true i)

  -- to a request that begins a download in segments or in blocks
  pub long_fits : (d : Description) (contents : Contents) (current : Option OpenTransfer) (named : Key) (r : Option SdoRequest) → is_long_download named r ≡ true → AllFit (request_answers d contents current r)
  long_fits d contents current own (Some (DownloadInitiate named size)) i = unless_fits (initiate_refusal d named size) named (Replied (DownloadDone named) ∷ []) (done_fits named, tt)
  long_fits d contents current own (Some (BlockDownloadInitiate named size)) i =
      unless_fits (initiate_refusal d named size) named (Replied (BlockDownloadInitiated named segments_per_sub_block) ∷ []) (block_download_fits named segments_per_sub_block, tt)
  long_fits d contents current own _ i = absurd (false≢true i)

  -- ---- the data of an entry

  module _ (contents : Contents) (has : HasWord key word contents) where
    data_fits : (named : Key) → named.index < 65536 → 1 ≤ length (value_at contents named) → length (value_at contents named) ≤ 4
        → Fits key word (response_bytes (UploadExpedited named (Indicated (record { items = value_at contents named }))))
    data_fits named small some few = λ other value read same.
        let e : Some (UploadExpedited named (Indicated (record { items = value_at contents named }))) ≡ Some (UploadExpedited other value) = sym (expedited_sent_read named (value_at contents named) small some few) ∙ read in
        let v : Indicated (record { items = value_at contents named }) ≡ value = cc in
        let k : named ≡ other = cc in
        let own : named ≡ key = k ∙ same_key-is other key same in
        subst (λ (x : ExpeditedData). IfSome (first_word (take 64 (data_of x))) (λ n. n ≡ word)) v
        (subst (λ (x : Key). IfSome (first_word (take 64 (value_at contents x))) (λ n. n ≡ word)) (sym own)
        (data_word word (value_at contents key) (subst (λ (x : Key). 1 ≤ length (value_at contents x)) own some) has.bytes has.number))

    value_fits : (named : Key) (b : Bool) → named.index < 65536 → (nat_le 1 (length (value_at contents named)) && nat_le (length (value_at contents named)) 4) ≡ b
        → AllFit (if b then Replied (UploadExpedited named (Indicated (record { items = value_at contents named }))) ∷ [] else Replied (UploadInitiated named (Some (length (value_at contents named)))) ∷ [])
    value_fits named true small is =
        let some : 1 ≤ length (value_at contents named) = grind (arith, nat_tests) in
        let few : length (value_at contents named) ≤ 4 = grind (arith, nat_tests) in
        (data_fits named small some few, tt)
    value_fits named false small is = (size_fits named (length (value_at contents named)), tt)

    initiate_fits : (d : Description) (frame : List ℕ) (request : SdoRequest) → AreBytes frame → HasKey frame request → AllFit (initiate_answers d contents request)
    initiate_fits d frame (DownloadExpedited named value) bytes k = unless_fits _ named (Replied (DownloadDone named) ∷ []) (done_fits named, tt)
    initiate_fits d frame (DownloadInitiate named size) bytes k = unless_fits _ named (Replied (DownloadDone named) ∷ []) (done_fits named, tt)
    initiate_fits d frame (UploadInitiate named) bytes k =
        unless_fits _ named (upload_initiated named (value_at contents named))
        (value_fits named (nat_le 1 (length (value_at contents named)) && nat_le (length (value_at contents named)) 4) (subst (λ (x : Key). x.index < 65536) (sym k) (small_index frame bytes)) refl)
    initiate_fits d frame (BlockUploadInitiate named size threshold) bytes k = unless_fits _ named (Replied (BlockUploadInitiated named (Some (length (value_at contents named)))) ∷ []) (block_upload_fits named (length (value_at contents named)), tt)
    initiate_fits d frame (BlockDownloadInitiate named size) bytes k = unless_fits _ named (Replied (BlockDownloadInitiated named segments_per_sub_block) ∷ []) (block_download_fits named segments_per_sub_block, tt)
    initiate_fits d frame _ bytes k = tt

    request_fits : (d : Description) (current : Option OpenTransfer) (frame : List ℕ) (r : Option SdoRequest) → AreBytes frame → IfSome r (HasKey frame) → initiates r ≡ true → AllFit (request_answers d contents current r)
    request_fits d current frame None bytes k i = aborted_fits (open_key current) unknown_command
    request_fits d current frame (Some request) bytes k i =
        subst (λ b. AllFit (if b then initiate_answers d contents request else later_answers d contents current request)) (sym i) (initiate_fits d frame request bytes k)

    pub answers_fit : (d : Description) (current : Option OpenTransfer) (frame : List ℕ) → AreBytes frame → initiates (request_in frame) ≡ true → AllFit (answers_to d contents current frame)
    answers_fit d current frame bytes i = by (is_in_sub_block current)
      where
        by : (b : Bool) → AllFit (if b then on_open current (λ o stage. frame_answers d.rows o stage frame) else request_answers d contents current (request_in frame))
        by true = inside_fits d.rows current frame
        by false = request_fits d current frame (request_in frame) bytes (has_key frame) i
