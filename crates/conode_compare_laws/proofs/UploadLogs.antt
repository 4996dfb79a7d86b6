-- What is open on the channel of a device after a request that goes on with a block upload.
use Rattle.std.proofs.Common.{◌≡◌, ℕ, Bool, true, false, not, List, [], ◌∷◌, length, Option, Some, None, refl, sym, ap, ◌∙◌, arith}
use Rattle.std.specs.Prelude.{◌&&◌, if◌then◌else◌, is_some, pos}
use Rattle.std.specs.Option.{option_map_or}
use Rattle.std.proofs.lemmas.Bool.{false≢true}
use Rattle.co_value.specs.declared.data_type.DataType.TheVariants.{Domain}
use Rattle.co_value.specs.declared.key.Key.{Key}
use Rattle.co_profile.specs.declared.access.Access.TheVariants.{Rw}
use Rattle.co_frame.specs.SdoRequests.{request_in}
use Rattle.co_frame.specs.declared.sdo_request.SdoRequest.{SdoRequest}
use Rattle.co_frame.specs.declared.sdo_request.SdoRequest.TheVariants.{DownloadInitiate, Upload as UploadInitiate, BlockUploadInitiate, BlockUploadAcknowledge, BlockUploadStart, BlockDownloadInitiate}
use Rattle.co_dict.specs.Rows.{Contents}
use Rattle.co_dict.specs.Refusals.{first_of}
use Rattle.co_dict.specs.Stores.{Description}
use Rattle.co_frame.specs.declared.sdo_response.SdoResponse.TheVariants.{BlockUploadInitiated}
use Rattle.co_sdo.specs.declared.stage.Stage.{Stage}
use Rattle.co_sdo.specs.declared.stage.Stage.TheVariants.{SubBlock, LastTaken, BlockUploadInitiated as Begun, BlockUpload, BlockUploadEnded}
use Rattle.co_sdo.specs.Completed.{unless}
use Rattle.co_sdo.specs.Log.{Answer, Exchange, Exchanged, Log, Response as Replied, requests}
use Rattle.co_sdo.specs.Opened.{OpenTransfer, opened, opened_after, opened_by}
use Rattle.co_sdo.specs.OpenTransfers.{Transfer, begins, is_initiate as initiates, is_inside, is_inside_after, is_upload_end, open_transfer}
use Rattle.co_sdo.specs.Replies.{acknowledge_answers, block_size_refusal, initiate_answers, is_in_sub_block, is_sub_block, later_answers, reply_to, request_answers, start_answers, unless_refused}
use Rattle.co_sdo.specs.Refused.{reading_refusal}
use Rattle.co_sdo.specs.Steps.{after_acknowledge, after_later, after_start, opened_at}
use Rattle.co_sdo.specs.Uploads.{value_at}
use Rattle.co_sdo.proofs.BlockContinuations.{block_upload_goes_on, block_uploading}
use Rattle.co_sdo.proofs.Initiations.{exchange}
use Rattle.co_sdo.proofs.Logs.{after_initiates, after_open, begun as begun_log, extended, inside_is}
use Rattle.conode_explain_laws.proofs.Begins.{outside_answers}
use Rattle.conode_compare_laws.proofs.AnswerDevice.{Clean, outside}
use Rattle.conode_compare_laws.proofs.AnswerOpened.{exchange_with}

-- ---- the transfer that is open, where it is a block upload

abbrev pub is_uploading : Stage → Bool
is_uploading (Begun size) = true
is_uploading (BlockUpload position sent) = true
is_uploading BlockUploadEnded = true
is_uploading _ = false

pub record Uploading (log : Log) (o : OpenTransfer) : Type 0 where
  pub transfer : Transfer
  pub key : Key
  pub size : ℕ
  pub threshold : ℕ
  pub opens : open_transfer log ≡ Some transfer
  pub begin : request_in transfer.begin.request ≡ Some (BlockUploadInitiate key size threshold)
  pub is : o ≡ block_uploading key size transfer

none_is : (o : OpenTransfer) → None ≡ Some o → ⊥
none_is o e = false≢true (ap is_some e)

some_is : (x o : OpenTransfer) → Some x ≡ Some o → o ≡ x
some_is x o e = cc

stage_is : (x o : OpenTransfer) → Some x ≡ Some o → is_uploading x.stage ≡ false → is_uploading o.stage ≡ true → ⊥
stage_is x o e off on = false≢true (sym off ∙ ap (λ (y : OpenTransfer). is_uploading y.stage) (sym (some_is x o e)) ∙ on)

no_download : (b : Bool) (size : Option ℕ) (taken : ℕ) → is_uploading (if b then LastTaken size else SubBlock size taken) ≡ false
no_download true size taken = refl
no_download false size taken = refl

uploading_by : (log : Log) (o : OpenTransfer) (t : Transfer) (r : Option SdoRequest) → open_transfer log ≡ Some t → request_in t.begin.request ≡ r → opened_by r t ≡ Some o → is_uploading o.stage ≡ true → Uploading log o
uploading_by log o t (Some (DownloadInitiate key size)) e q h on = absurd (stage_is _ o h refl on)
uploading_by log o t (Some (UploadInitiate key)) e q h on = absurd (stage_is _ o h refl on)
uploading_by log o t (Some (BlockUploadInitiate key size threshold)) e q h on =
    record { transfer = t; key = key; size = size; threshold = threshold; opens = e; begin = q; is = some_is (block_uploading key size t) o h }
uploading_by log o t (Some (BlockDownloadInitiate key size)) e q h on = absurd (stage_is _ o h (no_download _ size _) on)
uploading_by log o t _ e q h on = absurd (none_is o h)

pub uploading : (log : Log) (o : OpenTransfer) → opened_after log ≡ Some o → is_uploading o.stage ≡ true → Uploading log o
uploading log o h on = by (open_transfer log) refl h
  where
    by : (x : Option Transfer) → open_transfer log ≡ x → opened x ≡ Some o → Uploading log o
    by None e h = absurd (none_is o h)
    by (Some t) e h = uploading_by log o t (request_in t.begin.request) e refl h on

-- ---- one request more

-- where the entry has room for what is uploaded
abbrev roomy : Description → ℕ → Description
roomy d size = record d { rows = λ key. Some (record { data_type = Domain; access = Rw; low = pos 0; high = pos 0; capacity = size; mappable = false }) }

not_inside : (stage : Stage) → is_uploading stage ≡ true → is_sub_block stage ≡ false
not_inside (SubBlock size taken) on = absurd (false≢true on)
not_inside _ on = refl

pub uploading_outside : (current : Option OpenTransfer) (o : OpenTransfer) → current ≡ Some o → is_uploading o.stage ≡ true → is_in_sub_block current ≡ false
uploading_outside current o h on = ap is_in_sub_block h ∙ not_inside o.stage on

-- what is open after it, by what a request makes of a block upload
next_by : (d : Description) (contents : Contents) (log : Log) (frame : List ℕ) (o : OpenTransfer) (u : Uploading log o) (request : SdoRequest) (answers : List Answer) → request_in frame ≡ Some request → initiates (Some request) ≡ false
    → reply_to d contents log frame ≡ answers
    → later_answers (roomy d (length (value_at u.transfer.begin.contents u.key))) contents (Some (block_uploading u.key u.size u.transfer)) request ≡ answers
    → opened_after (Exchanged (exchange_with d contents log frame) ∷ log) ≡ after_later (roomy d (length (value_at u.transfer.begin.contents u.key))) contents (Some (block_uploading u.key u.size u.transfer)) request
next_by d contents log frame o u request answers f n replies same =
    let size : ℕ = length (value_at u.transfer.begin.contents u.key) in
    let x : Exchange = exchange_with d contents log frame in
    let inside : is_inside u.transfer ≡ false = ap (λ r. is_inside_after r (requests u.transfer.later)) u.begin in
    let goes : begins (Some u.transfer) frame ≡ false = ap (λ b. not b && initiates (request_in frame)) inside ∙ ap initiates f ∙ n in
    let step = block_upload_goes_on (roomy d size) contents u.key u.size u.threshold u.transfer frame request u.begin (omega arith) f n in
    ap opened (after_open log x u.transfer u.opens goes)
    ∙ ap (λ xs. opened (extended (exchange frame contents xs) u.transfer)) (replies ∙ sym same)
    ∙ step.opens

replies_are : (d : Description) (contents : Contents) (log : Log) (frame : List ℕ) (o : OpenTransfer) (request : SdoRequest) → opened_after log ≡ Some o → is_uploading o.stage ≡ true → request_in frame ≡ Some request → initiates (Some request) ≡ false
    → reply_to d contents log frame ≡ later_answers d contents (Some o) request
replies_are d contents log frame o request h on f n =
    outside_answers d contents (opened_after log) frame (uploading_outside (opened_after log) o h on)
    ∙ ap (λ r. request_answers d contents (opened_after log) r) f
    ∙ ap (λ b. if b then initiate_answers d contents request else later_answers d contents (opened_after log) request) n
    ∙ ap (λ c. later_answers d contents c request) h

-- a start
pub after_the_start : (d : Description) (contents : Contents) (log : Log) (frame : List ℕ) (o : OpenTransfer) → opened_after log ≡ Some o → is_uploading o.stage ≡ true → request_in frame ≡ Some BlockUploadStart
    → opened_after (Exchanged (exchange_with d contents log frame) ∷ log) ≡ after_start o o.stage
after_the_start d contents log frame o h on f =
    let u : Uploading log o = uploading log o h on in
    next_by d contents log frame o u BlockUploadStart (start_answers o o.stage) f refl (replies_are d contents log frame o BlockUploadStart h on f refl) (ap (λ (x : OpenTransfer). start_answers x x.stage) (sym u.is))
    ∙ ap (λ (x : OpenTransfer). after_start x x.stage) (sym u.is)

-- an acknowledgement
pub after_the_acknowledge : (d : Description) (contents : Contents) (log : Log) (frame : List ℕ) (o : OpenTransfer) (sequence size : ℕ) → opened_after log ≡ Some o → is_uploading o.stage ≡ true
    → request_in frame ≡ Some (BlockUploadAcknowledge sequence size)
    → opened_after (Exchanged (exchange_with d contents log frame) ∷ log) ≡ after_acknowledge o o.stage sequence size
after_the_acknowledge d contents log frame o sequence size h on f =
    let u : Uploading log o = uploading log o h on in
    next_by d contents log frame o u (BlockUploadAcknowledge sequence size) (acknowledge_answers o o.stage sequence size) f refl
    (replies_are d contents log frame o (BlockUploadAcknowledge sequence size) h on f refl) (ap (λ (x : OpenTransfer). acknowledge_answers x x.stage sequence size) (sym u.is))
    ∙ ap (λ (x : OpenTransfer). after_acknowledge x x.stage sequence size) (sym u.is)

-- ---- an initiate request

begin_by : (frame : List ℕ) (contents : Contents) (key : Key) (size threshold : ℕ) (code : Option ℕ) → request_in frame ≡ Some (BlockUploadInitiate key size threshold)
    → opened (begun_log (exchange frame contents (unless_refused code key (Replied (BlockUploadInitiated key (Some (length (value_at contents key)))) ∷ [])))) ≡ unless code (opened_at key (Begun size) (value_at contents key))
begin_by frame contents key size threshold (Some code) f = refl
begin_by frame contents key size threshold None f = let end : is_upload_end (request_in frame) ≡ false = ap is_upload_end f in rw f (rw end (rw f refl))

pub after_the_begin : (d : Description) (contents : Contents) (log : Log) (frame : List ℕ) (key : Key) (size threshold : ℕ) → Clean log → request_in frame ≡ Some (BlockUploadInitiate key size threshold)
    → opened_after (Exchanged (exchange_with d contents log frame) ∷ log) ≡ unless (first_of (reading_refusal d contents key) (block_size_refusal size)) (opened_at key (Begun size) (value_at contents key))
after_the_begin d contents log frame key size threshold clean f =
    let inside : option_map_or is_inside (open_transfer log) false ≡ false = sym (inside_is (open_transfer log)) ∙ outside log clean in
    let first : begins (open_transfer log) frame ≡ true = ap (λ b. not b && initiates (request_in frame)) inside ∙ ap initiates f in
    let answers : reply_to d contents log frame ≡ initiate_answers d contents (BlockUploadInitiate key size threshold) =
    outside_answers d contents (opened_after log) frame (outside log clean) ∙ ap (λ r. request_answers d contents (opened_after log) r) f in
    ap opened (after_initiates log (exchange_with d contents log frame) first)
    ∙ ap (λ xs. opened (begun_log (exchange frame contents xs))) answers
    ∙ begin_by frame contents key size threshold (first_of (reading_refusal d contents key) (block_size_refusal size)) f
