-- Inputs of a device, for the laws about transfers: the frames of its other channels, and initiate requests that it ignores.
use Rattle.std.proofs.Common.{◌≡◌, ℕ, ◌+◌, ◌<◌, ◌≢◌, true, false, List, [], ◌∷◌, Option, Some, None, refl, sym, ap, ◌∙◌, subst, arith}
use Rattle.std.specs.Prelude.{◌==◌, if◌then◌else◌, IfSome}
use Rattle.std.specs.List.{AllByRecursion}
use Rattle.std.proofs.lemmas.Bool.{false≢true}
use Rattle.std.proofs.lemmas.Bool.Decides.{nat_tests}
use Rattle.co_frame.specs.FrameContent.{FrameContent}
use Rattle.co_frame.specs.SdoRequests.{request_in}
use Rattle.co_frame.specs.declared.sdo_request.SdoRequest.{SdoRequest}
use Rattle.co_frame.specs.declared.sdo_request.SdoRequest.TheVariants.{DownloadExpedited, DownloadInitiate, Upload as UploadInitiate, BlockUploadInitiate, BlockDownloadInitiate}
use Rattle.co_sdo.specs.Events.{ChannelEvent, logs_after}
use Rattle.co_sdo.specs.Log.{Answer, Log, frames_on}
use Rattle.co_sdo.specs.Opened.{opened_after}
use Rattle.co_sdo.specs.OpenTransfers.{is_initiate as initiates}
use Rattle.co_node_model.specs.Device.{moment, moments}
use Rattle.co_node_model.specs.Inputs.{Inputs, InputView}
use Rattle.co_node_model.specs.Moments.{Constants}
use Rattle.co_node_model.specs.Sdo.{channel_logs}
use Rattle.co_sheet.specs.Content.{Row}
use Rattle.conode_explain_transfers.specs.declared.kinds.Side.TheVariants.{Client}
use Rattle.conode_explain_transfers.specs.declared.transfer.Transfer.{Transfer}
use Rattle.conode_explain_laws.specs.Downloads.{is_block_begin}
use Rattle.conode_explain_laws.proofs.Begins.{HasKey}
use Rattle.conode_explain_transfers.specs.BlockTurns.{is_block}
use Rattle.conode_explain_transfers.specs.Unanswered.{is_next_segment}
use Rattle.co_value.specs.Numbers.{AreBytes}
use Rattle.conode_compare_transfers.specs.declared.dialogue.Dialogue.{Dialogue}
use Rattle.conode_compare_transfers.specs.Dialogues.{dialogue_heard}
use Rattle.conode_compare_nmt.specs.declared.limits.Subject.{Subject}
use Rattle.conode_compare_laws.specs.AnswerSenders.{AreOther, IsOther, is_block_upload_begin}
use Rattle.conode_compare_laws.specs.Identifiers.{IsAside}
use Rattle.conode_compare_laws.proofs.AnswerTurns.{Sound}
use Rattle.conode_compare_laws.proofs.AnswerFollowed.{begins_sound}
use Rattle.conode_compare_laws.proofs.AnswerDevice.{IsAnother}
use Rattle.conode_compare_laws.proofs.AnswerDialogues.{InitiateHeard, initiate_heard}
use Rattle.conode_compare_laws.proofs.AnswerExchange.{small_key}
use Rattle.conode_compare_laws.proofs.AnswerOpened.{none_of}
use Rattle.conode_compare_laws.proofs.AnswerTransfers.{Shape}
use Rattle.conode_compare_laws.proofs.AnswerTransferExchange.{Tied}

-- ---- another channel's frames

pub same_log : (event : Option ChannelEvent) (logs : ℕ → Log) → IsAnother event → logs_after event logs 0 ≡ logs 0
same_log None logs a = refl
same_log (Some e) logs a = ap (λ b. if b then e.event ∷ logs 0 else logs 0) a

pub answers_other : (node id : ℕ) (answers : List Answer) → IsOther node id → AreOther node (frames_on id answers)
answers_other node id [] other = tt
answers_other node id (answer ∷ later) other = (other, answers_other node id later other)

same_eqb : (n : ℕ) → (n == n) ≡ true
same_eqb n = grind (arith, nat_tests)

pub not_equal : (a b : ℕ) → (a == b) ≡ false → a ≢ b
not_equal a b off = λ e. absurd (false≢true (sym off ∙ ap (λ x. x == b) e ∙ same_eqb b))

pub only_other : (node : ℕ) (frames : List FrameContent) → AllByRecursion (λ frame. IsAside node frame.id × IsOther node frame.id) frames → AreOther node frames
only_other node [] h = tt
only_other node (frame ∷ later) h = (h.0.1, only_other node later h.1)

-- a command
module _ (k : Constants) (subject : Subject) (rows : List Row) (micros : ℕ) (before : Inputs) where
  pub nmt_other : (frame : FrameContent) → (frame.id == 0) ≡ true → IsOther k.description.node frame.id
  nmt_other frame is = (λ e. absurd (false≢true (sym (far (0x580 + k.description.node) (omega arith) e) ∙ is)), λ e. absurd (false≢true (sym (far (0x600 + k.description.node) (omega arith) e) ∙ is)))
    where
      far : (n : ℕ) → 0 < n → frame.id ≡ n → (frame.id == 0) ≡ false
      far n some e = grind (arith, nat_tests)

-- the log after the answers to an input
abbrev pub log_at : Constants → Inputs → InputView → Log
log_at k before input = logs_after (moment k (moments k before) input).exchange (channel_logs (moments k before)) 0

-- ---- an initiate request that begins no block transfer, and is ignored

tied_begins : (log : Log) (answer started : ℕ) (d : Dialogue) (micros : ℕ) (frame : FrameContent) (request : SdoRequest) (t : Transfer) → InitiateHeard t micros (dialogue_heard answer started d micros Client frame) → Shape t.key t → opened_after log ≡ None
    → IfSome (dialogue_heard answer started d micros Client frame).channel.transfer (Tied log)
tied_begins log answer started d micros frame request t i s none =
    subst (λ o. IfSome o (Tied log)) (sym i.transfer) (record { shape = s; of = none_of t.key log none })

fresh_shape : (t : Transfer) → Sound t → is_block t.protocol ≡ false → t.key.index < 65536 → Shape t.key t
fresh_shape t s b small = record { sound = s; block = b; of = refl; small = small }

pub ignored_initiate : (log : Log) (answer started : ℕ) (d : Dialogue) (micros : ℕ) (frame : FrameContent) (r : Option SdoRequest) → IfSome d.channel.transfer Sound → request_in frame.bytes ≡ r → initiates r ≡ true → AreBytes frame.bytes
    → IfSome r (HasKey frame.bytes) → is_block_begin r ≡ false → is_block_upload_begin r ≡ false → opened_after log ≡ None → IfSome (dialogue_heard answer started d micros Client frame).channel.transfer (Tied log)
ignored_initiate log answer started d micros frame (Some (DownloadExpedited key value)) s is i bytes has n m none =
    let sound = begins_sound (is_next_segment d.channel.transfer frame.bytes) (DownloadExpedited key value) micros frame.bytes refl in
    tied_begins log answer started d micros frame (DownloadExpedited key value) _ (initiate_heard answer started d micros frame (DownloadExpedited key value) _ s is refl refl sound) (fresh_shape _ sound refl (small_key frame.bytes key bytes has)) none
ignored_initiate log answer started d micros frame (Some (DownloadInitiate key size)) s is i bytes has n m none =
    let sound = begins_sound (is_next_segment d.channel.transfer frame.bytes) (DownloadInitiate key size) micros frame.bytes refl in
    tied_begins log answer started d micros frame (DownloadInitiate key size) _ (initiate_heard answer started d micros frame (DownloadInitiate key size) _ s is refl refl sound) (fresh_shape _ sound refl (small_key frame.bytes key bytes has)) none
ignored_initiate log answer started d micros frame (Some (UploadInitiate key)) s is i bytes has n m none =
    let sound = begins_sound (is_next_segment d.channel.transfer frame.bytes) (UploadInitiate key) micros frame.bytes refl in
    tied_begins log answer started d micros frame (UploadInitiate key) _ (initiate_heard answer started d micros frame (UploadInitiate key) _ s is refl refl sound) (fresh_shape _ sound refl (small_key frame.bytes key bytes has)) none
ignored_initiate log answer started d micros frame (Some (BlockUploadInitiate key size threshold)) s is i bytes has n m none = absurd (false≢true (sym m))
ignored_initiate log answer started d micros frame (Some (BlockDownloadInitiate key size)) s is i bytes has n m none = absurd (false≢true (sym n))
ignored_initiate log answer started d micros frame _ s is i bytes has n m none = absurd (false≢true i)
