-- A device confirms no expedited download of an entry where each that is asked for is refused.
use Rattle.std.proofs.Common.{◌≡◌, ℕ, ◌+◌, Bool, true, false, List, [], ◌∷◌, length, Option, Some, None, refl, sym, ap, ◌∙◌, subst, ◌⊎◌, inl, inr}
use Rattle.std.specs.Prelude.{if◌then◌else◌}
use Rattle.std.specs.List.{AllByRecursion}
use Rattle.std.proofs.lemmas.Bool.{false≢true}
use Rattle.co_value.specs.declared.key.Key.{Key}
use Rattle.co_value.specs.Keys.{same_key}
use Rattle.co_frame_aborts.specs.AbortCodes.{unknown_command}
use Rattle.co_frame.specs.SdoRequests.{request_in}
use Rattle.co_frame.specs.SdoResponses.{response_bytes, response_in, response_row_in}
use Rattle.co_frame.specs.SegmentSizes.{segments_per_sub_block}
use Rattle.co_frame_aborts.specs.declared.abort_code.AbortCode.{AbortCode}
use Rattle.co_frame.specs.declared.sdo_request.ExpeditedData.{ExpeditedData}
use Rattle.co_frame.specs.declared.sdo_request.SdoRequest.{SdoRequest}
use Rattle.co_frame.specs.declared.sdo_request.SdoRequest.TheVariants.{DownloadExpedited}
use Rattle.co_frame.specs.declared.sdo_response.SdoResponse.{SdoResponse}
use Rattle.co_frame.specs.declared.sdo_response.SdoResponse.TheVariants.{Abort as Refuse, BlockDownloadAcknowledge, DownloadDone}
use Rattle.co_dict.specs.Rows.{Contents, Rows}
use Rattle.co_dict.specs.Stores.{Description}
use Rattle.co_profile.specs.Keys.{producer_key}
use Rattle.co_sdo.specs.declared.stage.Stage.{Stage}
use Rattle.co_sdo.specs.declared.stage.Stage.TheVariants.{SubBlock as InSubBlock}
use Rattle.co_sdo.specs.Completed.{key_set, set_by, unless}
use Rattle.co_sdo.specs.Downloads.{Download, expedited_part}
use Rattle.co_sdo.specs.Log.{Answer, Log, Response as Replied, answer_bytes}
use Rattle.co_sdo.specs.Opened.{OpenTransfer, opened_after}
use Rattle.co_sdo.specs.OpenTransfers.{open_transfer}
use Rattle.co_sdo.specs.Refused.{completion_refusal}
use Rattle.co_sdo.specs.Replies.{aborted, frame_answers, is_in_sub_block, on_open, open_key, reply_to, request_answers, sub_block_refusal, taken_with, unless_refused}
use Rattle.co_sdo.specs.SubBlocks.{ends_sub_block}
use Rattle.co_sdo.proofs.Logs.{inside_is}
use Rattle.co_node_parts.specs.declared.nmt_state.NodeState.TheVariants as node
use Rattle.co_node_parts.specs.NmtStates.{is_state}
use Rattle.co_node_model.specs.Device.{contents_of, moment, moments, state_of}
use Rattle.co_node_model.specs.Inputs.{Applied, Framed, Inputs, InputView, Ticked}
use Rattle.co_node_model.specs.Keys.{is_set}
use Rattle.co_node_model.specs.Moments.{Constants}
use Rattle.co_node_model.specs.Sdo.{channel_logs}
use Rattle.co_node_model.specs.Sync.{is_sync_id}
use Rattle.conode_compare_laws.specs.Periods.{AllKeepPeriod, KeepsPeriod}
use Rattle.conode_compare_laws.specs.Recordings.{Stamped}
use Rattle.conode_compare_laws.specs.ShownWords.{AllKeepWord, KeepsWord, is_expedited_download, number_asked}
use Rattle.conode_compare_laws.proofs.ChannelMarks.{expedited_sets, mark_is}
use Rattle.conode_compare_laws.proofs.ExpeditedWrites.{NotDone}

-- ---- answers that confirm none

abbrev confirms : Option SdoResponse → Bool
confirms (Some (DownloadDone key)) = true
confirms _ = false

module _ (key : Key) where
  abbrev pub AllRefused : List Answer → Type 0
  AllRefused answers = AllByRecursion (λ a. NotDone key (answer_bytes a)) answers

  others_refused : (bytes : List ℕ) → confirms (response_in bytes) ≡ false → NotDone key bytes
  others_refused bytes off = λ named read. absurd (false≢true (sym off ∙ ap confirms read))

  refusal_refused : (named : Key) (code : AbortCode) → NotDone key (response_bytes (Refuse named code))
  unfolding response_row_in
  refusal_refused named code = others_refused (response_bytes (Refuse named code)) refl

  acknowledge_refused : (sequence size : ℕ) → NotDone key (response_bytes (BlockDownloadAcknowledge sequence size))
  unfolding response_row_in
  acknowledge_refused sequence size = others_refused (response_bytes (BlockDownloadAcknowledge sequence size)) refl

  pub aborted_refused : (named : Key) (code : ℕ) → AllRefused (aborted named code)
  aborted_refused named code = (refusal_refused named (record { 0 = code }), tt)

  frame_refused : (rows : Rows) (o : OpenTransfer) (stage : Stage) (frame : List ℕ) → AllRefused (frame_answers rows o stage frame)
  frame_refused rows o (InSubBlock indicated taken) frame = by (ends_sub_block frame) (sub_block_refusal rows o taken frame)
    where
      by : (b : Bool) (refusal : Option ℕ) → AllRefused (if b then unless_refused refusal o.key (Replied (BlockDownloadAcknowledge (taken_with taken frame) segments_per_sub_block) ∷ []) else [])
      by true None = (acknowledge_refused (taken_with taken frame) segments_per_sub_block, tt)
      by true (Some code) = aborted_refused o.key code
      by false refusal = tt
  frame_refused rows o _ frame = aborted_refused o.key unknown_command

  pub inside_refused : (rows : Rows) (current : Option OpenTransfer) (frame : List ℕ) → AllRefused (on_open current (λ o stage. frame_answers rows o stage frame))
  inside_refused rows None frame = aborted_refused (open_key None) unknown_command
  inside_refused rows (Some o) frame = frame_refused rows o o.stage frame

  -- ---- an expedited download of the entry, where it isn't written

  abbrev part : Description → Key → ExpeditedData → List ℕ
  part d named value = expedited_part d.rows named value

  unset_refused : (refusal : Option ℕ) (named : Key) (download : Download) → download.key ≡ named → same_key named key ≡ true → is_set (key_set (unless refusal (Some download))) key ≡ false
      → AllRefused (unless_refused refusal named (Replied (DownloadDone named) ∷ []))
  unset_refused None named download is own off = absurd (false≢true (sym off ∙ ap (λ (x : Key). same_key x key) is ∙ own))
  unset_refused (Some code) named download is own off = aborted_refused named code

  expedited_refused : (d : Description) (contents : Contents) (log : Log) (bytes : List ℕ) (named : Key) (value : ExpeditedData) → request_in bytes ≡ Some (DownloadExpedited named value) → same_key named key ≡ true
      → is_set (key_set (set_by d contents log bytes)) key ≡ false → AllRefused (reply_to d contents log bytes)
  expedited_refused d contents log bytes named value r own off = by (is_in_sub_block (opened_after log)) refl
    where
      by : (b : Bool) → is_in_sub_block (opened_after log) ≡ b
          → AllRefused (if b then on_open (opened_after log) (λ o stage. frame_answers d.rows o stage bytes) else request_answers d contents (opened_after log) (request_in bytes))
      by true e = inside_refused d.rows (opened_after log) bytes
      by false e =
          subst (λ x. AllRefused (request_answers d contents (opened_after log) x)) (sym r)
          (unset_refused (completion_refusal d contents named None (part d named value)) named (record { key = named; indicated = None; bytes = part d named value }) refl own
          (subst (λ x. is_set (key_set x) key ≡ false) (expedited_sets d log bytes named value (sym (inside_is (open_transfer log)) ∙ e) r contents) off))

  request_refused : (d : Description) (contents : Contents) (log : Log) (bytes : List ℕ) (r : Option SdoRequest) → request_in bytes ≡ r → is_expedited_download key r ≡ true → is_set (key_set (set_by d contents log bytes)) key ≡ false
      → AllRefused (reply_to d contents log bytes)
  request_refused d contents log bytes (Some (DownloadExpedited named value)) r own off = expedited_refused d contents log bytes named value r own off
  request_refused d contents log bytes _ r own off = absurd (false≢true own)

  -- ---- at an input

  -- it asks for the number that the entry has, or none of the answers confirms it
  abbrev pub RefusesAt : ℕ → Constants → Inputs → InputView → Type 0
  RefusesAt word k before (Framed frame) =
      frame.id ≡ 0x600 + k.description.node → length frame.bytes ≡ 8 → is_state node.Stopped (state_of k before) ≡ false → is_expedited_download key (request_in frame.bytes) ≡ true
      → (number_asked (request_in frame.bytes) ≡ word) ⊎ AllRefused (reply_to k.description (contents_of k before) (channel_logs (moments k before) 0) frame.bytes)
  RefusesAt word k before Ticked = Unit {0}
  RefusesAt word k before (Applied event) = Unit {0}

  abbrev pub AllRefuse : ℕ → Constants → Inputs → List Stamped → Type 0
  AllRefuse word k before [] = Unit {0}
  AllRefuse word k before (s ∷ later) = RefusesAt word k before s.input × AllRefuse word k (s.input ∷ before) later

-- ---- where the entry isn't written at an input, none is done

pub refuses : (key : Key) (word : ℕ) (k : Constants) (before : Inputs) (input : InputView) → is_sync_id (contents_of k before) (0x600 + k.description.node) ≡ false → KeepsWord key word k before input → RefusesAt key word k before input
refuses key word k before (Framed frame) sync h = λ id eight running own.
    elim (h id own) [
      | inl asked ↦ inl asked
      | inr unset ↦ inr
          (request_refused key k.description (contents_of k before) (channel_logs (moments k before) 0) frame.bytes (request_in frame.bytes) refl own
          (subst (λ x. is_set x key ≡ false) (mark_is k (moments k before) frame id sync eight running) unset))
    ]
refuses key word k before Ticked sync h = tt
refuses key word k before (Applied event) sync h = tt

pub all_refuse : (key : Key) (word : ℕ) (k : Constants) (inputs : List Stamped) (before : Inputs) → ((all : Inputs) → is_sync_id (contents_of k all) (0x600 + k.description.node) ≡ false) → AllKeepWord key word k before inputs
    → AllRefuse key word k before inputs
all_refuse key word k [] before sync h = tt
all_refuse key word k (s ∷ later) before sync h = (refuses key word k before s.input (sync before) h.0, all_refuse key word k later (s.input ∷ before) sync h.1)

-- so where 1017:00 isn't written
kept_refuses : (k : Constants) (period : ℕ) (before : Inputs) (input : InputView) → KeepsPeriod period (moment k (moments k before) input) → KeepsWord producer_key period k before input
kept_refuses k period before (Framed frame) keep = λ id own. inr keep.unwritten
kept_refuses k period before Ticked keep = tt
kept_refuses k period before (Applied event) keep = tt

pub period_refuses : (k : Constants) (period : ℕ) (inputs : List Stamped) (before : Inputs) → AllKeepPeriod period k before inputs → AllKeepWord producer_key period k before inputs
period_refuses k period [] before keep = tt
period_refuses k period (s ∷ later) before keep = (kept_refuses k period before s.input keep.0, period_refuses k period later (s.input ∷ before) keep.1)
