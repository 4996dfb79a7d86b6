-- A request that begins no transfer, where the channel has no upload open: none is open after it, and none is answered.
use Rattle.std.proofs.Common.{◌≡◌, ℕ, Bool, true, false, not, List, ◌++◌, Option, Some, None, refl, sym}
use Rattle.std.specs.Prelude.{if◌then◌else◌}
use Rattle.std.proofs.lemmas.Bool.{false≢true}
use Rattle.co_frame.specs.declared.sdo_request.SdoRequest.{SdoRequest}
use Rattle.co_frame.specs.declared.sdo_request.SdoRequest.TheVariants.{DownloadExpedited, DownloadInitiate, DownloadSegment, Upload as UploadInitiate, UploadSegment as NextSegment, Abort as Abandon, BlockUploadInitiate, BlockUploadStart, BlockUploadAcknowledge, BlockUploadEnd as UploadEnd, BlockDownloadInitiate, BlockDownloadEnd}
use Rattle.co_dict.specs.Rows.{Contents}
use Rattle.co_dict.specs.Stores.{Description}
use Rattle.co_sdo.specs.declared.stage.Stage.{Stage}
use Rattle.co_sdo.specs.declared.stage.Stage.TheVariants.{Download as Receiving}
use Rattle.co_sdo.specs.Opened.{OpenTransfer}
use Rattle.co_sdo.specs.Replies.{segment_refusal}
use Rattle.co_sdo.specs.Steps.{opened_at, after_request, after_segment, after_upload_segment, after_start, after_acknowledge}
use Rattle.co_sdo.specs.OpenTransfers.{is_initiate, is_upload_end}
use Rattle.conode_explain_laws.specs.Uploads.{Read, ended_by}
use Rattle.conode_explain_laws.proofs.Readings.{request_reading}
use Rattle.conode_explain_laws.proofs.Views.{is_begin}
use Rattle.conode_explain_laws.proofs.UploadSteps.{with_segment, with_acknowledge, answered_by, acknowledged_by}
use Rattle.conode_explain_laws.proofs.UploadStanding.{is_segmented, no_upload, unless_no_upload}

no_segment : (d : Description) (contents : Contents) (o : OpenTransfer) (stage : Stage) (toggle : Bool) (segment : List ℕ) (last : Bool) → is_segmented stage ≡ true → no_upload (after_segment d contents o stage toggle segment last) ≡ true
no_segment d contents o (Receiving size expected) toggle segment last h = unless_no_upload (segment_refusal d contents o size expected toggle segment last) _ (by last)
  where
    by : (last : Bool) → no_upload (if last then None else opened_at o.key (Receiving size (not expected)) (o.bytes ++ segment)) ≡ true
    by true = refl
    by false = refl
no_segment d contents o _ toggle segment last h = absurd (false≢true h)

no_next : (o : OpenTransfer) (stage : Stage) (toggle : Bool) → is_segmented stage ≡ true → (no_upload (after_upload_segment o stage toggle) ≡ true) × (with_segment o stage toggle ≡ None)
no_next o (Receiving size expected) toggle h = (refl, refl)
no_next o _ toggle h = absurd (false≢true h)

no_start : (o : OpenTransfer) (stage : Stage) → is_segmented stage ≡ true → no_upload (after_start o stage) ≡ true
no_start o (Receiving size expected) h = refl
no_start o _ h = absurd (false≢true h)

no_acknowledge : (o : OpenTransfer) (stage : Stage) (sequence size : ℕ) → is_segmented stage ≡ true → (no_upload (after_acknowledge o stage sequence size) ≡ true) × (with_acknowledge o stage sequence ≡ None)
no_acknowledge o (Receiving size expected) sequence block_size h = (refl, refl)
no_acknowledge o _ sequence block_size h = absurd (false≢true h)

-- a request that begins nothing makes none of it
pub record OpensNone (d : Description) (contents : Contents) (current : Option OpenTransfer) (r : Option SdoRequest) : Type 0 where
  pub next : no_upload (after_request d contents current r) ≡ true
  pub answers : answered_by d contents current r ≡ None
  pub acknowledges : acknowledged_by current r ≡ None

pub opens_none : (d : Description) (contents : Contents) (current : Option OpenTransfer) (r : Option SdoRequest) → no_upload current ≡ true → is_initiate r ≡ false → OpensNone d contents current r
opens_none d contents None (Some (DownloadSegment toggle segment last)) h n = record { next = refl; answers = refl; acknowledges = refl }
opens_none d contents (Some o) (Some (DownloadSegment toggle segment last)) h n = record { next = no_segment d contents o o.stage toggle segment.items last h; answers = refl; acknowledges = refl }
opens_none d contents None (Some (NextSegment toggle)) h n = record { next = refl; answers = refl; acknowledges = refl }
opens_none d contents (Some o) (Some (NextSegment toggle)) h n = let one = no_next o o.stage toggle h in record { next = one.0; answers = one.1; acknowledges = refl }
opens_none d contents None (Some BlockUploadStart) h n = record { next = refl; answers = refl; acknowledges = refl }
opens_none d contents (Some o) (Some BlockUploadStart) h n = record { next = no_start o o.stage h; answers = refl; acknowledges = refl }
opens_none d contents None (Some (BlockUploadAcknowledge sequence size)) h n = record { next = refl; answers = refl; acknowledges = refl }
opens_none d contents (Some o) (Some (BlockUploadAcknowledge sequence size)) h n = let one = no_acknowledge o o.stage sequence size h in record { next = one.0; answers = refl; acknowledges = one.1 }
opens_none d contents current None h n = record { next = refl; answers = refl; acknowledges = refl }
opens_none d contents current (Some (Abandon key code)) h n = record { next = refl; answers = refl; acknowledges = refl }
opens_none d contents current (Some UploadEnd) h n = record { next = refl; answers = refl; acknowledges = refl }
opens_none d contents current (Some (BlockDownloadEnd unused)) h n = record { next = refl; answers = refl; acknowledges = refl }
opens_none d contents current (Some _) h n = absurd (false≢true (sym n))

pub begins_nothing : (r : Option SdoRequest) (micros : ℕ) (frame : List ℕ) → is_begin (request_reading r micros frame) ≡ false → is_initiate r ≡ false
begins_nothing (Some (DownloadExpedited key value)) micros frame n = absurd (false≢true (sym n))
begins_nothing (Some (DownloadInitiate key size)) micros frame n = absurd (false≢true (sym n))
begins_nothing (Some (UploadInitiate key)) micros frame n = absurd (false≢true (sym n))
begins_nothing (Some (BlockUploadInitiate key size threshold)) micros frame n = absurd (false≢true (sym n))
begins_nothing (Some (BlockDownloadInitiate key size)) micros frame n = absurd (false≢true (sym n))
begins_nothing r micros frame n = refl

pub none_ended : (r : Option SdoRequest) (ended : Option Read) → ended ≡ None → ended_by r ended ≡ None
none_ended r ended e = by (is_upload_end r)
  where
    by : (b : Bool) → (if b then ended else None) ≡ None
    by true = e
    by false = refl
