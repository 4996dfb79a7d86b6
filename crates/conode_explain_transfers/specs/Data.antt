-- The data of a transfer over a whole log, and which frame confirms it.
use Rattle.std.specs.Prelude.{◌≡◌, ℕ, Bool, true, false, List, [], ◌∷◌, ◌++◌, length, Option, Some, None, IfSome}
use Rattle.co_frame.specs.Segments.{same_bool}
use Rattle.co_frame.specs.declared.sdo_request.SdoRequest.TheVariants.{BlockUploadEnd as UploadEnd}
use Rattle.co_frame.specs.declared.sdo_response.SdoResponse.TheVariants.{DownloadDone, DownloadSegmentDone, UploadExpedited, UploadSegment, BlockDownloadDone}
use Rattle.conode_explain_transfers.specs.declared.ended.Ending.{Ending}
use Rattle.conode_explain_transfers.specs.declared.ended.Ending.TheVariants.{Done}
use Rattle.conode_explain_transfers.specs.declared.kinds.Side.{Side}
use Rattle.conode_explain_transfers.specs.declared.reading.Reading.{Reading}
use Rattle.conode_explain_transfers.specs.declared.reading.Reading.TheVariants.{Begin, Abort, Request, Response}
use Rattle.conode_explain_transfers.specs.declared.stage.Stage.{Stage}
use Rattle.conode_explain_transfers.specs.declared.stage.Stage.TheVariants.{Initiated, DownloadSent, UploadAsked, BlockEnded}
use Rattle.conode_explain_transfers.specs.declared.transfer.Transfer.{Transfer}
use Rattle.conode_explain_transfers.specs.Crc.{crc_of}
use Rattle.conode_explain_transfers.specs.Digests.{counted}
use Rattle.conode_explain_transfers.specs.Followed.{Event, Framed, BootedUp, following_after}
use Rattle.conode_explain_transfers.specs.Readings.{reading_of}
use Rattle.conode_explain_transfers.specs.Stages.{confirmed_with}
use Rattle.conode_explain_transfers.specs.Transfers.{Turn}
use Rattle.conode_explain_transfers.specs.Turns.{turn_of}

-- ---- the data

-- with what a frame takes
abbrev pub data_with : List ℕ → Option (List ℕ) → List ℕ
data_with bytes None = bytes
data_with bytes (Some more) = bytes ++ more

-- with a frame: an initiate request begins with none, an abort takes none
abbrev pub data_by : Option Transfer → Reading → List ℕ → List ℕ → List ℕ
data_by current (Begin request) frame bytes = []
data_by None reading frame bytes = []
data_by (Some transfer) (Abort code) frame bytes = bytes
data_by (Some transfer) reading frame bytes = data_with bytes (turn_of transfer reading frame).takes

-- the data of the transfer that the newest frame belongs to: what its frames took since its
-- initiate request, in their order
abbrev pub data_after : List Event → List ℕ
data_after [] = []
data_after (Framed micros side frame ∷ older) =
    data_by (following_after older).transfer (reading_of (following_after older).transfer side frame) frame (data_after older)
data_after (BootedUp micros ∷ older) = []

-- ---- the confirmation

-- the frame after which a transfer is complete: of a download the server's last response, of an
-- upload the segment with c = 1, or the response that has all its data, or in blocks the client's
-- confirmation of the end
abbrev pub confirms : Stage → Reading → Bool
confirms Initiated (Response (DownloadDone key)) = true
confirms Initiated (Response (UploadExpedited key value)) = true
confirms (DownloadSent sent true) (Response (DownloadSegmentDone toggle)) = same_bool toggle sent
confirms (UploadAsked asked) (Response (UploadSegment toggle segment true)) = same_bool toggle asked
confirms (BlockEnded crc) (Response BlockDownloadDone) = true
confirms (BlockEnded crc) (Request UploadEnd) = true
confirms _ _ = false

-- ---- what "done" says

-- a transfer is done with a frame, after this turn and with these data: the frame confirms it, no
-- frame is missing, the number of bytes is the indicated one, and the CRC is right where it was
-- compared
pub record IsDoneWith (before : Transfer) (reading : Reading) (turn : Turn) (bytes : List ℕ) (crc : Bool) : Type 0 where
  pub confirmed : confirms before.stage reading ≡ true
  pub regular : turn.transfer.irregular ≡ false
  pub size : IfSome turn.transfer.size (λ size. size ≡ counted (length bytes))
  pub crc_agrees : crc ≡ true → confirmed_with turn.transfer.stage ≡ Some (Some (crc_of bytes))

abbrev pub IfDone : Ending → (Bool → Type 0) → Type 0
IfDone (Done crc) fact = fact crc
IfDone _ fact = Unit {0}

-- the open transfer is done with a frame after a log
abbrev pub IsDoneAfter : List Event → ℕ → Side → List ℕ → Bool → Type 0
IsDoneAfter log micros side frame crc =
    let current = (following_after log).transfer in
    let reading = reading_of current side frame in
    IfSome current (λ transfer.
    IsDoneWith transfer reading (turn_of transfer reading frame) (data_after (Framed micros side frame ∷ log)) crc)
