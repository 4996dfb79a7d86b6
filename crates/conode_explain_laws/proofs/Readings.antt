-- What explain reads frames as, under names of this crate: its own types aren't public. Each frame makes the same of a channel.
use Rattle.std.proofs.Common.{◌≡◌, ℕ, Bool, true, false, List, [], Option, Some, None, refl, ap, ◌∙◌, subst}
use Rattle.std.specs.Prelude.{if◌then◌else◌, IfSome, nat_le}
use Rattle.co_frame_aborts.specs.declared.abort_code.AbortCode.{AbortCode}
use Rattle.co_frame.specs.declared.block_segment.BlockSegment.{BlockSegment}
use Rattle.co_frame.specs.declared.sdo_request.SdoRequest.{SdoRequest}
use Rattle.co_frame.specs.declared.sdo_request.SdoRequest.TheVariants.{DownloadExpedited, DownloadInitiate, Upload as UploadInitiate, BlockUploadInitiate, BlockDownloadInitiate, Abort as Abandon}
use Rattle.co_frame.specs.declared.sdo_response.SdoResponse.{SdoResponse}
use Rattle.co_frame.specs.declared.sdo_response.SdoResponse.TheVariants.{Abort as Refuse}
use Rattle.co_frame.specs.BlockSegments.{block_segment_in, is_abort_in_sub_block}
use Rattle.co_frame.specs.SdoParts.{code_in}
use Rattle.co_frame.specs.SdoRequests.{request_in}
use Rattle.co_frame.specs.SdoResponses.{response_in}
use Rattle.conode_explain_transfers.specs.declared.kinds.Direction.TheVariants.{Download, Upload}
use Rattle.conode_explain_transfers.specs.declared.kinds.Protocol.TheVariants.{Expedited, Segmented, Block, Undecided}
use Rattle.conode_explain_transfers.specs.declared.kinds.Side.{Side}
use Rattle.conode_explain_transfers.specs.declared.kinds.Side.TheVariants.{Client, Server}
use Rattle.conode_explain_transfers.specs.declared.kinds.What.TheVariants.{Initiate}
use Rattle.conode_explain_transfers.specs.declared.transfer.Transfer.{Transfer}
use Rattle.conode_explain_transfers.specs.BlockTurns.{block_segment}
use Rattle.conode_explain_transfers.specs.Data.{data_with, data_by}
use Rattle.conode_explain_transfers.specs.Followed.{Followed, left, passes, aborts, turns, followed_by}
use Rattle.conode_explain_transfers.specs.Initiates.{has_crc, data_of, initiate_of, first_segment}
use Rattle.conode_explain_transfers.specs.Readings.{reading_of as their_reading_of, plain_reading as their_plain_reading, request_reading as their_request_reading, response_reading as their_response_reading, sub_block_reading as their_sub_block_reading, segment_reading as their_segment_reading, beginning as their_beginning, awaits_segment}
use Rattle.conode_explain_transfers.specs.Transfers.{Turn, begun, unexpected}
use Rattle.conode_explain_transfers.specs.Turns.{request_turn, response_turn}
use Rattle.conode_explain_transfers.specs.Unanswered.{is_next_segment}

-- ---- readings

pub data Reading : Type 0 where
  -- a segment of a sub-block
  Segment : BlockSegment → Reading
  -- an initiate request, which begins this transfer
  Begin : Transfer → Reading
  Abort : AbortCode → Reading
  -- another request, or a response
  Request : SdoRequest → Reading
  Response : SdoResponse → Reading
  Nothing : Reading

-- the transfer that a request begins
abbrev pub begun_with : SdoRequest → ℕ → List ℕ → Option Transfer
begun_with (DownloadExpedited key value) micros frame =
    Some (begun (record (initiate_of key Download Expedited) { bytes = record { items = data_of value } }) micros frame)
begun_with (DownloadInitiate key size) micros frame = Some (begun (record (initiate_of key Download Segmented) { size = size }) micros frame)
begun_with (UploadInitiate key) micros frame = Some (begun (initiate_of key Upload Undecided) micros frame)
begun_with (BlockUploadInitiate key block_size threshold) micros frame =
    Some (begun (record (initiate_of key Upload Block) { crc = has_crc frame; block_size = block_size }) micros frame)
begun_with (BlockDownloadInitiate key size) micros frame =
    Some (begun (record (initiate_of key Download Block) { size = size; crc = has_crc frame; block_size = first_segment }) micros frame)
begun_with _ micros frame = None

-- a transfer of a client that went on, or not
abbrev pub went_on_as : Bool → Transfer → Transfer
went_on_as on t = record t { went_on = on }

-- what a request begins, of such a client
abbrev pub with_client : Bool → Option Transfer → Option Transfer
with_client on None = None
with_client on (Some t) = Some (went_on_as on t)

abbrev pub begun_on : Bool → SdoRequest → ℕ → List ℕ → Option Transfer
begun_on on request micros frame = with_client on (begun_with request micros frame)

-- the client of that didn't go on
pub begun_first : (request : SdoRequest) (micros : ℕ) (frame : List ℕ) → IfSome (begun_with request micros frame) (λ t. t.went_on ≡ false)
begun_first (DownloadExpedited key value) micros frame = refl
begun_first (DownloadInitiate key size) micros frame = refl
begun_first (UploadInitiate key) micros frame = refl
begun_first (BlockUploadInitiate key block_size threshold) micros frame = refl
begun_first (BlockDownloadInitiate key size) micros frame = refl
begun_first _ micros frame = tt

pub begun_so : (request : SdoRequest) (micros : ℕ) (frame : List ℕ) (t : Transfer) → begun_with request micros frame ≡ Some t → begun_with request micros frame ≡ Some (went_on_as false t)
begun_so request micros frame t e =
    let first : t.went_on ≡ false = subst (λ x. IfSome x (λ t. t.went_on ≡ false)) e (begun_first request micros frame) in
    e ∙ ap (λ on. Some (went_on_as on t)) first

abbrev pub begins_or : Option Transfer → Reading → Reading
begins_or (Some t) otherwise = Begin t
begins_or None otherwise = otherwise

abbrev pub request_reading : Option SdoRequest → ℕ → List ℕ → Reading
request_reading None micros frame = Nothing
request_reading (Some (Abandon key code)) micros frame = Abort code
request_reading (Some request) micros frame = begins_or (begun_with request micros frame) (Request request)

abbrev pub response_reading : Option SdoResponse → Reading
response_reading None = Nothing
response_reading (Some (Refuse key code)) = Abort code
response_reading (Some response) = Response response

abbrev pub plain_reading : Side → ℕ → List ℕ → Reading
plain_reading Client micros frame = request_reading (request_in frame) micros frame
plain_reading Server micros frame = response_reading (response_in frame)

abbrev pub beginning : Reading → Reading
beginning (Begin t) = Begin t
beginning _ = Nothing

abbrev pub segment_reading : ℕ → Option BlockSegment → Reading → Reading
segment_reading block_size (Some segment) otherwise = if nat_le segment.sequence block_size then Segment segment else otherwise
segment_reading block_size None otherwise = otherwise

abbrev pub sub_block_reading : ℕ → Side → ℕ → List ℕ → Reading
sub_block_reading block_size side micros frame =
    if is_abort_in_sub_block frame then Abort (code_in frame)
    else segment_reading block_size (block_segment_in frame) (beginning (plain_reading side micros frame))

abbrev pub reading_of : Option Transfer → Side → ℕ → List ℕ → Reading
reading_of None side micros frame = plain_reading side micros frame
reading_of (Some t) side micros frame =
    if awaits_segment t side then sub_block_reading t.block_size side micros frame else plain_reading side micros frame

-- ---- what they make of a channel

abbrev pub turn_of : Transfer → Reading → List ℕ → Turn
turn_of t (Segment segment) frame = block_segment t segment
turn_of t (Request request) frame = request_turn t request frame
turn_of t (Response response) frame = response_turn t response frame
turn_of t _ frame = unexpected t

-- one that begins after what is open: where its request may be a segment, the client went on
abbrev pub begun_after : Option Transfer → List ℕ → Transfer → Transfer
begun_after current frame t = went_on_as (is_next_segment current frame) t

abbrev pub follows_by : Bool → Option Transfer → Reading → ℕ → Side → List ℕ → Followed
follows_by heard current (Begin t) micros side frame = record {
  says = record { what = Initiate; of = None; ended = left current micros frame };
  next = record { heard = true; transfer = Some (begun_after current frame t) };
}
follows_by heard None _ micros side frame = passes heard
follows_by heard (Some t) (Abort code) micros side frame = aborts heard t side code micros frame
follows_by heard (Some t) reading micros side frame = turns heard t (turn_of t reading frame) micros side

abbrev pub bytes_by : Option Transfer → Reading → List ℕ → List ℕ → List ℕ
bytes_by current (Begin t) frame bytes = []
bytes_by None reading frame bytes = []
bytes_by (Some t) (Abort code) frame bytes = bytes
bytes_by (Some t) reading frame bytes = data_with bytes (turn_of t reading frame).takes

-- ---- they are explain's

-- a frame makes the same by explain's reading and by this one
pub record Same (heard : Bool) (current : Option Transfer) (micros : ℕ) (side : Side) (frame bytes : List ℕ) : Type 0 where
  pub followed : followed_by heard current (their_reading_of current side frame) micros side frame ≡ follows_by heard current (reading_of current side micros frame) micros side frame
  pub bytes_are : data_by current (their_reading_of current side frame) frame bytes ≡ bytes_by current (reading_of current side micros frame) frame bytes

module _ (heard : Bool) (current : Option Transfer) (micros : ℕ) (side : Side) (frame bytes : List ℕ) where
  -- the same of a request
  asked : (r : Option SdoRequest)
      → (followed_by heard current (their_request_reading r frame) micros side frame ≡ follows_by heard current (request_reading r micros frame) micros side frame)
      × (data_by current (their_request_reading r frame) frame bytes ≡ bytes_by current (request_reading r micros frame) frame bytes)
  asked r = by current r
    where
      by : (current : Option Transfer) (r : Option SdoRequest)
          → (followed_by heard current (their_request_reading r frame) micros side frame ≡ follows_by heard current (request_reading r micros frame) micros side frame)
          × (data_by current (their_request_reading r frame) frame bytes ≡ bytes_by current (request_reading r micros frame) frame bytes)
      by None None = (refl, refl)
      by (Some t) None = (refl, refl)
      by None (Some (Abandon key code)) = (refl, refl)
      by (Some t) (Some (Abandon key code)) = (refl, refl)
      by None (Some _) = (refl, refl)
      by (Some t) (Some _) = (refl, refl)

  asked_inside : (r : Option SdoRequest)
      → (followed_by heard current (their_beginning (their_request_reading r frame)) micros side frame ≡ follows_by heard current (beginning (request_reading r micros frame)) micros side frame)
      × (data_by current (their_beginning (their_request_reading r frame)) frame bytes ≡ bytes_by current (beginning (request_reading r micros frame)) frame bytes)
  asked_inside r = by current r
    where
      by : (current : Option Transfer) (r : Option SdoRequest)
          → (followed_by heard current (their_beginning (their_request_reading r frame)) micros side frame ≡ follows_by heard current (beginning (request_reading r micros frame)) micros side frame)
          × (data_by current (their_beginning (their_request_reading r frame)) frame bytes ≡ bytes_by current (beginning (request_reading r micros frame)) frame bytes)
      by None None = (refl, refl)
      by (Some t) None = (refl, refl)
      by None (Some (Abandon key code)) = (refl, refl)
      by (Some t) (Some (Abandon key code)) = (refl, refl)
      by None (Some _) = (refl, refl)
      by (Some t) (Some _) = (refl, refl)

  -- the same of a response
  answered : (r : Option SdoResponse)
      → (followed_by heard current (their_response_reading r) micros side frame ≡ follows_by heard current (response_reading r) micros side frame)
      × (data_by current (their_response_reading r) frame bytes ≡ bytes_by current (response_reading r) frame bytes)
  answered r = by current r
    where
      by : (current : Option Transfer) (r : Option SdoResponse)
          → (followed_by heard current (their_response_reading r) micros side frame ≡ follows_by heard current (response_reading r) micros side frame)
          × (data_by current (their_response_reading r) frame bytes ≡ bytes_by current (response_reading r) frame bytes)
      by None None = (refl, refl)
      by (Some t) None = (refl, refl)
      by None (Some (Refuse key code)) = (refl, refl)
      by (Some t) (Some (Refuse key code)) = (refl, refl)
      by None (Some _) = (refl, refl)
      by (Some t) (Some _) = (refl, refl)

  answered_inside : (r : Option SdoResponse)
      → (followed_by heard current (their_beginning (their_response_reading r)) micros side frame ≡ follows_by heard current (beginning (response_reading r)) micros side frame)
      × (data_by current (their_beginning (their_response_reading r)) frame bytes ≡ bytes_by current (beginning (response_reading r)) frame bytes)
  answered_inside r = by current r
    where
      by : (current : Option Transfer) (r : Option SdoResponse)
          → (followed_by heard current (their_beginning (their_response_reading r)) micros side frame ≡ follows_by heard current (beginning (response_reading r)) micros side frame)
          × (data_by current (their_beginning (their_response_reading r)) frame bytes ≡ bytes_by current (beginning (response_reading r)) frame bytes)
      by None None = (refl, refl)
      by (Some t) None = (refl, refl)
      by None (Some (Refuse key code)) = (refl, refl)
      by (Some t) (Some (Refuse key code)) = (refl, refl)
      by None (Some _) = (refl, refl)
      by (Some t) (Some _) = (refl, refl)

plain_same : (heard : Bool) (current : Option Transfer) (micros : ℕ) (side : Side) (frame bytes : List ℕ)
    → (followed_by heard current (their_plain_reading side frame) micros side frame ≡ follows_by heard current (plain_reading side micros frame) micros side frame)
    × (data_by current (their_plain_reading side frame) frame bytes ≡ bytes_by current (plain_reading side micros frame) frame bytes)
plain_same heard current micros Client frame bytes = asked heard current micros Client frame bytes (request_in frame)
plain_same heard current micros Server frame bytes = answered heard current micros Server frame bytes (response_in frame)

beginning_same : (heard : Bool) (current : Option Transfer) (micros : ℕ) (side : Side) (frame bytes : List ℕ)
    → (followed_by heard current (their_beginning (their_plain_reading side frame)) micros side frame ≡ follows_by heard current (beginning (plain_reading side micros frame)) micros side frame)
    × (data_by current (their_beginning (their_plain_reading side frame)) frame bytes ≡ bytes_by current (beginning (plain_reading side micros frame)) frame bytes)
beginning_same heard current micros Client frame bytes = asked_inside heard current micros Client frame bytes (request_in frame)
beginning_same heard current micros Server frame bytes = answered_inside heard current micros Server frame bytes (response_in frame)

segment_same : (heard : Bool) (t : Transfer) (micros : ℕ) (side : Side) (frame bytes : List ℕ) (block_size : ℕ) (s : Option BlockSegment)
    → (followed_by heard (Some t) (their_segment_reading block_size s (their_beginning (their_plain_reading side frame))) micros side frame
    ≡ follows_by heard (Some t) (segment_reading block_size s (beginning (plain_reading side micros frame))) micros side frame)
    × (data_by (Some t) (their_segment_reading block_size s (their_beginning (their_plain_reading side frame))) frame bytes
    ≡ bytes_by (Some t) (segment_reading block_size s (beginning (plain_reading side micros frame))) frame bytes)
segment_same heard t micros side frame bytes block_size None = beginning_same heard (Some t) micros side frame bytes
segment_same heard t micros side frame bytes block_size (Some s) = by (nat_le s.sequence block_size) refl
  where
    by : (b : Bool) → nat_le s.sequence block_size ≡ b
        → (followed_by heard (Some t) (their_segment_reading block_size (Some s) (their_beginning (their_plain_reading side frame))) micros side frame
        ≡ follows_by heard (Some t) (segment_reading block_size (Some s) (beginning (plain_reading side micros frame))) micros side frame)
        × (data_by (Some t) (their_segment_reading block_size (Some s) (their_beginning (their_plain_reading side frame))) frame bytes
        ≡ bytes_by (Some t) (segment_reading block_size (Some s) (beginning (plain_reading side micros frame))) frame bytes)
    by true e = rw e (refl, refl)
    by false e = rw e (beginning_same heard (Some t) micros side frame bytes)

sub_block_same : (heard : Bool) (t : Transfer) (micros : ℕ) (side : Side) (frame bytes : List ℕ) (abort : Bool) → is_abort_in_sub_block frame ≡ abort
    → (followed_by heard (Some t) (their_sub_block_reading t.block_size side frame) micros side frame
    ≡ follows_by heard (Some t) (sub_block_reading t.block_size side micros frame) micros side frame)
    × (data_by (Some t) (their_sub_block_reading t.block_size side frame) frame bytes
    ≡ bytes_by (Some t) (sub_block_reading t.block_size side micros frame) frame bytes)
sub_block_same heard t micros side frame bytes true e = rw e (refl, refl)
sub_block_same heard t micros side frame bytes false e = rw e (segment_same heard t micros side frame bytes t.block_size (block_segment_in frame))

pub same : (heard : Bool) (current : Option Transfer) (micros : ℕ) (side : Side) (frame bytes : List ℕ) → Same heard current micros side frame bytes
same heard None micros side frame bytes =
    let h = plain_same heard None micros side frame bytes in record { followed = h.0; bytes_are = h.1 }
same heard (Some t) micros side frame bytes = record { followed = (by (awaits_segment t side)).0; bytes_are = (by (awaits_segment t side)).1 }
  where
    by : (awaited : Bool)
        → (followed_by heard (Some t) (if awaited then their_sub_block_reading t.block_size side frame else their_plain_reading side frame) micros side frame
        ≡ follows_by heard (Some t) (if awaited then sub_block_reading t.block_size side micros frame else plain_reading side micros frame) micros side frame)
        × (data_by (Some t) (if awaited then their_sub_block_reading t.block_size side frame else their_plain_reading side frame) frame bytes
        ≡ bytes_by (Some t) (if awaited then sub_block_reading t.block_size side micros frame else plain_reading side micros frame) frame bytes)
    by true = sub_block_same heard t micros side frame bytes (is_abort_in_sub_block frame) refl
    by false = plain_same heard (Some t) micros side frame bytes
