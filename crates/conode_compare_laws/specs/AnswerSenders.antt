-- Whose frames have the identifiers of a device's default SDO channel: what the laws about answers ask of the inputs, and of the
-- device's own frames.
use Rattle.std.specs.Prelude.{◌≡◌, ℕ, ◌+◌, ◌≢◌, ◌<◌, ◌≤◌, true, false, Bool, List, [], ◌∷◌, map, Option, Some}
use Rattle.std.specs.List.{AllByRecursion}
use Rattle.co_value.specs.Numbers.{AreBytes}
use Rattle.co_frame.specs.FrameContent.{FrameContent}
use Rattle.co_frame.specs.SdoRequests.{request_in}
use Rattle.co_frame.specs.declared.sdo_request.SdoRequest.{SdoRequest}
use Rattle.co_frame.specs.declared.sdo_request.SdoRequest.TheVariants.{BlockUploadInitiate}
use Rattle.co_profile.specs.Keys.{emergency_key}
use Rattle.co_dict.specs.CobIds.{identifier_of, is_default_sdo, is_valid}
use Rattle.co_dict.specs.Rows.{Contents, number_at}
use Rattle.co_pdo.specs.Tpdos.{tpdo_key}
use Rattle.co_node_model.specs.Inputs.{InputView, Inputs, Framed, Ticked, Applied}
use Rattle.co_node_model.specs.Moments.{Constants, Moment, channels}
use Rattle.co_node_model.specs.Device.{moment, moments}
use Rattle.co_node_model.specs.Emergencies.{emergency_frames}
use Rattle.co_node_model.specs.Tpdos.{tpdo_frame}
use Rattle.conode_explain_laws.specs.Downloads.{is_block_begin}
use Rattle.conode_compare_laws.specs.Recordings.{Stamped}

-- ---- what comes to a device

-- a frame has bytes, numbers below 256
abbrev pub HasBytes : InputView → Type 0
HasBytes (Framed frame) = AreBytes frame.bytes
HasBytes Ticked = Unit {0}
HasBytes (Applied event) = Unit {0}

abbrev pub HaveBytes : List Stamped → Type 0
HaveBytes inputs = AllByRecursion (λ s. HasBytes s.input) inputs

-- an input begins no block download on the default channel (CiA 301, 7.2.4.3.9)
abbrev pub BeginsNoBlocks : ℕ → InputView → Type 0
BeginsNoBlocks node (Framed frame) = frame.id ≡ 0x600 + node → is_block_begin (request_in frame.bytes) ≡ false
BeginsNoBlocks node Ticked = Unit {0}
BeginsNoBlocks node (Applied event) = Unit {0}

abbrev pub BeginNoBlocks : ℕ → List Stamped → Type 0
BeginNoBlocks node inputs = AllByRecursion (λ s. BeginsNoBlocks node s.input) inputs

-- a request begins a block upload (CiA 301, 7.2.4.3.13)
abbrev pub is_block_upload_begin : Option SdoRequest → Bool
is_block_upload_begin (Some (BlockUploadInitiate key block_size threshold)) = true
is_block_upload_begin other = false

-- ---- frames of the device

-- an identifier is neither that of the default channel's answers nor that of its requests
abbrev pub IsOther : ℕ → ℕ → Type 0
IsOther node id = (id ≢ 0x580 + node) × (id ≢ 0x600 + node)

abbrev pub AreOther : ℕ → List FrameContent → Type 0
AreOther node frames = AllByRecursion (λ frame. IsOther node frame.id) frames

-- EMCY and TPDOs of an input aren't sent there
pub record SendsOther (k : Constants) (m : Moment) : Type 0 where
  pub emergency : AreOther k.description.node (emergency_frames m.contents m.emergency)
  pub tpdos : AreOther k.description.node (map (tpdo_frame k.description m.contents) m.due)

-- at each of these inputs, which come after those before
abbrev pub AllSendOther : Constants → Inputs → List Stamped → Type 0
AllSendOther k before [] = Unit {0}
AllSendOther k before (s ∷ later) = SendsOther k (moment k (moments k before) s.input) × AllSendOther k (s.input ∷ before) later

-- nor do other SDO channels answer there
abbrev pub HaveOtherChannels : Constants → Type 0
HaveOtherChannels k = AllByRecursion (λ c. c.number ≢ 0 → IsOther k.description.node c.response) (channels k)

-- ---- a device that keeps to them

-- a COB-ID word isn't valid, or its identifier is of no node's default SDO channel
abbrev pub IsOtherWord : ℕ → Type 0
IsOtherWord word = is_valid word ≡ true → is_default_sdo (identifier_of word) ≡ false

-- 1014:00, and 1800:01 to 19FF:01
pub record HasOtherWords (contents : Contents) : Type 0 where
  pub emergency : IsOtherWord (number_at contents emergency_key)
  pub tpdos : (n : ℕ) → n < 512 → IsOtherWord (number_at contents (tpdo_key n 1))

-- a device with node-ID 1 to 127 whose other SDO channels answer elsewhere, and whose COB-IDs are so
-- when it is built, and as a reset restores them
pub record BeginsOther (k : Constants) : Type 0 where
  pub first_node : 1 ≤ k.description.node
  pub last_node : k.description.node ≤ 127
  pub channels : HaveOtherChannels k
  pub start : HasOtherWords k.start
  pub initial : HasOtherWords k.description.initial
