-- What bytes spell can be spelled.
use Rattle.std.proofs.Common.{◌≡◌, ℕ, ◌-◌, List, length, take, drop, arith, ap, length-take, length-drop}
use Rattle.co_frame.specs.declared.sdo_request.ExpeditedData.{ExpeditedData}
use Rattle.co_frame.specs.declared.sdo_request.ExpeditedData.TheVariants.{Indicated, NotIndicated}
use Rattle.co_value.specs.declared.key.Key.{Key}
use Rattle.co_frame.specs.declared.sdo_request.SdoRequest.{SdoRequest}
use Rattle.co_frame.specs.declared.sdo_request.SdoRequest.TheVariants.{DownloadExpedited, BlockDownloadEnd}
use Rattle.co_frame.specs.declared.sdo_response.SdoResponse.{SdoResponse}
use Rattle.co_frame.specs.declared.sdo_response.SdoResponse.TheVariants.{UploadExpedited, BlockUploadEnd}
use Rattle.co_frame.specs.SdoFields.{unused_of_expedited}
use Rattle.co_frame.specs.SdoParts.{SpellsExpedited, IsExpeditedData}
use Rattle.co_frame.specs.SdoRequests.{SpellsSdoRequest, IsSdoRequest}
use Rattle.co_frame.specs.SdoResponses.{SpellsSdoResponse, IsSdoResponse}

spellable_expedited : (key : Key) (expedited : ExpeditedData) (bytes : List ℕ) → length bytes ≡ 8 → SpellsExpedited key expedited bytes → IsExpeditedData expedited
spellable_expedited key (Indicated counted) bytes n h =
    let same : length counted.items ≡ length (take (4 - unused_of_expedited bytes) (drop 4 bytes)) = ap length h.3 in
    omega (arith, length-take {A = ℕ}, length-drop {A = ℕ})
spellable_expedited key (NotIndicated four) bytes n h = tt

pub spellable_request : (bytes : List ℕ) (request : SdoRequest) → SpellsSdoRequest request bytes → IsSdoRequest request
spellable_request bytes (DownloadExpedited key expedited) h = spellable_expedited key expedited bytes h.0 h.1.1
spellable_request bytes (BlockDownloadEnd unused) h = let n = h.1.1.1 in omega arith
spellable_request bytes other h = tt

pub spellable_response : (bytes : List ℕ) (response : SdoResponse) → SpellsSdoResponse response bytes → IsSdoResponse response
spellable_response bytes (UploadExpedited key expedited) h = spellable_expedited key expedited bytes h.0 h.1.1
spellable_response bytes (BlockUploadEnd unused) h = let n = h.1.1.1 in omega arith
spellable_response bytes other h = tt
