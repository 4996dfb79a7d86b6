-- What an expedited transfer says of its entry (CiA 301, 7.2.4.3.3 and 7.2.4.3.6).
use Rattle.std.specs.Prelude.{ℕ, ◌-◌, ◌*◌, ◌==◌, nat_lt, Bool, true, false, ◌&&◌, if◌then◌else◌, List, ◌++◌, length, take, codes, decimal, Option, Some, None, min, option_map, option_and_then, unwrap_or}
use Rattle.co_value.specs.declared.data_type.DataType.{DataType}
use Rattle.co_value.specs.Types.{width_of}
use Rattle.co_frame.specs.FrameContent.{FrameContent}
use Rattle.co_frame.specs.declared.sdo_request.ExpeditedData.{ExpeditedData}
use Rattle.co_frame.specs.declared.sdo_request.ExpeditedData.TheVariants.{Indicated, NotIndicated}
use Rattle.co_frame.specs.declared.sdo_request.SdoRequest.{SdoRequest}
use Rattle.co_frame.specs.declared.sdo_request.SdoRequest.TheVariants.{DownloadExpedited}
use Rattle.co_frame.specs.declared.sdo_response.SdoResponse.{SdoResponse}
use Rattle.co_frame.specs.declared.sdo_response.SdoResponse.TheVariants.{UploadExpedited}
use Rattle.co_frame.specs.SdoRequests.{request_in}
use Rattle.co_frame.specs.SdoResponses.{response_in}
use Rattle.co_sheet.specs.Content.{Row}
use Rattle.co_sheet_changes.specs.Names.{entry_of}
use Rattle.conode_explain.specs.declared.transfer.Transfer.{Transfer}
use Rattle.conode_explain_cob_ids.specs.Buses.{Bus}
use Rattle.conode_explain_cob_ids.specs.Devices.{Device, device_at}
use Rattle.conode_explain_pdo.specs.KnownEntries.{known_text}

-- ---- which frame is one

-- eight bytes to the server of a node, and of it (CiA 301, 7.3.3, pre-defined connection set)
abbrev pub is_request : FrameContent → Bool
is_request frame = (nat_lt 0x600 frame.id && nat_lt frame.id 0x680) && (length frame.bytes == 8)

abbrev pub is_answer : FrameContent → Bool
is_answer frame = (nat_lt 0x580 frame.id && nat_lt frame.id 0x600) && (length frame.bytes == 8)

-- the request of an expedited download, and the answer of an expedited upload
abbrev pub download_in : ℕ → SdoRequest → Option Transfer
download_in node (DownloadExpedited key content) = Some (record { asked = true; node = node; key = key; content = content })
download_in node other = None

abbrev pub upload_in : ℕ → SdoResponse → Option Transfer
upload_in node (UploadExpedited key content) = Some (record { asked = false; node = node; key = key; content = content })
upload_in node other = None

unfoldable pub transfer_in : FrameContent → Option Transfer
transfer_in frame =
    if is_request frame then option_and_then (download_in (frame.id - 0x600)) (request_in frame.bytes)
    else (if is_answer frame then option_and_then (upload_in (frame.id - 0x580)) (response_in frame.bytes) else None)

-- ---- what it says

-- the bytes of the value; where their number isn't indicated, as many as the type has
abbrev pub value_bytes : DataType → ExpeditedData → List ℕ
value_bytes t (Indicated counted) = counted.items
value_bytes t (NotIndicated four) = take (min (unwrap_or (width_of t) 4) 4) four

-- a service, its node, and what follows
unfoldable pub service_text : List ℕ → ℕ → List ℕ → List ℕ
service_text service node end = service ++ decimal node ++ end

abbrev pub front_of : Transfer → List ℕ
front_of transfer =
    if transfer.asked then service_text (codes "SDO request node ") transfer.node (codes " download: ")
    else service_text (codes "SDO answer node ") transfer.node (codes " upload: ")

-- the entry of a transfer with its value, in its type, and of a drive what that means
unfoldable pub transfer_text : Device → Transfer → Row → List ℕ
transfer_text device transfer row =
    let bytes = value_bytes row.data_type transfer.content in
    front_of transfer ++ known_text device transfer.node transfer.key row (8 * length bytes) bytes

-- where the node's sheet has the entry
abbrev pub entry_words : Device → Transfer → Option (List ℕ)
entry_words device transfer = option_map (transfer_text device transfer) (entry_of device.names transfer.node transfer.key)

-- what a frame says of the entry of an expedited transfer
unfoldable pub transfer_words : Bus → FrameContent → Option (List ℕ)
transfer_words bus frame = option_and_then (λ transfer. entry_words (device_at bus transfer.node) transfer) (transfer_in frame)
