-- Which entry a frame sets: that of the download which it completes, if the dictionary permits it
-- (CiA 301, 7.2.4.3).
use Rattle.std.specs.Prelude.{ℕ, Bool, true, false, List, [], ◌∷◌, Option, Some, None, option_map, if◌then◌else◌}
use Rattle.std.specs.Option.{option_map_or}
use Rattle.co_value.specs.declared.key.Key.{Key}
use Rattle.co_frame.specs.SdoRequests.{request_in}
use Rattle.co_frame.specs.declared.sdo_request.SdoRequest.{SdoRequest}
use Rattle.co_frame.specs.declared.sdo_request.SdoRequest.TheVariants.{DownloadExpedited}
use Rattle.co_dict.specs.Rows.{Rows, Contents, written}
use Rattle.co_dict.specs.Stores.{Description}
use Rattle.co_sdo.specs.Refused.{completion_refusal}
use Rattle.co_sdo.specs.Log.{Log, requests}
use Rattle.co_sdo.specs.Downloads.{Download, whole_download}
use Rattle.co_sdo.specs.OpenTransfers.{Transfer, is_inside, open_transfer}

-- a request is an expedited download (7.2.4.3.3)
abbrev pub is_expedited : Option SdoRequest → Bool
is_expedited (Some (DownloadExpedited key expedited)) = true
is_expedited _ = false

-- the open download, if its requests and this frame are a whole one
abbrev pub download_with : Rows → Option Transfer → List ℕ → Option Download
download_with rows None frame = None
download_with rows (Some t) frame = whole_download rows t.begin.request (frame ∷ requests t.later)

-- the download that a frame completes: its own if it is expedited, else the open one; none inside a
-- sub-block
abbrev pub completed_by : Rows → Option Transfer → List ℕ → Option Download
completed_by rows current frame =
    if option_map_or is_inside current false then None
    else (if is_expedited (request_in frame) then whole_download rows frame [] else download_with rows current frame)

-- nothing after a refusal
abbrev pub unless : {A : Type 0} → Option ℕ → Option A → Option A
unless None x = x
unless (Some code) x = None

-- a download, if the dictionary permits it
abbrev pub permitted : Description → Contents → Option Download → Option Download
permitted d contents None = None
permitted d contents (Some download) = unless (completion_refusal d contents download.key download.indicated download.bytes) (Some download)

-- the permitted download that a frame completes after a log: its entry is set
abbrev pub set_by : Description → Contents → Log → List ℕ → Option Download
set_by d contents log frame = permitted d contents (completed_by d.rows (open_transfer log) frame)

-- the contents after a download, if there is one
abbrev pub contents_with : Contents → Option Download → Contents
contents_with contents None = contents
contents_with contents (Some download) = written contents download.key download.bytes

-- the key that is set, if one is
abbrev pub key_set : Option Download → Option Key
key_set set = option_map (λ download. download.key) set
