-- What a frame reveals of those before it: of a transfer that the client has left, and of an entry.
use Rattle.std.specs.Prelude.{ℕ, Bool, ◌&&◌, ◌||◌, if◌then◌else◌, List, Option, Some, None}
use Rattle.std.specs.Option.{option_map_or}
use Rattle.co_frame.specs.SdoResponses.{response_in}
use Rattle.co_frame.specs.declared.sdo_response.SdoResponse.{SdoResponse}
use Rattle.co_frame.specs.declared.sdo_response.SdoResponse.TheVariants.{DownloadDone, BlockDownloadInitiated}
use Rattle.co_value.specs.Keys.{same_key}
use Rattle.co_value.specs.declared.key.Key.{Key}
use Rattle.conode_explain_transfers.specs.declared.kinds.Side.{Side}
use Rattle.conode_explain_transfers.specs.declared.kinds.Side.TheVariants.{Client, Server}
use Rattle.conode_explain_transfers.specs.declared.revealed.Revealed.{Revealed}
use Rattle.conode_explain_transfers.specs.declared.transfer.Transfer.{Transfer}
use Rattle.conode_explain_transfers.specs.Doubtful.{left_for, shown_by}
use Rattle.conode_explain_transfers.specs.Followed.{Following}
use Rattle.conode_explain_transfers.specs.Hearings.{is_block_upload, is_over}
use Rattle.conode_explain_transfers.specs.Transfers.{is_download}

-- the server has accepted a download of this entry
abbrev pub accepted : Option SdoResponse → Option Key
accepted None = None
accepted (Some (DownloadDone key)) = Some key
accepted (Some (BlockDownloadInitiated key block_size)) = Some key
accepted (Some response) = None

-- It is a download of this entry; or a block upload, of which the frame may be a segment.
abbrev pub is_expected_by : Key → Transfer → Bool
is_expected_by key transfer = is_block_upload transfer || (is_download transfer.direction && same_key transfer.key key)

-- Where no transfer is open, and requests were heard, it may be the same frame again.
abbrev pub is_expected : Following → Key → Bool
is_expected following key = option_map_or (is_expected_by key) following.transfer following.heard

abbrev pub unexpected : Following → Option Key → Option Key
unexpected following None = None
unexpected following (Some key) = if is_expected following key then None else Some key

-- The server accepts a download whose request isn't known: so what is written isn't either.
abbrev pub unclear_by : Option Transfer → Following → Side → List ℕ → Option Key
unclear_by (Some request) following side bytes = None
unclear_by None following Client bytes = None
unclear_by None following Server bytes =
    if is_over following.transfer Server bytes then accepted (response_in bytes)
    else unexpected following (accepted (response_in bytes))

-- a frame with its stamp, by an end, with these bytes
abbrev pub revealed : Following → ℕ → Side → List ℕ → Revealed
revealed following micros side bytes = record {
  left = left_for (shown_by following.transfer side bytes) following.transfer micros;
  unclear = unclear_by (shown_by following.transfer side bytes) following side bytes;
}
