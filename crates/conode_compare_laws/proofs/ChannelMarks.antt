-- What a frame of the default SDO channel's client writes: the mark that it leaves.
use Rattle.std.proofs.Common.{◌≡◌, ℕ, ◌+◌, true, false, List, length, Option, Some, None, refl, ap, ◌∙◌}
use Rattle.std.specs.Prelude.{◌==◌, if◌then◌else◌}
use Rattle.std.specs.Option.{option_map_or}
use Rattle.co_value.specs.declared.key.Key.{Key}
use Rattle.co_frame.specs.FrameContent.{FrameContent}
use Rattle.co_frame.specs.SdoRequests.{request_in}
use Rattle.co_frame.specs.declared.nmt.NmtService.{NmtService}
use Rattle.co_frame.specs.declared.sdo_request.ExpeditedData.{ExpeditedData}
use Rattle.co_frame.specs.declared.sdo_request.SdoRequest.TheVariants.{DownloadExpedited}
use Rattle.co_dict.specs.Rows.{Contents}
use Rattle.co_dict.specs.Stores.{Description}
use Rattle.co_sdo.specs.Channels.{ChannelSettings}
use Rattle.co_sdo.specs.Completed.{completed_by, key_set, permitted, set_by, unless}
use Rattle.co_sdo.specs.Downloads.{Download, expedited_part}
use Rattle.co_sdo.specs.Events.{exchange_at, exchange_of, exchange_on, receiver, set_at, set_of}
use Rattle.co_sdo.specs.Log.{Log}
use Rattle.co_sdo.specs.OpenTransfers.{is_inside, open_transfer}
use Rattle.co_sdo.specs.Refused.{completion_refusal}
use Rattle.co_node_laws.proofs.Channel.{default_channel, receives, takes}
use Rattle.co_node_parts.specs.declared.nmt_state.NodeState.TheVariants as node
use Rattle.co_node_parts.specs.NmtStates.{is_state}
use Rattle.co_node_model.specs.declared.address.Address.TheVariants.{Channel}
use Rattle.co_node_model.specs.Addresses.{address_at}
use Rattle.co_node_model.specs.Device.{moment}
use Rattle.co_node_model.specs.Inputs.{Framed}
use Rattle.co_node_model.specs.Marks.{command_mark, marked_key, written_mark}
use Rattle.co_node_model.specs.Moments.{Constants, History, channels, contents_at}
use Rattle.co_node_model.specs.Nmt.{state_at}
use Rattle.co_node_model.specs.Sdo.{channel_logs}
use Rattle.co_node_model.specs.Sync.{is_sync_id}

pub written_key : (key : Option Key) → marked_key (written_mark key) ≡ key
written_key None = refl
written_key (Some key) = refl

-- a command writes none
pub command_key : (service : Option NmtService) → marked_key (command_mark service) ≡ None
command_key None = refl
command_key (Some service) = refl

-- ---- what a frame sets

exchange_is : (k : Constants) (history : History) (frame : FrameContent) → frame.id ≡ 0x600 + k.description.node → length frame.bytes ≡ 8
    → exchange_of (channels k) k.description (contents_at k history) (channel_logs history) frame ≡ Some (exchange_on (default_channel k) k.description (contents_at k history) (channel_logs history 0) frame.bytes)
exchange_is k history frame id eight =
    ap (λ o. exchange_at o k.description (contents_at k history) (channel_logs history) frame) (ap (receiver (channels k)) id ∙ receives k)
    ∙ ap (λ n. if n == 8 then Some (exchange_on (default_channel k) k.description (contents_at k history) (channel_logs history 0) frame.bytes) else None) eight

set_is : (k : Constants) (history : History) (frame : FrameContent) → frame.id ≡ 0x600 + k.description.node → length frame.bytes ≡ 8
    → set_of (channels k) k.description (contents_at k history) (channel_logs history) frame ≡ set_by k.description (contents_at k history) (channel_logs history 0) frame.bytes
set_is k history frame id eight = ap (λ o. set_at o k.description (contents_at k history) (channel_logs history) frame) (exchange_is k history frame id eight)

none_at : (c : Option ChannelSettings) (d : Description) (contents : Contents) (logs : ℕ → Log) (frame : FrameContent) → (length frame.bytes == 8) ≡ false → set_at (exchange_at c d contents logs frame) d contents logs frame ≡ None
none_at None d contents logs frame off = refl
none_at (Some c) d contents logs frame off = rw off refl

-- ---- its mark

module _ (k : Constants) (history : History) (frame : FrameContent) (id : frame.id ≡ 0x600 + k.description.node) (sync : is_sync_id (contents_at k history) (0x600 + k.description.node) ≡ false) where
  pub address : address_at k history frame.id ≡ Channel 0
  address = ap (address_at k history) id ∙ takes k history sync

  -- while stopped there is none
  pub stopped_mark : is_state node.Stopped (state_at history) ≡ true → marked_key (moment k history (Framed frame)).mark ≡ None
  stopped_mark on = rw (address, on) refl

  -- else it is that of the download that the frame sets
  pub set_mark : is_state node.Stopped (state_at history) ≡ false
      → marked_key (moment k history (Framed frame)).mark ≡ key_set (set_of (channels k) k.description (contents_at k history) (channel_logs history) frame)
  set_mark running =
      let received : marked_key (moment k history (Framed frame)).mark ≡ marked_key (written_mark (key_set (set_of (channels k) k.description (contents_at k history) (channel_logs history) frame))) = rw (address, running) refl in
      received ∙ written_key (key_set (set_of (channels k) k.description (contents_at k history) (channel_logs history) frame))

  pub mark_is : length frame.bytes ≡ 8 → is_state node.Stopped (state_at history) ≡ false → marked_key (moment k history (Framed frame)).mark ≡ key_set (set_by k.description (contents_at k history) (channel_logs history 0) frame.bytes)
  mark_is eight running = set_mark running ∙ ap key_set (set_is k history frame id eight)

  -- one that hasn't eight bytes sets nothing
  pub short_mark : (length frame.bytes == 8) ≡ false → is_state node.Stopped (state_at history) ≡ false → marked_key (moment k history (Framed frame)).mark ≡ None
  short_mark off running = set_mark running ∙ ap key_set (none_at (receiver (channels k) frame.id) k.description (contents_at k history) (channel_logs history) frame off)

-- ---- an expedited download, where no segment is awaited

module _ (d : Description) (log : Log) (bytes : List ℕ) (named : Key) (value : ExpeditedData) (outside : option_map_or is_inside (open_transfer log) false ≡ false) (r : request_in bytes ≡ Some (DownloadExpedited named value)) where
  abbrev pub expedited : Download
  expedited = record { key = named; indicated = None; bytes = expedited_part d.rows named value }

  pub expedited_completes : completed_by d.rows (open_transfer log) bytes ≡ Some expedited
  expedited_completes = rw (outside, r) refl

  pub expedited_sets : (contents : Contents) → set_by d contents log bytes ≡ unless (completion_refusal d contents named None (expedited_part d.rows named value)) (Some expedited)
  expedited_sets contents = ap (permitted d contents) expedited_completes
