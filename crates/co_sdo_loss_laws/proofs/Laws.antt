-- What a transfer has done where its client is done, whatever disturbed it.
use Rattle.std.proofs.Common.{◌≡◌, Bool, true, false, not, List, length, Some, refl, ap, ◌∙◌, ◌⊎◌, inl, inr}
use Rattle.std.specs.List.{list_any}
use Rattle.co_sdo_client.specs.declared.mode.Mode.{Mode}
use Rattle.co_sdo_client.specs.declared.mode.Mode.TheVariants.{Plain, Segmented, Block}
use Rattle.co_sdo_client.specs.declared.state.ClientState.TheVariants.{Done}
use Rattle.co_sdo_client.specs.Calls.{Job, Download, Upload}
use Rattle.co_sdo_client.specs.Segments.{bytes_of}
use Rattle.co_sdo_client.specs.Outcomes.{outcome, result}
use Rattle.co_dict.specs.Rows.{Contents}
use Rattle.co_sdo.specs.Uploads.{value_at}
use Rattle.co_sdo_laws.specs.World.{Setup, WorldEvent, world_after}
use Rattle.co_sdo_laws.specs.Undisturbed.{is_short, is_expedited_download, is_segmented_download, is_plain_upload, is_block_upload, is_block_download}
use Rattle.co_sdo_loss_laws.specs.Disturbed.{IsAlone, is_plain_download, is_repeat}
use Rattle.co_sdo_laws.proofs.Permits.{Protocol, IsDownload, IsUpload, Goes, in_segments, at_once, at_once_few, short_bytes}
use Rattle.co_sdo_laws.proofs.Permits as protocols
use Rattle.co_sdo_laws.proofs.Blocks.{IsDone}
use Rattle.co_sdo_laws.proofs.StopAndWait.{Parts, Seen, StopAndWait, always, when_done}
use Rattle.co_sdo_laws.proofs.SegmentedDownloads as sending
use Rattle.co_sdo_laws.proofs.Uploads as reading
use Rattle.co_sdo_laws.proofs.BlockTransfers as blocks
use Rattle.co_sdo_laws.proofs.BlockUploads as read_in_blocks
use Rattle.co_sdo_laws.proofs.BlockDownloads as written_in_blocks

-- ---- nothing is said of rights

downloads : (s : Setup) (protocol : Protocol) → IsAlone s → Goes s.call.mode s.call.job protocol true → IsDownload s ⊥ protocol
downloads s protocol alone g = record {
  dictionary = alone.dictionary;
  key = alone.key;
  idle = alone.idle;
  transfer = g.by;
  may_begin = λ x. absurd x;
  may_complete = λ x. absurd x;
  room = λ x. absurd x;
}

uploads : (s : Setup) (protocol : Protocol) → IsAlone s → Goes s.call.mode s.call.job protocol false → IsUpload s ⊥ protocol
uploads s protocol alone g = record {
  dictionary = alone.dictionary;
  key = alone.key;
  idle = alone.idle;
  transfer = g.by;
  may_read = λ x. absurd x;
  fits = λ x. absurd x;
}

-- ---- at once or in segments

ends : (s : Setup) (events : List WorldEvent) (t : Parts s) → StopAndWait s ⊥ t → t.Sound
    → outcome s.call (world_after s events).events ≡ Done
    → IsDone s t.value (world_after s events).events × Seen s t t.last (world_after s events)
ends s events t m sound done = when_done s t (world_after s events) (always s t m sound events) done

plain : (short : Bool) → (short ≡ true) ⊎ (not short ≡ true)
plain true = inl refl
plain false = inr refl

protocol : (mode : Mode) (job : Job) → is_plain_download mode job ≡ true
    → (is_expedited_download mode job ≡ true) ⊎ (is_segmented_download mode job ≡ true)
protocol Plain (Download bytes tells) h = plain (is_short (length bytes))
protocol Segmented (Download bytes tells) h = inr refl
protocol Block (Download bytes tells) h = cc
protocol Plain (Upload cap) h = cc
protocol Segmented (Upload cap) h = cc
protocol Block (Upload cap) h = cc

pub download_sets : (s : Setup) (events : List WorldEvent) → IsAlone s → is_plain_download s.call.mode s.call.job ≡ true
    → outcome s.call (world_after s events).events ≡ Done → (world_after s events).contents s.call.key ≡ Some (bytes_of s.call.job)
download_sets s events alone t done = elim (protocol s.call.mode s.call.job t) [
  | inl short ↦ (let few = short_bytes _ (at_once_few s.call.mode s.call.job short) in
      (ends s events (sending.parts s true) (sending.stop_and_wait s ⊥ true (downloads s _ alone (at_once s.call.mode s.call.job short))
      (record { few = few; may_complete = λ x. absurd x })) alone.bytes done).1.set refl)
  | inr long ↦ (ends s events (sending.parts s false)
      (sending.stop_and_wait s ⊥ false (downloads s _ alone (in_segments s.call.mode s.call.job long)) tt) alone.bytes done).1.set refl
]

pub upload_gives : (s : Setup) (events : List WorldEvent) → IsAlone s → is_plain_upload s.call.mode s.call.job ≡ true
    → outcome s.call (world_after s events).events ≡ Done → result s.call (world_after s events).events ≡ value_at s.contents s.call.key
upload_gives s events alone t done =
    let short = is_short (length (value_at s.contents s.call.key)) in
    (ends s events (reading.parts s short)
    (reading.stop_and_wait s ⊥ (uploads s _ alone (protocols.upload s.call.mode s.call.job t)) short refl) tt done).0.gives

-- ---- in blocks

pub block_upload_gives : (s : Setup) (events : List WorldEvent) → IsAlone s → is_block_upload s.call.mode s.call.job ≡ true
    → list_any is_repeat events ≡ false → outcome s.call (world_after s events).events ≡ Done
    → result s.call (world_after s events).events ≡ value_at s.contents s.call.key
block_upload_gives s events alone t once done =
    (blocks.when_done (read_in_blocks.parts s ⊥) (world_after s events) done (blocks.always (read_in_blocks.parts s ⊥)
    (read_in_blocks.theory s ⊥ (uploads s _ alone (protocols.block_upload s.call.mode s.call.job t))) events once (λ x. absurd x))).0.gives

pub block_download_sets : (s : Setup) (events : List WorldEvent) → IsAlone s → is_block_download s.call.mode s.call.job ≡ true
    → list_any is_repeat events ≡ false → outcome s.call (world_after s events).events ≡ Done
    → (world_after s events).contents s.call.key ≡ Some (bytes_of s.call.job)
block_download_sets s events alone t once done =
    let m = written_in_blocks.theory s ⊥ (downloads s _ alone (protocols.in_blocks s.call.mode s.call.job t)) in
    ap (λ (c : Contents). c s.call.key) (blocks.is_left (written_in_blocks.parts s ⊥) m (world_after s events) (inr refl) done
    (blocks.always (written_in_blocks.parts s ⊥) m events once (λ x. absurd x)))
    ∙ protocols.entry_is s.contents s.call.key (bytes_of s.call.job)
