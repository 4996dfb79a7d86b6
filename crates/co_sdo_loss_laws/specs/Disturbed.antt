-- Disturbed transfers (CiA 301, 7.2.4.2): frames are lost or repeated, and either end may time out.
use Rattle.std.specs.Prelude.{◌≡◌, ◌<◌, Bool, true, false, None}
use Rattle.co_value.specs.Numbers.{AreBytes}
use Rattle.co_sdo_client.specs.declared.mode.Mode.{Mode}
use Rattle.co_sdo_client.specs.declared.mode.Mode.TheVariants.{Block}
use Rattle.co_sdo_client.specs.Calls.{Job, Download}
use Rattle.co_sdo_client.specs.Segments.{bytes_of}
use Rattle.co_dict.specs.Stores.{IsDictionary}
use Rattle.co_sdo.specs.OpenTransfers.{open_transfer}
use Rattle.co_sdo_laws.specs.World.{Setup}
pub use Rattle.co_sdo_laws.specs.World.{is_repeat}

-- one transfer alone: the channel has no other open when the client begins, no frame of another is
-- on its way, and nothing else writes to the dictionary. It need not be permitted: a refused
-- transfer is aborted.
pub record IsAlone (s : Setup) : Type 0 where
  pub dictionary : IsDictionary s.description s.contents
  pub key : s.call.key.index < 65536
  pub bytes : AreBytes (bytes_of s.call.job)
  pub idle : open_transfer s.past ≡ None

-- a download that isn't in blocks: expedited or segmented
abbrev pub is_plain_download : Mode → Job → Bool
is_plain_download Block (Download bytes tells) = false
is_plain_download mode (Download bytes tells) = true
is_plain_download mode job = false
