-- What the crates below prove, as the laws here take it.
use Rattle.std.proofs.Common.{◌≡◌, ℕ, ◌<◌, false, List, Option, Some, None}
use Rattle.co_value.specs.declared.key.Key.{Key}
use Rattle.co_frame.specs.FrameContent.{FrameContent}
use Rattle.co_profile.specs.Indices.{nth, tpdo_communication, tpdo_mapping}
use Rattle.co_dict.specs.declared.side.Side.TheVariants.{Rpdo}
use Rattle.co_dict.specs.Rows.{Contents}
use Rattle.co_dict.specs.Stores.{Description}
use Rattle.co_dict.specs.PdoRules.{is_pdo_valid}
use Rattle.co_dict.specs.OwnRules.{own_refusal}
use Rattle.co_dict.specs.WriteRefusals.{writing_refusal, app_refusal}
use Rattle.co_sdo.specs.Downloads.{Download}
use Rattle.co_sdo.specs.Log.{Log}
use Rattle.co_sdo.specs.Refused.{completion_refusal}
use Rattle.co_sdo.specs.Channels.{ChannelSettings}
use Rattle.co_sdo.specs.Events.{set_of}
use Rattle.co_pdo.specs.Mappings.{mapping_of}
use Rattle.co_pdo.specs.Images.{contents_after}

pub record Below : Type 0 where
  pub by_sdo : (d : Description) (contents : Contents) (key : Key) (indicated : Option ℕ) (bytes : List ℕ) → writing_refusal d contents key indicated bytes ≡ None → own_refusal d contents key bytes ≡ None
  pub by_application : (d : Description) (contents : Contents) (key : Key) (bytes : List ℕ) → app_refusal d contents key bytes ≡ None → own_refusal d contents key bytes ≡ None
  pub inhibit_time : (d : Description) (contents : Contents) (k : ℕ) (bytes : List ℕ) → k < 512 → own_refusal d contents (record { index = nth tpdo_communication k; sub = 3 }) bytes ≡ None → is_pdo_valid contents (nth tpdo_communication k) ≡ false
  pub mapping : (d : Description) (contents : Contents) (k : ℕ) (bytes : List ℕ) → k < 512 → own_refusal d contents (record { index = nth tpdo_mapping k; sub = 0 }) bytes ≡ None → is_pdo_valid contents (nth tpdo_communication k) ≡ false
  pub permitted : (channels : List ChannelSettings) (d : Description) (contents : Contents) (logs : ℕ → Log) (frame : FrameContent) (download : Download) → set_of channels d contents logs frame ≡ Some download → completion_refusal d contents download.key download.indicated download.bytes ≡ None
  pub by_rpdo : (d : Description) (c : Contents) (k : ℕ) (bytes : List ℕ) (key : Key) → key.index < 0x2000 → contents_after d.rows (mapping_of Rpdo d c k) bytes c key ≡ c key
