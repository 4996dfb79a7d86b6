-- What clients ask for on a device's default SDO channel, to the laws about TPDOs.
use Rattle.std.specs.Prelude.{◌≡◌, ℕ, ◌+◌, ◌≢◌, nat_le, ◌&&◌, ◌||◌, Bool, true, false, List, length}
use Rattle.std.specs.List.{AllByRecursion}
use Rattle.co_value.specs.declared.key.Key.{Key}
use Rattle.co_value.specs.Keys.{same_key}
use Rattle.co_frame.specs.FrameContent.{FrameContent}
use Rattle.co_frame.specs.SdoFields.{key_in}
use Rattle.co_profile.specs.Keys.{sync_key}
use Rattle.conode_compare_pdos.specs.declared.pdos.Pdos.{Pdos}
use Rattle.conode_compare_pdos.specs.Tpdos.{is_id}
use Rattle.conode_compare_transfers.specs.Dialogues.{asks_to_write}
use Rattle.conode_compare_laws.specs.Recordings.{Recorded}

-- 1800h to 1803h, the communication parameters of the first four TPDOs
abbrev pub is_tpdo_communication : Key → Bool
is_tpdo_communication key = nat_le 0x1800 key.index && nat_le key.index 0x1803

-- 1A00h to 1A03h, their mappings, and 1005:00, the COB-ID of SYNC
abbrev pub is_tpdo_mapping_or_sync : Key → Bool
is_tpdo_mapping_or_sync key = same_key key sync_key || (nat_le 0x1A00 key.index && nat_le key.index 0x1A03)

-- a client's frame of eight bytes names none of the former in bytes 1 to 3, whatever frame it is; and
-- where its first byte is that of an initiate request to write (CiA 301, 7.2.4.3.3 and 7.2.4.3.9), none
-- of the latter either
pub record NamesNone (frame : FrameContent) : Type 0 where
  pub communication : is_tpdo_communication (key_in frame.bytes) ≡ false
  pub written : asks_to_write frame ≡ true → is_tpdo_mapping_or_sync (key_in frame.bytes) ≡ false

-- a frame with the identifier of the client's frames on the default SDO channel is such a one
abbrev pub NamesNoTpdo : ℕ → FrameContent → Type 0
NamesNoTpdo node frame = frame.id ≡ 0x600 + node → length frame.bytes ≡ 8 → NamesNone frame

abbrev pub NameNoTpdos : ℕ → List Recorded → Type 0
NameNoTpdos node recorded = AllByRecursion (λ r. NamesNoTpdo node r.frame) recorded

-- a frame with the identifier of SYNC, as far as that is known, is none of the default SDO channel
abbrev pub IsNoSdoSync : Pdos → ℕ → FrameContent → Type 0
IsNoSdoSync pdos node frame = is_id pdos.sync frame.id ≡ true → (frame.id ≢ 0x580 + node) × (frame.id ≢ 0x600 + node)

abbrev pub AreNoSdoSyncs : Pdos → ℕ → List Recorded → Type 0
AreNoSdoSyncs pdos node recorded = AllByRecursion (λ r. IsNoSdoSync pdos node r.frame) recorded
