-- The addressee of a frame: the first of NMT, SYNC, the SDO channels by number, the active RPDOs by
-- number, and error control (CiA 301, 7.3.5).
use Rattle.std.specs.Prelude.{ℕ, ◌&&◌, nat_lt, nat_le, Bool, ◌-◌, if◌then◌else◌, Option, Some, None, ◌==◌, ◌<◌, ◌≤◌, ◌||◌, false, ◌≡◌}
use Rattle.co_value.specs.declared.key.Key.{Key}
use Rattle.co_value.specs.Keys.{same_key}
use Rattle.co_profile.specs.Indices.{rpdo_communication, rpdo_mapping, is_within}
use Rattle.co_dict.specs.Rows.{Contents}
use Rattle.co_sdo.specs.Events.{number_for}
use Rattle.co_node_model.specs.declared.address.Address.{Address}
use Rattle.co_node_model.specs.declared.address.Address.TheVariants.{ErrorControl, Nobody, Rpdo, Channel, Nmt, Sync}
use Rattle.co_node_model.specs.Rpdos.{rpdo_with}
use Rattle.co_node_model.specs.Sync.{is_sync_id}
use Rattle.co_node_model.specs.Moments.{Constants, History, channels, contents_at}
use Rattle.co_profile.specs.Keys.{sync_key}
use Rattle.co_node_model.specs.Nmt.{is_reset}
use Rattle.co_node_model.specs.declared.mark.Mark.{Mark}
use Rattle.co_node_model.specs.Marks.{marked_key}

-- an identifier is that of the error control of a node with node-ID 1 to 127
abbrev pub is_error_control : ℕ → Bool
is_error_control id = nat_lt 0x700 id && nat_le id 0x77F

-- the addressee of an identifier: error control, or nobody
abbrev pub address_last : ℕ → Address
address_last id = if is_error_control id then ErrorControl (id - 0x700) else Nobody

-- the same, after the RPDOs
abbrev pub address_unless_rpdo : Option ℕ → ℕ → Address
address_unless_rpdo (Some k) id = Rpdo k
address_unless_rpdo None id = address_last id

-- the same, after the SDO channels
abbrev pub address_unless_channel : Option ℕ → Contents → ℕ → Address
address_unless_channel (Some j) contents id = Channel j
address_unless_channel None contents id = address_unless_rpdo (rpdo_with contents id) id

-- the addressee of an identifier, by the SDO channel whose requests have it, if any
abbrev pub address_of : Option ℕ → Contents → ℕ → Address
address_of channel contents id =
    if id == 0 then Nmt
    else (if is_sync_id contents id then Sync
    else address_unless_channel channel contents id)

-- the addressee of an identifier after a history
abbrev pub address_at : Constants → History → ℕ → Address
address_at k history id = address_of (number_for (channels k) id) (contents_at k history) id

-- ---- what may change addressees (7.5.2.5, 7.5.2.35 and 7.5.2.36)

-- an entry of the parameters of an RPDO, 1400h to 15FFh and 1600h to 17FFh
abbrev pub is_rpdo_key : Key → Bool
is_rpdo_key key = is_within rpdo_communication key.index || is_within rpdo_mapping key.index

-- the COB-ID of SYNC, or a parameter of an RPDO, was written
abbrev pub is_address_set : Option Key → Bool
is_address_set None = false
is_address_set (Some key) = same_key key sync_key || is_rpdo_key key

-- the input was a reset, or wrote one of these
abbrev pub may_change_addresses : Mark → Bool
may_change_addresses mark = is_reset mark || is_address_set (marked_key mark)

-- the parameters of RPDOs are the same: 1400h to 15FFh and 1600h to 17FFh
abbrev pub AgreeOnRpdos : Contents → Contents → Type 0
AgreeOnRpdos contents others = (key : Key) → 0x1400 ≤ key.index → key.index < 0x1800 → contents key ≡ others key

-- the COB-ID of SYNC and the parameters of RPDOs are the same
pub record AgreeOnAddresses (contents others : Contents) : Type 0 where
  pub sync : contents sync_key ≡ others sync_key
  pub rpdos : AgreeOnRpdos contents others
