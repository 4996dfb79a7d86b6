-- What the laws about lengths, SYNC and times of TPDOs ask of a device, and of its data sheet.
use Rattle.std.specs.Prelude.{◌≡◌, ℕ, ◌==◌, ◌&&◌, ◌||◌, not, nat_le, Bool, true, false, List, [], ◌∷◌, Option, Some, None, IfSome}
use Rattle.std.specs.List.{list_all}
use Rattle.co_profile.specs.Keys.{sync_key}
use Rattle.co_value.specs.declared.key.Key.{Key}
use Rattle.co_dict.specs.CobIds.{identifier_of}
use Rattle.co_dict.specs.Rows.{Contents, number_at}
use Rattle.co_dict.specs.Stores.{IsDictionary}
use Rattle.co_dict.specs.declared.side.Side.TheVariants as side
use Rattle.co_pdo.specs.Mappings.{mapping_of, total_of}
use Rattle.co_pdo.specs.Tpdos.{is_active, tpdo_key, tpdo_numbers}
use Rattle.co_node_model.specs.Device.{moment, moments}
use Rattle.co_node_model.specs.Inputs.{Inputs}
use Rattle.co_node_model.specs.Marks.{marked_key}
use Rattle.co_node_model.specs.Moments.{Constants, Moment}
use Rattle.conode_compare_pdos.specs.declared.pdos.Pdos.{Pdos}
use Rattle.conode_compare_pdos.specs.declared.tpdo.Tpdo.{Tpdo}
use Rattle.conode_compare_pdos.specs.Tpdos.{is_id}
use Rattle.conode_compare_laws.specs.Recordings.{Stamped}
use Rattle.conode_compare_laws.specs.TpdoFrames.{is_followed}

-- ---- a device

-- the COB-ID of SYNC, 1005h, and the parameters of TPDOs, 1800h to 1BFFh
abbrev pub is_tpdo_parameter : Key → Bool
is_tpdo_parameter key = (key.index == 0x1005) || (nat_le 0x1800 key.index && nat_le key.index 0x1BFF)

-- one of these was written
abbrev pub is_tpdo_set : Option Key → Bool
is_tpdo_set None = false
is_tpdo_set (Some key) = is_tpdo_parameter key

-- none of them is written at an input, and they are then as the device was built with
pub record KeepsTpdos (k : Constants) (m : Moment) : Type 0 where
  pub unwritten : is_tpdo_set (marked_key m.mark) ≡ false
  pub same : (key : Key) → is_tpdo_parameter key ≡ true → m.contents key ≡ k.start key

-- no SDO channel and no event of the application writes one, at each of these inputs, which come
-- after those before
abbrev pub AllWriteNone : Constants → Inputs → List Stamped → Type 0
AllWriteNone k before [] = Unit {0}
AllWriteNone k before (s ∷ later) = (is_tpdo_set (marked_key (moment k (moments k before) s.input).mark) ≡ false) × AllWriteNone k (s.input ∷ before) later

-- at each of these inputs, which come after those before
abbrev pub AllKeepTpdos : Constants → Inputs → List Stamped → Type 0
AllKeepTpdos k before [] = Unit {0}
AllKeepTpdos k before (s ∷ later) = KeepsTpdos k (moment k (moments k before) s.input) × AllKeepTpdos k (s.input ∷ before) later

-- after each of these inputs the entries are those of a dictionary, as each store ensures: their
-- bytes fit them
abbrev pub AllAreFilled : Constants → Inputs → List Stamped → Type 0
AllAreFilled k before [] = Unit {0}
AllAreFilled k before (s ∷ later) = IsDictionary k.description (moment k (moments k before) s.input).contents × AllAreFilled k (s.input ∷ before) later

-- ---- a data sheet

-- no other TPDO than this one is active with its identifier
unfoldable pub is_alone : Contents → ℕ → Tpdo → Bool
is_alone contents number sheet =
    list_all (λ n. (n == number) || not (is_active contents n && is_id sheet.parameters.id (identifier_of (number_at contents (tpdo_key n 1))))) tpdo_numbers

-- What is known of a TPDO by the data sheet, where it is known, is what the device was built with:
-- its transmission type, inhibit time, event timer, and how many bytes are mapped. No other TPDO of
-- the device has its identifier. Nothing of it was sent before the boot-up.
pub record IsTpdoOf (k : Constants) (number : ℕ) (sheet : Tpdo) : Type 0 where
  pub alone : is_alone k.start number sheet ≡ true
  pub kind : IfSome sheet.parameters.kind (λ kind. number_at k.start (tpdo_key number 2) ≡ kind)
  pub inhibit : IfSome sheet.parameters.inhibit (λ time. number_at k.start (tpdo_key number 3) ≡ time)
  pub timer : IfSome sheet.parameters.timer (λ time. number_at k.start (tpdo_key number 5) ≡ time)
  pub length : IfSome sheet.parameters.length (λ bytes. total_of (mapping_of side.Tpdo k.description k.start number) ≡ bytes)
  pub unsent : sheet.sent ≡ None

-- so of each of the four, and the identifier of SYNC, which none of them has
pub record AreTpdosOf (k : Constants) (pdos : Pdos) : Type 0 where
  pub sync : IfSome pdos.sync (λ id. identifier_of (number_at k.start sync_key) ≡ id)
  pub apart : IfSome pdos.sync (λ id. is_followed pdos id ≡ false)
  pub first : IsTpdoOf k 0 pdos.first
  pub second : IsTpdoOf k 1 pdos.second
  pub third : IsTpdoOf k 2 pdos.third
  pub fourth : IsTpdoOf k 3 pdos.fourth
