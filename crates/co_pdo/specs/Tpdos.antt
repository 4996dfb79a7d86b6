-- The parameters of one TPDO: 1800h + k and 1A00h + k (CiA 301, 7.5.2.37 and 7.5.2.38).
use Rattle.std.specs.Prelude.{ℕ, Bool, is_some, List}
use Rattle.std.specs.List.{filter, range_with_len}
use Rattle.co_value.specs.declared.key.Key.{Key}
use Rattle.co_profile.specs.Indices.{nth, tpdo_communication, tpdo_mapping}
use Rattle.co_profile.specs.Keys.{counter_overflow_key}
use Rattle.co_dict.specs.Rows.{Rows, Contents, number_at}
use Rattle.co_dict.specs.Stores.{Description}
use Rattle.co_dict.specs.Places.{place_of}
use Rattle.co_dict.specs.declared.side.Side.TheVariants.{Tpdo}
use Rattle.co_pdo.specs.Pdos.{is_pdo_active}
use Rattle.co_pdo.specs.declared.places.Places.{Places}
use Rattle.co_pdo.specs.declared.settings.Settings.{Settings}

-- a sub-index of the communication parameter of TPDO k
abbrev pub tpdo_key : ℕ → ℕ → Key
tpdo_key k sub = record { index = nth tpdo_communication k; sub = sub }

-- how many objects are mapped into TPDO k
abbrev pub tpdo_count_key : ℕ → Key
tpdo_count_key k = record { index = nth tpdo_mapping k; sub = 0 }

-- TPDO k is active
abbrev pub is_active : Contents → ℕ → Bool
is_active contents k = is_pdo_active Tpdo contents k

-- the transmission type, the inhibit time in 100 µs, the event timer in ms and the SYNC start value
-- of TPDO k; 0 for a missing entry
abbrev pub settings_of : Contents → ℕ → Settings
settings_of contents k = record {
  is_active = is_active contents k;
  transmission_type = record { 0 = number_at contents (tpdo_key k 2) };
  inhibit_time = number_at contents (tpdo_key k 3);
  event_timer = number_at contents (tpdo_key k 5);
  start_value = number_at contents (tpdo_key k 6);
}

-- the places of the parameters of TPDO k in a dictionary
abbrev pub places_of : Description → ℕ → Places
places_of d k = record {
  cob_id = place_of d (tpdo_key k 1);
  transmission_type = place_of d (tpdo_key k 2);
  inhibit_time = place_of d (tpdo_key k 3);
  event_timer = place_of d (tpdo_key k 5);
  start_value = place_of d (tpdo_key k 6);
  mapped = place_of d (tpdo_count_key k);
  counter_overflow = place_of d counter_overflow_key;
}

-- the dictionary has TPDO k: its COB-ID word exists
abbrev pub has_tpdo : Rows → ℕ → Bool
has_tpdo rows k = is_some (rows (tpdo_key k 1))

-- the numbers that a TPDO may have, increasing
unfoldable pub tpdo_numbers : List ℕ
tpdo_numbers = range_with_len 0 512

-- the numbers of the TPDOs that a dictionary has, increasing
abbrev pub tpdos_of : Rows → List ℕ
tpdos_of rows = filter (has_tpdo rows) tpdo_numbers
