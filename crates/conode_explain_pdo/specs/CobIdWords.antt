-- A COB-ID as people read it, after its value: in hexadecimal digits, and whether it is valid (CiA
-- 301, 7.5.2.5, 7.5.2.15, 7.5.2.17, 7.5.2.33 to 7.5.2.35 and 7.5.2.37).
use Rattle.std.specs.Prelude.{ℕ, ◌^◌, ◌==◌, nat_le, Bool, not, ◌&&◌, ◌||◌, if◌then◌else◌, List, [], ◌++◌, codes, length}
use Rattle.co_profile.specs.Indices.{is_within, rpdo_communication, tpdo_communication}
use Rattle.co_text.specs.Printed.{digits_text}
use Rattle.co_value.specs.declared.key.Key.{Key}
use Rattle.co_value.specs.Numbers.{unsigned_of}
use Rattle.conode_explain_cob_ids.specs.SheetServices.{is_service_index}

-- the requests and the answers of an SDO channel, 1200h to 12FFh
abbrev pub is_channel_id : Key → Bool
is_channel_id key = ((key.sub == 1) || (key.sub == 2)) && (nat_le 0x1200 key.index && nat_le key.index 0x12FF)

abbrev pub is_pdo_id : Key → Bool
is_pdo_id key = (key.sub == 1) && (is_within rpdo_communication key.index || is_within tpdo_communication key.index)

-- also SYNC, TIME and emergencies
abbrev pub has_cob_id : Key → Bool
has_cob_id key = ((key.sub == 0) && is_service_index key.index) || (is_channel_id key || is_pdo_id key)

-- bit 31: the PDO, the channel or the emergencies don't exist; of TIME it says that the device takes it, and
-- of SYNC nothing
abbrev pub disabled_words : ℕ → ℕ → List ℕ
disabled_words index word =
    if nat_le (2 ^ 31) word && not ((index == 0x1005) || (index == 0x1012)) then codes ", disabled" else []

-- of a whole word
abbrev pub cob_id_words : Key → ℕ → List ℕ → List ℕ
cob_id_words key bits bytes =
    if has_cob_id key && ((bits == 32) && (length bytes == 4))
    then codes " (" ++ digits_text 16 8 (unsigned_of bytes) ++ disabled_words key.index (unsigned_of bytes) ++ codes ")" else []
