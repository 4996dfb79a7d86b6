-- COB-IDs in words (CiA 301, 7.2.2.7 and 7.5.2).
use Rattle.std.specs.Prelude.{ℕ, ◌/◌, ◌%◌, ◌==◌, nat_lt, Bool, not, ◌&&◌, if◌then◌else◌, List, [], ◌++◌, codes}
use Rattle.conode_show_text.specs.declared.values.Word.{Word}
use Rattle.conode_show_text.specs.Numbers.{hex_text}

-- the bits of a COB-ID: 31, 30 and 29
abbrev pub has_bit_31 : ℕ → Bool
has_bit_31 n = n / 0x80000000 % 2 == 1

abbrev pub has_bit_30 : ℕ → Bool
has_bit_30 n = n / 0x40000000 % 2 == 1

abbrev pub has_bit_29 : ℕ → Bool
has_bit_29 n = n / 0x20000000 % 2 == 1

-- bits 28 to 0
abbrev pub low_bits : ℕ → ℕ
low_bits n = n % 0x20000000

-- how many bits the identifier has: 29 with bit 29, else 11, and then bits 28 to 11 have to be 0
abbrev pub frame_name : ℕ → List ℕ
frame_name n =
    if has_bit_29 n then codes ", 29-bit"
    else if nat_lt 0x7FF (low_bits n) then codes ", over 11 bits" else []

unfoldable pub identifier_text : ℕ → List ℕ
identifier_text n = hex_text (low_bits n) ++ frame_name n

-- identifier 0 of 11 bits is that of NMT, so no other object is on it (CiA 301, restricted CAN-IDs)
abbrev pub is_not_used : Word → Bool
is_not_used word = not word.relative && word.number % 0x40000000 == 0

-- a COB-ID of EMCY or an SDO channel: with bit 31 it isn't enabled
abbrev pub use_name : Word → List ℕ
use_name word =
    if has_bit_31 word.number then codes ", disabled"
    else if is_not_used word then codes ", not used" else codes ", enabled"

unfoldable pub cob_id_text : Word → List ℕ
cob_id_text word = identifier_text word.number ++ use_name word

-- the COB-ID of a PDO, with its bit 30: no RTR
unfoldable pub pdo_cob_id_text : Word → List ℕ
pdo_cob_id_text word = cob_id_text word ++ (if has_bit_30 word.number then codes ", no RTR" else [])

-- the COB-ID of SYNC, with its bit 30: the device produces it; bit 31 says nothing
abbrev pub sync_name : Word → List ℕ
sync_name word =
    if is_not_used word then codes ", not used"
    else if has_bit_30 word.number then codes ", produced" else codes ", not produced"

unfoldable pub sync_text : Word → List ℕ
sync_text word = identifier_text word.number ++ sync_name word

-- the COB-ID of TIME: with bit 31 the device consumes it, with bit 30 it produces it
abbrev pub time_name : Word → List ℕ
time_name word =
    if is_not_used word then codes ", not used"
    else if has_bit_31 word.number
    then (if has_bit_30 word.number then codes ", consumed and produced" else codes ", consumed")
    else if has_bit_30 word.number then codes ", produced" else codes ", not used"

unfoldable pub time_cob_id_text : Word → List ℕ
time_cob_id_text word = identifier_text word.number ++ time_name word
