-- Entries of 32 bits with several parts as people read them, after their value: a word of a PDO's mapping, and a time of the heartbeat
-- consumer (CiA 301, 7.5.2.19, 7.5.2.36 and 7.5.2.38).
use Rattle.std.specs.Prelude.{ℕ, ◌/◌, ◌%◌, ◌==◌, nat_le, Bool, not, ◌&&◌, ◌||◌, if◌then◌else◌, List, [], ◌∷◌, codes, decimal, length}
use Rattle.co_profile.specs.Indices.{is_within, rpdo_mapping, tpdo_mapping}
use Rattle.co_value.specs.declared.key.Key.{Key}
use Rattle.co_value.specs.KeyTexts.{key_text}
use Rattle.co_value.specs.Numbers.{unsigned_of}
use Rattle.conode_text.specs.Filled.{filled}

-- the entry that is mapped, and the number of its bits
abbrev pub is_mapping_word : Key → Bool
is_mapping_word key = (nat_le 1 key.sub && nat_le key.sub 64) && (is_within rpdo_mapping key.index || is_within tpdo_mapping key.index)

abbrev pub mapped_key : ℕ → Key
mapped_key word = record { index = word / 65536; sub = word / 256 % 256 }

abbrev pub bit_unit : ℕ → List ℕ
bit_unit bits = if bits == 1 then codes " bit" else codes " bits"

unfoldable pub mapping_word_text : ℕ → List ℕ
mapping_word_text word = filled (codes " (%, %%)") (key_text (mapped_key word) ∷ decimal (word % 256) ∷ bit_unit (word % 256) ∷ [])

-- the node whose heartbeats are awaited, and for how long
abbrev pub is_consumer_time : Key → Bool
is_consumer_time key = (key.index == 0x1016) && not (key.sub == 0)

-- with a node-ID from 1 to 127 and a time
abbrev pub is_consumer_used : ℕ → Bool
is_consumer_used word = (nat_le 1 (word / 65536 % 256) && nat_le (word / 65536 % 256) 127) && not (word % 65536 == 0)

unfoldable pub consumer_time_text : ℕ → List ℕ
consumer_time_text word =
    if is_consumer_used word then filled (codes " (node %, % ms)") (decimal (word / 65536 % 256) ∷ decimal (word % 65536) ∷ [])
    else codes " (not used)"

-- a word of 0 has none
abbrev pub word_text : Key → ℕ → List ℕ
word_text key word =
    if word == 0 then []
    else (if is_mapping_word key then mapping_word_text word else (if is_consumer_time key then consumer_time_text word else []))

-- of a whole word
abbrev pub entry_words : Key → ℕ → List ℕ → List ℕ
entry_words key bits bytes = if (bits == 32) && (length bytes == 4) then word_text key (unsigned_of bytes) else []
