-- Words of a mapping and times of the heartbeat consumer, on both sides of each edge.
use Rattle.std.proofs.Common.{◌≡◌, ℕ, true, false, [], ◌∷◌, refl}
use Rattle.std.specs.Prelude.{codes, map}
use Rattle.std.specs.Fmt.{digits}
use Rattle.co_text.specs.Printed.{digits_text}
use Rattle.co_value.specs.declared.key.Key.{Key}
use Rattle.conode_text.specs.Filled.{filled}
use Rattle.conode_explain_pdo.specs.EntryWords.{consumer_time_text, entry_words, is_consumer_time, is_mapping_word, mapping_word_text}

abbrev at : ℕ → ℕ → Key
at index sub = record { index = index; sub = sub }

sixteen_bits : entry_words (at 0x1A01 1) 32 (0x10 ∷ 0x04 ∷ 0x01 ∷ 0x64 ∷ []) ≡ codes " (6401:04, 16 bits)"
unfolding mapping_word_text filled digits digits_text
sixteen_bits = refl

one_bit : entry_words (at 0x1600 64) 32 (0x01 ∷ 0x08 ∷ 0x20 ∷ 0x60 ∷ []) ≡ codes " (6020:08, 1 bit)"
unfolding mapping_word_text filled digits digits_text
one_bit = refl

consumer : entry_words (at 0x1016 1) 32 (0xC8 ∷ 0x00 ∷ 0x01 ∷ 0x00 ∷ []) ≡ codes " (node 1, 200 ms)"
unfolding consumer_time_text filled digits digits_text
consumer = refl

-- of the node-ID bits 16 to 23, of the time bits 0 to 15
greatest_time : entry_words (at 0x1016 127) 32 (0xFF ∷ 0xFF ∷ 0x7F ∷ 0x01 ∷ []) ≡ codes " (node 127, 65535 ms)"
unfolding consumer_time_text filled digits digits_text
greatest_time = refl

-- a time of 0, node-IDs of 0 and 128, and only reserved bits
not_used : map (λ bytes. entry_words (at 0x1016 1) 32 bytes)
    ((0 ∷ 0 ∷ 1 ∷ 0 ∷ []) ∷ (0xC8 ∷ 0 ∷ 0 ∷ 0 ∷ []) ∷ (0xC8 ∷ 0 ∷ 0x80 ∷ 0 ∷ []) ∷ (0 ∷ 0 ∷ 0 ∷ 1 ∷ []) ∷ [])
    ≡ codes " (not used)" ∷ codes " (not used)" ∷ codes " (not used)" ∷ codes " (not used)" ∷ []
unfolding consumer_time_text
not_used = refl

-- a word of 0, a part of one, another entry
none : entry_words (at 0x1A01 1) 32 (0 ∷ 0 ∷ 0 ∷ 0 ∷ []) ∷ entry_words (at 0x1016 1) 32 (0 ∷ 0 ∷ 0 ∷ 0 ∷ [])
    ∷ entry_words (at 0x1A01 1) 31 (0x10 ∷ 0x04 ∷ 0x01 ∷ 0x64 ∷ []) ∷ entry_words (at 0x1A01 1) 16 (0x10 ∷ 0x04 ∷ [])
    ∷ entry_words (at 0x1017 1) 32 (1 ∷ 0 ∷ 0 ∷ 0 ∷ []) ∷ [] ≡ [] ∷ [] ∷ [] ∷ [] ∷ [] ∷ []
none = refl

mapping_words : map is_mapping_word (at 0x1600 1 ∷ at 0x17FF 64 ∷ at 0x1A00 1 ∷ at 0x1BFF 64 ∷ []) ≡ true ∷ true ∷ true ∷ true ∷ []
mapping_words = refl

no_mapping_words : map is_mapping_word (at 0x1600 0 ∷ at 0x1600 65 ∷ at 0x15FF 1 ∷ at 0x1800 1 ∷ at 0x19FF 1 ∷ at 0x1C00 1 ∷ [])
    ≡ false ∷ false ∷ false ∷ false ∷ false ∷ false ∷ []
no_mapping_words = refl

consumer_times : map is_consumer_time (at 0x1016 1 ∷ at 0x1016 127 ∷ at 0x1016 0 ∷ at 0x1015 1 ∷ at 0x1017 1 ∷ []) ≡ true ∷ true ∷ false ∷ false ∷ false ∷ []
consumer_times = refl
