-- What the values of a drive's entries mean (CiA 402): the controlword, the statusword, the error
-- code, the mode of operation.
use Rattle.std.specs.Prelude.{ℕ, ◌+◌, ◌%◌, ◌==◌, nat_lt, Bool, ◌&&◌, if◌then◌else◌, bit_and, List, [], ◌∷◌, ◌++◌, codes, find, is_some, length, slice_index, Option, None, option_map, true, false}
use Rattle.std.specs.Option.{option_map_or}
use Rattle.co_value.specs.declared.key.Key.{Key}
use Rattle.co_value.specs.Numbers.{unsigned_of}
use Rattle.co_text.specs.Printed.{digits_text}
use Rattle.conode_explain_services.specs.declared.drives.Meaning.{Meaning}
use Rattle.conode_explain_services.specs.declared.drives.Meaning.TheVariants.{ErrorCode, Controlword, Statusword, Mode}
use Rattle.conode_explain_services.specs.Codes.{code_words}
use Rattle.conode_explain_services.specs.Parts.{words_in}

-- ---- which entries

-- the device profile: the lower 16 bits of 1000:00 (CiA 301, 7.5.2.1)
abbrev pub is_drive : ℕ → Bool
is_drive device_type = device_type % 65536 == 0x0192

-- of each of the 8 axes of a device, 800h after one another, the index of the first axis; 0 for an
-- index of none
abbrev pub axis_index : ℕ → ℕ
axis_index index = if nat_lt 0x5FFF index && nat_lt index 0xA000 then 0x6000 + index % 0x800 else 0

abbrev pub meanings : List (ℕ × Meaning)
meanings = (0x603F, ErrorCode) ∷ (0x6040, Controlword) ∷ (0x6041, Statusword) ∷ (0x6060, Mode) ∷ (0x6061, Mode) ∷ []

unfoldable pub meaning_at : ℕ → Option Meaning
meaning_at index = option_map (λ row. row.1) (find (λ row. row.0 == index) meanings)

-- the mode, and its display
abbrev pub is_mode : Meaning → Bool
is_mode ErrorCode = false
is_mode Controlword = false
is_mode Statusword = false
is_mode Mode = true

abbrev pub meaning_of : Key → Option Meaning
meaning_of key = if key.sub == 0 then meaning_at (axis_index key.index) else None

abbrev pub has_meaning : Key → Bool
has_meaning key = is_some (meaning_of key)

-- ---- what they mean

-- a bit of a word
abbrev pub has_bit : ℕ → ℕ → Bool
has_bit word place = bit_and word place == place

abbrev pub where_set : ℕ → ℕ → List ℕ → List ℕ
where_set word place text = if has_bit word place then text else []

-- the commands of a controlword, by bits 0 to 3 (switch on, enable voltage, quick stop where 0, enable
-- operation); 0111b is two of them, by the state of the drive
unfoldable pub command_words : ℕ → List ℕ
command_words word =
    if bit_and word 0x02 == 0 then codes "disable voltage"
    else (if bit_and word 0x04 == 0 then codes "quick stop"
    else (if bit_and word 0x01 == 0 then codes "shutdown"
    else (if bit_and word 0x08 == 0 then codes "switch on or disable operation" else codes "enable operation")))

-- Bit 7 resets a fault where it was 0 before. While it stays 1, bits 0 to 3 count as ever; without them
-- it is that command alone.
abbrev pub first_words : ℕ → List ℕ
first_words word = if bit_and word 0x8F == 0x80 then codes "fault reset" else command_words word

abbrev pub also_reset : ℕ → List ℕ
also_reset word = if bit_and word 0x8F == 0x80 then [] else where_set word 0x80 (codes ", fault reset")

unfoldable pub controlword_words : ℕ → List ℕ
controlword_words word = first_words word ++ also_reset word ++ where_set word 0x100 (codes ", halt")

-- the states of a statusword: by bits 0 to 3 and 6, and of two of them by bit 5 (quick stop where
-- 0)
abbrev pub states : List (ℕ × List ℕ)
states =
    (0x00, codes "not ready to switch on") ∷ (0x20, codes "not ready to switch on")
    ∷ (0x40, codes "switch on disabled") ∷ (0x60, codes "switch on disabled")
    ∷ (0x21, codes "ready to switch on") ∷ (0x23, codes "switched on") ∷ (0x27, codes "operation enabled")
    ∷ (0x07, codes "quick stop active")
    ∷ (0x0F, codes "fault reaction active") ∷ (0x2F, codes "fault reaction active")
    ∷ (0x08, codes "fault") ∷ (0x28, codes "fault")
    ∷ []

unfoldable pub state_words : ℕ → List ℕ
state_words bits = words_in states bits

abbrev pub known_or : List ℕ → List ℕ
known_or [] = codes "no state"
known_or (letter ∷ letters) = letter ∷ letters

unfoldable pub statusword_words : ℕ → List ℕ
statusword_words word =
    known_or (state_words (bit_and word 0x6F))
    ++ where_set word 0x080 (codes ", warning") ++ where_set word 0x400 (codes ", target reached")
    ++ where_set word 0x800 (codes ", internal limit")

-- the modes of operation, an INTEGER8; negative ones are the manufacturer's
unfoldable pub mode_words : ℕ → List ℕ
mode_words mode =
    if nat_lt 127 mode then codes "mode of the manufacturer"
    else words_in
    ((0, codes "no mode") ∷ (1, codes "profile position") ∷ (2, codes "velocity") ∷ (3, codes "profile velocity")
    ∷ (4, codes "profile torque") ∷ (6, codes "homing") ∷ (7, codes "interpolated position")
    ∷ (8, codes "cyclic synchronous position") ∷ (9, codes "cyclic synchronous velocity")
    ∷ (10, codes "cyclic synchronous torque")
    ∷ (11, codes "cyclic synchronous torque with commutation angle") ∷ [])
    mode

-- words in brackets, where there are some
abbrev pub bracketed : List ℕ → List ℕ
bracketed [] = []
bracketed (letter ∷ letters) = codes " (" ++ (letter ∷ letters) ++ codes ")"

-- the hexadecimal digits of a word of bits, as a COB-ID has them, before what it means
abbrev pub after_digits : ℕ → List ℕ → List ℕ
after_digits word words = codes " (" ++ digits_text 16 4 word ++ codes ", " ++ words ++ codes ")"

-- what a value means; an error code is one as in an emergency of a drive; a value of another number of bytes
-- means nothing
unfoldable pub word_text : Meaning → ℕ → List ℕ
word_text ErrorCode word = code_words true word
word_text Controlword word = after_digits word (controlword_words word)
word_text Statusword word = after_digits word (statusword_words word)
word_text Mode word = []

abbrev pub meaning_text : Meaning → List ℕ → List ℕ
meaning_text meaning bytes =
    if length bytes == 2 then word_text meaning (unsigned_of bytes)
    else (if is_mode meaning && (length bytes == 1) then bracketed (mode_words (slice_index bytes 0)) else [])

-- what follows the value of an entry of a drive
unfoldable pub drive_words : Key → List ℕ → List ℕ
drive_words key bytes = option_map_or (λ meaning. meaning_text meaning bytes) (meaning_of key) []
