-- What an error frame says: the fault that the controller of the recorder reports, by the class in its identifier and its eight bytes, as
-- SocketCAN has them (linux/can/error.h).
use Rattle.std.specs.Prelude.{ℕ, ◌-◌, ◌/◌, ◌%◌, ◌==◌, ◌&&◌, if◌then◌else◌, bit_and, List, [], ◌∷◌, ◌++◌, codes, decimal, length, slice_index}
use Rattle.std.specs.List.{flat_map}
use Rattle.conode_text.specs.Filled.{filled}
use Rattle.conode_explain_services.specs.Parts.{words_in}

-- ---- bits that have words

-- the words of a bit where it is set, after a comma unless it is the lowest one that is
unfoldable pub flag_text : ℕ → ℕ × List ℕ → List ℕ
flag_text bits flag =
    if bit_and bits flag.0 == 0 then []
    else (if bit_and bits (flag.0 - 1) == 0 then flag.1 else codes ", " ++ flag.1)

-- those of all that are set; the flags are the lowest bits, from the first on
abbrev pub flags_text : List (ℕ × List ℕ) → ℕ → List ℕ
flags_text flags bits = flat_map (flag_text bits) flags

-- in brackets, where one of the bits that have words is set
abbrev pub flags_in_brackets : ℕ → List (ℕ × List ℕ) → ℕ → List ℕ
flags_in_brackets all flags bits =
    if bit_and bits all == 0 then [] else codes " (" ++ flags_text flags bits ++ codes ")"

-- ---- what the bytes say

-- byte 0 of lost arbitration: the bit, from 1; 0 where it isn't known
abbrev pub lost_words : ℕ → List ℕ
lost_words bit = if bit == 0 then [] else codes " at bit " ++ decimal bit

-- byte 1: the state of the controller; bit 7 has no meaning
unfoldable pub controller_words : ℕ → List ℕ
controller_words states =
    flags_in_brackets 0x7F
    ((0x01, codes "receive buffer overflow") ∷ (0x02, codes "transmit buffer overflow") ∷ (0x04, codes "receive error warning")
    ∷ (0x08, codes "transmit error warning") ∷ (0x10, codes "receive error passive") ∷ (0x20, codes "transmit error passive")
    ∷ (0x40, codes "error active again") ∷ [])
    states

-- byte 2: what was violated
unfoldable pub violation_words : ℕ → List ℕ
violation_words kinds =
    flags_in_brackets 0xFF
    ((0x01, codes "single bit error") ∷ (0x02, codes "form error") ∷ (0x04, codes "stuff error") ∷ (0x08, codes "dominant bit not sent")
    ∷ (0x10, codes "recessive bit not sent") ∷ (0x20, codes "overload") ∷ (0x40, codes "active error flag")
    ∷ (0x80, codes "on transmission") ∷ [])
    kinds

-- byte 3: at which part of a frame; the identifier's bits are those of 29
unfoldable pub place_words : ℕ → List ℕ
place_words place =
    words_in
    ((0x02, codes " at identifier bits 28 to 21") ∷ (0x03, codes " at the start of frame") ∷ (0x04, codes " at the SRR bit or RTR bit")
    ∷ (0x05, codes " at the IDE bit") ∷ (0x06, codes " at identifier bits 20 to 18") ∷ (0x07, codes " at identifier bits 17 to 13")
    ∷ (0x08, codes " at the CRC") ∷ (0x09, codes " at reserved bit 0") ∷ (0x0A, codes " at the data") ∷ (0x0B, codes " at the length code")
    ∷ (0x0C, codes " at the RTR bit") ∷ (0x0D, codes " at reserved bit 1") ∷ (0x0E, codes " at identifier bits 4 to 0")
    ∷ (0x0F, codes " at identifier bits 12 to 5") ∷ (0x12, codes " at the intermission") ∷ (0x18, codes " at the CRC delimiter")
    ∷ (0x19, codes " at the ACK slot") ∷ (0x1A, codes " at the end of frame") ∷ (0x1B, codes " at the ACK delimiter") ∷ [])
    place

-- byte 4: the state of the transceiver's wires, CANH in bits 0 to 3
unfoldable pub canh_words : ℕ → List ℕ
canh_words state =
    words_in
    ((4, codes "CANH not connected") ∷ (5, codes "CANH shorted to the battery") ∷ (6, codes "CANH shorted to the supply")
    ∷ (7, codes "CANH shorted to ground") ∷ [])
    (state % 16)

-- CANL in bits 4 to 7
unfoldable pub canl_words : ℕ → List ℕ
canl_words state =
    words_in
    ((4, codes "CANL not connected") ∷ (5, codes "CANL shorted to the battery") ∷ (6, codes "CANL shorted to the supply")
    ∷ (7, codes "CANL shorted to ground") ∷ (8, codes "CANL shorted to CANH") ∷ [])
    (state / 16)

-- either in brackets, or both
abbrev pub either_in_brackets : List ℕ → List ℕ → List ℕ
either_in_brackets [] [] = []
either_in_brackets (letter ∷ letters) [] = filled (codes " (%)") ((letter ∷ letters) ∷ [])
either_in_brackets [] (letter ∷ letters) = filled (codes " (%)") ((letter ∷ letters) ∷ [])
either_in_brackets (a ∷ first) (b ∷ second) = filled (codes " (%, %)") ((a ∷ first) ∷ (b ∷ second) ∷ [])

abbrev pub wire_words : ℕ → List ℕ
wire_words state = either_in_brackets (canh_words state) (canl_words state)

-- bytes 6 and 7: the error counters
unfoldable pub counter_words : ℕ → ℕ → List ℕ
counter_words sent received = filled (codes " (transmit %, receive %)") (decimal sent ∷ decimal received ∷ [])

-- those of a class
unfoldable pub detail_words : ℕ → List ℕ → List ℕ
detail_words class bytes =
    if class == 0x002 then lost_words (slice_index bytes 0)
    else (if class == 0x004 then controller_words (slice_index bytes 1)
    else (if class == 0x008 then violation_words (slice_index bytes 2) ++ place_words (slice_index bytes 3)
    else (if class == 0x010 then wire_words (slice_index bytes 4)
    else (if class == 0x200 then counter_words (slice_index bytes 6) (slice_index bytes 7) else []))))

-- ---- the classes

-- a class that is reported, with what the bytes say of it, if there are eight
unfoldable pub class_text : ℕ → List ℕ → ℕ × List ℕ → List ℕ
class_text reported bytes class =
    flag_text reported class ++ (if (bit_and reported class.0 == class.0) && (length bytes == 8) then detail_words class.0 bytes else [])

abbrev pub classes : List (ℕ × List ℕ)
classes =
    (0x001, codes "transmit timeout") ∷ (0x002, codes "lost arbitration") ∷ (0x004, codes "controller problem")
    ∷ (0x008, codes "protocol violation") ∷ (0x010, codes "transceiver problem") ∷ (0x020, codes "no acknowledgement")
    ∷ (0x040, codes "bus off") ∷ (0x080, codes "bus error") ∷ (0x100, codes "controller restarted") ∷ (0x200, codes "error counters") ∷ []

unfoldable pub classes_text : ℕ → List ℕ → List ℕ
classes_text reported bytes = flat_map (class_text reported bytes) classes

abbrev pub reported_text : ℕ → List ℕ → List ℕ
reported_text reported bytes = if reported == 0 then [] else codes ": " ++ classes_text reported bytes

-- what an error frame says; bits above those of the classes mean nothing
unfoldable pub error_words : ℕ → List ℕ → List ℕ
error_words class bytes = codes "error frame" ++ reported_text (class % 0x400) bytes
