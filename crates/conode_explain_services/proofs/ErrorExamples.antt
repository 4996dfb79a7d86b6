-- What error frames say, computed from the definitions on both sides of each edge; the numbers are those of linux/can/error.h.
use Rattle.std.proofs.Common.{◌≡◌, ℕ, List, [], ◌∷◌, refl, map}
use Rattle.std.specs.Prelude.{codes}
use Rattle.std.specs.Fmt.{digits}
use Rattle.conode_text.specs.Filled.{filled}
use Rattle.conode_explain_services.specs.ErrorFrames.{canh_words, canl_words, class_text, classes_text, controller_words, counter_words, detail_words, error_words, flag_text, place_words, violation_words, wire_words}

-- each class with bytes of 0: bit 10 has no meaning, alone or beside another; and no class
abbrev plain : ℕ → List ℕ
plain class = error_words class (0x00 ∷ 0x00 ∷ 0x00 ∷ 0x00 ∷ 0x00 ∷ 0x00 ∷ 0x00 ∷ 0x00 ∷ [])

each_class : map plain (0x001 ∷ 0x002 ∷ 0x004 ∷ 0x008 ∷ 0x010 ∷ 0x020 ∷ 0x040 ∷ 0x080 ∷ 0x100 ∷ 0x200 ∷ 0x400 ∷ 0x480 ∷ 0x1FFFFC00 ∷ 0x000 ∷ [])
    ≡ codes "error frame: transmit timeout" ∷ codes "error frame: lost arbitration" ∷ codes "error frame: controller problem"
    ∷ codes "error frame: protocol violation" ∷ codes "error frame: transceiver problem" ∷ codes "error frame: no acknowledgement"
    ∷ codes "error frame: bus off" ∷ codes "error frame: bus error" ∷ codes "error frame: controller restarted"
    ∷ codes "error frame: error counters (transmit 0, receive 0)" ∷ codes "error frame" ∷ codes "error frame: bus error"
    ∷ codes "error frame" ∷ codes "error frame" ∷ []
unfolding error_words classes_text class_text flag_text detail_words controller_words violation_words place_words canh_words canl_words counter_words filled digits
each_class = refl

-- several, the lowest first, each with its own byte; the counters of a transmitter that nobody acknowledges
several : error_words 0x2A4 (0x05 ∷ 0x30 ∷ 0x04 ∷ 0x19 ∷ 0x40 ∷ 0xFF ∷ 0x80 ∷ 0x07 ∷ [])
    ≡ codes "error frame: controller problem (receive error passive, transmit error passive), no acknowledgement, bus error, error counters (transmit 128, receive 7)"
unfolding error_words classes_text class_text flag_text detail_words controller_words violation_words place_words canh_words canl_words counter_words filled digits
several = refl

-- each byte
bytes_of_each : map (λ class. error_words class (0x05 ∷ 0x08 ∷ 0x84 ∷ 0x18 ∷ 0x40 ∷ 0xFF ∷ 0x60 ∷ 0x61 ∷ [])) (0x01 ∷ 0x02 ∷ 0x04 ∷ 0x08 ∷ 0x10 ∷ 0x20 ∷ 0x40 ∷ 0x80 ∷ 0x100 ∷ 0x200 ∷ [])
    ≡ codes "error frame: transmit timeout" ∷ codes "error frame: lost arbitration at bit 5" ∷ codes "error frame: controller problem (transmit error warning)"
    ∷ codes "error frame: protocol violation (stuff error, on transmission) at the CRC delimiter" ∷ codes "error frame: transceiver problem (CANL not connected)"
    ∷ codes "error frame: no acknowledgement" ∷ codes "error frame: bus off" ∷ codes "error frame: bus error" ∷ codes "error frame: controller restarted"
    ∷ codes "error frame: error counters (transmit 96, receive 97)" ∷ []
unfolding error_words classes_text class_text flag_text detail_words controller_words violation_words place_words canh_words canl_words counter_words filled digits
bytes_of_each = refl

-- of another number of bytes only the class counts
seven_bytes : error_words 0x204 (0x05 ∷ 0x08 ∷ 0x84 ∷ 0x18 ∷ 0x40 ∷ 0xFF ∷ 0x60 ∷ []) ≡ codes "error frame: controller problem, error counters"
unfolding error_words classes_text class_text flag_text
seven_bytes = refl

no_bytes : error_words 0x002 [] ≡ codes "error frame: lost arbitration"
unfolding error_words classes_text class_text flag_text
no_bytes = refl

-- the state of the controller: each bit, all, none; bit 7 has no meaning
controllers : map controller_words (0x01 ∷ 0x02 ∷ 0x04 ∷ 0x08 ∷ 0x10 ∷ 0x20 ∷ 0x40 ∷ 0x80 ∷ 0x00 ∷ 0xC1 ∷ [])
    ≡ codes " (receive buffer overflow)" ∷ codes " (transmit buffer overflow)" ∷ codes " (receive error warning)" ∷ codes " (transmit error warning)"
    ∷ codes " (receive error passive)" ∷ codes " (transmit error passive)" ∷ codes " (error active again)" ∷ [] ∷ []
    ∷ codes " (receive buffer overflow, error active again)" ∷ []
unfolding controller_words flag_text
controllers = refl

-- what was violated: each bit, two, none
violations : map violation_words (0x01 ∷ 0x02 ∷ 0x04 ∷ 0x08 ∷ 0x10 ∷ 0x20 ∷ 0x40 ∷ 0x80 ∷ 0x00 ∷ 0x82 ∷ [])
    ≡ codes " (single bit error)" ∷ codes " (form error)" ∷ codes " (stuff error)" ∷ codes " (dominant bit not sent)" ∷ codes " (recessive bit not sent)"
    ∷ codes " (overload)" ∷ codes " (active error flag)" ∷ codes " (on transmission)" ∷ [] ∷ codes " (form error, on transmission)" ∷ []
unfolding violation_words flag_text
violations = refl

-- where: each place, and numbers beside them that have none
places : map place_words (0x02 ∷ 0x03 ∷ 0x04 ∷ 0x05 ∷ 0x06 ∷ 0x07 ∷ 0x08 ∷ 0x09 ∷ 0x0A ∷ 0x0B ∷ 0x0C ∷ 0x0D ∷ 0x0E ∷ 0x0F ∷ 0x12 ∷ 0x18 ∷ 0x19 ∷ 0x1A ∷ 0x1B ∷ [])
    ≡ codes " at identifier bits 28 to 21" ∷ codes " at the start of frame" ∷ codes " at the SRR bit or RTR bit" ∷ codes " at the IDE bit"
    ∷ codes " at identifier bits 20 to 18" ∷ codes " at identifier bits 17 to 13" ∷ codes " at the CRC" ∷ codes " at reserved bit 0" ∷ codes " at the data"
    ∷ codes " at the length code" ∷ codes " at the RTR bit" ∷ codes " at reserved bit 1" ∷ codes " at identifier bits 4 to 0"
    ∷ codes " at identifier bits 12 to 5" ∷ codes " at the intermission" ∷ codes " at the CRC delimiter" ∷ codes " at the ACK slot"
    ∷ codes " at the end of frame" ∷ codes " at the ACK delimiter" ∷ []
unfolding place_words
places = refl

no_places : map place_words (0x00 ∷ 0x01 ∷ 0x10 ∷ 0x11 ∷ 0x13 ∷ 0x17 ∷ 0x1C ∷ 0xFF ∷ []) ≡ [] ∷ [] ∷ [] ∷ [] ∷ [] ∷ [] ∷ [] ∷ [] ∷ []
unfolding place_words
no_places = refl

-- the wires: each state of either, both of them, and numbers that have no words, alone or beside others
wires : map wire_words (0x04 ∷ 0x05 ∷ 0x06 ∷ 0x07 ∷ 0x40 ∷ 0x50 ∷ 0x60 ∷ 0x70 ∷ 0x80 ∷ 0x00 ∷ 0x03 ∷ 0x08 ∷ 0x30 ∷ 0x90 ∷ 0x44 ∷ 0x87 ∷ 0x94 ∷ 0x48 ∷ [])
    ≡ codes " (CANH not connected)" ∷ codes " (CANH shorted to the battery)" ∷ codes " (CANH shorted to the supply)" ∷ codes " (CANH shorted to ground)"
    ∷ codes " (CANL not connected)" ∷ codes " (CANL shorted to the battery)" ∷ codes " (CANL shorted to the supply)" ∷ codes " (CANL shorted to ground)"
    ∷ codes " (CANL shorted to CANH)" ∷ [] ∷ [] ∷ [] ∷ [] ∷ [] ∷ codes " (CANH not connected, CANL not connected)"
    ∷ codes " (CANH shorted to ground, CANL shorted to CANH)" ∷ codes " (CANH not connected)" ∷ codes " (CANL not connected)" ∷ []
unfolding canh_words canl_words filled
wires = refl
