-- What values of a drive's entries mean, computed from the definitions on both sides of each edge.
use Rattle.std.proofs.Common.{◌≡◌, ℕ, true, false, List, [], ◌∷◌, refl, map}
use Rattle.std.specs.Prelude.{codes}
use Rattle.co_text.specs.Printed.{digits_text}
use Rattle.conode_text.specs.Filled.{filled}
use Rattle.conode_explain_services.specs.Codes.{code_words, drive_class_words, drive_code_words, known_class, single_words}
use Rattle.conode_explain_services.specs.Drives.{command_words, controlword_words, drive_words, has_meaning, is_drive, meaning_at, mode_words, state_words, statusword_words, word_text}

drives : map is_drive (0x00020192 ∷ 0x00000192 ∷ 0x00000191 ∷ 0x01920000 ∷ 0x00000193 ∷ []) ≡ true ∷ true ∷ false ∷ false ∷ false ∷ []
drives = refl

-- the second axis has them 800h later; a sub-index has none
meaning_of_keys : map {A = ℕ × ℕ} (λ key. has_meaning (record { index = key.0; sub = key.1 })) ((0x6041, 0) ∷ (0x6841, 0) ∷ (0x6041, 1) ∷ (0x6042, 0) ∷ []) ≡ true ∷ true ∷ false ∷ false ∷ []
unfolding meaning_at
meaning_of_keys = refl

abbrev means : ℕ → List ℕ → List ℕ
means index bytes = drive_words (record { index = index; sub = 0 }) bytes

-- ---- the controlword: with other bits on both sides
controls : map (λ low. means 0x6040 (low ∷ 0x00 ∷ []))
    (0x06 ∷ 0x0E ∷ 0x07 ∷ 0x0F ∷ 0x1F ∷ 0x00 ∷ 0x0D ∷ 0x02 ∷ 0x0B ∷ 0x80 ∷ 0xF0 ∷ 0x81 ∷ 0x82 ∷ 0x86 ∷ 0x88 ∷ 0x8F ∷ [])
    ≡ codes " (0006, shutdown)" ∷ codes " (000E, shutdown)" ∷ codes " (0007, switch on or disable operation)" ∷ codes " (000F, enable operation)"
    ∷ codes " (001F, enable operation)" ∷ codes " (0000, disable voltage)" ∷ codes " (000D, disable voltage)"
    ∷ codes " (0002, quick stop)" ∷ codes " (000B, quick stop)" ∷ codes " (0080, fault reset)" ∷ codes " (00F0, fault reset)"
    ∷ codes " (0081, disable voltage, fault reset)" ∷ codes " (0082, quick stop, fault reset)" ∷ codes " (0086, shutdown, fault reset)"
    ∷ codes " (0088, disable voltage, fault reset)" ∷ codes " (008F, enable operation, fault reset)" ∷ []
unfolding drive_words meaning_at word_text controlword_words command_words digits_text
controls = refl

halted : map (λ low. means 0x6040 (low ∷ 0x01 ∷ [])) (0x0F ∷ 0x80 ∷ 0x8F ∷ [])
    ≡ codes " (010F, enable operation, halt)" ∷ codes " (0180, fault reset, halt)" ∷ codes " (018F, enable operation, fault reset, halt)" ∷ []
unfolding drive_words meaning_at word_text controlword_words command_words digits_text
halted = refl

-- ---- the statusword
states : map (λ low. means 0x6041 (low ∷ 0x02 ∷ []))
    (0x00 ∷ 0x20 ∷ 0x40 ∷ 0x60 ∷ 0x50 ∷ 0x21 ∷ 0x23 ∷ 0x27 ∷ 0x37 ∷ 0x07 ∷ 0x0F ∷ 0x2F ∷ 0x08 ∷ 0x28 ∷ 0x01 ∷ 0x03 ∷ 0x67 ∷ 0x48 ∷ [])
    ≡ codes " (0200, not ready to switch on)" ∷ codes " (0220, not ready to switch on)" ∷ codes " (0240, switch on disabled)"
    ∷ codes " (0260, switch on disabled)" ∷ codes " (0250, switch on disabled)" ∷ codes " (0221, ready to switch on)"
    ∷ codes " (0223, switched on)" ∷ codes " (0227, operation enabled)" ∷ codes " (0237, operation enabled)"
    ∷ codes " (0207, quick stop active)" ∷ codes " (020F, fault reaction active)" ∷ codes " (022F, fault reaction active)"
    ∷ codes " (0208, fault)" ∷ codes " (0228, fault)" ∷ codes " (0201, no state)" ∷ codes " (0203, no state)"
    ∷ codes " (0267, no state)" ∷ codes " (0248, no state)" ∷ []
unfolding drive_words meaning_at word_text statusword_words state_words digits_text
states = refl

flags : map (λ high. means 0x6041 (0xA7 ∷ high ∷ [])) (0x00 ∷ 0x04 ∷ 0x08 ∷ 0x0C ∷ 0xF3 ∷ [])
    ≡ codes " (00A7, operation enabled, warning)" ∷ codes " (04A7, operation enabled, warning, target reached)"
    ∷ codes " (08A7, operation enabled, warning, internal limit)"
    ∷ codes " (0CA7, operation enabled, warning, target reached, internal limit)" ∷ codes " (F3A7, operation enabled, warning)" ∷ []
unfolding drive_words meaning_at word_text statusword_words state_words digits_text
flags = refl

-- ---- modes, and the error code
modes : map (λ mode. means 0x6060 (mode ∷ [])) (0 ∷ 1 ∷ 2 ∷ 3 ∷ 4 ∷ 5 ∷ 6 ∷ 7 ∷ 8 ∷ 9 ∷ 10 ∷ 11 ∷ 12 ∷ 127 ∷ 128 ∷ 255 ∷ [])
    ≡ codes " (no mode)" ∷ codes " (profile position)" ∷ codes " (velocity)" ∷ codes " (profile velocity)" ∷ codes " (profile torque)"
    ∷ [] ∷ codes " (homing)" ∷ codes " (interpolated position)" ∷ codes " (cyclic synchronous position)"
    ∷ codes " (cyclic synchronous velocity)" ∷ codes " (cyclic synchronous torque)"
    ∷ codes " (cyclic synchronous torque with commutation angle)" ∷ [] ∷ [] ∷ codes " (mode of the manufacturer)"
    ∷ codes " (mode of the manufacturer)" ∷ []
unfolding drive_words meaning_at mode_words
modes = refl

displayed : means 0x6061 (8 ∷ []) ≡ codes " (cyclic synchronous position)"
unfolding drive_words meaning_at mode_words
displayed = refl

error_code : map (λ high. means 0x603F (0x10 ∷ high ∷ [])) (0x23 ∷ 0x81 ∷ 0x71 ∷ 0xA1 ∷ [])
    ≡ codes " (current, output side: continuous overcurrent)" ∷ codes " (communication: CAN overrun, objects lost)"
    ∷ codes " (power: brake chopper)" ∷ [] ∷ []
unfolding drive_words meaning_at word_text code_words known_class single_words drive_class_words drive_code_words filled
error_code = refl

-- ---- the codes of CiA 402, each by its number
codes_of_currents : map drive_code_words
    (0x2110 ∷ 0x2120 ∷ 0x2130 ∷ 0x2211 ∷ 0x2212 ∷ 0x2213 ∷ 0x2214 ∷ 0x2220 ∷ 0x2230 ∷ 0x2240 ∷ 0x2250 ∷ 0x2310 ∷ 0x2320 ∷ 0x2330 ∷ 0x2340 ∷ 0x2350 ∷ 0x2351 ∷ [])
    ≡ codes "short circuit or earth leakage" ∷ codes "earth leakage" ∷ codes "short circuit" ∷ codes "number 1" ∷ codes "number 2"
    ∷ codes "overcurrent in the ramp function"
    ∷ codes "overcurrent in the sequence" ∷ codes "continuous overcurrent" ∷ codes "short circuit or earth leakage"
    ∷ codes "earth leakage" ∷ codes "short circuit" ∷ codes "continuous overcurrent" ∷ codes "short circuit or earth leakage"
    ∷ codes "earth leakage" ∷ codes "short circuit" ∷ codes "load level fault, by I2t or thermal state"
    ∷ codes "load level warning, by I2t or thermal state" ∷ []
unfolding drive_code_words
codes_of_currents = refl

codes_of_voltages : map drive_code_words
    (0x3110 ∷ 0x3120 ∷ 0x3130 ∷ 0x3134 ∷ 0x3140 ∷ 0x3141 ∷ 0x3142 ∷ 0x3210 ∷ 0x3220 ∷ 0x3230 ∷ 0x3310 ∷ 0x3320 ∷ 0x3321 ∷ 0x3330 ∷ 0x3331 ∷ [])
    ≡ codes "overvoltage" ∷ codes "undervoltage" ∷ codes "phase failure" ∷ codes "phase sequence" ∷ codes "frequency"
    ∷ codes "frequency too great" ∷ codes "frequency too small" ∷ codes "DC link overvoltage" ∷ codes "DC link undervoltage"
    ∷ codes "load error" ∷ codes "overvoltage" ∷ codes "armature circuit" ∷ codes "armature circuit interrupted"
    ∷ codes "field circuit" ∷ codes "field circuit interrupted" ∷ []
unfolding drive_code_words
codes_of_voltages = refl

codes_of_temperatures : map drive_code_words
    (0x4110 ∷ 0x4120 ∷ 0x4130 ∷ 0x4140 ∷ 0x4210 ∷ 0x4220 ∷ 0x4310 ∷ 0x4320 ∷ 0x4410 ∷ 0x4420 ∷ [])
    ≡ codes "too high" ∷ codes "too low" ∷ codes "supply air" ∷ codes "air outlet" ∷ codes "too high" ∷ codes "too low"
    ∷ codes "too high" ∷ codes "too low" ∷ codes "too high" ∷ codes "too low" ∷ []
unfolding drive_code_words
codes_of_temperatures = refl

codes_of_hardware : map drive_code_words
    (0x5110 ∷ 0x5111 ∷ 0x5112 ∷ 0x5113 ∷ 0x5120 ∷ 0x5210 ∷ 0x5220 ∷ 0x5410 ∷ 0x5420 ∷ 0x5430 ∷ 0x5440 ∷ 0x5450 ∷ 0x5510 ∷ 0x5520 ∷ 0x5530 ∷ [])
    ≡ codes "low-voltage supply" ∷ codes "+/-15 V supply" ∷ codes "+24 V supply" ∷ codes "+5 V supply" ∷ codes "intermediate circuit"
    ∷ codes "measurement circuit" ∷ codes "computing circuit" ∷ codes "output stages" ∷ codes "chopper" ∷ codes "input stages"
    ∷ codes "contacts" ∷ codes "fuses" ∷ codes "working memory" ∷ codes "program memory" ∷ codes "non-volatile memory" ∷ []
unfolding drive_code_words
codes_of_hardware = refl

codes_of_data_records : map drive_code_words
    (0x6300 ∷ 0x6301 ∷ 0x6302 ∷ 0x6303 ∷ 0x6304 ∷ 0x6305 ∷ 0x6306 ∷ 0x6307 ∷ 0x6308 ∷ 0x6309 ∷ 0x630A ∷ 0x630B ∷ 0x630C ∷ 0x630D ∷ 0x630E ∷ 0x630F ∷ [])
    ≡ [] ∷ codes "number 1" ∷ codes "number 2" ∷ codes "number 3" ∷ codes "number 4" ∷ codes "number 5" ∷ codes "number 6"
    ∷ codes "number 7" ∷ codes "number 8" ∷ codes "number 9" ∷ codes "number 10" ∷ codes "number 11" ∷ codes "number 12"
    ∷ codes "number 13" ∷ codes "number 14" ∷ codes "number 15" ∷ []
unfolding drive_code_words
codes_of_data_records = refl

codes_of_software_and_modules : map drive_code_words
    (0x6010 ∷ 0x6310 ∷ 0x6320 ∷ 0x7110 ∷ 0x7111 ∷ 0x7112 ∷ 0x7113 ∷ 0x7120 ∷ 0x7121 ∷ 0x7122 ∷ 0x7123 ∷ [])
    ≡ codes "software reset by the watchdog" ∷ codes "loss of parameters" ∷ codes "parameter error" ∷ codes "brake chopper"
    ∷ codes "brake chopper failed" ∷ codes "brake chopper overcurrent" ∷ codes "brake chopper protective circuit" ∷ codes "motor"
    ∷ codes "motor blocked" ∷ codes "motor error or commutation malfunction" ∷ codes "motor tilted" ∷ []
unfolding drive_code_words
codes_of_software_and_modules = refl

codes_of_sensors : map drive_code_words
    (0x7301 ∷ 0x7302 ∷ 0x7303 ∷ 0x7304 ∷ 0x7305 ∷ 0x7306 ∷ 0x7307 ∷ 0x7310 ∷ 0x7320 ∷ 0x7510 ∷ 0x7520 ∷ [])
    ≡ codes "tacho fault" ∷ codes "tacho with wrong polarity" ∷ codes "resolver 1 fault" ∷ codes "resolver 2 fault"
    ∷ codes "incremental sensor 1 fault" ∷ codes "incremental sensor 2 fault" ∷ codes "incremental sensor 3 fault" ∷ codes "speed"
    ∷ codes "position" ∷ codes "serial interface 1" ∷ codes "serial interface 2" ∷ []
unfolding drive_code_words
codes_of_sensors = refl

codes_of_control : map drive_code_words
    (0x8311 ∷ 0x8312 ∷ 0x8313 ∷ 0x8321 ∷ 0x8331 ∷ 0x8611 ∷ 0x8612 ∷ 0xF001 ∷ 0xF002 ∷ 0xF003 ∷ 0xF004 ∷ [])
    ≡ codes "excess torque" ∷ codes "difficult start-up" ∷ codes "standstill torque" ∷ codes "insufficient torque"
    ∷ codes "torque fault" ∷ codes "following error" ∷ codes "reference limit" ∷ codes "deceleration"
    ∷ codes "sub-synchronous run" ∷ codes "stroke operation" ∷ codes "control" ∷ []
unfolding drive_code_words
codes_of_control = refl

-- and none beside them, where no group of a table begins
codes_beside : map drive_code_words (0x2111 ∷ 0x3135 ∷ 0x5114 ∷ 0x6300 ∷ 0x7114 ∷ 0x7308 ∷ 0x7500 ∷ 0x8613 ∷ 0xF005 ∷ [])
    ≡ [] ∷ [] ∷ [] ∷ [] ∷ [] ∷ [] ∷ [] ∷ [] ∷ [] ∷ []
unfolding drive_code_words
codes_beside = refl

-- ---- which entries: each axis, and beside; sub-indices; other numbers of bytes
axes : map (λ index. means index (0x06 ∷ 0 ∷ [])) (0x6840 ∷ 0x9840 ∷ 0x5840 ∷ 0xA040 ∷ 0x6042 ∷ 0x603E ∷ [])
    ≡ codes " (0006, shutdown)" ∷ codes " (0006, shutdown)" ∷ [] ∷ [] ∷ [] ∷ [] ∷ []
unfolding drive_words meaning_at word_text controlword_words command_words digits_text
axes = refl

no_sub_index : drive_words (record { index = 0x6040; sub = 1 }) (0x06 ∷ 0 ∷ []) ≡ []
unfolding drive_words
no_sub_index = refl

other_widths : means 0x6040 (0x06 ∷ []) ≡ []
unfolding drive_words meaning_at
other_widths = refl

three_bytes : means 0x6041 (0x27 ∷ 0 ∷ 0 ∷ []) ≡ []
unfolding drive_words meaning_at
three_bytes = refl

two_bytes_of_a_mode : means 0x6060 (0x01 ∷ 0 ∷ []) ≡ []
unfolding drive_words meaning_at word_text
two_bytes_of_a_mode = refl
