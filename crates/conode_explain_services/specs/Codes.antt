-- Emergency error codes (CiA 301, 7.2.7.1, table 26; of drives also CiA 402, error codes).
use Rattle.std.specs.Prelude.{ℕ, ◌-◌, ◌/◌, ◌%◌, nat_lt, Bool, if◌then◌else◌, List, [], ◌∷◌, codes}
use Rattle.conode_text.specs.Filled.{filled}
use Rattle.conode_explain_services.specs.Parts.{words_in}

-- the classes: the two upper digits of a code
abbrev pub classes : List (ℕ × List ℕ)
classes =
    (0x00, codes "error reset or no error")
    ∷ (0x10, codes "generic error")
    ∷ (0x20, codes "current")
    ∷ (0x21, codes "current, input side")
    ∷ (0x22, codes "current inside the device")
    ∷ (0x23, codes "current, output side")
    ∷ (0x30, codes "voltage")
    ∷ (0x31, codes "mains voltage")
    ∷ (0x32, codes "voltage inside the device")
    ∷ (0x33, codes "output voltage")
    ∷ (0x40, codes "temperature")
    ∷ (0x41, codes "ambient temperature")
    ∷ (0x42, codes "device temperature")
    ∷ (0x50, codes "device hardware")
    ∷ (0x60, codes "device software")
    ∷ (0x61, codes "internal software")
    ∷ (0x62, codes "user software")
    ∷ (0x63, codes "data set")
    ∷ (0x70, codes "additional modules")
    ∷ (0x80, codes "monitoring")
    ∷ (0x81, codes "communication")
    ∷ (0x82, codes "protocol error")
    ∷ (0x90, codes "external error")
    ∷ (0xF0, codes "additional functions")
    ∷ (0xFF, codes "device specific")
    ∷ []

-- the codes of their own, all within 81xx and 82xx
abbrev pub single_codes : List (ℕ × List ℕ)
single_codes =
    (0x8110, codes "CAN overrun, objects lost")
    ∷ (0x8120, codes "CAN in error passive mode")
    ∷ (0x8130, codes "life guard error or heartbeat error")
    ∷ (0x8140, codes "recovered from bus-off")
    ∷ (0x8150, codes "CAN-ID collision")
    ∷ (0x8210, codes "PDO not processed due to length error")
    ∷ (0x8220, codes "PDO length exceeded")
    ∷ (0x8230, codes "DAM MPDO not processed, destination object not available")
    ∷ (0x8240, codes "unexpected SYNC data length")
    ∷ (0x8250, codes "RPDO timeout")
    ∷ []

-- the words of a class
unfoldable pub known_class : ℕ → List ℕ
known_class class = words_in classes class

-- the first class of those with the same first digit, as 70h for 71h; of 00h it is none
abbrev pub group_words : ℕ → List ℕ
group_words class = if nat_lt class 16 then [] else known_class (class - class % 16)

-- words, or where there are none others
abbrev pub or_else : List ℕ → List ℕ → List ℕ
or_else [] others = others
or_else (letter ∷ letters) others = letter ∷ letters

-- a profile or a manufacturer may have more classes: these have the words of their group
abbrev pub class_words : ℕ → List ℕ
class_words class = or_else (known_class class) (group_words class)

-- the words of a code of its own
unfoldable pub single_words : ℕ → List ℕ
single_words code = words_in single_codes code

-- ---- of drives

-- the classes that CiA 402 has beside those of CiA 301
abbrev pub drive_classes : List (ℕ × List ℕ)
drive_classes =
    (0x43, codes "drive temperature") ∷ (0x44, codes "supply temperature") ∷ (0x51, codes "supply")
    ∷ (0x52, codes "control hardware") ∷ (0x53, codes "operating unit") ∷ (0x54, codes "power section")
    ∷ (0x55, codes "data storage") ∷ (0x71, codes "power") ∷ (0x72, codes "measurement circuit")
    ∷ (0x73, codes "sensor") ∷ (0x74, codes "computation circuit") ∷ (0x75, codes "communication module")
    ∷ (0x76, codes "data storage module") ∷ (0x83, codes "torque control") ∷ (0x84, codes "velocity controller")
    ∷ (0x85, codes "position controller") ∷ (0x86, codes "positioning controller")
    ∷ (0x87, codes "synchronisation controller") ∷ (0x88, codes "winding controller")
    ∷ (0x89, codes "process data monitoring") ∷ (0x8A, codes "control") ∷ []

-- the codes of CiA 402
abbrev pub drive_codes : List (ℕ × List ℕ)
drive_codes =
    (0x2110, codes "short circuit or earth leakage") ∷ (0x2120, codes "earth leakage")
    ∷ (0x2130, codes "short circuit") ∷ (0x2211, codes "number 1") ∷ (0x2212, codes "number 2")
    ∷ (0x2213, codes "overcurrent in the ramp function") ∷ (0x2214, codes "overcurrent in the sequence")
    ∷ (0x2220, codes "continuous overcurrent") ∷ (0x2230, codes "short circuit or earth leakage")
    ∷ (0x2240, codes "earth leakage") ∷ (0x2250, codes "short circuit") ∷ (0x2310, codes "continuous overcurrent")
    ∷ (0x2320, codes "short circuit or earth leakage") ∷ (0x2330, codes "earth leakage")
    ∷ (0x2340, codes "short circuit") ∷ (0x2350, codes "load level fault, by I2t or thermal state")
    ∷ (0x2351, codes "load level warning, by I2t or thermal state")
    ∷ (0x3110, codes "overvoltage") ∷ (0x3120, codes "undervoltage")
    ∷ (0x3130, codes "phase failure") ∷ (0x3134, codes "phase sequence") ∷ (0x3140, codes "frequency")
    ∷ (0x3141, codes "frequency too great") ∷ (0x3142, codes "frequency too small")
    ∷ (0x3210, codes "DC link overvoltage") ∷ (0x3220, codes "DC link undervoltage")
    ∷ (0x3230, codes "load error") ∷ (0x3310, codes "overvoltage") ∷ (0x3320, codes "armature circuit")
    ∷ (0x3321, codes "armature circuit interrupted") ∷ (0x3330, codes "field circuit")
    ∷ (0x3331, codes "field circuit interrupted") ∷ (0x4110, codes "too high") ∷ (0x4120, codes "too low")
    ∷ (0x4130, codes "supply air") ∷ (0x4140, codes "air outlet") ∷ (0x4210, codes "too high")
    ∷ (0x4220, codes "too low") ∷ (0x4310, codes "too high") ∷ (0x4320, codes "too low")
    ∷ (0x4410, codes "too high") ∷ (0x4420, codes "too low") ∷ (0x5110, codes "low-voltage supply")
    ∷ (0x5111, codes "+/-15 V supply") ∷ (0x5112, codes "+24 V supply") ∷ (0x5113, codes "+5 V supply")
    ∷ (0x5120, codes "intermediate circuit") ∷ (0x5210, codes "measurement circuit")
    ∷ (0x5220, codes "computing circuit") ∷ (0x5410, codes "output stages") ∷ (0x5420, codes "chopper")
    ∷ (0x5430, codes "input stages") ∷ (0x5440, codes "contacts") ∷ (0x5450, codes "fuses")
    ∷ (0x5510, codes "working memory") ∷ (0x5520, codes "program memory")
    ∷ (0x5530, codes "non-volatile memory") ∷ (0x6010, codes "software reset by the watchdog")
    ∷ (0x6301, codes "number 1") ∷ (0x6302, codes "number 2") ∷ (0x6303, codes "number 3") ∷ (0x6304, codes "number 4") ∷ (0x6305, codes "number 5")
    ∷ (0x6306, codes "number 6") ∷ (0x6307, codes "number 7") ∷ (0x6308, codes "number 8") ∷ (0x6309, codes "number 9") ∷ (0x630A, codes "number 10")
    ∷ (0x630B, codes "number 11") ∷ (0x630C, codes "number 12") ∷ (0x630D, codes "number 13") ∷ (0x630E, codes "number 14") ∷ (0x630F, codes "number 15")
    ∷ (0x6310, codes "loss of parameters") ∷ (0x6320, codes "parameter error") ∷ (0x7110, codes "brake chopper")
    ∷ (0x7111, codes "brake chopper failed") ∷ (0x7112, codes "brake chopper overcurrent")
    ∷ (0x7113, codes "brake chopper protective circuit") ∷ (0x7120, codes "motor")
    ∷ (0x7121, codes "motor blocked") ∷ (0x7122, codes "motor error or commutation malfunction")
    ∷ (0x7123, codes "motor tilted") ∷ (0x7301, codes "tacho fault")
    ∷ (0x7302, codes "tacho with wrong polarity") ∷ (0x7303, codes "resolver 1 fault")
    ∷ (0x7304, codes "resolver 2 fault") ∷ (0x7305, codes "incremental sensor 1 fault")
    ∷ (0x7306, codes "incremental sensor 2 fault") ∷ (0x7307, codes "incremental sensor 3 fault")
    ∷ (0x7310, codes "speed") ∷ (0x7320, codes "position") ∷ (0x7510, codes "serial interface 1")
    ∷ (0x7520, codes "serial interface 2") ∷ (0x8311, codes "excess torque")
    ∷ (0x8312, codes "difficult start-up") ∷ (0x8313, codes "standstill torque")
    ∷ (0x8321, codes "insufficient torque") ∷ (0x8331, codes "torque fault") ∷ (0x8611, codes "following error")
    ∷ (0x8612, codes "reference limit") ∷ (0xF001, codes "deceleration") ∷ (0xF002, codes "sub-synchronous run")
    ∷ (0xF003, codes "stroke operation") ∷ (0xF004, codes "control") ∷ []

unfoldable pub drive_class_words : ℕ → List ℕ
drive_class_words class = words_in drive_classes class

unfoldable pub drive_code_words : ℕ → List ℕ
drive_code_words code = words_in drive_codes code

-- of a code that the table lacks those of the one that ends with 0: the last digit then tells a phase or
-- a number, as 1 to 3 in 2121h to 2123h
abbrev pub drive_single : ℕ → List ℕ
drive_single code = or_else (drive_code_words code) (drive_code_words (code - code % 16))

-- ---- what a code says

abbrev pub if_drive : Bool → List ℕ → List ℕ
if_drive drive words = if drive then words else []

-- of a device that is a drive, or isn't
abbrev pub class_for : Bool → ℕ → List ℕ
class_for drive class = or_else (if_drive drive (drive_class_words class)) (class_words class)

abbrev pub single_for : Bool → ℕ → List ℕ
single_for drive code = or_else (single_words code) (if_drive drive (drive_single code))

-- both in brackets; nothing where the standard doesn't have the group
abbrev pub in_brackets : List ℕ → List ℕ → List ℕ
in_brackets [] single = []
in_brackets (letter ∷ letters) [] = filled (codes " (%)") ((letter ∷ letters) ∷ [])
in_brackets (letter ∷ letters) (first ∷ others) = filled (codes " (%: %)") ((letter ∷ letters) ∷ (first ∷ others) ∷ [])

unfoldable pub code_words : Bool → ℕ → List ℕ
code_words drive code = in_brackets (class_for drive (code / 256)) (single_for drive code)
