-- What services say, computed from the definitions on both sides of each edge.
use Rattle.std.proofs.Common.{◌≡◌, ℕ, true, false, List, [], ◌∷◌, refl, Some, None, map}
use Rattle.std.specs.Prelude.{codes, replicate, Option}
use Rattle.std.specs.Fmt.{digits}
use Rattle.co_text.specs.Printed.{digits_text}
use Rattle.conode_text.specs.Filled.{filled}
use Rattle.conode_explain_services.specs.declared.guarding.Guarding.{Guarding}
use Rattle.conode_explain_services.specs.declared.guarding.Guarding.TheVariants.{NotSeen, BootedUp, Requested, Answered}
use Rattle.conode_explain_services.specs.declared.nmt_state.KnownState.TheVariants.{Unknown, Commanded, CommandedOfAll}
use Rattle.conode_explain_services.specs.declared.nmt_state.NmtState.TheVariants.{Operational}
use Rattle.conode_explain_services.specs.declared.last.Last.{Last}
use Rattle.conode_explain_services.specs.Codes.{class_for, class_words, code_words, drive_class_words, drive_code_words, known_class, single_words}
use Rattle.conode_explain_services.specs.Emergencies.{emergency_words}
use Rattle.conode_explain_services.specs.Guardings.{guarding_answer_words, guarding_request_words, no_state_words, state_words}
use Rattle.conode_explain_services.specs.Lengths.{fixed_at, odd_length}
use Rattle.conode_explain_services.specs.Lss.{answer_parameter, answer_words, lss_answer_words, lss_request_words, lss_text, failure_text, mode_words, node_failure, outcome_text, parameter_text, part_text, part_words, rate_words, request_parameter, request_words, scan_text, store_failure, timing_failure, timing_text}
use Rattle.conode_explain_services.specs.NmtStates.{command_name, long_for_all, long_for_one, shown_words, state_at}
use Rattle.conode_explain_services.specs.Nodes.{nothing_seen}
use Rattle.conode_explain_services.specs.Registers.{bit_text, bit_word, bits_text, register_text}
use Rattle.conode_explain_services.specs.Reserved.{is_reserved, reserved_words}
use Rattle.conode_explain_services.specs.Times.{time_words}
use Rattle.conode_explain_text.specs.Dates.{date_in_year, date_of, day_of_year, year_of_cycle}
use Rattle.conode_explain_text.specs.Stamps.{date_text, time_of_day_text}
use Rattle.conode_explain_values.specs.Times.{moment_text, ms_text}
use Rattle.conode_explain_values.specs.Values.{value_text}
use Rattle.conode_explain_services.specs.Services.{remote_words, service_words}

-- ---- emergency error codes

-- each class; those beside them have the words of their group, and some have none
each_class : map class_words (0x00 ∷ 0x10 ∷ 0x20 ∷ 0x21 ∷ 0x22 ∷ 0x23 ∷ 0x30 ∷ 0x31 ∷ 0x32 ∷ 0x33 ∷ 0x40 ∷ 0x41 ∷ 0x42 ∷ 0x50
    ∷ 0x60 ∷ 0x61 ∷ 0x62 ∷ 0x63 ∷ 0x70 ∷ 0x80 ∷ 0x81 ∷ 0x82 ∷ 0x90 ∷ 0xF0 ∷ 0xFF ∷ [])
    ≡ codes "error reset or no error" ∷ codes "generic error" ∷ codes "current" ∷ codes "current, input side"
    ∷ codes "current inside the device" ∷ codes "current, output side" ∷ codes "voltage" ∷ codes "mains voltage"
    ∷ codes "voltage inside the device" ∷ codes "output voltage" ∷ codes "temperature" ∷ codes "ambient temperature"
    ∷ codes "device temperature" ∷ codes "device hardware" ∷ codes "device software" ∷ codes "internal software"
    ∷ codes "user software" ∷ codes "data set" ∷ codes "additional modules" ∷ codes "monitoring" ∷ codes "communication"
    ∷ codes "protocol error" ∷ codes "external error" ∷ codes "additional functions" ∷ codes "device specific" ∷ []
unfolding known_class
each_class = refl

groups : map class_words (0x11 ∷ 0x24 ∷ 0x3F ∷ 0x43 ∷ 0x51 ∷ 0x64 ∷ 0x71 ∷ 0x86 ∷ 0x91 ∷ 0xF1 ∷ 0xFE ∷ [])
    ≡ codes "generic error" ∷ codes "current" ∷ codes "voltage" ∷ codes "temperature" ∷ codes "device hardware" ∷ codes "device software"
    ∷ codes "additional modules" ∷ codes "monitoring" ∷ codes "external error" ∷ codes "additional functions" ∷ codes "additional functions" ∷ []
unfolding known_class
groups = refl

no_class : map class_words (0x01 ∷ 0x0F ∷ 0xA0 ∷ 0xEF ∷ []) ≡ [] ∷ [] ∷ [] ∷ [] ∷ []
unfolding known_class
no_class = refl

each_code : map single_words (0x8110 ∷ 0x8120 ∷ 0x8130 ∷ 0x8140 ∷ 0x8150 ∷ 0x8210 ∷ 0x8220 ∷ 0x8230 ∷ 0x8240 ∷ 0x8250 ∷ 0x8111 ∷ 0x8160 ∷ 0x8200 ∷ [])
    ≡ codes "CAN overrun, objects lost" ∷ codes "CAN in error passive mode" ∷ codes "life guard error or heartbeat error"
    ∷ codes "recovered from bus-off" ∷ codes "CAN-ID collision" ∷ codes "PDO not processed due to length error"
    ∷ codes "PDO length exceeded" ∷ codes "DAM MPDO not processed, destination object not available"
    ∷ codes "unexpected SYNC data length" ∷ codes "RPDO timeout" ∷ [] ∷ [] ∷ [] ∷ []
unfolding single_words
each_code = refl

class_alone : code_words false 0xA310 ≡ []
unfolding code_words known_class single_words filled
class_alone = refl

class_and_digits : code_words false 0x42FF ≡ codes " (device temperature)"
unfolding code_words known_class single_words filled
class_and_digits = refl

class_and_code : code_words false 0x8130 ≡ codes " (communication: life guard error or heartbeat error)"
unfolding code_words known_class single_words filled
class_and_code = refl

-- of a drive: the classes that CiA 402 has beside, and those of CiA 301
each_drive_class : map (class_for true) (0x43 ∷ 0x44 ∷ 0x51 ∷ 0x52 ∷ 0x53 ∷ 0x54 ∷ 0x55 ∷ 0x71 ∷ 0x72 ∷ 0x73 ∷ 0x74 ∷ 0x75 ∷ 0x76
    ∷ 0x83 ∷ 0x84 ∷ 0x85 ∷ 0x86 ∷ 0x87 ∷ 0x88 ∷ 0x89 ∷ 0x8A ∷ [])
    ≡ codes "drive temperature" ∷ codes "supply temperature" ∷ codes "supply" ∷ codes "control hardware" ∷ codes "operating unit"
    ∷ codes "power section" ∷ codes "data storage" ∷ codes "power" ∷ codes "measurement circuit" ∷ codes "sensor"
    ∷ codes "computation circuit" ∷ codes "communication module" ∷ codes "data storage module" ∷ codes "torque control"
    ∷ codes "velocity controller" ∷ codes "position controller" ∷ codes "positioning controller" ∷ codes "synchronisation controller"
    ∷ codes "winding controller" ∷ codes "process data monitoring" ∷ codes "control" ∷ []
unfolding drive_class_words
each_drive_class = refl

other_classes : map (class_for true) (0x42 ∷ 0x45 ∷ 0x50 ∷ 0x56 ∷ 0x70 ∷ 0x77 ∷ 0x82 ∷ 0x8B ∷ 0xA0 ∷ [])
    ≡ codes "device temperature" ∷ codes "temperature" ∷ codes "device hardware" ∷ codes "device hardware" ∷ codes "additional modules"
    ∷ codes "additional modules" ∷ codes "protocol error" ∷ codes "monitoring" ∷ [] ∷ []
unfolding drive_class_words known_class
other_classes = refl

abbrev of_drive : ℕ → List ℕ
of_drive code = code_words true code

blocked_motor : map (λ drive. code_words drive 0x7121) (true ∷ false ∷ []) ≡ codes " (power: motor blocked)" ∷ codes " (additional modules)" ∷ []
unfolding code_words known_class single_words drive_class_words drive_code_words filled
blocked_motor = refl

-- of CiA 301 itself; a class alone; none
drive_codes_beside : map of_drive (0x8130 ∷ 0x7100 ∷ 0x1000 ∷ 0x8600 ∷ 0xA310 ∷ [])
    ≡ codes " (communication: life guard error or heartbeat error)" ∷ codes " (power)" ∷ codes " (generic error)"
    ∷ codes " (positioning controller)" ∷ [] ∷ []
unfolding code_words known_class single_words drive_class_words drive_code_words filled
drive_codes_beside = refl

-- the last digit tells a phase or a number, unless the code has words of its own
drive_groups : map of_drive (0x2120 ∷ 0x2123 ∷ 0x212F ∷ 0x2130 ∷ 0x3133 ∷ 0x3134 ∷ 0x3212 ∷ 0x3142 ∷ 0x5459 ∷ 0x7112 ∷ 0x7114 ∷ 0x7123 ∷ 0x7124 ∷ 0x7305 ∷ 0x7308 ∷ [])
    ≡ codes " (current, input side: earth leakage)" ∷ codes " (current, input side: earth leakage)" ∷ codes " (current, input side: earth leakage)"
    ∷ codes " (current, input side: short circuit)" ∷ codes " (mains voltage: phase failure)" ∷ codes " (mains voltage: phase sequence)"
    ∷ codes " (voltage inside the device: DC link overvoltage)" ∷ codes " (mains voltage: frequency too small)" ∷ codes " (power section: fuses)"
    ∷ codes " (power: brake chopper overcurrent)" ∷ codes " (power: brake chopper)" ∷ codes " (power: motor tilted)" ∷ codes " (power: motor)"
    ∷ codes " (sensor: incremental sensor 1 fault)" ∷ codes " (sensor)" ∷ []
unfolding code_words known_class single_words drive_class_words drive_code_words filled
drive_groups = refl

-- in each group of them
drive_codes_of_groups : map of_drive (0x2230 ∷ 0x2340 ∷ 0x3220 ∷ 0x3330 ∷ 0x4140 ∷ 0x4310 ∷ 0x5110 ∷ 0x5113 ∷ 0x5114 ∷ 0x5530 ∷ 0x6320 ∷ 0x7302 ∷ 0x7520 ∷ 0x8313 ∷ 0x8611 ∷ 0xF004 ∷ 0xF005 ∷ [])
    ≡ codes " (current inside the device: short circuit or earth leakage)" ∷ codes " (current, output side: short circuit)"
    ∷ codes " (voltage inside the device: DC link undervoltage)" ∷ codes " (output voltage: field circuit)" ∷ codes " (ambient temperature: air outlet)"
    ∷ codes " (drive temperature: too high)" ∷ codes " (supply: low-voltage supply)" ∷ codes " (supply: +5 V supply)" ∷ codes " (supply: low-voltage supply)" ∷ codes " (data storage: non-volatile memory)"
    ∷ codes " (data set: parameter error)" ∷ codes " (sensor: tacho with wrong polarity)" ∷ codes " (communication module: serial interface 2)"
    ∷ codes " (torque control: standstill torque)" ∷ codes " (positioning controller: following error)" ∷ codes " (additional functions: control)"
    ∷ codes " (additional functions)" ∷ []
unfolding code_words known_class single_words drive_class_words drive_code_words filled
drive_codes_of_groups = refl

-- ---- the error register

each_bit : map bits_text (0x01 ∷ 0x02 ∷ 0x04 ∷ 0x08 ∷ 0x10 ∷ 0x20 ∷ 0x40 ∷ 0x80 ∷ [])
    ≡ codes "generic" ∷ codes "current" ∷ codes "voltage" ∷ codes "temperature" ∷ codes "communication"
    ∷ codes "device profile" ∷ codes "reserved bit 6" ∷ codes "manufacturer" ∷ []
unfolding bits_text bit_text bit_word filled
each_bit = refl

all_bits : bits_text 0xFF ≡ codes "generic, current, voltage, temperature, communication, device profile, reserved bit 6, manufacturer"
unfolding bits_text bit_text bit_word filled
all_bits = refl

two_bits : bits_text 0x90 ≡ codes "communication, manufacturer"
unfolding bits_text bit_text bit_word filled
two_bits = refl

-- the first emergency of a node; one as the last; one that came; one that went; each for another; the last that went
first_register : register_text None 0x11 ≡ codes "generic, communication"
unfolding register_text bits_text bit_text bit_word digits_text filled
first_register = refl

same_register : register_text (Some 0x11) 0x11 ≡ codes "generic, communication"
unfolding register_text bits_text bit_text bit_word digits_text filled
same_register = refl

one_came : register_text (Some 0x01) 0x11 ≡ codes "generic, communication; came: communication"
unfolding register_text bits_text bit_text bit_word digits_text filled
one_came = refl

one_went : register_text (Some 0x11) 0x01 ≡ codes "generic; went: communication"
unfolding register_text bits_text bit_text bit_word digits_text filled
one_went = refl

one_for_another : register_text (Some 0x85) 0x0B ≡ codes "generic, current, temperature; came: current, temperature; went: voltage, manufacturer"
unfolding register_text bits_text bit_text bit_word digits_text filled
one_for_another = refl

all_went : register_text (Some 0x11) 0x00 ≡ codes "no error; went: generic, communication"
unfolding register_text bits_text bit_text bit_word digits_text filled
all_went = refl

none_yet : register_text None 0x00 ≡ codes "no error"
unfolding register_text bits_text bit_text bit_word digits_text filled
none_yet = refl

-- ---- frames: emergencies

abbrev says : Last → ℕ → List ℕ → Option (List ℕ)
says last id bytes = service_words false last (record { id = id; bytes = bytes })

abbrev eight : ℕ → ℕ → ℕ → ℕ → ℕ → ℕ → ℕ → ℕ → List ℕ
eight a b c d e f g h = a ∷ b ∷ c ∷ d ∷ e ∷ f ∷ g ∷ h ∷ []

emergency : says nothing_seen 0x085 (eight 0x10 0x82 0x11 0x01 0x02 0x03 0x04 0xFF)
    ≡ Some (codes "EMCY node 5 code 8210 (protocol error: PDO not processed due to length error) register 11 (generic, communication) manufacturer 01020304FF")
unfolding service_words fixed_at emergency_words code_words known_class single_words register_text bits_text bit_text bit_word digits_text digits filled
emergency = refl

emergency_of_a_drive : service_words true nothing_seen (record { id = 0x081; bytes = eight 0x21 0x71 0x01 0 0 0 0 0 })
    ≡ Some (codes "EMCY node 1 code 7121 (power: motor blocked) register 01 (generic) manufacturer 0000000000")
unfolding service_words fixed_at emergency_words code_words known_class single_words drive_class_words drive_code_words register_text bits_text bit_text bit_word digits_text digits filled
emergency_of_a_drive = refl

next_emergency : says (record { register = Some 0x11; guarding = NotSeen; state = Unknown }) 0x0FF (eight 0 0 0 0 0 0 0 0)
    ≡ Some (codes "EMCY node 127 code 0000 (error reset or no error) register 00 (no error; went: generic, communication) manufacturer 0000000000")
unfolding service_words fixed_at emergency_words code_words known_class single_words register_text bits_text bit_text bit_word digits_text digits filled
next_emergency = refl

-- identifiers beside, and seven bytes
no_emergencies : map (λ id. says nothing_seen id (eight 0 0 0 0 0 0 0 0)) (0x080 ∷ 0x100 ∷ [])
    ≡ Some (codes "SYNC (length 8 in place of 0 or 1)") ∷ Some (codes "TIME (length 8 in place of 6)") ∷ []
unfolding service_words fixed_at odd_length digits
no_emergencies = refl

short_emergency : says nothing_seen 0x085 (0 ∷ 0 ∷ 0 ∷ 0 ∷ 0 ∷ 0 ∷ 0 ∷ []) ≡ Some (codes "EMCY node 5 (length 7 in place of 8)")
unfolding service_words fixed_at odd_length digits
short_emergency = refl

-- ---- node guarding

abbrev guarded : Guarding → Last
guarded guarding = record { register = None; guarding = guarding; state = Unknown }

-- the states with the toggle bit
toggled : map (λ byte. says nothing_seen 0x705 (byte ∷ [])) (0x84 ∷ 0x85 ∷ 0xFF ∷ [])
    ≡ Some (codes "guarding answer node 5 stopped toggle 1") ∷ Some (codes "guarding answer node 5 operational toggle 1")
    ∷ Some (codes "guarding answer node 5 pre-operational toggle 1") ∷ []
unfolding service_words fixed_at guarding_answer_words state_words shown_words digits filled
toggled = refl

-- numbers beside the states are none, without the toggle bit and with it; 0 is the boot-up, with the toggle bit it is none
stateless : map (λ byte. says nothing_seen 0x77F (byte ∷ [])) (0x01 ∷ 0x03 ∷ 0x06 ∷ 0x7E ∷ 0x80 ∷ 0x81 ∷ 0x83 ∷ 0xFE ∷ [])
    ≡ Some (codes "error control node 127 state 1 (CiA 301 has no such state)") ∷ Some (codes "error control node 127 state 3 (CiA 301 has no such state)")
    ∷ Some (codes "error control node 127 state 6 (CiA 301 has no such state)") ∷ Some (codes "error control node 127 state 126 (CiA 301 has no such state)")
    ∷ Some (codes "error control node 127 state 0 toggle 1 (a boot-up has no toggle bit, a guarding answer no state 0)") ∷ Some (codes "error control node 127 state 1 toggle 1 (CiA 301 has no such state)")
    ∷ Some (codes "error control node 127 state 3 toggle 1 (CiA 301 has no such state)")
    ∷ Some (codes "error control node 127 state 126 toggle 1 (CiA 301 has no such state)") ∷ []
unfolding service_words no_state_words fixed_at digits filled
stateless = refl

-- of a node that is guarded too, and beside error control
stateless_answer : says (guarded (Requested (Some true))) 0x701 (0x03 ∷ []) ≡ Some (codes "error control node 1 state 3 (CiA 301 has no such state)")
unfolding service_words no_state_words fixed_at digits filled
stateless_answer = refl

stateless_beside : says nothing_seen 0x700 (0x03 ∷ []) ≡ None
unfolding service_words fixed_at
stateless_beside = refl

-- without it they are heartbeats, unless the node is guarded
heartbeats : map (λ byte. says nothing_seen 0x705 (byte ∷ [])) (0x00 ∷ 0x04 ∷ 0x05 ∷ 0x7F ∷ []) ≡ None ∷ None ∷ None ∷ None ∷ []
unfolding service_words fixed_at
heartbeats = refl

answers : map (λ byte. says (guarded (Requested None)) 0x77F (byte ∷ [])) (0x00 ∷ 0x04 ∷ 0x85 ∷ [])
    ≡ None ∷ Some (codes "guarding answer node 127 stopped toggle 0") ∷ Some (codes "guarding answer node 127 operational toggle 1") ∷ []
unfolding service_words fixed_at guarding_answer_words state_words shown_words digits filled
answers = refl

awaited_one : map (λ byte. says (guarded (Requested (Some true))) 0x701 (byte ∷ [])) (0x05 ∷ 0x85 ∷ [])
    ≡ Some (codes "guarding answer node 1 operational toggle 0 (1 is awaited)") ∷ Some (codes "guarding answer node 1 operational toggle 1") ∷ []
unfolding service_words fixed_at guarding_answer_words state_words shown_words digits filled
awaited_one = refl

awaited_zero : map (λ byte. says (guarded (Requested (Some false))) 0x701 (byte ∷ [])) (0x7F ∷ 0xFF ∷ [])
    ≡ Some (codes "guarding answer node 1 pre-operational toggle 0") ∷ Some (codes "guarding answer node 1 pre-operational toggle 1 (0 is awaited)") ∷ []
unfolding service_words fixed_at guarding_answer_words state_words shown_words digits filled
awaited_zero = refl

-- after a command: another state, that one, and what is neither a state nor a boot-up
abbrev commanded : Last
commanded = record { register = None; guarding = Requested (Some false); state = Commanded Operational }

after_command : map (λ byte. says commanded 0x705 (byte ∷ [])) (0xFF ∷ 0x05 ∷ 0x80 ∷ [])
    ≡ Some (codes "guarding answer node 5 pre-operational toggle 1 (0 is awaited) (operational commanded)") ∷ Some (codes "guarding answer node 5 operational toggle 0")
    ∷ Some (codes "error control node 5 state 0 toggle 1 (a boot-up has no toggle bit, a guarding answer no state 0)") ∷ []
unfolding service_words fixed_at guarding_answer_words no_state_words state_words shown_words state_at digits filled
after_command = refl

after_command_to_all : says (record commanded { state = CommandedOfAll Operational }) 0x705 (0x7F ∷ []) ≡ Some (codes "guarding answer node 5 pre-operational toggle 0 (operational commanded)")
unfolding service_words fixed_at guarding_answer_words state_words shown_words state_at digits filled
after_command_to_all = refl

-- without a request that was recorded: the next answer, or the one before again, which without the toggle bit is a heartbeat
next_answers : map (λ guarding. says (guarded guarding) 0x701 (0x05 ∷ [])) (Answered false ∷ Answered true ∷ BootedUp ∷ [])
    ≡ Some (codes "guarding answer node 1 operational toggle 0") ∷ None ∷ None ∷ []
unfolding service_words fixed_at guarding_answer_words state_words shown_words digits filled
next_answers = refl

next_toggled : map (λ guarding. says (guarded guarding) 0x701 (0x85 ∷ [])) (Answered false ∷ Answered true ∷ BootedUp ∷ [])
    ≡ Some (codes "guarding answer node 1 operational toggle 1 (0 is awaited)") ∷ Some (codes "guarding answer node 1 operational toggle 1")
    ∷ Some (codes "guarding answer node 1 operational toggle 1 (0 is awaited)") ∷ []
unfolding service_words fixed_at guarding_answer_words state_words shown_words digits filled
next_toggled = refl

-- identifiers beside, and two bytes; 780h is reserved
no_answers : map (λ id. says nothing_seen id (0x85 ∷ [])) (0x700 ∷ 0x780 ∷ []) ≡ None ∷ Some reserved_words ∷ []
unfolding service_words fixed_at
no_answers = refl

long_answer : says nothing_seen 0x705 (0x85 ∷ 0 ∷ []) ≡ Some (codes "error control node 5 (length 2 in place of 1)")
unfolding service_words fixed_at odd_length digits
long_answer = refl

remote : map remote_words (0x700 ∷ 0x701 ∷ 0x77F ∷ 0x780 ∷ [])
    ≡ codes "remote frame" ∷ codes "guarding request node 1" ∷ codes "guarding request node 127" ∷ codes "remote frame" ∷ []
unfolding remote_words guarding_request_words digits filled
remote = refl

-- ---- TIME: 43,200,000 ms on day 2; the first ms of 1984; five and seven bytes, and an identifier beside

noon : says nothing_seen 0x100 (0x00 ∷ 0x2E ∷ 0x93 ∷ 0x02 ∷ 0x02 ∷ 0x00 ∷ []) ≡ Some (codes "TIME 1984-01-03 12:00:00.000")
unfolding service_words fixed_at time_words value_text moment_text ms_text date_text time_of_day_text date_of date_in_year day_of_year year_of_cycle digits digits_text filled
noon = refl

first_moment : says nothing_seen 0x100 (0x01 ∷ 0x00 ∷ 0x00 ∷ 0xF0 ∷ 0x00 ∷ 0x00 ∷ []) ≡ Some (codes "TIME 1984-01-01 00:00:00.001")
unfolding service_words fixed_at time_words value_text moment_text ms_text date_text time_of_day_text date_of date_in_year day_of_year year_of_cycle digits digits_text filled
first_moment = refl

-- the last ms of a day, and the next one
last_moment : says nothing_seen 0x100 (0xFF ∷ 0x5B ∷ 0x26 ∷ 0x05 ∷ 0x00 ∷ 0x00 ∷ []) ≡ Some (codes "TIME 1984-01-01 23:59:59.999")
unfolding service_words fixed_at time_words value_text moment_text ms_text date_text time_of_day_text date_of date_in_year day_of_year year_of_cycle digits digits_text filled
last_moment = refl

past_the_day : says nothing_seen 0x100 (0x00 ∷ 0x5C ∷ 0x26 ∷ 0x05 ∷ 0x00 ∷ 0x00 ∷ []) ≡ Some (codes "TIME 1984-01-01 24:00:00.000 (past the end of the day)")
unfolding service_words fixed_at time_words value_text moment_text ms_text date_text time_of_day_text date_of date_in_year day_of_year year_of_cycle digits digits_text filled
past_the_day = refl

no_times : map (says nothing_seen 0x100) ((0 ∷ 0 ∷ 0 ∷ 0 ∷ 0 ∷ []) ∷ (0 ∷ 0 ∷ 0 ∷ 0 ∷ 0 ∷ 0 ∷ 0 ∷ []) ∷ [])
    ≡ Some (codes "TIME (length 5 in place of 6)") ∷ Some (codes "TIME (length 7 in place of 6)") ∷ []
unfolding service_words fixed_at odd_length digits
no_times = refl

beside_time : map (λ id. says nothing_seen id (0 ∷ 0 ∷ 0 ∷ 0 ∷ 0 ∷ 0 ∷ [])) (0x0FF ∷ 0x101 ∷ [])
    ≡ Some (codes "EMCY node 127 (length 6 in place of 8)") ∷ Some reserved_words ∷ []
unfolding service_words fixed_at odd_length digits
beside_time = refl

-- ---- LSS

abbrev asks : List ℕ → List ℕ
asks bytes = lss_request_words bytes

abbrev tells : List ℕ → List ℕ
tells bytes = lss_answer_words bytes

requests : says nothing_seen 0x7E5 (eight 0x04 1 0 0 0 0 0 0) ≡ Some (codes "LSS request switch state global configuration")
unfolding service_words fixed_at lss_text request_words request_parameter parameter_text mode_words filled
requests = refl

modes : map (λ mode. asks (eight 0x04 mode 0 0 0 0 0 0)) (0 ∷ 2 ∷ [])
    ≡ codes "LSS request switch state global waiting" ∷ codes "LSS request switch state global mode 2" ∷ []
unfolding lss_text request_words request_parameter parameter_text mode_words digits filled
modes = refl

node_ids : map (λ node. asks (eight 0x11 node 0 0 0 0 0 0)) (5 ∷ 254 ∷ 255 ∷ [])
    ≡ codes "LSS request configure node-ID 5" ∷ codes "LSS request configure node-ID 254" ∷ codes "LSS request configure node-ID none" ∷ []
unfolding lss_text request_words request_parameter parameter_text digits filled
node_ids = refl

rates : map (λ index. asks (eight 0x13 0 index 0 0 0 0 0)) (0 ∷ 1 ∷ 2 ∷ 3 ∷ 4 ∷ 5 ∷ 6 ∷ 7 ∷ 8 ∷ 9 ∷ 10 ∷ [])
    ≡ codes "LSS request configure bit timing 1000 kbit/s" ∷ codes "LSS request configure bit timing 800 kbit/s"
    ∷ codes "LSS request configure bit timing 500 kbit/s" ∷ codes "LSS request configure bit timing 250 kbit/s"
    ∷ codes "LSS request configure bit timing 125 kbit/s" ∷ codes "LSS request configure bit timing table 0 index 5"
    ∷ codes "LSS request configure bit timing 50 kbit/s" ∷ codes "LSS request configure bit timing 20 kbit/s"
    ∷ codes "LSS request configure bit timing 10 kbit/s" ∷ codes "LSS request configure bit timing automatic"
    ∷ codes "LSS request configure bit timing table 0 index 10" ∷ []
unfolding lss_text request_words request_parameter parameter_text timing_text rate_words digits filled
rates = refl

other_table : asks (eight 0x13 128 3 0 0 0 0 0) ≡ codes "LSS request configure bit timing table 128 index 3"
unfolding lss_text request_words request_parameter parameter_text timing_text rate_words digits filled
other_table = refl

delay : asks (eight 0x15 0xE8 0x03 9 0 0 0 0) ≡ codes "LSS request activate bit timing 1000 ms"
unfolding lss_text request_words request_parameter parameter_text digits filled
delay = refl

-- each with a part of an address, its low byte first
numbers : map (λ specifier. asks (eight specifier 0x9A 0x01 0x02 0xF0 7 7 7))
    (0x40 ∷ 0x41 ∷ 0x42 ∷ 0x43 ∷ 0x46 ∷ 0x47 ∷ 0x48 ∷ 0x49 ∷ 0x4A ∷ 0x4B ∷ [])
    ≡ codes "LSS request switch state selective vendor-ID F002019A" ∷ codes "LSS request switch state selective product code F002019A"
    ∷ codes "LSS request switch state selective revision number F002019A" ∷ codes "LSS request switch state selective serial number F002019A"
    ∷ codes "LSS request identify vendor-ID F002019A" ∷ codes "LSS request identify product code F002019A"
    ∷ codes "LSS request identify revision number from F002019A" ∷ codes "LSS request identify revision number to F002019A"
    ∷ codes "LSS request identify serial number from F002019A" ∷ codes "LSS request identify serial number to F002019A" ∷ []
unfolding lss_text request_words request_parameter parameter_text digits_text filled
numbers = refl

-- each without a parameter; and specifiers beside
plain : map (λ specifier. asks (eight specifier 1 2 3 4 5 6 7)) (0x17 ∷ 0x4C ∷ 0x5A ∷ 0x5B ∷ 0x5C ∷ 0x5D ∷ 0x5E ∷ [])
    ≡ codes "LSS request store configuration" ∷ codes "LSS request identify non-configured slaves" ∷ codes "LSS request inquire vendor-ID"
    ∷ codes "LSS request inquire product code" ∷ codes "LSS request inquire revision number" ∷ codes "LSS request inquire serial number"
    ∷ codes "LSS request inquire node-ID" ∷ []
unfolding lss_text request_words request_parameter parameter_text filled
plain = refl

unknown_requests : map (λ specifier. asks (eight specifier 0 0 0 0 0 0 0)) (0x00 ∷ 0x44 ∷ 0x4F ∷ 0x50 ∷ 0x52 ∷ 0x5F ∷ [])
    ≡ codes "LSS request unknown" ∷ codes "LSS request unknown" ∷ codes "LSS request unknown" ∷ codes "LSS request unknown"
    ∷ codes "LSS request unknown" ∷ codes "LSS request unknown" ∷ []
unfolding lss_text request_words request_parameter filled
unknown_requests = refl

scan_begins : asks (eight 0x51 1 2 3 4 0x80 0 0) ≡ codes "LSS request fastscan from the start"
unfolding lss_text request_words request_parameter parameter_text scan_text filled
scan_begins = refl

scan_goes_on : asks (eight 0x51 0x9A 0 0 0 31 0 1) ≡ codes "LSS request fastscan vendor-ID 0000009A bits 31-31, next product code"
unfolding lss_text request_words request_parameter parameter_text scan_text part_text part_words digits_text digits filled
scan_goes_on = refl

other_parts : asks (eight 0x51 0 0 0 0x80 0 3 4) ≡ codes "LSS request fastscan serial number 80000000 bits 31-0, next part 4"
unfolding lss_text request_words request_parameter parameter_text scan_text part_text part_words digits_text digits filled
other_parts = refl

revision_part : asks (eight 0x51 0 0 0 0 9 2 3) ≡ codes "LSS request fastscan revision number 00000000 bits 31-9, next serial number"
unfolding lss_text request_words request_parameter parameter_text scan_text part_text part_words digits_text digits filled
revision_part = refl

lss_answer : says nothing_seen 0x7E4 (eight 0x11 0 0 0 0 0 0 0) ≡ Some (codes "LSS answer configure node-ID done")
unfolding service_words fixed_at lss_text answer_words answer_parameter parameter_text outcome_text filled
lss_answer = refl

failures : map (λ specifier. tells (eight specifier 1 9 0 0 0 0 0)) (0x11 ∷ 0x13 ∷ 0x17 ∷ [])
    ≡ codes "LSS answer configure node-ID failed: node-ID out of range"
    ∷ codes "LSS answer configure bit timing failed: bit timing not supported"
    ∷ codes "LSS answer store configuration failed: not supported" ∷ []
unfolding lss_text answer_words answer_parameter parameter_text outcome_text failure_text node_failure timing_failure store_failure filled
failures = refl

other_failures : map (λ error. tells (eight 0x17 error 9 0 0 0 0 0)) (2 ∷ 3 ∷ 254 ∷ 255 ∷ [])
    ≡ codes "LSS answer store configuration failed: storage media access error" ∷ codes "LSS answer store configuration failed: error 3"
    ∷ codes "LSS answer store configuration failed: error 254" ∷ codes "LSS answer store configuration failed: error 9 of the manufacturer" ∷ []
unfolding lss_text answer_words answer_parameter parameter_text outcome_text failure_text node_failure timing_failure store_failure digits filled
other_failures = refl

second_errors : map (λ specifier. tells (eight specifier 2 9 0 0 0 0 0)) (0x11 ∷ 0x13 ∷ [])
    ≡ codes "LSS answer configure node-ID failed: error 2" ∷ codes "LSS answer configure bit timing failed: error 2" ∷ []
unfolding lss_text answer_words answer_parameter parameter_text outcome_text failure_text node_failure timing_failure store_failure digits filled
second_errors = refl

told_numbers : map (λ specifier. tells (eight specifier 0x9A 0x01 0 0 0 0 0)) (0x5A ∷ 0x5B ∷ 0x5C ∷ 0x5D ∷ 0x5E ∷ [])
    ≡ codes "LSS answer vendor-ID 0000019A" ∷ codes "LSS answer product code 0000019A" ∷ codes "LSS answer revision number 0000019A"
    ∷ codes "LSS answer serial number 0000019A" ∷ codes "LSS answer node-ID 154" ∷ []
unfolding lss_text answer_words answer_parameter parameter_text digits_text digits filled
told_numbers = refl

told : map (λ specifier. tells (eight specifier 0 0 0 0 0 0 0)) (0x44 ∷ 0x4F ∷ 0x50 ∷ 0x04 ∷ 0x15 ∷ 0x43 ∷ 0x51 ∷ 0x59 ∷ 0x5F ∷ [])
    ≡ codes "LSS answer switch state selective: in state configuration" ∷ codes "LSS answer identified" ∷ codes "LSS answer non-configured slave identified"
    ∷ codes "LSS answer unknown" ∷ codes "LSS answer unknown" ∷ codes "LSS answer unknown" ∷ codes "LSS answer unknown"
    ∷ codes "LSS answer unknown" ∷ codes "LSS answer unknown" ∷ []
unfolding lss_text answer_words answer_parameter parameter_text filled
told = refl

-- seven bytes are no command
short_commands : map (λ id. says nothing_seen id (0x17 ∷ 0 ∷ 0 ∷ 0 ∷ 0 ∷ 0 ∷ 0 ∷ [])) (0x7E4 ∷ 0x7E5 ∷ [])
    ≡ Some (codes "LSS (length 7 in place of 8)") ∷ Some (codes "LSS (length 7 in place of 8)") ∷ []
unfolding service_words fixed_at odd_length digits
short_commands = refl

-- ---- reserved identifiers

reserved : map is_reserved (0x001 ∷ 0x07F ∷ 0x101 ∷ 0x180 ∷ 0x6E0 ∷ 0x6FF ∷ 0x780 ∷ 0x7E3 ∷ 0x7E6 ∷ 0x7FF ∷ [])
    ≡ true ∷ true ∷ true ∷ true ∷ true ∷ true ∷ true ∷ true ∷ true ∷ true ∷ []
reserved = refl

not_reserved : map is_reserved (0x000 ∷ 0x080 ∷ 0x100 ∷ 0x181 ∷ 0x6DF ∷ 0x700 ∷ 0x77F ∷ 0x7E4 ∷ 0x7E5 ∷ [])
    ≡ false ∷ false ∷ false ∷ false ∷ false ∷ false ∷ false ∷ false ∷ false ∷ []
not_reserved = refl

says_reserved : map (λ id. says nothing_seen id []) (0x07F ∷ 0x181 ∷ []) ≡ Some (codes "identifier that CiA 301 reserves") ∷ None ∷ []
unfolding service_words fixed_at reserved_words filled
says_reserved = refl

-- ---- lengths: on both sides of what each service has

abbrev zeros : ℕ → List ℕ
zeros count = replicate count 0

abbrev odd : ℕ → ℕ → Option (List ℕ)
odd id count = says nothing_seen id (zeros count)

syncs : map (odd 0x080) (0 ∷ 1 ∷ 2 ∷ []) ≡ None ∷ None ∷ Some (codes "SYNC (length 2 in place of 0 or 1)") ∷ []
unfolding service_words fixed_at odd_length digits
syncs = refl

commands : map (odd 0x000) (1 ∷ 2 ∷ 3 ∷ []) ≡ Some (codes "NMT (length 1 in place of 2)") ∷ None ∷ Some (codes "NMT (length 3 in place of 2)") ∷ []
unfolding service_words fixed_at odd_length digits
commands = refl

-- a command in more than two bytes, to one node and to all; no command, no node, and no more than two bytes
abbrev commands_of : List (List ℕ) → List (Option (List ℕ))
commands_of frames = map (λ bytes. says nothing_seen 0x000 bytes) frames

long_commands : commands_of ((1 ∷ 5 ∷ 0 ∷ []) ∷ (2 ∷ 127 ∷ zeros 6) ∷ (128 ∷ 5 ∷ zeros 6) ∷ (129 ∷ 0 ∷ zeros 6) ∷ (130 ∷ 0 ∷ 0 ∷ 0 ∷ []) ∷ [])
    ≡ Some (codes "NMT start 5 (length 3 in place of 2)") ∷ Some (codes "NMT stop 127 (length 8 in place of 2)")
    ∷ Some (codes "NMT pre-operational 5 (length 8 in place of 2)") ∷ Some (codes "NMT reset-node all nodes (length 8 in place of 2)")
    ∷ Some (codes "NMT reset-communication all nodes (length 4 in place of 2)") ∷ []
unfolding service_words fixed_at long_for_all long_for_one command_name digits filled
long_commands = refl

no_commands : commands_of ((3 ∷ 5 ∷ 0 ∷ []) ∷ (1 ∷ 128 ∷ 0 ∷ []) ∷ (1 ∷ 5 ∷ []) ∷ (1 ∷ []) ∷ [])
    ≡ Some (codes "NMT (length 3 in place of 2)") ∷ Some (codes "NMT (length 3 in place of 2)") ∷ None ∷ Some (codes "NMT (length 1 in place of 2)") ∷ []
unfolding service_words fixed_at odd_length digits
no_commands = refl

control : map (odd 0x77F) (0 ∷ 1 ∷ 2 ∷ []) ≡ Some (codes "error control node 127 (length 0 in place of 1)") ∷ None ∷ Some (codes "error control node 127 (length 2 in place of 1)") ∷ []
unfolding service_words fixed_at odd_length digits
control = refl

transfers : map (λ id. odd id 7) (0x580 ∷ 0x581 ∷ 0x5FF ∷ 0x600 ∷ 0x601 ∷ 0x67F ∷ 0x680 ∷ [])
    ≡ None ∷ Some (codes "SDO answer node 1 (length 7 in place of 8)") ∷ Some (codes "SDO answer node 127 (length 7 in place of 8)")
    ∷ None ∷ Some (codes "SDO request node 1 (length 7 in place of 8)") ∷ Some (codes "SDO request node 127 (length 7 in place of 8)") ∷ None ∷ []
unfolding service_words fixed_at odd_length digits
transfers = refl

whole_transfers : map (λ id. odd id 8) (0x581 ∷ 0x601 ∷ []) ≡ None ∷ None ∷ []
unfolding service_words fixed_at
whole_transfers = refl

no_length : map (λ id. odd id 3) (0x181 ∷ 0x700 ∷ []) ≡ None ∷ None ∷ []
unfolding service_words fixed_at
no_length = refl
