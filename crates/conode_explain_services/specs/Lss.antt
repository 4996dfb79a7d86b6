-- What LSS commands say (CiA 305, 3.9): eight bytes, the first the command specifier.
use Rattle.std.specs.Prelude.{ℕ, ◌==◌, if◌then◌else◌, List, [], ◌∷◌, ◌++◌, codes, decimal, find, slice_index, slice_range}
use Rattle.std.specs.Option.{option_map_or}
use Rattle.co_text.specs.Printed.{digits_text}
use Rattle.co_value.specs.Numbers.{unsigned_of}
use Rattle.conode_text.specs.Filled.{filled}
use Rattle.conode_explain_services.specs.declared.lss_commands.Parameter.{Parameter}
use Rattle.conode_explain_services.specs.declared.lss_commands.Parameter.TheVariants.{Nothing, Mode, Node, Number, Timing, Delay, Scan, Outcome}
use Rattle.conode_explain_services.specs.declared.lss.Scanned.{Scanned}
use Rattle.conode_explain_services.specs.declared.lss.Scanned.TheVariants.{Part, Number as Value, Bit}
use Rattle.conode_explain_services.specs.Parts.{words_in}

-- ---- the commands

-- of the master: the specifier, the words, and what comes after it
abbrev pub requests : List (ℕ × List ℕ × Parameter)
requests =
    (0x04, codes "switch state global", Mode)
    ∷ (0x11, codes "configure node-ID", Node)
    ∷ (0x13, codes "configure bit timing", Timing)
    ∷ (0x15, codes "activate bit timing", Delay)
    ∷ (0x17, codes "store configuration", Nothing)
    ∷ (0x40, codes "switch state selective vendor-ID", Number)
    ∷ (0x41, codes "switch state selective product code", Number)
    ∷ (0x42, codes "switch state selective revision number", Number)
    ∷ (0x43, codes "switch state selective serial number", Number)
    ∷ (0x46, codes "identify vendor-ID", Number)
    ∷ (0x47, codes "identify product code", Number)
    ∷ (0x48, codes "identify revision number from", Number)
    ∷ (0x49, codes "identify revision number to", Number)
    ∷ (0x4A, codes "identify serial number from", Number)
    ∷ (0x4B, codes "identify serial number to", Number)
    ∷ (0x4C, codes "identify non-configured slaves", Nothing)
    ∷ (0x51, codes "fastscan", Scan)
    ∷ (0x5A, codes "inquire vendor-ID", Nothing)
    ∷ (0x5B, codes "inquire product code", Nothing)
    ∷ (0x5C, codes "inquire revision number", Nothing)
    ∷ (0x5D, codes "inquire serial number", Nothing)
    ∷ (0x5E, codes "inquire node-ID", Nothing)
    ∷ []

-- of a slave
abbrev pub answers : List (ℕ × List ℕ × Parameter)
answers =
    (0x11, codes "configure node-ID", Outcome)
    ∷ (0x13, codes "configure bit timing", Outcome)
    ∷ (0x17, codes "store configuration", Outcome)
    ∷ (0x44, codes "switch state selective: in state configuration", Nothing)
    ∷ (0x4F, codes "identified", Nothing)
    ∷ (0x50, codes "non-configured slave identified", Nothing)
    ∷ (0x5A, codes "vendor-ID", Number)
    ∷ (0x5B, codes "product code", Number)
    ∷ (0x5C, codes "revision number", Number)
    ∷ (0x5D, codes "serial number", Number)
    ∷ (0x5E, codes "node-ID", Node)
    ∷ []

-- the words of a specifier in a table, and what comes after it
abbrev pub command_words : List (ℕ × List ℕ × Parameter) → ℕ → List ℕ
command_words table specifier = option_map_or (λ row. row.1) (find (λ row. row.0 == specifier) table) []

abbrev pub command_parameter : List (ℕ × List ℕ × Parameter) → ℕ → Parameter
command_parameter table specifier = option_map_or (λ row. row.2) (find (λ row. row.0 == specifier) table) Nothing

unfoldable pub request_words : ℕ → List ℕ
request_words specifier = command_words requests specifier

unfoldable pub request_parameter : ℕ → Parameter
request_parameter specifier = command_parameter requests specifier

unfoldable pub answer_words : ℕ → List ℕ
answer_words specifier = command_words answers specifier

unfoldable pub answer_parameter : ℕ → Parameter
answer_parameter specifier = command_parameter answers specifier

-- ---- what comes after a specifier

-- words, or where there are none these
abbrev pub or_else : List ℕ → List ℕ → List ℕ
or_else [] others = others
or_else (letter ∷ letters) others = letter ∷ letters

-- the state that all slaves switch to
unfoldable pub mode_words : ℕ → List ℕ
mode_words mode = words_in ((0, codes "waiting") ∷ (1, codes "configuration") ∷ []) mode

abbrev pub mode_text : ℕ → List ℕ
mode_text mode = or_else (mode_words mode) (codes "mode " ++ decimal mode)

-- FFh is no node-ID: the slave has none then
abbrev pub node_text : ℕ → List ℕ
node_text node = if node == 255 then codes "none" else decimal node

-- the bit rates of the standard's table, number 0
unfoldable pub rate_words : ℕ → List ℕ
rate_words index =
    words_in
    ((0, codes "1000 kbit/s") ∷ (1, codes "800 kbit/s") ∷ (2, codes "500 kbit/s") ∷ (3, codes "250 kbit/s")
    ∷ (4, codes "125 kbit/s") ∷ (6, codes "50 kbit/s") ∷ (7, codes "20 kbit/s") ∷ (8, codes "10 kbit/s")
    ∷ (9, codes "automatic") ∷ [])
    index

abbrev pub rate_in : ℕ → ℕ → List ℕ
rate_in table index = if table == 0 then rate_words index else []

unfoldable pub timing_text : ℕ → ℕ → List ℕ
timing_text table index = or_else (rate_in table index) (filled (codes "table % index %") (decimal table ∷ decimal index ∷ []))

-- the parts of an LSS address, that fastscan goes over
unfoldable pub part_words : ℕ → List ℕ
part_words part =
    words_in ((0, codes "vendor-ID") ∷ (1, codes "product code") ∷ (2, codes "revision number") ∷ (3, codes "serial number") ∷ []) part

unfoldable pub part_text : ℕ → List ℕ
part_text part = or_else (part_words part) (codes "part " ++ decimal part)

-- what fastscan names
abbrev pub scanned_text : Scanned → List ℕ
scanned_text (Part part) = part_text part
scanned_text (Value number) = digits_text 16 8 number
scanned_text (Bit bit) = decimal bit

-- fastscan: the bits of a part from bit 31 down to one of them are compared with the number; 80h
-- begins it anew
unfoldable pub scan_text : ℕ → ℕ → ℕ → ℕ → List ℕ
scan_text number bit part next =
    if bit == 0x80 then codes "from the start"
    else filled (codes "% % bits 31-%, next %") (part_text part ∷ digits_text 16 8 number ∷ decimal bit ∷ part_text next ∷ [])

-- why a slave did not do it
unfoldable pub node_failure : ℕ → List ℕ
node_failure error = words_in ((1, codes "node-ID out of range") ∷ []) error

unfoldable pub timing_failure : ℕ → List ℕ
timing_failure error = words_in ((1, codes "bit timing not supported") ∷ []) error

unfoldable pub store_failure : ℕ → List ℕ
store_failure error = words_in ((1, codes "not supported") ∷ (2, codes "storage media access error") ∷ []) error

abbrev pub failure_words : ℕ → ℕ → List ℕ
failure_words specifier error =
    if specifier == 0x11 then node_failure error
    else (if specifier == 0x13 then timing_failure error
    else (if specifier == 0x17 then store_failure error else []))

-- error FFh is the manufacturer's
unfoldable pub failure_text : ℕ → ℕ → ℕ → List ℕ
failure_text specifier error specific =
    if error == 255 then filled (codes "error % of the manufacturer") (decimal specific ∷ [])
    else or_else (failure_words specifier error) (codes "error " ++ decimal error)

-- error 0 is none
unfoldable pub outcome_text : ℕ → ℕ → ℕ → List ℕ
outcome_text specifier error specific =
    if error == 0 then codes "done" else codes "failed: " ++ failure_text specifier error specific

-- what eight bytes have after the specifier
unfoldable pub parameter_text : Parameter → List ℕ → List ℕ
parameter_text Nothing bytes = []
parameter_text Mode bytes = codes " " ++ mode_text (slice_index bytes 1)
parameter_text Node bytes = codes " " ++ node_text (slice_index bytes 1)
parameter_text Number bytes = codes " " ++ digits_text 16 8 (unsigned_of (slice_range bytes 1 5))
parameter_text Timing bytes = codes " " ++ timing_text (slice_index bytes 1) (slice_index bytes 2)
parameter_text Delay bytes = codes " " ++ filled (codes "% ms") (decimal (unsigned_of (slice_range bytes 1 3)) ∷ [])
parameter_text Scan bytes =
    codes " "
    ++ scan_text (unsigned_of (slice_range bytes 1 5)) (slice_index bytes 5) (slice_index bytes 6) (slice_index bytes 7)
parameter_text Outcome bytes =
    codes " " ++ outcome_text (slice_index bytes 0) (slice_index bytes 1) (slice_index bytes 2)

-- ---- eight bytes

-- a command with its words; one that the standard doesn't have is unknown
abbrev pub command_text : List ℕ → Parameter → List ℕ → List ℕ
command_text [] parameter bytes = codes "unknown"
command_text (letter ∷ letters) parameter bytes = (letter ∷ letters) ++ parameter_text parameter bytes

-- whose command it is, and the command
unfoldable pub lss_text : List ℕ → List ℕ → Parameter → List ℕ → List ℕ
lss_text front words parameter bytes = front ++ command_text words parameter bytes

abbrev pub lss_request_words : List ℕ → List ℕ
lss_request_words bytes =
    lss_text (codes "LSS request ") (request_words (slice_index bytes 0)) (request_parameter (slice_index bytes 0)) bytes

abbrev pub lss_answer_words : List ℕ → List ℕ
lss_answer_words bytes =
    lss_text (codes "LSS answer ") (answer_words (slice_index bytes 0)) (answer_parameter (slice_index bytes 0)) bytes
