-- Choices that rest on earlier frames, on both sides of each edge, computed from the definitions.
use Rattle.std.proofs.Common.{◌≡◌, ℕ, Bool, true, false, List, [], ◌∷◌, map, Option, Some, None, refl}
use Rattle.std.specs.Prelude.{pos}
use Rattle.co_frame.specs.declared.nmt.NmtService.TheVariants.{Start, Stop}
use Rattle.co_profile.specs.declared.access.Access.{Access}
use Rattle.co_profile.specs.declared.access.Access.TheVariants.{Rw}
use Rattle.co_sheet.specs.Content.{Row}
use Rattle.co_sheet.specs.Limits.{Default, absent, number}
use Rattle.co_value.specs.declared.data_type.DataType.{DataType}
use Rattle.co_value.specs.declared.data_type.DataType.TheVariants.{Unsigned8, Unsigned16, Unsigned32, VisibleString}
use Rattle.co_value.specs.declared.key.Key.{Key}
use Rattle.conode_compare_pdos.specs.declared.pdos.Pdos.{Pdos}
use Rattle.conode_compare_pdos.specs.declared.tpdo.Tpdo.{Tpdo}
use Rattle.conode_compare_pdos.specs.Followed.{unknown_pdos}
use Rattle.conode_compare_pdos.specs.PdoParameters.{counted_bytes, length_of}
use Rattle.conode_compare_nmt.specs.declared.entries.Entries.{Entries}
use Rattle.conode_compare_nmt.specs.declared.entries.Facts.{Facts}
use Rattle.conode_compare_nmt.specs.declared.finding.NmtState.{NmtState}
use Rattle.conode_compare_nmt.specs.declared.finding.NmtState.TheVariants.{Unknown, Operational, PreOperational, Stopped}
use Rattle.conode_compare_rules.specs.declared.kind.FrameKind.TheVariants.{Command, CommandToAll, Control, Emergency, Polled, Process}
use Rattle.conode_compare_nmt.specs.declared.limits.Subject.{Subject}
use Rattle.conode_compare_rules.specs.declared.progress.Progress.{Progress}
use Rattle.conode_compare_rules.specs.Gaps.{before_recording}
use Rattle.conode_compare_nmt.specs.OtherClients.{no_clients}
use Rattle.conode_compare_nmt.specs.States.{nothing_commanded}
use Rattle.conode_compare_choices.specs.declared.choice.Choice.{Choice}
use Rattle.conode_compare_choices.specs.declared.choice.Choice.TheVariants.{NoEmergency, OtherEmergency, Phase as PhaseChoice}
use Rattle.conode_compare_choices.specs.declared.length_error.LengthError.TheVariants.{ShortRpdo, LongRpdo, OddSync}
use Rattle.conode_compare_choices.specs.declared.length_errors.Awaited.{Awaited}
use Rattle.conode_compare_choices.specs.declared.length_errors.LengthErrors.{LengthErrors}
use Rattle.conode_compare_choices.specs.declared.phases.Phase.{Phase}
use Rattle.conode_compare_choices.specs.declared.phases.Phases.{Phases}
use Rattle.conode_compare_choices.specs.declared.request.Request.{Request}
use Rattle.conode_compare_choices.specs.LengthErrors as errors
use Rattle.conode_compare_choices.specs.LengthErrors.{answers, awaited_after, awaited_with, booted_errors, code_of, error_choice, error_in, errors_with, is_missing, is_taken, length_error, may_send, no_errors, sync_error, sync_length}
use Rattle.conode_compare_choices.specs.Phases as phases
use Rattle.conode_compare_choices.specs.Phases.{early, has_presets, is_open, no_phase, no_phases, phase_choice, phases_with, seen_in, synced}
use Rattle.conode_compare_choices.specs.RefusalCodes.{also_fits}
use Rattle.conode_compare_choices.specs.Requests.{indicated_size, request_code, word_code}

-- ---- a device

abbrev key : ℕ → ℕ → Key
key index sub = record { index = index; sub = sub }

abbrev row : ℕ → ℕ → DataType → Access → Default → Row
row index sub data_type access default = record {
  key = key index sub;
  data_type = data_type;
  access = access;
  low = None;
  high = None;
  default = default;
  mappable = false;
  name = None;
  line = 1;
}

abbrev word : ℕ → ℕ → ℕ → Row
word index sub n = row index sub Unsigned32 Rw (number (pos n))

abbrev byte : ℕ → ℕ → ℕ → Row
byte index sub n = row index sub Unsigned8 Rw (number (pos n))

-- an RPDO of two bytes on 205h, a TPDO of a byte on 185h at each fourth SYNC
abbrev rows : List Row
rows =
    word 0x1005 0 0x80 ∷ word 0x1014 0 0x85
    ∷ word 0x1400 1 0x205 ∷ byte 0x1400 2 255 ∷ byte 0x1600 0 1 ∷ word 0x1600 1 0x20020010
    ∷ word 0x1800 1 0x185 ∷ byte 0x1800 2 4 ∷ byte 0x1A00 0 1 ∷ word 0x1A00 1 0x20010008 ∷ []

abbrev entries : Entries
entries = record { period = Some 1000; emergencies = true; inhibit = Some 0; inhibit_shown = None }

abbrev tpdo : Tpdo
tpdo = record {
  parameters = record { id = Some 0x185; kind = Some 4; inhibit = Some 0; timer = Some 0; length = Some 1 };
  sent = None;
  syncs = 0;
  cycle = None;
  changed = None;
  odd = None;
}

abbrev pdos : Pdos
pdos = record unknown_pdos { sync = Some 0x80; first = tpdo }

abbrev facts : Facts
facts = record { before = entries; booted = entries; pdos = pdos; clients = no_clients; starts_itself = false; modular = false; stores = false; as_sheet = true }

abbrev subject : Subject
subject = record {
  node = 5;
  limits = record { tolerance = 10; drift = 1; answer = 1000; boot = 10000; time = None };
  facts = facts;
  held = record { entries = record { items = [] } };
  rooms = record { strings = None; domains = None };
}

-- what the recording shows in a state at a stamp
abbrev shows : NmtState → ℕ → Progress
shows state micros = record (before_recording subject) {
  newest = Some micros;
  nmt = record nothing_commanded { state = state };
  entries = entries;
  pdos = pdos;
}

-- ---- the SYNC at which a TPDO is sent first

-- before the fourth of them; none of them says nothing
first_syncs : map (λ syncs. early syncs 0 4) (0 ∷ 1 ∷ 3 ∷ 4 ∷ 5 ∷ []) ≡ None ∷ Some (PhaseChoice 1 1 4) ∷ Some (PhaseChoice 1 3 4) ∷ None ∷ None ∷ []
first_syncs = refl

types : map (early 1 3) (1 ∷ 2 ∷ 240 ∷ 241 ∷ 255 ∷ []) ≡ None ∷ Some (PhaseChoice 4 1 2) ∷ Some (PhaseChoice 4 1 240) ∷ None ∷ None ∷ []
types = refl

-- no SYNC start value: the entry isn't there, or is 0; not where values may be stored
start_values : map (λ all. is_open subject all 0) ([] ∷ (byte 0x1800 6 0 ∷ []) ∷ (byte 0x1800 6 5 ∷ []) ∷ (byte 0x1801 6 5 ∷ []) ∷ []) ≡ true ∷ true ∷ false ∷ true ∷ []
start_values = refl

abbrev storing : Subject
storing = record subject { facts = record facts { pdos = unknown_pdos } }

stored_start_value : map (λ all. is_open storing all 0) ([] ∷ (byte 0x1800 6 0 ∷ []) ∷ []) ≡ true ∷ false ∷ []
stored_start_value = refl

-- nor where the client of another SDO channel may write them
abbrev further : Subject
further = record subject { facts = record facts { clients = record { lowest = 0x645; highest = 0x645 } } }

presets : map has_presets (subject ∷ storing ∷ further ∷ []) ≡ true ∷ false ∷ false ∷ []
presets = refl

abbrev waits : Phases
waits = record no_phases { syncs = 1; first = record { free = true; awaited = true } }

of_its_identifier : map (seen_in waits pdos) (0x185 ∷ 0x285 ∷ []) ≡ Some (PhaseChoice 1 1 4) ∷ None ∷ []
of_its_identifier = refl

said_once : seen_in (record no_phases { syncs = 1; first = record { free = true; awaited = false } }) pdos 0x185 ≡ None
said_once = refl

-- which frames are SYNCs has to be known
without_sync : phase_choice waits (Process 0x185 1) (record (shows Operational 1) { pdos = record pdos { sync = None } }) ≡ None
unfolding phase_choice
without_sync = refl

with_sync : phase_choice waits (Process 0x185 1) (shows Operational 1) ≡ Some (PhaseChoice 1 1 4)
unfolding phase_choice
with_sync = refl

many_syncs : map (λ n. (synced (record no_phases { syncs = n })).syncs) (254 ∷ 255 ∷ []) ≡ 255 ∷ 255 ∷ []
many_syncs = refl

-- a boot-up, a start, a SYNC, the TPDO
abbrev booted : Phases
booted = phases_with subject rows no_phases (Control 0) (shows PreOperational 1)

after_boot_up : booted.idle ∷ booted.first.free ∷ booted.first.awaited ∷ [] ≡ true ∷ true ∷ false ∷ []
unfolding phases_with
after_boot_up = refl

-- a client asked to write an entry of the communication profile within the tolerance before that, or earlier
abbrev asking : ℕ → Progress
asking at = record (shows PreOperational 1000000) { free = 1000000; asked_at = Some at }

phases_asked : map (λ at. (phases_with subject rows no_phases (Control 0) (asking at)).first.free) (989999 ∷ 990000 ∷ []) ≡ true ∷ false ∷ []
unfolding phases_with
phases_asked = refl

errors_asked : map (λ at. (errors_with subject rows no_errors (Control 0) (asking at)).settled) (989999 ∷ 990000 ∷ []) ≡ Some 1000000 ∷ None ∷ []
unfolding errors_with booted_errors
errors_asked = refl

abbrev begun : Phases
begun = phases_with subject rows booted (Command Start) (shows Operational 2)

after_start : begun.idle ∷ begun.first.awaited ∷ [] ≡ false ∷ true ∷ []
unfolding phases_with
after_start = refl

counts_syncs : (phases_with subject rows begun (Process 0x80 0) (shows Operational 3)).syncs ≡ 1
unfolding phases_with
counts_syncs = refl

after_its_frame : (phases_with subject rows begun (Process 0x185 1) (shows Operational 3)).first.awaited ≡ false
unfolding phases_with
after_its_frame = refl

-- a remote frame asks for it
after_its_poll : (phases_with subject rows begun (Polled 0x185) (shows Operational 3)).first.awaited ≡ false
unfolding phases_with
after_its_poll = refl

after_stop : (phases_with subject rows begun (Command Stop) (shows Stopped 3)).first.awaited ≡ false
unfolding phases_with
after_stop = refl

-- it was operational, or may be
started_again : (phases_with subject rows (record booted { idle = false }) (CommandToAll Start) (shows Operational 2)).first.awaited ≡ false
unfolding phases_with
started_again = refl

starts_itself : (phases_with (record subject { facts = record facts { starts_itself = true } }) rows booted (Command Start) (shows Operational 2)).first.awaited ≡ false
unfolding phases_with
starts_itself = refl

-- requests to write: the type, the SYNC start value, that of another TPDO, the mapping, another
-- entry, all entries
abbrev asked : ℕ → ℕ → Phase
asked index sub = phases.after_request (key index sub) 0 (record { free = true; awaited = true })

requests : asked 0x1800 2 ∷ asked 0x1800 6 ∷ asked 0x1801 6 ∷ asked 0x1BFF 1 ∷ asked 0x1C00 0 ∷ asked 0x17FF 6 ∷ asked 0x1011 1 ∷ []
    ≡ record { free = true; awaited = false } ∷ no_phase ∷ record { free = true; awaited = false } ∷ record { free = true; awaited = false }
    ∷ record { free = true; awaited = true } ∷ record { free = true; awaited = true } ∷ no_phase ∷ []
requests = refl

-- ---- EMCY of frames of another length

error_codes : map code_of (ShortRpdo ∷ LongRpdo ∷ OddSync ∷ []) ≡ 0x8210 ∷ 0x8220 ∷ 0x8240 ∷ []
error_codes = refl

lengths : map (λ length. length_error length 2) (1 ∷ 2 ∷ 3 ∷ []) ≡ Some ShortRpdo ∷ None ∷ Some LongRpdo ∷ []
lengths = refl

-- a SYNC has a byte where 1019:00 isn't 0
sync_lengths : map (λ all. sync_length all 5) ([] ∷ (byte 0x1019 0 0 ∷ []) ∷ (byte 0x1019 0 10 ∷ []) ∷ (row 0x1019 0 Unsigned8 Rw absent ∷ []) ∷ []) ≡ Some 0 ∷ Some 0 ∷ Some 1 ∷ None ∷ []
sync_lengths = refl

odd_syncs : map (λ length. sync_error length 0) (0 ∷ 1 ∷ []) ≡ None ∷ Some OddSync ∷ []
odd_syncs = refl

taken_types : map is_taken (None ∷ Some 0 ∷ Some 240 ∷ Some 241 ∷ Some 253 ∷ Some 254 ∷ Some 255 ∷ Some 256 ∷ []) ≡ false ∷ true ∷ true ∷ false ∷ false ∷ true ∷ true ∷ false ∷ []
taken_types = refl

-- after a boot-up; nothing where values may be stored
rpdo_by_the_sheet : (booted_errors subject false rows 1000).first ≡ record { id = Some 0x205; length = Some 2 }
unfolding booted_errors length_of counted_bytes
rpdo_by_the_sheet = refl

-- nor where a client asked to write an entry right before
where_asked : booted_errors subject true rows 1000 ≡ no_errors
unfolding booted_errors
where_asked = refl

where_values_are_stored : booted_errors storing false rows 1000 ≡ no_errors
unfolding booted_errors
where_values_are_stored = refl

abbrev ready : LengthErrors
ready = record no_errors { sync = Some 0; settled = Some 1000; first = record { id = Some 0x205; length = Some 2 } }

-- an RPDO while operational, a SYNC before too
rpdos_of_another_length : map (λ length. error_in ready (shows Operational 1) 0x205 length) (1 ∷ 2 ∷ 3 ∷ []) ≡ Some ShortRpdo ∷ None ∷ Some LongRpdo ∷ []
rpdos_of_another_length = refl

not_operational : error_in ready (shows PreOperational 1) 0x205 1 ≡ None
not_operational = refl

another_identifier : error_in ready (shows Operational 1) 0x305 1 ≡ None
another_identifier = refl

sync_before : error_in ready (shows PreOperational 1) 0x80 1 ≡ Some OddSync
sync_before = refl

-- once the tolerance is over; the first one counts
abbrev after_short : ℕ → Option Awaited
after_short micros = (errors_with subject rows ready (Process 0x205 1) (shows Operational micros)).awaited

settled_state : map after_short (11000 ∷ 11001 ∷ []) ≡ None ∷ Some (record { error = ShortRpdo; micros = 11001 }) ∷ []
unfolding errors_with
settled_state = refl

abbrev short : Awaited
short = record { error = ShortRpdo; micros = 20000 }

first_one : awaited_with 30000 (Some short) (Some LongRpdo) ≡ Some short
first_one = refl

-- EMCY 8210h, 8200h and others
stands_for : map (λ code. answers code short) (0x8210 ∷ 0x8200 ∷ 0x8220 ∷ 0x8100 ∷ []) ≡ true ∷ true ∷ false ∷ false ∷ []
stands_for = refl

another_comes_first : map (λ code. awaited_after code 30000 (Some short)) (0x8210 ∷ 0x3120 ∷ []) ≡ None ∷ Some (record { error = ShortRpdo; micros = 30000 }) ∷ []
another_comes_first = refl

abbrev waiting : LengthErrors
waiting = record ready { awaited = Some short }

abbrev code_chosen : ℕ → Option Choice
code_chosen code = error_choice subject waiting (Emergency code 0x11) (shows Operational 30000)

other_code : map code_chosen (0x8200 ∷ 0x8210 ∷ 0x8201 ∷ []) ≡ Some (OtherEmergency ShortRpdo) ∷ None ∷ None ∷ []
unfolding error_choice
other_code = refl

-- none within an answer's time, and twice the inhibit time of 1 s
abbrev missing : Option ℕ → ℕ → Bool
missing inhibit micros = is_missing subject.limits inhibit micros short

in_time : map (missing (Some 0)) (1020000 ∷ 1020001 ∷ []) ≡ false ∷ true ∷ []
in_time = refl

inhibited : map (missing (Some 10000)) (2020000 ∷ 2020001 ∷ []) ≡ false ∷ true ∷ []
inhibited = refl

inhibit_unknown : missing None 9000000 ≡ false
inhibit_unknown = refl

-- by a heartbeat
none_came : error_choice subject waiting (Control 5) (shows Operational 1020001) ≡ Some (NoEmergency ShortRpdo 1000001)
unfolding error_choice
none_came = refl

said_of_it : (errors_with subject rows waiting (Control 5) (shows Operational 1020001)).awaited ≡ None
unfolding errors_with
said_of_it = refl

by_a_boot_up : error_choice subject waiting (Control 0) (shows PreOperational 1020001) ≡ None
unfolding error_choice
by_a_boot_up = refl

-- while the device may not send EMCY, none is awaited
sending : map (λ state. may_send (shows state 1)) (Unknown ∷ PreOperational ∷ Operational ∷ Stopped ∷ []) ≡ false ∷ true ∷ true ∷ false ∷ []
sending = refl

of_another_identifier : may_send (record (shows Operational 1) { entries = record entries { emergencies = false } }) ≡ false
of_another_identifier = refl

-- requests to write RPDOs, 1019:00, all entries, another one
abbrev known_after : ℕ → ℕ → LengthErrors
known_after index sub = errors.after_request (key index sub) ready

abbrev known : ℕ → ℕ → List (Option ℕ)
known index sub = (known_after index sub).sync ∷ (known_after index sub).first.id ∷ []

written_parameters : known 0x1400 1 ∷ known 0x17FF 64 ∷ known 0x13FF 1 ∷ known 0x1800 1 ∷ known 0x1019 0 ∷ known 0x1011 1 ∷ []
    ≡ (Some 0 ∷ None ∷ []) ∷ (Some 0 ∷ None ∷ []) ∷ (Some 0 ∷ Some 0x205 ∷ []) ∷ (Some 0 ∷ Some 0x205 ∷ []) ∷ (None ∷ Some 0x205 ∷ []) ∷ (None ∷ None ∷ []) ∷ []
written_parameters = refl

-- ---- the code of a request

abbrev asks : ℕ → List ℕ → Request
asks first rest = record { first = first; rest = rest }

-- expedited downloads of 4, 3, 2 and 1 bytes, and without a size; segmented and block downloads with
-- a size and without; an upload
sizes : map (λ first. indicated_size (asks first (8 ∷ 1 ∷ 0 ∷ 0 ∷ []))) (0x23 ∷ 0x27 ∷ 0x2B ∷ 0x2F ∷ 0x22 ∷ 0x21 ∷ 0x20 ∷ 0xC6 ∷ 0xC2 ∷ 0xC4 ∷ 0x40 ∷ [])
    ≡ Some 4 ∷ Some 3 ∷ Some 2 ∷ Some 1 ∷ None ∷ Some 0x108 ∷ None ∷ Some 0x108 ∷ Some 0x108 ∷ None ∷ None ∷ []
sizes = refl

-- 2000:00 of two bytes from 10 to 20
abbrev limited : Row
limited = record (row 0x2000 0 Unsigned16 Rw (number (pos 15))) { low = Some (pos 10); high = Some (pos 20) }

abbrev code_of_two : ℕ → List ℕ → Option ℕ
code_of_two first rest = request_code (asks first rest) [] limited

lengths_refused : map (λ first. code_of_two first (15 ∷ 0 ∷ 0 ∷ 0 ∷ [])) (0x2F ∷ 0x2B ∷ 0x27 ∷ 0x22 ∷ 0x21 ∷ 0xC6 ∷ 0x20 ∷ [])
    ≡ Some 0x06070013 ∷ None ∷ Some 0x06070012 ∷ None ∷ Some 0x06070012 ∷ Some 0x06070012 ∷ None ∷ []
unfolding request_code
lengths_refused = refl

limits_refused : map (λ n. code_of_two 0x2B (n ∷ 0 ∷ 0 ∷ 0 ∷ [])) (9 ∷ 10 ∷ 20 ∷ 21 ∷ []) ≡ Some 0x06090032 ∷ None ∷ None ∷ Some 0x06090031 ∷ []
unfolding request_code
limits_refused = refl

-- without a size the first bytes count; the length comes first
without_size : code_of_two 0x22 (9 ∷ 0 ∷ 7 ∷ 7 ∷ []) ≡ Some 0x06090032
unfolding request_code
without_size = refl

length_first : code_of_two 0x2F (9 ∷ 0 ∷ 0 ∷ 0 ∷ []) ≡ Some 0x06070013
unfolding request_code
length_first = refl

of_a_text : request_code (asks 0x2F (9 ∷ 0 ∷ 0 ∷ 0 ∷ [])) [] (row 0x2000 0 VisibleString Rw absent) ≡ None
unfolding request_code
of_a_text = refl

-- 1010:01, not 1010:00; 1011:7F
abbrev stores : ℕ → ℕ → Option ℕ
stores index sub = request_code (asks 0x23 (0x73 ∷ 0x61 ∷ 0x76 ∷ 0x65 ∷ [])) [] (word index sub 1)

storing_refused : stores 0x1010 1 ∷ stores 0x1010 0 ∷ stores 0x1011 127 ∷ stores 0x1012 1 ∷ [] ≡ Some 0x08000020 ∷ None ∷ Some 0x08000020 ∷ None ∷ []
unfolding request_code
storing_refused = refl

-- of 2001:00 (a byte that may be mapped), 2001:01 and 2002:00 (not there), 1400:01 (not mappable)
abbrev mappable : List Row
mappable = word 0x1400 1 0x205 ∷ record (byte 0x2001 0 1) { mappable = true } ∷ []

mapped_words : map (word_code mappable) (0x20010008 ∷ 0x20010010 ∷ 0x20010108 ∷ 0x20020008 ∷ 0x14000120 ∷ 0x00050008 ∷ 0 ∷ [])
    ≡ None ∷ Some 0x06040041 ∷ Some 0x06090011 ∷ Some 0x06020000 ∷ Some 0x06040041 ∷ None ∷ None ∷ []
mapped_words = refl

abbrev maps : ℕ → ℕ → Option ℕ
maps index sub = request_code (asks 0x23 (0x10 ∷ 0 ∷ 0x01 ∷ 0x20 ∷ [])) mappable (word index sub 0)

mappings : maps 0x1600 1 ∷ maps 0x17FF 1 ∷ maps 0x1A00 1 ∷ maps 0x1BFF 1 ∷ maps 0x1600 0 ∷ maps 0x15FF 1 ∷ maps 0x1800 1 ∷ maps 0x1C00 1 ∷ []
    ≡ Some 0x06040041 ∷ Some 0x06040041 ∷ Some 0x06040041 ∷ Some 0x06040041 ∷ None ∷ None ∷ None ∷ None ∷ []
unfolding request_code
mappings = refl

-- the codes that fit beside one
general_lengths : map (also_fits 0x06070012) (0x06070010 ∷ 0x06070012 ∷ 0x06070013 ∷ []) ≡ true ∷ false ∷ false ∷ []
general_lengths = refl

general_short : also_fits 0x06070013 0x06070010 ≡ true
general_short = refl

general_limits : map (also_fits 0x06090031) (0x06090030 ∷ 0x06090031 ∷ 0x06090032 ∷ []) ≡ true ∷ false ∷ false ∷ []
general_limits = refl

general_low : also_fits 0x06090032 0x06090030 ≡ true
general_low = refl

reasons_not_to_store : map (also_fits 0x08000020) (0x08000000 ∷ 0x08000020 ∷ 0x08000021 ∷ 0x08000022 ∷ 0x08000023 ∷ []) ≡ false ∷ false ∷ true ∷ true ∷ false ∷ []
reasons_not_to_store = refl

codes_of_mappings : map (also_fits 0x06040041) (0x06040041 ∷ 0x06040042 ∷ 0x06040047 ∷ 0x06040043 ∷ []) ≡ false ∷ true ∷ true ∷ false ∷ []
codes_of_mappings = refl

missing_object : map (also_fits 0x06020000) (0x06020000 ∷ 0x06040041 ∷ []) ≡ false ∷ true ∷ []
missing_object = refl
