-- What isn't known of a device with another SDO channel than the default one, on both sides of each edge.
use Rattle.std.proofs.Common.{◌≡◌, ℕ, Bool, true, false, List, [], ◌∷◌, map, Option, Some, None, refl}
use Rattle.std.specs.Prelude.{◌+◌, ◌/◌, ◌%◌}
use Rattle.co_frame.specs.SdoRequests.{request_row_in}
use Rattle.co_frame.specs.SdoResponses.{response_row_in}
use Rattle.co_sheet.specs.Limits.{absent}
use Rattle.conode_compare_pdos.specs.Followed.{pdos_of, requested, unknown_pdos}
use Rattle.conode_compare_pdos.specs.declared.pdos.Pdos.{Pdos}
use Rattle.conode_explain_transfers.specs.declared.kinds.Side.{Side}
use Rattle.conode_explain_transfers.specs.declared.kinds.Side.TheVariants.{Client, Server}
use Rattle.conode_compare_transfers.specs.declared.dialogue.Asked.{Asked}
use Rattle.conode_compare_transfers.specs.Dialogues.{dialogue_heard, exchange_in, nothing_asked}
use Rattle.conode_compare_nmt.specs.declared.entries.Entries.{Entries}
use Rattle.conode_compare_nmt.specs.declared.limits.Subject.{Subject}
use Rattle.conode_compare_rules.specs.declared.progress.Progress.{Progress}
use Rattle.conode_compare_nmt.specs.EntriesInForce.{asked_to_write, overwritten, shown_inhibit, shown_period}
use Rattle.conode_compare_nmt.specs.OtherClients.{no_clients}
use Rattle.conode_compare_rules.specs.Gaps.{after_fault, before_recording, begun, with_bad_line, with_gap}
use Rattle.conode_compare_rules.specs.NmtFrames.{booted}
use Rattle.conode_compare_rules.specs.EmergencyRules.{after_emergency}
use Rattle.conode_compare_rules.specs.Channels.{asks_for_profile, channel_heard, exchange_at, is_parameter, pdos_asked, pdos_by}
use Rattle.conode_compare_rules.specs.Processes.{after_process}
use Rattle.conode_compare_rules.specs.Progresses.{is_begun}
use Rattle.conode_compare_nmt.proofs.ClientExamples.{entries, key, with_channel}
use Rattle.conode_compare_nmt.proofs.Examples.{limits}

-- ---- a frame of its client, which may have written each entry

abbrev constant : Entries
constant = record { period = Some 500; emergencies = false; inhibit = None; inhibit_shown = None }

abbrev pdos : Pdos
pdos = pdos_of (with_channel 1 absent) 5

abbrev device : Subject
device = record {
  node = 5;
  limits = limits;
  facts = record {
    before = constant;
    booted = entries;
    pdos = pdos;
    clients = record { lowest = 0x645; highest = 0x645 };
    starts_itself = false;
    modular = false;
    stores = false;
    as_sheet = true;
  };
  held = record { entries = record { items = [] } };
  rooms = record { strings = None; domains = None };
}

abbrev up : Progress
up = record (before_recording device) { entries = entries; pdos = pdos }

forgotten : (after_process device up 9 0x645 8).entries ≡ record { period = None; emergencies = false; inhibit = None; inhibit_shown = Some 7 }
unfolding after_process overwritten
forgotten = refl

forgotten_pdos : (after_process device up 9 0x645 8).pdos ≡ unknown_pdos
unfolding after_process
forgotten_pdos = refl

another_frame : (after_process device up 9 0x646 8).entries ≡ entries
unfolding after_process
another_frame = refl

-- Then a transfer on the default channel shows nothing more, as here an upload of 1017:00 with 1000 ms: the device may take
-- what the other client has asked for after that.
abbrev shown_after : ℕ → Option ℕ
shown_after id =
    let asked = channel_heard device (after_process device up 9 id 8) 10 Client (record { id = 0x605; bytes = 0x40 ∷ 0x17 ∷ 0x10 ∷ 0 ∷ 0 ∷ 0 ∷ 0 ∷ 0 ∷ [] }) in
    (channel_heard device asked 11 Server (record { id = 0x585; bytes = 0x4B ∷ 0x17 ∷ 0x10 ∷ 0 ∷ 0xE8 ∷ 3 ∷ 0 ∷ 0 ∷ [] })).entries.period

shown_alone : shown_after 0x646 ≡ Some 1000
unfolding request_row_in response_row_in exchange_in after_process channel_heard exchange_at dialogue_heard shown_period shown_inhibit asked_to_write
shown_alone = refl

shown_nothing : shown_after 0x645 ≡ None
unfolding request_row_in response_row_in after_process overwritten channel_heard exchange_at dialogue_heard shown_period shown_inhibit asked_to_write
shown_nothing = refl

-- also where the recording begins anew, as a stamp steps back
anew : (begun device (record (after_process device up 9 0x645 8) { newest = Some 9 }) 8).other_client ≡ true
unfolding after_process begun
anew = refl

-- It begins with the first frame, not with another one of the same stamp, and anew where a stamp steps back, and with an error frame.
begins : map (λ newest. is_begun (begun device (record up { newest = newest; started = 9 }) 9)) (None ∷ Some 9 ∷ Some 8 ∷ Some 10 ∷ []) ≡ true ∷ false ∷ false ∷ true ∷ []
unfolding begun
begins = refl

-- the stamp before the newest one, since the recording began
stamp_before : map (λ newest. (begun device (record up { newest = newest; earlier = Some 3 }) 9).earlier) (None ∷ Some 9 ∷ Some 8 ∷ Some 10 ∷ []) ≡ None ∷ Some 3 ∷ Some 8 ∷ None ∷ []
unfolding begun
stamp_before = refl

begins_with_error : is_begun (after_fault up 9) ∷ is_begun (begun device (record (after_fault up 9) { newest = Some 9 }) 9) ∷ [] ≡ true ∷ false ∷ []
unfolding after_fault begun with_gap
begins_with_error = refl

-- the device may take it after its boot-up: from then on each shows no more than what never changes
abbrev boots : List ℕ → Progress
boots [] = booted device up 20
boots (id ∷ later) = booted device (after_process device (after_process device up 9 id 8) 10 0x181 8) 20

boots_anew : map (λ ids. (boots ids).entries) ([] ∷ (0x646 ∷ []) ∷ (0x645 ∷ []) ∷ []) ≡ entries ∷ entries ∷ constant ∷ []
unfolding after_process booted
boots_anew = refl

boots_pdos : map (λ ids. (boots ids).pdos) ([] ∷ (0x646 ∷ []) ∷ (0x645 ∷ []) ∷ []) ≡ pdos ∷ pdos ∷ unknown_pdos ∷ []
unfolding after_process booted
boots_pdos = refl

-- ---- a request on the default channel to write its parameters

abbrev asks : Bool → ℕ → Option Asked
asks writes index = Some (record { key = key index 1; micros = 9; writes = writes; switches = false })

opened_pdos : pdos_asked pdos (asks true 0x1201) 9 ≡ unknown_pdos
opened_pdos = refl

-- an upload changes nothing
read_pdos : pdos_asked pdos (asks false 0x1201) 9 ≡ pdos
read_pdos = refl

-- ---- what a client's frame asks to write, whatever it is in the transfers: an entry of a TPDO, expedited; an upload of it; of seven bytes,
-- which no request has; what a device sends; and a parameter of another channel

abbrev writes_by : Side → List ℕ → Pdos
writes_by side bytes = pdos_by side (record { id = 0x605; bytes = bytes }) pdos 9

by_client : writes_by Client (0x2B ∷ 0 ∷ 0x18 ∷ 5 ∷ 0 ∷ 0 ∷ 0 ∷ 0 ∷ []) ≡ requested pdos (key 0x1800 5) 9
by_client = refl

by_upload : writes_by Client (0x40 ∷ 0 ∷ 0x18 ∷ 5 ∷ 0 ∷ 0 ∷ 0 ∷ 0 ∷ []) ≡ pdos
by_upload = refl

by_short : writes_by Client (0x2B ∷ 0 ∷ 0x18 ∷ 5 ∷ 0 ∷ 0 ∷ 0 ∷ []) ≡ pdos
by_short = refl

by_device : writes_by Server (0x2B ∷ 0 ∷ 0x18 ∷ 5 ∷ 0 ∷ 0 ∷ 0 ∷ 0 ∷ []) ≡ pdos
by_device = refl

by_channel : writes_by Client (0x23 ∷ 1 ∷ 0x12 ∷ 1 ∷ 0 ∷ 0 ∷ 0 ∷ 0 ∷ []) ≡ unknown_pdos
by_channel = refl

-- ---- two writes in flight

-- a write of 1017:00, and what it has after the answer, where an earlier request may still be answered since 5 µs
abbrev written_after : Option ℕ → ℕ → Option ℕ
written_after doubted micros =
    let free = record up { dialogue = record nothing_asked { doubted = doubted } } in
    let asked = channel_heard device free micros Client (record { id = 0x605; bytes = 0x2B ∷ 0x17 ∷ 0x10 ∷ 0 ∷ 0xE8 ∷ 3 ∷ 0 ∷ 0 ∷ [] }) in
    (channel_heard device asked (micros + 1) Server (record { id = 0x585; bytes = 0x60 ∷ 0x17 ∷ 0x10 ∷ 0 ∷ 0 ∷ 0 ∷ 0 ∷ 0 ∷ [] })).entries.period

-- the answer may be that to the write before until a second has passed; right after the begin of a recording it is the
-- write's own
two_writes : written_after (Some 5) 1000004 ∷ written_after (Some 5) 1000005 ∷ written_after None 10 ∷ [] ≡ None ∷ Some 1000 ∷ Some 1000 ∷ []
unfolding request_row_in response_row_in exchange_in channel_heard exchange_at dialogue_heard shown_period shown_inhibit asked_to_write
two_writes = refl

-- an upload shows what it has all the same
abbrev read_after : Option ℕ → ℕ → Option ℕ
read_after doubted micros =
    let free = record up { dialogue = record nothing_asked { doubted = doubted } } in
    let asked = channel_heard device free micros Client (record { id = 0x605; bytes = 0x40 ∷ 0x17 ∷ 0x10 ∷ 0 ∷ 0 ∷ 0 ∷ 0 ∷ 0 ∷ [] }) in
    (channel_heard device asked (micros + 1) Server (record { id = 0x585; bytes = 0x4B ∷ 0x17 ∷ 0x10 ∷ 0 ∷ 0xE8 ∷ 3 ∷ 0 ∷ 0 ∷ [] })).entries.period

read_all_the_same : read_after (Some 5) 10 ≡ Some 1000
unfolding request_row_in response_row_in exchange_in channel_heard exchange_at dialogue_heard shown_period shown_inhibit asked_to_write
read_all_the_same = refl

-- 1800h to 1803h
parameters : map (λ index. is_parameter (key index 1)) (0x17FF ∷ 0x1800 ∷ 0x1803 ∷ 0x1804 ∷ []) ≡ false ∷ true ∷ true ∷ false ∷ []
parameters = refl

-- ---- an EMCY may have waited since the bus was free last

counts_from_free : (after_emergency (record up { free = 7 })).emergency ≡ Some 7
unfolding after_emergency
counts_from_free = refl

-- ---- a request to write right before a boot-up, whose frame may have waited

-- of 1000h to 1FFFh, expedited
asks_for : map (λ (index : ℕ). asks_for_profile Client (record { id = 0x605; bytes = 0x2B ∷ index % 256 ∷ index / 256 ∷ 0 ∷ 0 ∷ 0 ∷ 0 ∷ 0 ∷ [] })) (0xFFF ∷ 0x1000 ∷ 0x1FFF ∷ 0x2000 ∷ [])
    ≡ false ∷ true ∷ true ∷ false ∷ []
asks_for = refl

-- in segments or blocks too; not to read, nor an answer
asks_by : map (λ (byte : ℕ). asks_for_profile Client (record { id = 0x605; bytes = byte ∷ 0x17 ∷ 0x10 ∷ 0 ∷ 0 ∷ 0 ∷ 0 ∷ 0 ∷ [] })) (0x21 ∷ 0xC2 ∷ 0x40 ∷ 0xA0 ∷ []) ≡ true ∷ true ∷ false ∷ false ∷ []
asks_by = refl

answers : asks_for_profile Server (record { id = 0x585; bytes = 0x2B ∷ 0x17 ∷ 0x10 ∷ 0 ∷ 0 ∷ 0 ∷ 0 ∷ 0 ∷ [] }) ≡ false
answers = refl

abbrev asked_by : ℕ → Option ℕ
asked_by byte =
    (channel_heard device (record up { asked_at = Some 3 }) 5 Client (record { id = 0x605; bytes = byte ∷ 0x17 ∷ 0x10 ∷ 0 ∷ 0 ∷ 0 ∷ 0 ∷ 0 ∷ [] })).asked_at

newest_asks : map asked_by (0x2B ∷ 0x40 ∷ []) ≡ Some 5 ∷ Some 3 ∷ []
unfolding channel_heard
newest_asks = refl

-- within 10 ms before the bus was free last, before the boot-up frame
abbrev boots_after : Option ℕ → ℕ → Progress
boots_after asked free = booted device (record up { asked_at = asked; free = free }) 21000

asked_before : (boots_after None 20000).entries ∷ (boots_after (Some 9999) 20000).entries ∷ (boots_after (Some 10000) 20000).entries ∷ (boots_after (Some 9999) 19999).entries
    ∷ (boots_after (Some 20500) 20000).entries ∷ []
    ≡ entries ∷ entries ∷ constant ∷ constant ∷ constant ∷ []
unfolding booted
asked_before = refl

asked_pdos : (boots_after (Some 9999) 20000).pdos ∷ (boots_after (Some 10000) 20000).pdos ∷ [] ≡ pdos ∷ unknown_pdos ∷ []
unfolding booted
asked_pdos = refl

-- ---- a bad line

-- with the next frame the recording begins anew, also where there are several
abbrev goes_on : Progress → Progress
goes_on progress = begun device progress 12

abbrev recorded : Progress
recorded = record up { newest = Some 9 }

begins_anew_then : is_begun (goes_on recorded) ∷ is_begun (goes_on (with_bad_line recorded)) ∷ is_begun (goes_on (with_bad_line (with_bad_line recorded))) ∷ [] ≡ false ∷ true ∷ true ∷ []
unfolding begun
begins_anew_then = refl

knows_then : ((goes_on (with_bad_line recorded)).entries ≡ constant) × ((goes_on (with_bad_line recorded)).pdos ≡ unknown_pdos) × ((goes_on recorded).entries ≡ entries)
unfolding begun
knows_then = (refl, refl, refl)

-- It may have had a request to write, and a frame of another client, where there is one; not before the first frame.
asked_then_too : (goes_on recorded).asked_at ∷ (goes_on (with_bad_line recorded)).asked_at ∷ (goes_on (with_bad_line (with_bad_line recorded))).asked_at
    ∷ (goes_on (with_bad_line (before_recording device))).asked_at ∷ []
    ≡ None ∷ Some 12 ∷ Some 12 ∷ None ∷ []
unfolding begun
asked_then_too = refl

client_then : (goes_on (with_bad_line recorded)).other_client ∷ (goes_on (with_bad_line (before_recording device))).other_client
    ∷ (begun (record device { facts = record device.facts { clients = no_clients } }) (with_bad_line recorded) 12).other_client ∷ []
    ≡ true ∷ false ∷ false ∷ []
unfolding begun
client_then = refl

-- with the frame after that it goes on
goes_on_again : is_begun (begun device (goes_on (with_bad_line recorded)) 13) ≡ false
unfolding begun
goes_on_again = refl
