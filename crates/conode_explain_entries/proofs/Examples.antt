-- What entries have, evaluated on both sides of each edge.
use Rattle.std.proofs.Common.{◌≡◌, ℕ, Bool, true, false, List, [], ◌∷◌, Option, Some, None, refl}
use Rattle.std.specs.Prelude.{codes, is_some, map, slice_index_or}
use Rattle.co_value.specs.declared.key.Key.{Key}
use Rattle.conode_explain_transfers.specs.declared.ended.Ending.TheVariants as endings
use Rattle.conode_explain_transfers.specs.declared.kinds.Direction.TheVariants.{Download, Upload}
use Rattle.conode_explain_transfers.specs.declared.kinds.Protocol.{Protocol}
use Rattle.conode_explain_transfers.specs.declared.kinds.Protocol.TheVariants.{Undecided, Expedited, Segmented, Block}
use Rattle.conode_explain_transfers.specs.declared.kinds.Side.TheVariants.{Client, Server}
use Rattle.conode_explain_transfers.specs.declared.kinds.What.TheVariants.{Initiate}
use Rattle.conode_explain_transfers.specs.declared.told.Part.{Part}
use Rattle.conode_explain_entries.specs.declared.event.Event.{Event}
use Rattle.conode_explain_entries.specs.declared.event.Event.TheVariants.{Written, Read, BootedUp, Saved, Restored, Unclear}
use Rattle.conode_explain_entries.specs.declared.event.PdoEntry.{PdoEntry}
use Rattle.conode_explain_entries.specs.declared.event.PdoPart.TheVariants.{CobId, Mapping}
use Rattle.conode_explain_entries.specs.declared.state.PdoState.{PdoState}
use Rattle.conode_explain_entries.specs.declared.state.Value.{Value}
use Rattle.conode_explain_entries.specs.declared.state.Value.TheVariants as values
use Rattle.conode_explain_entries.specs.Events.{entry_of, event_by, event_with, or_unclear}
use Rattle.conode_explain_entries.specs.Histories.{assumed_values, nothing_shown}
use Rattle.conode_explain_entries.specs.Tables.{Happening, state_after}

abbrev key : ℕ → ℕ → Key
key index sub = record { index = index; sub = sub }

-- of node 5 on can0
abbrev happening : Event → Happening
happening event = record { interface = codes "can0"; node = 5; event = event }

-- what its TPDO1 has after these events, the newest first
abbrev after : List Event → PdoState
after events = state_after (map happening events) (codes "can0") 5 0x1800

-- of one sub-index of the mapping: what it has, what comes back, and whether the mapping is being changed
record Has : Type 0 where
  now : Value
  stored : Value
  changes : Bool

abbrev at : PdoState → ℕ → Has
at state sub = record {
  now = slice_index_or state.now.mapping sub values.Unknown;
  stored = slice_index_or state.stored.mapping sub values.Unknown;
  changes = state.is_being_changed;
}

abbrev word_after : List Event → Has
word_after events = at (after events) 1

abbrev count_after : List Event → Has
count_after events = at (after events) 0

abbrev has : Value → Value → Has
has now stored = record { now = now; stored = stored; changes = false }

abbrev awaiting : Value → Value → Has
awaiting now stored = record { now = now; stored = stored; changes = true }

abbrev tpdo1 : ℕ → PdoEntry
tpdo1 sub = record { index = 0x1800; part = Mapping sub }

abbrev cob_id : PdoEntry
cob_id = record { index = 0x1800; part = CobId }

abbrev word_written : Event
word_written = Written (tpdo1 1) (Some 0x20010110)

abbrev count_written : ℕ → Event
count_written count = Written (tpdo1 0) (Some count)

-- ---- a mapping is changed

no_entries : count_after (count_written 0 ∷ []) ≡ awaiting (values.Seen 0) values.Assumed
unfolding assumed_values
no_entries = refl

-- the word itself wasn't written yet
word_before : word_after (count_written 0 ∷ []) ≡ awaiting values.Assumed values.Assumed
unfolding assumed_values
word_before = refl

a_word : word_after (word_written ∷ count_written 0 ∷ []) ≡ awaiting (values.Seen 0x20010110) values.Assumed
unfolding assumed_values
a_word = refl

count_of_a_word : count_after (word_written ∷ count_written 0 ∷ []) ≡ awaiting (values.Seen 0) values.Assumed
unfolding assumed_values
count_of_a_word = refl

one_entry : count_after (count_written 1 ∷ word_written ∷ count_written 0 ∷ []) ≡ has (values.Seen 1) values.Assumed
unfolding assumed_values
one_entry = refl

word_of_one : word_after (count_written 1 ∷ word_written ∷ count_written 0 ∷ []) ≡ has (values.Seen 0x20010110) values.Assumed
unfolding assumed_values
word_of_one = refl

-- a word that a device takes in spite of a count
word_with_count : word_after (word_written ∷ count_written 1 ∷ []) ≡ awaiting (values.Seen 0x20010110) values.Assumed
unfolding assumed_values
word_with_count = refl

-- the count of another mapping, and another sub-index of this one
other_count : word_after (Written (record { index = 0x1801; part = Mapping 0 }) (Some 1) ∷ word_written ∷ []) ≡ awaiting (values.Seen 0x20010110) values.Assumed
unfolding assumed_values
other_count = refl

other_word : word_after (Written (tpdo1 2) (Some 1) ∷ word_written ∷ []) ≡ awaiting (values.Seen 0x20010110) values.Assumed
unfolding assumed_values
other_word = refl

-- a COB-ID awaits no count
cob_id_written : (after (Written cob_id (Some 0x80000185) ∷ [])).now.cob_id ≡ values.Seen 0x80000185
unfolding assumed_values
cob_id_written = refl

cob_id_alone : word_after (Written cob_id (Some 0x80000185) ∷ []) ≡ has values.Assumed values.Assumed
unfolding assumed_values
cob_id_alone = refl

cob_id_while_changed : word_after (Read cob_id (Some 0x185) ∷ Written cob_id (Some 0x80000185) ∷ word_written ∷ []) ≡ awaiting (values.Seen 0x20010110) values.Assumed
unfolding assumed_values
cob_id_while_changed = refl

cob_id_came_back : (after (BootedUp ∷ Written cob_id (Some 0x80000185) ∷ Saved ∷ Written cob_id (Some 0x185) ∷ [])).now.cob_id ≡ values.Saved 0x185
unfolding assumed_values
cob_id_came_back = refl

last_word : at (after (Written (tpdo1 64) (Some 5) ∷ [])) 64 ≡ awaiting (values.Seen 5) values.Assumed
unfolding assumed_values
last_word = refl

-- ---- what is read counts

word_read : word_after (Read (tpdo1 1) (Some 0x20010210) ∷ []) ≡ has (values.Seen 0x20010210) values.Assumed
unfolding assumed_values
word_read = refl

-- of a word that was written, what is read doesn't say that it holds
word_read_back : word_after (Read (tpdo1 1) (Some 0x20010110) ∷ word_written ∷ []) ≡ awaiting (values.Seen 0x20010110) values.Assumed
unfolding assumed_values
word_read_back = refl

count_read : word_after (Read (tpdo1 0) (Some 1) ∷ word_written ∷ []) ≡ has (values.Seen 0x20010110) values.Assumed
unfolding assumed_values
count_read = refl

-- nothing is mapped; a read alone begins no change, and doesn't end one that was begun by a write
no_entries_read : count_after (Read (tpdo1 0) (Some 0) ∷ []) ≡ has (values.Seen 0) values.Assumed
unfolding assumed_values
no_entries_read = refl

no_entries_read_back : count_after (Read (tpdo1 0) (Some 0) ∷ count_written 0 ∷ []) ≡ awaiting (values.Seen 0) values.Assumed
unfolding assumed_values
no_entries_read_back = refl

no_count_read_back : count_after (Read (tpdo1 0) None ∷ count_written 0 ∷ []) ≡ has values.Unknown values.Assumed
unfolding assumed_values
no_count_read_back = refl

-- ---- a write whose data are missing

unknown_word : word_after (count_written 1 ∷ Written (tpdo1 1) None ∷ []) ≡ has values.Unknown values.Assumed
unfolding assumed_values
unknown_word = refl

-- of a count that isn't known the mapping isn't either, and isn't being changed
unknown_count : count_after (Written (tpdo1 0) None ∷ count_written 1 ∷ []) ≡ has values.Unknown values.Assumed
unfolding assumed_values
unknown_count = refl

unknown_count_after_none : count_after (Written (tpdo1 0) None ∷ word_written ∷ count_written 0 ∷ []) ≡ has values.Unknown values.Assumed
unfolding assumed_values
unknown_count_after_none = refl

-- ---- boot-ups, stored values

booted : word_after (BootedUp ∷ word_written ∷ []) ≡ has values.Assumed values.Assumed
unfolding assumed_values
booted = refl

saved : word_after (Saved ∷ count_written 1 ∷ word_written ∷ []) ≡ has (values.Seen 0x20010110) (values.Saved 0x20010110)
unfolding assumed_values
saved = refl

came_back : word_after (BootedUp ∷ Saved ∷ count_written 1 ∷ word_written ∷ []) ≡ has (values.Saved 0x20010110) (values.Saved 0x20010110)
unfolding assumed_values
came_back = refl

-- what is written after it was stored doesn't come back
written_later : word_after (BootedUp ∷ Written (tpdo1 1) (Some 5) ∷ Saved ∷ word_written ∷ []) ≡ has (values.Saved 0x20010110) (values.Saved 0x20010110)
unfolding assumed_values
written_later = refl

-- what came back comes back again, and is stored again
twice : word_after (BootedUp ∷ Saved ∷ BootedUp ∷ Saved ∷ word_written ∷ []) ≡ has (values.Saved 0x20010110) (values.Saved 0x20010110)
unfolding assumed_values
twice = refl

-- it is restored with the boot-up, and not before
restored : word_after (Restored ∷ BootedUp ∷ Saved ∷ word_written ∷ []) ≡ has (values.Saved 0x20010110) values.Assumed
unfolding assumed_values
restored = refl

restored_and_booted : word_after (BootedUp ∷ Restored ∷ BootedUp ∷ Saved ∷ word_written ∷ []) ≡ has values.Assumed values.Assumed
unfolding assumed_values
restored_and_booted = refl

saved_after_restored : word_after (BootedUp ∷ Saved ∷ Restored ∷ Saved ∷ count_written 1 ∷ word_written ∷ []) ≡ has (values.Saved 0x20010110) (values.Saved 0x20010110)
unfolding assumed_values
saved_after_restored = refl

unknown_comes_back : word_after (BootedUp ∷ Saved ∷ Written (tpdo1 1) None ∷ []) ≡ has values.Unknown values.Unknown
unfolding assumed_values
unknown_comes_back = refl

-- it may be stored: what comes back isn't known, but of what nothing was shown
maybe_saved : word_after (Unclear ∷ count_written 1 ∷ word_written ∷ []) ≡ has (values.Seen 0x20010110) values.Unknown
unfolding assumed_values
maybe_saved = refl

maybe_came_back : word_after (BootedUp ∷ Unclear ∷ count_written 1 ∷ word_written ∷ []) ≡ has values.Unknown values.Unknown
unfolding assumed_values
maybe_came_back = refl

maybe_saved_again : word_after (Unclear ∷ BootedUp ∷ Saved ∷ word_written ∷ []) ≡ has (values.Saved 0x20010110) values.Unknown
unfolding assumed_values
maybe_saved_again = refl

maybe_saved_alone : word_after (BootedUp ∷ Unclear ∷ Written cob_id (Some 0x185) ∷ []) ≡ has values.Assumed values.Assumed
unfolding assumed_values
maybe_saved_alone = refl

saved_after_all : word_after (BootedUp ∷ Saved ∷ Unclear ∷ count_written 1 ∷ word_written ∷ []) ≡ has (values.Saved 0x20010110) (values.Saved 0x20010110)
unfolding assumed_values
saved_after_all = refl

-- the device type stays over a boot-up, the COB-ID of SYNC doesn't
abbrev after_read : ℕ → List Event → Value
after_read index events = slice_index_or (state_after (map happening events) (codes "can0") 5 index).now.mapping 0 values.Unknown

abbrev read_at : ℕ → Event
read_at index = Read (record { index = index; part = Mapping 0 }) (Some 0x192)

device_type : map (λ index. after_read index (BootedUp ∷ read_at index ∷ [])) (0x1000 ∷ 0x1005 ∷ []) ≡ values.Seen 0x192 ∷ values.Assumed ∷ []
unfolding assumed_values
device_type = refl

before_a_boot_up : after_read 0x1005 (read_at 0x1005 ∷ []) ≡ values.Seen 0x192
unfolding assumed_values
before_a_boot_up = refl

-- ---- of other nodes and interfaces

other_node : state_after (happening word_written ∷ []) (codes "can0") 6 0x1800 ≡ nothing_shown
unfolding assumed_values
other_node = refl

other_interface : state_after (happening word_written ∷ []) (codes "can1") 5 0x1800 ≡ nothing_shown
unfolding assumed_values
other_interface = refl

-- ---- the entries that are followed

default_server : entry_of (key 0x1200 1) ≡ None
default_server = refl

first_server : entry_of (key 0x1201 1) ≡ Some (record { index = 0x1201; part = Mapping 1 })
first_server = refl

server_count : entry_of (key 0x1201 0) ≡ None
server_count = refl

last_client : entry_of (key 0x12FF 3) ≡ Some (record { index = 0x12FF; part = Mapping 3 })
last_client = refl

above_node_id : entry_of (key 0x12FF 4) ≡ None
above_node_id = refl

above_clients : entry_of (key 0x1300 1) ≡ None
above_clients = refl

first_rpdo : entry_of (key 0x1400 1) ≡ Some (record { index = 0x1400; part = CobId })
first_rpdo = refl

below_rpdos : entry_of (key 0x13FF 1) ≡ None
below_rpdos = refl

last_rpdo : entry_of (key 0x15FF 1) ≡ Some (record { index = 0x15FF; part = CobId })
last_rpdo = refl

first_rpdo_mapping : entry_of (key 0x1600 0) ≡ Some (record { index = 0x1400; part = Mapping 0 })
first_rpdo_mapping = refl

last_rpdo_mapping : entry_of (key 0x17FF 64) ≡ Some (record { index = 0x15FF; part = Mapping 64 })
last_rpdo_mapping = refl

first_tpdo : entry_of (key 0x1800 1) ≡ Some (record { index = 0x1800; part = CobId })
first_tpdo = refl

transmission_type : entry_of (key 0x1800 2) ≡ None
transmission_type = refl

last_tpdo : entry_of (key 0x19FF 1) ≡ Some (record { index = 0x19FF; part = CobId })
last_tpdo = refl

first_tpdo_mapping : entry_of (key 0x1A00 1) ≡ Some (record { index = 0x1800; part = Mapping 1 })
first_tpdo_mapping = refl

last_tpdo_mapping : entry_of (key 0x1BFF 64) ≡ Some (record { index = 0x19FF; part = Mapping 64 })
last_tpdo_mapping = refl

above_64 : entry_of (key 0x1BFF 65) ≡ None
above_64 = refl

above_mappings : entry_of (key 0x1C00 0) ≡ None
above_mappings = refl

-- the device type, SYNC, TIME, emergencies; and beside them
abbrev is_kept : ℕ → ℕ → Bool
is_kept index sub = is_some (entry_of (key index sub))

services : map (λ index. is_kept index 0) (0x1000 ∷ 0x1005 ∷ 0x1012 ∷ 0x1014 ∷ []) ≡ true ∷ true ∷ true ∷ true ∷ []
services = refl

emergencies : entry_of (key 0x1014 0) ≡ Some (record { index = 0x1014; part = Mapping 0 })
emergencies = refl

beside_services : map (λ index. is_kept index 0) (0x0FFF ∷ 0x1001 ∷ 0x1004 ∷ 0x1006 ∷ 0x1011 ∷ 0x1013 ∷ 0x1015 ∷ [])
    ≡ false ∷ false ∷ false ∷ false ∷ false ∷ false ∷ false ∷ []
beside_services = refl

no_sub_indices : map (λ index. is_kept index 1) (0x1000 ∷ 0x1005 ∷ 0x1012 ∷ 0x1014 ∷ []) ≡ false ∷ false ∷ false ∷ false ∷ []
no_sub_indices = refl

-- ---- what transfers show

-- the COB-ID of emergencies has four bytes
four_bytes : event_by Download (endings.Done false) (key 0x1014 0) Expedited (0x85 ∷ 0x00 ∷ 0x00 ∷ 0x80 ∷ [])
    ≡ Some (Written (record { index = 0x1014; part = Mapping 0 }) (Some 0x80000085))
four_bytes = refl

-- 20010110h, the lowest byte first
downloaded : event_by Download (endings.Done false) (key 0x1A00 1) Expedited (0x10 ∷ 0x01 ∷ 0x01 ∷ 0x20 ∷ []) ≡ Some word_written
downloaded = refl

-- a count has one byte; of an expedited transfer without a size four come
count_of_four : event_by Download (endings.Done false) (key 0x1A00 0) Expedited (2 ∷ 1 ∷ 0 ∷ 0 ∷ []) ≡ Some (count_written 2)
count_of_four = refl

-- in segments four bytes are too many for it
long_count : map {A = Protocol} (λ protocol. event_by Download (endings.Done false) (key 0x1A00 0) protocol (2 ∷ 1 ∷ 0 ∷ 0 ∷ [])) (Undecided ∷ Segmented ∷ Block ∷ [])
    ≡ Some (Written (tpdo1 0) None) ∷ Some (Written (tpdo1 0) None) ∷ Some (Written (tpdo1 0) None) ∷ []
long_count = refl

-- the bytes of a count, from none to three
abbrev count_of : List ℕ → Option Event
count_of bytes = event_by Download (endings.Done false) (key 0x1A00 0) Expedited bytes

lengths_of_counts : map count_of ([] ∷ (2 ∷ []) ∷ (2 ∷ 0 ∷ []) ∷ (2 ∷ 0 ∷ 0 ∷ []) ∷ [])
    ≡ Some (Written (tpdo1 0) None) ∷ Some (count_written 2) ∷ Some (Written (tpdo1 0) None) ∷ Some (Written (tpdo1 0) None) ∷ []
lengths_of_counts = refl

-- those of a COB-ID, from none to five
abbrev cob_id_of : Protocol → List ℕ → Option Event
cob_id_of protocol bytes = event_by Upload (endings.Done false) (key 0x1800 1) protocol bytes

lengths_of_cob_ids : map (cob_id_of Segmented) ([] ∷ (0x85 ∷ 0x01 ∷ 0 ∷ []) ∷ (0x85 ∷ 0x01 ∷ 0 ∷ 0 ∷ []) ∷ (0x85 ∷ 0x01 ∷ 0 ∷ 0 ∷ 0 ∷ []) ∷ [])
    ≡ Some (Read cob_id None) ∷ Some (Read cob_id None) ∷ Some (Read cob_id (Some 0x185)) ∷ Some (Read cob_id None) ∷ []
lengths_of_cob_ids = refl

two_bytes : cob_id_of Expedited (0x99 ∷ 0x01 ∷ []) ≡ Some (Read cob_id None)
two_bytes = refl

-- the node-ID of an SDO channel's other end has one byte, its COB-IDs have four
node_id_of_a_channel : event_by Download (endings.Done false) (key 0x1280 3) Segmented (5 ∷ []) ≡ Some (Written (record { index = 0x1280; part = Mapping 3 }) (Some 5))
node_id_of_a_channel = refl

cob_id_of_a_channel : event_by Download (endings.Done false) (key 0x1280 2) Segmented (5 ∷ []) ≡ Some (Written (record { index = 0x1280; part = Mapping 2 }) None)
cob_id_of_a_channel = refl

third_word : event_by Download (endings.Done false) (key 0x1A00 3) Segmented (5 ∷ []) ≡ Some (Written (tpdo1 3) None)
third_word = refl

uploaded : event_by Upload (endings.Done false) (key 0x1800 1) Expedited (0x85 ∷ 0x01 ∷ 0 ∷ 0x40 ∷ []) ≡ Some (Read cob_id (Some 0x40000185))
uploaded = refl

unclear : event_by Download endings.Irregular (key 0x1A00 1) Expedited (1 ∷ []) ≡ Some (Written (tpdo1 1) None)
unclear = refl

unclear_size : event_by Download (endings.SizeDiffers 4) (key 0x1A00 1) Expedited (1 ∷ []) ≡ Some (Written (tpdo1 1) None)
unclear_size = refl

unclear_crc : event_by Download (endings.CrcDiffers 1 2) (key 0x1A00 1) Expedited (1 ∷ []) ≡ Some (Written (tpdo1 1) None)
unclear_crc = refl

unclear_upload : event_by Upload endings.Irregular (key 0x1A00 1) Expedited (1 ∷ []) ≡ None
unclear_upload = refl

-- a download without an acknowledge changes nothing: the count keeps what it had
unanswered : event_by Download endings.Unanswered (key 0x1A00 0) Expedited [] ≡ None
unanswered = refl

asked_again : event_by Download endings.Repeated (key 0x1A00 0) Expedited [] ≡ None
asked_again = refl

interrupted : event_by Download endings.Interrupted (key 0x1A00 0) Expedited [] ≡ None
interrupted = refl

unfinished : event_by Download endings.Unfinished (key 0x1A00 0) Expedited [] ≡ None
unfinished = refl

-- the client gives up; the device refuses
given_up : event_by Download (endings.Aborted Client (record { 0 = 0x05040000 })) (key 0x1A00 0) Expedited [] ≡ None
given_up = refl

refused : event_by Download (endings.Aborted Server (record { 0 = 0x06090030 })) (key 0x1A00 1) Expedited (1 ∷ []) ≡ None
refused = refl

unanswered_upload : event_by Upload endings.Unanswered (key 0x1A00 1) Expedited (1 ∷ []) ≡ None
unanswered_upload = refl

another_entry : event_by Download (endings.Done false) (key 0x2001 1) Expedited (1 ∷ []) ≡ None
another_entry = refl

all_saved : event_by Download (endings.Done false) (key 0x1010 1) Expedited (codes "save") ≡ Some Saved
all_saved = refl

communication_saved : event_by Download (endings.Done false) (key 0x1010 2) Expedited (codes "save") ≡ Some Saved
communication_saved = refl

application_saved : event_by Download (endings.Done false) (key 0x1010 3) Expedited (codes "save") ≡ None
application_saved = refl

not_signed : event_by Download (endings.Done false) (key 0x1010 1) Expedited (codes "evas") ≡ None
not_signed = refl

-- its bytes are missing, or its request is
unclear_saves : map (λ sub. event_by Download endings.Irregular (key 0x1010 sub) Segmented (codes "save")) (0 ∷ 1 ∷ 2 ∷ 3 ∷ [])
    ≡ None ∷ Some Unclear ∷ Some Unclear ∷ None ∷ []
unclear_saves = refl

loads : event_by Download (endings.Done false) (key 0x1011 1) Expedited (codes "load") ≡ Some Restored
loads = refl

save_to_restore : event_by Download (endings.Done false) (key 0x1011 1) Expedited (codes "save") ≡ None
save_to_restore = refl

asked_whether_it_saves : event_by Upload (endings.Done false) (key 0x1010 1) Expedited (1 ∷ 0 ∷ 0 ∷ 0 ∷ []) ≡ None
asked_whether_it_saves = refl

boots : event_with None None None ≡ Some BootedUp
boots = refl

-- a frame of a transfer
abbrev part : Option Part
part = Some (record { side = Client; what = Initiate; of = None })

goes_on : event_with part None None ≡ None
goes_on = refl

-- a download that isn't known was accepted: of an entry that is followed, and of another one
accepted : map (event_with part None) (Some (key 0x1A00 1) ∷ Some (key 0x2001 1) ∷ []) ≡ Some (Written (tpdo1 1) None) ∷ None ∷ []
accepted = refl

accepted_saves : map (event_with part None) (Some (key 0x1010 1) ∷ Some (key 0x1011 2) ∷ Some (key 0x100F 1) ∷ Some (key 0x1012 1) ∷ []) ≡ Some Unclear ∷ Some Unclear ∷ None ∷ None ∷ []
accepted_saves = refl

-- beside a transfer that shows something of its entry, and one that shows nothing
beside : map (λ event. or_unclear event (Some (key 0x1A00 1))) (Some BootedUp ∷ None ∷ []) ≡ Some BootedUp ∷ Some (Written (tpdo1 1) None) ∷ []
beside = refl
