-- What a TPDO is otherwise than prescribed and what it isn't, on both sides of each edge, computed from the definitions.
use Rattle.std.proofs.Common.{◌≡◌, ℕ, Bool, true, false, List, [], ◌∷◌, map, Some, None, refl}
use Rattle.std.specs.Prelude.{pos, ◌/◌, ◌%◌, ◌^◌, ◌==◌}
use Rattle.co_profile.specs.declared.access.Access.TheVariants.{Constant, Rw}
use Rattle.co_sheet.specs.Content.{Row}
use Rattle.co_sheet.specs.Limits.{Default, absent, number, node_id}
use Rattle.co_value.specs.declared.data_type.DataType.TheVariants.{Unsigned32}
use Rattle.conode_explain_transfers.specs.declared.ended.Ended.{Ended}
use Rattle.conode_explain_transfers.specs.declared.ended.Ending.{Ending}
use Rattle.conode_explain_transfers.specs.declared.ended.Ending.TheVariants.{Aborted, Done, Irregular}
use Rattle.conode_explain_transfers.specs.declared.kinds.Direction.{Direction}
use Rattle.conode_explain_transfers.specs.declared.kinds.Direction.TheVariants.{Download, Upload}
use Rattle.conode_explain_transfers.specs.declared.kinds.Protocol.{Protocol}
use Rattle.conode_explain_transfers.specs.declared.kinds.Protocol.TheVariants.{Expedited, Segmented}
use Rattle.conode_explain_transfers.specs.declared.kinds.Side.TheVariants.{Server}
use Rattle.conode_compare_pdos.specs.declared.deviation.Deviation.TheVariants.{Length, NotOperational, WithoutSync, Inhibit, Timer}
use Rattle.conode_compare_pdos.specs.declared.deviation.Moment.{Moment}
use Rattle.conode_compare_pdos.specs.declared.parameters.Parameters.{Parameters}
use Rattle.conode_compare_pdos.specs.declared.tpdo.Tpdo.{Tpdo}
use Rattle.conode_compare_pdos.specs.Deviations.{deviation_at, is_judged, time_deviation}
use Rattle.conode_compare_pdos.specs.Followed.{are_several, sighting, unknown_pdos}
use Rattle.conode_compare_pdos.specs.Identifiers.{is_cob_id, may_change, may_get, may_have}
use Rattle.conode_compare_pdos.specs.PdoParameters.{asked_to_write, counted_bytes, identifier_of, length_of, mapped_bytes, parameters_of, shown}
use Rattle.conode_compare_pdos.specs.Tpdos.{after_command, after_frame, after_gap, after_poll, after_request, after_sync, after_transfer, booted_tpdo}

-- 10 ms and 1 %, operational; the bus was free 1 ms before the frame
abbrev at : ℕ → Moment
at micros = record { micros = micros; free = micros; tolerance = 10; drift = 1; idle = false; known = true; commanded = None }

-- on 188h, of type 255, with 100 ms of inhibit time, 1 s of event timer and four bytes
abbrev event_driven : Parameters
event_driven = record { id = Some 0x188; kind = Some 255; inhibit = Some 1000; timer = Some 1000; length = Some 4 }

abbrev tpdo : Tpdo
tpdo = booted_tpdo None event_driven

abbrev sent : Tpdo
sent = after_frame (at 5) 0x188 4 tpdo

abbrev synchronous : Tpdo
synchronous = booted_tpdo None (record event_driven { kind = Some 240 })

-- ---- the number of bytes, and the state

right_length : deviation_at (at 5) true tpdo 4 ≡ None
unfolding deviation_at time_deviation
right_length = refl

short : deviation_at (at 5) true tpdo 3 ≡ Some (Length 3 4)
unfolding deviation_at time_deviation
short = refl

long : deviation_at (at 5) true tpdo 5 ≡ Some (Length 5 4)
unfolding deviation_at time_deviation
long = refl

unknown_length : deviation_at (at 5) true (booted_tpdo None (record event_driven { length = None })) 3 ≡ None
unfolding deviation_at time_deviation
unknown_length = refl

idle : deviation_at (record (at 5) { idle = true }) true tpdo 4 ≡ Some NotOperational
unfolding deviation_at time_deviation
idle = refl

-- for the tolerance after a parameter was written nothing is said
just_written : deviation_at (at 10005) true (record tpdo { changed = Some 5 }) 3 ≡ None
unfolding deviation_at time_deviation
just_written = refl

written_before : deviation_at (at 10006) true (record tpdo { changed = Some 5 }) 3 ≡ Some (Length 3 4)
unfolding deviation_at time_deviation
written_before = refl

judged : is_judged (at 5) tpdo 4 ≡ true
judged = refl

not_judged : is_judged (record (at 5) { known = false }) tpdo 4 ≡ false
not_judged = refl

length_not_judged : is_judged (at 5) (booted_tpdo None (record event_driven { length = None })) 4 ≡ false
length_not_judged = refl

-- ---- a wrong number of bytes is said once

abbrev odd : Tpdo
odd = after_frame (at 5) 0x188 3 tpdo

odd_again : deviation_at (at 500005) true odd 3 ≡ None
unfolding deviation_at time_deviation
odd_again = refl

other_odd : deviation_at (at 500005) true odd 5 ≡ Some (Length 5 4)
unfolding deviation_at time_deviation
other_odd = refl

-- a frame with the right number of bytes changes nothing of it
right_between : deviation_at (at 900005) true (after_frame (at 500005) 0x188 4 odd) 3 ≡ None
unfolding deviation_at time_deviation
right_between = refl

-- nor does a parameter that is written
written_between : (after_request (record { index = 0x1800; sub = 2 }) 7 0 odd).odd ≡ Some 3
written_between = refl

-- the newest one counts
newest_odd : deviation_at (at 900005) true (after_frame (at 500005) 0x188 5 odd) 3 ≡ Some (Length 3 4)
unfolding deviation_at time_deviation
newest_odd = refl

-- such a frame isn't judged, but what else differs is said
odd_not_judged : is_judged (at 500005) odd 3 ≡ false
odd_not_judged = refl

right_judged : is_judged (at 500005) odd 4 ≡ true
right_judged = refl

odd_too_soon : deviation_at (at 6) true odd 3 ≡ Some (Inhibit 1 1000)
unfolding deviation_at time_deviation
odd_too_soon = refl

-- where it wasn't said it isn't known: while not operational, in the tolerance, of another frame
not_said : map (λ (pdo : Tpdo). pdo.odd) (after_frame (record (at 5) { idle = true }) 0x188 3 tpdo ∷ after_frame (at 10005) 0x188 3 (record tpdo { changed = Some 5 }) ∷ after_frame (at 5) 0x189 3 tpdo ∷ sent ∷ [])
    ≡ None ∷ None ∷ None ∷ None ∷ []
not_said = refl

-- ---- SYNC

-- types 0 to 240 need one
without_sync : deviation_at (at 5) true synchronous 4 ≡ Some WithoutSync
unfolding deviation_at time_deviation
without_sync = refl

with_sync : deviation_at (at 5) true (after_sync 0 synchronous) 4 ≡ None
unfolding deviation_at time_deviation
with_sync = refl

again : deviation_at (at 5) true (after_frame (at 5) 0x188 4 (after_sync 0 synchronous)) 4 ≡ Some WithoutSync
unfolding deviation_at time_deviation
again = refl

-- a slow device may answer two of them in turn, not three
slow : deviation_at (at 5) true (after_frame (at 5) 0x188 4 (after_sync 0 (after_sync 0 (after_sync 0 synchronous)))) 4 ≡ None
unfolding deviation_at time_deviation
slow = refl

too_many : deviation_at (at 5) true (after_frame (at 5) 0x188 4 (after_frame (at 5) 0x188 4 (after_sync 0 (after_sync 0 (after_sync 0 synchronous))))) 4 ≡ Some WithoutSync
unfolding deviation_at time_deviation
too_many = refl

-- types 241 to 253 are reserved, or asked for by remote frames
reserved : deviation_at (at 5) true (booted_tpdo None (record event_driven { kind = Some 241 })) 4 ≡ None
unfolding deviation_at time_deviation
reserved = refl

unknown_type : deviation_at (at 5) true (booted_tpdo None (record event_driven { kind = None })) 4 ≡ None
unfolding deviation_at time_deviation
unknown_type = refl

unknown_sync : deviation_at (at 5) false synchronous 4 ≡ None
unfolding deviation_at time_deviation
unknown_sync = refl

missed : deviation_at (at 5) true (after_gap synchronous) 4 ≡ None
unfolding deviation_at time_deviation
missed = refl

polled : deviation_at (at 5) true (after_poll 0x188 synchronous) 4 ≡ None
unfolding deviation_at time_deviation
polled = refl

other_polled : deviation_at (at 5) true (after_poll 0x189 synchronous) 4 ≡ Some WithoutSync
unfolding deviation_at time_deviation
other_polled = refl

-- ---- the inhibit time: 100 ms, less 10 ms and 1 %

within : deviation_at (at 89004) true sent 4 ≡ Some (Inhibit 88999 1000)
unfolding deviation_at time_deviation
within = refl

after : deviation_at (at 89005) true sent 4 ≡ None
unfolding deviation_at time_deviation
after = refl

-- the one before may have waited for the bus
waited : deviation_at (at 89004) true (after_frame (record (at 5) { free = 4 }) 0x188 4 tpdo) 4 ≡ None
unfolding deviation_at time_deviation
waited = refl

-- the one before came later than the tolerance after the newest command, when the bus was free last: else it
-- may be one from before that
abbrev after_start : ℕ → ℕ → Tpdo
after_start free micros = after_frame (record (at micros) { free = free; commanded = Some 5 }) 0x188 4 tpdo

since_command : deviation_at (record (at 99005) { commanded = Some 5 }) true (after_start 10006 10006) 4 ≡ Some (Inhibit 88999 1000)
unfolding deviation_at time_deviation
since_command = refl

right_after_command : deviation_at (record (at 10006) { commanded = Some 5 }) true (after_start 10005 10005) 4 ≡ None
unfolding deviation_at time_deviation
right_after_command = refl

waited_since_command : deviation_at (record (at 10008) { commanded = Some 5 }) true (after_start 10005 10007) 4 ≡ None
unfolding deviation_at time_deviation
waited_since_command = refl

-- nor where a command came after it and before this one: its times begin anew then
command_between : deviation_at (record (at 99005) { commanded = Some 20000 }) true (after_command (after_start 10006 10006)) 4 ≡ None
unfolding deviation_at time_deviation
command_between = refl

-- the same since a parameter was written or read
since_write : deviation_at (at 99005) true (record sent { changed = Some 5; sent = Some (record { free = 10006; micros = 10006 }) }) 4 ≡ Some (Inhibit 88999 1000)
unfolding deviation_at time_deviation
since_write = refl

right_after_write : deviation_at (at 99004) true (record sent { changed = Some 5; sent = Some (record { free = 10005; micros = 10005 }) }) 4 ≡ None
unfolding deviation_at time_deviation
right_after_write = refl

-- it is late all the same since a parameter was written or read
late_since_write : deviation_at (at 1131006) true (record sent { changed = Some 5; sent = Some (record { free = 10005; micros = 10005 }) }) 4 ≡ Some (Timer 1121001 1000)
unfolding deviation_at time_deviation
late_since_write = refl

-- and since a command, but where the one before came within the tolerance after that, or waited since then
late_since_command : deviation_at (record (at 1131007) { commanded = Some 5 }) true (after_start 10006 10006) 4 ≡ Some (Timer 1121001 1000)
unfolding deviation_at time_deviation
late_since_command = refl

on_its_way : deviation_at (record (at 1131007) { commanded = Some 5 }) true (after_start 10005 10005) 4 ≡ None
unfolding deviation_at time_deviation
on_its_way = refl

on_its_way_for_long : deviation_at (record (at 1131007) { commanded = Some 5 }) true (after_start 10005 10006) 4 ≡ None
unfolding deviation_at time_deviation
on_its_way_for_long = refl

-- of types 254 and 255 alone
type_254 : deviation_at (at 89004) true (record sent { parameters = record event_driven { kind = Some 254 } }) 4 ≡ Some (Inhibit 88999 1000)
unfolding deviation_at time_deviation
type_254 = refl

type_253 : deviation_at (at 89004) true (record sent { parameters = record event_driven { kind = Some 253 } }) 4 ≡ None
unfolding deviation_at time_deviation
type_253 = refl

unknown_inhibit : deviation_at (at 6) true (record sent { parameters = record event_driven { inhibit = None } }) 4 ≡ None
unfolding deviation_at time_deviation
unknown_inhibit = refl

-- ---- the event timer: 1000 ms, and 100 ms of inhibit time, 10 ms, and 1 % of both

in_time : deviation_at (at 1121005) true sent 4 ≡ None
unfolding deviation_at time_deviation
in_time = refl

late : deviation_at (at 1121006) true sent 4 ≡ Some (Timer 1121001 1000)
unfolding deviation_at time_deviation
late = refl

-- it may have waited for the bus
late_bus : deviation_at (record (at 1121006) { free = 1121005 }) true sent 4 ≡ None
unfolding deviation_at time_deviation
late_bus = refl

no_timer : deviation_at (at 9121006) true (record sent { parameters = record event_driven { timer = Some 0 } }) 4 ≡ None
unfolding deviation_at time_deviation
no_timer = refl

unknown_timer : deviation_at (at 9121006) true (record sent { parameters = record event_driven { timer = None } }) 4 ≡ None
unfolding deviation_at time_deviation
unknown_timer = refl

-- ---- parameters

valid : identifier_of 0x40000188 ≡ Some 0x188
valid = refl

invalid : identifier_of 0x80000188 ≡ None
invalid = refl

extended : identifier_of 0x20000188 ≡ None
extended = refl

whole_bytes : mapped_bytes 0x64010110 ≡ Some 2
whole_bytes = refl

bits : mapped_bytes 0x64010101 ≡ None
bits = refl

abbrev row : ℕ → ℕ → Default → Row
row index sub default = record {
  key = record { index = index; sub = sub };
  data_type = Unsigned32;
  access = Rw;
  low = None;
  high = None;
  default = default;
  mappable = false;
  name = None;
  line = 1;
}

abbrev rows : List Row
rows = row 0x1800 1 (node_id 0x180) ∷ row 0x1800 2 (number (pos 254)) ∷ row 0x1A00 0 (number (pos 2)) ∷ row 0x1A00 1 (number (pos 0x60000108))
    ∷ row 0x1A00 2 (number (pos 0x64010110)) ∷ row 0x1A00 3 (number (pos 0x64010210)) ∷ []

sheet : parameters_of rows 8 0 ≡ record { id = Some 0x188; kind = Some 254; inhibit = Some 0; timer = Some 0; length = Some 3 }
unfolding parameters_of length_of counted_bytes
sheet = refl

no_second : parameters_of rows 8 1 ≡ record { id = None; kind = None; inhibit = Some 0; timer = Some 0; length = None }
unfolding parameters_of length_of counted_bytes
no_second = refl

-- nothing is mapped, more than eight bytes, and PDOs that are multiplexed
nothing_mapped : length_of (row 0x1A00 0 (number (pos 0)) ∷ []) 8 0x1A00 ≡ None
unfolding length_of counted_bytes
nothing_mapped = refl

too_long : length_of (row 0x1A00 0 (number (pos 2)) ∷ row 0x1A00 1 (number (pos 0x60000120)) ∷ row 0x1A00 2 (number (pos 0x60000128)) ∷ []) 8 0x1A00 ≡ None
unfolding length_of counted_bytes
too_long = refl

multiplexed : length_of (row 0x1A00 0 (number (pos 254)) ∷ []) 8 0x1A00 ≡ None
unfolding length_of counted_bytes
multiplexed = refl

-- between a request to write and its answer a value isn't known
asked_type : asked_to_write event_driven 2 ≡ record event_driven { kind = None }
asked_type = refl

asked_other : asked_to_write event_driven 6 ≡ event_driven
asked_other = refl

shown_id : (shown event_driven 1 (0x99 ∷ 1 ∷ 0 ∷ 0x40 ∷ [])).id ≡ Some 0x199
shown_id = refl

shown_invalid : (shown event_driven 1 (0x99 ∷ 1 ∷ 0 ∷ 0xC0 ∷ [])).id ≡ None
shown_invalid = refl

shown_type : (shown event_driven 2 (1 ∷ [])).kind ≡ Some 1
shown_type = refl

shown_inhibit : (shown event_driven 3 (1 ∷ 2 ∷ [])).inhibit ≡ Some 0x201
shown_inhibit = refl

shown_timer : (shown event_driven 5 (1 ∷ 2 ∷ 0 ∷ 0 ∷ [])).timer ≡ Some 0x201
shown_timer = refl

mapping_written : (after_request (record { index = 0x1A00; sub = 1 }) 7 0 tpdo).parameters ≡ record event_driven { length = None }
mapping_written = refl

other_mapping : after_request (record { index = 0x1A01; sub = 1 }) 7 0 tpdo ≡ tpdo
other_mapping = refl

-- a transfer of 1800h ended: the event timer may begin anew, whatever the sub-index and the protocol
abbrev transferred : Direction → Protocol → Ending → ℕ → ℕ → Ended
transferred direction protocol ending index sub = record {
  key = record { index = index; sub = sub };
  direction = direction;
  protocol = protocol;
  bytes = 2;
  first = record { items = 1 ∷ 2 ∷ [] };
  frames = 4;
  begun = 5;
  newest = 6;
  end = 7;
  ending = ending;
  fault = None;
}

in_one_frame : after_transfer (transferred Download Expedited (Done false) 0x1800 5) 7 0 sent
    ≡ record sent { parameters = record event_driven { timer = Some 0x201 }; sent = None; syncs = 2; changed = Some 7 }
in_one_frame = refl

-- in segments it shows nothing
in_segments : map (λ ending. after_transfer (transferred Download Segmented ending 0x1800 5) 7 0 sent) (Done false ∷ Irregular ∷ [])
    ≡ record sent { sent = None; syncs = 2; changed = Some 7 } ∷ record sent { sent = None; syncs = 2; changed = Some 7 } ∷ []
in_segments = refl

other_sub_index : after_transfer (transferred Download Segmented (Done false) 0x1800 6) 7 0 sent ≡ record sent { sent = None; syncs = 2; changed = Some 7 }
other_sub_index = refl

-- an upload in segments, and one that is refused, change nothing; one in one frame shows what the entry has
uploaded : map (λ ending. after_transfer (transferred Upload Segmented ending 0x1800 5) 7 0 sent) (Done false ∷ Aborted Server (record { 0 = 0x06090011 }) ∷ []) ≡ sent ∷ sent ∷ []
uploaded = refl

refused : after_transfer (transferred Upload Expedited (Aborted Server (record { 0 = 0x06090011 })) 0x1800 4) 7 0 sent ≡ sent
refused = refl

shown_upload : (after_transfer (transferred Upload Expedited (Done false) 0x1800 5) 7 0 sent).parameters ≡ record event_driven { timer = Some 0x201 }
shown_upload = refl

of_another : after_transfer (transferred Download Segmented (Done false) 0x1801 5) 7 0 sent ≡ sent
of_another = refl

-- ---- frames of others

abbrev flag : ℕ → ℕ → Bool
flag flags bit = flags / 2 ^ bit % 2 == 1

not_its : sighting (at 5) (record unknown_pdos { first = tpdo }) 0x189 4 ≡ None
unfolding sighting
not_its = refl

third : sighting (at 5) (record unknown_pdos { third = tpdo }) 0x188 4 ≡ Some (record { number = 3; deviation = None; judged = true })
unfolding sighting deviation_at time_deviation
third = refl

third_short : sighting (at 5) (record unknown_pdos { third = tpdo }) 0x188 3 ≡ Some (record { number = 3; deviation = Some (Length 3 4); judged = false })
unfolding sighting deviation_at time_deviation
third_short = refl

-- two on one identifier: any two of the four
shared_short : sighting (at 5) (record unknown_pdos { second = tpdo; third = tpdo }) 0x188 3 ≡ Some (record { number = 2; deviation = None; judged = false })
unfolding sighting deviation_at time_deviation
shared_short = refl

beside_others : sighting (at 5) (record unknown_pdos { second = record tpdo { parameters = record event_driven { id = Some 0x288 } }; third = tpdo }) 0x188 3
    ≡ Some (record { number = 3; deviation = Some (Length 3 4); judged = false })
unfolding sighting deviation_at time_deviation
beside_others = refl

pairs : map (λ flags. are_several (flag flags 0) (flag flags 1) (flag flags 2) (flag flags 3))
    (12 ∷ 10 ∷ 9 ∷ 6 ∷ 5 ∷ 3 ∷ 7 ∷ 15 ∷ 0 ∷ 1 ∷ 2 ∷ 4 ∷ 8 ∷ [])
    ≡ true ∷ true ∷ true ∷ true ∷ true ∷ true ∷ true ∷ true ∷ false ∷ false ∷ false ∷ false ∷ false ∷ []
pairs = refl

-- ---- an identifier that a TPDO may have

-- 1800:01 to 19FF:01, of all 512
cob_ids : map is_cob_id (record { index = 0x17FF; sub = 1 } ∷ record { index = 0x1800; sub = 1 } ∷ record { index = 0x1800; sub = 2 } ∷ record { index = 0x19FF; sub = 1 } ∷ record { index = 0x1A00; sub = 1 } ∷ [])
    ≡ false ∷ true ∷ false ∷ true ∷ false ∷ []
cob_ids = refl

-- 85h, of node 5: by its node-ID and as a number; where bit 31 or bit 29 is set it has none; one that isn't known may have it
abbrev may_have_85 : ℕ → ℕ → Default → Bool
may_have_85 index sub default = may_have (row 0x1017 0 (number (pos 0x85)) ∷ row index sub default ∷ []) 5 0x85

of_sheets : map (may_have_85 0x1800 1) (node_id 0x80 ∷ number (pos 0x85) ∷ number (pos 0x40000085) ∷ number (pos 0x80000085) ∷ number (pos 0x20000085) ∷ number (pos 0x185) ∷ absent ∷ [])
    ≡ true ∷ true ∷ true ∷ false ∷ false ∷ false ∷ true ∷ []
of_sheets = refl

-- beyond the first four too, of TPDOs alone
of_others : may_have_85 0x1804 1 (number (pos 0x85)) ∷ may_have_85 0x1800 3 (number (pos 0x85)) ∷ may_have_85 0x1400 1 (number (pos 0x85)) ∷ may_have [] 5 0x85 ∷ [] ≡ true ∷ false ∷ false ∷ false ∷ []
of_others = refl

-- a COB-ID that isn't constant may change
abbrev constant : Row
constant = record (row 0x1800 1 (node_id 0x180)) { access = Constant }

changes : map may_change ((constant ∷ []) ∷ (constant ∷ row 0x1801 1 (node_id 0x280) ∷ []) ∷ (row 0x1801 2 (number (pos 254)) ∷ []) ∷ []) ≡ false ∷ true ∷ false ∷ []
changes = refl

-- what is written to 1801:01, and what isn't known of it; and to another entry
written : map (may_get 0x85 (record { index = 0x1801; sub = 1 })) (Some 0x85 ∷ Some 0x185 ∷ Some 0x80000085 ∷ None ∷ []) ≡ true ∷ false ∷ false ∷ true ∷ []
written = refl

written_elsewhere : may_get 0x85 (record { index = 0x1801; sub = 2 }) (Some 0x85) ∷ may_get 0x85 (record { index = 0x1401; sub = 1 }) None ∷ [] ≡ false ∷ false ∷ []
written_elsewhere = refl
