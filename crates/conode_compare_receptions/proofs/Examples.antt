-- What RPDOs write to the entries that are held, and what leaves a doubt, on both sides of each edge, computed from the definitions.
use Rattle.std.proofs.Common.{◌≡◌, ℕ, Bool, true, false, List, [], ◌∷◌, map, Option, Some, None, refl}
use Rattle.std.specs.Prelude.{option_map, pos, slice_index_or}
use Rattle.co_frame.specs.FrameContent.{FrameContent}
use Rattle.co_frame.specs.declared.nmt.NmtService.TheVariants.{Start, ResetNode}
use Rattle.co_profile.specs.declared.access.Access.{Access}
use Rattle.co_profile.specs.declared.access.Access.TheVariants.{Rw}
use Rattle.co_sheet.specs.Content.{Row}
use Rattle.co_sheet.specs.Limits.{Default, absent, number}
use Rattle.co_value.specs.declared.data_type.DataType.{DataType}
use Rattle.co_value.specs.declared.data_type.DataType.TheVariants.{Unsigned8, Unsigned16, Unsigned32}
use Rattle.co_value.specs.declared.key.Key.{Key}
use Rattle.conode_explain_transfers.specs.declared.ended.Ended.{Ended}
use Rattle.conode_explain_transfers.specs.declared.ended.Ending.TheVariants.{Done}
use Rattle.conode_explain_transfers.specs.declared.kinds.Direction.{Direction}
use Rattle.conode_explain_transfers.specs.declared.kinds.Direction.TheVariants.{Download, Upload}
use Rattle.conode_explain_transfers.specs.declared.kinds.Protocol.TheVariants.{Expedited}
use Rattle.conode_explain_transfers.specs.declared.kinds.Side.{Side}
use Rattle.conode_explain_transfers.specs.declared.kinds.Side.TheVariants.{Client, Server}
use Rattle.conode_explain_transfers.specs.declared.kinds.What.{What}
use Rattle.conode_explain_transfers.specs.declared.kinds.What.TheVariants.{Initiate, Part}
use Rattle.conode_record.specs.declared.content.Content.TheVariants.{Data, Fd}
use Rattle.conode_record.specs.declared.fields.Identifier.{Identifier}
use Rattle.conode_record.specs.declared.fields.Identifier.TheVariants.{Base, Extended}
use Rattle.conode_compare_pdos.specs.declared.rpdo.Rpdo.{Rpdo}
use Rattle.conode_compare_pdos.specs.Followed.{unknown_pdos}
use Rattle.conode_compare_pdos.specs.PdoParameters.{nothing_known}
use Rattle.conode_compare_pdos.specs.Rpdos.{has_few_rpdos, mapped_from, rpdo_of}
use Rattle.conode_compare_pdos.specs.Tpdos.{booted_tpdo}
use Rattle.conode_compare_transfers.specs.declared.dialogue.Exchange.{Exchange}
use Rattle.conode_compare_values.specs.declared.rpdo_writes.RpdoValue.{RpdoValue}
use Rattle.conode_compare_values.specs.HeldNumbers.{nothing_written, number_at, unmapped_from, with_number}
use Rattle.conode_compare_values.specs.RpdoWrites.{brought_from, fits_from, no_writes, settled_from, taken_from}
use Rattle.conode_compare_nmt.specs.declared.finding.NmtState.{NmtState}
use Rattle.conode_compare_nmt.specs.declared.finding.NmtState.TheVariants.{Operational, PreOperational, Unknown}
use Rattle.conode_compare_rules.specs.declared.kind.FrameKind.{FrameKind}
use Rattle.conode_compare_rules.specs.declared.kind.FrameKind.TheVariants.{Command, Control, Emergency, OddControl, Other, Polled, Process}
use Rattle.conode_compare_nmt.specs.declared.limits.Limits.{Limits}
use Rattle.conode_compare_nmt.specs.declared.limits.Subject.{Subject}
use Rattle.conode_compare_nmt.specs.declared.nmt.Nmt.{Nmt}
use Rattle.conode_compare_rules.specs.declared.progress.Progress.{Progress}
use Rattle.conode_compare_receptions.specs.declared.other_ids.OtherIds.{OtherIds}
use Rattle.conode_compare_receptions.specs.declared.receptions.Receptions.{Receptions}
use Rattle.conode_compare_receptions.specs.OtherIds.{other_ids_of}
use Rattle.conode_compare_nmt.specs.EntriesInForce.{facts_of, initial_entries, sheet_entries}
use Rattle.conode_compare_rules.specs.Gaps.{before_recording}
use Rattle.conode_compare_nmt.specs.States.{is_settled, nothing_commanded}
use Rattle.conode_compare_receptions.specs.Receptions.{booted_receptions, exchanged_by, is_sure, no_receptions, process_received, receptions_with, with_receptions, with_written}

-- 10 ms, 1 %, 1 s and 10 s
abbrev limits : Limits
limits = record { tolerance = 10; drift = 1; answer = 1000; boot = 10000; time = None }

abbrev key : ℕ → ℕ → Key
key index sub = record { index = index; sub = sub }

abbrev row : ℕ → ℕ → DataType → Access → Default → Row
row index sub data_type access default = record {
  key = key index sub;
  data_type = data_type;
  access = access;
  low = None;
  high = None;
  default = default;
  mappable = false;
  name = None;
  line = 1;
}

-- ---- a device with an RPDO of type 255 for 2000:00, on 205h

abbrev rows : List Row
rows = row 0x1400 1 Unsigned32 Rw (number (pos 0x205)) ∷ row 0x1400 2 Unsigned8 Rw (number (pos 255)) ∷ row 0x1600 0 Unsigned8 Rw (number (pos 1))
    ∷ row 0x1600 1 Unsigned32 Rw (number (pos 0x20000010)) ∷ record (row 0x2000 0 Unsigned16 Rw absent) { mappable = true } ∷ []

abbrev subject : Subject
subject = record {
  node = 5;
  limits = limits;
  facts = facts_of rows 5 false;
  held = record { entries = record { items = record { key = key 0x2000 0; width = 2; mappable = true } ∷ [] } };
  rooms = record { strings = None; domains = None };
}

abbrev nmt_in : NmtState → Nmt
nmt_in state = record nothing_commanded { state = state }

abbrev shows : NmtState → ℕ → Progress
shows state micros = record (before_recording subject) { newest = Some micros; free = micros; nmt = nmt_in state }

-- 20 ms after the begin of the recording; 5 was written to 2000:00
abbrev operational : Progress
operational = shows Operational 20000

abbrev booted : Receptions
booted = with_written (booted_receptions subject rows) (with_number nothing_written (Some 0) (Some 5))

abbrev number_in : Receptions → Option ℕ
number_in r = number_at r.writes.written (Some 0)

abbrev value_in : Receptions → Option RpdoValue
value_in r = slice_index_or r.writes.values 0 None

abbrev rpdo : List ℕ → FrameContent
rpdo bytes = record { id = 0x205; bytes = bytes }

abbrev after : Receptions → Progress → FrameContent → Receptions
after r progress frame = process_received subject rows r progress 20000 frame

-- ---- which frames are followed

abbrev followed_by : Subject → List Row → Bool
followed_by device all = (booted_receptions device all).followed

follows : (followed_by subject rows ≡ true) × (followed_by subject [] ≡ false)
    × (followed_by (record subject { facts = record (facts_of rows 5 false) { starts_itself = true } }) rows ≡ false)
    × (followed_by (record subject { facts = record (facts_of rows 5 false) { modular = true } }) rows ≡ false)
unfolding booted_receptions other_ids_of has_few_rpdos facts_of
follows = (refl, refl, refl, refl)

-- a TPDO after the fourth; an SDO channel but the default one
further : map (λ index. followed_by subject (row 0x1400 1 Unsigned32 Rw (number (pos 0x205)) ∷ row index 1 Unsigned32 Rw absent ∷ []))
    (0x1200 ∷ 0x1201 ∷ 0x12FF ∷ 0x1300 ∷ 0x1803 ∷ 0x1804 ∷ 0x19FF ∷ 0x1A00 ∷ []) ≡ true ∷ false ∷ false ∷ true ∷ true ∷ false ∷ false ∷ true ∷ []
unfolding booted_receptions other_ids_of has_few_rpdos facts_of
further = refl

takes : map (λ bytes. number_in (after booted operational (rpdo bytes))) ((2 ∷ 1 ∷ []) ∷ (5 ∷ 0 ∷ []) ∷ (5 ∷ []) ∷ []) ≡ None ∷ Some 5 ∷ Some 5 ∷ []
unfolding booted_receptions other_ids_of has_few_rpdos facts_of rpdo_of mapped_from fits_from brought_from taken_from no_writes nothing_written process_received is_sure is_settled
takes = refl

-- one byte is too few, of three the first two count
brings : map (λ bytes. value_in (after booted operational (rpdo bytes))) ((2 ∷ 1 ∷ []) ∷ (2 ∷ 1 ∷ 9 ∷ []) ∷ (2 ∷ []) ∷ (5 ∷ 0 ∷ []) ∷ [])
    ≡ Some (record { number = 0x102; since = 20000 }) ∷ Some (record { number = 0x102; since = 20000 }) ∷ None ∷ None ∷ []
unfolding booted_receptions other_ids_of has_few_rpdos facts_of rpdo_of mapped_from fits_from brought_from taken_from no_writes nothing_written process_received is_sure is_settled
brings = refl

-- the PDO of another node, a heartbeat; where RPDOs aren't followed the first may be one, and a TPDO of the device is none
others : map (λ id. number_in (after booted operational (record { id = id; bytes = [] }))) (0x206 ∷ 0x701 ∷ []) ≡ Some 5 ∷ Some 5 ∷ []
unfolding booted_receptions other_ids_of has_few_rpdos facts_of rpdo_of no_writes nothing_written process_received
others = refl

abbrev unfollowed : ℕ → Receptions
unfollowed id =
    let pdos = record unknown_pdos { third = booted_tpdo None (record nothing_known { id = Some 0x185 }) } in
    after (record booted { followed = false }) (record operational { pdos = pdos; written = booted.writes.written }) (record { id = id; bytes = [] })

not_followed : (map (λ id. number_in (unfollowed id)) (0x206 ∷ 0x701 ∷ 0x185 ∷ []) ≡ None ∷ Some 5 ∷ Some 5 ∷ [])
    × (map (λ id. (unfollowed id).touched) (0x206 ∷ 0x701 ∷ 0x185 ∷ []) ≡ Some 20000 ∷ None ∷ None ∷ [])
unfolding booted_receptions other_ids_of has_few_rpdos facts_of rpdo_of no_writes nothing_written process_received unmapped_from
not_followed = (refl, refl)

-- then what is known is what the recording shows
as_before : number_in (after (record booted { followed = false }) operational (record { id = 0x701; bytes = [] })) ≡ None
unfolding booted_receptions other_ids_of has_few_rpdos facts_of rpdo_of no_writes nothing_written process_received
as_before = refl

-- ---- doubts

abbrev first : Rpdo → Receptions
first r = record booted { rpdos = record booted.rpdos { first = r } }

abbrev own : Rpdo
own = booted.rpdos.first

abbrev doubts : Receptions → Progress → (Option ℕ × Option RpdoValue × Bool)
doubts r progress = let next = after r (record progress { written = r.writes.written }) (rpdo (2 ∷ 1 ∷ [])) in (number_in next, value_in next, next.followed)

-- a download is open; the COB-ID, or the mapping, isn't known; two have this identifier
in_doubt : map (λ r. doubts r operational)
    (record booted { writing = true } ∷ first (record own { cob_id = None }) ∷ first (record own { count = None }) ∷ record booted { rpdos = record booted.rpdos { second = own } } ∷ [])
    ≡ (None, None, true) ∷ (None, None, true) ∷ (None, None, true) ∷ (None, None, true) ∷ []
unfolding booted_receptions other_ids_of has_few_rpdos facts_of rpdo_of mapped_from fits_from brought_from taken_from no_writes nothing_written process_received is_sure is_settled unmapped_from
in_doubt = refl

-- of another type, or with an inhibit time, it may take effect later: RPDOs aren't followed any more
waits : map (λ r. doubts r operational) (first (record own { kind = Some 1 }) ∷ first (record own { kind = None }) ∷ first (record own { inhibit = Some 1 }) ∷ [])
    ≡ (None, None, false) ∷ (None, None, false) ∷ (None, None, false) ∷ []
unfolding booted_receptions other_ids_of has_few_rpdos facts_of rpdo_of mapped_from fits_from brought_from taken_from no_writes nothing_written process_received is_sure is_settled unmapped_from
waits = refl

-- for the tolerance after one of its parameters was written or read, and after a command; in another state
unsettled : map (λ changed. value_in (after (first (record own { changed = Some changed })) operational (rpdo (2 ∷ 1 ∷ [])))) (10000 ∷ 9999 ∷ [])
    ≡ None ∷ Some (record { number = 0x102; since = 20000 }) ∷ []
unfolding booted_receptions other_ids_of has_few_rpdos facts_of rpdo_of mapped_from fits_from brought_from taken_from no_writes nothing_written process_received is_sure is_settled unmapped_from
unsettled = refl

-- within it each identifier may be the one before; a frame that may have waited for a SYNC by the parameters before ends following
abbrev moved : Rpdo
moved = record own { cob_id = Some 0x305; changed = Some 10000 }

not_yet_apart : map (λ r. doubts r operational) (first moved ∷ first (record moved { changed = Some 9999 }) ∷ first (record moved { kind = Some 1 }) ∷ first (record moved { changed = Some 9999; kind = Some 1 }) ∷ [])
    ≡ (None, None, true) ∷ (Some 5, None, true) ∷ (None, None, false) ∷ (Some 5, None, true) ∷ []
unfolding booted_receptions other_ids_of has_few_rpdos facts_of rpdo_of mapped_from fits_from brought_from taken_from no_writes nothing_written process_received is_sure is_settled unmapped_from
not_yet_apart = refl

-- the parameters of each of the four
each_of_four : map (λ rpdos. value_in (after (record booted { rpdos = rpdos }) operational (rpdo (2 ∷ 1 ∷ []))))
    (record booted.rpdos { second = record booted.rpdos.second { changed = Some 10000 } } ∷ record booted.rpdos { third = record booted.rpdos.third { changed = Some 10000 } }
    ∷ record booted.rpdos { fourth = record booted.rpdos.fourth { changed = Some 10000 } } ∷ record booted.rpdos { fourth = record booted.rpdos.fourth { changed = Some 9999 } } ∷ [])
    ≡ None ∷ None ∷ None ∷ Some (record { number = 0x102; since = 20000 }) ∷ []
unfolding booted_receptions other_ids_of has_few_rpdos facts_of rpdo_of mapped_from fits_from brought_from taken_from no_writes nothing_written process_received is_sure is_settled unmapped_from
each_of_four = refl

-- an RPDO whose COB-ID isn't known has none that CiA 301 restricts
restricted : map (λ id. number_in (after (first (record own { cob_id = None })) operational (record { id = id; bytes = [] }))) (0x206 ∷ 0x701 ∷ []) ≡ None ∷ Some 5 ∷ []
unfolding booted_receptions other_ids_of has_few_rpdos facts_of rpdo_of no_writes nothing_written process_received is_sure unmapped_from mapped_from
restricted = refl

-- a frame that is doubted, or of another RPDO, may have been taken
touches : map (λ r. (after r operational (rpdo (2 ∷ 1 ∷ []))).touched) (record booted { writing = true } ∷ booted ∷ first (record own { cob_id = Some 0x206 }) ∷ []) ≡ Some 20000 ∷ Some 20000 ∷ None ∷ []
unfolding booted_receptions other_ids_of has_few_rpdos facts_of rpdo_of mapped_from fits_from brought_from taken_from no_writes nothing_written process_received is_sure is_settled unmapped_from
touches = refl

commanded_just_now : map (λ micros. value_in (after booted (record operational { nmt = record (nmt_in Operational) { commanded = Some (record { service = Start; micros = micros }) } }) (rpdo (2 ∷ 1 ∷ [])))) (10000 ∷ 9999 ∷ [])
    ≡ None ∷ Some (record { number = 0x102; since = 20000 }) ∷ []
unfolding booted_receptions other_ids_of has_few_rpdos facts_of rpdo_of mapped_from fits_from brought_from taken_from no_writes nothing_written process_received is_sure is_settled unmapped_from
commanded_just_now = refl

other_states : map (λ state. doubts booted (shows state 20000)) (PreOperational ∷ Unknown ∷ []) ≡ (None, None, true) ∷ (None, None, true) ∷ []
unfolding booted_receptions other_ids_of has_few_rpdos facts_of rpdo_of mapped_from fits_from brought_from taken_from no_writes nothing_written process_received is_sure is_settled unmapped_from
other_states = refl

-- no PDO may have the entry, by the sheet
unfit : (number_in (process_received subject (row 0x2000 0 Unsigned16 Rw absent ∷ []) booted (record operational { written = booted.writes.written }) 20000 (rpdo (2 ∷ 1 ∷ [])))) ≡ None
unfolding booted_receptions other_ids_of has_few_rpdos facts_of rpdo_of mapped_from fits_from brought_from taken_from no_writes nothing_written process_received is_sure is_settled unmapped_from
unfit = refl

-- what else has its identifier, or may have it
abbrev beside : OtherIds → (Option ℕ × Option RpdoValue × Bool)
beside others = doubts (record booted { others = others }) operational

shared_id : map (λ id. beside (record booted.others { third = id })) (Some 0x205 ∷ None ∷ []) ≡ (None, None, true) ∷ (None, None, true) ∷ []
unfolding booted_receptions other_ids_of has_few_rpdos facts_of rpdo_of mapped_from fits_from brought_from taken_from no_writes nothing_written process_received is_sure is_settled unmapped_from
shared_id = refl

other_id : map (λ id. beside (record booted.others { sync = id })) (Some 0x206 ∷ Some 0 ∷ []) ≡ (None, Some (record { number = 0x102; since = 20000 }), true) ∷ (None, Some (record { number = 0x102; since = 20000 }), true) ∷ []
unfolding booted_receptions other_ids_of has_few_rpdos facts_of rpdo_of mapped_from fits_from brought_from taken_from no_writes nothing_written process_received is_sure is_settled unmapped_from
other_id = refl

-- ---- heartbeats, commands and requests

abbrev taken : Receptions
taken = after booted operational (rpdo (2 ∷ 1 ∷ []))

abbrev with : Receptions → ℕ → FrameKind → Receptions
with r micros kind = receptions_with subject rows r (shows Operational micros) micros kind (Base 0x705) (Data [])

abbrev exchange_of : What → Option Ended → Exchange
exchange_of what ended = record { heard = record { what = what; of = None; ended = ended }; asked = None; owed = true; certain = true; breach = None; awaited = None }

abbrev asks_for : ℕ → ℕ → ℕ → FrameContent
asks_for command low high = record { id = 0x605; bytes = command ∷ low ∷ high ∷ 0 ∷ 0 ∷ 0 ∷ 0 ∷ 0 ∷ [] }

abbrev requested : Receptions → FrameContent → Receptions
requested r frame = exchanged_by subject r (shows Operational 50000) 50000 Client frame (exchange_of Initiate None)

-- the heartbeat is to come later than the tolerance after the RPDO
confirmed : map (λ micros. number_in (requested (with taken micros (Control 5)) (asks_for 0x40 0 0x20))) (30000 ∷ 30001 ∷ []) ≡ None ∷ Some 0x102 ∷ []
unfolding booted_receptions other_ids_of has_few_rpdos facts_of rpdo_of mapped_from fits_from brought_from taken_from no_writes nothing_written process_received is_sure is_settled unmapped_from receptions_with exchanged_by settled_from initial_entries sheet_entries
confirmed = refl

-- another state, error control of two bytes, a command
unconfirmed : map (λ kind. number_in (requested (with (with taken 30001 kind) 30002 (Control 5)) (asks_for 0x40 0 0x20))) (Control 127 ∷ OddControl 2 ∷ Command Start ∷ Polled 0x205 ∷ []) ≡ None ∷ None ∷ None ∷ Some 0x102 ∷ []
unfolding booted_receptions other_ids_of has_few_rpdos facts_of rpdo_of mapped_from fits_from brought_from taken_from no_writes nothing_written process_received is_sure is_settled unmapped_from receptions_with exchanged_by settled_from initial_entries sheet_entries
unconfirmed = refl

-- a request to write the entry, another one, one of the communication profile
written_since : map (λ at. number_in (requested (with taken 30001 (Control 5)) at)) (asks_for 0x2B 0 0x20 ∷ asks_for 0x2B 1 0x20 ∷ asks_for 0x2B 0 0x14 ∷ []) ≡ None ∷ Some 0x102 ∷ None ∷ []
unfolding booted_receptions other_ids_of has_few_rpdos facts_of rpdo_of mapped_from fits_from brought_from taken_from no_writes nothing_written process_received is_sure is_settled unmapped_from receptions_with exchanged_by settled_from initial_entries sheet_entries
written_since = refl

-- a reset, a boot-up
resets : map (λ kind. (with taken 30001 kind).followed) (Command ResetNode ∷ Control 0 ∷ []) ≡ false ∷ true ∷ []
unfolding booted_receptions other_ids_of has_few_rpdos facts_of no_receptions receptions_with initial_entries sheet_entries rpdo_of mapped_from fits_from brought_from taken_from no_writes nothing_written process_received is_sure is_settled
resets = refl

-- a request to write 1010h, 1011h or 1F00h to 1FFFh: all RPDOs may be others
changes_all : map (λ at. (requested booted at).rpdos.first.cob_id)
    (asks_for 0x2B 0x0F 0x10 ∷ asks_for 0x2B 0x10 0x10 ∷ asks_for 0x2B 0x11 0x10 ∷ asks_for 0x2B 0x12 0x10 ∷ asks_for 0x2B 0xFF 0x1E ∷ asks_for 0x2B 0 0x1F ∷ asks_for 0x2B 0xFF 0x1F ∷ asks_for 0x2B 0 0x20 ∷ [])
    ≡ Some 0x205 ∷ None ∷ None ∷ Some 0x205 ∷ Some 0x205 ∷ None ∷ None ∷ Some 0x205 ∷ []
unfolding booted_receptions other_ids_of has_few_rpdos facts_of no_writes nothing_written exchanged_by settled_from rpdo_of
changes_all = refl

-- ---- downloads

abbrev ended : Direction → ℕ → Option Ended
ended direction begun = Some (record {
  key = key 0x2000 0;
  direction = direction;
  protocol = Expedited;
  bytes = 2;
  first = record { items = 5 ∷ 0 ∷ [] };
  frames = 2;
  begun = begun;
  newest = begun;
  end = 50000;
  ending = Done false;
  fault = None;
})

abbrev answered : Receptions → Direction → ℕ → Receptions
answered r direction begun =
    exchanged_by subject r (record (shows Operational 50000) { written = booted.writes.written }) 50000 Server (asks_for 0x60 0 0x20) (exchange_of Part (ended direction begun))

-- an RPDO came at 20 ms: within the tolerance before the request of the download
later : map (λ begun. number_in (answered taken Download begun)) (30000 ∷ 30001 ∷ []) ≡ None ∷ Some 5 ∷ []
unfolding booted_receptions other_ids_of has_few_rpdos facts_of rpdo_of mapped_from fits_from brought_from taken_from no_writes nothing_written process_received is_sure is_settled exchanged_by
later = refl

-- after the request, and none
touched_when : map (λ touched. number_in (answered (record taken { touched = touched }) Download 30000)) (Some 40000 ∷ Some 19999 ∷ None ∷ []) ≡ None ∷ Some 5 ∷ Some 5 ∷ []
unfolding booted_receptions other_ids_of has_few_rpdos facts_of rpdo_of mapped_from fits_from brought_from taken_from no_writes nothing_written process_received is_sure is_settled exchanged_by
touched_when = refl

uploads : number_in (answered taken Upload 30000) ≡ Some 5
unfolding booted_receptions other_ids_of has_few_rpdos facts_of rpdo_of mapped_from fits_from brought_from taken_from no_writes nothing_written process_received is_sure is_settled exchanged_by
uploads = refl

-- a download is open until the device ends it
opens : map (λ r. r.writing) (requested booted (asks_for 0x2B 1 0x20) ∷ requested booted (asks_for 0x40 1 0x20) ∷ answered (record booted { writing = true }) Download 30001 ∷ answered (record booted { writing = true }) Upload 30001 ∷ [])
    ≡ true ∷ false ∷ false ∷ true ∷ []
unfolding booted_receptions other_ids_of has_few_rpdos facts_of no_writes nothing_written exchanged_by settled_from rpdo_of
opens = refl

-- not where an earlier request may have been answered, nor by the client
abbrev closed_by : Bool → Side → Bool
closed_by certain side =
    (exchanged_by subject (record booted { writing = true }) (shows Operational 50000) 50000 side (asks_for 0x60 0 0x20) (record (exchange_of Part (ended Download 30001)) { certain = certain })).writing

closes_surely : (closed_by true Server ≡ false) × (closed_by false Server ≡ true) × (closed_by true Client ≡ true)
unfolding booted_receptions other_ids_of has_few_rpdos facts_of no_writes nothing_written exchanged_by settled_from rpdo_of
closes_surely = (refl, refl, refl)

-- nor is a parameter known then
abbrev cob_id_after : Bool → Option ℕ
cob_id_after certain =
    let download : Option Ended = option_map {T = Ended} (λ e. record e { key = key 0x1400 1; first = record { items = 5 ∷ 3 ∷ 0 ∷ 0 ∷ [] } }) (ended Download 30001) in
    (exchanged_by subject booted (shows Operational 50000) 50000 Server (asks_for 0x60 0 0x14) (record (exchange_of Part download) { certain = certain })).rpdos.first.cob_id

abbrev sync_after : Bool → Option ℕ
sync_after certain =
    let download : Option Ended = option_map {T = Ended} (λ e. record e { key = key 0x1005 0; first = record { items = 5 ∷ 2 ∷ 0 ∷ 0x40 ∷ [] } }) (ended Download 30001) in
    (exchanged_by subject booted (shows Operational 50000) 50000 Server (asks_for 0x60 5 0x10) (record (exchange_of Part download) { certain = certain })).others.sync

shows_sync : map sync_after (true ∷ false ∷ []) ≡ Some 0x205 ∷ Some 0 ∷ []
unfolding booted_receptions other_ids_of has_few_rpdos facts_of no_writes nothing_written exchanged_by settled_from rpdo_of
shows_sync = refl

-- a request to write it, another entry, and what may change all of them
asks_sync : map (λ at. (requested booted at).others.sync) (asks_for 0x23 5 0x10 ∷ asks_for 0x23 6 0x10 ∷ asks_for 0x23 0x11 0x10 ∷ asks_for 0x40 5 0x10 ∷ []) ≡ None ∷ Some 0 ∷ None ∷ Some 0 ∷ []
unfolding booted_receptions other_ids_of has_few_rpdos facts_of no_writes nothing_written exchanged_by settled_from rpdo_of
asks_sync = refl

shows_surely : map cob_id_after (true ∷ false ∷ []) ≡ Some 0x305 ∷ Some 0x205 ∷ []
unfolding booted_receptions other_ids_of has_few_rpdos facts_of no_writes nothing_written exchanged_by settled_from rpdo_of
shows_surely = refl

-- ---- other frames

abbrev seen : FrameKind → Identifier → Receptions
seen kind id = receptions_with subject rows booted (record (shows Operational 20000) { written = nothing_written }) 20000 kind id (Data (2 ∷ 1 ∷ []))

-- EMCY may have the identifier of an RPDO; a command to another node writes nothing
shared : map number_in (seen (Emergency 0 0) (Base 0x85) ∷ seen (Process 0x206 2) (Base 0x206) ∷ seen Other (Base 0) ∷ seen Other (Extended 0x205) ∷ []) ≡ Some 5 ∷ Some 5 ∷ Some 5 ∷ None ∷ []
unfolding booted_receptions other_ids_of has_few_rpdos facts_of rpdo_of no_writes nothing_written receptions_with process_received initial_entries sheet_entries
shared = refl

-- where an RPDO has it, and where RPDOs aren't followed
abbrev emergency_after : Receptions → Receptions
emergency_after r = receptions_with subject rows r (record (shows Operational 20000) { written = booted.writes.written }) 20000 (Emergency 0 0) (Base 0x85) (Data (2 ∷ 1 ∷ []))

emergency_id : map (λ r. value_in (emergency_after r)) (first (record own { cob_id = Some 0x85 }) ∷ booted ∷ []) ≡ Some (record { number = 0x102; since = 20000 }) ∷ None ∷ []
unfolding booted_receptions other_ids_of has_few_rpdos facts_of rpdo_of mapped_from fits_from brought_from taken_from no_writes nothing_written receptions_with process_received is_sure is_settled initial_entries sheet_entries
emergency_id = refl

abbrev emergency_unfollowed : Receptions
emergency_unfollowed = emergency_after (record booted { followed = false })

emergency_not_followed : (number_in emergency_unfollowed ≡ None) × (emergency_unfollowed.touched ≡ Some 20000)
unfolding booted_receptions other_ids_of has_few_rpdos facts_of rpdo_of no_writes nothing_written receptions_with process_received initial_entries sheet_entries unmapped_from
emergency_not_followed = (refl, refl)

-- of CAN FD, with 11 bits
abbrev fd_seen : Receptions
fd_seen = receptions_with subject rows booted (shows Operational 20000) 20000 Other (Base 0x206) (Fd 0 [])

fd : (fd_seen.followed ≡ false) × (fd_seen.touched ≡ Some 20000)
unfolding booted_receptions other_ids_of has_few_rpdos facts_of rpdo_of no_writes nothing_written receptions_with process_received initial_entries sheet_entries
fd = (refl, refl)

extended : (seen Other (Extended 0x205)).followed ≡ false
unfolding booted_receptions other_ids_of has_few_rpdos facts_of rpdo_of no_writes nothing_written receptions_with process_received initial_entries sheet_entries
extended = refl

-- where the recording begins anew, nothing is known, and not with a later frame of the same stamp; where no entry is held, nothing changes
begins : (number_in (receptions_with subject rows booted (record (shows Operational 20000) { begins = true }) 20000 (Polled 0x205) (Base 0x205) (Data [])) ≡ None)
    × (number_in (receptions_with subject rows booted (record (shows Operational 20000) { started = 20000 }) 20000 (Polled 0x205) (Base 0x205) (Data [])) ≡ Some 5)
    × ((with_receptions (record subject { held = record { entries = record { items = [] } } }) operational booted).written ≡ nothing_written)
    × (number_at (with_receptions subject operational booted).written (Some 0) ≡ Some 5)
unfolding booted_receptions other_ids_of no_receptions no_writes nothing_written receptions_with with_receptions facts_of initial_entries sheet_entries
begins = (refl, refl, refl, refl)

-- where a client asked to write an entry of the communication profile within 10 ms before a boot-up, RPDOs aren't followed
asked_before_boot_up : map (λ asked. (receptions_with subject rows booted (record operational { asked_at = asked }) 20000 (Control 0) (Base 0x705) (Data (0 ∷ []))).followed) (None ∷ Some 9999 ∷ Some 10000 ∷ [])
    ≡ true ∷ true ∷ false ∷ []
unfolding booted_receptions other_ids_of has_few_rpdos no_receptions no_writes nothing_written receptions_with facts_of initial_entries sheet_entries
asked_before_boot_up = refl
