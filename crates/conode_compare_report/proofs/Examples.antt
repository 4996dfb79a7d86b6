-- What is kept of small recordings, computed from the definitions.
use Rattle.std.proofs.Common.{◌≡◌, ℕ, zero, suc, ◌+◌, ◌-◌, ◌/◌, ◌^◌, true, false, List, [], ◌∷◌, ◌++◌, map, length, Option, Some, None, refl, codes}
use Rattle.std.specs.Prelude.{nat_lt, filter, replicate, pos}
use Rattle.co_frame.specs.FrameContent.{FrameContent}
use Rattle.co_frame.specs.declared.nmt.NmtService.TheVariants as nmt
use Rattle.co_profile.specs.declared.access.Access.{Access}
use Rattle.co_profile.specs.declared.access.Access.TheVariants.{Ro, Wo, Rw, Constant}
use Rattle.co_sheet.specs.Content.{Row}
use Rattle.co_sheet.specs.Limits.{absent, node_id}
use Rattle.co_value.specs.declared.data_type.DataType.TheVariants.{Unsigned8, Unsigned32}
use Rattle.conode_explain_transfers.specs.declared.channel.Heard.{Heard}
use Rattle.conode_explain_transfers.specs.declared.ended.Ended.{Ended}
use Rattle.conode_explain_transfers.specs.declared.ended.Ending.{Ending}
use Rattle.conode_explain_transfers.specs.declared.ended.Ending.TheVariants.{Done, Aborted, Unanswered}
use Rattle.conode_explain_transfers.specs.declared.kinds.Direction.{Direction}
use Rattle.conode_explain_transfers.specs.declared.kinds.Direction.TheVariants.{Download, Upload}
use Rattle.conode_explain_transfers.specs.declared.kinds.Protocol.{Protocol}
use Rattle.conode_explain_transfers.specs.declared.kinds.Protocol.TheVariants.{Expedited, Segmented, Block}
use Rattle.conode_explain_transfers.specs.declared.kinds.Side.TheVariants.{Client, Server}
use Rattle.conode_explain_transfers.specs.declared.kinds.What.TheVariants.{Part}
use Rattle.conode_compare_pdos.specs.declared.parameters.Parameters.{Parameters}
use Rattle.conode_compare_pdos.specs.Followed.{unknown_pdos}
use Rattle.conode_compare_nmt.specs.declared.entries.Entries.{Entries}
use Rattle.conode_compare_nmt.specs.declared.finding.Finding.{Finding}
use Rattle.conode_compare_nmt.specs.declared.finding.Finding.TheVariants as finding
use Rattle.conode_compare_nmt.specs.declared.finding.NmtState.{NmtState}
use Rattle.conode_compare_nmt.specs.declared.finding.NmtState.TheVariants.{Unknown, Initialising, PreOperational, Operational, Stopped}
use Rattle.conode_compare_rules.specs.declared.kind.FrameKind.TheVariants as frame
use Rattle.conode_compare_rules.specs.declared.verdict.Verdict.TheVariants.{Prescribed, Different, Unjudged}
use Rattle.conode_compare_rules.specs.Verdicts.{nothing_found}
use Rattle.conode_compare_text.specs.declared.details.Details.{Details}
use Rattle.conode_compare_text.specs.Beside.{no_details}
use Rattle.conode_compare_report.specs.declared.before.Before.{Before}
use Rattle.conode_compare_report.specs.declared.before.Role.{Role}
use Rattle.conode_compare_report.specs.declared.before.Role.TheVariants as role
use Rattle.conode_compare_report.specs.declared.before.Rpdos.{Rpdos}
use Rattle.conode_compare_report.specs.declared.kind.Counted.{Counted}
use Rattle.conode_compare_report.specs.declared.kind.Kind.{Kind}
use Rattle.conode_compare_report.specs.declared.kind.Kind.TheVariants.{HeartbeatLate, HeartbeatState, HeartbeatLength, PdoLength, PdoState, PdoSync, PdoInhibit, PdoLate, BootMissing, SecondSender, EmergencyLength, EmergencyState, EmergencyRegister, EmergencyInhibit, NoAnswer, AnswerKey, AnswerForm, AnswerToggle, AnswerSize, AnswerCrc, AnswerState, AbortKey, ValueLength, ValueConst, AccessRead, AccessWrite, AccessLimits}
use Rattle.conode_compare_report.specs.declared.lanes.Bin.{Bin}
use Rattle.conode_compare_report.specs.declared.lanes.Lane.TheVariants.{Heartbeats, Tpdos}
use Rattle.conode_compare_report.specs.declared.noted.Noted.{Noted}
use Rattle.conode_compare_report.specs.declared.service.Service.TheVariants as service
use Rattle.conode_compare_report.specs.Befores.{role_of, rpdos_of}
use Rattle.conode_compare_report.specs.Contexts.{KeptLine, around}
use Rattle.conode_compare_report.specs.Counts.{numbered_with}
use Rattle.conode_compare_report.specs.Coverages.{CoverageView, coverage_with, lane_of, no_coverage, no_services, service_of, services_with, transfers_with}
use Rattle.conode_compare_report.specs.Identities.{no_identity}
use Rattle.conode_compare_report.specs.Kinds.{kind_number}
use Rattle.conode_compare_report.specs.Occasions.{answer_passed, command_passed, control_passed, counts_found, counts_passed, emergency_passed, ended_passed, frame_passed, is_free_since, no_counts, side_passed, tpdo_passed, upload_passed}
use Rattle.conode_compare_report.specs.Reports.{control_with, nothing_kept, with_bad_line, with_finding, with_frame, with_line}
use Rattle.conode_compare_report.specs.Services.{service_number}
use Rattle.conode_compare_report.specs.SheetNames.{info_in, is_boot_up_master}
use Rattle.conode_compare_report.specs.Spans.{LanesView, bin_with, both_bins, empty_bin, joined, lanes_with, no_lanes, no_states, widened}
use Rattle.conode_compare_report.specs.Views.{Kept}
use Rattle.conode_compare_report.specs.Widths.{Seen, spans_of}

-- ---- kinds and services by their places

abbrev from : ℕ → ℕ → List ℕ
from start zero = []
from start (suc more) = start ∷ from (start + 1) more

kinds_in_order : map (λ counted. kind_number counted.kind) no_counts ≡ from 0 30
kinds_in_order = refl

services_in_order : map (λ served. service_number served.service) no_services ≡ from 0 25
services_in_order = refl

-- ---- spans of time

-- the first frame begins them; one with an older stamp is in the first span
abbrev beat : Bin → Bin
beat bin = bin_with Operational (Some Heartbeats) 1 bin

abbrev one_beat : Bin
one_beat = record empty_bin { states = record no_states { operational = true }; heartbeats = 1; differences = 1 }

abbrev two_beats : Bin
two_beats = record one_beat { heartbeats = 2; differences = 2 }

begins : lanes_with 5000000 beat no_lanes ≡ record { begin = 5000000; width = 1000; bins = one_beat ∷ [] }
unfolding lanes_with widened bin_with
begins = refl

abbrev one_lane : LanesView
one_lane = record { begin = 5000000; width = 1000; bins = one_beat ∷ [] }

in_the_same : lanes_with 5000999 beat one_lane ≡ record one_lane { bins = two_beats ∷ [] }
unfolding lanes_with widened bin_with
in_the_same = refl

in_the_third : lanes_with 5002000 beat one_lane ≡ record one_lane { bins = one_beat ∷ empty_bin ∷ one_beat ∷ [] }
unfolding lanes_with widened bin_with
in_the_third = refl

before_the_first : lanes_with 4000000 beat one_lane ≡ record one_lane { bins = two_beats ∷ [] }
unfolding lanes_with widened bin_with
before_the_first = refl

-- 2,000 spans of 1 ms hold less than 2 s; 8 s want a width of 8 ms
still_narrow : widened 64 1999999 one_lane ≡ one_lane
unfolding widened
still_narrow = refl

twice_as_wide : widened 64 2000000 (record one_lane { bins = one_beat ∷ empty_bin ∷ one_beat ∷ [] }) ≡ record { begin = 5000000; width = 2000; bins = one_beat ∷ one_beat ∷ [] }
unfolding widened joined both_bins
twice_as_wide = refl

eight_times_as_wide : (widened 64 8000000 one_lane).width ≡ 8000
unfolding widened joined both_bins
eight_times_as_wide = refl

for_the_greatest_stamp : nat_lt ((2 ^ 64 - 1) / (widened 64 (2 ^ 64 - 1) one_lane).width) 2000 ≡ true
unfolding widened joined both_bins
for_the_greatest_stamp = refl

joined_in_twos : joined (one_beat ∷ one_beat ∷ empty_bin ∷ one_beat ∷ one_beat ∷ []) ≡ two_beats ∷ one_beat ∷ one_beat ∷ []
unfolding joined both_bins
joined_in_twos = refl

states_of_both_spans : both_bins (bin_with Stopped None 0 empty_bin) (bin_with PreOperational (Some Tpdos) 0 empty_bin)
    ≡ record empty_bin { states = record no_states { stopped = true; pre_operational = true }; tpdos = 1 }
unfolding both_bins bin_with
states_of_both_spans = refl

up_to_the_most : (both_bins (record empty_bin { transfers = 0xFFFFFFFF }) (record empty_bin { transfers = 2 })).transfers ≡ 0xFFFFFFFF
unfolding both_bins
up_to_the_most = refl

-- a whole recording at one width: two frames in the first 2 ms, one in the next; one before the first frame is in the first span
abbrev seen_at : ℕ → Seen
seen_at micros = record { micros = micros; state = Operational; lane = Some Heartbeats; differences = 1 }

of_one_width : spans_of 5000000 2000 (seen_at 5002000 ∷ seen_at 5001999 ∷ seen_at 5000000 ∷ []) ∷ spans_of 5000000 2000 (seen_at 4000000 ∷ []) ∷ []
    ≡ (two_beats ∷ one_beat ∷ []) ∷ (one_beat ∷ []) ∷ []
unfolding spans_of bin_with
of_one_width = refl

-- ---- lines around differences

abbrev empty_report : Kept
empty_report = nothing_kept [] 5

-- `a`, `b`, `c`, .. one after another
abbrev with_lines : Kept → List ℕ → Kept
with_lines kept [] = kept
with_lines kept (letter ∷ more) = with_lines (with_line kept (letter ∷ [])) more

abbrev late : Finding
late = finding.HeartbeatLate 1020001 1000

abbrev plain : Details
plain = no_details

abbrev with_late : Kept → Kept
with_late kept = with_finding kept 7 plain late

abbrev letters : List KeptLine → List (ℕ × List ℕ)
letters lines = map {B = ℕ × List ℕ} (λ line. (line.number, line.bytes)) lines

-- one in the sixth of eleven lines
abbrev sixth : Kept
sixth = with_lines (with_late (with_lines empty_report (codes "abcdef"))) (codes "ghijk")

sixth_is_listed : sixth.noted ≡ record { line = 6; micros = 7; finding = late; details = plain; first = 0 } ∷ []
unfolding with_line with_finding counts_found nothing_kept no_coverage rpdos_of
sixth_is_listed = refl

around_the_sixth : letters sixth.context
    ≡ (3, codes "c") ∷ (4, codes "d") ∷ (5, codes "e") ∷ (6, codes "f") ∷ (7, codes "g") ∷ (8, codes "h") ∷ (9, codes "i") ∷ []
unfolding with_line with_finding counts_found nothing_kept no_coverage rpdos_of
around_the_sixth = refl

-- in the second line and twice in the fourth: a line is kept once
abbrev close_ones : Kept
close_ones = with_lines (with_late (with_late (with_lines (with_late (with_lines empty_report (codes "ab"))) (codes "cd")))) (codes "efghij")

close_are_listed : map {B = ℕ × ℕ} (λ (noted : Noted). (noted.line, noted.first)) close_ones.noted ≡ (2, 0) ∷ (4, 0) ∷ (4, 0) ∷ []
unfolding with_line with_finding counts_found nothing_kept no_coverage rpdos_of
close_are_listed = refl

around_close_ones : letters close_ones.context
    ≡ (1, codes "a") ∷ (2, codes "b") ∷ (3, codes "c") ∷ (4, codes "d") ∷ (5, codes "e") ∷ (6, codes "f") ∷ (7, codes "g") ∷ []
unfolding with_line with_finding counts_found nothing_kept no_coverage rpdos_of
around_close_ones = refl

around_each : map (λ noted. letters (around close_ones.context noted)) close_ones.noted
    ≡ ((1, codes "a") ∷ (2, codes "b") ∷ (3, codes "c") ∷ (4, codes "d") ∷ (5, codes "e") ∷ [])
    ∷ ((1, codes "a") ∷ (2, codes "b") ∷ (3, codes "c") ∷ (4, codes "d") ∷ (5, codes "e") ∷ (6, codes "f") ∷ (7, codes "g") ∷ [])
    ∷ ((1, codes "a") ∷ (2, codes "b") ∷ (3, codes "c") ∷ (4, codes "d") ∷ (5, codes "e") ∷ (6, codes "f") ∷ (7, codes "g") ∷ []) ∷ []
unfolding with_line with_finding counts_found nothing_kept no_coverage rpdos_of
around_each = refl

-- in the first and in the ninth: those around the second begin where those of the first end
abbrev far_ones : Kept
far_ones = with_late (with_lines (with_late (with_lines empty_report (codes "a"))) (codes "bcdefghi"))

around_far_ones : map (λ noted. letters (around far_ones.context noted)) far_ones.noted
    ≡ ((1, codes "a") ∷ (2, codes "b") ∷ (3, codes "c") ∷ (4, codes "d") ∷ [])
    ∷ ((6, codes "f") ∷ (7, codes "g") ∷ (8, codes "h") ∷ (9, codes "i") ∷ []) ∷ []
unfolding with_line with_finding counts_found nothing_kept no_coverage rpdos_of
around_far_ones = refl

counted_lines : (with_bad_line far_ones).lines ≡ 9
unfolding with_line with_finding counts_found nothing_kept no_coverage rpdos_of
counted_lines = refl

counted_bad_lines : (with_bad_line far_ones).bad_lines ≡ 1
unfolding with_line with_finding counts_found nothing_kept no_coverage rpdos_of
counted_bad_lines = refl

-- 10,000 are listed
abbrev full : Kept
full = record empty_report { noted = replicate 10000 (record { line = 1; micros = 7; finding = late; details = plain; first = 0 }) }

one_too_many : (with_late full).unlisted ≡ 1
unfolding with_finding counts_found nothing_kept no_coverage rpdos_of
one_too_many = refl

-- ---- occasions

-- the kinds that could have been found, in the table's order
abbrev shown : List Counted → List Kind
shown counts = map (λ counted. counted.kind) (filter (λ counted. nat_lt 0 counted.occasions) counts)

abbrev in_force : Option ℕ → Option ℕ → Entries
in_force period inhibit = record { period = period; emergencies = true; inhibit = inhibit; inhibit_shown = None }

abbrev before : NmtState → Option ℕ → Option ℕ → Role → Before
before state period inhibit role = record { state = state; entries = in_force period inhibit; modular = false; role = role }

heartbeat : shown (control_passed (before Operational (Some 1000) None role.Other) true 5 no_counts) ≡ HeartbeatLate ∷ HeartbeatState ∷ HeartbeatLength ∷ []
unfolding control_passed counts_passed
heartbeat = refl

heartbeat_without_period : shown (control_passed (before Operational (Some 0) None role.Other) true 5 no_counts) ≡ HeartbeatState ∷ HeartbeatLength ∷ []
unfolding control_passed counts_passed
heartbeat_without_period = refl

heartbeat_of_unknown_period : shown (control_passed (before Operational None None role.Other) true 127 no_counts) ≡ HeartbeatState ∷ HeartbeatLength ∷ []
unfolding control_passed counts_passed
heartbeat_of_unknown_period = refl

-- on a busy bus it can't be seen that it is late
heartbeat_on_busy_bus : shown (control_passed (before Operational (Some 1000) None role.Other) false 5 no_counts) ≡ HeartbeatState ∷ HeartbeatLength ∷ []
unfolding control_passed counts_passed
heartbeat_on_busy_bus = refl

-- nor does an answer of node guarding, with the toggle bit, show that, or a state
guarded : map (λ byte. shown (control_passed (before Operational (Some 1000) None role.Other) true byte no_counts)) (0x7F ∷ 0x84 ∷ 0x85 ∷ 0xFF ∷ [])
    ≡ (HeartbeatLate ∷ HeartbeatState ∷ HeartbeatLength ∷ []) ∷ (HeartbeatLength ∷ []) ∷ (HeartbeatLength ∷ []) ∷ (HeartbeatLength ∷ []) ∷ []
unfolding control_passed counts_passed
guarded = refl

free_since : map (is_free_since (Some 1000)) (999 ∷ 1000 ∷ 1001 ∷ []) ∷ map (is_free_since None) (1001 ∷ []) ∷ [] ≡ (false ∷ false ∷ true ∷ []) ∷ (false ∷ []) ∷ []
free_since = refl

boot_up : shown (control_passed (before Unknown (Some 1000) None role.Other) true 0 no_counts) ≡ HeartbeatLength ∷ SecondSender ∷ []
unfolding control_passed counts_passed
boot_up = refl

boot_up_after_reset : shown (control_passed (before Initialising (Some 1000) None role.Other) true 0 no_counts) ≡ HeartbeatLength ∷ BootMissing ∷ SecondSender ∷ []
unfolding control_passed counts_passed
boot_up_after_reset = refl

emergency : shown (emergency_passed (before Operational None (Some 0) role.Other) no_counts) ≡ EmergencyLength ∷ EmergencyState ∷ EmergencyRegister ∷ []
unfolding emergency_passed counts_passed
emergency = refl

emergency_with_inhibit : shown (emergency_passed (before Operational None (Some 10) role.Other) no_counts) ≡ EmergencyLength ∷ EmergencyState ∷ EmergencyRegister ∷ EmergencyInhibit ∷ []
unfolding emergency_passed counts_passed
emergency_with_inhibit = refl

abbrev pdo : Option ℕ → Option ℕ → Option ℕ → Option ℕ → Parameters
pdo kind inhibit timer length = record { id = Some 0x185; kind = kind; inhibit = inhibit; timer = timer; length = length }

synchronous : shown (tpdo_passed (pdo (Some 240) (Some 10) (Some 10) (Some 8)) no_counts) ≡ PdoLength ∷ PdoState ∷ PdoSync ∷ []
unfolding tpdo_passed counts_passed
synchronous = refl

reserved_type : shown (tpdo_passed (pdo (Some 241) (Some 10) (Some 10) None) no_counts) ≡ PdoState ∷ []
unfolding tpdo_passed counts_passed
reserved_type = refl

remote_type : shown (tpdo_passed (pdo (Some 253) (Some 10) (Some 10) (Some 1)) no_counts) ≡ PdoLength ∷ PdoState ∷ []
unfolding tpdo_passed counts_passed
remote_type = refl

by_event : shown (tpdo_passed (pdo (Some 254) (Some 10) (Some 10) (Some 1)) no_counts) ≡ PdoLength ∷ PdoState ∷ PdoInhibit ∷ PdoLate ∷ []
unfolding tpdo_passed counts_passed
by_event = refl

by_event_without_times : shown (tpdo_passed (pdo (Some 255) (Some 0) None (Some 1)) no_counts) ≡ PdoLength ∷ PdoState ∷ []
unfolding tpdo_passed counts_passed
by_event_without_times = refl

-- the last command of segments, the first and the last with a multiplexer, an abort; of blocks those
-- with one, and without
toggles : map (λ command. shown (command_passed command no_counts)) (0x3F ∷ 0x40 ∷ 0x7F ∷ 0x80 ∷ 0x81 ∷ [])
    ≡ (AnswerToggle ∷ []) ∷ (NoAnswer ∷ AnswerKey ∷ []) ∷ (NoAnswer ∷ AnswerKey ∷ []) ∷ (NoAnswer ∷ AbortKey ∷ []) ∷ [] ∷ []
unfolding command_passed counts_passed
toggles = refl

keys_of_blocks : map (λ command. shown (command_passed command no_counts)) (0xA0 ∷ 0xA4 ∷ 0xC0 ∷ 0xC2 ∷ 0xC4 ∷ 0xC6 ∷ [])
    ≡ (NoAnswer ∷ AnswerKey ∷ []) ∷ (NoAnswer ∷ AnswerKey ∷ []) ∷ (NoAnswer ∷ AnswerKey ∷ []) ∷ (NoAnswer ∷ AnswerKey ∷ []) ∷ (NoAnswer ∷ AnswerKey ∷ []) ∷ (NoAnswer ∷ AnswerKey ∷ []) ∷ []
unfolding command_passed counts_passed
keys_of_blocks = refl

ends_of_blocks : map (λ command. shown (command_passed command no_counts)) (0xA1 ∷ 0xA2 ∷ 0xC1 ∷ 0xC3 ∷ 0xC7 ∷ 0xD5 ∷ [])
    ≡ [] ∷ [] ∷ [] ∷ [] ∷ [] ∷ [] ∷ []
unfolding command_passed counts_passed
ends_of_blocks = refl

answer : shown (answer_passed false 0x43 no_counts) ≡ SecondSender ∷ NoAnswer ∷ AnswerKey ∷ AnswerForm ∷ []
unfolding answer_passed command_passed counts_passed
answer = refl

segment_of_block : shown (answer_passed true 0x43 no_counts) ≡ SecondSender ∷ AnswerForm ∷ []
unfolding answer_passed command_passed counts_passed
segment_of_block = refl

request_while_stopped : shown (side_passed Client (before Stopped None None role.Other) None (0x40 ∷ []) no_counts) ≡ AnswerState ∷ []
unfolding counts_passed
request_while_stopped = refl

request : shown (side_passed Client (before Operational None None role.Other) None (0x40 ∷ []) no_counts) ≡ []
unfolding counts_passed
request = refl

abbrev row : ℕ → Access → Option ℕ → Row
row index access high = record {
  key = record { index = index; sub = 0 };
  data_type = Unsigned8;
  access = access;
  low = None;
  high = None;
  default = absent;
  mappable = false;
  name = None;
  line = 1;
}

-- 2000h, 2001h and 2002h
abbrev rows : List Row
rows = row 0x2000 Rw None ∷ row 0x2001 Constant None ∷ record (row 0x2002 Wo None) { high = Some (pos 100) } ∷ []

abbrev ended : ℕ → Direction → Protocol → Ending → Ended
ended index direction protocol ending = record {
  key = record { index = index; sub = 0 };
  direction = direction;
  protocol = protocol;
  bytes = 1;
  first = record { items = 7 ∷ [] };
  frames = 2;
  begun = 0;
  newest = 0;
  end = 0;
  ending = ending;
  fault = None;
}

abbrev done : Ending
done = Done false

abbrev refused : Ending
refused = Aborted Server (record { 0 = 0x06010002 })

abbrev after : ℕ → Direction → Protocol → Ending → List Kind
after index direction protocol ending = shown (ended_passed false rows (ended index direction protocol ending) no_counts)

read : after 0x2000 Upload Expedited done ≡ ValueLength ∷ AccessRead ∷ []
unfolding ended_passed upload_passed counts_passed
read = refl

read_constant : after 0x2001 Upload Expedited done ≡ ValueLength ∷ ValueConst ∷ AccessRead ∷ []
unfolding ended_passed upload_passed counts_passed
read_constant = refl

read_in_segments : after 0x2001 Upload Segmented done ≡ AnswerSize ∷ ValueLength ∷ ValueConst ∷ AccessRead ∷ []
unfolding ended_passed upload_passed counts_passed
read_in_segments = refl

read_in_blocks : after 0x2000 Upload Block done ≡ AnswerSize ∷ AnswerCrc ∷ ValueLength ∷ AccessRead ∷ []
unfolding ended_passed upload_passed counts_passed
read_in_blocks = refl

read_refused : after 0x2001 Upload Expedited refused ≡ AccessRead ∷ []
unfolding ended_passed upload_passed counts_passed
read_refused = refl

read_write_only : after 0x2002 Upload Expedited done ≡ AccessRead ∷ []
unfolding ended_passed upload_passed counts_passed
read_write_only = refl

-- 1010:00 as write only is read, and 1003:00 as read only is written: CiA 301 lets a client do so
read_what_is_stored : map (λ index. shown (ended_passed false (row index Wo None ∷ []) (ended index Upload Expedited done) no_counts)) (0x1010 ∷ 0x1011 ∷ 0x1012 ∷ [])
    ≡ [] ∷ [] ∷ (AccessRead ∷ []) ∷ []
unfolding ended_passed upload_passed counts_passed
read_what_is_stored = refl

written_count : map (λ index. shown (ended_passed false (row index Ro None ∷ []) (ended index Download Expedited done) no_counts)) (0x1003 ∷ 0x1004 ∷ []) ≡ [] ∷ (AccessWrite ∷ []) ∷ []
unfolding ended_passed upload_passed counts_passed
written_count = refl

read_unlisted : after 0x3000 Upload Expedited done ≡ []
unfolding ended_passed upload_passed counts_passed
read_unlisted = refl

written : after 0x2000 Download Expedited done ≡ []
unfolding ended_passed upload_passed counts_passed
written = refl

written_constant : after 0x2001 Download Expedited refused ≡ AccessWrite ∷ []
unfolding ended_passed upload_passed counts_passed
written_constant = refl

written_with_limit : after 0x2002 Download Segmented done ≡ AccessLimits ∷ []
unfolding ended_passed upload_passed counts_passed
written_with_limit = refl

-- with modules what the device type is, and which entries can be read, isn't compared
abbrev with_modules : ℕ → Ending → List Kind
with_modules index ending = shown (ended_passed true (row 0x1000 Ro None ∷ rows) (ended index Upload Expedited ending) no_counts)

read_device_type : shown (ended_passed false (row 0x1000 Ro None ∷ rows) (ended 0x1000 Upload Expedited done) no_counts) ≡ ValueLength ∷ ValueConst ∷ AccessRead ∷ []
unfolding ended_passed upload_passed counts_passed
read_device_type = refl

read_of_modules : map (λ index. with_modules index done) (0x1000 ∷ 0x2000 ∷ 0x2001 ∷ 0x2002 ∷ []) ≡ (ValueLength ∷ []) ∷ (ValueLength ∷ []) ∷ (ValueLength ∷ ValueConst ∷ []) ∷ [] ∷ []
unfolding ended_passed upload_passed counts_passed
read_of_modules = refl

refused_by_modules : with_modules 0x2001 refused ≡ []
unfolding ended_passed upload_passed counts_passed
refused_by_modules = refl

left_unanswered : after 0x2001 Upload Expedited Unanswered ≡ []
unfolding ended_passed upload_passed counts_passed
left_unanswered = refl

aborted_by_client : after 0x2001 Upload Expedited (Aborted Client (record { 0 = 0x05040000 })) ≡ []
unfolding ended_passed upload_passed counts_passed
aborted_by_client = refl

-- a frame with a difference, or one that isn't judged, counts for no other kind
by_verdict : map (λ verdict. length (shown (frame_passed rows (frame.Control 5) (before Operational None None role.Other) true None false verdict no_counts)))
    (Some Prescribed ∷ None ∷ Some Different ∷ Some Unjudged ∷ [])
    ≡ 2 ∷ 2 ∷ 0 ∷ 0 ∷ []
unfolding frame_passed control_passed counts_passed
by_verdict = refl

-- with the client's confirmation of a block upload, which has no verdict, its end counts where it is judged
abbrev confirmed : Heard
confirmed = record { what = Part; of = None; ended = Some (ended 0x2001 Upload Block done) }

by_judgement : map (λ judged. shown (frame_passed rows (frame.Sdo Client (record { id = 0x605; bytes = 0xA1 ∷ [] })) (before Operational None None role.Other) true (Some confirmed) judged None no_counts)) (true ∷ false ∷ [])
    ≡ (AnswerSize ∷ AnswerCrc ∷ ValueLength ∷ ValueConst ∷ AccessRead ∷ []) ∷ [] ∷ []
unfolding frame_passed ended_passed upload_passed counts_passed
by_judgement = refl

found_counts_too : filter (λ counted. nat_lt 0 counted.found) (counts_found AnswerCrc no_counts) ≡ record { kind = AnswerCrc; found = 1; occasions = 1 } ∷ []
unfolding counts_found
found_counts_too = refl

-- ---- what frames are

abbrev rpdos : Rpdos
rpdos = record { first = Some 0x205; second = None; third = Some 0x405; fourth = None }

roles : map (λ id. role_of (record unknown_pdos { sync = Some 0x80; second = record unknown_pdos.second { parameters = pdo (Some 1) None None None } }) rpdos id) (0x80 ∷ 0x185 ∷ 0x205 ∷ 0x305 ∷ 0x405 ∷ 0x100 ∷ 0x101 ∷ [])
    ≡ role.Sync ∷ role.Tpdo 2 (pdo (Some 1) None None None) ∷ role.Rpdo 1 ∷ role.Other ∷ role.Rpdo 3 ∷ role.Time ∷ role.Other ∷ []
unfolding role_of
roles = refl

-- 1400:01 = $NODEID+200h; 1401:01 doesn't exist as a PDO, 1402:01 has an identifier of 29 bits
abbrev pdo_row : ℕ → ℕ → Row
pdo_row index value = record (row index Rw None) { key = record { index = index; sub = 1 }; data_type = Unsigned32; default = node_id value }

rpdos_in_sheet : rpdos_of (pdo_row 0x1400 0x200 ∷ pdo_row 0x1401 0x80000300 ∷ pdo_row 0x1402 0x20000400 ∷ pdo_row 0x1403 0x500 ∷ []) 5
    ≡ record { first = Some 0x205; second = None; third = None; fourth = Some 0x505 }
unfolding rpdos_of
rpdos_in_sheet = refl

services : map (λ kind. service_of kind role.Other None) (frame.Command nmt.Start ∷ frame.CommandToAll nmt.ResetCommunication ∷ frame.Guarding ∷ frame.Control 0 ∷ frame.Control 127 ∷ frame.Control 133 ∷ frame.Emergency 0x1000 1 ∷ frame.Process 0x100 8 ∷ frame.Fault ∷ [])
    ≡ Some service.Start ∷ Some service.ResetCommunication ∷ Some service.NodeGuarding ∷ Some service.BootUp ∷ Some service.Heartbeat ∷ Some service.NodeGuarding ∷ Some service.Emergency ∷ None ∷ None ∷ []
unfolding service_of
services = refl

services_of_pdos : map (λ r. service_of (frame.Process 0x100 8) r None) (role.Sync ∷ role.Time ∷ role.Tpdo 1 (pdo None None None None) ∷ role.Tpdo 4 (pdo None None None None) ∷ role.Rpdo 2 ∷ role.Rpdo 3 ∷ [])
    ≡ Some service.Sync ∷ Some service.Time ∷ Some service.Tpdo1 ∷ Some service.Tpdo4 ∷ Some service.Rpdo2 ∷ Some service.Rpdo3 ∷ []
unfolding service_of
services_of_pdos = refl

abbrev answered : FrameContent
answered = record { id = 0x585; bytes = 0x60 ∷ [] }

services_of_transfers : map (λ e. service_of (frame.Sdo Server answered) role.Other (Some e)) (ended 0x2000 Upload Block done ∷ ended 0x2000 Download Expedited done ∷ ended 0x2000 Download Segmented refused ∷ [])
    ≡ Some service.BlockUpload ∷ Some service.ExpeditedDownload ∷ None ∷ []
unfolding service_of
services_of_transfers = refl

-- ---- coverage

abbrev covered : List Ended → CoverageView
covered [] = no_coverage 3
covered (e ∷ older) = transfers_with rows (Some e) (covered older)

-- 2000h is read and written, 2001h refused, 2002h never touched, 3000h isn't in the sheet
entries_covered : (covered (ended 0x2000 Upload Expedited done ∷ ended 0x2000 Download Expedited done ∷ ended 0x2001 Download Expedited refused ∷ ended 0x3000 Upload Expedited done ∷ ended 0x2002 Upload Expedited Unanswered ∷ [])).entries
    ≡ record { read = true; written = true; refused = false } ∷ record { read = false; written = false; refused = true } ∷ record { read = false; written = false; refused = false } ∷ []
unfolding transfers_with numbered_with no_coverage
entries_covered = refl

aborts_counted : (covered (ended 0x2001 Download Expedited refused ∷ ended 0x2000 Upload Expedited (Aborted Client (record { 0 = 0x05040000 })) ∷ ended 0x2001 Download Expedited refused ∷ [])).aborts
    ≡ record { number = 0x06010002; count = 2 } ∷ record { number = 0x05040000; count = 1 } ∷ []
unfolding transfers_with numbered_with no_coverage
aborts_counted = refl

-- 1018:03 and 04, as the newest upload of four bytes shows them; one of another length, a download and a refusal show nothing
abbrev of_identity : ℕ → List ℕ → Ended
of_identity sub bytes = record (ended 0x1018 Upload Expedited done) { key = record { index = 0x1018; sub = sub }; bytes = length bytes; first = record { items = bytes } }

identity_shown : (covered (of_identity 3 (1 ∷ 0 ∷ 2 ∷ 0 ∷ []) ∷ of_identity 4 (0x40 ∷ 0xE2 ∷ 1 ∷ 0 ∷ []) ∷ of_identity 1 (7 ∷ 0 ∷ 0 ∷ 0 ∷ []) ∷ of_identity 3 (9 ∷ 0 ∷ 0 ∷ 0 ∷ []) ∷ [])).identity
    ≡ record { revision = Some 0x20001; serial = Some 123456 }
unfolding transfers_with numbered_with no_coverage
identity_shown = refl

identity_not_shown : map (λ e. (covered (e ∷ [])).identity) (of_identity 4 (1 ∷ 2 ∷ []) ∷ record (of_identity 4 (1 ∷ 2 ∷ 3 ∷ 4 ∷ [])) { direction = Download } ∷ record (of_identity 4 (1 ∷ 2 ∷ 3 ∷ 4 ∷ [])) { ending = refused } ∷ record (of_identity 4 (1 ∷ 2 ∷ 3 ∷ 4 ∷ [])) { key = record { index = 0x1019; sub = 4 } } ∷ [])
    ≡ no_identity ∷ no_identity ∷ no_identity ∷ no_identity ∷ []
unfolding transfers_with numbered_with no_coverage
identity_not_shown = refl

no_room_for_more : numbered_with 1 9 (record { number = 8; count = 1 } ∷ []) ≡ record { number = 8; count = 1 } ∷ []
unfolding numbered_with
no_room_for_more = refl

types_counted : (coverage_with rows (frame.Process 0x185 1) (role.Tpdo 1 (pdo (Some 254) None None None)) Operational None (no_coverage 3)).types ≡ record { number = 254; count = 1 } ∷ []
unfolding coverage_with transfers_with numbered_with no_coverage service_of services_with
types_counted = refl

-- ---- a frame

abbrev one_frame : Kept
one_frame = with_frame rows empty_report 9000 (frame.Control 5) (before PreOperational None None role.Other) Operational 9000 false nothing_found

newest_control : map (control_with (Some 5) 9) (frame.Control 0 ∷ frame.OddControl 2 ∷ frame.Emergency 0 0 ∷ []) ≡ Some 9 ∷ Some 9 ∷ Some 5 ∷ []
newest_control = refl

frame_begins : one_frame.begin ≡ Some 9000
unfolding with_frame nothing_kept
frame_begins = refl

frame_is_covered : one_frame.coverage.states ≡ record no_states { operational = true }
unfolding with_frame coverage_with transfers_with services_with service_of nothing_kept no_coverage
frame_is_covered = refl

frame_in_its_lane : one_frame.lanes ≡ record { begin = 9000; width = 1000; bins = record one_beat { differences = 0 } ∷ [] }
unfolding with_frame lanes_with widened bin_with nothing_kept lane_of
frame_in_its_lane = refl

-- ---- names in the sheet

-- in any case of their letters, without blanks, the first; only in the section DeviceInfo, and with a value
abbrev sheet : List ℕ
sheet =
    codes "[FileInfo]\nVendorName=a\n[ deviceinfo ]\n;VendorName=b\nVendorName=\nvendorname = <A&B> \nVendorName=c\n[1018]\nProductName=d\n"

names_in_sheet : info_in (codes "VendorName") sheet ∷ info_in (codes "ProductName") sheet ∷ info_in (codes "VendorName") (0xEF ∷ 0xBB ∷ 0xBF ∷ codes "[DeviceInfo]\r\nVendorName=e\r\n") ∷ []
    ≡ Some (codes "<A&B>") ∷ None ∷ Some (codes "e") ∷ []
names_in_sheet = refl

-- a digit other than 0, in hexadecimal digits too; not without the key, nor outside DeviceInfo
masters : map (λ value. is_boot_up_master (codes "[DeviceInfo]\nSimpleBootUpMaster=" ++ value ++ codes "\n")) (codes "1" ∷ codes "0x01" ∷ codes "9" ∷ codes "0" ∷ codes "0x00" ∷ codes "" ∷ [])
    ≡ true ∷ true ∷ true ∷ false ∷ false ∷ false ∷ []
masters = refl

no_masters : map is_boot_up_master (codes "[DeviceInfo]\nSimpleBootUpSlave=1\n" ∷ codes "SimpleBootUpMaster=1\n" ∷ codes "[FileInfo]\nSimpleBootUpMaster=1\n" ∷ []) ≡ false ∷ false ∷ false ∷ []
no_masters = refl
