-- PDOs and SYNCs of a recording.
use Rattle.std.specs.Prelude.{ℕ, Bool, ◌&&◌, ◌||◌, if◌then◌else◌, Option, Some, None, is_some, option_map}
use Rattle.conode_compare_pdos.specs.declared.deviation.Moment.{Moment}
use Rattle.conode_compare_pdos.specs.declared.pdos.Pdos.{Pdos}
use Rattle.conode_compare_pdos.specs.declared.pdos.Sighting.{Sighting}
use Rattle.conode_compare_pdos.specs.Followed as tpdos
use Rattle.conode_compare_rules.specs.declared.progress.Progress.{Progress}
use Rattle.conode_compare_values.specs.declared.written.Written.{Written}
use Rattle.conode_compare_nmt.specs.declared.entries.Entries.{Entries}
use Rattle.conode_compare_nmt.specs.declared.finding.Finding.{Finding}
use Rattle.conode_compare_nmt.specs.declared.finding.Finding.TheVariants.{Pdo as PdoFinding}
use Rattle.conode_compare_nmt.specs.declared.limits.Subject.{Subject}
use Rattle.conode_compare_rules.specs.declared.verdict.Findings.{Findings}
use Rattle.conode_compare_values.specs.HeldNumbers.{with_process}
use Rattle.conode_compare_nmt.specs.EntriesInForce.{overwritten}
use Rattle.conode_compare_nmt.specs.OtherClients.{may_send}
use Rattle.conode_compare_nmt.specs.States.{has_followed, judged_state, with_followed, with_left, is_idle}
use Rattle.conode_compare_rules.specs.Verdicts.{found, nothing_found}
use Rattle.conode_compare_rules.specs.Waits.{counts_since}
use Rattle.conode_compare_rules.specs.NmtFrames.{is_known, is_overdue, steady_when_free, late_by, heartbeats_by}

unfoldable pub moment_at : Subject → Progress → ℕ → Moment
moment_at subject progress micros = record {
  micros = micros;
  free = progress.free;
  tolerance = subject.limits.tolerance;
  drift = subject.limits.drift;
  idle = steady_when_free subject progress && is_idle subject.facts.starts_itself (judged_state progress.nmt);
  known = steady_when_free subject progress && is_known progress.nmt.state;
  commanded = Some (counts_since progress);
}

abbrev pub sighting_findings : Option Finding → Option Sighting → Findings
sighting_findings late None = nothing_found
sighting_findings late (Some sighting) =
    found None late None (option_map (λ deviation. PdoFinding sighting.number deviation) sighting.deviation) sighting.judged

-- while a heartbeat is late it isn't judged
abbrev pub unless_overdue : Bool → Option Sighting → Option Sighting
unless_overdue overdue sighting = if overdue then tpdos.unjudged sighting else sighting

abbrev pub sighted : Subject → Progress → ℕ → ℕ → ℕ → Option Sighting
sighted subject progress micros id length =
    unless_overdue (is_overdue subject progress) (tpdos.sighting (moment_at subject progress micros) progress.pdos id length)

-- by a TPDO a heartbeat may be missing
abbrev pub late_by_tpdo : Subject → Progress → ℕ → ℕ → ℕ → Option Finding
late_by_tpdo subject progress micros id length = late_by subject progress (is_some (sighted subject progress micros id length)) micros

-- of a data frame with this identifier and so many bytes
unfoldable pub process_findings : Subject → Progress → ℕ → ℕ → ℕ → Findings
process_findings subject progress micros id length =
    sighting_findings (late_by_tpdo subject progress micros id length) (sighted subject progress micros id length)

-- what an RPDO may have written is unknown; a TPDO of the device writes nothing
abbrev pub with_rpdo : Subject → Written → Bool → ℕ → Written
with_rpdo subject written own id = if own then written else with_process subject.held.entries.items written id

-- the frame may be one of the client of another SDO channel, which may have written each entry
abbrev pub is_of_client : Subject → ℕ → Bool
is_of_client subject id = may_send subject.facts.clients id

abbrev pub process_entries : Subject → Progress → ℕ → Entries
process_entries subject progress id = if is_of_client subject id then overwritten progress.entries else progress.entries

abbrev pub process_pdos : Subject → Progress → ℕ → ℕ → ℕ → Pdos
process_pdos subject progress micros id length =
    if is_of_client subject id then tpdos.unknown_pdos else tpdos.framed progress.pdos (moment_at subject progress micros) id length

-- a device that isn't operational sends no TPDO: that it has followed a command, where a heartbeat showed
-- that it wasn't
abbrev pub shows_by_tpdo : Subject → Progress → ℕ → ℕ → ℕ → Bool
shows_by_tpdo subject progress micros id length =
    is_some (sighted subject progress micros id length) && steady_when_free subject progress

abbrev pub follows_by_tpdo : Subject → Progress → ℕ → ℕ → ℕ → Bool
follows_by_tpdo subject progress micros id length =
    has_followed (is_idle subject.facts.starts_itself) progress.nmt && shows_by_tpdo subject progress micros id length

unfoldable pub after_process : Subject → Progress → ℕ → ℕ → ℕ → Progress
after_process subject progress micros id length = record progress {
  nmt = with_left (with_followed progress.nmt (follows_by_tpdo subject progress micros id length) micros) (shows_by_tpdo subject progress micros id length) micros;
  heartbeats = heartbeats_by subject progress (is_some (sighted subject progress micros id length)) micros;
  entries = process_entries subject progress id;
  pdos = process_pdos subject progress micros id length;
  other_client = is_of_client subject id || progress.other_client;
  written = with_rpdo subject progress.written (is_some (sighted subject progress micros id length)) id;
}

abbrev pub after_poll : Progress → ℕ → Progress
after_poll progress id = record progress { pdos = tpdos.polled progress.pdos id }
