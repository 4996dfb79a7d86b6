-- What a recording shows of a device, frame by frame, and where it differs from CiA 301.
use Rattle.std.specs.Prelude.{ℕ, ◌==◌, Bool, true, false, ◌&&◌, if◌then◌else◌, List, is_some}
use Rattle.std.specs.Option.{option_map_or}
use Rattle.co_sheet.specs.Content.{Row}
use Rattle.conode_explain_transfers.specs.declared.kinds.Side.TheVariants.{Client, Server}
use Rattle.conode_compare_rules.specs.declared.progress.Progress.{Progress}
use Rattle.conode_compare_values.specs.declared.written.Written.{Written}
use Rattle.conode_compare_transfers.specs.declared.dialogue.Exchange.{Exchange}
use Rattle.conode_compare_nmt.specs.declared.limits.Subject.{Subject}
use Rattle.conode_compare_rules.specs.declared.kind.FrameKind.{FrameKind}
use Rattle.conode_compare_rules.specs.declared.kind.FrameKind.TheVariants.{Command, CommandToAll, LongCommand, Guarding, Control, OddControl, Emergency, OddEmergency, Sdo, Process, Polled, Fault, Other}
use Rattle.conode_compare_rules.specs.declared.verdict.Findings.{Findings}
use Rattle.conode_compare_values.specs.HeldNumbers.{is_kept, unmapped}
use Rattle.conode_compare_nmt.specs.States.{is_operational}
use Rattle.conode_compare_rules.specs.Verdicts.{nothing_found}
use Rattle.conode_compare_rules.specs.Gaps.{begun, after_fault}
use Rattle.conode_compare_rules.specs.NmtFrames.{after_command, after_guarding, boot_findings, booted, settled_when_free, control_findings, after_control, odd_control_findings, after_length}
use Rattle.conode_compare_rules.specs.EmergencyRules.{emergency_findings, odd_emergency_findings, after_emergency, emergency_noted}
use Rattle.conode_compare_rules.specs.Channels.{after_sdo, answer_findings, after_answer, request_findings}
use Rattle.conode_compare_rules.specs.Processes.{process_findings, after_process, after_poll}

-- what is found at a frame, by what it is to the device, once the recording is begun
abbrev pub findings_in : Subject → List Row → Progress → ℕ → FrameKind → Findings
findings_in subject rows progress micros (Control byte) =
    if byte == 0 then boot_findings progress micros else control_findings subject progress micros byte
findings_in subject rows progress micros (OddControl length) = odd_control_findings subject progress micros length
findings_in subject rows progress micros (Emergency code register) = emergency_findings subject progress micros code register
findings_in subject rows progress micros (OddEmergency length) = odd_emergency_findings progress length
findings_in subject rows progress micros (Sdo Server frame) = answer_findings subject rows progress micros frame
findings_in subject rows progress micros (Sdo Client frame) = request_findings subject rows progress micros frame
findings_in subject rows progress micros (Process id length) = process_findings subject progress micros id length
findings_in subject rows progress micros _ = nothing_found

-- what the recording shows of the device then
abbrev pub after_frame : Subject → Progress → ℕ → FrameKind → Progress
after_frame subject progress micros (Control byte) =
    if byte == 0 then booted subject progress micros else after_control subject progress micros byte
after_frame subject progress micros (OddControl length) = after_length subject progress micros length
after_frame subject progress micros (Emergency code register) = emergency_noted subject progress micros
after_frame subject progress micros (OddEmergency length) = after_emergency progress
after_frame subject progress micros (Sdo Server frame) = after_answer subject progress micros frame
after_frame subject progress micros (Sdo Client frame) = after_sdo subject progress micros Client frame
after_frame subject progress micros (Command service) = after_command progress service false micros
after_frame subject progress micros (CommandToAll service) = after_command progress service subject.facts.starts_itself micros
after_frame subject progress micros (LongCommand service) = after_command progress service true micros
after_frame subject progress micros (Process id length) = after_process subject progress micros id length
after_frame subject progress micros (Polled id) = after_poll progress id
after_frame subject progress micros Guarding = after_guarding progress
after_frame subject progress micros Fault = after_fault progress micros
after_frame subject progress micros Other = record progress { written = unmapped subject.held.entries.items progress.written }

-- what is found at a frame, after what the recording shows before it
unfoldable pub findings_at : Subject → List Row → Progress → ℕ → FrameKind → Findings
findings_at subject rows progress micros kind = findings_in subject rows (begun subject progress micros) micros kind

unfoldable pub progress_with : Subject → Progress → ℕ → FrameKind → Progress
progress_with subject progress micros kind = after_frame subject (begun subject progress micros) micros kind

-- the frame is an upload that could show another number than was written to its entry, which is held,
-- and doesn't
abbrev pub kept_in : Subject → Written → Exchange → Bool
kept_in subject written exchange = is_kept subject.held.entries.items written exchange.certain exchange.heard.ended

abbrev pub is_number_kept : Subject → Progress → Bool
is_number_kept subject after = option_map_or (kept_in subject after.written) after.exchange false

-- the frame ends a transfer, and no earlier request can be answered: so that end is judged
abbrev pub is_end_judged : Progress → Bool
is_end_judged after = option_map_or (λ exchange. exchange.certain && is_some exchange.heard.ended) after.exchange false

-- the recording begins with the newest frame, or begins anew; or that is an error frame
abbrev pub is_begun : Progress → Bool
is_begun progress = progress.begins

-- the device was operational when the bus was free last before the frame, as far as commands and
-- heartbeats show
abbrev pub takes_rpdos : Subject → Progress → Bool
takes_rpdos subject progress = is_operational progress.nmt.state && settled_when_free subject progress
