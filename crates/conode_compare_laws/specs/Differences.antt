-- What `compare` finds in a recording.
use Rattle.std.specs.Prelude.{List, [], ◌∷◌, ◌++◌, Option, Some, None}
use Rattle.std.specs.Option.{option_to_list}
use Rattle.co_sheet.specs.Content.{Row}
use Rattle.conode_compare_nmt.specs.declared.finding.Finding.{Finding}
use Rattle.conode_compare_nmt.specs.declared.finding.Finding.TheVariants.{EmergencyInhibit}
use Rattle.conode_compare_rules.specs.declared.kind.FrameKind.{FrameKind}
use Rattle.conode_compare_rules.specs.declared.kind.FrameKind.TheVariants.{Control, OddControl, Emergency, OddEmergency}
use Rattle.conode_compare_nmt.specs.declared.limits.Subject.{Subject}
use Rattle.conode_compare_rules.specs.declared.progress.Progress.{Progress}
use Rattle.conode_compare_rules.specs.declared.verdict.Findings.{Findings}
use Rattle.conode_compare_rules.specs.FrameKinds.{data_kind}
use Rattle.conode_compare_rules.specs.Gaps.{before_recording}
use Rattle.conode_compare_rules.specs.Progresses.{findings_at, progress_with}
use Rattle.conode_compare_laws.specs.Recordings.{Recorded}

-- what a frame is to the device
abbrev pub kind_in : Subject → Recorded → FrameKind
kind_in subject r = data_kind subject.node r.frame

-- of what is found at each frame these, in their order, where the recording has shown so much of
-- the device before
abbrev pub differences_from : (FrameKind → Findings → List Finding) → Subject → List Row → Progress → List Recorded → List Finding
differences_from these subject rows progress [] = []
differences_from these subject rows progress (r ∷ later) =
    these (kind_in subject r) (findings_at subject rows progress r.micros (kind_in subject r))
    ++ differences_from these subject rows (progress_with subject progress r.micros (kind_in subject r)) later

-- over a whole recording
abbrev pub differences_in : (FrameKind → Findings → List Finding) → Subject → List Row → List Recorded → List Finding
differences_in these subject rows recording = differences_from these subject rows (before_recording subject) recording

-- ---- NMT and error control (CiA 301, 7.2.8.2 and 7.2.8.3)

-- of a frame of error control: `second-sender` of boot-ups and heartbeats, `heartbeat-state`,
-- `heartbeat-length`
abbrev pub control_differences : FrameKind → Findings → List Finding
control_differences (Control byte) found = option_to_list found.frame
control_differences (OddControl length) found = option_to_list found.frame
control_differences kind found = []

-- these, and of each frame `boot-missing`
abbrev pub state_differences : FrameKind → Findings → List Finding
state_differences kind found = option_to_list found.boot ++ control_differences kind found

-- ---- EMCY (CiA 301, 7.2.7)

-- a difference other than `emcy-inhibit`
abbrev pub besides_inhibit : Option Finding → List Finding
besides_inhibit None = []
besides_inhibit (Some (EmergencyInhibit passed inhibit)) = []
besides_inhibit (Some finding) = finding ∷ []

-- of an EMCY: `emcy-state`, `emcy-register`, `emcy-length`
abbrev pub emergency_differences : FrameKind → Findings → List Finding
emergency_differences (Emergency code register) found = besides_inhibit found.frame
emergency_differences (OddEmergency length) found = besides_inhibit found.frame
emergency_differences kind found = []

-- `emcy-inhibit` alone
abbrev pub only_inhibit : Option Finding → List Finding
only_inhibit (Some (EmergencyInhibit passed inhibit)) = EmergencyInhibit passed inhibit ∷ []
only_inhibit finding = []

abbrev pub inhibit_differences : FrameKind → Findings → List Finding
inhibit_differences (Emergency code register) found = only_inhibit found.frame
inhibit_differences kind found = []

-- ---- heartbeats (CiA 301, 7.2.8.3.2)

-- `heartbeat-late` and `heartbeat-off`, at whatever frame they are found
abbrev pub late_differences : FrameKind → Findings → List Finding
late_differences kind found = option_to_list found.heartbeat
