-- What is found at the frames of a recording, one after another: between two frames it is looked at what RPDOs write to the entries that
-- are held.
use Rattle.std.specs.Prelude.{List, [], ◌∷◌, ◌++◌}
use Rattle.co_sheet.specs.Content.{Row}
use Rattle.conode_record.specs.declared.line.Record.{Record}
use Rattle.conode_compare_nmt.specs.declared.finding.Finding.{Finding}
use Rattle.conode_compare_rules.specs.declared.kind.FrameKind.{FrameKind}
use Rattle.conode_compare_nmt.specs.declared.limits.Subject.{Subject}
use Rattle.conode_compare_rules.specs.declared.progress.Progress.{Progress}
use Rattle.conode_compare_rules.specs.declared.verdict.Findings.{Findings}
use Rattle.conode_compare_rules.specs.FrameKinds.{kind_of}
use Rattle.conode_compare_rules.specs.Gaps.{before_recording}
use Rattle.conode_compare_rules.specs.Progresses.{findings_at, progress_with}
use Rattle.conode_compare_receptions.specs.declared.receptions.Receptions.{Receptions}
use Rattle.conode_compare_receptions.specs.Receptions.{no_receptions, receptions_with, with_receptions}

-- what a frame is to the device, whatever frame it is
abbrev pub kind_at : Subject → Record → FrameKind
kind_at subject r = kind_of subject.node r.id r.content

-- what RPDOs wrote to the entries that are held, after a frame
abbrev pub receptions_after : Subject → List Row → Progress → Receptions → Record → Receptions
receptions_after subject rows progress receptions r =
    receptions_with subject rows receptions (progress_with subject progress r.micros (kind_at subject r)) r.micros (kind_at subject r) r.id r.content

-- and what is known of the device then
abbrev pub progress_after : Subject → List Row → Progress → Receptions → Record → Progress
progress_after subject rows progress receptions r =
    with_receptions subject (progress_with subject progress r.micros (kind_at subject r)) (receptions_after subject rows progress receptions r)

-- of what is found at each frame these, in their order, where the recording has shown so much before
abbrev pub program_from : (FrameKind → Findings → List Finding) → Subject → List Row → Progress → Receptions → List Record → List Finding
program_from these subject rows progress receptions [] = []
program_from these subject rows progress receptions (r ∷ later) =
    these (kind_at subject r) (findings_at subject rows progress r.micros (kind_at subject r))
    ++ program_from these subject rows (progress_after subject rows progress receptions r) (receptions_after subject rows progress receptions r) later

-- over a whole recording, as `conode compare` goes through it
abbrev pub program_over : (FrameKind → Findings → List Finding) → Subject → List Row → List Record → List Finding
program_over these subject rows frames = program_from these subject rows (before_recording subject) no_receptions frames
