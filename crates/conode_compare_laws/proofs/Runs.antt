-- Frames one after another, at one time: what is found at each of them, and what holds of what compare knows after the last one.
use Rattle.std.proofs.Common.{◌≡◌, ℕ, List, [], ◌∷◌, ◌++◌, ap, ◌∙◌}
use Rattle.co_frame.specs.FrameContent.{FrameContent}
use Rattle.co_sheet.specs.Content.{Row}
use Rattle.conode_compare_nmt.specs.declared.finding.Finding.{Finding}
use Rattle.conode_compare_rules.specs.declared.kind.FrameKind.{FrameKind}
use Rattle.conode_compare_nmt.specs.declared.limits.Subject.{Subject}
use Rattle.conode_compare_rules.specs.declared.progress.Progress.{Progress}
use Rattle.conode_compare_rules.specs.declared.verdict.Findings.{Findings}
use Rattle.conode_compare_rules.specs.FrameKinds.{data_kind}
use Rattle.conode_compare_rules.specs.Progresses.{findings_at, progress_with}
use Rattle.conode_compare_laws.specs.Differences.{differences_from}
use Rattle.conode_compare_laws.specs.Recordings.{Recorded, stamped}

-- none of these is found at any of them, and what holds after the last one
abbrev pub AllRun : (FrameKind → Findings → List Finding) → Subject → List Row → ℕ → Progress → List FrameContent → (Progress → Type 0) → Type 0
AllRun these subject rows micros p [] after = after p
AllRun these subject rows micros p (frame ∷ later) after =
    (these (data_kind subject.node frame) (findings_at subject rows p micros (data_kind subject.node frame)) ≡ [])
    × AllRun these subject rows micros (progress_with subject p micros (data_kind subject.node frame)) later after

pub joined : (these : FrameKind → Findings → List Finding) (subject : Subject) (rows : List Row) (micros : ℕ) (xs ys : List FrameContent) (p : Progress) (between after : Progress → Type 0)
    → AllRun these subject rows micros p xs between → ((q : Progress) → between q → AllRun these subject rows micros q ys after) → AllRun these subject rows micros p (xs ++ ys) after
joined these subject rows micros [] ys p between after h f = f p h
joined these subject rows micros (x ∷ xs) ys p between after h f = (h.0, joined these subject rows micros xs ys (progress_with subject p micros (data_kind subject.node x)) between after h.1 f)

-- before the frames that follow them
pub then_none : (these : FrameKind → Findings → List Finding) (subject : Subject) (rows : List Row) (micros : ℕ) (frames : List FrameContent) (rest : List Recorded) (p : Progress) (after : Progress → Type 0)
    → AllRun these subject rows micros p frames after → ((q : Progress) → after q → differences_from these subject rows q rest ≡ [])
    → differences_from these subject rows p (stamped micros frames ++ rest) ≡ []
then_none these subject rows micros [] rest p after h f = f p h
then_none these subject rows micros (frame ∷ later) rest p after h f =
    ap (λ (x : List Finding). x ++ differences_from these subject rows (progress_with subject p micros (data_kind subject.node frame)) (stamped micros later ++ rest)) h.0
    ∙ then_none these subject rows micros later rest (progress_with subject p micros (data_kind subject.node frame)) after h.1 f
