-- Frames one after another, at one time: what is found at each of them, and what compare knows of the NMT state after the last one.
use Rattle.std.proofs.Common.{◌≡◌, ℕ, List, [], ◌∷◌, ◌++◌, ap, ◌∙◌}
use Rattle.co_frame.specs.FrameContent.{FrameContent}
use Rattle.co_sheet.specs.Content.{Row}
use Rattle.conode_compare_nmt.specs.declared.finding.Finding.{Finding}
use Rattle.conode_compare_rules.specs.declared.kind.FrameKind.{FrameKind}
use Rattle.conode_compare_nmt.specs.declared.limits.Subject.{Subject}
use Rattle.conode_compare_rules.specs.declared.progress.Progress.{Progress}
use Rattle.conode_compare_rules.specs.declared.verdict.Findings.{Findings}
use Rattle.conode_compare_rules.specs.FrameKinds.{data_kind}
use Rattle.conode_compare_rules.specs.Progresses.{findings_at, progress_with}
use Rattle.conode_compare_laws.specs.Differences.{differences_from}
use Rattle.conode_compare_laws.specs.Recordings.{Recorded, stamped}
use Rattle.conode_compare_laws.proofs.Shown.{Stage}
use Rattle.conode_compare_laws.proofs.Frames.{FitsAt}

-- none of these is found at a frame, and what compare knows after it fits
pub record Goes (these : FrameKind → Findings → List Finding) (subject : Subject) (rows : List Row) (micros : ℕ) (p : Progress) (frame : FrameContent) (stage : Stage) : Type 0 where
  pub none : these (data_kind subject.node frame) (findings_at subject rows p micros (data_kind subject.node frame)) ≡ []
  pub fits : FitsAt micros stage (progress_with subject p micros (data_kind subject.node frame))

-- the same at each of these frames, and after the last one
abbrev pub AllGo : (FrameKind → Findings → List Finding) → Subject → List Row → ℕ → Progress → List FrameContent → Stage → Type 0
AllGo these subject rows micros p [] stage = FitsAt micros stage p
AllGo these subject rows micros p (frame ∷ later) stage =
    (these (data_kind subject.node frame) (findings_at subject rows p micros (data_kind subject.node frame)) ≡ [])
    × AllGo these subject rows micros (progress_with subject p micros (data_kind subject.node frame)) later stage

pub one : (these : FrameKind → Findings → List Finding) (subject : Subject) (rows : List Row) (micros : ℕ) (p : Progress) (frame : FrameContent) (stage : Stage)
    → Goes these subject rows micros p frame stage → AllGo these subject rows micros p (frame ∷ []) stage
one these subject rows micros p frame stage h = (h.none, h.fits)

pub joined : (these : FrameKind → Findings → List Finding) (subject : Subject) (rows : List Row) (micros : ℕ) (xs ys : List FrameContent) (p : Progress) (between stage : Stage)
    → AllGo these subject rows micros p xs between → ((q : Progress) → FitsAt micros between q → AllGo these subject rows micros q ys stage) → AllGo these subject rows micros p (xs ++ ys) stage
joined these subject rows micros [] ys p between stage h f = f p h
joined these subject rows micros (x ∷ xs) ys p between stage h f = (h.0, joined these subject rows micros xs ys (progress_with subject p micros (data_kind subject.node x)) between stage h.1 f)

-- before the frames that follow them
pub then_none : (these : FrameKind → Findings → List Finding) (subject : Subject) (rows : List Row) (micros : ℕ) (frames : List FrameContent) (rest : List Recorded) (p : Progress) (stage : Stage)
    → AllGo these subject rows micros p frames stage → ((q : Progress) → FitsAt micros stage q → differences_from these subject rows q rest ≡ [])
    → differences_from these subject rows p (stamped micros frames ++ rest) ≡ []
then_none these subject rows micros [] rest p stage h f = f p h
then_none these subject rows micros (frame ∷ later) rest p stage h f =
    ap (λ (x : List Finding). x ++ differences_from these subject rows (progress_with subject p micros (data_kind subject.node frame)) (stamped micros later ++ rest)) h.0
    ∙ then_none these subject rows micros later rest (progress_with subject p micros (data_kind subject.node frame)) stage h.1 f
