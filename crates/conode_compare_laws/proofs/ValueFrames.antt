-- Frames of the channel one after another, for the laws about the ends of transfers.
use Rattle.std.proofs.Common.{◌≡◌, ℕ, ◌+◌, false, List, [], ◌∷◌, Option, Some, None, sym, ap, ◌∙◌, subst}
use Rattle.std.specs.Prelude.{IfSome}
use Rattle.co_frame.specs.FrameContent.{FrameContent}
use Rattle.co_sdo.specs.Log.{Answer, answer_bytes, frames_on}
use Rattle.co_sheet.specs.Content.{Row}
use Rattle.conode_explain_transfers.specs.declared.kinds.Side.{Side}
use Rattle.conode_explain_transfers.specs.declared.kinds.Side.TheVariants.{Server}
use Rattle.conode_explain_transfers.specs.Followed.{Followed, Following}
use Rattle.conode_compare_transfers.specs.declared.dialogue.Dialogue.{Dialogue}
use Rattle.conode_compare_nmt.specs.declared.finding.Finding.{Finding}
use Rattle.conode_compare_rules.specs.declared.kind.FrameKind.TheVariants.{Sdo}
use Rattle.conode_compare_nmt.specs.declared.limits.Subject.{Subject}
use Rattle.conode_compare_rules.specs.declared.progress.Progress.{Progress}
use Rattle.conode_compare_rules.specs.Answers.{known_finding}
use Rattle.conode_compare_rules.specs.FrameKinds.{data_kind}
use Rattle.conode_compare_rules.specs.Gaps.{begun}
use Rattle.conode_compare_rules.specs.Progresses.{after_frame, findings_at, findings_in, progress_with}
use Rattle.conode_compare_laws.specs.ValueFindings.{on_channel}
use Rattle.conode_compare_laws.proofs.AnswerDialogues.{channel_is}
use Rattle.conode_compare_laws.proofs.AnswerDataFrames.{open_channel}
use Rattle.conode_compare_laws.proofs.AnswerExchange.{answer_kind}
use Rattle.conode_compare_laws.proofs.AnswerFollowed.{reads}
use Rattle.conode_compare_laws.proofs.AnswerSteps.{Same, begun_newest, begun_same}
use Rattle.conode_compare_laws.proofs.AnswerToggleRuns.{sdo_after}
use Rattle.conode_compare_laws.proofs.Runs.{AllRun}
use Rattle.conode_compare_laws.proofs.ValueOnly.{is_value, none_found}

module _ (only : Option Finding → List Finding) (nothing : only None ≡ []) (others : (finding : Finding) → is_value finding ≡ false → only (Some finding) ≡ []) (subject : Subject) (rows : List Row) (micros : ℕ) where
  -- what a frame is read as ends no transfer with one of these differences
  abbrev pub IsFine : FrameContent → Followed → Type 0
  IsFine frame f = IfSome f.says.ended (λ e. only (known_finding subject rows frame e) ≡ [])

  pub sdo_run : (p : Progress) (frame : FrameContent) (later : List FrameContent) (side : Side) (after : Progress → Type 0) → data_kind subject.node frame ≡ Sdo side frame
      → IsFine frame (reads (begun subject p micros).dialogue.channel micros side frame.bytes)
      → ((q : Progress) → q.newest ≡ Some micros → q.dialogue.channel ≡ (reads (begun subject p micros).dialogue.channel micros side frame.bytes).next → AllRun (on_channel only) subject rows micros q later after)
      → AllRun (on_channel only) subject rows micros p (frame ∷ later) after
  unfolding findings_at progress_with
  sdo_run p frame later side after is h rest =
      let q : Progress = begun subject p micros in
      let Next : Option ℕ → Dialogue → Type 0 = λ newest d. (newest ≡ Some micros) × (d.channel ≡ (reads q.dialogue.channel micros side frame.bytes).next) in
      let next : Next (after_frame subject q micros (Sdo side frame)).newest (after_frame subject q micros (Sdo side frame)).dialogue =
      sdo_after subject q micros side frame Next (begun_newest subject p micros, open_channel side _ _ ∙ channel_is subject.limits.answer q.started q.dialogue micros side frame) in
      subst (λ kind. (on_channel only kind (findings_in subject rows (begun subject p micros) micros kind) ≡ []) × AllRun (on_channel only) subject rows micros (after_frame subject (begun subject p micros) micros kind) later after) (sym is)
      (none_found only nothing others subject rows q micros side frame h, rest (after_frame subject q micros (Sdo side frame)) next.0 next.1)

  -- an answer, as explain reads it
  abbrev pub answer_frame : List ℕ → FrameContent
  answer_frame bytes = record { id = 0x580 + subject.node; bytes = bytes }

  abbrev pub heard_by : Following → List ℕ → Followed
  heard_by following bytes = reads following micros Server bytes

  -- answers one after another
  abbrev pub AllFine : Following → List Answer → Type 0
  AllFine following [] = Unit {0}
  AllFine following (answer ∷ later) = IsFine (answer_frame (answer_bytes answer)) (heard_by following (answer_bytes answer)) × AllFine (heard_by following (answer_bytes answer)).next later

  abbrev pub following_on : Following → List Answer → Following
  following_on following [] = following
  following_on following (answer ∷ later) = following_on (heard_by following (answer_bytes answer)).next later

  pub answers_run : (answers : List Answer) (following : Following) (q : Progress) → q.newest ≡ Some micros → q.dialogue.channel ≡ following → AllFine following answers
      → AllRun (on_channel only) subject rows micros q (frames_on (0x580 + subject.node) answers) (λ x. x.dialogue.channel ≡ following_on following answers)
  answers_run [] following q now is h = is
  answers_run (answer ∷ later) following q now is h =
      let same : Same q (begun subject q micros) micros = begun_same subject q micros now in
      let here : (begun subject q micros).dialogue.channel ≡ following = ap (λ (d : Dialogue). d.channel) same.dialogue ∙ is in
      sdo_run q (answer_frame (answer_bytes answer)) (frames_on (0x580 + subject.node) later) Server (λ x. x.dialogue.channel ≡ following_on following (answer ∷ later))
      (answer_kind subject.node (answer_bytes answer)) (subst (λ f. IsFine (answer_frame (answer_bytes answer)) (heard_by f (answer_bytes answer))) (sym here) h.0)
      (λ x n next. answers_run later (heard_by following (answer_bytes answer)).next x n (next ∙ ap (λ f. (heard_by f (answer_bytes answer)).next) here) h.1)
