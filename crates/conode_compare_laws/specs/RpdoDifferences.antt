-- What the program finds in a recording (`program_over` of conode_compare_receptions), where nothing is looked at between two frames, and
-- which differences what RPDOs write to the entries that `--held` names doesn't change.
use Rattle.std.specs.Prelude.{◌≡◌, Bool, List, [], ◌∷◌, ◌++◌, Option, Some, None}
use Rattle.std.specs.Option.{option_to_list}
use Rattle.co_frame.specs.FrameContent.{FrameContent}
use Rattle.co_sheet.specs.Content.{Row}
use Rattle.conode_explain_transfers.specs.declared.kinds.Side.{Side}
use Rattle.conode_record.specs.declared.content.Content.TheVariants.{Data}
use Rattle.conode_record.specs.declared.fields.Identifier.TheVariants.{Base}
use Rattle.conode_record.specs.declared.line.Record.{Record}
use Rattle.conode_compare_pdos.specs.declared.deviation.Deviation.{Deviation}
use Rattle.conode_compare_nmt.specs.declared.finding.Finding.{Finding}
use Rattle.conode_compare_nmt.specs.declared.finding.Finding.TheVariants.{Held}
use Rattle.conode_compare_rules.specs.declared.kind.FrameKind.{FrameKind}
use Rattle.conode_compare_rules.specs.declared.kind.FrameKind.TheVariants.{Sdo}
use Rattle.conode_compare_nmt.specs.declared.limits.Subject.{Subject}
use Rattle.conode_compare_rules.specs.declared.progress.Progress.{Progress}
use Rattle.conode_compare_rules.specs.declared.verdict.Findings.{Findings}
use Rattle.conode_compare_rules.specs.Gaps.{before_recording}
use Rattle.conode_compare_rules.specs.Progresses.{findings_at, progress_with}
use Rattle.conode_compare_receptions.specs.AllFrames.{kind_at}
use Rattle.conode_compare_laws.specs.AnswerFindings.{answer_differences, data_differences, timeout_differences, toggle_differences, transfer_differences}
use Rattle.conode_compare_laws.specs.Differences.{emergency_differences, inhibit_differences, late_differences, state_differences}
use Rattle.conode_compare_laws.specs.Recordings.{Recorded}
use Rattle.conode_compare_laws.specs.TpdoDifferences.{tpdo_differences}

-- of what is found at each frame these, in their order, as `differences_from` of Differences, where
-- nothing is looked at between two frames
abbrev pub findings_from : (FrameKind → Findings → List Finding) → Subject → List Row → Progress → List Record → List Finding
findings_from these subject rows progress [] = []
findings_from these subject rows progress (r ∷ later) =
    these (kind_at subject r) (findings_at subject rows progress r.micros (kind_at subject r))
    ++ findings_from these subject rows (progress_with subject progress r.micros (kind_at subject r)) later

-- over a whole recording
abbrev pub findings_over : (FrameKind → Findings → List Finding) → Subject → List Row → List Record → List Finding
findings_over these subject rows frames = findings_from these subject rows (before_recording subject) frames

-- a data frame as the program reads it of a line
abbrev pub as_read : Recorded → Record
as_read r = record { micros = r.micros; interface = []; id = Base r.frame.id; content = Data r.frame.bytes; direction = None }

-- a frame that the program reads of a line is this data frame, on whatever interface, and whether it
-- was received or sent
pub record IsReadAs (r : Record) (of : Recorded) : Type 0 where
  pub micros : r.micros ≡ of.micros
  pub id : r.id ≡ Base of.frame.id
  pub content : r.content ≡ Data of.frame.bytes

-- so each of these
abbrev pub AreReadAs : List Record → List Recorded → Type 0
AreReadAs [] [] = Unit {0}
AreReadAs [] (of ∷ later) = ⊥
AreReadAs (r ∷ more) [] = ⊥
AreReadAs (r ∷ more) (of ∷ later) = IsReadAs r of × AreReadAs more later

-- ---- which differences don't depend on it

-- a difference other than `value-held`
abbrev pub besides_held : Option Finding → Option Finding
besides_held None = None
besides_held (Some (Held mismatch)) = None
besides_held (Some finding) = Some finding

-- what is found at a frame, without `value-held` and the verdict, which counts that
abbrev pub without_held : Findings → Findings
without_held found = record found { frame = besides_held found.frame; verdict = None }

-- of what is found at a frame of the SDO channel, the only ones with `value-held`, that isn't picked
abbrev pub PicksNoHeld : (FrameKind → Findings → List Finding) → Type 0
PicksNoHeld these =
    (side : Side) (frame : FrameContent) (found : Findings) → these (Sdo side frame) found ≡ these (Sdo side frame) (without_held found)

-- all differences other than `value-held`
abbrev pub all_besides_held : FrameKind → Findings → List Finding
all_besides_held kind found =
    option_to_list found.boot ++ (option_to_list found.heartbeat ++ (option_to_list found.answer ++ option_to_list (besides_held found.frame)))

-- the differences that the laws of this crate are about
pub record LawsPickNoHeld : Type 0 where
  pub states : PicksNoHeld state_differences
  pub emergencies : PicksNoHeld emergency_differences
  pub inhibits : PicksNoHeld inhibit_differences
  pub lates : PicksNoHeld late_differences
  pub tpdos : (is : Deviation → Bool) → PicksNoHeld (tpdo_differences is)
  pub answers : PicksNoHeld answer_differences
  pub transfers : PicksNoHeld transfer_differences
  pub uploads : PicksNoHeld data_differences
  pub toggles : PicksNoHeld toggle_differences
  pub timeouts : PicksNoHeld timeout_differences
