-- What is written of a recording that is compared: a line for each difference, in order; and what
-- is known of it at its end.
use Rattle.std.specs.Prelude.{ℕ, ◌+◌, ◌-◌, ◌^◌, ◌==◌, min, Bool, true, false, nat_lt, ◌&&◌, ◌||◌, if◌then◌else◌, List, [], ◌∷◌, ◌++◌, length, Option, Some, None, is_none, is_some, option_map}
use Rattle.std.specs.Option.{option_map_or}
use Rattle.std.specs.Str.{bytes_eq}
use Rattle.std.specs.Str.Lines.{lines}
use Rattle.arrayvec.specs.ArrayVec.{ArrayVec}
use Rattle.co_stream.specs.Founds.{is_closed}
use Rattle.co_sheet.specs.Content.{Row}
use Rattle.co_value.specs.declared.data_type.DataType.TheVariants.{Unsigned32}
use Rattle.co_value.specs.declared.key.Key.{Key}
use Rattle.co_sheet_changes.specs.Names.{row_at}
use Rattle.conode_explain_values.specs.declared.value_type.ValueType.{ValueType}
use Rattle.conode_explain_values.specs.declared.value_type.ValueType.TheVariants.{Plain}
use Rattle.conode_explain_values.specs.Types.{type_of}
use Rattle.conode_convert.specs.Converted.{at_start}
use Rattle.conode_explain.specs.LogLines.{line_at}
use Rattle.conode_logs.specs.declared.log.Form.{Form}
use Rattle.conode_logs.specs.declared.log.Log.{Log}
use Rattle.conode_logs.specs.Logs.{says}
use Rattle.conode_record.specs.declared.line.Record.{Record}
use Rattle.conode_record.specs.declared.line.RecordLine.{RecordLine}
use Rattle.conode_record.specs.declared.line.RecordLine.TheVariants.{Skipped, Frame}
use Rattle.conode_compare_nmt.specs.declared.finding.Finding.{Finding}
use Rattle.conode_compare_nmt.specs.declared.finding.Finding.TheVariants.{Value, Held}
use Rattle.conode_compare_values.specs.declared.mismatch.Mismatch.TheVariants.{ValueConst}
use Rattle.conode_compare_nmt.specs.declared.limits.Subject.{Subject}
use Rattle.conode_compare_rules.specs.declared.verdict.Findings.{Findings}
use Rattle.conode_compare_rules.specs.declared.verdict.Verdict.{Verdict}
use Rattle.conode_compare_notes.specs.declared.warning.Warning.{Warning}
use Rattle.conode_compare_notes.specs.declared.warning.Warning.TheVariants.{Restarted, Stored, Changed, ChangedBytes, SteppedBack, OtherRevision, OtherText, OddCode, OtherError}
use Rattle.conode_compare_rules.specs.declared.kind.FrameKind.{FrameKind}
use Rattle.conode_compare_rules.specs.declared.progress.Progress.{Progress}
use Rattle.conode_compare_receptions.specs.declared.receptions.Receptions.{Receptions}
use Rattle.conode_compare_rules.specs.FrameKinds.{kind_of}
use Rattle.conode_compare_rules.specs.Gaps.{before_recording, with_bad_line}
use Rattle.conode_compare_rules.specs.Progresses.{findings_at, is_end_judged, is_number_kept, progress_with}
use Rattle.conode_compare_receptions.specs.Receptions.{no_receptions, receptions_with, with_receptions}
use Rattle.conode_compare_text.specs.declared.details.Details.{Details}
use Rattle.conode_compare_text.specs.Beside.{came_at, no_details}
use Rattle.conode_compare_text.specs.FindingTexts.{finding_line}
use Rattle.conode_compare_transfers.specs.declared.dialogue.Exchange.{Exchange}
use Rattle.conode_compare_text.specs.Tallies.{no_frames, tally_with}
use Rattle.conode_compare_text.specs.WarningTexts.{warning_line}
use Rattle.conode_compare_report.specs.Befores.{before_at}
use Rattle.conode_compare_report.specs.declared.kind.Kind.TheVariants.{ValueHeld}
use Rattle.conode_compare_report.specs.Reports.{with_bad_line as bad_line_kept, with_finding, with_frame, with_line, with_passed}
use Rattle.conode_compare_report.specs.Views.{Kept}
use Rattle.conode_compare.specs.declared.comparing.Comparing.{Comparing}
use Rattle.conode_compare.specs.declared.notes.Noted.{Noted}
use Rattle.conode_compare.specs.BadLines.{has_no_frame, interface_in}
use Rattle.conode_compare.specs.Detailed.{asks_to_write, first_bytes, passed_at}
use Rattle.conode_compare.specs.InterfacesSeen.{interfaces_with, no_interfaces}
use Rattle.conode_compare.specs.NodesSeen.{no_nodes, nodes_with}
use Rattle.conode_compare.specs.Noted.{choice_lines, noted_at, nothing_noted, notes_with}

-- what is compared: a device, the entries of its data sheet, the codes of their original data types
-- by the line of their sections, the names that the sheet has of vendor and product, the name of the
-- recording, the interface, if it is named, and whether choices and the values of entries are noted
pub record Comparison : Type 0 where
  pub subject : Subject
  pub rows : List Row
  pub originals : ℕ → Option (List ℕ)
  pub vendor_name : Option (List ℕ)
  pub product_name : Option (List ℕ)
  pub recording : List ℕ
  pub interface : Option (List ℕ)
  pub choices : Bool
  pub learned : Bool

-- ---- lines

-- the data type of the values of an entry: its original one, where the sheet was adapted
abbrev pub type_at : Comparison → Key → ValueType
type_at c key = option_map_or (λ row. type_of (c.originals row.line) row.data_type) (row_at c.rows key) (Plain Unsigned32)

-- the data type in which the values of a difference are shown
abbrev pub shown_type : Comparison → Finding → ValueType
shown_type c (Value (ValueConst key shown held)) = type_at c key
shown_type c (Held mismatch) = type_at c mismatch.key
shown_type c finding = Plain Unsigned32

-- what the line of a difference says beside it, by what its frame is, and by what that is on its SDO channel
abbrev pub details_at : Comparison → FrameKind → Option Exchange → Finding → Details
details_at c kind exchange finding = record {
  value_type = shown_type c finding;
  came = came_at kind;
  writes = asks_to_write exchange;
  passed = passed_at c.rows (first_bytes exchange) finding;
}

-- of the difference of a frame itself; what is missing before it has nothing beside it
abbrev pub details_of : Comparison → FrameKind → Option Exchange → Option Finding → Details
details_of c kind exchange None = no_details
details_of c kind exchange (Some finding) = details_at c kind exchange finding

abbrev pub listed : Comparison → ℕ → Details → Option Finding → List (List ℕ)
listed c number details None = []
listed c number details (Some finding) = finding_line c.recording number details finding ∷ []

unfoldable pub findings_lines : Comparison → ℕ → Details → Findings → List (List ℕ)
findings_lines c number details found =
    listed c number details found.boot
    ++ (listed c number details found.heartbeat ++ (listed c number details found.answer ++ listed c number details found.frame))

-- the data type in which the values of a warning are shown
abbrev pub warned_type : Comparison → Warning → ValueType
warned_type c Restarted = Plain Unsigned32
warned_type c (Stored key shown sheet) = type_at c key
warned_type c (Changed mismatch) = type_at c mismatch.key
warned_type c (OtherRevision key shown sheet) = type_at c key
warned_type c (SteppedBack micros) = Plain Unsigned32
warned_type c (ChangedBytes key) = Plain Unsigned32
warned_type c (OtherText key) = Plain Unsigned32
warned_type c (OddCode code register) = Plain Unsigned32
warned_type c (OtherError shown signalled) = Plain Unsigned32

abbrev pub warning_lines : Comparison → ℕ → Option Warning → List (List ℕ)
warning_lines c number None = []
warning_lines c number (Some warning) = warning_line c.recording number (warned_type c warning) warning ∷ []

-- a warning, then what the device chose
unfoldable pub noted_lines : Comparison → ℕ → Noted → List (List ℕ)
noted_lines c number noted = warning_lines c number noted.warning ++ choice_lines c.recording number noted.choice

-- ---- what is kept for a document

-- a difference, if there is one
abbrev pub if_noted : ℕ → Details → Option Finding → Kept → Kept
if_noted micros details None kept = kept
if_noted micros details (Some finding) kept = with_finding kept micros details finding

-- what is found at a frame with this stamp
unfoldable pub findings_noted : ℕ → Details → Findings → Kept → Kept
findings_noted micros details found kept =
    if_noted micros details found.frame
    (if_noted micros details found.answer (if_noted micros details found.heartbeat (if_noted micros details found.boot kept)))

-- a frame with what is found at it, by what the recording shows before it
abbrev pub frame_noted : Comparison → Progress → ℕ → FrameKind → Kept → Kept
frame_noted c progress micros kind kept =
    with_frame c.rows kept micros kind (before_at kept.rpdos c.subject.facts.modular progress kind) (progress_with c.subject progress micros kind).nmt.state
    (progress_with c.subject progress micros kind).free (is_end_judged (progress_with c.subject progress micros kind)) (findings_at c.subject c.rows progress micros kind)

-- an upload of an entry that is held shows the number that was written
abbrev pub number_noted : Comparison → Progress → Kept → Kept
number_noted c after kept = if is_number_kept c.subject after then with_passed kept ValueHeld else kept

-- what the line of the frame's difference says beside it
abbrev pub details_for : Comparison → Progress → ℕ → FrameKind → Details
details_for c progress micros kind =
    details_of c kind (progress_with c.subject progress micros kind).exchange (findings_at c.subject c.rows progress micros kind).frame

-- and its differences
abbrev pub kind_noted : Comparison → Progress → ℕ → FrameKind → Kept → Kept
kind_noted c progress micros kind kept =
    findings_noted micros (details_for c progress micros kind) (findings_at c.subject c.rows progress micros kind)
    (number_noted c (progress_with c.subject progress micros kind) (frame_noted c progress micros kind kept))

-- ---- frames

-- no frame came; a document is wanted where something is kept for it
abbrev pub nothing_compared : Subject → Option Kept → Comparing
nothing_compared subject report = record {
  progress = before_recording subject;
  receptions = no_receptions;
  tally = no_frames;
  first = record { items = [] };
  several = false;
  others = no_interfaces;
  breaks = 0;
  nodes = no_nodes;
  notes = nothing_noted;
  report = report;
}

-- a frame of the interface that is compared: the one that is named, else that of the first frame
abbrev pub is_first : List ℕ → Bool
is_first first = length first == 0

abbrev pub is_compared : Option (List ℕ) → List ℕ → List ℕ → Bool
is_compared interface first name = option_map_or (λ wanted. bytes_eq wanted name) interface (is_first first || bytes_eq first name)

-- by what the frame is to the device
abbrev pub found_at : Comparison → Comparing → Record → FrameKind → Findings
found_at c so_far frame kind = findings_at c.subject c.rows so_far.progress frame.micros kind

abbrev pub progress_at : Comparison → Comparing → Record → FrameKind → Progress
progress_at c so_far frame kind = progress_with c.subject so_far.progress frame.micros kind

-- what RPDOs write to the entries that are held
abbrev pub receptions_at : Comparison → Comparing → Record → FrameKind → Receptions
receptions_at c so_far frame kind =
    receptions_with c.subject c.rows so_far.receptions (progress_at c so_far frame kind) frame.micros kind frame.id frame.content

abbrev pub noted_with : Comparison → Comparing → Record → FrameKind → Noted
noted_with c so_far frame kind = noted_at c.choices c.subject c.rows so_far.notes kind (progress_at c so_far frame kind)

-- its differences, then what is noted at it
unfoldable pub shown_lines : Comparison → ℕ → Details → Findings → Noted → List (List ℕ)
shown_lines c number details found noted = findings_lines c number details found ++ noted_lines c number noted

abbrev pub taken_lines : Comparison → ℕ → Comparing → Record → FrameKind → List (List ℕ)
taken_lines c number so_far frame kind =
    shown_lines c number (details_for c so_far.progress frame.micros kind) (found_at c so_far frame kind) (noted_with c so_far frame kind)

abbrev pub kind_at : Comparison → Record → FrameKind
kind_at c frame = kind_of c.subject.node frame.id frame.content

-- no line is written where a document is wanted
abbrev pub frame_lines : Comparison → ℕ → Comparing → Record → List (List ℕ)
frame_lines c number so_far frame =
    if is_compared c.interface so_far.first.items frame.interface && is_none so_far.report
    then taken_lines c number so_far frame (kind_at c frame) else []

abbrev pub first_with : ArrayVec ℕ → List ℕ → ArrayVec ℕ
first_with first name = if is_first first.items then record { items = name } else first

unfoldable pub frame_taken : Comparison → Comparing → Record → FrameKind → Comparing
frame_taken c so_far frame kind = record {
  progress = with_receptions c.subject (progress_at c so_far frame kind) (receptions_at c so_far frame kind);
  receptions = receptions_at c so_far frame kind;
  tally = tally_with so_far.tally kind (found_at c so_far frame kind).verdict;
  first = first_with so_far.first frame.interface;
  several = so_far.several;
  others = so_far.others;
  breaks = so_far.breaks;
  nodes = nodes_with so_far.nodes frame;
  notes = notes_with c.choices c.learned c.subject c.rows so_far.notes kind (progress_at c so_far frame kind);
  report = option_map (kind_noted c so_far.progress frame.micros kind) so_far.report;
}

-- the same, once its progress is known, and what is kept of it for a document; with this verdict
abbrev pub frame_noted_by : Comparison → Comparing → Record → FrameKind → Option Verdict → Comparing
frame_noted_by c so_far frame kind verdict =
    let received = receptions_with c.subject c.rows so_far.receptions so_far.progress frame.micros kind frame.id frame.content in
    record so_far {
      progress = with_receptions c.subject so_far.progress received;
      receptions = received;
      tally = tally_with so_far.tally kind verdict;
      first = first_with so_far.first frame.interface;
      nodes = nodes_with so_far.nodes frame;
      notes = notes_with c.choices c.learned c.subject c.rows so_far.notes kind so_far.progress;
    }

-- a frame of another one, of this name: where none is named, there are several
abbrev pub other_seen : Option (List ℕ) → List ℕ → Comparing → Comparing
other_seen interface name so_far = record so_far { several = so_far.several || is_none interface; others = interfaces_with so_far.others name }

abbrev pub frame_with : Comparison → Comparing → Record → Comparing
frame_with c so_far frame =
    if is_compared c.interface so_far.first.items frame.interface then frame_taken c so_far frame (kind_at c frame)
    else other_seen c.interface frame.interface so_far

-- ---- lines of the recording

-- what is kept of a line
abbrev pub line_noted : Comparing → List ℕ → Comparing
line_noted so_far line = record so_far { report = option_map (λ kept. with_line kept line) so_far.report }

-- a bad one is counted
abbrev pub bad_counted : Comparing → Comparing
bad_counted so_far = record so_far { report = option_map bad_line_kept so_far.report }

-- one more break, up to 2^64 - 1, where a frame came since the last one
abbrev pub breaks_with : Progress → ℕ → ℕ
breaks_with progress breaks = if is_some progress.newest then min (breaks + 1) (2 ^ 64 - 1) else breaks

-- which frame it had is unknown
abbrev pub bad_noted : Comparing → Comparing
bad_noted so_far = bad_counted (record so_far { progress = with_bad_line so_far.progress; breaks = breaks_with so_far.progress so_far.breaks })

-- of the interface that is compared, or of any where that can't be read
abbrev pub may_be_compared : Option (List ℕ) → List ℕ → Option (List ℕ) → Bool
may_be_compared interface first name = option_map_or (is_compared interface first) name true

-- a bad line of at most 512 bytes may have had a frame that is compared, unless it is a comment or of blanks, or names
-- another interface
abbrev pub may_have_frame : Option (List ℕ) → List ℕ → List ℕ → Bool
may_have_frame interface first line = if has_no_frame line then false else may_be_compared interface first (interface_in line)

abbrev pub bad_with : Comparison → Comparing → List ℕ → Comparing
bad_with c so_far line = if may_have_frame c.interface so_far.first.items line then bad_noted so_far else bad_counted so_far

-- how often the recording began anew after bad lines, by the newest frame: not after the last ones, where none came since
abbrev pub begun_anew : Option ℕ → ℕ → ℕ
begun_anew newest breaks = if is_none newest then breaks - 1 else breaks

-- nothing but its number is kept of a line of more than 512 bytes
abbrev pub long_noted : Comparing → Comparing
long_noted so_far = bad_noted (line_noted so_far [])

-- how far a recording is compared
pub record SoFar : Type 0 where
  pub log : Log
  pub comparing : Comparing

abbrev pub said_lines : Comparison → ℕ → Comparing → Option RecordLine → List (List ℕ)
said_lines c number so_far (Some (Frame frame)) = frame_lines c number so_far frame
said_lines c number so_far (Some Skipped) = []
said_lines c number so_far None = []

-- of a line that says this
abbrev pub said_with : Comparison → Comparing → List ℕ → Option RecordLine → Comparing
said_with c so_far line (Some (Frame frame)) = frame_with c so_far frame
said_with c so_far line (Some Skipped) = so_far
said_with c so_far line None = bad_with c so_far line

-- one of more than 512 bytes says nothing
abbrev pub line_lines : Comparison → ℕ → SoFar → List ℕ → List (List ℕ)
line_lines c number so_far line =
    if nat_lt 512 (length line) then [] else said_lines c number (line_noted so_far.comparing line) (line_at so_far.log line)

abbrev pub line_with : Comparison → SoFar → List ℕ → SoFar
line_with c so_far line =
    if nat_lt 512 (length line) then record so_far { comparing = long_noted so_far.comparing }
    else record { log = (says so_far.log line).0; comparing = said_with c (line_noted so_far.comparing line) line (line_at so_far.log line) }

-- The last line counts only where it has its line feed, since whoever stops a recording cuts it off
-- there; one that is too long is bad either way.
abbrev pub counts : Bool → List ℕ → Bool
counts closed line = closed || nat_lt 512 (length line)

-- lines from this number on
unfoldable pub compared_from : Comparison → Bool → ℕ → SoFar → List (List ℕ) → List (List ℕ)
compared_from c closed number so_far [] = []
compared_from c closed number so_far (line ∷ []) = if counts closed line then line_lines c number so_far line else []
compared_from c closed number so_far (line ∷ next ∷ more) =
    line_lines c number so_far line ++ compared_from c closed (number + 1) (line_with c so_far line) (next ∷ more)

unfoldable pub so_far_after : Comparison → Bool → SoFar → List (List ℕ) → SoFar
so_far_after c closed so_far [] = so_far
so_far_after c closed so_far (line ∷ []) = if counts closed line then line_with c so_far line else so_far
so_far_after c closed so_far (line ∷ next ∷ more) = so_far_after c closed (line_with c so_far line) (next ∷ more)

abbrev pub at_first : Comparison → Form → Option Kept → SoFar
at_first c form report = record { log = at_start form; comparing = nothing_compared c.subject report }

-- a recording compared: its lines of differences, none where a document is wanted; and what is known
-- at its end, with what is kept for the document
abbrev pub compared : Comparison → Form → Option Kept → List ℕ → List (List ℕ)
compared c form report text = compared_from c (is_closed text) 1 (at_first c form report) (lines text)

abbrev pub comparing_after : Comparison → Form → Option Kept → List ℕ → Comparing
comparing_after c form report text = (so_far_after c (is_closed text) (at_first c form report) (lines text)).comparing
