-- A recording as its frames: which of its lines are frames that are compared, and what is found and noted at each, one after another.
use Rattle.std.specs.Prelude.{◌≡◌, ⊤, ℕ, ◌+◌, nat_lt, Bool, if◌then◌else◌, List, [], ◌∷◌, ◌++◌, length, Option, Some, None, IfSome}
use Rattle.std.specs.List.{AllByRecursion, flat_map}
use Rattle.std.specs.Str.Lines.{lines}
use Rattle.arrayvec.specs.ArrayVec.{ArrayVec}
use Rattle.co_sheet.specs.Content.{Row}
use Rattle.co_stream.specs.Founds.{is_closed}
use Rattle.conode_convert.specs.Converted.{at_start, log_after}
use Rattle.conode_explain.specs.LogLines.{line_at}
use Rattle.conode_logs.specs.declared.log.Form.{Form}
use Rattle.conode_logs.specs.declared.log.Log.{Log}
use Rattle.conode_record.specs.declared.line.Record.{Record}
use Rattle.conode_record.specs.declared.line.RecordLine.{RecordLine}
use Rattle.conode_record.specs.declared.line.RecordLine.TheVariants.{Skipped, Frame}
use Rattle.conode_compare_nmt.specs.declared.finding.Finding.{Finding}
use Rattle.conode_compare_rules.specs.declared.kind.FrameKind.{FrameKind}
use Rattle.conode_compare_nmt.specs.declared.limits.Subject.{Subject}
use Rattle.conode_compare_rules.specs.declared.progress.Progress.{Progress}
use Rattle.conode_compare_rules.specs.declared.verdict.Findings.{Findings}
use Rattle.conode_compare_rules.specs.Gaps.{before_recording, with_bad_line}
use Rattle.conode_compare_rules.specs.Progresses.{findings_at, progress_with}
use Rattle.conode_compare_receptions.specs.declared.receptions.Receptions.{Receptions}
use Rattle.conode_compare_receptions.specs.AllFrames.{kind_at as what_is, progress_after, receptions_after}
use Rattle.conode_compare_receptions.specs.Receptions.{no_receptions}
use Rattle.conode_compare_text.specs.declared.details.Details.{Details}
use Rattle.conode_compare_text.specs.declared.tally.Tally.{Tally}
use Rattle.conode_compare_text.specs.Tallies.{tally_with}
use Rattle.conode_compare.specs.declared.notes.Noted.{Noted}
use Rattle.conode_compare.specs.declared.notes.Notes.{Notes}
use Rattle.conode_compare.specs.BadLines.{has_no_frame, interface_in}
use Rattle.conode_compare.specs.Compared.{Comparison, counts, details_for, first_with, is_compared, kind_at, may_be_compared, shown_lines}
use Rattle.conode_compare.specs.Noted.{noted_at, nothing_noted, notes_with}

-- ---- which frames

-- what is read of a line
pub data LineRead : Type 0 where
  -- a frame, in the line with this number
  FrameIn : ℕ → Record → LineRead
  -- it is bad: which frame it had is unknown, but its interface, where that can be read
  BadLine : Option (List ℕ) → LineRead

-- of a bad line
abbrev pub read_of_bad : List ℕ → List LineRead
read_of_bad line = if has_no_frame line then [] else BadLine (interface_in line) ∷ []

-- of a line that says this
abbrev pub read_of_said : ℕ → List ℕ → Option RecordLine → List LineRead
read_of_said number line (Some (Frame frame)) = FrameIn number frame ∷ []
read_of_said number line (Some Skipped) = []
read_of_said number line None = read_of_bad line

-- of a line; one of more than 512 bytes is bad
abbrev pub read_of_line : ℕ → Log → List ℕ → List LineRead
read_of_line number log line = if nat_lt 512 (length line) then BadLine None ∷ [] else read_of_said number line (line_at log line)

-- of lines from this number on; the last one counts only where it has its line feed
unfoldable pub read_of_lines : Bool → ℕ → Log → List (List ℕ) → List LineRead
read_of_lines closed number log [] = []
read_of_lines closed number log (line ∷ []) = if counts closed line then read_of_line number log line else []
read_of_lines closed number log (line ∷ next ∷ more) = read_of_line number log line ++ read_of_lines closed (number + 1) (log_after log line) (next ∷ more)

-- of all lines of a text
abbrev pub read_of_text : Form → List ℕ → List LineRead
read_of_text form text = read_of_lines (is_closed text) 1 (at_start form) (lines text)

-- of these the frames that are compared, of the interface that is named, else of that of the first
-- frame; and the bad lines that may have had one of them
abbrev pub chosen_frames : Option (List ℕ) → ArrayVec ℕ → List LineRead → List LineRead
chosen_frames interface first [] = []
chosen_frames interface first (FrameIn number frame ∷ later) =
    if is_compared interface first.items frame.interface then FrameIn number frame ∷ chosen_frames interface (first_with first frame.interface) later
    else chosen_frames interface first later
chosen_frames interface first (BadLine name ∷ later) =
    if may_be_compared interface first.items name then BadLine name ∷ chosen_frames interface first later
    else chosen_frames interface first later

abbrev pub compared_frames : Option (List ℕ) → Form → List ℕ → List LineRead
compared_frames interface form text = chosen_frames interface (record { items = [] }) (read_of_text form text)

-- the frames alone
abbrev pub records_of : List LineRead → List Record
records_of [] = []
records_of (FrameIn number frame ∷ later) = frame ∷ records_of later
records_of (BadLine name ∷ later) = records_of later

abbrev pub IsBad : LineRead → Type 0
IsBad (FrameIn number frame) = ⊥
IsBad (BadLine name) = ⊤

-- after the first frame: no frame follows a bad line
abbrev pub EndsWhole : List LineRead → Type 0
EndsWhole [] = ⊤
EndsWhole (FrameIn number frame ∷ later) = EndsWhole later
EndsWhole (BadLine name ∷ later) = AllByRecursion IsBad later

-- no bad line has a frame before it and one after it
abbrev pub IsWhole : List LineRead → Type 0
IsWhole [] = ⊤
IsWhole (FrameIn number frame ∷ later) = EndsWhole later
IsWhole (BadLine name ∷ later) = IsWhole later

-- all frames are of this interface, and no bad line names another one
abbrev pub IsOn : List ℕ → LineRead → Type 0
IsOn name (FrameIn number frame) = frame.interface ≡ name
IsOn name (BadLine named) = IfSome named (λ other. other ≡ name)

abbrev pub AreAllOn : List ℕ → List LineRead → Type 0
AreAllOn name lines = AllByRecursion (IsOn name) lines

-- ---- what is found at them

-- a frame in the line with this number, by what it is to the device, with what is found and noted at it, and what
-- the line of its difference says beside it
pub record FrameShown : Type 0 where
  pub number : ℕ
  pub kind : FrameKind
  pub found : Findings
  pub noted : Noted
  pub details : Details

-- where so much is known before them; with the first one after a bad line the recording begins anew
abbrev pub shown_from : Comparison → Progress → Receptions → Notes → List LineRead → List FrameShown
shown_from c progress receptions notes [] = []
shown_from c progress receptions notes (FrameIn number frame ∷ later) =
    record {
      number = number;
      kind = kind_at c frame;
      found = findings_at c.subject c.rows progress frame.micros (kind_at c frame);
      noted = noted_at c.choices c.subject c.rows notes (kind_at c frame) (progress_with c.subject progress frame.micros (kind_at c frame));
      details = details_for c progress frame.micros (kind_at c frame);
    }
    ∷ shown_from c (progress_after c.subject c.rows progress receptions frame) (receptions_after c.subject c.rows progress receptions frame)
    (notes_with c.choices c.learned c.subject c.rows notes (kind_at c frame) (progress_with c.subject progress frame.micros (kind_at c frame))) later
shown_from c progress receptions notes (BadLine name ∷ later) = shown_from c (with_bad_line progress) receptions notes later

-- of a text
abbrev pub shown_in : Comparison → Form → List ℕ → List FrameShown
shown_in c form text = shown_from c (before_recording c.subject) no_receptions nothing_noted (compared_frames c.interface form text)

-- the lines of their differences, warnings and choices
abbrev pub lines_shown : Comparison → List FrameShown → List (List ℕ)
lines_shown c shown = flat_map (λ s. shown_lines c s.number s.details s.found s.noted) shown

-- of what is found at each these
abbrev pub picked : (FrameKind → Findings → List Finding) → List FrameShown → List Finding
picked these shown = flat_map (λ s. these s.kind s.found) shown

-- how many have which verdict, with those before
abbrev pub tally_of : Tally → List FrameShown → Tally
tally_of tally [] = tally
tally_of tally (s ∷ later) = tally_of (tally_with tally s.kind s.found.verdict) later

-- ---- what the program finds

-- As `program_from` of conode_compare_receptions has it of frames, of lines: with the first frame after a bad line the
-- recording begins anew.
abbrev pub program_from_lines : (FrameKind → Findings → List Finding) → Subject → List Row → Progress → Receptions → List LineRead → List Finding
program_from_lines these subject rows progress receptions [] = []
program_from_lines these subject rows progress receptions (FrameIn number frame ∷ later) =
    these (what_is subject frame) (findings_at subject rows progress frame.micros (what_is subject frame))
    ++ program_from_lines these subject rows (progress_after subject rows progress receptions frame) (receptions_after subject rows progress receptions frame) later
program_from_lines these subject rows progress receptions (BadLine name ∷ later) = program_from_lines these subject rows (with_bad_line progress) receptions later

-- over all lines of a recording
abbrev pub program_over_lines : (FrameKind → Findings → List Finding) → Subject → List Row → List LineRead → List Finding
program_over_lines these subject rows lines = program_from_lines these subject rows (before_recording subject) no_receptions lines
