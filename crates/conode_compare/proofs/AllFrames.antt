-- A recording is compared frame by frame: over its lines, what is written and counted is what is found at the frames that they say.
use Rattle.std.proofs.Common.{◌≡◌, ℕ, ◌+◌, Bool, true, false, List, [], ◌∷◌, ◌++◌, length, Option, None, Some, refl, sym, ap, ◌∙◌, append-nil}
use Rattle.std.specs.Prelude.{◌&&◌, ◌||◌, if◌then◌else◌, is_none, nat_lt, option_map, IfSome}
use Rattle.std.specs.List.{AllByRecursion}
use Rattle.std.specs.Str.{bytes_eq}
use Rattle.std.specs.Str.Lines.{lines}
use Rattle.std.proofs.lemmas.Bool.{false≢true}
use Rattle.std.proofs.lemmas.Slice.Eq.{bytes_eq-Decides}
use Rattle.arrayvec.specs.ArrayVec.{ArrayVec}
use Rattle.co_sheet.specs.Content.{Row}
use Rattle.co_stream.specs.Founds.{is_closed}
use Rattle.conode_convert.specs.Converted.{log_after}
use Rattle.conode_explain.specs.LogLines.{line_at}
use Rattle.conode_logs.specs.declared.log.Form.{Form}
use Rattle.conode_logs.specs.declared.log.Log.{Log}
use Rattle.conode_logs.specs.Logs.{says}
use Rattle.conode_record.specs.declared.line.Record.{Record}
use Rattle.conode_record.specs.declared.line.RecordLine.{RecordLine}
use Rattle.conode_record.specs.declared.line.RecordLine.TheVariants.{Skipped, Frame}
use Rattle.conode_compare_report.specs.Reports.{with_bad_line as bad_line_kept, with_line}
use Rattle.conode_compare_report.specs.Views.{Kept}
use Rattle.conode_compare_nmt.specs.declared.finding.Finding.{Finding}
use Rattle.conode_compare_rules.specs.declared.kind.FrameKind.{FrameKind}
use Rattle.conode_compare_nmt.specs.declared.limits.Subject.{Subject}
use Rattle.conode_compare_rules.specs.declared.progress.Progress.{Progress}
use Rattle.conode_compare_rules.specs.declared.verdict.Findings.{Findings}
use Rattle.conode_compare_rules.specs.Gaps.{before_recording, with_bad_line}
use Rattle.conode_compare_rules.specs.Progresses.{findings_at, progress_with}
use Rattle.conode_compare_receptions.specs.declared.receptions.Receptions.{Receptions}
use Rattle.conode_compare_receptions.specs.AllFrames.{kind_at as what_is, program_from, program_over, progress_after, receptions_after}
use Rattle.conode_compare_receptions.specs.Receptions.{no_receptions}
use Rattle.conode_compare_text.specs.declared.tally.Tally.{Tally}
use Rattle.conode_compare_text.specs.Tallies.{no_frames}
use Rattle.conode_compare.specs.declared.comparing.Comparing.{Comparing}
use Rattle.conode_compare.specs.declared.notes.Notes.{Notes}
use Rattle.conode_compare.specs.BadLines.{has_no_frame, interface_in}
use Rattle.conode_compare.specs.Compared.{
  Comparison,
  SoFar,
  at_first,
  bad_counted,
  bad_noted,
  bad_with,
  compared,
  compared_from,
  comparing_after,
  counts,
  first_with,
  frame_lines,
  frame_taken,
  frame_with,
  is_compared,
  is_first,
  kind_at,
  kind_noted,
  line_lines,
  line_noted,
  line_with,
  long_noted,
  may_be_compared,
  other_seen,
  said_lines,
  said_with,
  so_far_after,
  taken_lines,
}
use Rattle.conode_compare.specs.ComparedFrames.{AreAllOn, BadLine, EndsWhole, FrameIn, IsBad, IsWhole, LineRead, chosen_frames, compared_frames, lines_shown, picked, program_from_lines, program_over_lines, read_of_bad, read_of_line, read_of_lines, read_of_said, read_of_text, records_of, shown_from, shown_in, tally_of}
use Rattle.conode_compare.specs.Noted.{nothing_noted, notes_with}

module _ (c : Comparison) where
  -- ---- what is written, where nothing is kept for a document

  -- at these frames, where so much is known
  abbrev lines_after : Comparing → List LineRead → List (List ℕ)
  lines_after so_far frames = lines_shown c (shown_from c so_far.progress so_far.receptions so_far.notes (chosen_frames c.interface so_far.first frames))

  frame_written : (number : ℕ) (so_far : Comparing) (frame : Record) (rest : List LineRead) (more : Comparing → List (List ℕ)) → so_far.report ≡ None
      → ((after : Comparing) → after.report ≡ None → more after ≡ lines_after after rest)
      → frame_lines c number so_far frame ++ more (frame_with c so_far frame) ≡ lines_after so_far (FrameIn number frame ∷ rest)
  unfolding frame_taken
  frame_written number so_far frame rest more silent h = by (is_compared c.interface so_far.first.items frame.interface)
    where
      by : (b : Bool)
          → (if b && is_none so_far.report then taken_lines c number so_far frame (kind_at c frame) else []) ++ more (if b then frame_taken c so_far frame (kind_at c frame) else other_seen c.interface frame.interface so_far)
          ≡ lines_shown c (shown_from c so_far.progress so_far.receptions so_far.notes
          (if b then FrameIn number frame ∷ chosen_frames c.interface (first_with so_far.first frame.interface) rest else chosen_frames c.interface so_far.first rest))
      by true =
          ap (λ (none : Bool). (if none then taken_lines c number so_far frame (kind_at c frame) else []) ++ more (frame_taken c so_far frame (kind_at c frame))) (ap is_none silent)
          ∙ ap (λ (l : List (List ℕ)). taken_lines c number so_far frame (kind_at c frame) ++ l)
          (h (frame_taken c so_far frame (kind_at c frame)) (ap (option_map (kind_noted c so_far.progress frame.micros (kind_at c frame))) silent))
      by false = h (other_seen c.interface frame.interface so_far) silent

  named_written : (so_far : Comparing) (name : Option (List ℕ)) (rest : List LineRead) (more : Comparing → List (List ℕ)) → so_far.report ≡ None
      → ((after : Comparing) → after.report ≡ None → more after ≡ lines_after after rest)
      → more (if may_be_compared c.interface so_far.first.items name then bad_noted so_far else bad_counted so_far) ≡ lines_after so_far (BadLine name ∷ rest)
  named_written so_far name rest more silent h = by (may_be_compared c.interface so_far.first.items name)
    where
      by : (b : Bool) → more (if b then bad_noted so_far else bad_counted so_far)
          ≡ lines_shown c (shown_from c so_far.progress so_far.receptions so_far.notes
          (if b then BadLine name ∷ chosen_frames c.interface so_far.first rest else chosen_frames c.interface so_far.first rest))
      by true = h (bad_noted so_far) (ap (option_map bad_line_kept) silent)
      by false = h (bad_counted so_far) (ap (option_map bad_line_kept) silent)

  bad_written : (so_far : Comparing) (line : List ℕ) (rest : List LineRead) (more : Comparing → List (List ℕ)) → so_far.report ≡ None
      → ((after : Comparing) → after.report ≡ None → more after ≡ lines_after after rest)
      → more (bad_with c so_far line) ≡ lines_after so_far (read_of_bad line ++ rest)
  bad_written so_far line rest more silent h = by (has_no_frame line)
    where
      by : (b : Bool) → more (if (if b then false else may_be_compared c.interface so_far.first.items (interface_in line)) then bad_noted so_far else bad_counted so_far) ≡ lines_after so_far ((if b then [] else BadLine (interface_in line) ∷ []) ++ rest)
      by true = h (bad_counted so_far) (ap (option_map bad_line_kept) silent)
      by false = named_written so_far (interface_in line) rest more silent h

  said_written : (number : ℕ) (so_far : Comparing) (line : List ℕ) (said : Option RecordLine) (rest : List LineRead) (more : Comparing → List (List ℕ)) → so_far.report ≡ None
      → ((after : Comparing) → after.report ≡ None → more after ≡ lines_after after rest)
      → said_lines c number so_far said ++ more (said_with c so_far line said) ≡ lines_after so_far (read_of_said number line said ++ rest)
  said_written number so_far line (Some (Frame frame)) rest more silent h = frame_written number so_far frame rest more silent h
  said_written number so_far line (Some Skipped) rest more silent h = h so_far silent
  said_written number so_far line None rest more silent h = bad_written so_far line rest more silent h

  line_written : (number : ℕ) (s : SoFar) (line : List ℕ) (rest : Log → List LineRead) (more : SoFar → List (List ℕ)) → s.comparing.report ≡ None
      → ((after : SoFar) → after.comparing.report ≡ None → more after ≡ lines_after after.comparing (rest after.log))
      → line_lines c number s line ++ more (line_with c s line) ≡ lines_after s.comparing (read_of_line number s.log line ++ rest (log_after s.log line))
  line_written number s line rest more silent h = by (nat_lt 512 (length line))
    where
      by : (long : Bool)
          → (if long then [] else said_lines c number (line_noted s.comparing line) (line_at s.log line))
          ++ more (if long then record s { comparing = long_noted s.comparing } else record { log = (says s.log line).0; comparing = said_with c (line_noted s.comparing line) line (line_at s.log line) })
          ≡ lines_after s.comparing ((if long then BadLine None ∷ [] else read_of_said number line (line_at s.log line)) ++ rest (if long then s.log else (says s.log line).0))
      by true = h (record s { comparing = long_noted s.comparing }) (ap (λ (r : Option Kept). option_map bad_line_kept (option_map (λ kept. with_line kept []) r)) silent)
      by false =
          said_written number (line_noted s.comparing line) line (line_at s.log line) (rest (says s.log line).0) (λ after. more (record { log = (says s.log line).0; comparing = after })) (ap (option_map (λ kept. with_line kept line)) silent)
          (λ after quiet. h (record { log = (says s.log line).0; comparing = after }) quiet)

  all_written : (closed : Bool) (number : ℕ) (s : SoFar) (ls : List (List ℕ)) → s.comparing.report ≡ None → compared_from c closed number s ls ≡ lines_after s.comparing (read_of_lines closed number s.log ls)
  unfolding compared_from read_of_lines
  all_written closed number s [] silent = refl
  all_written closed number s (line ∷ []) silent = by (counts closed line)
    where
      by : (b : Bool) → (if b then line_lines c number s line else []) ≡ lines_after s.comparing (if b then read_of_line number s.log line else [])
      by true =
          sym (append-nil (line_lines c number s line)) ∙ line_written number s line (λ log. []) (λ after. []) silent (λ after quiet. refl)
          ∙ ap (lines_after s.comparing) (append-nil (read_of_line number s.log line))
      by false = refl
  all_written closed number s (line ∷ next ∷ more) silent =
      line_written number s line (λ log. read_of_lines closed (number + 1) log (next ∷ more)) (λ after. compared_from c closed (number + 1) after (next ∷ more)) silent
      (λ after quiet. all_written closed (number + 1) after (next ∷ more) quiet)

  -- ---- how many frames have which verdict

  abbrev tally_after : Comparing → List LineRead → Tally
  tally_after so_far frames = tally_of so_far.tally (shown_from c so_far.progress so_far.receptions so_far.notes (chosen_frames c.interface so_far.first frames))

  frame_counted : (number : ℕ) (so_far : Comparing) (frame : Record) (rest : List LineRead) (more : Comparing → Tally) → ((after : Comparing) → more after ≡ tally_after after rest)
      → more (frame_with c so_far frame) ≡ tally_after so_far (FrameIn number frame ∷ rest)
  unfolding frame_taken
  frame_counted number so_far frame rest more h = by (is_compared c.interface so_far.first.items frame.interface)
    where
      by : (b : Bool)
          → more (if b then frame_taken c so_far frame (kind_at c frame) else other_seen c.interface frame.interface so_far)
          ≡ tally_of so_far.tally (shown_from c so_far.progress so_far.receptions so_far.notes
          (if b then FrameIn number frame ∷ chosen_frames c.interface (first_with so_far.first frame.interface) rest else chosen_frames c.interface so_far.first rest))
      by true = h (frame_taken c so_far frame (kind_at c frame))
      by false = h (other_seen c.interface frame.interface so_far)

  named_counted : (so_far : Comparing) (name : Option (List ℕ)) (rest : List LineRead) (more : Comparing → Tally) → ((after : Comparing) → more after ≡ tally_after after rest)
      → more (if may_be_compared c.interface so_far.first.items name then bad_noted so_far else bad_counted so_far) ≡ tally_after so_far (BadLine name ∷ rest)
  named_counted so_far name rest more h = by (may_be_compared c.interface so_far.first.items name)
    where
      by : (b : Bool) → more (if b then bad_noted so_far else bad_counted so_far)
          ≡ tally_of so_far.tally (shown_from c so_far.progress so_far.receptions so_far.notes
          (if b then BadLine name ∷ chosen_frames c.interface so_far.first rest else chosen_frames c.interface so_far.first rest))
      by true = h (bad_noted so_far)
      by false = h (bad_counted so_far)

  bad_line_counted : (so_far : Comparing) (line : List ℕ) (rest : List LineRead) (more : Comparing → Tally) → ((after : Comparing) → more after ≡ tally_after after rest)
      → more (bad_with c so_far line) ≡ tally_after so_far (read_of_bad line ++ rest)
  bad_line_counted so_far line rest more h = by (has_no_frame line)
    where
      by : (b : Bool) → more (if (if b then false else may_be_compared c.interface so_far.first.items (interface_in line)) then bad_noted so_far else bad_counted so_far) ≡ tally_after so_far ((if b then [] else BadLine (interface_in line) ∷ []) ++ rest)
      by true = h (bad_counted so_far)
      by false = named_counted so_far (interface_in line) rest more h

  said_counted : (number : ℕ) (so_far : Comparing) (line : List ℕ) (said : Option RecordLine) (rest : List LineRead) (more : Comparing → Tally) → ((after : Comparing) → more after ≡ tally_after after rest)
      → more (said_with c so_far line said) ≡ tally_after so_far (read_of_said number line said ++ rest)
  said_counted number so_far line (Some (Frame frame)) rest more h = frame_counted number so_far frame rest more h
  said_counted number so_far line (Some Skipped) rest more h = h so_far
  said_counted number so_far line None rest more h = bad_line_counted so_far line rest more h

  line_counted : (number : ℕ) (s : SoFar) (line : List ℕ) (rest : Log → List LineRead) (more : SoFar → Tally) → ((after : SoFar) → more after ≡ tally_after after.comparing (rest after.log))
      → more (line_with c s line) ≡ tally_after s.comparing (read_of_line number s.log line ++ rest (log_after s.log line))
  line_counted number s line rest more h = by (nat_lt 512 (length line))
    where
      by : (long : Bool)
          → more (if long then record s { comparing = long_noted s.comparing } else record { log = (says s.log line).0; comparing = said_with c (line_noted s.comparing line) line (line_at s.log line) })
          ≡ tally_after s.comparing ((if long then BadLine None ∷ [] else read_of_said number line (line_at s.log line)) ++ rest (if long then s.log else (says s.log line).0))
      by true = h (record s { comparing = long_noted s.comparing })
      by false = said_counted number (line_noted s.comparing line) line (line_at s.log line) (rest (says s.log line).0) (λ after. more (record { log = (says s.log line).0; comparing = after })) (λ after. h (record { log = (says s.log line).0; comparing = after }))

  all_counted : (closed : Bool) (number : ℕ) (s : SoFar) (ls : List (List ℕ)) → (so_far_after c closed s ls).comparing.tally ≡ tally_after s.comparing (read_of_lines closed number s.log ls)
  unfolding so_far_after read_of_lines
  all_counted closed number s [] = refl
  all_counted closed number s (line ∷ []) = by (counts closed line)
    where
      by : (b : Bool) → (if b then line_with c s line else s).comparing.tally ≡ tally_after s.comparing (if b then read_of_line number s.log line else [])
      by true = line_counted number s line (λ log. []) (λ after. after.comparing.tally) (λ after. refl) ∙ ap (tally_after s.comparing) (append-nil (read_of_line number s.log line))
      by false = refl
  all_counted closed number s (line ∷ next ∷ more) =
      line_counted number s line (λ log. read_of_lines closed (number + 1) log (next ∷ more)) (λ after. (so_far_after c closed after (next ∷ more)).comparing.tally)
      (λ after. all_counted closed (number + 1) after (next ∷ more))

-- ---- of a text

pub lines_are : (c : Comparison) (form : Form) (text : List ℕ) → compared c form None text ≡ lines_shown c (shown_in c form text)
lines_are c form text = all_written c (is_closed text) 1 (at_first c form None) (lines text) refl

pub tally_is : (c : Comparison) (form : Form) (report : Option Kept) (text : List ℕ) → (comparing_after c form report text).tally ≡ tally_of no_frames (shown_in c form text)
tally_is c form report text = all_counted c (is_closed text) 1 (at_first c form report) (lines text)

-- ---- what is found at the frames

module _ (these : FrameKind → Findings → List Finding) where
  found_from : (c : Comparison) (progress : Progress) (receptions : Receptions) (notes : Notes) (lines : List LineRead)
      → picked these (shown_from c progress receptions notes lines) ≡ program_from_lines these c.subject c.rows progress receptions lines
  found_from c progress receptions notes [] = refl
  found_from c progress receptions notes (FrameIn number frame ∷ later) =
      ap (λ (l : List Finding). these (kind_at c frame) (findings_at c.subject c.rows progress frame.micros (kind_at c frame)) ++ l)
      (found_from c (progress_after c.subject c.rows progress receptions frame) (receptions_after c.subject c.rows progress receptions frame)
      (notes_with c.choices c.learned c.subject c.rows notes (kind_at c frame) (progress_with c.subject progress frame.micros (kind_at c frame))) later)
  found_from c progress receptions notes (BadLine name ∷ later) = found_from c (with_bad_line progress) receptions notes later

  pub picked_are : (c : Comparison) (form : Form) (text : List ℕ) → picked these (shown_in c form text) ≡ program_over_lines these c.subject c.rows (compared_frames c.interface form text)
  picked_are c form text = found_from c (before_recording c.subject) no_receptions nothing_noted (compared_frames c.interface form text)

  -- where no line between two frames is bad
  module _ (subject : Subject) (rows : List Row) where
    all_bad : (progress other : Progress) (receptions : Receptions) (lines : List LineRead) → AllByRecursion IsBad lines
        → program_from_lines these subject rows progress receptions lines ≡ program_from these subject rows other receptions (records_of lines)
    all_bad progress other receptions [] bad = refl
    all_bad progress other receptions (FrameIn number frame ∷ later) bad = absurd bad.0
    all_bad progress other receptions (BadLine name ∷ later) bad = all_bad (with_bad_line progress) other receptions later bad.1

    frame_first : (progress : Progress) (receptions : Receptions) (frame : Record) (number : ℕ) (later : List LineRead)
        → program_from_lines these subject rows (progress_after subject rows progress receptions frame) (receptions_after subject rows progress receptions frame) later
        ≡ program_from these subject rows (progress_after subject rows progress receptions frame) (receptions_after subject rows progress receptions frame) (records_of later)
        → program_from_lines these subject rows progress receptions (FrameIn number frame ∷ later) ≡ program_from these subject rows progress receptions (frame ∷ records_of later)
    frame_first progress receptions frame number later h =
        ap (λ (l : List Finding). these (what_is subject frame) (findings_at subject rows progress frame.micros (what_is subject frame)) ++ l) h

    ends_whole : (progress : Progress) (receptions : Receptions) (lines : List LineRead) → EndsWhole lines
        → program_from_lines these subject rows progress receptions lines ≡ program_from these subject rows progress receptions (records_of lines)
    ends_whole progress receptions [] ends = refl
    ends_whole progress receptions (FrameIn number frame ∷ later) ends =
        frame_first progress receptions frame number later (ends_whole (progress_after subject rows progress receptions frame) (receptions_after subject rows progress receptions frame) later ends)
    ends_whole progress receptions (BadLine name ∷ later) ends = all_bad (with_bad_line progress) progress receptions later ends

    pub whole_are : (lines : List LineRead) → IsWhole lines → program_over_lines these subject rows lines ≡ program_over these subject rows (records_of lines)
    whole_are [] whole = refl
    whole_are (FrameIn number frame ∷ later) whole =
        frame_first (before_recording subject) no_receptions frame number later
        (ends_whole (progress_after subject rows (before_recording subject) no_receptions frame) (receptions_after subject rows (before_recording subject) no_receptions frame) later whole)
    whole_are (BadLine name ∷ later) whole = whole_are later whole

-- ---- where all frames are of one interface

-- a frame that is compared, before others that all are
chosen_one : (b : Bool) (x : LineRead) (later chosen others : List LineRead) → b ≡ true → chosen ≡ later → (if b then x ∷ chosen else others) ≡ x ∷ later
chosen_one true x later chosen others is h = ap (λ (l : List LineRead). x ∷ l) h
chosen_one false x later chosen others is h = absurd (false≢true is)

named_from : (name : List ℕ) (first : ArrayVec ℕ) (frames : List LineRead) → AreAllOn name frames → chosen_frames (Some name) first frames ≡ frames
named_from name first [] all = refl
named_from name first (FrameIn number frame ∷ later) all =
    chosen_one (bytes_eq name frame.interface) (FrameIn number frame) later (chosen_frames (Some name) (first_with first frame.interface) later) (chosen_frames (Some name) first later)
    (ap (bytes_eq name) all.0 ∙ (bytes_eq-Decides name name).1 refl) (named_from name (first_with first frame.interface) later all.1)
named_from name first (BadLine named ∷ later) all =
    chosen_one (may_be_compared (Some name) first.items named) (BadLine named) later (chosen_frames (Some name) first later) (chosen_frames (Some name) first later)
    (named_one named all.0) (named_from name first later all.1)
  where
    named_one : (named : Option (List ℕ)) → IfSome named (λ other. other ≡ name) → may_be_compared (Some name) first.items named ≡ true
    named_one None is = refl
    named_one (Some other) is = (bytes_eq-Decides name other).1 (sym is)

pub all_named : (name : List ℕ) (form : Form) (text : List ℕ) → AreAllOn name (read_of_text form text) → compared_frames (Some name) form text ≡ read_of_text form text
all_named name form text all = named_from name (record { items = [] }) (read_of_text form text) all

-- no frame came, or one of this interface
abbrev BeginsOn : List ℕ → ArrayVec ℕ → Type 0
BeginsOn name first = is_first first.items || bytes_eq first.items name ≡ true

next_on : (name : List ℕ) (first : ArrayVec ℕ) (interface : List ℕ) → interface ≡ name → BeginsOn name first → BeginsOn name (first_with first interface)
next_on name first interface is on = by (is_first first.items) refl
  where
    or_true : (a b : Bool) → b ≡ true → a || b ≡ true
    or_true true b h = refl
    or_true false b h = h

    by : (b : Bool) → is_first first.items ≡ b → BeginsOn name (if b then record { items = interface } else first)
    by true begins = or_true (is_first interface) (bytes_eq interface name) ((bytes_eq-Decides interface name).1 is)
    by false begins = on

first_from : (name : List ℕ) (first : ArrayVec ℕ) (frames : List LineRead) → BeginsOn name first → AreAllOn name frames → chosen_frames None first frames ≡ frames
first_from name first [] on all = refl
first_from name first (FrameIn number frame ∷ later) on all =
    chosen_one (is_first first.items || bytes_eq first.items frame.interface) (FrameIn number frame) later (chosen_frames None (first_with first frame.interface) later) (chosen_frames None first later)
    (ap (λ (i : List ℕ). is_first first.items || bytes_eq first.items i) all.0 ∙ on) (first_from name (first_with first frame.interface) later (next_on name first frame.interface all.0 on) all.1)
first_from name first (BadLine named ∷ later) on all =
    chosen_one (may_be_compared None first.items named) (BadLine named) later (chosen_frames None first later) (chosen_frames None first later)
    (named_one named all.0) (first_from name first later on all.1)
  where
    named_one : (named : Option (List ℕ)) → IfSome named (λ other. other ≡ name) → may_be_compared None first.items named ≡ true
    named_one None is = refl
    named_one (Some other) is = ap (λ (i : List ℕ). is_first first.items || bytes_eq first.items i) is ∙ on

pub all_of_first : (name : List ℕ) (form : Form) (text : List ℕ) → AreAllOn name (read_of_text form text) → compared_frames None form text ≡ read_of_text form text
all_of_first name form text all = first_from name (record { items = [] }) (read_of_text form text) refl all
