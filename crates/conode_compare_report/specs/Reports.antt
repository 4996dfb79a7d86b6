-- What is kept of a comparison: line by line, frame by frame, and difference by difference.
use Rattle.std.specs.Prelude.{ℕ, ◌+◌, ◌-◌, ◌^◌, ◌==◌, min, nat_lt, Bool, true, if◌then◌else◌, List, [], ◌∷◌, ◌++◌, length, drop, Option, Some, None}
use Rattle.co_sheet.specs.Content.{Row}
use Rattle.conode_explain_transfers.specs.declared.channel.Heard.{Heard}
use Rattle.conode_explain_transfers.specs.Followed.{Following, after_boot, followed, nothing_heard}
use Rattle.conode_compare_text.specs.declared.details.Details.{Details}
use Rattle.conode_compare_nmt.specs.declared.finding.Finding.{Finding}
use Rattle.conode_compare_nmt.specs.declared.finding.NmtState.{NmtState}
use Rattle.conode_compare_rules.specs.declared.kind.FrameKind.{FrameKind}
use Rattle.conode_compare_rules.specs.declared.kind.FrameKind.TheVariants.{Control, OddControl, Sdo}
use Rattle.conode_compare_rules.specs.declared.verdict.Findings.{Findings}
use Rattle.conode_compare_report.specs.declared.before.Before.{Before}
use Rattle.conode_compare_report.specs.declared.kind.Kind.{Kind}
use Rattle.conode_compare_report.specs.declared.noted.Noted.{Noted}
use Rattle.conode_compare_report.specs.Befores.{rpdos_of}
use Rattle.conode_compare_report.specs.Contexts.{KeptLine}
use Rattle.conode_compare_report.specs.Counts.{one_more}
use Rattle.conode_compare_report.specs.Coverages.{coverage_with, lane_of, no_coverage}
use Rattle.conode_compare_report.specs.Kinds.{kind_of}
use Rattle.conode_compare_report.specs.Occasions.{counts_passed, counts_found, ended_in, frame_passed, is_free_since, no_counts}
use Rattle.conode_compare_report.specs.Spans.{bin_with, lanes_with, no_lanes}
use Rattle.conode_compare_report.specs.Views.{Kept}

unfoldable pub nothing_kept : List Row → ℕ → Kept
nothing_kept rows node = record {
  kinds = no_counts;
  noted = [];
  unlisted = 0;
  context = [];
  coverage = no_coverage (length rows);
  lanes = no_lanes;
  lines = 0;
  bad_lines = 0;
  begin = None;
  end = 0;
  recent = [];
  wanted = 0;
  channel = nothing_heard;
  control = None;
  rpdos = rpdos_of rows node;
}

-- ---- a line

abbrev pub line_of : ℕ → List ℕ → KeptLine
line_of number bytes = record { number = number; bytes = bytes }

-- of the lines before the next one the newest four
abbrev pub newest_with : List KeptLine → KeptLine → List KeptLine
newest_with recent line = (if nat_lt (length recent) 4 then recent else drop 1 recent) ++ line ∷ []

-- the next line of the recording: kept at once where it is wanted
abbrev pub line_kept : Kept → KeptLine → Kept
line_kept kept line =
    if nat_lt kept.wanted line.number then record kept { lines = line.number; recent = newest_with kept.recent line }
    else record kept { lines = line.number; context = kept.context ++ line ∷ [] }

unfoldable pub with_line : Kept → List ℕ → Kept
with_line kept bytes = line_kept kept (line_of (one_more kept.lines) bytes)

abbrev pub with_bad_line : Kept → Kept
with_bad_line kept = record kept { bad_lines = one_more kept.bad_lines }

-- ---- a frame

-- what is said of a frame on the device's SDO channel, and the channel after it; a boot-up ends what
-- is open
abbrev pub heard_of : Following → ℕ → FrameKind → Option Heard
heard_of channel micros (Sdo side frame) = Some (followed channel micros side frame.bytes).says
heard_of channel micros _ = None

abbrev pub channel_after : Following → ℕ → FrameKind → Following
channel_after channel micros (Sdo side frame) = (followed channel micros side frame.bytes).next
channel_after channel micros (Control byte) = if byte == 0 then after_boot channel else channel
channel_after channel micros _ = channel

abbrev pub one_of : Option Finding → ℕ
one_of None = 0
one_of (Some finding) = 1

-- how many differences are found at a frame
abbrev pub number_found : Findings → ℕ
number_found found = one_of found.boot + one_of found.heartbeat + one_of found.answer + one_of found.frame

abbrev pub begin_with : Option ℕ → ℕ → Option ℕ
begin_with None micros = Some micros
begin_with (Some begin) micros = Some begin

-- the stamp of the newest frame of error control
abbrev pub control_with : Option ℕ → ℕ → FrameKind → Option ℕ
control_with control micros (Control byte) = Some micros
control_with control micros (OddControl length) = Some micros
control_with control micros _ = control

-- a frame that is compared: what was known before it, the state that is known after it, when the bus was free last,
-- whether the end of a transfer is judged at it, and what is found
unfoldable pub with_frame : List Row → Kept → ℕ → FrameKind → Before → NmtState → ℕ → Bool → Findings → Kept
with_frame rows kept micros kind before state free judged found =
    let heard = heard_of kept.channel micros kind in
    record kept {
      kinds = frame_passed rows kind before (is_free_since kept.control free) heard judged found.verdict kept.kinds;
      coverage = coverage_with rows kind before.role state (ended_in heard) kept.coverage;
      lanes = lanes_with micros (bin_with state (lane_of kind before.role) (number_found found)) kept.lanes;
      begin = begin_with kept.begin micros;
      end = micros;
      channel = channel_after kept.channel micros kind;
      control = control_with kept.control micros kind;
    }

-- a frame could have shown a difference of this kind, and shows none
abbrev pub with_passed : Kept → Kind → Kept
with_passed kept kind = record kept { kinds = counts_passed true kind kept.kinds }

-- ---- a difference

-- so many are listed
abbrev pub most_listed : ℕ
most_listed = 10000

-- a difference in the newest line, which has this stamp; its text has these details
abbrev pub noted_at : List KeptLine → ℕ → ℕ → Details → Finding → Noted
noted_at context line micros details finding = record {
  line = line;
  micros = micros;
  finding = finding;
  details = details;
  first = length context - min line 4;
}

-- it is listed: the lines before it, and its own, are kept, and the next three are wanted
abbrev pub listed_in : List KeptLine → Kept → ℕ → Details → Finding → Kept
listed_in context kept micros details finding = record kept {
  noted = kept.noted ++ noted_at context kept.lines micros details finding ∷ [];
  context = context;
  recent = [];
  wanted = min (kept.lines + 3) (2 ^ 64 - 1);
}

abbrev pub if_listed : Kept → ℕ → Details → Finding → Kept
if_listed kept micros details finding =
    if nat_lt (length kept.noted) most_listed then listed_in (kept.context ++ kept.recent) kept micros details finding
    else record kept { unlisted = one_more kept.unlisted }

unfoldable pub with_finding : Kept → ℕ → Details → Finding → Kept
with_finding kept micros details finding =
    if_listed (record kept { kinds = counts_found (kind_of finding) kept.kinds }) micros details finding
