use Rattle.std.proofs.Common.{◌≤◌, ◌+◌, length}
use Rattle.co_sheet_text.specs.SectionsKept.{sections_kept}
use Rattle.co_sheet_text.proofs.ReadLemmas.{ReadsOn}
use Rattle.co_sheet_text.proofs.pass.take_lines_in_spite.Given as goal

-- what is read so far and what the rest gives is what the whole gives
abbrev pub invariant-loop-line : goal.invariant-loop-line
invariant-loop-line l = record {
  reads : ReadsOn l.text (sections_kept l.sections.closed.items l.sections.current) l.faults.items l.number l.rest;
  few : l.number + length l.rest ≤ 1048577;
}

abbrev pub decreases-loop-line : goal.decreases-loop-line
decreases-loop-line l = length l.rest
