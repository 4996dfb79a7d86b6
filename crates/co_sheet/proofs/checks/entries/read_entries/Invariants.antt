use Rattle.std.proofs.Common.{◌≡◌, ◌++◌, None, drop, map}
use Rattle.co_sheet.specs.Content.{row_of}
use Rattle.co_sheet.specs.private.Findings.{sooner, soonest}
use Rattle.co_sheet.specs.private.EntryReadings.{entry_finding, entry_rows}
use Rattle.co_sheet.specs.SectionViews.{entry_view}
use Rattle.co_sheet.proofs.checks.entries.read_entries.Given as goal

-- what is found first so far or in the rest is found first in all; where nothing is found, the rows so far and those
-- of the rest are all
abbrev pub invariant-loop-entry : goal.invariant-loop-entry
invariant-loop-entry l = record {
  found : sooner l.first (soonest entry_finding (map entry_view (drop l.entry-index l.entries))) ≡ soonest entry_finding (map entry_view l.entries);
  rows : l.first ≡ None → entry_rows l.rows.items ++ map row_of (map entry_view (drop l.entry-index l.entries)) ≡ entry_rows l.initial.rows.items ++ map row_of (map entry_view l.entries);
}
