-- Those of the entries so far that are in the area are noted.
use Rattle.std.proofs.Common.{◌≡◌}
use Rattle.std.specs.Prelude.{drop}
use Rattle.bafokun.specs.Changes.{with_area}
use Rattle.bafokun.proofs.changes.note_area.Given as goal

abbrev pub invariant-loop-number : goal.invariant-loop-number
invariant-loop-number l =
    with_area l.area (drop l.number l.entries) l.number l.changes ≡ with_area l.area l.entries 0 l.fn.changes
