-- How a line is counted.
use Rattle.std.specs.Prelude.{ℕ, ◌+◌}
use Rattle.conode_trace.specs.declared.timed_line.TimedLine.{TimedLine}
use Rattle.conode_trace.specs.declared.trace_line.TraceLine.{TraceLine}
use Rattle.conode_trace.specs.declared.trace_line.TraceLine.TheVariants.{Data}
use Rattle.conode_device.specs.declared.totals.Totals.{Totals}

-- the number of frames that a line hands to the device: 1 for a data frame
abbrev pub handed_in : TraceLine → ℕ
handed_in (Data stamp content) = 1
handed_in other = 0

-- the totals after one line more, whose inputs printed so many frames
abbrev pub counted : Totals → TimedLine → ℕ → Totals
counted totals t printed = record {
  handed = totals.handed + handed_in t.said;
  printed = totals.printed + printed;
  ticks = totals.ticks + t.ticks;
}

-- the sum of the totals, which bounds each
abbrev pub room_taken : Totals → ℕ
room_taken totals = totals.handed + totals.printed + totals.ticks
