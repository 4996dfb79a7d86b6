use Rattle.std.proofs.Common.{take}
use Rattle.std.specs.List.{flat_map}
use Rattle.conode_stats_text.specs.Findings.{IsListed}
use Rattle.conode_stats_text.specs.Found.{found_on}
use Rattle.conode_stats_text.proofs.found.push_kind.Given as goal

abbrev pub invariant-loop-bus : goal.invariant-loop-bus
invariant-loop-bus l = IsListed l.fn.paper l.fn.excerpt (flat_map (found_on l.kind l.page.sheets.now) (take l.bus-index l.page.counts.now.buses)) l.paper l.excerpt
