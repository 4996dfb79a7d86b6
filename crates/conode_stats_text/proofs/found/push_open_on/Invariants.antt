use Rattle.std.proofs.Common.{take}
use Rattle.std.specs.List.{flat_map}
use Rattle.conode_stats_text.specs.Findings.{IsListed}
use Rattle.conode_stats_text.specs.Found.{open_found_on}
use Rattle.conode_stats_text.proofs.found.push_open_on.Given as goal

abbrev pub invariant-loop-track : goal.invariant-loop-track
invariant-loop-track l = IsListed l.fn.paper l.fn.excerpt (flat_map (open_found_on l.bus) (take l.track-index l.bus.transfers.channels)) l.paper l.excerpt
