use Rattle.std.proofs.Common.{◌≡◌, take}
use Rattle.std.specs.List.{sum_by}
use Rattle.conode_stats_counts.specs.Gaps.{counted}
use Rattle.conode_stats_text.specs.Findings.{error_frames_of}
use Rattle.conode_stats_text.proofs.finding.error_frames.Given as goal

abbrev pub invariant-loop-row : goal.invariant-loop-row
invariant-loop-row l = l.count ≡ counted (sum_by error_frames_of (take l.row-index l.rows))
