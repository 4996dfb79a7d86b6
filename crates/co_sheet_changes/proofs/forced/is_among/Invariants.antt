use Rattle.std.proofs.Common.{◌≡◌, drop}
use Rattle.co_sheet_changes.specs.Forced.{is_among}
use Rattle.co_sheet_changes.proofs.forced.is_among.Given as goal

-- what the rest has is what all have
abbrev pub invariant-loop-mapping : goal.invariant-loop-mapping
invariant-loop-mapping l = is_among (drop l.mapping-index l.mappings) l.index ≡ is_among l.mappings l.index
