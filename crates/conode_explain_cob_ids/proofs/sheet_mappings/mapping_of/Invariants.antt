use Rattle.std.proofs.Common.{◌≡◌, drop}
use Rattle.conode_explain_cob_ids.specs.SheetMappings.{mapping_of}
use Rattle.conode_explain_cob_ids.proofs.sheet_mappings.mapping_of.Given as goal

-- it is none of those so far
abbrev pub invariant-loop-pdo : goal.invariant-loop-pdo
invariant-loop-pdo l = mapping_of (drop l.pdo-index l.pdos) l.index ≡ mapping_of l.pdos l.index
