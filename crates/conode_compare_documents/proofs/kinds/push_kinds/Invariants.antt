use Rattle.std.proofs.Common.{take}
use Rattle.std.specs.List.{flat_map}
use Rattle.conode_json.specs.Appended.{Appended}
use Rattle.conode_compare_documents.specs.Coverage.{kind_row}
use Rattle.conode_compare_documents.proofs.kinds.push_kinds.Given as goal

abbrev pub invariant-loop-counted : goal.invariant-loop-counted
invariant-loop-counted l = Appended l.initial.page (flat_map kind_row (take l.counted-index l.kinds)) l.page
