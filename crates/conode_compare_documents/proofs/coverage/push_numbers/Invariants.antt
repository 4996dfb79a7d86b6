use Rattle.std.proofs.Common.{take}
use Rattle.std.specs.List.{flat_map}
use Rattle.conode_json.specs.Appended.{Appended}
use Rattle.conode_compare_documents.specs.Coverage.{numbered_item}
use Rattle.conode_compare_documents.proofs.coverage.push_numbers.Given as goal

abbrev pub invariant-loop-numbered : goal.invariant-loop-numbered
invariant-loop-numbered l = Appended l.initial.page (flat_map (numbered_item l.listed) (take l.numbered-index l.numbers)) l.page
