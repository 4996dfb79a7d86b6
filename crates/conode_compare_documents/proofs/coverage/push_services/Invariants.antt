use Rattle.std.proofs.Common.{take}
use Rattle.std.specs.List.{flat_map}
use Rattle.conode_json.specs.Appended.{Appended}
use Rattle.conode_compare_documents.specs.Coverage.{service_item}
use Rattle.conode_compare_documents.proofs.coverage.push_services.Given as goal

abbrev pub invariant-loop-served : goal.invariant-loop-served
invariant-loop-served l = Appended l.initial.page (flat_map service_item (take l.served-index l.services)) l.page
