-- Where what the spans that are left give comes next, all is there.
use Rattle.std.proofs.Common.{ℕ, List, Option, drop}
use Rattle.conode_json.specs.Appended.{Appended}
use Rattle.conode_compare_documents.specs.Picture.{outline}
use Rattle.conode_compare_documents.proofs.lane.push_outline.Given as goal

abbrev pub invariant-loop-at : goal.invariant-loop-at
invariant-loop-at l =
    (end : Option (List ℕ)) → Appended l.page (outline l.lane l.at l.before (drop l.at l.bins)) end → Appended l.fn.page (outline l.lane 0 100 l.bins) end
