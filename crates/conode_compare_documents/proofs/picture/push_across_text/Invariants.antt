use Rattle.std.proofs.Common.{ℕ, List, Option, drop}
use Rattle.conode_json.specs.Appended.{Appended}
use Rattle.conode_compare_documents.specs.Indexed.{indexed}
use Rattle.conode_compare_documents.specs.Picture.{across}
use Rattle.conode_compare_documents.proofs.picture.push_across_text.Given as goal

abbrev pub invariant-loop-at : goal.invariant-loop-at
invariant-loop-at l = (end : Option (List ℕ)) → Appended l.page (indexed across l.at (drop l.at l.bins)) end → Appended l.fn.page (indexed across 0 (l.bins)) end
