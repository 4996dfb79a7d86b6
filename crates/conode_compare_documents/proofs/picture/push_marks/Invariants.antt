use Rattle.std.proofs.Common.{ℕ, List, Option, drop}
use Rattle.conode_json.specs.Appended.{Appended}
use Rattle.conode_compare_documents.specs.Indexed.{indexed}
use Rattle.conode_compare_documents.specs.Picture.{difference_mark}
use Rattle.conode_compare_documents.proofs.picture.push_marks.Given as goal

abbrev pub invariant-loop-at : goal.invariant-loop-at
invariant-loop-at l = (end : Option (List ℕ)) → Appended l.page (indexed (difference_mark l.lanes) l.at (drop l.at l.noted)) end → Appended l.fn.page (indexed (difference_mark l.lanes) 0 (l.noted)) end
