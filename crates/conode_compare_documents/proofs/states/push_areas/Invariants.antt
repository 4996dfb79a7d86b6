-- Where what the spans that are left give comes next, all is there.
use Rattle.std.proofs.Common.{ℕ, List, Option, drop}
use Rattle.conode_json.specs.Appended.{Appended}
use Rattle.conode_compare_documents.specs.declared.states.Shown.TheVariants.{Nothing}
use Rattle.conode_compare_documents.specs.Picture.{areas}
use Rattle.conode_compare_documents.proofs.states.push_areas.Given as goal

abbrev pub invariant-loop-at : goal.invariant-loop-at
invariant-loop-at l =
    (end : Option (List ℕ)) → Appended l.page (areas l.shown l.from l.at (drop l.at l.bins)) end → Appended l.fn.page (areas Nothing 0 0 l.bins) end
