use Rattle.std.proofs.Common.{[], ◌∷◌, ◌++◌}
use Rattle.json.specs.Print.{print}
use Rattle.conode_json.proofs.DocumentLaws.{ended_as}
use Rattle.conode_show.specs.JsonForm.{json_document}
use Rattle.conode_show.proofs.json_form.json_document.Goals as goal

pub returns : goal.returns
unfolding json_document
returns c = ended_as c.into_text.result (λ tokens. print tokens ++ 10 ∷ []) (λ text. text.items) c.new-document.ensures c.put_document.ensures c.into_text.ensures
