use Rattle.std.proofs.Common.{[], ◌∷◌, ◌++◌}
use Rattle.json.specs.Print.{print}
use Rattle.conode_json.proofs.DocumentLaws.{ended_as}
use Rattle.conode_json.specs.Members.{number_member, text_member}
use Rattle.conode_show.specs.JsonForm.{json_reason, reason_tokens}
use Rattle.conode_show.proofs.json_form.json_reason.Goals as goal

pub returns : goal.returns
unfolding json_reason reason_tokens number_member text_member
returns c = ended_as c.into_text.result (λ tokens. print tokens ++ 10 ∷ []) (λ text. text.items) c.new-document.ensures c.put.ensures c.into_text.ensures
