use Rattle.std.proofs.Common.{ℕ, [], ◌∙◌, ap, get_or}
use Rattle.conode_lint.proofs.ReasonWordLemmas.{few_reasons, meant, meanings}
use Rattle.conode_lint.proofs.mapping_words.mapping_meaning.Goals as goal

pub text_at-requires : goal.text_at-requires
text_at-requires c = rw c.row.ensures (few_reasons c.args.reason)

pub returns : goal.returns
returns c = c.text_at.ensures ∙ ap (λ (n : ℕ). get_or meanings n []) c.row.ensures ∙ meant c.args.reason
