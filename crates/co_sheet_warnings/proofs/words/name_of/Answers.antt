use Rattle.std.proofs.Common.{ℕ, [], ◌∙◌, ap, get_or}
use Rattle.co_sheet_warnings.proofs.WordLemmas.{few_rows, named, names}
use Rattle.co_sheet_warnings.proofs.words.name_of.Goals as goal

pub text_at-requires : goal.text_at-requires
text_at-requires c = rw c.row.ensures (few_rows c.args.kind)

pub returns : goal.returns
returns c = c.text_at.ensures ∙ ap (λ (n : ℕ). get_or names n []) c.row.ensures ∙ named c.args.kind
