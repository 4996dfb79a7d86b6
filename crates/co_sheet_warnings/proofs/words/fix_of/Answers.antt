use Rattle.std.proofs.Common.{ℕ, [], ◌∙◌, ap, get_or}
use Rattle.co_sheet_warnings.proofs.WordLemmas.{few_rows, fixed, fixes}
use Rattle.co_sheet_warnings.proofs.words.fix_of.Goals as goal

pub text_at-requires : goal.text_at-requires
text_at-requires c = rw c.row.ensures (few_rows c.args.kind)

pub returns : goal.returns
returns c = c.text_at.ensures ∙ ap (λ (n : ℕ). get_or fixes n []) c.row.ensures ∙ fixed c.args.kind
