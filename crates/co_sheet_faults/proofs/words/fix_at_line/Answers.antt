use Rattle.std.proofs.Common.{ℕ, [], ◌∙◌, ap, get_or}
use Rattle.co_sheet_faults.proofs.WordLemmas.{few_kinds, fixed, fixes}
use Rattle.co_sheet_faults.proofs.words.fix_at_line.Goals as goal

pub text_at-requires : goal.text_at-requires
text_at-requires c = rw c.number.ensures (few_kinds c.args.kind)

pub returns : goal.returns
returns c = c.text_at.ensures ∙ ap (λ (n : ℕ). get_or fixes n []) c.number.ensures ∙ fixed c.args.kind
