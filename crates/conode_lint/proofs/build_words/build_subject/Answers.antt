use Rattle.std.proofs.Common.{ℕ, [], ◌∙◌, ap, get_or}
use Rattle.conode_lint.proofs.WordLemmas.{few_faults, ruled, subjects}
use Rattle.conode_lint.proofs.build_words.build_subject.Goals as goal

pub text_at-requires : goal.text_at-requires
text_at-requires c = rw c.row_of.ensures (few_faults c.args.fault)

pub returns : goal.returns
returns c = c.text_at.ensures ∙ ap (λ (n : ℕ). get_or subjects n []) c.row_of.ensures ∙ ruled c.args.fault
