use Rattle.std.proofs.Common.{[], sym}
use Rattle.std.proofs.lemmas.List.{get_or-map}
use Rattle.co_sheet_warnings.proofs.words.text_at.Goals as goal

pub returns : goal.returns
returns c = sym (get_or-map (λ text. text.now) c.args.texts.now c.args.row _ [] c.requires)
