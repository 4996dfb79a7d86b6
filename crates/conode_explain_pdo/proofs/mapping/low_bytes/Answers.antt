use Rattle.std.proofs.Common.{◌∙◌, ap, take}
use Rattle.conode_explain_pdo.proofs.Parts.{take_low}
use Rattle.conode_explain_pdo.proofs.mapping.low_bytes.Goals as goal

pub returns : goal.returns
returns c =
    c.truncate.ensures.items ∙ ap (take c.args.count) (c.from-bytes.ensures.0 ∙ c.to_le_bytes.ensures)
    ∙ take_low 0 c.args.count 8 c.args.number c.requires
