use Rattle.std.proofs.lemmas.List.{drop_all}
use Rattle.co_sheet_warnings.proofs.sub_indices.highest_of.Goals as goal

pub returns : goal.returns
returns c = rw (drop_all c.loop-part.part-index c.args.parts.now c.loop-part-test.false) at c.loop-part.invariant
