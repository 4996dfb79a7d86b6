use Rattle.std.proofs.lemmas.List.{drop_all}
use Rattle.conode_lint_text.proofs.lists.listed_in.Goals as goal

pub returns : goal.returns
returns c = rw (drop_all c.loop-property.property-index c.args.properties.now c.loop-property-test.false) at c.loop-property.invariant
