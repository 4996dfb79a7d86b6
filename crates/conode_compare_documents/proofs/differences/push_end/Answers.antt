use Rattle.std.proofs.Common.{◌≡◌, ◌==◌, false, arith}
use Rattle.std.proofs.lemmas.Bool.Decides.{nat_tests}
use Rattle.conode_compare_documents.proofs.differences.push_end.Goals as goal

pub returns : goal.returns
returns c = let other : (c.args.unlisted == 0) ≡ false = grind (arith, nat_tests) in rw other c.put.ensures
