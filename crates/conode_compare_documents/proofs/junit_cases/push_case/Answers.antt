use Rattle.std.proofs.Common.{◌≡◌, nat_lt, false, arith}
use Rattle.std.proofs.lemmas.Bool.Decides.{nat_tests}
use Rattle.conode_compare_documents.specs.JunitCases.{passed_markup}
use Rattle.conode_compare_documents.proofs.junit_cases.push_case.Goals as goal

pub returns : goal.returns
unfolding passed_markup
returns c =
    let none : nat_lt 0 c.args.counted.found ≡ false = grind (arith, nat_tests) in
    rw none (rw c.name.ensures at c.put.ensures)
