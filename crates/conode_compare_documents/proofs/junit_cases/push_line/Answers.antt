use Rattle.conode_compare_documents.specs.JunitCases.{line_markup}
use Rattle.conode_compare_documents.proofs.junit_cases.push_line.Goals as goal

pub returns-in-Ok : goal.returns-in-Ok
unfolding line_markup
returns-in-Ok c = rw (c.as_str.ensures.value, c.in-Ok.ensures) at c.put.ensures
