-- One part after another.
use Rattle.conode_json.proofs.Appending.{both}
use Rattle.conode_compare_documents.specs.JunitCases.{failed_markup, failure_begin, lines_markup}
use Rattle.conode_compare_documents.proofs.junit_cases.push_failed.Goals as goal

pub returns : goal.returns
unfolding failed_markup failure_begin lines_markup
returns c =
    both (both (rw (c.name-kind.ensures, c.rule.ensures) at c.put.ensures) (both c.push_own_lines-count.ensures.lines (rw (c.saturating_sub.ensures, c.push_own_lines-count.ensures.count) at c.push_more.ensures)))
    c.put_words.ensures
