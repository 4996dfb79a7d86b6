-- One section after another.
use Rattle.std.specs.Prelude.{string_bytes}
use Rattle.conode_compare_documents.specs.Page.{page}
use Rattle.conode_json.proofs.Appending.{both, ended}
use Rattle.conode_compare_documents.proofs.page_text.page.Goals as goal

pub returns : goal.returns
unfolding page
returns c =
    ended c.into_text.result string_bytes c.new-markup.ensures
    (both (both (both (both (both (rw (c.headline_number.ensures, c.headline_words.ensures, c.outcome_class.ensures, c.reason.ensures, c.of-outcome.ensures, c.difference_count-count.ensures) at c.push_head.ensures) c.push_device.ensures) c.push_differences.ensures)
    c.push_picture.ensures) c.push_coverage.ensures) c.push_foot.ensures) c.into_text.ensures
